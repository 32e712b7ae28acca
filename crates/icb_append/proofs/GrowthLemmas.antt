-- What a store holds of an append it holds as it grows.
use Rattle.std.proofs.Common.{ℕ, suc, ℤ, List, [], ◌∷◌, map, Option, Some, None, ap, ◌∙◌}
use Rattle.icb_base.specs.KeyMetadata.{KeyRecord}
use Rattle.icb_base.specs.Objects.{Grows, Objects}
use Rattle.icb_chain.specs.Ring.{Ring}
use Rattle.icb_list.specs.declared.row.ListRow.{ListRow}
use Rattle.icb_manifest.specs.declared.entry.Entry.{Entry}
use Rattle.icb_meta.specs.declared.fields.Fields.{Fields}
use Rattle.icb_table.specs.Contents.{plaintexts_in}
use Rattle.icb_table.specs.Listed.{Listed}
use Rattle.icb_table.specs.Snapshots.{columns_of}
use Rattle.icb_table.specs.Table.{contents_in}
use Rattle.icb_table.proofs.KnownLemmas.{plaintexts_grown}
use Rattle.icb_table.proofs.TreeLemmas.{contents_extend}
use Rattle.icb_written.specs.Laws.{ShowsAll}
use Rattle.icb_append.specs.Keeping.{AreParentRows, HoldsAppend, HoldsDraft, HoldsFile, HoldsFiles, HoldsList, HoldsManifest}
use Rattle.icb_append.specs.declared.draft.Draft.{Draft}
use Rattle.icb_append.specs.declared.tried.Tried.{Tried}

module _ (before now : Objects) (grows : Grows before now) where
  pub file_kept : (made : Tried) (draft : Draft) (number : ℕ) (e : Entry) → HoldsFile before made draft number e → HoldsFile now made draft number e
  file_kept made draft number e h = record {
    key = h.key;
    marker = h.marker;
    object = h.object;
    meta = h.meta;
    fresh = h.fresh;
    may = h.may;
    is_object = h.is_object;
    is_entry = h.is_entry;
    held = grows.stays _ h.object h.held;
  }

  pub files_kept : (made : Tried) (draft : Draft) (number : ℕ) (es : List Entry) → HoldsFiles before made draft number es → HoldsFiles now made draft number es
  files_kept made draft number [] h = tt
  files_kept made draft number (e ∷ es) h = (file_kept made draft number e h.0, files_kept made draft (suc number) es h.1)

  pub manifest_kept : (made : Tried) (draft : Draft) (row : ListRow) → HoldsManifest before made draft row → HoldsManifest now made draft row
  manifest_kept made draft row h = record {
    key = h.key;
    marker = h.marker;
    object = h.object;
    meta = h.meta;
    fresh = h.fresh;
    may = h.may;
    is_sealed = h.is_sealed;
    is_row = h.is_row;
    held = grows.stays _ h.object h.held;
  }

  pub list_kept : (tried : Tried) (unique : List ℕ) (attempt : ℕ) (rows : List ListRow) (list : KeyRecord) → HoldsList before tried unique attempt rows list
      → HoldsList now tried unique attempt rows list
  list_kept tried unique attempt rows list h = record {
    key = h.key;
    marker = h.marker;
    object = h.object;
    fresh = h.fresh;
    may = h.may;
    is_sealed = h.is_sealed;
    held = grows.stays _ h.object h.held;
  }

  pub draft_kept : (made : Tried) (draft : Draft) (m : Option ListRow) → HoldsDraft before made draft m → HoldsDraft now made draft m
  draft_kept made draft None h = h
  draft_kept made draft (Some row) h = record {
    data_files = files_kept made draft 0 draft.entries h.data_files;
    all = h.all;
    manifest = manifest_kept made draft row h.manifest;
  }

  rows_kept : (meta : Fields) (list : Listed) (rows : List ListRow) → ShowsAll ((contents_in meta before).list_rows list) rows → ShowsAll ((contents_in meta now).list_rows list) rows
  rows_kept meta list rows h =
      let same = (contents_extend (columns_of meta) (plaintexts_in before) (plaintexts_in now) (plaintexts_grown before now grows)).list_rows list h.all in
      record { all = ap (λ t. t.stop) same ∙ h.all; same = ap (λ t. map (λ r. r.1) t.items) same ∙ h.same }

  pub parent_kept : (meta : Fields) (ring : Ring) (current : Option ℤ) (rows : List ListRow) → AreParentRows before meta ring current rows → AreParentRows now meta ring current rows
  parent_kept meta ring None rows h = h
  parent_kept meta ring (Some id) rows h = (h.0, h.1, rows_kept meta h.0 rows h.2)

  -- all that it commits
  pub append_kept : (ring : Ring) (made tried : Tried) (draft : Draft) (m : Option ListRow) (parent : List ListRow) (attempt : ℕ) (list : KeyRecord)
      → HoldsAppend before ring made tried draft m parent attempt list → HoldsAppend now ring made tried draft m parent attempt list
  append_kept ring made tried draft m parent attempt list h = record {
    same_place = h.same_place;
    same_layout = h.same_layout;
    are_parent = parent_kept _ ring _ parent h.are_parent;
    draft_held = draft_kept made draft m h.draft_held;
    list_held = list_kept tried draft.unique attempt _ list h.list_held;
  }
