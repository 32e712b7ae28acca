-- The commit of an append is a turn that adds a snapshot.
use Rattle.std.proofs.Common.{◌≡◌, ◌<◌, ◌≤◌, ◌+◌, ◌^◌, ℕ, suc, cond, List, ◌++◌, map, Option, Some, None, is_some, IsSome, false, Ok, Result, refl, sym, ap, ◌∙◌, subst, arith, inl, inr}
use Rattle.std.proofs.lemmas.Slice.Eq.{bytes_eq-Decides}
use Rattle.serde_json.specs.Data.{Data}
use Rattle.icb_base.specs.Objects.{Grows, Objects, object_at, with_object}
use Rattle.icb_base.proofs.LawLemmas.{object_at-with_object, put_grows}
use Rattle.icb_chain.specs.Opening.{kek_of, table_of}
use Rattle.icb_chain.specs.Ring.{Ring}
use Rattle.icb_list.specs.declared.row.ListRow.{ListRow}
use Rattle.icb_meta.specs.Answers.{shown_of}
use Rattle.icb_meta.specs.Shown.{meta_of}
use Rattle.icb_meta.specs.declared.fields.Fields.{Fields}
use Rattle.icb_rows.specs.Records.{row_from}
use Rattle.icb_table.specs.Listed.{Listed}
use Rattle.icb_table.specs.Standing.{IsLast, ShowsMeta, Stands}
use Rattle.icb_table.specs.Table.{IsInTable, IsTable, Table, rows_asked}
use Rattle.icb_table.proofs.TableLemmas.{table_when_grown}
use Rattle.icb_tree.specs.Versions.{version_path}
use Rattle.icb_turns.specs.Turns.{IsTurn, adds_snapshot}
use Rattle.icb_turns.proofs.GrownLemmas.{put_is_last, was_in_table}
use Rattle.icb_append.specs.Drafts.{columns_for}
use Rattle.icb_append.specs.Keeping.{AreUnlisted, HoldsAppend, own_paths}
use Rattle.icb_append.specs.Laws.{CommitIsTurn, IsCommit}
use Rattle.icb_append.specs.declared.draft.Draft.{Draft}
use Rattle.icb_append.specs.declared.tried.Tried.{Tried}
use Rattle.icb_append.proofs.CommitLemmas.{wrapper_opens}
use Rattle.icb_append.proofs.CommittedLemmas.{id_is_new, in_cases, is_table_now, own_path, prefixes_now}
use Rattle.icb_append.proofs.CommittedLemmas as committed
use Rattle.icb_append.proofs.GrowthLemmas.{append_kept}

-- ---- versions

-- a version that shows metadata, behind which none is held, is the last
pub is_the_last : (files : Objects) (version : ℕ) (meta : Fields) (last : ℕ) → version < 1000000 → ShowsMeta files (version_path version) meta
    → object_at files (version_path (version + 1)) ≡ None → IsLast files last → version ≡ last
is_the_last files version meta last few shows free is =
    let held : IsSome (object_at files (version_path version)) = ap is_some shows.held in
    let within = (is.held version (omega (arith, few))).0 held in
    let not_next : version + 1 ≤ last → ⊥ = (λ le.
    let there = (is.held (version + 1) (omega (arith, few))).1 (omega arith, le) in
    let empty : is_some (object_at files (version_path (version + 1))) ≡ false = ap is_some free in
    let g : ⊥ = cc in g) in
    omega (arith, within.1, not_next)

-- the version behind the last one, once it is put, is the last
next_is_last : (files : Objects) (last : ℕ) (bytes : List ℕ) → IsLast files last → last + 1 < 2 ^ 64
    → IsLast (with_object files (version_path (last + 1)) bytes) (last + 1)
next_is_last files last bytes is small =
    let e : suc last ≡ last + 1 = omega arith in
    subst (λ n. IsLast (with_object files (version_path n) bytes) n) e
    (put_is_last files last bytes is (omega (arith, small)))

-- what was put is held
put_held : (files : Objects) (path bytes : List ℕ) → object_at (with_object files path bytes) path ≡ Some bytes
put_held files path bytes =
    object_at-with_object files path bytes path
    ∙ ap (λ b. cond b (Some bytes) (object_at files path)) ((bytes_eq-Decides path path).1 refl)

-- an object shows one metadata
pub shown_once : (files : Objects) (path : List ℕ) (one two : Fields) → ShowsMeta files path one → ShowsMeta files path two → one ≡ two
shown_once files path one two a b =
    let same : Some a.bytes ≡ Some b.bytes = sym a.held ∙ b.held in
    let bytes : a.bytes ≡ b.bytes = cc in
    ap (λ p. p.1) (ok_is (a.json, one) (b.json, two) (sym a.shows ∙ ap meta_of bytes ∙ b.shows))
  where
    ok_is : (x y : Data × Fields) → ◌≡◌ {A = Result (Data × Fields) (List ℕ)} (Ok x) (Ok y) → x ≡ y
    ok_is x y h = cc

-- ---- the put

module _ (files : Objects) (ring : Ring) (table : Table) (made tried : Tried) (draft : Draft) (manifest : Option ListRow) (attempt : ℕ) (text : List ℕ)
    (stands : Stands files (shown_of tried.meta) ring table) (is : IsCommit files (shown_of tried.meta) ring made tried draft manifest attempt text) where
  abbrev meta : Fields
  meta = shown_of tried.meta

  abbrev files_now : Objects
  files_now = with_object files (version_path (tried.version + 1)) text

  grows : Grows files files_now
  grows = put_grows files (version_path (tried.version + 1)) text is.free

  was_listed : (f : Listed) → IsInTable files_now meta ring f → IsInTable files meta ring f
  was_listed f h = was_in_table files files_now meta ring table f grows stands.is_table h

  abbrev held : HoldsAppend files_now ring made tried draft manifest is.parent attempt is.list
  held = append_kept files files_now grows ring made tried draft manifest is.parent attempt is.list is.held

  abbrev table_grown : IsTable files_now meta ring table
  table_grown = table_when_grown files files_now meta ring table grows stands.is_table

  abbrev opens : kek_of (table_of meta.state) ring tried.wrapper.id ≡ Ok tried.wrapper.key
  opens = wrapper_opens meta ring tried.version is.rows tried.wrapper is.is_tried.0

  abbrev meta_now : Fields
  meta_now = committed.meta_now files_now ring table made tried draft manifest is.parent attempt is.list held is.values table_grown is.is_next.entry is.nonce is.now is.is_next.is_entry opens

  abbrev Unlisted : Type 0
  Unlisted = AreUnlisted (own_paths draft manifest tried attempt) files_now meta ring

  unlisted : Unlisted
  unlisted f h at = is.unlisted f (was_listed f h) at

  is_last : tried.version ≡ stands.last
  is_last = is_the_last files tried.version meta stands.last tried.ready.few is.shows is.free stands.is_last

  stands_now : Stands files_now meta_now ring (committed.table_now files_now ring table made tried draft manifest is.parent attempt is.list held is.values table_grown is.is_next.entry is.nonce is.now is.is_next.is_entry opens)
  stands_now = record {
    last = tried.version + 1;
    is_last = next_is_last files tried.version text (subst (IsLast files) (sym is_last) stands.is_last)
        (let few : tried.version < 1000000 = tried.ready.few in omega (arith, few));
    current = record {
      bytes = text;
      held = put_held files (version_path (tried.version + 1)) text;
      json = _;
      shows = is.is_next.shows;
    };
    is_table = is_table_now files_now ring table made tried draft manifest is.parent attempt is.list held is.values table_grown is.is_next.entry is.nonce is.now is.is_next.is_entry opens
        unlisted (λ f h own. stands.own_prefixes f (was_listed f h) own);
    own_prefixes = prefixes_now files_now ring table made tried draft manifest is.parent attempt is.list held is.values table_grown is.is_next.entry is.nonce is.now is.is_next.is_entry opens
        unlisted (λ f h own. stands.own_prefixes f (was_listed f h) own);
  }

  old_turn : IsTurn (own_paths draft manifest tried attempt) ring files meta files_now table
      (adds_snapshot tried.id (rows_asked table meta.state.current ++ map (row_from (columns_for tried)) draft.rows))
  old_turn = record {
    puts = inr (record { path = version_path (tried.version + 1); bytes = text; may_be = inr (tried.version + 1, refl); free = is.free; put = refl });
    is_new = id_is_new files_now ring table made tried draft manifest is.parent attempt is.list held is.values table_grown is.is_next.entry is.nonce is.now is.is_next.is_entry opens;
    meta = meta_now;
    after = record { location = refl; layout = refl; current = refl };
    lists = λ f h. elim (in_cases files_now ring table made tried draft manifest is.parent attempt is.list held is.values table_grown is.is_next.entry is.nonce is.now is.is_next.is_entry opens f h) [
      | inl old ↦ inl (was_listed f old)
      | inr own ↦ inr (own_path files_now ring table made tried draft manifest is.parent attempt is.list held is.values table_grown is.is_next.entry is.nonce is.now is.is_next.is_entry opens f own)
    ];
    stands = stands_now;
  }

pub commit_is_turn : CommitIsTurn
commit_is_turn files meta ring table made tried draft manifest attempt text stands is =
    let last = is_the_last files tried.version (shown_of tried.meta) stands.last tried.ready.few is.shows is.free stands.is_last in
    let same : meta ≡ shown_of tried.meta = shown_once files (version_path tried.version) meta (shown_of tried.meta)
    (subst (λ n. ShowsMeta files (version_path n) meta) (sym last) stands.current) is.shows in
    let Turn = λ (m : Fields). IsTurn (own_paths draft manifest tried attempt) ring files m (with_object files (version_path (tried.version + 1)) text) table
    (adds_snapshot tried.id (rows_asked table m.state.current ++ map (row_from (columns_for tried)) draft.rows)) in
    subst Turn (sym same)
    (old_turn files ring table made tried draft manifest attempt text (subst (λ m. Stands files m ring table) same stands)
    (subst (λ m. IsCommit files m ring made tried draft manifest attempt text) same is))
