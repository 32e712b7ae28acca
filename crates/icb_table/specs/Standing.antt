-- When a store stands: its versions are there without a gap, and the last one's metadata and its
-- objects hold a table (ours: docs/FORMATS.md, "Versions").
use Rattle.std.specs.Prelude.{◌≡◌, ◌<◌, ◌≤◌, ◌^◌, ◌↔◌, ℕ, List, Some, IsSome}
use Rattle.std.specs.Prelude.{IsTrue, Ok}
use Rattle.serde_json.specs.Data.{Data}
use Rattle.icb_base.specs.Objects.{Objects, object_at}
use Rattle.icb_base.specs.Paths.{is_object_path}
use Rattle.icb_chain.specs.Ring.{Ring}
use Rattle.icb_meta.specs.Shown.{meta_of}
use Rattle.icb_meta.specs.declared.fields.Fields.{Fields}
use Rattle.icb_tree.specs.Versions.{version_path}
use Rattle.icb_table.specs.Listed.{Listed}
use Rattle.icb_table.specs.Table.{IsInTable, IsTable, Table}

-- the versions that are held, of all whose number has 64 bits, are 1 to this one
pub record IsLast (files : Objects) (last : ℕ) : Type 0 where
  pub some : 1 ≤ last
  pub held : (v : ℕ) → v < 2 ^ 64
      → IsSome (object_at files (version_path v)) ↔ ((1 ≤ v) × (v ≤ last))

-- the object at a path shows this metadata
pub record ShowsMeta (files : Objects) (path : List ℕ) (meta : Fields) : Type 0 where
  pub bytes : List ℕ
  pub held : object_at files path ≡ Some bytes
  pub json : Data
  pub shows : meta_of bytes ≡ Ok (json, meta)

-- A store stands for a table: the last version shows the metadata, its objects hold the table, and
-- a prefix that is the path of an object is that of its own file.
pub record Stands (files : Objects) (meta : Fields) (ring : Ring) (table : Table) : Type 0 where
  pub last : ℕ
  pub is_last : IsLast files last
  pub current : ShowsMeta files (version_path last) meta
  pub is_table : IsTable files meta ring table
  pub own_prefixes : (f : Listed) → IsInTable files meta ring f → IsTrue (is_object_path f.prefix)
      → f.prefix ≡ f.path
