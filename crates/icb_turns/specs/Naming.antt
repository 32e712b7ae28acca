-- The full path of an object (Apache Iceberg Table Spec, "Table Metadata Fields", `location`; that
-- paths begin with it is ours: docs/FORMATS.md).
use Rattle.std.specs.Prelude.{ℕ, List, ◌++◌, codes}

-- the location, `/`, and the object's path
abbrev pub full_path : List ℕ → List ℕ → List ℕ
full_path location path = location ++ codes "/" ++ path
