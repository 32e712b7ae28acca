-- A data file that is opened, by its container and its columns.
use Rattle.std.proofs.Common.{◌≡◌, ℕ, suc, ◌-◌, ◌≤◌, ℤ, List, length, Option, Some, None, Result, Ok, Err, refl, sym, ap, ◌∙◌, arith}
use Rattle.icb_schema.specs.Tree.{Fields}
use Rattle.icb_container.specs.Answers.{Refuses}
use Rattle.icb_container.specs.Blocks.{State, begins}
use Rattle.icb_container.specs.Header.{Header, header_of}
use Rattle.icb_container.specs.Wrong.{Wrong, ◌>>=◌}
use Rattle.icb_container.specs.declared.fault.ContainerFault.{ContainerFault}
use Rattle.icb_types.specs.declared.columns.Column.{Column}
use Rattle.icb_reader.specs.Answers.{of_container}
use Rattle.icb_reader.specs.declared.fault.RecordsFault.{RecordsFault}
use Rattle.icb_reader.specs.declared.fault.RecordsFault.TheVariants as told
use Rattle.icb_rows.specs.Records.{Row, file_fields, first_unfit}
use Rattle.icb_table.specs.Listed.{Listed}
use Rattle.icb_table.specs.Records as records
use Rattle.icb_table.specs.Records.{blocks_from}
use Rattle.icb_table.specs.Rows.{fitting, rows_behind, rows_in, rows_of, unfit}
use Rattle.icb_table.specs.Trace.{Trace, stopped, through}
use Rattle.icb_table.specs.Why as why
use Rattle.icb_datafile.specs.Answers.{FindsColumns}
use Rattle.icb_datafile.specs.Left.{EndsSo, all_of, rows_left}
use Rattle.icb_datafile.proofs.BlockLemmas.{said_of}

-- where a reader of a file stands, by the file's header
abbrev pub stands : List ℕ → Result Header Wrong → Result State Wrong
stands file r = r >>= (λ h. Ok (begins file h))

header_err : (file : List ℕ) (r : Result Header Wrong) (w : Wrong) → stands file r ≡ Err w → r ≡ Err w
header_err file (Ok h) w e = absurd (let never : ⊥ = cc in never)
header_err file (Err x) w e = ap (λ (v : Wrong). Err v) (same x w e)
  where
    same : (x y : Wrong) → (let r : Result State Wrong = Err x in r) ≡ Err y → x ≡ y
    same x y e = cc

header_ok : (file : List ℕ) (r : Result Header Wrong) (s : State) → stands file r ≡ Ok s → (h : Header) × (r ≡ Ok h) × (begins file h ≡ s)
header_ok file (Ok h) s e = (h, refl, same (begins file h) s e)
  where
    same : (x y : State) → (let r : Result State Wrong = Ok x in r) ≡ Ok y → x ≡ y
    same x y e = cc
header_ok file (Err x) s e = absurd (let never : ⊥ = cc in never)

-- the header is refused
pub not_opened : {F : Type 0} (columns : List Column) (f : Listed) (file : List ℕ) (e : ContainerFault F) → Refuses e (stands file (header_of file))
    → EndsSo f (rows_of (all_of columns) f file) (rows_of (all_of columns) f file).items (of_container e)
unfolding rows_of
not_opened columns f file e h =
    let is : (w : Wrong) → stands file (header_of file) ≡ Err w → rows_of (all_of columns) f file ≡ stopped f (why.no_container w) =
    λ w g. ap (records.opened f (rows_behind (all_of columns) f file)) (header_err file (header_of file) w g) in
    record {
      none_left = said_of e (stands file (header_of file)) _ (λ w g. ap (λ (t : Trace Row). t.items) (is w g)) h;
      why_ended = said_of e (stands file (header_of file)) _ (λ w g. ap (λ (t : Trace Row). t.stop) (is w g)) h;
    }

-- the rows behind the header of a container that is opened
rows_are : (columns : List Column) (f : Listed) (file : List ℕ) (s : State) → stands file (header_of file) ≡ Ok s
    → rows_of (all_of columns) f file ≡ fitting f (first_unfit columns (file_fields s.schema)) (rows_left columns f s file)
unfolding rows_of rows_left
rows_are columns f file s e =
    let h = header_ok file (header_of file) s e in
    let fuel : suc (length file) ≡ suc (length file) - 0 = omega arith in
    ap (records.opened f (rows_behind (all_of columns) f file)) h.1
    ∙ ap (λ (k : ℕ). fitting f (first_unfit columns (file_fields h.0.schema)) (through (rows_in f (all_of columns) (file_fields h.0.schema)) (blocks_from f k (begins file h.0) file))) fuel
    ∙ ap (λ (t : State). fitting f (first_unfit columns (file_fields t.schema)) (rows_left columns f t file)) h.2

pub opened_is : (columns : List Column) (f : Listed) (file : List ℕ) (s : State) → stands file (header_of file) ≡ Ok s → first_unfit columns (file_fields s.schema) ≡ None
    → rows_of (all_of columns) f file ≡ rows_left columns f s file
opened_is columns f file s e fit = rows_are columns f file s e ∙ ap (λ (o : Option ℤ). fitting f o (rows_left columns f s file)) fit

-- a column isn't there with its type
pub unfit_is : (columns : List Column) (f : Listed) (file : List ℕ) (s : State) (id : ℤ) → stands file (header_of file) ≡ Ok s → first_unfit columns (file_fields s.schema) ≡ Some id
    → rows_of (all_of columns) f file ≡ unfit f id
unfit_is columns f file s id e lacks = rows_are columns f file s e ∙ ap (λ (o : Option ℤ). fitting f o (rows_left columns f s file)) lacks

-- before its first block a reader stands in the file
pub stands_within : (file : List ℕ) (s : State) → stands file (header_of file) ≡ Ok s → (s.place ≤ length file) × (s.block ≡ 0)
stands_within file s e =
    let h = header_ok file (header_of file) s e in
    (rw (← h.2) (omega arith), ap (λ (t : State). t.block) (sym h.2))

-- columns aren't found
pub not_found : {F : Type 0} (columns : List Column) (f : Listed) (file : List ℕ) (s : State) (fs : Fields) (e : RecordsFault F) → stands file (header_of file) ≡ Ok s → fs ≡ file_fields s.schema
    → FindsColumns (Err e) columns fs → EndsSo f (rows_of (all_of columns) f file) (rows_of (all_of columns) f file).items e
not_found columns f file s fs (told.Container e) stand same h = absurd h
not_found columns f file s fs (told.Field place id) stand same h =
    let is : rows_of (all_of columns) f file ≡ stopped f (why.bad_field place id) =
    unfit_is columns f file s id stand (ap (first_unfit columns) (sym same) ∙ h.1) ∙ ap (λ (n : ℕ). stopped f (why.bad_field n id)) (sym h.0) in
    record {
      none_left = ap (λ (t : Trace Row). t.items) is;
      why_ended = ap (λ (t : Trace Row). t.stop) is;
    }
not_found columns f file s fs told.NoMemory stand same h = record { none_left = tt; why_ended = tt }
