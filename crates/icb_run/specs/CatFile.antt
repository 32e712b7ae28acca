-- The command `cat-file`: the plaintext of one encrypted file.
use Rattle.std.specs.Prelude.{ℕ, ◌-◌, min, List, [], Option, Some, None, IfSome, unwrap_or}
use Rattle.std.specs.Prelude.{Result, Ok, Err}
use Rattle.icb_base.specs.Objects.{Objects, object_at}
use Rattle.icb_stream.specs.Content.{Front, front_at}
use Rattle.icb_stream.specs.Layout.{Layout, plain_length}
use Rattle.icb_stream.specs.Opening.{opening_of}
use Rattle.icb_stream.specs.declared.fault.StreamFault.{StreamFault}
use Rattle.icb_stream.specs.declared.fault.StreamFault.TheVariants as stream
use Rattle.icb_run.specs.Answers.{Answer, Gives, LeavesAllButOutAndTable}
use Rattle.icb_run.specs.Outside.{Outside}
use Rattle.icb_run.specs.declared.status.HeaderFault.TheVariants as header
use Rattle.icb_run.specs.declared.status.Status.{Status}
use Rattle.icb_run.specs.declared.status.Status.TheVariants as status
use Rattle.icb_words.specs.declared.words.CatFile.{CatFile}

-- the status of a stream's fault
abbrev pub status_of_fault : List ℕ → StreamFault → Status
status_of_fault path (stream.BadLength file_length) =
    status.Header path (header.BadLength file_length)
status_of_fault path stream.Store = status.StoreFault
status_of_fault path stream.Missing = status.Missing path
status_of_fault path (stream.Short size) = status.Short path size
status_of_fault path (stream.Magic found) = status.Header path (header.Magic found)
status_of_fault path (stream.BlockLength found) = status.Header path (header.BlockLength found)
status_of_fault path stream.NoMemory = status.NoMemory
status_of_fault path (stream.Block number) = status.Block path number

-- Ok, or the block that is refused
abbrev pub status_of_refused : List ℕ → Option ℕ → Status
status_of_refused path None = status.Ok
status_of_refused path (Some number) = status.Block path number

-- the opened parts in order up to the first block that doesn't open
abbrev pub front_answer : List ℕ → Front → Answer
front_answer path front =
    record { status = status_of_refused path front.refused; text = front.bytes }

-- the bytes held at a path
abbrev pub held_object : Objects → List ℕ → List ℕ
held_object files path = unwrap_or (object_at files path) []

-- where the slice of n bytes of plaintext begins: where --skip says, or at their end
abbrev pub slice_start : CatFile → ℕ → ℕ
slice_start words n = min words.skip n

-- how many bytes it has: as many as --take says, or as are left
abbrev pub slice_length : CatFile → ℕ → ℕ
slice_length words n = min (unwrap_or words.take n) (n - slice_start words n)

-- the opened parts of the slice
abbrev pub slice_front : CatFile → List ℕ → Layout → Front
slice_front words object layout = front_at object layout
    (slice_start words (plain_length layout)) (slice_length words (plain_length layout))

-- the first cause, in order, why the stream isn't open, and else the parts of its slice
abbrev pub opened_answer : CatFile → List ℕ → Result Layout StreamFault → Answer
opened_answer words object (Err fault) =
    record { status = status_of_fault words.path fault; text = [] }
opened_answer words object (Ok layout) = front_answer words.path (slice_front words object layout)

-- what `cat-file` answers and writes over the objects of a table
abbrev pub cat_file_answer : Objects → CatFile → Answer
cat_file_answer files words = opened_answer words (held_object files words.path)
    (opening_of files words.path words.meta words.file_length)

-- this answer is given over a table that tells its objects, and nothing but the output was changed
pub record IsCatFile (words : CatFile) (before now : Outside) (status : Status) : Type 0 where
  pub answered : IfSome before.table (λ files.
      Gives (cat_file_answer files words) before.out now.out status)
  pub rest : LeavesAllButOutAndTable before now
