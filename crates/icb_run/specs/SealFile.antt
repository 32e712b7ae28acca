-- The command `seal-file`: the input in an encrypted file of the table, under a key that is drawn.
use Rattle.std.specs.Prelude.{ℕ, ◌≡◌, ◌≤◌, ◌+◌, ◌⊎◌, nat_lt, if◌then◌else◌, List, [], ◌++◌, length}
use Rattle.std.specs.Prelude.{take, drop, codes, Option, Some, is_some, IfSome, Ok, Err}
use Rattle.hex.specs.Hex.{encode_lower}
use Rattle.icb_base.specs.KeyMetadata.{KeyRecord}
use Rattle.icb_base.specs.Objects.{Objects, Puts, object_at}
use Rattle.icb_base.specs.declared.limits.Limited.TheVariants as limit
use Rattle.icb_base.specs.declared.storage.Failed.{Failed}
use Rattle.icb_base.specs.declared.storage.Put.TheVariants.{Done, Taken}
use Rattle.icb_keymeta.specs.Decoded.{key_metadata_of}
use Rattle.icb_keymeta.specs.Encoded.{encoded}
use Rattle.icb_seal.specs.Keys.{key_bytes}
use Rattle.icb_stream.specs.Sealing.{IsStreamOf, stream_bytes}
use Rattle.icb_run.specs.Answers.{Answer, Prints}
use Rattle.icb_run.specs.Inputs.{input_limit}
use Rattle.icb_run.specs.Outside.{Outside}
use Rattle.icb_run.specs.declared.status.Status.{Status}
use Rattle.icb_run.specs.declared.status.Status.TheVariants as status
use Rattle.icb_words.specs.declared.words.SealFile.{SealFile}

-- how many bytes are drawn: those of the key, and the 8 that begin its nonces
abbrev pub drawn_length : SealFile → ℕ
drawn_length words = key_bytes words.key_size + 8

-- the key that was drawn
abbrev pub drawn_key : SealFile → List ℕ → List ℕ
drawn_key words drawn = take (key_bytes words.key_size) drawn

-- the file of a text under the bytes that were drawn and the prefix of its own path
abbrev pub sealed_file : SealFile → List ℕ → List ℕ → Option (List ℕ)
sealed_file words drawn text = stream_bytes (drawn_key words drawn) words.path
    (drop (key_bytes words.key_size) drawn) words.block text

-- its metadata
abbrev pub sealed_meta : SealFile → List ℕ → List ℕ → KeyRecord
sealed_meta words drawn object = record {
  key = drawn_key words drawn;
  prefix = Some words.path;
  length_told = Some (length object);
}

-- the line that tells them: their written form in lower-case hexadecimal digits
abbrev pub meta_line : KeyRecord → List ℕ
meta_line meta = encode_lower (encoded meta) ++ codes "\n"

-- a line is the digits of bytes that are read back as this key metadata: the key, the prefix and
-- the length
pub record IsLineOf (meta : KeyRecord) (line : List ℕ) : Type 0 where
  pub bytes : List ℕ
  pub digits : line ≡ encode_lower bytes ++ codes "\n"
  pub read_back : key_metadata_of bytes ≡ Ok meta

-- what a put at a path answers over the objects of a table: the path is held, or else the line
abbrev pub put_answer : Objects → List ℕ → List ℕ → Answer
put_answer files path line =
    if is_some (object_at files path) then record { status = status.NameTaken path; text = [] }
    else record { status = status.Ok; text = line }

-- what `seal-file` answers over the objects of a table, an input, the bytes that were drawn and the
-- file, the first cause in order: the input is too long, its path is held, and else the file's line
abbrev pub seal_file_answer : Objects → SealFile → List ℕ → List ℕ → List ℕ → Answer
seal_file_answer files words text drawn object =
    if nat_lt input_limit (length text)
    then record { status = status.Limit limit.Input input_limit; text = [] }
    else put_answer files words.path (meta_line (sealed_meta words drawn object))

-- an object is the sealed file of a text under the bytes that were drawn: so it is written, under
-- its metadata it is an open stream whose plaintext is the text, and their line is read back
pub record IsSealed (words : SealFile) (drawn text object : List ℕ) : Type 0 where
  pub drawn_whole : length drawn ≡ drawn_length words
  pub written : sealed_file words drawn text ≡ Some object
  pub stream : IsStreamOf (sealed_meta words drawn object) text words.block object
  pub line : IsLineOf (sealed_meta words drawn object) (meta_line (sealed_meta words drawn object))

-- the statuses that end a put, and the printing of the line behind it
abbrev pub IsPut : Status → Type 0
IsPut status.Ok = Unit {0}
IsPut status.OutputFault = Unit {0}
IsPut (status.NameTaken path) = Unit {0}
IsPut status.StoreFault = Unit {0}
IsPut status = ⊥

-- what was drawn and sealed of an input, by the status: nothing is drawn before the input is read
-- to its end within the limit, and a file that is put, or may have been, is the sealed file
abbrev pub Seals : SealFile → List ℕ → List ℕ → List ℕ → Status → Type 0
Seals words text drawn object status.InputFault = drawn ≡ []
Seals words text drawn object (status.Limit what number) = drawn ≡ []
Seals words text drawn object status.RandomFault = (length text ≤ input_limit) × (drawn ≡ [])
Seals words text drawn object status.NoMemory =
    (drawn ≡ []) ⊎ ((length text ≤ input_limit) × (length drawn ≡ drawn_length words))
Seals words text drawn object status =
    (length text ≤ input_limit) × IsSealed words drawn text object

-- what the table holds, by the status: the file where none was held, what it held where its path
-- was taken, the one or the other where the put failed, and else what it held
abbrev pub LeavesTable : Objects → List ℕ → List ℕ → Option Objects → Status → Type 0
LeavesTable files path object now status.Ok = Puts files path object now (Ok Done)
LeavesTable files path object now status.OutputFault = Puts files path object now (Ok Done)
LeavesTable files path object now (status.NameTaken taken) = Puts files path object now (Ok Taken)
LeavesTable files path object now status.TableExists = Puts files path object now (Ok Taken)
LeavesTable files path object now status.StoreFault =
    (failed : Failed) × Puts files path object now (Err failed)
LeavesTable files path object now status = now ≡ Some files

-- nothing but the table, the input, the draws, the output and their counts was changed
abbrev pub LeavesTheRest : Outside → Outside → Type 0
LeavesTheRest before now = now ≡ record before {
  table = now.table;
  input = now.input;
  drawn = now.drawn;
  out = now.out;
  faults = record before.faults {
    table = now.faults.table;
    input = now.faults.input;
    draws = now.faults.draws;
    out = now.faults.out;
  };
}

-- bytes were drawn, a file was put, and the computed answer given, each where the parts tell
pub record IsSealFile (words : SealFile) (before now : Outside) (status : Status) : Type 0 where
  pub drawn : List ℕ
  pub object : List ℕ
  pub drew : IfSome before.drawn (λ bytes. now.drawn ≡ Some (bytes ++ drawn))
  pub table : IfSome before.table (λ files.
      LeavesTable files words.path object now.table status)
  pub sealed : IfSome before.input (λ text. Seals words text drawn object status)
  pub answered : IfSome before.table (λ files. IfSome before.input (λ text.
      Prints (seal_file_answer files words text drawn object) before.out now.out status))
  pub rest : LeavesTheRest before now
