-- The command `create`: the first version of a new table, under a key that is drawn.
use Rattle.std.specs.Prelude.{ℕ, ◌≡◌, ◌<◌, ◌+◌, ◌^◌, ◌⊎◌, nat_lt, if◌then◌else◌, List, [], ◌++◌}
use Rattle.std.specs.Prelude.{codes, length, Option, Some, None, is_some, IfSome, IsSomeAnd}
use Rattle.std.specs.Prelude.{Result, Ok, Err}
use Rattle.std.specs.FinMap as finite
use Rattle.icb_base.specs.Objects.{Objects, object_at}
use Rattle.icb_base.specs.declared.limits.Limited.TheVariants as limit
use Rattle.icb_chain.specs.Ring.{Ring, key_named}
use Rattle.icb_create.specs.Drawn.{parts_of}
use Rattle.icb_create.specs.FirstVersion.{IsFirstVersion}
use Rattle.icb_meta.specs.declared.fields.Fields.{Fields}
use Rattle.icb_run.specs.Answers.{Answer, Prints}
use Rattle.icb_run.specs.Keyrings.{keyring_of, status_of_keys}
use Rattle.icb_run.specs.Outside.{Outside}
use Rattle.icb_run.specs.SealFile.{LeavesTable}
use Rattle.icb_run.specs.declared.keyring_input.KeysFault.{KeysFault}
use Rattle.icb_run.specs.declared.status.Status.{Status}
use Rattle.icb_run.specs.declared.status.Status.TheVariants as status
use Rattle.icb_seal.specs.Keys.{key_bytes}
use Rattle.icb_table.specs.Standing.{Stands}
use Rattle.icb_tree.specs.Versions.{most_bytes, version_path}
use Rattle.icb_words.specs.declared.create_words.Create.{Create}

-- how many bytes are drawn: 16 of the identifier, those of the key, and the 12 of its nonce
abbrev pub drawn_length : Create → ℕ
drawn_length words = 28 + key_bytes words.key_size

-- what is put of the first version: it is too long, or one is held, and else it is put
abbrev pub first_answer : Objects → List ℕ → Answer
first_answer files object =
    if nat_lt most_bytes (length object)
    then record { status = status.Limit limit.Metadata most_bytes; text = [] }
    else if is_some (object_at files (version_path 1))
    then record { status = status.TableExists; text = [] }
    else record { status = status.Ok; text = codes "version 1\n" }

-- the master isn't in the keyring, or else what is put
abbrev pub master_answer : Objects → Create → List ℕ → Option (List ℕ) → Answer
master_answer files words object None = record { status = status.NoKey words.master; text = [] }
master_answer files words object (Some master) = first_answer files object

-- why there is no keyring, or else what comes of its keys
abbrev pub ring_answer : Objects → Create → List ℕ → Result Ring KeysFault → Answer
ring_answer files words object (Err fault) = record { status = status_of_keys fault; text = [] }
ring_answer files words object (Ok ring) =
    master_answer files words object (key_named words.master ring)

-- what `create` answers over the objects of a table, the text of the keyring and that of the first
-- version, the first cause in order
abbrev pub create_answer : Objects → Create → List ℕ → List ℕ → Answer
create_answer files words keyring object = ring_answer files words object (keyring_of keyring)

-- the status of a put of the first version: where its path is held the table exists
abbrev pub exists_where_taken : Status → Status
exists_where_taken (status.NameTaken path) = status.TableExists
exists_where_taken answer = answer

-- the statuses that end the put of the first version, and the printing of its number
abbrev pub IsFirstPut : Status → Type 0
IsFirstPut status.Ok = Unit {0}
IsFirstPut status.OutputFault = Unit {0}
IsFirstPut status.TableExists = Unit {0}
IsFirstPut (status.Limit what number) = what ≡ limit.Metadata
IsFirstPut status.StoreFault = Unit {0}
IsFirstPut status.NoMemory = Unit {0}
IsFirstPut status = ⊥

-- the keyring has this key of the master
pub record HasMaster (words : Create) (keyring master : List ℕ) : Type 0 where
  pub ring : Ring
  pub is_ring : keyring_of keyring ≡ Ok ring
  pub is_master : key_named words.master ring ≡ Some master

-- an object is the first version of the table under the keyring's master and the bytes that were
-- drawn
pub record IsCreated (words : Create) (keyring : List ℕ) (now_ms : ℕ)
    (drawn object : List ℕ) : Type 0 where
  pub drawn_whole : length drawn ≡ drawn_length words
  pub master : List ℕ
  pub has_master : HasMaster words keyring master
  pub version :
      IsFirstVersion words master (parts_of (key_bytes words.key_size) drawn) now_ms object

-- what was drawn and made, by the status: nothing is drawn before the keyring is read and has the
-- master, and a version that is put, or is found too long or there already, is the first version
abbrev pub Creates : Create → List ℕ → ℕ → List ℕ → List ℕ → Status → Type 0
Creates words keyring now_ms drawn object status.InputFault = drawn ≡ []
Creates words keyring now_ms drawn object (status.Limit limit.Keyring number) = drawn ≡ []
Creates words keyring now_ms drawn object (status.BadKeyring line) = drawn ≡ []
Creates words keyring now_ms drawn object (status.NoKey id) = drawn ≡ []
Creates words keyring now_ms drawn object status.RandomFault =
    ((master : List ℕ) × HasMaster words keyring master) × (drawn ≡ [])
Creates words keyring now_ms drawn object status.NoMemory =
    (drawn ≡ []) ⊎ (length drawn ≡ drawn_length words)
Creates words keyring now_ms drawn object status = IsCreated words keyring now_ms drawn object

-- no version of a table is held
abbrev pub HoldsNoVersion : Objects → Type 0
HoldsNoVersion files = (v : ℕ) → v < 2 ^ 64 → object_at files (version_path v) ≡ None

-- under a keyring objects stand for the table with no rows
pub record StandsForNoRows (keyring : List ℕ) (files : Objects) : Type 0 where
  pub ring : Ring
  pub is_ring : keyring_of keyring ≡ Ok ring
  pub meta : Fields
  pub stands : Stands files meta ring finite.empty

-- what the table stands for, by the status: where no version was held and the first was put, it
-- stands for the table with no rows
abbrev pub StandsAfter : Objects → List ℕ → Option Objects → Status → Type 0
StandsAfter files keyring now status.Ok =
    HoldsNoVersion files → IsSomeAnd now (StandsForNoRows keyring)
StandsAfter files keyring now status.OutputFault =
    HoldsNoVersion files → IsSomeAnd now (StandsForNoRows keyring)
StandsAfter files keyring now answer = Unit {0}

-- nothing but the table, the keyring, the draws, the output and their counts was changed
abbrev pub LeavesTheRest : Outside → Outside → Type 0
LeavesTheRest before now = now ≡ record before {
  table = now.table;
  keys = now.keys;
  drawn = now.drawn;
  out = now.out;
  faults = record before.faults {
    table = now.faults.table;
    keys = now.faults.keys;
    draws = now.faults.draws;
    out = now.faults.out;
  };
}

-- bytes were drawn, a version was put, after which the table stands, and the computed answer given,
-- each where the parts tell
pub record IsCreate (words : Create) (before now : Outside) (status : Status) : Type 0 where
  pub drawn : List ℕ
  pub object : List ℕ
  pub drew : IfSome before.drawn (λ bytes. now.drawn ≡ Some (bytes ++ drawn))
  pub table : IfSome before.table (λ files.
      LeavesTable files (version_path 1) object now.table status)
  pub made : IfSome before.keys (λ keyring.
      Creates words keyring before.now_ms drawn object status)
  pub stands : IfSome before.table (λ files. IfSome before.keys (λ keyring.
      StandsAfter files keyring now.table status))
  pub answered : IfSome before.table (λ files. IfSome before.keys (λ keyring.
      Prints (create_answer files words keyring object) before.out now.out status))
  pub rest : LeavesTheRest before now
