-- What a rotation of the master key makes of a table's keys (Apache Iceberg Table Spec, "Encryption
-- Keys"; the order of refusals and the sealed form are ours: docs/FORMATS.md). Each key-encryption
-- key is sealed again under the new master, and the keys of lists stay as they are.
use Rattle.std.specs.Prelude.{ℕ, Bool, true, false, ◌&&◌, nat_lt, if◌then◌else◌, List, [], ◌∷◌}
use Rattle.std.specs.Prelude.{take, drop, length, count_by, bytes_eq, Option, Some, None, is_some}
use Rattle.std.specs.Prelude.{option_map}
use Rattle.std.specs.Prelude.{option_and_then, Result, Ok}
use Rattle.std.specs.List.{list_all, list_any}
use Rattle.std.specs.Ordering.{nat_cmp, match_ordering}
use Rattle.std.specs.Cmp.Lexicographic.{slice_cmp}
use Rattle.std.specs.Result.{result_ok}
use Rattle.icb_chain.specs.Opening.{KeyTable, kek_of, seals_key}
use Rattle.icb_chain.specs.Ring.{Ring, key_named}
use Rattle.icb_chain.specs.declared.fault.ChainFault.TheVariants as chain
use Rattle.icb_meta.specs.Forms.{entry_named}
use Rattle.icb_meta.specs.declared.records.KeyEntry.{KeyEntry}
use Rattle.icb_rotate.specs.declared.keys.Master.{Master}
use Rattle.icb_seal.specs.Block.{sealed_cipher_block}
use Rattle.icb_turns.specs.Answers.{◌>>=◌, of_chain, or_refused, refused_where}
use Rattle.icb_turns.specs.declared.fault.CannotWhat.TheVariants as form
use Rattle.icb_turns.specs.declared.fault.JobFault.{JobFault}
use Rattle.icb_turns.specs.declared.fault.JobFault.TheVariants as fault
use Rattle.icb_walk.specs.declared.fault.TreeFault.TheVariants as tree

-- ---- refusals

-- the id of an encrypted table's master: it has one, and a key-encryption key
abbrev pub encrypted_by : KeyTable → Option (List ℕ)
encrypted_by table = if list_any (seals_key table) table.entries then table.master else None

-- the id of a new master is neither the master's own nor that of one of the table's keys
abbrev pub may_name : KeyTable → List ℕ → Result (Unit {0}) JobFault
may_name table id = do
  master ← or_refused (fault.Cannot form.NotEncrypted) (encrypted_by table)
  other ← refused_where (fault.SameKey id) (bytes_eq master id)
  refused_where (fault.KeyName id) (is_some (entry_named id table.entries))

-- an entry that seals a key-encryption key opens, or its refusal
abbrev pub entry_opens : KeyTable → Ring → KeyEntry → Result (Unit {0}) JobFault
entry_opens table ring e = if seals_key table e
    then (of_chain (kek_of table ring e.id) >>= (λ key. Ok tt)) else Ok tt

-- each of these entries does, or the first refusal
unfoldable pub all_open : KeyTable → Ring → List KeyEntry → Result (Unit {0}) JobFault
all_open table ring [] = Ok tt
all_open table ring (e ∷ es) = entry_opens table ring e >>= (λ opened. all_open table ring es)

-- The key of a new master, or the first refusal: the table is encrypted, the id is a new name, each
-- key-encryption key opens, and the new master is in the keyring.
unfoldable pub new_master_of : KeyTable → Ring → List ℕ → Result (List ℕ) JobFault
new_master_of table ring id = do
  named ← may_name table id
  opened ← all_open table ring table.entries
  or_refused (fault.Tree (tree.Chain (chain.NoKey id))) (key_named id ring)

-- ---- keys sealed again

-- an entry with these sealed bytes in place of its own, sealed by a master; its id and its other
-- properties are kept
abbrev pub sealed_by : Master → List ℕ → KeyEntry → KeyEntry
sealed_by master sealed e = record {
  id = e.id;
  sealed = sealed;
  by = Some master.id;
  properties = e.properties;
}

-- an entry that holds these bytes, sealed by a master with a nonce; its own id is the additional
-- data
abbrev pub sealed_again : Master → List ℕ → List ℕ → KeyEntry → Option KeyEntry
sealed_again master nonce bytes e = option_map (λ sealed. sealed_by master sealed e)
    (sealed_cipher_block master.key nonce e.id bytes)

-- the next nonce: 12 of the bytes that were drawn, none where there are fewer
abbrev pub nonce_in : List ℕ → Option (List ℕ)
nonce_in drawn = if nat_lt (length drawn) 12 then None else Some (take 12 drawn)

-- a key-encryption entry that opens, sealed again with the next nonce
abbrev pub rewrapped_entry : KeyTable → Ring → Master → List ℕ → KeyEntry → Option KeyEntry
rewrapped_entry table ring master drawn e =
    option_and_then (λ nonce. option_and_then (λ bytes. sealed_again master nonce bytes e)
    (result_ok (kek_of table ring e.id))) (nonce_in drawn)

-- an entry before others, where all of them are there
abbrev pub put_first : Option KeyEntry → Option (List KeyEntry) → Option (List KeyEntry)
put_first None entries = None
put_first (Some e) entries = option_map (λ es. e ∷ es) entries

-- entries in their order: each that seals a key-encryption key is sealed again with a nonce of its
-- own, and each other one is as it was
unfoldable pub rewrapped : KeyTable → Ring → Master → List KeyEntry → List ℕ
    → Option (List KeyEntry)
rewrapped table ring master [] drawn = Some []
rewrapped table ring master (e ∷ es) drawn = if seals_key table e
    then put_first (rewrapped_entry table ring master drawn e)
    (rewrapped table ring master es (drop 12 drawn))
    else put_first (Some e) (rewrapped table ring master es drawn)

-- the keys of a table whose master was replaced
abbrev pub rotated : Master → List KeyEntry → KeyTable
rotated master entries = record { master = Some master.id; entries = entries }

-- how many entries seal key-encryption keys: so many nonces are drawn
abbrev pub key_count : KeyTable → ℕ
key_count table = count_by (seals_key table) table.entries

-- ---- names of properties

-- the first name is less than the second, byte by byte
abbrev pub is_before : List ℕ → List ℕ → Bool
is_before name other = match_ordering (slice_cmp nat_cmp name other) true false false

-- the names of texts ascend, from this one on
abbrev pub ascend_from : List ℕ → List (List ℕ × List ℕ) → Bool
ascend_from name [] = true
ascend_from name (p ∷ ps) = is_before name p.0 && ascend_from p.0 ps

-- the names of texts ascend, as those of a JSON object that was read do
abbrev pub names_ascend : List (List ℕ × List ℕ) → Bool
names_ascend [] = true
names_ascend (p ∷ ps) = ascend_from p.0 ps

-- those of each entry do
abbrev pub all_ascend : List KeyEntry → Bool
all_ascend entries = list_all (λ e. names_ascend e.properties) entries
