-- A table whose first version was put where none was held stands for the table with no rows.
use Rattle.std.proofs.Common.{◌≡◌, ◌∙◌, ◌<◌, ◌≤◌, ◌^◌, ◌++◌, ℕ, List, Bool, true, false, cond, Option, Some, None, refl, ap, sym, subst, arith}
use Rattle.std.specs.Prelude.{codes, decimal, bytes_eq, is_some, IsSome, IsSomeAnd, IfSome}
use Rattle.std.proofs.lemmas.Fmt.{decimal_injective}
use Rattle.std.proofs.lemmas.List.{append_cancel_left, append_cancel_right}
use Rattle.std.proofs.lemmas.Slice.Eq.{bytes_eq-Decides}
use Rattle.icb_base.specs.Objects.{Objects, object_at, with_object}
use Rattle.icb_base.proofs.LawLemmas.{object_at-with_object}
use Rattle.icb_create.specs.Drawn.{parts_of, uuid_of}
use Rattle.icb_create.specs.FirstVersion.{first_fields, table_of}
use Rattle.icb_edits.specs.Tables.{new_json}
use Rattle.icb_seal.specs.Keys.{key_bytes}
use Rattle.icb_table.specs.Standing.{IsLast}
use Rattle.icb_table.proofs.TableLemmas.{empty_stands}
use Rattle.icb_tree.specs.Versions.{version_path}
use Rattle.icb_words.specs.declared.create_words.Create.{Create}
use Rattle.icb_run.specs.Create.{Creates, HoldsNoVersion, IsCreated, StandsAfter, StandsForNoRows}
use Rattle.icb_run.specs.SealFile.{LeavesTable}
use Rattle.icb_run.specs.declared.keyring_input.KeysFault.{KeysFault}
use Rattle.icb_run.specs.declared.keyring_input.KeysFault.TheVariants as keys
use Rattle.icb_run.specs.declared.status.Status.{Status}
use Rattle.icb_run.specs.declared.status.Status.TheVariants as status
use Rattle.icb_run.specs.Keyrings.{status_of_keys}
use Rattle.icb_run.proofs.ToldLemmas.{unless_told, where_told}

-- two versions with one path are one
same_version : (v w : ℕ) → v < 2 ^ 64 → w < 2 ^ 64 → version_path v ≡ version_path w → v ≡ w
same_version v w p q e = decimal_injective v w p q (append_cancel_left (codes "metadata/v") (decimal v) (decimal w)
    (append_cancel_right (codes "metadata/v" ++ decimal v) (codes "metadata/v" ++ decimal w) (codes ".metadata.json") e))

-- what is held at a version's path after a put of version 1, where it is said whether that is its path
held_forth : (files : Objects) (b : Bool) (bytes : List ℕ) (v : ℕ) → v < 2 ^ 64 → object_at files (version_path v) ≡ None
    → bytes_eq (version_path v) (version_path 1) ≡ b
    → is_some (cond b (Some bytes) (object_at files (version_path v))) ≡ true → (1 ≤ v) × (v ≤ 1)
held_forth files true bytes v small none e h =
    let is : v ≡ 1 = same_version v 1 small (omega arith) ((bytes_eq-Decides (version_path v) (version_path 1)).0 e) in
    (omega (arith, is), omega (arith, is))
held_forth files false bytes v small none e h = absurd (none_there (object_at files (version_path v)) none h)
  where
    none_there : (o : Option (List ℕ)) → o ≡ None → is_some o ≡ true → ⊥
    none_there None p q = let z : ⊥ = cc in z
    none_there (Some x) p q = let z : ⊥ = cc in z

-- version 1 is held after its put
held_here : (files : Objects) (bytes : List ℕ) → object_at (with_object files (version_path 1) bytes) (version_path 1) ≡ Some bytes
held_here files bytes = object_at-with_object files (version_path 1) bytes (version_path 1)
    ∙ ap (λ b. cond b (Some bytes) (object_at files (version_path 1))) ((bytes_eq-Decides (version_path 1) (version_path 1)).1 refl)

-- and it is the last
put_is_last : (files : Objects) (bytes : List ℕ) → HoldsNoVersion files
    → IsLast (with_object files (version_path 1) bytes) 1
put_is_last files bytes none = record {
  some = omega arith;
  held = λ v small. (
    λ h. held_forth files (bytes_eq (version_path v) (version_path 1)) bytes v small (none v small) refl
        (ap is_some (sym (object_at-with_object files (version_path 1) bytes (version_path v))) ∙ h),
    λ h. let is : v ≡ 1 = omega (arith, h.0, h.1) in
        subst (λ w. IsSome (object_at (with_object files (version_path 1) bytes) (version_path w))) (sym is)
        (ap is_some (held_here files bytes)),
  );
}

-- the table stands after the put of its first version
created_stands : (words : Create) (files : Objects) (keyring : List ℕ) (now_ms : ℕ) (drawn object : List ℕ)
    → IsCreated words keyring now_ms drawn object → HoldsNoVersion files
    → StandsForNoRows keyring (with_object files (version_path 1) object)
created_stands words files keyring now_ms drawn object created none =
    let bytes = parts_of (key_bytes words.key_size) drawn in
    let version = created.version in
    record {
      ring = created.has_master.ring;
      is_ring = created.has_master.is_ring;
      meta = first_fields words bytes now_ms version.entry;
      stands = empty_stands (with_object files (version_path 1) object) (first_fields words bytes now_ms version.entry)
          created.has_master.ring object (new_json (table_of words) (uuid_of bytes.random) version.entry now_ms)
          refl (put_is_last files object none) (held_here files object) version.shows;
    }

-- of the put that was done
put_stands : (words : Create) (files : Objects) (keyring : List ℕ) (now_ms : ℕ) (drawn object : List ℕ) (now : Option Objects)
    → now ≡ Some (with_object files (version_path 1) object) → IsCreated words keyring now_ms drawn object
    → HoldsNoVersion files → IsSomeAnd now (StandsForNoRows keyring)
put_stands words files keyring now_ms drawn object now is created none =
    subst (λ (o : Option Objects). IsSomeAnd o (StandsForNoRows keyring)) (sym is)
    (created_stands words files keyring now_ms drawn object created none)

stands_after : (words : Create) (files : Objects) (keyring : List ℕ) (now_ms : ℕ) (drawn object : List ℕ) (now : Option Objects)
    (s : Status) → LeavesTable files (version_path 1) object now s → Creates words keyring now_ms drawn object s
    → StandsAfter files keyring now s
stands_after words files keyring now_ms drawn object now status.Ok put created =
    put_stands words files keyring now_ms drawn object now put.1 created
stands_after words files keyring now_ms drawn object now status.OutputFault put created =
    put_stands words files keyring now_ms drawn object now put.1 created
stands_after words files keyring now_ms drawn object now s put created = tt

-- a table and a keyring that tell
pub told_stands : (words : Create) (table : Option Objects) (keys : Option (List ℕ)) (now_ms : ℕ) (drawn object : List ℕ)
    (now : Option Objects) (s : Status) → IfSome table (λ files. LeavesTable files (version_path 1) object now s)
    → IfSome keys (λ keyring. Creates words keyring now_ms drawn object s)
    → IfSome table (λ files. IfSome keys (λ keyring. StandsAfter files keyring now s))
told_stands words table keys now_ms drawn object now s put made =
    where_told table (λ files leaves. where_told keys
    (λ keyring creates. stands_after words files keyring now_ms drawn object now s leaves creates) made) put

-- a keyring that isn't read leaves nothing to be said
pub keys_stand : (table : Option Objects) (text : Option (List ℕ)) (now : Option Objects) (fault : KeysFault)
    → IfSome table (λ files. IfSome text (λ keyring. StandsAfter files keyring now (status_of_keys fault)))
keys_stand table text now keys.Input = unless_told table (λ files. unless_told text (λ keyring. tt))
keys_stand table text now (keys.Limit number) = unless_told table (λ files. unless_told text (λ keyring. tt))
keys_stand table text now (keys.BadKeyring line) = unless_told table (λ files. unless_told text (λ keyring. tt))
keys_stand table text now keys.NoMemory = unless_told table (λ files. unless_told text (λ keyring. tt))
