-- A rotation over a store that stands for a table.
use Rattle.std.specs.Prelude.{◌≡◌, ◌⊎◌, ◌<◌, ◌≤◌, ◌+◌, ◌-◌, ◌==◌, ℕ, suc, zero, Bool, true, false, List, length, nat_le, nat_lt, Option, Some, None, IfSome, Result, Ok, Err}
use Rattle.std.proofs.Common.{refl, ap, ◌∙◌, sym, arith, inl, inr}
use Rattle.std.proofs.lemmas.Bool.{cases_lt}
use Rattle.std.proofs.lemmas.Bool.Decides.{nat_tests}
use Rattle.icb_base.specs.Objects.{Objects}
use Rattle.icb_base.specs.declared.limits.Limited.{Limited}
use Rattle.icb_base.specs.declared.limits.Limited.TheVariants as limit
use Rattle.icb_base.specs.declared.storage.Store as store
use Rattle.icb_base.specs.declared.transfer.Draws as draws
use Rattle.icb_chain.specs.Opening.{KeyTable, table_of}
use Rattle.icb_chain.specs.Ring.{Ring}
use Rattle.icb_meta.specs.declared.fields.Fields.{Fields}
use Rattle.icb_table.specs.Standing.{IsLast, ShowsMeta, Stands}
use Rattle.icb_table.specs.Table.{Table}
use Rattle.icb_tree.specs.Versions.{first_free, holds_version, last_of, last_version, most_bytes, most_versions, version_of, version_path}
use Rattle.icb_tree.specs.declared.fault.CurrentFault.{CurrentFault}
use Rattle.icb_tree.specs.declared.fault.CurrentFault.TheVariants as current
use Rattle.icb_turns.specs.declared.fault.JobFault.{JobFault}
use Rattle.icb_turns.specs.declared.fault.JobFault.TheVariants as fault
use Rattle.icb_rotate.specs.Complete.{IsComplete, RotatesComplete}
use Rattle.icb_rotate.specs.Keys.{new_master_of}
use Rattle.icb_rotate.specs.Rotating.{master_for}
use Rattle.icb_rotate.specs.Whole.{Rotates, RotatesFiles, master_of}

-- ---- the last version

-- the first version that isn't held, behind some that are
first_at : (files : Objects) (more from n : ℕ) → ((v : ℕ) → from ≤ v → v < n → holds_version files v ≡ true) → holds_version files n ≡ false
    → from ≤ n → n < from + more → first_free files more from ≡ Some n
unfolding first_free
first_at files zero from n held free there within = absurd (let never : ⊥ = omega (arith, there, within) in never)
first_at files (suc more) from n held free there within =
    by (first_at files more (from + 1) n) (cases_lt from n)
  where
    by : (((v : ℕ) → from + 1 ≤ v → v < n → holds_version files v ≡ true) → holds_version files n ≡ false → from + 1 ≤ n → n < from + 1 + more
        → first_free files more (from + 1) ≡ Some n) → from < n ⊎ n ≤ from → first_free files (suc more) from ≡ Some n
    by rest (inl below) = rw (held from (omega arith) below) (rest (λ v over under. held v (omega (arith, over)) under) free (omega (arith, below)) (omega (arith, within)))
    by rest (inr same) = let e : from ≡ n = omega (arith, same, there) in rw (e, free) refl

not_so : (b : Bool) → (b ≡ true → ⊥) → b ≡ false
not_so true h = absurd (h refl)
not_so false h = refl

-- the version before the first that isn't held
before_free : (last : ℕ) (none : Bool) → 1 ≤ last → (last + 1 == 1) ≡ none → last_of (Some (last + 1)) ≡ Ok last
before_free last true some e = absurd (let never : ⊥ = grind (arith, nat_tests) in never)
before_free last false some e = let same : last + 1 - 1 ≡ last = omega arith in rw (e, same) refl

last_is : (files : Objects) (last : ℕ) → IsLast files last → last < most_versions → last_version files ≡ Ok last
unfolding last_version
last_is files last is few =
    let first = first_at files 1000001 1 (last + 1)
    (λ v over under. (is.held v (omega (arith, under, few))).1 (over, omega (arith, under)))
    (not_so (holds_version files (last + 1)) (λ held. let both = (is.held (last + 1) (omega (arith, few))).0 held in let top = both.1 in omega (arith, top)))
    (omega arith) (omega (arith, few)) in
    rw first (before_free last (last + 1 == 1) is.some refl)

-- ---- its metadata

version_shown : (files : Objects) (n : ℕ) (meta : Fields) (shows : ShowsMeta files (version_path n) meta) → nat_lt most_bytes (length shows.bytes) ≡ false
    → version_of files n ≡ Ok (shows.json, meta)
version_shown files n meta shows short = rw (shows.held, short, shows.shows) refl

version_long : (files : Objects) (n : ℕ) (meta : Fields) (shows : ShowsMeta files (version_path n) meta) → nat_lt most_bytes (length shows.bytes) ≡ true
    → version_of files n ≡ Err (current.Limit limit.Metadata most_bytes)
version_long files n meta shows long = rw (shows.held, long) refl

-- ---- the key of the new master

few_is : (last : ℕ) (many : Bool) → last < most_versions → nat_le most_versions last ≡ many → many ≡ false
few_is last true few e = absurd (let never : ⊥ = grind (arith, nat_tests) in never)
few_is last false few e = refl

key_for : (table : KeyTable) (ring : Ring) (version : ℕ) (id key : List ℕ) → version < most_versions → new_master_of table ring id ≡ Ok key
    → master_for table ring version id ≡ Ok key
key_for table ring version id key few is = rw (is, few_is version (nat_le most_versions version) few refl) refl

-- the key is there, or the current metadata is too long
abbrev IsKnown : Objects → Ring → List ℕ → List ℕ → Type 0
IsKnown files ring id key = (master_of files ring id ≡ Ok key) ⊎ (master_of files ring id ≡ Err (fault.Limit limit.Metadata most_bytes))

known : (files : Objects) (meta : Fields) (ring : Ring) (table : Table) (id key : List ℕ) (stands : Stands files meta ring table) → stands.last < most_versions
    → new_master_of (table_of meta.state) ring id ≡ Ok key → IsKnown files ring id key
known files meta ring table id key stands few is = by (nat_lt most_bytes (length stands.current.bytes)) refl
  where
    by : (long : Bool) → nat_lt most_bytes (length stands.current.bytes) ≡ long → IsKnown files ring id key
    by true long = inr (rw (last_is files stands.last stands.is_last few, version_long files stands.last meta stands.current long) refl)
    by false short = inl (rw (last_is files stands.last stands.is_last few, version_shown files stands.last meta stands.current short)
        (key_for (table_of meta.state) ring stands.last id key few is))

-- ---- the answer

-- what is refused where the key is known
refused_is : (r : Result (List ℕ) JobFault) (key : List ℕ) (e : JobFault) → (r ≡ Ok key) ⊎ (r ≡ Err (fault.Limit limit.Metadata most_bytes)) → r ≡ Err e
    → fault.Limit limit.Metadata most_bytes ≡ e
refused_is r key e (inl ok) h = absurd (let never : ⊥ = cc in never)
refused_is r key e (inr long) h = let same : ◌≡◌ {A = Result (List ℕ) JobFault} (Err (fault.Limit limit.Metadata most_bytes)) (Err e) = sym long ∙ h in cc

limit_is : (what : Limited) (number : ℕ) → fault.Limit limit.Metadata most_bytes ≡ fault.Limit what number → (what ≡ limit.Metadata) × (number ≡ most_bytes)
limit_is what number h = (cc, cc)

-- one version is last
last_same : (files : Objects) (one two : ℕ) → last_version files ≡ Ok one → last_version files ≡ Ok two → one ≡ two
last_same files one two h k = let same : ◌≡◌ {A = Result ℕ CurrentFault} (Ok one) (Ok two) = sym h ∙ k in cc

module _ (files : Objects) (ring : Ring) (id : List ℕ) (now_ms : ℕ) (drawn : List ℕ) (last : ℕ) (key : List ℕ)
    (is_last : last_version files ≡ Ok last) (is_known : IsKnown files ring id key) where
  no_other : (e : JobFault) → (fault.Limit limit.Metadata most_bytes ≡ e → ⊥) → master_of files ring id ≡ Err e → ⊥
  no_other e other h = other (refused_is (master_of files ring id) key e is_known h)

  pub answer_completes : (answer : Result ℕ JobFault) (now : Option Objects) → RotatesFiles files ring id now_ms drawn answer now → IsComplete last answer
  answer_completes (Ok version) now h = let same = last_same files h.current.last last h.current.is_last is_last in h.number ∙ ap (λ (n : ℕ). n + 1) same
  answer_completes (Err fault.Store) now h = tt
  answer_completes (Err fault.Random) now h = tt
  answer_completes (Err fault.NoMemory) now h = tt
  answer_completes (Err (fault.Limit what number)) now (same, inl (refused, none)) = limit_is what number (refused_is (master_of files ring id) key (fault.Limit what number) is_known refused)
  answer_completes (Err (fault.Limit what number)) now (same, inr (is_what, is_number, long)) = (is_what, is_number)
  answer_completes (Err fault.NoTable) now h = no_other fault.NoTable (λ e. cc) h.0
  answer_completes (Err (fault.BadMeta field)) now h = no_other (fault.BadMeta field) (λ e. cc) h.0
  answer_completes (Err (fault.BadInput line row)) now h = no_other (fault.BadInput line row) (λ e. cc) h.0
  answer_completes (Err (fault.Cannot what)) now h = no_other (fault.Cannot what) (λ e. cc) h.0
  answer_completes (Err (fault.SameKey other)) now h = no_other (fault.SameKey other) (λ e. cc) h.0
  answer_completes (Err (fault.KeyName other)) now h = no_other (fault.KeyName other) (λ e. cc) h.0
  answer_completes (Err (fault.Tree c)) now h = no_other (fault.Tree c) (λ e. cc) h.0
  answer_completes (Err (fault.NameTaken path)) now h = no_other (fault.NameTaken path) (λ e. cc) h.0
  answer_completes (Err (fault.Contended versions)) now h = no_other (fault.Contended versions) (λ e. cc) h.0

pub files_complete : (files : Objects) (meta : Fields) (ring : Ring) (table : Table) (id : List ℕ) (now_ms : ℕ) (drawn key : List ℕ) (answer : Result ℕ JobFault) (now : Option Objects)
    (stands : Stands files meta ring table) → stands.last < most_versions → new_master_of (table_of meta.state) ring id ≡ Ok key
    → RotatesFiles files ring id now_ms drawn answer now → IsComplete stands.last answer
files_complete files meta ring table id now_ms drawn key answer now stands few is h =
    answer_completes files ring id now_ms drawn stands.last key (last_is files stands.last stands.is_last few) (known files meta ring table id key stands few is) answer now h

pub rotation_completes : {S D : Type 0} (of : store.Ghosts S) (random : draws.Ghosts D) (ring : Ring) (id : List ℕ) (now_ms : ℕ)
    (answer : Result ℕ JobFault) (x y : S) (d e : D) → Rotates of random ring id now_ms answer x y d e → RotatesComplete of ring id answer x
rotation_completes of random ring id now_ms answer x y d e h = over (of.held x) h.answers
  where
    over : (o : Option Objects) → IfSome o (λ files. RotatesFiles files ring id now_ms h.bytes answer (of.held y))
        → IfSome o (λ files. (meta : Fields) (table : Table) (key : List ℕ) (stands : Stands files meta ring table)
        → stands.last < most_versions → new_master_of (table_of meta.state) ring id ≡ Ok key → IsComplete stands.last answer)
    over None a = tt
    over (Some files) a = λ meta table key stands few is. files_complete files meta ring table id now_ms h.bytes key answer (of.held y) stands few is a
