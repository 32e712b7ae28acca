-- The first version that isn't held.
use Rattle.std.proofs.Common.{◌≡◌, ◌⊎◌, ◌∙◌, ◌≤◌, ◌<◌, ◌+◌, ◌-◌, ◌==◌, ℕ, suc, zero, Bool, true, false, refl, sym, ap, arith, inl, inr}
use Rattle.std.proofs.Common.{Option, Some, None, Result, Ok, Err}
use Rattle.std.specs.Prelude.{IfSome}
use Rattle.std.proofs.lemmas.Bool.{cases_lt}
use Rattle.std.proofs.lemmas.Bool.Decides.{nat_tests}
use Rattle.icb_base.specs.Objects.{Objects}
use Rattle.icb_base.specs.declared.storage.Store as store
use Rattle.icb_base.specs.declared.limits.Limited.TheVariants as limit
use Rattle.icb_tree.specs.Laws.{AreHeld, CurrentIsLast, FullIsHeld, NoTableIsFree}
use Rattle.icb_tree.specs.Reading.{Answers, ReadsOnly}
use Rattle.icb_tree.specs.Versions.{first_free, holds_version, last_of, last_version, most_versions}
use Rattle.icb_tree.specs.declared.fault.CurrentFault.{CurrentFault}
use Rattle.icb_tree.specs.declared.fault.CurrentFault.TheVariants as fault

-- ---- the steps of the loop

-- reads in a row that all pass are reads
pub reads_on : {Self : Type 0} (of : store.Ghosts Self) (fault : Type 0) (before mid now : Self)
    → (of.keeps before mid → of.keeps mid now → of.keeps before now) → (fault → ⊥)
    → ReadsOnly of ⊥ before mid → ReadsOnly of fault mid now → ReadsOnly of ⊥ before now
reads_on of fault before mid now twice passes first next =
    let early = first.count.stays (λ never. never) in
    let late = next.count.stays passes in
    let same = late ∙ early in
    record {
      same = next.same ∙ first.same;
      count = record { later = omega (arith, same); rose = λ never. absurd never; stays = λ _. same };
      kept = twice first.kept next.kept;
    }

-- so many versions are left from one on, and one fewer from the next
one_fewer : (n : ℕ) → n < 1000002 → 1000002 - n ≡ suc (1000002 - (n + 1))
one_fewer n below = omega (arith, below)

-- a version that is held is passed over
passed : (files : Objects) (n : ℕ) → n < 1000002 → holds_version files n ≡ true
    → first_free files (1000002 - n) n ≡ first_free files (1000002 - (n + 1)) (n + 1)
unfolding first_free
passed files n below held = rw (one_fewer n below, held) refl

-- one that isn't is the first
stopped : (files : Objects) (n : ℕ) → n < 1000002 → holds_version files n ≡ false
    → first_free files (1000002 - n) n ≡ Some n
unfolding first_free
stopped files n below held = rw (one_fewer n below, held) refl

-- behind the last none is left
ended : (files : Objects) (n : ℕ) → 1000002 ≤ n → first_free files (1000002 - n) n ≡ None
unfolding first_free
ended files n past = let e : 1000002 - n ≡ 0 = omega (arith, past) in rw e refl

-- the search goes on behind a version that is held
pub goes_on : (told : Option Objects) (n : ℕ) (held : Bool) → n < 1000002 → held ≡ true
    → IfSome told (λ files. first_free files (1000002 - n) n ≡ first_free files 1000001 1)
    → IfSome told (λ files. held ≡ holds_version files n)
    → IfSome told (λ files. first_free files (1000002 - (n + 1)) (n + 1) ≡ first_free files 1000001 1)
goes_on None n held below held_is before is = tt
goes_on (Some files) n held below held_is before is = sym (passed files n below (sym is ∙ held_is)) ∙ before

-- what is found is answered
answers_own : (r : Result ℕ CurrentFault) → Answers (λ n. n) r r
answers_own (Ok n) = refl
answers_own (Err fault.NoTable) = refl
answers_own (Err (fault.Limit what number)) = refl
answers_own (Err (fault.BadMeta field)) = refl
answers_own (Err fault.Store) = tt
answers_own (Err fault.NoMemory) = tt

-- what the first version that isn't held makes of the current one
answers_last : (files : Objects) (free : Option ℕ) → first_free files 1000001 1 ≡ free
    → Answers (λ n. n) (last_version files) (last_of free)
unfolding last_version
answers_last files free is = rw is (answers_own (last_of free))

-- at a version that isn't held the search ends
pub stops : (told : Option Objects) (n : ℕ) (held : Bool) (r : Result ℕ CurrentFault) → n < 1000002 → held ≡ false
    → IfSome told (λ files. first_free files (1000002 - n) n ≡ first_free files 1000001 1)
    → IfSome told (λ files. held ≡ holds_version files n) → r ≡ last_of (Some n)
    → IfSome told (λ files. Answers (λ n. n) (last_version files) r)
stops None n held r below no_one before free is = tt
stops (Some files) n held r below no_one before free is =
    rw is (answers_last files (Some n) (sym before ∙ stopped files n below (sym free ∙ no_one)))

-- and where all are held
pub is_full : (told : Option Objects) (n : ℕ) → 1000002 ≤ n
    → IfSome told (λ files. first_free files (1000002 - n) n ≡ first_free files 1000001 1)
    → IfSome told (λ files. Answers (λ n. n) (last_version files) (Err (fault.Limit limit.Versions 1000000)))
is_full None n past before = tt
is_full (Some files) n past before = answers_last files None (sym before ∙ ended files n past)

-- ---- the laws

-- what the first version says that isn't held: those from here to it are
record IsFree (files : Objects) (from n : ℕ) : Type 0 where
  pub from_on : from ≤ n
  pub free : holds_version files n ≡ false
  pub before : (v : ℕ) → from ≤ v → v < n → holds_version files v ≡ true

-- from one version on, those behind it and itself
with_first : (files : Objects) (from end : ℕ) → holds_version files from ≡ true
    → ((v : ℕ) → from + 1 ≤ v → v < end → holds_version files v ≡ true)
    → (v : ℕ) → from ≤ v → v < end → holds_version files v ≡ true
with_first files from end held rest v there below = by (cases_lt from v)
  where
    by : from < v ⊎ v ≤ from → holds_version files v ≡ true
    by (inl behind) = rest v (omega (arith, behind)) below
    by (inr same) = let e : from ≡ v = omega (arith, same, there) in rw e at held

-- a version that is held is behind none that isn't
behind_held : (files : Objects) (from n : ℕ) → holds_version files from ≡ true → IsFree files (from + 1) n
    → IsFree files from n
behind_held files from n held rest = record {
  from_on = let next = rest.from_on in omega (arith, next);
  free = rest.free;
  before = with_first files from n held rest.before;
}

-- one that isn't held is the first
is_first : (files : Objects) (from n : ℕ) → holds_version files from ≡ false → from ≡ n → IsFree files from n
is_first files from n free e = record {
  from_on = omega (arith, e);
  free = rw e at free;
  before = λ v there below. absurd (let never : ⊥ = omega (arith, there, below, e) in never);
}

-- the version that is found
found : (files : Objects) (more from n : ℕ) → first_free files more from ≡ Some n → IsFree files from n
unfolding first_free
found files zero from n is = cc
found files (suc more) from n is = by (found files more (from + 1) n) (holds_version files from) refl
  where
    by : (first_free files more (from + 1) ≡ Some n → IsFree files (from + 1) n)
        → (held : Bool) → holds_version files from ≡ held → IsFree files from n
    by rest true held = behind_held files from n held (rest (rw held at is))
    by rest false held = is_first files from n held (let here : Some from ≡ Some n = rw held at is in cc)

-- where none is found all are held
all_held : (files : Objects) (more from : ℕ) → first_free files more from ≡ None
    → (v : ℕ) → from ≤ v → v < from + more → holds_version files v ≡ true
unfolding first_free
all_held files zero from is =
    λ v there below. absurd (let never : ⊥ = omega (arith, there, below) in never)
all_held files (suc more) from is = by (all_held files more (from + 1)) (holds_version files from) refl
  where
    by : (first_free files more (from + 1) ≡ None
        → (v : ℕ) → from + 1 ≤ v → v < from + 1 + more → holds_version files v ≡ true)
        → (held : Bool) → holds_version files from ≡ held
        → (v : ℕ) → from ≤ v → v < from + suc more → holds_version files v ≡ true
    by rest true held = with_first files from (from + suc more) held
        (λ v there below. rest (rw held at is) v there (omega (arith, below)))
    by rest false held = absurd (let here : Some from ≡ None = rw held at is in cc)

-- where all are held none is found
none_free : (files : Objects) (more from : ℕ)
    → ((v : ℕ) → from ≤ v → v < from + more → holds_version files v ≡ true)
    → first_free files more from ≡ None
unfolding first_free
none_free files zero from all = refl
none_free files (suc more) from all =
    rw (all from (omega arith) (omega arith))
    (none_free files more (from + 1) (λ v there below. all v (omega (arith, there)) (omega (arith, below))))

-- no version but the first makes it that there is no table
table_from_2 : (free : ℕ) → 1 ≤ free → (free == 1) ≡ false → 2 ≤ free
table_from_2 free some other = grind (arith, nat_tests)

-- which version is current where one is
pub current_is_last : CurrentIsLast
unfolding last_version
current_is_last files n is = by (first_free files 1000001 1) refl
  where
    from_free : (free : ℕ) → IsFree files 1 free → last_of (Some free) ≡ Ok n → (none : Bool) → (free == 1) ≡ none
        → (1 ≤ n) × AreHeld files n × (holds_version files (n + 1) ≡ false)
    from_free free first some true none = absurd (let refused : Err fault.NoTable ≡ Ok n = rw none at some in cc)
    from_free free first some false other =
        let last : Ok (free - 1) ≡ Ok n = rw other at some in
        let two = table_from_2 free first.from_on other in
        let e : free - 1 ≡ n = cc in
        let next : free ≡ n + 1 = omega (arith, e, two) in (
          omega (arith, next, two),
          (λ v there below. first.before v there (omega (arith, next, below))),
          rw next at first.free,
        )

    by : (free : Option ℕ) → first_free files 1000001 1 ≡ free
        → (1 ≤ n) × AreHeld files n × (holds_version files (n + 1) ≡ false)
    by None full = absurd (let refused : last_of None ≡ Ok n = rw full at is in cc)
    by (Some free) first = from_free free (found files 1000001 1 free first) (rw first at is) (free == 1) refl

-- a version that isn't held is the first from it on
free_here : (files : Objects) (count more n : ℕ) → count ≡ suc more → holds_version files n ≡ false
    → first_free files count n ≡ Some n
unfolding first_free
free_here files count more n e free = rw (e, free) refl

-- there is no table where version 1 isn't held
no_table : (files : Objects) → holds_version files 1 ≡ false → last_version files ≡ Err fault.NoTable
unfolding last_version
no_table files free =
    let first = free_here files 1000001 1000000 1 (omega arith) free in rw first refl

-- and only there
only_no_table : (files : Objects) → last_version files ≡ Err fault.NoTable → holds_version files 1 ≡ false
unfolding last_version
only_no_table files is = by (first_free files 1000001 1) refl
  where
    from_free : (free : ℕ) → IsFree files 1 free → last_of (Some free) ≡ Err fault.NoTable → (none : Bool)
        → (free == 1) ≡ none → holds_version files 1 ≡ false
    from_free free first some true none = let e : free ≡ 1 = grind (arith, nat_tests) in rw e at first.free
    from_free free first some false other =
        absurd (let last : Ok (free - 1) ≡ Err fault.NoTable = rw other at some in cc)

    by : (free : Option ℕ) → first_free files 1000001 1 ≡ free → holds_version files 1 ≡ false
    by None full = absurd (let refused : last_of None ≡ Err fault.NoTable = rw full at is in cc)
    by (Some free) first = from_free free (found files 1000001 1 free first) (rw first at is) (free == 1) refl

pub no_table_is_free : NoTableIsFree
no_table_is_free files = (only_no_table files, no_table files)

-- there are too many versions where all are held
full : (files : Objects) → AreHeld files 1000001
    → last_version files ≡ Err (fault.Limit limit.Versions most_versions)
unfolding last_version
full files all =
    let none = none_free files 1000001 1 (λ v there below. all v there (omega (arith, below))) in rw none refl

-- and only there
only_full : (files : Objects) → last_version files ≡ Err (fault.Limit limit.Versions most_versions)
    → AreHeld files 1000001
unfolding last_version
only_full files is = by (first_free files 1000001 1) refl
  where
    from_free : (free : ℕ) → last_of (Some free) ≡ Err (fault.Limit limit.Versions most_versions)
        → (none : Bool) → (free == 1) ≡ none → AreHeld files 1000001
    from_free free some true none =
        absurd (let refused : Err fault.NoTable ≡ Err (fault.Limit limit.Versions most_versions) = rw none at some in cc)
    from_free free some false other =
        absurd (let last : Ok (free - 1) ≡ Err (fault.Limit limit.Versions most_versions) = rw other at some in cc)

    by : (free : Option ℕ) → first_free files 1000001 1 ≡ free → AreHeld files 1000001
    by None none = λ v there below. all_held files 1000001 1 none v there (omega (arith, below))
    by (Some free) first = from_free free (rw first at is) (free == 1) refl

pub full_is_held : FullIsHeld
full_is_held files = (only_full files, full files)
