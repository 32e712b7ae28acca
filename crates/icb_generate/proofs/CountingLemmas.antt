-- What a call counts: one that fails ends the counting, and a put counts one object.
use Rattle.std.proofs.Common.{◌≡◌, ◌≤◌, ◌+◌, ◌-◌, ◌^◌, ◌∙◌, ℕ, List, Option, Some, None, Ok, true, cond, min, ap, subst, refl, arith}
use Rattle.std.specs.Prelude.{IfSome, IsSomeAnd, is_some}
use Rattle.std.specs.FinMap.{len, len-insert}
use Rattle.std.specs.Cmp.Lexicographic.{nat_list_cmp_total}
use Rattle.icb_base.specs.Causes.{Blames, Rose}
use Rattle.icb_base.specs.Counts.{raised}
use Rattle.icb_base.specs.Objects.{Objects, Puts, object_at, with_object}
use Rattle.icb_base.specs.declared.storage.Put.{Put}
use Rattle.icb_base.specs.declared.storage.Put.TheVariants as put
use Rattle.icb_generate.specs.Counting.{Counted, Counts, CountsObjects}

-- a call that failed is a fault
pub failed_blames : (before now : ℕ) → before ≤ 2 ^ 64 - 1 → now ≡ min (before + 1) (2 ^ 64 - 1)
    → Blames (true ≡ true) before now
failed_blames before now fits is = record {
  later = omega (arith, fits, is);
  rose = λ _. omega (arith, is);
  stays = λ none. absurd (none refl);
}

-- the objects aren't counted further behind a call that failed
pub counts_failed : (x y : Counted) → x.failures ≤ 2 ^ 64 - 1
    → y.failures ≡ min (x.failures + 1) (2 ^ 64 - 1)
    → x.faults ≤ y.faults → Rose x.faults y.faults → Counts x y
counts_failed x y fits is later risen = record {
  later = omega (arith, fits, is);
  faults_later = later;
  objects = λ none. absurd (omega (arith, none, is));
  stays = λ none. absurd (omega (arith, none, is));
  rose = λ _ _. risen;
}

-- one more object is held where none was
one_more : (files : Objects) (path bytes : List ℕ) → object_at files path ≡ None
    → len (with_object files path bytes) ≡ len files + 1
one_more files path bytes none = len-insert nat_list_cmp_total files path bytes
    ∙ ap (λ b. cond (is_some b) (len files) (len files + 1)) none

put_told : (held now : Option Objects) (path bytes : List ℕ) (puts puts_now : ℕ)
    → puts_now ≡ raised puts 1 → IfSome held (λ files. Puts files path bytes now (Ok put.Done))
    → IfSome held (λ files. IsSomeAnd now (CountsObjects puts puts_now files))
put_told None now path bytes puts puts_now is answers = tt
put_told (Some files) now path bytes puts puts_now is answers =
    let more : len (with_object files path bytes) ≡ len files + 1 = one_more files path bytes answers.0 in
    rw answers.1 (record { later = omega (arith, more); count = omega (arith, is, more) })

-- a put counts one object
pub counts_put : (held now : Option Objects) (path bytes : List ℕ) (p : Put) (puts puts_now failures faults faults_now : ℕ)
    → p ≡ put.Done → puts ≤ 2 ^ 64 - 1 → puts_now ≡ min (puts + 1) (2 ^ 64 - 1) → faults_now ≡ faults
    → IfSome held (λ files. Puts files path bytes now (Ok p))
    → Counts (record { held = held; faults = faults; puts = puts; failures = failures })
    (record { held = now; faults = faults_now; puts = puts_now; failures = failures })
counts_put held now path bytes p puts puts_now failures faults faults_now is_done fits is same answers = record {
  later = omega arith;
  faults_later = omega (arith, same);
  objects = λ none. put_told held now path bytes puts puts_now (omega (arith, is, fits))
      (subst (λ (q : Put). IfSome held (λ files. Puts files path bytes now (Ok q))) is_done answers);
  stays = λ none. same;
  rose = λ none some. absurd (some none);
}
