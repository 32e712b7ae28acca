-- How what is written makes an answer.
use Rattle.std.proofs.Common.{◌≡◌, ◌≢◌, ◌∙◌, ◌++◌, ℕ, List, [], Option, Some, None, refl, sym, ap}
use Rattle.std.proofs.Common.{append-nil, append_assoc, inl, inr}
use Rattle.icb_base.specs.Transfers.{WroteFront}
use Rattle.icb_run.specs.Answers.{Appends, AppendsFront, TellsLine}
use Rattle.icb_run.specs.declared.status.Status.{Status}
use Rattle.icb_run.specs.declared.status.Status.TheVariants as status

-- writing nothing is writing a front of any text
pub wrote_nothing : (out : Option (List ℕ)) (text : List ℕ) → AppendsFront out out text
wrote_nothing None text = tt
wrote_nothing (Some bytes) text = record {
  front = [];
  missing = text;
  whole = refl;
  is = ap Some (sym (append-nil bytes));
}

-- nothing more was written
pub appended_nothing : (out : Option (List ℕ)) → Appends out out []
appended_nothing None = tt
appended_nothing (Some bytes) = ap Some (sym (append-nil bytes))

-- a text and then another
pub appended_more : (before mid now : Option (List ℕ)) (first second : List ℕ)
    → Appends before mid first → Appends mid now second → Appends before now (first ++ second)
appended_more None mid now first second wrote more = tt
appended_more (Some bytes) mid now first second wrote more =
    let all : now ≡ Some ((bytes ++ first) ++ second) = rw wrote at more in
    all ∙ ap Some (append_assoc bytes first second)

-- a text and then a front of another
pub appended_front : (before mid now : Option (List ℕ)) (first second rest : List ℕ)
    → Appends before mid first → AppendsFront mid now second
    → AppendsFront before now ((first ++ second) ++ rest)
appended_front None mid now first second rest wrote more = tt
appended_front (Some bytes) mid now first second rest wrote more =
    let front : WroteFront now (bytes ++ first) second = rw wrote at more in
    record {
      front = first ++ front.front;
      missing = front.missing ++ rest;
      whole = simp append_assoc (ap (λ (t : List ℕ). first ++ t) (sym (append_assoc front.front front.missing rest) ∙ ap (λ (t : List ℕ). t ++ rest) front.whole));
      is = front.is ∙ ap Some (append_assoc bytes first front.front);
    }

-- a line that is told has no other status than Ok or that of the output
pub told_other : (other : Status) → other ≢ status.Ok → other ≢ status.OutputFault → (line : List ℕ)
    (before now : Option (List ℕ)) (s : Status) → TellsLine line before now s → s ≢ other
told_other other no_ok no_output line before now s (inl told) is = no_ok (sym is ∙ told.0)
told_other other no_ok no_output line before now s (inr told) is = no_output (sym is ∙ told.0)
