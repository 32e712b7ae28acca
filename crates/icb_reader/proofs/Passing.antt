-- Blocks of no records that were passed over, one after another.
use Rattle.std.proofs.Common.{◌≡◌, ℕ, List, Option, refl, ◌∙◌}
use Rattle.icb_container.specs.Known.{KnownFromTo}
use Rattle.icb_container.specs.Opened.{Opened, state_of}
use Rattle.icb_container.proofs.Knowledge.{known_none, known_through}
use Rattle.icb_reader.specs.Records.{filled_of}

-- what is found from the second place is what is found from the first one, and each byte in between is known
pub record Passed (old new : Opened) (known : List (Option ℕ)) (file : List ℕ) : Type 0 where
  pub same : filled_of (state_of old) file ≡ filled_of (state_of new) file
  pub there : KnownFromTo known old.place new.place

pub passed_none : (c : Opened) (known : List (Option ℕ)) (file : List ℕ) → Passed c c known file
passed_none c known file = record { same = refl; there = known_none known c.place }

pub passed_more : (a b c : Opened) (known : List (Option ℕ)) (file : List ℕ) → Passed a b known file → filled_of (state_of b) file ≡ filled_of (state_of c) file → KnownFromTo known b.place c.place → Passed a c known file
passed_more a b c known file p same there = record { same = p.same ∙ same; there = known_through known a.place b.place c.place p.there there }
