-- One length, and behind it the other.
use Rattle.std.proofs.Common.{ap, ◌∙◌, refl, List, ℕ, ◌++◌, length}
use Rattle.icb_gcm.specs.Gcm.{bit_length}
use Rattle.icb_gcm.proofs.BytesLemmas.{second_part}
use Rattle.icb_gcm.proofs.sealing.lengths.Goals as goal

pub returns : goal.returns
returns c =
    second_part 8 8 c.copy_from_slice.new.self _ c.copy_from_slice-2.new.self c.copy_from_slice.ensures.len refl
    ∙ ap (λ (bs : List ℕ). bs ++ c.copy_from_slice-2.new.self) (c.copy_from_slice.ensures.after ∙ c.bit_length.ensures)
    ∙ ap (λ (bs : List ℕ). bit_length (length c.args.aad.now) ++ bs)
    (c.copy_from_slice-2.ensures.after ∙ c.bit_length-2.ensures)
