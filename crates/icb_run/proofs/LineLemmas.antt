-- A text that is known in one grouping is known in another.
use Rattle.std.proofs.Common.{◌≡◌, ◌∙◌, ℕ, List, Result, Ok, Err}
use Rattle.std.specs.Prelude.{IfOk}

-- the text that was made is the one that is meant
pub same_text : {T E : Type 0} (text : T → List ℕ) (made meant : List ℕ) (result : Result T E)
    → made ≡ meant → IfOk result (λ x. text x ≡ made) → IfOk result (λ x. text x ≡ meant)
same_text text made meant (Ok x) e h = h ∙ e
same_text text made meant (Err fault) e h = tt
