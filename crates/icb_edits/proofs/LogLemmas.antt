-- The last values of a list.
use Rattle.std.proofs.Common.{◌≡◌, ◌-◌, ℕ, List, length, map, drop, sym, ap, ◌∙◌}
use Rattle.std.proofs.lemmas.List.{drop-map, length-map}
use Rattle.serde_json.specs.View.{view}
use Rattle.serde_json.specs.declared.value.Value.{Value}
use Rattle.icb_edits.specs.Keys.{last_of}

pub last_kept : (values last : List Value) (extra : ℕ) → last ≡ drop extra values → extra ≡ length values - 100 → map view last ≡ last_of 100 (map view values)
last_kept values last extra tail is =
    ap (map view) tail ∙ sym (drop-map view extra values) ∙ ap (λ k. drop k (map view values)) (is ∙ ap (λ k. k - 100) (sym (length-map values view)))
