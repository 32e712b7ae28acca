-- What a contract wants of a value that a type is seen as: a code of its own.
use Rattle.std.specs.Prelude.{ℕ, List, refl}
use Rattle.std.specs.Coded.{Coded, code_by, coded×, coded_list, coded_ℕ}
use Rattle.icb_chain.specs.Kept.{Kept}

-- the code of the keys that are kept: that of their pairs and their capacity
abbrev pub kept_code : Coded Kept
kept_code = code_by (List (List ℕ × List ℕ) × ℕ)
    (coded× (coded_list (coded× (coded_list coded_ℕ) (coded_list coded_ℕ))) coded_ℕ)
    (λ k. (k.pairs, k.capacity)) (λ p. record { pairs = p.0; capacity = p.1 }) (λ _. refl)
