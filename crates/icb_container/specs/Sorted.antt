-- The properties of the code's own list.
use Rattle.std.specs.Prelude.{ℕ, List, map}
use Rattle.icb_container.specs.declared.properties.Property.{Property}

-- what the code's properties are
abbrev pub pairs : List Property → List (List ℕ × List ℕ)
pairs properties = map (λ p. (p.key.now, p.value.now)) properties
