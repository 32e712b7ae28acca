-- Unions of two types, and of other numbers.
use Rattle.std.proofs.Common.{◌≡◌, ◌≢◌, List, [], ◌∷◌, length, get_or, map, refl, arith}
use Rattle.icb_schema.specs.Nodes.{form_of, tree_of, trees_of}
use Rattle.icb_schema.specs.declared.node.Node.{Node}
use Rattle.icb_schema.proofs.TreeLemmas.{tree_of_node}
use Rattle.icb_avro.specs.declared.value.Value.{Value}
use Rattle.icb_avro.specs.declared.value.Value.TheOpen.{Value-F}
use Rattle.icb_fields.specs.Fields.{beside_null, in_union, other}

pub of_two : (ns : List Node) (a b : Node) (v : Value-F Value) → length ns ≡ 2 → a ≡ get_or ns 0 a → b ≡ get_or ns 1 b
    → in_union (trees_of (map tree_of ns)) v ≡ beside_null (form_of a.kind) (form_of b.kind) v
of_two [] a b v h e f = absurd (let x : ⊥ = omega (arith, h) in x)
of_two (x ∷ []) a b v h e f = absurd (let x : ⊥ = omega (arith, h) in x)
of_two (x ∷ y ∷ []) a b v h e f = rw (e, f, tree_of_node x, tree_of_node y) refl
of_two (x ∷ y ∷ z ∷ ns) a b v h e f = absurd (let x : ⊥ = omega (arith, h) in x)

pub of_others : (ns : List Node) (v : Value-F Value) → length ns ≢ 2 → in_union (trees_of (map tree_of ns)) v ≡ other
of_others [] v h = refl
of_others (x ∷ []) v h = refl
of_others (x ∷ y ∷ []) v h = absurd (h refl)
of_others (x ∷ y ∷ z ∷ ns) v h = refl
