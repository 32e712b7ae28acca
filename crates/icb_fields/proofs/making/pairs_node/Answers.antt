use Rattle.std.proofs.Common.{◌≡◌, [], ◌∷◌, ◌∙◌, ap, map, refl}
use Rattle.icb_schema.specs.Nodes.{Part, fields_of, part_of}
use Rattle.icb_schema.specs.declared.node.Field.{Field}
use Rattle.icb_schema.proofs.TreeLemmas.{tree_of_made, form_of_array, form_of_int}
use Rattle.icb_fields.proofs.making.pairs_node.Goals as goal

-- two fields are these parts
two_parts : (f g : Field) (p q : Part) → part_of f ≡ p → part_of g ≡ q → fields_of (map part_of (f ∷ g ∷ [])) ≡ fields_of (p ∷ q ∷ [])
two_parts f g p q e k = ap (λ x. fields_of (x ∷ part_of g ∷ [])) e ∙ ap (λ x. fields_of (p ∷ x ∷ [])) k

pub returns : goal.returns
returns c =
    rw (
      tree_of_made,
      form_of_array,
      c.in_ok-items.ensures,
      c.in_ok-record_node.ensures,
      c.as_str.ensures.value,
      c.in_ok-name.ensures,
      c.in_ok-push-2.ensures.ok,
      c.in_ok-push.ensures.ok,
      c.new-fields.ensures,
      c.in_ok-from_str.ensures,
      two_parts c.in_ok-field.field-0 c.in_ok-field-2.field-0 _ _ c.in_ok-field.ensures c.in_ok-field-2.ensures,
      c.bare.ensures,
      form_of_int,
    ) refl
