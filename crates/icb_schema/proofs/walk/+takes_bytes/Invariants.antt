use Rattle.std.proofs.Common.{◌≡◌, drop, map}
use Rattle.icb_schema.specs.Shape.{any_takes_bytes, shapes_of, shape_of}
use Rattle.icb_schema.proofs.walk.+takes_bytes.Given as goal

abbrev pub invariant-loop-field : goal.invariant-loop-field
invariant-loop-field l = any_takes_bytes (shapes_of (map (λ f. shape_of f.node) l.field-items)) ≡ any_takes_bytes (shapes_of (map (λ f. shape_of f.node) (drop l.field-index l.field-items)))
