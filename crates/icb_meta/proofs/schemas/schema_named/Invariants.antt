use Rattle.std.proofs.Common.{◌≡◌, drop}
use Rattle.icb_meta.specs.Forms.{schema_named}
use Rattle.icb_meta.proofs.schemas.schema_named.Given as goal

abbrev pub invariant-loop-schema : goal.invariant-loop-schema
invariant-loop-schema l = schema_named l.id l.schemas ≡ schema_named l.id (drop l.schema-index l.schemas)
