-- What a call answers beside its definition.
use Rattle.std.specs.Prelude.{◌≡◌, Result, Ok, Err}
use Rattle.icb_schema.specs.declared.fault.SchemaFault.{SchemaFault}
use Rattle.icb_schema.specs.declared.fault.SchemaFault.TheVariants as fault

-- the definition's value or its refusal, or want of memory
abbrev pub Gives : {A B : Type 0} → (A → B) → Result A SchemaFault → Result B SchemaFault → Type 0
Gives view (Ok a) r = r ≡ Ok (view a)
Gives view (Err fault.NoMemory) r = Unit {0}
Gives view (Err fault.Json) r = r ≡ Err fault.Json
Gives view (Err fault.Nodes) r = r ≡ Err fault.Nodes
Gives view (Err (fault.Depth n)) r = r ≡ Err (fault.Depth n)
Gives view (Err (fault.Shape n)) r = r ≡ Err (fault.Shape n)
Gives view (Err (fault.Recursive n)) r = r ≡ Err (fault.Recursive n)
