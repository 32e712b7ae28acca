-- The five parts are the circuit.
use Rattle.std.proofs.Common.{refl}
use Rattle.icb_aes.specs.Circuit.{circuit}
use Rattle.icb_aes.proofs.CircuitLemmas.{circuit_holds}
use Rattle.icb_aes.proofs.circuit.sub_bytes.Goals as goal

pub returns : goal.returns
unfolding circuit
returns c = λ f h. circuit_holds c.args.q _ f (rw (c.outputs.ensures, c.products.ensures, c.inverted.ensures, c.middle.ensures, c.inputs-y.ensures) refl) h
