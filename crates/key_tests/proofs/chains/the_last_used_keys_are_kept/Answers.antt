use Rattle.key_tests.proofs.chains.the_last_used_keys_are_kept.Goals as goal

-- src/chains.rt
pub opens-requires-4 : goal.opens-requires-4
opens-requires-4 g c = c.kept-2.ensures _ _ c.opens-3.ensures
