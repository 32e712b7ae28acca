use Rattle.key_tests.proofs.chains.a_used_key_stays.Goals as goal

-- src/chains.rt
pub opens-requires-4 : goal.opens-requires-4
opens-requires-4 g c = c.kept.ensures _ _ c.opens-3.ensures
