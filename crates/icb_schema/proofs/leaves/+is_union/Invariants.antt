use Rattle.icb_schema.proofs.leaves.+is_union.Given as goal

abbrev pub decreases-is_union : goal.decreases-is_union
decreases-is_union l = l.levels
