use Rattle.std.proofs.Common.{◌≡◌, ◌≤◌, [], length, option_map, MatchOption}
use Rattle.icb_types.specs.Words.{columns_from, parts_of}
use Rattle.icb_types.proofs.ColumnLemmas.{Read}
use Rattle.icb_types.proofs.WordLemmas.{parts_left, left_length}
use Rattle.icb_types.proofs.columns.TableSchema.read_words.Given as goal

abbrev pub invariant-loop-rest : goal.invariant-loop-rest
invariant-loop-rest l = record {
  read : Read l.columns;
  some : MatchOption l.rest (1 ≤ length l.columns) (λ _. Unit {0});
  same : columns_from l.columns (parts_left (option_map (λ t. t.now) l.rest)) ≡ columns_from [] (parts_of l.text);
}

abbrev pub decreases-loop-rest : goal.decreases-loop-rest
decreases-loop-rest l = left_length (option_map (λ t. t.now) l.rest)
