use Rattle.icb_table.proofs.ForeignLemmas.{committed_is_own, own_blocks_are_committed}
use Rattle.icb_table.proofs.laws.committed_is_own.Goals as goal

pub returns-clause-own : goal.returns-clause-own
returns-clause-own c = committed_is_own

pub returns-clause-honest : goal.returns-clause-honest
returns-clause-honest c = own_blocks_are_committed
