use Rattle.icb_written.proofs.PlainLemmas.{sealed_is_plain, sealed_rows_are_read}
use Rattle.icb_written.proofs.laws.sealed_files_show.Goals as goal

pub returns-clause-plain : goal.returns-clause-plain
returns-clause-plain c = sealed_is_plain

pub returns-clause-rows : goal.returns-clause-rows
returns-clause-rows c = sealed_rows_are_read
