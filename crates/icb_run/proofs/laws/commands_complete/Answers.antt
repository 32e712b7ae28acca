-- The laws are lemmas of proofs/CompletionLemmas.antt.
use Rattle.icb_run.proofs.CompletionLemmas.{cat_file_completes, create_completes, listing_completes, rotate_completes, scan_completes, seal_file_completes, text_completes}
use Rattle.icb_run.proofs.laws.commands_complete.Goals as goal

pub returns-clause-cat_file : goal.returns-clause-cat_file
returns-clause-cat_file c = cat_file_completes

pub returns-clause-seal_file : goal.returns-clause-seal_file
returns-clause-seal_file c = seal_file_completes

pub returns-clause-create : goal.returns-clause-create
returns-clause-create c = create_completes

pub returns-clause-listing : goal.returns-clause-listing
returns-clause-listing c = listing_completes

pub returns-clause-text : goal.returns-clause-text
returns-clause-text c = text_completes

pub returns-clause-scan : goal.returns-clause-scan
returns-clause-scan c = scan_completes

pub returns-clause-rotate : goal.returns-clause-rotate
returns-clause-rotate c = rotate_completes
