-- The first word names the command.
use Rattle.std.proofs.Common.{rules}
use Rattle.icb_words.specs.Words.{command_of}
use Rattle.icb_words.proofs.WordLemmas.{steps}
use Rattle.icb_words.proofs.words.read_words.Goals as goal

pub returns-in_err-word_at-clause-read : goal.returns-in_err-word_at-clause-read
unfolding command_of
returns-in_err-word_at-clause-read c = search (rules, steps)

pub returns-in-text-clause-read : goal.returns-in-text-clause-read
unfolding command_of
returns-in-text-clause-read c = search (rules, steps)

pub returns-in-text-2-clause-read : goal.returns-in-text-2-clause-read
unfolding command_of
returns-in-text-2-clause-read c = search (rules, steps)

pub returns-in-text-3-clause-read : goal.returns-in-text-3-clause-read
unfolding command_of
returns-in-text-3-clause-read c = search (rules, steps)

pub returns-in-text-4-clause-read : goal.returns-in-text-4-clause-read
unfolding command_of
returns-in-text-4-clause-read c = search (rules, steps)

pub returns-in_default-clause-read : goal.returns-in_default-clause-read
unfolding command_of
returns-in_default-clause-read c = search (rules, steps)

pub returns-in-snapshots-clause-read : goal.returns-in-snapshots-clause-read
unfolding command_of
returns-in-snapshots-clause-read c = search (rules, steps)

pub returns-in-keys-clause-read : goal.returns-in-keys-clause-read
unfolding command_of
returns-in-keys-clause-read c = search (rules, steps)

pub returns-in-create-clause-read : goal.returns-in-create-clause-read
unfolding command_of
returns-in-create-clause-read c = search (rules, steps)

pub returns-in-append-clause-read : goal.returns-in-append-clause-read
unfolding command_of
returns-in-append-clause-read c = search (rules, steps)

pub returns-in-scan-clause-read : goal.returns-in-scan-clause-read
unfolding command_of
returns-in-scan-clause-read c = search (rules, steps)

pub returns-in-rotate-clause-read : goal.returns-in-rotate-clause-read
unfolding command_of
returns-in-rotate-clause-read c = search (rules, steps)
