-- The search goes on from word to word.
use Rattle.std.proofs.Common.{◌∙◌, arith, map, rules, string_bytes, sym}
use Rattle.std.proofs.lemmas.List.{length-map}
use Rattle.icb_words.specs.OptionTables.{options_of}
use Rattle.icb_words.proofs.OptionLemmas.{first_step, hit, last_step, miss}
use Rattle.icb_words.proofs.options.misplaced.Goals as goal

pub loop-at-init : goal.loop-at-init
loop-at-init c = first_step _ _

pub loop-at-preserved : goal.loop-at-preserved
loop-at-preserved c =
    sym (miss (options_of c.args.options) (map string_bytes c.args.pairs.now) c.loop-at.at
    (rw length-map (omega arith)) (search rules)) ∙ c.loop-at.invariant

pub returns-then-not-branch-clause-first : goal.returns-then-not-branch-clause-first
returns-then-not-branch-clause-first c =
    sym (hit (options_of c.args.options) (map string_bytes c.args.pairs.now) c.loop-at.at
    (rw length-map (omega arith)) (search rules)) ∙ c.loop-at.invariant

pub returns-clause-first : goal.returns-clause-first
returns-clause-first c =
    sym (last_step (options_of c.args.options) (map string_bytes c.args.pairs.now) c.loop-at.at
    (rw length-map (omega arith))) ∙ c.loop-at.invariant
