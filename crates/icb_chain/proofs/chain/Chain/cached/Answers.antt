-- A key that is kept goes first, and where none is the keys stay.
use Rattle.std.proofs.Common.{◌≡◌, ◌∙◌, None, sym, string_bytes}
use Rattle.icb_chain.proofs.KeptLemmas.{absent_kept, absent_key, found_kept, found_key, sound_cached}
use Rattle.icb_chain.proofs.chain.Chain.cached.Goals as goal

pub returns-then-not-promote-clause-key : goal.returns-then-not-promote-clause-key
returns-then-not-promote-clause-key c =
    absent_key string_bytes c.self.inside.keys c.args.id.now c.as_str.result.now c.args.self.now c.self.view_is c.as_str.ensures
    (sym c.promote.ensures.value ∙ c.if-not-promote.true)

pub returns-then-not-promote-clause-kept : goal.returns-then-not-promote-clause-kept
returns-then-not-promote-clause-kept c =
    absent_kept string_bytes c.self.inside.keys c.promote.new.self c.as_str.result.now c.args.self.now c.self.view_is
    (sym c.promote.ensures.value ∙ c.if-not-promote.true) c.len-count.ensures.valid.1 c.promote.ensures.entries

pub returns-clause-key : goal.returns-clause-key
returns-clause-key c =
    found_key string_bytes c.self.inside.keys c.promote.new.self c.args.id.now c.as_str.result.now c.as_str-2.result.now c.args.self.now c.copied.result
    c.self.view_is c.as_str.ensures c.as_str-2.ensures (sym c.promote.ensures.value ∙ c.if-not-promote.false)
    c.len-count.ensures.valid.1 c.len-count.ensures.valid.2 c.promote.ensures.entries (c.copied.ensures ∙ c.peek.ensures)

pub returns-clause-kept : goal.returns-clause-kept
returns-clause-kept c =
    found_kept string_bytes c.self.inside.keys c.promote.new.self c.args.id.now c.as_str.result.now c.as_str-2.result.now c.args.self.now c.copied.result
    c.self.view_is c.as_str.ensures c.as_str-2.ensures (sym c.promote.ensures.value ∙ c.if-not-promote.false)
    c.len-count.ensures.valid.1 c.len-count.ensures.valid.2 c.promote.ensures.entries (c.copied.ensures ∙ c.peek.ensures)

pub returns-then-not-promote-clause-sound : goal.returns-then-not-promote-clause-sound
returns-then-not-promote-clause-sound c table ring =
    sound_cached table ring c.args.id.now c.args.self.now _ None
    (absent_key string_bytes c.self.inside.keys c.args.id.now c.as_str.result.now c.args.self.now c.self.view_is c.as_str.ensures
    (sym c.promote.ensures.value ∙ c.if-not-promote.true))
    (absent_kept string_bytes c.self.inside.keys c.promote.new.self c.as_str.result.now c.args.self.now c.self.view_is
    (sym c.promote.ensures.value ∙ c.if-not-promote.true) c.len-count.ensures.valid.1 c.promote.ensures.entries)

pub returns-clause-sound : goal.returns-clause-sound
returns-clause-sound c table ring =
    sound_cached table ring c.args.id.now c.args.self.now _ c.copied.result
    (found_key string_bytes c.self.inside.keys c.promote.new.self c.args.id.now c.as_str.result.now c.as_str-2.result.now c.args.self.now c.copied.result
    c.self.view_is c.as_str.ensures c.as_str-2.ensures (sym c.promote.ensures.value ∙ c.if-not-promote.false)
    c.len-count.ensures.valid.1 c.len-count.ensures.valid.2 c.promote.ensures.entries (c.copied.ensures ∙ c.peek.ensures))
    (found_kept string_bytes c.self.inside.keys c.promote.new.self c.args.id.now c.as_str.result.now c.as_str-2.result.now c.args.self.now c.copied.result
    c.self.view_is c.as_str.ensures c.as_str-2.ensures (sym c.promote.ensures.value ∙ c.if-not-promote.false)
    c.len-count.ensures.valid.1 c.len-count.ensures.valid.2 c.promote.ensures.entries (c.copied.ensures ∙ c.peek.ensures))
