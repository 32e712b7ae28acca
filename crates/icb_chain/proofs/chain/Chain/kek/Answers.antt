-- A kept key is the one that is opened, and what is kept stays sound.
use Rattle.std.proofs.Common.{◌≡◌, sym}
use Rattle.icb_chain.specs.Opening.{keys_of}
use Rattle.icb_chain.proofs.KeptLemmas.{sound_key, sound_used}
use Rattle.icb_chain.proofs.chain.Chain.kek.Goals as goal

pub returns-in-Some-clause-opens : goal.returns-in-Some-clause-opens
returns-in-Some-clause-opens c =
    sound_key (keys_of c.args.meta.now) c.args.ring.now c.args.id.now c.in-Some.key c.args.self.now c.requires c.in-Some.ensures.key

pub returns-in-Some-clause-sound : goal.returns-in-Some-clause-sound
returns-in-Some-clause-sound c =
    sound_used (keys_of c.args.meta.now) c.args.ring.now c.args.id.now c.in-Some.key c.args.self.now c.cached.new.self c.in-Some.ensures.kept c.requires
    (sound_key (keys_of c.args.meta.now) c.args.ring.now c.args.id.now c.in-Some.key c.args.self.now c.requires c.in-Some.ensures.key)

pub returns-in-Ok-keep-clause-sound : goal.returns-in-Ok-keep-clause-sound
returns-in-Ok-keep-clause-sound c =
    sound_used (keys_of c.args.meta.now) c.args.ring.now c.args.id.now c.in-Ok.key c.cached.new.self c.keep.new.self c.in-Ok-keep.ensures.kept
    (rw c.in_default.ensures.kept c.requires) c.in-Ok.ensures
