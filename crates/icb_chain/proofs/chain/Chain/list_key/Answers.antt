-- The entry, its sealer's key, and what it opens to.
use Rattle.std.proofs.Common.{inl, refl, sym}
use Rattle.icb_chain.specs.Opening.{keys_of}
use Rattle.icb_chain.specs.declared.opening.Refusal.TheVariants as refusal
use Rattle.icb_chain.proofs.ChainLemmas.{fault_handed, fault_opens, keeps_behind, keeps_handed, list_steps, no_list_entry, none_used, opened_used}
use Rattle.icb_chain.proofs.chain.Chain.list_key.Goals as goal

pub returns-in_default-clause-opens : goal.returns-in_default-clause-opens
returns-in_default-clause-opens c =
    fault_opens (refusal.NoKey c.args.entry) c.fault.result _ (no_list_entry (keys_of c.args.meta.now) c.args.ring.now c.args.entry.now (sym c.in_default.ensures)) c.fault.ensures

pub returns-in-Err-clause-opens : goal.returns-in-Err-clause-opens
returns-in-Err-clause-opens c =
    rw (list_steps (keys_of c.args.meta.now) c.args.ring.now c.args.entry.now c.in-Some.sealed.now c.in-Some-by.by (sym c.in-Some.ensures) c.in-Some-by.is)
    (fault_handed c.in-Err.fault _ _ c.in-Err.ensures.opens)

pub returns-in-Ok-Some-clause-opens : goal.returns-in-Ok-Some-clause-opens
returns-in-Ok-Some-clause-opens c =
    rw (
      list_steps (keys_of c.args.meta.now) c.args.ring.now c.args.entry.now c.in-Some.sealed.now c.in-Some-by.by (sym c.in-Some.ensures) c.in-Some-by.is,
      c.in-Ok.ensures.opens,
      ← c.in-Ok-Some.ensures,
      c.in-Ok-Some.field-0-is,
    ) refl

pub returns-in-Ok-None-clause-opens : goal.returns-in-Ok-None-clause-opens
returns-in-Ok-None-clause-opens c =
    fault_opens (refusal.KeyRefused c.args.entry) c.fault-in-Ok-None.result _
    (rw (
      list_steps (keys_of c.args.meta.now) c.args.ring.now c.args.entry.now c.in-Some.sealed.now c.in-Some-by.by (sym c.in-Some.ensures) c.in-Some-by.is,
      c.in-Ok.ensures.opens,
      ← c.in-Ok-None.ensures,
      c.in-Ok-None.field-0-is,
    ) refl) c.fault-in-Ok-None.ensures

pub returns-in_default-clause-kept : goal.returns-in_default-clause-kept
returns-in_default-clause-kept c = keeps_behind c.fault.result _ c.args.self.now c.args.self.now
    (sym (none_used (keys_of c.args.meta.now) c.args.ring.now c.args.entry.now c.args.self.now (sym c.in_default.ensures)))

pub returns-in-Err-clause-kept : goal.returns-in-Err-clause-kept
returns-in-Err-clause-kept c =
    keeps_handed (keys_of c.args.meta.now) c.args.ring.now c.args.entry.now c.in-Some.sealed.now c.in-Some-by.by c.in-Err.fault c.args.self.now c.kek.new.self
    (sym c.in-Some.ensures) c.in-Some-by.is c.in-Err.ensures.opens c.in-Err.ensures.stays

pub returns-in-Ok-Some-clause-kept : goal.returns-in-Ok-Some-clause-kept
returns-in-Ok-Some-clause-kept c =
    opened_used (keys_of c.args.meta.now) c.args.ring.now c.args.entry.now c.in-Some.sealed.now c.in-Some-by.by c.in-Ok.key c.args.self.now c.kek.new.self
    (sym c.in-Some.ensures) c.in-Some-by.is c.in-Ok.ensures.opens c.in-Ok.ensures.kept

pub returns-in-Ok-None-clause-kept : goal.returns-in-Ok-None-clause-kept
returns-in-Ok-None-clause-kept c = keeps_behind c.fault-in-Ok-None.result _ c.args.self.now c.kek.new.self
    (opened_used (keys_of c.args.meta.now) c.args.ring.now c.args.entry.now c.in-Some.sealed.now c.in-Some-by.by c.in-Ok.key c.args.self.now c.kek.new.self
    (sym c.in-Some.ensures) c.in-Some-by.is c.in-Ok.ensures.opens c.in-Ok.ensures.kept)

pub returns-in-Err-opened_metadata-clause-kept : goal.returns-in-Err-opened_metadata-clause-kept
returns-in-Err-opened_metadata-clause-kept c =
    inl (opened_used (keys_of c.args.meta.now) c.args.ring.now c.args.entry.now c.in-Some.sealed.now c.in-Some-by.by c.in-Ok.key c.args.self.now c.kek.new.self
    (sym c.in-Some.ensures) c.in-Some-by.is c.in-Ok.ensures.opens c.in-Ok.ensures.kept)
