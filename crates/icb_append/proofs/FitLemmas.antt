-- Jobs that are in step with a store.
use Rattle.std.proofs.Common.{Option, Some, None, sym, subst}
use Rattle.std.specs.Prelude.{IsSomeAnd}
use Rattle.icb_base.specs.KeyMetadata.{KeyRecord}
use Rattle.icb_base.specs.Objects.{Grows, Objects}
use Rattle.icb_chain.specs.Ring.{Ring}
use Rattle.icb_append.specs.Progress.{IsCommitting}
use Rattle.icb_append.specs.Steps.{FitsPlace, FitsWhenGrown, NewFits}
use Rattle.icb_append.specs.declared.place.Place.{Place}
use Rattle.icb_append.specs.declared.place.Place.TheVariants as place
use Rattle.icb_append.specs.declared.work.Work.{Work}
use Rattle.icb_append.proofs.HeldLemmas.{committing_kept, filed_kept, filing_kept, writing_kept}

pub new_fits : NewFits
new_fits lines job ring files new = subst (λ p. FitsPlace ring files p job.work) (sym new.place) tt

list_grown : (ring : Ring) (before now : Objects) (w : Work) (list : Option KeyRecord) → Grows before now
    → IsSomeAnd list (λ own. IsCommitting before ring w.tried w.draft w.manifest 1 own) → IsSomeAnd list (λ own. IsCommitting now ring w.tried w.draft w.manifest 1 own)
list_grown ring before now w None grows h = h
list_grown ring before now w (Some own) grows h = committing_kept before now grows ring w.tried w.draft w.manifest 1 own h

place_grown : (ring : Ring) (before now : Objects) (p : Place) (work : Option Work) → Grows before now → FitsPlace ring before p work → FitsPlace ring now p work
place_grown ring before now (place.Probing n) work grows h = tt
place_grown ring before now (place.Reading n) work grows h = tt
place_grown ring before now place.Filing None grows h = h
place_grown ring before now place.Filing (Some w) grows h = (filing_kept before now grows ring w.tried w.draft h.0, h.1, h.2)
place_grown ring before now (place.Listing parent) None grows h = h
place_grown ring before now (place.Listing parent) (Some w) grows h = (filed_kept before now grows ring w.tried w.draft w.manifest h.0, h.1)
place_grown ring before now place.Writing None grows h = h
place_grown ring before now place.Writing (Some w) grows h = writing_kept before now grows ring w.tried w.draft w.manifest w.parent h
place_grown ring before now place.Committing None grows h = h
place_grown ring before now place.Committing (Some w) grows h = list_grown ring before now w w.list grows h
place_grown ring before now place.Ended work grows h = tt

pub fits_when_grown : FitsWhenGrown
fits_when_grown job ring before now grows h = place_grown ring before now job.place job.work grows h
