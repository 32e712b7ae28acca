use Rattle.std.proofs.Common.{◌≡◌, ◌+◌, ◌++◌, [], ◌∷◌, map, take, Some, arith, refl, sym, ap, ◌∙◌, add-one}
use Rattle.std.proofs.lemmas.List.{map-append}
use Rattle.std.proofs.Math.Seq.{take-suc}
use Rattle.serde_json.specs.View.{view}
use Rattle.icb_schema.specs.Reading.{all_read}
use Rattle.icb_meta.specs.Forms.{entry_in}
use Rattle.icb_edits.specs.Values.{entry_json, ordered}
use Rattle.icb_edits.proofs.HeldLemmas.{all_read_push}
use Rattle.icb_edits.proofs.keys.entries_json.Goals as goal

pub loop-entry-preserved : goal.loop-entry-preserved
loop-entry-preserved c =
    let i = c.loop-entry.entry-index in
    let es = c.args.entries.now in
    let e = c.entry-item.result in
    let next : take (i + 1) es ≡ take i es ++ e ∷ [] = rw (add-one, take-suc es i e (omega arith), sym c.entry-item.is) refl in
    let made : map entry_json (take (i + 1) es) ≡ map entry_json (take i es) ++ entry_json e ∷ [] = ap (map entry_json) next ∙ map-append entry_json (take i es) (e ∷ []) in
    let shown : map ordered (take (i + 1) es) ≡ map ordered (take i es) ++ ordered e ∷ [] = ap (map ordered) next ∙ map-append ordered (take i es) (e ∷ []) in
    record {
      json = ap (map view) c.in_ok-push.ensures.items ∙ map-append view c.loop-entry.values.items (c.in_ok-entry_json.field-0 ∷ [])
          ∙ rw (c.loop-entry.invariant.json, c.in_ok-entry_json.ensures.json) (sym made);
      reads = ap (all_read entry_in) made
          ∙ all_read_push entry_in (map entry_json (take i es)) (entry_json e) (map ordered (take i es)) (ordered e) c.loop-entry.invariant.reads c.in_ok-entry_json.ensures.reads
          ∙ ap Some (sym shown);
    }
