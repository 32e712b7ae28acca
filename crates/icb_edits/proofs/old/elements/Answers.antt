use Rattle.std.proofs.Common.{◌≡◌, IfOk, Result, Ok, Err, [], Option, Some, None, option_and_then, option_map, unwrap_or, refl, sym, ap, ◌∙◌}
use Rattle.serde_json.specs.Data.{Data, Items, no_items}
use Rattle.serde_json.specs.Find.{as_array, get}
use Rattle.serde_json.specs.View.{view}
use Rattle.icb_schema.specs.Reading.{as_list, list_of}
use Rattle.icb_schema.proofs.JsonLemmas.{list_of_items}
use Rattle.icb_edits.proofs.old.elements.Goals as goal

at_array : (o : Option Items) → list_of (unwrap_or o no_items) ≡ unwrap_or (option_map list_of o) []
at_array None = refl
at_array (Some ds) = refl

at_member : (o : Option Data) → list_of (unwrap_or (option_and_then as_array o) no_items) ≡ unwrap_or (option_and_then as_list o) []
at_member None = refl
at_member (Some d) = at_array (as_array d)

if_ok : {A E : Type 0} (P Q : A → Type 0) (r : Result A E) → ((a : A) → P a → Q a) → IfOk r P → IfOk r Q
if_ok P Q (Ok a) f h = f a h
if_ok P Q (Err e) f h = h

pub returns : goal.returns
returns c =
    if_ok _ _ c.array_in.result (λ values is. sym (list_of_items values.items) ∙ ap list_of is ∙ at_member (get c.args.name.now (view c.args.object.now))) c.array_in.ensures
