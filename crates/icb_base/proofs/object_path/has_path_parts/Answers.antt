-- The chain asks each piece between slashes.
use Rattle.std.proofs.Common.{◌==◌, rules}
use Rattle.std.proofs.lemmas.Iterator.Search.{all_from_yields_List}
use Rattle.std.proofs.lemmas.Iterator.Splits.{YieldsList-from_slice_split}
use Rattle.icb_base.specs.Paths.{is_path_part}
use Rattle.icb_base.proofs.object_path.has_path_parts.Goals as goal

pub returns : goal.returns
returns c =
    all_from_yields_List is_path_part _ _ c.all.result c.all.ensures.ran
    (YieldsList-from_slice_split _ (λ b. b == 47) c.args.text.now c.split.ensures.rest c.split.ensures.done
    c.split.ensures.closure (λ x b q called. search rules))
    (λ x b q called. search rules)
