-- The data, one after another, make the line.
use Rattle.std.proofs.Common.{◌≡◌, ◌∙◌, rules}
use Rattle.icb_types.specs.Lines.{line_by_data}
use Rattle.icb_types.proofs.RowLemmas.{line_of_pieces}
use Rattle.icb_generate.specs.Rows.{row_of}
use Rattle.icb_generate.proofs.rows.line_of.Goals as goal

pub returns : goal.returns
returns c =
    let pieces : c.row_end.new.line ≡ line_by_data (row_of c.args.seed c.args.number) = search rules in
    pieces ∙ line_of_pieces (row_of c.args.seed c.args.number)
