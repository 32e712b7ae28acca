-- A query as the definitions of tables have it.
use Rattle.std.specs.Prelude.{option_map}
use Rattle.icb_table.specs.Selection as asked
use Rattle.icb_scan.specs.declared.query.Query.{Query}
use Rattle.icb_scan.specs.declared.query.RangeWords.{RangeWords}

-- a column by its name, and the ends of a range of it
abbrev pub range_words : RangeWords → asked.RangeWords
range_words words = record { column = words.column; low = words.low; high = words.high }

-- what is asked
abbrev pub meant : Query → asked.Query
meant query = record {
  snapshot = query.snapshot;
  columns = query.columns;
  range = option_map range_words query.range;
  skip = query.skip;
  most = query.take;
}
