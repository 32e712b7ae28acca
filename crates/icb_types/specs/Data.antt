-- A datum, owned or borrowed.
use Rattle.icb_types.specs.declared.datum.Datum.{Datum}
use Rattle.icb_types.specs.declared.datum.Datum.TheVariants as datum
use Rattle.icb_types.specs.declared.datum.DatumRef.{DatumRef}
use Rattle.icb_types.specs.declared.datum.DatumRef.TheVariants as borrowed

-- the datum that a borrowed one is
abbrev pub seen : DatumRef → Datum
seen borrowed.Null = datum.Null
seen (borrowed.Boolean b) = datum.Boolean b
seen (borrowed.Int n) = datum.Int n
seen (borrowed.Long n) = datum.Long n
seen (borrowed.Date days) = datum.Date days
seen (borrowed.Time time) = datum.Time time
seen (borrowed.Timestamp time) = datum.Timestamp time
seen (borrowed.TimestampTz time) = datum.TimestampTz time
seen (borrowed.Text text) = datum.Text text.now
seen (borrowed.Uuid id) = datum.Uuid id
seen (borrowed.Fixed bytes) = datum.Fixed bytes.now
seen (borrowed.Binary bytes) = datum.Binary bytes.now
