-- A data file of a manifest, by the ids of its fields (Apache Iceberg Table Spec, "Manifests").
use Rattle.std.specs.Prelude.{ℤ, pos, Result, Ok}
use Rattle.icb_fields.specs.Fields.{Row, ◌>>=◌, bytes_at, long_at, needed_int, needed_long}
use Rattle.icb_fields.specs.Fields.{needed_text}
use Rattle.icb_manifest.specs.Maps.{maps_of}
use Rattle.icb_manifest.specs.declared.file.DataFile.{DataFile}

-- The file that a record is, or the id of the first field in this order that isn't in its form. Its
-- partition isn't looked at.
unfoldable pub file_of : Row → Result DataFile ℤ
file_of r =
    needed_int (pos 134) r >>= (λ content.
    needed_text (pos 100) r >>= (λ path.
    needed_text (pos 101) r >>= (λ format.
    needed_long (pos 103) r >>= (λ records.
    needed_long (pos 104) r >>= (λ size.
    maps_of r >>= (λ maps.
    bytes_at (pos 131) r >>= (λ key.
    long_at (pos 142) r >>= (λ first.
    Ok (record {
      content = content;
      path = path;
      format = format;
      records = records;
      size = size;
      values = maps.values;
      nulls = maps.nulls;
      lower = maps.lower;
      upper = maps.upper;
      key = key;
      first_row = first;
    })))))))))
