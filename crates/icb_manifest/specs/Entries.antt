-- An entry of a manifest, by the ids of its fields (Apache Iceberg Table Spec, "Manifests").
use Rattle.std.specs.Prelude.{ℤ, pos, zero, suc, Result, Ok, Err}
use Rattle.icb_fields.specs.Fields.{Row, ◌>>=◌, long_at, needed_int, needed_row}
use Rattle.icb_manifest.specs.Files.{file_of}
use Rattle.icb_manifest.specs.declared.entry.Entry.{Entry}
use Rattle.icb_manifest.specs.declared.entry.EntryNumbers.{EntryNumbers}

-- a file that exists is 0, one that is added 1, one that is deleted 2
abbrev pub is_status : ℤ → Result ℤ ℤ
is_status (pos zero) = Ok (pos 0)
is_status (pos (suc zero)) = Ok (pos 1)
is_status (pos (suc (suc zero))) = Ok (pos 2)
is_status n = Err (pos 0)

-- whether the file exists, is added or is deleted
unfoldable pub status_of : Row → Result ℤ ℤ
status_of r = needed_int (pos 0) r >>= is_status

-- the numbers before the file
unfoldable pub numbers_of : Row → Result EntryNumbers ℤ
numbers_of r =
    status_of r >>= (λ status.
    long_at (pos 1) r >>= (λ snapshot.
    long_at (pos 3) r >>= (λ sequence.
    long_at (pos 4) r >>= (λ file_sequence.
    Ok (record {
      status = status;
      snapshot = snapshot;
      sequence = sequence;
      file_sequence = file_sequence;
    })))))

-- The entry that a record is, or the id of the first field in this order that isn't in its form;
-- the fields of its file are the last ones.
unfoldable pub entry_of : Row → Result Entry ℤ
entry_of r =
    numbers_of r >>= (λ numbers.
    needed_row (pos 2) r >>= (λ inner.
    file_of inner >>= (λ file.
    Ok (record {
      status = numbers.status;
      snapshot = numbers.snapshot;
      sequence = numbers.sequence;
      file_sequence = numbers.file_sequence;
      file = file;
    }))))
