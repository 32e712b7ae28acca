-- A row of a manifest list, by the ids of its fields (Apache Iceberg Table Spec, "Manifest Lists").
use Rattle.std.specs.Prelude.{ℤ, pos, zero, suc, List, [], ◌∷◌, Result, Ok, Err}
use Rattle.icb_fields.specs.Fields.{Row, ◌>>=◌, bytes_at, long_at, needed_int, needed_long}
use Rattle.icb_fields.specs.Fields.{needed_text}
use Rattle.icb_list.specs.declared.row.ListRow.{ListRow}
use Rattle.icb_list.specs.declared.row.RowNumbers.{RowNumbers}

-- data files are 0, delete files 1
abbrev pub is_content : ℤ → Result ℤ ℤ
is_content (pos zero) = Ok (pos 0)
is_content (pos (suc zero)) = Ok (pos 1)
is_content n = Err (pos 517)

-- what the files of a manifest hold
unfoldable pub content_of : Row → Result ℤ ℤ
content_of r = needed_int (pos 517) r >>= is_content

-- the numbers of added, existing and deleted files
unfoldable pub files_of : Row → Result (List ℤ) ℤ
files_of r =
    needed_int (pos 504) r >>= (λ added.
    needed_int (pos 505) r >>= (λ existing.
    needed_int (pos 506) r >>= (λ deleted.
    Ok (added ∷ existing ∷ deleted ∷ []))))

-- the numbers of added, existing and deleted rows
unfoldable pub rows_of : Row → Result (List ℤ) ℤ
rows_of r =
    needed_long (pos 512) r >>= (λ added.
    needed_long (pos 513) r >>= (λ existing.
    needed_long (pos 514) r >>= (λ deleted.
    Ok (added ∷ existing ∷ deleted ∷ []))))

-- the numbers between the path and the counts
unfoldable pub numbers_of : Row → Result RowNumbers ℤ
numbers_of r =
    needed_long (pos 501) r >>= (λ size.
    needed_int (pos 502) r >>= (λ spec.
    content_of r >>= (λ content.
    needed_long (pos 515) r >>= (λ sequence.
    needed_long (pos 516) r >>= (λ least.
    needed_long (pos 503) r >>= (λ snapshot.
    Ok (record {
      length = size;
      spec = spec;
      content = content;
      sequence = sequence;
      min_sequence = least;
      snapshot = snapshot;
    })))))))

-- The row that a record is, or the id of the first field in this order that isn't in its form.
unfoldable pub list_row : Row → Result ListRow ℤ
list_row r =
    needed_text (pos 500) r >>= (λ path.
    numbers_of r >>= (λ numbers.
    files_of r >>= (λ files.
    rows_of r >>= (λ rows.
    bytes_at (pos 519) r >>= (λ key.
    long_at (pos 520) r >>= (λ first.
    Ok (record {
      path = path;
      length = numbers.length;
      spec = numbers.spec;
      content = numbers.content;
      sequence = numbers.sequence;
      min_sequence = numbers.min_sequence;
      snapshot = numbers.snapshot;
      files = files;
      rows = rows;
      key = key;
      first_row = first;
    })))))))
