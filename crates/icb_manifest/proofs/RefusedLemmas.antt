-- A refusal of a part is one of the whole.
use Rattle.std.proofs.Common.{◌≡◌, ℕ, ℤ, List, pos, Ok, Err, refl}
use Rattle.icb_fields.specs.Fields.{Row, needed_int, needed_long, needed_row, needed_text}
use Rattle.icb_fields.specs.Answers.{Makes}
use Rattle.icb_fields.specs.declared.fault.FieldFault.{FieldFault}
use Rattle.icb_fields.specs.declared.fault.FieldFault.TheVariants as fault
use Rattle.icb_manifest.specs.Maps.{bytes_at, longs_at, map_ids, maps_of}
use Rattle.icb_manifest.specs.Files.{file_of}
use Rattle.icb_manifest.specs.Entries.{entry_of, numbers_of}
use Rattle.icb_manifest.specs.declared.entry.Entry.{Entry}
use Rattle.icb_manifest.specs.declared.entry.EntryNumbers.{EntryNumbers}
use Rattle.icb_manifest.specs.declared.file.DataFile.{DataFile}
use Rattle.icb_manifest.specs.declared.maps.Maps.{Maps}

-- of the maps
pub file_refused : (r : Row) (e : FieldFault) (content records size : ℤ) (path format : List ℕ) → needed_int (pos 134) r ≡ Ok content → needed_text (pos 100) r ≡ Ok path → needed_text (pos 101) r ≡ Ok format
    → needed_long (pos 103) r ≡ Ok records → needed_long (pos 104) r ≡ Ok size → Makes {X = Maps} (Err e) (maps_of r) → Makes {X = DataFile} (Err e) (file_of r)
unfolding file_of
file_refused r (fault.Field b) content records size path format e0 e1 e2 e3 e4 h = rw (e0, e1, e2, e3, e4, h) refl
file_refused r fault.NoMemory content records size path format e0 e1 e2 e3 e4 h = tt

-- of the file
pub entry_refused : (r inner : Row) (e : FieldFault) (numbers : EntryNumbers) → numbers_of r ≡ Ok numbers → needed_row (pos 2) r ≡ Ok inner
    → Makes {X = DataFile} (Err e) (file_of inner) → Makes {X = Entry} (Err e) (entry_of r)
unfolding entry_of
entry_refused r inner (fault.Field b) numbers e0 e1 h = rw (e0, e1, h) refl
entry_refused r inner fault.NoMemory numbers e0 e1 h = tt

-- of the numbers of values
pub values_refused : (r : Row) (e : FieldFault) → Makes {X = List (ℤ × ℤ)} (Err e) (longs_at (map_ids (pos 109) (pos 119) (pos 120)) r) → Makes {X = Maps} (Err e) (maps_of r)
unfolding maps_of
values_refused r (fault.Field b) h = rw (h) refl
values_refused r fault.NoMemory h = tt

-- of the numbers of nulls
pub nulls_refused : (r : Row) (e : FieldFault) (values : List (ℤ × ℤ)) → longs_at (map_ids (pos 109) (pos 119) (pos 120)) r ≡ Ok values → Makes {X = List (ℤ × ℤ)} (Err e) (longs_at (map_ids (pos 110) (pos 121) (pos 122)) r) → Makes {X = Maps} (Err e) (maps_of r)
unfolding maps_of
nulls_refused r (fault.Field b) values e0 h = rw (e0, h) refl
nulls_refused r fault.NoMemory values e0 h = tt

-- of the lower bounds
pub lower_refused : (r : Row) (e : FieldFault) (values : List (ℤ × ℤ)) (nulls : List (ℤ × ℤ)) → longs_at (map_ids (pos 109) (pos 119) (pos 120)) r ≡ Ok values → longs_at (map_ids (pos 110) (pos 121) (pos 122)) r ≡ Ok nulls → Makes {X = List (ℤ × List ℕ)} (Err e) (bytes_at (map_ids (pos 125) (pos 126) (pos 127)) r) → Makes {X = Maps} (Err e) (maps_of r)
unfolding maps_of
lower_refused r (fault.Field b) values nulls e0 e1 h = rw (e0, e1, h) refl
lower_refused r fault.NoMemory values nulls e0 e1 h = tt

-- of the upper bounds
pub upper_refused : (r : Row) (e : FieldFault) (values : List (ℤ × ℤ)) (nulls : List (ℤ × ℤ)) (lower : List (ℤ × List ℕ)) → longs_at (map_ids (pos 109) (pos 119) (pos 120)) r ≡ Ok values → longs_at (map_ids (pos 110) (pos 121) (pos 122)) r ≡ Ok nulls → bytes_at (map_ids (pos 125) (pos 126) (pos 127)) r ≡ Ok lower → Makes {X = List (ℤ × List ℕ)} (Err e) (bytes_at (map_ids (pos 128) (pos 129) (pos 130)) r) → Makes {X = Maps} (Err e) (maps_of r)
unfolding maps_of
upper_refused r (fault.Field b) values nulls lower e0 e1 e2 h = rw (e0, e1, e2, h) refl
upper_refused r fault.NoMemory values nulls lower e0 e1 e2 h = tt
