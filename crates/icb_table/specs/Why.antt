-- Why no more of a file is read (ours).
use Rattle.std.specs.Prelude.{ℕ, ℤ, List}
use Rattle.icb_container.specs.Wrong.{Wrong}

-- why a file that a record names isn't read, though it may be whole
pub data Unread : Type 0 where
  -- its format isn't Avro
  format : Unread
  -- it says which rows are deleted
  delete_file : Unread
  -- it is a manifest of such files
  delete_manifest : Unread
  -- it doesn't lie in the table
  outside_table : Unread
  -- its length isn't told
  no_length : Unread

-- why a file isn't read further; places count from the first byte of its plaintext
pub data Why : Type 0 where
  -- it has no plaintext
  no_plaintext : Why
  -- the plaintext is no container, or not behind what was read of it
  no_container : Wrong → Why
  -- the record at this place has no field of this id in its form
  bad_field : ℕ → ℤ → Why
  -- the record at this place has bytes that are no key metadata
  bad_key : ℕ → Why
  -- it names the file of this path, which has no key metadata
  plain_file : List ℕ → Why
  -- it names the file of this path, which isn't read
  unread : List ℕ → Unread → Why
