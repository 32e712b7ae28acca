-- The paths of an append's files (ours: docs/FORMATS.md, "Files of an append"). The append's 16
-- drawn bytes stand in each, in lower-case hexadecimal digits.
use Rattle.std.specs.Prelude.{ℕ, List, [], ◌++◌, codes, decimal, nat_lt, if◌then◌else◌}
use Rattle.hex.specs.Hex.{encode_lower}

-- the zeros in front of a number that has fewer than 5 digits
abbrev pub zeros : ℕ → List ℕ
zeros n = if nat_lt n 10 then codes "0000" else (
    if nat_lt n 100 then codes "000" else (
    if nat_lt n 1000 then codes "00" else (
    if nat_lt n 10000 then codes "0" else [])))

-- the data file of this number, from 0 on, in 5 digits or more
abbrev pub data_path : List ℕ → ℕ → List ℕ
data_path unique number = codes "data/" ++ (encode_lower unique ++ (codes "-" ++ (zeros number
    ++ (decimal number ++ codes ".avro"))))

-- the manifest
abbrev pub manifest_path : List ℕ → List ℕ
manifest_path unique = codes "metadata/" ++ (encode_lower unique ++ codes "-m0.avro")

-- the list of a snapshot at an attempt, from 1 on
abbrev pub list_path : List ℕ → ℕ → ℕ → List ℕ
list_path unique snapshot attempt = codes "metadata/snap-" ++ (decimal snapshot ++ (codes "-"
    ++ (decimal attempt ++ (codes "-" ++ (encode_lower unique ++ codes ".avro")))))
