-- Objects that an append sealed, beside what the laws of written files ask.
use Rattle.std.proofs.Common.{◌≡◌, ◌≤◌, ◌<◌, ◌+◌, ◌*◌, ◌^◌, ℕ, true, List, [], length, Some, Ok, refl, sym, ap, ◌∙◌, subst, arith}
use Rattle.std.specs.Prelude.{◌&&◌, IsTrue, nat_le, nat_lt}
use Rattle.std.specs.List.{list_all}
use Rattle.std.proofs.lemmas.Bool.{and_parts, leb-true}
use Rattle.std.proofs.lemmas.Nat.{mul-le}
use Rattle.icb_base.specs.KeyMetadata.{KeyRecord, is_key_length}
use Rattle.icb_base.specs.Paths.{is_object_path, is_path_byte}
use Rattle.icb_container.specs.Header.{max_header}
use Rattle.icb_keymeta.specs.Decoded.{key_metadata_of}
use Rattle.icb_keymeta.specs.Encoded.{encoded}
use Rattle.icb_keymeta.proofs.WrittenLemmas.{encoded_again}
use Rattle.icb_records.specs.Laws.{max_record}
use Rattle.icb_seal.specs.Keys.{FileKeyValue, key_bytes}
use Rattle.icb_seal.specs.declared.file_key.KeySize.{KeySize}
use Rattle.icb_seal.specs.declared.file_key.KeySize.TheVariants as size
use Rattle.icb_stream.specs.Cut.{block_count, has_cut}
use Rattle.icb_stream.specs.Sealing.{IsStreamOf}
use Rattle.icb_stream.proofs.CutLemmas.{cut_facts}
use Rattle.icb_written.specs.Laws.{IsShortFile}
use Rattle.icb_append.specs.Puts.{IsFresh}
use Rattle.icb_append.specs.Sealed.{may_be_put}

-- ---- numbers

-- a stream has fewer than 2^63 bytes
cut_small : (block recorded : ℕ) → has_cut block recorded ≡ true → recorded < 2 ^ 63
cut_small block recorded h =
    let is = cut_facts block recorded h in
    let all : block_count block recorded * (block + 28) ≤ 2147483648 * 16777244 =
    mul-le (block_count block recorded) (block + 28) 2147483648 16777244 is.few_blocks (omega (arith, is.most_length)) in
    omega (arith, is.last_end, all)

key_length_is : (size : KeySize) (n : ℕ) → n ≡ key_bytes size → IsTrue (is_key_length n)
key_length_is size.Bytes16 n e = rw e refl
key_length_is size.Bytes24 n e = rw e refl
key_length_is size.Bytes32 n e = rw e refl

-- an object path has at most 1,000 bytes
path_small : (path : List ℕ) → is_object_path path ≡ true → length path < 2 ^ 63
path_small path h =
    let p = and_parts ((nat_lt 0 (length path) && nat_le (length path) 1000) && list_all is_path_byte path) _ h in
    let q = and_parts (nat_lt 0 (length path) && nat_le (length path) 1000) (list_all is_path_byte path) p.0 in
    let r = and_parts (nat_lt 0 (length path)) (nat_le (length path) 1000) q.0 in
    let le : length path ≤ 1000 = leb-true (length path) 1000 r.1 in
    omega (arith, le)

-- ---- key metadata

the_one : {A : Type 0} (x y : A) → Some x ≡ Some y → x ≡ y
the_one x y e = cc

-- the key metadata of a sealed object are read as they are written
pub own_key_read : (size : KeySize) (key : FileKeyValue) (marker path object plain : List ℕ) (meta : KeyRecord) (block : ℕ) → IsFresh size key marker → is_object_path path ≡ true
    → meta ≡ record { key = key.key; prefix = Some path; length_told = Some (length object) } → IsStreamOf meta plain block object → key_metadata_of (encoded meta) ≡ Ok meta
own_key_read size key marker path object plain meta block fresh is_path own stream =
    let told : meta.length_told ≡ Some (length object) = ap (λ m. m.length_told) own in
    let key_is : length meta.key ≡ key_bytes size = ap (λ m. length m.key) own ∙ fresh.key_length in
    encoded_again meta
    (record {
      key_length = key_length_is size (length meta.key) key_is;
      below = λ n e. subst (λ k. k < 2 ^ 63) (the_one (length object) n (sym told ∙ e)) (cut_small block (length object) stream.opens.cut);
    })
    (λ p e. subst (λ q. length q < 2 ^ 63) (the_one path p (sym (ap (λ m. m.prefix) own) ∙ e)) (path_small path is_path))

-- ---- short files

-- what may be put is a short file
pub short_of : {R : Type 0} (file : List R → List ℕ → List ℕ) (records : List R) (marker : List ℕ) → may_be_put file records marker ≡ true → IsShortFile (file [] marker) (file records marker)
short_of file records marker h =
    let p = and_parts (nat_le (length (file [] marker)) max_header) (nat_le (length (file records marker)) max_record) h in
    record { short_header = leb-true _ _ p.0; short_file = leb-true _ _ p.1 }
