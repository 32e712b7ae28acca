-- Numbers and bytes of a header that were written are read again.
use Rattle.std.proofs.Common.{◌≡◌, ℕ, zero, suc, ◌+◌, ◌-◌, ◌^◌, ◌<◌, ◌≤◌, ltb, Bool, true, false, ◌&&◌, List, [], ◌∷◌, ◌++◌, length, map, get_or, Ok, refl, ap, ◌∙◌, arith, append_assoc, length-append}
use Rattle.std.specs.Prelude.{ℤ, pos}
use Rattle.std.specs.List.{AllByRecursion, flat_map}
use Rattle.std.specs.Str.{is_utf8}
use Rattle.std.proofs.lemmas.Bool.{le-ltb, le-leb, ltb-true}
use Rattle.std.proofs.lemmas.Str.{IsUtf8-from_ascii, is_utf8-from_IsUtf8}
use Rattle.std.proofs.lemmas.List.{append-nil, length-map}
use Rattle.icb_avro.specs.Numbers.{IsLong, zigzag}
use Rattle.icb_avro.specs.Writing.{one_block, shortest, written_bytes, written_long}
use Rattle.icb_avro.proofs.Complete.{long_again, part_again}
use Rattle.icb_avro.proofs.WrittenIsSpelled.{long_spells}
use Rattle.icb_container.specs.Header.{Property, Reads, bytes_at, map_at, marker_at, max_header, number_at, properties_at, property_at, text_at}
use Rattle.icb_container.specs.Written.{written_property}

abbrev pub Pair : Type 0
Pair = List ℕ × List ℕ

has_byte : (n : ℤ) (bytes : List ℕ) → IsLong n bytes → 0 < length bytes
has_byte n [] h = absurd h.number
has_byte n (b ∷ bytes) h = omega arith

-- a number takes a byte
pub long_takes : (n : ℤ) → zigzag n < 2 ^ 64 → 0 < length (written_long n)
long_takes n h = has_byte n (written_long n) (long_spells n h)

pub number_again : (end : ℕ) (n : ℤ) (more : List ℕ) → zigzag n < 2 ^ 64 → end - length more ≤ max_header → number_at end (written_long n ++ more) ≡ Ok (n, more)
unfolding number_at
number_again end n more fits h = rw (long_again n (written_long n) more (long_spells n fits), le-ltb max_header (end - length more) h) refl

pub zero_again : (end : ℕ) (more : List ℕ) → end - length more ≤ max_header → number_at end (0 ∷ more) ≡ Ok (pos 0, more)
unfolding shortest
zero_again end more h = number_again end (pos 0) more (omega arith) h

pub bytes_again : (end : ℕ) (content more : List ℕ) → length (content ++ more) ≤ end → end - length more ≤ max_header → bytes_at end (written_bytes content ++ more) ≡ Ok (content, more)
unfolding bytes_at
bytes_again end content more room h =
    let e : written_bytes content ++ more ≡ written_long (pos (length content)) ++ (content ++ more) = append_assoc (written_long (pos (length content))) content more in
    let size : length (content ++ more) ≡ length content + length more = length-append content more in
    let stop : end - length (content ++ more) + length content ≤ max_header = omega arith in
    rw (
      e,
      number_again end (pos (length content)) (content ++ more) (omega arith) (omega arith),
      le-ltb max_header (end - length (content ++ more) + length content) stop,
      part_again (length content) (written_long (pos (length content)) ++ (content ++ more)) content more refl,
    ) refl

pub text_again : (end : ℕ) (content more : List ℕ) → is_utf8 content ≡ true → length (content ++ more) ≤ end → end - length more ≤ max_header → text_at end (written_bytes content ++ more) ≡ Ok (content, more)
unfolding text_at
text_again end content more u room h = rw (bytes_again end content more room h, u) refl

-- ---- texts

abbrev all_ascii : List ℕ → Bool
all_ascii [] = true
all_ascii (b ∷ bs) = ltb b 128 && all_ascii bs

both : (a b : Bool) → (a && b) ≡ true → (a ≡ true) × (b ≡ true)
both true b e = (refl, e)
both false b e = absurd cc

below : (bs : List ℕ) → all_ascii bs ≡ true → (i : ℕ) → get_or bs i 0 < 128
below [] h i = omega arith
below (b ∷ bs) h zero = ltb-true b 128 (both (ltb b 128) (all_ascii bs) h).0
below (b ∷ bs) h (suc i) = below bs (both (ltb b 128) (all_ascii bs) h).1 i

pub ascii_is_text : (bs : List ℕ) → all_ascii bs ≡ true → is_utf8 bs ≡ true
ascii_is_text bs h = is_utf8-from_IsUtf8 bs (IsUtf8-from_ascii bs (below bs h))

-- ---- properties

-- a property that was written before these bytes
abbrev pub property_before : ℕ → Pair → List ℕ → Property
property_before end e more = record { key = e.0; value = e.1; place = end - length (written_bytes e.1 ++ more) }

pub property_again : (end : ℕ) (e : Pair) (more : List ℕ) → is_utf8 e.0 ≡ true → length (written_property e ++ more) ≤ end → end - length more ≤ max_header
    → property_at end (written_property e ++ more) ≡ Ok (property_before end e more, more)
unfolding property_at
property_again end e more u room h =
    let key : List ℕ = written_bytes e.0 in
    let value : List ℕ = written_bytes e.1 in
    let parts : (key ++ value) ++ more ≡ key ++ (value ++ more) = append_assoc key value more in
    let a : length ((key ++ value) ++ more) ≡ length key + length (value ++ more) = ap length parts ∙ length-append key (value ++ more) in
    let b : length key ≡ length (written_long (pos (length e.0))) + length e.0 = length-append (written_long (pos (length e.0))) e.0 in
    let c : length value ≡ length (written_long (pos (length e.1))) + length e.1 = length-append (written_long (pos (length e.1))) e.1 in
    let d : length (value ++ more) ≡ length value + length more = length-append value more in
    let f : length (e.0 ++ (value ++ more)) ≡ length e.0 + length (value ++ more) = length-append e.0 (value ++ more) in
    let g : length (e.1 ++ more) ≡ length e.1 + length more = length-append e.1 more in
    rw (parts, text_again end e.0 (value ++ more) u (omega arith) (omega arith), bytes_again end e.1 more (omega arith) h) refl

-- properties that were written, one after another, before these bytes
abbrev pub all_before : ℕ → List Pair → List ℕ → List Property
all_before end [] more = []
all_before end (e ∷ es) more = property_before end e (flat_map (λ x. x) (map written_property es) ++ more) ∷ all_before end es more

abbrev pub HaveTexts : List Pair → Type 0
HaveTexts es = AllByRecursion (λ e. is_utf8 e.0 ≡ true) es

abbrev items : List Pair → List ℕ
items es = flat_map (λ x. x) (map written_property es)

pub properties_again : (end : ℕ) (es : List Pair) (more : List ℕ) → HaveTexts es → length (flat_map (λ x. x) (map written_property es) ++ more) ≤ end → end - length more ≤ max_header
    → properties_at end (length es) (flat_map (λ x. x) (map written_property es) ++ more) ≡ Ok (all_before end es more, more)
unfolding properties_at
properties_again end [] more u room h = refl
properties_again end (e ∷ es) more u room h =
    let parts : (written_property e ++ items es) ++ more ≡ written_property e ++ (items es ++ more) = append_assoc (written_property e) (items es) more in
    let a : length ((written_property e ++ items es) ++ more) ≡ length (written_property e) + length (items es ++ more) = ap length parts ∙ length-append (written_property e) (items es ++ more) in
    let b : length (items es ++ more) ≡ length (items es) + length more = length-append (items es) more in
    let c : length (written_property e ++ (items es ++ more)) ≡ length (written_property e) + length (items es ++ more) = length-append (written_property e) (items es ++ more) in
    let one : property_at end (written_property e ++ (items es ++ more)) ≡ Ok (property_before end e (items es ++ more), items es ++ more) =
    property_again end e (items es ++ more) u.0 (omega arith) (omega arith) in
    rw (parts, one, properties_again end es more u.1 (omega arith) h) refl

-- each property takes a byte
items_take : (es : List Pair) (end : ℕ) → length (items es) ≤ end → end < 2 ^ 63 → length es ≤ length (items es)
items_take [] end h k = omega arith
items_take (e ∷ es) end h k =
    let key : List ℕ = written_bytes e.0 in
    let value : List ℕ = written_bytes e.1 in
    let a : length (written_property e ++ items es) ≡ length (written_property e) + length (items es) = length-append (written_property e) (items es) in
    let b : length (written_property e) ≡ length key + length value = length-append key value in
    let c : length key ≡ length (written_long (pos (length e.0))) + length e.0 = length-append (written_long (pos (length e.0))) e.0 in
    let d : 0 < length (written_long (pos (length e.0))) = long_takes (pos (length e.0)) (omega arith) in
    let f : length es ≤ length (items es) = items_take es end (omega arith) k in
    omega arith

abbrev read_all : List Property → List ℕ → Reads (List Property)
read_all ps more = Ok (ps, more)

pub map_again : (end most : ℕ) (es : List Pair) (more : List ℕ) → HaveTexts es → length (one_block (map written_property es) ++ more) ≤ end → end - length more ≤ max_header
    → map_at end (suc (suc most)) (one_block (map written_property es) ++ more) ≡ Ok (all_before end es (0 ∷ more), more)
unfolding map_at
map_again end most [] more u room h = rw (zero_again end more h) refl
map_again end most (e ∷ es) more u room h =
    let n : ℕ = length (map written_property (e ∷ es)) in
    let all : List ℕ = items (e ∷ es) in
    let parts : ((written_long (pos n) ++ all) ++ 0 ∷ []) ++ more ≡ written_long (pos n) ++ (all ++ (0 ∷ more)) =
    append_assoc (written_long (pos n) ++ all) (0 ∷ []) more ∙ append_assoc (written_long (pos n)) all (0 ∷ more) in
    let a : length (((written_long (pos n) ++ all) ++ 0 ∷ []) ++ more) ≡ length (written_long (pos n)) + length (all ++ (0 ∷ more)) = ap length parts ∙ length-append (written_long (pos n)) (all ++ (0 ∷ more)) in
    let b : length (all ++ (0 ∷ more)) ≡ length all + suc (length more) = length-append all (0 ∷ more) in
    let size : n ≡ length (e ∷ es) = length-map (e ∷ es) written_property in
    let least : length (e ∷ es) ≤ length all = items_take (e ∷ es) (length all) (omega arith) (omega arith) in
    let first : number_at end (written_long (pos n) ++ (all ++ (0 ∷ more))) ≡ Ok (pos (length (e ∷ es)), all ++ (0 ∷ more)) =
    number_again end (pos n) (all ++ (0 ∷ more)) (omega arith) (omega arith) ∙ ap (λ (k : ℕ). Ok (pos k, all ++ (0 ∷ more))) size in
    let read : properties_at end (length (e ∷ es)) (all ++ (0 ∷ more)) ≡ Ok (all_before end (e ∷ es) (0 ∷ more), 0 ∷ more) = properties_again end (e ∷ es) (0 ∷ more) u (omega arith) (omega arith) in
    let fits = le-leb (length (e ∷ es)) (length (all ++ (0 ∷ more))) (omega arith) in
    rw (parts, first, fits, read, zero_again end more h) (ap (λ (ps : List Property). read_all ps more) (append-nil (all_before end (e ∷ es) (0 ∷ more))))

pub marker_again : (end : ℕ) (marker rest : List ℕ) → length marker ≡ 16 → length (marker ++ rest) ≤ end → end - length rest ≤ max_header → marker_at end (marker ++ rest) ≡ Ok (marker, rest)
unfolding marker_at
marker_again end marker rest size room h =
    let a : length (marker ++ rest) ≡ length marker + length rest = length-append marker rest in
    rw (le-ltb max_header (end - length (marker ++ rest) + 16) (omega arith), part_again 16 (marker ++ rest) marker rest size) refl
