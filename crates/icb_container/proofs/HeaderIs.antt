-- The header of a file, by what was read of it.
use Rattle.std.proofs.Common.{◌≡◌, ℕ, suc, ◌+◌, ◌≤◌, ◌<◌, Bool, true, false, cond, not, codes, List, length, take, drop, Option, Result, Ok, Err, refl, sym, ap, subst, ◌∙◌, arith}
use Rattle.std.specs.Str.{bytes_eq}
use Rattle.std.proofs.lemmas.List.{length-take}
use Rattle.std.proofs.lemmas.Slice.Eq.{bytes_eq-Decides}
use Rattle.icb_base.specs.Contents.{FillsKnown, HasPart}
use Rattle.icb_base.proofs.LawLemmas.{part_is_filled}
use Rattle.icb_schema.specs.Tree.{Tree}
use Rattle.icb_schema.specs.Reading.{schema_of}
use Rattle.icb_container.specs.declared.fault.ContainerFault.{ContainerFault}
use Rattle.icb_container.specs.Wrong as wrong
use Rattle.icb_container.specs.Wrong.{Wrong, ◌>>=◌}
use Rattle.icb_container.specs.Answers.{Refuses}
use Rattle.icb_container.specs.Blocks.{State, begins}
use Rattle.icb_container.specs.Header.{Header, Property, header_from, header_of, magic, map_at, marker_at, needed, plain, property_of, row_schema}
use Rattle.icb_container.specs.Kept.{magic_checked, schema_said}
use Rattle.icb_container.proofs.Knowledge.{place_of}
use Rattle.icb_container.proofs.Refused.{refuses_as, refuses_behind, refuses_first}

abbrev done : Unit {0}
done = tt

abbrev begun : List ℕ → Header → Result State Wrong
begun file h = Ok (begins file h)

abbrev pub opened : List ℕ → Result State Wrong
opened file = header_of file >>= begun file

abbrev behind_map : List ℕ → List Property × List ℕ → Result Header Wrong
behind_map file ps = marker_at (length file) ps.1 >>= header_from ps.0

abbrev behind_magic : List ℕ → Result Header Wrong
behind_magic file = map_at (length file) (suc (length file)) (drop 4 file) >>= behind_map file

header_is : (file : List ℕ) → magic_checked file ≡ Ok done → header_of file ≡ behind_magic file
unfolding header_of
header_is file e = by_test (bytes_eq (take 4 file) magic) e
  where
    by_test : (b : Bool) → cond (not b) (Err wrong.not_avro) (Ok done) ≡ Ok done → cond (not b) (Err wrong.not_avro) (behind_magic file) ≡ behind_magic file
    by_test true f = refl
    by_test false f = absurd cc

-- the magic isn't there
pub magic_refuses : {F : Type 0} (file : List ℕ) (e : ContainerFault F) → Refuses e (magic_checked file) → Refuses e (opened file)
unfolding header_of
magic_refuses file e h = refuses_first e (header_of file) (begun file) (refuses_as e (magic_checked file) (header_of file) (λ w is. by_test w (bytes_eq (take 4 file) magic) is) h)
  where
    by_test : (w : Wrong) (b : Bool) → cond (not b) (Err wrong.not_avro) (Ok done) ≡ Err w → cond (not b) (Err wrong.not_avro) (behind_magic file) ≡ Err w
    by_test w true f = absurd cc
    by_test w false f = let e : wrong.not_avro ≡ w = cc in ap Err e

refuse_header : {F : Type 0} (file : List ℕ) (e : ContainerFault F) → magic_checked file ≡ Ok done → Refuses e (behind_magic file) → Refuses e (opened file)
refuse_header file e is h = refuses_first e (header_of file) (begun file) (subst (λ (r : Result Header Wrong). Refuses e r) (sym (header_is file is)) h)

-- the map is refused
pub map_refuses : {F : Type 0} (file : List ℕ) (e : ContainerFault F) → magic_checked file ≡ Ok done → Refuses e (map_at (length file) (suc (length file)) (drop 4 file)) → Refuses e (opened file)
map_refuses file e is h = refuse_header file e is (refuses_first e (map_at (length file) (suc (length file)) (drop 4 file)) (behind_map file) h)

-- the marker is refused
pub header_marker_refuses : {F : Type 0} (file rest : List ℕ) (ps : List Property) (e : ContainerFault F) → magic_checked file ≡ Ok done → map_at (length file) (suc (length file)) (drop 4 file) ≡ Ok (ps, rest)
    → Refuses e (marker_at (length file) rest) → Refuses e (opened file)
header_marker_refuses file rest ps e is map h = refuse_header file e is
    (refuses_behind e (map_at (length file) (suc (length file)) (drop 4 file)) (behind_map file) (ps, rest) map (refuses_first e (marker_at (length file) rest) (header_from ps) h))

abbrev header : List Property → List ℕ × List ℕ → Tree → Header
header ps marker t = record { schema = t; properties = ps; marker = marker.0; rest = marker.1 }

abbrev given : List Property → List ℕ × List ℕ → Tree → Result Header Wrong
given ps marker t = Ok (header ps marker t)

from_is : (ps : List Property) (marker : List ℕ × List ℕ) → header_from ps marker ≡ (schema_said ps >>= given ps marker)
from_is ps marker = by_text (needed (property_of (codes "avro.schema") ps))
  where
    by_codec : (text : Property) (r : Result (Unit {0}) Wrong) → (r >>= (λ done. row_schema (schema_of text.value) >>= given ps marker)) ≡ ((r >>= (λ done. row_schema (schema_of text.value))) >>= given ps marker)
    by_codec text (Ok x) = refl
    by_codec text (Err w) = refl

    by_text : (r : Result Property Wrong) → (r >>= (λ text. plain (property_of (codes "avro.codec") ps) >>= (λ done. row_schema (schema_of text.value) >>= given ps marker)))
        ≡ ((r >>= (λ text. plain (property_of (codes "avro.codec") ps) >>= (λ done. row_schema (schema_of text.value)))) >>= given ps marker)
    by_text (Ok text) = by_codec text (plain (property_of (codes "avro.codec") ps))
    by_text (Err w) = refl

-- the schema or the codec is refused
pub schema_refuses : {F : Type 0} (file rest : List ℕ) (marker : List ℕ × List ℕ) (ps : List Property) (e : ContainerFault F) → magic_checked file ≡ Ok done → map_at (length file) (suc (length file)) (drop 4 file) ≡ Ok (ps, rest)
    → marker_at (length file) rest ≡ Ok marker → Refuses e (schema_said ps) → Refuses e (opened file)
schema_refuses file rest marker ps e is map mark h =
    let from : Refuses e (header_from ps marker) = subst (λ (r : Result Header Wrong). Refuses e r) (sym (from_is ps marker)) (refuses_first e (schema_said ps) (given ps marker) h) in
    refuse_header file e is (refuses_behind e (map_at (length file) (suc (length file)) (drop 4 file)) (behind_map file) (ps, rest) map (refuses_behind e (marker_at (length file) rest) (header_from ps) marker mark from))

-- the header is read
pub opened_is : (file marker : List ℕ) (place : ℕ) (ps : List Property) (t : Tree) → place + 16 ≤ length file → magic_checked file ≡ Ok done → map_at (length file) (suc (length file)) (drop 4 file) ≡ Ok (ps, drop place file)
    → marker_at (length file) (drop place file) ≡ Ok (marker, drop (place + 16) file) → schema_said ps ≡ Ok t → opened file ≡ Ok (record { schema = t; marker = marker; place = place + 16; first = 0; block = 0 })
opened_is file marker place ps t inside is map mark said =
    let begins_at = place_of file (place + 16) inside in
    let from : header_from ps (marker, drop (place + 16) file) ≡ Ok (header ps (marker, drop (place + 16) file) t) = from_is ps (marker, drop (place + 16) file) ∙ rw said refl in
    let read : header_of file ≡ Ok (header ps (marker, drop (place + 16) file) t) = header_is file is ∙ rw (map, mark, from) refl in
    ap (λ (r : Result Header Wrong). r >>= begun file) read ∙ ap (λ (k : ℕ). Ok (record { schema = t; marker = marker; place = k; first = 0; block = 0 })) begins_at

-- ---- the magic

-- a file that is too short for it
pub magic_is_short : (file : List ℕ) → length file < 4 → magic_checked file ≡ Err wrong.not_avro
magic_is_short file h = rw (by_test (bytes_eq (take 4 file) magic) refl) refl
  where
    by_test : (b : Bool) → bytes_eq (take 4 file) magic ≡ b → bytes_eq (take 4 file) magic ≡ false
    by_test true e =
        let same : take 4 file ≡ magic = (bytes_eq-Decides (take 4 file) magic).0 e in
        absurd (let f : ⊥ = omega (arith, ap length same, length-take 4 file, h) in f)
    by_test false e = e

-- the first bytes are it, or aren't
pub magic_is : (known : List (Option ℕ)) (file found : List ℕ) (b : Bool) → FillsKnown known file → HasPart known 0 found → length found ≡ 4 → b ≡ not (bytes_eq found magic)
    → magic_checked file ≡ cond b (Err wrong.not_avro) (Ok tt)
magic_is known file found b fills is size e =
    let front : found ≡ take 4 file = part_is_filled known file found 0 fills is ∙ ap (λ (n : ℕ). take n file) size in
    rw (← front, ← e) refl
