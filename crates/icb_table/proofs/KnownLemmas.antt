-- What stores show that grew, or that show no more than others.
use Rattle.std.specs.Prelude.{◌≡◌, ℕ, zero, suc, ◌+◌, ◌-◌, ◌<◌, nat_lt, Bool, true, false, List, [], ◌∷◌, ◌++◌, length, map, Option, Some, None, is_none, Result, Ok, Err, if◌then◌else◌}
use Rattle.std.specs.List.{flat_map, range_with_len}
use Rattle.std.specs.Option.{option_and_then, option_map}
use Rattle.std.proofs.Common.{refl, ap, ◌∙◌, sym, subst, arith}
use Rattle.std.proofs.lemmas.List.{map-append}
use Rattle.icb_base.specs.Contents.{FillsKnown}
use Rattle.icb_base.specs.Objects.{Grows, Objects, object_at}
use Rattle.icb_base.proofs.LawLemmas.{knows_itself, less_is_filled}
use Rattle.icb_stream.specs.Attached.{read_content}
use Rattle.icb_stream.specs.Content.{content, joined, plaintext, with_gaps}
use Rattle.icb_stream.specs.Layout.{Layout, blocks, part_at, part_length}
use Rattle.icb_stream.specs.Opening.{first_part_of, header_of, layout_of, opening_at, opening_of}
use Rattle.icb_stream.specs.declared.fault.StreamFault.{StreamFault}
use Rattle.icb_stream.specs.declared.fault.StreamFault.TheVariants.{BadLength, Block, Short}
use Rattle.icb_table.specs.Contents.{of_object, opening_in, opening_key, plaintexts_in}
use Rattle.icb_table.specs.Known.{Allows, IsNoMore, Knowledge, shown_in}
use Rattle.icb_table.specs.Laws.{AllowedByLess, AreAmong, GrownShowsNoLess, OwnPlaintextIsAllowed, WholeAllowsOne}
use Rattle.icb_table.specs.Listed.{Listed}

-- ---- growth

-- how a listed file is read, by its object
unfoldable pub layout_from : Listed → Option (List ℕ) → Result Layout StreamFault
layout_from f object = if nat_lt f.recorded 36 then Err (BadLength f.recorded)
    else opening_at object (opening_key f) f.recorded

pub opening_is : (files : Objects) (f : Listed) → opening_in files f ≡ layout_from f (object_at files f.path)
unfolding opening_of layout_from
opening_is files f = refl

-- what is seen of an object that is held and stays
seen_stays : {A : Type 0} (see : List ℕ → Layout → Option A) (f : Listed) (before now : Option (List ℕ)) (x : A)
    → ((bytes : List ℕ) → before ≡ Some bytes → now ≡ Some bytes)
    → of_object see before (layout_from f before) ≡ Some x → of_object see now (layout_from f now) ≡ Some x
seen_stays see f None now x h e = absurd (let g : ⊥ = cc in g)
seen_stays see f (Some bytes) now x h e =
    ap (λ o. of_object see o (layout_from f o)) (h bytes refl) ∙ e

-- and in the words of the definitions
pub grown_seen : {A : Type 0} (see : List ℕ → Layout → Option A) (before now : Objects) (f : Listed) (x : A)
    → Grows before now → of_object see (object_at before f.path) (opening_in before f) ≡ Some x
    → of_object see (object_at now f.path) (opening_in now f) ≡ Some x
grown_seen see before now f x grows e =
    ap (of_object see (object_at now f.path)) (opening_is now f)
    ∙ seen_stays see f (object_at before f.path) (object_at now f.path) x (grows.stays f.path)
    (ap (of_object see (object_at before f.path)) (sym (opening_is before f)) ∙ e)

-- the plaintexts of a store that only grew are among those that it has
pub plaintexts_grown : (before now : Objects) → Grows before now
    → AreAmong (plaintexts_in before) (plaintexts_in now)
plaintexts_grown before now grows f bytes e = grown_seen plaintext before now f bytes grows e

no_more_by : (one two : Knowledge) → ((known : List (Option ℕ)) → one ≡ Some known → two ≡ Some known)
    → IsNoMore one two
no_more_by None two h = tt
no_more_by (Some known) two h =
    subst (IsNoMore (Some known)) (sym (h known refl)) (knows_itself known)

pub grown_shows_no_less : GrownShowsNoLess
grown_shows_no_less before now [] grows = tt
grown_shows_no_less before now (f ∷ fs) grows = (
  no_more_by (shown_in before f) (shown_in now f)
      (λ known e. grown_seen (λ bytes layout. Some (read_content bytes layout)) before now f known grows e),
  grown_shows_no_less before now fs grows,
)

-- ---- less is known

allowed_by_less : (less more : Knowledge) (plain : Option (List ℕ)) → IsNoMore less more
    → Allows more plain → Allows less plain
allowed_by_less None more plain h a = tt
allowed_by_less (Some known) None plain h a = absurd h
allowed_by_less (Some known) (Some all) None h a = absurd a
allowed_by_less (Some known) (Some all) (Some bytes) h a = less_is_filled known all bytes h a

pub all_allowed_by_less : AllowedByLess
all_allowed_by_less less more [] plain h a = tt
all_allowed_by_less less more (f ∷ fs) plain h a = (
  allowed_by_less (shown_in less f) (shown_in more f) (plain f) h.0 a.0,
  all_allowed_by_less less more fs plain h.1 a.1,
)

-- ---- a file's own plaintext

-- bytes fill what is known of them where that is all
fills_all : (bytes : List ℕ) → FillsKnown (map Some bytes) bytes
fills_all [] = tt
fills_all (b ∷ bytes) = (refl, fills_all bytes)

-- parts that are all there: the last one, and what is known of them
pub record AllKnown (parts : ℕ → Option (List ℕ)) (size : ℕ → ℕ) (a n : ℕ) (text : List ℕ) : Type 0 where
  pub known : flat_map (λ i. with_gaps (size i) (parts i)) (range_with_len a n) ≡ map Some text
  pub last : 0 < n → is_none (parts (a + n - 1)) ≡ false

-- one more part
known_more : (parts : ℕ → Option (List ℕ)) (size : ℕ → ℕ) (a n : ℕ) (part text : List ℕ)
    → parts a ≡ Some part → AllKnown parts size (a + 1) n text → AllKnown parts size a (suc n) (part ++ text)
known_more parts size a zero part text e rest = record {
  known = rw (e, rest.known) (sym (map-append Some part text));
  last = λ h. let at : a + 1 - 1 ≡ a = omega arith in rw (at, e) refl;
}
known_more parts size a (suc n) part text e rest = record {
  known = rw (e, rest.known) (sym (map-append Some part text));
  last = λ h. let at : a + suc (suc n) - 1 ≡ a + 1 + suc n - 1 = omega arith in
      rw at (rest.last (omega arith));
}

-- all parts, by the first one and the text of the others
all_known_by : (parts : ℕ → Option (List ℕ)) (size : ℕ → ℕ) (a n : ℕ) (text : List ℕ)
    (first : Option (List ℕ)) (rest : Option (List ℕ)) → parts a ≡ first
    → joined (map parts (range_with_len (a + 1) n)) ≡ rest
    → option_and_then (λ bytes. option_map (λ more. bytes ++ more) rest) first ≡ Some text
    → ((more : List ℕ) → rest ≡ Some more → AllKnown parts size (a + 1) n more)
    → AllKnown parts size a (suc n) text
all_known_by parts size a n text None rest p r e h = absurd (let g : ⊥ = cc in g)
all_known_by parts size a n text (Some part) None p r e h = absurd (let g : ⊥ = cc in g)
all_known_by parts size a n text (Some part) (Some more) p r e h =
    let is : part ++ more ≡ text = cc in
    subst (AllKnown parts size a (suc n)) is (known_more parts size a n part more p (h more refl))

-- all parts, where the text of all is there
pub all_known : (parts : ℕ → Option (List ℕ)) (size : ℕ → ℕ) (a n : ℕ) (text : List ℕ)
    → joined (map parts (range_with_len a n)) ≡ Some text → AllKnown parts size a n text
all_known parts size a zero text e =
    let is : [] ≡ text = cc in record { known = ap (map Some) is; last = λ h. absurd (let g : ⊥ = omega (arith, h) in g) }
all_known parts size a (suc n) text e =
    all_known_by parts size a n text (parts a) (joined (map parts (range_with_len (a + 1) n))) refl refl e
    (λ more r. all_known parts size (a + 1) n more r)

-- what a reader may know, where the text of all parts is there
read_by : (b : Bool) (one two : List (Option ℕ)) → b ≡ false → (if b then one else two) ≡ two
read_by true one two e = absurd (let g : ⊥ = cc in g)
read_by false one two e = refl

-- the place of the last of parts that are counted from 0
pub last_at : (parts : ℕ → Option (List ℕ)) (n : ℕ) → is_none (parts (0 + n - 1)) ≡ false → is_none (parts (n - 1)) ≡ false
last_at parts n h = let same : 0 + n - 1 ≡ n - 1 = omega arith in subst (λ k. is_none (parts k) ≡ false) same h

pub plaintext_fills : (bytes : List ℕ) (layout : Layout) (text : List ℕ) → 0 < blocks layout
    → plaintext bytes layout ≡ Some text → FillsKnown (read_content bytes layout) text
unfolding read_content content
plaintext_fills bytes layout text some e =
    let all = all_known (part_at bytes layout) (part_length layout) 0 (blocks layout) text e in
    let last : is_none (part_at bytes layout (blocks layout - 1)) ≡ false =
    last_at (part_at bytes layout) (blocks layout) (all.last some) in
    let is : read_content bytes layout ≡ map Some text =
    read_by (is_none (part_at bytes layout (blocks layout - 1))) _ (content bytes layout) last ∙ all.known in
    subst (λ known. FillsKnown known text) (sym is) (fills_all text)

-- a part that is there is one of a block
has_block : (bytes : List ℕ) (layout : Layout) (n : ℕ) → nat_lt 0 (blocks layout) ≡ false
    → is_none (part_at bytes layout 0) ≡ true
unfolding part_at
has_block bytes layout n e = rw e refl

-- ---- the first part of an open file

-- a layout is that of an opening whose first part is there
opened_first : (bytes : List ℕ) (f : Listed) (block_length : ℕ) (none : Bool) (layout : Layout)
    → is_none (part_at bytes (layout_of (opening_key f) f.recorded block_length) 0) ≡ none
    → (if none then Err (Block 0) else Ok (layout_of (opening_key f) f.recorded block_length)) ≡ Ok layout
    → is_none (part_at bytes layout 0) ≡ false
opened_first bytes f block_length true layout p e = absurd (let g : ⊥ = cc in g)
opened_first bytes f block_length false layout p e =
    let is : layout_of (opening_key f) f.recorded block_length ≡ layout = cc in
    ap (λ l. is_none (part_at bytes l 0)) (sym is) ∙ p

open_first : (bytes : List ℕ) (f : Listed) (header : Result ℕ StreamFault) (low short : Bool) (layout : Layout)
    → (if low then Err (BadLength f.recorded) else (if short then Err (Short (length bytes))
    else first_part_of bytes (opening_key f) f.recorded header)) ≡ Ok layout
    → is_none (part_at bytes layout 0) ≡ false
open_first bytes f header true short layout e = absurd (let g : ⊥ = cc in g)
open_first bytes f header false true layout e = absurd (let g : ⊥ = cc in g)
open_first bytes f (Err fault) false false layout e = absurd (let g : ⊥ = cc in g)
open_first bytes f (Ok block_length) false false layout e =
    opened_first bytes f block_length (is_none (part_at bytes (layout_of (opening_key f) f.recorded block_length) 0))
    layout refl e

not_zero : (n : ℕ) → (nat_lt 0 n ≡ false → ⊥) → 0 < n
not_zero zero h = absurd (h refl)
not_zero (suc n) h = omega arith

open_has_block : (bytes : List ℕ) (f : Listed) (layout : Layout) → layout_from f (Some bytes) ≡ Ok layout
    → 0 < blocks layout
unfolding layout_from
open_has_block bytes f layout e =
    let first = open_first bytes f (header_of bytes f.recorded) (nat_lt f.recorded 36)
    (nat_lt (length bytes) f.recorded) layout e in
    not_zero (blocks layout) (λ none. let b = has_block bytes layout 0 none in cc)

own_by : (f : Listed) (object : Option (List ℕ)) (opening : Result Layout StreamFault) (bytes : List ℕ)
    → opening ≡ layout_from f object → of_object plaintext object opening ≡ Some bytes
    → Allows (of_object (λ b l. Some (read_content b l)) object opening) (Some bytes)
own_by f None opening bytes o e = tt
own_by f (Some object) (Err fault) bytes o e = tt
own_by f (Some object) (Ok layout) bytes o e =
    plaintext_fills object layout bytes (open_has_block object f layout (sym o)) e

pub own_plaintext_is_allowed : OwnPlaintextIsAllowed
own_plaintext_is_allowed files f bytes e =
    own_by f (object_at files f.path) (opening_in files f) bytes (opening_is files f) e

-- ---- all is known

-- what fills bytes that are all known are these bytes
filled_whole : (text bytes : List ℕ) → FillsKnown (map Some text) bytes → bytes ≡ text
filled_whole [] [] h = refl
filled_whole [] (b ∷ bytes) h = absurd h
filled_whole (t ∷ text) [] h = absurd h
filled_whole (t ∷ text) (b ∷ bytes) h =
    ap (λ c. c ∷ bytes) (sym h.0) ∙ ap (λ cs. t ∷ cs) (filled_whole text bytes h.1)

pub whole_allows_one : WholeAllowsOne
whole_allows_one text None h = absurd h
whole_allows_one text (Some bytes) h = ap Some (filled_whole text bytes h)
