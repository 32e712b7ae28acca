-- What follows where a stream is open, and that bytes after the recorded length aren't read.
use Rattle.std.proofs.Common.{◌≡◌, ℕ, ◌+◌, ◌<◌, ◌≤◌, Bool, true, false, not, List, length, take, Option, Some, None, Result, Ok, Err, refl, ap, sym, subst, ◌∙◌, arith}
use Rattle.std.specs.Prelude.{if◌then◌else◌, slice_range, bytes_eq, is_none, IsSome, IsSomeAnd, IfSome, MatchResult}
use Rattle.std.proofs.lemmas.Bool.{lt-ltb, le-ltb, cond-true, cond-false}
use Rattle.std.proofs.lemmas.List.{take-take}
use Rattle.std.proofs.lemmas.Slice.Eq.{bytes_eq-Decides}
use Rattle.icb_base.specs.Calls.{ReadsPath}
use Rattle.icb_base.specs.Counts.{CountsOnly}
use Rattle.icb_base.specs.KeyMetadata.{KeyRecord}
use Rattle.icb_base.specs.Objects.{Objects, object_at, part_of}
use Rattle.icb_base.specs.declared.storage.Store as store
use Rattle.icb_stream.specs.Cut.{block_size, has_cut, is_block_length}
use Rattle.icb_stream.specs.Layout.{Layout, part_at}
use Rattle.icb_stream.proofs.ContentLemmas.{range_of_front}
use Rattle.icb_stream.specs.Opening.{magic, block_length_in, layout_of, IsOpen, header_of, first_part_of, opening_at, opening_of}
use Rattle.icb_stream.specs.Asking.{first_bytes, opening_bytes}
use Rattle.icb_stream.specs.Belongs.{HeldBlock, StreamValue}
use Rattle.icb_stream.specs.Progress.{FillsFrom, Loads}
use Rattle.icb_stream.specs.Reading.{IsHeaderRefusal, IsOpened, IsRefusal, IsUnfetched, Opens}
use Rattle.icb_stream.specs.declared.fault.StreamFault.{StreamFault}
use Rattle.icb_stream.specs.declared.fault.StreamFault.TheVariants.{BadLength, Store, Missing, Short, Magic, BlockLength, NoMemory, Block}

-- ---- the header

-- the header is one of the first 8 bytes
header_of_front : (bytes header : List ℕ) (recorded : ℕ) → header ≡ part_of 0 8 bytes
    → header_of header recorded ≡ header_of bytes recorded
unfolding header_of block_length_in
header_of_front bytes header recorded e =
    let first : take 4 (take 8 bytes) ≡ take 4 bytes = take-take 4 8 bytes (omega arith) in
    let second : slice_range (take 8 bytes) 4 8 ≡ slice_range bytes 4 8 = range_of_front bytes 4 8 8 (omega arith) in
    rw (e, first, second) refl

-- a cause why a header isn't taken
refused_header : (object : List ℕ) (recorded : ℕ) (fault : StreamFault)
    → header_of object recorded ≡ Err fault → IsHeaderRefusal object recorded fault
refused_header object recorded Store h = tt
refused_header object recorded (BadLength n) h = h
refused_header object recorded Missing h = h
refused_header object recorded (Short n) h = h
refused_header object recorded (Magic found) h = h
refused_header object recorded (BlockLength found) h = h
refused_header object recorded NoMemory h = h
refused_header object recorded (Block number) h = h

-- what the 8 bytes of a header say is what the object's header says
pub header_known : {A : Type 0} (known : Option Objects) (path header : List ℕ) (recorded n : ℕ) (size : A → ℕ)
    (X : A → Type 0) (r : Result A StreamFault) → 36 ≤ recorded → length header ≡ 8 → n ≡ 8
    → IfSome known (λ files. IfSome (object_at files path)
    (λ object. 0 + n ≤ length object → FillsFrom object 0 header (Ok tt)))
    → MatchResult r (λ cut. (header_of header recorded ≡ Ok (size cut)) × X cut)
    (λ fault. header_of header recorded ≡ Err fault)
    → IfSome known (λ files. IfSome (object_at files path) (λ object. recorded ≤ length object
    → MatchResult r (λ cut. header_of object recorded ≡ Ok (size cut)) (IsHeaderRefusal object recorded)))
header_known {A = A} None path header recorded n size X r some eight e filled says = tt
header_known {A = A} (Some files) path header recorded n size X r some eight e filled says =
    by_object (object_at files path) filled
  where
    by_result : (object : List ℕ) (r : Result A StreamFault) → header_of header recorded ≡ header_of object recorded
        → MatchResult r (λ cut. (header_of header recorded ≡ Ok (size cut)) × X cut)
        (λ fault. header_of header recorded ≡ Err fault)
        → MatchResult r (λ cut. header_of object recorded ≡ Ok (size cut)) (IsHeaderRefusal object recorded)
    by_result object (Ok cut) same h = sym same ∙ h.0
    by_result object (Err fault) same h = refused_header object recorded fault (sym same ∙ h)

    by_object : (o : Option (List ℕ))
        → IfSome o (λ object. 0 + n ≤ length object → FillsFrom object 0 header (Ok tt))
        → IfSome o (λ object. recorded ≤ length object
        → MatchResult r (λ cut. header_of object recorded ≡ Ok (size cut)) (IsHeaderRefusal object recorded))
    by_object None h = tt
    by_object (Some object) h = λ long.
        let front : header ≡ part_of 0 (length header) object = h (omega (arith, e, some, long)) in
        let eight_bytes : header ≡ part_of 0 8 object = rw eight at front in
        by_result object r (header_of_front object header recorded eight_bytes) says

-- ---- what an opening says

-- a header that isn't refused passes each test
header_tests : (a b c : Bool) (e f g : StreamFault) (n m : ℕ)
    → (if not a then Err e else (if not b then Err f else (if not c then Err g else Ok n))) ≡ Ok m
    → (a ≡ true) × (c ≡ true) × (n ≡ m)
header_tests false b c e f g n m h = absurd (let k : ⊥ = cc in k)
header_tests true false c e f g n m h = absurd (let k : ⊥ = cc in k)
header_tests true true false e f g n m h = absurd (let k : ⊥ = cc in k)
header_tests true true true e f g n m h = (refl, refl, (cc))

-- a header that says a block length
pub header_facts : (bytes : List ℕ) (recorded B : ℕ) → header_of bytes recorded ≡ Ok B
    → (take 4 bytes ≡ magic) × (has_cut B recorded ≡ true) × (block_length_in bytes ≡ B)
unfolding header_of
header_facts bytes recorded B h =
    let tests = header_tests (bytes_eq (take 4 bytes) magic) (is_block_length (block_length_in bytes))
    (has_cut (block_length_in bytes) recorded) _ _ _ (block_length_in bytes) B h in
    let cut : has_cut B recorded ≡ true = rw (sym tests.2) tests.1 in
    ((bytes_eq-Decides (take 4 bytes) magic).0 tests.0, cut, tests.2)

-- a test for a part that is passed
part_test : (found : Option (List ℕ)) (e : StreamFault) (layout other : Layout)
    → (if is_none found then Err e else Ok layout) ≡ Ok other → IsSome found × (layout ≡ other)
part_test None e layout other h = absurd (let k : ⊥ = cc in k)
part_test (Some p) e layout other h = (refl, (cc))

-- a file that is long enough and isn't refused is an open stream
pub open_from_reading : (bytes : List ℕ) (meta : KeyRecord) (recorded : ℕ) (layout : Layout)
    → recorded ≤ length bytes
    → (header : Result ℕ StreamFault) → header_of bytes recorded ≡ header
    → first_part_of bytes meta recorded header ≡ Ok layout
    → IsOpen bytes layout
open_from_reading bytes meta recorded layout long (Err fault) e h = absurd (let k : ⊥ = cc in k)
open_from_reading bytes meta recorded layout long (Ok B) e h =
    let facts = header_facts bytes recorded B e in
    let test = part_test (part_at bytes (layout_of meta recorded B) 0) (Block 0) (layout_of meta recorded B) layout h in
    let P : Layout → Type 0 = λ l. IsOpen bytes l in
    subst P test.1 (record {
      long = long;
      begins = facts.0;
      block_length = facts.2;
      cut = facts.1;
      first_part = test.0;
    })

-- a path that has a refused opening, by what is held there
refused_at : (o : Option (List ℕ)) (meta : KeyRecord) (recorded : ℕ) (fault : StreamFault)
    → IsUnfetched o recorded fault → IsRefusal (opening_at o meta recorded) fault
refused_at None meta recorded Missing h = refl
refused_at (Some bytes) meta recorded Missing h = absurd (let k : ⊥ = cc in k)
refused_at None meta recorded (Short size) h = absurd h
refused_at (Some bytes) meta recorded (Short size) (e, lt) =
    cond-true _ _ _ (lt-ltb (length bytes) recorded lt) ∙ ap (λ n. Err (Short n)) (sym e)
refused_at o meta recorded NoMemory h = tt
refused_at o meta recorded Store h = tt
refused_at o meta recorded (BadLength n) h = absurd h
refused_at o meta recorded (Magic found) h = absurd h
refused_at o meta recorded (BlockLength found) h = absurd h
refused_at o meta recorded (Block number) h = absurd h

-- no recorded length below 36 is one of a stream
pub too_short : (files : Objects) (path : List ℕ) (meta : KeyRecord) (recorded : ℕ) → recorded < 36
    → opening_of files path meta recorded ≡ Err (BadLength recorded)
unfolding opening_of
too_short files path meta recorded h = cond-true _ _ _ (lt-ltb recorded 36 h)

-- the same where the store tells what it holds
pub opened_too_short : (known : Option Objects) (path : List ℕ) (meta : KeyRecord) (recorded : ℕ) → recorded < 36
    → IfSome known (λ files. Opens files path meta recorded (Err (BadLength recorded)))
opened_too_short None path meta recorded h = tt
opened_too_short (Some files) path meta recorded h = too_short files path meta recorded h

-- any other is read by what is held at the path
pub long_enough : (files : Objects) (path : List ℕ) (meta : KeyRecord) (recorded : ℕ) → 36 ≤ recorded
    → opening_of files path meta recorded ≡ opening_at (object_at files path) meta recorded
unfolding opening_of
long_enough files path meta recorded h = cond-false _ _ _ (le-ltb recorded 36 h)

-- why an object's first bytes aren't there is why the stream isn't open
pub refused_opening : (known : Option Objects) (path : List ℕ) (meta : KeyRecord) (recorded : ℕ) (fault : StreamFault)
    → 36 ≤ recorded → IfSome known (λ files. IsUnfetched (object_at files path) recorded fault)
    → IfSome known (λ files. Opens files path meta recorded (Err fault))
refused_opening None path meta recorded fault some h = h
refused_opening (Some files) path meta recorded fault some h =
    rw (long_enough files path meta recorded some) (refused_at (object_at files path) meta recorded fault h)

-- ---- what a store that tells its objects gives

-- an object is held, is long enough, and its header says a block length
pub record IsHeaded (files : Objects) (path : List ℕ) (recorded B : ℕ) : Type 0 where
  pub object : List ℕ
  pub held : object_at files path ≡ Some object
  pub long : recorded ≤ length object
  pub header : header_of object recorded ≡ Ok B

-- what holds of the object that is held
pub at_object : (files : Objects) (path object : List ℕ) (P : List ℕ → Type 0) → object_at files path ≡ Some object
    → IfSome (object_at files path) P → P object
at_object files path object P held h = rw held at h

-- the size of an object and then its header
pub is_headed : (known now : Option Objects) (path : List ℕ) (recorded B : ℕ) → now ≡ known
    → IfSome known (λ files. IsSomeAnd (object_at files path) (λ bytes. recorded ≤ length bytes))
    → IfSome now (λ files. IfSome (object_at files path) (λ object. recorded ≤ length object
    → header_of object recorded ≡ Ok B))
    → IfSome known (λ files. IsHeaded files path recorded B)
is_headed None now path recorded B same size header = tt
is_headed (Some files) now path recorded B same size header =
    by_object (object_at files path) refl size (rw same at header)
  where
    by_object : (o : Option (List ℕ)) → object_at files path ≡ o
        → IsSomeAnd o (λ bytes. recorded ≤ length bytes)
        → IfSome o (λ object. recorded ≤ length object → header_of object recorded ≡ Ok B)
        → IsHeaded files path recorded B
    by_object None e size header = absurd size
    by_object (Some object) e size header =
        record { object = object; held = e; long = size; header = header size }

-- an opening of an object that is held and long enough
opening_long : (files : Objects) (path object : List ℕ) (meta : KeyRecord) (recorded : ℕ) → 36 ≤ recorded
    → object_at files path ≡ Some object → recorded ≤ length object
    → opening_of files path meta recorded ≡ first_part_of object meta recorded (header_of object recorded)
opening_long files path object meta recorded some held long =
    long_enough files path meta recorded some
    ∙ ap (λ o. opening_at o meta recorded) held
    ∙ cond-false _ _ _ (le-ltb (length object) recorded long)

-- a header that isn't taken is why the stream isn't open
pub refused_by_header : (known now : Option Objects) (path : List ℕ) (meta : KeyRecord) (recorded : ℕ) (fault : StreamFault)
    → 36 ≤ recorded → now ≡ known
    → IfSome known (λ files. IsSomeAnd (object_at files path) (λ bytes. recorded ≤ length bytes))
    → IfSome now (λ files. IfSome (object_at files path) (λ object. recorded ≤ length object
    → IsHeaderRefusal object recorded fault))
    → IfSome known (λ files. Opens files path meta recorded (Err fault))
refused_by_header None now path meta recorded fault some same size header = tt
refused_by_header (Some files) now path meta recorded fault some same size header =
    by_object (object_at files path) refl size (rw same at header)
  where
    by_fault : (object : List ℕ) (f : StreamFault)
        → opening_of files path meta recorded ≡ first_part_of object meta recorded (header_of object recorded)
        → IsHeaderRefusal object recorded f → IsRefusal (opening_of files path meta recorded) f
    by_fault object Store opening h = tt
    by_fault object NoMemory opening h = tt
    by_fault object (BadLength n) opening h = opening ∙ ap (first_part_of object meta recorded) h
    by_fault object Missing opening h = opening ∙ ap (first_part_of object meta recorded) h
    by_fault object (Short n) opening h = opening ∙ ap (first_part_of object meta recorded) h
    by_fault object (Magic found) opening h = opening ∙ ap (first_part_of object meta recorded) h
    by_fault object (BlockLength n) opening h = opening ∙ ap (first_part_of object meta recorded) h
    by_fault object (Block number) opening h = opening ∙ ap (first_part_of object meta recorded) h

    by_object : (o : Option (List ℕ)) → object_at files path ≡ o
        → IsSomeAnd o (λ bytes. recorded ≤ length bytes)
        → IfSome o (λ object. recorded ≤ length object → IsHeaderRefusal object recorded fault)
        → IsRefusal (opening_of files path meta recorded) fault
    by_object None e size header = absurd size
    by_object (Some object) e size header =
        by_fault object fault (opening_long files path object meta recorded some e size) (header size)

-- what loading block 0 makes of an object with such a header
abbrev pub LoadsFirst : Option Objects → StreamValue → Option HeldBlock → Result (Unit {0}) StreamFault → Type 0
LoadsFirst known old block r = IfSome known (λ files. IfSome (object_at files old.path)
    (λ object. old.layout.recorded ≤ length object → Loads object old.layout 0 block r))

-- a stream of this cut that holds no block yet
abbrev pub unread : List ℕ → KeyRecord → ℕ → ℕ → StreamValue
unread path meta recorded B = record { path = path; layout = layout_of meta recorded B; block = None }

-- block 0 doesn't open, or the store failed
pub refused_by_block : (known now : Option Objects) (path : List ℕ) (meta : KeyRecord) (recorded B : ℕ)
    (old : StreamValue) (block : Option HeldBlock) (fault : StreamFault) → 36 ≤ recorded → now ≡ known
    → IfSome known (λ files. IsHeaded files path recorded B) → old ≡ unread path meta recorded B
    → LoadsFirst now old block (Err fault)
    → IfSome known (λ files. Opens files path meta recorded (Err fault))
refused_by_block None now path meta recorded B old block fault some same headed e loads = tt
refused_by_block (Some files) now path meta recorded B old block fault some same headed e loads =
    let P : StreamValue → Type 0 = λ s. LoadsFirst (Some files) s block (Err fault) in
    let Q : Option Objects → Type 0 = λ o. LoadsFirst o old block (Err fault) in
    let load : LoadsFirst (Some files) (unread path meta recorded B) block (Err fault) = subst P e (subst Q same loads) in
    by_fault fault (at_object files path headed.object _ headed.held load headed.long)
  where
    by_fault : (f : StreamFault) → Loads headed.object (layout_of meta recorded B) 0 block (Err f)
        → IsRefusal (opening_of files path meta recorded) f
    by_fault Store h = tt
    by_fault NoMemory h = absurd h
    by_fault (BadLength n) h = absurd h
    by_fault Missing h = absurd h
    by_fault (Short n) h = absurd h
    by_fault (Magic found) h = absurd h
    by_fault (BlockLength n) h = absurd h
    by_fault (Block number) (name, none) =
        rw name (opening_long files path headed.object meta recorded some headed.held headed.long
        ∙ ap (first_part_of headed.object meta recorded) headed.header
        ∙ (rw none refl))

-- block 0 opened
pub opened : (known now : Option Objects) (path : List ℕ) (meta : KeyRecord) (recorded B : ℕ)
    (old new : StreamValue) → 36 ≤ recorded → now ≡ known
    → IfSome known (λ files. IsHeaded files path recorded B) → old ≡ unread path meta recorded B
    → new.path ≡ old.path → new.layout ≡ old.layout → LoadsFirst now old new.block (Ok tt)
    → IfSome known (λ files. Opens files path meta recorded (Ok new))
opened None now path meta recorded B old new some same headed e same_path same_layout loads = tt
opened (Some files) now path meta recorded B old new some same headed e same_path same_layout loads =
    let P : StreamValue → Type 0 = λ s. LoadsFirst (Some files) s new.block (Ok tt) in
    let Q : Option Objects → Type 0 = λ o. LoadsFirst o old new.block (Ok tt) in
    let load : LoadsFirst (Some files) (unread path meta recorded B) new.block (Ok tt) = subst P e (subst Q same loads) in
    by_block new.block refl (at_object files path headed.object _ headed.held load headed.long)
  where
    by_block : (o : Option HeldBlock) → new.block ≡ o
        → IsSomeAnd o (λ block. (block.number ≡ 0)
        × (part_at headed.object (layout_of meta recorded B) 0 ≡ Some block.part))
        → IsOpened files path meta recorded new
    by_block None b h = absurd h
    by_block (Some block) b (zero, part) =
        let path_is : new.path ≡ path = same_path ∙ ap (λ s. s.path) e in
        let layout_is : new.layout ≡ layout_of meta recorded B = same_layout ∙ ap (λ s. s.layout) e in
        let reading : first_part_of headed.object meta recorded (Ok B) ≡ Ok (layout_of meta recorded B) = rw part refl in
        let P : Layout → Type 0 = λ l. IsOpen headed.object l in
        record {
          opening = opening_long files path headed.object meta recorded some headed.held headed.long
              ∙ ap (first_part_of headed.object meta recorded) headed.header ∙ reading ∙ ap Ok (sym layout_is);
          same_path = path_is;
          belongs = record {
            object = headed.object;
            held = ap (λ p. object_at files p) path_is ∙ headed.held;
            is_open = subst P (sym layout_is) (open_from_reading headed.object meta recorded
                (layout_of meta recorded B) headed.long (Ok B) headed.header reading);
            keeps = rw (b, layout_is, zero) part;
          };
        }

-- ---- how much an opening asks for

-- the size, the header and block 0
pub opening_asks : {Self : Type 0} (of : store.Ghosts Self) (path : List ℕ) (recorded B calls bytes : ℕ)
    (first second : Type 0) (x y : Self) → IfSome (of.held x) (λ files. IsHeaded files path recorded B)
    → calls ≡ 3 → bytes ≡ 8 + block_size B recorded 0 → (first → second) → (second → first)
    → ReadsPath of path calls bytes first x y
    → ReadsPath of path 3 (opening_bytes (of.held x) path recorded) second x y
opening_asks of path recorded B calls bytes first second x y headed e f to from reads = record {
  same = reads.same;
  count = record {
    later = reads.count.later;
    rose = λ h. reads.count.rose (from h);
    stays = λ none. reads.count.stays (λ h. none (to h));
  };
  asks = rw e at reads.asks;
  moves = by_held (of.held x) headed reads.moves;
  kept = reads.kept;
}
  where
    by_held : (known : Option Objects) → IfSome known (λ files. IsHeaded files path recorded B)
        → IfSome known (λ _. CountsOnly path bytes (of.moved x) (of.moved y))
        → IfSome known (λ _. CountsOnly path (opening_bytes known path recorded) (of.moved x) (of.moved y))
    by_held None h moves = tt
    by_held (Some files) h moves =
        let facts = header_facts h.object recorded B h.header in
        let most : opening_bytes (Some files) path recorded ≡ bytes =
        ap (λ o. first_bytes o recorded) h.held
        ∙ ap (λ b. 8 + block_size b recorded 0) facts.2 ∙ sym f in
        rw most moves
