-- How many blocks a read has asked for, as far as it has come.
use Rattle.std.proofs.Common.{◌≡◌, ℕ, zero, suc, ◌+◌, ◌-◌, ◌<◌, ◌≤◌, Bool, true, false, cond, List, [], ◌∷◌, ◌++◌, length, Option, Some, None, Result, Err, refl, ap, sym, subst, ◌∙◌, arith, length-append, append-nil}
use Rattle.std.specs.Prelude.{not}
use Rattle.std.specs.List.{filter, range_with_len, sum_by}
use Rattle.std.specs.Prelude.{◌&&◌, eqb}
use Rattle.std.specs.Option.{option_eq, option_map}
use Rattle.std.proofs.lemmas.Bool.{and_from}
use Rattle.std.proofs.lemmas.List.Sums.{sum_by-append}
use Rattle.icb_base.specs.Calls.{ReadsPath}
use Rattle.icb_base.specs.declared.storage.Store as store
use Rattle.icb_base.proofs.CallLemmas.{reads_twice, reads_within}
use Rattle.icb_stream.specs.Asking.{asked_blocks, asked_bytes, asked_calls, asks_for, has_number, held_after, last_or, number_held}
use Rattle.icb_stream.specs.Belongs.{StreamValue}
use Rattle.icb_stream.specs.Content.{touches}
use Rattle.icb_stream.specs.Cut.{block_size}
use Rattle.icb_stream.specs.Layout.{Layout, blocks}
use Rattle.icb_stream.proofs.FrontLemmas.{Touches, touches-from, touches-true}

-- one more number at the end of a range
filter_more : (p : ℕ → Bool) (a n i : ℕ) → a + n ≡ i
    → filter p (range_with_len a (suc n)) ≡ filter p (range_with_len a n) ++ cond (p i) (i ∷ []) []
filter_more p a zero i e = let same : a ≡ i = omega (arith, e) in rw same refl
filter_more p a (suc n) i e = by_test (p a) (filter_more p (a + 1) n i (omega (arith, e)))
  where
    by_test : (b : Bool)
        → filter p (range_with_len (a + 1) (suc n)) ≡ filter p (range_with_len (a + 1) n) ++ cond (p i) (i ∷ []) []
        → cond b (a ∷ filter p (range_with_len (a + 1) (suc n))) (filter p (range_with_len (a + 1) (suc n)))
        ≡ cond b (a ∷ filter p (range_with_len (a + 1) n)) (filter p (range_with_len (a + 1) n)) ++ cond (p i) (i ∷ []) []
    by_test true rest = ap (λ xs. a ∷ xs) rest
    by_test false rest = rest

-- none of the first ones
none_below : (p : ℕ → Bool) (n : ℕ) → ((i : ℕ) → i < n → p i ≡ false) → filter p (range_with_len 0 n) ≡ []
none_below p zero h = refl
none_below p (suc n) h =
    filter_more p 0 n n (omega arith)
    ∙ ap (λ b. filter p (range_with_len 0 n) ++ cond b (n ∷ []) []) (h n (omega arith))
    ∙ append-nil (filter p (range_with_len 0 n))
    ∙ none_below p n (λ i lt. h i (omega (arith, lt)))

-- none of the last ones
none_above : (p : ℕ → Bool) (n d end : ℕ) → end ≡ n + d → ((i : ℕ) → n ≤ i → i < end → p i ≡ false)
    → filter p (range_with_len 0 end) ≡ filter p (range_with_len 0 n)
none_above p n zero end e h = let same : end ≡ n = omega (arith, e) in rw same refl
none_above p n (suc d) end e h =
    let last : end ≡ suc (n + d) = omega (arith, e) in
    ap (λ m. filter p (range_with_len 0 m)) last
    ∙ filter_more p 0 (n + d) (n + d) (omega arith)
    ∙ ap (λ b. filter p (range_with_len 0 (n + d)) ++ cond b ((n + d) ∷ []) []) (h (n + d) (omega arith) (omega (arith, e)))
    ∙ append-nil (filter p (range_with_len 0 (n + d)))
    ∙ none_above p n d (n + d) refl (λ i lo hi. h i lo (omega (arith, hi, e)))

-- the blocks below a number that a read asks for
pub asked_below : StreamValue → ℕ → ℕ → ℕ → List ℕ
asked_below stream at n number = filter (asks_for stream at n) (range_with_len 0 number)

-- how many calls and bytes they are
pub calls_below : StreamValue → ℕ → ℕ → ℕ → ℕ
calls_below stream at n number = length (asked_below stream at n number)

pub bytes_below : StreamValue → ℕ → ℕ → ℕ → ℕ
bytes_below stream at n number =
    sum_by (block_size stream.layout.block_length stream.layout.recorded) (asked_below stream at n number)

-- one more block is asked for
pub asked_more : (stream : StreamValue) (at n number : ℕ) → asks_for stream at n number ≡ true
    → (calls_below stream at n (number + 1) ≡ calls_below stream at n number + 1)
    × (bytes_below stream at n (number + 1) ≡ bytes_below stream at n number
    + block_size stream.layout.block_length stream.layout.recorded number)
unfolding asked_below calls_below bytes_below
asked_more stream at n number asks =
    let size : ℕ → ℕ = block_size stream.layout.block_length stream.layout.recorded in
    let before : List ℕ = filter (asks_for stream at n) (range_with_len 0 number) in
    let next : number + 1 ≡ suc number = omega arith in
    let one : List ℕ = number ∷ [] in
    let more : filter (asks_for stream at n) (range_with_len 0 (number + 1)) ≡ before ++ one =
    ap (λ m. filter (asks_for stream at n) (range_with_len 0 m)) next
    ∙ filter_more (asks_for stream at n) 0 number number (omega arith)
    ∙ ap (λ b. before ++ cond b one []) asks in (
      ap length more ∙ length-append before one,
      (let sum : sum_by size (before ++ one) ≡ sum_by size before + (0 + size number) = sum_by-append size before one in
          let e : sum_by size (before ++ one) ≡ sum_by size before + size number = omega (arith, sum) in
          ap (sum_by size) more ∙ e),
    )

-- or it isn't
pub asked_same : (stream : StreamValue) (at n number : ℕ) → asks_for stream at n number ≡ false
    → (calls_below stream at n (number + 1) ≡ calls_below stream at n number)
    × (bytes_below stream at n (number + 1) ≡ bytes_below stream at n number)
unfolding asked_below calls_below bytes_below
asked_same stream at n number asks =
    let size : ℕ → ℕ = block_size stream.layout.block_length stream.layout.recorded in
    let before : List ℕ = filter (asks_for stream at n) (range_with_len 0 number) in
    let next : number + 1 ≡ suc number = omega arith in
    let one : List ℕ = number ∷ [] in
    let more : filter (asks_for stream at n) (range_with_len 0 (number + 1)) ≡ before =
    ap (λ m. filter (asks_for stream at n) (range_with_len 0 m)) next
    ∙ filter_more (asks_for stream at n) 0 number number (omega arith)
    ∙ ap (λ b. before ++ cond b one []) asks ∙ append-nil before in
    (ap length more, ap (sum_by size) more)

-- blocks below a greater number are no fewer
below_grows : (stream : StreamValue) (at n number d end : ℕ) → end ≡ number + d
    → (calls_below stream at n number ≤ calls_below stream at n end)
    × (bytes_below stream at n number ≤ bytes_below stream at n end)
below_grows stream at n number zero end e = let same : end ≡ number = omega (arith, e) in rw same (omega arith, omega arith)
below_grows stream at n number (suc d) end e =
    let last : end ≡ number + d + 1 = omega (arith, e) in
    let before = below_grows stream at n number d (number + d) refl in
    rw last (by_test (asks_for stream at n (number + d)) refl before)
  where
    by_test : (b : Bool) → asks_for stream at n (number + d) ≡ b
        → (calls_below stream at n number ≤ calls_below stream at n (number + d))
        × (bytes_below stream at n number ≤ bytes_below stream at n (number + d))
        → (calls_below stream at n number ≤ calls_below stream at n (number + d + 1))
        × (bytes_below stream at n number ≤ bytes_below stream at n (number + d + 1))
    by_test true asks before =
        let more = asked_more stream at n (number + d) asks in
        (omega (arith, before.0, more.0), omega (arith, before.1, more.1))
    by_test false asks before =
        let more = asked_same stream at n (number + d) asks in
        (omega (arith, before.0, more.0), omega (arith, before.1, more.1))

-- so all of them are within what the whole read asks for
pub below_within : (stream : StreamValue) (at n number : ℕ) → number ≤ blocks stream.layout
    → (calls_below stream at n number ≤ asked_calls stream at n)
    × (bytes_below stream at n number ≤ asked_bytes stream at n)
unfolding asked_below calls_below bytes_below asked_blocks
below_within stream at n number le =
    below_grows stream at n number (blocks stream.layout - number) (blocks stream.layout) (omega (arith, le))

-- ---- what the calls so far did to the store

-- a touched block that isn't held is asked for
pub asks_touched : (stream : StreamValue) (at n number : ℕ) → Touches stream.layout at n number
    → has_number stream.block number ≡ false → asks_for stream at n number ≡ true
asks_touched stream at n number touched other =
    and_from _ _ (touches-from stream.layout at n number touched) (ap not other)

-- a block that is held isn't asked for
pub asks_not : (stream : StreamValue) (at n number : ℕ) → has_number stream.block number ≡ true
    → asks_for stream at n number ≡ false
asks_not stream at n number same =
    ap (λ b. touches stream.layout at n number && not b) same ∙ and_false (touches stream.layout at n number)
  where
    and_false : (b : Bool) → (b && false) ≡ false
    and_false true = refl
    and_false false = refl

-- the calls of a read so far
abbrev pub ReadsBelow : {Self : Type 0} → store.Ghosts Self → StreamValue → ℕ → ℕ → ℕ → Type 0 → Self → Self → Type 0
ReadsBelow of stream at n number fault x y =
    ReadsPath of stream.path (calls_below stream at n number) (bytes_below stream at n number) fault x y

-- one more block was asked for
pub reads_more : {Self : Type 0} (of : store.Ghosts Self) (stream mid : StreamValue) (at n m number : ℕ) (fault : Type 0)
    (x y z : Self) → (of.keeps x y → of.keeps y z → of.keeps x z) → m ≡ n
    → mid.path ≡ stream.path → mid.layout ≡ stream.layout → asks_for stream at n number ≡ true
    → ReadsBelow of stream at n number ⊥ x y
    → ReadsPath of mid.path 1 (block_size mid.layout.block_length mid.layout.recorded number) fault y z
    → ReadsBelow of stream at m (number + 1) fault x z
reads_more of stream mid at n m number fault x y z keeps same same_path same_layout asks before one =
    let more = asked_more stream at n number asks in
    let P : List ℕ → Type 0 = λ p. ReadsPath of p 1
    (block_size mid.layout.block_length mid.layout.recorded number) fault y z in
    let Q : Layout → Type 0 = λ l. ReadsPath of stream.path 1 (block_size l.block_length l.recorded number) fault y z in
    let here : ReadsPath of stream.path 1 (block_size stream.layout.block_length stream.layout.recorded number) fault y z =
    subst Q same_layout (subst P same_path one) in
    rw (same, more.0, more.1) (reads_twice of stream.path _ 1 _ _ ⊥ fault x y z keeps (λ f. f) before here)

-- the held block wasn't
pub reads_same : {Self : Type 0} (of : store.Ghosts Self) (stream : StreamValue) (at n number : ℕ) (x y : Self)
    → asks_for stream at n number ≡ false
    → ReadsBelow of stream at n number ⊥ x y → ReadsBelow of stream at n (number + 1) ⊥ x y
reads_same of stream at n number x y asks before =
    let more = asked_same stream at n number asks in rw (more.0, more.1) before

-- no fault comes where it can't
pub reads_well : {Self : Type 0} (of : store.Ghosts Self) (path : List ℕ) (calls bytes : ℕ) (fault : Type 0) (x y : Self)
    → (fault → ⊥) → ReadsPath of path calls bytes fault x y → ReadsPath of path calls bytes ⊥ x y
reads_well of path calls bytes fault x y none =
    reads_within of path calls calls bytes bytes fault ⊥ x y (omega arith) (omega arith) none (λ f. absurd f)

-- the calls so far are within those of the whole read
pub reads_ended : {Self : Type 0} (of : store.Ghosts Self) (stream : StreamValue) (at n m number : ℕ)
    (first second : Type 0) (x y : Self) → m ≡ n → number ≤ blocks stream.layout
    → (first → second) → (second → first) → ReadsBelow of stream at n number first x y
    → ReadsPath of stream.path (asked_calls stream at m) (asked_bytes stream at m) second x y
reads_ended of stream at n m number first second x y same le to from reads =
    let within = below_within stream at n number le in
    rw same (reads_within of stream.path _ _ _ _ first second x y within.0 within.1 to from reads)

-- the same refusal in another type of answer
pub same_refusal : {A B E : Type 0} (x y : E) → (let r : Result A E = Err x in r ≡ Err y)
    → (let r : Result B E = Err x in r ≡ Err y)
same_refusal x y e = let same : x ≡ y = cc in ap Err same

-- the number that a stream keeps is that of the block that it holds
pub number_is : (held : Option ℕ) (part : ℕ → List ℕ) (number : ℕ)
    → has_number (option_map (λ i. record { number = i; part = part i }) held) number
    ≡ option_eq eqb held (Some number)
number_is None part number = refl
number_is (Some i) part number = refl

-- ---- which block is held

-- the last block is held
last_more : (held : Option ℕ) (blocks : List ℕ) (i : ℕ) → last_or held (blocks ++ i ∷ []) ≡ Some i
last_more held [] i = refl
last_more held (b ∷ blocks) i = last_more (Some b) blocks i

-- the number of the block that is held when a read comes to this one
pub held_below : StreamValue → ℕ → ℕ → ℕ → Option ℕ
held_below stream at n number = last_or (number_held stream.block) (asked_below stream at n number)

-- a block that isn't touched isn't asked for
asks_untouched : (stream : StreamValue) (at n i : ℕ) → (Touches stream.layout at n i → ⊥)
    → asks_for stream at n i ≡ false
asks_untouched stream at n i none =
    ap (λ b. b && not (has_number stream.block i)) (by_test (touches stream.layout at n i) refl)
  where
    by_test : (b : Bool) → touches stream.layout at n i ≡ b → b ≡ false
    by_test true e = absurd (none (touches-true stream.layout at n i e))
    by_test false e = refl

-- at first it is the one that was held
pub holds_first : (stream : StreamValue) (at n number : ℕ)
    → ((i : ℕ) → i < number → Touches stream.layout at n i → ⊥)
    → number_held stream.block ≡ held_below stream at n number
unfolding held_below asked_below
holds_first stream at n number none =
    sym (ap (last_or (number_held stream.block))
    (none_below (asks_for stream at n) number (λ i lt. asks_untouched stream at n i (none i lt))))

-- then the one that was read
pub holds_more : (stream : StreamValue) (at n m number : ℕ) → m ≡ n → asks_for stream at n number ≡ true
    → Some number ≡ held_below stream at m (number + 1)
unfolding held_below asked_below
holds_more stream at n m number same asks =
    let next : number + 1 ≡ suc number = omega arith in
    let before : List ℕ = filter (asks_for stream at n) (range_with_len 0 number) in
    let one : List ℕ = number ∷ [] in
    let more : filter (asks_for stream at n) (range_with_len 0 (number + 1)) ≡ before ++ one =
    ap (λ m. filter (asks_for stream at n) (range_with_len 0 m)) next
    ∙ filter_more (asks_for stream at n) 0 number number (omega arith)
    ∙ ap (λ b. before ++ cond b one []) asks in
    rw same (sym (ap (last_or (number_held stream.block)) more ∙ last_more (number_held stream.block) before number))

-- or the same
pub holds_same : (stream : StreamValue) (at n number : ℕ) → asks_for stream at n number ≡ false
    → held_below stream at n number ≡ held_below stream at n (number + 1)
unfolding held_below asked_below
holds_same stream at n number asks =
    let next : number + 1 ≡ suc number = omega arith in
    let before : List ℕ = filter (asks_for stream at n) (range_with_len 0 number) in
    let one : List ℕ = number ∷ [] in
    let more : filter (asks_for stream at n) (range_with_len 0 (number + 1)) ≡ before =
    ap (λ m. filter (asks_for stream at n) (range_with_len 0 m)) next
    ∙ filter_more (asks_for stream at n) 0 number number (omega arith)
    ∙ ap (λ b. before ++ cond b one []) asks ∙ append-nil before in
    sym (ap (last_or (number_held stream.block)) more)

-- at the end it is the last one
pub holds_last : (stream : StreamValue) (at n m number : ℕ) → m ≡ n → number ≤ blocks stream.layout
    → ((i : ℕ) → i < blocks stream.layout → number ≤ i → Touches stream.layout at n i → ⊥)
    → held_below stream at n number ≡ held_after stream at m
unfolding held_below asked_below asked_blocks
holds_last stream at n m number same le none =
    rw same (sym (ap (last_or (number_held stream.block)) (none_above (asks_for stream at n) number
    (blocks stream.layout - number) (blocks stream.layout) (omega (arith, le))
    (λ i lo hi. asks_untouched stream at n i (none i hi lo)))))

-- a read of nothing asks for nothing
pub holds_nothing : (stream : StreamValue) (at n : ℕ) → n ≡ 0 → number_held stream.block ≡ held_after stream at n
unfolding asked_blocks
holds_nothing stream at n e =
    sym (ap (last_or (number_held stream.block))
    (none_below (asks_for stream at n) (blocks stream.layout)
    (λ i lt. asks_untouched stream at n i (λ touched. let f : ⊥ = omega (arith, e, touched.0) in f))))
