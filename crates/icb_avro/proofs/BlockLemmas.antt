-- Items one by one are the items of the blocks.
use Rattle.std.proofs.Common.{◌≡◌, ℕ, zero, suc, ◌+◌, ◌*◌, ◌^◌, ◌<◌, ◌≤◌, ltb, leb, eqb, Bool, true, false, cond, List, [], ◌∷◌, ◌++◌, length, Result, Ok, Err, refl, sym, ap, ◌∙◌, arith, append_assoc, length-append}
use Rattle.std.specs.Prelude.{ℤ, pos, negsuc, Option, Some, None}
use Rattle.std.proofs.lemmas.List.{append-nil}
use Rattle.icb_avro.specs.declared.fault.AvroCause.TheVariants as cause
use Rattle.icb_avro.specs.declared.fault.Refusal.{Refusal}
use Rattle.icb_avro.specs.Reading.{◌>>=◌, Read, long_at, items_at, of_size, sized_at, block_at, is_zero, blocks_at, all_blocks_at}
use Rattle.icb_avro.specs.Numbers.{IsVarint}
use Rattle.icb_avro.specs.Blocks.{Standing, sized, after_size, size_begins, after_count, block_begins, next_item}
use Rattle.icb_avro.proofs.Steps.{bind_ok, done, ok_is, test_ok}
use Rattle.icb_avro.proofs.Found.{long_found}

-- items that were read before
abbrev pub with_front : {A : Type 0} → List A → Read (List A) → Read (List A)
with_front front read = read >>= (λ xs. Ok (front ++ xs.0, xs.1))

-- the rest of a block that says its size
abbrev pub ended : {A : Type 0} → Option (ℕ × ℕ) → List A × List ℕ → Read (List A)
ended size xs = sized size xs.1 >>= (λ rest. Ok (xs.0, rest))

-- the items of a block that has so many more, and those of the blocks behind it
abbrev pub others : {A : Type 0} → (List ℕ → Read A) → ℕ → ℕ → Option (ℕ × ℕ) → List ℕ → Read (List A)
others item most left size rest = (items_at item left rest >>= ended size) >>= (λ xs. with_front xs.0 (blocks_at item most xs.1))

-- the items from where a loop stands
abbrev pub from_here : {A : Type 0} → (List ℕ → Read A) → ℕ → Standing → Read (List A)
from_here item most s = cond s.at_item
    (item s.rest >>= (λ x. with_front (x.0 ∷ []) (others item most s.left s.size x.1))) (Ok ([], s.rest))

bind_assoc : {A B C : Type 0} (r : Result A Refusal) (f : A → Result B Refusal) (g : B → Result C Refusal) → ((r >>= f) >>= g) ≡ (r >>= (λ x. f x >>= g))
bind_assoc (Ok x) f g = refl
bind_assoc (Err e) f g = refl

bind_same : {A B : Type 0} (r : Result A Refusal) (f g : A → Result B Refusal) → ((x : A) → f x ≡ g x) → (r >>= f) ≡ (r >>= g)
bind_same (Ok x) f g h = h x
bind_same (Err e) f g h = refl

with_nothing : {A : Type 0} (read : Read (List A)) → with_front [] read ≡ read
with_nothing (Ok x) = refl
with_nothing (Err e) = refl

front_twice : {A : Type 0} (xs ys : List A) (read : Read (List A)) → with_front xs (with_front ys read) ≡ with_front (xs ++ ys) read
front_twice xs ys (Ok x) = ap (λ zs. Ok (zs, x.1)) (sym (append_assoc xs ys x.0))
front_twice xs ys (Err e) = refl

-- an item in front of others of its block
one_item : {A : Type 0} (size : Option (ℕ × ℕ)) (x : A) (blocks : List ℕ → Read (List A)) (read : Read (List A))
    → ((read >>= (λ xs. Ok (x ∷ xs.0, xs.1))) >>= (λ xs. ended size xs >>= (λ ys. with_front ys.0 (blocks ys.1))))
    ≡ with_front (x ∷ []) ((read >>= ended size) >>= (λ xs. with_front xs.0 (blocks xs.1)))
one_item {A} size x blocks (Ok xs) = closed (sized size xs.1)
  where
    closed : (r : Result (List ℕ) Refusal) → ((r >>= (λ rest. done {A = List A × List ℕ} (x ∷ xs.0, rest))) >>= (λ ys. with_front ys.0 (blocks ys.1)))
        ≡ with_front (x ∷ []) ((r >>= (λ rest. done {A = List A × List ℕ} (xs.0, rest))) >>= (λ ys. with_front ys.0 (blocks ys.1)))
    closed (Ok rest) = sym (front_twice (x ∷ []) xs.0 (blocks rest))
    closed (Err e) = refl
one_item size x blocks (Err e) = refl

items_step : {A : Type 0} (item : List ℕ → Read A) (most n : ℕ) (size : Option (ℕ × ℕ)) (rest : List ℕ)
    → others item most (suc n) size rest ≡ (item rest >>= (λ x. with_front (x.0 ∷ []) (others item most n size x.1)))
unfolding items_at
items_step {A} item most n size rest = by_cases (item rest)
  where
    by_cases : (r : Read A) → (((r >>= (λ x. items_at item n x.1 >>= (λ xs. Ok (x.0 ∷ xs.0, xs.1)))) >>= ended size) >>= (λ xs. with_front xs.0 (blocks_at item most xs.1)))
        ≡ (r >>= (λ x. with_front (x.0 ∷ []) (others item most n size x.1)))
    by_cases (Ok x) = bind_assoc (items_at item n x.1 >>= (λ xs. Ok (x.0 ∷ xs.0, xs.1))) (ended size) (λ xs. with_front xs.0 (blocks_at item most xs.1))
        ∙ one_item size x.0 (blocks_at item most) (items_at item n x.1)
    by_cases (Err e) = refl

-- ---- the first item of a block

tested : {A B C : Type 0} (b : Bool) (r : Result A Refusal) (d : Refusal) (s : Result B Refusal) (f : A → Result C Refusal) (g : B → Result C Refusal)
    → (r >>= f) ≡ (s >>= g) → (cond b r (Err d) >>= f) ≡ (cond b s (Err d) >>= g)
tested true r d s f g e = e
tested false r d s f g e = refl

no_size : {A : Type 0} (read : Read (List A)) (f : List A × List ℕ → Read (List A)) → ((read >>= ended None) >>= f) ≡ (read >>= f)
no_size (Ok x) f = refl
no_size (Err e) f = refl

-- a size is tested alike
same_size : {A : Type 0} (b : Bool) (xs : List A × List ℕ) (d : Refusal) → cond b (done xs) (Err d) ≡ (cond b (done xs.1) (Err d) >>= (λ rest. Ok (xs.0, rest)))
same_size true xs d = refl
same_size false xs d = refl

sized_block : {A : Type 0} (item : List ℕ → Read A) (most n : ℕ) (rest : List ℕ) (x : ℤ × List ℕ)
    → (sized_at item (suc n) rest x >>= (λ xs. with_front xs.0 (blocks_at item most xs.1))) ≡ (after_size n rest x >>= from_here item most)
sized_block item most n rest (pos size, r) =
    ap (λ read. read >>= (λ xs. with_front xs.0 (blocks_at item most xs.1)))
    (bind_same (items_at item (suc n) r) (of_size size r) (ended (Some (size, length r)))
    (λ xs. same_size (eqb (length r) (size + length xs.1)) xs (record { left = length xs.1; cause = cause.Size })))
    ∙ items_step item most n (Some (size, length r)) r
sized_block item most n rest (negsuc size, r) = refl

bind_both : {A B C D : Type 0} (r : Result A Refusal) (f : A → Result B Refusal) (g : B → Result D Refusal) (h : A → Result C Refusal) (k : C → Result D Refusal)
    → ((x : A) → (f x >>= g) ≡ (h x >>= k)) → ((r >>= f) >>= g) ≡ ((r >>= h) >>= k)
bind_both (Ok x) f g h k e = e x
bind_both (Err d) f g h k e = refl

counted : {A : Type 0} (item : List ℕ → Read A) (most : ℕ) (all : List ℕ) (x : ℤ × List ℕ)
    → cond (is_zero x.0) (Ok ([], x.1)) (block_at item all x >>= (λ xs. with_front xs.0 (blocks_at item most xs.1))) ≡ (after_count all x >>= from_here item most)
unfolding size_begins
counted item most all (pos zero, rest) = refl
counted item most all (pos (suc n), rest) =
    let s : Standing = record { at_item = true; left = n; size = None; rest = rest } in
    tested (leb (suc n) (length rest)) (items_at item (suc n) rest) (record { left = length all; cause = cause.Count }) (done s)
    (λ xs. with_front xs.0 (blocks_at item most xs.1)) (from_here item most)
    (sym (no_size (items_at item (suc n) rest) (λ xs. with_front xs.0 (blocks_at item most xs.1))) ∙ items_step item most n None rest)
counted item most all (negsuc n, rest) =
    tested (ltb n (length rest)) (long_at rest >>= sized_at item (suc n) rest) (record { left = length all; cause = cause.Count }) (long_at rest >>= after_size n rest)
    (λ xs. with_front xs.0 (blocks_at item most xs.1)) (from_here item most)
    (bind_both (long_at rest) (sized_at item (suc n) rest) (λ xs. with_front xs.0 (blocks_at item most xs.1)) (after_size n rest) (from_here item most) (sized_block item most n rest))

begins : {A : Type 0} (item : List ℕ → Read A) (most : ℕ) (all : List ℕ) → blocks_at item (suc most) all ≡ (block_begins all >>= from_here item most)
unfolding blocks_at block_begins
begins {A} item most all = by_cases (long_at all)
  where
    by_cases : (r : Read ℤ) → (r >>= (λ n. cond (is_zero n.0) (Ok ([], n.1)) (block_at item all n >>= (λ xs. with_front xs.0 (blocks_at item most xs.1)))))
        ≡ ((r >>= after_count all) >>= from_here item most)
    by_cases (Ok x) = counted item most all x
    by_cases (Err e) = refl

-- ---- the next item

next_of_block : {A : Type 0} (item : List ℕ → Read A) (most n : ℕ) (size : Option (ℕ × ℕ)) (rest : List ℕ) → others item most (suc n) size rest ≡ (next_item (suc n) size rest >>= from_here item most)
unfolding next_item
next_of_block item most n size rest = items_step item most n size rest

next_of_blocks : {A : Type 0} (item : List ℕ → Read A) (most : ℕ) (size : Option (ℕ × ℕ)) (rest : List ℕ) → others item (suc most) zero size rest ≡ (next_item zero size rest >>= from_here item most)
unfolding next_item items_at
next_of_blocks {A} item most size rest = by_cases (sized size rest)
  where
    by_cases : (r : Result (List ℕ) Refusal) → ((r >>= (λ t. done {A = List A × List ℕ} ([], t))) >>= (λ xs. with_front xs.0 (blocks_at item (suc most) xs.1))) ≡ ((r >>= block_begins) >>= from_here item most)
    by_cases (Ok t) = with_nothing (blocks_at item (suc most) t) ∙ begins item most t
    by_cases (Err e) = refl

-- ---- a loop over the items

-- a number takes a byte
has_byte : (bytes : List ℕ) (n : ℕ) → IsVarint bytes n → 0 < length bytes
has_byte [] n h = absurd h
has_byte (b ∷ bytes) n h = omega arith

pub long_shorter : (all : List ℕ) (n : ℤ) (rest : List ℕ) → long_at all ≡ Ok (n, rest) → length rest < length all
long_shorter all n rest e =
    let f = long_found all n rest e in
    omega (arith, has_byte f.0 _ f.2.number, ap length f.1, length-append f.0 rest)

abbrev Behind : Standing → List ℕ → Type 0
Behind s all = length s.rest < length all

size_behind : (n : ℕ) (all : List ℕ) (x : ℤ × List ℕ) (s : Standing) → length x.1 < length all → after_size n all x ≡ Ok s → Behind s all
size_behind n all (pos size, r) s h e = let t : record { at_item = true; left = n; size = Some (size, length r); rest = r } ≡ s = ok_is _ s e in rw (← t) h
size_behind n all (negsuc size, r) s h e = absurd cc

count_behind : (all : List ℕ) (x : ℤ × List ℕ) (s : Standing) → length x.1 < length all → after_count all x ≡ Ok s → Behind s all
unfolding size_begins
count_behind all (pos zero, rest) s h e = let t : record { at_item = false; left = 0; size = None; rest = rest } ≡ s = ok_is _ s e in rw (← t) h
count_behind all (pos (suc n), rest) s h e =
    let r : Standing = record { at_item = true; left = n; size = None; rest = rest } in
    let k = test_ok (leb (suc n) (length rest)) (done r) (record { left = length all; cause = cause.Count }) s e in
    let t : r ≡ s = ok_is r s k.1 in
    rw (← t) h
count_behind all (negsuc n, rest) s h e =
    let k = test_ok (ltb n (length rest)) (long_at rest >>= after_size n rest) (record { left = length all; cause = cause.Count }) s e in
    let b = bind_ok (long_at rest) (after_size n rest) s k.1 in
    let inner : Behind s rest = size_behind n rest b.0 s (long_shorter rest b.0.0 b.0.1 b.1) b.2 in
    omega arith

pub begins_behind : (all : List ℕ) (s : Standing) → block_begins all ≡ Ok s → Behind s all
unfolding block_begins
begins_behind all s e =
    let b = bind_ok (long_at all) (after_count all) s e in
    count_behind all b.0 s (long_shorter all b.0.0 b.0.1 b.1) b.2

sized_same : (size : Option (ℕ × ℕ)) (rest t : List ℕ) → sized size rest ≡ Ok t → rest ≡ t
sized_same None rest t e = ok_is rest t e
sized_same (Some s) rest t e = let k = test_ok (eqb s.1 (s.0 + length rest)) (done rest) (record { left = length rest; cause = cause.Size }) t e in ok_is rest t k.1

-- a turn leaves fewer bytes, or as many and fewer items
pub falls : (left : ℕ) (size : Option (ℕ × ℕ)) (rest : List ℕ) (t : Standing) (n : ℕ) → next_item left size rest ≡ Ok t → length rest ≤ n → t.left < 2 ^ 64
    → length t.rest * 2 ^ 64 + t.left < n * 2 ^ 64 + left
unfolding next_item
falls (suc k) size rest t n e h fits =
    let s : record { at_item = true; left = k; size = size; rest = rest } ≡ t = ok_is _ t e in
    let a : k ≡ t.left = ap (λ (u : Standing). u.left) s in
    let b : length rest ≡ length t.rest = ap (λ (u : Standing). length u.rest) s in
    omega arith
falls zero size rest t n e h fits =
    let b = bind_ok (sized size rest) block_begins t e in
    let same : length rest ≡ length b.0 = ap length (sized_same size rest b.0 b.1) in
    let less : length t.rest < length b.0 = begins_behind b.0 t b.2 in
    omega arith

-- the items so far, and those from where the loop stands, are all
pub record Along {A : Type 0} (item : List ℕ → Read A) (whole : Read (List A)) (items : List A) (s : Standing) : Type 0 where
  pub most : ℕ
  pub enough : length s.rest < most
  pub is : whole ≡ with_front items (from_here item most s)

pub starts : {A : Type 0} (item : List ℕ → Read A) (all : List ℕ) (s : Standing) → block_begins all ≡ Ok s → Along item (all_blocks_at item all) [] s
starts item all s e = record {
  most = length all;
  enough = begins_behind all s e;
  is = begins item (length all) all ∙ ap (λ r. r >>= from_here item (length all)) e ∙ sym (with_nothing (from_here item (length all) s));
}

pub starts_not : {A : Type 0} (item : List ℕ → Read A) (all : List ℕ) (r : Refusal) → block_begins all ≡ Err r → all_blocks_at item all ≡ Err r
starts_not item all r e = begins item (length all) all ∙ ap (λ b. b >>= from_here item (length all)) e

pub item_refused : {A : Type 0} (item : List ℕ → Read A) (whole : Read (List A)) (items : List A) (s : Standing) (r : Refusal) → Along item whole items s → s.at_item ≡ true → item s.rest ≡ Err r → whole ≡ Err r
item_refused item whole items s r along at e = along.is ∙ rw (at, e) refl

-- where the loop stands after an item
after_item : {A : Type 0} (item : List ℕ → Read A) (whole : Read (List A)) (items : List A) (s : Standing) (most : ℕ) (x : A) (rest : List ℕ)
    → whole ≡ with_front items (from_here item most s) → s.at_item ≡ true → item s.rest ≡ Ok (x, rest)
    → whole ≡ with_front (items ++ x ∷ []) (others item most s.left s.size rest)
after_item item whole items s most x rest is at e = is ∙ rw (at, e) (front_twice items (x ∷ []) (others item most s.left s.size rest))

next_along : {A : Type 0} (item : List ℕ → Read A) (whole : Read (List A)) (items : List A) (most left : ℕ) (size : Option (ℕ × ℕ)) (rest : List ℕ) (t : Standing)
    → whole ≡ with_front items (others item most left size rest) → length rest < most → next_item left size rest ≡ Ok t → Along item whole items t
unfolding next_item
next_along item whole items most (suc n) size rest t is enough e = record {
  most = most;
  enough = rw (← ok_is _ t e) enough;
  is = is ∙ ap (with_front items) (next_of_block item most n size rest ∙ ap (λ r. r >>= from_here item most) e);
}
next_along item whole items zero zero size rest t is enough e = absurd (let f : ⊥ = omega (arith, enough) in f)
next_along item whole items (suc most) zero size rest t is enough e =
    let b = bind_ok (sized size rest) block_begins t e in
    let same : length rest ≡ length b.0 = ap length (sized_same size rest b.0 b.1) in
    let less : length t.rest < length b.0 = begins_behind b.0 t b.2 in
    record {
      most = most;
      enough = omega arith;
      is = is ∙ ap (with_front items) (next_of_blocks item most size rest ∙ ap (λ r. r >>= from_here item most) e);
    }

pub goes_on : {A : Type 0} (item : List ℕ → Read A) (whole : Read (List A)) (items : List A) (s : Standing) (x : A) (rest : List ℕ) (t : Standing)
    → Along item whole items s → s.at_item ≡ true → item s.rest ≡ Ok (x, rest) → length rest ≤ length s.rest → next_item s.left s.size rest ≡ Ok t → Along item whole (items ++ x ∷ []) t
goes_on item whole items s x rest t along at e h n =
    let enough : length rest < along.most = omega (arith, along.enough, h) in
    next_along item whole (items ++ x ∷ []) along.most s.left s.size rest t (after_item item whole items s along.most x rest along.is at e) enough n

next_refused : {A : Type 0} (item : List ℕ → Read A) (whole : Read (List A)) (items : List A) (most left : ℕ) (size : Option (ℕ × ℕ)) (rest : List ℕ) (r : Refusal)
    → whole ≡ with_front items (others item most left size rest) → length rest < most → next_item left size rest ≡ Err r → whole ≡ Err r
unfolding next_item
next_refused item whole items most (suc n) size rest r is enough e = absurd cc
next_refused item whole items zero zero size rest r is enough e = absurd (let f : ⊥ = omega (arith, enough) in f)
next_refused item whole items (suc most) zero size rest r is enough e = is ∙ ap (with_front items) (next_of_blocks item most size rest ∙ ap (λ b. b >>= from_here item most) e)

pub refused_behind : {A : Type 0} (item : List ℕ → Read A) (whole : Read (List A)) (items : List A) (s : Standing) (x : A) (rest : List ℕ) (r : Refusal)
    → Along item whole items s → s.at_item ≡ true → item s.rest ≡ Ok (x, rest) → length rest ≤ length s.rest → next_item s.left s.size rest ≡ Err r → whole ≡ Err r
refused_behind item whole items s x rest r along at e h n =
    let enough : length rest < along.most = omega (arith, along.enough, h) in
    next_refused item whole (items ++ x ∷ []) along.most s.left s.size rest r (after_item item whole items s along.most x rest along.is at e) enough n

pub finishes : {A : Type 0} (item : List ℕ → Read A) (whole : Read (List A)) (items : List A) (s : Standing) → Along item whole items s → s.at_item ≡ false → whole ≡ Ok (items, s.rest)
finishes item whole items s along at = along.is ∙ rw at (ap (λ xs. Ok (xs, s.rest)) (append-nil items))
