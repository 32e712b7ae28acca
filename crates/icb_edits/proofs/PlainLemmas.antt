-- Values with whole numbers of 64 bits alone, and how deep they nest.
use Rattle.std.proofs.Common.{◌≡◌, ◌≤◌, ◌+◌, ℕ, ℤ, pos, negsuc, List, [], ◌∷◌, fold, Bool, true, false, ◌||◌, Option, Some, None, MatchOption, Ordering, Less, Equal, Greater, refl, arith}
use Rattle.std.specs.Ordering.{match_ordering, nat_cmp}
use Rattle.std.specs.Cmp.Lexicographic.{slice_cmp}
use Rattle.serde_json.specs.Data as json
use Rattle.serde_json.specs.Data.{Data, Members, depth, items_depth, members_depth, put}
use Rattle.serde_json.specs.View.{items_of}
use Rattle.serde_json.specs.Written.{has_float, items_have_float, members_have_float}
use Rattle.icb_types.specs.Lines.{number_json}
use Rattle.icb_edits.specs.Sets.{Sets, object_of, set_all, set_one}
use Rattle.icb_edits.specs.Values.{array_of, put_text}

-- each number is a whole one of 64 bits, and it has at most so many levels
pub record IsPlain (n : ℕ) (d : Data) : Type 0 where
  pub whole : has_float d ≡ false
  pub levels : depth d ≤ n

-- the same of each value of members
pub record ArePlain (n : ℕ) (ms : Members) : Type 0 where
  pub whole : members_have_float ms ≡ false
  pub levels : members_depth ms ≤ n

-- the same of each value that is set
abbrev pub SetsPlain : ℕ → Sets → Type 0
SetsPlain n [] = Unit {0}
SetsPlain n (s ∷ sets) = MatchOption s.1 (Unit {0}) (IsPlain n) × SetsPlain n sets

-- the same of each value of a list
abbrev pub AllPlain : ℕ → List Data → Type 0
AllPlain n [] = Unit {0}
AllPlain n (d ∷ ds) = IsPlain n d × AllPlain n ds

-- more levels are allowed
pub deeper : (m n : ℕ) (d : Data) → m ≤ n → IsPlain m d → IsPlain n d
deeper m n d h is = let few = is.levels in record { whole = is.whole; levels = omega arith }

both_false : (a b : Bool) → a ≡ false → b ≡ false → (a || b) ≡ false
both_false a b p q = rw (p, q) refl

member_plain : (n : ℕ) (k : List ℕ) (d : Data) (ms : Members) → IsPlain n d → ArePlain n ms → ArePlain n (json.member k d ms)
member_plain n k d ms p q =
    let a = p.levels in let b = q.levels in
    record { whole = both_false _ _ p.whole q.whole; levels = omega arith }

member_first : (n : ℕ) (k : List ℕ) (d : Data) (ms : Members) → ArePlain n (json.member k d ms) → IsPlain n d
member_first n k d ms q = record { whole = first_false (has_float d) _ q.whole; levels = let b = q.levels in omega arith }
  where
    first_false : (a b : Bool) → (a || b) ≡ false → a ≡ false
    first_false true b h = h
    first_false false b h = refl

member_rest : (n : ℕ) (k : List ℕ) (d : Data) (ms : Members) → ArePlain n (json.member k d ms) → ArePlain n ms
member_rest n k d ms q = record { whole = second_false (has_float d) _ q.whole; levels = let b = q.levels in omega arith }
  where
    second_false : (a b : Bool) → (a || b) ≡ false → b ≡ false
    second_false true b h = absurd (let never : ⊥ = cc in never)
    second_false false b h = h

by_order : (o : Ordering) (n : ℕ) (a b c : Members) → ArePlain n a → ArePlain n b → ArePlain n c → ArePlain n (match_ordering o a b c)
by_order Less n a b c p q r = p
by_order Equal n a b c p q r = q
by_order Greater n a b c p q r = r

-- a plain value was put
pub put_plain : (n : ℕ) (k : List ℕ) (d : Data) (ms : Members) → IsPlain n d → ArePlain n ms → ArePlain n (put k d ms)
put_plain n k d json.no_members p q = member_plain n k d json.no_members p q
put_plain n k d (json.member l e ms) p q =
    by_order (slice_cmp nat_cmp k l) n (json.member k d (json.member l e ms)) (json.member l d ms) (json.member l e (put k d ms))
    (member_plain n k d (json.member l e ms) p q)
    (member_plain n l d ms p (member_rest n l e ms q))
    (member_plain n l e (put k d ms) (member_first n l e ms q) (put_plain n k d ms p (member_rest n l e ms q)))

one_plain : (n : ℕ) (k : List ℕ) (o : Option Data) (ms : Members) → MatchOption o (Unit {0}) (IsPlain n) → ArePlain n ms → ArePlain n (set_one k o ms)
one_plain n k None ms p q = q
one_plain n k (Some d) ms p q = put_plain n k d ms p q

-- plain values were set
pub sets_plain : (n : ℕ) (sets : Sets) (ms : Members) → SetsPlain n sets → ArePlain n ms → ArePlain n (set_all sets ms)
sets_plain n [] ms p q = q
sets_plain n (s ∷ sets) ms p q = one_plain n s.0 s.1 (set_all sets ms) p.0 (sets_plain n sets ms p.1 q)

-- no members
pub none_plain : (n : ℕ) → ArePlain n json.no_members
none_plain n = record { whole = refl; levels = omega arith }

-- an object of plain members
pub object_plain : (n : ℕ) (ms : Members) → ArePlain n ms → IsPlain (n + 1) (json.object ms)
object_plain n ms q = let few = q.levels in record { whole = q.whole; levels = omega arith }

-- an object that was made of plain values
pub made_plain : (n : ℕ) (sets : Sets) → SetsPlain n sets → IsPlain (n + 1) (object_of sets)
made_plain n sets p = object_plain n _ (sets_plain n sets json.no_members p (none_plain n))

items_plain : (n : ℕ) (ds : List Data) → AllPlain n ds → (items_have_float (items_of ds) ≡ false) × (items_depth (items_of ds) ≤ n)
items_plain n [] p = (refl, omega arith)
items_plain n (d ∷ ds) p =
    let rest = items_plain n ds p.1 in let a = rest.1 in let b = p.0.levels in
    (both_false _ _ p.0.whole rest.0, omega arith)

-- an array of plain values
pub array_plain : (n : ℕ) (ds : List Data) → AllPlain n ds → IsPlain (n + 1) (array_of ds)
array_plain n ds p =
    let both = items_plain n ds p in let few = both.1 in record { whole = both.0; levels = omega arith }

-- a text
pub text_plain : (n : ℕ) (s : List ℕ) → IsPlain n (json.string s)
text_plain n s = record { whole = refl; levels = omega arith }

-- a truth value
pub bool_plain : (n : ℕ) (b : Bool) → IsPlain n (json.boolean b)
bool_plain n b = record { whole = refl; levels = omega arith }

-- a whole number
pub number_plain : (n : ℕ) (z : ℤ) → IsPlain n (number_json z)
number_plain n (pos m) = record { whole = refl; levels = omega arith }
number_plain n (negsuc m) = record { whole = refl; levels = omega arith }

-- texts that were put
pub texts_plain : (n : ℕ) (texts : List (List ℕ × List ℕ)) (ms : Members) → ArePlain n ms → ArePlain n (fold put_text ms texts)
texts_plain n [] ms q = q
texts_plain n (p ∷ ps) ms q = texts_plain n ps (put_text ms p) (put_plain n p.0 (json.string p.1) ms (text_plain n p.1) q)
