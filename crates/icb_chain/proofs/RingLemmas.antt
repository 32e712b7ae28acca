-- Lines and keys of a keyring.
use Rattle.std.proofs.Common.{◌≡◌, ◌+◌, ◌*◌, ◌/◌, ◌%◌, ◌≤◌, ◌<◌, inl, inr, ◌||◌, ◌⊎◌, Bool, subst, ℕ, zero, suc, true, false, List, [], ◌∷◌, length, drop, map, Some, None, Result, Ok, Err, refl, sym, ap, ◌∙◌, arith, add-one, drop-cons, get_or, bytes_eq}
use Rattle.std.specs.Prelude.{is_ok, IsOk, IfOk, MatchResult, if◌then◌else◌, ◌==◌}
use Rattle.std.specs.Borrow.{Bor}
use Rattle.std.specs.Result.{result_ok}
use Rattle.std.proofs.lemmas.Bool.{eqb-true}
use Rattle.icb_aes.specs.Fips197.{IsKeyLength}
use Rattle.icb_aes.specs.declared.key.KeyLength.{KeyLength}
use Rattle.std.proofs.lemmas.Bool.Decides.{nat_tests}
use Rattle.hex.specs.Hex.{decode_of, decode_sized}
use Rattle.hex.specs.declared.error.FromHexError.{FromHexError}
use Rattle.hex.specs.declared.error.FromHexError.TheVariants.{OddLength}
use Rattle.hex.proofs.HexLemmas.{decode_of-ok, decode_of-odd, decode_sized-odd, decode_sized-twice}
use Rattle.std.proofs.lemmas.Bool.{cases_eq}
use Rattle.icb_base.specs.KeyMetadata.{is_key_length}
use Rattle.icb_chain.specs.Ring.{Ring, key_named, key_of_digits, ring_behind, with_line}
use Rattle.icb_chain.specs.RingCalls.{AddsLine, StopsAtLine, pairs_of}
use Rattle.icb_chain.specs.declared.fault.KeyringFault.{KeyringFault}
use Rattle.icb_chain.specs.declared.fault.KeyringFault.TheVariants as fault
use Rattle.icb_chain.specs.declared.masters.Master.{Master}

-- ---- digits

-- what digits decode to has half their number
half : (digits bytes : List ℕ) → decode_of digits ≡ Ok bytes → length bytes ≡ length digits / 2
half digits bytes e = let facts = decode_of-ok digits bytes e in omega (arith, facts.2)

-- no other number of digits makes a key
pub other_length : (digits : List ℕ) → is_key_length (length digits / 2) ≡ false → key_of_digits digits ≡ None
other_length digits other = by_result (decode_of digits) refl
  where
    by_result : (r : Result (List ℕ) FromHexError) → decode_of digits ≡ r → key_of_digits digits ≡ None
    by_result (Ok bytes) e =
        let no : is_key_length (length bytes) ≡ false = rw (half digits bytes e) other in rw (e, no) refl
    by_result (Err fault) e = rw e refl

-- no key has more than 32 bytes
pub key_fits : (n : ℕ) → is_key_length n ≡ true → n ≤ 32
key_fits n h = grind (arith, nat_tests)

-- digits of the right number make the bytes that were written, where they decode
pub right_length : (digits out : List ℕ) (r : Result (Unit {0}) FromHexError) (room : ℕ)
    → is_key_length (length digits / 2) ≡ true
    → MatchResult (decode_sized digits room) (λ bytes. (r ≡ Ok tt) × (out ≡ bytes)) (λ e. r ≡ Err e)
    → room ≡ length digits / 2 → key_of_digits digits ≡ (if is_ok r then Some out else None)
right_length digits out r room right written same = elim (cases_eq (length digits % 2) 1) [
  | inl odd ↦ (let refused : r ≡ Err OddLength = rw (same, decode_sized-odd digits (length digits / 2) odd) at written in
      rw (refused, decode_of-odd digits odd) refl)
  | inr even ↦ (let twice : length digits ≡ 2 * (length digits / 2) = omega arith in
      by_result (decode_of digits) refl (rw (same, decode_sized-twice digits (length digits / 2) twice) at written))
]
  where
    by_result : (d : Result (List ℕ) FromHexError) → decode_of digits ≡ d
        → MatchResult (decode_of digits) (λ bytes. (r ≡ Ok tt) × (out ≡ bytes)) (λ e. r ≡ Err e)
        → key_of_digits digits ≡ (if is_ok r then Some out else None)
    by_result (Ok bytes) e known =
        let yes : is_key_length (length bytes) ≡ true = rw (half digits bytes e) right in
        let told = rw e at known in rw (told.0, told.1, e, yes) refl
    by_result (Err fault) e known = let told = rw e at known in rw (told, e) refl

or_true : (a b : Bool) → (a || b) ≡ true → (a ≡ true) ⊎ (b ≡ true)
or_true true b e = inl refl
or_true false b e = inr e

key_length_is : (n : ℕ) → is_key_length n ≡ true → IsKeyLength n
key_length_is n h = elim (or_true ((n == 16) || (n == 24)) (n == 32) h) [
  | inl a ↦ elim (or_true (n == 16) (n == 24) a) [
    | inl b ↦ inl (eqb-true n 16 b)
    | inr b ↦ inr (inl (eqb-true n 24 b))
  ]
  | inr c ↦ inr (inr (eqb-true n 32 c))
]

made_is : (out : List ℕ) (made : Result (List ℕ) KeyLength) → IsOk made → IfOk made (λ key. key ≡ out) → result_ok made ≡ Some out
made_is out (Ok key) ok is = ap Some is
made_is out (Err e) ok is = absurd cc

-- the key that is made of them
pub key_made : (digits out : List ℕ) (r : Result (Unit {0}) FromHexError) (room : ℕ) (made : Result (List ℕ) KeyLength)
    → room ≡ length digits / 2 → is_key_length room ≡ true → length out ≡ room
    → MatchResult (decode_sized digits room) (λ bytes. (r ≡ Ok tt) × (out ≡ bytes)) (λ e. r ≡ Err e)
    → is_ok r ≡ true → (IsKeyLength (length out) → IsOk made) → IfOk made (λ key. key ≡ out)
    → result_ok made ≡ key_of_digits digits
key_made digits out r room made half_is size same written ok makes is =
    let right : is_key_length (length digits / 2) ≡ true = subst (λ (n : ℕ). is_key_length n ≡ true) half_is size in
    let known : key_of_digits digits ≡ Some out = right_length digits out r room right written half_is ∙ ap (λ b. if b then Some out else None) ok in
    made_is out made (makes (subst IsKeyLength (sym same) (key_length_is room size))) is ∙ sym known

-- ---- lines

-- no line makes the ring as it is
pub no_line : (number : ℕ) (ring : Ring) → ring_behind number ring [] ≡ Ok ring
unfolding ring_behind
no_line number ring = refl

-- a line goes into the ring, and the next one follows
pub line_read : (number : ℕ) (ring more : Ring) (line : List ℕ) (lines : List (List ℕ)) → with_line ring line ≡ Some more
    → ring_behind number ring (line ∷ lines) ≡ ring_behind (suc number) more lines
unfolding ring_behind
line_read number ring more line lines e = rw e refl

-- a line that isn't in the form ends it
pub line_refused : (number : ℕ) (ring : Ring) (line : List ℕ) (lines : List (List ℕ)) → with_line ring line ≡ None
    → ring_behind number ring (line ∷ lines) ≡ Err number
unfolding ring_behind
line_refused number ring line lines e = rw e refl

abbrev pub texts : List (Bor (List ℕ)) → List (List ℕ)
texts lines = map (λ line. line.now) lines

-- a line was put into the ring, and the others are left
pub line_next : (lines : List (Bor (List ℕ))) (i next number after : ℕ) (d : Bor (List ℕ)) (ring more : Ring) (whole : Result Ring ℕ)
    → next ≡ suc i → after ≡ suc number → i < length lines → ring_behind number ring (texts (drop i lines)) ≡ whole
    → with_line ring (get_or lines i d).now ≡ Some more → ring_behind after more (texts (drop next lines)) ≡ whole
line_next lines i next number after d ring more whole e f h left w =
    let split : drop i lines ≡ get_or lines i d ∷ drop (suc i) lines = drop-cons lines i d h in
    let step = line_read number ring more (get_or lines i d).now (texts (drop (suc i) lines)) w in
    rw (e, f) (sym step ∙ sym (ap (λ (xs : List (Bor (List ℕ))). ring_behind number ring (texts xs)) split) ∙ left)

-- a line that isn't put into the ring ends the reading
pub line_stops : (lines : List (Bor (List ℕ))) (i number : ℕ) (d : Bor (List ℕ)) (stop : KeyringFault) (ring now : Ring) (whole : Result Ring ℕ)
    → i < length lines → ring_behind number ring (texts (drop i lines)) ≡ whole
    → AddsLine number (Err stop) now (with_line ring (get_or lines i d).now) → StopsAtLine stop whole
line_stops lines i number d fault.Many ring now whole h left adds = adds
line_stops lines i number d (fault.BadKeyring line) ring now whole h left adds =
    let split : drop i lines ≡ get_or lines i d ∷ drop (suc i) lines = drop-cons lines i d h in
    sym left ∙ ap (λ (xs : List (Bor (List ℕ))). ring_behind number ring (texts xs)) split
    ∙ line_refused number ring (get_or lines i d).now (texts (drop (suc i) lines)) adds.1 ∙ ap (λ (n : ℕ). Err n) (sym adds.0)
line_stops lines i number d fault.NoMemory ring now whole h left adds = tt

none_left : (i : ℕ) (lines : List (Bor (List ℕ))) → length lines ≤ i → drop i lines ≡ []
none_left i [] h = drop_nothing i
  where
    drop_nothing : (i : ℕ) → drop {A = Bor (List ℕ)} i [] ≡ []
    drop_nothing zero = refl
    drop_nothing (suc i) = refl
none_left zero (line ∷ lines) h = absurd (let f : ⊥ = omega (arith, h) in f)
none_left (suc i) (line ∷ lines) h = none_left i lines (omega (arith, h))

-- where no line is left the ring is whole
pub no_more_lines : (lines : List (Bor (List ℕ))) (i number : ℕ) (ring : Ring) (whole : Result Ring ℕ)
    → length lines ≤ i → ring_behind number ring (texts (drop i lines)) ≡ whole → whole ≡ Ok ring
no_more_lines lines i number ring whole h left =
    sym left ∙ ap (λ (xs : List (Bor (List ℕ))). ring_behind number ring (texts xs)) (none_left i lines h) ∙ no_line number ring

-- ---- look-ups

-- the key at this place, or one behind it
pub named_here : (masters : List Master) (i : ℕ) (m : Master) (id : List ℕ) → i < length masters → m ≡ get_or masters i m
    → key_named id (pairs_of (drop i masters)) ≡ (if bytes_eq m.id id then Some m.key else key_named id (pairs_of (drop (i + 1) masters)))
named_here [] i m id h e = absurd (let f : ⊥ = omega (arith, h) in f)
named_here (n ∷ masters) zero m id h e = rw e refl
named_here (n ∷ masters) (suc i) m id h e = let inner = named_here masters i m id (omega (arith, h)) e in rw add-one (rw add-one at inner)
