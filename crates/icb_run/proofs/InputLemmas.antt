-- How the pieces of an input follow one another.
use Rattle.std.proofs.Common.{◌≡◌, ◌∙◌, ◌+◌, ◌<◌, ◌≤◌, ◌≢◌, ℕ, List, [], ◌++◌, drop, length, Option, Some, None, Ok, Err, Vec, Global, vec_len, refl, sym, ap, arith, append-nil, length-append}
use Rattle.std.proofs.lemmas.List.{drop_at}
use Rattle.std.specs.Prelude.{IfSome}
use Rattle.icb_run.specs.Inputs.{ReadsAll, Splits}
use Rattle.icb_run.specs.declared.input.ReadFault.{ReadFault}
use Rattle.icb_run.specs.declared.input.ReadFault.TheVariants.{Input, Limit, NoMemory}

-- before the first piece
pub begins : (left : Option (List ℕ)) (bytes : List ℕ) → bytes ≡ [] → IfSome left (λ whole. Splits whole bytes left)
begins None bytes none = tt
begins (Some whole) bytes none = rw none refl

-- what is left after a further piece
rest_of : (whole split bytes : List ℕ) (now : Option (List ℕ)) → split ≡ whole
    → Splits split bytes now → Splits whole bytes now
rest_of whole split bytes now same h = rw same at h

-- after a further piece
pub goes_on : (first left now : Option (List ℕ)) (bytes more : List ℕ)
    → IfSome first (λ whole. Splits whole bytes left)
    → IfSome left (λ rest. Splits (bytes ++ rest) more now)
    → IfSome first (λ whole. Splits whole more now)
goes_on None left now bytes more before piece = tt
goes_on (Some whole) None now bytes more before piece = absurd before
goes_on (Some whole) (Some rest) now bytes more before piece = rest_of whole (bytes ++ rest) more now before piece

-- at the end of the input
pub ends_all : (first left now : Option (List ℕ)) (bytes more : List ℕ) (limit : ℕ)
    → IfSome first (λ whole. Splits whole bytes left)
    → IfSome left (λ rest. (rest ≡ []) × (now ≡ Some [])) → more ≡ bytes → length bytes ≤ limit
    → IfSome first (λ whole. ReadsAll whole limit now (Ok more))
ends_all None left now bytes more limit before ends same fits = tt
ends_all (Some whole) None now bytes more limit before ends same fits = absurd before
ends_all (Some whole) (Some rest) now bytes more limit before ends same fits =
    let all : bytes ≡ whole = sym (append-nil bytes) ∙ ap (λ xs. bytes ++ xs) (sym ends.0) ∙ before in
    (same ∙ all, (rw all at fits), ends.1)

-- one byte past the limit
pub too_long : (first left : Option (List ℕ)) (bytes : List ℕ) (limit : ℕ)
    → IfSome first (λ whole. Splits whole bytes left) → length bytes ≡ limit + 1
    → IfSome first (λ whole. ReadsAll whole limit left (Err Limit))
too_long None left bytes limit before past = tt
too_long (Some whole) None bytes limit before past = absurd before
too_long (Some whole) (Some rest) bytes limit before past =
    let size : length whole ≡ length bytes + length rest = ap length (sym before) ∙ length-append bytes rest in (
      omega (arith, size, past),
      ap Some (sym (ap (λ (text : List ℕ). drop (limit + 1) text) (sym before) ∙ drop_at bytes rest (limit + 1) past)),
    )

-- a fault of the input, or want of memory
pub faulty : (first now : Option (List ℕ)) (limit : ℕ) (fault : ReadFault) → fault ≢ Limit
    → IfSome first (λ whole. ReadsAll whole limit now (Err fault))
faulty None now limit fault other = tt
faulty (Some whole) now limit Input other = tt
faulty (Some whole) now limit Limit other = absurd (other refl)
faulty (Some whole) now limit NoMemory other = tt

-- a list's length is the number of its items
pub items_within : (bytes : Vec ℕ Global) (limit : ℕ) → vec_len bytes ≤ limit → length bytes.items ≤ limit
items_within bytes limit fits = let size = bytes.ok in omega (arith, fits, size)

-- the same where it is one longer
pub items_pass : (bytes : Vec ℕ Global) (limit : ℕ) → limit < vec_len bytes → vec_len bytes ≤ limit + 1
    → length bytes.items ≡ limit + 1
items_pass bytes limit past short = let size = bytes.ok in omega (arith, past, short, size)
