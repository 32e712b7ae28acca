-- What is read to its end is read so by any reading that agrees where nothing stops.
use Rattle.std.specs.Prelude.{◌≡◌, List, [], ◌∷◌, Option, Some, None}
use Rattle.std.proofs.Common.{refl, ap, ◌∙◌}
use Rattle.icb_table.specs.Trace.{Stop, Trace, behind, each_in, ended, then_read, through}

-- a reading agrees with another one wherever that isn't stopped
abbrev pub Extends : {A B : Type 0} → (A → Trace B) → (A → Trace B) → Type 0
Extends {A} read more = (x : A) → (read x).stop ≡ None → more x ≡ read x

-- where nothing stopped in all, nothing stopped in the first part
pub behind_first : {A : Type 0} (items : List A) (stop : Option Stop) (more : Trace A)
    → (behind items stop more).stop ≡ None → stop ≡ None
behind_first items None more e = refl
behind_first items (Some s) more e = e

-- and nothing in the second
pub behind_second : {A : Type 0} (items : List A) (stop : Option Stop) (more : Trace A)
    → (behind items stop more).stop ≡ None → more.stop ≡ None
behind_second items None more e = e
behind_second items (Some s) more e = absurd cc

pub each_extends : {A B : Type 0} (read more : A → Trace B) → Extends read more → (xs : List A)
    → (each_in read xs).stop ≡ None → each_in more xs ≡ each_in read xs
unfolding each_in
each_extends read more h [] e = refl
each_extends read more h (x ∷ xs) e =
    let here : more x ≡ read x = h x (behind_first (read x).items (read x).stop (each_in read xs) e) in
    let rest : each_in more xs ≡ each_in read xs =
    each_extends read more h xs (behind_second (read x).items (read x).stop (each_in read xs) e) in
    ap (λ t. then_read t (each_in more xs)) here ∙ ap (then_read (read x)) rest

-- where all of it is read, all items were read
pub through_reads : {A B : Type 0} (read : A → Trace B) (t : Trace A)
    → (through read t).stop ≡ None → t.stop ≡ None
through_reads {B = B} read t e =
    behind_second (each_in read t.items).items (each_in read t.items).stop (ended {A = B} t.stop) e

-- and the same is read of each item
pub through_extends : {A B : Type 0} (read more : A → Trace B) → Extends read more → (t : Trace A)
    → (through read t).stop ≡ None → through more t ≡ through read t
through_extends {B = B} read more h t e =
    ap (λ r. then_read r (ended t.stop)) (each_extends read more h t.items
    (behind_first (each_in read t.items).items (each_in read t.items).stop (ended {A = B} t.stop) e))
