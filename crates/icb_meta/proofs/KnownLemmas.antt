-- What is known of a value that one step after another gives.
use Rattle.std.proofs.Common.{◌≡◌, List, ℕ, Bool, true, false, if◌then◌else◌, Option, Some, None, MatchOption, option_and_then, Result, Ok, Err, refl}
use Rattle.serde_json.specs.Data.{Data}
use Rattle.serde_json.specs.Find.{get}
use Rattle.icb_types.specs.Steps.{◌>>=◌}
use Rattle.icb_meta.specs.Shown.{member, or_field}

-- what holds of a value that may be there
abbrev pub IfThere : {A : Type 0} → (A → Type 0) → Option A → Type 0
IfThere P o = MatchOption o (Unit {0}) P

-- what holds of both choices holds of the chosen one
pub either : {A : Type 0} (P : A → Type 0) (b : Bool) (x y : Option A) → IfThere P x → IfThere P y → IfThere P (if b then x else y)
either P true x y hx hy = hx
either P false x y hx hy = hy

-- what passed
pub if_true : {A : Type 0} (P : A → Type 0) (b : Bool) (a : A) → (b ≡ true → P a) → IfThere P (if b then Some a else None)
if_true P true a h = h refl
if_true P false a h = tt

-- the second step gives what holds of what the first gave
pub then_holds : {A B : Type 0} (P : A → Type 0) (Q : B → Type 0) (f : A → Option B) (o : Option A) → IfThere P o → ((a : A) → P a → IfThere Q (f a))
    → IfThere Q (option_and_then f o)
then_holds P Q f None h step = tt
then_holds P Q f (Some a) h step = step a h

-- the second step alone
pub then_any : {A B : Type 0} (Q : B → Type 0) (f : A → Option B) (o : Option A) → ((a : A) → IfThere Q (f a)) → IfThere Q (option_and_then f o)
then_any Q f None step = tt
then_any Q f (Some a) step = step a

-- ---- results

-- what holds of a value that is shown
abbrev pub IfShown : {A E : Type 0} → (A → Type 0) → Result A E → Type 0
IfShown P (Ok a) = P a
IfShown P (Err e) = Unit {0}

of_option : {A : Type 0} (P : A → Type 0) (name : List ℕ) (o : Option A) → IfThere P o → IfShown P (or_field name o)
of_option P name None h = tt
of_option P name (Some a) h = h

-- a member that is needed
pub member_known : {A : Type 0} (P : A → Type 0) (read : Data → Option A) (name : List ℕ) (d : Data) → ((e : Data) → IfThere P (read e)) → IfShown P (member read name d)
member_known P read name d known = of_option P name (option_and_then read (get name d)) (then_any P read (get name d) known)

pub shown_then : {A B E : Type 0} (P : A → Type 0) (Q : B → Type 0) (f : A → Result B E) (r : Result A E) → IfShown P r → ((a : A) → P a → IfShown Q (f a)) → IfShown Q (r >>= f)
shown_then P Q f (Ok a) h step = step a h
shown_then P Q f (Err e) h step = tt

pub shown_any : {A B E : Type 0} (Q : B → Type 0) (f : A → Result B E) (r : Result A E) → ((a : A) → IfShown Q (f a)) → IfShown Q (r >>= f)
shown_any Q f (Ok a) step = step a
shown_any Q f (Err e) step = tt
