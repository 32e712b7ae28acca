-- What holds where a part of the outside tells of itself.
use Rattle.std.proofs.Common.{◌≡◌, Option, Some, None, refl}
use Rattle.std.specs.Prelude.{IfSome}

-- what holds whatever a part tells holds where it tells
pub unless_told : {A : Type 0} {P : A → Type 0} (told : Option A) → ((x : A) → P x) → IfSome told P
unless_told None holds = tt
unless_told (Some x) holds = holds x

-- what follows where a part tells follows from what holds there
pub where_told : {A : Type 0} {P Q : A → Type 0} (told : Option A) → ((x : A) → P x → Q x) → IfSome told P → IfSome told Q
where_told None follows h = tt
where_told (Some x) follows h = follows x h

-- the same of two facts
pub where_both_told : {A : Type 0} {P Q R : A → Type 0} (told : Option A) → ((x : A) → P x → Q x → R x)
    → IfSome told P → IfSome told Q → IfSome told R
where_both_told None follows h k = tt
where_both_told (Some x) follows h k = follows x h k

-- the same of three facts
pub where_three_told : {A : Type 0} {P Q R T : A → Type 0} (told : Option A)
    → ((x : A) → P x → Q x → R x → T x) → IfSome told P → IfSome told Q → IfSome told R → IfSome told T
where_three_told None follows h k l = tt
where_three_told (Some x) follows h k l = follows x h k l

-- what holds of what a part tells holds where it tells
pub told_as : {A : Type 0} {P : A → Type 0} (told : Option A) → ((x : A) → told ≡ Some x → P x) → IfSome told P
told_as None holds = tt
told_as (Some x) holds = holds x refl
