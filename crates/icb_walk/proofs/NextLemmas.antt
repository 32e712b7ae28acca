-- The steps of a walk up to what is next.
use Rattle.std.specs.Prelude.{◌≡◌, ℕ, List, Option, Some, None, IfSome, Ok, Err}
use Rattle.std.proofs.Common.{refl, subst, ◌∙◌, arith}
use Rattle.icb_base.specs.Causes.{Blames}
use Rattle.icb_base.specs.Objects.{Objects}
use Rattle.icb_base.specs.declared.storage.Store as store
use Rattle.icb_table.specs.Contents.{Plaintexts}
use Rattle.icb_table.specs.Rows.{Columns}
use Rattle.icb_walk.proofs.CauseLemmas.{blames_as}
use Rattle.icb_walk.proofs.WalkLemmas.{allows_later, answer_later, asks_later, asks_none, over_nothing, over_twice}
use Rattle.icb_walk.specs.Answers.{Answers, AsksNeeded, PassedOver, StepsOn}
use Rattle.icb_walk.specs.Steps.{ReadsFile, ReadsStore}
use Rattle.icb_walk.specs.Walks.{AllowsNext, FitsStore}
use Rattle.icb_walk.specs.declared.fault.TreeFault.{TreeFault}
use Rattle.icb_walk.specs.declared.fault.TreeFault.TheVariants as fault
use Rattle.icb_walk.specs.declared.leaf.Leaf.{Leaf}
use Rattle.icb_walk.specs.declared.walk.Walk.{Walk}

-- a walk went over lists and manifests, and asked for files that it needed
pub record HasPassed {Self : Type 0} (of : store.Ghosts Self) (columns : Columns) (plain : Plaintexts) (a b : Walk) (x y : Self) : Type 0 where
  pub over : PassedOver columns plain a b
  pub asks : AsksNeeded columns plain a (of.asked x) (of.asked y)
  pub moves : AsksNeeded columns plain a (of.moved x) (of.moved y)

-- so it is for all plaintexts that are allowed, and it still fits
abbrev pub IsOn : {Self : Type 0} → store.Ghosts Self → Objects → Walk → Walk → Self → Self → Type 0
IsOn of files a b x y = FitsStore files a → FitsStore files b × ((columns : Columns) (plain : Plaintexts)
    → AllowsNext columns plain files a → HasPassed of columns plain a b x y)

pub on_start : {Self : Type 0} (of : store.Ghosts Self) (files : Objects) (w : Walk) (x : Self) → IsOn of files w w x x
on_start of files w x fits = (
  fits,
  λ columns plain allows. record {
    over = over_nothing columns plain w;
    asks = asks_none columns plain w (of.asked x) (of.asked x) refl;
    moves = asks_none columns plain w (of.moved x) (of.moved x) refl;
  },
)

pub on_step : {Self : Type 0} (of : store.Ghosts Self) (files : Objects) (a b c : Walk) (x y z : Self) → IsOn of files a b x y
    → (FitsStore files b → FitsStore files c) → (FitsStore files b → StepsOn of files b c y z (Ok None)) → IsOn of files a c x z
on_step of files a b c x y z on fits step start =
    let now = on start in (
      fits now.0,
      λ columns plain allows.
          let p = now.1 columns plain allows in
          let s = step now.0 columns plain (allows_later columns plain files a b p.over allows) in
          record {
            over = over_twice columns plain a b c p.over s.step;
            asks = asks_later columns plain a b (of.asked x) (of.asked y) (of.asked z) p.over p.asks s.asks;
            moves = asks_later columns plain a b (of.moved x) (of.moved y) (of.moved z) p.over p.moves s.moves;
          },
    )

pub on_found : {Self : Type 0} (of : store.Ghosts Self) (files : Objects) (a b c : Walk) (x y z : Self) (found : Option Leaf) → IsOn of files a b x y
    → (FitsStore files b → StepsOn of files b c y z (Ok (Some found))) → FitsStore files a → Answers of files a c x z (Ok found)
on_found of files a b c x y z found on step start columns plain allows =
    let now = on start in
    let p = now.1 columns plain allows in
    let s = step now.0 columns plain (allows_later columns plain files a b p.over allows) in
    record {
      answer = answer_later columns plain files a b c (Ok found) p.over s.step;
      asks = asks_later columns plain a b (of.asked x) (of.asked y) (of.asked z) p.over p.asks s.asks;
      moves = asks_later columns plain a b (of.moved x) (of.moved y) (of.moved z) p.over p.moves s.moves;
    }

pub on_refused : {Self : Type 0} (of : store.Ghosts Self) (files : Objects) (a b c : Walk) (x y z : Self) (e : TreeFault) → IsOn of files a b x y
    → (FitsStore files b → StepsOn of files b c y z (Err e)) → FitsStore files a → Answers of files a c x z (Err e)
on_refused of files a b c x y z e on step start columns plain allows =
    let now = on start in
    let p = now.1 columns plain allows in
    let s = step now.0 columns plain (allows_later columns plain files a b p.over allows) in
    record {
      answer = answer_later columns plain files a b c (Err e) p.over s.step;
      asks = asks_later columns plain a b (of.asked x) (of.asked y) (of.asked z) p.over p.asks s.asks;
      moves = asks_later columns plain a b (of.moved x) (of.moved y) (of.moved z) p.over p.moves s.moves;
    }

pub on_stop : {Self : Type 0} (of : store.Ghosts Self) (files : Objects) (a b : Walk) (x y : Self) → IsOn of files a b x y
    → FitsStore files a → Answers of files a b x y (Err fault.NoMemory)
on_stop of files a b x y on start columns plain allows =
    let p = (on start).1 columns plain allows in
    record { answer = (p.over, tt); asks = p.asks; moves = p.moves }

-- ---- what a store tells

pub told_twice : {A : Type 0} (one two : Option A) (P Q R : A → Type 0) → two ≡ one → ((a : A) → P a → Q a → R a)
    → IfSome one P → IfSome two Q → IfSome one R
told_twice None two P Q R same join p q = tt
told_twice (Some a) two P Q R same join p q = join a p (rw same at q)

pub told_once : {A : Type 0} (one : Option A) (P Q : A → Type 0) → ((a : A) → one ≡ Some a → P a → Q a) → IfSome one P → IfSome one Q
told_once None P Q h p = tt
told_once (Some a) P Q h p = h a refl p

pub if_told : {A : Type 0} (one : Option A) (Q : A → Type 0) → ((a : A) → one ≡ Some a → Q a) → IfSome one Q
if_told None Q h = tt
if_told (Some a) Q h = h a refl

-- ---- faults

pub reads_then : {Self : Type 0} (of : store.Ghosts Self) (failed : Type 0) (x y z : Self) → (of.keeps x y → of.keeps y z → of.keeps x z)
    → ReadsStore of ⊥ x y → ReadsStore of failed y z → ReadsStore of failed x z
reads_then of failed x y z keeps one two = record {
  same = two.same ∙ one.same;
  count = subst (λ n. Blames failed n (of.faults z)) (one.count.stays (λ h. h)) two.count;
  kept = keeps one.kept two.kept;
}

pub reads_as : {Self : Type 0} (of : store.Ghosts Self) (p q : Type 0) (x y : Self) → (p → q) → (q → p) → ReadsStore of p x y → ReadsStore of q x y
reads_as of p q x y to from r = record { same = r.same; count = blames_as p q (of.faults x) (of.faults y) to from r.count; kept = r.kept }

pub reads_none : {Self : Type 0} (of : store.Ghosts Self) (p : Type 0) (x : Self) → (p → ⊥) → of.keeps x x → ReadsStore of p x x
reads_none of p x no_fault kept = record {
  same = refl;
  count = record { later = omega arith; rose = λ h. absurd (no_fault h); stays = λ h. refl };
  kept = kept;
}

-- calls for one path are calls that read
pub reads_store : {Self : Type 0} (of : store.Ghosts Self) (path : List ℕ) (p q : Type 0) (x y : Self) → (p → q) → (q → p)
    → ReadsFile of path p x y → ReadsStore of q x y
reads_store of path p q x y to from r = record { same = r.same; count = blames_as p q (of.faults x) (of.faults y) to from r.count; kept = r.kept }

pub both_told : {A : Type 0} (one : Option A) (P Q : A → Type 0) → IfSome one P → IfSome one Q → IfSome one (λ a. P a × Q a)
both_told None P Q p q = tt
both_told (Some a) P Q p q = (p, q)
