-- Traces: what comes first, and where they stop.
use Rattle.std.specs.Prelude.{◌≡◌, ℕ, suc, List, [], ◌∷◌, ◌++◌, Option, Some, None}
use Rattle.std.proofs.Common.{refl, ap, sym}
use Rattle.icb_table.specs.Listed.{Listed}
use Rattle.icb_table.specs.Trace.{Stop, Trace, each_in, one, stopped, then_read, through, whole}
use Rattle.icb_table.specs.Tree.{TreeFile, live_files}
use Rattle.icb_table.specs.Tree as tree
use Rattle.icb_table.specs.Why.{Why}
use Rattle.icb_table.proofs.StepLemmas.{then_assoc}
use Rattle.icb_walk.specs.Rows.{numbered_at}
use Rattle.icb_table.specs.Trace as trace

pub through_stopped : {A B : Type 0} (read : A → Trace B) (f : Listed) (e : Why) → through read (stopped f e) ≡ stopped f e
unfolding each_in
through_stopped read f e = refl

pub through_none : {A B : Type 0} (read : A → Trace B) → through read (whole []) ≡ whole []
unfolding each_in
through_none read = refl

pub numbered_one : {A : Type 0} (n : ℕ) (x : A) (t : Trace A) → numbered_at n (then_read (one x) t) ≡ then_read (one (n, x)) (numbered_at (suc n) t)
unfolding trace.numbered_from
numbered_one n x t = refl

pub numbered_stopped : {A : Type 0} (n : ℕ) (f : Listed) (e : Why) → numbered_at {A = A} n (stopped f e) ≡ stopped f e
unfolding trace.numbered_from
numbered_stopped n f e = refl

pub numbered_none : {A : Type 0} (n : ℕ) → numbered_at {A = A} n (whole []) ≡ whole []
unfolding trace.numbered_from
numbered_none n = refl

pub whole_then : {A : Type 0} (xs ys : List A) (t : Trace A) → then_read (whole xs) (then_read (whole ys) t) ≡ then_read (whole (xs ++ ys)) t
whole_then xs ys t = sym (then_assoc (whole xs) (whole ys) t)

pub no_data_twice : (xs ys : List TreeFile) → live_files xs ≡ [] → live_files ys ≡ [] → live_files (xs ++ ys) ≡ []
no_data_twice [] ys e h = h
no_data_twice (tree.list f ∷ xs) ys e h = no_data_twice xs ys e h
no_data_twice (tree.manifest f ∷ xs) ys e h = no_data_twice xs ys e h
no_data_twice (tree.data_file f ∷ xs) ys e h = absurd (let g : ⊥ = cc in g)

append_none : {A : Type 0} (xs : List A) → xs ++ [] ≡ xs
append_none [] = refl
append_none (x ∷ xs) = ap (λ r. x ∷ r) (append_none xs)

pub then_none : {A : Type 0} (t : Trace A) → then_read t (whole []) ≡ t
then_none {A} t = by_stop t.items t.stop
  where
    by_stop : (items : List A) (stop : Option Stop) → trace.behind items stop (whole []) ≡ record { items = items; stop = stop }
    by_stop items None = ap (λ xs. record { items = xs; stop = None }) (append_none items)
    by_stop items (Some s) = refl
