-- A store that holds version 1 alone.
use Rattle.std.specs.Prelude.{◌≡◌, ◌<◌, ◌≤◌, ◌^◌, ℕ, Bool, true, false, cond, List, ◌++◌, codes, decimal, bytes_eq, Option, Some, None, IsSome, is_some}
use Rattle.std.specs.Ordering.{nat_cmp}
use Rattle.std.specs.Cmp.Lexicographic.{slice_cmp}
use Rattle.std.specs.FinMap as finite
use Rattle.std.proofs.Common.{refl, ap, ◌∙◌, sym, subst, arith}
use Rattle.std.proofs.lemmas.Fmt.{decimal_injective}
use Rattle.std.proofs.lemmas.List.{append_cancel_left, append_cancel_right}
use Rattle.std.proofs.lemmas.Slice.Eq.{bytes_eq-Decides}
use Rattle.icb_base.specs.Objects.{object_at, with_object}
use Rattle.icb_base.proofs.LawLemmas.{object_at-with_object}
use Rattle.icb_table.specs.Laws.{OneVersionIsLast}
use Rattle.icb_tree.specs.Versions.{version_path}

same_version : (v w : ℕ) → v < 2 ^ 64 → w < 2 ^ 64 → version_path v ≡ version_path w → v ≡ w
same_version v w p q e = decimal_injective v w p q (append_cancel_left (codes "metadata/v") (decimal v) (decimal w)
    (append_cancel_right (codes "metadata/v" ++ decimal v) (codes "metadata/v" ++ decimal w) (codes ".metadata.json") e))

-- what is held at a version's path, where it is said whether that is version 1
held_forth : (b : Bool) (bytes : List ℕ) (v : ℕ) → v < 2 ^ 64 → bytes_eq (version_path v) (version_path 1) ≡ b
    → is_some (cond b (Some bytes) (object_at finite.empty (version_path v))) ≡ true → (1 ≤ v) × (v ≤ 1)
held_forth true bytes v small e h =
    let is : v ≡ 1 = same_version v 1 small (omega arith) ((bytes_eq-Decides (version_path v) (version_path 1)).0 e) in
    (omega (arith, is), omega (arith, is))
held_forth false bytes v small e h =
    absurd (none_there (object_at finite.empty (version_path v)) (finite.get-empty (slice_cmp nat_cmp) (version_path v)) h)
  where
    none_there : (o : Option (List ℕ)) → o ≡ None → is_some o ≡ true → ⊥
    none_there None p q = let z : ⊥ = cc in z
    none_there (Some x) p q = let z : ⊥ = cc in z

same_path : (path : List ℕ) → bytes_eq path path ≡ true
same_path path = (bytes_eq-Decides path path).1 refl

held_back : (bytes : List ℕ) (v : ℕ) → (1 ≤ v) × (v ≤ 1)
    → IsSome (object_at (with_object finite.empty (version_path 1) bytes) (version_path v))
held_back bytes v h =
    let is : v ≡ 1 = omega (arith, h.0, h.1) in
    let here : object_at (with_object finite.empty (version_path 1) bytes) (version_path 1) ≡ Some bytes =
    object_at-with_object finite.empty (version_path 1) bytes (version_path 1)
    ∙ ap (λ b. cond b (Some bytes) (object_at finite.empty (version_path 1))) (same_path (version_path 1)) in
    subst (λ w. IsSome (object_at (with_object finite.empty (version_path 1) bytes) (version_path w))) (sym is) (ap is_some here)

pub one_version_is_last : OneVersionIsLast
one_version_is_last bytes = record {
  some = omega arith;
  held = λ v small. (
    λ h. held_forth (bytes_eq (version_path v) (version_path 1)) bytes v small refl
        (ap is_some (sym (object_at-with_object finite.empty (version_path 1) bytes (version_path v))) ∙ h),
    held_back bytes v,
  );
}
