-- Bounds bound their data, and nothing that they bound is pruned.
use Rattle.std.proofs.Common.{◌≡◌, ℕ, List, [], ◌∷◌, Bool, true, false, true≢false, Option, Some, None, IfSome, inl, inr, refl, sym, ◌∙◌}
use Rattle.std.specs.Prelude.{fold, if◌then◌else◌, not, ◌&&◌, ◌||◌, option_and_then}
use Rattle.std.specs.List.{list_all, AllByRecursion, Contains}
use Rattle.std.proofs.lemmas.List.Elements.{All-contains, All-from_recursion}
use Rattle.icb_types.specs.declared.columns.ColType.{ColType}
use Rattle.icb_types.specs.declared.datum.Datum.{Datum}
use Rattle.icb_types.specs.Fits.{IsDatum, kind_of}
use Rattle.icb_types.specs.Single.{datum_of_single, single_of}
use Rattle.icb_types.proofs.SingleLemmas.{single_back}
use Rattle.icb_rows.specs.Order.{above, below, is_null}
use Rattle.icb_rows.specs.Ranges.{is_above, is_below, is_single, is_there_and, is_uuid}
use Rattle.icb_rows.specs.Bounds.{IsLowerBound, IsUpperBound, NotBefore, bound_of, first_by, first_of, is_short, present}
use Rattle.icb_rows.specs.Laws.{BoundsBound, IsOfKind, NothingIsPruned}
use Rattle.icb_rows.proofs.OrderLemmas.{above_itself, above_not_below, above_twice, below_itself, below_not_above, below_twice, flip}

-- ---- the first datum of an order

-- the order that first data are found by
record IsOrder (before : Datum → Datum → Bool) : Type 0 where
  itself : (a : Datum) → before a a ≡ false
  twice : (a b c : Datum) → before a b ≡ false → before b c ≡ false → before a c ≡ false
  back : (a b : Datum) → before a b ≡ true → before b a ≡ false

downwards : IsOrder below
downwards = record {
  itself = below_itself;
  twice = below_twice;
  back = λ a b h. flip b a ∙ below_not_above a b h;
}

upwards : IsOrder above
upwards = record {
  itself = above_itself;
  twice = above_twice;
  back = λ a b h. sym (flip a b) ∙ above_not_below a b h;
}

there : {A : Type 0} {x y : A} → Some x ≡ Some y → x ≡ y
there h = cc

never_there : {A : Type 0} {x : A} → None ≡ Some x → ⊥
never_there h = cc

abbrev step : (Datum → Datum → Bool) → Option Datum → Datum → Option Datum
step before found d = first_by before found (present d)

-- what was found isn't before the first, nor is the datum
abbrev NoneBefore : (Datum → Datum → Bool) → Datum → Option Datum → Datum → Type 0
NoneBefore before first found d = IfSome found (λ a. before a first ≡ false) × NotBefore before first d

step_found : {before : Datum → Datum → Bool} (o : IsOrder before) (first a d : Datum) (b : Bool) → before d a ≡ b
    → IfSome (if b then Some d else Some a) (λ x. before x first ≡ false) → (before a first ≡ false) × (before d first ≡ false)
step_found o first a d true e k = (o.twice a d first (o.back d a e) k, k)
step_found o first a d false e k = (k, o.twice d a first e k)

at_step : {before : Datum → Datum → Bool} (o : IsOrder before) (first : Datum) (found : Option Datum) (d : Datum) (b : Bool) → is_null d ≡ b
    → IfSome (first_by before found (if b then None else Some d)) (λ x. before x first ≡ false) → NoneBefore before first found d
at_step o first found d true e h = (h, inl e)
at_step o first None d false e h = (tt, inr h)
at_step {before} o first (Some a) d false e h = let both = step_found o first a d (before d a) refl h in (both.0, inr both.1)

found_first : {before : Datum → Datum → Bool} (o : IsOrder before) (ds : List Datum) (found : Option Datum) (first : Datum)
    → fold (step before) found ds ≡ Some first → IfSome found (λ a. before a first ≡ false) × AllByRecursion (NotBefore before first) ds
found_first o [] found first e = (rw e (o.itself first), tt)
found_first {before} o (d ∷ ds) found first e =
    let rest = found_first o ds (step before found d) first e in
    let here = at_step o first found d (is_null d) refl rest.0 in
    (here.0, (here.1, rest.1))

chosen : (P : Datum → Type 0) (a d : Datum) (b : Bool) → P a → P d → IfSome (if b then Some d else Some a) P
chosen P a d true g h = h
chosen P a d false g h = g

kept : (before : Datum → Datum → Bool) (P : Datum → Type 0) (found : Option Datum) (d : Datum) (b : Bool) → is_null d ≡ b → IfSome found P
    → (is_null d ≡ false → P d) → IfSome (first_by before found (if b then None else Some d)) P
kept before P found d true e g h = g
kept before P None d false e g h = h e
kept before P (Some a) d false e g h = chosen P a d (before d a) g (h e)

picked : (before : Datum → Datum → Bool) (P : Datum → Type 0) (ds : List Datum) (found : Option Datum) (first : Datum) → IfSome found P
    → AllByRecursion (λ d. is_null d ≡ false → P d) ds → fold (step before) found ds ≡ Some first → P first
picked before P [] found first h all e = rw e at h
picked before P (d ∷ ds) found first h all e =
    picked before P ds (step before found d) first (kept before P found d (is_null d) refl h all.0) all.1 e

-- ---- bounds

abbrev IsValue : ColType → Datum → Type 0
IsValue k d = IsDatum d × (kind_of d ≡ Some k)

value_there : (k : ColType) (d : Datum) → IsOfKind k d → is_null d ≡ false → IsValue k d
value_there k d (is, inl null) e = absurd (true≢false (sym null ∙ e))
value_there k d (is, inr same) e = (is, same)

all_values : (k : ColType) (ds : List Datum) → AllByRecursion (IsOfKind k) ds → AllByRecursion (λ d. is_null d ≡ false → IsValue k d) ds
all_values k [] h = tt
all_values k (d ∷ ds) h = (value_there k d h.0, all_values k ds h.1)

bounded : (b : Bool) (found : Option Datum) (bytes : List ℕ) → (if b then option_and_then single_of found else None) ≡ Some bytes
    → (d : Datum) × (found ≡ Some d) × (single_of d ≡ Some bytes)
bounded true None bytes e = absurd (never_there e)
bounded true (Some d) bytes e = (d, refl, e)
bounded false found bytes e = absurd (never_there e)

bound_is : {before : Datum → Datum → Bool} (o : IsOrder before) (k : ColType) (ds : List Datum) (bytes : List ℕ) → AllByRecursion (IsOfKind k) ds
    → bound_of (first_of before ds) ds ≡ Some bytes → (first : Datum) → datum_of_single k bytes ≡ Some first → AllByRecursion (NotBefore before first) ds
bound_is {before} o k ds bytes all e first shown =
    let there_is = bounded (list_all is_short ds) (first_of before ds) bytes e in
    let d = there_is.0 in
    let value = picked before (IsValue k) ds None d tt (all_values k ds all) there_is.1 in
    let same : d ≡ first = there (sym (single_back k d bytes value.1 value.0 there_is.2) ∙ shown) in
    let bounds = found_first o ds None d there_is.1 in
    rw (sym same) bounds.1

-- a bound that is written bounds its data
pub bounds_bound : BoundsBound
bounds_bound k ds bytes all = (bound_is downwards k ds bytes all, bound_is upwards k ds bytes all)

-- ---- pruning

member : (P : Datum → Type 0) (ds : List Datum) (d : Datum) → AllByRecursion P ds → Contains ds d → P d
member P ds d all has = All-contains P ds d (All-from_recursion P ds all) has

not_before : (before : Datum → Datum → Bool) (first d : Datum) → NotBefore before first d → is_null d ≡ false → before d first ≡ false
not_before before first d (inl null) e = absurd (true≢false (sym null ∙ e))
not_before before first d (inr h) e = h

under_high : (high : Option Datum) (low d : Datum) → above low d ≡ false → is_above high d ≡ false → is_above high low ≡ false
under_high None low d g h = refl
under_high (Some a) low d g h = above_twice low d a g h

over_low : (low : Option Datum) (high d : Datum) → below high d ≡ false → is_below low d ≡ false → is_below low high ≡ false
over_low None high d g h = refl
over_low (Some a) high d g h = below_twice high d a g h

lower_by : (k : ColType) (high : Option Datum) (bytes : List ℕ) (ds : List Datum) (d : Datum) → Contains ds d → is_null d ≡ false → is_above high d ≡ false
    → IsLowerBound k bytes ds → (found : Option Datum) → datum_of_single k bytes ≡ found → is_there_and (is_above high) found ≡ false
lower_by k high bytes ds d has present up bound None e = refl
lower_by k high bytes ds d has present up bound (Some low) e =
    under_high high low d (sym (flip d low) ∙ not_before below low d (member (NotBefore below low) ds d (bound low e) has) present) up

upper_by : (k : ColType) (low : Option Datum) (bytes : List ℕ) (ds : List Datum) (d : Datum) → Contains ds d → is_null d ≡ false → is_below low d ≡ false
    → IsUpperBound k bytes ds → (found : Option Datum) → datum_of_single k bytes ≡ found → is_there_and (is_below low) found ≡ false
upper_by k low bytes ds d has present down bound None e = refl
upper_by k low bytes ds d has present down bound (Some high) e =
    over_low low high d (flip high d ∙ not_before above high d (member (NotBefore above high) ds d (bound high e) has) present) down

none_above : (k : ColType) (high : Option Datum) (lower : Option (List ℕ)) (ds : List Datum) (d : Datum) → Contains ds d → is_null d ≡ false
    → is_above high d ≡ false → IfSome lower (λ bytes. IsLowerBound k bytes ds) → is_single k (is_above high) lower ≡ false
none_above k high None ds d has present up bound = refl
none_above k high (Some bytes) ds d has present up bound = lower_by k high bytes ds d has present up bound (datum_of_single k bytes) refl

none_below : (k : ColType) (low : Option Datum) (upper : Option (List ℕ)) (ds : List Datum) (d : Datum) → Contains ds d → is_null d ≡ false
    → is_below low d ≡ false → IfSome upper (λ bytes. IsUpperBound k bytes ds) → is_single k (is_below low) upper ≡ false
none_below k low None ds d has present down bound = refl
none_below k low (Some bytes) ds d has present down bound = upper_by k low bytes ds d has present down bound (datum_of_single k bytes) refl

in_range : (a b c : Bool) → (not a && (not b && not c)) ≡ true → (a ≡ false) × (b ≡ false) × (c ≡ false)
in_range false false false e = (refl, refl, refl)
in_range false false true e = absurd (true≢false (sym e))
in_range false true c e = absurd (true≢false (sym e))
in_range true b c e = absurd (true≢false (sym e))

may : (u a b : Bool) → a ≡ false → b ≡ false → (u || not (a || b)) ≡ true
may true a b g h = refl
may false a b g h = rw (g, h) refl

-- no file is passed over whose bounds bound a datum of the range
pub nothing_is_pruned : NothingIsPruned
nothing_is_pruned range ds d lower upper has held low high =
    let parts = in_range (is_null d) (is_below range.low d) (is_above range.high d) held in
    may (is_uuid range.kind) (is_single range.kind (is_above range.high) lower) (is_single range.kind (is_below range.low) upper)
    (none_above range.kind range.high lower ds d has parts.0 parts.2 low)
    (none_below range.kind range.low upper ds d has parts.0 parts.1 high)
