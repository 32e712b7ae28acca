-- What the members of metadata show, from what it shows.
use Rattle.std.proofs.Common.{◌≡◌, ◌≤◌, ◌+◌, ℕ, ℤ, List, [], true, false, is_some, codes, Option, None, unwrap_or, Result, Ok, Err, refl, ap, subst, arith}
use Rattle.std.specs.Result.{result_ok}
use Rattle.serde_json.specs.Data as json
use Rattle.serde_json.specs.Data.{Data, Members, depth}
use Rattle.serde_json.specs.Find.{as_object, get}
use Rattle.serde_json.specs.Written.{has_float}
use Rattle.icb_schema.proofs.NameLemmas.{both_left}
use Rattle.icb_types.specs.Lines.{int_in, long_in, uuid_in}
use Rattle.icb_meta.specs.Forms.{current_in, entries_in, is_plain_object, location_in, natural_in, properties_in, snapshots_in, version_in}
use Rattle.icb_meta.specs.Shown.{fields_of, heading_of, layout_of, member, member_or, state_of}
use Rattle.icb_meta.specs.declared.fields.Fields.{Fields}
use Rattle.icb_meta.specs.declared.fields.Heading.{Heading}
use Rattle.icb_meta.specs.declared.fields.Layout.{Layout}
use Rattle.icb_meta.specs.declared.fields.State.{State}
use Rattle.icb_meta.specs.declared.records.KeyEntry.{KeyEntry}
use Rattle.icb_meta.specs.declared.records.Snapshot.{Snapshot}
use Rattle.icb_meta.proofs.ShownLemmas.{no_float, plain_from}
use Rattle.icb_edits.proofs.PlainLemmas.{ArePlain}
use Rattle.icb_edits.proofs.ShownLemmas.{HeadingOf, StateOf}

pub ok_same : {A E : Type 0} (x y : A) → ◌≡◌ {A = Result A E} (Ok x) (Ok y) → x ≡ y
ok_same x y e = ap (λ r. unwrap_or (result_ok r) x) e

-- ---- the heading

heading_by : (d : Data) (h : Heading) (v : Result ℤ (List ℕ)) (u : Result ℕ (List ℕ)) (l : Result (List ℕ) (List ℕ)) (s t c : Result ℤ (List ℕ))
    → member version_in (codes "format-version") d ≡ v → member uuid_in (codes "table-uuid") d ≡ u → member location_in (codes "location") d ≡ l
    → member natural_in (codes "last-sequence-number") d ≡ s → member long_in (codes "last-updated-ms") d ≡ t → member int_in (codes "last-column-id") d ≡ c
    → heading_of d ≡ Ok h → HeadingOf d h
unfolding heading_of
heading_by d h (Err e) u l s t c pv pu pl ps pt pc x = let y = rw pv at x in cc
heading_by d h (Ok v) (Err e) l s t c pv pu pl ps pt pc x = let y = rw (pv, pu) at x in cc
heading_by d h (Ok v) (Ok u) (Err e) s t c pv pu pl ps pt pc x = let y = rw (pv, pu, pl) at x in cc
heading_by d h (Ok v) (Ok u) (Ok l) (Err e) t c pv pu pl ps pt pc x = let y = rw (pv, pu, pl, ps) at x in cc
heading_by d h (Ok v) (Ok u) (Ok l) (Ok s) (Err e) c pv pu pl ps pt pc x = let y = rw (pv, pu, pl, ps, pt) at x in cc
heading_by d h (Ok v) (Ok u) (Ok l) (Ok s) (Ok t) (Err e) pv pu pl ps pt pc x = let y = rw (pv, pu, pl, ps, pt, pc) at x in cc
heading_by d h (Ok v) (Ok u) (Ok l) (Ok s) (Ok t) (Ok c) pv pu pl ps pt pc x =
    let y = rw (pv, pu, pl, ps, pt, pc) at x in
    subst (HeadingOf d) (ok_same (record { uuid = u; location = l; last_sequence = s; updated = t }) h y)
    (record { version = (v, pv); uuid = pu; location = pl; last_sequence = ps; updated = pt; last_column = (c, pc) })

pub heading_to : (d : Data) (h : Heading) → heading_of d ≡ Ok h → HeadingOf d h
heading_to d h x = heading_by d h _ _ _ _ _ _ refl refl refl refl refl refl x

-- ---- the state

state_by : (d : Data) (st : State) (p : List (List ℕ × List ℕ)) (s : List Snapshot) (c : Result (Option ℤ) (List ℕ)) (n : Result ℤ (List ℕ)) (k : Result (List KeyEntry) (List ℕ))
    → member_or [] properties_in (codes "properties") d ≡ Ok p → member_or [] snapshots_in (codes "snapshots") d ≡ Ok s
    → member_or None (current_in s) (codes "current-snapshot-id") d ≡ c → member natural_in (codes "next-row-id") d ≡ n
    → member_or [] entries_in (codes "encryption-keys") d ≡ k → state_of d ≡ Ok st → StateOf d st
unfolding state_of
state_by d st p s (Err e) n k pp ps pc pn pk x = let y = rw (pp, ps, pc) at x in cc
state_by d st p s (Ok c) (Err e) k pp ps pc pn pk x = let y = rw (pp, ps, pc, pn) at x in cc
state_by d st p s (Ok c) (Ok n) (Err e) pp ps pc pn pk x = let y = rw (pp, ps, pc, pn, pk) at x in cc
state_by d st p s (Ok c) (Ok n) (Ok k) pp ps pc pn pk x =
    let y = rw (pp, ps, pc, pn, pk) at x in
    subst (StateOf d) (ok_same (record { properties = p; snapshots = s; current = c; next_row = n; entries = k }) st y)
    (record { properties = pp; snapshots = ps; current = pc; next_row = pn; entries = pk })

state_first : (d : Data) (st : State) (p : Result (List (List ℕ × List ℕ)) (List ℕ)) (s : Result (List Snapshot) (List ℕ))
    → member_or [] properties_in (codes "properties") d ≡ p → member_or [] snapshots_in (codes "snapshots") d ≡ s → state_of d ≡ Ok st → StateOf d st
unfolding state_of
state_first d st (Err e) s pp ps x = let y = rw pp at x in cc
state_first d st (Ok p) (Err e) pp ps x = let y = rw (pp, ps) at x in cc
state_first d st (Ok p) (Ok s) pp ps x = state_by d st p s _ _ _ pp ps refl refl refl x

pub state_to : (d : Data) (st : State) → state_of d ≡ Ok st → StateOf d st
state_to d st x = state_first d st _ _ refl refl x

-- ---- the layout

-- the same members show the same layout
pub layout_same : (d now : Data) (l : Layout) → get (codes "schemas") now ≡ get (codes "schemas") d → get (codes "current-schema-id") now ≡ get (codes "current-schema-id") d
    → get (codes "partition-specs") now ≡ get (codes "partition-specs") d → get (codes "default-spec-id") now ≡ get (codes "default-spec-id") d
    → get (codes "last-partition-id") now ≡ get (codes "last-partition-id") d → get (codes "sort-orders") now ≡ get (codes "sort-orders") d
    → get (codes "default-sort-order-id") now ≡ get (codes "default-sort-order-id") d → layout_of d ≡ Ok l → layout_of now ≡ Ok l
unfolding layout_of
layout_same d now l a b c e f g h x = rw (a, b, c, e, f, g, h) x

-- ---- the whole

-- what the parts of metadata show
pub record PartsOf (d : Data) (f : Fields) : Type 0 where
  pub object : is_some (as_object d) ≡ true
  pub whole : has_float d ≡ false
  pub heading : heading_of d ≡ Ok f.heading
  pub layout : layout_of d ≡ Ok f.layout
  pub state : state_of d ≡ Ok f.state

parts_by : (d : Data) (f : Fields) (h : Result Heading (List ℕ)) (l : Result Layout (List ℕ)) (s : Result State (List ℕ))
    → heading_of d ≡ h → layout_of d ≡ l → state_of d ≡ s → is_plain_object d ≡ true → has_float d ≡ false → fields_of d ≡ Ok f → PartsOf d f
unfolding fields_of
parts_by d f (Err e) l s ph pl ps plain whole x = let y = rw (plain, ph) at x in cc
parts_by d f (Ok h) (Err e) s ph pl ps plain whole x = let y = rw (plain, ph, pl) at x in cc
parts_by d f (Ok h) (Ok l) (Err e) ph pl ps plain whole x = let y = rw (plain, ph, pl, ps) at x in cc
parts_by d f (Ok h) (Ok l) (Ok s) ph pl ps plain whole x =
    let y = rw (plain, ph, pl, ps) at x in
    subst (PartsOf d) (ok_same (record { heading = h; layout = l; state = s }) f y)
    (record { object = both_left _ _ plain; whole = whole; heading = ph; layout = pl; state = ps })

pub parts_to : (d : Data) (f : Fields) → fields_of d ≡ Ok f → PartsOf d f
parts_to d f x = parts_by d f _ _ _ refl refl refl (plain_from d f x) (no_float d f x) x

-- an object is the object of its members
pub object_is : (d : Data) → is_some (as_object d) ≡ true → d ≡ json.object (unwrap_or (as_object d) json.no_members)
object_is json.null h = let n = h in cc
object_is (json.boolean b) h = let n = h in cc
object_is (json.number x) h = let n = h in cc
object_is (json.string s) h = let n = h in cc
object_is (json.array ds) h = let n = h in cc
object_is (json.object ms) h = refl

-- its members are plain
pub members_plain : (ms : Members) (n : ℕ) → has_float (json.object ms) ≡ false → depth (json.object ms) ≤ n + 1 → ArePlain n ms
members_plain ms n w h = record { whole = w; levels = omega arith }
