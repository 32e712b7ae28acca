-- What metadata shows, from what each of its members shows.
use Rattle.std.proofs.Common.{◌≡◌, true, false, is_some, ℕ, ℤ, List, [], codes, Option, Some, None, Ok, refl}
use Rattle.serde_json.specs.Data.{Data}
use Rattle.serde_json.specs.Find.{as_object, get}
use Rattle.serde_json.specs.Written.{has_float}
use Rattle.icb_types.specs.Lines.{int_in, long_in, uuid_in}
use Rattle.icb_meta.specs.Forms.{current_in, entries_in, location_in, natural_in, properties_in, snapshots_in, version_in}
use Rattle.icb_meta.specs.Shown.{fields_of, heading_of, layout_of, member, member_or, state_of}
use Rattle.icb_meta.specs.declared.fields.Fields.{Fields}
use Rattle.icb_meta.specs.declared.fields.Heading.{Heading}
use Rattle.icb_meta.specs.declared.fields.State.{State}

-- a member that is there and reads
pub member_is : {A : Type 0} (read : Data → Option A) (name : List ℕ) (d e : Data) (a : A) → get name d ≡ Some e → read e ≡ Some a → member read name d ≡ Ok a
member_is read name d e a g r = rw (g, r) refl

-- such a member, where it may be absent
pub member_or_is : {A : Type 0} (other : A) (read : Data → Option A) (name : List ℕ) (d e : Data) (a : A) → get name d ≡ Some e → read e ≡ Some a → member_or other read name d ≡ Ok a
member_or_is other read name d e a g r = rw (g, r) refl

-- one that is absent
pub member_or_none : {A : Type 0} (other : A) (read : Data → Option A) (name : List ℕ) (d : Data) → get name d ≡ None → member_or other read name d ≡ Ok other
member_or_none other read name d g = rw g refl

-- what the members of the heading show
pub record HeadingOf (d : Data) (h : Heading) : Type 0 where
  pub version : (v : ℤ) × (member version_in (codes "format-version") d ≡ Ok v)
  pub uuid : member uuid_in (codes "table-uuid") d ≡ Ok h.uuid
  pub location : member location_in (codes "location") d ≡ Ok h.location
  pub last_sequence : member natural_in (codes "last-sequence-number") d ≡ Ok h.last_sequence
  pub updated : member long_in (codes "last-updated-ms") d ≡ Ok h.updated
  pub last_column : (n : ℤ) × (member int_in (codes "last-column-id") d ≡ Ok n)

pub heading_from : (d : Data) (h : Heading) → HeadingOf d h → heading_of d ≡ Ok h
unfolding heading_of
heading_from d h p = rw (p.version.1, p.uuid, p.location, p.last_sequence, p.updated, p.last_column.1) refl

-- what the members of the state show
pub record StateOf (d : Data) (s : State) : Type 0 where
  pub properties : member_or [] properties_in (codes "properties") d ≡ Ok s.properties
  pub snapshots : member_or [] snapshots_in (codes "snapshots") d ≡ Ok s.snapshots
  pub current : member_or None (current_in s.snapshots) (codes "current-snapshot-id") d ≡ Ok s.current
  pub next_row : member natural_in (codes "next-row-id") d ≡ Ok s.next_row
  pub entries : member_or [] entries_in (codes "encryption-keys") d ≡ Ok s.entries

pub state_from : (d : Data) (s : State) → StateOf d s → state_of d ≡ Ok s
unfolding state_of
state_from d s p = rw (p.properties, p.snapshots, p.current, p.next_row, p.entries) refl

-- the record that a plain object shows
pub fields_from : (d : Data) (f : Fields) → is_some (as_object d) ≡ true → has_float d ≡ false
    → heading_of d ≡ Ok f.heading → layout_of d ≡ Ok f.layout → state_of d ≡ Ok f.state → fields_of d ≡ Ok f
unfolding fields_of
fields_from d f o w h l s = rw (o, w, h, l, s) refl
