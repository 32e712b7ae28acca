-- What is asked for, by what was found.
use Rattle.std.proofs.Common.{◌≡◌, ℕ, ℤ, List, Option, Some, None, Result, Ok, Err, Bor, option_map, refl, sym, ap, subst}
use Rattle.icb_schema.specs.declared.node.Node.{Node}
use Rattle.icb_avro.specs.declared.value.Value.{Value}
use Rattle.icb_fields.specs.Fields.{Optional, Row, as_bytes, as_int, as_list, as_long, as_row, as_text, bytes_at, held_at, int_at, list_at, long_at, row_at, text_at, there}
use Rattle.icb_fields.specs.Fields as field
use Rattle.icb_fields.specs.Answers.{Finds, ids_of, seen}
use Rattle.icb_fields.specs.declared.fault.BadField.{BadField}
use Rattle.icb_fields.specs.declared.record.Held.{Held}
use Rattle.icb_fields.specs.declared.record.Held.TheVariants as held
use Rattle.icb_fields.specs.declared.record.Record.{Record}

pub int_is : (id : ℤ) (r : Row) (h : field.Held) → h ≡ held_at id r.fields r.values → int_at id r ≡ as_int id h
unfolding int_at
int_is id r h e = rw e refl

pub no_int : (id : ℤ) (h : Held) → (h ≡ held.Missing → ⊥) → ((n : Option ℤ) → h ≡ held.Int n → ⊥) → as_int id (seen h) ≡ Err id
no_int id held.Missing m k = absurd (m refl)
no_int id (held.Int n) m k = absurd (k n refl)
no_int id (held.Long n) m k = refl
no_int id (held.Bytes b) m k = refl
no_int id (held.Text b) m k = refl
no_int id (held.Record r) m k = refl
no_int id (held.List t vs) m k = refl
no_int id held.Other m k = refl

pub long_is : (id : ℤ) (r : Row) (h : field.Held) → h ≡ held_at id r.fields r.values → long_at id r ≡ as_long id h
unfolding long_at
long_is id r h e = rw e refl

pub no_long : (id : ℤ) (h : Held) → (h ≡ held.Missing → ⊥) → ((n : Option ℤ) → h ≡ held.Long n → ⊥) → as_long id (seen h) ≡ Err id
no_long id held.Missing m k = absurd (m refl)
no_long id (held.Int n) m k = refl
no_long id (held.Long n) m k = absurd (k n refl)
no_long id (held.Bytes b) m k = refl
no_long id (held.Text b) m k = refl
no_long id (held.Record r) m k = refl
no_long id (held.List t vs) m k = refl
no_long id held.Other m k = refl

pub bytes_is : (id : ℤ) (r : Row) (h : field.Held) → h ≡ held_at id r.fields r.values → bytes_at id r ≡ as_bytes id h
unfolding bytes_at
bytes_is id r h e = rw e refl

pub no_bytes : (id : ℤ) (h : Held) → (h ≡ held.Missing → ⊥) → ((b : Option (Bor (List ℕ))) → h ≡ held.Bytes b → ⊥) → as_bytes id (seen h) ≡ Err id
no_bytes id held.Missing m k = absurd (m refl)
no_bytes id (held.Int n) m k = refl
no_bytes id (held.Long n) m k = refl
no_bytes id (held.Bytes b) m k = absurd (k b refl)
no_bytes id (held.Text b) m k = refl
no_bytes id (held.Record r) m k = refl
no_bytes id (held.List t vs) m k = refl
no_bytes id held.Other m k = refl

pub text_is : (id : ℤ) (r : Row) (h : field.Held) → h ≡ held_at id r.fields r.values → text_at id r ≡ as_text id h
unfolding text_at
text_is id r h e = rw e refl

pub no_text : (id : ℤ) (h : Held) → (h ≡ held.Missing → ⊥) → ((b : Option (Bor (List ℕ))) → h ≡ held.Text b → ⊥) → as_text id (seen h) ≡ Err id
no_text id held.Missing m k = absurd (m refl)
no_text id (held.Int n) m k = refl
no_text id (held.Long n) m k = refl
no_text id (held.Bytes b) m k = refl
no_text id (held.Text b) m k = absurd (k b refl)
no_text id (held.Record r) m k = refl
no_text id (held.List t vs) m k = refl
no_text id held.Other m k = refl

pub row_is : (id : ℤ) (r : Row) (h : field.Held) → h ≡ held_at id r.fields r.values → row_at id r ≡ as_row id h
unfolding row_at
row_is id r h e = rw e refl

pub no_row : (id : ℤ) (h : Held) → (h ≡ held.Missing → ⊥) → ((r : Option Record) → h ≡ held.Record r → ⊥) → as_row id (seen h) ≡ Err id
no_row id held.Missing m k = absurd (m refl)
no_row id (held.Int n) m k = refl
no_row id (held.Long n) m k = refl
no_row id (held.Bytes b) m k = refl
no_row id (held.Text b) m k = refl
no_row id (held.Record r) m k = absurd (k r refl)
no_row id (held.List t vs) m k = refl
no_row id held.Other m k = refl

pub list_is : (id : ℤ) (r : Row) (h : field.Held) → h ≡ held_at id r.fields r.values → list_at id r ≡ as_list id h
unfolding list_at
list_is id r h e = rw e refl

pub no_list : (id : ℤ) (h : Held) → (h ≡ held.Missing → ⊥) → ((t : Bor Node) (vs : Bor (List Value)) → h ≡ held.List t vs → ⊥) → as_list id (seen h) ≡ Err id
no_list id held.Missing m k = absurd (m refl)
no_list id (held.Int n) m k = refl
no_list id (held.Long n) m k = refl
no_list id (held.Bytes b) m k = refl
no_list id (held.Text b) m k = refl
no_list id (held.Record r) m k = refl
no_list id (held.List t vs) m k = absurd (k t vs refl)
no_list id held.Other m k = refl

-- what is answered, under a view
abbrev mapped : {X Y : Type 0} → (X → Y) → Result X ℤ → Result Y ℤ
mapped f (Ok x) = Ok (f x)
mapped f (Err n) = Err n

there_mapped : {X Y : Type 0} (f : X → Y) (id : ℤ) (x : Result (Option X) BadField) (d : Optional Y) → Finds (option_map f) x d → there id d ≡ mapped f (there id (ids_of x))
there_mapped f id (Ok None) d e = rw e refl
there_mapped f id (Ok (Some y)) d e = rw e refl
there_mapped f id (Err b) d e = rw e refl

finds_mapped : {X Y : Type 0} (f : X → Y) (r : Result X BadField) (d : Result X ℤ) → Finds (λ y. y) r d → Finds f r (mapped f d)
finds_mapped f (Ok y) d h = ap (mapped f) h
finds_mapped f (Err b) d h = ap (mapped f) h

-- what has to be there, by what may be there
pub needed : {X Y : Type 0} (f : X → Y) (id : ℤ) (x : Result (Option X) BadField) (d : Optional Y) (r : Result X BadField)
    → Finds (option_map f) x d → Finds (λ y. y) r (there id (ids_of x)) → Finds f r (there id d)
needed f id x d r e h = subst (Finds f r) (sym (there_mapped f id x d e)) (finds_mapped f r (there id (ids_of x)) h)

pub plainly : {X : Type 0} (x : Result (Option X) BadField) (d : Optional X) → Finds (λ y. y) x d → Finds (option_map (λ y. y)) x d
plainly (Ok None) d e = e
plainly (Ok (Some y)) d e = e
plainly (Err b) d e = e
