-- Fields of a record by their ids, whoever wrote it (Apache Iceberg Table Spec, "Appendix A:
-- Format-specific Requirements", Avro, and "Column Projection").
use Rattle.std.specs.Prelude.{ℕ, ℤ, List, [], ◌∷◌, Bool, true, false, if◌then◌else◌}
use Rattle.std.specs.Prelude.{Option, Some, None, Result, Ok, Err}
use Rattle.std.specs.Option.{option_eq}
use Rattle.std.specs.Ordering.{int_eq}
use Rattle.icb_schema.specs.Tree as tree
use Rattle.icb_schema.specs.Tree.{Tree, Form, Fields, Trees, root_form}
use Rattle.icb_avro.specs.declared.value.Value.{Value, out-Value}
use Rattle.icb_avro.specs.declared.value.Value.TheOpen.{Value-F}

-- a record: the fields of its schema, and a value for each
pub record Row : Type 0 where
  pub fields : Fields
  pub values : List Value

-- What a record has of an id: none of it, or a value that may be null, by its type.
pub data Held : Type 0 where
  -- no field has the id
  missing : Held
  -- a whole number of 32 bits
  int : Option ℤ → Held
  -- a whole number of 64 bits
  long : Option ℤ → Held
  -- bytes
  bytes : Option (List ℕ) → Held
  -- a text
  text : Option (List ℕ) → Held
  -- a record
  row : Option Row → Held
  -- an array: the type of its items, and the items, none where it is null
  list : Tree → List Value → Held
  -- a value of any other type
  other : Held

-- ---- one level of a value

-- a number of 32 bits that isn't null
abbrev pub int_in : Value-F Value → Option ℤ
int_in (Value-F.Int n) = Some n
int_in v = None

-- a number of 64 bits that isn't null
abbrev pub long_in : Value-F Value → Option ℤ
long_in (Value-F.Long n) = Some n
long_in v = None

-- bytes that aren't null
abbrev pub bytes_in : Value-F Value → Option (List ℕ)
bytes_in (Value-F.Bytes content) = Some content
bytes_in v = None

-- a text that isn't null
abbrev pub text_in : Value-F Value → Option (List ℕ)
text_in (Value-F.Text content) = Some content
text_in v = None

-- a record that isn't null
abbrev pub row_in : Fields → Value-F Value → Option Row
row_in fs (Value-F.Record vs) = Some (record { fields = fs; values = vs })
row_in fs v = None

-- the items of an array that isn't null
abbrev pub items_in : Value-F Value → List Value
items_in (Value-F.Array vs) = vs
items_in v = []

-- the value of a union's branch; else the value itself
abbrev pub in_branch : Value-F Value → Value-F Value
in_branch (Value-F.Union k v) = out-Value v
in_branch v = v

-- ---- by type

-- a value of a type that is no union
abbrev pub plain : Form → Value-F Value → Held
plain (tree.primitive tree.int) v = int (int_in v)
plain (tree.primitive tree.long) v = long (long_in v)
plain (tree.primitive tree.bytes) v = bytes (bytes_in v)
plain (tree.primitive tree.text) v = text (text_in v)
plain (tree.fields name fs) v = row (row_in fs v)
plain (tree.array items element) v = list items (items_in v)
plain form v = other

-- the type is null
abbrev pub is_null : Form → Bool
is_null (tree.primitive tree.null) = true
is_null form = false

-- the types of a union, one of which may be null
abbrev pub beside_null : Form → Form → Value-F Value → Held
beside_null a b v = if is_null a then plain b v else (if is_null b then plain a v else other)

-- a value of a branch of a union, which is of two types
abbrev pub in_union : Trees → Value-F Value → Held
in_union (tree.branch a (tree.branch b tree.no_trees)) v =
    beside_null (root_form a) (root_form b) v
in_union ts v = other

-- a value, which in a union of null and another type, in either order, is of that type
abbrev pub held : Form → Value-F Value → Held
held (tree.union ts) v = in_union ts (in_branch v)
held form v = plain form v

-- ---- by id

-- this is the id
abbrev pub is_id : ℤ → Option ℤ → Bool
is_id id field = option_eq int_eq field (Some id)

-- what the first field with this id has
unfoldable pub held_at : ℤ → Fields → List Value → Held
held_at id tree.no_fields vs = missing
held_at id (tree.field name field t fs) [] = missing
held_at id (tree.field name field t fs) (v ∷ vs) =
    if is_id id field then held (root_form t) (out-Value v) else held_at id fs vs

-- ---- what is asked for

-- none where there is no field or it is null, the id where it is of another type
abbrev pub Optional : Type 0 → Type 0
Optional A = Result (Option A) ℤ

-- a number of 32 bits
abbrev pub as_int : ℤ → Held → Optional ℤ
as_int id missing = Ok None
as_int id (int n) = Ok n
as_int id h = Err id

-- a number of 64 bits
abbrev pub as_long : ℤ → Held → Optional ℤ
as_long id missing = Ok None
as_long id (long n) = Ok n
as_long id h = Err id

-- bytes
abbrev pub as_bytes : ℤ → Held → Optional (List ℕ)
as_bytes id missing = Ok None
as_bytes id (bytes content) = Ok content
as_bytes id h = Err id

-- a text
abbrev pub as_text : ℤ → Held → Optional (List ℕ)
as_text id missing = Ok None
as_text id (text content) = Ok content
as_text id h = Err id

-- a record
abbrev pub as_row : ℤ → Held → Optional Row
as_row id missing = Ok None
as_row id (row r) = Ok r
as_row id h = Err id

-- an array: the type of its items, and the items
abbrev pub as_list : ℤ → Held → Optional (Tree × List Value)
as_list id missing = Ok None
as_list id (list t vs) = Ok (Some (t, vs))
as_list id h = Err id

-- what has to be there, else its id
abbrev pub there : {A : Type 0} → ℤ → Optional A → Result A ℤ
there id (Ok None) = Err id
there id (Ok (Some x)) = Ok x
there id (Err n) = Err n

-- the number of 32 bits of this id
unfoldable pub int_at : ℤ → Row → Optional ℤ
int_at id r = as_int id (held_at id r.fields r.values)

-- the number of 64 bits of this id
unfoldable pub long_at : ℤ → Row → Optional ℤ
long_at id r = as_long id (held_at id r.fields r.values)

-- the bytes of this id
unfoldable pub bytes_at : ℤ → Row → Optional (List ℕ)
bytes_at id r = as_bytes id (held_at id r.fields r.values)

-- the text of this id
unfoldable pub text_at : ℤ → Row → Optional (List ℕ)
text_at id r = as_text id (held_at id r.fields r.values)

-- the record of this id
unfoldable pub row_at : ℤ → Row → Optional Row
row_at id r = as_row id (held_at id r.fields r.values)

-- the array of this id
unfoldable pub list_at : ℤ → Row → Optional (Tree × List Value)
list_at id r = as_list id (held_at id r.fields r.values)

-- a record, or one of no fields where there is none
abbrev pub or_empty : Held → Row
or_empty (row (Some r)) = r
or_empty h = record { fields = tree.no_fields; values = [] }

-- the record that a value is, of no fields where it is none
abbrev pub record_of : Form → Value-F Value → Row
record_of form v = or_empty (plain form v)

-- the number of 32 bits of this id, which has to be there
unfoldable pub needed_int : ℤ → Row → Result ℤ ℤ
needed_int id r = there id (int_at id r)

-- the number of 64 bits of this id, which has to be there
unfoldable pub needed_long : ℤ → Row → Result ℤ ℤ
needed_long id r = there id (long_at id r)

-- the text of this id, which has to be there
unfoldable pub needed_text : ℤ → Row → Result (List ℕ) ℤ
needed_text id r = there id (text_at id r)

-- the record of this id, which has to be there
unfoldable pub needed_row : ℤ → Row → Result Row ℤ
needed_row id r = there id (row_at id r)

infixl 10 ◌>>=◌
-- what comes next, where no field is wrong
abbrev pub ◌>>=◌ : {A B : Type 0} → Result A ℤ → (A → Result B ℤ) → Result B ℤ
(Ok x) >>= f = f x
(Err e) >>= f = Err e

-- the bytes of this id, which have to be there
unfoldable pub needed_bytes : ℤ → Row → Result (List ℕ) ℤ
needed_bytes id r = there id (bytes_at id r)

-- ---- types alone

-- the type of the first field with this id
unfoldable pub first_type : ℤ → Fields → Option Tree
first_type id tree.no_fields = None
first_type id (tree.field name field t fs) = if is_id id field then Some t else first_type id fs

-- what a field of this type has where it is null
abbrev pub null_of : Option Tree → Held
null_of None = missing
null_of (Some t) = held (root_form t) Value-F.Null

-- what a record's field has where it is null
abbrev pub type_at : ℤ → Form → Held
type_at id (tree.fields name fs) = null_of (first_type id fs)
type_at id form = missing

-- whole numbers of 32 bits
abbrev pub is_int : Held → Bool
is_int (int n) = true
is_int h = false

-- whole numbers of 64 bits
abbrev pub is_long : Held → Bool
is_long (long n) = true
is_long h = false

-- bytes
abbrev pub is_bytes : Held → Bool
is_bytes (bytes content) = true
is_bytes h = false
