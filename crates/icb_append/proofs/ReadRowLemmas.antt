-- The rows that a list shows are rows as the code holds them.
use Rattle.std.proofs.Common.{◌≡◌, ◌≤◌, ℕ, zero, suc, ℤ, pos, negsuc, List, [], ◌∷◌, ◌++◌, length, map, Option, Some, None, Result, Ok, Err, refl, sym, ap, ◌∙◌, subst, arith}
use Rattle.std.specs.Prelude.{IfOk}
use Rattle.std.specs.List.{AllByRecursion}
use Rattle.icb_base.specs.Objects.{Objects}
use Rattle.icb_chain.specs.Ring.{Ring}
use Rattle.icb_container.specs.Header.{Header, header_of}
use Rattle.icb_container.specs.Wrong.{Wrong}
use Rattle.icb_fields.specs.Fields as field
use Rattle.icb_fields.specs.Fields.{bytes_at, long_at, needed_int, needed_long, needed_text}
use Rattle.icb_list.specs.Laws.{IsRow}
use Rattle.icb_list.specs.Rows.{content_of, files_of, is_content, list_row, numbers_of, rows_of}
use Rattle.icb_list.specs.declared.row.ListRow.{ListRow}
use Rattle.icb_meta.specs.declared.fields.Fields.{Fields}
use Rattle.icb_table.specs.Contents.{plaintexts_in, read_plain}
use Rattle.icb_table.specs.Listed.{Listed}
use Rattle.icb_table.specs.Records.{blocks_behind, named_fields, opened, record_in, records_in, records_of, values_in}
use Rattle.icb_table.specs.Table.{contents_in}
use Rattle.icb_table.specs.Trace.{Stop, Trace, behind, each_in, ended, read_of, through}
use Rattle.icb_written.specs.Laws.{ShowsAll}
use Rattle.icb_append.specs.Keeping.{AreParentRows}

-- ---- a row

bind_ok : {A B : Type 0} (r : Result A ℤ) (f : A → Result B ℤ) (y : B) → (field.◌>>=◌ r f) ≡ Ok y → (x : A) × (r ≡ Ok x) × (f x ≡ Ok y)
bind_ok (Ok x) f y h = (x, refl, h)
bind_ok (Err e) f y h = absurd (let g : ⊥ = cc in g)

ok_is : {A : Type 0} (x y : A) → ◌≡◌ {A = Result A ℤ} (Ok x) (Ok y) → x ≡ y
ok_is x y h = cc

-- data files or delete files
record IsKind (content : ℤ) : Type 0 where
  kind : ℕ
  is : content ≡ pos kind
  known : kind ≤ 1

kind_is : (z content : ℤ) → is_content z ≡ Ok content → IsKind content
kind_is (pos zero) content h = record { kind = 0; is = sym (ok_is (pos 0) content h); known = omega arith }
kind_is (pos (suc zero)) content h = record { kind = 1; is = sym (ok_is (pos 1) content h); known = omega arith }
kind_is (pos (suc (suc n))) content h = absurd (let g : ⊥ = cc in g)
kind_is (negsuc n) content h = absurd (let g : ⊥ = cc in g)

content_kind : (row : field.Row) (content : ℤ) → content_of row ≡ Ok content → IsKind content
unfolding content_of
content_kind row content h = let a = bind_ok (needed_int (pos 517) row) is_content content h in kind_is a.0 content a.2

if_bind : {A B : Type 0} (P : B → Type 0) (r : Result A ℤ) (f : A → Result B ℤ) → ((x : A) → r ≡ Ok x → IfOk (f x) P) → IfOk (field.◌>>=◌ r f) P
if_bind P (Ok x) f h = h x refl
if_bind P (Err e) f h = tt

numbers_kind : (row : field.Row) → IfOk (numbers_of row) (λ n. IsKind n.content)
unfolding numbers_of
numbers_kind row =
    if_bind (λ n. IsKind n.content) (needed_long (pos 501) row) _ (λ size _. if_bind (λ n. IsKind n.content) (needed_int (pos 502) row) _ (λ spec _.
    if_bind (λ n. IsKind n.content) (content_of row) _ (λ content is. if_bind (λ n. IsKind n.content) (needed_long (pos 515) row) _ (λ sequence _.
    if_bind (λ n. IsKind n.content) (needed_long (pos 516) row) _ (λ least _. if_bind (λ n. IsKind n.content) (needed_long (pos 503) row) _ (λ snapshot _. content_kind row content is))))))

files_three : (row : field.Row) (fs : List ℤ) → files_of row ≡ Ok fs → length fs ≡ 3
unfolding files_of
files_three row fs h =
    let a = bind_ok (needed_int (pos 504) row) _ fs h in
    let b = bind_ok (needed_int (pos 505) row) _ fs a.2 in
    let c = bind_ok (needed_int (pos 506) row) _ fs b.2 in
    sym (ap length (ok_is (a.0 ∷ b.0 ∷ c.0 ∷ []) fs c.2))

rows_three : (row : field.Row) (rs : List ℤ) → rows_of row ≡ Ok rs → length rs ≡ 3
unfolding rows_of
rows_three row rs h =
    let a = bind_ok (needed_long (pos 512) row) _ rs h in
    let b = bind_ok (needed_long (pos 513) row) _ rs a.2 in
    let c = bind_ok (needed_long (pos 514) row) _ rs b.2 in
    sym (ap length (ok_is (a.0 ∷ b.0 ∷ c.0 ∷ []) rs c.2))

list_row_is : (row : field.Row) (x : ListRow) → list_row row ≡ Ok x → IsRow x
unfolding list_row
list_row_is row x h =
    let a = bind_ok (needed_text (pos 500) row) _ x h in
    let b = bind_ok (numbers_of row) _ x a.2 in
    let c = bind_ok (files_of row) _ x b.2 in
    let d = bind_ok (rows_of row) _ x c.2 in
    let e = bind_ok (bytes_at (pos 519) row) _ x d.2 in
    let g = bind_ok (long_at (pos 520) row) _ x e.2 in
    let same = ok_is _ x g.2 in
    let k : IsKind b.0.content = subst (λ r. IfOk r (λ n. IsKind n.content)) b.1 (numbers_kind row) in
    record {
      kind = k.kind;
      content = sym (ap (λ r. r.content) same) ∙ k.is;
      known = k.known;
      files = sym (ap (λ r. length r.files) same) ∙ files_three row c.0 c.1;
      rows = sym (ap (λ r. length r.rows) same) ∙ rows_three row d.0 d.1;
    }

-- ---- all rows

pub all_append : {A : Type 0} (P : A → Type 0) (xs ys : List A) → AllByRecursion P xs → AllByRecursion P ys → AllByRecursion P (xs ++ ys)
all_append P [] ys all more = more
all_append P (x ∷ xs) ys all more = (all.0, all_append P xs ys all.1 more)

all_behind : {B : Type 0} (P : B → Type 0) (xs : List B) (s : Option Stop) (more : Trace B) → AllByRecursion P xs → AllByRecursion P more.items → AllByRecursion P (behind xs s more).items
all_behind P xs None more a b = all_append P xs more.items a b
all_behind P xs (Some e) more a b = a

all_each : {A B : Type 0} (P : B → Type 0) (r : A → Trace B) (xs : List A) → ((x : A) → AllByRecursion P (r x).items) → AllByRecursion P (each_in r xs).items
unfolding each_in
all_each P r [] h = tt
all_each P r (x ∷ xs) h = all_behind P (r x).items (r x).stop (each_in r xs) (h x) (all_each P r xs h)

abbrev IsRead : ℕ × ListRow → Type 0
IsRead x = IsRow x.1

row_read : (f : Listed) (place : ℕ) (row : field.Row) (r : Result ListRow ℤ) → list_row row ≡ r → AllByRecursion IsRead (read_of f (named_fields place r)).items
row_read f place row (Ok x) e = (list_row_is row x e, tt)
row_read f place row (Err id) e = tt

records_read : (f : Listed) (bytes : List ℕ) (h : Result Header Wrong) → AllByRecursion IsRead (opened f (λ x. through (records_in list_row f x.schema) (blocks_behind f bytes x)) h).items
records_read f bytes (Err e) = tt
records_read f bytes (Ok h) = all_behind IsRead (each_in (records_in list_row f h.schema) (blocks_behind f bytes h).items).items (each_in (records_in list_row f h.schema) (blocks_behind f bytes h).items).stop (ended (blocks_behind f bytes h).stop)
    (all_each IsRead (records_in list_row f h.schema) (blocks_behind f bytes h).items
    (λ part. all_each IsRead (record_in list_row f h.schema) (values_in h.schema part) (λ v. row_read f v.0 _ (list_row _) refl))) tt

plain_read : (f : Listed) (plain : Option (List ℕ)) → AllByRecursion IsRead (read_plain (records_of list_row) f plain).items
unfolding records_of
plain_read f None = tt
plain_read f (Some bytes) = records_read f bytes (header_of bytes)

mapped : (xs : List (ℕ × ListRow)) → AllByRecursion IsRead xs → AllByRecursion IsRow (map (λ r. r.1) xs)
mapped [] all = tt
mapped (x ∷ xs) all = (all.0, mapped xs all.1)

-- the parent's rows are rows
pub parent_rows_are : (files : Objects) (meta : Fields) (ring : Ring) (current : Option ℤ) (rows : List ListRow) → AreParentRows files meta ring current rows → AllByRecursion IsRow rows
parent_rows_are files meta ring None rows h = subst (AllByRecursion IsRow) (sym h) tt
parent_rows_are files meta ring (Some id) rows h =
    let shown : ShowsAll ((contents_in meta files).list_rows h.0) rows = h.2 in
    subst (AllByRecursion IsRow) shown.same (mapped ((contents_in meta files).list_rows h.0).items (plain_read h.0 (plaintexts_in files h.0)))
