-- What is read was spelled.
use Rattle.std.proofs.Common.{◌≡◌, ℕ, zero, suc, ◌<◌, cond, List, [], ◌∷◌, ◌++◌, length, Option, Some, None, Result, Ok, Err, refl, sym, ap, subst, ◌∙◌, arith, append_assoc}
use Rattle.std.specs.Prelude.{ℤ, pos, negsuc, IsTrue, ◌==◌}
use Rattle.std.proofs.lemmas.List.{append-nil}
use Rattle.std.proofs.lemmas.Bool.{eqb-true}
use Rattle.icb_base.specs.KeyMetadata.{KeyRecord, is_key_length}
use Rattle.icb_schema.specs.Tree as tree
use Rattle.icb_schema.specs.Shape.{Shape, primitive}
use Rattle.icb_avro.specs.declared.value.Value.{Value}
use Rattle.icb_avro.specs.declared.value.Value.TheVariants as value
use Rattle.icb_avro.specs.Numbers.{IsInt}
use Rattle.icb_avro.specs.Reading.{bytes_at, index_at, long_at}
use Rattle.icb_avro.specs.Spelling.{IsCounted, Spells}
use Rattle.icb_avro.proofs.Found.{bytes_found, index_found, long_found}
use Rattle.icb_keymeta.specs.Decoded.{Item, ◌>>=◌, avro, key_of, key_at, length_of, length_at, there, optional_at, record_at, alone, versioned_at, placed, key_metadata_of}
use Rattle.icb_keymeta.specs.Encoded.{optional, record_shape, optional_value, record_value}
use Rattle.icb_keymeta.specs.Laws.{SpellsMetadata}
use Rattle.icb_keymeta.proofs.Steps.{bind_ok, done_is, value_is, rest_is, test_ok, avro_ok}

-- a front of the bytes spells what is read
abbrev pub Found : {A : Type 0} → (A → List ℕ → Type 0) → (List ℕ → Item A) → Type 0
Found {A} Spell item = (all : List ℕ) (x : A) (more : List ℕ) → item all ≡ Ok (x, more) → (front : List ℕ) × (all ≡ front ++ more) × Spell x front

-- the bytes of an AES key
abbrev pub IsKey : List ℕ → List ℕ → Type 0
IsKey key front = IsCounted key front × IsTrue (is_key_length (length key))

pub key_found : Found IsKey key_at
unfolding key_at
key_found all key more e =
    let b = bind_ok (avro (bytes_at all)) (key_of all) (key, more) e in
    let t = test_ok (is_key_length (length b.0.0)) (Ok b.0) (length all) (key, more) b.2 in
    let same : b.0 ≡ (key, more) = done_is b.0 (key, more) t.1 in
    let f = bytes_found all key more (avro_ok (bytes_at all) (key, more) (b.1 ∙ t.1)) in
    (f.0, f.1, (f.2, subst (λ (y : List ℕ × List ℕ). IsTrue (is_key_length (length y.0))) same t.0))

-- a value of bytes
pub prefix_found : Found (λ prefix front. Spells (primitive tree.bytes) (value.Bytes prefix) front) (λ rest. avro (bytes_at rest))
prefix_found all prefix more e =
    let f = bytes_found all prefix more (avro_ok (bytes_at all) (prefix, more) e) in
    (f.0, f.1, (prefix, refl, f.2))

length_cases : (all : List ℕ) (n : ℤ) (rest : List ℕ) (k : ℕ) (more : List ℕ) → length_of all (n, rest) ≡ Ok (k, more) → (n ≡ pos k) × (rest ≡ more)
length_cases all (pos j) rest k more e = (ap pos (value_is j k rest more e), rest_is j k rest more e)
length_cases all (negsuc j) rest k more e = absurd cc

pair_is : (x : ℤ × List ℕ) (n : ℤ) (more : List ℕ) → x.0 ≡ n → x.1 ≡ more → x ≡ (n, more)
pair_is x n more e f = rw (← e, ← f) refl

-- a value of a long that isn't below 0
pub length_found : Found (λ n front. Spells (primitive tree.long) (value.Long (pos n)) front) length_at
unfolding length_at
length_found all n more e =
    let b = bind_ok (avro (long_at all)) (length_of all) (n, more) e in
    let c = length_cases all b.0.0 b.0.1 n more b.2 in
    let whole : avro (long_at all) ≡ Ok (pos n, more) = b.1 ∙ ap (λ (y : ℤ × List ℕ). Ok y) (pair_is b.0 (pos n) more c.0 c.1) in
    let f = long_found all (pos n) more (avro_ok (long_at all) (pos n, more) whole) in
    (f.0, f.1, (pos n, refl, f.2))

-- the branch, and the value behind it
optional_cases : {A : Type 0} (make : A → Value) (shape : Shape) (item : List ℕ → Item A) → Found (λ x front. Spells shape (make x) front) item
    → (index rest : List ℕ) (k : ℕ) → k < 2 → IsInt (pos k) index → (o : Option A) (more : List ℕ)
    → cond (k == 0) (Ok (None, rest)) (there (item rest)) ≡ Ok (o, more)
    → (behind : List ℕ) × (rest ≡ behind ++ more) × Spells (optional shape) (optional_value make o) (index ++ behind)
optional_cases {A} make shape item found index rest zero lt h o more e =
    let none : None ≡ o = value_is None o rest more e in
    subst (λ (p : Option A). (behind : List ℕ) × (rest ≡ behind ++ more) × Spells (optional shape) (optional_value make p) (index ++ behind)) none
    ([], rest_is None o rest more e, (0, value.Null, index, [], refl, refl, h, (refl, refl)))
optional_cases {A} make shape item found index rest (suc zero) lt h o more e =
    let b = bind_ok (item rest) (λ x. Ok (Some x.0, x.1)) (o, more) e in
    let some : Some b.0.0 ≡ o = value_is (Some b.0.0) o b.0.1 more b.2 in
    let f = found rest b.0.0 b.0.1 b.1 in
    subst (λ (p : Option A). (behind : List ℕ) × (rest ≡ behind ++ more) × Spells (optional shape) (optional_value make p) (index ++ behind)) some
    (f.0, f.1 ∙ ap (λ (xs : List ℕ). f.0 ++ xs) (rest_is (Some b.0.0) o b.0.1 more b.2), (1, make b.0.0, index, f.0, refl, refl, h, f.2))
optional_cases make shape item found index rest (suc (suc k)) lt h o more e = absurd (let f : ⊥ = omega (arith, lt) in f)

pub optional_found : {A : Type 0} (make : A → Value) (shape : Shape) (item : List ℕ → Item A) → Found (λ x front. Spells shape (make x) front) item
    → Found (λ o front. Spells (optional shape) (optional_value make o) front) (optional_at item)
unfolding optional_at
optional_found {A} make shape item found all o more e =
    let b = bind_ok (avro (index_at 2 all)) (λ branch. cond (branch.0 == 0) (Ok (None, branch.1)) (there (item branch.1))) (o, more) e in
    let i = index_found 2 all b.0.0 b.0.1 (avro_ok (index_at 2 all) b.0 b.1) in
    let c = optional_cases make shape item found i.0 b.0.1 b.0.0 i.2.0 i.2.1 o more b.2 in
    (i.0 ++ c.0, i.1 ∙ ap (λ (xs : List ℕ). i.0 ++ xs) c.1 ∙ sym (append_assoc i.0 c.0 more), c.2)

-- the record, whose key is an AES key
abbrev pub IsRecord : KeyRecord → List ℕ → Type 0
IsRecord meta front = Spells record_shape (record_value meta) front × IsTrue (is_key_length (length meta.key))

joined : (all a r1 b r2 c more : List ℕ) → all ≡ a ++ r1 → r1 ≡ b ++ r2 → r2 ≡ c ++ more → all ≡ (a ++ (b ++ (c ++ []))) ++ more
joined all a r1 b r2 c more e f g = rw (e, f, g, append-nil c, append_assoc a (b ++ c) more, append_assoc b c more) refl

pub record_found : Found IsRecord record_at
unfolding record_at
record_found all meta more e =
    let k = bind_ok (key_at all) _ (meta, more) e in
    let p = bind_ok (optional_at (λ rest. avro (bytes_at rest)) k.0.1) _ (meta, more) k.2 in
    let l = bind_ok (optional_at length_at p.0.1) _ (meta, more) p.2 in
    let key = key_found all k.0.0 k.0.1 k.1 in
    let prefix = optional_found value.Bytes (primitive tree.bytes) (λ rest. avro (bytes_at rest)) prefix_found k.0.1 p.0.0 p.0.1 p.1 in
    let told = optional_found (λ n. value.Long (pos n)) (primitive tree.long) length_at length_found p.0.1 l.0.0 l.0.1 l.1 in
    let made : KeyRecord = record { key = k.0.0; prefix = p.0.0; length_told = l.0.0 } in
    let same : made ≡ meta = value_is made meta l.0.1 more l.2 in
    let ends : l.0.1 ≡ more = rest_is made meta l.0.1 more l.2 in (
      key.0 ++ (prefix.0 ++ (told.0 ++ [])),
      joined all key.0 k.0.1 prefix.0 p.0.1 told.0 more key.1 prefix.1 (told.1 ∙ ap (λ (xs : List ℕ). told.0 ++ xs) ends),
      subst (λ (m : KeyRecord). IsRecord m (key.0 ++ (prefix.0 ++ (told.0 ++ [])))) same
          ((_, refl, (key.0, prefix.0 ++ (told.0 ++ []), refl, (k.0.0, refl, key.2.0), (prefix.0, told.0 ++ [], refl, prefix.2, (told.0, [], refl, told.2, refl)))), key.2.1),
    )

alone_cases : (x : KeyRecord) (rest : List ℕ) (y : KeyRecord) → alone (x, rest) ≡ Ok y → (x ≡ y) × (rest ≡ [])
alone_cases x [] y e = (done_is x y e, refl)
alone_cases x (b ∷ rest) y e = absurd cc

versioned_found : (all : List ℕ) (meta : KeyRecord) → versioned_at all ≡ Ok meta → SpellsMetadata meta all
unfolding versioned_at
versioned_found [] meta e = absurd cc
versioned_found (b ∷ rest) meta e =
    let t = test_ok (b == 1) (record_at rest >>= alone) (length (b ∷ rest)) meta e in
    let r = bind_ok (record_at rest) alone meta t.1 in
    let a = alone_cases r.0.0 r.0.1 meta r.2 in
    let f = record_found rest r.0.0 r.0.1 r.1 in
    let one : b ≡ 1 = eqb-true b 1 t.0 in
    let same : f.0 ≡ rest = sym (f.1 ∙ ap (λ (xs : List ℕ). f.0 ++ xs) a.1 ∙ append-nil f.0) in
    record {
      spelling = f.0;
      versioned = ap (λ (n : ℕ). n ∷ rest) one ∙ ap (λ (xs : List ℕ). 1 ∷ xs) (sym same);
      spelled = subst (λ (m : KeyRecord). Spells record_shape (record_value m) f.0) a.0 f.2.0;
      key_length = subst (λ (m : KeyRecord). IsTrue (is_key_length (length m.key))) a.0 f.2.1;
    }

placed_ok : (all : List ℕ) (r : Result KeyRecord ℕ) (meta : KeyRecord) → placed all r ≡ Ok meta → r ≡ Ok meta
placed_ok all (Ok x) meta e = e
placed_ok all (Err left) meta e = absurd cc

pub metadata_found : (meta : KeyRecord) (all : List ℕ) → key_metadata_of all ≡ Ok meta → SpellsMetadata meta all
unfolding key_metadata_of
metadata_found meta all e = versioned_found all meta (placed_ok all (versioned_at all) meta e)
