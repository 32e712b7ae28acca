-- Records are passed over one by one.
use Rattle.std.proofs.Common.{◌≡◌, ℕ, zero, suc, ◌+◌, ◌-◌, ◌<◌, ◌≤◌, eqb, cond, List, [], ◌∷◌, ◌++◌, length, take, drop, Ok, Err, refl, sym, ap, ◌∙◌, arith, append_assoc}
use Rattle.icb_avro.specs.Cursor.{Input, Reads, unread}
use Rattle.icb_avro.specs.Reading as avro
use Rattle.icb_avro.specs.Reading.{Read, items_at, read_as, value_at}
use Rattle.icb_avro.specs.declared.fault.AvroCause.TheVariants as cause
use Rattle.icb_avro.specs.declared.fault.AvroFault.{AvroFault}
use Rattle.icb_avro.specs.declared.fault.Refusal.{Refusal}
use Rattle.icb_avro.specs.declared.value.Value.{Value}
use Rattle.icb_schema.specs.Shape.{Shape}
use Rattle.icb_container.specs.declared.numbers.BlockHead.{BlockHead}
use Rattle.icb_container.specs.Blocks.{records_at}
use Rattle.icb_container.specs.Items.{head_of}
use Rattle.icb_container.specs.Wrong as wrong
use Rattle.icb_container.proofs.Knowledge.{place_of}

-- items, and what was read behind them
abbrev pub behind_items : {A : Type 0} → List A → Read (List A) → Read (List A)
behind_items xs (Ok ys) = Ok (xs ++ ys.0, ys.1)
behind_items xs (Err r) = Err r

-- so many of the items were read
pub record AreRead {A : Type 0} (item : List ℕ → Read A) (n left : ℕ) (all rest : List ℕ) : Type 0 where
  pub items : List A
  pub is : items_at item n all ≡ behind_items items (items_at item left rest)

behind_none : {A : Type 0} (r : Read (List A)) → r ≡ behind_items [] r
behind_none (Ok ys) = refl
behind_none (Err r) = refl

-- before the first item
pub none_is_read : {A : Type 0} (item : List ℕ → Read A) (n : ℕ) (all : List ℕ) → AreRead item n n all all
none_is_read item n all = record { items = []; is = behind_none (items_at item n all) }

-- behind one more item
pub more_is_read : {A : Type 0} (item : List ℕ → Read A) (n left more : ℕ) (all rest behind : List ℕ) (x : A) → left ≡ suc more → item rest ≡ Ok (x, behind)
    → AreRead item n left all rest → AreRead item n more all behind
unfolding items_at
more_is_read {A} item n left more all rest behind x e is read = record {
  items = read.items ++ x ∷ [];
  is = read.is ∙ ap (λ (k : ℕ). behind_items read.items (items_at item k rest)) e ∙ rw is (one (items_at item more behind));
}
  where
    one : (r : Read (List A)) → behind_items read.items (avro.◌>>=◌ r (λ xs. Ok (x ∷ xs.0, xs.1))) ≡ behind_items (read.items ++ x ∷ []) r
    one (Ok ys) = ap (λ (zs : List A). Ok (zs, ys.1)) (sym (append_assoc read.items (x ∷ []) ys.0))
    one (Err r) = refl

-- an item that is refused
pub refused_item : {A : Type 0} (item : List ℕ → Read A) (n left : ℕ) (all rest : List ℕ) (r : Refusal) → 0 < left → item rest ≡ Err r → AreRead item n left all rest → items_at item n all ≡ Err r
unfolding items_at
refused_item item n zero all rest r h is read = absurd (let f : ⊥ = omega (arith, h) in f)
refused_item item n (suc left) all rest r h is read = read.is ∙ rw is refl

-- behind the last item
pub all_are_read : {A : Type 0} (item : List ℕ → Read A) (n left : ℕ) (all rest : List ℕ) → left ≡ 0 → AreRead item n left all rest → (xs : List A) × (items_at item n all ≡ Ok (xs, rest))
unfolding items_at
all_are_read item n left all rest e read = (read.items ++ [], read.is ∙ ap (λ (k : ℕ). behind_items read.items (items_at item k rest)) e)

-- a record that was passed over
pub skipped_is_read : {A : Type 0} (w : Read A) (old new : Input) (u : Unit {0}) → Reads {X = Unit {0}} (λ done. done) (Ok u) old new (read_as (λ _. tt) w)
    → (x : A) × (w ≡ Ok (x, unread new)) × (new.whole ≡ old.whole) × (new.place ≤ length old.whole)
skipped_is_read (Ok x) old new u h = (x.0, ap (λ (l : List ℕ). Ok (x.0, l)) (sym h.3), h.1, omega (arith, h.2))
skipped_is_read (Err r) old new u h = absurd h

-- a record that was refused
pub skipped_is_refused : {A : Type 0} (w : Read A) (old new : Input) (f : AvroFault) → Reads {X = Unit {0}} (λ done. done) (Err f) old new (read_as (λ _. tt) w)
    → (r : Refusal) × (w ≡ Err r) × (f.cause ≡ r.cause) × (f.place + r.left ≡ length old.whole)
skipped_is_refused (Ok x) old new f h = absurd h
skipped_is_refused (Err r) old new f h = (r, refl, h.0, h.1)

-- ---- the records of a block

-- where the records are refused
pub records_refused : (s : Shape) (file bytes : List ℕ) (h : BlockHead) (r : Refusal) (f : AvroFault) → h.place ≤ length file → bytes ≡ take h.size (drop h.place file) → items_at (value_at s) h.count bytes ≡ Err r
    → f.cause ≡ r.cause → f.place + r.left ≡ h.size → records_at s (length file) (head_of file h) ≡ Err (wrong.avro (h.place + f.place) f.cause)
records_refused s file bytes h r f within is e cause place =
    let begins = place_of file h.place within in
    let at : h.place + h.size - r.left ≡ h.place + f.place = omega (arith, place) in
    rw (begins, ← is, e, at, cause) refl

-- where they are read
pub records_are : (s : Shape) (file bytes rest : List ℕ) (h : BlockHead) (xs : List Value) → h.place ≤ length file → bytes ≡ take h.size (drop h.place file) → items_at (value_at s) h.count bytes ≡ Ok (xs, rest)
    → records_at s (length file) (head_of file h) ≡ cond (eqb (length rest) 0) (Ok xs) (Err (wrong.avro (h.place + h.size - length rest) cause.Size))
records_are s file bytes rest h xs within is e = let place = place_of file h.place within in rw (place, ← is, e) refl
