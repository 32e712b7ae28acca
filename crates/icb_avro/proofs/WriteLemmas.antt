-- Writing, byte by byte and value by value.
use Rattle.std.proofs.Common.{◌≡◌, ℕ, zero, suc, ◌+◌, ◌-◌, ◌*◌, ◌/◌, ◌%◌, ◌^◌, ◌<◌, ◌≤◌, List, [], ◌∷◌, ◌++◌, length, get_or, map, refl, sym, ap, subst, ◌∙◌, arith, append_assoc, mul-le-mul_left, add-one}
use Rattle.std.specs.Prelude.{Bool, ℤ, pos, if◌then◌else◌, Result, Ok, Err, OnOk, OnErr}
use Rattle.std.proofs.Math.Nat.{pow-suc}
use Rattle.std.proofs.lemmas.Bool.{lt-ltb, le-ltb}
use Rattle.std.proofs.lemmas.List.{append-nil}
use Rattle.icb_avro.specs.declared.value.Value.{Value, fold-Value, fold-roll-Value}
use Rattle.icb_avro.specs.declared.value.Value.TheOpen.{Value-F}
use Rattle.icb_avro.specs.declared.value.Value.TheVariants as value
use Rattle.icb_avro.specs.Writing.{Appends, shortest, written, written_level, written_long, written_bytes, written_entry, one_block, all_written}

-- ---- how many values are in a value, of those that have values inside

abbrev pub total : List ℕ → ℕ
total [] = 0
total (n ∷ ns) = n + total ns

abbrev pub weight_level : Value-F ℕ → ℕ
weight_level (Value-F.Record ns) = suc (total ns)
weight_level (Value-F.Array ns) = suc (total ns)
weight_level (Value-F.Map es) = suc (total (map (λ e. e.1) es))
weight_level (Value-F.Union k n) = suc n
weight_level v = 0

unfoldable pub weight : Value → ℕ
weight = fold-Value ℕ weight_level

abbrev pub weights : List Value → ℕ
weights vs = total (map weight vs)

abbrev pub entry_weights : List (List ℕ × Value) → ℕ
entry_weights es = total (map (λ e. weight e.1) es)

pub weight_Record : (vs : List Value) → weight (value.Record vs) ≡ suc (weights vs)
unfolding weight
weight_Record vs = ap weight (sym (value.rolls-Record vs)) ∙ fold-roll-Value ℕ weight_level (Value-F.Record vs)

pub weight_Array : (vs : List Value) → weight (value.Array vs) ≡ suc (weights vs)
unfolding weight
weight_Array vs = ap weight (sym (value.rolls-Array vs)) ∙ fold-roll-Value ℕ weight_level (Value-F.Array vs)

map_twice : (es : List (List ℕ × Value)) → total (map {A = List ℕ × ℕ} (λ e. e.1) (map (λ e. (e.0, weight e.1)) es)) ≡ entry_weights es
map_twice [] = refl
map_twice (e ∷ es) = ap (λ n. weight e.1 + n) (map_twice es)

pub weight_Map : (es : List (List ℕ × Value)) → weight (value.Map es) ≡ suc (entry_weights es)
unfolding weight
weight_Map es = ap weight (sym (value.rolls-Map es)) ∙ fold-roll-Value ℕ weight_level (Value-F.Map es) ∙ ap suc (map_twice es)

pub weight_Union : (k : ℕ) (v : Value) → weight (value.Union k v) ≡ suc (weight v)
unfolding weight
weight_Union k v = ap weight (sym (value.rolls-Union k v)) ∙ fold-roll-Value ℕ weight_level (Value-F.Union k v)

pub weight_in : (vs : List Value) (i : ℕ) (v : Value) → i < length vs → v ≡ get_or vs i v → weight v ≤ weights vs
weight_in [] i v h e = absurd (let f : ⊥ = omega (arith, h) in f)
weight_in (w ∷ vs) zero v h e = let s : weight v ≡ weight w = ap weight e in omega (arith, s)
weight_in (w ∷ vs) (suc i) v h e = omega (arith, weight_in vs i v (omega (arith, h)) e)

pub entry_weight_in : (es : List (List ℕ × Value)) (i : ℕ) (e : List ℕ × Value) → i < length es → e ≡ get_or es i e → weight e.1 ≤ entry_weights es
entry_weight_in [] i e h k = absurd (let f : ⊥ = omega (arith, h) in f)
entry_weight_in (f ∷ es) zero e h k = let s : weight e.1 ≡ weight f.1 = ap (λ (x : List ℕ × Value). weight x.1) k in omega (arith, s)
entry_weight_in (f ∷ es) (suc i) e h k = omega (arith, entry_weight_in es i e (omega (arith, h)) k)

-- ---- what is written, level by level

pub written_Null : written value.Null ≡ []
unfolding written
written_Null = ap written (sym value.rolls-Null) ∙ fold-roll-Value (List ℕ) written_level Value-F.Null

pub written_Boolean : (b : Bool) → written (value.Boolean b) ≡ (if b then 1 else 0) ∷ []
unfolding written
written_Boolean b = ap written (sym (value.rolls-Boolean b)) ∙ fold-roll-Value (List ℕ) written_level (Value-F.Boolean b)

pub written_Int : (n : ℤ) → written (value.Int n) ≡ written_long n
unfolding written
written_Int n = ap written (sym (value.rolls-Int n)) ∙ fold-roll-Value (List ℕ) written_level (Value-F.Int n)

pub written_Long : (n : ℤ) → written (value.Long n) ≡ written_long n
unfolding written
written_Long n = ap written (sym (value.rolls-Long n)) ∙ fold-roll-Value (List ℕ) written_level (Value-F.Long n)

pub written_Float : (bytes : List ℕ) → written (value.Float bytes) ≡ bytes
unfolding written
written_Float bytes = ap written (sym (value.rolls-Float bytes)) ∙ fold-roll-Value (List ℕ) written_level (Value-F.Float bytes)

pub written_Double : (bytes : List ℕ) → written (value.Double bytes) ≡ bytes
unfolding written
written_Double bytes = ap written (sym (value.rolls-Double bytes)) ∙ fold-roll-Value (List ℕ) written_level (Value-F.Double bytes)

pub written_Bytes : (content : List ℕ) → written (value.Bytes content) ≡ written_bytes content
unfolding written
written_Bytes content = ap written (sym (value.rolls-Bytes content)) ∙ fold-roll-Value (List ℕ) written_level (Value-F.Bytes content)

pub written_Text : (content : List ℕ) → written (value.Text content) ≡ written_bytes content
unfolding written
written_Text content = ap written (sym (value.rolls-Text content)) ∙ fold-roll-Value (List ℕ) written_level (Value-F.Text content)

pub written_Fixed : (content : List ℕ) → written (value.Fixed content) ≡ content
unfolding written
written_Fixed content = ap written (sym (value.rolls-Fixed content)) ∙ fold-roll-Value (List ℕ) written_level (Value-F.Fixed content)

pub written_Enum : (k : ℕ) → written (value.Enum k) ≡ written_long (pos k)
unfolding written
written_Enum k = ap written (sym (value.rolls-Enum k)) ∙ fold-roll-Value (List ℕ) written_level (Value-F.Enum k)

pub written_Record : (vs : List Value) → written (value.Record vs) ≡ all_written vs
unfolding written
written_Record vs = ap written (sym (value.rolls-Record vs)) ∙ fold-roll-Value (List ℕ) written_level (Value-F.Record vs)

pub written_Array : (vs : List Value) → written (value.Array vs) ≡ one_block (map written vs)
unfolding written
written_Array vs = ap written (sym (value.rolls-Array vs)) ∙ fold-roll-Value (List ℕ) written_level (Value-F.Array vs)

entries_twice : (es : List (List ℕ × Value)) → map written_entry (map (λ e. (e.0, written e.1)) es) ≡ map (λ e. written_entry (e.0, written e.1)) es
entries_twice [] = refl
entries_twice (e ∷ es) = ap (λ (rest : List (List ℕ)). written_entry (e.0, written e.1) ∷ rest) (entries_twice es)

pub written_Map : (es : List (List ℕ × Value)) → written (value.Map es) ≡ one_block (map (λ e. written_entry (e.0, written e.1)) es)
unfolding written
written_Map es = ap written (sym (value.rolls-Map es)) ∙ fold-roll-Value (List ℕ) written_level (Value-F.Map es) ∙ ap one_block (entries_twice es)

pub written_Union : (k : ℕ) (v : Value) → written (value.Union k v) ≡ written_long (pos k) ++ written v
unfolding written
written_Union k v = ap written (sym (value.rolls-Union k v)) ∙ fold-roll-Value (List ℕ) written_level (Value-F.Union k v)

-- ---- numbers

-- what is written of a number in the loop
pub record Written (before : List ℕ) (number : ℕ) (out : List ℕ) (rest done : ℕ) : Type 0 where
  pub so_far : before ++ shortest 8 number ≡ out ++ shortest (8 - done) rest
  pub front : (more : List ℕ) × (out ≡ before ++ more)
  pub small : rest * 128 ^ done ≤ number

pub begins : (before : List ℕ) (number : ℕ) → Written before number before number 0
begins before number = record { so_far = refl; front = ([], sym (append-nil before)); small = omega arith }

pub last_byte : (more n : ℕ) → n < 128 → shortest more n ≡ n ∷ []
unfolding shortest
last_byte zero n h = refl
last_byte (suc more) n h = rw (lt-ltb n 128 h) refl

pub one_more : (more n : ℕ) → 128 ≤ n → shortest (suc more) n ≡ (128 + n % 128) ∷ shortest more (n / 128)
unfolding shortest
one_more more n h = rw (le-ltb n 128 h) refl

pub ends_below : (before : List ℕ) (number : ℕ) (out : List ℕ) (rest done : ℕ) → Written before number out rest done → rest < 128 → out ++ rest ∷ [] ≡ before ++ shortest 8 number
ends_below before number out rest done w h = sym (w.so_far ∙ ap (λ (t : List ℕ). out ++ t) (last_byte (8 - done) rest h))

pub goes_on : (before : List ℕ) (number : ℕ) (out : List ℕ) (rest done : ℕ) → Written before number out rest done → done < 8 → 128 ≤ rest → Written before number (out ++ (128 + rest % 128) ∷ []) (rest / 128) (done + 1)
goes_on before number out rest done w h k =
    let e : 8 - done ≡ suc (8 - (done + 1)) = omega arith in
    let byte : ℕ = 128 + rest % 128 in
    let after : shortest (8 - done) rest ≡ (128 + rest % 128) ∷ shortest (8 - (done + 1)) (rest / 128) = ap (λ (m : ℕ). shortest m rest) e ∙ one_more (8 - (done + 1)) rest k in
    let p : 128 ^ (done + 1) ≡ 128 ^ done * 128 = rw add-one (pow-suc 128 done) in
    let low : rest / 128 * 128 ≤ rest = omega arith in
    let product : 128 ^ done * (rest / 128 * 128) ≤ 128 ^ done * rest = mul-le-mul_left (128 ^ done) low in
    record {
      so_far = w.so_far ∙ ap (λ (t : List ℕ). out ++ t) after ∙ sym (append_assoc out ((128 + rest % 128) ∷ []) (shortest (8 - (done + 1)) (rest / 128)));
      front = (w.front.0 ++ (128 + rest % 128) ∷ [], ap (λ (t : List ℕ). t ++ (128 + rest % 128) ∷ []) w.front.1 ∙ append_assoc before w.front.0 ((128 + rest % 128) ∷ []));
      small = rw p (grind (arith, product, w.small));
    }

pub last_small : (before : List ℕ) (number : ℕ) (out : List ℕ) (rest done : ℕ) → Written before number out rest done → 8 ≤ done → done ≤ 8 → number < 2 ^ 58 → rest < 4
last_small before number out rest done w h k l =
    let e : done ≡ 8 = omega arith in
    let s : rest * 128 ^ 8 ≤ number = subst (λ (m : ℕ). rest * 128 ^ m ≤ number) e w.small in
    omega (arith, s)

pub starts_small : (half sign : ℕ) → half < 64 → sign < 2 → shortest 9 (2 * half + sign) ≡ (2 * (half % 64) + sign) ∷ []
starts_small half sign h k = let e : 2 * (half % 64) + sign ≡ 2 * half + sign = omega arith in rw e (last_byte 9 (2 * half + sign) (omega arith))

pub starts_large : (half sign : ℕ) → 64 ≤ half → sign < 2 → shortest 9 (2 * half + sign) ≡ (128 + (2 * (half % 64) + sign)) ∷ shortest 8 (half / 64)
starts_large half sign h k =
    let low : (2 * half + sign) % 128 ≡ 2 * (half % 64) + sign = omega arith in
    let high : (2 * half + sign) / 128 ≡ half / 64 = omega arith in
    one_more 8 (2 * half + sign) (omega arith) ∙ rw (low, high) refl

-- ---- appending

pub appends_push : {E : Type 0} (r : Result (Unit {0}) E) (old bytes new : List ℕ) → OnOk r (new ≡ old ++ bytes) → OnErr r (new ≡ old) → Appends r old bytes new
appends_push (Ok x) old bytes new ok err = ok
appends_push (Err e) old bytes new ok err = ([], err ∙ sym (append-nil old))

pub appends_last : {E : Type 0} (r : Result (Unit {0}) E) (before text out new : List ℕ) (b : ℕ) → OnOk r (new ≡ out ++ b ∷ []) → OnErr r (new ≡ out) → out ++ b ∷ [] ≡ before ++ text → ((more : List ℕ) × (out ≡ before ++ more)) → Appends r before text new
appends_last (Ok x) before text out new b ok err e front = ok ∙ e
appends_last (Err d) before text out new b ok err e front = (front.0, err ∙ front.1)

pub appends_after : {E : Type 0} (r : Result (Unit {0}) E) (before front mid text whole new : List ℕ) → mid ≡ before ++ front → front ++ text ≡ whole → Appends r mid text new → Appends r before whole new
appends_after (Ok x) before front mid text whole new m w h = h ∙ ap (λ (t : List ℕ). t ++ text) m ∙ append_assoc before front text ∙ ap (λ (t : List ℕ). before ++ t) w
appends_after (Err d) before front mid text whole new m w h = (front ++ h.0, h.1 ∙ ap (λ (t : List ℕ). t ++ h.0) m ∙ append_assoc before front h.0)
