-- The map of a header, by what was read of its properties and its blocks.
use Rattle.std.proofs.Common.{◌≡◌, ℕ, zero, suc, ◌+◌, ◌-◌, ◌<◌, ◌≤◌, eqb, ltb, leb, Bool, true, false, cond, List, [], ◌∷◌, ◌++◌, length, drop, Option, Ok, Err, ℤ, pos, negsuc, refl, sym, ap, subst, ◌∙◌, arith, append_assoc}
use Rattle.std.proofs.lemmas.Bool.{le-leb, lt-leb, lt-ltb, le-ltb}
use Rattle.std.proofs.lemmas.List.{append-nil, length-drop}
use Rattle.icb_avro.specs.declared.fault.AvroCause.TheVariants as cause
use Rattle.icb_avro.specs.Reading.{is_zero}
use lib.Signed.{lt_z}
use lib.IntN.{nat_abs}
use Rattle.icb_container.specs.declared.fault.ContainerFault.{ContainerFault}
use Rattle.icb_container.specs.declared.found.Found.{Found}
use Rattle.icb_container.specs.Wrong as wrong
use Rattle.icb_container.specs.Wrong.{Wrong, ◌>>=◌, refuse}
use Rattle.icb_container.specs.Answers.{Refuses}
use Rattle.icb_container.specs.Header.{Property, Reads, block_at, bytes_at, map_at, number_at, properties_at, property_at, sized_at, text_at}
use Rattle.icb_container.specs.Known.{KnownFromTo}
use Rattle.icb_container.specs.Kept.{Added, Adds, IsKept, sized_block}
use Rattle.icb_container.proofs.Knowledge.{place_of}
use Rattle.icb_container.proofs.Refused.{refuses_as, refuses_first}
use Rattle.icb_container.proofs.Signs.{is_below, not_below}

-- ---- what is kept

-- no property
pub adds_none : (found : Found) → Adds found found []
adds_none found qs kept = subst (IsKept found) (sym (append-nil qs)) kept

-- properties, and more
pub adds_more : (one two three : Found) (ps qs : List Property) → Adds one two ps → Adds two three qs → Adds one three (ps ++ qs)
adds_more one two three ps qs first second rs kept = subst (IsKept three) (append_assoc rs ps qs) (second (rs ++ ps) (first rs kept))

-- properties, and what was read behind them
abbrev pub behind : List Property → Reads (List Property) → Reads (List Property)
behind ps (Ok x) = Ok (ps ++ x.0, x.1)
behind ps (Err w) = Err w

pub behind_none : (r : Reads (List Property)) → r ≡ behind [] r
behind_none (Ok x) = refl
behind_none (Err w) = refl

pub behind_both : (ps qs : List Property) (r : Reads (List Property)) → behind ps (behind qs r) ≡ behind (ps ++ qs) r
behind_both ps qs (Ok x) = ap (λ (zs : List Property). Ok (zs, x.1)) (sym (append_assoc ps qs x.0))
behind_both ps qs (Err w) = refl

-- a refusal behind properties
pub behind_refuses : {F : Type 0} (e : ContainerFault F) (ps : List Property) (r : Reads (List Property)) → Refuses e r → Refuses e (behind ps r)
behind_refuses e ps r h = refuses_as e r (behind ps r) (λ w is. ap (behind ps) is) h

-- ---- properties

-- a key that is refused
pub key_refuses : {F : Type 0} (end : ℕ) (all : List ℕ) (e : ContainerFault F) → Refuses e (text_at end all) → Refuses e (properties_at end 1 all)
unfolding properties_at property_at
key_refuses end all e h = refuses_as e (text_at end all) (properties_at end 1 all) (λ w is. rw is refl) h

-- a value that is refused
pub value_refuses : {F : Type 0} (end : ℕ) (all key rest : List ℕ) (e : ContainerFault F) → text_at end all ≡ Ok (key, rest) → Refuses e (bytes_at end rest) → Refuses e (properties_at end 1 all)
unfolding properties_at property_at
value_refuses end all key rest e is h = refuses_as e (bytes_at end rest) (properties_at end 1 all) (λ w f. rw (is, f) refl) h

-- a property that is read
pub property_is : (file key value more : List ℕ) (at place : ℕ) → place ≤ length file → text_at (length file) (drop at file) ≡ Ok (key, drop place file) → bytes_at (length file) (drop place file) ≡ Ok (value, more)
    → properties_at (length file) 1 (drop at file) ≡ Ok (record { key = key; value = value; place = place } ∷ [], more)
unfolding properties_at property_at
property_is file key value more at place inside is value_is = let begins = place_of file place inside in rw (is, value_is, begins) refl

abbrev alone : Property × List ℕ → Reads (List Property)
alone p = Ok (p.0 ∷ [], p.1)

abbrev before : Property → List Property × List ℕ → Reads (List Property)
before p ps = Ok (p ∷ ps.0, ps.1)

abbrev given : List Property → List ℕ → Reads (List Property)
given ps rest = Ok (ps, rest)

abbrev done : List Property × List ℕ → Reads (List Property)
done x = Ok x

pair_is : (x y : List Property × List ℕ) → done x ≡ done y → x ≡ y
pair_is x y e = cc

-- one property before others
pub one_more : (end k : ℕ) (all rest : List ℕ) (qs : List Property) → properties_at end 1 all ≡ Ok (qs, rest) → properties_at end (suc k) all ≡ behind qs (properties_at end k rest)
unfolding properties_at
one_more end k all rest qs e = by_property (property_at end all) e
  where
    rest_of : (p : Property) (r : Reads (List Property)) → (r >>= before p) ≡ behind (p ∷ []) r
    rest_of p (Ok x) = refl
    rest_of p (Err w) = refl

    by_property : (r : Reads Property) → (r >>= alone) ≡ given qs rest
        → (r >>= (λ p. properties_at end k p.1 >>= before p.0)) ≡ behind qs (properties_at end k rest)
    by_property (Ok p) f =
        let same = pair_is (p.0 ∷ [], p.1) (qs, rest) f in
        let front : p.0 ∷ [] ≡ qs = ap (λ (x : List Property × List ℕ). x.0) same in
        let back : p.1 ≡ rest = ap (λ (x : List Property × List ℕ). x.1) same in
        rest_of p.0 (properties_at end k p.1) ∙ ap (λ (zs : List Property). behind zs (properties_at end k p.1)) front ∙ ap (λ (zs : List ℕ). behind qs (properties_at end k zs)) back
    by_property (Err w) f = absurd cc

-- one property that is refused before others
pub one_refuses : {F : Type 0} (end k : ℕ) (all : List ℕ) (e : ContainerFault F) → Refuses e (properties_at end 1 all) → Refuses e (properties_at end (suc k) all)
unfolding properties_at
one_refuses end k all e h = refuses_as e (properties_at end 1 all) (properties_at end (suc k) all) (λ w is. by_property w (property_at end all) is) h
  where
    by_property : (w : Wrong) (r : Reads Property) → (r >>= alone) ≡ Err w → (r >>= (λ p. properties_at end k p.1 >>= before p.0)) ≡ Err w
    by_property w (Ok p) f = absurd cc
    by_property w (Err v) f = let e : v ≡ w = cc in ap Err e

-- so many of the properties were read up to a place
pub record PropertiesRead (file : List ℕ) (n left at now : ℕ) (old new : Found) : Type 0 where
  pub list : List Property
  pub is : properties_at (length file) n (drop at file) ≡ behind list (properties_at (length file) left (drop now file))
  pub adds : Adds old new list

pub no_property_read : (file : List ℕ) (n at : ℕ) (found : Found) → PropertiesRead file n n at at found found
no_property_read file n at found = record { list = []; is = behind_none (properties_at (length file) n (drop at file)); adds = adds_none found }

pub more_properties_read : (file : List ℕ) (n left more at now next : ℕ) (old mid new : Found) → left ≡ suc more → PropertiesRead file n left at now old mid
    → Added next mid new file (properties_at (length file) 1 (drop now file)) → PropertiesRead file n more at next old new
more_properties_read file n left more at now next old mid new e read adds = record {
  list = read.list ++ adds.0;
  is = read.is ∙ ap (λ (k : ℕ). behind read.list (properties_at (length file) k (drop now file))) e
      ∙ ap (behind read.list) (one_more (length file) more (drop now file) (drop next file) adds.0 adds.1) ∙ behind_both read.list adds.0 (properties_at (length file) more (drop next file));
  adds = adds_more old mid new read.list adds.0 read.adds adds.2;
}

pub properties_read : (file : List ℕ) (n left at now : ℕ) (old new : Found) → left ≡ 0 → PropertiesRead file n left at now old new
    → (ps : List Property) × (properties_at (length file) n (drop at file) ≡ Ok (ps, drop now file)) × Adds old new ps
unfolding properties_at
properties_read file n left at now old new e read =
    let nil : behind read.list (Ok ([], drop now file)) ≡ Ok (read.list, drop now file) = ap (λ (zs : List Property). Ok (zs, drop now file)) (append-nil read.list) in
    (read.list, read.is ∙ ap (λ (k : ℕ). behind read.list (properties_at (length file) k (drop now file))) e ∙ nil, read.adds)

pub properties_refuse : {F : Type 0} (file : List ℕ) (n left at now : ℕ) (old mid : Found) (e : ContainerFault F) → 0 < left → PropertiesRead file n left at now old mid
    → Refuses e (properties_at (length file) 1 (drop now file)) → Refuses e (properties_at (length file) n (drop at file))
properties_refuse file n zero at now old mid e h read refused = absurd (let f : ⊥ = omega (arith, h) in f)
properties_refuse file n (suc left) at now old mid e h read refused =
    rw read.is (behind_refuses e read.list (properties_at (length file) (suc left) (drop now file)) (one_refuses (length file) left (drop now file) e refused))

-- ---- a block's size

-- a size that is refused
pub size_refuses : {F : Type 0} (end count : ℕ) (all : List ℕ) (e : ContainerFault F) → Refuses e (number_at end all) → Refuses e (sized_block end count all)
size_refuses end count all e h = refuses_first e (number_at end all) (sized_at end count all) h

-- a size below 0
pub size_below : (file : List ℕ) (count at place : ℕ) (n : ℤ) → at ≤ length file → number_at (length file) (drop at file) ≡ Ok (n, drop place file) → lt_z n (pos 0) ≡ true
    → sized_block (length file) count (drop at file) ≡ Err (wrong.avro at cause.Negative)
size_below file count at place n h is below = let k = is_below n below in let begins = place_of file at h in rw (is, k.1, begins) refl

sized_is : (file : List ℕ) (count at place : ℕ) (n : ℤ) → number_at (length file) (drop at file) ≡ Ok (n, drop place file) → lt_z n (pos 0) ≡ false
    → sized_block (length file) count (drop at file) ≡ sized_at (length file) count (drop at file) (pos (nat_abs n), drop place file)
sized_is file count at place n is above =
    let read : sized_block (length file) count (drop at file) ≡ sized_at (length file) count (drop at file) (n, drop place file) = rw is refl in
    read ∙ ap (λ (m : ℤ). sized_at (length file) count (drop at file) (m, drop place file)) (not_below n above)

-- properties that are refused
pub sized_refuses : {F : Type 0} (file : List ℕ) (count at place : ℕ) (n : ℤ) (e : ContainerFault F) → number_at (length file) (drop at file) ≡ Ok (n, drop place file) → lt_z n (pos 0) ≡ false
    → Refuses e (properties_at (length file) count (drop place file)) → Refuses e (sized_block (length file) count (drop at file))
sized_refuses file count at place n e is above h = rw (sized_is file count at place n is above) (refuses_first e (properties_at (length file) count (drop place file)) _ h)

-- properties that take as many bytes, or don't
pub sized_properties : (file : List ℕ) (count at place next : ℕ) (n : ℤ) (ps : List Property) (b : Bool) → place ≤ next → next ≤ length file → number_at (length file) (drop at file) ≡ Ok (n, drop place file) → lt_z n (pos 0) ≡ false
    → properties_at (length file) count (drop place file) ≡ Ok (ps, drop next file) → eqb (length (drop place file)) (nat_abs n + length (drop next file)) ≡ b
    → sized_block (length file) count (drop at file) ≡ cond b (Ok (ps, drop next file)) (Err (wrong.avro next cause.Size))
sized_properties file count at place next n ps b h inside is above read test =
    let ends = place_of file next inside in sized_is file count at place n is above ∙ rw (read, test, ends) refl

-- ---- a block

-- a count that is greater than the bytes that are left
pub count_refuses : (file : List ℕ) (at place : ℕ) (n : ℤ) → at ≤ length file → place ≤ length file → length file - place < nat_abs n
    → block_at (length file) (drop at file) (n, drop place file) ≡ Err (wrong.avro at cause.Count)
count_refuses file at place (pos n) h inside many =
    let begins = place_of file at h in
    let test : leb n (length (drop place file)) ≡ false = lt-leb n (length (drop place file)) (omega (arith, length-drop place file, many)) in rw (test, begins) refl
count_refuses file at place (negsuc n) h inside many =
    let begins = place_of file at h in
    let test : ltb n (length (drop place file)) ≡ false = le-ltb n (length (drop place file)) (omega (arith, length-drop place file, many)) in rw (test, begins) refl

-- a count below 0 has a size
pub block_is_sized : (file : List ℕ) (at place : ℕ) (n : ℤ) → place ≤ length file → nat_abs n ≤ length file - place → lt_z n (pos 0) ≡ true
    → block_at (length file) (drop at file) (n, drop place file) ≡ sized_block (length file) (nat_abs n) (drop place file)
block_is_sized file at place (pos n) inside few below = let k = is_below (pos n) below in absurd (let f : pos n ≡ negsuc k.0 = k.1 in cc)
block_is_sized file at place (negsuc n) inside few below =
    let test : ltb n (length (drop place file)) ≡ true = lt-ltb n (length (drop place file)) (omega (arith, length-drop place file, few)) in rw test refl

-- another one hasn't
pub block_is_plain : (file : List ℕ) (at place : ℕ) (n : ℤ) → place ≤ length file → nat_abs n ≤ length file - place → lt_z n (pos 0) ≡ false
    → block_at (length file) (drop at file) (n, drop place file) ≡ properties_at (length file) (nat_abs n) (drop place file)
block_is_plain file at place (pos n) inside few above =
    let test : leb n (length (drop place file)) ≡ true = le-leb n (length (drop place file)) (omega (arith, length-drop place file, few)) in rw test refl
block_is_plain file at place (negsuc n) inside few above = absurd (let f : negsuc n ≡ pos (nat_abs (negsuc n)) = not_below (negsuc n) above in cc)

-- ---- the map

-- so many of its blocks were read up to a place
pub record MapRead (file : List ℕ) (at now : ℕ) (found : Found) : Type 0 where
  pub most : ℕ
  pub enough : length file - now < most
  pub list : List Property
  pub is : map_at (length file) (suc (length file)) (drop at file) ≡ behind list (map_at (length file) most (drop now file))
  pub kept : IsKept found list

pub no_block_read : (file : List ℕ) (at : ℕ) (found : Found) → IsKept found [] → MapRead file at at found
no_block_read file at found kept = record {
  most = suc (length file);
  enough = omega arith;
  list = [];
  is = behind_none (map_at (length file) (suc (length file)) (drop at file));
  kept = kept;
}

count_refused : {F : Type 0} (end most : ℕ) (all : List ℕ) (e : ContainerFault F) → 0 < most → Refuses e (number_at end all) → Refuses e (map_at end most all)
unfolding map_at
count_refused end zero all e h refused = absurd (let f : ⊥ = omega (arith, h) in f)
count_refused end (suc most) all e h refused = refuses_first e (number_at end all) _ refused

-- a count that is refused
pub map_count_refuses : {F : Type 0} (file : List ℕ) (at now : ℕ) (found : Found) (e : ContainerFault F) → MapRead file at now found → Refuses e (number_at (length file) (drop now file))
    → Refuses e (map_at (length file) (suc (length file)) (drop at file))
map_count_refuses file at now found e read refused = rw read.is (behind_refuses e read.list (map_at (length file) read.most (drop now file)) (count_refused (length file) read.most (drop now file) e (omega (arith, read.enough)) refused))

block_refused : {F : Type 0} (end most : ℕ) (all rest : List ℕ) (n : ℤ) (e : ContainerFault F) → 0 < most → number_at end all ≡ Ok (n, rest) → is_zero n ≡ false → Refuses e (block_at end all (n, rest)) → Refuses e (map_at end most all)
unfolding map_at
block_refused end zero all rest n e h is more refused = absurd (let f : ⊥ = omega (arith, h) in f)
block_refused end (suc most) all rest n e h is more refused = refuses_as e (block_at end all (n, rest)) (map_at end (suc most) all) (λ w f. rw (is, more, f) refl) refused

-- a block that is refused
pub map_block_refuses : {F : Type 0} (file : List ℕ) (at now : ℕ) (rest : List ℕ) (n : ℤ) (found : Found) (e : ContainerFault F) → MapRead file at now found → number_at (length file) (drop now file) ≡ Ok (n, rest) → is_zero n ≡ false
    → Refuses e (block_at (length file) (drop now file) (n, rest)) → Refuses e (map_at (length file) (suc (length file)) (drop at file))
map_block_refuses file at now rest n found e read is more refused =
    rw read.is (behind_refuses e read.list (map_at (length file) read.most (drop now file)) (block_refused (length file) read.most (drop now file) rest n e (omega (arith, read.enough)) is more refused))

abbrev joined : List Property → List Property × List ℕ → Reads (List Property)
joined qs more = Ok (qs ++ more.0, more.1)

map_more : (end most : ℕ) (all rest next : List ℕ) (n : ℤ) (qs : List Property) → number_at end all ≡ Ok (n, rest) → is_zero n ≡ false → block_at end all (n, rest) ≡ Ok (qs, next)
    → map_at end (suc most) all ≡ behind qs (map_at end most next)
unfolding map_at
map_more end most all rest next n qs is more block = rw (is, more, block) (by_rest (map_at end most next))
  where
    by_rest : (r : Reads (List Property)) → (r >>= joined qs) ≡ behind qs r
    by_rest (Ok x) = refl
    by_rest (Err w) = refl

-- a block that is read
pub more_blocks_read : (file : List ℕ) (at now next : ℕ) (rest : List ℕ) (n : ℤ) (old new : Found) → now < next → next ≤ length file → MapRead file at now old → number_at (length file) (drop now file) ≡ Ok (n, rest) → is_zero n ≡ false
    → Added next old new file (block_at (length file) (drop now file) (n, rest)) → MapRead file at next new
more_blocks_read file at now next rest n old new h inside read is more adds = by_most read.most read.enough read.is
  where
    by_most : (most : ℕ) → length file - now < most → map_at (length file) (suc (length file)) (drop at file) ≡ behind read.list (map_at (length file) most (drop now file)) → MapRead file at next new
    by_most zero few same = absurd (let f : ⊥ = omega (arith, few) in f)
    by_most (suc most) few same = record {
      most = most;
      enough = omega (arith, few, h, inside);
      list = read.list ++ adds.0;
      is = same ∙ ap (behind read.list) (map_more (length file) most (drop now file) rest (drop next file) n adds.0 is more adds.1) ∙ behind_both read.list adds.0 (map_at (length file) most (drop next file));
      kept = adds.2 read.list read.kept;
    }

map_ends : (end most : ℕ) (all rest : List ℕ) (n : ℤ) → 0 < most → number_at end all ≡ Ok (n, rest) → is_zero n ≡ true → map_at end most all ≡ Ok ([], rest)
unfolding map_at
map_ends end zero all rest n h is none = absurd (let f : ⊥ = omega (arith, h) in f)
map_ends end (suc most) all rest n h is none = rw (is, none) refl

-- the count 0
pub map_read : (file : List ℕ) (at now next : ℕ) (n : ℤ) (found : Found) → MapRead file at now found → number_at (length file) (drop now file) ≡ Ok (n, drop next file) → is_zero n ≡ true
    → (ps : List Property) × (map_at (length file) (suc (length file)) (drop at file) ≡ Ok (ps, drop next file)) × IsKept found ps
map_read file at now next n found read is none =
    let ends = map_ends (length file) read.most (drop now file) (drop next file) n (omega (arith, read.enough)) is none in
    let nil : behind read.list (Ok ([], drop next file)) ≡ Ok (read.list, drop next file) = ap (λ (zs : List Property). Ok (zs, drop next file)) (append-nil read.list) in
    (read.list, read.is ∙ ap (behind read.list) ends ∙ nil, read.kept)

-- ---- as the loops keep it

-- so many of the properties were read up to a place, each byte of which is known
pub record PropertiesReading (n left at now : ℕ) (old new : Found) (known : List (Option ℕ)) (file : List ℕ) : Type 0 where
  pub read : PropertiesRead file n left at now old new
  pub there : KnownFromTo known at now

-- so many of the map's blocks were read up to a place, each byte of which is known
pub record MapReading (at now : ℕ) (found : Found) (known : List (Option ℕ)) (file : List ℕ) : Type 0 where
  pub read : MapRead file at now found
  pub there : KnownFromTo known at now
