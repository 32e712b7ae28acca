-- The order of data is total.
use Rattle.std.proofs.Common.{◌≡◌, true, false, true≢false, refl, sym, ap, ◌∙◌}
use Rattle.std.specs.declared.cmp.Ordering.{Ordering}
use Rattle.std.specs.declared.cmp.Ordering.TheVariants.{Less, Equal, Greater}
use Rattle.std.specs.Ordering.{is_lt, is_gt, ordering_reverse}
use Rattle.std.specs.Cmp.{IsTotalOrder}
use Rattle.std.proofs.lemmas.Cmp.{int_cmp_total, nat_cmp_total, nat_list_cmp_total, on_total, then_total, tied_itself, upto}
use Rattle.icb_types.specs.declared.datum.Datum.{Datum}
use Rattle.icb_rows.specs.Order.{above, below, bytes_of, datum_cmp, id_of, number_of}

-- the order is total
pub datum_total : IsTotalOrder datum_cmp
datum_total = then_total (on_total number_of int_cmp_total) (then_total (on_total id_of nat_cmp_total) (on_total bytes_of nat_list_cmp_total))

turned : (o : Ordering) → is_lt (ordering_reverse o) ≡ is_gt o
turned Less = refl
turned Equal = refl
turned Greater = refl

-- what stands below another has that one above it
pub flip : (a b : Datum) → below a b ≡ above b a
flip a b = ap is_lt (datum_total.antisymm a b) ∙ turned (datum_cmp b a)

-- no datum is above itself
pub above_itself : (a : Datum) → above a a ≡ false
above_itself a = ap is_gt (tied_itself datum_total a)

-- no datum is below itself
pub below_itself : (a : Datum) → below a a ≡ false
below_itself a = ap is_lt (tied_itself datum_total a)

-- at most, twice
pub above_twice : (a b c : Datum) → above a b ≡ false → above b c ≡ false → above a c ≡ false
above_twice = upto datum_total

-- at least, twice
pub below_twice : (a b c : Datum) → below a b ≡ false → below b c ≡ false → below a c ≡ false
below_twice a b c g h = flip a c ∙ above_twice c b a (sym (flip b c) ∙ h) (sym (flip a b) ∙ g)

turned_back : (o : Ordering) → is_lt o ≡ true → is_gt o ≡ false
turned_back Less e = refl
turned_back Equal e = absurd (true≢false (sym e))
turned_back Greater e = absurd (true≢false (sym e))

-- what is below another isn't above it
pub below_not_above : (a b : Datum) → below a b ≡ true → above a b ≡ false
below_not_above a b = turned_back (datum_cmp a b)

turned_up : (o : Ordering) → is_gt o ≡ true → is_lt o ≡ false
turned_up Less e = absurd (true≢false (sym e))
turned_up Equal e = absurd (true≢false (sym e))
turned_up Greater e = refl

-- what is above another isn't below it
pub above_not_below : (a b : Datum) → above a b ≡ true → below a b ≡ false
above_not_below a b = turned_up (datum_cmp a b)
