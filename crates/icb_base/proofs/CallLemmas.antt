-- The laws of what calls do to a store, a sink, a source and draws, which crates above cite.
use Rattle.std.specs.Prelude.{ℕ, ◌+◌, ◌≤◌, ◌≡◌, List, [], ◌++◌, Option, Some, None, IfSome, refl}
use Rattle.std.proofs.Common.{sym, ap, ◌∙◌, arith, append_assoc, append-nil}
use Rattle.icb_base.specs.Calls.{DrawsText, PutsPath, ReadsPath, TakesText, WritesText}
use Rattle.icb_base.specs.Counts.{CountsOnly}
use Rattle.icb_base.specs.Transfers.{DrewSome, TookFront, TookSome, WroteFront}
use Rattle.icb_base.specs.declared.storage.Store as store
use Rattle.icb_base.specs.declared.transfer.Draws as draws
use Rattle.icb_base.specs.declared.transfer.Sink as sink
use Rattle.icb_base.specs.declared.transfer.Source as source
use Rattle.icb_base.proofs.LawLemmas.{blames_at_rest, blames_twice, counted_at_rest, counted_twice, fronts_join}

-- what holds of any value holds where one is told
if_any : {A : Type 0} (o : Option A) (P : A → Type 0) → ((a : A) → P a) → IfSome o P
if_any None P all = tt
if_any (Some a) P all = all a

-- no call reads a path
pub reads_at_rest : {Self : Type 0} (of : store.Ghosts Self) (path : List ℕ) (calls bytes : ℕ) (fault : Type 0) (x : Self)
    → of.keeps x x → (fault → ⊥) → ReadsPath of path calls bytes fault x x
reads_at_rest of path calls bytes fault x kept none = record {
  same = refl;
  count = blames_at_rest fault (of.faults x) none;
  asks = if_any (of.held x) _ (λ _. counted_at_rest path calls (of.asked x));
  moves = if_any (of.held x) _ (λ _. counted_at_rest path bytes (of.moved x));
  kept = kept;
}

-- two facts on the same told value, the second one told of an equal value
both_told : {A : Type 0} (one two : Option A) (P Q R : Type 0) → two ≡ one → (P → Q → R)
    → IfSome one (λ _. P) → IfSome two (λ _. Q) → IfSome one (λ _. R)
both_told None two P Q R same join p q = tt
both_told (Some a) two P Q R same join p q = join p (rw same at q)

-- calls that read a path, and then more calls that read it, read it
pub reads_twice : {Self : Type 0} (of : store.Ghosts Self) (path : List ℕ) (m n k l : ℕ) (first second : Type 0) (x y z : Self)
    → (of.keeps x y → of.keeps y z → of.keeps x z) → (first → ⊥)
    → ReadsPath of path m k first x y → ReadsPath of path n l second y z
    → ReadsPath of path (m + n) (k + l) second x z
reads_twice of path m n k l first second x y z keeps none one two = record {
  same = two.same ∙ one.same;
  count = blames_twice first second (of.faults x) (of.faults y) (of.faults z) none one.count two.count;
  asks = both_told (of.held x) (of.held y) _ _ _ one.same
      (counted_twice path m n (of.asked x) (of.asked y) (of.asked z)) one.asks two.asks;
  moves = both_told (of.held x) (of.held y) _ _ _ one.same
      (counted_twice path k l (of.moved x) (of.moved y) (of.moved z)) one.moves two.moves;
  kept = keeps one.kept two.kept;
}

-- a wider bound
within : (path : List ℕ) (m n : ℕ) (before now : List ℕ → ℕ) → m ≤ n → CountsOnly path m before now → CountsOnly path n before now
within path m n before now fits only = record {
  others = only.others;
  later = only.later;
  at_most = omega (arith, fits, only.at_most);
}

-- what follows from a fact on a told value holds of it too
if_more : {A : Type 0} (o : Option A) (P Q : Type 0) → (P → Q) → IfSome o (λ _. P) → IfSome o (λ _. Q)
if_more None P Q more p = tt
if_more (Some a) P Q more p = more p

-- the same calls under a wider bound, and a fault of the same meaning
pub reads_within : {Self : Type 0} (of : store.Ghosts Self) (path : List ℕ) (m n k l : ℕ) (first second : Type 0) (x y : Self)
    → m ≤ n → k ≤ l → (first → second) → (second → first)
    → ReadsPath of path m k first x y → ReadsPath of path n l second x y
reads_within of path m n k l first second x y calls bytes to from reads = record {
  same = reads.same;
  count = record {
    later = reads.count.later;
    rose = λ f. reads.count.rose (from f);
    stays = λ none. reads.count.stays (λ f. none (to f));
  };
  asks = if_more (of.held x) _ _ (within path m n (of.asked x) (of.asked y) calls) reads.asks;
  moves = if_more (of.held x) _ _ (within path k l (of.moved x) (of.moved y) bytes) reads.moves;
  kept = reads.kept;
}

-- no call puts nothing
pub puts_at_rest : {Self : Type 0} (of : store.Ghosts Self) (path object : List ℕ) (is_done is_taken fault : Type 0) (x : Self)
    → of.keeps x x → (is_done → ⊥) → (is_taken → ⊥) → (fault → ⊥)
    → PutsPath of path object is_done is_taken fault x x
puts_at_rest of path object is_done is_taken fault x kept no_done no_taken none = record {
  count = blames_at_rest fault (of.faults x) none;
  done = λ f. absurd (no_done f);
  taken = λ f. absurd (no_taken f);
  failed = λ f. absurd (none f);
  none = λ _ _ _. refl;
  asks = if_any (of.held x) _ (λ _. counted_at_rest path 1 (of.asked x));
  moves = if_any (of.held x) _ (λ _. counted_at_rest path 1 (of.moved x));
  kept = kept;
}

-- a front of nothing stands behind what was there
wrote_nothing : (now : Option (List ℕ)) → IfSome now (λ bytes. WroteFront now bytes [])
wrote_nothing None = tt
wrote_nothing (Some bytes) = record { front = []; missing = []; whole = refl; is = ap Some (sym (append-nil bytes)) }

-- what was there with nothing behind it
with_nothing : (now : Option (List ℕ)) → IfSome now (λ bytes. now ≡ Some (bytes ++ []))
with_nothing None = tt
with_nothing (Some bytes) = ap Some (sym (append-nil bytes))

-- no call writes the empty text
pub writes_at_rest : {Self : Type 0} (of : sink.Ghosts Self) (fault : Type 0) (x : Self) → (fault → ⊥) → WritesText of [] fault x x
writes_at_rest of fault x none = record {
  count = blames_at_rest fault (of.faults x) none;
  front = wrote_nothing (of.written x);
  whole = λ _. with_nothing (of.written x);
}

-- a front of the second text behind the whole first one
front_behind : (before mid now : Option (List ℕ)) (one two : List ℕ) → IfSome before (λ bytes. mid ≡ Some (bytes ++ one))
    → IfSome mid (λ bytes. WroteFront now bytes two) → IfSome before (λ bytes. WroteFront now bytes (one ++ two))
front_behind None mid now one two first second = tt
front_behind (Some bytes) mid now one two first second = fronts_join now bytes one two (rw first at second)

-- the whole second text behind the whole first one
text_behind : (before mid now : Option (List ℕ)) (one two : List ℕ) → IfSome before (λ bytes. mid ≡ Some (bytes ++ one))
    → IfSome mid (λ bytes. now ≡ Some (bytes ++ two)) → IfSome before (λ bytes. now ≡ Some (bytes ++ (one ++ two)))
text_behind None mid now one two first second = tt
text_behind (Some bytes) mid now one two first second =
    let told : now ≡ Some ((bytes ++ one) ++ two) = rw first at second in told ∙ ap Some (append_assoc bytes one two)

-- a text that is written whole, and then a second one, are one text
pub writes_twice : {Self : Type 0} (of : sink.Ghosts Self) (one two : List ℕ) (first second : Type 0) (x y z : Self) → (first → ⊥)
    → WritesText of one first x y → WritesText of two second y z → WritesText of (one ++ two) second x z
writes_twice of one two first second x y z none a b = record {
  count = blames_twice first second (of.faults x) (of.faults y) (of.faults z) none a.count b.count;
  front = front_behind (of.written x) (of.written y) (of.written z) one two (a.whole none) b.front;
  whole = λ n. text_behind (of.written x) (of.written y) (of.written z) one two (a.whole none) (b.whole n);
}

-- a front of the first text is a front of both
longer_front : (before now : Option (List ℕ)) (one two : List ℕ) → IfSome before (λ bytes. WroteFront now bytes one)
    → IfSome before (λ bytes. WroteFront now bytes (one ++ two))
longer_front None now one two wrote = tt
longer_front (Some bytes) now one two wrote = record {
  front = wrote.front;
  missing = wrote.missing ++ two;
  whole = sym (append_assoc wrote.front wrote.missing two) ∙ ap (λ whole. whole ++ two) wrote.whole;
  is = wrote.is;
}

-- a first text whose write failed is a failed write of both texts
pub writes_failed : {Self : Type 0} (of : sink.Ghosts Self) (one two : List ℕ) (first second : Type 0) (x y : Self) → first → second
    → WritesText of one first x y → WritesText of (one ++ two) second x y
writes_failed of one two first second x y failed fails wrote = record {
  count = record { later = wrote.count.later; rose = λ _. wrote.count.rose failed; stays = λ none. absurd (none fails) };
  front = longer_front (of.written x) (of.written y) one two wrote.front;
  whole = λ none. absurd (none fails);
}

-- nothing was taken from the front
took_nothing : (now : Option (List ℕ)) → IfSome now (λ left. TookFront left [] now)
took_nothing None = tt
took_nothing (Some left) = record { rest = left; whole = refl; is = refl }

-- some front was taken, the empty one
took_some_nothing : (now : Option (List ℕ)) → IfSome now (λ left. TookSome left now)
took_some_nothing None = tt
took_some_nothing (Some left) = record { taken = []; took = record { rest = left; whole = refl; is = refl } }

-- no call takes the empty text
pub takes_at_rest : {Self : Type 0} (of : source.Ghosts Self) (fault : Type 0) (x : Self) → (fault → ⊥) → TakesText of [] fault x x
takes_at_rest of fault x none = record {
  count = blames_at_rest fault (of.faults x) none;
  front = took_some_nothing (of.left x);
  whole = λ _. took_nothing (of.left x);
}

-- a front taken from what the first one left
took_both : (left : List ℕ) (mid now : Option (List ℕ)) (one two : List ℕ) → (first : TookFront left one mid)
    → TookFront first.rest two now → TookFront left (one ++ two) now
took_both left mid now one two first second = record {
  rest = second.rest;
  whole = append_assoc one two second.rest ∙ ap (λ rest. one ++ rest) second.whole ∙ first.whole;
  is = second.is;
}

-- the same of what is told
took_behind : (before mid now : Option (List ℕ)) (one two : List ℕ) → IfSome before (λ left. TookFront left one mid)
    → IfSome mid (λ left. TookFront left two now) → IfSome before (λ left. TookFront left (one ++ two) now)
took_behind None mid now one two first second = tt
took_behind (Some left) mid now one two first second = took_both left mid now one two first (rw first.is at second)

-- the same of some front
took_some_behind : (before mid now : Option (List ℕ)) (one : List ℕ) → IfSome before (λ left. TookFront left one mid)
    → IfSome mid (λ left. TookSome left now) → IfSome before (λ left. TookSome left now)
took_some_behind None mid now one first second = tt
took_some_behind (Some left) mid now one first second =
    let some : TookSome first.rest now = rw first.is at second in
    record { taken = one ++ some.taken; took = took_both left mid now one some.taken first some.took }

-- a text that is taken, and then a second one, are one text
pub takes_twice : {Self : Type 0} (of : source.Ghosts Self) (one two : List ℕ) (first second : Type 0) (x y z : Self) → (first → ⊥)
    → TakesText of one first x y → TakesText of two second y z → TakesText of (one ++ two) second x z
takes_twice of one two first second x y z none a b = record {
  count = blames_twice first second (of.faults x) (of.faults y) (of.faults z) none a.count b.count;
  front = took_some_behind (of.left x) (of.left y) (of.left z) one (a.whole none) b.front;
  whole = λ n. took_behind (of.left x) (of.left y) (of.left z) one two (a.whole none) (b.whole n);
}

-- nothing was drawn
drew_nothing : (now : Option (List ℕ)) → IfSome now (λ drawn. DrewSome drawn now)
drew_nothing None = tt
drew_nothing (Some drawn) = record { more = []; is = ap Some (sym (append-nil drawn)) }

-- no call draws the empty text
pub draws_at_rest : {Self : Type 0} (of : draws.Ghosts Self) (fault : Type 0) (x : Self) → (fault → ⊥) → DrawsText of [] fault x x
draws_at_rest of fault x none = record {
  count = blames_at_rest fault (of.faults x) none;
  more = drew_nothing (of.drawn x);
  whole = λ _. with_nothing (of.drawn x);
}

-- some bytes drawn behind a whole text
drew_behind : (before mid now : Option (List ℕ)) (one : List ℕ) → IfSome before (λ drawn. mid ≡ Some (drawn ++ one))
    → IfSome mid (λ drawn. DrewSome drawn now) → IfSome before (λ drawn. DrewSome drawn now)
drew_behind None mid now one first second = tt
drew_behind (Some drawn) mid now one first second =
    let some : DrewSome (drawn ++ one) now = rw first at second in
    record { more = one ++ some.more; is = some.is ∙ ap Some (append_assoc drawn one some.more) }

-- a text that is drawn, and then a second one, are one text
pub draws_twice : {Self : Type 0} (of : draws.Ghosts Self) (one two : List ℕ) (first second : Type 0) (x y z : Self) → (first → ⊥)
    → DrawsText of one first x y → DrawsText of two second y z → DrawsText of (one ++ two) second x z
draws_twice of one two first second x y z none a b = record {
  count = blames_twice first second (of.faults x) (of.faults y) (of.faults z) none a.count b.count;
  more = drew_behind (of.drawn x) (of.drawn y) (of.drawn z) one (a.whole none) b.more;
  whole = λ n. text_behind (of.drawn x) (of.drawn y) (of.drawn z) one two (a.whole none) (b.whole n);
}

-- a text that wasn't taken for a fault is no text taken
pub takes_failed : {Self : Type 0} (of : source.Ghosts Self) (one two : List ℕ) (first second : Type 0) (x y : Self) → first → second
    → TakesText of one first x y → TakesText of two second x y
takes_failed of one two first second x y failed fails took = record {
  count = record { later = took.count.later; rose = λ _. took.count.rose failed; stays = λ none. absurd (none fails) };
  front = took.front;
  whole = λ none. absurd (none fails);
}

-- a text that wasn't drawn for a fault is no text drawn
pub draws_failed : {Self : Type 0} (of : draws.Ghosts Self) (one two : List ℕ) (first second : Type 0) (x y : Self) → first → second
    → DrawsText of one first x y → DrawsText of two second x y
draws_failed of one two first second x y failed fails drew = record {
  count = record { later = drew.count.later; rose = λ _. drew.count.rose failed; stays = λ none. absurd (none fails) };
  more = drew.more;
  whole = λ none. absurd (none fails);
}
