-- The rows of a list, gathered one after another.
use Rattle.std.specs.Prelude.{◌≡◌, ◌≤◌, ℕ, List, [], ◌∷◌, ◌++◌, map, Vec, Option, Some, None, IfSome, Result, Ok, Err}
use Rattle.std.specs.declared.alloc.Global.{Global}
use Rattle.std.proofs.Common.{refl, ap, sym, subst, ◌∙◌, arith, inl, inr}
use Rattle.std.proofs.lemmas.List.{map-append}
use Rattle.icb_base.specs.Causes.{Blames}
use Rattle.icb_base.specs.Objects.{Objects}
use Rattle.icb_base.specs.declared.storage.Store as store
use Rattle.icb_chain.specs.declared.fault.ChainFault.TheVariants as chain
use Rattle.icb_list.specs.Rows.{list_row}
use Rattle.icb_list.specs.declared.row.ListRow.{ListRow}
use Rattle.icb_reader.specs.declared.records.Records.{Records}
use Rattle.icb_stream.specs.Attached.{CountsAt}
use Rattle.icb_table.specs.Contents.{Plaintexts}
use Rattle.icb_table.specs.Known.{Allows, shown_in}
use Rattle.icb_table.specs.Listed.{Listed}
use Rattle.icb_table.specs.Snapshots.{Refused}
use Rattle.icb_table.specs.Trace.{Trace, one, then_read, whole}
use Rattle.icb_walk.proofs.RowLemmas.{asks_told}
use Rattle.icb_walk.proofs.TraceFacts.{then_none, whole_then}
use Rattle.icb_walk.specs.Causes.{IsAt}
use Rattle.icb_walk.specs.Fits.{FitsOpen}
use Rattle.icb_walk.specs.Start.{IsFirst}
use Rattle.icb_walk.specs.Steps.{OpensFile, ReadsFile, ReadsNext, Refuses, records_left}
use Rattle.icb_walk.specs.WholeLists.{AsksList, FindsList, Gathers, IsCutShort, IsWholeList, ReadsList, ReadsWhole, rows_shown}
use Rattle.icb_walk.specs.declared.fault.Cause.{Cause}
use Rattle.icb_walk.specs.declared.fault.TreeFault.{TreeFault}
use Rattle.icb_walk.specs.declared.fault.TreeFault.TheVariants as fault
use Rattle.icb_walk.specs.declared.opened.OpenFile.{OpenFile}
use Rattle.icb_walk.specs.declared.trouble.Trouble.{Trouble}
use Rattle.icb_walk.specs.declared.trouble.Trouble.TheVariants as trouble

-- ---- so far

-- these rows come first in what a list shows, and then what is left to its reader
pub record ComesSoFar (plain : Plaintexts) (f : Listed) (records : Records) (rows : List ListRow) : Type 0 where
  pub placed : List (ℕ × ListRow)
  pub read : rows_shown f (plain f) ≡ then_read (whole placed) (records_left list_row plain f records)
  pub are : rows ≡ map (λ row. row.1) placed

-- so it is for all plaintexts that are allowed, and the open list fits
pub record IsSoFar (files : Objects) (f : Listed) (now : OpenFile) (rows : List ListRow) : Type 0 where
  pub fits : FitsOpen files f now.stream now.records
  pub comes : (plain : Plaintexts) → Allows (shown_in files f) (plain f) → ComesSoFar plain f now.records rows

pub gather_start : (files : Objects) (f : Listed) (now : OpenFile) (rows : List ListRow) → rows ≡ [] → OpensFile files f (Ok now) → IsSoFar files f now rows
gather_start files f now rows none begins = record {
  fits = begins.fits;
  comes = λ plain allows. record { placed = []; read = begins.rows plain allows; are = none };
}

pub gather_more : (files : Objects) (f : Listed) (old now : OpenFile) (rows more : List ListRow) (x : ListRow) → more ≡ rows ++ x ∷ []
    → IsSoFar files f old rows → ReadsNext list_row files f old now (Ok (Some x)) → IsSoFar files f now more
gather_more files f old now rows more x is on reads = record {
  fits = reads.fits;
  comes = λ plain allows.
      let c = on.comes plain allows in
      let left = records_left list_row plain f now.records in
      let item : ℕ × ListRow = (now.records.last, x) in
      record {
        placed = c.placed ++ item ∷ [];
        read = c.read ∙ ap (then_read (whole c.placed)) (reads.leaves plain allows) ∙ whole_then c.placed (item ∷ []) left;
        are = is ∙ ap (λ (rs : List ListRow). rs ++ x ∷ []) c.are ∙ sym (map-append (λ (row : ℕ × ListRow). row.1) c.placed (item ∷ []));
      };
}

-- ---- at the end

pub gather_end : (files : Objects) (f : Listed) (old now : OpenFile) (rows : Vec ListRow Global) → IsSoFar files f old rows.items
    → ReadsNext list_row files f old now (Ok None) → Gathers files f (Ok rows)
gather_end files f old now rows on reads text allows =
    let plain : Plaintexts = λ g. text in
    let c = on.comes plain allows in
    let read : rows_shown f text ≡ whole c.placed = c.read ∙ ap (then_read (whole c.placed)) (reads.leaves plain allows) ∙ then_none (whole c.placed) in
    record {
      ends = ap (λ (t : Trace (ℕ × ListRow)). t.stop) read;
      all = c.are ∙ ap (λ (t : Trace (ℕ × ListRow)). map (λ (row : ℕ × ListRow). row.1) t.items) (sym read);
    }

cut_short : (files : Objects) (f : Listed) (text : Option (List ℕ)) (c : Cause) (placed : List (ℕ × ListRow)) (left : Trace (ℕ × ListRow))
    → rows_shown f text ≡ then_read (whole placed) left → Refuses files f c left → IsCutShort files f text c
cut_short files f text c placed left read (inl unshown) = inl unshown
cut_short files f text c placed left read (inr (e, stops, told)) =
    inr (e, ap (λ (t : Trace (ℕ × ListRow)). t.stop) (read ∙ ap (then_read (whole placed)) stops), told)

pub gather_refused : (files : Objects) (f : Listed) (old now : OpenFile) (rows : List ListRow) (t : Trouble) → IsSoFar files f old rows
    → ReadsNext list_row files f old now (Err t) → Gathers files f (Err t)
gather_refused files f old now rows (trouble.Cause c) on reads text allows =
    let plain : Plaintexts = λ g. text in
    let so = on.comes plain allows in
    cut_short files f text c so.placed (records_left list_row plain f old.records) so.read (reads.leaves plain allows)
gather_refused files f old now rows trouble.Store on reads text allows = tt
gather_refused files f old now rows trouble.NoMemory on reads text allows = tt

pub gather_unopened : (files : Objects) (f : Listed) (t : Trouble) → OpensFile files f (Err t) → Gathers files f (Err t)
gather_unopened files f (trouble.Cause c) fails text allows =
    let plain : Plaintexts = λ g. text in
    cut_short files f text c [] (rows_shown f text) refl (fails.rows plain allows)
gather_unopened files f trouble.Store fails text allows = tt
gather_unopened files f trouble.NoMemory fails text allows = tt

pub gather_given_up : (files : Objects) (f : Listed) → Gathers files f (Err trouble.NoMemory)
gather_given_up files f text allows = tt

-- ---- of the list

pub whole_read : (files : Objects) (f : Listed) (rows : Vec ListRow Global) → Gathers files f (Ok rows) → ReadsWhole files f (Ok rows)
whole_read files f rows h text allows = h text allows

pub whole_refused : (files : Objects) (f : Listed) (t : Trouble) (e : TreeFault) → IsAt f.path t e → Gathers files f (Err t) → ReadsWhole files f (Err e)
whole_refused files f (trouble.Cause c) e (inl is) h text allows = subst (λ d. IsWholeList files f text (Err d)) (sym is) (refl, h text allows)
whole_refused files f (trouble.Cause c) e (inr is) h text allows = subst (λ d. IsWholeList files f text (Err d)) (sym is) tt
whole_refused files f trouble.Store e is h text allows = subst (λ d. IsWholeList files f text (Err d)) (sym is) tt
whole_refused files f trouble.NoMemory e is h text allows = subst (λ d. IsWholeList files f text (Err d)) (sym is) tt

-- ---- of the snapshot

pub finds_whole : (r : Result Listed Refused) (f : Listed) (result : Result (Vec ListRow Global) TreeFault) → r ≡ Ok f
    → (let h : Type 0 = FindsList (Ok f) result in h) → FindsList r result
finds_whole r f result is h = subst (λ s. FindsList s result) (sym is) h

pub reads_list : (files : Objects) (r : Result Listed Refused) (f : Listed) (result : Result (Vec ListRow Global) TreeFault) → r ≡ Ok f
    → ReadsWhole files f result → ReadsList files r result
reads_list files r f result is h = subst (λ s. ReadsList files s result) (sym is) h

pub asks_list : {Self : Type 0} (of : store.Ghosts Self) (files : Objects) (r : Result Listed Refused) (f : Listed) (failed : Type 0) (x y : Self) → r ≡ Ok f
    → of.held x ≡ Some files → ReadsFile of f.path failed x y → AsksList of r x y
asks_list of files r f failed x y is told reads = subst (λ s. AsksList of s x y) (sym is) (asks_told of files f.path failed x y told reads)

-- a refusal is one of the snapshot's list, or no memory was left where that is found
pub finds_refused : (r : Result Listed Refused) (e : TreeFault) → IsFirst r e → FindsList r (Err e)
finds_refused (Err x) e first = first
finds_refused (Ok f) (fault.NoSnapshot id) first = absurd (let g : ⊥ = cc in g)
finds_refused (Ok f) (fault.PlainList id) first = absurd (let g : ⊥ = cc in g)
finds_refused (Ok f) (fault.Chain chain.NoMemory) first = first
finds_refused (Ok f) (fault.Chain (chain.NoKey id)) first = absurd (let g : ⊥ = cc in g)
finds_refused (Ok f) (fault.Chain (chain.KeyRefused id)) first = absurd (let g : ⊥ = cc in g)
finds_refused (Ok f) (fault.BadList id list what) first = absurd (let h = first.1 in let g : ⊥ = cc in g)
finds_refused (Ok f) (fault.At path c) first = tt
finds_refused (Ok f) fault.Store first = tt
finds_refused (Ok f) fault.NoMemory first = tt

-- of a list that is there, want of memory alone
pub reads_refused : (files : Objects) (r : Result Listed Refused) (e : TreeFault) → IsFirst r e → ReadsList files r (Err e)
reads_refused files (Err x) e first = tt
reads_refused files (Ok f) (fault.NoSnapshot id) first = absurd (let g : ⊥ = cc in g)
reads_refused files (Ok f) (fault.PlainList id) first = absurd (let g : ⊥ = cc in g)
reads_refused files (Ok f) (fault.Chain chain.NoMemory) first = absurd first
reads_refused files (Ok f) (fault.Chain (chain.NoKey id)) first = absurd (let g : ⊥ = cc in g)
reads_refused files (Ok f) (fault.Chain (chain.KeyRefused id)) first = absurd (let g : ⊥ = cc in g)
reads_refused files (Ok f) (fault.BadList id list what) first = absurd (let h = first.1 in let g : ⊥ = cc in g)
reads_refused files (Ok f) (fault.At path c) first = absurd first
reads_refused files (Ok f) fault.Store first = absurd first
reads_refused files (Ok f) fault.NoMemory first = λ text allows. tt

pub asks_refused : {Self : Type 0} (of : store.Ghosts Self) (r : Result Listed Refused) (x : Self) → AsksList of r x x
asks_refused of (Ok f) x = record {
  asks = record { others = λ p ne. refl; later = omega arith };
  moves = record { others = λ p ne. refl; later = omega arith };
}
asks_refused of (Err e) x = refl

pub refused_no_store : (r : Result Listed Refused) (e : TreeFault) → IsFirst r e → e ≡ fault.Store → ⊥
refused_no_store r e first is = subst (IsFirst r) is first

-- ---- what is asked

counts_on : (path other : List ℕ) (x y z : List ℕ → ℕ) → other ≡ path → CountsAt path x y → CountsAt other y z → CountsAt path x z
counts_on path other x y z same one two = record {
  others = λ p ne. two.others p (λ e. ne (e ∙ same)) ∙ one.others p ne;
  later = let h : y path ≤ z path = subst (λ q. y q ≤ z q) same two.later in omega (arith, one.later, h);
}

told_path : {A : Type 0} (o : Option A) (path other : List ℕ) (x y z : List ℕ → ℕ) → IfSome o (λ a. other ≡ path) → IfSome o (λ a. CountsAt path x y)
    → IfSome o (λ a. CountsAt other y z) → IfSome o (λ a. CountsAt path x z)
told_path None path other x y z same one two = tt
told_path (Some a) path other x y z same one two = counts_on path other x y z same one two

-- calls for one path, and then calls for the path of a stream
pub reads_on : {Self : Type 0} (of : store.Ghosts Self) (path other : List ℕ) (failed : Type 0) (x y z : Self) → (of.keeps x y → of.keeps y z → of.keeps x z)
    → IfSome (of.held x) (λ a. other ≡ path) → ReadsFile of path ⊥ x y → ReadsFile of other failed y z → ReadsFile of path failed x z
reads_on of path other failed x y z keeps same one two = record {
  same = two.same ∙ one.same;
  count = subst (λ n. Blames failed n (of.faults z)) (one.count.stays (λ h. h)) two.count;
  asks = told_path (of.held x) path other (of.asked x) (of.asked y) (of.asked z) same one.asks (told_as (of.held x) (of.held y) _ one.same two.asks);
  moves = told_path (of.held x) path other (of.moved x) (of.moved y) (of.moved z) same one.moves (told_as (of.held x) (of.held y) _ one.same two.moves);
  kept = keeps one.kept two.kept;
}
  where
    told_as : {A : Type 0} (o p : Option A) (P : Type 0) → p ≡ o → IfSome p (λ a. P) → IfSome o (λ a. P)
    told_as {A} o p P e h = subst (λ (q : Option A). IfSome q (λ a. P)) e h

-- the path of the open list
pub path_told : (o : Option Objects) (f : Listed) (now : OpenFile) (rows : List ListRow) → IfSome o (λ files. IsSoFar files f now rows)
    → IfSome o (λ files. now.stream.path ≡ f.path)
path_told None f now rows h = tt
path_told (Some files) f now rows h = h.fits.opened.same_path
