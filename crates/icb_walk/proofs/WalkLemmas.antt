-- Steps of a walk.
use Rattle.std.specs.Prelude.{◌≡◌, ℕ, List, [], ◌∷◌, ◌++◌, Option, Some, None, Result, Ok, Err}
use Rattle.std.proofs.Common.{refl, ap, sym, subst, ◌∙◌, inl, inr}
use Rattle.icb_base.specs.Objects.{Objects}
use Rattle.icb_stream.specs.Attached.{CountsAt}
use Rattle.icb_table.proofs.StepLemmas.{then_assoc}
use Rattle.icb_list.specs.Rows.{list_row}
use Rattle.icb_table.specs.Contents.{Plaintexts, contents_of, read_plain}
use Rattle.icb_table.specs.Known.{Allows, shown_in}
use Rattle.icb_table.specs.Listed.{Listed}
use Rattle.icb_table.specs.Records.{records_of}
use Rattle.icb_table.specs.Rows.{Columns}
use Rattle.icb_table.specs.Trace.{Trace, numbered, one, stopped, then_read, through, whole}
use Rattle.icb_table.specs.Tree.{TreeFile, below_row, tree_below}
use Rattle.icb_table.specs.Tree as tree
use Rattle.icb_walk.proofs.TraceFacts.{numbered_stopped, no_data_twice, then_none, through_none, through_stopped, whole_then}
use Rattle.icb_walk.specs.Answers.{AsksNeeded, GivesLeaf, IsAnswer, IsBehind, IsRefused, PassedOver}
use Rattle.icb_walk.specs.Entries.{LeavesEntries, RefusesAt, live_of, manifest_left}
use Rattle.icb_walk.specs.Judged.{listing}
use Rattle.icb_walk.specs.Rows.{ComesFirst, EntersManifest, OpensList, RefusesRow, list_left, rows_left}
use Rattle.icb_walk.specs.Steps.{Refuses}
use Rattle.icb_walk.specs.Walks.{AllowsNext, IsAhead, IsOpenManifest, Needs, left, left_in_list, left_in_manifest}
use Rattle.icb_walk.specs.declared.fault.TreeFault.{TreeFault}
use Rattle.icb_walk.specs.declared.fault.TreeFault.TheVariants as fault
use Rattle.icb_walk.specs.declared.leaf.Leaf.{Leaf}
use Rattle.icb_walk.specs.declared.open_list.OpenList.{OpenList}
use Rattle.icb_walk.specs.declared.open_list.Rows.{Rows}
use Rattle.icb_walk.specs.declared.open_list.Rows.TheVariants as place
use Rattle.icb_walk.specs.declared.open_manifest.OpenManifest.{OpenManifest}
use Rattle.icb_walk.specs.declared.walk.Walk.{Walk}

-- ---- what is passed over

needs_same : (columns : Columns) (plain : Plaintexts) (old new : Walk) → left columns plain old ≡ left columns plain new
    → new.list ≡ old.list → ((f : Listed) → IsOpenManifest f new.manifest → IsOpenManifest f old.manifest)
    → (f : Listed) → Needs columns plain new f → Needs columns plain old f
needs_same columns plain old new same list manifest f (inl is) = inl (is ∙ ap listing list)
needs_same columns plain old new same list manifest f (inr (inl is)) = inr (inl (manifest f is))
needs_same columns plain old new same list manifest f (inr (inr is)) =
    inr (inr (subst (λ (t : Trace TreeFile). IsAhead f t.items) (sym same) is))

-- what is left stays
pub over_same : (columns : Columns) (plain : Plaintexts) (old new : Walk) → left columns plain old ≡ left columns plain new
    → new.list ≡ old.list → ((f : Listed) → IsOpenManifest f new.manifest → IsOpenManifest f old.manifest)
    → PassedOver columns plain old new
over_same columns plain old new same list manifest = record {
  passed = [];
  no_data = refl;
  comes = same;
  within = needs_same columns plain old new same list manifest;
}

pub over_nothing : (columns : Columns) (plain : Plaintexts) (w : Walk) → PassedOver columns plain w w
over_nothing columns plain w = over_same columns plain w w refl refl (λ f is. is)

-- two steps in a row
pub over_twice : (columns : Columns) (plain : Plaintexts) (a b c : Walk) → PassedOver columns plain a b → PassedOver columns plain b c
    → PassedOver columns plain a c
over_twice columns plain a b c p q = record {
  passed = p.passed ++ q.passed;
  no_data = no_data_twice p.passed q.passed p.no_data q.no_data;
  comes = p.comes ∙ ap (then_read (whole p.passed)) q.comes ∙ whole_then p.passed q.passed (left columns plain c);
  within = λ f is. p.within f (q.within f is);
}

pub allows_later : (columns : Columns) (plain : Plaintexts) (files : Objects) (a b : Walk) → PassedOver columns plain a b
    → AllowsNext columns plain files a → AllowsNext columns plain files b
allows_later columns plain files a b p allows f is = allows f (p.within f is)

refused_later : (columns : Columns) (plain : Plaintexts) (files : Objects) (a b : Walk) (e : TreeFault) → PassedOver columns plain a b
    → IsRefused columns plain files b e → IsRefused columns plain files a e
refused_later columns plain files a b (fault.At path c) p (inl s) = inl (record {
  passed = p.passed ++ s.passed;
  no_data = no_data_twice p.passed s.passed p.no_data s.no_data;
  file = s.file;
  why = s.why;
  stops = p.comes ∙ ap (then_read (whole p.passed)) s.stops ∙ whole_then p.passed s.passed (stopped s.file s.why);
  told = s.told;
  at = s.at;
})
refused_later columns plain files a b (fault.At path c) p (inr u) =
    inr (record { file = u.file; needed = p.within u.file u.needed; unshown = u.unshown; at = u.at })
refused_later columns plain files a b fault.Store p h = h
refused_later columns plain files a b fault.NoMemory p h = h
refused_later columns plain files a b (fault.NoSnapshot id) p h = h
refused_later columns plain files a b (fault.PlainList id) p h = h
refused_later columns plain files a b (fault.Chain x) p h = h
refused_later columns plain files a b (fault.BadList id list what) p h = h

pub answer_later : (columns : Columns) (plain : Plaintexts) (files : Objects) (a b c : Walk) (r : Result (Option Leaf) TreeFault)
    → PassedOver columns plain a b → IsAnswer columns plain files b c r → IsAnswer columns plain files a c r
answer_later columns plain files a b c (Ok (Some leaf)) p h = record {
  passed = p.passed ++ h.passed;
  no_data = no_data_twice p.passed h.passed p.no_data h.no_data;
  comes = p.comes ∙ ap (then_read (whole p.passed)) h.comes ∙ whole_then p.passed h.passed _;
  within = λ f is. p.within f (h.within f is);
}
answer_later columns plain files a b c (Ok None) p h = record {
  passed = p.passed ++ h.passed;
  no_data = no_data_twice p.passed h.passed p.no_data h.no_data;
  comes = p.comes ∙ ap (then_read (whole p.passed)) h.comes;
  ends = h.ends;
}
answer_later columns plain files a b c (Err e) p h =
    (over_twice columns plain a b c p h.0, refused_later columns plain files a b e p h.1)

pub asks_later : (columns : Columns) (plain : Plaintexts) (a b : Walk) (x y z : List ℕ → ℕ) → PassedOver columns plain a b
    → AsksNeeded columns plain a x y → AsksNeeded columns plain b y z → AsksNeeded columns plain a x z
asks_later columns plain a b x y z p one two path others =
    two path (λ f is. others f (p.within f is)) ∙ one path others

pub asks_none : (columns : Columns) (plain : Plaintexts) (w : Walk) (x y : List ℕ → ℕ) → y ≡ x → AsksNeeded columns plain w x y
asks_none columns plain w x y same path others = ap (λ (counts : List ℕ → ℕ). counts path) same

pub asks_one : (columns : Columns) (plain : Plaintexts) (w : Walk) (path : List ℕ) (f : Listed) (x y : List ℕ → ℕ) → path ≡ f.path
    → Needs columns plain w f → CountsAt path x y → AsksNeeded columns plain w x y
asks_one columns plain w path f x y same needs counts other others =
    counts.others other (λ is. others f needs (is ∙ same))

-- ---- in the open manifest

left_with : (columns : Columns) (plain : Plaintexts) (w : Walk) (m : OpenManifest) → w.manifest ≡ Some m
    → left columns plain w ≡ then_read (manifest_left w.location plain m) (left_in_list columns plain w.location w.list w.rows)
unfolding left
left_with columns plain w m is = ap (λ o. then_read (left_in_manifest plain w.location o) (left_in_list columns plain w.location w.list w.rows)) is

left_without : (columns : Columns) (plain : Plaintexts) (w : Walk) → w.manifest ≡ None
    → left columns plain w ≡ left_in_list columns plain w.location w.list w.rows
unfolding left
left_without columns plain w is = ap (λ o. then_read (left_in_manifest plain w.location o) (left_in_list columns plain w.location w.list w.rows)) is

pub needs_manifest : (columns : Columns) (plain : Plaintexts) (w : Walk) (m : OpenManifest) → w.manifest ≡ Some m → Needs columns plain w (listing m.file)
needs_manifest columns plain w m is = inr (inl (subst (IsOpenManifest (listing m.file)) (sym is) refl))

-- with another manifest in the place of the open one
abbrev pub with_manifest : Walk → Option OpenManifest → Walk
with_manifest w o = record { location = w.location; list = w.list; rows = w.rows; manifest = o }

open_stays : (w : Walk) (m now : OpenManifest) → w.manifest ≡ Some m → now.file ≡ m.file
    → (f : Listed) → IsOpenManifest f (Some now) → IsOpenManifest f w.manifest
open_stays w m now is same f h = subst (IsOpenManifest f) (sym is) (h ∙ ap listing same)

pub in_more : (columns : Columns) (plain : Plaintexts) (w : Walk) (m now : OpenManifest) → w.manifest ≡ Some m → now.file ≡ m.file
    → manifest_left w.location plain m ≡ manifest_left w.location plain now → PassedOver columns plain w (with_manifest w (Some now))
in_more columns plain w m now is same_file same = over_same columns plain w (with_manifest w (Some now))
    (left_with columns plain w m is
    ∙ ap (λ t. then_read t (left_in_list columns plain w.location w.list w.rows)) same
    ∙ sym (left_with columns plain (with_manifest w (Some now)) now refl)) refl (open_stays w m now is same_file)

pub in_end : (columns : Columns) (plain : Plaintexts) (w : Walk) (m : OpenManifest) → w.manifest ≡ Some m
    → manifest_left w.location plain m ≡ whole [] → PassedOver columns plain w (with_manifest w None)
in_end columns plain w m is ends = over_same columns plain w (with_manifest w None)
    (left_with columns plain w m is
    ∙ ap (λ t. then_read t (left_in_list columns plain w.location w.list w.rows)) ends
    ∙ sym (left_without columns plain (with_manifest w None) refl)) refl (λ f h. absurd h)

pub in_leaf : (columns : Columns) (plain : Plaintexts) (w : Walk) (m now : OpenManifest) (leaf : Leaf) → w.manifest ≡ Some m → now.file ≡ m.file
    → manifest_left w.location plain m ≡ then_read (one (tree.data_file (live_of leaf))) (manifest_left w.location plain now)
    → GivesLeaf columns plain w (with_manifest w (Some now)) leaf
in_leaf columns plain w m now leaf is same_file gives = record {
  passed = [];
  no_data = refl;
  within = λ f here. inr (inl (open_stays w m now is same_file f here));
  comes = left_with columns plain w m is
      ∙ ap (λ t. then_read t (left_in_list columns plain w.location w.list w.rows)) gives
      ∙ then_assoc (one (tree.data_file (live_of leaf))) (manifest_left w.location plain now) (left_in_list columns plain w.location w.list w.rows)
      ∙ ap (then_read (one (tree.data_file (live_of leaf)))) (sym (left_with columns plain (with_manifest w (Some now)) now refl));
}

-- a refusal of a file that a walk needs, of which this is left and then more
pub refused_first : (columns : Columns) (plain : Plaintexts) (files : Objects) (w : Walk) (f : Listed) (first more : Trace TreeFile) (e : TreeFault)
    → left columns plain w ≡ then_read first more → Needs columns plain w f → RefusesAt files f first e → IsRefused columns plain files w e
refused_first columns plain files w f first more (fault.At path c) is needs (same, inl unshown) =
    inr (record { file = f; needed = needs; unshown = unshown; at = same })
refused_first columns plain files w f first more (fault.At path c) is needs (same, inr (why, stops, told)) = inl (record {
  passed = [];
  no_data = refl;
  file = f;
  why = why;
  stops = is ∙ ap (λ t. then_read t more) stops;
  told = told;
  at = same;
})
refused_first columns plain files w f first more fault.Store is needs h = tt
refused_first columns plain files w f first more fault.NoMemory is needs h = tt
refused_first columns plain files w f first more (fault.NoSnapshot id) is needs h = h
refused_first columns plain files w f first more (fault.PlainList id) is needs h = h
refused_first columns plain files w f first more (fault.Chain x) is needs h = h
refused_first columns plain files w f first more (fault.BadList id list what) is needs h = h

-- what an answer of the manifest means for the walk
pub in_manifest_err : (columns : Columns) (plain : Plaintexts) (files : Objects) (w : Walk) (m now : OpenManifest) (e : TreeFault) → w.manifest ≡ Some m
    → now.file ≡ m.file → LeavesEntries w.location files plain m now (Err e)
    → IsAnswer columns plain files w (with_manifest w (Some now)) (Err e)
in_manifest_err columns plain files w m now e is same_file leaves = (
  in_more columns plain w m now is same_file leaves.0,
  refused_first columns plain files w (listing m.file) (manifest_left w.location plain m)
      (left_in_list columns plain w.location w.list w.rows) e (left_with columns plain w m is) (needs_manifest columns plain w m is) leaves.1,
)

-- ---- in the list

abbrev pub with_rows : Walk → Rows → Walk
with_rows w rows = record { location = w.location; list = w.list; rows = rows; manifest = w.manifest }

pub needs_list : (columns : Columns) (plain : Plaintexts) (w : Walk) → Needs columns plain w (listing w.list)
needs_list columns plain w = inl refl

left_rows : (columns : Columns) (plain : Plaintexts) (w : Walk) (rows : Rows) → w.manifest ≡ None → w.rows ≡ rows
    → left columns plain w ≡ left_in_list columns plain w.location w.list rows
left_rows columns plain w rows none is = left_without columns plain w none ∙ ap (left_in_list columns plain w.location w.list) is

none_opens : (w : Walk) (rows : Rows) (f : Listed) → IsOpenManifest f (with_rows w rows).manifest → IsOpenManifest f w.manifest
none_opens w rows f h = h

pub over_opened : (columns : Columns) (plain : Plaintexts) (files : Objects) (w : Walk) (l : OpenList) → w.manifest ≡ None → w.rows ≡ place.Before
    → Allows (shown_in files (listing w.list)) (plain (listing w.list)) → OpensList files w.list (Ok l)
    → PassedOver columns plain w (with_rows w (place.Open l))
over_opened columns plain files w l none is allows begins =
    let all : left columns plain w ≡ then_read (one (tree.list (listing w.list))) (left columns plain (with_rows w (place.Open l))) =
    left_rows columns plain w place.Before none is ∙ begins.left columns plain w.location allows
    ∙ ap (then_read (one (tree.list (listing w.list)))) (sym (left_rows columns plain (with_rows w (place.Open l)) (place.Open l) none refl)) in
    record {
      passed = tree.list (listing w.list) ∷ [];
      no_data = refl;
      comes = all;
      within = needs_behind all;
    }
  where
    needs_behind : left columns plain w ≡ then_read (one (tree.list (listing w.list))) (left columns plain (with_rows w (place.Open l)))
        → (f : Listed) → Needs columns plain (with_rows w (place.Open l)) f → Needs columns plain w f
    needs_behind all f (inl h) = inl h
    needs_behind all f (inr (inl h)) = inr (inl h)
    needs_behind all f (inr (inr h)) = inr (inr (subst (λ (t : Trace TreeFile). IsAhead f t.items) (sym all) (inr h)))

pub list_stops : (columns : Columns) (plain : Plaintexts) (files : Objects) (w : Walk) (e : TreeFault) → w.manifest ≡ None → w.rows ≡ place.Before
    → RefusesAt files (listing w.list) (read_plain (records_of list_row) (listing w.list) (plain (listing w.list))) e → IsRefused columns plain files w e
unfolding tree_below
list_stops columns plain files w (fault.At path c) none is (same, inl unshown) =
    inr (record { file = listing w.list; needed = inl refl; unshown = unshown; at = same })
list_stops columns plain files w (fault.At path c) none is (same, inr (why, stops, told)) = inl (record {
  passed = tree.list (listing w.list) ∷ [];
  no_data = refl;
  file = listing w.list;
  why = why;
  stops = left_rows columns plain w place.Before none is
      ∙ ap (λ t. then_read (one (tree.list (listing w.list))) (through (below_row w.location (contents_of columns plain) (listing w.list)) (numbered t))) stops
      ∙ ap (λ t. then_read (one (tree.list (listing w.list))) (through (below_row w.location (contents_of columns plain) (listing w.list)) t)) (numbered_stopped 0 (listing w.list) why)
      ∙ ap (then_read (one (tree.list (listing w.list)))) (through_stopped (below_row w.location (contents_of columns plain) (listing w.list)) (listing w.list) why);
  told = told;
  at = same;
})
list_stops columns plain files w fault.Store none is h = tt
list_stops columns plain files w fault.NoMemory none is h = tt
list_stops columns plain files w (fault.NoSnapshot id) none is h = h
list_stops columns plain files w (fault.PlainList id) none is h = h
list_stops columns plain files w (fault.Chain x) none is h = h
list_stops columns plain files w (fault.BadList id list what) none is h = h

-- the rows that are left
rows_same : (columns : Columns) (plain : Plaintexts) (location : List ℕ) (f : Listed) (l now : OpenList) → rows_left plain f l ≡ rows_left plain f now
    → list_left columns plain location f l ≡ list_left columns plain location f now
unfolding list_left
rows_same columns plain location f l now same = ap (through (below_row location (contents_of columns plain) f)) same

rows_none : (columns : Columns) (plain : Plaintexts) (location : List ℕ) (f : Listed) (l : OpenList) → rows_left plain f l ≡ whole []
    → list_left columns plain location f l ≡ whole []
unfolding list_left
rows_none columns plain location f l same = ap (through (below_row location (contents_of columns plain) f)) same
    ∙ through_none (below_row location (contents_of columns plain) f)

pub over_rows : (columns : Columns) (plain : Plaintexts) (w : Walk) (l now : OpenList) → w.manifest ≡ None → w.rows ≡ place.Open l
    → list_left columns plain w.location (listing w.list) l ≡ list_left columns plain w.location (listing w.list) now
    → PassedOver columns plain w (with_rows w (place.Open now))
over_rows columns plain w l now none is same = over_same columns plain w (with_rows w (place.Open now))
    (left_rows columns plain w (place.Open l) none is ∙ same ∙ sym (left_rows columns plain (with_rows w (place.Open now)) (place.Open now) none refl))
    refl (none_opens w (place.Open now))

pub over_read : (columns : Columns) (plain : Plaintexts) (w : Walk) (l now : OpenList) → w.manifest ≡ None → w.rows ≡ place.Open l
    → rows_left plain (listing w.list) l ≡ rows_left plain (listing w.list) now → PassedOver columns plain w (with_rows w (place.Open now))
over_read columns plain w l now none is same = over_rows columns plain w l now none is (rows_same columns plain w.location (listing w.list) l now same)

pub over_ended : (columns : Columns) (plain : Plaintexts) (w : Walk) (l : OpenList) → w.manifest ≡ None → w.rows ≡ place.Open l
    → rows_left plain (listing w.list) l ≡ whole [] → PassedOver columns plain w (with_rows w place.Behind)
over_ended columns plain w l none is same = over_same columns plain w (with_rows w place.Behind)
    (left_rows columns plain w (place.Open l) none is ∙ rows_none columns plain w.location (listing w.list) l same
    ∙ sym (left_rows columns plain (with_rows w place.Behind) place.Behind none refl)) refl (none_opens w place.Behind)

refuses_rows : (columns : Columns) (plain : Plaintexts) (files : Objects) (w : Walk) (l : OpenList) (e : TreeFault)
    → RefusesAt files (listing w.list) (rows_left plain (listing w.list) l) e
    → RefusesAt files (listing w.list) (list_left columns plain w.location (listing w.list) l) e
unfolding list_left
refuses_rows columns plain files w l (fault.At path c) (same, inl unshown) = (same, inl unshown)
refuses_rows columns plain files w l (fault.At path c) (same, inr (why, stops, told)) = (
  same,
  inr (
    why,
    ap (through (below_row w.location (contents_of columns plain) (listing w.list))) stops
        ∙ through_stopped (below_row w.location (contents_of columns plain) (listing w.list)) (listing w.list) why,
    told,
  ),
)
refuses_rows columns plain files w l fault.Store h = h
refuses_rows columns plain files w l fault.NoMemory h = h
refuses_rows columns plain files w l (fault.NoSnapshot id) h = h
refuses_rows columns plain files w l (fault.PlainList id) h = h
refuses_rows columns plain files w l (fault.Chain x) h = h
refuses_rows columns plain files w l (fault.BadList id list what) h = h

pub rows_stop : (columns : Columns) (plain : Plaintexts) (files : Objects) (w : Walk) (l : OpenList) (e : TreeFault) → w.manifest ≡ None → w.rows ≡ place.Open l
    → RefusesAt files (listing w.list) (rows_left plain (listing w.list) l) e → IsRefused columns plain files w e
rows_stop columns plain files w l e none is h = refused_first columns plain files w (listing w.list)
    (list_left columns plain w.location (listing w.list) l) (whole []) e
    (left_rows columns plain w (place.Open l) none is ∙ sym (then_none (list_left columns plain w.location (listing w.list) l)))
    (inl refl) (refuses_rows columns plain files w l e h)

-- ---- a row that is entered

-- the manifest that comes first is needed
pub needs_first : (columns : Columns) (plain : Plaintexts) (w : Walk) (l : OpenList) (g : Listed) → w.manifest ≡ None → w.rows ≡ place.Open l
    → ComesFirst columns plain w.location (listing w.list) l g → Needs columns plain w g
needs_first columns plain w l g none is comes =
    inr (inr (subst (λ (t : Trace TreeFile). IsAhead g t.items) (sym (left_rows columns plain w (place.Open l) none is ∙ comes.1)) (inl refl)))

pub over_entered : (columns : Columns) (plain : Plaintexts) (files : Objects) (w : Walk) (l now : OpenList) (m : OpenManifest) → w.manifest ≡ None
    → w.rows ≡ place.Open l → AllowsNext columns plain files w → EntersManifest files w.location w.list l now m
    → PassedOver columns plain w (record { location = w.location; list = w.list; rows = place.Open now; manifest = Some m })
over_entered columns plain files w l now m none is allows enters =
    let next : Walk = record { location = w.location; list = w.list; rows = place.Open now; manifest = Some m } in
    let g : Needs columns plain w (listing m.file) = needs_first columns plain w l (listing m.file) none is (enters.comes columns plain) in
    let all : left columns plain w ≡ then_read (one (tree.manifest (listing m.file))) (left columns plain next) =
    left_rows columns plain w (place.Open l) none is ∙ enters.leaves columns plain (allows (listing m.file) g)
    ∙ ap (then_read (one (tree.manifest (listing m.file)))) (sym (left_with columns plain next m refl)) in
    record {
      passed = tree.manifest (listing m.file) ∷ [];
      no_data = refl;
      comes = all;
      within = needs_behind g all;
    }
  where
    needs_behind : Needs columns plain w (listing m.file)
        → left columns plain w ≡ then_read (one (tree.manifest (listing m.file))) (left columns plain (record { location = w.location; list = w.list; rows = place.Open now; manifest = Some m }))
        → (f : Listed) → Needs columns plain (record { location = w.location; list = w.list; rows = place.Open now; manifest = Some m }) f → Needs columns plain w f
    needs_behind g all f (inl h) = inl h
    needs_behind g all f (inr (inl h)) = subst (Needs columns plain w) (sym h) g
    needs_behind g all f (inr (inr h)) = inr (inr (subst (λ (t : Trace TreeFile). IsAhead f t.items) (sym all) (inr h)))

pub row_stopped : (columns : Columns) (plain : Plaintexts) (files : Objects) (w : Walk) (l : OpenList) (e : TreeFault) → w.manifest ≡ None
    → w.rows ≡ place.Open l → AllowsNext columns plain files w → RefusesRow files w.location w.list l e → IsRefused columns plain files w e
row_stopped columns plain files w l (fault.At path c) none is allows (inl (same, (why, told, stops))) = inl (record {
  passed = [];
  no_data = refl;
  file = listing w.list;
  why = why;
  stops = left_rows columns plain w (place.Open l) none is ∙ stops columns plain;
  told = told;
  at = same;
})
row_stopped columns plain files w l (fault.At path c) none is allows (inr s) =
    let r = s.refuses columns plain in
    let g : Needs columns plain w s.manifest = needs_first columns plain w l s.manifest none is (r.0, r.1) in
    by_refusal g r.0 r.1 (r.2 (allows s.manifest g))
  where
    by_refusal : Needs columns plain w s.manifest → (rest : Trace TreeFile)
        → list_left columns plain w.location (listing w.list) l ≡ then_read (one (tree.manifest s.manifest)) rest
        → Refuses files s.manifest c rest → IsRefused columns plain files w (fault.At path c)
    by_refusal g rest comes (inl unshown) = inr (record { file = s.manifest; needed = g; unshown = unshown; at = s.at })
    by_refusal g rest comes (inr (why, stops, told)) = inl (record {
      passed = tree.manifest s.manifest ∷ [];
      no_data = refl;
      file = s.manifest;
      why = why;
      stops = left_rows columns plain w (place.Open l) none is ∙ comes ∙ ap (then_read (one (tree.manifest s.manifest))) stops;
      told = told;
      at = s.at;
    })
row_stopped columns plain files w l fault.Store none is allows h = tt
row_stopped columns plain files w l fault.NoMemory none is allows h = tt
row_stopped columns plain files w l (fault.NoSnapshot id) none is allows h = h
row_stopped columns plain files w l (fault.PlainList id) none is allows h = h
row_stopped columns plain files w l (fault.Chain x) none is allows h = h
row_stopped columns plain files w l (fault.BadList id list what) none is allows h = h

-- ---- at the end

pub at_end : (columns : Columns) (plain : Plaintexts) (w : Walk) → w.manifest ≡ None → w.rows ≡ place.Behind → IsBehind columns plain w w
at_end columns plain w none is =
    let nothing : left columns plain w ≡ whole [] = left_rows columns plain w place.Behind none is in
    record { passed = []; no_data = refl; comes = nothing; ends = nothing }
