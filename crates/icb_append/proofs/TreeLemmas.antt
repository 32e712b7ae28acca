-- The files below a list that has the rows of another one, and more behind them.
use Rattle.std.proofs.Common.{◌≡◌, ℕ, suc, ◌+◌, List, [], ◌∷◌, ◌++◌, Bool, true, false, length, map, Option, Some, None, if◌then◌else◌, Result, Ok, Err, refl, sym, ap, ◌∙◌, subst, arith, append_assoc, append-nil}
use Rattle.icb_base.specs.KeyMetadata.{KeyRecord}
use Rattle.icb_keymeta.specs.Decoded.{key_metadata_of}
use Rattle.icb_meta.specs.Ids.{resolved}
use Rattle.icb_list.specs.declared.row.ListRow.{ListRow}
use Rattle.icb_table.specs.Listed.{Listed, ◌>>=◌, key_in, length_of, listed, listed_by, or_why, said_length}
use Rattle.icb_table.specs.Tests.{has_deletes, is_passed, manifest_of}
use Rattle.icb_table.specs.Trace.{Stop, Trace, behind, each_in, ended, numbered, numbered_from, one, stopped, then_read, through, whole}
use Rattle.icb_table.specs.Tree.{Contents, TreeFile, below_manifest, below_row, tree_below}
use Rattle.icb_table.specs.Tree as tree
use Rattle.icb_table.specs.Why.{Why}
use Rattle.icb_table.specs.Why as why

-- ---- a row, whatever its place and its list

module _ (location full : List ℕ) (p q : ℕ) where
  by_key : (r : Result KeyRecord ℕ) (rest : KeyRecord → Result Listed Why) (f : Listed) → (key_in p r >>= rest) ≡ Ok f → (key_in q r >>= rest) ≡ Ok f
  by_key (Ok meta) rest f h = h
  by_key (Err at) rest f h = absurd (let g : ⊥ = cc in g)

  by_path : (o : Option (List ℕ)) (r : Result KeyRecord ℕ) (rest : List ℕ → KeyRecord → Result Listed Why) (f : Listed)
      → (or_why (why.unread full why.outside_table) o >>= (λ path. key_in p r >>= rest path)) ≡ Ok f
      → (or_why (why.unread full why.outside_table) o >>= (λ path. key_in q r >>= rest path)) ≡ Ok f
  by_path None r rest f h = absurd (let g : ⊥ = cc in g)
  by_path (Some path) r rest f h = by_key r (rest path) f h

  listed_moved : (key : Option (List ℕ)) (size : _) (f : Listed) → listed_by location p full key size ≡ Ok f → listed_by location q full key size ≡ Ok f
  unfolding listed_by
  listed_moved None size f h = absurd (let g : ⊥ = cc in g)
  listed_moved (Some bytes) size f h = by_path (resolved location full) (key_metadata_of bytes)
      (λ path meta. or_why (why.unread full why.no_length) (length_of meta (said_length size)) >>= (λ recorded. Ok (listed path meta recorded))) f h

module _ (location : List ℕ) (c : Contents) (was now : Listed) where
  not_stopped : (f : Listed) (e : Why) (files : List TreeFile) → stopped f e ≡ whole files → ⊥
  not_stopped f e files h = no_stop (record { file = f; why = e }) (ap (λ t. t.stop) h)
    where
      no_stop : (s : Stop) → ◌≡◌ {A = Option Stop} (Some s) None → ⊥
      no_stop s k = cc

  -- a manifest that is read is read so
  manifest_moved : (p q row : ℕ) (r : ListRow) (b : Bool) (files : List TreeFile)
      → below_manifest location c was row (if b then Err (why.unread r.path why.delete_manifest) else listed_by location p r.path r.key r.length) ≡ whole files
      → below_manifest location c now row (if b then Err (why.unread r.path why.delete_manifest) else listed_by location q r.path r.key r.length) ≡ whole files
  manifest_moved p q row r true files h = absurd (not_stopped was (why.unread r.path why.delete_manifest) files h)
  manifest_moved p q row r false files h = by_file (listed_by location p r.path r.key r.length) refl h
    where
      by_file : (x : Result Listed Why) → listed_by location p r.path r.key r.length ≡ x → below_manifest location c was row x ≡ whole files
          → below_manifest location c now row (listed_by location q r.path r.key r.length) ≡ whole files
      by_file (Ok f) is h = ap (below_manifest location c now row) (listed_moved location r.path p q r.key r.length f is) ∙ h
      by_file (Err e) is k = absurd (not_stopped was e files k)

  row_by : (p q row : ℕ) (r : ListRow) (b : Bool) (files : List TreeFile)
      → (if b then whole [] else below_manifest location c was row (manifest_of location p r)) ≡ whole files
      → (if b then whole [] else below_manifest location c now row (manifest_of location q r)) ≡ whole files
  row_by p q row r true files h = h
  row_by p q row r false files h = manifest_moved p q row r (has_deletes r) files h

  -- what is below a row of one list is below the same row of another one
  row_moved : (row : ℕ) (x y : ℕ × ListRow) (files : List TreeFile) → x.1 ≡ y.1
      → below_row location c was (row, x) ≡ whole files → below_row location c now (row, y) ≡ whole files
  row_moved row x y files same h =
      subst (λ r. (if is_passed r then whole [] else below_manifest location c now row (manifest_of location y.0 r)) ≡ whole files) same
      (row_by x.0 y.0 row x.1 (is_passed x.1) files h)

  -- ---- all rows

  -- the rows of a list, and more behind them
  record MoreRows (n : ℕ) (olds news : List (ℕ × ListRow)) (more : List ListRow) (files : List TreeFile) : Type 0 where
    rest : List (ℕ × ListRow)
    are_more : map (λ r. r.1) rest ≡ more
    reads : each_in (below_row location c now) (numbered_from n news)
        ≡ then_read (whole files) (each_in (below_row location c now) (numbered_from (n + length olds) rest))

  -- what is read whole is made of parts that are
  whole_parts : {A : Type 0} (t u : Trace A) (xs : List A) (s : Option Stop) → t.stop ≡ s → behind t.items s u ≡ whole xs
      → (t ≡ whole t.items) × (u ≡ whole u.items) × (xs ≡ t.items ++ u.items)
  whole_parts t u xs None is h = (
    ap (λ x. record { items = t.items; stop = x }) is,
    ap (λ x. record { items = u.items; stop = x }) (ap (λ y. y.stop) h),
    sym (ap (λ y. y.items) h),
  )
  whole_parts t u xs (Some e) is h = absurd (let g : ⊥ = stopped_not (ap (λ y. y.stop) h) in g)
    where
      stopped_not : Some e ≡ None → ⊥
      stopped_not k = cc

  join_whole : {A : Type 0} (a b : List A) (t : Trace A) → then_read (whole a) (then_read (whole b) t) ≡ then_read (whole (a ++ b)) t
  join_whole a b t = ap (λ x. record { items = x; stop = t.stop }) (sym (append_assoc a b t.items))

  rows_more : (n : ℕ) (olds news : List (ℕ × ListRow)) (more : List ListRow) (files : List TreeFile)
      → map (λ r. r.1) news ≡ map (λ r. r.1) olds ++ more
      → each_in (below_row location c was) (numbered_from n olds) ≡ whole files → MoreRows n olds news more files
  unfolding each_in numbered_from
  rows_more n [] news more files same h =
      let none : files ≡ [] = sym (ap (λ t. t.items) h) in
      record {
        rest = news;
        are_more = same;
        reads = rw none (ap (λ k. each_in (below_row location c now) (numbered_from k news)) (omega arith));
      }
  rows_more n (x ∷ olds) [] more files same h = absurd (let g : ⊥ = cc in g)
  rows_more n (x ∷ olds) (y ∷ news) more files same h =
      let first : y.1 ≡ x.1 = cc in
      let later : map (λ r. r.1) news ≡ map (λ r. r.1) olds ++ more = cc in
      let read : Trace TreeFile = below_row location c was (n, x) in
      let behind_it : Trace TreeFile = each_in (below_row location c was) (numbered_from (suc n) olds) in
      let parts = whole_parts read behind_it files read.stop refl h in
      let rest = rows_more (suc n) olds news more behind_it.items later parts.1 in
      let here : below_row location c now (n, y) ≡ whole read.items = row_moved n x y read.items (sym first) parts.0 in
      let k : suc n + length olds ≡ n + suc (length olds) = omega arith in
      record {
        rest = rest.rest;
        are_more = rest.are_more;
        reads =
            ap (λ t. then_read t (each_in (below_row location c now) (numbered_from (suc n) news))) here
            ∙ ap (then_read (whole read.items)) rest.reads
            ∙ join_whole read.items behind_it.items (each_in (below_row location c now) (numbered_from (suc n + length olds) rest.rest))
            ∙ ap (λ xs. then_read (whole xs) (each_in (below_row location c now) (numbered_from (suc n + length olds) rest.rest))) (sym parts.2)
            ∙ ap (λ i. then_read (whole files) (each_in (below_row location c now) (numbered_from i rest.rest))) k;
      }

  -- the rows below a list that is read to its end
  below_list : (list : Listed) (rows : List (ℕ × ListRow)) → c.list_rows list ≡ whole rows
      → tree_below location c list ≡ then_read (one (tree.list list)) (then_read (each_in (below_row location c list) (numbered_from 0 rows)) (ended None))
  unfolding tree_below
  below_list list rows h = ap (λ t. then_read (one (tree.list list)) (through (below_row location c list) (numbered t))) h

  nothing_more : {A : Type 0} (t : Trace A) (xs : List A) → t ≡ whole xs → then_read t (ended None) ≡ whole xs
  nothing_more t xs h = ap (λ x. then_read x (ended None)) h ∙ ap (λ ys. whole ys) (append-nil xs)

  -- The files below a list that has the rows of another one and more behind them: those below the
  -- other one, and then those below its own rows.
  pub tree_more : (olds news : List (ℕ × ListRow)) (more : List ListRow) (files added : List TreeFile)
      → c.list_rows was ≡ whole olds → c.list_rows now ≡ whole news → map (λ r. r.1) news ≡ map (λ r. r.1) olds ++ more
      → tree_below location c was ≡ whole (tree.list was ∷ files)
      → ((rest : List (ℕ × ListRow)) → map (λ r. r.1) rest ≡ more
      → each_in (below_row location c now) (numbered_from (length olds) rest) ≡ whole added)
      → tree_below location c now ≡ whole (tree.list now ∷ (files ++ added))
  tree_more olds news more files added read_was read_now same below own =
      let under : Trace TreeFile = each_in (below_row location c was) (numbered_from 0 olds) in
      let outer = whole_parts (one (tree.list was)) (then_read under (ended None)) (tree.list was ∷ files) None refl (sym (below_list was olds read_was) ∙ below) in
      let files_are : files ≡ (then_read under (ended None)).items = cons_same (tree.list was) files (then_read under (ended None)).items outer.2 in
      let inner = whole_parts under (ended None) (then_read under (ended None)).items under.stop refl outer.1 in
      let is_under : under ≡ whole files = inner.0 ∙ ap whole (sym (append-nil under.items) ∙ sym inner.2 ∙ sym files_are) in
      let rows = rows_more 0 olds news more files same is_under in
      let own_read = own rows.rest rows.are_more in
      let from : 0 + length olds ≡ length olds = omega arith in
      let all : each_in (below_row location c now) (numbered_from 0 news) ≡ whole (files ++ added) =
      rows.reads ∙ ap (λ k. then_read (whole files) (each_in (below_row location c now) (numbered_from k rows.rest))) from
      ∙ ap (then_read (whole files)) own_read in
      below_list now news read_now
      ∙ ap (then_read (one (tree.list now))) (nothing_more (each_in (below_row location c now) (numbered_from 0 news)) (files ++ added) all)
    where
      cons_same : (x : TreeFile) (xs ys : List TreeFile) → x ∷ xs ≡ (x ∷ []) ++ ys → xs ≡ ys
      cons_same x xs ys h = cc
