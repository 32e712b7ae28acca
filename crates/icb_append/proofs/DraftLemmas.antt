-- The rows of a data file among those of an append.
use Rattle.std.proofs.Common.{◌≡◌, ℕ, ℤ, zero, suc, List, [], ◌∷◌, map, take, drop, Result, Err, IfSome, Vec, Global, refl, ap, ◌∙◌, subst}
use Rattle.icb_base.specs.declared.storage.Store as store
use Rattle.icb_base.specs.declared.transfer.Draws as draws
use Rattle.icb_chain.specs.Ring.{Ring}
use Rattle.icb_list.specs.declared.row.ListRow.{ListRow}
use Rattle.icb_meta.specs.Answers.{shown_of}
use Rattle.icb_table.specs.Snapshots.{list_of}
use Rattle.icb_turns.specs.declared.fault.JobFault.{JobFault}
use Rattle.icb_turns.specs.declared.fault.JobFault.TheVariants as fault
use Rattle.icb_walk.specs.Steps.{ReadsStore}
use Rattle.icb_walk.specs.WholeLists.{AsksList, FindsList, ReadsList}
use Rattle.icb_walk.specs.declared.fault.TreeFault.{TreeFault}
use Rattle.icb_walk.specs.declared.fault.TreeFault.TheVariants as tree
use Rattle.icb_append.specs.Drafts.{PutsNext, next_path, settings_for}
use Rattle.icb_append.specs.NewLists.{ReadsParent, parent_rows}
use Rattle.icb_append.specs.Paths.{manifest_path}
use Rattle.icb_append.specs.declared.draft.Draft.{Draft}
use Rattle.icb_append.specs.declared.tried.Tried.{Tried}
use Rattle.icb_append.proofs.PutLemmas.{not_begun}

map_taken : {A B : Type 0} (f : A → B) (n : ℕ) (xs : List A) → map f (take n xs) ≡ take n (map f xs)
map_taken f zero xs = refl
map_taken f (suc n) [] = refl
map_taken f (suc n) (x ∷ xs) = ap (λ ys. f x ∷ ys) (map_taken f n xs)

map_dropped : {A B : Type 0} (f : A → B) (n : ℕ) (xs : List A) → map f (drop n xs) ≡ drop n (map f xs)
map_dropped f zero xs = refl
map_dropped f (suc n) [] = refl
map_dropped f (suc n) (x ∷ xs) = map_dropped f n xs

pub rows_mapped : {A B : Type 0} (f : A → B) (n m : ℕ) (xs : List A) → map f (take n (drop m xs)) ≡ take n (drop m (map f xs))
rows_mapped f n m xs = map_taken f n (drop m xs) ∙ ap (take n) (map_dropped f m xs)

-- ---- turns, made up of their parts

module _ {S D : Type 0} (of : store.Ghosts S) (random : draws.Ghosts D) (tried : Tried) where
  -- no memory was left before anything was drawn
  pub next_not_begun : (draft : Draft) (s : S) (x : D) → of.keeps s s → PutsNext of random tried draft draft (Err fault.NoMemory) s s x x
  next_not_begun draft s x kept = record {
    rows = λ left. record {
      file = Err fault.NoMemory;
      puts = not_begun of random (settings_for tried).key (next_path draft) _ _ _ s x kept;
      comes = (refl, refl);
    };
    manifest = λ none. record {
      row = Err fault.NoMemory;
      puts = not_begun of random (settings_for tried).key (manifest_path draft.unique) _ _ _ s x kept;
      stays = refl;
      answers = refl;
    };
  }

-- the list of the parent was read
pub parent_read : {S : Type 0} (of : store.Ghosts S) (tried : Tried) (ring : Ring) (asked parent : ℤ) (rows : Result (Vec ListRow Global) TreeFault) (answer : Result (List ListRow) JobFault) (x y : S) → asked ≡ parent
    → FindsList (list_of (shown_of tried.meta) ring asked) rows
    → IfSome (of.held x) (λ files. ReadsList files (list_of (shown_of tried.meta) ring asked) rows)
    → IfSome (of.held x) (λ _. AsksList of (list_of (shown_of tried.meta) ring asked) x y)
    → ReadsStore of (rows ≡ Err tree.Store) x y → answer ≡ parent_rows rows → ReadsParent of ring tried parent answer x y
parent_read of tried ring asked parent rows answer x y same finds are asks reads answers =
    subst (λ p. ReadsParent of ring tried p answer x y) same
    (record { rows = rows; finds = finds; are_rows = are; asks = asks; reads = reads; answers = answers })
