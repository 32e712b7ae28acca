-- Statements of the laws of walks.
use Rattle.std.specs.Prelude.{◌≡◌, ℕ, List, Ok}
use Rattle.icb_base.specs.Objects.{Grows, Objects}
use Rattle.icb_table.specs.Contents.{Plaintexts, contents_of}
use Rattle.icb_table.specs.Listed.{Listed}
use Rattle.icb_table.specs.Rows.{Columns}
use Rattle.icb_table.specs.Tree.{tree_below}
use Rattle.icb_walk.specs.Start.{StandsBefore}
use Rattle.icb_walk.specs.Walks.{FitsStore, left}
use Rattle.icb_walk.specs.declared.walk.Walk.{Walk}

-- a walk that fits what a store held fits what it holds after it only grew
abbrev pub FitsWhenGrown : Type 0
FitsWhenGrown = (w : Walk) (before now : Objects) → Grows before now
    → FitsStore before w → FitsStore now w

-- a walk that has opened nothing fits what any store holds
abbrev pub UnopenedFits : Type 0
UnopenedFits = (location : List ℕ) (f : Listed) (w : Walk) (files : Objects)
    → StandsBefore location (Ok f) w → FitsStore files w

-- and all of the tree below its list is left to it
abbrev pub UnopenedHasAll : Type 0
UnopenedHasAll = (location : List ℕ) (f : Listed) (w : Walk) (columns : Columns)
    (plain : Plaintexts) → StandsBefore location (Ok f) w
    → left columns plain w ≡ tree_below location (contents_of columns plain) f
