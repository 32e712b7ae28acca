-- What the objects of a store show of listed files, and which plaintexts that allows (ours).
use Rattle.std.specs.Prelude.{ℕ, List, Option, Some, None}
use Rattle.std.specs.List.{AllByRecursion}
use Rattle.icb_base.specs.Contents.{FillsKnown, KnowsNoMore}
use Rattle.icb_base.specs.Objects.{Objects, object_at}
use Rattle.icb_stream.specs.Attached.{read_content}
use Rattle.icb_table.specs.Contents.{Plaintexts, of_object, opening_in}
use Rattle.icb_table.specs.Listed.{Listed}

-- what is known of a file's plaintext: for each place a byte, or none where its block doesn't open;
-- nothing where the file isn't open
abbrev pub Knowledge : Type 0
Knowledge = Option (List (Option ℕ))

-- what a reader of a listed file may know
abbrev pub shown_in : Objects → Listed → Knowledge
shown_in files f =
    of_object (λ bytes layout. Some (read_content bytes layout)) (object_at files f.path)
    (opening_in files f)

-- a plaintext is allowed by what is known: a file that is open has one, with each byte that is
-- known
abbrev pub Allows : Knowledge → Option (List ℕ) → Type 0
Allows None plain = Unit {0}
Allows (Some known) None = ⊥
Allows (Some known) (Some bytes) = FillsKnown known bytes

-- the objects of a store allow these plaintexts of files
abbrev pub AllowsAt : List Listed → Objects → Plaintexts → Type 0
AllowsAt listed files plain = AllByRecursion (λ f. Allows (shown_in files f) (plain f)) listed

-- no more is known of a file than of another: where it is open so is the other, and each byte that
-- is known of it is known of the other
abbrev pub IsNoMore : Knowledge → Knowledge → Type 0
IsNoMore None more = Unit {0}
IsNoMore (Some known) None = ⊥
IsNoMore (Some known) (Some all) = KnowsNoMore known all

-- the objects of a store show no more of files than those of another
abbrev pub ShowsNoMoreAt : List Listed → Objects → Objects → Type 0
ShowsNoMoreAt listed less more =
    AllByRecursion (λ f. IsNoMore (shown_in less f) (shown_in more f)) listed
