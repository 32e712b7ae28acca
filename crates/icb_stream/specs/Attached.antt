-- A stream over a store, as a reader: what is known of its bytes, what its reads keep, and what
-- their faults say.
use Rattle.std.specs.Prelude.{ℕ, ◌-◌, ◌≡◌, ◌≢◌, ◌≤◌, ◌<◌, if◌then◌else◌, List, [], ◌∷◌, ◌++◌}
use Rattle.std.specs.Prelude.{length, take, Option, Some, None, IfSome, is_none}
use Rattle.icb_base.specs.Causes.{Blames}
use Rattle.icb_base.specs.Objects.{Objects}
use Rattle.icb_base.specs.declared.storage.Store as store
use Rattle.icb_stream.specs.Belongs.{BelongsTo, StreamValue}
use Rattle.icb_stream.specs.Content.{content}
use Rattle.icb_stream.specs.Layout.{Layout, blocks, part_at, plain_length}
use Rattle.icb_stream.specs.declared.fault.StreamFault.{StreamFault}
use Rattle.icb_stream.specs.declared.fault.StreamFault.TheVariants as fault

-- what a reader may know of the plaintext: the bytes of each part that is there; but the last byte
-- is known only where the last block opens, which a read up to the end touches though it may have
-- no byte
unfoldable pub read_content : List ℕ → Layout → List (Option ℕ)
read_content bytes layout =
    if is_none (part_at bytes layout (blocks layout - 1))
    then take (plain_length layout - 1) (content bytes layout) ++ None ∷ []
    else content bytes layout

-- this may be the content of a stream over what a store holds: the store tells that, the stream
-- belongs to it, and this is what may be known of the stream's object, a place for each byte of
-- plaintext
pub record IsContent (stream : StreamValue) (held : Option Objects)
    (known : List (Option ℕ)) : Type 0 where
  pub files : Objects
  pub told : held ≡ Some files
  pub belongs : BelongsTo stream files
  pub is : known ≡ read_content belongs.object stream.layout
  pub places : length known ≡ plain_length stream.layout

-- only this path's number may have changed, and it didn't fall
pub record CountsAt (path : List ℕ) (before now : List ℕ → ℕ) : Type 0 where
  pub others : (other : List ℕ) → other ≢ path → now other ≡ before other
  pub later : before path ≤ now path

-- what reads of a stream over a store keep: how the object is read, what the store holds and is,
-- and that the stream belongs to that; no fault is forgotten, and no other path was asked for
pub record KeepsBoth {Self : Type 0} (of : store.Ghosts Self) (first now : StreamValue)
    (x y : Self) : Type 0 where
  pub same_path : now.path ≡ first.path
  pub same_layout : now.layout ≡ first.layout
  pub same_held : of.held y ≡ of.held x
  pub later : of.faults x ≤ of.faults y
  pub asks : IfSome (of.held x) (λ _. CountsAt first.path (of.asked x) (of.asked y))
  pub moves : IfSome (of.held x) (λ _. CountsAt first.path (of.moved x) (of.moved y))
  pub kept : of.keeps x y
  pub belongs : IfSome (of.held x) (λ files. BelongsTo first files → BelongsTo now files)

-- why a read of an object's stream is refused: the store failed, which its count says, or a block
-- of the stream has no part; no other fault comes
abbrev pub IsReason : List ℕ → Layout → StreamFault → Type 0
IsReason object layout fault.Store = Unit {0}
IsReason object layout (fault.Block number) =
    (number < blocks layout) × (part_at object layout number ≡ None)
IsReason object layout fault = ⊥

-- what a fault of a read says: the store's count rose where the store failed, and else it stayed;
-- and over what the stream belongs to, why the read is refused
pub record BlamesBoth {Self : Type 0} (of : store.Ghosts Self) (first : StreamValue) (x y : Self)
    (e : StreamFault) : Type 0 where
  pub count : Blames (e ≡ fault.Store) (of.faults x) (of.faults y)
  pub reason : IfSome (of.held x) (λ files. (belongs : BelongsTo first files)
      → IsReason belongs.object first.layout e)
