-- Blocks of committed files, and blocks that are foreign to them.
use Rattle.std.specs.Prelude.{◌≡◌, ◌<◌, ◌≤◌, ℕ, true, List, ◌∷◌, ◌++◌, length, take, Some, IsSome}
use Rattle.std.specs.List.{Contains}
use Rattle.icb_base.specs.Objects.{Objects, object_at}
use Rattle.icb_chain.specs.Ring.{Ring}
use Rattle.icb_meta.specs.declared.fields.Fields.{Fields}
use Rattle.icb_seal.specs.Block.{additional_data, opened_cipher_block}
use Rattle.icb_stream.specs.Cut.{has_cut}
use Rattle.icb_stream.specs.Layout.{Layout, blocks, cipher_block}
use Rattle.icb_stream.specs.Opening.{block_length_in, layout_of, magic}
use Rattle.icb_table.specs.Contents.{opening_key}
use Rattle.icb_table.specs.Listed.{Listed}
use Rattle.icb_table.specs.Table.{IsInTable}

-- a sealed block: the key and the additional data by which it opens, and its nonce, ciphertext and
-- tag in one
pub record SealedBlock : Type 0 where
  pub key : List ℕ
  pub additional : List ℕ
  pub bytes : List ℕ

-- block i of a file's bytes
abbrev pub sealed_at : List ℕ → Layout → ℕ → SealedBlock
sealed_at bytes layout i = record {
  key = layout.key;
  additional = additional_data layout.prefix i;
  bytes = cipher_block bytes layout i;
}

-- how a listed file is read by the header of its object
abbrev pub layout_in : List ℕ → Listed → Layout
layout_in object f = layout_of (opening_key f) f.recorded (block_length_in object)

-- a block is the one of this number of a listed file, whose object has the recorded length and the
-- magic, and is cut by its own header
pub record IsBlockOf (files : Objects) (f : Listed) (number : ℕ) (block : SealedBlock)
    : Type 0 where
  pub object : List ℕ
  pub held : object_at files f.path ≡ Some object
  pub long : f.recorded ≤ length object
  pub begins : take 4 object ≡ magic
  pub cut : has_cut (block_length_in object) f.recorded ≡ true
  pub within : number < blocks (layout_in object f)
  pub is : block ≡ sealed_at object (layout_in object f) number

-- a block opens under its key, with its additional data
abbrev pub Opens : SealedBlock → Type 0
Opens block = IsSome (opened_cipher_block block.key block.additional block.bytes)

-- a block was committed: it is one of a file of the table
pub record IsCommitted (committed : Objects) (meta : Fields) (ring : Ring) (block : SealedBlock)
    : Type 0 where
  pub file : Listed
  pub in_table : IsInTable committed meta ring file
  pub number : ℕ
  pub is_block : IsBlockOf committed file number block

-- Block i of a listed file in the found objects is foreign: it opens, and wasn't committed.
pub record IsForeign (committed found : Objects) (meta : Fields) (ring : Ring) (f : Listed)
    (number : ℕ) (block : SealedBlock) : Type 0 where
  pub is_block : IsBlockOf found f number block
  pub opens : Opens block
  pub not_committed : IsCommitted committed meta ring block → ⊥

-- no block of these files in the found objects is foreign: each that opens was committed
abbrev pub HasNoForeignBlock : Objects → Objects → Fields → Ring → List Listed → Type 0
HasNoForeignBlock committed found meta ring listed = (f : Listed) (number : ℕ) (block : SealedBlock)
    → Contains listed f → IsBlockOf found f number block → Opens block
    → IsCommitted committed meta ring block

-- The first foreign block of files in their order: it is foreign, and none is in an earlier file,
-- or before it in its own.
pub record IsFirstForeign (committed found : Objects) (meta : Fields) (ring : Ring)
    (listed : List Listed) (f : Listed) (number : ℕ) (block : SealedBlock) : Type 0 where
  pub before : List Listed
  pub behind : List Listed
  pub order : listed ≡ before ++ f ∷ behind
  pub foreign : IsForeign committed found meta ring f number block
  pub none_in_earlier : HasNoForeignBlock committed found meta ring before
  pub none_earlier : (i : ℕ) (other : SealedBlock) → i < number → IsBlockOf found f i other
      → Opens other → IsCommitted committed meta ring other
