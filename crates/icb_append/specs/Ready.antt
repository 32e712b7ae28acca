-- What is known of a version to which a snapshot is added (ours).
use Rattle.std.specs.Prelude.{◌≡◌, ◌<◌, ℕ, ℤ, pos, int_lt, true, None}
use Rattle.icb_meta.specs.Answers.{shown_of}
use Rattle.icb_meta.specs.Forms.{snapshot_named}
use Rattle.icb_meta.specs.declared.table.TableMeta.{TableMeta}
use Rattle.icb_tree.specs.Versions.{most_versions}
use Rattle.icb_append.specs.Committing.{HasRoomFor}

-- one more version, and so many more rows, are within the limits, and the new snapshot's id is
-- above 0 and new
pub record IsReady (version : ℕ) (meta : TableMeta) (id : ℤ) (rows : ℕ) : Type 0 where
  pub few : version < most_versions
  pub room : HasRoomFor (shown_of meta) rows
  pub unused : snapshot_named id (shown_of meta).state.snapshots ≡ None
  pub above : int_lt (pos 0) id ≡ true
