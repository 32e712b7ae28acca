-- No memory was left for the path.
use Rattle.std.proofs.Common.{◌≡◌, length}
use Rattle.icb_manifest.specs.Written.{written_manifest}
use Rattle.icb_meta.specs.Answers.{shown_of}
use Rattle.icb_append.specs.Drafts.{location_for, settings_for}
use Rattle.icb_append.specs.Paths.{manifest_path}
use Rattle.icb_append.specs.Records.{manifest_row}
use Rattle.icb_append.specs.Sealed.{IsSealed, may_be_put}
use Rattle.icb_append.proofs.PutLemmas.{not_begun}
use Rattle.icb_append.proofs.draft.Draft.put_entries.Goals as goal

pub returns-in_default : goal.returns-in_default
returns-in_default g c =
    not_begun g.S.Store g.D.Draws (settings_for c.args.tried.now).key (manifest_path c.args.self.now.unique)
    (λ key marker object meta. IsSealed (settings_for c.args.tried.now).block (manifest_path c.args.self.now.unique)
    (written_manifest (shown_of c.args.tried.now.meta).layout.schema (shown_of c.args.tried.now.meta).layout.spec c.args.self.now.entries marker) key object meta)
    (may_be_put (written_manifest (shown_of c.args.tried.now.meta).layout.schema (shown_of c.args.tried.now.meta).layout.spec) c.args.self.now.entries)
    (λ meta size row. row ≡ manifest_row (location_for c.args.tried.now) (manifest_path c.args.self.now.unique)
    (shown_of c.args.tried.now.meta).layout.spec (length c.args.self.now.entries) c.args.tried.now.rows meta size)
    c.args.store.now c.args.draws.now (g.met.S.Store.kept_at_rest c.args.store.now)
