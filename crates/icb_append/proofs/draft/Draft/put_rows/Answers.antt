-- No memory was left for the path.
use Rattle.std.proofs.Common.{◌≡◌}
use Rattle.icb_append.specs.Data.{IsDataObject, file_record, is_file}
use Rattle.icb_append.specs.Drafts.{columns_for, location_for, next_path, next_rows, settings_for}
use Rattle.icb_append.proofs.PutLemmas.{not_begun}
use Rattle.icb_append.proofs.draft.Draft.put_rows.Goals as goal

pub returns-in_default : goal.returns-in_default
returns-in_default g c =
    not_begun g.S.Store g.D.Draws (settings_for c.args.tried.now).key (next_path c.args.self.now)
    (λ key marker object meta. IsDataObject (settings_for c.args.tried.now) (columns_for c.args.tried.now)
    (next_rows c.args.self.now c.args.tried.now) (next_path c.args.self.now) marker key object meta)
    (λ marker. is_file (settings_for c.args.tried.now) (columns_for c.args.tried.now) (next_rows c.args.self.now c.args.tried.now) marker)
    (λ meta size made. made ≡ file_record (location_for c.args.tried.now) (next_path c.args.self.now)
    (columns_for c.args.tried.now) (next_rows c.args.self.now c.args.tried.now) meta size)
    c.args.store.now c.args.draws.now (g.met.S.Store.kept_at_rest c.args.store.now)
