-- A manifest is sealed where its plaintext is, with its row.
use Rattle.std.proofs.Common.{◌≡◌, length, ap, rules}
use Rattle.icb_append.specs.Records.{manifest_row}
use Rattle.icb_manifest.specs.Written.{written_manifest}
use Rattle.icb_append.proofs.SealLemmas.{records_sealed}
use Rattle.icb_append.proofs.manifests.sealed_manifest.Goals as goal

pub returns-in-Ok-manifest_row : goal.returns-in-Ok-manifest_row
returns-in-Ok-manifest_row c =
    records_sealed c.args.settings.block c.args.path.now (written_manifest c.args.of.now.schema.now c.args.of.now.spec) c.args.of.now.entries.now
    (λ meta size row. row ≡ manifest_row c.args.location.now c.args.path.now c.args.of.now.spec (length c.args.of.now.entries.now) c.args.of.now.rows meta size)
    c.args.fresh c.as_slice.result.now c.as_slice-2.result.now c.in-Ok.sealed c.in-Ok-manifest_row.row
    (search rules) (search rules) c.in-Ok.ensures
    (c.in-Ok-manifest_row.ensures (length c.in-Ok.sealed.object) (ap (λ m. m.length_told) c.in-Ok.ensures.1.own))
