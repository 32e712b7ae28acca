-- The written form is an open stream of the plaintext.
use Rattle.std.proofs.Common.{◌≡◌, List, ℕ, Some, length, ap, sym, subst, ◌∙◌, arith}
use Rattle.std.proofs.lemmas.List.{take_at}
use Rattle.icb_base.specs.KeyMetadata.{KeyRecord}
use Rattle.icb_seal.specs.Keys.{SealerValue}
use Rattle.icb_stream.specs.Sealing.{IsStreamOf, stream_bytes}
use Rattle.icb_stream.proofs.SealingLemmas.{stream_is_open}
use Rattle.icb_stream.proofs.sealing.seal_stream.Goals as goal

pub returns-clause-stream : goal.returns-clause-stream
returns-clause-stream c =
    let eight : length c.args.key.seed ≡ 8 =
    sym (ap (λ s. length s.seed) c.in-Ok.ensures.ok) ∙ c.in-Ok.ensures.is_file_key.seed_length in
    let size : length c.write_stream.new.bytes ≡ c.in-Ok-vec.bytes.len =
    omega (arith, c.write_stream.auto.bytes, c.as_mut_slice.ensures.len) in
    let whole : c.write_stream.new.bytes ≡ c.from_vec.result =
    sym (c.from_vec.ensures ∙ take_at c.write_stream.new.bytes _ c.in-Ok-vec.bytes.len size) in
    let bytes : stream_bytes c.args.key.key c.args.prefix.now c.args.key.seed c.args.block c.args.plain.now
    ≡ Some c.from_vec.result =
    ap (λ s. stream_bytes s.key s.prefix s.seed c.args.block c.args.plain.now) (sym c.in-Ok.ensures.ok)
    ∙ c.write_stream.ensures.bytes ∙ ap (λ (xs : List ℕ). Some xs) whole in
    let made : SealerValue → KeyRecord = λ s. record {
      key = s.key;
      prefix = Some s.prefix;
      length_told = Some c.stream_length-length.result;
    } in
    let meta : KeyRecord = record {
      key = c.args.key.key;
      prefix = Some c.args.prefix.now;
      length_told = Some c.stream_length-length.result;
    } in
    let same : c.finish-meta.result ≡ meta =
    c.finish-meta.ensures ∙ ap made c.write_stream.ensures.same_file ∙ ap made c.in-Ok.ensures.ok in
    let P : KeyRecord → Type 0 = λ m. IsStreamOf m c.args.plain.now c.args.block c.from_vec.result in
    subst P (sym same) (stream_is_open meta c.args.key.seed c.args.plain.now c.from_vec.result c.args.block eight
    c.requires.some c.requires.most c.requires.fits bytes)
