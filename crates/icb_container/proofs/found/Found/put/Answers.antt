-- One more property.
use Rattle.std.proofs.Common.{◌≡◌, true, false, codes, rules}
use Rattle.std.specs.Str.{bytes_eq}
use Rattle.icb_container.specs.Header.{Property}
use Rattle.icb_container.proofs.KeptProperties.{codec_is_kept, none_is_kept, schema_is_kept}
use Rattle.icb_container.proofs.found.Found.put.Goals as goal

pub returns-then-eq : goal.returns-then-eq
returns-then-eq c = λ ps kept.
    let p : Property = record { key = c.args.key.now; value = c.args.value.bytes; place = c.args.value.place } in
    let test : bytes_eq c.args.key.now (codes "avro.schema") ≡ true = search rules in
    schema_is_kept c.args.self.now ps p test kept

pub returns-then-eq-2 : goal.returns-then-eq-2
returns-then-eq-2 c = λ ps kept.
    let p : Property = record { key = c.args.key.now; value = c.args.value.bytes; place = c.args.value.place } in
    let no_schema : bytes_eq c.args.key.now (codes "avro.schema") ≡ false = search rules in
    let test : bytes_eq c.args.key.now (codes "avro.codec") ≡ true = search rules in
    codec_is_kept c.args.self.now ps p no_schema test kept

pub returns-else-eq-2 : goal.returns-else-eq-2
returns-else-eq-2 c = λ ps kept.
    let p : Property = record { key = c.args.key.now; value = c.args.value.bytes; place = c.args.value.place } in
    let no_schema : bytes_eq c.args.key.now (codes "avro.schema") ≡ false = search rules in
    let no_codec : bytes_eq c.args.key.now (codes "avro.codec") ≡ false = search rules in
    none_is_kept c.args.self.now ps p no_schema no_codec kept
