-- The codec of a header.
use Rattle.std.proofs.Common.{rules, ◌≡◌, codes, true, false, Ok, Err, ap}
use Rattle.std.specs.Str.{IsUtf8, bytes_eq}
use Rattle.icb_container.specs.declared.found.PropertyValue.{PropertyValue}
use Rattle.icb_container.specs.Answers.{Refuses}
use Rattle.icb_container.specs.Header.{plain}
use Rattle.icb_container.specs.Wrong as wrong
use Rattle.icb_container.proofs.RowSchema.{codec_cases, codec_is, codec_is_no_text}
use Rattle.icb_container.proofs.schema.check_codec.Goals as goal

pub returns-in-Ok-null-clause-gives : goal.returns-in-Ok-null-clause-gives
returns-in-Ok-null-clause-gives g c = λ p e.
    let bytes : c.as_slice.result.now ≡ c.in-Some.value.bytes = search rules in
    let text : IsUtf8 c.in-Some.value.bytes = rw bytes at c.in-Ok-null.ensures.cases.1 in
    let test : bytes_eq c.in-Some.value.bytes (codes "null") ≡ true = search rules in
    codec_cases c.args.codec c.in-Some.value p (λ o. plain o ≡ Ok tt) c.in-Some.is e (λ q same.
    let value : c.in-Some.value.bytes ≡ q.value = ap (λ (v : PropertyValue). v.bytes) same in codec_is q true (rw value at text) (rw value at test))

pub returns-in-Ok-clause-gives : goal.returns-in-Ok-clause-gives
returns-in-Ok-clause-gives g c = λ p e.
    let bytes : c.as_slice.result.now ≡ c.in-Some.value.bytes = search rules in
    let text : IsUtf8 c.in-Some.value.bytes = rw bytes at c.in-Ok.ensures.cases.1 in
    let test : bytes_eq c.in-Some.value.bytes (codes "null") ≡ false = search rules in
    let name : c.in_ok-from_str-in-Ok.field-0 ≡ c.in-Some.value.bytes = search rules in
    codec_cases c.args.codec c.in-Some.value p (λ o. plain o ≡ Err (wrong.codec c.in_ok-from_str-in-Ok.field-0)) c.in-Some.is e (λ q same.
    let value : c.in-Some.value.bytes ≡ q.value = ap (λ (v : PropertyValue). v.bytes) same in rw (name, value) (codec_is q false (rw value at text) (rw value at test)))

pub returns-clause-gives : goal.returns-clause-gives
returns-clause-gives g c = λ p e.
    let bytes : c.as_slice.result.now ≡ c.in-Some.value.bytes = search rules in
    let none : IsUtf8 c.in-Some.value.bytes → ⊥ = rw bytes at c.in-Err.ensures.cases.0 in
    codec_cases c.args.codec c.in-Some.value p (λ o. Refuses c.refuse.result (plain o)) c.in-Some.is e (λ q same.
    let value : c.in-Some.value.bytes ≡ q.value = ap (λ (v : PropertyValue). v.bytes) same in
    let place : c.in-Some.value.place ≡ q.place = ap (λ (v : PropertyValue). v.place) same in
    rw (c.refuse.ensures, place) (codec_is_no_text q (rw value at none)))
