-- The lemmas of opening.
use Rattle.icb_gcm.specs.Gcm.{crypted, tag_of}
use Rattle.icb_gcm.proofs.GcmLemmas.{SealsTo_from_opened, SealsTo_itself, none_from_all, none_sealed, opened_from_SealsTo, same_pair}
use Rattle.icb_gcm.proofs.laws.opening_laws.Goals as goal

pub returns : goal.returns
returns c = record {
  opens_exactly_what_was_sealed = λ key nonce aad ciphertext tag text. (
    SealsTo_from_opened key nonce aad ciphertext tag text,
    opened_from_SealsTo key nonce aad ciphertext tag text,
  );
  opens_nothing_else = λ key nonce aad ciphertext tag. (
    (λ none text seals. none_sealed key nonce aad ciphertext tag text none seals),
    (λ all. none_from_all _ (λ text opens. all text (SealsTo_from_opened key nonce aad ciphertext tag text opens))),
  );
  what_was_sealed_opens = λ key nonce aad text fits.
      let seals = SealsTo_itself key nonce aad text fits in (
        crypted key nonce text,
        (
          tag_of key nonce aad (crypted key nonce text),
          (
            seals,
            opened_from_SealsTo key nonce aad (crypted key nonce text) (tag_of key nonce aad (crypted key nonce text)) text seals,
          ),
        ),
      );
  one_text_is_opened_from_one_pair = same_pair;
}
