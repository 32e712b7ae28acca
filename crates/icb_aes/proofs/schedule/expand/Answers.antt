-- Each turn writes the next word over the first of the zeros.
use Rattle.std.proofs.Common.{◌≡◌, ◌∙◌, refl, ap, sym, ◌-◌, ◌/◌, ◌^◌, ◌<◌, [], get_or, length, map, arith}
use Rattle.std.specs.Prelude.{bit_xor}
use Rattle.std.proofs.Math.ListN.{length-set}
use Rattle.std.proofs.lemmas.List.{get_or-map, map-set}
use Rattle.std.proofs.lemmas.List.Elements.{All-set, All-replicate}
use Rattle.std.proofs.lemmas.Nat.{xor_of_32}
use Rattle.icb_aes.specs.Columns.{word_of}
use Rattle.icb_aes.specs.Fips197.{Word, add_words, schedule_term}
use Rattle.icb_aes.proofs.ColumnLemmas.{word_of-xor}
use Rattle.icb_aes.proofs.ScheduleLemmas.{key_words_bounds, own_step, next_step, own_words, all_words}
use Rattle.icb_aes.proofs.schedule.expand.Goals as goal

pub own-init : goal.own-init
unfolding word_of
own-init c = record { size = refl; numbers = All-replicate (λ n. n < 2 ^ 32) 60 0 (omega arith); words = refl }

pub own-preserved : goal.own-preserved
own-preserved c =
    let few = key_words_bounds (length c.args.key.now) c.requires in
    record {
      size = length-set c.own.words c.own.i c.key_word.result ∙ c.own.invariant.size;
      numbers = All-set (λ n. n < 2 ^ 32) c.own.words c.own.i c.key_word.result c.key_word.type_inv c.own.invariant.numbers;
      words = map-set word_of c.own.words c.own.i c.key_word.result
          ∙ own_step _ (map word_of c.own.words) _ _ c.own.invariant.words (omega arith) c.key_word.ensures;
    }

pub next-init : goal.next-init
next-init c = record {
  size = c.own.invariant.size;
  numbers = c.own.invariant.numbers;
  words = own_words _ _ c.own.i (length c.args.key.now / 4) c.own.invariant.words (omega arith) refl;
}

pub next-preserved : goal.next-preserved
next-preserved c =
    let few = key_words_bounds (length c.args.key.now) c.requires in
    let nk = length c.args.key.now / 4 in
    let ws = c.next.words in
    let i = c.next.i in
    let word = bit_xor (get_or ws (i - nk) 0) c.schedule_term.result in
    let size = c.next.invariant.size in
    let before : get_or (map word_of ws) (i - 1) [] ≡ word_of (get_or ws (i - 1) 0) = get_or-map word_of ws (i - 1) 0 [] (omega arith) in
    let first : get_or (map word_of ws) (i - nk) [] ≡ word_of (get_or ws (i - nk) 0) = get_or-map word_of ws (i - nk) 0 [] (omega arith) in
    record {
      size = length-set ws i word ∙ size;
      numbers = All-set (λ n. n < 2 ^ 32) ws i word
          (xor_of_32 (get_or ws (i - nk) 0) c.schedule_term.result c.next-test.element_fits.fits c.schedule_term.type_inv) c.next.invariant.numbers;
      words = map-set word_of ws i word
          ∙ next_step _ (map word_of ws) nk _ (word_of c.schedule_term.result) _ c.next.invariant.words refl (omega arith) (omega arith) (omega arith)
          (c.schedule_term.ensures ∙ ap (schedule_term nk i) (sym before))
          (word_of-xor (get_or ws (i - nk) 0) c.schedule_term.result ∙ ap (λ (w : Word). add_words w (word_of c.schedule_term.result)) (sym first));
    }

pub returns-clause-words : goal.returns-clause-words
returns-clause-words c =
    all_words _ _ c.next.i (length c.args.key.now / 4) c.next.invariant.words (omega arith) refl

pub returns-clause-numbers : goal.returns-clause-numbers
returns-clause-numbers c = c.next.invariant.numbers
