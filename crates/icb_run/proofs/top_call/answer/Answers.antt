-- Words that are no command, and want of memory while they are read: nothing was done.
use Rattle.std.proofs.Common.{◌≡◌, Err, refl, map, rules, string_bytes}
use Rattle.icb_words.specs.Words.{command_of}
use Rattle.icb_run.proofs.CommandLemmas.{no_memory_meets, no_memory_reads}
use Rattle.icb_run.proofs.EndLemmas.{end_at_rest}
use Rattle.icb_run.proofs.top_call.answer.Goals as goal

pub returns-in-Err-NoPlace : goal.returns-in-Err-NoPlace
returns-in-Err-NoPlace g c =
    let meaning : command_of (map string_bytes c.args.words.now) ≡ Err c.in-Err-NoPlace.word = search rules in
    rw meaning (record {
      meets = record { position = search rules; same = refl };
      read = record { input = refl; keys = refl; trusted = refl };
      ends = end_at_rest _ _ (λ is. cc) (λ is. cc) (λ is. cc) (λ is. cc);
      same_time = refl;
      same_table = refl;
      same_genuine = refl;
      same_input = refl;
      same_keys = refl;
      same_trusted = refl;
      same_draws = refl;
      same_out = refl;
    })

pub returns-in-Err-NoMemory : goal.returns-in-Err-NoMemory
returns-in-Err-NoMemory g c = record {
  meets = no_memory_meets (command_of (map string_bytes c.args.words.now)) _;
  read = no_memory_reads (command_of (map string_bytes c.args.words.now)) _;
  ends = end_at_rest _ _ (λ is. cc) (λ is. cc) (λ is. cc) (λ is. cc);
  same_time = refl;
  same_table = refl;
  same_genuine = refl;
  same_input = refl;
  same_keys = refl;
  same_trusted = refl;
  same_draws = refl;
  same_out = refl;
}
