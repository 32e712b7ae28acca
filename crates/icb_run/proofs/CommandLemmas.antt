-- Where memory is wanting before a command's work, nothing was done.
use Rattle.std.proofs.Common.{ℕ, [], Result, Ok, Err, inl, inr, refl}
use Rattle.icb_run.specs.Append as append_told
use Rattle.icb_run.specs.Commands.{Meets}
use Rattle.icb_run.specs.Keyrings.{keyring_of}
use Rattle.icb_run.specs.Listing.{IsListing}
use Rattle.icb_run.specs.Metadata.{metadata_told}
use Rattle.icb_run.specs.Scan.{query_of}
use Rattle.icb_run.specs.Outside.{Outside}
use Rattle.icb_run.specs.Rotate.{told_of}
use Rattle.icb_run.specs.Sources.{SourcesAreRead}
use Rattle.icb_run.specs.declared.listing.Listing.{Listing}
use Rattle.icb_run.specs.declared.listing.Listing.TheVariants as listing
use Rattle.icb_run.specs.declared.status.Status.TheVariants as status
use Rattle.icb_words.specs.declared.words.Command.{Command}
use Rattle.icb_words.specs.declared.words.Command.TheVariants as command
use Rattle.icb_run.proofs.AnswerLemmas.{wrote_nothing}
use Rattle.icb_run.proofs.AppendLemmas as append
use Rattle.icb_run.proofs.ScanLemmas.{early_answers, leaves_nothing}
use Rattle.icb_run.proofs.RotateLemmas.{early_answer}
use Rattle.icb_run.proofs.SealLemmas.{drew_nothing}
use Rattle.icb_run.proofs.ToldLemmas.{told_as, unless_told}

-- nothing was listed
not_listed : (which : Listing) (o : Outside) → IsListing which o o status.NoMemory
not_listed which o = record { answered = unless_told o.table (λ files. inr (inr (tt, refl))); rest = refl }

-- want of memory answers any command, where nothing was done yet
pub no_memory_meets : (meaning : Result Command ℕ) (o : Outside) → Meets meaning o o status.NoMemory
no_memory_meets (Err word) o = record { position = inr refl; same = refl }
no_memory_meets (Ok command.Help) o = record { written = inr (inr (tt, refl)); rest = refl }
no_memory_meets (Ok command.Version) o = record { written = inr (inr (tt, refl)); rest = refl }
no_memory_meets (Ok (command.CatFile words)) o =
    record { answered = unless_told o.table (λ files. inr (tt, wrote_nothing o.out _)); rest = refl }
no_memory_meets (Ok command.Append) o = record {
  answered = unless_told o.keys (λ keyring. unless_told o.input (λ lines.
      append.early_answer (keyring_of keyring) lines o.now_ms (append_told.told_of o) status.NoMemory tt));
  rest = refl;
}
no_memory_meets (Ok (command.Scan words)) o = record {
  answered = unless_told o.keys (λ keyring. unless_told (metadata_told words.is_handed_in o.table o.trusted)
      (λ meta. early_answers o.table (query_of words) (keyring_of keyring) meta o.out status.NoMemory tt));
  rest = refl;
}
no_memory_meets (Ok (command.Rotate words)) o = record {
  answered = unless_told o.keys
      (λ keyring. early_answer words.master (keyring_of keyring) o.now_ms (told_of o) status.NoMemory tt);
  rest = refl;
}
no_memory_meets (Ok command.Snapshots) o = not_listed listing.Snapshots o
no_memory_meets (Ok command.Keys) o = not_listed listing.Keys o
no_memory_meets (Ok (command.Create words)) o = record {
  drawn = [];
  object = [];
  drew = drew_nothing o.drawn;
  table = told_as o.table (λ files is. is);
  made = unless_told o.keys (λ text. inl refl);
  stands = unless_told o.table (λ files. unless_told o.keys (λ text. tt));
  answered = unless_told o.table (λ files. unless_told o.keys (λ text. inr (inr (tt, refl))));
  rest = refl;
}
no_memory_meets (Ok (command.SealFile words)) o = record {
  drawn = [];
  object = [];
  drew = drew_nothing o.drawn;
  table = told_as o.table (λ files is. is);
  sealed = unless_told o.input (λ text. inl refl);
  answered = unless_told o.table (λ files. unless_told o.input (λ text. inr (inr (tt, refl))));
  rest = refl;
}

-- and no source was read
pub no_memory_reads : (meaning : Result Command ℕ) (o : Outside) → SourcesAreRead meaning o o status.NoMemory
no_memory_reads (Err word) o = record { input = refl; keys = refl; trusted = refl }
no_memory_reads (Ok command.Help) o = record { input = refl; keys = refl; trusted = refl }
no_memory_reads (Ok command.Version) o = record { input = refl; keys = refl; trusted = refl }
no_memory_reads (Ok (command.CatFile words)) o = record { input = refl; keys = refl; trusted = refl }
no_memory_reads (Ok command.Append) o = record {
  input = unless_told o.keys (λ keyring. append.unread_input (keyring_of keyring) o.input);
  keys = tt;
  trusted = refl;
}
no_memory_reads (Ok (command.Scan words)) o =
    record { input = refl; keys = tt; trusted = leaves_nothing words.is_handed_in o.trusted }
no_memory_reads (Ok (command.Rotate words)) o = record { input = refl; keys = tt; trusted = refl }
no_memory_reads (Ok command.Snapshots) o = record { input = refl; keys = refl; trusted = refl }
no_memory_reads (Ok command.Keys) o = record { input = refl; keys = refl; trusted = refl }
no_memory_reads (Ok (command.SealFile words)) o = record { input = tt; keys = refl; trusted = refl }
no_memory_reads (Ok (command.Create words)) o = record { input = refl; keys = tt; trusted = refl }
