-- What `run` answers and does: one line a command, and each command's record in a file of its own.
use Rattle.std.specs.Prelude.{ℕ, Result, Ok, Err}
use Rattle.icb_run.specs.Append.{IsAppend}
use Rattle.icb_run.specs.CatFile.{IsCatFile}
use Rattle.icb_run.specs.Create.{IsCreate}
use Rattle.icb_run.specs.Keys.{IsKeys}
use Rattle.icb_run.specs.Outside.{Outside}
use Rattle.icb_run.specs.Rotate.{IsRotate}
use Rattle.icb_run.specs.Scan.{IsScan}
use Rattle.icb_run.specs.SealFile.{IsSealFile}
use Rattle.icb_run.specs.Snapshots.{IsSnapshots}
use Rattle.icb_run.specs.Texts.{IsText, help_text, version_text}
use Rattle.icb_run.specs.Usage.{IsUsage}
use Rattle.icb_run.specs.declared.status.Status.{Status}
use Rattle.icb_words.specs.declared.words.Command.{Command}
use Rattle.icb_words.specs.declared.words.Command.TheVariants as command

-- what the words mean was done: of a command, or of the position of a word that has no place
abbrev pub Meets : Result Command ℕ → Outside → Outside → Status → Type 0
Meets (Err word) = IsUsage word
Meets (Ok command.Help) = IsText help_text
Meets (Ok command.Version) = IsText version_text
Meets (Ok (command.CatFile words)) = IsCatFile words
Meets (Ok (command.SealFile words)) = IsSealFile words
Meets (Ok (command.Create words)) = IsCreate words
Meets (Ok command.Append) = IsAppend
Meets (Ok (command.Scan words)) = IsScan words
Meets (Ok (command.Rotate words)) = IsRotate words
Meets (Ok command.Snapshots) = IsSnapshots
Meets (Ok command.Keys) = IsKeys
