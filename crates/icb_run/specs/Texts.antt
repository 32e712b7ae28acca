-- The commands that write a text of the program's own.
use Rattle.std.specs.Prelude.{ℕ, List}
use Rattle.icb_run.specs.Answers.{LeavesAllButOut, Prints}
use Rattle.icb_run.specs.Outside.{Outside}
use Rattle.icb_run.specs.declared.texts.TheConstants.{HELP, VERSION}
use Rattle.icb_run.specs.declared.status.Status.{Status}
use Rattle.icb_run.specs.declared.status.Status.TheVariants as status

-- how the program is called
abbrev pub help_text : List ℕ
help_text = HELP.now

-- the program's name and version
abbrev pub version_text : List ℕ
version_text = VERSION.now

-- the text is written, and all else is as it was
pub record IsText (text : List ℕ) (before now : Outside) (answer : Status) : Type 0 where
  pub written : Prints (record { status = status.Ok; text = text }) before.out now.out answer
  pub rest : LeavesAllButOut before now
