-- A text of too many keys was read to its end, behind which nothing stands.
use Rattle.icb_run.proofs.KeyringLemmas.{read_many}
use Rattle.icb_run.proofs.keyring_input.read_keyring.Goals as goal

pub returns-in-Err-Many-clause-read : goal.returns-in-Err-Many-clause-read
returns-in-Err-Many-clause-read g c =
    read_many (g.K.Source.left c.args.keys.now) (g.K.Source.left c.read_to_end.new.input) c.in-Ok.text c.in-Ok.ensures.read
    (rw (c.as_slice.ensures, c.in-Err-Many.field-0-is) at c.in-Err-Many.ensures)
