-- The written form is read back.
use Rattle.icb_keymeta.proofs.WrittenLemmas.{encoded_again}
use Rattle.icb_keymeta.proofs.encoding.encode.Goals as goal

pub returns-in-Ok-clause-read_back : goal.returns-in-Ok-clause-read_back
returns-in-Ok-clause-read_back c =
    rw (c.from_vec.ensures, c.into_vec.ensures, c.in-Ok.ensures.written, c.new-out.ensures)
    (encoded_again c.args.meta.now c.in-Ok.ensures.form c.in-Ok.ensures.below)
