-- The fields one after another are the written form.
use Rattle.icb_keymeta.proofs.WrittenLemmas.{encoded_is, fields_put, same_bytes}
use Rattle.icb_keymeta.proofs.encoding.put.Goals as goal

pub returns-clause-written : goal.returns-clause-written
returns-clause-written c =
    same_bytes c.put_length.result c.put_length.new.out _ _
    (fields_put c.args.out.now c.push.new.self c.put_bytes.new.out c.put_prefix.new.out _ _ _ _
    c.in_ok-push.ensures.ok c.in_ok-put_bytes.ensures c.in_ok-put_prefix.ensures.written
    (rw (c.key.ensures.key, c.prefix.ensures, c.length.ensures.length) (encoded_is c.args.meta.now)))
    c.put_length.ensures
