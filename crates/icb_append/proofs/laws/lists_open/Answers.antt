-- The laws hold.
use Rattle.icb_append.proofs.CommitLemmas.{wrapper_opens}
use Rattle.icb_append.proofs.KeyLemmas.{keys_of_commit_stay}
use Rattle.icb_append.proofs.ListLemmas.{new_list_is, old_list_stays}
use Rattle.icb_append.proofs.laws.lists_open.Goals as goal

pub returns-clause-keys : goal.returns-clause-keys
returns-clause-keys c = λ meta ring list entry s now id own.
    keys_of_commit_stay meta ring own.wrapper own.nonce list entry s now own.is_entry
    (wrapper_opens meta ring own.version own.rows own.wrapper own.is_wrapper) id

pub returns-clause-lists : goal.returns-clause-lists
returns-clause-lists c = λ meta ring list entry s now id f own was.
    old_list_stays meta ring own.wrapper own.nonce list entry s now own.is_entry
    (wrapper_opens meta ring own.version own.rows own.wrapper own.is_wrapper) id f was

pub returns-clause-own : goal.returns-clause-own
returns-clause-own c = λ meta ring list entry s now path size own unused key at object told.
    new_list_is meta ring own.wrapper own.nonce list entry s now own.is_entry
    (wrapper_opens meta ring own.version own.rows own.wrapper own.is_wrapper) path size unused key at object told
