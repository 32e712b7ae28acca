-- What a keyring that was read says of its text.
use Rattle.std.proofs.Common.{◌≡◌, ◌∙◌, ◌+◌, ◌≤◌, ℕ, List, [], length, drop, true, false, Bool, Result, Ok, Err, Option, Some, refl, sym, ap, arith}
use Rattle.std.specs.Prelude.{nat_lt}
use Rattle.std.proofs.lemmas.Bool.{le-ltb, ltb-false}
use Rattle.std.proofs.lemmas.List.{drop_all}
use Rattle.std.specs.Prelude.{IfSome}
use Rattle.icb_chain.specs.Ring.{Ring, ring_of}
use Rattle.icb_chain.specs.declared.fault.KeyringFault.{KeyringFault}
use Rattle.icb_chain.specs.declared.fault.KeyringFault.TheVariants as ring
use Rattle.icb_run.specs.Inputs.{ReadsAll}
use Rattle.icb_run.specs.Keyrings.{ReadsKeyring, from_ring, keyring_limit, keyring_of, most_keys}
use Rattle.icb_run.specs.declared.keyring_input.KeysFault.TheVariants as keys
use Rattle.icb_run.proofs.ToldLemmas.{where_told}

-- a text that isn't too long is what its lines are
pub short_text : (text : List ℕ) → length text ≤ keyring_limit → keyring_of text ≡ from_ring (ring_of text)
short_text text short = rw (le-ltb keyring_limit (length text) short) refl

-- where it is a keyring it is short
pub ring_short : (text : List ℕ) (found : Ring) → keyring_of text ≡ Ok found → length text ≤ keyring_limit
ring_short text found is = by_test (nat_lt keyring_limit (length text)) refl
  where
    by_test : (long : Bool) → nat_lt keyring_limit (length text) ≡ long → length text ≤ keyring_limit
    by_test false test = ltb-false keyring_limit (length text) test
    by_test true test =
        let refused : keyring_of text ≡ Err (keys.Limit keyring_limit) = rw test refl in
        absurd (let never : Err (keys.Limit keyring_limit) ≡ Ok found = sym refused ∙ is in cc)

-- nothing stands behind the limit of a short text
pub none_behind : (n : ℕ) (text : List ℕ) → length text ≤ n → [] ≡ drop (n + 1) text
none_behind n text short = sym (drop_all (n + 1) text (omega (arith, short)))

-- the keyring of a text that was read whole is what its lines are
read_so : (left text : List ℕ) (now : Option (List ℕ)) (lines : Result Ring KeyringFault)
    → ReadsAll left keyring_limit now (Ok text) → ring_of text ≡ lines → keyring_of left ≡ from_ring lines
read_so left text now lines reads is =
    short_text left reads.1 ∙ ap (λ (xs : List ℕ). from_ring (ring_of xs)) (sym reads.0) ∙ ap from_ring is

-- a keyring with too many keys
pub read_many : (told now : Option (List ℕ)) (text : List ℕ)
    → IfSome told (λ left. ReadsAll left keyring_limit now (Ok text)) → ring_of text ≡ Err ring.Many
    → IfSome told (λ left. ReadsKeyring left now (Err (keys.Limit most_keys)))
read_many told now text reads is = where_told told (λ left all. (
  read_so left text now (Err ring.Many) all is,
  all.2 ∙ ap Some (none_behind keyring_limit left all.1),
)) reads
