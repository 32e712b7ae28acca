-- When the counts of the outside say how a command ended.
use Rattle.std.proofs.Common.{◌≡◌, ◌≢◌, ◌≤◌, ◌⊎◌, ℕ, inl, inr, refl, arith}
use Rattle.icb_base.specs.Causes.{Blames, Rose}
use Rattle.icb_run.specs.Outside.{FaultsEnd, MayBlame, Outside}
use Rattle.icb_run.specs.declared.status.Status.{Status}
use Rattle.icb_run.specs.declared.status.Status.TheVariants as status

-- a count that stayed
pub stayed : {fault : Type 0} (before now : ℕ) → now ≡ before → MayBlame fault before now
stayed before now same = record { later = omega (arith, same); stays = λ _. same }

-- a count that rose where calls ended with a fault
pub may_blame : {fault : Type 0} (before now : ℕ) → Blames fault before now → MayBlame fault before now
may_blame before now blames = record { later = blames.later; stays = blames.stays }

-- a command that uses the table, the input, the draws and the output
pub four_end : (before now : Outside) (s : Status)
    → Blames (s ≡ status.StoreFault) before.faults.table now.faults.table
    → Blames (s ≡ status.InputFault) before.faults.input now.faults.input
    → Blames (s ≡ status.RandomFault) before.faults.draws now.faults.draws
    → Blames (s ≡ status.OutputFault) before.faults.out now.faults.out
    → now.faults.genuine ≡ before.faults.genuine → now.faults.keys ≡ before.faults.keys
    → now.faults.trusted ≡ before.faults.trusted → FaultsEnd before now s
four_end before now s table input draws out genuine keys trusted = record {
  store = λ is. inl (table.rose is);
  source = λ is. inl (input.rose is);
  table = may_blame before.faults.table now.faults.table table;
  genuine = stayed before.faults.genuine now.faults.genuine genuine;
  input = may_blame before.faults.input now.faults.input input;
  keys = stayed before.faults.keys now.faults.keys keys;
  trusted = stayed before.faults.trusted now.faults.trusted trusted;
  draws = draws;
  out = out;
}

-- a command that uses the table, the keyring, the draws and the output
pub keyring_end : (before now : Outside) (s : Status)
    → Blames (s ≡ status.StoreFault) before.faults.table now.faults.table
    → Blames (s ≡ status.InputFault) before.faults.keys now.faults.keys
    → Blames (s ≡ status.RandomFault) before.faults.draws now.faults.draws
    → Blames (s ≡ status.OutputFault) before.faults.out now.faults.out
    → now.faults.genuine ≡ before.faults.genuine → now.faults.input ≡ before.faults.input
    → now.faults.trusted ≡ before.faults.trusted → FaultsEnd before now s
keyring_end before now s table keys draws out genuine input trusted = record {
  store = λ is. inl (table.rose is);
  source = λ is. inr (inl (keys.rose is));
  table = may_blame before.faults.table now.faults.table table;
  genuine = stayed before.faults.genuine now.faults.genuine genuine;
  input = stayed before.faults.input now.faults.input input;
  keys = may_blame before.faults.keys now.faults.keys keys;
  trusted = stayed before.faults.trusted now.faults.trusted trusted;
  draws = draws;
  out = out;
}

-- a command that uses the table, the keyring, metadata that it is handed, and the output
pub metadata_end : (before now : Outside) (s : Status)
    → Blames (s ≡ status.StoreFault) before.faults.table now.faults.table
    → MayBlame (s ≡ status.InputFault) before.faults.keys now.faults.keys
    → MayBlame (s ≡ status.InputFault) before.faults.trusted now.faults.trusted
    → (s ≡ status.InputFault → Rose before.faults.keys now.faults.keys ⊎ Rose before.faults.trusted now.faults.trusted)
    → Blames (s ≡ status.RandomFault) before.faults.draws now.faults.draws
    → Blames (s ≡ status.OutputFault) before.faults.out now.faults.out
    → now.faults.genuine ≡ before.faults.genuine → now.faults.input ≡ before.faults.input
    → FaultsEnd before now s
metadata_end before now s table keys trusted rose draws out genuine input = record {
  store = λ is. inl (table.rose is);
  source = λ is. inr (rose is);
  table = may_blame before.faults.table now.faults.table table;
  genuine = stayed before.faults.genuine now.faults.genuine genuine;
  input = stayed before.faults.input now.faults.input input;
  keys = keys;
  trusted = trusted;
  draws = draws;
  out = out;
}

-- a command that uses the table, the input, the keyring, the draws and the output
pub input_end : (before now : Outside) (s : Status)
    → Blames (s ≡ status.StoreFault) before.faults.table now.faults.table
    → MayBlame (s ≡ status.InputFault) before.faults.input now.faults.input
    → MayBlame (s ≡ status.InputFault) before.faults.keys now.faults.keys
    → (s ≡ status.InputFault → Rose before.faults.input now.faults.input ⊎ Rose before.faults.keys now.faults.keys)
    → Blames (s ≡ status.RandomFault) before.faults.draws now.faults.draws
    → Blames (s ≡ status.OutputFault) before.faults.out now.faults.out
    → now.faults.genuine ≡ before.faults.genuine → now.faults.trusted ≡ before.faults.trusted
    → FaultsEnd before now s
input_end before now s table input keys rose draws out genuine trusted = record {
  store = λ is. inl (table.rose is);
  source = λ is. either_source (rose is);
  table = may_blame before.faults.table now.faults.table table;
  genuine = stayed before.faults.genuine now.faults.genuine genuine;
  input = input;
  keys = keys;
  trusted = stayed before.faults.trusted now.faults.trusted trusted;
  draws = draws;
  out = out;
}
  where
    either_source : {A B C : Type 0} → A ⊎ B → A ⊎ B ⊎ C
    either_source (inl a) = inl a
    either_source (inr b) = inr (inl b)

-- a count that stayed where no such fault was answered
pub unblamed : {fault : Type 0} (before now : ℕ) → now ≡ before → (fault → ⊥) → Blames fault before now
unblamed before now same other = record {
  later = omega (arith, same);
  rose = λ is. absurd (other is);
  stays = λ _. same;
}

-- a count that rose where the fault was answered
pub blamed : {fault : Type 0} (before now : ℕ) → before ≤ now → Rose before now → fault → Blames fault before now
blamed before now later rose is = record {
  later = later;
  rose = λ _. rose;
  stays = λ other. absurd (other is);
}

-- what is blamed for one fault is blamed for another that comes exactly where it does
pub blames_as : {fault other : Type 0} (before now : ℕ) → (fault → other) → (other → fault)
    → Blames fault before now → Blames other before now
blames_as before now there back blames = record {
  later = blames.later;
  rose = λ is. blames.rose (back is);
  stays = λ is_not. blames.stays (λ is. is_not (there is));
}

-- no call of the outside, and no fault of it
pub end_at_rest : (o : Outside) (s : Status) → s ≢ status.StoreFault → s ≢ status.InputFault
    → s ≢ status.RandomFault → s ≢ status.OutputFault → FaultsEnd o o s
end_at_rest o s store input random output = four_end o o s
    (unblamed o.faults.table o.faults.table refl store) (unblamed o.faults.input o.faults.input refl input)
    (unblamed o.faults.draws o.faults.draws refl random) (unblamed o.faults.out o.faults.out refl output)
    refl refl refl
