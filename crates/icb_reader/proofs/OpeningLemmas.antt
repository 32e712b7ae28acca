-- Records that are opened, by their container.
use Rattle.std.proofs.Common.{◌≡◌, ℕ, List, Result, Ok, Err, ap}
use Rattle.icb_container.specs.declared.fault.ContainerFault.{ContainerFault}
use Rattle.icb_container.specs.Wrong as inner
use Rattle.icb_container.specs.Wrong.{Wrong}
use Rattle.icb_container.specs.Answers.{Refuses}
use Rattle.icb_container.specs.Header.{Header, header_of}
use Rattle.icb_container.specs.Blocks.{State, begins}
use Rattle.icb_reader.specs.Answers.{RefusesRecord, of_container}
use Rattle.icb_reader.specs.Records.{Reading, Refusal, container, of_file, opened, opening_of, ◌>>=◌}
use Rattle.icb_reader.proofs.Refusing.{container_refuses, refuses_as}

abbrev stands : List ℕ → Result Header Wrong → Result State Wrong
stands file r = inner.◌>>=◌ r (λ h. Ok (begins file h))

abbrev refusal_err : Refusal → Result State Refusal
refusal_err v = Err v

abbrev records : List ℕ → Result Header Wrong → Result Reading Refusal
records file r = of_file r >>= (λ h. Ok (opened (begins file h)))

err_is : (v w : Refusal) → refusal_err v ≡ Err w → v ≡ w
err_is v w e = cc

both_refuse : (file : List ℕ) (r : Result Header Wrong) (w : Refusal) → of_file (stands file r) ≡ Err w → records file r ≡ Err w
both_refuse file (Ok h) w e = absurd cc
both_refuse file (Err x) w e = ap (λ (v : Refusal). Err v) (err_is (container x) w e)

pub opening_refuses : {F : Type 0} (file : List ℕ) (e : ContainerFault F) → Refuses e (stands file (header_of file)) → RefusesRecord (of_container e) (opening_of file)
unfolding opening_of
opening_refuses file e h = refuses_as (of_container e) (of_file (stands file (header_of file))) (records file (header_of file)) (both_refuse file (header_of file)) (container_refuses e (stands file (header_of file)) h)

both_stand : (file : List ℕ) (r : Result Header Wrong) (s : State) → stands file r ≡ Ok s → records file r ≡ Ok (opened s)
both_stand file (Ok h) s e = let same : begins file h ≡ s = cc in ap (λ (t : State). Ok (opened t)) same
both_stand file (Err x) s e = absurd cc

pub opening_stands : (file : List ℕ) (s : State) → stands file (header_of file) ≡ Ok s → opening_of file ≡ Ok (opened s)
unfolding opening_of
opening_stands file s e = both_stand file (header_of file) s e
