-- A refusal that a definition gives first is what it gives.
use Rattle.std.proofs.Common.{◌≡◌, Result, Ok, Err, IfOk, refl}
use Rattle.icb_container.specs.declared.fault.ContainerFault.{ContainerFault}
use Rattle.icb_container.specs.declared.fault.ContainerFault.TheVariants as fault
use Rattle.icb_container.specs.Wrong as wrong
use Rattle.icb_container.specs.Wrong.{Wrong, ◌>>=◌}
use Rattle.icb_container.specs.Answers.{Refuses}
use Rattle.icb_container.specs.Items.{SaysNothing}

-- what refuses as something else does
pub refuses_as : {A B F : Type 0} (e : ContainerFault F) (r : Result A Wrong) (s : Result B Wrong) → ((w : Wrong) → r ≡ Err w → s ≡ Err w) → Refuses e r → Refuses e s
refuses_as (fault.Reader f) r s all h = tt
refuses_as fault.NotAvro r s all h = all wrong.not_avro h
refuses_as (fault.Avro f) r s all h = all (wrong.avro f.place f.cause) h
refuses_as (fault.Large what place size) r s all h = all (wrong.large what place size) h
refuses_as (fault.Codec name) r s all h = all (wrong.codec name) h
refuses_as (fault.Schema f) r s all h = all (wrong.schema f) h
refuses_as (fault.Sync block) r s all h = all (wrong.sync block) h
refuses_as fault.NoMemory r s all h = tt

-- a refusal before anything else
pub refuses_first : {A B F : Type 0} (e : ContainerFault F) (r : Result A Wrong) (f : A → Result B Wrong) → Refuses e r → Refuses e (r >>= f)
refuses_first e r f h = refuses_as e r (r >>= f) (λ w is. rw is refl) h

-- a refusal behind something that was read
pub refuses_behind : {A B F : Type 0} (e : ContainerFault F) (r : Result A Wrong) (f : A → Result B Wrong) (x : A) → r ≡ Ok x → Refuses e (f x) → Refuses e (r >>= f)
refuses_behind e r f x is h = refuses_as e (f x) (r >>= f) (λ w e. rw (is, e) refl) h

-- what says nothing of the file refuses as anything
pub of_reader : {B F : Type 0} (e : ContainerFault F) (r : Result B Wrong) → SaysNothing e → Refuses e r
of_reader (fault.Reader f) r is = tt
of_reader fault.NotAvro r is = absurd is
of_reader (fault.Avro f) r is = absurd is
of_reader (fault.Large what place size) r is = absurd is
of_reader (fault.Codec name) r is = absurd is
of_reader (fault.Schema f) r is = absurd is
of_reader (fault.Sync block) r is = absurd is
of_reader fault.NoMemory r is = tt

-- what follows from a fact of an answer
pub ok_more : {A E : Type 0} (r : Result A E) (P Q : A → Type 0) → ((x : A) → P x → Q x) → IfOk r P → IfOk r Q
ok_more (Ok x) P Q more p = more x p
ok_more (Err e) P Q more p = tt
