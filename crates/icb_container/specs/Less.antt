-- Readers of which less is known than of others, and what answers say of a file.
use Rattle.std.specs.Prelude.{ℕ, ◌≡◌, List, Option, Some, None, option_map, Result, Ok, Err}
use Rattle.icb_base.specs.Contents.{KnowsNoMore}
use Rattle.icb_container.specs.declared.fault.ContainerFault.{ContainerFault}
use Rattle.icb_container.specs.declared.fault.ContainerFault.TheVariants as fault
use Rattle.icb_container.specs.Blocks.{State}
use Rattle.icb_container.specs.Opened.{Opened, state_of}
use Rattle.icb_container.specs.Wrong as wrong
use Rattle.icb_container.specs.Wrong.{Wrong}

-- less is known: whatever may be the content over more, something that knows no more may be the
-- content over less
abbrev pub LessIsKnown : (List (Option ℕ) → Type 0) → (List (Option ℕ) → Type 0) → Type 0
LessIsKnown less more = (all : List (Option ℕ)) → more all
    → (known : List (Option ℕ)) × less known × KnowsNoMore known all

-- what a fault says of the file: nothing where it is the reader's, or of memory
abbrev pub wrong_of : {F : Type 0} → ContainerFault F → Option Wrong
wrong_of (fault.Reader e) = None
wrong_of fault.NotAvro = Some wrong.not_avro
wrong_of (fault.Avro f) = Some (wrong.avro f.place f.cause)
wrong_of (fault.Large what place size) = Some (wrong.large what place size)
wrong_of (fault.Codec name) = Some (wrong.codec name)
wrong_of (fault.Schema e) = Some (wrong.schema e)
wrong_of (fault.Sync block) = Some (wrong.sync block)
wrong_of fault.NoMemory = None

-- what an answer, seen by `view`, says of the file
abbrev pub said : {A B F : Type 0} → (A → B) → Result A (ContainerFault F) → Option (Result B Wrong)
said view (Ok x) = Some (Ok (view x))
said view (Err e) = option_map (λ w. Err w) (wrong_of e)

-- both say the same, or one of them says nothing
abbrev pub SayTheSame : {A : Type 0} → Option A → Option A → Type 0
SayTheSame None s = Unit {0}
SayTheSame (Some x) None = Unit {0}
SayTheSame (Some x) (Some y) = x ≡ y

-- an answer, and where the container stands then
abbrev pub with_state : {A : Type 0} → Opened → A → A × State
with_state c answer = (answer, state_of c)
