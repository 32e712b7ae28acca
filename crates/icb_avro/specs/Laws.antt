-- Laws of the definitions: what is read was spelled, what is spelled is read, whatever follows it,
-- and what is written is a spelling, the shortest one of a number.
use Rattle.std.specs.Prelude.{◌≡◌, ℕ, ◌≤◌, ◌<◌, List, ◌++◌, length, ℤ, true, Ok}
use Rattle.std.specs.List.{AllByRecursion}
use Rattle.icb_schema.specs.Shape.{Shape, arrays_take_bytes}
use Rattle.icb_avro.specs.declared.value.Value.{Value}
use Rattle.icb_avro.specs.Numbers.{IsLong}
use Rattle.icb_avro.specs.Reading.{value_at}
use Rattle.icb_avro.specs.Spelling.{Spells}
use Rattle.icb_avro.specs.Writing.{Fits, written, written_long}

-- What is read was spelled by the bytes before the rest.
abbrev pub WhatIsReadWasSpelled : Type 0
WhatIsReadWasSpelled = (shape : Shape) (all : List ℕ) (v : Value) (rest : List ℕ)
    → value_at shape all ≡ Ok (v, rest)
    → (front : List ℕ) × (all ≡ front ++ rest) × Spells shape v front

-- What is spelled is read, whatever follows it, where no array has items that take no bytes.
abbrev pub WhatIsSpelledIsRead : Type 0
WhatIsSpelledIsRead = (shape : Shape) → arrays_take_bytes shape ≡ true
    → (v : Value) (front rest : List ℕ) → Spells shape v front
    → value_at shape (front ++ rest) ≡ Ok (v, rest)

-- No bytes spell two values, and no spelling begins another one.
abbrev pub OneValue : Type 0
OneValue = (shape : Shape) → arrays_take_bytes shape ≡ true
    → (v w : Value) (a b x y : List ℕ) → Spells shape v a → Spells shape w b → a ++ x ≡ b ++ y
    → (v ≡ w) × (x ≡ y)

-- What is written of a value of the shape is one of its spellings.
abbrev pub WhatIsWrittenIsSpelled : Type 0
WhatIsWrittenIsSpelled =
    (shape : Shape) (v : Value) → Fits shape v → Spells shape v (written v)

-- No bytes of a number are fewer than the written ones.
abbrev pub NumbersAreShortest : Type 0
NumbersAreShortest =
    (n : ℤ) (bytes : List ℕ) → AllByRecursion (λ b. b < 256) bytes → IsLong n bytes
    → length (written_long n) ≤ length bytes
