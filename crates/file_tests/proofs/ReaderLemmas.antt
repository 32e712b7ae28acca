-- Parts of an object of a store.
use Rattle.std.proofs.Common.{◌≡◌, ℕ, List, ◌++◌, length, take, drop, map, Option, Some, IfSome, sym, ap, ◌∙◌, arith, append-nil}
use Rattle.std.proofs.lemmas.List.{drop_all}
use Rattle.icb_base.specs.Contents.{HasPart}
use Rattle.icb_base.specs.Objects.{Objects, Reads, object_at, part_of}
use Rattle.icb_base.proofs.TransferLemmas.{part_is_known}

-- a whole read of a held object is a part of its bytes
pub read_part : (held : Option Objects) (files : Objects) (path bytes before after : List ℕ) (at n : ℕ) (known : List (Option ℕ))
    → held ≡ Some files → object_at files path ≡ Some bytes → known ≡ map Some bytes
    → IfSome held (λ files. Reads (object_at files path) at before after (Some n)) → n ≡ length before → length after ≡ length before
    → HasPart known at after
read_part held files path bytes before after at n known told there all reads whole same =
    let read_there : Reads (object_at files path) at before after (Some n) = rw told at reads in
    let read : Reads (Some bytes) at before after (Some n) = rw there at read_there in
    let count : n ≡ length (part_of at (length before) bytes) = let told_count = read.0 in cc in
    let rest = drop_all (length (part_of at (length before) bytes)) before (omega arith) in
    let is : after ≡ take (length before) (drop at bytes) =
    read.1 ∙ ap (λ r. part_of at (length before) bytes ++ r) rest ∙ append-nil (part_of at (length before) bytes) in
    part_is_known bytes after at known (is ∙ ap (λ k. take k (drop at bytes)) (sym same)) all
