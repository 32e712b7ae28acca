-- How the answers of the steps of copying make the answer of the whole.
use Rattle.std.proofs.Common.{◌≡◌, ◌∙◌, ◌≤◌, ◌+◌, ◌-◌, ◌*◌, ◌++◌, ℕ, List, [], length, take, unwrap_or}
use Rattle.std.proofs.Common.{Option, Some, None, Result, Ok, Err, inl, inr, refl, sym, subst, ap}
use Rattle.std.proofs.Common.{append-nil, arith}
use Rattle.icb_base.specs.Objects.{Objects}
use Rattle.icb_stream.specs.Belongs.{BelongsTo, StreamValue}
use Rattle.icb_stream.specs.Content.{Front, front_at}
use Rattle.icb_stream.specs.Layout.{Layout, plain_length}
use Rattle.icb_stream.specs.Opening.{IsOpen, opening_of}
use Rattle.icb_stream.specs.Reading.{IsOpened, IsRefusal, ReadsFront, ReadsSlice}
use Rattle.icb_stream.specs.declared.fault.StreamFault.{StreamFault}
use Rattle.icb_stream.specs.declared.fault.StreamFault.TheVariants as stream
use Rattle.icb_stream.proofs.FrontLaws.{front_empty, front_joined, front_length, front_refused}
use Rattle.icb_run.specs.Answers.{Appends, AppendsFront, Gives}
use Rattle.icb_run.specs.CatFile.{cat_file_answer, front_answer, held_object, opened_answer, slice_front}
use Rattle.icb_run.specs.CatFile.{slice_length, slice_start, status_of_fault, status_of_refused}
use Rattle.icb_run.specs.Copying.{EndsCopy, WritesBefore, status_of_copy}
use Rattle.icb_run.specs.declared.cat_file.CopyFault.{CopyFault}
use Rattle.icb_run.specs.declared.cat_file.CopyFault.TheVariants as copy
use Rattle.icb_run.specs.declared.status.Status.{Status}
use Rattle.icb_run.specs.declared.status.Status.TheVariants as status
use Rattle.icb_words.specs.declared.words.CatFile.{CatFile}
use Rattle.icb_run.proofs.AnswerLemmas.{appended_front, appended_more, appended_nothing, wrote_nothing}

-- a stream that isn't opened
pub refused_opening : (files : Objects) (words : CatFile) (fault : StreamFault) (out : Option (List ℕ))
    → IsRefusal (opening_of files words.path words.meta words.file_length) fault
    → Gives (cat_file_answer files words) out out (status_of_fault words.path fault)
refused_opening files words stream.NoMemory out refusal = inr (tt, wrote_nothing out _)
refused_opening files words stream.Store out refusal = inr (tt, wrote_nothing out _)
refused_opening files words fault out refusal = rw refusal (inl (refl, appended_nothing out))

-- a piece that was read to its end and written
pub piece_written : (path : List ℕ) (front : Front) (piece : List ℕ) (before now : Option (List ℕ))
    → front.refused ≡ None → front.bytes ≡ piece → Appends before now piece
    → Gives (front_answer path front) before now status.Ok
piece_written path front piece before now whole is wrote = inl (rw whole refl, rw is wrote)

-- a piece that was read to its end, of which a front was written
pub piece_cut : (path : List ℕ) (front : Front) (piece : List ℕ) (before now : Option (List ℕ))
    → front.bytes ≡ piece → AppendsFront before now piece
    → Gives (front_answer path front) before now status.OutputFault
piece_cut path front piece before now is wrote = inr (tt, rw is wrote)

-- a piece in which a block is refused, after what stands before it was written
piece_refused : (path : List ℕ) (front : Front) (piece : List ℕ) (number opened : ℕ) (ended : CopyFault)
    (before now : Option (List ℕ)) → front.refused ≡ Some number
    → front.bytes ≡ take (length front.bytes) piece → length front.bytes ≡ opened
    → WritesBefore number (take opened piece) before now ended
    → Gives (front_answer path front) before now (status_of_copy path (Err ended))
piece_refused path front piece number opened (copy.Stream (stream.Block n)) before now refused is size wrote =
    let text : front.bytes ≡ take opened piece = is ∙ ap (λ (k : ℕ). take k piece) size in
    inl (rw (refused, wrote.0) refl, rw text wrote.1)
piece_refused path front piece number opened copy.Output before now refused is size wrote =
    let text : front.bytes ≡ take opened piece = is ∙ ap (λ (k : ℕ). take k piece) size in
    inr (tt, rw text wrote)
piece_refused path front piece number opened ended before now refused is size wrote = absurd wrote

-- a piece that wasn't read to its end
pub piece_ended : (path : List ℕ) (front : Front) (piece : List ℕ) (fault : StreamFault) (ended : CopyFault)
    (block_length at : ℕ) (before now : Option (List ℕ)) → ReadsFront front piece (Err fault)
    → ((number : ℕ) → front.refused ≡ Some number → length front.bytes ≡ number * block_length - at)
    → EndsCopy fault block_length at piece before now ended
    → Gives (front_answer path front) before now (status_of_copy path (Err ended))
piece_ended path front piece (stream.Block number) ended B at before now reads size ends =
    piece_refused path front piece number (number * B - at) ended before now reads.0 reads.1
    (size number reads.0) ends
piece_ended path front piece stream.Store ended B at before now reads size ends =
    rw (ends.0, ends.1) (inr (tt, wrote_nothing before _))
piece_ended path front piece fault ended B at before now reads size ends = absurd reads

-- the object of a stream that belongs to the store is the one held, and is open
pub open_object : (files : Objects) (s : StreamValue) → BelongsTo s files
    → IsOpen (held_object files s.path) s.layout
open_object files s belongs =
    let same : belongs.object ≡ held_object files s.path = sym (ap (λ o. unwrap_or o []) belongs.held) in
    rw (← same) belongs.is_open

-- what a read of a stream that belongs to the store leaves, said of the object held
pub slice_of_held : (files : Objects) (s : StreamValue) (at n : ℕ) (out : List ℕ)
    (result : Result (Unit {0}) StreamFault) → length out ≡ n → (belongs : BelongsTo s files)
    → ReadsSlice belongs.object s.layout at out result
    → ReadsFront (front_at (held_object files s.path) s.layout at n) out result
slice_of_held files s at n out result size belongs reads =
    let same : belongs.object ≡ held_object files s.path = sym (ap (λ o. unwrap_or o []) belongs.held) in
    rw (← same, ← size) reads

-- so many bytes of the plaintext from a place on were copied, and no block of them is refused
pub record HasCopied (object : List ℕ) (layout : Layout) (start done : ℕ) (before now : Option (List ℕ)) : Type 0 where
  pub whole : (front_at object layout start done).refused ≡ None
  pub text : Appends before now (front_at object layout start done).bytes

-- before the first piece
pub copied_nothing : (object : List ℕ) (layout : Layout) (start done : ℕ) (out : Option (List ℕ))
    → done ≡ 0 → HasCopied object layout start done out out
copied_nothing object layout start done out none =
    let e = front_empty object layout start in
    rw none (record { whole = rw e refl; text = rw e (appended_nothing out) })

-- Ok names no refused block
ok_refuses_none : (path : List ℕ) (refused : Option ℕ) → status.Ok ≡ status_of_refused path refused → refused ≡ None
ok_refuses_none path None e = refl
ok_refuses_none path (Some number) e = cc

-- no fault of copying is Ok
fault_not_ok : (path : List ℕ) (fault : CopyFault) → status_of_copy path (Err fault) ≡ status.Ok → ⊥
fault_not_ok path (copy.Stream (stream.BadLength n)) e = cc
fault_not_ok path (copy.Stream stream.Store) e = cc
fault_not_ok path (copy.Stream stream.Missing) e = cc
fault_not_ok path (copy.Stream (stream.Short n)) e = cc
fault_not_ok path (copy.Stream (stream.Magic found)) e = cc
fault_not_ok path (copy.Stream (stream.BlockLength n)) e = cc
fault_not_ok path (copy.Stream stream.NoMemory) e = cc
fault_not_ok path (copy.Stream (stream.Block n)) e = cc
fault_not_ok path copy.Output e = cc
fault_not_ok path copy.NoMemory e = cc

-- after a further piece
copied_more : (path object : List ℕ) (layout : Layout) (start done n : ℕ)
    (before mid now : Option (List ℕ)) → IsOpen object layout
    → start + (done + n) ≤ plain_length layout → HasCopied object layout start done before mid
    → Gives (front_answer path (front_at object layout (start + done) n)) mid now status.Ok
    → HasCopied object layout start (done + n) before now
copied_more path object layout start done n before mid now is_open fits copied (inl (ok, wrote)) =
    let joined = front_joined object layout start done n is_open fits copied.whole in
    record {
      whole = rw joined (ok_refuses_none path (front_at object layout (start + done) n).refused ok);
      text = rw joined (appended_more before mid now _ _ copied.text wrote);
    }
copied_more path object layout start done n before mid now is_open fits copied (inr excused) =
    absurd excused.0

-- the text of a longer range begins with that of a shorter one
text_extends : (object : List ℕ) (layout : Layout) (start a n : ℕ) (refused : Option ℕ)
    → IsOpen object layout → start + (a + n) ≤ plain_length layout → (front_at object layout start a).refused ≡ refused
    → (rest : List ℕ) × ((front_at object layout start (a + n)).bytes ≡ (front_at object layout start a).bytes ++ rest)
text_extends object layout start a n None is_open fits is =
    ((front_at object layout (start + a) n).bytes, rw (front_joined object layout start a n is_open fits is) refl)
text_extends object layout start a n (Some number) is_open fits is =
    ([], ap (λ (f : Front). f.bytes) (front_refused object layout start a n number is_open fits is) ∙ sym (append-nil _))

-- a status other than Ok names the refused block
refused_block : (path : List ℕ) (refused : Option ℕ) (s : Status)
    → s ≡ status_of_refused path refused → (s ≡ status.Ok → ⊥) → (number : ℕ) × (refused ≡ Some number)
refused_block path None s is other = absurd (other is)
refused_block path (Some number) s is other = (number, refl)

-- a piece that ends copying ends it with the answer of the whole
copied_until : (path object : List ℕ) (layout : Layout) (start done n rest : ℕ) (fault : CopyFault)
    (before mid now : Option (List ℕ)) → IsOpen object layout
    → start + ((done + n) + rest) ≤ plain_length layout → HasCopied object layout start done before mid
    → Gives (front_answer path (front_at object layout (start + done) n)) mid now (status_of_copy path (Err fault))
    → Gives (front_answer path (front_at object layout start ((done + n) + rest))) before now (status_of_copy path (Err fault))
copied_until path object layout start done n rest fault before mid now is_open fits copied (inl (is, wrote)) =
    let near : start + (done + n) ≤ plain_length layout = omega (arith, fits) in
    let joined = front_joined object layout start done n is_open near copied.whole in
    let block = refused_block path (front_at object layout (start + done) n).refused (status_of_copy path (Err fault)) is (fault_not_ok path fault) in
    let refused : (front_at object layout start (done + n)).refused ≡ Some block.0 = rw joined block.1 in
    let all = front_refused object layout start (done + n) rest block.0 is_open fits refused ∙ joined in
    inl (rw all is, rw all (appended_more before mid now _ _ copied.text wrote))
copied_until path object layout start done n rest fault before mid now is_open fits copied (inr (excused, wrote)) =
    let near : start + (done + n) ≤ plain_length layout = omega (arith, fits) in
    let joined = front_joined object layout start done n is_open near copied.whole in
    let more = text_extends object layout start (done + n) rest (front_at object layout start (done + n)).refused is_open fits refl in
    let text : (front_at object layout start ((done + n) + rest)).bytes
    ≡ ((front_at object layout start done).bytes ++ (front_at object layout (start + done) n).bytes) ++ more.0
    = more.1 ∙ ap (λ (f : Front). f.bytes ++ more.0) joined in
    inr (excused, rw text (appended_front before mid now _ _ more.0 copied.text wrote))

-- how many bytes stand before a refused block, by the block length that a stream tells later
pub size_before : (object : List ℕ) (layout layout_now : Layout) (at n number block_length : ℕ)
    → block_length ≡ layout_now.block_length → layout_now ≡ layout → IsOpen object layout
    → at + n ≤ plain_length layout → (front_at object layout at n).refused ≡ Some number
    → length (front_at object layout at n).bytes ≡ number * block_length - at
size_before object layout layout_now at n number block_length is same is_open fits refused =
    rw (is, same) (front_length object layout at n number is_open fits refused)

-- the answer of a piece of a stream that is as it was, said of the stream before
as_before : (files : Objects) (first s : StreamValue) (at n at_now n_now : ℕ)
    (mid now : Option (List ℕ)) (r : Result (Unit {0}) CopyFault)
    → s.layout ≡ first.layout → s.path ≡ first.path → at ≡ at_now → n ≡ n_now
    → Gives (front_answer s.path (front_at (held_object files s.path) s.layout at n)) mid now (status_of_copy s.path r)
    → Gives (front_answer first.path (front_at (held_object files first.path) first.layout at_now n_now)) mid now (status_of_copy first.path r)
as_before files first s at n at_now n_now mid now r layout path same_at same_n gives =
    subst (λ (m : ℕ). Gives (front_answer first.path (front_at (held_object files first.path) first.layout at_now m)) mid now (status_of_copy first.path r)) same_n
    (subst (λ (a : ℕ). Gives (front_answer first.path (front_at (held_object files first.path) first.layout a n)) mid now (status_of_copy first.path r)) same_at
    (subst (λ (p : List ℕ). Gives (front_answer p (front_at (held_object files p) first.layout at n)) mid now (status_of_copy p r)) path
    (subst (λ (q : Layout). Gives (front_answer s.path (front_at (held_object files s.path) q at n)) mid now (status_of_copy s.path r)) layout gives)))

-- a further piece of a stream that is as it was
pub piece_more : (files : Objects) (first s : StreamValue) (start at n size_now : ℕ)
    (before mid now : Option (List ℕ)) → size_now ≡ n
    → s.layout ≡ first.layout → s.path ≡ first.path → start ≤ at → at + n ≤ plain_length first.layout
    → (BelongsTo first files → BelongsTo s files)
    → (BelongsTo first files → HasCopied (held_object files first.path) first.layout start (at - start) before mid)
    → (BelongsTo s files → Gives (front_answer s.path (front_at (held_object files s.path) s.layout at size_now))
    mid now status.Ok)
    → BelongsTo first files → HasCopied (held_object files first.path) first.layout start (at + n - start) before now
piece_more files first s start at n size_now before mid now size layout path after fits stays copied gives belongs =
    let done : ℕ = at - start in
    let object : List ℕ = held_object files first.path in
    let here : at ≡ start + done = omega (arith, after) in
    let more : done + n ≡ at + n - start = omega (arith, after) in
    subst (λ (m : ℕ). HasCopied object first.layout start m before now) more
    (copied_more first.path object first.layout start done n before mid now
    (open_object files first belongs) (omega (arith, after, fits)) (copied belongs)
    (as_before files first s at size_now (start + done) n mid now (Ok tt) layout path here size (gives (stays belongs))))

-- the last piece of a stream that is as it was
pub piece_last : (files : Objects) (first s : StreamValue) (start at n end size_now : ℕ) (fault : CopyFault)
    (before mid now : Option (List ℕ)) → size_now ≡ n
    → s.layout ≡ first.layout → s.path ≡ first.path
    → start ≤ at → at + n ≤ end → end ≤ plain_length first.layout
    → (BelongsTo first files → BelongsTo s files)
    → (BelongsTo first files → HasCopied (held_object files first.path) first.layout start (at - start) before mid)
    → (BelongsTo s files → Gives (front_answer s.path (front_at (held_object files s.path) s.layout at size_now))
    mid now (status_of_copy s.path (Err fault)))
    → BelongsTo first files
    → Gives (front_answer first.path (front_at (held_object files first.path) first.layout start (end - start)))
    before now (status_of_copy first.path (Err fault))
piece_last files first s start at n end size_now fault before mid now size layout path after near fits stays copied gives belongs =
    let object : List ℕ = held_object files first.path in
    let done : ℕ = at - start in
    let rest : ℕ = end - (at + n) in
    let here : at ≡ start + done = omega (arith, after) in
    let all : (done + n) + rest ≡ end - start = omega (arith, after, near) in
    let whole = copied_until first.path object first.layout start done n rest fault before mid now
    (open_object files first belongs) (omega (arith, after, near, fits)) (copied belongs)
    (as_before files first s at size_now (start + done) n mid now (Err fault) layout path here size (gives (stays belongs))) in
    subst (λ (m : ℕ). Gives (front_answer first.path (front_at object first.layout start m))
    before now (status_of_copy first.path (Err fault))) all whole

-- copying the slice of an opened stream gives the answer of the file
pub opened_file : (files : Objects) (words : CatFile) (s : StreamValue) (result : Result (Unit {0}) CopyFault)
    (start count : ℕ) (before now : Option (List ℕ))
    → IsOpened files words.path words.meta words.file_length s
    → start ≡ slice_start words (plain_length s.layout) → count ≡ slice_length words (plain_length s.layout)
    → (BelongsTo s files → Gives (front_answer s.path (front_at (held_object files s.path) s.layout start count))
    before now (status_of_copy s.path result))
    → Gives (cat_file_answer files words) before now (status_of_copy words.path result)
opened_file files words s result start count before now opened begins counts gives =
    let slice = as_before files s s start count (slice_start words (plain_length s.layout))
    (slice_length words (plain_length s.layout)) before now result refl refl begins counts (gives opened.belongs) in
    let here = subst (λ (p : List ℕ). Gives (front_answer p (slice_front words (held_object files p) s.layout))
    before now (status_of_copy p result)) opened.same_path slice in
    subst (λ (r : Result Layout StreamFault). Gives (opened_answer words (held_object files words.path) r)
    before now (status_of_copy words.path result)) (sym opened.opening) here
