-- The metadata that was read is what the outside tells.
use Rattle.std.proofs.Common.{◌≡◌, ◌<◌, ℕ, List, length, false, Option, Some, None, Ok, Err, refl, inl, inr}
use Rattle.std.specs.Prelude.{IfSome}
use Rattle.std.proofs.lemmas.Bool.{le-ltb, lt-ltb}
use Rattle.icb_base.specs.Objects.{Objects}
use Rattle.icb_base.specs.declared.limits.Limited.TheVariants as limit
use Rattle.icb_meta.specs.Answers.{ReadsMeta, json_of, shown_of}
use Rattle.icb_meta.specs.Shown.{meta_of}
use Rattle.icb_meta.specs.declared.table.TableMeta.{TableMeta}
use Rattle.icb_run.specs.Current.{status_of_current}
use Rattle.icb_run.specs.Inputs.{ReadsAll}
use Rattle.icb_run.specs.Metadata.{FindsMetadata, handed_in, metadata_told}
use Rattle.icb_run.specs.declared.input.ReadFault.TheVariants as read
use Rattle.icb_run.specs.declared.status.Status.TheVariants as status
use Rattle.icb_run.proofs.ToldLemmas.{where_told}
use Rattle.icb_tree.specs.Reading.{Answers, shown_version}
use Rattle.icb_tree.specs.Versions.{current_of, most_bytes}
use Rattle.icb_tree.specs.declared.fault.CurrentFault.{CurrentFault}
use Rattle.icb_tree.specs.declared.fault.CurrentFault.TheVariants as fault

-- ---- the current version's

-- it was read
pub current_found : (table : Option Objects) (trusted : Option (List ℕ)) (version : ℕ) (meta : TableMeta)
    → IfSome table (λ files. Answers shown_version (current_of files) (Ok (version, meta)))
    → IfSome (metadata_told false table trusted) (λ meaning. FindsMetadata meaning (Ok meta))
current_found None trusted version meta found = tt
current_found (Some files) trusted version meta found = rw found refl

-- there is none
pub current_refused : (table : Option Objects) (trusted : Option (List ℕ)) (refusal : CurrentFault)
    → IfSome table (λ files. Answers shown_version (current_of files) (Err refusal))
    → IfSome (metadata_told false table trusted) (λ meaning. FindsMetadata meaning (Err (status_of_current refusal)))
current_refused None trusted refusal found = tt
current_refused (Some files) trusted fault.NoTable found = rw found (inl (fault.NoTable, refl, refl))
current_refused (Some files) trusted (fault.Limit what number) found =
    rw found (inl (fault.Limit what number, refl, refl))
current_refused (Some files) trusted (fault.BadMeta field) found =
    rw found (inl (fault.BadMeta field, refl, refl))
current_refused (Some files) trusted fault.Store found = inr tt
current_refused (Some files) trusted fault.NoMemory found = inr tt

-- ---- what was handed in

handed_meta : (left text : List ℕ) (now : Option (List ℕ)) (meta : TableMeta)
    → ReadsAll left most_bytes now (Ok text) → ReadsMeta (Ok meta) (meta_of text)
    → FindsMetadata (handed_in left) (Ok meta)
handed_meta left text now meta all is =
    let read_left : meta_of left ≡ Ok (json_of meta, shown_of meta) = rw all.0 at is in
    rw (le-ltb most_bytes (length left) all.1, read_left) refl

-- it was read
pub handed_found : (n : ℕ) (before now : Option (List ℕ)) (text : List ℕ) (meta : TableMeta) → n ≡ most_bytes
    → IfSome before (λ left. ReadsAll left n now (Ok text)) → ReadsMeta (Ok meta) (meta_of text)
    → IfSome before (λ left. FindsMetadata (handed_in left) (Ok meta))
handed_found n before now text meta same reads is =
    where_told before (λ left all. handed_meta left text now meta (all.0, rw same at all.1, all.2) is) reads

handed_bad : (left text : List ℕ) (now : Option (List ℕ)) (field : List ℕ)
    → ReadsAll left most_bytes now (Ok text) → meta_of text ≡ Err field
    → handed_in left ≡ Err (fault.BadMeta field)
handed_bad left text now field all is =
    let read_left : meta_of left ≡ Err field = rw all.0 at is in
    rw (le-ltb most_bytes (length left) all.1, read_left) refl

-- it shows no metadata
pub handed_refused : (n : ℕ) (before now : Option (List ℕ)) (text field : List ℕ) → n ≡ most_bytes
    → IfSome before (λ left. ReadsAll left n now (Ok text)) → meta_of text ≡ Err field
    → IfSome before (λ left. FindsMetadata (handed_in left) (Err (status.BadMeta field)))
handed_refused n before now text field same reads is = where_told before (λ left all.
    inl (fault.BadMeta field, handed_bad left text now field (all.0, rw same at all.1, all.2) is, refl)) reads

handed_too_long : (left : List ℕ) → most_bytes < length left
    → handed_in left ≡ Err (fault.Limit limit.Metadata most_bytes)
handed_too_long left long = rw (lt-ltb most_bytes (length left) long) refl

-- it is too long
pub handed_long : (n : ℕ) (before now : Option (List ℕ))
    → IfSome before (λ left. ReadsAll left n now (Err read.Limit)) → n ≡ most_bytes
    → IfSome before (λ left. FindsMetadata (handed_in left) (Err (status.Limit limit.Metadata most_bytes)))
handed_long n before now reads same = where_told before
    (λ left all. inl (fault.Limit limit.Metadata most_bytes, handed_too_long left (rw same at all.0), refl)) reads
