-- Versions that show metadata.
use Rattle.std.specs.Prelude.{◌≡◌, ℕ, Bool, true, false, List, length, nat_lt, if◌then◌else◌, Option, Some, None, IsSome, Result, Ok, Err}
use Rattle.std.proofs.Common.{refl, ap, ◌∙◌, sym}
use Rattle.serde_json.specs.Data.{Data}
use Rattle.icb_base.specs.Objects.{Grows, Objects, object_at}
use Rattle.icb_base.specs.declared.limits.Limited.TheVariants as limit
use Rattle.icb_meta.specs.Shown.{meta_of}
use Rattle.icb_meta.specs.declared.fields.Fields.{Fields}
use Rattle.icb_table.specs.Standing.{ShowsMeta}
use Rattle.icb_tree.specs.Versions.{◌>>=◌, meta_in, most_bytes, short_text, version_of, version_path}
use Rattle.icb_tree.specs.declared.fault.CurrentFault.{CurrentFault}
use Rattle.icb_tree.specs.declared.fault.CurrentFault.TheVariants as current

-- a version that shows metadata is held
text_held : (o : Option (List ℕ)) (shown : Data × Fields) → (short_text o >>= meta_in) ≡ Ok shown → IsSome o
text_held None shown h = absurd (let g : ⊥ = cc in g)
text_held (Some bytes) shown h = refl

pub version_held : (files : Objects) (n : ℕ) (shown : Data × Fields) → version_of files n ≡ Ok shown
    → IsSome (object_at files (version_path n))
version_held files n shown h = text_held (object_at files (version_path n)) shown h

same_object : (before now : Objects) (path : List ℕ) (o : Option (List ℕ)) → Grows before now → object_at before path ≡ o → IsSome o
    → object_at now path ≡ o
same_object before now path None grows e h = absurd (let g : ⊥ = cc in g)
same_object before now path (Some bytes) grows e h = grows.stays path bytes e

-- a version that showed metadata shows it in a store that only grew
pub version_grown : (before now : Objects) (n : ℕ) (shown : Data × Fields) → Grows before now → version_of before n ≡ Ok shown
    → version_of now n ≡ Ok shown
version_grown before now n shown grows h =
    ap (λ o. short_text o >>= meta_in)
    (same_object before now (version_path n) (object_at before (version_path n)) grows refl (version_held before n shown h)) ∙ h

-- a text that isn't too long shows what it shows
shown_same : (long : Bool) (bytes : List ℕ) (one two : Data × Fields) → meta_of bytes ≡ Ok one
    → ((if long then Err (current.Limit limit.Metadata most_bytes) else Ok bytes) >>= meta_in) ≡ Ok two → one ≡ two
shown_same true bytes one two e h = absurd (let g : ⊥ = cc in g)
shown_same false bytes one two e h = ok_is one two (sym (meta_is bytes one e) ∙ h)
  where
    meta_is : (bytes : List ℕ) (one : Data × Fields) → meta_of bytes ≡ Ok one → meta_in bytes ≡ Ok one
    meta_is bytes one e = rw e refl

    ok_is : (x y : Data × Fields) → ◌≡◌ {A = Result (Data × Fields) CurrentFault} (Ok x) (Ok y) → x ≡ y
    ok_is x y h = cc

pub meta_same : (files : Objects) (n : ℕ) (json : Data) (one two : Fields) → ShowsMeta files (version_path n) one
    → version_of files n ≡ Ok (json, two) → one ≡ two
meta_same files n json one two shows h =
    ap (λ p. p.1) (shown_same (nat_lt most_bytes (length shows.bytes)) shows.bytes (shows.json, one) (json, two) shows.shows
    (sym (ap (λ o. short_text o >>= meta_in) shows.held) ∙ h))
