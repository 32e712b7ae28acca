-- One more property of a header.
use Rattle.std.proofs.Common.{◌≡◌, ℕ, Bool, true, false, cond, codes, List, [], ◌∷◌, ◌++◌, Option, Some, None, refl, sym, ap, ◌∙◌}
use Rattle.std.specs.Option.{option_or}
use Rattle.std.specs.Str.{bytes_eq}
use Rattle.std.proofs.lemmas.Slice.Eq.{bytes_eq-Decides}
use Rattle.icb_container.specs.Header.{Property, property_of}
use Rattle.icb_container.specs.declared.found.Found.{Found}
use Rattle.icb_container.specs.Kept.{IsKept, value_of}

-- the last of equal keys counts
pub property_of_push : (key : List ℕ) (ps : List Property) (p : Property) → property_of key (ps ++ p ∷ []) ≡ cond (bytes_eq key p.key) (Some p) (property_of key ps)
unfolding property_of
property_of_push key [] p = refl
property_of_push key (q ∷ ps) p =
    ap (λ (o : Option Property). option_or o (cond (bytes_eq key q.key) (Some q) None)) (property_of_push key ps p) ∙ by_test (bytes_eq key p.key)
  where
    rest : Option Property
    rest = property_of key ps

    by_test : (b : Bool) → option_or (cond b (Some p) (property_of key ps)) (cond (bytes_eq key q.key) (Some q) None)
        ≡ cond b (Some p) (option_or (property_of key ps) (cond (bytes_eq key q.key) (Some q) None))
    by_test true = refl
    by_test false = refl

-- bytes are the same either way round
same_test : (xs ys : List ℕ) (b : Bool) → bytes_eq xs ys ≡ b → bytes_eq ys xs ≡ b
same_test xs ys true e = (bytes_eq-Decides ys xs).1 (sym ((bytes_eq-Decides xs ys).0 e))
same_test xs ys false e = by_test (bytes_eq ys xs) refl
  where
    by_test : (b : Bool) → bytes_eq ys xs ≡ b → b ≡ false
    by_test true f = sym ((bytes_eq-Decides xs ys).1 (sym ((bytes_eq-Decides ys xs).0 f))) ∙ e
    by_test false f = refl

-- a schema is kept
pub schema_is_kept : (old : Found) (ps : List Property) (p : Property) → bytes_eq p.key (codes "avro.schema") ≡ true → IsKept old ps
    → IsKept (record { schema = Some (value_of p); codec = old.codec }) (ps ++ p ∷ [])
schema_is_kept old ps p e found =
    let key : p.key ≡ codes "avro.schema" = (bytes_eq-Decides p.key (codes "avro.schema")).0 e in
    let other : bytes_eq (codes "avro.codec") p.key ≡ false = rw key refl in
    record {
      schema = rw (property_of_push (codes "avro.schema") ps p, same_test p.key (codes "avro.schema") true e) refl;
      codec = found.codec ∙ rw (property_of_push (codes "avro.codec") ps p, other) refl;
    }

-- a codec is kept
pub codec_is_kept : (old : Found) (ps : List Property) (p : Property) → bytes_eq p.key (codes "avro.schema") ≡ false → bytes_eq p.key (codes "avro.codec") ≡ true → IsKept old ps
    → IsKept (record { schema = old.schema; codec = Some (value_of p) }) (ps ++ p ∷ [])
codec_is_kept old ps p no_schema e found = record {
  schema = found.schema ∙ rw (property_of_push (codes "avro.schema") ps p, same_test p.key (codes "avro.schema") false no_schema) refl;
  codec = rw (property_of_push (codes "avro.codec") ps p, same_test p.key (codes "avro.codec") true e) refl;
}

-- any other property isn't kept
pub none_is_kept : (old : Found) (ps : List Property) (p : Property) → bytes_eq p.key (codes "avro.schema") ≡ false → bytes_eq p.key (codes "avro.codec") ≡ false → IsKept old ps → IsKept old (ps ++ p ∷ [])
none_is_kept old ps p no_schema no_codec found = record {
  schema = found.schema ∙ rw (property_of_push (codes "avro.schema") ps p, same_test p.key (codes "avro.schema") false no_schema) refl;
  codec = found.codec ∙ rw (property_of_push (codes "avro.codec") ps p, same_test p.key (codes "avro.codec") false no_codec) refl;
}

-- before the first property
pub nothing_is_kept : IsKept (record { schema = None; codec = None }) []
unfolding property_of
nothing_is_kept = record { schema = refl; codec = refl }
