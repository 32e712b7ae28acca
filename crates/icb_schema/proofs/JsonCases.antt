-- What a JSON value is, by what can be asked of it.
use Rattle.std.proofs.Common.{◌≡◌, ℕ, zero, suc, ◌-◌, ◌<◌, List, codes, true, false, Some, None, Err, is_some, refl, sym, arith, true≢false}
use Rattle.serde_json.specs.Data as json
use Rattle.serde_json.specs.Data.{Data, Items}
use Rattle.serde_json.specs.Find.{get, as_str, as_array, as_object}
use Rattle.icb_schema.specs.Reading.{is_union, node_at, text_node, union_node, object_node, schema_by, list_of, typed_node, word_node, word_of, Scope, Seen, Reader}
use Rattle.icb_schema.specs.declared.fault.SchemaFault.TheVariants as fault

pub union_zero : (d : Data) → is_union 0 d ≡ false
unfolding is_union
union_zero d = refl

pub union_array : (n : ℕ) (d : Data) → 0 < n → is_some (as_array d) ≡ true → is_union n d ≡ true
unfolding is_union
union_array zero d h e = absurd (let f : ⊥ = omega (arith, h) in f)
union_array (suc n) json.null h e = absurd (true≢false (sym e))
union_array (suc n) (json.boolean b) h e = absurd (true≢false (sym e))
union_array (suc n) (json.number b) h e = absurd (true≢false (sym e))
union_array (suc n) (json.string b) h e = absurd (true≢false (sym e))
union_array (suc n) (json.array ds) h e = refl
union_array (suc n) (json.object ms) h e = absurd (true≢false (sym e))

pub union_type : (n : ℕ) (d e : Data) → 0 < n → is_some (as_array d) ≡ false → get (codes "type") d ≡ Some e → is_union n d ≡ is_union (n - 1) e
unfolding is_union
union_type zero d e h a g = absurd (let f : ⊥ = omega (arith, h) in f)
union_type (suc n) json.null e h a g = cc
union_type (suc n) (json.boolean b) e h a g = cc
union_type (suc n) (json.number b) e h a g = cc
union_type (suc n) (json.string b) e h a g = cc
union_type (suc n) (json.array ds) e h a g = absurd (true≢false a)
union_type (suc n) (json.object ms) e h a g = let m : suc n - 1 ≡ n = omega arith in rw (m, g) refl

pub union_none : (n : ℕ) (d : Data) → is_some (as_array d) ≡ false → get (codes "type") d ≡ None → is_union n d ≡ false
unfolding is_union
union_none zero d a g = refl
union_none (suc n) json.null a g = refl
union_none (suc n) (json.boolean b) a g = refl
union_none (suc n) (json.number b) a g = refl
union_none (suc n) (json.string b) a g = refl
union_none (suc n) (json.array ds) a g = absurd (true≢false a)
union_none (suc n) (json.object ms) a g = rw g refl

pub node_zero : (depth : ℕ) (scope : Scope) (d : Data) (seen : Seen) → node_at 0 depth scope d seen ≡ Err (fault.Shape seen.count)
unfolding node_at
node_zero depth scope d seen = refl

pub node_text : (n depth : ℕ) (scope : Scope) (d : Data) (seen : Seen) (s : List ℕ) → 0 < n → as_str d ≡ Some s → node_at n depth scope d seen ≡ text_node depth scope s seen
unfolding node_at
node_text zero depth scope d seen s h e = absurd (let f : ⊥ = omega (arith, h) in f)
node_text (suc n) depth scope json.null seen s h e = cc
node_text (suc n) depth scope (json.boolean b) seen s h e = cc
node_text (suc n) depth scope (json.number b) seen s h e = cc
node_text (suc n) depth scope (json.string t) seen s h e = let same : t ≡ s = cc in rw same refl
node_text (suc n) depth scope (json.array ds) seen s h e = cc
node_text (suc n) depth scope (json.object ms) seen s h e = cc

pub node_array : (n depth : ℕ) (scope : Scope) (d : Data) (seen : Seen) (ds : Items) → 0 < n → as_array d ≡ Some ds
    → node_at n depth scope d seen ≡ union_node (schema_by (node_at (n - 1))) (n - 1) depth scope (list_of ds) seen
unfolding node_at
node_array zero depth scope d seen ds h e = absurd (let f : ⊥ = omega (arith, h) in f)
node_array (suc n) depth scope json.null seen ds h e = cc
node_array (suc n) depth scope (json.boolean b) seen ds h e = cc
node_array (suc n) depth scope (json.number b) seen ds h e = cc
node_array (suc n) depth scope (json.string t) seen ds h e = cc
node_array (suc n) depth scope (json.array es) seen ds h e = let same : es ≡ ds = cc in let m : suc n - 1 ≡ n = omega arith in rw (m, same) refl
node_array (suc n) depth scope (json.object ms) seen ds h e = cc

pub node_object : (n depth : ℕ) (scope : Scope) (d : Data) (seen : Seen) → 0 < n → is_some (as_object d) ≡ true
    → node_at n depth scope d seen ≡ object_node (node_at (n - 1)) depth scope d seen
unfolding node_at
node_object zero depth scope d seen h e = absurd (let f : ⊥ = omega (arith, h) in f)
node_object (suc n) depth scope json.null seen h e = cc
node_object (suc n) depth scope (json.boolean b) seen h e = cc
node_object (suc n) depth scope (json.number b) seen h e = cc
node_object (suc n) depth scope (json.string t) seen h e = cc
node_object (suc n) depth scope (json.array es) seen h e = cc
node_object (suc n) depth scope (json.object ms) seen h e = let m : suc n - 1 ≡ n = omega arith in rw m refl

pub node_other : (n depth : ℕ) (scope : Scope) (d : Data) (seen : Seen) → as_str d ≡ None → as_array d ≡ None → is_some (as_object d) ≡ false
    → node_at n depth scope d seen ≡ Err (fault.Shape seen.count)
unfolding node_at
node_other zero depth scope d seen a b e = refl
node_other (suc n) depth scope json.null seen a b e = refl
node_other (suc n) depth scope (json.boolean c) seen a b e = refl
node_other (suc n) depth scope (json.number c) seen a b e = refl
node_other (suc n) depth scope (json.string t) seen a b e = cc
node_other (suc n) depth scope (json.array es) seen a b e = cc
node_other (suc n) depth scope (json.object ms) seen a b e = cc

pub typed_text : (read : Reader) (depth : ℕ) (scope : Scope) (o d : Data) (seen : Seen) (s : List ℕ) → as_str d ≡ Some s
    → typed_node read depth scope o (Some d) seen ≡ word_node (schema_by read) depth scope o s (word_of s) seen
typed_text read depth scope o json.null seen s e = cc
typed_text read depth scope o (json.boolean b) seen s e = cc
typed_text read depth scope o (json.number b) seen s e = cc
typed_text read depth scope o (json.string t) seen s e = let same : t ≡ s = cc in rw same refl
typed_text read depth scope o (json.array ds) seen s e = cc
typed_text read depth scope o (json.object ms) seen s e = cc

pub typed_other : (read : Reader) (depth : ℕ) (scope : Scope) (o d : Data) (seen : Seen) → as_str d ≡ None
    → typed_node read depth scope o (Some d) seen ≡ read depth scope d seen
typed_other read depth scope o json.null seen e = refl
typed_other read depth scope o (json.boolean b) seen e = refl
typed_other read depth scope o (json.number b) seen e = refl
typed_other read depth scope o (json.string t) seen e = cc
typed_other read depth scope o (json.array ds) seen e = refl
typed_other read depth scope o (json.object ms) seen e = refl
