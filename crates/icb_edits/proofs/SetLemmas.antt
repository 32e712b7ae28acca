-- Which value a name has after members were set.
use Rattle.std.proofs.Common.{◌≡◌, ℕ, List, [], ◌∷◌, Bool, true, false, if◌then◌else◌, Option, Some, None, bytes_eq, refl, sym, ◌∙◌, true≢false}
use Rattle.std.specs.Option.{option_or}
use Rattle.std.proofs.lemmas.Slice.Eq.{bytes_eq-Decides}
use Rattle.serde_json.specs.Data.{Data, Members, put}
use Rattle.serde_json.specs.Find.{get_member}
use Rattle.serde_json.proofs.Views.{get_member-put, get_member-put_other}
use Rattle.icb_edits.specs.Sets.{Sets, set_all, set_one, value_after}

either_name : (b : Bool) (k name : List ℕ) (d : Data) (ms : Members) (rest : Option Data) → bytes_eq k name ≡ b → get_member k ms ≡ rest
    → get_member k (put name d ms) ≡ (if b then Some d else rest)
either_name true k name d ms rest e before =
    let same : k ≡ name = (bytes_eq-Decides k name).0 e in
    rw same (get_member-put name d ms)
either_name false k name d ms rest e before =
    get_member-put_other k name d ms (λ h. true≢false (sym ((bytes_eq-Decides k name).1 h) ∙ e)) ∙ before

left_alone : (b : Bool) (rest : Option Data) → rest ≡ (if b then rest else rest)
left_alone true rest = refl
left_alone false rest = refl

one_set : (k name : List ℕ) (d : Option Data) (ms : Members) (rest : Option Data) → get_member k ms ≡ rest
    → get_member k (set_one name d ms) ≡ (if bytes_eq k name then option_or d rest else rest)
one_set k name None ms rest before = before ∙ left_alone (bytes_eq k name) rest
one_set k name (Some d) ms rest before = either_name (bytes_eq k name) k name d ms rest refl before

-- the value that a name has after them
pub get_after : (k : List ℕ) (sets : Sets) (ms : Members) → get_member k (set_all sets ms) ≡ value_after k sets (get_member k ms)
get_after k [] ms = refl
get_after k (s ∷ sets) ms = one_set k s.0 s.1 (set_all sets ms) _ (get_after k sets ms)
