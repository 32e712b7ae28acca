-- Calls over one reader, one after another.
use Rattle.std.proofs.Common.{Option, Some, None, refl, ◌∙◌}
use Rattle.icb_base.specs.declared.reading.ReadAt as reading
use Rattle.icb_container.specs.Known.{IsBlamed, ReadsOnly}

-- no read does nothing
pub reads_at_rest : {Self F : Type 0} (of : reading.Ghosts Self F) (x : Self) → of.keeps x x → of.calm x x → ReadsOnly of None x x
reads_at_rest of x kept calm = record { same = λ known is. is; same_size = refl; kept = kept; blamed = calm }

-- a call with no fault of the reader, and a second one, are one call
pub reads_twice : {Self F : Type 0} (of : reading.Ghosts Self F) (e : Option F) (x y z : Self)
    → (of.keeps x y → of.keeps y z → of.keeps x z) → (of.calm x y → of.calm y z → of.calm x z)
    → ((f : F) → of.keeps x y → of.calm x y → of.blames y z f → of.blames x z f)
    → ReadsOnly of None x y → ReadsOnly of e y z → ReadsOnly of e x z
reads_twice {F = F} of e x y z keeps calms since one two = record {
  same = λ known is. two.same known (one.same known is);
  same_size = two.same_size ∙ one.same_size;
  kept = keeps one.kept two.kept;
  blamed = by_fault e two.blamed;
}
  where
    by_fault : (f : Option F) → IsBlamed of.calm of.blames f y z → IsBlamed of.calm of.blames f x z
    by_fault None now = calms one.blamed now
    by_fault (Some f) now = since f one.kept one.blamed now
