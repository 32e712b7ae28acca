-- The blocks into which records are gathered hold them, in order.
use Rattle.std.proofs.Common.{◌≡◌, ℕ, suc, ◌+◌, ◌<◌, ◌≤◌, Bool, true, false, cond, List, [], ◌∷◌, ◌++◌, length, map, refl, sym, ap, subst, ◌∙◌, arith, append_assoc, length-append}
use Rattle.std.specs.Prelude.{nat_le}
use Rattle.std.specs.List.{AllByRecursion, AllZip, flat_map}
use Rattle.std.proofs.lemmas.Bool.{leb-false}
use Rattle.std.proofs.lemmas.List.{append-nil}
use Rattle.icb_schema.specs.Shape.{Shape}
use Rattle.icb_avro.specs.declared.value.Value.{Value}
use Rattle.icb_avro.specs.Spelling.{SpellAll, Spells}
use Rattle.icb_avro.specs.Writing.{Fits, written}
use Rattle.icb_avro.proofs.WrittenIsSpelled.{value_spells}
use Rattle.icb_container.specs.declared.block.Block.{Block}
use Rattle.icb_container.specs.Blocks.{max_block}
use Rattle.icb_container.specs.Input.{AreRecords}
use Rattle.icb_records.specs.Gathering.{block_of, gather, last_block}
use Rattle.icb_records.specs.Laws.{AreBlocksOf, AreShort, BlocksHoldTheirRecords}

-- one more value behind others
spell_push : {A : Type 0} (Spell : A → List ℕ → Type 0) (xs : List A) (x : A) (all more : List ℕ) → SpellAll Spell xs all → Spell x more → SpellAll Spell (xs ++ x ∷ []) (all ++ more)
spell_push Spell [] x all more h is = (more, [], ap (λ (t : List ℕ). t ++ more) h ∙ sym (append-nil more), is, refl)
spell_push Spell (y ∷ ys) x all more h is =
    (h.0, h.1 ++ more, ap (λ (t : List ℕ). t ++ more) h.2 ∙ append_assoc h.0 h.1 more, h.3, spell_push Spell ys x h.1 more h.4 is)

-- the last block, which is short of its end
last_holds : (s : Shape) (done : List Value) (count : ℕ) (bytes : List ℕ) → count ≡ length done → SpellAll (Spells s) done bytes → length bytes < 65536 → AreBlocksOf s (last_block count bytes) done
last_holds s [] count bytes e spelled short = rw e (record { records = []; held = tt; all = refl })
last_holds s (d ∷ ds) count bytes e spelled short =
    rw e (record {
      records = (d ∷ ds) ∷ [];
      held = (record { count = refl; spelled = spelled; within = omega (arith, short) }, tt);
      all = append-nil (d ∷ ds);
    })

-- records, some of which are already gathered
gathered : (s : Shape) (done values : List Value) (count : ℕ) (bytes : List ℕ) → count ≡ length done → SpellAll (Spells s) done bytes → length bytes < 65536
    → AllByRecursion (Fits s) values → AreShort values → AreBlocksOf s (gather 65536 count bytes (map written values)) (done ++ values)
unfolding gather
gathered s done [] count bytes e spelled short fits room = rw (append-nil done) (last_holds s done count bytes e spelled short)
gathered s done (v ∷ vs) count bytes e spelled short fits room =
    by_test (nat_le 65536 (length (bytes ++ written v))) refl (gathered s [] vs 0 [] refl refl (omega arith) fits.1 room.1)
    (λ below. gathered s (done ++ v ∷ []) vs (suc count) (bytes ++ written v) counted more below fits.1 room.1)
  where
    more : SpellAll (Spells s) (done ++ v ∷ []) (bytes ++ written v)
    more = spell_push (Spells s) done v bytes (written v) spelled (value_spells s v fits.0)

    counted : suc count ≡ length (done ++ v ∷ [])
    counted = omega (arith, e, length-append done (v ∷ []))

    size : length (bytes ++ written v) ≡ length bytes + length (written v)
    size = length-append bytes (written v)

    full : AreRecords s (block_of (suc count) (bytes ++ written v)) (done ++ v ∷ [])
    full = record { count = counted; spelled = more; within = omega (arith, size, short, room.0) }

    parts : (done ++ v ∷ []) ++ vs ≡ done ++ v ∷ vs
    parts = append_assoc done (v ∷ []) vs

    by_test : (b : Bool) → nat_le 65536 (length (bytes ++ written v)) ≡ b → AreBlocksOf s (gather 65536 0 [] (map written vs)) vs
        → (length (bytes ++ written v) < 65536 → AreBlocksOf s (gather 65536 (suc count) (bytes ++ written v) (map written vs)) ((done ++ v ∷ []) ++ vs))
        → AreBlocksOf s (cond b (block_of (suc count) (bytes ++ written v) ∷ gather 65536 0 [] (map written vs)) (gather 65536 (suc count) (bytes ++ written v) (map written vs))) (done ++ v ∷ vs)
    by_test true t rest on = record {
      records = (done ++ v ∷ []) ∷ rest.records;
      held = (full, rest.held);
      all = ap (λ (x : List Value). (done ++ v ∷ []) ++ x) rest.all ∙ parts;
    }
    by_test false t rest on =
        subst (AreBlocksOf s (gather 65536 (suc count) (bytes ++ written v) (map written vs))) parts (on (leb-false 65536 (length (bytes ++ written v)) t))

pub blocks_hold_their_records : BlocksHoldTheirRecords
blocks_hold_their_records s values fits room = gathered s [] values 0 [] refl refl (omega arith) fits room
