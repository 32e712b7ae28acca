use Rattle.std.proofs.Common.{◌≡◌, suc, ◌++◌, ◌+◌, ◌*◌, sym, refl, arith}
use Rattle.std.specs.Prelude.{pos}
use Rattle.std.proofs.lemmas.List.{append-nil}
use Rattle.icb_avro.specs.Writing.{written, written_long}
use Rattle.icb_avro.proofs.WriteLemmas as lemmas
use Rattle.icb_avro.proofs.WriteLemmas.{appends_push, appends_after, weight, weights, entry_weights}
use Rattle.icb_avro.proofs.encoding.+encoding.Goals as goal

pub put_value-returns-in-Null : goal.put_value-returns-in-Null
put_value-returns-in-Null t c = rw (c.in-Null.is, lemmas.written_Null) (sym (append-nil c.args.out.now))

pub put_value-returns-in-Boolean : goal.put_value-returns-in-Boolean
put_value-returns-in-Boolean t c = rw (c.in-Boolean.is, lemmas.written_Boolean c.in-Boolean.truth) c.put_boolean.ensures

pub put_value-returns-in-Int : goal.put_value-returns-in-Int
put_value-returns-in-Int t c = rw (c.in-Int.is, lemmas.written_Int c.in-Int.number) c.put_int.ensures

pub put_value-returns-in-Long : goal.put_value-returns-in-Long
put_value-returns-in-Long t c = rw (c.in-Long.is, lemmas.written_Long c.in-Long.number) c.put_long.ensures

pub put_value-returns-in-Float : goal.put_value-returns-in-Float
put_value-returns-in-Float t c = rw (c.in-Float.is, lemmas.written_Float c.in-Float.bytes, ← c.as_slice.ensures) (appends_push c.extend_from_slice.result c.args.out.now c.as_slice.result.now c.extend_from_slice.new.self c.extend_from_slice.ensures.ok c.extend_from_slice.ensures.err)

pub put_value-returns-in-Double : goal.put_value-returns-in-Double
put_value-returns-in-Double t c = rw (c.in-Double.is, lemmas.written_Double c.in-Double.bytes, ← c.as_slice-in-Double.ensures) (appends_push c.extend_from_slice-in-Double.result c.args.out.now c.as_slice-in-Double.result.now c.extend_from_slice-in-Double.new.self c.extend_from_slice-in-Double.ensures.ok c.extend_from_slice-in-Double.ensures.err)

pub put_value-returns-in-Fixed : goal.put_value-returns-in-Fixed
put_value-returns-in-Fixed t c = rw (c.in-Fixed.is, lemmas.written_Fixed c.in-Fixed.bytes, ← c.as_slice-in-Fixed.ensures) (appends_push c.extend_from_slice-in-Fixed.result c.args.out.now c.as_slice-in-Fixed.result.now c.extend_from_slice-in-Fixed.new.self c.extend_from_slice-in-Fixed.ensures.ok c.extend_from_slice-in-Fixed.ensures.err)

pub put_value-returns-in-Bytes : goal.put_value-returns-in-Bytes
put_value-returns-in-Bytes t c = rw (c.in-Bytes.is, lemmas.written_Bytes c.in-Bytes.bytes, ← c.as_slice-in-Bytes.ensures) c.put_bytes.ensures

pub put_value-returns-in-Text : goal.put_value-returns-in-Text
put_value-returns-in-Text t c = rw (c.in-Text.is, lemmas.written_Text c.in-Text.text, ← c.as_slice-in-Text.ensures.value) c.put_bytes-in-Text.ensures

pub put_value-returns-in-Enum : goal.put_value-returns-in-Enum
put_value-returns-in-Enum t c = rw (c.in-Enum.is, lemmas.written_Enum c.in-Enum.index, ← c.from.ensures) c.put_count.ensures

pub put_value-returns-in-Record : goal.put_value-returns-in-Record
put_value-returns-in-Record t c = rw (c.in-Record.is, lemmas.written_Record c.in-Record.values, ← c.as_slice-in-Record.ensures) c.put_values.ensures

pub put_value-returns-in-Array : goal.put_value-returns-in-Array
put_value-returns-in-Array t c = rw (c.in-Array.is, lemmas.written_Array c.in-Array.items, ← c.as_slice-in-Array.ensures) c.put_items.ensures

pub put_value-returns-in-Map : goal.put_value-returns-in-Map
put_value-returns-in-Map t c = rw (c.in-Map.is, lemmas.written_Map c.in-Map.entries, ← c.as_slice-in-Map.ensures) c.put_map.ensures

pub put_value-returns-in_ok-put_count-in-Union : goal.put_value-returns-in_ok-put_count-in-Union
put_value-returns-in_ok-put_count-in-Union t c =
    rw (c.in-Union.is, lemmas.written_Union c.in-Union.index c.in-Union.value, ← c.get.ensures, ← c.from-in-Union.ensures)
    (appends_after c.put_value.result c.args.out.now (written_long (pos c.from-in-Union.result)) c.put_count-in-Union.new.out (written c.get.result.now) (written_long (pos c.from-in-Union.result) ++ written c.get.result.now) c.put_value.new.out c.in_ok-put_count-in-Union.ensures refl c.put_value.ensures)

pub put_entries-put_value-requires : goal.put_entries-put_value-requires
put_entries-put_value-requires t c =
    let d : 3 * entry_weights c.args.entries.now + 1 ≡ t = c.decreases in
    (omega (arith, d, lemmas.entry_weight_in c.args.entries.now c.loop-entry.entry-index c.entry-item.result (omega arith) c.entry-item.is), tt)

pub put_values-put_value-requires : goal.put_values-put_value-requires
put_values-put_value-requires t c =
    let d : 3 * weights c.args.values.now + 1 ≡ t = c.decreases in
    (omega (arith, d, lemmas.weight_in c.args.values.now c.loop-value.value-index c.value-item.result (omega arith) c.value-item.is), tt)

pub put_value-put_values-requires : goal.put_value-put_values-requires
put_value-put_values-requires t c =
    let d : 3 * weight c.args.value.now ≡ t = c.decreases in
    let w : weight c.args.value.now ≡ suc (weights c.as_slice-in-Record.result.now) = rw (c.in-Record.is, c.as_slice-in-Record.ensures) (lemmas.weight_Record c.in-Record.values) in
    (omega (arith, d, w), tt)

pub put_value-put_items-requires : goal.put_value-put_items-requires
put_value-put_items-requires t c =
    let d : 3 * weight c.args.value.now ≡ t = c.decreases in
    let w : weight c.args.value.now ≡ suc (weights c.as_slice-in-Array.result.now) = rw (c.in-Array.is, c.as_slice-in-Array.ensures) (lemmas.weight_Array c.in-Array.items) in
    (omega (arith, d, w), tt)

pub put_value-put_map-requires : goal.put_value-put_map-requires
put_value-put_map-requires t c =
    let d : 3 * weight c.args.value.now ≡ t = c.decreases in
    let w : weight c.args.value.now ≡ suc (entry_weights c.as_slice-in-Map.result.now) = rw (c.in-Map.is, c.as_slice-in-Map.ensures) (lemmas.weight_Map c.in-Map.entries) in
    (omega (arith, d, w), tt)

pub put_value-put_value-requires : goal.put_value-put_value-requires
put_value-put_value-requires t c =
    let d : 3 * weight c.args.value.now ≡ t = c.decreases in
    let w : weight c.args.value.now ≡ suc (weight c.get.result.now) = rw (c.in-Union.is, c.get.ensures) (lemmas.weight_Union c.in-Union.index c.in-Union.value) in
    (omega (arith, d, w), tt)
