use Rattle.std.proofs.Common.{refl, sym}
use Rattle.icb_schema.proofs.TreeLemmas.{form_of_int, form_of_long, form_of_bytes, form_of_text, form_of_record, form_of_array}
use Rattle.icb_fields.proofs.KindLemmas.{other_plain}
use Rattle.icb_fields.proofs.record.plain.Goals as goal

pub returns-in-Int : goal.returns-in-Int
returns-in-Int c = rw (c.in-Int.is, form_of_int, c.int_in.ensures) refl

pub returns-in-Long : goal.returns-in-Long
returns-in-Long c = rw (c.in-Long.is, form_of_long, c.long_in.ensures) refl

pub returns-in-Bytes : goal.returns-in-Bytes
returns-in-Bytes c = rw (c.in-Bytes.is, form_of_bytes, c.bytes_in.ensures) refl

pub returns-in-Text : goal.returns-in-Text
returns-in-Text c = rw (c.in-Text.is, form_of_text, c.text_in.ensures) refl

pub returns-in-Record : goal.returns-in-Record
returns-in-Record c = rw (c.in-Record.is, form_of_record c.in-Record.name c.in-Record.fields, ← c.as_slice.ensures, c.record_in.ensures) refl

pub returns-in-Array : goal.returns-in-Array
returns-in-Array c = rw (c.in-Array.is, form_of_array c.in-Array.items c.in-Array.element, ← c.get.ensures, c.items_in.ensures) refl

pub returns-in_default : goal.returns-in_default
returns-in_default c = sym (other_plain _ _ c.in_default.not-Int c.in_default.not-Long c.in_default.not-Bytes c.in_default.not-Text c.in_default.not-Record c.in_default.not-Array)
