-- `source_text`: the refusals 7, 8 and 10,
-- and the text.
use Rattle.std.proofs.Common.{◌≡◌, refl, ◌≤◌, arith, length}
use Rattle.base.specs.Refusals.{refusal_of}
use Rattle.pool.specs.Entries.{entry_of}
use Rattle.pool.specs.Views.{fields_left}
use Rattle.source_text.specs.Text.{source_text_of}
use Rattle.source_text.specs.Values.{source_text_values, source_text_numbers, source_text_answer}
use Rattle.source_text.proofs.CallLaws.{broken_result, broken_call, past_call, small_call, fits_call}
use Rattle.source_text.proofs.source_text.Goals as goal

pub returns-in_err-pool : goal.returns-in_err-pool
unfolding source_text_values source_text_numbers source_text_answer refusal_of
returns-in_err-pool c =
    let r = broken_result c.from_residual.result c.in_err-pool.ensures.0 c.from_residual.ensures.1 in
    let q = broken_call c.args.pool.now c.args.entry c.args.area.now c.in_err-pool.ensures.1 in
    record { value = rw (q, r) refl; result_value = rw (q, r) refl; area_after = rw q refl }

pub returns-then-count-entry : goal.returns-then-count-entry
unfolding source_text_values source_text_numbers source_text_answer refusal_of
returns-then-count-entry c =
    let q = past_call c.args.pool.now c.args.entry c.args.area.now c.in_ok-pool.pool.bytes.now c.in_ok-pool.pool.laid_out c.in_ok-pool.ensures
    c.count.result c.count.ensures c.if-count-entry.true in
    record { value = rw q refl; result_value = rw q refl; area_after = rw q refl }

pub returns-then-area-write_text : goal.returns-then-area-write_text
unfolding source_text_values source_text_numbers source_text_answer refusal_of
returns-then-area-write_text c =
    let q = small_call c.args.pool.now c.args.entry c.args.area.now c.in_ok-pool.pool.bytes.now c.in_ok-pool.pool.laid_out c.in_ok-pool.ensures
    c.count.result c.count.ensures c.if-count-entry.false (fields_left c.entry-fields.result) c.entry-fields.ensures
    c.write_text.result c.write_text.ensures.count c.if-area-write_text.true in
    record { value = rw q refl; result_value = rw q refl; area_after = rw q refl }

pub returns : goal.returns
unfolding source_text_values source_text_numbers source_text_answer
returns c =
    let q = fits_call c.args.pool.now c.args.entry c.args.area.now c.in_ok-pool.pool.bytes.now c.in_ok-pool.pool.laid_out c.in_ok-pool.ensures
    c.count.result c.count.ensures c.if-count-entry.false (fields_left c.entry-fields.result) c.entry-fields.ensures
    c.write_text.result c.write_text.ensures.count c.if-area-write_text.false (omega arith) in
    let m : length (source_text_of (entry_of (fields_left c.entry-fields.result))) ≤ length c.args.area.now =
    omega (arith, c.write_text.ensures.count) in
    let n : c.write_text-2.result ≡ length (source_text_of (entry_of (fields_left c.entry-fields.result))) =
    omega (arith, c.write_text-2.ensures.count) in
    record { value = rw (q, n) refl; result_value = rw (q, n) refl; area_after = rw q (c.write_text-2.ensures.area m) }
