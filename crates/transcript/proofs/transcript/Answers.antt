-- `transcript::transcript` meets its contract.
use Rattle.model.specs.Transcript.{transcript}
use Rattle.transcript.proofs.Delivery.{any_fits, told, written, space_fits, written_room, written_text}
use Rattle.transcript.proofs.transcript.Goals as goal

pub write_text-requires : goal.write_text-requires
write_text-requires c = any_fits c.args.log.now c.args.out.now c.if-out-ge-MOST.true

pub returns-then-out-ge-MOST : goal.returns-then-out-ge-MOST
returns-then-out-ge-MOST c =
    let a = c.args in
    let text = transcript a.log.now in
    let w = c.write_text.ensures in
    let t = told a.out.now text (written a.out.now text (any_fits a.log.now a.out.now c.if-out-ge-MOST.true) (w.value, w.out_after)) in
    record { result_value = t.0; result_value_2 = t.1.0; value = t.1.1.0; out_after = t.1.1.1 }

pub write_text-len-requires : goal.write_text-len-requires
write_text-len-requires c = space_fits c.args.log.now

pub slice_bounds-space-end : goal.slice_bounds-space-end
slice_bounds-space-end c = written_room c.args.log.now c.write_text-len.ensures.value c.write_text-len.ensures.out_after

pub slice_bounds-deliver-end : goal.slice_bounds-deliver-end
slice_bounds-deliver-end c =
    let w = c.write_text-len.ensures in
    rw (written_text c.args.log.now w.value w.out_after) w.value

pub returns : goal.returns
returns c =
    let a = c.args in
    let text = transcript a.log.now in
    let e = written_text a.log.now c.write_text-len.ensures.value c.write_text-len.ensures.out_after in
    let d = c.deliver.ensures in
    let t = told a.out.now text (rw e at d.value, rw e at d.out_after) in
    record { result_value = t.0; result_value_2 = t.1.0; value = t.1.1.0; out_after = t.1.1.1 }
