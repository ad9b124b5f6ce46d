-- `capi::traces::copy_boxes` meets its contract.
use mathlib.Core.Path.{sym, ap, ◌∙◌}
use Rattle.std.proofs.lemmas.Result.{err_from_is_err_and}
use Rattle.types.specs.Rejections.{answer_number}
use Rattle.capi.proofs.TraceOutputs.{no_room, refused, copied}
use Rattle.capi.proofs.traces.copy_boxes.Goals as goal

pub returns-then-out-lt-MOST_HOSTS : goal.returns-then-out-lt-MOST_HOSTS
returns-then-out-lt-MOST_HOSTS c =
    let t = no_room _ _ _ _ _ c.if-out-lt-MOST_HOSTS.true in
    record { value = t.0; out_after = t.1 }

pub returns-in_err-trace : goal.returns-in_err-trace
returns-in_err-trace c =
    let p = err_from_is_err_and c.from_residual.result c.from_residual.ensures.1 in
    let t = refused _ _ _ _ _ c.if-out-lt-MOST_HOSTS.false (sym (ap answer_number c.in_err-trace.was) ∙ c.trace.ensures.number) in
    rw (p.1, p.2) (record { value = t.0; out_after = t.1 })

pub returns : goal.returns
returns c =
    let n = sym (ap answer_number c.in_ok-trace.was) ∙ c.trace.ensures.number in
    let t = copied _ _ _ _ c.args.out.now c.if-out-lt-MOST_HOSTS.false n _ c.trace.ensures.hosts_after in
    record {
      value = rw c.len-2.ensures.value t.0;
      out_after = rw (c.len.ensures.value, c.copy_from_slice.ensures.after, c.deref.ensures.0) t.1;
    }
