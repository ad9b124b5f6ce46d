-- `capi::traces::penkwadar_trace` meets its contract.
use mathlib.Core.Path.{◌∙◌}
use Rattle.capi.proofs.TraceOutputs.{no_count, counts}
use Rattle.capi.proofs.traces.penkwadar_trace.Goals as goal

pub returns-then-count-lt1 : goal.returns-then-count-lt1
returns-then-count-lt1 c =
    let t = no_count _ _ _ _ _ _ c.if-count-lt1.true in
    record { value = c.from.ensures ∙ t.0; out_after = t.1.0; count_after = t.1.1 }

pub returns : goal.returns
returns c =
    let k = c.copy_boxes.ensures in
    let t = counts _ _ _ _ _ _ c.if-count-lt1.false (k.value, k.out_after) c.put_count.ensures.value c.put_count.ensures.out_after in
    record { value = t.0; out_after = t.1.0; count_after = t.1.1 }
