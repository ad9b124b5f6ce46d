-- Answers of `read_more`.
use native.Mathlib.Nat.{mod-lt}
use native.Mathlib.Omega.{arith}
use mathlib.Core.Path.{sym, ◌∙◌}
use Rattle.numbers.proofs.NumberTurns.{turn_first, turn_ended, turn_full, turn_fits, turn_weight_fits, turn_last, turn_more}
use Rattle.numbers.proofs.read.read_more.Goals as goal

pub loop-n-init : goal.loop-n-init
loop-n-init c = turn_first _ _ c.requires

pub returns-in_default : goal.returns-in_default
returns-in_default c = turn_ended _ _ c.loop-n.invariant (omega arith) c.in_default.ensures.lookup.3

pub overflow_mul-v : goal.overflow_mul-v
overflow_mul-v c = record { fits = (turn_fits _ _ c.loop-n.invariant (omega arith) _ (mod-lt _ (omega arith))).0 }

pub overflow_add-v : goal.overflow_add-v
overflow_add-v c = record { fits = (turn_fits _ _ c.loop-n.invariant (omega arith) _ (mod-lt _ (omega arith))).1 }

pub overflow_mul-w : goal.overflow_mul-w
overflow_mul-w c = record { fits = turn_weight_fits _ _ c.loop-n.invariant (omega arith) }

pub returns-then-b-lt-TOP_BIT : goal.returns-then-b-lt-TOP_BIT
returns-then-b-lt-TOP_BIT c =
    let here = c.in-Some.ensures.lookup.3 in
    c.ended.ensures
    ∙ turn_last _ _ c.loop-n.invariant (omega arith) here.0 _ (sym (c.from-b.ensures ∙ here.1 0)) c.if-b-lt-TOP_BIT.true

pub loop-n-preserved : goal.loop-n-preserved
loop-n-preserved c =
    let here = c.in-Some.ensures.lookup.3 in
    turn_more _ _ c.loop-n.invariant (omega arith) here.0 _ (sym (c.from-b.ensures ∙ here.1 0)) c.if-b-lt-TOP_BIT.false

pub returns : goal.returns
returns c = turn_full _ _ c.loop-n.invariant (omega arith)
