-- Answers of `agreeing`.
use Rattle.std.proofs.Common.{◌∙◌, arith}
use Rattle.alike_words.proofs.EightAtOnce.{turn_alike, last_alike, no_turn, first_turn, stops, goes_on_lem, ends, ends_before}
use Rattle.alike_words.proofs.agreeing.Goals as goal

pub returns-then-n-lt-TURN : goal.returns-then-n-lt-TURN
returns-then-n-lt-TURN c = no_turn _ _ c.if-n-lt-TURN.true

pub loop-t-init : goal.loop-t-init
loop-t-init c = first_turn _ _ c.if-n-lt-TURN.false

pub returns-then-not-are_alike : goal.returns-then-not-are_alike
returns-then-not-are_alike c =
    let alike = turn_alike _ _ _ c.are_alike.ensures (omega arith) c.requires in
    stops _ _ c.loop-t-test.true c.loop-t.invariant (alike ∙ c.if-not-are_alike.true)

pub loop-t-preserved : goal.loop-t-preserved
loop-t-preserved c =
    let alike = turn_alike _ _ _ c.are_alike.ensures (omega arith) c.requires in
    goes_on_lem _ _ c.loop-t-test.true c.loop-t.invariant (alike ∙ c.if-not-are_alike.false)

pub returns-then-are_alike : goal.returns-then-are_alike
returns-then-are_alike c =
    let alike = last_alike _ _ c.are_alike-2.ensures c.if-n-lt-TURN.false c.requires in
    ends _ _ (omega arith) c.loop-t.invariant (alike ∙ c.if-are_alike.true)

pub returns-else-are_alike : goal.returns-else-are_alike
returns-else-are_alike c =
    let alike = last_alike _ _ c.are_alike-2.ensures c.if-n-lt-TURN.false c.requires in
    ends_before _ _ (omega arith) c.loop-t.invariant (alike ∙ c.if-are_alike.false)
