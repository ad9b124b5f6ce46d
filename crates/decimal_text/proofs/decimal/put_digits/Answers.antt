-- Answers of `put_digits`.
use Rattle.std.proofs.Common.{◌≡◌, ◌+◌, ◌-◌, ◌*◌, ◌%◌, ◌/◌, length, drop, arith, ◌∙◌}
use lib.Seq.{drop-length}
use mathlib.Core.List.{append-nil}
use Rattle.decimal_text.specs.LastDigits.{last_digits}
use Rattle.decimal_text.proofs.LastDigits.{put_next, put_four}
use Rattle.decimal_text.proofs.decimal.put_digits.Goals as goal

pub loop-i-init : goal.loop-i-init
loop-i-init c =
    let field = c.args.field.now in
    let whole : length field % 4 + 4 * (length field / 4) ≡ length field = omega arith in
    rw (whole, drop-length field) (append-nil _)

pub loop-i-preserved : goal.loop-i-preserved
loop-i-preserved c =
    let l = c.loop-i in
    let at = length c.args.field.now % 4 + 4 * (l.i - 1) in
    let four : at + 4 ≡ length c.args.field.now % 4 + 4 * l.i = omega arith in
    put_four at l.rest l.field c.put_pair.new.field c.put_pair-in-loop-i.new.field c.put_pair.ensures c.put_pair-in-loop-i.ensures (omega arith)
    ∙ rw four l.invariant

pub loop-i-2-preserved : goal.loop-i-2-preserved
loop-i-2-preserved c = put_next c.loop-i-2.i c.loop-i-2.rest c.loop-i-2.field (omega arith) (omega arith) ∙ c.loop-i-2.invariant

pub returns : goal.returns
unfolding last_digits
returns c = let none : c.loop-i-2.i ≡ 0 = omega arith in rw none at c.loop-i-2.invariant
