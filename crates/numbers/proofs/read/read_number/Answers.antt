-- `read_number` meets its contract: no byte, one byte, or several. Assumes nothing.
use Prim.Native.Nat.{◌-◌}
use native.Mathlib.Omega.{arith}
use mathlib.Core.Path.{◌≡◌, sym, ◌∙◌}
use lib.ListN.{length, take, drop, get_or, length-drop}
use lib.Seq.{take_all, drop-drop}
use Rattle.numbers.proofs.FirstByte.{read_none, read_one, read_several}
use Rattle.numbers.proofs.read.read_number.Goals as goal

pub returns-in_default : goal.returns-in_default
returns-in_default c = sym (read_none _ _ c.in_default.ensures.lookup.3)

pub returns-then-first-lt-TOP_BIT : goal.returns-then-first-lt-TOP_BIT
returns-then-first-lt-TOP_BIT c =
    let here = c.in-Some.ensures.lookup.3 in
    let first : c.from-first.result ≡ get_or c.args.log.now c.args.at 0 = c.from-first.ensures ∙ here.1 0 in
    rw first (sym (read_one _ _ here.0 (omega arith)))

pub returns : goal.returns
returns c =
    let here = c.in-Some.ensures.lookup.3 in
    let first : c.from-first.result ≡ get_or c.args.log.now c.args.at 0 = c.from-first.ensures ∙ here.1 0 in
    let a = c.args in
    let from : take (length a.log.now - a.at) (drop a.at a.log.now) ≡ drop a.at a.log.now = take_all _ _ (omega (arith, length-drop a.at a.log.now)) in
    rw (first, from, drop-drop 1 a.at a.log.now) at c.read_more.ensures ∙ sym (read_several _ _ here.0 (omega arith))
