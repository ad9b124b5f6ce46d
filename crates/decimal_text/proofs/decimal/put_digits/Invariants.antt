-- `decimal_text::decimal::put_digits` meets its contract: the digits that are left, before those that were put, are the number's.
use Rattle.std.proofs.Common.{◌≡◌, ◌+◌, ◌*◌, ◌++◌, length, drop}
use Rattle.decimal_text.specs.LastDigits.{last_digits}
use Rattle.decimal_text.proofs.decimal.put_digits.Given as goal

abbrev pub invariant-loop-i : goal.invariant-loop-i
invariant-loop-i l = last_digits (l.few + 4 * l.i) l.rest ++ drop (l.few + 4 * l.i) l.field ≡ last_digits (length l.initial.field) l.n

abbrev pub invariant-loop-i-2 : goal.invariant-loop-i-2
invariant-loop-i-2 l = last_digits l.i l.rest ++ drop l.i l.field ≡ last_digits (length l.fn.field) l.n
