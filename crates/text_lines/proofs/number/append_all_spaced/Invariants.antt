-- `text_lines::number::append_all_spaced` meets its contract.
use Rattle.std.proofs.Common.{take}
use Rattle.model.specs.Transcript.{spaced_all}
use Rattle.decimal_text.specs.Appended.{Appended}
use Rattle.text_lines.proofs.number.append_all_spaced.Given as goal

abbrev pub invariant-loop-n : goal.invariant-loop-n
invariant-loop-n l = Appended l.initial.text (spaced_all (take l.n-index l.numbers)) l.text
