-- `csv_rows::history::append_history` meets its contract.
use lib.ListN.{take}
use Rattle.decimal_text.specs.Appended.{Appended}
use Rattle.csv_rows.specs.Room.{history_text}
use Rattle.csv_rows.proofs.history.append_history.Given as goal

abbrev pub invariant-loop-i : goal.invariant-loop-i
invariant-loop-i l = Appended l.initial.text (history_text l.shard (take l.i l.entries)) l.text
