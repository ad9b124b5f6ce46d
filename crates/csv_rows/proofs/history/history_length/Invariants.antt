-- `csv_rows::history::history_length` meets its contract.
use mathlib.Core.Path.{◌≡◌}
use lib.ListN.{length, take}
use Rattle.csv_rows.specs.Room.{history_text}
use Rattle.csv_rows.proofs.history.history_length.Given as goal

abbrev pub invariant-loop-i : goal.invariant-loop-i
invariant-loop-i l = l.sum ≡ length (history_text l.shard (take l.i l.entries))
