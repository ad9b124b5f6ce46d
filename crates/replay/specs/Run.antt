-- What a run reports and leaves once the state is tested: the steps that its log reads to, tried one by one.
use Rattle.std.specs.Prelude.{ℕ, List, length}
use Rattle.types.specs.declared.Stop.{Stop}
use Rattle.types.specs.declared.Report.{Report}
use Rattle.model.specs.Log.{read_log}
use Rattle.model.specs.Replay.{after_all, rejected_in}

-- a report of these
abbrev pub report_of : Stop → ℕ → ℕ → ℕ → Report
report_of stop tried rejected bytes = record { stop = stop; tried = tried; rejected = rejected; bytes = bytes }

unfoldable pub run_report : List ℕ → List ℕ → ℕ → Report
run_report w log budget =
    report_of (read_log budget log).stop (length (read_log budget log).steps) (rejected_in w (read_log budget log).steps)
    (read_log budget log).bytes

unfoldable pub after_run : List ℕ → List ℕ → ℕ → List ℕ
after_run w log budget = after_all w (read_log budget log).steps
