-- `install_steps::issues::is_issue_for` meets its contract.
use mathlib.Core.Path.{sym, ◌∙◌}
use Rattle.model.specs.Entries.{is_issue_for}
use Rattle.install_steps.proofs.issues.is_issue_for.Goals as goal

pub returns-then-is_issue : goal.returns-then-is_issue
unfolding is_issue_for
returns-then-is_issue c = simp (sym c.is_issue.ensures ∙ c.if-is_issue.true, c.issue_shard.ensures)

pub returns-else-is_issue : goal.returns-else-is_issue
unfolding is_issue_for
returns-else-is_issue c = rw (sym c.is_issue.ensures ∙ c.if-is_issue.false) c.if-is_issue.false
