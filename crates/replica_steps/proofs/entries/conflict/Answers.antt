-- `replica_steps::entries::conflict` meets its contract.
use mathlib.Core.Path.{sym, ◌∙◌}
use Rattle.replica_steps.proofs.Conflicts.{is_held, take_free, issue_free, is_rivalled}
use Rattle.replica_steps.proofs.entries.conflict.Goals as goal

pub is_issued-requires : goal.is_issued-requires
is_issued-requires c = sym c.is_issue.ensures ∙ c.if-is_issue.true

pub returns-then-not-is_issued : goal.returns-then-not-is_issued
returns-then-not-is_issued c = issue_free _ _ (sym c.is_issue.ensures ∙ c.if-is_issue.true) (sym c.is_issued.ensures ∙ c.if-not-is_issued.true)

pub returns-then-has_entry : goal.returns-then-has_entry
returns-then-has_entry c = is_held _ _ (sym c.has_entry.ensures ∙ c.if-has_entry.true)

pub returns-then-is_issue : goal.returns-then-is_issue
returns-then-is_issue c =
    is_rivalled _ _ (sym c.is_issue.ensures ∙ c.if-is_issue.true)
    (sym c.is_issued.ensures ∙ c.if-not-is_issued.false) (sym c.has_entry.ensures ∙ c.if-has_entry.false)

pub returns-then-has_entry-2 : goal.returns-then-has_entry-2
returns-then-has_entry-2 c = is_held _ _ (sym c.has_entry-2.ensures ∙ c.if-has_entry-2.true)

pub returns : goal.returns
returns c = take_free _ _ (sym c.is_issue.ensures ∙ c.if-is_issue.false) (sym c.has_entry-2.ensures ∙ c.if-has_entry-2.false)
