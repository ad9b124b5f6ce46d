-- `replica_steps::add::may_issue` meets its contract.
use native.Mathlib.Nat.{add-zero}
use native.Mathlib.Omega.{arith}
use mathlib.Core.Path.{sym, ◌∙◌}
use Rattle.model.specs.Layout.{sequencer, head_word, head_place}
use Rattle.model.specs.Add.{may_issue}
use Rattle.model.proofs.Entries.{proper_issue}
use Rattle.replica_steps.proofs.add.may_issue.Goals as goal

pub returns-then-not-is_issue : goal.returns-then-not-is_issue
unfolding may_issue
returns-then-not-is_issue c = simp (sym c.is_issue.ensures ∙ c.if-not-is_issue.true)

pub overflow_mul-result : goal.overflow_mul-result
overflow_mul-result c =
    let p = proper_issue _ _ c.requires.entry (sym c.is_issue.ensures ∙ c.if-not-is_issue.false) in
    omega (arith, p.shard, c.issue_shard-shard.ensures, c.requires.state.most)

pub offset_bounds-state-shard : goal.offset_bounds-state-shard
offset_bounds-state-shard c =
    let p = proper_issue _ _ c.requires.entry (sym c.is_issue.ensures ∙ c.if-not-is_issue.false) in
    omega (arith, p.shard, c.issue_shard-shard.ensures, c.requires.state.most)

pub bounds-state-shard : goal.bounds-state-shard
bounds-state-shard c =
    let p = proper_issue _ _ c.requires.entry (sym c.is_issue.ensures ∙ c.if-not-is_issue.false) in
    omega (arith, p.shard, c.issue_shard-shard.ensures, c.requires.state.long)

pub returns : goal.returns
unfolding may_issue sequencer head_word head_place
returns c = simp (sym c.is_issue.ensures ∙ c.if-not-is_issue.false, c.issue_shard-shard.ensures, add-zero)
