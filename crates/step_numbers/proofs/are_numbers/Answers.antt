-- `step_numbers::are_numbers` meets its contract.
use mathlib.Core.Path.{◌≡◌, sym, ◌∙◌}
use mathlib.Core.Bool.{cond}
use Rattle.types.specs.Members.{is_host}
use Rattle.model.specs.Entries.{is_entry}
use Rattle.step_numbers.proofs.StepRanges.{numbers_are}
use Rattle.step_numbers.proofs.are_numbers.Goals as goal
use Rattle.step_numbers.proofs.are_numbers.Goals.{Joined-rules, then-rules, else-rules}

-- the test of the third number, at both exits
third : (c : Joined-rules) → c.if-rules.third ≡ cond c.rules-rules.result.host (is_host c.args.c) (is_entry c.args.shards c.args.c)
unfolding is_host
third c =
    elim c.if-rules.branch [
      | then-rules w ↦ w.third-is ∙ rw w.if-rules.true
      | else-rules w ↦ w.third-is ∙ w.is_entry-third.ensures ∙ rw w.if-rules.false
    ]

pub returns-then-third : goal.returns-then-third
returns-then-third c = sym (numbers_are _ c.rules-rules.ensures _ _ _ (third c.before.before) ∙ rw c.if-third.true)

pub returns-else-third : goal.returns-else-third
returns-else-third c = c.if-third.false ∙ sym (numbers_are _ c.rules-rules.ensures _ _ _ (third c.before) ∙ rw c.if-third.false)
