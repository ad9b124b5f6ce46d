-- `replica_steps::entries::conflict_at` meets its contract.
use Prim.Native.Nat.{ℕ}
use native.Mathlib.Omega.{arith}
use mathlib.Core.Path.{ap, ◌∙◌}
use mathlib.Core.List.{List}
use Rattle.model.specs.Checks.{first_of}
use Rattle.lookup.proofs.StateWords.{length_few}
use Rattle.replica_steps.specs.Adds.{held_checks}
use Rattle.replica_steps.proofs.Conflicts.{in_history}
use Rattle.replica_steps.proofs.entries.conflict_at.Goals as goal

pub overflow_add-end-2 : goal.overflow_add-end-2
overflow_add-end-2 c =
    let h = c.requires in
    omega (arith, h.placed.fits, length_few _ _ h.words)

pub slice_bounds-conflict-end : goal.slice_bounds-conflict-end
slice_bounds-conflict-end c =
    let h = c.requires in
    omega (arith, h.placed.fits, length_few _ _ h.words)

pub returns : goal.returns
returns c = c.conflict.ensures ∙ ap (λ (l : List ℕ). first_of (held_checks c.args.e l)) (in_history _ _ _ c.requires.words (omega arith))
