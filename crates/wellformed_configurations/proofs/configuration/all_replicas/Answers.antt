-- Answers of `all_replicas`.
use native.Mathlib.Omega.{arith}
use mathlib.Core.Path.{refl, sym}
use Rattle.model.specs.Tests.{all_below, all_of}
use Rattle.model.proofs.Ranges.{more, fails}
use Rattle.wellformed_configurations.proofs.KnownEntries.{known_proper, misshapen, few_entries, by_entries}
use Rattle.wellformed_configurations.proofs.configuration.all_replicas.Goals as goal
use Rattle.wellformed_configurations.proofs.configuration.all_replicas.Goals.{then-not-is_known+else-not-each_entry, else-not-is_known}

pub loop-k-init : goal.loop-k-init
unfolding all_below all_of
loop-k-init c = (refl, refl)

pub returns-then-not-is_shape : goal.returns-then-not-is_shape
returns-then-not-is_shape c = fails _ c.loop-k.k _ (omega arith) (misshapen _ _ _ _ (omega arith) c.if-not-is_shape.ensures)

pub overflow_add-history : goal.overflow_add-history
overflow_add-history c = omega (arith, few_entries c.args.state.now 0 _ _ (omega arith) c.if-not-is_shape.ensures)

pub slice_bounds-history-end : goal.slice_bounds-history-end
slice_bounds-history-end c = omega (arith, few_entries c.args.state.now 0 _ _ (omega arith) c.if-not-is_shape.ensures)

pub returns-then-not-each_entry : goal.returns-then-not-each_entry
returns-then-not-each_entry c =
    fails _ c.loop-k.k _ (omega arith) (by_entries _ _ _ _ (omega arith) c.if-not-is_shape.ensures c.if-not-each_entry.ensures)

pub loop-k-preserved : goal.loop-k-preserved
loop-k-preserved c =
    let known = c.loop-k.invariant.0 in
    let shape = c.if-not-is_shape.ensures in
    elim c.if-not-is_known.branch [
      | then-not-is_known+else-not-each_entry w ↦
          let proper = w.if-not-each_entry.ensures in
          (rw w.known-is (sym proper), more _ _ c.loop-k.invariant.1 (by_entries _ _ _ _ (omega arith) shape proper))
      | else-not-is_known w ↦
          let proper = sym (known_proper _ _ _ w.if-not-is_known.ensures known) in
          (rw w.known-is known, more _ _ c.loop-k.invariant.1 (by_entries _ _ _ _ (omega arith) shape proper))
    ]
