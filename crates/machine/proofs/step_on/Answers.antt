-- `machine::step_on` meets its contract.
use native.Mathlib.Omega.{arith}
use mathlib.Core.Path.{sym, ◌∙◌}
use Rattle.std.proofs.lemmas.Result.{err_from_is_err_and}
use Rattle.lookup.proofs.Formed.{formed_of}
use Rattle.machine.proofs.Ladders.{rejects_early, rejects_numbers, rejects_form}
use Rattle.machine.proofs.step_on.Goals as goal

pub returns-in_err-kind : goal.returns-in_err-kind
returns-in_err-kind c =
    let p = err_from_is_err_and c.from_residual.result c.from_residual.ensures.1 in
    let t = rejects_early c.args.state.now c.args.s c.requires _ c.in_err-kind.ensures.value in
    rw (p.1, p.2) (record { value = t.0; state_after = t.1 })

pub returns-then-not-are_numbers : goal.returns-then-not-are_numbers
returns-then-not-are_numbers c =
    let t = rejects_numbers c.args.state.now c.args.s c.requires c.in_ok-kind.ensures.value c.in_ok-kind.ensures.kind
    c.are_numbers.ensures c.if-not-are_numbers.true in
    record { value = t.0; state_after = t.1 }

pub returns-then-not-well_formed : goal.returns-then-not-well_formed
returns-then-not-well_formed c =
    let t = rejects_form c.args.state.now c.args.s c.requires c.in_ok-kind.ensures.value c.in_ok-kind.ensures.kind
    c.are_numbers.ensures c.if-not-are_numbers.false c.well_formed-2.ensures c.if-not-well_formed.true in
    record { value = t.0; state_after = t.1 }

pub act-requires : goal.act-requires
act-requires c =
    record {
      state =
          formed_of c.args.state.now (λ q. omega (arith, q, c.requires.several))
          (sym c.well_formed-2.ensures ∙ c.if-not-well_formed.false);
      count = c.requires.count;
      kind = c.in_ok-kind.ensures.kind;
      range = c.in_ok-kind.ensures.value;
    }
