-- `step_numbers::acting::acting_replica` meets its contract.
use Rattle.std.specs.Prelude.{Ok}
use Rattle.lookup.proofs.KindAnswers.{tested, host_small}
use Rattle.types.proofs.KindRules.{known}
use Rattle.step_numbers.proofs.ActingSteps.{out_of_range_lem, found_number, found_acting}
use Rattle.step_numbers.proofs.acting.acting_replica.Goals as goal

pub returns-then-not-are_numbers : goal.returns-then-not-are_numbers
returns-then-not-are_numbers c =
    record {
      value = out_of_range_lem _ _ _ _ _ _ (tested (Ok c.args.kind) c.requires.0 _ _ c.are_numbers.ensures c.if-not-are_numbers.true);
      acting = tt;
    }

pub find-requires : goal.find-requires
find-requires c =
    record {
      ready = c.requires.0.ready;
      host =
          host_small (Ok c.args.kind) _ c.args.at.z c.args.at.j _ _ (tested (Ok c.args.kind) c.requires.0 _ _ c.are_numbers.ensures c.if-not-are_numbers.false)
          (known c.args.kind) c.requires.1;
    }

pub returns : goal.returns
returns c =
    let e = tested (Ok c.args.kind) c.requires.0 _ _ c.are_numbers.ensures c.if-not-are_numbers.false in
    record {
      value = found_number _ _ _ _ _ _ e _ c.find.ensures.value;
      acting = found_acting _ _ _ _ _ _ e _ c.find.ensures.value c.find.ensures.placed;
    }
