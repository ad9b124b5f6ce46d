-- `step_numbers::kind_in_range` meets its contract.
use Rattle.std.proofs.lemmas.Result.{err_from_is_err_and}
use Rattle.step_numbers.proofs.StepRanges.{bad_kind, no_index, in_range_lem}
use Rattle.step_numbers.proofs.kind_in_range.Goals as goal

pub returns-in_err-kind : goal.returns-in_err-kind
returns-in_err-kind c =
    let p = err_from_is_err_and c.from_residual.result c.from_residual.ensures.1 in
    rw (p.1, p.2) (record { value = bad_kind _ _ _ c.in_err-kind.ensures.kind; kind = tt })

pub returns-then-not-is_index_of : goal.returns-then-not-is_index_of
returns-then-not-is_index_of c =
    record {
      value = no_index _ _ c.in_ok-kind.ensures.kind c.shard.ensures c.is_index_of.ensures c.if-not-is_index_of.true;
      kind = tt;
    }

pub returns : goal.returns
returns c =
    record {
      value = in_range_lem _ _ c.in_ok-kind.ensures.kind c.shard.ensures c.is_index_of.ensures c.if-not-is_index_of.false;
      kind = c.in_ok-kind.ensures.kind;
    }
