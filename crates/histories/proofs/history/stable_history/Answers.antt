-- `histories::history::stable_history` meets its contract.
use native.Mathlib.Omega.{arith}
use mathlib.Core.Path.{sym, ◌∙◌}
use Rattle.std.proofs.lemmas.Result.{err_from_is_err_and}
use Rattle.stable_entries.proofs.Longest.{picked}
use Rattle.histories.proofs.StableHistories.{of_shard, answers, rejects_length, rejects_shard, rejects_form, lists}
use Rattle.histories.proofs.history.stable_history.Goals as goal

pub returns-in_err-shards : goal.returns-in_err-shards
returns-in_err-shards c =
    let p = err_from_is_err_and c.from_residual.result c.from_residual.ensures.1 in
    let t = rejects_length _ c.args.shard c.args.out.now (sym c.in_err-shards.was ∙ c.shard_count.ensures) in
    rw (p.1, p.2) (record { result_value = t.0; result_value_2 = t.1.0; value = t.1.1.0; out_after = t.1.1.1 })

pub returns-then-shards-shard : goal.returns-then-shards-shard
returns-then-shards-shard c =
    let t = rejects_shard _ c.args.shard c.args.out.now (sym c.in_ok-shards.was ∙ c.shard_count.ensures) (omega arith) in
    record { result_value = t.0; result_value_2 = t.1.0; value = t.1.1.0; out_after = t.1.1.1 }

pub returns-then-not-well_formed : goal.returns-then-not-well_formed
returns-then-not-well_formed c =
    let t = rejects_form _ c.args.shard c.args.out.now (sym c.in_ok-shards.was ∙ c.shard_count.ensures) (omega arith)
    (sym c.well_formed-2.ensures ∙ c.if-not-well_formed.true) in
    record { result_value = t.0; result_value_2 = t.1.0; value = t.1.1.0; out_after = t.1.1.1 }

pub longest-place-requires : goal.longest-place-requires
longest-place-requires c =
    of_shard _ _ (sym c.in_ok-shards.was ∙ c.shard_count.ensures) (omega arith) (sym c.well_formed-2.ensures ∙ c.if-not-well_formed.false)

pub copy_entries-requires : goal.copy_entries-requires
copy_entries-requires c =
    picked
    (of_shard _ _ (sym c.in_ok-shards.was ∙ c.shard_count.ensures) (omega arith) (sym c.well_formed-2.ensures ∙ c.if-not-well_formed.false))
    c.longest-place.ensures

pub returns : goal.returns
returns c =
    let a = c.args in
    let r = of_shard a.state.now a.shard (sym c.in_ok-shards.was ∙ c.shard_count.ensures) (omega arith)
    (sym c.well_formed-2.ensures ∙ c.if-not-well_formed.false) in
    let e = lists a.state.now a.shard a.out.now r c.longest-place.ensures in
    let t = answers a.state.now a.shard a.out.now (c.copy_entries.ensures.value ∙ e.0) (c.copy_entries.ensures.out_after ∙ e.1) in
    record { result_value = t.0; result_value_2 = t.1.0; value = t.1.1.0; out_after = t.1.1.1 }
