-- `setup::setup` meets its contract.
use mathlib.Core.Path.{sym, ◌∙◌}
use Rattle.std.proofs.lemmas.Result.{err_from_is_err_and}
use Rattle.wellformed.proofs.Checked.{count_passed, count_rejected}
use Rattle.setup.proofs.Entry.{no_shards, few, no_plan, may_write, written}
use Rattle.setup.proofs.setup.Goals as goal

pub returns-in_err-shards : goal.returns-in_err-shards
returns-in_err-shards c =
    let p = err_from_is_err_and c.from_residual.result c.from_residual.ensures.1 in
    let r = count_rejected _ (sym c.in_err-shards.was ∙ c.shard_count.ensures) in
    let t = no_shards _ _ r.1 in
    rw (p.1, p.2, r.0) (record { value = t.0; state_after = t.1 })

pub is_plan-requires : goal.is_plan-requires
is_plan-requires c =
    let n = count_passed _ (sym c.in_ok-shards.was ∙ c.shard_count.ensures) in
    few _ c.args.plan.now n.0 n.1

pub returns-then-not-is_plan : goal.returns-then-not-is_plan
returns-then-not-is_plan c =
    let n = count_passed _ (sym c.in_ok-shards.was ∙ c.shard_count.ensures) in
    let t = no_plan _ _ n.0 n.1 c.is_plan.ensures c.if-not-is_plan.true in
    record { value = t.0; state_after = t.1 }

pub write_state-requires : goal.write_state-requires
write_state-requires c =
    let n = count_passed _ (sym c.in_ok-shards.was ∙ c.shard_count.ensures) in
    may_write _ _ n.0 n.1 c.is_plan.ensures c.if-not-is_plan.false

pub returns : goal.returns
returns c =
    let n = count_passed _ (sym c.in_ok-shards.was ∙ c.shard_count.ensures) in
    let t = written _ _ n.0 n.1 c.is_plan.ensures c.if-not-is_plan.false c.write_state.ensures in
    record { value = t.0; state_after = t.1 }
