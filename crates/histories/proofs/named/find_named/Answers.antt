-- `histories::named::find_named` meets its contract.
use mathlib.Core.Path.{sym, ◌∙◌}
use Rattle.std.proofs.lemmas.Result.{err_from_is_err_and}
use Rattle.histories.proofs.NamedReplicas.{named, no_length, no_name, no_form, ready_host, found_as}
use Rattle.histories.proofs.named.find_named.Goals as goal

pub returns-in_err-shards : goal.returns-in_err-shards
returns-in_err-shards c =
    let p = err_from_is_err_and c.from_residual.result c.from_residual.ensures.1 in
    rw (p.1, p.2) (no_length _ _ _ _ (sym c.in_err-shards.was ∙ c.shard_count.ensures))

pub returns-then-not-is_replica_name : goal.returns-then-not-is_replica_name
returns-then-not-is_replica_name c =
    no_name _ _ _ _ (sym c.in_ok-shards.was ∙ c.shard_count.ensures) (sym c.is_replica_name.ensures ∙ c.if-not-is_replica_name.true)

pub returns-then-not-well_formed : goal.returns-then-not-well_formed
returns-then-not-well_formed c =
    no_form _ _ _ _ (sym c.in_ok-shards.was ∙ c.shard_count.ensures) (sym c.is_replica_name.ensures ∙ c.if-not-is_replica_name.false)
    (sym c.well_formed-2.ensures ∙ c.if-not-well_formed.true)

pub overflow_sub-at : goal.overflow_sub-at
overflow_sub-at c = (named _ _ _ _ (sym c.is_replica_name.ensures ∙ c.if-not-is_replica_name.false)).least

pub find-requires : goal.find-requires
find-requires c =
    ready_host _ _ _ _ (sym c.in_ok-shards.was ∙ c.shard_count.ensures) (sym c.is_replica_name.ensures ∙ c.if-not-is_replica_name.false)
    (sym c.well_formed-2.ensures ∙ c.if-not-well_formed.false)

pub returns : goal.returns
returns c =
    c.find.ensures.value
    ∙ found_as _ _ _ _ (sym c.in_ok-shards.was ∙ c.shard_count.ensures) (sym c.is_replica_name.ensures ∙ c.if-not-is_replica_name.false)
    (sym c.well_formed-2.ensures ∙ c.if-not-well_formed.false)
