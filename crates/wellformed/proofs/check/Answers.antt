-- `wellformed::check` meets its contract: first 1, then 9.
use mathlib.Core.Path.{sym, ◌∙◌}
use mathlib.Core.Bool.{true, false}
use Rattle.std.proofs.lemmas.Result.{err_from_is_err_and}
use Rattle.wellformed.proofs.Checked.{count_passed, count_rejected, form_decides, length_decides}
use Rattle.wellformed.proofs.check.Goals as goal

pub returns-in_err-shards : goal.returns-in_err-shards
returns-in_err-shards c =
    let p = err_from_is_err_and c.from_residual.result c.from_residual.ensures.1 in
    let r = count_rejected _ (sym c.in_err-shards.was ∙ c.shard_count.ensures) in
    rw (p.1, p.2, r.0) (length_decides _ r.1)

pub returns-then-not-well_formed : goal.returns-then-not-well_formed
returns-then-not-well_formed c =
    let n = count_passed _ (sym c.in_ok-shards.was ∙ c.shard_count.ensures) in
    form_decides _ n.1 false (sym c.well_formed-2.ensures ∙ c.if-not-well_formed.true)

pub returns : goal.returns
returns c =
    let n = count_passed _ (sym c.in_ok-shards.was ∙ c.shard_count.ensures) in
    rw n.0 (form_decides _ n.1 true (sym c.well_formed-2.ensures ∙ c.if-not-well_formed.false))
