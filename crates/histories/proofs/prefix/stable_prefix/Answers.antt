-- `histories::prefix::stable_prefix` meets its contract.
use mathlib.Core.Path.{sym, ◌∙◌}
use Rattle.std.proofs.lemmas.Result.{err_from_is_err_and}
use Rattle.histories.proofs.StablePrefixes.{answers, rejects_named, placed, shows}
use Rattle.histories.proofs.prefix.stable_prefix.Goals as goal

pub returns-in_err-place : goal.returns-in_err-place
returns-in_err-place c =
    let a = c.args in
    let p = err_from_is_err_and c.from_residual.result c.from_residual.ensures.1 in
    let t = rejects_named a.state.now a.shard a.index a.host a.out.now (sym c.in_err-place.was ∙ c.find_named.ensures) in
    rw (p.1, p.2) (record { result_value = t.0; result_value_2 = t.1.0; value = t.1.1.0; out_after = t.1.1.1 })

pub copy_entries-requires : goal.copy_entries-requires
copy_entries-requires c =
    let a = c.args in
    placed a.state.now a.shard a.index a.host a.out.now (sym c.in_ok-place.was ∙ c.find_named.ensures)

pub returns : goal.returns
returns c =
    let a = c.args in
    let e = shows a.state.now a.shard a.index a.host a.out.now (sym c.in_ok-place.was ∙ c.find_named.ensures) in
    let t = answers a.state.now a.shard a.index a.host a.out.now (c.copy_entries.ensures.value ∙ e.0) (c.copy_entries.ensures.out_after ∙ e.1) in
    record { result_value = t.0; result_value_2 = t.1.0; value = t.1.1.0; out_after = t.1.1.1 }
