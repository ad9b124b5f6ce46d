-- `install_steps::wedged::is_wedged` meets its contract.
use Rattle.std.proofs.Common.{rules, tests, arith, ◌∙◌}
use Rattle.std.proofs.iter.Serving.{serving}
use Rattle.model.specs.Layout.{place}
use Rattle.model.proofs.RangeCalls.{any_in_range}
use Rattle.install_steps.proofs.Wedges.{four_places}
use Rattle.install_steps.proofs.wedged.is_wedged.Goals as goal

pub any-requires-clause-callable : goal.any-requires-clause-callable
unfolding place
any-requires-clause-callable c =
    let r = c.requires in
    grind (serving, arith, r.shard, r.configuration, r.state.most, r.state.long)

pub returns : goal.returns
returns c = any_in_range _ _ _ _ _ c.any.ensures.ran (λ x b q k. search (rules, tests)) ∙ four_places c.requires
