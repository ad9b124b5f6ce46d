-- `install_steps::next::install_next` meets its contract.
use mathlib.Core.Path.{◌∙◌}
use Rattle.install_steps.proofs.InstallStores.{next_unused, next_stored}
use Rattle.install_steps.proofs.next.install_next.Goals as goal

pub make_pending-requires : goal.make_pending-requires
make_pending-requires c = rw (c.head-head.ensures, c.size.ensures) (next_unused c.requires c.first.ensures)

pub returns : goal.returns
returns c =
    let a = c.args in
    (rw c.head-head.ensures at c.make_pending.ensures) ∙ next_stored a.state.now a.z a.members a.orderer c.first.ensures c.size.ensures
