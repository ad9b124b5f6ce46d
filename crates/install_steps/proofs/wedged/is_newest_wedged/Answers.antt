-- `install_steps::wedged::is_newest_wedged` meets its contract.
use mathlib.Core.Path.{◌∙◌}
use Rattle.install_steps.proofs.InstallReads.{installed_least}
use Rattle.install_steps.proofs.Wedges.{newest_ready, newest_is}
use Rattle.install_steps.proofs.wedged.is_newest_wedged.Goals as goal

pub overflow_sub-installed : goal.overflow_sub-installed
overflow_sub-installed c = installed_least c.requires

pub is_wedged-requires : goal.is_wedged-requires
is_wedged-requires c = newest_ready c.requires

pub returns : goal.returns
returns c = c.is_wedged.ensures ∙ newest_is _ _
