-- `install_steps::issuer` meets its contract.
use Rattle.model.proofs.Heads.{sequencer_word}
use Rattle.install_steps.proofs.InstallReads.{sequencer_ready}
use Rattle.install_steps.proofs.issuer.Goals as goal

pub find-requires : goal.find-requires
find-requires c = rw (c.head.ensures, ← sequencer_word) (sequencer_ready c.requires)

pub returns : goal.returns
returns c = record { value = rw (c.head.ensures, ← sequencer_word) at c.find.ensures.value; placed = c.find.ensures.placed }
