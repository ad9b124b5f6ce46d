-- What accepted steps leave, row by row.
use mathlib.Core.Path.{◌≡◌, refl}
use mathlib.Core.List.{List}
use Prim.Native.Nat.{ℕ}
use Rattle.types.specs.declared.step.Step.{Step}
use Rattle.model.specs.Replay.{after_all}
use Rattle.model.specs.Transcript.{program_start}
use Rattle.model.proofs.ProgramStart.{start_formed}
use Rattle.cases.specs.CaseRows.{changed}
use Rattle.cases.specs.Scripts.{replaced}
use Rattle.cases.specs.States.{after_replaced}
use Rattle.cases.specs.Effects.{replaced_words, Effects}
use Rattle.cases.proofs.Quick.{quick_after_all, leaves_by}
use Rattle.cases.proofs.Computing.{given_cases, step_trying}
use Rattle.cases.proofs.States.{replaced_formed, late_formed}

from_start : (ss : List Step) {u : List ℕ} → quick_after_all 2 program_start ss ≡ u → after_all program_start ss ≡ u
from_start = leaves_by start_formed refl

pub replaced_is : after_replaced ≡ changed program_start replaced_words
unfolding given_cases step_trying after_replaced
replaced_is = from_start replaced refl

pub effects : Effects
unfolding given_cases step_trying
effects =
    record {
      adds = from_start _ refl;
      adopts = from_start _ refl;
      adopts_wedged = from_start _ refl;
      learns = from_start _ refl;
      learns_two = from_start _ refl;
      learns_alone = leaves_by late_formed refl _ refl;
      wedges = from_start _ refl;
      installs = replaced_is;
      inherits = leaves_by replaced_formed replaced_is _ refl;
      origins = leaves_by replaced_formed replaced_is _ refl;
      catches_up = leaves_by replaced_formed replaced_is _ refl;
      last_indices = leaves_by late_formed refl _ refl;
    }
