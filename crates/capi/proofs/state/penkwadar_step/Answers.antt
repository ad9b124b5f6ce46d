-- `capi::state::penkwadar_step` meets its contract, that of `machine::step`.
use mathlib.Core.Path.{◌∙◌}
use Rattle.model.specs.Log.{step_of}
use Rattle.capi.proofs.state.penkwadar_step.Goals as goal

pub returns : goal.returns
unfolding step_of
returns c = record { value = c.number_of.ensures ∙ c.step.ensures.value; state_after = c.step.ensures.state_after }
