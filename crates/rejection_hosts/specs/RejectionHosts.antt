-- Whose rejection a step's is (document 02, A7).
use Rattle.std.specs.Prelude.{ℕ, ◌≡◌, cond, ◌||◌, List, eqb, ⊤, Result}
use Rattle.types.specs.declared.step.Step.{Step}
use Rattle.types.specs.declared.rejection.Rejection.{Rejection}
use Rattle.types.specs.Kinds.{kind_of}
use Rattle.types.specs.Rejections.{answer_number}
use Rattle.types.specs.Rules.{Known}
use Rattle.types.specs.Members.{is_host}
use Rattle.types.specs.StepNames.{shard_of, configuration_of, acting_host}
use Rattle.model.specs.Layout.{orderer}
use Rattle.model.specs.Steps.{rejection}
use Rattle.lookup.specs.Ready.{Formed}

-- hosts are 0 to 15; the count of the steps that name none has the number after them
abbrev pub no_host : ℕ
no_host = 16

-- "No box is named .. for add, when refusal 7 or 10 occurs."
abbrev pub orderer_named : List ℕ → Step → ℕ
orderer_named w s = cond (eqb (rejection w s) 7 || eqb (rejection w s) 10) no_host (orderer w (shard_of s) (configuration_of s))

-- "The box is the named one; for add it is the orderer of the named configuration."
unfoldable pub named_host : List ℕ → Step → ℕ
named_host w s = acting_host s (orderer_named w s)

-- the count that a rejection goes to: "No box is named when its number is above 15"
unfoldable pub count_of : List ℕ → Step → ℕ
count_of w s = cond (is_host (named_host w s)) (named_host w s) no_host

-- a step with its answer, as it is looked at for its host: rejected, or accepted too
pub record RejectedStep (w : List ℕ) (s : Step) (answer : Result ⊤ Rejection) : Type 0 where
  pub formed : Formed w
  pub known : Known (kind_of s.kind)
  pub is : answer_number answer ≡ rejection w s
