-- Issues and lists of steps that the rows are about.
use Rattle.std.specs.Prelude.{ℕ, zero, suc, ◌-◌, ◌+◌, ◌^◌, List, [], ◌∷◌, ◌++◌}
use Rattle.types.specs.declared.step.Step.{Step}
use Rattle.model.specs.Entries.{issue}
use Rattle.model.specs.Marked.{add, adopt, learn, wedge, install, inherit, catch_up, next_issue}

-- ---- issues beside `next_issue`, which is for index 2 of shard 1

-- a second one for that index, one for index 3, and one for index 2 of shard 0
unfoldable pub rival_issue : ℕ
rival_issue = issue 2 1 5 (2 ^ 3 + 2 ^ 5)

unfoldable pub later_issue : ℕ
later_issue = issue 3 1 3 (2 ^ 3 + 2 ^ 5)

unfoldable pub other_issue : ℕ
other_issue = issue 2 0 1 (2 ^ 1)

-- four hosts, 0, 3, 5 and 15, and an issue of them for the last index of shard 0
unfoldable pub four_hosts : ℕ
four_hosts = 2 ^ 0 + 2 ^ 3 + 2 ^ 5 + 2 ^ 15

unfoldable pub last_issue : ℕ
last_issue = issue 8 0 3 four_hosts

-- what `next_issue` has below its mark, which is a take
unfoldable pub unmarked : ℕ
unmarked = next_issue - 2 ^ 32

-- ---- steps

-- take 7 is added in shard 0, adopted by its other host, and confirmed there
unfoldable pub one_take : List Step
one_take = add 0 1 7 ∷ adopt 0 1 1 ∷ learn 0 1 1 1 ∷ []

-- an issue is added in shard 0, adopted by its other host, and confirmed at its orderer
unfoldable pub confirmed : ℕ → List Step
confirmed e = add 0 1 e ∷ adopt 0 1 1 ∷ learn 0 1 0 1 ∷ []

-- take 12 is confirmed at host 3 of shard 1, which is then wedged; shard 0 issues hosts 3 and 5 for index 2 of shard 1, confirms that, and it is installed
unfoldable pub replaced : List Step
replaced =
    add 1 1 12
    ∷ adopt 1 1 3
    ∷ learn 1 1 3 1
    ∷ wedge 1 1 3
    ∷ add 0 1 next_issue
    ∷ adopt 0 1 1
    ∷ learn 0 1 0 1
    ∷ install 1 1 0 0
    ∷ []

-- after that, both new hosts inherit, the new orderer adds take 13, the other adopts it and confirms both
unfoldable pub gone_on : List Step
gone_on = inherit 1 2 3 3 ∷ inherit 1 2 5 3 ∷ add 1 2 13 ∷ adopt 1 2 5 ∷ learn 1 2 5 2 ∷ []

-- or host 2 is wedged too, each of the new hosts inherits from another one, the new orderer adds take 13 and the other adopts it
unfoldable pub two_sources : List Step
two_sources = wedge 1 1 2 ∷ inherit 1 2 3 3 ∷ inherit 1 2 5 2 ∷ add 1 2 13 ∷ adopt 1 2 5 ∷ []

-- or the new orderer inherits and adds take 13, and then the other catches up from it
unfoldable pub caught_up_after : List Step
caught_up_after = inherit 1 2 3 3 ∷ add 1 2 13 ∷ catch_up 1 2 5 3 ∷ []

-- on the state `late`: host 15 is wedged, the last index is installed, and host 0 inherits from host 15; the orderer, host 3, catches up from host 0,
-- which is then wedged, and host 5 catches up from it too
unfoldable pub last_index : List Step
last_index = wedge 0 7 15 ∷ install 0 2 5 50 ∷ inherit 0 8 0 15 ∷ catch_up 0 8 3 0 ∷ wedge 0 8 0 ∷ catch_up 0 8 5 0 ∷ []

-- the numbers 1 to n
unfoldable pub up_to : ℕ → List ℕ
up_to zero = []
up_to (suc n) = up_to n ++ (suc n ∷ [])
