-- What the claim `issued` of `OneList.antt` says of a configuration's numbers, as one claim: the first issue fixes the members and the orderer. It is
-- proved in `proofs/Appointed.antt` (`appointed`).
use Rattle.std.specs.Prelude.{ℕ, suc, ◌+◌, ◌<◌, ◌≡◌, true, List}
use Rattle.model.specs.Entries.{issue, is_issue, issue_index, issue_shard, issue_orderer, issue_members, first_issue}
use Rattle.model.specs.Layout.{sequencer, installed, members, orderer}
use Rattle.model.specs.Setup.{setup_rejection, after_setup}
use Rattle.model.specs.StableHistory.{stable_history}
use Rattle.model.specs.Runs.{Call, Moment, played, state_at}
use Rattle.model.specs.OneList.{shards}

-- the word e is an issue with these four numbers
pub record IsIssueOf (index shard o m e : ℕ) : Type 0 where
  pub is_issue_word : is_issue e ≡ true
  pub its_index : issue_index e ≡ index
  pub its_shard : issue_shard e ≡ shard
  pub its_orderer : issue_orderer e ≡ o
  pub its_members : issue_members e ≡ m

-- w is the state after setup, ms every step tried since: "A configuration is that issue when its members and orderer are those in it", read off
-- the word of the first issue for its shard and index
unfoldable pub AppointedIn : List ℕ → List Moment → Type 0
AppointedIn w ms =
    (z j n : ℕ) → z < shards w → suc j < installed (state_at w ms n) z
    → IsIssueOf (j + 2) z (orderer (state_at w ms n) z (suc j)) (members (state_at w ms n) z (suc j))
    (first_issue z (j + 2) (stable_history (state_at w ms n) (sequencer (state_at w ms n) z)))

pub record Appointed : Type 0 where
  -- the word of an issue has just its four numbers, each below its bound
  pub fixed :
      (index shard o m : ℕ) → index < 256 → shard < 16 → o < 16 → m < 65536 → IsIssueOf index shard o m (issue index shard o m)
  -- in every run, every configuration after a shard's first has the members and the orderer of that issue
  pub in_runs :
      (w p : List ℕ) → setup_rejection w p ≡ 0 → (calls : List Call) → AppointedIn (after_setup w p) (played (after_setup w p) calls)
