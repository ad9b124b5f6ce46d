-- Request A3, "What a box confirms is unchanged": in well-formed states word 3 of a replica, which that request brought, decides nothing but later words 3.
-- It is one claim over every two well-formed states that differ in words 3 alone: steps get the same answers on both and leave states that differ there
-- alone, and every host shows the same. It is proved in `proofs/Unchanged.antt` (`unchanged`).
use Rattle.std.specs.Prelude.{ℕ, ◌%◌, ◌<◌, ◌≡◌, Bool, true, false, ◌&&◌, List, leb, eqb, length, get_or}
use Rattle.types.specs.declared.step.Step.{Step}
use Rattle.model.specs.Layout.{shard_words, head_words}
use Rattle.types.specs.ReplicaPlace.{part_words}
use Rattle.model.specs.WellFormed.{well_formed}
use Rattle.model.specs.Steps.{rejection, after}
use Rattle.model.specs.Replay.{after_all}
use Rattle.model.specs.StableHistory.{stable_history}
use Rattle.model.specs.OneList.{stable_of}
use Rattle.model.specs.Marked.{answers_from}

-- place i of a state is word 3 of a replica: of a shard's 2,112 words the first 64 are its head, and each 64 that follow are a replica's
unfoldable pub is_origin_place : ℕ → Bool
is_origin_place i = leb head_words (i % shard_words) && eqb (i % part_words) 3

-- two states that differ in words 3 of replicas alone
pub record OriginsAlone (v w : List ℕ) : Type 0 where
  pub long : length v ≡ length w
  pub words : (i : ℕ) → is_origin_place i ≡ false → get_or v i 0 ≡ get_or w i 0

-- what two such states have in common
pub record Unchanged (v w : List ℕ) : Type 0 where
  -- a step gets the same answer on both, whatever its kind, and leaves them different in words 3 alone
  pub answer : (s : Step) → rejection v s ≡ rejection w s
  pub left : (s : Step) → OriginsAlone (after v s) (after w s)
  -- so do steps that are tried one after the other
  pub answers : (ss : List Step) → answers_from v ss ≡ answers_from w ss
  pub left_by_all : (ss : List Step) → OriginsAlone (after_all v ss) (after_all w ss)
  -- "What a box confirms": before any step and after them, the stable prefix of every host in every configuration, and the stable history of every shard
  pub prefixes : (ss : List Step) (z j h : ℕ) → j < 8 → stable_of (after_all v ss) z j h ≡ stable_of (after_all w ss) z j h
  pub histories : (ss : List Step) (z : ℕ) → stable_history (after_all v ss) z ≡ stable_history (after_all w ss) z

unfoldable pub UnchangedClaim : Type 0
UnchangedClaim = (v w : List ℕ) → well_formed v ≡ true → well_formed w ≡ true → OriginsAlone v w → Unchanged v w
