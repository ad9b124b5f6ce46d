-- The proof of `specs/Appointed.antt`: the fields of an issue's word, and the bounds of a well-formed state's members and orderers. Assumes nothing.
use Prim.Native.Nat.{ℕ, suc, ◌+◌, ◌/◌, ◌^◌, ◌≤◌, ◌<◌}
use native.Mathlib.Nat.{lt_of_lt_of_le}
use native.Mathlib.Omega.{arith}
use mathlib.Core.Path.{◌≡◌, refl}
use mathlib.Core.List.{List, []}
use borrow.Author.Tests.{eq-eqb, lt-ltb}
use Rattle.model.specs.Entries.{issue, is_issue, issue_index, issue_shard, issue_orderer, issue_members}
use Rattle.model.specs.Layout.{installed, members, orderer, is_installed}
use Rattle.model.specs.OneList.{shards}
use Rattle.model.specs.Appointed.{IsIssueOf, AppointedIn, Appointed}
use Rattle.model.proofs.Lengths.{length_of_shards}
use Rattle.model.proofs.WellFormed.{WellFormed, well_formed_lem}
use Rattle.model.proofs.WellFormedMembers.{Configured, head_installed}
use Rattle.model.proofs.Safe.{Safe}
use Rattle.model.proofs.SetupRuns.{from_setup}
use Rattle.model.proofs.Moments.{safe_at, shards_at}
use Rattle.model.proofs.Makes.{issued_at_lem}

issue_fixed : (index shard o m : ℕ) → index < 256 → shard < 16 → o < 16 → m < 65536 → IsIssueOf index shard o m (issue index shard o m)
unfolding issue is_issue issue_index issue_shard issue_orderer issue_members
issue_fixed index shard o m hi hs ho hm =
    let mark : issue index shard o m / 2 ^ 32 ≡ 1 = omega arith in
    record {
      is_issue_word = eq-eqb (issue index shard o m / 2 ^ 32) 1 mark;
      its_index = omega arith;
      its_shard = omega arith;
      its_orderer = omega arith;
      its_members = omega arith;
    }

-- the word of the issue of a configuration of a safe state
module _ {u : List ℕ} {offers : ℕ → List ℕ} (s : Safe u offers) {z j : ℕ} (h : z < shards u) (l : suc j < installed u z) where
  formed : WellFormed (shards u) u
  unfolding shards
  formed = well_formed_lem u (shards u) refl s.several s.formed

  few : installed u z ≤ 8
  few = (formed.head z h).most

  numbers : Configured (members u z (suc j)) (orderer u z (suc j))
  unfolding is_installed
  numbers =
      head_installed u z (suc j) ((formed.head z h).configured (suc j) (lt_of_lt_of_le l few)) (lt-ltb (suc j) (installed u z) l)

  most : shards u ≤ 8
  unfolding shards
  most = (length_of_shards u (shards u) refl s.several).1

  first_fixed : {e : ℕ} → e ≡ issue (j + 2) z (orderer u z (suc j)) (members u z (suc j))
      → IsIssueOf (j + 2) z (orderer u z (suc j)) (members u z (suc j)) e
  first_fixed i =
      rw i
      (issue_fixed (j + 2) z (orderer u z (suc j)) (members u z (suc j)) (omega (arith, few)) (omega (arith, most)) numbers.host numbers.below)

pub appointed : Appointed
unfolding AppointedIn
appointed =
    record {
      fixed = issue_fixed;
      in_runs = λ w p e calls z j n h l.
          let run = from_setup w p e calls in
          let never : ℕ → ℕ → List ℕ = λ z n. [] in
          first_fixed (safe_at run never n) (rw (shards_at run never n) h) l (issued_at_lem run z j n h l);
    }
