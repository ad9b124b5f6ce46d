-- Who appoints: the configuration that an accepted install makes is the first issue for its shard and index in the stable history of the shard's sequencer.
-- Assumes nothing.
use Prim.Native.Nat.{ℕ, ◌+◌, ◌*◌, ◌≤◌, ◌<◌}
use native.Mathlib.Omega.{arith}
use mathlib.Core.Path.{◌≡◌, sym, ap, subst, ◌∙◌}
use mathlib.Core.Bool.{true}
use mathlib.Core.List.{List}
use lib.ListN.{length, get_or}
use Rattle.types.specs.declared.step.Step.{Step}
use Rattle.types.specs.Members.{size, replica_number}
use Rattle.model.specs.Entries.{issue, is_issue, issue_index, issue_shard, issue_orderer, issue_members, names, first_issue}
use Rattle.model.specs.Replicas.{stable_prefix}
use Rattle.model.specs.Layout.{sequencer, installed, members, orderer}
use Rattle.model.specs.Install.{issuer, issued_at, none_before, install_checks, install_effect}
use Rattle.model.specs.Steps.{kind_checks, kind_effect, rejection, effect}
use Rattle.model.specs.StableHistory.{stable_history}
use Rattle.model.specs.Prefixes.{Begins}
use Rattle.model.specs.OneList.{shards}
use Rattle.model.proofs.Checks.{AllPass, accepted}
use Rattle.model.proofs.Prefixes.{begins_get_d}
use Rattle.model.proofs.Moves.{prefix_begins}
use Rattle.model.proofs.KindMoves.{prefix_length}
use Rattle.model.proofs.StateViews.{view, stable_begins}
use Rattle.model.proofs.Issues.{first_stays, first_at, none_before_lem, issue_word_lem, issue_not_zero}
use Rattle.model.proofs.Rivals.{names_own}
use Rattle.model.proofs.WellFormed.{size_of}
use Rattle.model.proofs.WellFormedMembers.{configured}
use Rattle.model.proofs.InstallNext.{next_installed, next_members, next_orderer}
use Rattle.model.proofs.WellFormedInstall.{issuer_proper, issue_proper, stable_issue, next_index}
use Rattle.model.proofs.SeatedReplica.{member_view}
use Rattle.model.proofs.Safe.{Safe, Installs}
use Rattle.model.proofs.SafeChange.{formed, sequencer_below}

-- from w to w' shard z gets its next configuration, and that is the first issue for it in the stable history of the sequencer that z has in w
pub record Appoints (w w' : List ℕ) (z : ℕ) : Type 0 where
  pub gets : installed w' z ≡ installed w z + 1
  pub first :
      first_issue z (installed w z + 1) (stable_history w (sequencer w z))
      ≡ issue (installed w z + 1) z (orderer w' z (installed w z)) (members w' z (installed w z))

module _ {w : List ℕ} {offers : ℕ → List ℕ} (x : Safe w offers) {z j : ℕ} (hz : z < shards w) (hj : j < 8) (h p : ℕ)
    (c : AllPass (install_checks w z j h p)) where
  -- the entry at the place, which is an issue for this shard
  entry : ℕ
  entry = issued_at w z j h p

  said : (p < (issuer w z j h).stable) × (is_issue entry ≡ true) × (issue_shard entry ≡ z)
  unfolding entry
  said = stable_issue (formed x) hz hj h p c

  entry_is : entry ≡ issue (installed w z + 1) z (issue_orderer entry) (issue_members entry)
  unfolding entry
  entry_is =
      issue_word_lem entry said.1
      ∙ ap (λ (k : ℕ). issue k (issue_shard entry) (issue_orderer entry) (issue_members entry)) (next_index (formed x) hz hj h p c)
      ∙ ap (λ (k : ℕ). issue (installed w z + 1) k (issue_orderer entry) (issue_members entry)) said.2

  -- the issuer is a replica of the sequencer's view
  issuer_number : ℕ
  issuer_number = replica_number (members w (sequencer w z) j) h

  issuer_view : issuer w z j h ≡ view w (sequencer w z) j issuer_number
  unfolding install_checks issuer issuer_number
  issuer_view = member_view (formed x) (sequencer_below x z hz) hj h (search)

  names_entry : names z (issue_index entry) entry ≡ true
  names_entry = rw said.2 at (names_own entry said.1)

  before_none : none_before z (issue_index entry) p (issuer w z j h).history ≡ true
  unfolding install_checks entry
  before_none = search

  -- in the issuer's stable prefix the entry is the first of its shard and index
  first_in_prefix : first_issue z (issue_index entry) (stable_prefix (issuer w z j h)) ≡ entry
  unfolding entry issued_at
  first_in_prefix =
      first_at z (issue_index entry) (stable_prefix (issuer w z j h)) p (rw long said.0) (rw (at p said.0) names_entry)
      (λ q l. rw (at q (omega (arith, l, said.0))) (none_before_lem z (issue_index entry) p (issuer w z j h).history none q l))
      ∙ at p said.0
    where
      long : length (stable_prefix (issuer w z j h)) ≡ (issuer w z j h).stable
      long = prefix_length (issuer w z j h) (issuer_proper (formed x) hz hj h p c).stable_most

      at : (q : ℕ) → q < (issuer w z j h).stable → get_or (stable_prefix (issuer w z j h)) q 0 ≡ get_or (issuer w z j h).history q 0
      at q l = begins_get_d (prefix_begins (issuer w z j h)) q (rw long l)

      none : none_before z (issue_index entry) p (issuer w z j h).history ≡ true
      none = before_none

  first_in_history : first_issue z (installed w z + 1) (stable_history w (sequencer w z))
      ≡ issue (installed w z + 1) z (issue_orderer entry) (issue_members entry)
  unfolding entry
  first_in_history =
      first_stays z (installed w z + 1) grown
      (ap (λ (k : ℕ). first_issue z k (stable_prefix (issuer w z j h))) (sym (next_index (formed x) hz hj h p c)) ∙ first_in_prefix ∙ entry_is)
      (issue_not_zero (installed w z + 1) z (issue_orderer entry) (issue_members entry))
    where
      grown : Begins (stable_prefix (issuer w z j h)) (stable_history w (sequencer w z))
      grown =
          rw issuer_view
          (stable_begins w (sequencer w z) (x.inv (sequencer w z) (sequencer_below x z hz)) j issuer_number)

  pub install_appoints : Appoints w (install_effect w z j h p) z
  unfolding install_effect entry installed members orderer
  install_appoints =
      record {
        gets = next_installed w long hz below m o few;
        first = rw (next_orderer w long hz below m o few, next_members w long hz below m o few) first_in_history;
      }
    where
      m : ℕ
      m = issue_members entry

      o : ℕ
      o = issue_orderer entry

      long : length w ≡ shards w * 2112
      long = size_of (formed x)

      below : installed w z < 8
      below = omega (arith, next_index (formed x) hz hj h p c, (issue_proper (formed x) hz hj h p c).index_most)

      few : size m ≤ 4
      few = (configured m o (issue_proper (formed x) hz hj h p c).configuration).size_most

-- so an accepted step that is an install of shard z appoints
pub step_appoints : {w : List ℕ} {offers : ℕ → List ℕ} → Safe w offers → (s : Step) → rejection w s ≡ 0 → (z : ℕ) → Installs s z
    → Appoints w (effect w s) z
unfolding effect kind_effect kind_checks shards
step_appoints {w} x s e z i =
    let a = accepted w s e in
    subst (λ (y : ℕ). Appoints w (effect w s) y) i.shard
    (rw i.kind (install_appoints x a.range.shard a.range.configuration s.c s.d (rw i.kind at a.checks)))
