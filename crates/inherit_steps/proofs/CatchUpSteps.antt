-- A catch-up, by the words that the code looks at: its peer, and what it leaves.
-- Assumes nothing.
use Prim.Native.Nat.{ℕ, ◌+◌}
use mathlib.Core.Path.{◌≡◌, refl, ap, ◌∙◌}
use mathlib.Core.Bool.{true, false, not}
use mathlib.Core.List.{List}
use lib.Dec.{eqb}
use lib.ListN.{get_or}
use borrow.Author.Tests.{eq-eqb, ne_eqb}
use Rattle.std.specs.Prelude.{Ok, Err}
use Rattle.types.specs.declared.kind.Kind.TheVariants.{CatchUp}
use Rattle.types.specs.declared.rejection.Rejection.{Rejection}
use Rattle.types.specs.Rules.{most_fourth}
use Rattle.model.specs.Replicas.{caught_up}
use Rattle.model.specs.Layout.{is_installed, replica_at, put_replica}
use Rattle.model.specs.Configuration.{replica_in}
use Rattle.model.specs.Steps.{kind_checks, kind_effect}
use Rattle.model.specs.CatchUp.{is_peer, catch_up_checks, catch_up_effect}
use Rattle.lookup.specs.Ready.{Ready, ReadyHost, Placed, HoldsReplica}
use Rattle.lookup.specs.FoundReplicas.{found_of}
use Rattle.lookup.specs.KindContracts.{kind_answer, kind_after}
use Rattle.step_numbers.specs.Acting.{Acting}
use Rattle.model.proofs.Fields.{stable_word, origin_word_lem, pending_word}
use Rattle.lookup.proofs.FoundReplicas.{At, at_found, no_member_lem, words_at}
use Rattle.copying.specs.Copies.{copied}
use Rattle.step_numbers.proofs.ActingSteps.{acting_at}
use Rattle.inherit_steps.proofs.Beginnings.{Beginning, other_host, not_other, begins}

pub catching_up : Beginning CatchUp is_peer
unfolding most_fourth kind_checks catch_up_checks replica_in
catching_up = record { fourth = refl; checks = λ w z j h g. refl }

-- a host without a replica is no peer
no_peer : (w : List ℕ) (z j g : ℕ) (x : Rejection) → Err x ≡ found_of w z j g → is_installed w z j ≡ true → is_peer w z j g ≡ false
unfolding is_peer
no_peer w z j g x e i = rw (no_member_lem w z j g e i x refl)

-- a host with a replica is a peer where that is not pending
peer_word : {w : List ℕ} {z j g q : ℕ} → At w z j g q → is_peer w z j g ≡ not (eqb (get_or w q 0) 1)
unfolding is_peer replica_in
peer_word a = simp (a.member, a.replica_is, pending_word)

-- p is the acting host's replica
module _ {w : List ℕ} {z j : ℕ} (r : Ready w z j) (h g : ℕ) {p : ℕ} (s : Acting CatchUp w z j h g p) where
  -- the peer is looked for in the same configuration
  pub peer_host : ReadyHost w z j g
  peer_host = record { ready = r; host = other_host catching_up w z j h g s }

  -- .. which is pending
  module _ (pending : get_or w p 0 ≡ 1) where
    pub not_there : (x : Rejection) → Err x ≡ found_of w z j g → (13 ≡ kind_answer (Ok CatchUp) w z j h g) × (w ≡ kind_after (Ok CatchUp) w z j h g)
    not_there x t = not_other catching_up w z j h g s pending (no_peer w z j g x t s.there)

    -- q is that of the peer
    module _ {q : ℕ} (t : Ok q ≡ found_of w z j g) where
      from : At w z j g q
      from = at_found w z j g t q refl

      pub peer_pending : get_or w q 0 ≡ 1 → (13 ≡ kind_answer (Ok CatchUp) w z j h g) × (w ≡ kind_after (Ok CatchUp) w z j h g)
      peer_pending m = not_other catching_up w z j h g s pending (peer_word from ∙ ap not (eq-eqb _ _ m))

      pub holds : Placed w q → HoldsReplica w q
      holds m = record { placed = m; words = words_at from r }

      pub done : (get_or w q 0 ≡ 1 → ⊥) → {v : List ℕ}
          → v ≡ put_replica w p (copied 2 (get_or w (q + 2) 0) (get_or w (q + 3) 0) (replica_at w q))
          → (0 ≡ kind_answer (Ok CatchUp) w z j h g) × (v ≡ kind_after (Ok CatchUp) w z j h g)
      unfolding kind_effect catch_up_effect caught_up replica_in
      done m x =
          begins catching_up w z j h g s pending (peer_word from ∙ ap not (ne_eqb _ _ m))
          (x ∙ rw ((acting_at s).place_is, from.replica_is, stable_word w q, origin_word_lem w q))
