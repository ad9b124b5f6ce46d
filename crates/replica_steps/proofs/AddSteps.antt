-- An add, by the words that the code looks at: what it answers and leaves.
-- Assumes nothing.
use Rattle.std.specs.Prelude.{Ok, Err}
use Prim.Native.Nat.{ℕ, ◌+◌, ◌≤◌, ◌<◌}
use mathlib.Core.Path.{◌≡◌, refl, sym, ap, subst, ◌∙◌}
use mathlib.Core.Bool.{Bool, true, false, cond}
use mathlib.Core.List.{List, [], ◌∷◌, ◌++◌}
use lib.Dec.{ltb}
use lib.ListN.{length, get_or, set}
use borrow.Author.Tests.{lt-ltb, le-ltb, eq-eqb, eqb-false, ne_eqb}
use Rattle.types.specs.declared.kind.Kind.TheVariants.{Add}
use Rattle.types.specs.declared.rejection.Rejection.{Rejection}
use Rattle.types.specs.declared.rejection.Rejection.TheVariants.{NotInstalled, NotMember, WrongMode, NotSequencer, HistoryFull}
use Rattle.types.specs.Rejections.{rejection_number}
use Rattle.types.specs.Kinds.{names_host}
use Rattle.types.proofs.KindRules.{known}
use Rattle.types.proofs.Rejections.{number_not_0}
use Rattle.types.proofs.OkErr.{err_is, err_ok}
use Rattle.types.specs.ReplicaPlace.{replica_place}
use Rattle.types.specs.Members.{has_member}
use Rattle.model.specs.Checks.{Check, first_of, ◌or_else◌}
use Rattle.model.specs.Replicas.{replica_words}
use Rattle.model.specs.Layout.{shards_of, is_installed, members, orderer, part, replica_at}
use Rattle.model.specs.Configuration.{configuration}
use Rattle.model.specs.Steps.{are_numbers, kind_checks, kind_effect}
use Rattle.model.specs.Add.{orderer_place, orderer_replica, may_issue, add_checks, add_effect}
use Rattle.model.proofs.Checks.{AllPass, passed, first_before, first_after}
use Rattle.model.proofs.StepNumbers.{numbers_tell}
use Rattle.lookup.specs.Ready.{ReadyHost, Placed, HoldsReplica}
use Rattle.lookup.specs.FoundReplicas.{found_of}
use Rattle.lookup.specs.KindContracts.{kind_answer, kind_after}
use Rattle.model.proofs.Fields.{active_word}
use Rattle.lookup.proofs.StateWords.{length_word}
use Rattle.lookup.proofs.FoundReplicas.{At, at_found, words_at}
use Rattle.lookup.proofs.Orderers.{ordered, orderer_host, orderer_replica_lem}
use Rattle.lookup.proofs.KindAnswers.{rejects, accepts}
use Rattle.replica_steps.specs.Adds.{FormedEntry, ReadyAdd, held_checks}
use Rattle.replica_steps.proofs.AddStores.{store_added}

module _ {w : List ℕ} {n z j o : ℕ} (p : ReadyAdd w n z j o) where
  pub named : ReadyHost w z j o
  named = record { ready = p.kind.ready; host = rw p.ordered (orderer_host p.kind.ready) }

-- the numbers are in range
module _ {w : List ℕ} {n z j o : ℕ} (p : ReadyAdd w n z j o) (e d : ℕ) (x : are_numbers (Ok Add) (shards_of (length w)) e d ≡ true) where
  pub proper : FormedEntry w e
  unfolding names_host
  proper =
      record {
        state = p.kind.ready.state;
        entry = (numbers_tell (Ok Add) (known Add) (shards_of (length w)) e d x).0;
      }

  -- the orderer is a member, so only 10 is told
  not_there : (y : Rejection) → Err y ≡ found_of w z j o → rejection_number y ≡ first_of (add_checks w z j e)
  unfolding found_of add_checks first_of
  not_there y s = go (is_installed w z j) refl s
    where
      go : (t : Bool) → is_installed w z j ≡ t
          → Err y
          ≡ cond t (cond (has_member (members w z j) o) (Ok (replica_place (configuration w z j) o)) (Err NotMember)) (Err NotInstalled)
          → rejection_number y ≡ first_of (add_checks w z j e)
      go true i f =
          let h = (ordered (record { ready = p.kind.ready; there = i })).has in
          absurd (err_ok (rw (p.ordered, h) at f))
      go false i f = ap rejection_number (err_is f) ∙ rw i

  pub nowhere : (y : Rejection) → Err y ≡ found_of w z j o
      → (rejection_number y ≡ kind_answer (Ok Add) w z j e d) × (w ≡ kind_after (Ok Add) w z j e d)
  unfolding kind_checks
  nowhere y s = rejects (Ok Add) w z j e d x y (not_there y s)

  -- r is the place of the replica that was found
  module _ {r : ℕ} (s : Ok r ≡ found_of w z j o) where
    at : At w z j (orderer w z j) r
    at = subst (λ (h : ℕ). At w z j h r) p.ordered (at_found w z j o s r refl)

    words : part w r ≡ replica_words (replica_at w r)
    words = words_at at p.kind.ready

    replica_is : orderer_replica w z j ≡ replica_at w r
    replica_is = orderer_replica_lem at

    pub holds_it : Placed w r → HoldsReplica w r
    holds_it f = record { placed = f; words = words }

    pub not_active : (get_or w r 0 ≡ 2 → ⊥) → (12 ≡ kind_answer (Ok Add) w z j e d) × (w ≡ kind_after (Ok Add) w z j e d)
    unfolding kind_checks add_checks first_of
    not_active m = rejects (Ok Add) w z j e d x WrongMode (simp (at.there, replica_is, active_word, ne_eqb _ _ m))

    -- t is the test of the sequencer
    module _ (active : get_or w r 0 ≡ 2) {t : Bool} (g : t ≡ may_issue w z e) where
      pub not_sequencer : t ≡ false → (17 ≡ kind_answer (Ok Add) w z j e d) × (w ≡ kind_after (Ok Add) w z j e d)
      unfolding kind_checks add_checks first_of
      not_sequencer m =
          rejects (Ok Add) w z j e d x NotSequencer (simp (at.there, replica_is, active_word, eq-eqb _ _ active, sym g ∙ m))

      module _ (may : t ≡ true) where
        -- the checks of the history are left: those of its entries, and that of its length
        held : List Check
        held = held_checks e (replica_at w r).history

        room : List Check
        room = ltb (length (replica_at w r).history) 56 or_else 16 ∷ []

        are_left : first_of (add_checks w z j e) ≡ first_of (held ++ room)
        unfolding add_checks held_checks held room first_of
        are_left = rw (at.there, replica_is, active_word w r, eq-eqb _ _ active, sym g ∙ may)

        -- what the history tells of the entry
        pub against : (u : Rejection) → rejection_number u ≡ first_of (held_checks e (replica_at w r).history)
            → (rejection_number u ≡ kind_answer (Ok Add) w z j e d) × (w ≡ kind_after (Ok Add) w z j e d)
        unfolding kind_checks held
        against u f =
            rejects (Ok Add) w z j e d x u
            (f ∙ sym (first_before held room (λ q. eqb-false _ _ (number_not_0 u) (f ∙ q))) ∙ sym are_left)

        module _ (free : 0 ≡ first_of (held_checks e (replica_at w r).history)) where
          passes : AllPass held
          unfolding held held_checks
          passes = passed held refl (sym free)

          long : length (replica_at w r).history ≡ get_or w (r + 1) 0
          long = length_word w r words

          left : first_of (add_checks w z j e) ≡ cond (ltb (get_or w (r + 1) 0) 56) 0 16
          unfolding room first_of
          left = are_left ∙ first_after held room passes ∙ rw long

          pub full : 56 ≤ get_or w (r + 1) 0 → (16 ≡ kind_answer (Ok Add) w z j e d) × (w ≡ kind_after (Ok Add) w z j e d)
          unfolding kind_checks
          full q = rejects (Ok Add) w z j e d x HistoryFull (rw (left, le-ltb _ _ q))

          pub done : get_or w (r + 1) 0 < 56 → (0 ≡ kind_answer (Ok Add) w z j e d)
              × (set (set w (r + 8 + get_or w (r + 1) 0) e) (r + 1) (get_or w (r + 1) 0 + 1) ≡ kind_after (Ok Add) w z j e d)
          unfolding kind_checks kind_effect add_effect orderer_place configuration
          done q =
              accepts (Ok Add) w z j e d x (rw (left, lt-ltb _ _ q))
              (store_added w r e (get_or w (r + 1) 0) (replica_at w r) words (length_word w r words) q
              ∙ rw (at.place_is, replica_is))
