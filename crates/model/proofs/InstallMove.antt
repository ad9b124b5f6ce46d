-- Install as a move of a view: a configuration that was unused becomes pending, and the invariant stays.
-- Assumes nothing.
use Prim.Native.Nat.{ℕ, suc, ◌≤◌, ◌<◌}
use native.Mathlib.Omega.{arith}
use mathlib.Core.Path.{◌≡◌, refl, sym, ap, ◌∙◌}
use mathlib.Core.List.{List, []}
use lib.Dec.{lit≤}
use lib.ListN.{length}
use Rattle.model.specs.Replicas.{Replica, stable_prefix, pending, unused}
use Rattle.model.specs.Prefixes.{Begins}
use Rattle.model.proofs.Prefixes.{begins_refl}
use Rattle.model.proofs.Views.{View, Root, Stem, Inv}

-- what is seen at configuration a, replica b: as it was, or a replica of the configuration j that was unused, and is pending or unused
pub data SeenNew (v v' : View) (j a b : ℕ) : Type 0 where
  as_it_was : (a ≡ j → ⊥) → v' a b ≡ v a b → SeenNew v v' j a b
  now_pending : a ≡ j → v a b ≡ unused → v' a b ≡ pending → SeenNew v v' j a b
  still_unused : a ≡ j → v a b ≡ unused → v' a b ≡ unused → SeenNew v v' j a b

module _ {v v' : View} {offer : List ℕ} {j : ℕ} (i : Inv v offer) (seen : (a b : ℕ) → SeenNew v v' j a b) where
  -- a live replica is one that was there
  live_was : (a b : ℕ) → 2 ≤ (v' a b).mode → (v' a b ≡ v a b) × (a ≡ j → ⊥)
  unfolding pending unused
  live_was a b h = go (seen a b)
    where
      go : SeenNew v v' j a b → (v' a b ≡ v a b) × (a ≡ j → ⊥)
      go (as_it_was n e) = (e, n)
      go (now_pending p q e) = absurd (omega (arith, ap (λ (r : Replica). r.mode) e))
      go (still_unused p q e) = absurd (omega (arith, ap (λ (r : Replica). r.mode) e))

  -- an immutable replica stays
  pub immutable_stays : (a b : ℕ) → (v a b).mode ≡ 3 → v' a b ≡ v a b
  unfolding unused
  immutable_stays a b h = go (seen a b)
    where
      go : SeenNew v v' j a b → v' a b ≡ v a b
      go (as_it_was n e) = e
      go (now_pending p q e) = absurd (omega (arith, h, ap (λ (r : Replica). r.mode) q))
      go (still_unused p q e) = absurd (omega (arith, h, ap (λ (r : Replica). r.mode) q))

  -- stable prefixes are as they were: those of the new replicas are empty
  same_prefix : (a b : ℕ) → stable_prefix (v' a b) ≡ stable_prefix (v a b)
  unfolding pending unused stable_prefix
  same_prefix a b = go (seen a b)
    where
      go : SeenNew v v' j a b → stable_prefix (v' a b) ≡ stable_prefix (v a b)
      go (as_it_was n e) = ap stable_prefix e
      go (now_pending p q e) = ap stable_prefix e ∙ sym (ap stable_prefix q)
      go (still_unused p q e) = ap stable_prefix e ∙ sym (ap stable_prefix q)

  -- so are histories
  same_history : (a b : ℕ) → (v' a b).history ≡ (v a b).history
  unfolding pending unused
  same_history a b = go (seen a b)
    where
      h : Replica → List ℕ
      h r = r.history

      go : SeenNew v v' j a b → (v' a b).history ≡ (v a b).history
      go (as_it_was n e) = ap h e
      go (now_pending p q e) = ap h e ∙ sym (ap h q)
      go (still_unused p q e) = ap h e ∙ sym (ap h q)

  install_fits : (a b : ℕ) → (v' a b).stable ≤ length (v' a b).history
  unfolding pending unused
  install_fits a b = go (seen a b)
    where
      go : SeenNew v v' j a b → (v' a b).stable ≤ length (v' a b).history
      go (as_it_was n e) = rw e (i.fits a b)
      go (now_pending p q e) = rw e (lit≤ tt)
      go (still_unused p q e) = rw e (lit≤ tt)

  install_blank : (a b : ℕ) → (v' a b).mode < 2 → (v' a b).history ≡ []
  unfolding pending unused
  install_blank a b = go (seen a b)
    where
      go : SeenNew v v' j a b → (v' a b).mode < 2 → (v' a b).history ≡ []
      go (as_it_was n e) = rw e (i.blank a b)
      go (now_pending p q e) = rw e (λ h. refl)
      go (still_unused p q e) = rw e (λ h. refl)

  install_reach : (x y a b : ℕ) → x ≤ a → 2 ≤ (v' a b).mode → Begins (stable_prefix (v' x y)) (v' a b).history
  install_reach x y a b h l =
      rw (same_prefix x y, same_history a b) (i.reach x y a b h (rw (live_was a b l).0 at l))

  install_rooted : (a b : ℕ) → 2 ≤ (v' (suc a) b).mode → Root v' a (v' (suc a) b).history
  install_rooted a b l = stay (i.rooted a b (rw (live_was (suc a) b l).0 at l))
    where
      stay : Root v a (v (suc a) b).history → Root v' a (v' (suc a) b).history
      stay s =
          record {
            number = s.number;
            is_immutable = rw (immutable_stays a s.number s.is_immutable) s.is_immutable;
            begins = rw (same_history a s.number, same_history (suc a) b) s.begins;
          }

  install_stemmed : (a p b : ℕ) → (v' (suc a) p).mode ≡ 1 → 2 ≤ (v' (suc a) b).mode → Stem v' a (stable_prefix (v' (suc a) b))
  install_stemmed a p b h l = go (seen (suc a) p)
    where
      stay : Stem v a (stable_prefix (v (suc a) b)) → Stem v' a (stable_prefix (v' (suc a) b))
      stay s =
          record {
            number = s.number;
            is_immutable = rw (immutable_stays a s.number s.is_immutable) s.is_immutable;
            begins = rw (same_prefix a s.number, same_prefix (suc a) b) s.begins;
          }

      go : SeenNew v v' j (suc a) p → Stem v' a (stable_prefix (v' (suc a) b))
      go (as_it_was n e) = stay (i.stemmed a p b (rw e at h) (rw (live_was (suc a) b l).0 at l))
      go (now_pending q r e) = absurd ((live_was (suc a) b l).1 q)
      go (still_unused q r e) = absurd ((live_was (suc a) b l).1 q)

  pub install_keeps : Inv v' offer
  install_keeps =
      record {
        fits = install_fits;
        blank = install_blank;
        reach = install_reach;
        rooted = install_rooted;
        stemmed = install_stemmed;
        once = λ a b. rw (same_history a b) (i.once a b);
        single = λ a b. rw (same_history a b) (i.single a b);
        offered = λ a b. rw (same_history a b) (i.offered a b);
      }

  pub install_grows : (a b : ℕ) → Begins (stable_prefix (v a b)) (stable_prefix (v' a b))
  install_grows a b = rw (same_prefix a b) begins_refl
