-- A change of one replica keeps the invariant of its shard, if nine small facts hold of the new replica.
-- Assumes nothing.
use Prim.Native.Nat.{ℕ, suc, ◌≤◌, ◌<◌}
use native.Mathlib.Omega.{arith}
use mathlib.Core.Path.{◌≡◌, sym, ap, ap₂, ◌∙◌}
use mathlib.Core.List.{List, []}
use lib.ListN.{length}
use Rattle.model.specs.Replicas.{Replica, stable_prefix}
use Rattle.model.specs.Prefixes.{Begins}
use Rattle.model.proofs.Prefixes.{begins_take, begins_refl}
use Rattle.model.proofs.Histories.{Once, Offered, Wider, offered_wider}
use Rattle.model.proofs.Rivals.{Single}
use Rattle.model.proofs.Views.{View, Root, Stem, Inv}

-- what is seen at configuration a, replica b, after replica k of configuration j became r
pub data Seen (v v' : View) (j k : ℕ) (r : Replica) (a b : ℕ) : Type 0 where
  here : a ≡ j → b ≡ k → v' a b ≡ r → Seen v v' j k r a b
  there : (a ≡ j → b ≡ k → ⊥) → v' a b ≡ v a b → Seen v v' j k r a b

pub record Moved (v v' : View) (j k : ℕ) (r : Replica) : Type 0 where
  pub seen : (a b : ℕ) → Seen v v' j k r a b

-- the facts of a new replica r in the place of v j k
pub record Move (v : View) (offer : List ℕ) (j k : ℕ) (r : Replica) : Type 0 where
  pub live : 2 ≤ r.mode
  pub not_immutable : (v j k).mode ≡ 3 → ⊥
  pub fits : r.stable ≤ length r.history
  pub grows : Begins (stable_prefix (v j k)) (stable_prefix r)
  pub into : (i l : ℕ) → i ≤ j → Begins (stable_prefix (v i l)) r.history
  pub out : (i l : ℕ) → j ≤ i → 2 ≤ (v i l).mode → Begins (stable_prefix r) (v i l).history
  pub rooted : (a : ℕ) → j ≡ suc a → Root v a r.history
  pub stemmed : (a p : ℕ) → j ≡ suc a → (v j p).mode ≡ 1 → (p ≡ k → ⊥) → Stem v a (stable_prefix r)
  pub once : Once r.history
  pub single : Single r.history
  pub offered : Offered offer r.history

-- a stable prefix begins its history
pub prefix_begins : (r : Replica) → Begins (stable_prefix r) r.history
unfolding stable_prefix
prefix_begins r = begins_take r.stable r.history

module _ {v v' : View} {offer offer' : List ℕ} {j k : ℕ} {r : Replica} (i : Inv v offer) (w : Wider offer offer') (m : Move v offer' j k r)
    (d : Moved v v' j k r) where
  -- immutable replicas are not changed
  pub immutable_stays : (a b : ℕ) → (v a b).mode ≡ 3 → v' a b ≡ v a b
  immutable_stays a b h = go (d.seen a b)
    where
      go : Seen v v' j k r a b → v' a b ≡ v a b
      go (here p q e) = absurd (m.not_immutable (ap₂ (λ x y. (v x y).mode) (sym p) (sym q) ∙ h))
      go (there n e) = e

  root_stays : {a : ℕ} {l : List ℕ} → Root v a l → Root v' a l
  root_stays {a} {l} s =
      record {
        number = s.number;
        is_immutable = rw (immutable_stays a s.number s.is_immutable) s.is_immutable;
        begins = rw (immutable_stays a s.number s.is_immutable) s.begins;
      }

  stem_stays : {a : ℕ} {l : List ℕ} → Stem v a l → Stem v' a l
  stem_stays {a} {l} s =
      record {
        number = s.number;
        is_immutable = rw (immutable_stays a s.number s.is_immutable) s.is_immutable;
        begins = rw (immutable_stays a s.number s.is_immutable) s.begins;
      }

  keep_fits : (a b : ℕ) → (v' a b).stable ≤ length (v' a b).history
  keep_fits a b = go (d.seen a b)
    where
      go : Seen v v' j k r a b → (v' a b).stable ≤ length (v' a b).history
      go (here p q e) = rw e m.fits
      go (there n e) = rw e (i.fits a b)

  keep_blank : (a b : ℕ) → (v' a b).mode < 2 → (v' a b).history ≡ []
  keep_blank a b = go (d.seen a b)
    where
      go : Seen v v' j k r a b → (v' a b).mode < 2 → (v' a b).history ≡ []
      go (here p q e) = rw e (λ h. absurd (let l : 2 ≤ r.mode = m.live in omega (arith, h)))
      go (there n e) = rw e (i.blank a b)

  keep_reach : (x y a b : ℕ) → x ≤ a → 2 ≤ (v' a b).mode → Begins (stable_prefix (v' x y)) (v' a b).history
  keep_reach x y a b h = go (d.seen x y) (d.seen a b)
    where
      go : Seen v v' j k r x y → Seen v v' j k r a b → 2 ≤ (v' a b).mode → Begins (stable_prefix (v' x y)) (v' a b).history
      go (here p q e) (here p' q' e') = rw (e, e') (λ l. prefix_begins r)
      go (here p q e) (there n e') = rw (e, e') (m.out a b (omega (arith, p)))
      go (there n e) (here p q e') = rw (e, e') (λ l. m.into x y (omega (arith, p)))
      go (there n e) (there n' e') = rw (e, e') (i.reach x y a b h)

  keep_rooted : (a b : ℕ) → 2 ≤ (v' (suc a) b).mode → Root v' a (v' (suc a) b).history
  keep_rooted a b = go (d.seen (suc a) b)
    where
      go : Seen v v' j k r (suc a) b → 2 ≤ (v' (suc a) b).mode → Root v' a (v' (suc a) b).history
      go (here p q e) = rw e (λ l. root_stays (m.rooted a (sym p)))
      go (there n e) = rw e (λ l. root_stays (i.rooted a b l))

  keep_stemmed : (a p b : ℕ) → (v' (suc a) p).mode ≡ 1 → 2 ≤ (v' (suc a) b).mode → Stem v' a (stable_prefix (v' (suc a) b))
  keep_stemmed a p b = go (d.seen (suc a) p) (d.seen (suc a) b)
    where
      go : Seen v v' j k r (suc a) p → Seen v v' j k r (suc a) b → (v' (suc a) p).mode ≡ 1 → 2 ≤ (v' (suc a) b).mode
          → Stem v' a (stable_prefix (v' (suc a) b))
      go (here x y e) s = rw e (λ q. absurd (let l : 2 ≤ r.mode = m.live in omega (arith, q)))
      go (there n e) (here x y e') =
          rw (e, e') (λ q l. stem_stays (m.stemmed a p (sym x) (ap (λ c. (v c p).mode) (sym x) ∙ q) (n x)))
      go (there n e) (there n' e') = rw (e, e') (λ q l. stem_stays (i.stemmed a p b q l))

  keep_once : (a b : ℕ) → Once (v' a b).history
  keep_once a b = go (d.seen a b)
    where
      go : Seen v v' j k r a b → Once (v' a b).history
      go (here p q e) = rw e m.once
      go (there n e) = rw e (i.once a b)

  keep_single : (a b : ℕ) → Single (v' a b).history
  keep_single a b = go (d.seen a b)
    where
      go : Seen v v' j k r a b → Single (v' a b).history
      go (here p q e) = rw e m.single
      go (there n e) = rw e (i.single a b)

  keep_offered : (a b : ℕ) → Offered offer' (v' a b).history
  keep_offered a b = go (d.seen a b)
    where
      go : Seen v v' j k r a b → Offered offer' (v' a b).history
      go (here p q e) = rw e m.offered
      go (there n e) = rw e (offered_wider w (i.offered a b))

  pub keeps : Inv v' offer'
  keeps =
      record {
        fits = keep_fits;
        blank = keep_blank;
        reach = keep_reach;
        rooted = keep_rooted;
        stemmed = keep_stemmed;
        once = keep_once;
        single = keep_single;
        offered = keep_offered;
      }

  -- no stable prefix shrinks
  pub moved_grows : (a b : ℕ) → Begins (stable_prefix (v a b)) (stable_prefix (v' a b))
  moved_grows a b = go (d.seen a b)
    where
      go : Seen v v' j k r a b → Begins (stable_prefix (v a b)) (stable_prefix (v' a b))
      go (here p q e) = rw (e, p, q) m.grows
      go (there n e) = rw e begins_refl
