-- The tests of origins, as tests of the words where the code reads them.
use Prim.Native.Nat.{ℕ, ◌+◌, ◌-◌, ◌≤◌, ◌<◌}
use native.Mathlib.Omega.{arith}
use mathlib.Core.Path.{◌≡◌, refl, sym, ap, ◌∙◌}
use mathlib.Core.Bool.{Bool, true, false, not, ◌&&◌, or-true}
use mathlib.Core.List.{List}
use lib.Dec.{eqb}
use lib.ListN.{length, get_or}
use borrow.Author.Tests.{eq-eqb, ne_eqb, not-true}
use Rattle.model.specs.Tests.{all_below}
use Rattle.types.specs.Members.{size, replica_number}
use Rattle.model.specs.Replicas.{is_pending}
use Rattle.model.specs.Layout.{place, members, replica_at}
use Rattle.model.specs.Inherit.{source}
use Rattle.model.specs.Origins.{names_member, names_source, is_origin_of}
use Rattle.model.proofs.Tests.{all_below_lem}
use Rattle.model.proofs.Ranges.{alike}
use Rattle.model.proofs.Fields.{origin_word_lem, pending_word}
use Rattle.model.proofs.Members.{number_below}
use Rattle.model.proofs.Origins.{source-place, has_source, member_named}
use Rattle.wellformed_origins.specs.Before.{HasBefore}

-- ---- one replica, at p

module _ (w : List ℕ) (z j k p : ℕ) (here : p ≡ place z j k) where
  pub first_origin : j ≡ 0 → eqb (get_or w (p + 3) 0) 0 ≡ is_origin_of w z j (replica_at w (place z j k))
  unfolding is_origin_of
  first_origin e = rw (eq-eqb j 0 e, ← here, origin_word_lem w p)

  pub waiting_origin : get_or w p 0 ≡ 1 → eqb (get_or w (p + 3) 0) 0 ≡ is_origin_of w z j (replica_at w (place z j k))
  unfolding is_origin_of
  waiting_origin e = rw (← here, pending_word w p, eq-eqb (get_or w p 0) 1 e, or-true (eqb j 0), origin_word_lem w p)

  pub other_origin : (j ≡ 0 → ⊥) → (get_or w p 0 ≡ 1 → ⊥) → names_source w z j (get_or w (p + 3) 0) ≡ is_origin_of w z j (replica_at w (place z j k))
  other_origin h e =
      rw (← here)
      (ap (names_source w z j) (sym (origin_word_lem w p))
      ∙ sym (has_source w z j (replica_at w p) (omega (arith, h)) (pending_word w p ∙ ne_eqb (get_or w p 0) 1 e)))

-- what the tests say, made in turn
pub ruleset origin_tests = (first_origin, waiting_origin, other_origin)

-- ---- an origin x that names a member of the configuration before

module _ (w : List ℕ) (z j x m : ℕ) (before : m ≡ members w z (j - 1)) where
  pub names_none : false ≡ names_member m x → false ≡ names_source w z j x
  unfolding names_source
  names_none e = rw (← before, ← e)

  module _ (e : true ≡ names_member m x) where
    -- its replica is one of the four before
    within_four : size (members w z (j - 1)) ≤ 4 → replica_number m (x - 1) < 4
    within_four f = omega (arith, number_below m (x - 1) (member_named m x (sym e)).2, rw (← before) at f)

    pub source_fits : HasBefore w z j → 1 ≤ j → place z (j - 1) (replica_number m (x - 1)) < length w
    unfolding place
    source_fits h l = omega (arith, within_four (h.few l), h.within.shard, h.within.configuration)

    -- its mode decides
    pub names_mode : (p : ℕ) → p ≡ place z (j - 1) (replica_number m (x - 1)) → not (eqb (get_or w p 0) 1) ≡ names_source w z j x
    unfolding names_source
    names_mode p q = rw (source-place w z j (x - 1), ← before, ← e, ← q, pending_word)

-- ---- all members' replicas of a configuration

-- none of its four replicas is pending
abbrev pub none_pending : List ℕ → ℕ → ℕ → Bool
none_pending w z j = all_below 4 (λ k. not (is_pending (replica_at w (place z j k))))

runs : (w : List ℕ) (z j k : ℕ) → true ≡ none_pending w z j → k < 4 → is_pending (replica_at w (place z j k)) ≡ false
runs w z j k e h = not-true _ (all_below_lem 4 (λ k. not (is_pending (replica_at w (place z j k)))) (sym e) k h)

-- then the members before decide
module _ (w : List ℕ) (z j : ℕ) (h : 1 ≤ j) (few : size (members w z (j - 1)) ≤ 4) (own : true ≡ none_pending w z j)
    (before : true ≡ none_pending w z (j - 1)) where
  -- a member before is not pending
  running : (x : ℕ) → names_member (members w z (j - 1)) x ≡ true → is_pending (source w z j (x - 1)) ≡ false
  running x e =
      rw (source-place w z j (x - 1))
      (runs w z (j - 1) _ before (within_four w z j x (members w z (j - 1)) refl (sym e) few))

  named_only : (x : ℕ) → names_member (members w z (j - 1)) x ≡ names_source w z j x
  unfolding names_source
  named_only x = go (names_member (members w z (j - 1)) x) refl
    where
      go : (b : Bool) → names_member (members w z (j - 1)) x ≡ b
          → names_member (members w z (j - 1)) x ≡ (names_member (members w z (j - 1)) x && not (is_pending (source w z j (x - 1))))
      go true e = rw (e, running x e)
      go false e = rw e

  pub all_decided : (n : ℕ) → n ≤ 4
      → all_below n (λ k. names_member (members w z (j - 1)) (replica_at w (place z j k)).origin)
      ≡ all_below n (λ k. is_origin_of w z j (replica_at w (place z j k)))
  all_decided n m =
      alike n (λ k. names_member (members w z (j - 1)) (replica_at w (place z j k)).origin)
      (λ k. is_origin_of w z j (replica_at w (place z j k)))
      (λ k l. named_only (replica_at w (place z j k)).origin ∙ sym (has_source w z j (replica_at w (place z j k)) h (runs w z j k own (omega arith))))
