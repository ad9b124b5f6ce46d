-- What each kind of step makes of a proper replica is proper.
use Prim.Native.Nat.{ℕ, ◌≤◌, ◌<◌}
use native.Mathlib.Omega.{arith}
use mathlib.Core.Path.{◌≡◌, refl}
use mathlib.Core.Bool.{true}
use mathlib.Core.List.{[], ◌∷◌}
use lib.ListN.{length, length-append}
use borrow.Author.Tests.{eqb-true}
use Rattle.model.specs.Tests.{all_of}
use Rattle.model.specs.Entries.{is_entry}
use Rattle.model.specs.Replicas.{Replica, is_pending, is_active, is_immutable, fresh, pending, added, adopted, learned, wedged, inherited, caught_up}
use Rattle.model.proofs.Tests.{both}
use Rattle.model.proofs.WellFormedParts.{Proper, all_append}

pub active_mode : (r : Replica) → is_active r ≡ true → r.mode ≡ 2
unfolding is_active
active_mode r e = eqb-true r.mode 2 e

pub pending_mode : (r : Replica) → is_pending r ≡ true → r.mode ≡ 1
unfolding is_pending
pending_mode r e = eqb-true r.mode 1 e

pub immutable_mode : (r : Replica) → is_immutable r ≡ true → r.mode ≡ 3
unfolding is_immutable
immutable_mode r e = eqb-true r.mode 3 e

-- a replica that is active or immutable
running : (Z j : ℕ) (r : Replica) → 2 ≤ r.mode → r.mode ≤ 3 → length r.history ≤ 56 → r.stable ≤ length r.history
    → all_of (is_entry Z) r.history ≡ true → Proper Z j r
running Z j r a b c d e =
    record {
      mode_least = omega arith;
      mode_most = b;
      few = c;
      stable_most = d;
      entries = e;
      waits = λ p. absurd (omega (arith, pending_mode r p));
    }

pub fresh_proper : (Z j : ℕ) → Proper Z j fresh
unfolding fresh all_of
fresh_proper Z j = running Z j fresh (omega arith) (omega arith) (omega arith) (omega arith) refl

pub pending_proper : (Z j : ℕ) → 1 ≤ j → Proper Z j pending
unfolding pending all_of
pending_proper Z j h =
    record {
      mode_least = omega arith;
      mode_most = omega arith;
      few = omega arith;
      stable_most = omega arith;
      entries = refl;
      waits = λ e. (refl, h);
    }

module _ {Z j : ℕ} {r : Replica} (p : Proper Z j r) where
  pub added_proper : (e : ℕ) → is_active r ≡ true → is_entry Z e ≡ true → length r.history < 56 → Proper Z j (added e r)
  unfolding added all_of
  added_proper e a h l =
      let m = active_mode r a in
      let n = length-append r.history (e ∷ []) in
      running Z j (added e r) (omega arith) (omega arith) (omega arith) (omega (arith, p.stable_most))
      (all_append (is_entry Z) r.history (e ∷ []) p.entries ((both (is_entry Z e) true).1 (h, refl)))

  pub adopted_proper : (s : Replica) → is_active s ≡ true → Proper Z j (adopted r s)
  unfolding adopted
  adopted_proper s a =
      let m = active_mode s a in
      running Z j (adopted r s) (omega arith) (omega arith) p.few (omega arith) p.entries

  pub learned_proper : (n : ℕ) → is_active r ≡ true → n ≤ length r.history → Proper Z j (learned n r)
  unfolding learned
  learned_proper n a h =
      let m = active_mode r a in
      running Z j (learned n r) (omega arith) (omega arith) p.few h p.entries

  pub wedged_proper : Proper Z j (wedged r)
  unfolding wedged
  wedged_proper = running Z j (wedged r) (omega arith) (omega arith) p.few p.stable_most p.entries

  -- in any configuration
  pub inherited_proper : (i g : ℕ) → Proper Z i (inherited g r)
  unfolding inherited
  inherited_proper i g = running Z i (inherited g r) (omega arith) (omega arith) p.few p.stable_most p.entries

  pub caught_up_proper : Proper Z j (caught_up r)
  unfolding caught_up
  caught_up_proper = running Z j (caught_up r) (omega arith) (omega arith) p.few p.stable_most p.entries
