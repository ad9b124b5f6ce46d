-- The loop of the pick: it holds the place and the stable length of the pick among the replicas that it has looked at.
use Prim.Native.Nat.{ℕ, suc, ◌+◌, ◌*◌, ◌≤◌, ◌<◌}
use native.Mathlib.Omega.{arith}
use mathlib.Core.Path.{◌≡◌, refl, sym, ap, ◌∙◌}
use mathlib.Core.List.{List}
use lib.ListN.{get_or}
use borrow.Author.Tests.{lt-ltb, le-ltb}
use Rattle.model.specs.Layout.{place}
use Rattle.stable_entries.specs.Pick.{longest_place}

-- the n replicas looked at are one and `last` more
pub record Picking (w : List ℕ) (z best most n : ℕ) : Type 0 where
  pub last : ℕ
  pub next : n ≡ suc last
  pub picked : best ≡ longest_place w z last
  pub stable : most ≡ get_or w (best + 2) 0

pub start : (w : List ℕ) (z : ℕ) → Picking w z (z * 2112 + 64) (get_or w (z * 2112 + 64 + 2) 0) 1
unfolding longest_place place
start w z = record { last = 0; next = refl; picked = omega arith; stable = refl }

module _ (w : List ℕ) (z m : ℕ) where
  -- one more replica: it is picked where its stable prefix is longer
  longer_picked : get_or w (longest_place w z m + 2) 0 < get_or w (place z 0 (suc m) + 2) 0 → place z 0 (suc m) ≡ longest_place w z (suc m)
  unfolding longest_place
  longer_picked h = rw (lt-ltb (get_or w (longest_place w z m + 2) 0) (get_or w (place z 0 (suc m) + 2) 0) h)

  other_kept : get_or w (place z 0 (suc m) + 2) 0 ≤ get_or w (longest_place w z m + 2) 0 → longest_place w z m ≡ longest_place w z (suc m)
  unfolding longest_place
  other_kept h = rw (le-ltb (get_or w (longest_place w z m + 2) 0) (get_or w (place z 0 (suc m) + 2) 0) h)

place_next : (z m n : ℕ) → n ≡ suc m → z * 2112 + 64 + n * 64 ≡ place z 0 (suc m)
unfolding place
place_next z m n e = omega arith

module _ {w : List ℕ} {z best most n : ℕ} (p : Picking w z best most n) where
  pub turn_longer : most < get_or w (z * 2112 + 64 + n * 64 + 2) 0
      → Picking w z (z * 2112 + 64 + n * 64) (get_or w (z * 2112 + 64 + n * 64 + 2) 0) (n + 1)
  turn_longer h =
      let e = place_next z p.last n p.next in
      record {
        last = n;
        next = omega arith;
        picked = e ∙ longer_picked w z p.last (rw (p.stable, p.picked, e) at h) ∙ ap (longest_place w z) (sym p.next);
        stable = refl;
      }

  pub turn_other : get_or w (z * 2112 + 64 + n * 64 + 2) 0 ≤ most → Picking w z best most (n + 1)
  turn_other h =
      let e = place_next z p.last n p.next in
      record {
        last = n;
        next = omega arith;
        picked = p.picked ∙ other_kept w z p.last (rw (p.stable, p.picked, e) at h) ∙ ap (longest_place w z) (sym p.next);
        stable = p.stable;
      }

pub end : {w : List ℕ} {z best most n : ℕ} → Picking w z best most n → n ≡ 32 → best ≡ longest_place w z 31
end {w} {z} p h = p.picked ∙ ap (longest_place w z) (omega (arith, p.next))
