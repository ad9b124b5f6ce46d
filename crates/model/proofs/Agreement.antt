-- What the invariant says of two replicas of one shard: of their stable prefixes one begins the other, and no history repeats an entry.
-- Assumes nothing.
use Prim.Native.Nat.{ℕ, ◌≤◌}
use native.Mathlib.Nat.{le_of_lt}
use mathlib.Core.Path.{◌≡◌, refl}
use mathlib.Core.Bool.{Bool, true, false}
use mathlib.Core.List.{List}
use mathlib.Core.Logic.{inr}
use lib.Dec.{leb}
use borrow.Author.Tests.{leb-true, leb-false}
use Rattle.model.specs.Replicas.{stable_prefix}
use Rattle.model.specs.Prefixes.{Share}
use Rattle.model.proofs.Prefixes.{share_both, share_swap, begins_nil}
use Rattle.model.proofs.Histories.{Once, Offered, once_prefix, offered_prefix}
use Rattle.model.proofs.Views.{View, Inv}
use Rattle.model.proofs.Moves.{prefix_begins}
use Rattle.model.proofs.KindMoves.{blank_prefix}

module _ {v : View} {offer : List ℕ} (i : Inv v offer) where
  -- the replica of the later configuration: a live one's history has both prefixes, another's prefix is empty
  in_order : (a k b l : ℕ) → a ≤ b → Share (stable_prefix (v a k)) (stable_prefix (v b l))
  in_order a k b l h = go (leb 2 (v b l).mode) refl
    where
      go : (t : Bool) → leb 2 (v b l).mode ≡ t → Share (stable_prefix (v a k)) (stable_prefix (v b l))
      go true e = share_both (i.reach a k b l h (leb-true _ _ e)) (prefix_begins (v b l))
      go false e = rw (blank_prefix i b l (leb-false _ _ e)) (record { either = inr begins_nil })

  pub agreed : (a k b l : ℕ) → Share (stable_prefix (v a k)) (stable_prefix (v b l))
  agreed a k b l = go (leb a b) refl
    where
      go : (t : Bool) → leb a b ≡ t → Share (stable_prefix (v a k)) (stable_prefix (v b l))
      go true e = in_order a k b l (leb-true _ _ e)
      go false e = share_swap (in_order b l a k (le_of_lt (leb-false _ _ e)))

  pub prefix_once : (a k : ℕ) → Once (stable_prefix (v a k))
  prefix_once a k = once_prefix (prefix_begins (v a k)) (i.once a k)

  pub prefix_offered : (a k : ℕ) → Offered offer (stable_prefix (v a k))
  prefix_offered a k = offered_prefix (prefix_begins (v a k)) (i.offered a k)
