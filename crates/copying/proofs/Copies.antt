-- The 64 words of a replica, copied and changed, in another replica's place.
-- Assumes nothing.
use Prim.Native.Nat.{ℕ, ◌+◌, ◌-◌}
use native.Mathlib.Nat.{add-sub_cancel_left}
use mathlib.Core.Path.{◌≡◌, ap, ◌∙◌}
use mathlib.Core.List.{List}
use borrow.Rule.Slice.PartMut.{put_mid}
use lib.ListN.{take, drop, set}
use lib.Seq.{drop-drop}
use Rattle.model.specs.Replicas.{Replica, replica_words}
use Rattle.model.specs.Layout.{part, replica_at, put_replica}
use Rattle.lookup.specs.Ready.{HoldsReplica}
use Rattle.copying.specs.Copies.{copied}

-- what is lent from a place on is the part there
lent_part : (w : List ℕ) (at : ℕ) → take (at + 64 - at) (drop at w) ≡ part w at
unfolding part
lent_part w at = ap (λ (n : ℕ). take n (drop at w)) (add-sub_cancel_left at 64)

-- the state with a replica's words in the place that was lent
lent_put : (w : List ℕ) (at : ℕ) (l : List ℕ) (r : Replica) → l ≡ replica_words r → put_mid at (at + 64 - at) w l ≡ put_replica w at r
unfolding put_replica
lent_put w at l r e = rw (e, add-sub_cancel_left at 64, drop-drop 64 at w)

-- the list c of the words that were copied from the place q, in the place p
pub put_copied : (w : List ℕ) (p q : ℕ) → HoldsReplica w q → (c : List ℕ) → c ≡ take (q + 64 - q) (drop q w) → (m s o : ℕ) (l : List ℕ)
    → l ≡ set (set (set c 0 m) 2 s) 3 o → put_mid p (p + 64 - p) w l ≡ put_replica w p (copied m s o (replica_at w q))
unfolding replica_words
put_copied w p q h c e m s o l d =
    lent_put w p l (copied m s o (replica_at w q)) (d ∙ ap (λ (v : List ℕ). set (set (set v 0 m) 2 s) 3 o) (e ∙ lent_part w q ∙ h.words))
