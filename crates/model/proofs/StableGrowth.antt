-- The proof of `specs/StableGrowth.antt`, from the one list: the reference shard's list is the stable history, and it only grows. Assumes nothing.
use Prim.Native.Nat.{ℕ, zero, suc, ◌+◌, ◌-◌, ◌<◌}
use native.Mathlib.Nat.{add-zero, add-suc}
use native.Mathlib.Omega.{arith}
use mathlib.Core.Path.{◌≡◌}
use mathlib.Core.List.{List}
use Rattle.model.specs.StableHistory.{stable_history}
use Rattle.model.specs.Prefixes.{Begins}
use Rattle.model.specs.Runs.{Moment, state_at}
use Rattle.model.specs.Reference.{fed_at, accept_all, before_accepting, reference_at}
use Rattle.model.specs.OneList.{shards, OneList, OneListClaim}
use Rattle.model.specs.StableGrowth.{StableGrows, StableGrowth}
use Rattle.model.proofs.Prefixes.{begins_refl, begins_trans, begins_append}
use Rattle.model.proofs.ReferenceShard.{accepted_history, fed_history}
use Rattle.model.proofs.OneList.{one_list}

-- the reference shard's list at a moment begins that of the next
reference_grows : (z : ℕ) (choice : ℕ → List ℕ) (ms : List Moment) (n : ℕ)
    → Begins (reference_at z choice ms n).history (reference_at z choice ms (suc n)).history
unfolding reference_at before_accepting
reference_grows z choice ms n =
    rw (
      accepted_history (choice (suc n)) (fed_at z ms n (accept_all (choice n) (before_accepting z choice ms n))),
      fed_history z ms n (accept_all (choice n) (before_accepting z choice ms n)),
    )
    (begins_append (choice (suc n)) begins_refl)

module _ {w : List ℕ} {ms : List Moment} (o : OneList w ms) {z : ℕ} (h : z < shards w) where
  grows_next : (n : ℕ) → Begins (stable_history (state_at w ms n) z) (stable_history (state_at w ms (suc n)) z)
  grows_next n = rw (← o.lone z n h, ← o.lone z (suc n) h) (reference_grows z (o.choice z) ms n)

  grows_by : (m d : ℕ) → Begins (stable_history (state_at w ms m) z) (stable_history (state_at w ms (m + d)) z)
  grows_by m zero = rw (add-zero m) begins_refl
  grows_by m (suc d) = rw (add-suc m d) (begins_trans (grows_by m d) (grows_next (m + d)))

pub stable_grows_over : {w : List ℕ} {ms : List Moment} → OneList w ms → StableGrows w ms
unfolding StableGrows
stable_grows_over o z m n h l =
    let e : m + (n - m) ≡ n = omega arith in
    rw e at (grows_by o h m (n - m))

pub stable_growth : StableGrowth
unfolding StableGrowth OneListClaim
stable_growth w p e calls = stable_grows_over (one_list w p e calls)
