-- Laws of the reference shard: what it holds and has on offer after accepting several entries, and when it may accept them.
-- Assumes nothing.
use Prim.Native.Nat.{ℕ, zero, suc, ◌<◌}
use native.Mathlib.Omega.{arith}
use mathlib.Core.Path.{◌≡◌, refl, sym, ◌∙◌}
use mathlib.Core.List.{List, [], ◌∷◌, ◌++◌, append_assoc, append-nil}
use lib.ListN.{length, length-append}
use lib.Seq.{get_or-append_seam, take-append_seam}
use Rattle.model.specs.Runs.{Moment}
use Rattle.model.specs.Reference.{Reference, fed, fed_at, accept, accept_all, MayAcceptAll, none, next}
use Rattle.model.proofs.Histories.{Once, Offered}

pub accepted_history : (es : List ℕ) (r : Reference) → (accept_all es r).history ≡ r.history ++ es
unfolding accept_all accept
accepted_history [] r = sym (append-nil r.history)
accepted_history (e ∷ es) r = accepted_history es (accept e r) ∙ append_assoc r.history (e ∷ []) es

pub accepted_offer : (es : List ℕ) (r : Reference) → (accept_all es r).offered ≡ r.offered
unfolding accept_all accept
accepted_offer [] r = refl
accepted_offer (e ∷ es) r = accepted_offer es (accept e r)

-- feeding a step leaves the list, and what it offers hangs on the offer alone
pub fed_history : (z : ℕ) (ms : List Moment) (n : ℕ) (r : Reference) → (fed_at z ms n r).history ≡ r.history
unfolding fed_at fed
fed_history z [] n r = refl
fed_history z (m ∷ ms) zero r = refl
fed_history z (m ∷ ms) (suc n) r = fed_history z ms n r

-- entries that continue a list without repetition, all on offer, may be accepted in turn
pub may_accept : (es p : List ℕ) (r : Reference) → r.history ≡ p → Once (p ++ es) → Offered r.offered (p ++ es) → MayAcceptAll es r
unfolding accept
may_accept [] p r q o f = none
may_accept (e ∷ es) p r q o f =
    next {e = e} {es = es} {r = r}
    (record {
      is_offered = rw (get_or-append_seam p e es 0) at (f.on (length p) within);
      is_new = rw q (rw (get_or-append_seam p e es 0, take-append_seam p (e ∷ es)) at (o.fresh (length p) within));
    })
    (may_accept es (p ++ (e ∷ [])) (accept e r) (rw q) (rw (append_assoc p (e ∷ []) es) o) (rw (append_assoc p (e ∷ []) es) f))
  where
    within : length p < length (p ++ (e ∷ es))
    within = omega (arith, length-append p (e ∷ es))
