-- The run's loop: its invariant, and its turns.
-- Assumes nothing.
use Rattle.model.specs.Log.{one_step}
use Prim.Native.Nat.{ℕ, ◌+◌, ◌<◌}
use native.Mathlib.Nat.{add-zero}
use mathlib.Core.Path.{◌≡◌, refl, sym, ap, subst, ◌∙◌}
use mathlib.Core.Bool.{Bool, true, false, cond, not}
use mathlib.Core.List.{List}
use lib.Dec.{eqb}
use lib.ListN.{length}
use borrow.Author.Tests.{eq-eqb, ne_eqb}
use Rattle.types.specs.declared.step.Step.{Step}
use mir.Val.{bool_byte}
use Rattle.std.specs.Prelude.{Result, is_err}
use Rattle.types.specs.declared.rejection.Rejection.{Rejection}
use Rattle.types.specs.Rejections.{answer_number}
use Rattle.types.proofs.Rejections.{error_number}
use Rattle.model.specs.Layout.{shards_of}
use Rattle.model.specs.Steps.{rejection, after}
use Rattle.model.specs.Log.{read_at}
use Rattle.model.proofs.WellFormedSteps.{kept, step_length}
use Rattle.lookup.specs.Ready.{Formed}
use Rattle.replay.proofs.Rest.{Rest, rest_start, rest_step}

-- the run's loop between two turns: the state is well-formed, and as long as it was
pub record Running (w₀ log : List ℕ) (budget : ℕ) (w : List ℕ) (at tried rejected : ℕ) : Type 0 where
  pub rest : Rest w₀ log budget w at tried rejected
  pub formed : Formed w
  pub long : length w ≡ length w₀

-- a well-formed state stays so
formed_after : {w : List ℕ} → Formed w → (s : Step) → Formed (after w s)
formed_after {w} f s =
    record {
      formed = kept w s f.formed;
      several = rw (step_length w s) f.several;
      most = rw (step_length w s) f.most;
      long = rw (step_length w s) f.long;
    }

-- the number of shards stays
pub counted_still : {w₀ log : List ℕ} {budget : ℕ} {w : List ℕ} {at tried rejected n : ℕ} → Running w₀ log budget w at tried rejected
    → n ≡ shards_of (length w₀) → n ≡ shards_of (length w)
counted_still x e = e ∙ ap shards_of (sym x.long)

pub start : (w log : List ℕ) (budget : ℕ) → Formed w → Running w log budget w 0 0 0
start w log budget f = record { rest = rest_start w log budget; formed = f; long = refl }

module _ {w₀ log : List ℕ} {budget : ℕ} {w : List ℕ} {at tried rejected : ℕ} (x : Running w₀ log budget w at tried rejected) (s : Step) (next : ℕ)
    (h : tried < budget) (e : read_at log at ≡ one_step s next) where
  stepped : Running w₀ log budget (after w s) next (tried + 1) (rejected + cond (eqb (rejection w s) 0) 0 1)
  stepped =
      record {
        rest = rest_step x.rest s next h e;
        formed = formed_after x.formed s;
        long = step_length w s ∙ x.long;
      }

  -- it is counted as it answers
  pub turned : (a : ℕ) {w' : List ℕ} {k : ℕ} → a ≡ rejection w s → w' ≡ after w s → k ≡ rejected + cond (eqb a 0) 0 1
      → Running w₀ log budget w' next (tried + 1) k
  turned a p q c = rw (q, c, p) stepped

  -- a rejected step counts, an accepted one does not
  pub turn_rejected : (a : ℕ) {w' : List ℕ} {k : ℕ} → a ≡ rejection w s → w' ≡ after w s → (a ≡ 0 → ⊥) → k ≡ rejected + 1
      → Running w₀ log budget w' next (tried + 1) k
  turn_rejected a p q n c =
      rw (q, c)
      (subst (λ (r : ℕ). Running w₀ log budget (after w s) next (tried + 1) (rejected + r))
      (rw (ne_eqb (rejection w s) 0 (λ z. n (p ∙ z)))) stepped)

  pub turn_accepted : (a : ℕ) {w' : List ℕ} {k : ℕ} → a ≡ rejection w s → w' ≡ after w s → a ≡ 0 → k ≡ rejected
      → Running w₀ log budget w' next (tried + 1) k
  turn_accepted a p q z c =
      rw (q, c)
      (subst (λ (r : ℕ). Running w₀ log budget (after w s) next (tried + 1) r)
      (rw (eq-eqb (rejection w s) 0 (sym p ∙ z)) (add-zero rejected)) stepped)

-- an error is one more
by_test : (b : Bool) → bool_byte b ≡ cond (not b) 0 1
by_test true = refl
by_test false = refl

pub one_more : (n : ℕ) {A : Type 0} (r : Result A Rejection) {b : Bool} {k : ℕ} → b ≡ is_err r → k ≡ bool_byte b
    → n + k ≡ n + cond (eqb (answer_number r) 0) 0 1
one_more n r {b} e f = ap (λ (m : ℕ). n + m) (f ∙ by_test b) ∙ rw (error_number r, e)
