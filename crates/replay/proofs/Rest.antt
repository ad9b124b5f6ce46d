-- A run at one of its turns: what is still to come, together with what was counted, is what the whole run reports and leaves.
-- Assumes nothing.
use Rattle.std.specs.Prelude.{Ok, Err, Some, None}
use Rattle.model.specs.Log.{ReadStep, one_step}
use Prim.Native.Nat.{ℕ, suc, ◌+◌, ◌-◌, ◌≤◌, ◌<◌}
use native.Mathlib.Nat.{zero-add, add-zero, add_assoc, sub-zero}
use native.Mathlib.Omega.{arith}
use mathlib.Core.Path.{◌≡◌, refl, sym, ap, ap₂, ◌∙◌}
use mathlib.Core.Bool.{Bool, true, false, cond}
use mathlib.Core.List.{List, ◌∷◌}
use lib.Dec.{eqb}
use lib.ListN.{length, drop, drop_of_length-le, length-drop}
use lib.Seq.{drop-drop, drop-cons}
use Rattle.types.specs.declared.step.Step.{Step}
use Rattle.types.specs.declared.rejection.Rejection.{Rejection}
use Rattle.types.specs.declared.Stop.{Stop}
use Rattle.types.specs.declared.Stop.TheVariants.{Ended, Spent, Damaged}
use Rattle.types.specs.declared.Report.{Report}
use Rattle.model.specs.Steps.{rejection, after}
use Rattle.model.specs.Log.{read_step, from, read_at, with_step, stopped, is_empty, log_after, read_log}
use Rattle.model.specs.Results.{reading_step, reading_next}
use Rattle.model.specs.Replay.{after_all, rejected_in}
use Rattle.model.proofs.RoundTrip.{step_least, step_within}
use Rattle.replay.specs.Run.{report_of, run_report, after_run}

-- counts before a report's
unfoldable pub counted : ℕ → ℕ → ℕ → Report → Report
counted t r b x = report_of x.stop (t + x.tried) (r + x.rejected) (b + x.bytes)

-- a run that began with the state w₀, at position `at`, with `tried` steps tried, `rejected` of them rejected, and the state w
pub record Rest (w₀ log : List ℕ) (budget : ℕ) (w : List ℕ) (at tried rejected : ℕ) : Type 0 where
  pub left : tried ≤ budget
  pub within : at ≤ length log
  pub fewer : rejected ≤ tried
  pub advanced : tried ≤ at
  pub report_is : run_report w₀ log budget ≡ counted tried rejected at (run_report w (drop at log) (budget - tried))
  pub state_is : after_run w₀ log budget ≡ after_run w (drop at log) (budget - tried)

pub rest_start : (w log : List ℕ) (budget : ℕ) → Rest w log budget w 0 0 0
unfolding counted
rest_start w log budget =
    record {
      left = omega arith;
      within = omega arith;
      fewer = omega arith;
      advanced = omega arith;
      report_is = simp (zero-add, sub-zero);
      state_is = simp sub-zero;
    }

-- what was read at a position
pub read_step_lem : (log : List ℕ) (at : ℕ) (s : Step) (next : ℕ) → read_at log at ≡ one_step s next
    → (n : ℕ) × (read_step (drop at log) ≡ one_step s n) × (next ≡ at + n)
unfolding read_at from reading_step reading_next
read_step_lem log at s next e = go (read_step (drop at log)) refl e
  where
    go : (x : ReadStep) → read_step (drop at log) ≡ x → from at x ≡ one_step s next → (n : ℕ) × (read_step (drop at log) ≡ one_step s n) × (next ≡ at + n)
    go (Ok (Some read)) q p = (read.next, q ∙ ap (λ (t : Step). one_step t read.next) (ap reading_step p), sym (ap reading_next p))
    go (Ok None) q p = absurd (let z : ◌≡◌ {A = ℕ} 0 1 = cc in omega arith)
    go (Err r) q p = absurd (let z : ◌≡◌ {A = ℕ} 0 1 = cc in omega arith)

read_end : (log : List ℕ) (at : ℕ) → read_at log at ≡ (Ok None) → read_step (drop at log) ≡ (Ok None)
unfolding read_at from
read_end log at e = go (read_step (drop at log)) refl e
  where
    go : (x : ReadStep) → read_step (drop at log) ≡ x → from at x ≡ (Ok None) → read_step (drop at log) ≡ (Ok None)
    go (Ok (Some read)) q p = absurd (let z : ◌≡◌ {A = ℕ} 0 1 = cc in omega arith)
    go (Ok None) q p = q
    go (Err r) q p = absurd (let z : ◌≡◌ {A = ℕ} 0 1 = cc in omega arith)

pub read_rejected : (log : List ℕ) (at : ℕ) (r : Rejection) → read_at log at ≡ Err r → read_step (drop at log) ≡ Err r
unfolding read_at from
read_rejected log at r e = go (read_step (drop at log)) refl e
  where
    go : (x : ReadStep) → read_step (drop at log) ≡ x → from at x ≡ Err r → read_step (drop at log) ≡ Err r
    go (Ok (Some read)) q p = absurd (let z : ◌≡◌ {A = ℕ} 0 1 = cc in omega arith)
    go (Ok None) q p = absurd (let z : ◌≡◌ {A = ℕ} 0 1 = cc in omega arith)
    go (Err x) q p = q ∙ p

-- one turn of the definition
log_step : (n : ℕ) (bs : List ℕ) (s : Step) (k : ℕ) → read_step bs ≡ one_step s k → read_log (suc n) bs ≡ with_step s k (read_log n (drop k bs))
unfolding read_log log_after
log_step n bs s k e = rw e

log_end : (n : ℕ) (bs : List ℕ) → read_step bs ≡ (Ok None) → read_log (suc n) bs ≡ stopped Ended
unfolding read_log log_after
log_end n bs e = rw e

log_damaged : (n : ℕ) (bs : List ℕ) (r : Rejection) → read_step bs ≡ Err r → read_log (suc n) bs ≡ stopped (Damaged r)
unfolding read_log log_after
log_damaged n bs r e = rw e

-- what is still to be read at a turn
module _ (log : List ℕ) (budget at tried : ℕ) where
  one_less : tried < budget → budget - tried ≡ suc (budget - (tried + 1))
  one_less h = omega arith

  pub reads_step : (s : Step) (next : ℕ) → tried < budget → read_at log at ≡ one_step s next
      → (read_log (budget - tried) (drop at log)).steps ≡ s ∷ (read_log (budget - (tried + 1)) (drop next log)).steps
  unfolding with_step
  reads_step s next h e =
      let d = read_step_lem log at s next e in
      let there : drop d.0 (drop at log) ≡ drop next log = drop-drop d.0 at log ∙ ap (λ (k : ℕ). drop k log) (sym d.2) in
      rw (one_less h, log_step (budget - (tried + 1)) (drop at log) s d.0 d.1, there)

  pub reads_end : tried < budget → read_at log at ≡ (Ok None) → read_log (budget - tried) (drop at log) ≡ stopped Ended
  reads_end h e = rw (one_less h) (log_end (budget - (tried + 1)) (drop at log) (read_end log at e))

  pub reads_damage : (r : Rejection) → tried < budget → read_at log at ≡ Err r → read_log (budget - tried) (drop at log) ≡ stopped (Damaged r)
  reads_damage r h e = rw (one_less h) (log_damaged (budget - (tried + 1)) (drop at log) r (read_rejected log at r e))

  -- the budget is used up: ended where no byte is left, else spent
  pub reads_all : budget ≤ tried → length log ≤ at → read_log (budget - tried) (drop at log) ≡ stopped Ended
  unfolding read_log is_empty
  reads_all h l = let b : budget - tried ≡ 0 = omega arith in rw (b, drop_of_length-le log l)

  pub reads_part : budget ≤ tried → at < length log → read_log (budget - tried) (drop at log) ≡ stopped Spent
  unfolding read_log is_empty
  reads_part h l = let b : budget - tried ≡ 0 = omega arith in rw (b, drop-cons log at 0 l)

-- a run of one step more
run_step : (w bs : List ℕ) (n : ℕ) (s : Step) (k : ℕ) → read_step bs ≡ one_step s k
    → run_report w bs (suc n) ≡ counted 1 (cond (eqb (rejection w s) 0) 0 1) k (run_report (after w s) (drop k bs) n)
unfolding run_report counted rejected_in with_step
run_step w bs n s k e = rw (log_step n bs s k e) (λ i. record {
  stop = (read_log n (drop k bs)).stop;
  tried = one_add (length (read_log n (drop k bs)).steps) i;
  rejected = cond (eqb (rejection w s) 0) 0 1 + rejected_in (after w s) (read_log n (drop k bs)).steps;
  bytes = k + (read_log n (drop k bs)).bytes;
})
  where
    one_add : (m : ℕ) → suc m ≡ 1 + m
    one_add m = omega arith

run_after : (w bs : List ℕ) (n : ℕ) (s : Step) (k : ℕ) → read_step bs ≡ one_step s k → after_run w bs (suc n) ≡ after_run (after w s) (drop k bs) n
unfolding after_run after_all with_step
run_after w bs n s k e = rw (log_step n bs s k e)

-- counts add up
counted_twice : (t r b t' r' b' : ℕ) (x : Report) → counted t r b (counted t' r' b' x) ≡ counted (t + t') (r + r') (b + b') x
unfolding counted
counted_twice t r b t' r' b' x =
    λ i. record {
      stop = x.stop;
      tried = sym (add_assoc t t' x.tried) i;
      rejected = sym (add_assoc r r' x.rejected) i;
      bytes = sym (add_assoc b b' x.bytes) i;
    }

module _ {w₀ log : List ℕ} {budget : ℕ} {w : List ℕ} {at tried rejected : ℕ} (x : Rest w₀ log budget w at tried rejected) where
  -- a step is read and tried
  pub rest_step : (s : Step) (next : ℕ) → tried < budget → read_at log at ≡ one_step s next
      → Rest w₀ log budget (after w s) next (tried + 1) (rejected + cond (eqb (rejection w s) 0) 0 1)
  rest_step s next h e =
      let d = read_step_lem log at s next e in
      let b : budget - tried ≡ suc (budget - (tried + 1)) = omega arith in
      let one : ℕ = cond (eqb (rejection w s) 0) 0 1 in
      let least = step_least (drop at log) d.1 in
      let most : d.0 ≤ length (drop at log) = step_within (drop at log) d.1 in
      record {
        left = omega arith;
        within = omega (arith, x.within, d.2, most, length-drop at log);
        fewer = omega (arith, x.fewer, one_at_most (eqb (rejection w s) 0));
        advanced = omega (arith, x.advanced, d.2, least);
        report_is =
            x.report_is
            ∙ ap (λ (n : ℕ). counted tried rejected at (run_report w (drop at log) n)) b
            ∙ ap (counted tried rejected at) (run_step w (drop at log) (budget - (tried + 1)) s d.0 d.1)
            ∙ counted_twice tried rejected at 1 one d.0 (run_report (after w s) (drop d.0 (drop at log)) (budget - (tried + 1)))
            ∙ ap₂ (λ (k : ℕ) (l : List ℕ). counted (tried + 1) (rejected + one) k (run_report (after w s) l (budget - (tried + 1)))) (sym d.2) (there d);
        state_is =
            x.state_is ∙ ap (after_run w (drop at log)) b ∙ run_after w (drop at log) (budget - (tried + 1)) s d.0 d.1
            ∙ ap (λ (l : List ℕ). after_run (after w s) l (budget - (tried + 1))) (there d);
      }
    where
      one_at_most : (t : Bool) → cond t 0 1 ≤ 1
      one_at_most true = omega arith
      one_at_most false = omega arith

      there : (d : (n : ℕ) × (read_step (drop at log) ≡ one_step s n) × (next ≡ at + n)) → drop d.0 (drop at log) ≡ drop next log
      there d = drop-drop d.0 at log ∙ ap (λ (k : ℕ). drop k log) (sym d.2)

  -- the definition stops here: what was counted is the report, and the state is left
  pub stops : {x' : Stop} → read_log (budget - tried) (drop at log) ≡ stopped x'
      → (report_of x' tried rejected at ≡ run_report w₀ log budget) × (w ≡ after_run w₀ log budget)
  unfolding run_report after_run counted stopped rejected_in after_all
  stops {x'} e = (
    sym
        (x.report_is
        ∙ rw e (λ i. record { stop = x'; tried = add-zero tried i; rejected = add-zero rejected i; bytes = add-zero at i })),
    sym (x.state_is ∙ rw e),
  )

  pub rest_end : tried < budget → read_at log at ≡ (Ok None)
      → (report_of Ended tried rejected at ≡ run_report w₀ log budget) × (w ≡ after_run w₀ log budget)
  rest_end h e = stops (reads_end log budget at tried h e)

  pub rest_damaged : (r : Rejection) → tried < budget → read_at log at ≡ Err r
      → (report_of (Damaged r) tried rejected at ≡ run_report w₀ log budget) × (w ≡ after_run w₀ log budget)
  rest_damaged r h e = stops (reads_damage log budget at tried r h e)

  pub rest_ended : budget ≤ tried → length log ≤ at
      → (report_of Ended tried rejected at ≡ run_report w₀ log budget) × (w ≡ after_run w₀ log budget)
  rest_ended h l = stops (reads_all log budget at tried h l)

  pub rest_spent : budget ≤ tried → at < length log
      → (report_of Spent tried rejected at ≡ run_report w₀ log budget) × (w ≡ after_run w₀ log budget)
  rest_spent h l = stops (reads_part log budget at tried h l)
