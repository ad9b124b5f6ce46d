-- The turns of a replay that keeps a tally: it begins, a step is accepted or rejected, and it is over.
-- Assumes nothing.
use Prim.Native.Nat.{ℕ, ◌+◌, ◌-◌, ◌≤◌, ◌<◌, ◌^◌}
use native.Mathlib.Nat.{sub-zero}
use native.Mathlib.Omega.{arith}
use mathlib.Core.Path.{◌≡◌, refl, sym, ap, ◌∙◌}
use mathlib.Core.Bool.{Bool, true, false, cond}
use mathlib.Core.List.{List}
use lib.Dec.{eqb}
use lib.ListN.{drop}
use borrow.Author.Tests.{eq-eqb, ne_eqb}
use Rattle.std.specs.Prelude.{Err, Result}
use Rattle.types.specs.declared.rejection.Rejection.{Rejection}
use Rattle.types.specs.declared.step.Step.{Step}
use Rattle.types.specs.declared.Stop.{Stop}
use Rattle.types.specs.declared.Report.{Report}
use Rattle.types.specs.Kinds.{kind_of}
use Rattle.types.specs.Rejections.{rejection_number}
use Rattle.types.specs.Rules.{Known}
use Rattle.types.proofs.Rejections.{number_positive}
use Rattle.model.specs.Steps.{rejection, after}
use Rattle.model.specs.Log.{one_step, read_at, read_log, stopped}
use Rattle.model.specs.Replay.{report}
use Rattle.model.proofs.Results.{replays}
use Rattle.model.proofs.RoundTrip.{step_given}
use Rattle.model.proofs.WellFormedSteps.{after_rejected}
use Rattle.lookup.specs.Ready.{Formed}
use Rattle.replay.proofs.Rest.{read_step_lem, reads_step}
use Rattle.replay.proofs.Running.{start, turn_rejected, turn_accepted}
use Rattle.tallies.specs.declared.tally.Tally.{Tally}
use Rattle.tallies.specs.Returns.{Returns}
use Rattle.tallies.specs.Tally.{tally_of}
use Rattle.rejection_hosts.specs.RejectionHosts.{no_host, count_of, RejectedStep}
use Rattle.tallies.specs.TallyCounts.{nothing_counted, counted_in, CountRoom}
use Rattle.tallies.proofs.TallyCounts.{tally_from, counted_at, counted_long, count_most, nothing_at, nothing_long, tally_from_nothing}
use Rattle.tallies.proofs.Tallying.{Underway}

one_at_most : (b : Bool) → cond b 1 0 ≤ 1
one_at_most true = omega arith
one_at_most false = omega arith

-- ---- the whole replay
pub returned : (w log : List ℕ) (budget : ℕ) {x : Result Report Rejection} → x ≡ report w log budget → Returns w log budget x
returned w log budget p =
    let t = replays w log budget p in
    record { number = t.number; code = t.code; tried = t.tried; rejected = t.rejected; bytes = t.bytes; value = p }

-- ---- the beginning
pub begins : (w log : List ℕ) (budget : ℕ) → Formed w → Underway w log budget w 0 0 0 nothing_counted
begins w log budget f =
    record {
      running = start w log budget f;
      tally_is = simp sub-zero;
      few = λ j b. rw (nothing_at j b) (omega arith);
      sixteen = nothing_long;
    }

-- ---- a turn
-- a step that was read has a kind that is known
known_step : (log : List ℕ) (at : ℕ) (s : Step) (next : ℕ) → read_at log at ≡ one_step s next → Known (kind_of s.kind)
known_step log at s next e =
    let d = read_step_lem log at s next e in
    let g = (step_given (drop at log) d.1).writable in
    record { not_kept = g.not_kept; known = g.known }

module _ {w₀ log : List ℕ} {budget : ℕ} {w : List ℕ} {at tried rejected : ℕ} {t : Tally} (u : Underway w₀ log budget w at tried rejected t) where
  -- nothing more is read: the tally is that of all steps
  pub tally_told : (x : Stop) → read_log (budget - tried) (drop at log) ≡ stopped x → t ≡ tally_of w₀ (read_log budget log).steps
  unfolding stopped tally_from
  tally_told x e = sym (rw e at u.tally_is) ∙ tally_from_nothing w₀ (read_log budget log).steps

  -- a step is read and tried: r is its answer, and v the state that it leaves
  module _ (s : Step) (next : ℕ) (h : tried < budget) (e : read_at log at ≡ one_step s next)
      {v : List ℕ} (q : v ≡ after w s) where
    tally_goes : tally_from nothing_counted w₀ (read_log budget log).steps
        ≡ tally_from (cond (eqb (rejection w s) 0) t (counted_in t (count_of w s))) v (read_log (budget - (tried + 1)) (drop next log)).steps
    unfolding tally_from
    tally_goes = u.tally_is ∙ rw (reads_step log budget at tried s next h e, q)

    pub accepts_one : 0 ≡ rejection w s → Underway w₀ log budget v next (tried + 1) rejected t
    accepts_one p =
        record {
          running = turn_accepted u.running s next h e 0 p q refl refl;
          tally_is = rw (eq-eqb (rejection w s) 0 (sym p)) at tally_goes;
          few = u.few;
          sixteen = u.sixteen;
        }

    -- .. is rejected
    module _ (x : Rejection) (p : rejection_number x ≡ rejection w s) where
      no : rejection w s ≡ 0 → ⊥
      no z = number_positive x (p ∙ z)

      left : v ≡ w
      left = q ∙ after_rejected w s no

      -- it has a host to be looked for
      pub has_host : RejectedStep v s (Err x)
      has_host = record { formed = rw left u.running.formed; known = known_step log at s next e; is = p ∙ rw left }

      module _ {k : ℕ} (c : k ≡ count_of v s) where
        here : k ≡ count_of w s
        here = c ∙ ap (λ (l : List ℕ). count_of l s) left

        most : k ≤ no_host
        most = rw here (count_most w s)

        pub has_room : budget < 2 ^ 64 → CountRoom t k
        has_room small = record { fits = omega (arith, small, h, u.running.rest.fewer, u.few k most) }

        -- .. and is counted
        pub rejects_one : Underway w₀ log budget v next (tried + 1) (rejected + 1) (counted_in t k)
        rejects_one =
            record {
              running = turn_rejected u.running s next h e (rejection_number x) p q (number_positive x) refl;
              tally_is = rw (ne_eqb (rejection w s) 0 no, sym here) at tally_goes;
              few = λ j b. let is = counted_at t u.sixteen k j most b in omega (arith, is, u.few j b, one_at_most (eqb k j));
              sixteen = counted_long t u.sixteen k;
            }
