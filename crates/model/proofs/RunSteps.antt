-- A run step by step: from each moment to the next a step is accepted and leaves its effect, or nothing changes and nothing is offered.
-- Assumes nothing.
use Prim.Native.Nat.{ℕ, zero, suc}
use mathlib.Core.Path.{◌≡◌, refl, sym}
use mathlib.Core.Bool.{Bool, true, false, cond, ◌&&◌, and-false}
use mathlib.Core.List.{List, [], ◌∷◌, ◌++◌}
use lib.Dec.{eqb}
use borrow.Author.Tests.{eqb-true}
use Rattle.types.specs.declared.step.Step.{Step}
use Rattle.types.specs.StepNames.{shard_of}
use Rattle.model.specs.Steps.{rejection, effect, after}
use Rattle.model.specs.Replay.{after_all, after_replay}
use Rattle.model.specs.Runs.{Call, single, replay, tried_by, left_by, Moment, moments, played, state_at, answer_at}
use Rattle.model.specs.Reference.{Reference, is_add_in, fed, fed_at}

-- a list of moments in which each step is tried on what the one before left
pub data Run : List ℕ → List Moment → Type 0 where
  done : {w : List ℕ} → Run w []
  more : {w : List ℕ} {ms : List Moment} (s : Step) → Run (after w s) ms
      → Run w (record { step = s; answer = rejection w s; state = after w s } ∷ ms)

-- the moments of some steps, and then those of a run from where they end
then_run : (w : List ℕ) (ss : List Step) {ms : List Moment} → Run (after_all w ss) ms → Run w (moments w ss ++ ms)
unfolding moments after_all
then_run w [] r = r
then_run w (s ∷ ss) r = more s (then_run (after w s) ss r)

-- a call leaves what the steps that it tries leave
left_is : (w : List ℕ) (c : Call) → left_by w c ≡ after_all w (tried_by w c)
unfolding left_by tried_by after_replay after_all
left_is w (single s) = refl
left_is w (replay log budget) = refl

pub played_run : (w : List ℕ) (cs : List Call) → Run w (played w cs)
unfolding played
played_run w [] = done
played_run w (c ∷ cs) = then_run w (tried_by w c) (rw (sym (left_is w c)) (played_run (left_by w c) cs))

-- from the state u at moment n to the state u' at the next
pub data Next (ms : List Moment) (n : ℕ) (u u' : List ℕ) : Type 0 where
  stepped : (s : Step) → rejection u s ≡ 0 → u' ≡ effect u s → ((z : ℕ) (r : Reference) → fed_at z ms n r ≡ fed z s 0 r) → Next ms n u u'
  rested : u' ≡ u → ((z : ℕ) (r : Reference) → fed_at z ms n r ≡ r) → Next ms n u u'

-- one step: accepted, or rejected
one : (w : List ℕ) (s : Step) (ms : List Moment)
    → Next (record { step = s; answer = rejection w s; state = after w s } ∷ ms) zero w (after w s)
unfolding after fed_at fed is_add_in
one w s ms = go (eqb (rejection w s) 0) refl
  where
    go : (t : Bool) → eqb (rejection w s) 0 ≡ t
        → Next (record { step = s; answer = rejection w s; state = after w s } ∷ ms) zero w (cond (eqb (rejection w s) 0) (effect w s) w)
    go true e =
        let q : rejection w s ≡ 0 = eqb-true (rejection w s) 0 e in
        stepped s q (rw e) (λ z r. rw q)
    go false e = rested (rw e) (λ z r. rw (e, and-false (eqb s.kind 1 && eqb (shard_of s) z)))

pub next : {w : List ℕ} {ms : List Moment} → Run w ms → (n : ℕ) → Next ms n (state_at w ms n) (state_at w ms (suc n))
unfolding state_at fed_at
next (done {w = w}) zero = rested refl (λ z r. refl)
next (done {w = w}) (suc n) = rested refl (λ z r. refl)
next (more {w = w} {ms = ms} s r) zero = one w s ms
next (more {w = w} {ms = ms} s r) (suc n) = shift (next r n)
  where
    shift : {m : Moment} {u u' : List ℕ} → Next ms n u u' → Next (m ∷ ms) (suc n) u u'
    shift (stepped t a b f) = stepped t a b f
    shift (rested a f) = rested a f

-- the answer at a moment is that of a step on the state there, or there is no step
pub data Answered (u : List ℕ) (a : ℕ) : Type 0 where
  answered : (s : Step) → a ≡ rejection u s → Answered u a
  silent : a ≡ 0 → Answered u a

pub answer : {w : List ℕ} {ms : List Moment} → Run w ms → (n : ℕ) → Answered (state_at w ms n) (answer_at ms n)
unfolding state_at answer_at
answer done n = silent refl
answer (more s r) zero = answered s refl
answer (more s r) (suc n) = answer r n
