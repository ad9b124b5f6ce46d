-- The reference shard (document 01, "The one list"): "The lone box of a zone is fed every step .. with its answer, 0 or the refusal, and sees no seat."
use Rattle.std.specs.Prelude.{ℕ, zero, suc, ◌≡◌, Bool, true, false, cond, ◌&&◌, List, [], ◌∷◌, ◌++◌, eqb, take}
use Rattle.types.specs.declared.step.Step.{Step}
use Rattle.model.specs.Tests.{contains}
use Rattle.types.specs.StepNames.{shard_of}
use Rattle.model.specs.Runs.{Moment}

-- "It keeps a list and the entries on offer, both empty at setup."
pub record Reference : Type 0 where
  pub history : List ℕ
  pub offered : List ℕ

unfoldable pub at_setup : Reference
at_setup = record { history = []; offered = [] }

-- an accepted add in shard z
unfoldable pub is_add_in : ℕ → Step → ℕ → Bool
is_add_in z s answer = eqb s.kind 1 && eqb (shard_of s) z && eqb answer 0

-- "An add in its zone with answer 0, at whatever index, puts its entry on offer. No other step puts anything there."
unfoldable pub fed : ℕ → Step → ℕ → Reference → Reference
fed z s answer r = record { history = r.history; offered = cond (is_add_in z s answer) (s.c ∷ r.offered) r.offered }

-- "each goes last in its list"
unfoldable pub accept : ℕ → Reference → Reference
accept e r = record { history = r.history ++ (e ∷ []); offered = r.offered }

-- "it may accept entries on offer, none or several, one at a time"
unfoldable pub accept_all : List ℕ → Reference → Reference
accept_all [] r = r
accept_all (e ∷ es) r = accept_all es (accept e r)

-- one entry that may be accepted: on offer, and "one already in the list is not accepted"
pub record MayAccept (e : ℕ) (r : Reference) : Type 0 where
  pub is_offered : contains e r.offered ≡ true
  pub is_new : contains e r.history ≡ false

-- several that may be accepted one after the other
pub data MayAcceptAll : List ℕ → Reference → Type 0 where
  none : {r : Reference} → MayAcceptAll [] r
  next : {e : ℕ} {es : List ℕ} {r : Reference} → MayAccept e r → MayAcceptAll es (accept e r) → MayAcceptAll (e ∷ es) r

-- the shard fed step n of a run, counted from 0, which is tried at moment n and leads to moment n + 1, if there is one
unfoldable pub fed_at : ℕ → List Moment → ℕ → Reference → Reference
fed_at z [] n r = r
fed_at z (m ∷ ms) zero r = fed z m.step m.answer r
fed_at z (m ∷ ms) (suc n) r = fed_at z ms n r

-- the shard at moment n before and after it accepts, where it accepts `choice n` at moment n
unfoldable pub before_accepting : ℕ → (ℕ → List ℕ) → List Moment → ℕ → Reference
before_accepting z choice ms zero = at_setup
before_accepting z choice ms (suc n) = fed_at z ms n (accept_all (choice n) (before_accepting z choice ms n))

unfoldable pub reference_at : ℕ → (ℕ → List ℕ) → List Moment → ℕ → Reference
reference_at z choice ms n = accept_all (choice n) (before_accepting z choice ms n)

-- the list at the point of moment n where q entries of `choice n` are accepted
unfoldable pub point_at : ℕ → (ℕ → List ℕ) → List Moment → ℕ → ℕ → List ℕ
point_at z choice ms n q = (accept_all (take q (choice n)) (before_accepting z choice ms n)).history
