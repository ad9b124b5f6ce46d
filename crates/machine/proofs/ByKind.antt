-- A step on a well-formed state, its kind, shard and index having passed: its kind answers, and leaves what it answers for.
-- Assumes nothing.
use Prim.Native.Nat.{ℕ, ◌-◌, ◌≤◌}
use native.Mathlib.Omega.{arith}
use mathlib.Core.Path.{◌≡◌, sym, ◌∙◌}
use mathlib.Core.Bool.{true}
use mathlib.Core.List.{List, [], ◌∷◌}
use lib.Dec.{leb, ltb}
use lib.ListN.{length}
use borrow.Author.Tests.{le-leb, leb-true, ltb-true}
use Rattle.std.specs.Prelude.{Ok}
use Rattle.types.specs.declared.kind.Kind.{Kind}
use Rattle.types.specs.declared.step.Step.{Step}
use Rattle.model.specs.Checks.{first_of}
use Rattle.types.specs.Rules.{Known}
use Rattle.model.specs.Layout.{shards_of, is_state_length}
use Rattle.types.specs.StepNames.{shard_of, configuration_of}
use Rattle.model.specs.Steps.{in_range, step_checks, rejection, effect, after}
use Rattle.types.proofs.KindRules.{known}
use Rattle.model.proofs.Tests.{all_pass}
use Rattle.step_numbers.specs.StepRanges.{is_index_of}
use Rattle.step_numbers.proofs.StepRanges.{index}
use Rattle.lookup.specs.KindContracts.{ReadyKind, kind_answer, kind_after}
use Rattle.machine.specs.Inside.{ReadyStep}

module _ {w : List ℕ} {n : ℕ} {k : Kind} {s : Step} (r : ReadyStep w n k s) where
  tests : (ltb s.a n ≡ true) × (leb 1 s.b ≡ true) × (leb s.b 8 ≡ true)
  unfolding is_index_of shard_of
  tests =
      let p = all_pass (ltb s.a n) (leb 1 s.b ∷ leb s.b 8 ∷ []) (index n s (sym r.range)) in
      (p.0, p.1.0, p.1.1.0)

  pub least : 1 ≤ s.b
  least = leb-true 1 s.b tests.1

  -- z is the shard, as the code has it
  module _ {z : ℕ} (a : z ≡ shard_of s) where
    pub ready : ReadyKind w n z (s.b - 1)
    unfolding shard_of
    ready =
        record {
          ready =
              record {
                state = r.state;
                shard = omega (arith, a, ltb-true s.a n tests.0, r.count);
                configuration = omega (arith, leb-true s.b 8 tests.2);
              };
          count = r.count;
        }

    answered : kind_answer (Ok k) w z (s.b - 1) s.c s.d ≡ rejection w s
    unfolding rejection step_checks first_of kind_answer in_range is_state_length configuration_of shard_of
    answered =
        let known : Known (Ok k) = known k in
        rw (
          le-leb 2 (shards_of (length w)) r.state.several,
          ← r.kind,
          known.not_kept,
          known.known,
          ← r.count,
          tests.0,
          tests.1,
          tests.2,
          r.state.formed,
          a,
        )

    leaves : kind_after (Ok k) w z (s.b - 1) s.c s.d ≡ after w s
    unfolding kind_after after effect configuration_of
    leaves = rw (answered, ← r.kind, a)

    -- the function of its kind answers
    pub by_kind : {i : Kind} → k ≡ i → {x : ℕ} {v : List ℕ}
        → x ≡ kind_answer (Ok i) w z (s.b - 1) s.c s.d → v ≡ kind_after (Ok i) w z (s.b - 1) s.c s.d
        → (x ≡ rejection w s) × (v ≡ after w s)
    by_kind e p q = ((rw (← e) at p) ∙ answered, (rw (← e) at q) ∙ leaves)
