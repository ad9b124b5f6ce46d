-- Whose rejection a step's is, as the code finds it.
-- Assumes nothing.
use Prim.Native.Nat.{ℕ, ◌-◌, ◌≤◌}
use native.Mathlib.Omega.{arith}
use mathlib.Core.Path.{◌≡◌, refl, sym, ap, ◌∙◌}
use mathlib.Core.Bool.{Bool, true, false, cond, ◌||◌, true≢false}
use mathlib.Core.List.{List, [], ◌∷◌}
use lib.Dec.{leb, ltb}
use lib.ListN.{length}
use borrow.Author.Tests.{le-leb, leb-true, ltb-true}
use Rattle.std.specs.Prelude.{⊤, eqb, Result, unwrap_or}
use Rattle.std.specs.Bool.{then_some}
use Rattle.types.specs.declared.step.Step.{Step}
use Rattle.types.specs.declared.rejection.Rejection.{Rejection}
use Rattle.types.specs.Rejections.{answer_number}
use Rattle.model.specs.Checks.{first_of}
use Rattle.types.specs.Kinds.{kind_of}
use Rattle.types.specs.Members.{is_host}
use Rattle.model.specs.Layout.{shards_of, is_state_length}
use Rattle.model.specs.Configuration.{configuration}
use Rattle.types.specs.StepNames.{shard_of, configuration_of, acting_host}
use Rattle.model.specs.Steps.{are_numbers, in_range, step_checks, rejection}
use Rattle.model.proofs.Tests.{all_pass}
use Rattle.lookup.specs.Ready.{Ready}
use Rattle.rejection_hosts.specs.RejectionHosts.{no_host, orderer_named, named_host, count_of, RejectedStep}

-- an answer at which no orderer is named
abbrev pub unnamed : Result ⊤ Rejection → Bool
unnamed a = eqb (answer_number a) 7 || eqb (answer_number a) 10

-- .. and one at which an orderer is named is not 7
pub by_seven : (n : ℕ) → (eqb n 7 || eqb n 10) ≡ false → n ≡ 7 → ⊥
by_seven n other e = true≢false (rw e at other)

module _ {w : List ℕ} {s : Step} {a : Result ⊤ Rejection} (r : RejectedStep w s a) where
  -- a step whose rejection is not 7 has its numbers in range
  in_range_lem : (answer_number a ≡ 7 → ⊥) → in_range (shards_of (length w)) s ≡ true
  unfolding rejection step_checks first_of is_state_length
  in_range_lem n = go (in_range (shards_of (length w)) s) refl
    where
      go : (t : Bool) → in_range (shards_of (length w)) s ≡ t → t ≡ true
      go true e = refl
      go false e =
          absurd
          (n (r.is ∙ rw (le-leb 2 (shards_of (length w)) r.formed.several, r.known.not_kept, r.known.known, e)))

  tests : (answer_number a ≡ 7 → ⊥) → (ltb s.a (shards_of (length w)) ≡ true) × (leb 1 s.b ≡ true) × (leb s.b 8 ≡ true)
  unfolding in_range
  tests n =
      let p = all_pass (ltb s.a (shards_of (length w)))
      (leb 1 s.b ∷ leb s.b 8 ∷ are_numbers (kind_of s.kind) (shards_of (length w)) s.c s.d ∷ []) (in_range_lem n) in
      (p.0, p.1.0, p.1.1.0)

  pub index_least : (answer_number a ≡ 7 → ⊥) → 1 ≤ s.b
  index_least n = leb-true 1 s.b (tests n).1

  -- .. so it names a configuration, installed or not
  pub names-configuration : (answer_number a ≡ 7 → ⊥) → {z : ℕ} → z ≡ shard_of s → Ready w z (s.b - 1)
  unfolding shard_of
  names-configuration n e =
      record {
        state = r.formed;
        shard = omega (arith, e, ltb-true s.a (shards_of (length w)) (tests n).0);
        configuration = omega (arith, leb-true s.b 8 (tests n).2, index_least n);
      }

  -- no orderer is named where the answer is 7 or 10, and else the configuration's
  pub no_orderer : unnamed a ≡ true → no_host ≡ orderer_named w s
  no_orderer e = rw (sym r.is, e)

  pub has_orderer : unnamed a ≡ false → {z : ℕ} → z ≡ shard_of s → {o : ℕ} → o ≡ (configuration w z (s.b - 1)).orderer → o ≡ orderer_named w s
  unfolding configuration configuration_of
  has_orderer n e p = p ∙ rw (sym r.is, n, e)

-- the count: the host's own, or that of no host
module _ (w : List ℕ) (s : Step) {o h : ℕ} (q : o ≡ orderer_named w s) (e : h ≡ acting_host s o) where
  host_is : named_host w s ≡ h
  unfolding named_host
  host_is = sym (e ∙ ap (acting_host s) q)

  pub counted : unwrap_or (then_some (ltb h 16) h) no_host ≡ count_of w s
  unfolding count_of is_host
  counted = rw host_is (pushed (ltb h 16))
    where
      pushed : (t : Bool) → unwrap_or (then_some t h) 16 ≡ cond t h 16
      pushed true = refl
      pushed false = refl
