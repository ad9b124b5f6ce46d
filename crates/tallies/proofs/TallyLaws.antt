-- The seventeen counts of a tally sum to the steps rejected, and a host that no step names has 0.
-- Assumes nothing.
use Prim.Native.Nat.{ℕ, zero, suc, ◌+◌, ◌≤◌, ◌<◌}
use native.Mathlib.Omega.{arith}
use mathlib.Core.Path.{◌≡◌, refl, sym, ap, ◌∙◌}
use mathlib.Core.Bool.{Bool, true, false, cond, not, ◌&&◌, ◌||◌, true≢false}
use mathlib.Core.List.{List, [], ◌∷◌, ◌++◌}
use lib.Dec.{eqb, ltb}
use borrow.Author.Tests.{lt-ltb, le-ltb, ltb-true, ltb-false, ne_eqb, eqb-true, eqb-false}
use Rattle.types.specs.declared.step.Step.{Step}
use Rattle.types.specs.Members.{is_host}
use Rattle.model.specs.Steps.{rejection, after}
use Rattle.model.specs.Log.{read_log}
use Rattle.types.specs.Rejections.{answered}
use Rattle.model.specs.Results.{report_rejected}
use Rattle.model.specs.Replay.{rejected_in, replayed, report}
use Rattle.tallies.specs.Tally.{is_rejection_of, rejections_of, host_counts, tally_of, tally_after}
use Rattle.rejection_hosts.specs.RejectionHosts.{no_host, named_host, count_of}
use Rattle.tallies.specs.TallyLaws.{sum_of, total, is_named_in, TallyLaws}
use Rattle.tallies.proofs.TallyCounts.{count_most, host_count}

-- ---- sums
sum_snoc : (l : List ℕ) (x : ℕ) → sum_of (l ++ x ∷ []) ≡ sum_of l + x
unfolding sum_of
sum_snoc [] x = omega arith
sum_snoc (y ∷ l) x = let e = sum_snoc l x in omega (arith, e)

-- a number that is n, and one that is below n, among those below n + 1
one_more : (x : Bool) (c n : ℕ) → cond (x && ltb c n) 1 0 + cond (x && eqb c n) 1 0 ≡ cond (x && ltb c (suc n)) 1 0
one_more false c n = refl
one_more true c n = go (ltb c n) refl (eqb c n) refl
  where
    go : (a : Bool) → ltb c n ≡ a → (b : Bool) → eqb c n ≡ b → cond a 1 0 + cond b 1 0 ≡ cond (ltb c (suc n)) 1 0
    go true e true f = absurd (omega (arith, ltb-true c n e, eqb-true c n f))
    go true e false f = let l : c < suc n = omega (arith, ltb-true c n e) in rw (lt-ltb c (suc n) l)
    go false e true f = let l : c < suc n = omega (arith, eqb-true c n f) in rw (lt-ltb c (suc n) l)
    go false e false f =
        let other : c ≡ n → ⊥ = eqb-false c n f in
        let l : suc n ≤ c = omega (arith, ltb-false c n e, other) in
        rw (le-ltb c (suc n) l)

-- what one step adds to the counts below n
counts-add : (n : ℕ) (w : List ℕ) (s : Step) (ss : List Step)
    → sum_of (host_counts n w (s ∷ ss)) ≡ cond (not (eqb (rejection w s) 0) && ltb (count_of w s) n) 1 0 + sum_of (host_counts n (after w s) ss)
unfolding host_counts sum_of rejections_of is_rejection_of
counts-add zero w s ss = go (not (eqb (rejection w s) 0))
  where
    go : (x : Bool) → ◌≡◌ {A = ℕ} 0 (cond (x && ltb (count_of w s) 0) 1 0 + 0)
    go true = let l : 0 ≤ count_of w s = omega arith in rw (le-ltb (count_of w s) 0 l)
    go false = refl
counts-add (suc n) w s ss =
    let before = counts-add n w s ss in
    let one = one_more (not (eqb (rejection w s) 0)) (count_of w s) n in
    let left = sum_snoc (host_counts n w (s ∷ ss)) (rejections_of n w (s ∷ ss)) in
    let right = sum_snoc (host_counts n (after w s) ss) (rejections_of n (after w s) ss) in
    omega (arith, before, one, left, right)

nothing_sums : (n : ℕ) (w : List ℕ) → sum_of (host_counts n w []) ≡ 0
unfolding host_counts sum_of rejections_of
nothing_sums zero w = refl
nothing_sums (suc n) w = sum_snoc (host_counts n w []) 0 ∙ rw (nothing_sums n w)

-- every rejection is in one of the seventeen
all_sum : (ss : List Step) (w : List ℕ) → sum_of (host_counts 17 w ss) ≡ rejected_in w ss
unfolding rejected_in
all_sum [] w = nothing_sums 17 w
all_sum (s ∷ ss) w =
    counts-add 17 w s ss
    ∙ ap (λ (n : ℕ). n + sum_of (host_counts 17 (after w s) ss)) (counted_once (eqb (rejection w s) 0))
    ∙ ap (λ (n : ℕ). cond (eqb (rejection w s) 0) 0 1 + n) (all_sum ss (after w s))
  where
    counted_once : (x : Bool) → ◌≡◌ {A = ℕ} (cond (not x && ltb (count_of w s) 17) 1 0) (cond x 0 1)
    counted_once true = refl
    counted_once false = let l : count_of w s < 17 = omega (arith, count_most w s) in rw (lt-ltb (count_of w s) 17 l)

one_more_host : (n : ℕ) (w : List ℕ) (ss : List Step) → sum_of (host_counts (suc n) w ss) ≡ sum_of (host_counts n w ss) + rejections_of n w ss
unfolding host_counts
one_more_host n w ss = sum_snoc (host_counts n w ss) (rejections_of n w ss)

total_is : (w : List ℕ) (ss : List Step) → total (tally_of w ss) ≡ rejected_in w ss
unfolding total tally_of
total_is w ss = sym (one_more_host no_host w ss) ∙ all_sum ss w

-- ---- a host that no step names
not_counted : (w : List ℕ) (s : Step) (h : ℕ) → h < no_host → eqb (named_host w s) h ≡ false → eqb (count_of w s) h ≡ false
unfolding count_of
not_counted w s h l n = go (is_host (named_host w s))
  where
    go : (x : Bool) → eqb (cond x (named_host w s) no_host) h ≡ false
    go true = n
    go false = ne_eqb no_host h (λ e. omega (arith, l, e))

never_counted : (ss : List Step) (w : List ℕ) (h : ℕ) → h < no_host → is_named_in h w ss ≡ false → rejections_of h w ss ≡ 0
unfolding is_named_in rejections_of is_rejection_of
never_counted [] w h l n = refl
never_counted (s ∷ ss) w h l n =
    let both = neither (eqb (named_host w s) h) (is_named_in h (after w s) ss) n in
    let zero-here = skipped (not (eqb (rejection w s) 0)) (eqb (count_of w s) h) (not_counted w s h l both.0) in
    let zero-after = never_counted ss (after w s) h l both.1 in
    omega (arith, zero-here, zero-after)
  where
    neither : (a b : Bool) → (a || b) ≡ false → (a ≡ false) × (b ≡ false)
    neither true b e = absurd (true≢false e)
    neither false b e = (refl, e)

    skipped : (a b : Bool) → b ≡ false → ◌≡◌ {A = ℕ} (cond (a && b) 1 0) 0
    skipped true b e = rw e
    skipped false b e = refl

pub tally_laws : TallyLaws
unfolding tally_after tally_of replayed report answered report_rejected
tally_laws =
    record {
      sums = λ t w log budget z. rw z (total_is w (read_log budget log).steps);
      unnamed = λ t w log budget z h l n.
          rw z (host_count no_host w (read_log budget log).steps h l ∙ never_counted (read_log budget log).steps w h l (rw z at n));
    }
