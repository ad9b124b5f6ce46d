-- A tally that is counted step after step holds what each count is defined to be.
-- Assumes nothing.
use Prim.Native.Nat.{ℕ, zero, suc, ◌+◌, ◌≤◌, ◌<◌}
use native.Mathlib.Nat.{zero-add, add-zero, add_assoc}
use native.Mathlib.Omega.{arith}
use mathlib.Core.Path.{◌≡◌, refl, sym, ap, ◌∙◌}
use mathlib.Core.Bool.{Bool, true, false, cond, not, ◌&&◌}
use mathlib.Core.List.{List, [], ◌∷◌, ◌++◌}
use lib.Dec.{eqb, ltb}
use lib.ListN.{length, get_or, set, replicate, length-append, length-set, length-replicate, get_or-replicate, get_or-append}
use lib.Seq.{ext_get_or, get_or-set_same, get_or-set_other, get_or-append_seam}
use borrow.Author.Tests.{lt-ltb, eqb-true, eqb-false, ltb-true, ltb-false}
use Rattle.types.specs.declared.step.Step.{Step}
use Rattle.types.specs.Members.{is_host}
use Rattle.model.specs.Steps.{rejection, after}
use Rattle.tallies.specs.declared.tally.Tally.{Tally}
use Rattle.tallies.specs.Tally.{is_rejection_of, rejections_of, host_counts, tally_of}
use Rattle.rejection_hosts.specs.RejectionHosts.{no_host, named_host, count_of}
use Rattle.tallies.specs.TallyCounts.{nothing_counted, count_at, counted_in}

-- ---- one more in a count
module _ (t : Tally) (long : length t.hosts ≡ no_host) where
  pub counted_at : (j k : ℕ) → j ≤ no_host → k ≤ no_host → count_at (counted_in t j) k ≡ count_at t k + cond (eqb j k) 1 0
  unfolding count_at counted_in is_host
  counted_at j k a b = go (ltb j 16) refl (ltb k 16) refl (eqb j k) refl
    where
      go : (x : Bool) → ltb j 16 ≡ x → (y : Bool) → ltb k 16 ≡ y → (z : Bool) → eqb j k ≡ z
          → cond y (get_or (cond x (set t.hosts j (cond x (get_or t.hosts j 0) t.none + 1)) t.hosts) k 0)
          (cond x t.none (cond x (get_or t.hosts j 0) t.none + 1))
          ≡ cond y (get_or t.hosts k 0) t.none + cond z 1 0
      go true e true f true g =
          let same : j ≡ k = eqb-true j k g in
          let fits : k < length t.hosts = omega (arith, long, ltb-true k 16 f) in
          rw same (get_or-set_same t.hosts k (get_or t.hosts k 0 + 1) 0 fits)
      go true e true f false g =
          get_or-set_other t.hosts j k (get_or t.hosts j 0 + 1) 0 (λ q. eqb-false j k g (sym q)) ∙ sym (add-zero (get_or t.hosts k 0))
      go true e false f true g = absurd (omega (arith, ltb-true j 16 e, ltb-false k 16 f, eqb-true j k g))
      go true e false f false g = sym (add-zero t.none)
      go false e true f true g = absurd (omega (arith, ltb-false j 16 e, ltb-true k 16 f, eqb-true j k g))
      go false e true f false g = sym (add-zero (get_or t.hosts k 0))
      go false e false f true g = refl
      go false e false f false g = absurd (eqb-false j k g (omega (arith, a, b, ltb-false j 16 e, ltb-false k 16 f)))

  pub counted_long : (j : ℕ) → length (counted_in t j).hosts ≡ no_host
  unfolding counted_in
  counted_long j = go (is_host j)
    where
      go : (x : Bool) → length (cond x (set t.hosts j (count_at t j + 1)) t.hosts) ≡ no_host
      go true = length-set t.hosts j (count_at t j + 1) ∙ long
      go false = long

-- a count is one of the seventeen
pub count_most : (w : List ℕ) (s : Step) → count_of w s ≤ no_host
unfolding count_of is_host
count_most w s = go (ltb (named_host w s) 16) refl
  where
    go : (x : Bool) → ltb (named_host w s) 16 ≡ x → cond x (named_host w s) no_host ≤ no_host
    go true e = omega (arith, ltb-true (named_host w s) 16 e)
    go false e = omega arith

-- ---- step after step
-- a tally after some steps more
unfoldable pub tally_from : Tally → List ℕ → List Step → Tally
tally_from t w [] = t
tally_from t w (s ∷ ss) = tally_from (cond (eqb (rejection w s) 0) t (counted_in t (count_of w s))) (after w s) ss

-- what one step adds to count k
step_adds : (t : Tally) → length t.hosts ≡ no_host → (w : List ℕ) (s : Step) (k : ℕ) → k ≤ no_host
    → count_at (cond (eqb (rejection w s) 0) t (counted_in t (count_of w s))) k ≡ count_at t k + cond (is_rejection_of k w s) 1 0
unfolding is_rejection_of
step_adds t long w s k b = go (eqb (rejection w s) 0)
  where
    go : (x : Bool) → count_at (cond x t (counted_in t (count_of w s))) k ≡ count_at t k + cond (not x && eqb (count_of w s) k) 1 0
    go true = sym (add-zero (count_at t k))
    go false = counted_at t long (count_of w s) k (count_most w s) b

step_long_lem : (t : Tally) → length t.hosts ≡ no_host → (w : List ℕ) (s : Step)
    → length (cond (eqb (rejection w s) 0) t (counted_in t (count_of w s))).hosts ≡ no_host
step_long_lem t long w s = go (eqb (rejection w s) 0)
  where
    go : (x : Bool) → length (cond x t (counted_in t (count_of w s))).hosts ≡ no_host
    go true = long
    go false = counted_long t long (count_of w s)

from_at : (ss : List Step) (t : Tally) → length t.hosts ≡ no_host → (w : List ℕ) (k : ℕ) → k ≤ no_host
    → count_at (tally_from t w ss) k ≡ count_at t k + rejections_of k w ss
unfolding tally_from rejections_of
from_at [] t long w k b = sym (add-zero (count_at t k))
from_at (s ∷ ss) t long w k b =
    from_at ss _ (step_long_lem t long w s) (after w s) k b
    ∙ ap (λ (n : ℕ). n + rejections_of k (after w s) ss) (step_adds t long w s k b)
    ∙ add_assoc (count_at t k) (cond (is_rejection_of k w s) 1 0) (rejections_of k (after w s) ss)

from_long : (ss : List Step) (t : Tally) → length t.hosts ≡ no_host → (w : List ℕ) → length (tally_from t w ss).hosts ≡ no_host
unfolding tally_from
from_long [] t long w = long
from_long (s ∷ ss) t long w = from_long ss _ (step_long_lem t long w s) (after w s)

-- ---- from nothing
pub nothing_long : length nothing_counted.hosts ≡ no_host
unfolding nothing_counted
nothing_long = length-replicate {A = ℕ} no_host 0

pub nothing_at : (k : ℕ) → k ≤ no_host → count_at nothing_counted k ≡ 0
unfolding nothing_counted count_at is_host
nothing_at k b = go (ltb k 16) refl
  where
    go : (x : Bool) → ltb k 16 ≡ x → ◌≡◌ {A = ℕ} (cond x (get_or (replicate no_host 0) k 0) 0) 0
    go true e = get_or-replicate no_host k 0 0 (ltb-true k 16 e)
    go false e = refl

pub host_counts_long : (n : ℕ) (w : List ℕ) (ss : List Step) → length (host_counts n w ss) ≡ n
unfolding host_counts
host_counts_long zero w ss = refl
host_counts_long (suc n) w ss = length-append (host_counts n w ss) (rejections_of n w ss ∷ []) ∙ rw (host_counts_long n w ss) (omega arith)

pub host_count : (n : ℕ) (w : List ℕ) (ss : List Step) (k : ℕ) → k < n → get_or (host_counts n w ss) k 0 ≡ rejections_of k w ss
unfolding host_counts
host_count zero w ss k l = absurd (omega (arith, l))
host_count (suc n) w ss k l = go (eqb k n) refl (host_count n w ss k)
  where
    long : length (host_counts n w ss) ≡ n
    long = host_counts_long n w ss

    go : (x : Bool) → eqb k n ≡ x → (k < n → get_or (host_counts n w ss) k 0 ≡ rejections_of k w ss)
        → get_or (host_counts n w ss ++ rejections_of n w ss ∷ []) k 0 ≡ rejections_of k w ss
    go true e before =
        let here : k ≡ length (host_counts n w ss) = eqb-true k n e ∙ sym long in
        let last : k ≡ n = eqb-true k n e in
        ap (λ (i : ℕ). get_or (host_counts n w ss ++ rejections_of n w ss ∷ []) i 0) here
        ∙ get_or-append_seam (host_counts n w ss) (rejections_of n w ss) [] 0
        ∙ ap (λ (i : ℕ). rejections_of i w ss) (sym last)
    go false e before =
        let other : k ≡ n → ⊥ = eqb-false k n e in
        let less : k < n = omega (arith, l, other) in
        get_or-append (host_counts n w ss) (rejections_of n w ss ∷ []) 0 k (omega (arith, less, long))
        ∙ before less

-- the count of a host and that of none, read off the record
at_host : (t : Tally) (k : ℕ) → k < no_host → count_at t k ≡ get_or t.hosts k 0
unfolding count_at is_host
at_host t k l = rw (lt-ltb k 16 l)

at_none : (t : Tally) → count_at t no_host ≡ t.none
unfolding count_at is_host
at_none t = refl

pub tally_from_nothing : (w : List ℕ) (ss : List Step) → tally_from nothing_counted w ss ≡ tally_of w ss
unfolding tally_of
tally_from_nothing w ss = λ i. record { hosts = hosts i; none = none i }
  where
    whole : Tally
    whole = tally_from nothing_counted w ss

    at : (k : ℕ) → k ≤ no_host → count_at whole k ≡ rejections_of k w ss
    at k b = from_at ss nothing_counted nothing_long w k b ∙ rw (nothing_at k b) (zero-add (rejections_of k w ss))

    long : length whole.hosts ≡ no_host
    long = from_long ss nothing_counted nothing_long w

    hosts : whole.hosts ≡ host_counts no_host w ss
    hosts =
        ext_get_or 0 whole.hosts (host_counts no_host w ss) (long ∙ sym (host_counts_long no_host w ss))
        (λ k l. let less : k < no_host = omega (arith, l, long) in
        sym (at_host whole k less) ∙ at k (omega (arith, less)) ∙ sym (host_count no_host w ss k less))

    none : whole.none ≡ rejections_of no_host w ss
    none = sym (at_none whole) ∙ at no_host (omega arith)
