-- How the comparison of replicas by their words ends.
-- Assumes nothing.
use Prim.Native.Nat.{ℕ, ◌+◌, ◌-◌, ◌*◌, ◌≤◌, ◌<◌}
use native.Mathlib.Omega.{arith}
use mathlib.Core.Path.{◌≡◌, sym, ap₂, ◌∙◌}
use mathlib.Core.Bool.{Bool, true, false, and-false}
use mathlib.Core.List.{List}
use lib.Dec.{leb, eqb}
use lib.ListN.{length, get_or, take, drop, length-take, length-drop}
use lib.Seq.{get_or-take, get_or-drop}
use borrow.Author.Tests.{le-leb, lt-leb, eq-eqb, ne_eqb}
use Rattle.model.specs.Tests.{all_below}
use Rattle.model.proofs.Tests.{both, below_all}
use Rattle.model.proofs.Ranges.{more, fails}
use Rattle.learn_steps.specs.AlikeWords.{Compared, alike_entry, alike_at, all_alike_at}
use Rattle.alike_words.specs.EightAtOnce.{agreeing}
use Rattle.alike_words.proofs.EightAtOnce.{agreeing_first}

-- ---- n entries of the replica at a place, as they are cut from the state

abbrev cut : List ℕ → ℕ → ℕ → List ℕ
cut w n at = take (at + 8 + n - (at + 8)) (drop (at + 8) w)

module _ (w : List ℕ) (n at : ℕ) where
  cut_length : at + 64 ≤ length w → n ≤ 56 → length (cut w n at) ≡ n
  cut_length h l = simp (length-take, length-drop) (omega arith)

  cut_word : (i : ℕ) → i < n → get_or (cut w n at) i 0 ≡ get_or w (at + 8 + i) 0
  cut_word i h = get_or-take (at + 8 + n - (at + 8)) (drop (at + 8) w) i 0 (omega arith) ∙ get_or-drop (at + 8) w i 0

-- ---- one replica

module _ (w : List ℕ) (n own q : ℕ) where
  -- the first p entries are alike
  pub record Entries (p : ℕ) : Type 0 where
    pub most : p ≤ n
    pub alike : true ≡ all_below p (alike_entry w own q)

  -- those that `agreeing` tells of
  agreed : q + 64 ≤ length w → n ≤ 56 → Entries (agreeing (cut w n q) (cut w n own))
  unfolding alike_entry
  agreed h l =
      let f = agreeing_first (cut w n q) (cut w n own) in
      let m : agreeing (cut w n q) (cut w n own) ≤ n = omega (arith, f.most, cut_length w n q h l) in
      record {
        most = m;
        alike =
            sym
            (below_all (agreeing (cut w n q) (cut w n own)) (alike_entry w own q)
            (λ i k. sym (ap₂ eqb (cut_word w n q i (omega arith)) (cut_word w n own i (omega arith))) ∙ f.alike i k));
      }

  pub next_entry : (p : ℕ) → p < n → Entries p → get_or w (q + 8 + p) 0 ≡ get_or w (own + 8 + p) 0 → Entries (p + 1)
  unfolding alike_entry
  next_entry p h e d =
      record {
        most = omega arith;
        alike = more p (alike_entry w own q) e.alike (sym (eq-eqb (get_or w (q + 8 + p) 0) (get_or w (own + 8 + p) 0) d));
      }

  all_entries : (p : ℕ) → n ≤ get_or w (q + 1) 0 → n ≤ p → Entries p → alike_at w n own q ≡ true
  unfolding alike_at
  all_entries p a h e =
      let s : p ≡ n = omega (arith, e.most) in
      (both (leb n (get_or w (q + 1) 0)) (all_below n (alike_entry w own q))).1 (le-leb n (get_or w (q + 1) 0) a, sym (rw s at e.alike))

  short : get_or w (q + 1) 0 < n → alike_at w n own q ≡ false
  unfolding alike_at
  short h = rw (lt-leb n (get_or w (q + 1) 0) h)

  differs : (p : ℕ) → p < n → (get_or w (q + 8 + p) 0 ≡ get_or w (own + 8 + p) 0 → ⊥) → alike_at w n own q ≡ false
  unfolding alike_at alike_entry
  differs p h d =
      rw (← fails n p (alike_entry w own q) h (sym (ne_eqb (get_or w (q + 8 + p) 0) (get_or w (own + 8 + p) 0) d)))
      (and-false (leb n (get_or w (q + 1) 0)))

-- ---- all replicas

module _ (w : List ℕ) (first size n own : ℕ) where
  pub is_alike : ℕ → Bool
  is_alike k = alike_at w n own (first + k * 64)

  -- replica k lies in the state, and its comparison begins where `agreeing` says
  module _ (c : Compared w first size n own) (k : ℕ) (h : k < size) where
    fits : first + k * 64 + 64 ≤ length w
    fits = omega (arith, c.fits)

    pub begun : {p : ℕ} → p ≡ agreeing (cut w n (first + k * 64)) (cut w n own) → Entries w n own (first + k * 64) p
    begun e = rw e (agreed w n own (first + k * 64) fits c.few)

  pub next_replica : (k p : ℕ) → true ≡ all_below k is_alike → n ≤ get_or w (first + k * 64 + 1) 0 → n ≤ p → Entries w n own (first + k * 64) p
      → true ≡ all_below (k + 1) is_alike
  unfolding is_alike
  next_replica k p e a l d = more k is_alike e (sym (all_entries w n own (first + k * 64) p a l d))

  pub all_compared : (k : ℕ) → k ≡ size → true ≡ all_below k is_alike → true ≡ all_alike_at w first size n own
  unfolding all_alike_at is_alike
  all_compared k s e = rw s at e

  -- the comparison is left at replica k
  pub left_short : (k : ℕ) → k < size → get_or w (first + k * 64 + 1) 0 < n → false ≡ all_alike_at w first size n own
  unfolding all_alike_at is_alike
  left_short k h e = fails size k is_alike h (sym (short w n own (first + k * 64) e))

  pub left_differing : (k p : ℕ) → k < size → p < n → (get_or w (first + k * 64 + 8 + p) 0 ≡ get_or w (own + 8 + p) 0 → ⊥)
      → false ≡ all_alike_at w first size n own
  unfolding all_alike_at is_alike
  left_differing k p h l d = fails size k is_alike h (sym (differs w n own (first + k * 64) p l d))
