-- Words compared in turns of eight: eight joined, the turns one by one, and that the words which a comparison tells of agree. Assumes nothing.
use Rattle.std.proofs.Common.{◌≡◌, ℕ, zero, suc, ◌+◌, ◌-◌, ◌*◌, ◌/◌, ◌≤◌, ◌<◌, Bool, true, false, cond, ltb, eqb, List, length, get_or, take, drop, refl, sym, ap, ◌∙◌, arith, eqb-true, eq-eqb, le-ltb, lt-ltb, length-drop, length-take-le, get_or-take, get_or-drop, ext_get_or}
use native.Mathlib.Decide.{dec_lt}
use Rattle.model.specs.Tests.{all_below, same}
use Rattle.model.proofs.Tests.{all_below_lem, below_all}
use Rattle.model.proofs.Ranges.{same_test}
use Rattle.model.proofs.WellFormedParts.{same_lists, same_self}
use Rattle.alike_words.specs.EightAtOnce.{words_alike, agreeing_from, agreeing}

abbrev same_word : List ℕ → List ℕ → ℕ → Bool
same_word a b k = eqb (get_or a k 0) (get_or b k 0)

module _ (a b : List ℕ) where
  -- eight words cut out of both lists are the same where they are alike
  eight_alike : (i : ℕ) → i + 8 ≤ length a → i + 8 ≤ length b → same (take 8 (drop i a)) (take 8 (drop i b)) ≡ words_alike a b i 8
  unfolding words_alike
  eight_alike i h k =
      same_test (same (take 8 (drop i a)) (take 8 (drop i b))) (all_below 8 (λ k. same_word a b (i + k)))
      (λ e. below_all 8 (λ k. same_word a b (i + k))
      (λ k l. let s = same_lists (take 8 (drop i a)) (take 8 (drop i b)) e in
      eq-eqb (get_or a (i + k) 0) (get_or b (i + k) 0)
      (sym (at a k l) ∙ ap (λ (l : List ℕ). get_or l k 0) s ∙ at b k l)))
      (λ e. rw (ext_get_or 0 (take 8 (drop i a)) (take 8 (drop i b)) (long a h ∙ sym (long b k))
      (λ k l. let m : k < 8 = omega (arith, long a h) in
      at a k m ∙ eqb-true (get_or a (i + k) 0) (get_or b (i + k) 0) (all_below_lem 8 (λ k. same_word a b (i + k)) e k m) ∙ sym (at b k m)))
      (same_self (take 8 (drop i b))))
    where
      at : (l : List ℕ) (k : ℕ) → k < 8 → get_or (take 8 (drop i l)) k 0 ≡ get_or l (i + k) 0
      at l k h = get_or-take 8 (drop i l) k 0 h ∙ get_or-drop i l k 0

      long : (l : List ℕ) → i + 8 ≤ length l → length (take 8 (drop i l)) ≡ 8
      long l h = length-take-le 8 (drop i l) (omega (arith, length-drop i l))

  -- .. in a turn from i on, and in the last one
  pub turn_alike : (i : ℕ) {r : Bool} → r ≡ same (take (i + 8 - i) (drop i a)) (take (i + 8 - i) (drop i b))
      → i + 8 ≤ length a → length a ≡ length b → words_alike a b i 8 ≡ r
  turn_alike i e h l = let n : i + 8 - i ≡ 8 = omega arith in sym (rw n at e ∙ eight_alike i h (omega arith))

  pub last_alike : {r : Bool} → let i : ℕ = length a - 8 in r ≡ same (take (length a - i) (drop i a)) (take (length b - i) (drop i b))
      → 8 ≤ length a → length a ≡ length b → words_alike a b i 8 ≡ r
  last_alike e h l =
      let i : ℕ = length a - 8 in
      let m : length a - i ≡ 8 = omega arith in
      let n : length b - i ≡ 8 = omega arith in
      sym (rw (m, n) at e ∙ eight_alike i (omega arith) (omega arith))

  -- ---- the turns

  -- t turns of all before the last one agreed, so that what is told from there on is told of all
  pub record Told (t : ℕ) : Type 0 where
    pub told : agreeing_from ((length a - 1) / 8 - t) a b (8 * t) ≡ agreeing a b

  pub no_turn : length a < 8 → 0 ≡ agreeing a b
  unfolding agreeing
  no_turn h = rw (lt-ltb (length a) 8 h)

  pub first_turn : 8 ≤ length a → Told 0
  unfolding agreeing
  first_turn h =
      let all : (length a - 1) / 8 - 0 ≡ (length a - 1) / 8 = omega arith in
      let first : 8 * 0 ≡ 0 = refl in
      record { told = rw (le-ltb (length a) 8 h, all, first) }

  -- a turn before the last one, with its outcome
  module _ {t : ℕ} (h : t < (length a - 1) / 8) (e : Told t) where
    turn : cond (words_alike a b (8 * t) 8) (agreeing_from ((length a - 1) / 8 - (t + 1)) a b (8 * t + 8)) (8 * t) ≡ agreeing a b
    unfolding agreeing_from
    turn = let one_left : (length a - 1) / 8 - t ≡ suc ((length a - 1) / 8 - (t + 1)) = omega arith in rw one_left at e.told

    pub stops : words_alike a b (8 * t) 8 ≡ false → 8 * t ≡ agreeing a b
    stops d = rw d at turn

    pub goes_on_lem : words_alike a b (8 * t) 8 ≡ true → Told (t + 1)
    goes_on_lem d = let next : 8 * t + 8 ≡ 8 * (t + 1) = omega arith in record { told = rw next at (rw d at turn) }

  -- the last one
  module _ {t : ℕ} (h : t ≡ (length a - 1) / 8) (e : Told t) where
    last_turn : cond (words_alike a b (length a - 8) 8) (length a) (8 * ((length a - 1) / 8)) ≡ agreeing a b
    unfolding agreeing_from
    last_turn =
        let none_left : (length a - 1) / 8 - t ≡ 0 = omega arith in
        rw (← h) (rw none_left at e.told)

    pub ends : words_alike a b (length a - 8) 8 ≡ true → length a ≡ agreeing a b
    ends d = rw d at last_turn

    pub ends_before : words_alike a b (length a - 8) 8 ≡ false → 8 * ((length a - 1) / 8) ≡ agreeing a b
    ends_before d = rw d at last_turn

  -- ---- the words that agree

  -- the first m words are alike
  pub record First (m : ℕ) : Type 0 where
    pub most : m ≤ length a
    pub alike : (k : ℕ) → k < m → same_word a b k ≡ true

  none : First 0
  none = record { most = omega arith; alike = λ k h. absurd (omega arith) }

  -- the words of a turn that passed join those before p
  joined : (p i m : ℕ) → First p → words_alike a b i 8 ≡ true → i ≤ p → m ≤ i + 8 → m ≤ length a → First m
  unfolding words_alike
  joined p i m e d l h s =
      record {
        most = s;
        alike = λ k q.
            elim (dec_lt k p) [
              | yes c ↦ e.alike k c
              | no c ↦
                  let here : i + (k - i) ≡ k = omega arith in
                  rw here at (all_below_lem 8 (λ k. same_word a b (i + k)) d (k - i) (omega arith))
            ];
      }

  either : (c : Bool) (x y : ℕ) → (c ≡ true → First x) → First y → First (cond c x y)
  either true x y f g = f refl
  either false x y f g = g

  first_from : (t p : ℕ) → p + t * 8 ≤ length a → length a ≤ p + t * 8 + 8 → First p → First (agreeing_from t a b p)
  unfolding agreeing_from
  first_from zero p l h e =
      either (words_alike a b (length a - 8) 8) (length a) p
      (λ d. joined p (length a - 8) (length a) e d (omega arith) (omega arith) (omega arith)) e
  first_from (suc t) p l h e =
      either (words_alike a b p 8) (agreeing_from t a b (p + 8)) p
      (λ d. first_from t (p + 8) (omega arith) (omega arith) (joined p p (p + 8) e d (omega arith) (omega arith) (omega arith))) e

  pub agreeing_first : First (agreeing a b)
  unfolding agreeing
  agreeing_first =
      either (ltb (length a) 8) 0 (agreeing_from ((length a - 1) / 8) a b 0) (λ d. none)
      (first_from ((length a - 1) / 8) 0 (omega arith) (omega arith) none)
