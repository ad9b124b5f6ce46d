-- A tally in an output: its seventeen words.
-- Assumes nothing.
use Prim.Native.Nat.{ℕ, ◌+◌, ◌≤◌, ◌<◌}
use native.Mathlib.Nat.{zero-add}
use native.Mathlib.Omega.{arith}
use mathlib.Core.Path.{◌≡◌, sym, ap, ◌∙◌}
use mathlib.Core.List.{List, [], ◌∷◌, ◌++◌, append_assoc}
use lib.ListN.{length, get_or, take, drop, set, length-append, take-append-drop}
use lib.Seq.{sets, sets-eq, take-suc, drop-cons, set-append_seam, length-take-le}
use Rattle.tallies.specs.declared.tally.Tally.{Tally}
use Rattle.word_outputs.specs.TallyWords.{tally_words, tally_in}

-- ---- words at the start of an output
words_put : (out ns : List ℕ) → length ns ≤ length out → sets out 0 ns ≡ ns ++ drop (length ns) out
words_put out ns h =
    let fits : 0 + length ns ≤ length out = omega (arith, h) in
    sets-eq ns out 0 fits ∙ ap (λ (n : ℕ). ns ++ drop n out) (zero-add (length ns))

module _ (out : List ℕ) (room : 17 ≤ length out) where
  -- the tally t, stored host by host and then the count of none
  module _ (t : Tally) (long : length t.hosts ≡ 16) where
    words_long : length (tally_words t) ≡ 17
    unfolding tally_words
    words_long = length-append t.hosts (t.none ∷ []) ∙ rw long

    pub stored : {l : List ℕ} → l ≡ t.hosts → set (l ++ drop 16 out) 16 t.none ≡ sets out 0 (tally_words t)
    unfolding tally_words
    stored {l} e =
        let h : List ℕ = t.hosts in
        let fits : 16 < length out = omega (arith, room) in
        let is : l ++ drop 16 out ≡ h ++ (get_or out 16 0 ∷ drop 17 out) =
        ap (λ (x : List ℕ). x ++ drop 16 out) e ∙ ap (λ (x : List ℕ). h ++ x) (drop-cons out 16 0 fits) in
        let fit : length (h ++ t.none ∷ []) ≤ length out = omega (arith, words_long, room) in
        ap (λ (x : List ℕ). set x 16 t.none) is
        ∙ ap (λ (n : ℕ). set (h ++ (get_or out 16 0 ∷ drop 17 out)) n t.none) (sym long)
        ∙ set-append_seam h (get_or out 16 0) (drop 17 out) t.none
        ∙ sym (append_assoc h (t.none ∷ []) (drop 17 out))
        ∙ ap (λ (n : ℕ). (h ++ t.none ∷ []) ++ drop n out) (sym words_long)
        ∙ sym (words_put out (h ++ t.none ∷ []) fit)

  -- the tally that the output holds, put back
  pub in_long : length (tally_in out).hosts ≡ 16
  unfolding tally_in
  in_long = length-take-le 16 out (omega (arith, room))

  pub own_words : sets out 0 (tally_words (tally_in out)) ≡ out
  unfolding tally_words tally_in
  own_words =
      let fits : 16 < length out = omega (arith, room) in
      let is : take 16 out ++ get_or out 16 0 ∷ [] ≡ take 17 out = sym (take-suc out 16 0 fits) in
      let long : length (take 17 out) ≡ 17 = length-take-le 17 out room in
      let fit : length (take 17 out) ≤ length out = omega (arith, long, room) in
      ap (λ (ns : List ℕ). sets out 0 ns) is ∙ words_put out (take 17 out) fit ∙ ap (λ (n : ℕ). take 17 out ++ drop n out) long ∙ take-append-drop 17 out
