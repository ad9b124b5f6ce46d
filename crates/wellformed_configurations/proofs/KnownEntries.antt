-- The replicas of a configuration in a state, each tested in two parts as the code cuts them out; and entries that need not be tested one by one.
use Prim.Native.Nat.{ℕ, ◌+◌, ◌-◌, ◌≤◌}
use native.Mathlib.Omega.{arith}
use mathlib.Core.Path.{◌≡◌, sym, ap, subst, ◌∙◌}
use mathlib.Core.Bool.{Bool, true, false, cond, ◌&&◌}
use mathlib.Core.List.{List}
use lib.Dec.{leb, eqb}
use lib.ListN.{length, get_or, take, drop}
use borrow.Author.Tests.{eqb-true, leb-true}
use Rattle.model.specs.Tests.{all_below, all_of}
use Rattle.model.specs.Entries.{is_take, is_entry}
use Rattle.model.specs.Layout.{part}
use Rattle.model.specs.WellFormed.{is_part}
use Rattle.model.proofs.Tests.{both, all_below_lem}
use Rattle.model.proofs.WellFormedParts.{all_at, at_all}
use Rattle.wellformed_entries.proofs.Zeros.{part_length}
use Rattle.wellformed_entries.proofs.Takes.{takes_entries}
use Rattle.wellformed_replicas.specs.Shapes.{is_shape, are_first_of, is_known}
use Rattle.wellformed_replicas.proofs.Shapes.{shaped, in_parts}

-- ---- known entries

first_proper : (f : ℕ → Bool) (l m : List ℕ) → are_first_of l m ≡ true → all_of f m ≡ true → all_of f l ≡ true
unfolding are_first_of
first_proper f l m e d =
    let t = (both (leb (length l) (length m)) (all_below (length l) (λ i. eqb (get_or l i 0) (get_or m i 0)))).0 e in
    let n = leb-true (length l) (length m) t.0 in
    at_all f l (λ i h. subst (λ (x : ℕ). f x ≡ true)
    (sym (eqb-true (get_or l i 0) (get_or m i 0) (all_below_lem (length l) (λ i. eqb (get_or l i 0) (get_or m i 0)) t.1 i h)))
    (all_at f m i d (omega (arith, n, h))))

pub known_proper : (Z : ℕ) (l m : List ℕ) → true ≡ is_known l m → all_of (is_entry Z) m ≡ true → all_of (is_entry Z) l ≡ true
unfolding is_known
known_proper Z l m e d = go (eqb (length m) 0) (sym e)
  where
    go : (b : Bool) → cond b (all_of is_take l) (are_first_of l m) ≡ true → all_of (is_entry Z) l ≡ true
    go true t = takes_entries Z l t
    go false t = first_proper (is_entry Z) l m t d

-- ---- a replica in a state

-- its words, and its entries among them
abbrev pub words_at : List ℕ → ℕ → List ℕ
words_at w from = take (from + 64 - from) (drop from w)

abbrev pub entries_of : List ℕ → List ℕ
entries_of p = take (8 + get_or p 1 0 - 8) (drop 8 p)

module _ (w : List ℕ) (Z j from : ℕ) (fits : from + 64 ≤ length w) where
  same_words : words_at w from ≡ part w from
  unfolding part
  same_words = let n : from + 64 - from ≡ 64 = omega arith in ap (λ (m : ℕ). take m (drop from w)) n

  long : length (words_at w from) ≡ 64
  unfolding part
  long = ap length same_words ∙ part_length 64 from w fits

  two_parts : is_part Z j true (part w from)
      ≡ (is_shape j (words_at w from) && all_of (is_entry Z) (take (get_or (words_at w from) 1 0) (drop 8 (words_at w from))))
  two_parts = ap (is_part Z j true) (sym same_words) ∙ in_parts Z j (words_at w from) long

  pub misshapen : false ≡ is_shape j (words_at w from) → false ≡ is_part Z j true (part w from)
  misshapen e = rw (two_parts, ← e)

  module _ (e : true ≡ is_shape j (words_at w from)) where
    -- so many entries at most
    pub few_entries : get_or (words_at w from) 1 0 ≤ 56
    few_entries = (shaped j (words_at w from) (sym e)).few

    -- the entries decide
    pub by_entries : {b : Bool} → b ≡ all_of (is_entry Z) (entries_of (words_at w from)) → b ≡ is_part Z j true (part w from)
    by_entries {b} d =
        let n : 8 + get_or (words_at w from) 1 0 - 8 ≡ get_or (words_at w from) 1 0 = omega arith in
        d ∙ ap (λ (m : ℕ). all_of (is_entry Z) (take m (drop 8 (words_at w from)))) n ∙ sym (two_parts ∙ rw (← e))
