-- A run of stores in two parts. Assumes nothing.
use Prim.Native.Nat.{ℕ, suc, ◌+◌, ◌≤◌}
use native.Mathlib.Omega.{arith}
use mathlib.Core.Path.{◌≡◌, refl, ◌∙◌}
use mathlib.Core.List.{List, [], ◌∷◌, ◌++◌, append-nil}
use lib.ListN.{length, set, length-append}
use lib.Seq.{sets, length-sets}

pub sets-append : (xs ys out : List ℕ) (at : ℕ) → sets out at (xs ++ ys) ≡ sets (sets out at xs) (at + length xs) ys
sets-append [] ys out at = let here : at + 0 ≡ at = omega arith in rw here
sets-append (x ∷ xs) ys out at =
    let next : at + suc (length xs) ≡ suc at + length xs = omega arith in
    rw (next, sets-append xs ys (set out at x) (suc at))
