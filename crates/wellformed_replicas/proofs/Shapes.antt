-- A member's replica tested in two parts: all but its entries, and the entries.
use Prim.Native.Nat.{ℕ, ◌+◌, ◌-◌}
use native.Mathlib.Omega.{arith}
use mathlib.Core.Path.{◌≡◌, ap, ◌∙◌}
use mathlib.Core.Bool.{Bool, true, not, ◌&&◌, ◌||◌}
use mathlib.Core.List.{List, [], ◌∷◌}
use lib.Dec.{leb, eqb}
use lib.ListN.{length, get_or, take, drop, length-drop}
use lib.Seq.{drop-drop}
use borrow.Author.Tests.{leb-true, le-leb}
use Rattle.model.specs.Tests.{all_of}
use Rattle.model.specs.Entries.{is_entry}
use Rattle.model.specs.WellFormed.{is_part}
use Rattle.model.proofs.Tests.{both, ◌also◌, all_pass, pass_all}
use Rattle.model.proofs.Ranges.{same_test}
use Rattle.wellformed_entries.specs.Zeros.{zeros}
use Rattle.wellformed_replicas.specs.Shapes.{is_shape}
use Rattle.wellformed_entries.proofs.Zeros.{to_end, zeros_parted}
use Rattle.wellformed_replicas.proofs.ReplicaWords.{Shaped, used, is_used, waits_test, test_waits}

-- ---- all but the entries

module _ (j : ℕ) (p : List ℕ) where
  tests : List Bool
  tests =
      leb (get_or p 0 0) 3 ∷ leb (get_or p 1 0) 56 ∷ leb (get_or p 2 0) (get_or p 1 0)
      ∷ (not (eqb (get_or p 0 0) 1) || (eqb (get_or p 1 0) 0 && leb 1 j))
      ∷ zeros (take 4 (drop 4 p))
      ∷ zeros (drop (8 + get_or p 1 0) p) ∷ []

  pub shaped : is_shape j p ≡ true → Shaped j p
  unfolding is_shape tests
  shaped e =
      let t = all_pass (leb 1 (get_or p 0 0)) tests e in
      record {
        mode_least = leb-true 1 (get_or p 0 0) t.0;
        mode_most = leb-true (get_or p 0 0) 3 t.1.0;
        few = leb-true (get_or p 1 0) 56 t.1.1.0;
        stable_most = leb-true (get_or p 2 0) (get_or p 1 0) t.1.1.1.0;
        waits = test_waits (get_or p 0 0) (get_or p 1 0) j t.1.1.1.1.0;
        reserved = t.1.1.1.1.1.0;
        rest = t.1.1.1.1.1.1.0;
      }

  pub is_shaped : Shaped j p → is_shape j p ≡ true
  unfolding is_shape tests
  is_shaped s =
      pass_all (leb 1 (get_or p 0 0)) tests
      (le-leb 1 (get_or p 0 0) s.mode_least
      also le-leb (get_or p 0 0) 3 s.mode_most
      also le-leb (get_or p 1 0) 56 s.few
      also le-leb (get_or p 2 0) (get_or p 1 0) s.stable_most
      also waits_test (get_or p 0 0) (get_or p 1 0) j s.waits
      also s.reserved
      also s.rest
      also tt)

-- without entries nothing but 0 follows the fourth word
pub no_entries : (p : List ℕ) (n : ℕ) → length p ≡ 64 → n ≡ 0 → zeros (take (length p - 4) (drop 4 p)) ≡ (zeros (take 4 (drop 4 p)) && zeros (drop (8 + n) p))
no_entries p n l e =
    let eight : 4 + 4 ≡ 8 + n = omega (arith, e) in
    ap zeros (to_end 4 p) ∙ zeros_parted 4 (drop 4 p) (omega (arith, length-drop 4 p, l))
    ∙ ap (λ (m : List ℕ). zeros (take 4 (drop 4 p)) && zeros m) (drop-drop 4 4 p ∙ ap (λ (n : ℕ). drop n p) eight)

-- ---- both parts

module _ (Z j : ℕ) (p : List ℕ) (l : length p ≡ 64) where
  abbrev entries : Bool
  entries = all_of (is_entry Z) (take (get_or p 1 0) (drop 8 p))

  pub in_parts : is_part Z j true p ≡ (is_shape j p && entries)
  in_parts =
      same_test (is_part Z j true p) (is_shape j p && entries)
      (λ e. let u = used Z j p l e in (both (is_shape j p) entries).1 (is_shaped j p u.shape, u.entries))
      (λ e.
      let t = (both (is_shape j p) entries).0 e in
      is_used Z j p l (record { shape = shaped j p t.0; entries = t.1 }))
