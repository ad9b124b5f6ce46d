-- Well-formedness of word 3 of a replica (request A3: "0 for pending, unused and index 1 seats, and 1 to 16 naming a member of index − 1 whose seat is not
-- pending for all others"), on the state `late` with a few words changed.
use Rattle.std.specs.Prelude.{ℕ, ◌≡◌, true, false, List, [], ◌∷◌}
use Rattle.model.specs.WellFormed.{well_formed}
use Rattle.cases.specs.CaseRows.{changed}
use Rattle.cases.specs.States.{late}

-- `late` with these words from a place on is not well-formed
abbrev pub IllFormedWith : ℕ → List ℕ → Type 0
IllFormedWith at ns = well_formed (changed late ((at, ns) ∷ [])) ≡ false

pub record Form : Type 0 where
  -- sources may be active
  pub active_source : well_formed late ≡ true
  -- host 0 in index 7: no source; no host; host 5, which is no member of index 6
  pub no_source : IllFormedWith 1603 (0 ∷ [])
  pub seventeen : IllFormedWith 1603 (17 ∷ [])
  pub no_member : IllFormedWith 1603 (6 ∷ [])
  -- its source, host 1 in index 6, is pending
  pub pending_source : IllFormedWith 1344 (1 ∷ 0 ∷ 0 ∷ 0 ∷ [])
  -- host 0 in index 1; host 0 in index 7, pending; a replica of index 6 that no host has
  pub in_first_index : IllFormedWith 67 (2 ∷ [])
  pub in_pending : IllFormedWith 1600 (1 ∷ [])
  pub in_unused : IllFormedWith 1411 (2 ∷ [])
