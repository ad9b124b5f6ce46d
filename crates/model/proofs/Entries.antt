-- A proper entry that is an issue has a proper index, shard, member set and orderer.
use Prim.Native.Nat.{ℕ, ◌/◌, ◌^◌, ◌≤◌, ◌<◌}
use native.Mathlib.Omega.{arith}
use mathlib.Core.Path.{◌≡◌, refl}
use mathlib.Core.Bool.{Bool, true, false, ◌||◌}
use mathlib.Core.List.{[], ◌∷◌}
use lib.Dec.{leb, ltb}
use borrow.Author.Tests.{leb-true, ltb-true, eqb-true}
use Rattle.types.specs.Members.{is_configuration}
use Rattle.model.specs.Entries.{is_take, is_issue, issue_index, issue_shard, issue_orderer, issue_members, is_proper_issue, is_entry}
use Rattle.model.proofs.Tests.{both, all_pass}

pub record ProperIssue (Z e : ℕ) : Type 0 where
  pub index_least : 2 ≤ issue_index e
  pub index_most : issue_index e ≤ 8
  pub shard : issue_shard e < Z
  pub configuration : is_configuration (issue_members e) (issue_orderer e) ≡ true

-- a take is no issue
take_no_issue : (e : ℕ) → is_take e ≡ true → is_issue e ≡ true → ⊥
unfolding is_take is_issue
take_no_issue e t i =
    let p = (both (leb 1 e) (leb e 4294967295)).0 t in
    omega (arith, leb-true e 4294967295 p.1, eqb-true (e / 2 ^ 32) 1 i)

-- the other of two ways, the first being shut
other : (a b : Bool) → (a || b) ≡ true → (a ≡ true → ⊥) → b ≡ true
other true b e n = absurd (n refl)
other false b e n = e

pub proper_issue : (Z e : ℕ) → is_entry Z e ≡ true → is_issue e ≡ true → ProperIssue Z e
unfolding is_entry is_proper_issue
proper_issue Z e h i =
    let q = other (is_take e) (is_proper_issue Z e) h (λ t. take_no_issue e t i) in
    let p = all_pass (is_issue e)
    (leb 2 (issue_index e) ∷ leb (issue_index e) 8 ∷ ltb (issue_shard e) Z ∷ is_configuration (issue_members e) (issue_orderer e) ∷ [])
    q in
    record {
      index_least = leb-true 2 (issue_index e) p.1.0;
      index_most = leb-true (issue_index e) 8 p.1.1.0;
      shard = ltb-true (issue_shard e) Z p.1.1.1.0;
      configuration = p.1.1.1.1.0;
    }
