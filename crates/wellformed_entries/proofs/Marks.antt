-- The mark of an issue and its index, as one number.
-- Assumes nothing.
use Rattle.std.proofs.Common.{◌≡◌, ℕ, ◌/◌, ◌^◌, ◌&&◌, Bool, leb, ltb, ap, sym, arith, shr-shr, eq-eqb, eqb-true, le-leb, leb-true}
use Rattle.types.specs.Members.{is_configuration}
use Rattle.model.specs.Entries.{is_issue, issue_index, issue_shard, issue_orderer, issue_members, is_proper_issue}
use Rattle.model.proofs.Tests.{both}
use Rattle.model.proofs.Ranges.{same_test}

-- an issue with a proper index
marked_between : (e : ℕ) → (is_issue e && leb 2 (issue_index e) && leb (issue_index e) 8) ≡ (leb 258 (e / 2 ^ 24) && leb (e / 2 ^ 24) 264)
unfolding is_issue issue_index
marked_between e =
    same_test (is_issue e && leb 2 (issue_index e) && leb (issue_index e) 8) (leb 258 (e / 2 ^ 24) && leb (e / 2 ^ 24) 264)
    (λ t.
    let q = (both (is_issue e && leb 2 (issue_index e)) (leb (issue_index e) 8)).0 t in
    let r = (both (is_issue e) (leb 2 (issue_index e))).0 q.0 in
    let one = eqb-true (e / 2 ^ 32) 1 r.0 in
    let low = leb-true 2 (issue_index e) r.1 in
    let high = leb-true (issue_index e) 8 q.1 in
    (both (leb 258 (e / 2 ^ 24)) (leb (e / 2 ^ 24) 264)).1 (
      le-leb 258 (e / 2 ^ 24) (omega (arith, above, one, low, high)),
      le-leb (e / 2 ^ 24) 264 (omega (arith, above, one, low, high)),
    ))
    (λ t.
    let k = (both (leb 258 (e / 2 ^ 24)) (leb (e / 2 ^ 24) 264)).0 t in
    let l = leb-true 258 (e / 2 ^ 24) k.0 in
    let h = leb-true (e / 2 ^ 24) 264 k.1 in
    (both (is_issue e && leb 2 (issue_index e)) (leb (issue_index e) 8)).1 (
      (both (is_issue e) (leb 2 (issue_index e))).1 (eq-eqb (e / 2 ^ 32) 1 (omega (arith, above, l, h)), le-leb 2 (issue_index e) (omega (arith, l, h))),
      le-leb (issue_index e) 8 (omega (arith, l, h)),
    ))
  where
    above : e / 2 ^ 32 ≡ e / 2 ^ 24 / 256
    above = sym (shr-shr e 24 8)

pub proper_by_mark :
    (Z e : ℕ) → is_proper_issue Z e
    ≡ (leb 258 (e / 2 ^ 24) && leb (e / 2 ^ 24) 264 && ltb (issue_shard e) Z && is_configuration (issue_members e) (issue_orderer e))
unfolding is_proper_issue
proper_by_mark Z e = ap (λ (b : Bool). b && ltb (issue_shard e) Z && is_configuration (issue_members e) (issue_orderer e)) (marked_between e)
