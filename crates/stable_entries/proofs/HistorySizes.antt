-- The stable history of a shard of a well-formed state has at most 56 entries, each proper, so below 2 ^ 33. Assumes nothing.
use Prim.Native.Nat.{ℕ, ◌/◌, ◌^◌, ◌≤◌, ◌<◌}
use native.Mathlib.Omega.{arith}
use mathlib.Core.Path.{◌≡◌, refl}
use mathlib.Core.Bool.{Bool, true, false, ◌||◌}
use mathlib.Core.List.{List, [], ◌∷◌}
use lib.Dec.{leb, ltb}
use lib.ListN.{length, get_or, length-take}
use borrow.Author.Tests.{leb-true, eqb-true}
use Rattle.model.specs.Tests.{all_of}
use Rattle.types.specs.Members.{size, is_configuration}
use Rattle.model.specs.Entries.{is_take, is_issue, issue_index, issue_shard, issue_orderer, issue_members, is_proper_issue, is_entry}
use Rattle.model.specs.Replicas.{Replica, read_replica, stable_prefix, unused}
use Rattle.model.specs.Layout.{place, members, part, replica_at}
use Rattle.model.specs.WellFormed.{is_part}
use Rattle.model.specs.StableHistory.{stable_history}
use Rattle.model.proofs.Tests.{both, all_pass}
use Rattle.model.proofs.AllOf.{all_take}
use Rattle.model.proofs.WellFormedParts.{all_at, part_proper, part_vacant}
use Rattle.model.proofs.WellFormed.{WellFormed}
use Rattle.model.proofs.StateViews.{view, InView, inside, outside, in_view, Picked, nothing, prefix_of, stable_picked}

-- ---- an entry

take_below : (e : ℕ) → is_take e ≡ true → e < 2 ^ 33
unfolding is_take
take_below e h = omega (arith, leb-true e 4294967295 ((both (leb 1 e) (leb e 4294967295)).0 h).1)

issue_below : (Z e : ℕ) → is_proper_issue Z e ≡ true → e < 2 ^ 33
unfolding is_proper_issue is_issue
issue_below Z e h =
    let p = all_pass (is_issue e)
    (leb 2 (issue_index e) ∷ leb (issue_index e) 8 ∷ ltb (issue_shard e) Z ∷ is_configuration (issue_members e) (issue_orderer e) ∷ [])
    h in
    omega (arith, eqb-true (e / 2 ^ 32) 1 p.0)

pub entry_below : (Z e : ℕ) → is_entry Z e ≡ true → e < 2 ^ 33
unfolding is_entry
entry_below Z e h = go (is_take e) refl h
  where
    go : (t : Bool) → is_take e ≡ t → (t || is_proper_issue Z e) ≡ true → e < 2 ^ 33
    go true f g = take_below e f
    go false f g = issue_below Z e g

-- ---- a history

-- at most 56 entries, each proper for Z shards
pub record FewEntries (Z : ℕ) (l : List ℕ) : Type 0 where
  pub few : length l ≤ 56
  pub entries : all_of (is_entry Z) l ≡ true

none_few : (Z : ℕ) (l : List ℕ) → length l ≡ 0 → FewEntries Z l
unfolding all_of
none_few Z [] e = record { few = omega arith; entries = refl }
none_few Z (x ∷ l) e = absurd (omega arith)

prefix_few : {Z : ℕ} (r : Replica) → FewEntries Z r.history → FewEntries Z (stable_prefix r)
unfolding stable_prefix
prefix_few {Z} r f =
    record {
      few = omega (arith, f.few, length-take r.stable r.history);
      entries = all_take (is_entry Z) r.stable r.history f.entries;
    }

part_few : (Z j : ℕ) (b : Bool) (p : List ℕ) → is_part Z j b p ≡ true → FewEntries Z (read_replica p).history
part_few Z j true p e = let g = part_proper Z j p e in record { few = g.few; entries = g.entries }
part_few Z j false p e = none_few Z (read_replica p).history (part_vacant Z j p e).history_none

module _ {Z : ℕ} {w : List ℕ} (f : WellFormed Z w) (z : ℕ) (hz : z < Z) where
  prefixes_few : (j k : ℕ) → FewEntries Z (stable_prefix (view w z j k))
  unfolding replica_at unused
  prefixes_few j k = go (in_view w z j k)
    where
      go : InView w z j k → FewEntries Z (stable_prefix (view w z j k))
      go (inside hj hk e) =
          rw e
          (prefix_few (replica_at w (place z j k))
          (part_few Z j (ltb k (size (members w z j))) (part w (place z j k)) (f.parts z j k hz hj hk)))
      go (outside n e) = rw (e w) (prefix_few unused (none_few Z [] refl))

  pub stable_few : FewEntries Z (stable_history w z)
  stable_few = go (stable_picked w z)
    where
      go : {l : List ℕ} → Picked w z l → FewEntries Z l
      go (nothing e) = rw e (none_few Z [] refl)
      go (prefix_of j k e) = rw e (prefixes_few j k)

  pub stable_below : (i : ℕ) → i < length (stable_history w z) → get_or (stable_history w z) i 0 < 2 ^ 33
  stable_below i h = entry_below Z _ (all_at (is_entry Z) (stable_history w z) i stable_few.entries h)
