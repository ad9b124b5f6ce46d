-- Install keeps a state well-formed: the next configuration gets proper head words and pending replicas.
use Prim.Native.Nat.{ℕ, suc, ◌+◌, ◌-◌, ◌≤◌, ◌<◌}
use native.Mathlib.Omega.{arith}
use native.Mathlib.Decide.{ℕ_discrete, dec_lt}
use mathlib.Core.Path.{◌≡◌, sym, ap, ◌∙◌, subst, subst₂}
use mathlib.Core.Bool.{Bool, true, false, not}
use mathlib.Core.List.{List}
use lib.Dec.{ltb, eqb}
use borrow.Author.Tests.{ltb-true, lt-ltb, le-ltb, eqb-true}
use Rattle.types.specs.Members.{size, has_member, replica_number, is_configuration}
use Rattle.model.specs.Entries.{is_issue, is_issue_for, issue_index, issue_shard, issue_orderer, issue_members}
use Rattle.model.specs.Replicas.{read_replica, is_pending, is_immutable, pending}
use Rattle.model.specs.Layout.{shards_of, place, sequencer, installed, is_installed, members, orderer, part, replica_at}
use Rattle.model.specs.Inherit.{source}
use Rattle.model.specs.Origins.{is_origin_of}
use Rattle.model.specs.WellFormed.{is_part, is_sequencer, is_head_of}
use Rattle.model.specs.Install.{issuer, issued_at, is_stable_issue, is_wedged, is_newest_wedged, install_checks, install_next, install_effect}
use Rattle.model.proofs.Tests.{both, and_left, and_right, Below, any_below_lem}
use Rattle.model.proofs.Checks.{AllPass}
use Rattle.model.proofs.Entries.{ProperIssue, proper_issue}
use Rattle.model.proofs.InstallNext.{next_length, next_other, next_installed, next_members, next_orderer, next_pending, next_parts}
use Rattle.model.proofs.Members.{number_below}
use Rattle.model.proofs.Parts.{read_words}
use Rattle.model.proofs.Origins.{source-place, origin_stays, pending_origin}
use Rattle.model.proofs.WellFormedParts.{Proper, is_proper, all_at, replica_part}
use Rattle.model.proofs.WellFormed.{Head, WellFormed, size_of}
use Rattle.model.proofs.WellFormedMembers.{configured, head_open, size_none, size_few, member_proper}
use Rattle.model.proofs.WellFormedPut.{head_same_words}
use Rattle.model.proofs.ProperReplicas.{pending_proper}

-- one more is installed: nothing changes for another configuration
ltb_next : (j n : ℕ) → (n ≡ j → ⊥) → ltb j (n + 1) ≡ ltb j n
ltb_next j n ne = go (dec_lt j n)
  where
    go : Dec (j < n) → ltb j (n + 1) ≡ ltb j n
    go (yes h) = lt-ltb j (n + 1) (omega arith) ∙ sym (lt-ltb j n h)
    go (no h) = le-ltb j (n + 1) (omega arith) ∙ sym (le-ltb j n (omega arith))

module _ {Z : ℕ} {w : List ℕ} (f : WellFormed Z w) {z : ℕ} (hz : z < Z) (hn : installed w z < 8) (m o : ℕ) (c : is_configuration m o ≡ true) where
  u : List ℕ
  u = install_next w z m o

  few : size m ≤ 4
  few = (configured m o c).size_most

  u_members : (z' j : ℕ) → j < 8 → (z ≡ z' → installed w z ≡ j → ⊥) → members u z' j ≡ members w z' j
  unfolding u members
  u_members z' j h ne = next_other w (size_of f) hz hn m o few z' (2 + j) (omega arith) (λ e. let d = ne e in omega arith)

  u_orderer : (z' j : ℕ) → j < 8 → (z ≡ z' → installed w z ≡ j → ⊥) → orderer u z' j ≡ orderer w z' j
  unfolding u orderer
  u_orderer z' j h ne = next_other w (size_of f) hz hn m o few z' (10 + j) (omega arith) (λ e. let d = ne e in omega arith)

  u_sequencer : (z' : ℕ) → sequencer u z' ≡ sequencer w z'
  unfolding u sequencer
  u_sequencer z' = next_other w (size_of f) hz hn m o few z' 0 (omega arith) (λ e. omega arith)

  u_installed : installed u z ≡ installed w z + 1
  unfolding u installed
  u_installed = next_installed w (size_of f) hz hn m o few

  new_members : members u z (installed w z) ≡ m
  unfolding u members
  new_members = next_members w (size_of f) hz hn m o few

  new_orderer : orderer u z (installed w z) ≡ o
  unfolding u orderer
  new_orderer = next_orderer w (size_of f) hz hn m o few

  -- ---- head words

  new_head : is_head_of u z (installed w z) ≡ true
  unfolding is_head_of is_installed
  new_head = rw (u_installed, lt-ltb (installed w z) (installed w z + 1) (omega arith), new_members, new_orderer) c

  old_head : (j : ℕ) → j < 8 → (installed w z ≡ j → ⊥) → is_head_of u z j ≡ is_head_of w z j
  unfolding is_head_of is_installed
  old_head j h ne = rw (u_installed, ltb_next j (installed w z) ne, u_members z j h (λ e. ne), u_orderer z j h (λ e. ne))

  u_configured : (j : ℕ) → j < 8 → is_head_of u z j ≡ true
  u_configured j h = go (ℕ_discrete (installed w z) j)
    where
      go : Dec (installed w z ≡ j) → is_head_of u z j ≡ true
      go (yes e) = subst (λ (i : ℕ). is_head_of u z i ≡ true) e new_head
      go (no ne) = old_head j h ne ∙ (f.head z hz).configured j h

  u_head : Head Z u z
  unfolding u
  u_head =
      record {
        sequenced = subst (λ (q : ℕ). is_sequencer Z z q ≡ true) (sym (u_sequencer z)) (f.head z hz).sequenced;
        least = omega (arith, u_installed);
        most = omega (arith, u_installed);
        configured = u_configured;
        rest = λ i h. next_other w (size_of f) hz hn m o few z (18 + i) (omega arith) (λ e. omega arith) ∙ (f.head z hz).rest i h;
      }

  u_heads : (z' : ℕ) → z' < Z → Head Z u z'
  unfolding u
  u_heads z' h = go (ℕ_discrete z z')
    where
      go : Dec (z ≡ z') → Head Z u z'
      go (yes e) = subst (λ (y : ℕ). Head Z u y) e u_head
      go (no ne) =
          head_same_words u w z' (λ i hi. next_other w (size_of f) hz hn m o few z' i hi (λ e. absurd (ne e))) (f.head z' h)

  -- ---- parts

  Good : ℕ → ℕ → ℕ → Type 0
  Good z' j k = is_part Z j (ltb k (size (members u z' j))) (part u (place z' j k)) ≡ true

  -- the new configuration had no members
  none_there : members w z (installed w z) ≡ 0
  unfolding is_installed
  none_there =
      head_open w z (installed w z) ((f.head z hz).configured (installed w z) hn) (le-ltb (installed w z) (installed w z) (omega arith))

  -- .. so its replicas were vacant
  pub old_vacant : (k : ℕ) → k < 4 → is_part Z (installed w z) false (part w (place z (installed w z) k)) ≡ true
  old_vacant k h =
      subst (λ (b : Bool). is_part Z (installed w z) b (part w (place z (installed w z) k)) ≡ true)
      (le-ltb k (size (members w z (installed w z))) (omega (arith, size_none (members w z (installed w z)) none_there)))
      (f.parts z (installed w z) k hz hn h)

  new_parts : (k : ℕ) → k < 4 → Good z (installed w z) k
  unfolding Good u
  new_parts k h = go (dec_lt k (size m))
    where
      go : Dec (k < size m) → Good z (installed w z) k
      go (yes a) =
          rw (next_pending w (size_of f) hz hn m o few k a, new_members, lt-ltb k (size m) a)
          (replica_part Z (installed w z) pending (is_proper Z (installed w z) pending (pending_proper Z (installed w z) (f.head z hz).least)))
      go (no a) =
          rw (next_parts w (size_of f) hz hn m o few z (installed w z) k hn h (λ x y q. a q), new_members, le-ltb k (size m) (omega arith))
          (old_vacant k h)

  old_parts : (z' j k : ℕ) → z' < Z → j < 8 → k < 4 → (z ≡ z' → installed w z ≡ j → ⊥) → Good z' j k
  unfolding Good u
  old_parts z' j k hz' hj hk ne =
      rw (next_parts w (size_of f) hz hn m o few z' j k hj hk (λ a b q. ne a b), u_members z' j hj ne) (f.parts z' j k hz' hj hk)

  u_parts : (z' j k : ℕ) → z' < Z → j < 8 → k < 4 → Good z' j k
  u_parts z' j k hz' hj hk = go (ℕ_discrete z z') (ℕ_discrete (installed w z) j)
    where
      go : Dec (z ≡ z') → Dec (installed w z ≡ j) → Good z' j k
      go (yes a) (yes b) = subst₂ (λ (x y : ℕ). Good x y k) a b (new_parts k hk)
      go (yes a) (no b) = old_parts z' j k hz' hj hk (λ x y. b y)
      go (no a) d = old_parts z' j k hz' hj hk (λ x y. a x)

  -- ---- origins

  Sourced : ℕ → ℕ → ℕ → Type 0
  Sourced z' j k = is_origin_of u z' j (replica_at u (place z' j k)) ≡ true

  -- a pending replica has none
  new_sourced : (k : ℕ) → k < size m → Sourced z (installed w z) k
  unfolding Sourced u replica_at
  new_sourced k h =
      rw (next_pending w (size_of f) hz hn m o few k h, read_words pending (pending_proper Z 1 (omega arith)).few)
      (pending_origin u z (installed w z))

  -- a source is of an installed configuration, which stays as it was
  source_kept : (z' j : ℕ) → z' < Z → j < 8 → (g : ℕ) → 1 ≤ j → has_member (members w z' (j - 1)) g ≡ true → is_pending (source w z' j g) ≡ false
      → (has_member (members u z' (j - 1)) g ≡ true) × (is_pending (source u z' j g) ≡ false)
  unfolding u replica_at
  source_kept z' j hz' hj g h e q = go (ℕ_discrete z z') (ℕ_discrete (installed w z) (j - 1))
    where
      hj' : j - 1 < 8
      hj' = omega arith

      k : ℕ
      k = replica_number (members w z' (j - 1)) g

      number : k < size (members w z' (j - 1))
      number = number_below (members w z' (j - 1)) g e

      keep : (z ≡ z' → installed w z ≡ j - 1 → ⊥) → (has_member (members u z' (j - 1)) g ≡ true) × (is_pending (source u z' j g) ≡ false)
      keep ne =
          let s = u_members z' (j - 1) hj' ne in
          let small : k < 4 = omega (arith, number, size_few f hz' hj') in
          let p = next_parts w (size_of f) hz hn m o few z' (j - 1) k hj' small (λ a b c. ne a b) in
          (rw s e, rw (source-place u z' j g, s, p) (rw (source-place w z' j g) at q))

      go : Dec (z ≡ z') → Dec (installed w z ≡ j - 1) → (has_member (members u z' (j - 1)) g ≡ true) × (is_pending (source u z' j g) ≡ false)
      go (yes a) (yes b) = absurd (omega (arith, number, size_none _ (subst₂ (λ (x y : ℕ). members w x y ≡ 0) a b none_there)))
      go (yes a) (no b) = keep (λ x y. b y)
      go (no a) d = keep (λ x y. a x)

  old_sourced : (z' j k : ℕ) → z' < Z → j < 8 → k < size (members w z' j) → (z ≡ z' → installed w z ≡ j → ⊥) → Sourced z' j k
  unfolding Sourced u replica_at
  old_sourced z' j k hz' hj hk ne =
      rw (next_parts w (size_of f) hz hn m o few z' j k hj (omega (arith, size_few f hz' hj)) (λ a b q. ne a b))
      (origin_stays w u z' j (read_replica (part w (place z' j k))) (source_kept z' j hz' hj) (f.origins z' j k hz' hj hk))

  u_sourced : (z' j k : ℕ) → z' < Z → j < 8 → k < size (members u z' j) → Sourced z' j k
  u_sourced z' j k hz' hj hk = go (ℕ_discrete z z') (ℕ_discrete (installed w z) j)
    where
      old : (z ≡ z' → installed w z ≡ j → ⊥) → Sourced z' j k
      old ne = old_sourced z' j k hz' hj (rw (u_members z' j hj ne) at hk) ne

      go : Dec (z ≡ z') → Dec (installed w z ≡ j) → Sourced z' j k
      go (yes a) (yes b) =
          subst₂ (λ (x y : ℕ). Sourced x y k) a b
          (new_sourced k (rw new_members at (subst₂ (λ (x y : ℕ). k < size (members u x y)) (sym a) (sym b) hk)))
      go (yes a) (no b) = old (λ x y. b y)
      go (no a) d = old (λ x y. a x)

  pub next_keeps : WellFormed Z (install_next w z m o)
  unfolding Good Sourced u
  next_keeps =
      record {
        shards = ap shards_of (next_length w (size_of f) hz hn m o few ∙ sym (size_of f)) ∙ f.shards;
        several = f.several;
        head = u_heads;
        differ = λ a b ha hb e. f.differ a b ha hb (sym (u_sequencer b) ∙ e ∙ u_sequencer a);
        parts = u_parts;
        origins = u_sourced;
      }

-- ---- the entry that an install reads

-- a sequencer is a shard
pub sequencer_below : (Z z q : ℕ) → is_sequencer Z z q ≡ true → q < Z
unfolding is_sequencer
sequencer_below Z z q e = ltb-true q Z ((both (ltb q Z) (not (eqb q z))).0 e).0

-- the test of 20: the entry is stable at its place, and an issue for this shard
pub stable_tells : (w : List ℕ) (z j h p : ℕ) → is_stable_issue w z j h p ≡ true
    → (p < (issuer w z j h).stable) × (is_issue (issued_at w z j h p) ≡ true) × (issue_shard (issued_at w z j h p) ≡ z)
unfolding is_stable_issue is_issue_for
stable_tells w z j h p t =
    let tests : (ltb p (issuer w z j h).stable ≡ true) × (is_issue (issued_at w z j h p) ≡ true) × (eqb (issue_shard (issued_at w z j h p)) z ≡ true) =
    search (and_left, and_right) in
    (ltb-true p (issuer w z j h).stable tests.0, tests.1, eqb-true (issue_shard (issued_at w z j h p)) z tests.2)

-- the test of 24: a replica of configuration a, which is the newest, is immutable
pub wedged_tells : (w : List ℕ) (z a : ℕ) → suc a ≡ installed w z → is_newest_wedged w z ≡ true
    → Below (size (members w z a)) (λ k. is_immutable (replica_at w (place z a k)))
unfolding is_newest_wedged is_wedged
wedged_tells w z a e t =
    let newest : installed w z - 1 ≡ a = omega (arith, e) in
    any_below_lem (size (members w z a)) (λ k. is_immutable (replica_at w (place z a k))) (rw newest at t)

module _ {Z : ℕ} {w : List ℕ} (f : WellFormed Z w) {z j : ℕ} (hz : z < Z) (hj : j < 8) (h p : ℕ) (c : AllPass (install_checks w z j h p)) where
  pub issuer_proper : Proper Z j (issuer w z j h)
  unfolding install_checks issuer
  issuer_proper = member_proper f (sequencer_below Z z (sequencer w z) (f.head z hz).sequenced) hj h (search)

  pub stable_issue : (p < (issuer w z j h).stable) × (is_issue (issued_at w z j h p) ≡ true) × (issue_shard (issued_at w z j h p) ≡ z)
  unfolding install_checks
  stable_issue = stable_tells w z j h p (search)

  pub issue_proper : ProperIssue Z (issued_at w z j h p)
  unfolding issued_at
  issue_proper =
      let s : p < (issuer w z j h).stable = stable_issue.0 in
      proper_issue Z (issued_at w z j h p)
      (all_at _ (issuer w z j h).history p issuer_proper.entries (omega (arith, issuer_proper.stable_most)))
      stable_issue.1

  pub next_index : issue_index (issued_at w z j h p) ≡ installed w z + 1
  unfolding install_checks
  next_index = eqb-true (issue_index (issued_at w z j h p)) (installed w z + 1) (search)

  pub install_keeps : WellFormed Z (install_effect w z j h p)
  unfolding install_effect
  install_keeps =
      next_keeps f hz (omega (arith, next_index, issue_proper.index_most)) (issue_members (issued_at w z j h p))
      (issue_orderer (issued_at w z j h p))
      issue_proper.configuration
