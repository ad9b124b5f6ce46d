-- Install on a safe state: the next configuration of the shard becomes pending.
-- Assumes nothing.
use Prim.Native.Nat.{ℕ, suc, ◌+◌, ◌*◌, ◌≤◌, ◌<◌}
use native.Mathlib.Nat.{le_of_eq, lt_of_lt_of_le}
use native.Mathlib.Omega.{arith}
use native.Mathlib.Decide.{ℕ_discrete, dec_lt}
use mathlib.Core.Path.{◌≡◌, sym, ap, subst, ◌∙◌}
use mathlib.Core.Bool.{true}
use mathlib.Core.List.{List}
use lib.Dec.{lit≤, lit<}
use lib.ListN.{length}
use Rattle.types.specs.Members.{size, is_configuration}
use Rattle.model.specs.Entries.{issue_orderer, issue_members}
use Rattle.model.specs.Replicas.{Replica, read_replica, stable_prefix, pending, unused}
use Rattle.model.specs.Layout.{head_word, sequencer, installed, members, orderer, replica_at}
use Rattle.model.specs.Install.{issued_at, install_checks, install_next, install_effect}
use Rattle.model.specs.Prefixes.{Begins}
use Rattle.model.specs.OneList.{shards}
use Rattle.model.proofs.Checks.{AllPass}
use Rattle.model.proofs.Parts.{read_words}
use Rattle.model.proofs.Prefixes.{begins_refl}
use Rattle.model.proofs.Histories.{wider_refl}
use Rattle.model.proofs.Views.{Inv}
use Rattle.model.proofs.InstallMove.{SeenNew, as_it_was, now_pending, still_unused, install_keeps, install_grows, immutable_stays}
use Rattle.model.proofs.StateViews.{view, view_in, InView, inside, outside, in_view}
use Rattle.model.proofs.Forward.{Forward}
use Rattle.model.proofs.WellFormed.{size_of}
use Rattle.model.proofs.WellFormedParts.{vacant_unused, part_vacant}
use Rattle.model.proofs.WellFormedMembers.{configured, size_few}
use Rattle.model.proofs.InstallNext.{next_length, next_other, next_installed, next_pending, next_parts}
use Rattle.model.proofs.WellFormedInstall.{old_vacant, issue_proper, wedged_tells, next_index}
use Rattle.model.proofs.ProperReplicas.{immutable_mode}
use Rattle.model.proofs.Safe.{Safe, Wedged}
use Rattle.model.proofs.SafeChange.{From, stood, Count, as_many, one_more, There, had, got, there}
use Rattle.model.proofs.SafeChange.{SafeChange, formed, each_shard, inv_same, wedged_stays}

-- a count does not go down, and says the same of another who gets one
count_up : {A : Type 0} {n n' : ℕ} → Count A n n' → n ≤ n'
count_up (as_many e) = le_of_eq (sym e)
count_up (one_more a e) = omega (arith, e)

count_for : {A B : Type 0} {n n' : ℕ} → (A → B) → Count A n n' → Count B n n'
count_for f (as_many e) = as_many e
count_for f (one_more a e) = one_more (f a) e

pending_short : length pending.history ≤ 56
unfolding pending
pending_short = lit≤ tt

module _ {w : List ℕ} {offers : ℕ → List ℕ} (x : Safe w offers) {z : ℕ} (hz : z < shards w) (hn : installed w z < 8) (m o : ℕ)
    (c : is_configuration m o ≡ true) where
  hm : size m ≤ 4
  hm = (configured m o c).size_most

  n : ℕ
  n = installed w z

  new : List ℕ
  new = install_next w z m o

  long : length w ≡ shards w * 2112
  long = size_of (formed x)

  -- the replicas of the next configuration were unused
  was_unused : (k : ℕ) → k < 4 → view w z n k ≡ unused
  unfolding n replica_at
  was_unused k hk = view_in w z hn hk ∙ vacant_unused _ (part_vacant (shards w) (installed w z) _ (old_vacant (formed x) hz hn m o c k hk))

  -- any other replica shows what it did
  elsewhere : (y a b : ℕ) → (z ≡ y → n ≡ a → b < size m → ⊥) → view new y a b ≡ view w y a b
  unfolding new n replica_at
  elsewhere y a b ne = go (in_view w y a b)
    where
      go : InView w y a b → view new y a b ≡ view w y a b
      go (inside ha hb e) =
          view_in new y ha hb ∙ ap read_replica (next_parts w long hz hn m o hm y a b ha hb ne) ∙ sym e
      go (outside h e) = e new ∙ sym (e w)

  now : (k : ℕ) → k < size m → view new z n k ≡ pending
  unfolding new n replica_at
  now k hk =
      view_in new z hn (lt_of_lt_of_le hk hm) ∙ ap read_replica (next_pending w long hz hn m o hm k hk) ∙ read_words pending pending_short

  seen : (a b : ℕ) → SeenNew (view w z) (view new z) n a b
  seen a b = go (ℕ_discrete a n) (in_view w z a b) (dec_lt b (size m))
    where
      go : Dec (a ≡ n) → InView w z a b → Dec (b < size m) → SeenNew (view w z) (view new z) n a b
      go (no q) i d = as_it_was q (elsewhere z a b (λ s t u. q (sym t)))
      go (yes q) (outside h e) d = still_unused q (e w) (e new)
      go (yes q) (inside ha hb e) (yes l) =
          now_pending q (ap (λ (y : ℕ). view w z y b) q ∙ was_unused b hb) (ap (λ (y : ℕ). view new z y b) q ∙ now b l)
      go (yes q) (inside ha hb e) (no l) =
          let u : view w z a b ≡ unused = ap (λ (y : ℕ). view w z y b) q ∙ was_unused b hb in
          still_unused q u (elsewhere z a b (λ s t v. l v) ∙ u)

  new_inv : (y : ℕ) → y < shards w → Inv (view new y) (offers y)
  new_inv y h =
      each_shard (λ (q : ℕ). Inv (view new q) (offers q)) z y (install_keeps (x.inv z hz) seen)
      (λ d. inv_same (x.inv y h) (λ a b. elsewhere y a b (λ s t u. d s)) wider_refl)

  new_prefixes : (y a b : ℕ) → y < shards w → Begins (stable_prefix (view w y a b)) (stable_prefix (view new y a b))
  new_prefixes y a b h =
      each_shard (λ (q : ℕ). Begins (stable_prefix (view w q a b)) (stable_prefix (view new q a b))) z y (install_grows (x.inv z hz) seen a b)
      (λ d. rw (elsewhere y a b (λ s t u. d s)) begins_refl)

  new_immutables : (y a b : ℕ) → y < shards w → (view w y a b).mode ≡ 3 → view new y a b ≡ view w y a b
  new_immutables y a b h =
      each_shard (λ (q : ℕ). (view w q a b).mode ≡ 3 → view new q a b ≡ view w q a b) z y (immutable_stays (x.inv z hz) seen a b)
      (λ d i. elsewhere y a b (λ s t u. d s))

  -- the new replicas have no origin
  new_origins : (y a b g : ℕ) → y < shards w → (view new y a b).origin ≡ suc g → From w y a b (view new y a b) g
  unfolding pending unused
  new_origins y a b g h =
      each_shard (λ (q : ℕ). (view new q a b).origin ≡ suc g → From w q a b (view new q a b) g) z y (go (seen a b))
      (λ d o. stood (rw (elsewhere y a b (λ s t u. d s)) at o))
    where
      go : SeenNew (view w z) (view new z) n a b → (view new z a b).origin ≡ suc g → From w z a b (view new z a b) g
      go (as_it_was q s) o = stood (rw s at o)
      go (now_pending p q s) o = absurd (omega (arith, o, ap (λ (r : Replica). r.origin) s))
      go (still_unused p q s) o = absurd (omega (arith, o, ap (λ (r : Replica). r.origin) s))

  -- head words of an installed configuration, and the sequencer, are not written
  old_word : (y i : ℕ) → i < 64 → (z ≡ y → (1 ≡ i → ⊥) × (2 + n ≡ i → ⊥) × (10 + n ≡ i → ⊥)) → head_word new y i ≡ head_word w y i
  unfolding new n
  old_word y i hi ne = next_other w long hz hn m o hm y i hi ne

  new_count : (y : ℕ) → Count (z ≡ y) (installed w y) (installed new y)
  unfolding installed new
  new_count y = go (ℕ_discrete z y)
    where
      go : Dec (z ≡ y) → Count (z ≡ y) (head_word w y 1) (head_word new y 1)
      go (yes e) =
          one_more e (subst (λ (q : ℕ). head_word new q 1 ≡ suc (head_word w q 1)) e (omega (arith, next_installed w long hz hn m o hm)))
      go (no d) = as_many (old_word y 1 (lit< tt) (λ e. absurd (d e)))

  below : (y a : ℕ) → y < shards w → a < installed w y → a < 8
  below y a h l = lt_of_lt_of_le l ((formed x).head y h).most

  within : (y a : ℕ) → z ≡ y → a < installed w y → a < n
  unfolding n
  within y a e l = subst (λ (q : ℕ). a < installed w q) (sym e) l

  old_members : (y a : ℕ) → y < shards w → a < installed w y → members new y a ≡ members w y a
  unfolding members n
  old_members y a h l =
      let g = below y a h l in
      old_word y (2 + a) (omega arith)
      (λ e. let q = within y a e l in ((λ i. omega arith), (λ i. omega arith), (λ i. omega arith)))

  old_orderer : (y a : ℕ) → y < shards w → a < installed w y → orderer new y a ≡ orderer w y a
  unfolding orderer n
  old_orderer y a h l =
      let g = below y a h l in
      let k : n < 8 = hn in
      old_word y (10 + a) (omega arith)
      (λ e. let q = within y a e l in ((λ i. omega arith), (λ i. omega arith), (λ i. omega arith)))

  new_sequencers : (y : ℕ) → sequencer new y ≡ sequencer w y
  unfolding sequencer
  new_sequencers y = old_word y 0 (lit< tt) (λ e. ((λ i. omega arith), (λ i. omega arith), (λ i. omega arith)))

  new_forward : Forward w new
  unfolding new
  new_forward =
      record {
        long = next_length w long hz hn m o hm ∙ sym long;
        installs = λ y h. count_up (new_count y);
        memberships = old_members;
        orderers = old_orderer;
        prefixes = new_prefixes;
        immutables = new_immutables;
      }

  -- where the newest configuration is wedged, the next is installed
  module _ (d : (a : ℕ) → suc a ≡ installed w z → Wedged w z a) where
    -- a configuration before another was so, or is the newest that there was
    new_wedged : (y a : ℕ) → y < shards w → suc a < installed new y → Wedged w y a
    new_wedged y a h l = go (there (new_count y) a l)
      where
        go : There (z ≡ y) (installed w y) a → Wedged w y a
        go (had q) = x.wedges y a h q
        go (got t e) = subst (λ (k : ℕ). Wedged w k a) t (d a (subst (λ (k : ℕ). suc a ≡ installed w k) (sym t) e))

    pub kept_next : {gets : ℕ → Type 0} → gets z → SafeChange gets w offers (install_next w z m o) offers
    unfolding new
    kept_next {gets} made =
        record {
          forward = new_forward;
          inv = new_inv;
          wedges = λ y a h l. wedged_stays new_forward y a h (new_wedged y a h l);
          origins = new_origins;
          counts = λ y h. count_for (λ e. subst gets e made) (new_count y);
          sequencers = λ y h. new_sequencers y;
        }

module _ {w : List ℕ} {offers : ℕ → List ℕ} (x : Safe w offers) {z j : ℕ} (hz : z < shards w) (hj : j < 8) (h p : ℕ)
    (c : AllPass (install_checks w z j h p)) where
  -- a replica of the newest configuration is immutable
  newest_wedged : (a : ℕ) → suc a ≡ installed w z → Wedged w z a
  unfolding install_checks
  newest_wedged a e =
      let found = wedged_tells w z a e (search) in
      let few = size_few (formed x) hz below in
      record {
        number = found.number;
        is_immutable = rw (view_in w z below (lt_of_lt_of_le found.small few)) (immutable_mode _ found.passes);
      }
    where
      below : a < 8
      below = omega (arith, e, ((formed x).head z hz).most)

  pub kept_install : {gets : ℕ → Type 0} → gets z → SafeChange gets w offers (install_effect w z j h p) offers
  unfolding install_effect
  kept_install made =
      kept_next x hz (omega (arith, next_index (formed x) hz hj h p c, (issue_proper (formed x) hz hj h p c).index_most))
      (issue_members (issued_at w z j h p))
      (issue_orderer (issued_at w z j h p))
      (issue_proper (formed x) hz hj h p c).configuration
      newest_wedged
      made
