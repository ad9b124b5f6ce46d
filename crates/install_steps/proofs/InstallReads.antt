-- What an install reads: a shard's sequencer and count of configurations, and the entries of the replica that issues.
-- Assumes nothing.
use Prim.Native.Nat.{ℕ, ◌+◌, ◌-◌, ◌*◌, ◌≤◌, ◌<◌}
use native.Mathlib.Nat.{add-sub_cancel_left}
use native.Mathlib.Omega.{arith}
use mathlib.Core.Path.{◌≡◌, sym, ap, ◌∙◌}
use mathlib.Core.Bool.{not}
use mathlib.Core.List.{List}
use lib.ListN.{length, get_or, take, drop, length-drop}
use lib.Seq.{get_or-take, get_or-drop, length-take-le}
use Rattle.model.specs.Replicas.{Replica}
use Rattle.model.specs.Layout.{shards_of, sequencer, replica_at}
use Rattle.model.specs.Install.{issuer, issued_at, none_before}
use Rattle.model.proofs.Heads.{installed_word}
use Rattle.model.proofs.WellFormedMembers.{member_proper}
use Rattle.model.proofs.WellFormedInstall.{sequencer_below}
use Rattle.lookup.specs.Ready.{Ready, ReadyHost}
use Rattle.model.proofs.Fields.{stable_word}
use Rattle.lookup.proofs.ReadyFields.{formed}
use Rattle.lookup.proofs.FoundReplicas.{At, words_at}
use Rattle.lookup.proofs.StateWords.{length_word, history_words}
use Rattle.entry_search.specs.Searches.{issued_in}
use Rattle.entry_search.proofs.Searches.{none_issued}

-- ---- head words

-- the sequencer is a shard too
pub sequencer_ready : {w : List ℕ} {z j h : ℕ} → ReadyHost w z j h → ReadyHost w (sequencer w z) j h
sequencer_ready {w} {z} {j} {h} r =
    let s = r.ready in
    record {
      ready =
          record {
            state = s.state;
            shard = sequencer_below (shards_of (length w)) z (sequencer w z) ((formed s.state).head z s.shard).sequenced;
            configuration = s.configuration;
          };
      host = r.host;
    }

pub installed_least : {w : List ℕ} {z j : ℕ} → Ready w z j → 1 ≤ get_or w (z * 2112 + 1) 0
installed_least {w} {z} {j} r = omega (arith, installed_word w z, ((formed r.state).head z r.shard).least)

pub installed_few : {w : List ℕ} {z j : ℕ} → Ready w z j → get_or w (z * 2112 + 1) 0 ≤ 8
installed_few {w} {z} {j} r = omega (arith, installed_word w z, ((formed r.state).head z r.shard).most)

-- ---- the entries of the replica that issues

module _ {w : List ℕ} {z j h p : ℕ} (r : ReadyHost w z j h) (a : At w (sequencer w z) j h p) where
  replica_is : issuer w z j h ≡ replica_at w p
  unfolding issuer
  replica_is = a.replica_is

  pub stable_is : (issuer w z j h).stable ≡ get_or w (p + 2) 0
  stable_is = ap (λ (s : Replica). s.stable) replica_is ∙ stable_word w p

  history_is : (issuer w z j h).history ≡ take (get_or w (p + 1) 0) (drop (p + 8) w)
  history_is =
      ap (λ (s : Replica). s.history) replica_is
      ∙ history_words w p (words_at a (sequencer_ready r).ready)

  -- the stable entries lie in the history
  stable_within : get_or w (p + 2) 0 ≤ get_or w (p + 1) 0
  unfolding issuer
  stable_within =
      let s = (sequencer_ready r).ready in
      let q : (issuer w z j h).stable ≤ length (issuer w z j h).history =
      (member_proper (formed s.state) s.shard s.configuration h a.member).stable_most in
      omega (arith, q, stable_is, ap (λ (s : Replica). length s.history) replica_is, length_word w p (words_at a s))

  entry_is : (q : ℕ) → q < get_or w (p + 2) 0 → get_or (issuer w z j h).history q 0 ≡ get_or w (p + 8 + q) 0
  entry_is q l =
      ap (λ (s : List ℕ). get_or s q 0) history_is
      ∙ get_or-take (get_or w (p + 1) 0) (drop (p + 8) w) q 0 (omega (arith, stable_within))
      ∙ get_or-drop (p + 8) w q 0

  pub issued_is : (q : ℕ) → q < get_or w (p + 2) 0 → issued_at w z j h q ≡ get_or w (p + 8 + q) 0
  unfolding issued_at
  issued_is q l = entry_is q l

  -- the entries before a stable one
  pub none_is : (i q : ℕ) → q < get_or w (p + 2) 0 → p + 64 ≤ length w → q ≤ 55
      → none_before z i q (issuer w z j h).history ≡ not (issued_in z i (take (p + 8 + q - (p + 8)) (drop (p + 8) w)))
  none_is i q l f b =
      rw (add-sub_cancel_left (p + 8) q)
      (ap (λ (k : ℕ). none_before z i k (issuer w z j h).history) (sym long)
      ∙ none_issued z i (issuer w z j h).history (take q (drop (p + 8) w))
      (λ k g.
      let below : k < q = omega (arith, g, long) in
      entry_is k (omega arith) ∙ sym (get_or-take q (drop (p + 8) w) k 0 below ∙ get_or-drop (p + 8) w k 0)))
    where
      long : length (take q (drop (p + 8) w)) ≡ q
      long = length-take-le q (drop (p + 8) w) (rw length-drop (omega arith))
