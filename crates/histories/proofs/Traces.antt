-- The sources of a replica one after the other: each is a member's replica that is not pending, and names the next in its word 3.
use Prim.Native.Nat.{ℕ, zero, suc, ◌+◌, ◌-◌, ◌≤◌, ◌<◌}
use native.Mathlib.Omega.{arith}
use mathlib.Core.Path.{◌≡◌, refl, sym, ap, subst, ◌∙◌}
use mathlib.Core.Bool.{false}
use mathlib.Core.List.{List, [], ◌∷◌, ◌++◌}
use lib.ListN.{length, get_or, take}
use lib.Seq.{take-suc, take_all, length-take-le}
use borrow.Author.Tests.{ltb-true, lt-ltb}
use Rattle.types.specs.declared.configuration.Configuration.{Configuration}
use Rattle.model.specs.Replicas.{is_pending}
use Rattle.model.specs.Layout.{installed, is_installed, replica_at}
use Rattle.model.specs.Configuration.{configuration, replica_of, replica_in}
use Rattle.types.specs.ReplicaPlace.{replica_place}
use Rattle.model.specs.Inherit.{source}
use Rattle.model.proofs.Fields.{origin_word_lem}
use Rattle.model.proofs.Origins.{Named, named, has_source}
use Rattle.model.proofs.WellFormedMembers.{member_origin}
use Rattle.lookup.proofs.ReadyFields.{formed}
use Rattle.lookup.proofs.FoundReplicas.{member_placed}
use Rattle.histories.specs.Traces.{source_host, sources_of, Started}
use Rattle.histories.proofs.NamedReplicas.{IsNamed}

-- a replica that a caller named and that is not pending is one to start from
pub started : {w : List ℕ} {z i h : ℕ} → IsNamed w z i h → is_pending (replica_in w z (i - 1) h) ≡ false → Started w z (i - 1) h
started f r = record { ready = record { ready = f.ready; host = f.in_range.host }; there = f.there; member = f.member; running = r }

-- ---- one step back

module _ {w : List ℕ} {z i g : ℕ} (s : Started w z i g) where
  -- the source that word 3 names
  pub names : 1 ≤ i → Named w z i (replica_in w z i g).origin
  unfolding replica_in
  names h =
      let r = s.ready.ready in
      named w z i (replica_of w (configuration w z i) g).origin
      (sym (has_source w z i (replica_of w (configuration w z i) g) h s.running)
      ∙ member_origin (formed r.state) r.shard r.configuration g s.member)

  pub back : 1 ≤ i → Started w z (i - 1) (source_host w z i g)
  unfolding source_host is_installed source replica_in
  back h =
      let n = names h in
      record {
        ready =
            record {
              ready =
                  record { state = s.ready.ready.state; shard = s.ready.ready.shard; configuration = omega (arith, s.ready.ready.configuration) };
              host = omega (arith, n.least, n.most);
            };
        there = lt-ltb (i - 1) (installed w z) (omega (arith, ltb-true i (installed w z) s.there));
        member = n.member;
        running = n.running;
      }

-- ---- along the way

-- every replica on the way is one to start from
pub along : (w : List ℕ) (z j h : ℕ) → Started w z j h → (k : ℕ) → k ≤ j → Started w z (j - k) (get_or (h ∷ sources_of w z j h) k 0)
unfolding sources_of
along w z j h s zero l =
    let d : j - 0 ≡ j = omega arith in
    rw d s
along w z zero h s (suc k) l = absurd (omega arith)
along w z (suc j) h s (suc k) l =
    let e : suc j - 1 ≡ j = omega arith in
    let d : suc j - suc k ≡ j - k = omega arith in
    rw d (along w z j (source_host w z (suc j) h) (rw e at (back s (omega arith))) k (omega arith))

-- .. and names the next
pub next_host : (w : List ℕ) (z j h k : ℕ) → k < j → get_or (sources_of w z j h) k 0 ≡ source_host w z (j - k) (get_or (h ∷ sources_of w z j h) k 0)
unfolding sources_of
next_host w z zero h k l = absurd (omega arith)
next_host w z (suc j) h zero l =
    let d : suc j - 0 ≡ suc j = omega arith in
    rw d
next_host w z (suc j) h (suc k) l =
    let d : suc j - suc k ≡ j - k = omega arith in
    rw d (next_host w z j (source_host w z (suc j) h) k (omega arith))

pub sources_length : (w : List ℕ) (z j h : ℕ) → length (sources_of w z j h) ≡ j
unfolding sources_of
sources_length w z zero h = refl
sources_length w z (suc j) h = ap suc (sources_length w z j (source_host w z (suc j) h))

-- ---- the loop: from configuration j down to i, where host g is

module _ (w : List ℕ) (z j h : ℕ) where
  -- what the loop keeps
  pub record Walked (i g : ℕ) (hosts : List ℕ) : Type 0 where
    pub up_to : i ≤ j
    pub host : g ≡ get_or (h ∷ sources_of w z j h) (j - i) 0
    pub found : hosts ≡ take (j - i) (sources_of w z j h)

  pub walk_start : Walked j h []
  walk_start =
      let e : j - j ≡ 0 = omega arith in
      record { up_to = omega arith; host = rw e; found = rw e }

  -- the replica that is looked at
  pub walk_at : Started w z j h → {i g : ℕ} {hosts : List ℕ} → Walked i g hosts → Started w z i g
  walk_at s {i} {g} k =
      let e : j - (j - i) ≡ i = omega (arith, k.up_to) in
      rw k.host (subst (λ (n : ℕ). Started w z n (get_or (h ∷ sources_of w z j h) (j - i) 0)) e (along w z j h s (j - i) (omega arith)))

  -- so many hosts were found
  pub walk_length : {i g : ℕ} {hosts : List ℕ} → Walked i g hosts → length hosts ≡ j - i
  walk_length {i} k = ap length k.found ∙ length-take-le (j - i) (sources_of w z j h) (omega (arith, sources_length w z j h))

  pub walk_more : {i g : ℕ} {hosts : List ℕ} → Walked i g hosts → 0 < i → {x : ℕ} → x ≡ source_host w z i g → Walked (i - 1) x (hosts ++ (x ∷ []))
  walk_more {i} {g} {hosts} k l {x} q =
      record {
        up_to = omega (arith, k.up_to);
        host = rw next is_next;
        found = rw (next, take-suc (sources_of w z j h) (j - i) 0 within, ← is_next, k.found);
      }
    where
      within : j - i < length (sources_of w z j h)
      within = omega (arith, sources_length w z j h, k.up_to)

      next : j - (i - 1) ≡ suc (j - i)
      next = omega (arith, k.up_to)

      here : j - (j - i) ≡ i
      here = omega (arith, k.up_to)

      is_next : x ≡ get_or (sources_of w z j h) (j - i) 0
      is_next =
          q ∙ ap (source_host w z i) k.host
          ∙ sym (next_host w z j h (j - i) (omega (arith, k.up_to)) ∙ ap (λ (n : ℕ). source_host w z n (get_or (h ∷ sources_of w z j h) (j - i) 0)) here)

  pub walk_end : {i g : ℕ} {hosts : List ℕ} → Walked i g hosts → i ≤ 0 → hosts ≡ sources_of w z j h
  walk_end {i} k l = k.found ∙ take_all (j - i) (sources_of w z j h) (omega (arith, sources_length w z j h))

-- ---- the words that the code reads, at the place p of the replica

module _ {w : List ℕ} {z i g : ℕ} (s : Started w z i g) {k : Configuration} (c : k ≡ configuration w z i) {p : ℕ} (e : p ≡ replica_place k g) where
  place_is : p ≡ replica_place (configuration w z i) g
  place_is = e ∙ ap (λ (k : Configuration). replica_place k g) c

  pub place_within : p + 64 ≤ length w
  place_within = rw place_is (member_placed s.ready.ready g s.member).fits

  origin_read : (replica_in w z i g).origin ≡ get_or w (p + 3) 0
  unfolding replica_in replica_of
  origin_read = ap (λ (at : ℕ). (replica_at w at).origin) (sym place_is) ∙ origin_word_lem w p

  -- its word 3 is no 0
  pub origin_least : 1 ≤ i → 1 ≤ get_or w (p + 3) 0
  origin_least h = rw origin_read at (names s h).least

  pub host_read : get_or w (p + 3) 0 - 1 ≡ source_host w z i g
  unfolding source_host
  host_read = rw origin_read
