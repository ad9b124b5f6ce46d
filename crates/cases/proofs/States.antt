-- The states of the table: which are well-formed, and which are not.
use Prim.Native.Nat.{ℕ, ◌<◌}
use native.Mathlib.Omega.{arith}
use mathlib.Core.Path.{◌≡◌, refl}
use mathlib.Core.Bool.{Bool, true, false}
use mathlib.Core.List.{List, [], ◌∷◌, ◌++◌}
use lib.Dec.{ltb}
use lib.ListN.{length}
use lib.Seq.{length-sets}
use borrow.Author.Tests.{ltb-true}
use Rattle.types.specs.Members.{size}
use Rattle.model.specs.Replicas.{Replica, is_pending}
use Rattle.model.specs.Layout.{shards_of, place, head_word, members, part, replica_at, put_replica}
use Rattle.model.specs.Origins.{is_origin_of}
use Rattle.model.specs.WellFormed.{is_replica, is_part, well_formed}
use Rattle.model.specs.Transcript.{program_start}
use Rattle.model.specs.Marked.{next_issue}
use Rattle.model.proofs.Origins.{no_source_lem}
use Rattle.model.proofs.WellFormedParts.{proper}
use Rattle.model.proofs.WellFormed.{WellFormed, well_formed_lem}
use Rattle.model.proofs.WellFormedPut.{put_keeps}
use Rattle.model.proofs.StaysWellFormed.{all_formed}
use Rattle.model.proofs.ProgramStart.{start_shards, start_formed}
use Rattle.cases.specs.CaseRows.{changed}
use Rattle.cases.specs.Scripts.{rival_issue, replaced, up_to}
use Rattle.cases.specs.States.{ill_formed, borrowed, two_issues, full, after_replaced, late}
use Rattle.cases.specs.Form.{IllFormedWith, Form}
use Rattle.cases.proofs.Computing.{given_cases, state_reading, form_testing}

-- changed words leave the number of shards
changed-shards : (w : List ℕ) (cs : List (ℕ × List ℕ)) → shards_of (length w) ≡ 2 → shards_of (length (changed w cs)) ≡ 2
unfolding changed
changed-shards w [] e = e
changed-shards w (c ∷ cs) e = changed-shards _ cs (rw (length-sets w c.0 c.1) e)

-- ---- the program's first state with another replica of index 1, an active one

with_replica : (z k : ℕ) → z < 2 → k < size (members program_start z 0) → (r : Replica) → is_replica 2 0 r ≡ true → r.mode ≡ 2 → r.origin ≡ 0
    → WellFormed 2 (put_replica program_start (place z 0 k) r)
unfolding is_pending
with_replica z k hz hk r p m o =
    put_keeps start_formed hz (omega arith) hk r (proper 2 0 r p) (rw m) (no_source_lem program_start z 0 r refl o)

-- what the rows' states have there
strange : Replica
strange = record { mode = 2; history = next_issue ∷ []; stable = 0; origin = 0 }

rivalling : Replica
rivalling = record { mode = 2; history = next_issue ∷ rival_issue ∷ []; stable = 2; origin = 0 }

filled : Replica
filled = record { mode = 2; history = up_to 55 ++ (next_issue ∷ []); stable = 0; origin = 0 }

all_proper : (is_replica 2 0 strange ≡ true) × (is_replica 2 0 rivalling ≡ true) × (is_replica 2 0 filled ≡ true)
unfolding given_cases state_reading is_replica strange rivalling filled
all_proper = (refl, refl, refl)

all_put : (borrowed ≡ put_replica program_start (place 1 0 0) strange)
    × (two_issues ≡ put_replica program_start (place 0 0 0) rivalling)
    × (full ≡ put_replica program_start (place 0 0 0) filled)
unfolding given_cases state_reading put_replica strange rivalling filled
all_put = (refl, refl, refl)

two_members : (size (members program_start 0 0) ≡ 2) × (size (members program_start 1 0) ≡ 2)
unfolding given_cases state_reading
two_members = (refl, refl)

pub borrowed_formed : WellFormed 2 borrowed
unfolding strange
borrowed_formed = rw all_put.0 (with_replica 1 0 (omega arith) (omega (arith, two_members.1)) strange all_proper.0 refl refl)

pub two_issues_formed : WellFormed 2 two_issues
unfolding rivalling
two_issues_formed = rw all_put.1 (with_replica 0 0 (omega arith) (omega (arith, two_members.0)) rivalling all_proper.1 refl refl)

pub full_formed : WellFormed 2 full
unfolding filled
full_formed = rw all_put.2 (with_replica 0 0 (omega arith) (omega (arith, two_members.0)) filled all_proper.2 refl refl)

pub replaced_formed : WellFormed 2 after_replaced
unfolding after_replaced
replaced_formed = all_formed start_formed replaced

-- ---- a head word that has to be 0 is not

pub ill_shards : shards_of (length ill_formed) ≡ 2
unfolding ill_formed
ill_shards = changed-shards program_start _ start_shards

ill_word : head_word ill_formed 0 18 ≡ 1
unfolding given_cases state_reading
ill_word = refl

pub ill_formed_lem : well_formed ill_formed ≡ false
ill_formed_lem = go (well_formed ill_formed) refl
  where
    go : (t : Bool) → well_formed ill_formed ≡ t → well_formed ill_formed ≡ false
    go true e =
        let f = well_formed_lem ill_formed 2 ill_shards (omega arith) e in
        absurd (omega (arith, ill_word, (f.head 0 (omega arith)).rest 0 (omega arith)))
    go false e = e

-- ---- words 3: the test of the whole state computes where it is true, and that of one replica where it is false

late_tested : well_formed late ≡ true
unfolding given_cases form_testing
late_tested = refl

late-shards : shards_of (length late) ≡ 2
unfolding late
late-shards = changed-shards program_start _ start_shards

pub late_formed : WellFormed 2 late
late_formed = well_formed_lem late 2 late-shards (omega arith) late_tested

-- `late` with other words from a place on, of which a test fails
not_formed : (at : ℕ) (ns : List ℕ) → (WellFormed 2 (changed late ((at, ns) ∷ [])) → ⊥) → IllFormedWith at ns
not_formed at ns f = go (well_formed (changed late ((at, ns) ∷ []))) refl
  where
    go : (t : Bool) → well_formed (changed late ((at, ns) ∷ [])) ≡ t → IllFormedWith at ns
    go true e = absurd (f (well_formed_lem _ 2 (changed-shards late ((at, ns) ∷ []) late-shards) (omega arith) e))
    go false e = e

clash : {t : Bool} → t ≡ true → t ≡ false → ⊥
clash e f = let q : ◌≡◌ {A = ℕ} 0 1 = cc in omega arith

-- the test of the origin of replica k in configuration j of shard 0, and how many replicas are tested
OriginFails : ℕ → List ℕ → ℕ → ℕ → Type 0
OriginFails at ns j k =
    let w = changed late ((at, ns) ∷ []) in
    (is_origin_of w 0 j (replica_at w (place 0 j k)) ≡ false) × (ltb k (size (members w 0 j)) ≡ true)

origin_fails : (at : ℕ) (ns : List ℕ) (j k : ℕ) → j < 8 → OriginFails at ns j k → IllFormedWith at ns
unfolding OriginFails
origin_fails at ns j k hj e = not_formed at ns (λ f. clash (f.origins 0 j k (omega arith) hj (ltb-true k _ e.1)) e.0)

fails : OriginFails 1603 (0 ∷ []) 6 0
    × OriginFails 1603 (17 ∷ []) 6 0
    × OriginFails 1603 (6 ∷ []) 6 0
    × OriginFails 1344 (1 ∷ 0 ∷ 0 ∷ 0 ∷ []) 6 0
    × OriginFails 67 (2 ∷ []) 0 0
    × OriginFails 1600 (1 ∷ []) 6 0
unfolding given_cases form_testing OriginFails
fails = ((refl, refl), (refl, refl), (refl, refl), (refl, refl), (refl, refl), (refl, refl))

-- the second replica of index 6 is no member's, and its words are not those of an unused one
unused_fails : is_part 2 5 (ltb 1 (size (members (changed late ((1411, 2 ∷ []) ∷ [])) 0 5))) (part (changed late ((1411, 2 ∷ []) ∷ [])) (place 0 5 1)) ≡ false
unfolding given_cases form_testing
unused_fails = refl

pub form : Form
form =
    record {
      active_source = late_tested;
      no_source = origin_fails _ _ 6 0 (omega arith) fails.0;
      seventeen = origin_fails _ _ 6 0 (omega arith) fails.1;
      no_member = origin_fails _ _ 6 0 (omega arith) fails.2;
      pending_source = origin_fails _ _ 6 0 (omega arith) fails.3;
      in_first_index = origin_fails _ _ 0 0 (omega arith) fails.4;
      in_pending = origin_fails _ _ 6 0 (omega arith) fails.5;
      in_unused = not_formed _ _ (λ f. clash (f.parts 0 5 1 (omega arith) (omega arith) (omega arith)) unused_fails);
    }
