-- Rows about lists read off a state: stable histories, stable prefixes and traces.
use Prim.Native.Nat.{ℕ, ◌-◌}
use mathlib.Core.Path.{◌≡◌, refl, sym, ap, ◌∙◌}
use mathlib.Core.Bool.{cond}
use mathlib.Core.List.{List, [], ◌∷◌, ◌++◌, append-nil}
use lib.Dec.{ltb}
use lib.ListN.{replicate}
use Rattle.model.specs.Checks.{Check, first_of, ◌or_else◌}
use Rattle.types.specs.Members.{has_member}
use Rattle.model.specs.Replicas.{stable_prefix}
use Rattle.model.specs.Layout.{shards_of, is_state_length, is_installed, members}
use Rattle.model.specs.OneList.{stable_of}
use Rattle.model.specs.StableHistory.{longer, longest_of, stable_history}
use Rattle.model.specs.Transcript.{program_start}
use Rattle.model.proofs.WellFormed.{WellFormed, is_well_formed}
use Rattle.model.proofs.StaysWellFormed.{all_formed}
use Rattle.model.proofs.ProgramStart.{start_formed}
use Rattle.step_numbers.specs.StepRanges.{is_index_of}
use Rattle.stable_entries.specs.Listing.{has_room}
use Rattle.histories.specs.History.{listing_rejection}
use Rattle.histories.specs.NamedReplicas.{is_replica_name, replica_checks}
use Rattle.histories.specs.Prefix.{prefix_rejection, shown}
use Rattle.histories.specs.Traces.{source_host, sources_of, trace_of, trace_rejection}
use Rattle.word_outputs.specs.Counts.{counted_answer}
use Rattle.word_outputs.specs.TraceOutputs.{boxes_rejection, trace_answer}
use Rattle.cases.specs.CaseRows.{changed}
use Rattle.cases.specs.Scripts.{one_take}
use Rattle.cases.specs.States.{too_short, ill_formed, unlike, late}
use Rattle.cases.specs.Effects.{last_index_words}
use Rattle.cases.specs.ListCases.{after_one_take, after_last_index, StableHistories, ShownPrefixes, TracedHosts}
use Rattle.cases.proofs.Quick.{quick_after_all, quick_after_all_lem}
use Rattle.cases.proofs.Computing.{given_cases, step_trying}
use Rattle.cases.proofs.States.{ill_shards, ill_formed_lem}
use Rattle.cases.proofs.Effects.{effects}

-- ---- states after steps

one_take_formed : WellFormed 2 after_one_take
unfolding after_one_take
one_take_formed = all_formed start_formed one_take

one_take_lem : after_one_take ≡ quick_after_all 2 program_start one_take
unfolding after_one_take
one_take_lem = quick_after_all_lem start_formed one_take

last_index_lem : after_last_index ≡ changed late last_index_words
unfolding after_last_index
last_index_lem = effects.last_indices

-- ---- the checks of a replica, and what comes after them

-- what is left to test of a state of two shards that is well-formed
replica_rest : List ℕ → ℕ → ℕ → ℕ → List Check → List Check
replica_rest w z i h more = is_replica_name 2 z i h or_else 7 ∷ is_installed w z (i - 1) or_else 10 ∷ has_member (members w z (i - 1)) h or_else 11 ∷ more

module _ (z i h : ℕ) (more : List Check) where
  replica_formed : {w : List ℕ} → WellFormed 2 w → first_of (replica_checks w z i h ++ more) ≡ first_of (replica_rest w z i h more)
  unfolding replica_checks replica_rest first_of is_state_length
  replica_formed f = rw (f.shards, is_well_formed f)

  replica_ill : first_of (replica_checks ill_formed z i h ++ more) ≡ cond (is_replica_name 2 z i h) 9 7
  unfolding replica_checks first_of is_state_length
  replica_ill = rw (ill_shards, ill_formed_lem)

  replica_short : first_of (replica_checks too_short z i h ++ more) ≡ 1
  unfolding replica_checks first_of is_state_length shards_of too_short
  replica_short = refl

-- a reading of w, which is u
module _ (z i h : ℕ) (out : List ℕ) where
  shown_formed : {w u : List ℕ} {n : ℕ} → WellFormed 2 w → w ≡ u → first_of (replica_rest u z i h (has_room (shown u z i h) out ∷ [])) ≡ n
      → prefix_rejection w z i h out ≡ n
  unfolding prefix_rejection
  shown_formed {w} f q e =
      replica_formed z i h (has_room (shown w z i h) out ∷ []) f
      ∙ ap (λ (v : List ℕ). first_of (replica_rest v z i h (has_room (shown v z i h) out ∷ []))) q
      ∙ e

  shown_ill : {n : ℕ} → cond (is_replica_name 2 z i h) 9 7 ≡ n → prefix_rejection ill_formed z i h out ≡ n
  unfolding prefix_rejection
  shown_ill e = replica_ill z i h (has_room (shown ill_formed z i h) out ∷ []) ∙ e

  shown_short : prefix_rejection too_short z i h out ≡ 1
  unfolding prefix_rejection
  shown_short = replica_short z i h (has_room (shown too_short z i h) out ∷ [])

-- a trace
module _ (z i h : ℕ) where
  traced : (w : List ℕ) → trace_rejection w z i h ≡ first_of (replica_checks w z i h ++ [])
  unfolding trace_rejection
  traced w = ap first_of (sym (append-nil (replica_checks w z i h)))

  traced_start : {n : ℕ} → first_of (replica_rest program_start z i h []) ≡ n → trace_rejection program_start z i h ≡ n
  traced_start e = traced program_start ∙ replica_formed z i h [] start_formed ∙ e

  traced_ill : {n : ℕ} → cond (is_replica_name 2 z i h) 9 7 ≡ n → trace_rejection ill_formed z i h ≡ n
  traced_ill e = traced ill_formed ∙ replica_ill z i h [] ∙ e

  traced_short : trace_rejection too_short z i h ≡ 1
  traced_short = traced too_short ∙ replica_short z i h []

-- a shard's stable history
module _ (z : ℕ) (out : List ℕ) where
  listed_formed : {w l : List ℕ} {n : ℕ} → WellFormed 2 w → stable_history w z ≡ l → first_of (ltb z 2 or_else 7 ∷ has_room l out ∷ []) ≡ n
      → listing_rejection w z out ≡ n
  unfolding listing_rejection first_of is_state_length
  listed_formed f q e = rw (f.shards, is_well_formed f, q) e

  listed_ill : {n : ℕ} → cond (ltb z 2) 9 7 ≡ n → listing_rejection ill_formed z out ≡ n
  unfolding listing_rejection first_of is_state_length
  listed_ill e = rw (ill_shards, ill_formed_lem) e

  listed_short : listing_rejection too_short z out ≡ 1
  unfolding listing_rejection first_of is_state_length shards_of too_short
  listed_short = refl

-- ---- the rows

picked : (stable_history unlike 0 ≡ 8 ∷ []) × (stable_history unlike 1 ≡ 7 ∷ []) × (stable_history after_one_take 0 ≡ 7 ∷ [])
unfolding given_cases step_trying stable_history longest_of longer stable_prefix
picked = (refl, refl, ap (λ (w : List ℕ). stable_history w 0) one_take_lem ∙ refl)

pub stable_histories : StableHistories
unfolding has_room first_of
stable_histories =
    record {
      ties = (picked.0, picked.1);
      longest = picked.2;
      wrong_length = listed_short _ _;
      shard = listed_ill _ _ refl;
      form = listed_ill _ _ refl;
      room = (listed_formed _ _ one_take_formed picked.2 refl, listed_formed _ _ one_take_formed picked.2 refl);
    }

pub shown_prefixes : ShownPrefixes
unfolding given_cases step_trying replica_rest is_replica_name is_index_of shown stable_of stable_prefix has_room
shown_prefixes =
    record {
      shows = (ap (λ (w : List ℕ). shown w 0 1 1) one_take_lem ∙ refl, ap (λ (w : List ℕ). shown w 0 1 0) one_take_lem ∙ refl);
      wrong_length = shown_short _ _ _ _;
      names = (shown_ill _ _ _ _ refl, shown_ill _ _ _ _ refl, shown_ill _ _ _ _ refl, shown_ill _ _ _ _ refl);
      form = shown_ill _ _ _ _ refl;
      index = shown_formed _ _ _ _ start_formed refl refl;
      member = shown_formed _ _ _ _ one_take_formed one_take_lem refl;
      room = (
        shown_formed _ _ _ _ one_take_formed one_take_lem refl,
        shown_formed _ _ _ _ one_take_formed one_take_lem refl,
        shown_formed _ _ _ _ one_take_formed one_take_lem refl,
      );
    }

-- for C, with room for seven words
boxes_start : (z i h : ℕ) {n : ℕ} → first_of (replica_rest program_start z i h []) ≡ n → trace_answer program_start z i h (replicate 7 0) (0 ∷ []) ≡ n
unfolding trace_answer counted_answer boxes_rejection
boxes_start z i h e = traced_start z i h e

pub traced_hosts : TracedHosts
unfolding given_cases step_trying replica_rest is_replica_name is_index_of trace_of sources_of source_host trace_answer counted_answer boxes_rejection
traced_hosts =
    record {
      hosts = (
        ap (λ (w : List ℕ). trace_of w 0 7 5) last_index_lem ∙ refl,
        ap (λ (w : List ℕ). trace_of w 0 7 15) last_index_lem ∙ refl,
        ap (λ (w : List ℕ). trace_of w 1 1 5) last_index_lem ∙ refl,
      );
      wrong_length = traced_short _ _ _;
      names = (traced_ill _ _ _ refl, traced_ill _ _ _ refl, traced_ill _ _ _ refl, traced_ill _ _ _ refl);
      form = traced_ill _ _ _ refl;
      index = traced_start _ _ _ refl;
      member = traced_start _ _ _ refl;
      room = (refl, refl, boxes_start 0 1 0 refl);
    }
