-- Lists read off a state: which one a shard's stable history is, the orders of the rejections, and room that is just enough.
use Rattle.std.specs.Prelude.{ℕ, ◌≡◌, List, [], ◌∷◌, replicate}
use Rattle.model.specs.Replay.{after_all}
use Rattle.model.specs.StableHistory.{stable_history}
use Rattle.model.specs.Transcript.{program_start}
use Rattle.histories.specs.History.{listing_rejection}
use Rattle.histories.specs.Prefix.{prefix_rejection, shown}
use Rattle.histories.specs.Traces.{trace_of, trace_rejection}
use Rattle.word_outputs.specs.TraceOutputs.{trace_answer}
use Rattle.cases.specs.Scripts.{one_take, last_index}
use Rattle.cases.specs.States.{too_short, ill_formed, unlike, late}

-- host 1 of shard 0 has confirmed take 7, and host 0 has not
unfoldable pub after_one_take : List ℕ
after_one_take = after_all program_start one_take

unfoldable pub after_last_index : List ℕ
after_last_index = after_all late last_index

pub record StableHistories : Type 0 where
  -- "of equally long ones, lowest index, then lowest seat"
  pub ties : (stable_history unlike 0 ≡ 8 ∷ []) × (stable_history unlike 1 ≡ 7 ∷ [])
  pub longest : stable_history after_one_take 0 ≡ 7 ∷ []
  -- 1, 7, 9, 8
  pub wrong_length : listing_rejection too_short 9 [] ≡ 1
  pub shard : listing_rejection ill_formed 2 [] ≡ 7
  pub form : listing_rejection ill_formed 0 [] ≡ 9
  pub room : (listing_rejection after_one_take 0 [] ≡ 8) × (listing_rejection after_one_take 0 (0 ∷ []) ≡ 0)

pub record ShownPrefixes : Type 0 where
  pub shows : (shown after_one_take 0 1 1 ≡ 7 ∷ []) × (shown after_one_take 0 1 0 ≡ [])
  -- 1, 7, 9, 10, 11, 8
  pub wrong_length : prefix_rejection too_short 9 1 0 [] ≡ 1
  pub names : (prefix_rejection ill_formed 2 1 0 [] ≡ 7)
      × (prefix_rejection ill_formed 0 0 0 [] ≡ 7)
      × (prefix_rejection ill_formed 0 9 0 [] ≡ 7)
      × (prefix_rejection ill_formed 0 1 16 [] ≡ 7)
  pub form : prefix_rejection ill_formed 0 8 15 [] ≡ 9
  pub index : prefix_rejection program_start 0 2 5 [] ≡ 10
  pub member : prefix_rejection after_one_take 0 1 15 [] ≡ 11
  pub room : (prefix_rejection after_one_take 0 1 1 [] ≡ 8) × (prefix_rejection after_one_take 0 1 1 (0 ∷ []) ≡ 0) × (prefix_rejection after_one_take 0 1 0 [] ≡ 0)

pub record TracedHosts : Type 0 where
  -- "nearest first", back to index 1; host 15 of index 8 is pending
  pub hosts : (trace_of after_last_index 0 7 5 ≡ 15 ∷ 1 ∷ 1 ∷ 1 ∷ 1 ∷ 1 ∷ 1 ∷ []) × (trace_of after_last_index 0 7 15 ≡ []) × (trace_of after_last_index 1 1 5 ≡ 2 ∷ [])
  -- 1, 7, 9, 10, 11
  pub wrong_length : trace_rejection too_short 9 1 0 ≡ 1
  pub names : (trace_rejection ill_formed 2 1 0 ≡ 7)
      × (trace_rejection ill_formed 0 0 0 ≡ 7)
      × (trace_rejection ill_formed 0 9 0 ≡ 7)
      × (trace_rejection ill_formed 0 1 16 ≡ 7)
  pub form : trace_rejection ill_formed 0 8 15 ≡ 9
  pub index : trace_rejection program_start 0 2 5 ≡ 10
  pub member : trace_rejection program_start 0 1 15 ≡ 11
  -- for C, 8 of either output before all of these
  pub room : (trace_answer too_short 0 1 0 (replicate 6 0) (0 ∷ []) ≡ 8)
      × (trace_answer too_short 0 1 0 (replicate 7 0) [] ≡ 8)
      × (trace_answer program_start 0 1 0 (replicate 7 0) (0 ∷ []) ≡ 0)
