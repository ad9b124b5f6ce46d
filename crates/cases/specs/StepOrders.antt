-- Which rejection of a setup or a step is told where two apply that stand next to each other in document 01's order.
--
-- Neighbours that never apply together are left out: 3 and 4; 1 and 9, since form is judged by shards and a wrong length has none; and adopt's 11 and 14,
-- since the orderer is a member. The next pair stands in their place: 3 and 7, 1 and 3, adopt's 11 and 12.
use Rattle.std.specs.Prelude.{◌≡◌, [], ◌∷◌, ◌++◌, replicate}
use Rattle.model.specs.Setup.{setup_rejection}
use Rattle.model.specs.Steps.{rejection}
use Rattle.model.specs.Log.{step_of}
use Rattle.model.specs.Marked.{add, adopt, learn, wedge, install, inherit, catch_up, answers_from, next_issue}
use Rattle.cases.specs.CaseRows.{tried}
use Rattle.cases.specs.Scripts.{rival_issue, later_issue, other_issue, unmarked, confirmed}
use Rattle.cases.specs.States.{too_short, ill_formed, borrowed, two_issues, full, after_replaced, late}

-- "Setup: 1, 2.": no state has this length, and no plan this
abbrev pub SetupOrder : Type 0
SetupOrder = setup_rejection too_short (0 ∷ []) ≡ 1

-- "A step: 1, 3, 4, 7, 9, then .."
pub record StepOrder : Type 0 where
  pub wrong_length : (rejection too_short (step_of 8 []) ≡ 1) × (rejection too_short (step_of 0 []) ≡ 1) × (rejection too_short (add 0 1 0) ≡ 1)
  pub kind : (tried (step_of 8 (9 ∷ []) ∷ []) ≡ 3 ∷ []) × (tried (step_of 0 (9 ∷ []) ∷ []) ≡ 4 ∷ [])
  pub numbers : rejection ill_formed (add 9 1 7) ≡ 7
  -- .. and the first check of each kind
  pub adds : rejection ill_formed (add 0 2 7) ≡ 9
  pub adopts : rejection ill_formed (adopt 0 2 1) ≡ 9
  pub learns : rejection ill_formed (learn 0 2 1 1) ≡ 9
  pub wedges : rejection ill_formed (wedge 0 2 1) ≡ 9
  pub installs : rejection ill_formed (install 0 2 1 0) ≡ 9
  pub inherits : rejection ill_formed (inherit 0 2 1 1) ≡ 9
  pub catches_up : rejection ill_formed (catch_up 0 2 1 1) ≡ 9

-- each kind: the first of two neighbours is told
pub record KindOrders : Type 0 where
  -- "add 10, 12, 17, 15, 16", and 23 "after 15 and before 16", which for a take are next to each other. An issue for another index, an issue for another
  -- shard, and a take that is an issue's word without its mark, are accepted
  pub adds : (tried (add 0 2 7 ∷ []) ≡ 10 ∷ [])
      × (tried (wedge 1 1 2 ∷ add 1 1 next_issue ∷ []) ≡ 0 ∷ 12 ∷ [])
      × (rejection borrowed (add 1 1 next_issue) ≡ 17)
      × (answers_from full (add 0 1 55 ∷ add 0 1 56 ∷ []) ≡ 15 ∷ 16 ∷ [])
      × (rejection two_issues (add 0 1 next_issue) ≡ 15)
      × (answers_from full (add 0 1 next_issue ∷ add 0 1 rival_issue ∷ add 0 1 later_issue ∷ []) ≡ 15 ∷ 23 ∷ 16 ∷ [])
      × (tried (add 0 1 next_issue ∷ add 0 1 later_issue ∷ []) ≡ 0 ∷ 0 ∷ [])
      × (rejection borrowed (add 1 1 other_issue) ≡ 0)
      × (tried (add 0 1 next_issue ∷ add 0 1 unmarked ∷ []) ≡ 0 ∷ 0 ∷ [])
  -- "adopt 10, 11, 14, 12, 13"
  pub adopts : (tried (adopt 0 2 5 ∷ []) ≡ 10 ∷ [])
      × (tried (adopt 0 1 5 ∷ []) ≡ 11 ∷ [])
      × (tried (wedge 0 1 0 ∷ adopt 0 1 0 ∷ []) ≡ 0 ∷ 14 ∷ [])
      × (answers_from after_replaced (inherit 1 2 5 3 ∷ wedge 1 2 5 ∷ adopt 1 2 5 ∷ []) ≡ 0 ∷ 0 ∷ 12 ∷ [])
  -- "confirm 10, 11, 12, 18, 19"
  pub learns : (tried (learn 0 2 5 0 ∷ []) ≡ 10 ∷ [])
      × (tried (learn 0 1 5 1 ∷ []) ≡ 11 ∷ [])
      × (tried (wedge 0 1 0 ∷ learn 0 1 0 0 ∷ []) ≡ 0 ∷ 12 ∷ [])
      × (answers_from after_replaced (inherit 1 2 5 3 ∷ learn 1 2 5 1 ∷ []) ≡ 0 ∷ 18 ∷ [])
  -- "wedge 10, 11, 12"
  pub wedges : (tried (wedge 0 2 5 ∷ []) ≡ 10 ∷ []) × (tried (wedge 0 1 5 ∷ []) ≡ 11 ∷ [])
  -- "install 10, 11, 20, 21, 22", and 24 "after 21 and before 22". It is told where no replica is immutable, where one is in the sequencer alone, and
  -- where one is in an older configuration alone
  pub installs : (tried (install 1 2 5 0 ∷ []) ≡ 10 ∷ [])
      × (tried (install 1 1 5 0 ∷ []) ≡ 11 ∷ [])
      × (tried (add 0 1 later_issue ∷ install 1 1 0 0 ∷ []) ≡ 0 ∷ 20 ∷ [])
      × (tried (confirmed later_issue ++ (install 1 1 0 0 ∷ [])) ≡ replicate 3 0 ++ (21 ∷ []))
      × (answers_from two_issues (wedge 1 1 3 ∷ install 1 1 0 0 ∷ install 1 1 0 1 ∷ []) ≡ 0 ∷ 0 ∷ 21 ∷ [])
      × (answers_from two_issues (install 1 1 0 1 ∷ wedge 1 1 3 ∷ install 1 1 0 1 ∷ []) ≡ 24 ∷ 0 ∷ 22 ∷ [])
      × (tried (confirmed next_issue ++ (install 1 1 0 0 ∷ wedge 1 1 2 ∷ install 1 1 0 0 ∷ [])) ≡ replicate 3 0 ++ (24 ∷ 0 ∷ 0 ∷ []))
      × (tried (confirmed next_issue ++ (wedge 0 1 0 ∷ wedge 0 1 1 ∷ install 1 1 0 0 ∷ [])) ≡ replicate 5 0 ++ (24 ∷ []))
      × (answers_from after_replaced (add 0 1 later_issue ∷ adopt 0 1 1 ∷ learn 0 1 0 2 ∷ install 1 1 0 1 ∷ []) ≡ 0 ∷ 0 ∷ 0 ∷ 24 ∷ [])
  -- .. of four hosts the third alone is immutable, or the fourth; at the last index, and once more
  pub installs_last : (answers_from late (install 0 2 5 50 ∷ wedge 0 7 5 ∷ install 0 2 5 50 ∷ install 0 2 5 50 ∷ []) ≡ 24 ∷ 0 ∷ 0 ∷ 21 ∷ [])
      × (answers_from late (wedge 0 7 15 ∷ install 0 2 5 49 ∷ install 0 2 5 50 ∷ []) ≡ 0 ∷ 20 ∷ 0 ∷ [])
  -- "inherit 10, 11, 12, 13"
  pub inherits : (tried (inherit 1 2 9 9 ∷ []) ≡ 10 ∷ [])
      × (answers_from after_replaced (inherit 1 2 9 3 ∷ []) ≡ 11 ∷ [])
      × (tried (inherit 1 1 2 3 ∷ []) ≡ 12 ∷ [])
  -- catch up: "the order is that of inherit". 13 is told of a peer that is pending, of the acting host itself, and of a host of the configuration before;
  -- a wedged peer is accepted
  pub catches_up : (tried (catch_up 1 2 9 9 ∷ []) ≡ 10 ∷ [])
      × (answers_from after_replaced (catch_up 1 2 9 3 ∷ []) ≡ 11 ∷ [])
      × (tried (catch_up 1 1 2 9 ∷ []) ≡ 12 ∷ [])
      × (answers_from after_replaced (catch_up 1 2 5 3 ∷ catch_up 1 2 5 5 ∷ catch_up 1 2 5 2 ∷ []) ≡ 13 ∷ 13 ∷ 13 ∷ [])
      × (answers_from after_replaced (inherit 1 2 3 3 ∷ wedge 1 2 3 ∷ catch_up 1 2 5 3 ∷ []) ≡ 0 ∷ 0 ∷ 0 ∷ [])
