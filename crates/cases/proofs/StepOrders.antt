-- Orders and bounds of setup's and steps' rejections.
use Prim.Native.Nat.{ℕ}
use mathlib.Core.Path.{◌≡◌, refl}
use mathlib.Core.Bool.{cond, not}
use mathlib.Core.List.{List}
use Rattle.types.specs.declared.step.Step.{Step}
use Rattle.model.specs.Checks.{first_of}
use Rattle.types.specs.Kinds.{kind_of, is_kept, is_unknown}
use Rattle.model.specs.Layout.{shards_of, is_state_length}
use Rattle.model.specs.WellFormed.{is_sequencer, all_differ}
use Rattle.model.specs.Setup.{is_planned_shard, is_plan, setup_rejection}
use Rattle.model.specs.Steps.{in_range, step_checks, rejection}
use Rattle.model.specs.Transcript.{program_start}
use Rattle.model.specs.Marked.{answers_from}
use Rattle.model.proofs.ProgramStart.{start_shards, start_formed}
use Rattle.model.proofs.Answers.{quick_answers}
use Rattle.cases.specs.CaseRows.{tried, changed}
use Rattle.cases.specs.States.{too_short, ill_formed, after_replaced}
use Rattle.cases.specs.Effects.{replaced_words}
use Rattle.cases.specs.StepOrders.{SetupOrder, StepOrder, KindOrders}
use Rattle.cases.specs.Bounds.{StepBounds, PlanBounds}
use Rattle.cases.proofs.Quick.{answers_by, answer_by}
use Rattle.cases.proofs.Computing.{given_cases, state_reading, step_trying}
use Rattle.cases.proofs.States.{ill_shards, ill_formed_lem, borrowed_formed, two_issues_formed, full_formed, replaced_formed, late_formed}
use Rattle.cases.proofs.Effects.{replaced_is}

-- after the program's setup
from_start : (ss : List Step) {ns : List ℕ} → quick_answers 2 program_start ss ≡ ns → tried ss ≡ ns
from_start = answers_by start_formed refl

after-replaced : (ss : List Step) {ns : List ℕ} → quick_answers 2 (changed program_start replaced_words) ss ≡ ns → answers_from after_replaced ss ≡ ns
after-replaced = answers_by replaced_formed replaced_is

-- on the state that is not well-formed
on_ill : (s : Step) {n : ℕ} → cond (not (is_kept (kind_of s.kind))) (cond (not (is_unknown (kind_of s.kind))) (cond (in_range 2 s) 9 7) 4) 3 ≡ n
    → rejection ill_formed s ≡ n
unfolding rejection step_checks first_of is_state_length
on_ill s e = rw (ill_shards, ill_formed_lem) e

-- on the state of a wrong length
on_short : (s : Step) → rejection too_short s ≡ 1
unfolding rejection step_checks first_of is_state_length shards_of too_short
on_short s = refl

pub setup_order : SetupOrder
unfolding given_cases state_reading setup_rejection first_of is_state_length
setup_order = refl

pub step_order : StepOrder
unfolding given_cases step_trying
step_order =
    record {
      wrong_length = (on_short _, on_short _, on_short _);
      kind = (from_start _ refl, from_start _ refl);
      numbers = on_ill _ refl;
      adds = on_ill _ refl;
      adopts = on_ill _ refl;
      learns = on_ill _ refl;
      wedges = on_ill _ refl;
      installs = on_ill _ refl;
      inherits = on_ill _ refl;
      catches_up = on_ill _ refl;
    }

pub kind_orders : KindOrders
unfolding given_cases step_trying
kind_orders =
    record {
      adds = (
        from_start _ refl,
        from_start _ refl,
        answer_by borrowed_formed refl _ refl,
        answers_by full_formed refl _ refl,
        answer_by two_issues_formed refl _ refl,
        answers_by full_formed refl _ refl,
        from_start _ refl,
        answer_by borrowed_formed refl _ refl,
        from_start _ refl,
      );
      adopts = (from_start _ refl, from_start _ refl, from_start _ refl, after-replaced _ refl);
      learns = (from_start _ refl, from_start _ refl, from_start _ refl, after-replaced _ refl);
      wedges = (from_start _ refl, from_start _ refl);
      installs = (
        from_start _ refl,
        from_start _ refl,
        from_start _ refl,
        from_start _ refl,
        answers_by two_issues_formed refl _ refl,
        answers_by two_issues_formed refl _ refl,
        from_start _ refl,
        from_start _ refl,
        after-replaced _ refl,
      );
      installs_last = (answers_by late_formed refl _ refl, answers_by late_formed refl _ refl);
      inherits = (from_start _ refl, after-replaced _ refl, from_start _ refl);
      catches_up = (from_start _ refl, after-replaced _ refl, from_start _ refl, after-replaced _ refl, after-replaced _ refl);
    }

pub step_bounds : StepBounds
unfolding given_cases step_trying
step_bounds =
    record {
      kinds = from_start _ refl;
      shards = from_start _ refl;
      indices = from_start _ refl;
      hosts = from_start _ refl;
      issuers = from_start _ refl;
      sources = from_start _ refl;
      peers = from_start _ refl;
      lengths = from_start _ refl;
      places = from_start _ refl;
      unused_numbers = from_start _ refl;
      takes = from_start _ refl;
      issued_indices = from_start _ refl;
      issued_shards = from_start _ refl;
      issued_members = from_start _ refl;
    }

-- what setup of a plan answers where the state has two shards
setup_of : (p : List ℕ) {n : ℕ} → cond (is_plan 2 p) 0 2 ≡ n → setup_rejection program_start p ≡ n
unfolding setup_rejection first_of is_state_length
setup_of p e = rw start_shards e

pub plan_bounds : PlanBounds
unfolding given_cases state_reading is_plan is_planned_shard is_sequencer all_differ
plan_bounds =
    record {
      four_members = setup_of _ refl;
      five_members = setup_of _ refl;
      no_member = setup_of _ refl;
      twice = setup_of _ refl;
      shorter = setup_of _ refl;
    }
