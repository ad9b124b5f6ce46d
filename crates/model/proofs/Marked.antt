-- The proof of `specs/Marked.antt`: setup's state is well-formed, so every row computes.
use mathlib.Core.Path.{◌≡◌, refl, ◌∙◌}
use lib.Count.{ones}
use Rattle.model.specs.Tests.{all_below, any_below, all_of, concat_below, contains}
use Rattle.model.specs.Checks.{first_of}
use Rattle.types.specs.Kinds.{kind_of, is_kept, is_unknown, used_numbers}
use Rattle.model.specs.Entries.{is_take, issue, is_issue, issue_shard, issue_index, issue_orderer, issue_members, is_proper_issue, is_entry, is_issue_for, rivals}
use Rattle.types.specs.Members.{is_host, has_member, replica_number, is_member_set, is_configuration}
use Rattle.model.specs.Replicas.{read_replica, replica_words, unused, fresh, is_active, is_pending, is_immutable, added, adopted, learned, wedged, pending}
use Rattle.model.specs.Layout.{head_place, place, head_word, sequencer, installed, members, orderer, is_installed, part, replica_at, put_replica, put_head}
use Rattle.model.specs.Configuration.{configuration, replica_of}
use Rattle.types.specs.ReplicaPlace.{replica_place}
use Rattle.model.specs.Setup.{plan_sequencer, plan_members, plan_orderer, initial_head, initial_replica, initial_shard, initial_state}
use Rattle.model.specs.Transcript.{program_plan, program_start}
use Rattle.model.specs.Add.{orderer_place, orderer_replica, may_issue, no_rival, add_checks, add_effect}
use Rattle.model.specs.Adopt.{adopt_checks, adopt_effect}
use Rattle.model.specs.Learn.{alike, all_alike, learn_checks, learn_effect}
use Rattle.model.specs.Wedge.{wedge_checks, wedge_effect}
use Rattle.model.specs.Install.{issuer, issued_at, is_stable_issue, none_before, is_wedged, is_newest_wedged, install_checks, put_pending, install_next}
use Rattle.model.specs.Install.{install_effect}
use Rattle.model.specs.Inherit.{source, is_source, inherit_checks}
use Rattle.types.specs.StepNames.{shard_of, configuration_of}
use Rattle.model.specs.Steps.{are_numbers, in_range, kind_checks, kind_effect, effect}
use Rattle.model.specs.Numbers.{with_lower, read_groups, read_number, with_first, after_first, read_numbers}
use Rattle.model.specs.Log.{step_of, after_numbers, after_kind, read_step}
use Rattle.model.specs.Marked.{Case, answers, reads, word, Holds, none, next, takes_up_to, next_issue, marked, MarkedCases}
use Rattle.model.proofs.ProgramStart.{start_formed}
use Rattle.model.proofs.Answers.{quick_rejection, quick_after, quick_answers, quick_answers_lem}

-- what is left to compute of a row: `refl` proves it
Computes : Case → Type 0
Computes (answers ss ns) = quick_answers 2 program_start ss ≡ ns
Computes (reads bs r) = read_step bs ≡ r
Computes (word e n) = e ≡ n

computed : (c : Case) → Computes c → Holds c
unfolding Computes Holds
computed (answers ss ns) e = quick_answers_lem start_formed ss ∙ e
computed (reads bs r) e = e
computed (word x n) e = e

pub marked_cases : MarkedCases
unfolding MarkedCases marked Computes takes_up_to next_issue issue
    program_start initial_state program_plan plan_sequencer plan_members plan_orderer concat_below initial_shard initial_head initial_replica
    replica_words read_replica fresh unused pending is_active is_pending is_immutable added adopted learned wedged
    quick_answers quick_rejection quick_after first_of kind_of is_kept is_unknown shard_of configuration_of in_range are_numbers kind_checks effect kind_effect
    is_entry is_take is_proper_issue is_issue is_issue_for issue_index issue_shard issue_orderer issue_members rivals
    is_configuration is_member_set is_host has_member ones contains all_below any_below all_of
    head_word head_place sequencer installed is_installed members orderer put_head
    configuration place replica_place replica_number replica_of replica_at part put_replica
    orderer_place orderer_replica may_issue no_rival add_checks add_effect adopt_checks adopt_effect
    alike all_alike learn_checks learn_effect wedge_checks wedge_effect
    issuer issued_at is_stable_issue none_before is_wedged is_newest_wedged install_checks install_effect install_next put_pending source is_source inherit_checks
    read_step read_number read_groups with_lower read_numbers after_first with_first after_kind after_numbers used_numbers step_of
marked_cases =
    next (computed _ refl)
    (next (computed _ refl)
    (next (computed _ refl)
    (next (computed _ refl)
    (next (computed _ refl)
    (next (computed _ refl)
    (next (computed _ refl)
    (next (computed _ refl)
    (next (computed _ refl)
    (next (computed _ refl)
    (next (computed _ refl)
    (next (computed _ refl)
    (next (computed _ refl)
    (next (computed _ refl)
    (next (computed _ refl)
    (next (computed _ refl) none)))))))))))))))
