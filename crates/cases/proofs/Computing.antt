-- The definitions that rows compute with, in groups: to unfold one of these names is to unfold all that stands on its own line.
use Prim.Native.Nat.{ℕ}
use lib.Count.{ones}
use Rattle.model.specs.Tests.{all_below, any_below, all_of, concat_below, same, contains}
use Rattle.model.specs.Checks.{first_of}
use Rattle.types.specs.Kinds.{kind_of, is_kept, is_unknown, used_numbers}
use Rattle.model.specs.Entries.{is_take, issue, is_issue, issue_shard, issue_index, issue_orderer, issue_members, is_proper_issue, is_entry, is_issue_for, names, rivals}
use Rattle.types.specs.Members.{is_host, has_member, replica_number, is_member_set, is_configuration}
use Rattle.model.specs.Replicas.{read_replica, replica_words, unused, fresh, is_active, is_pending, is_immutable}
use Rattle.model.specs.Replicas.{added, adopted, learned, wedged, pending, inherited, caught_up}
use Rattle.model.specs.Layout.{shards_of, head_place, place, head_word, sequencer, installed, members, orderer, is_installed}
use Rattle.model.specs.Layout.{part, replica_at, put_replica, put_head}
use Rattle.model.specs.Configuration.{configuration, replica_of, replica_in}
use Rattle.types.specs.ReplicaPlace.{replica_place}
use Rattle.model.specs.Setup.{plan_sequencer, plan_members, plan_orderer, initial_head, initial_replica, initial_shard, initial_state}
use Rattle.model.specs.Origins.{names_member, names_source, is_origin_of}
use Rattle.model.specs.WellFormed.{is_replica, is_unused, is_part, is_sequencer, all_differ, is_head_of, is_configuration_of, is_shard, well_formed}
use Rattle.model.specs.Add.{orderer_place, orderer_replica, may_issue, no_rival, add_checks, add_effect}
use Rattle.model.specs.Adopt.{adopt_checks, adopt_effect}
use Rattle.model.specs.Learn.{alike, all_alike, learn_checks, learn_effect}
use Rattle.model.specs.Wedge.{wedge_checks, wedge_effect}
use Rattle.model.specs.Install.{issuer, issued_at, is_stable_issue, none_before, is_wedged, is_newest_wedged, install_checks, put_pending, install_next, install_effect}
use Rattle.model.specs.Inherit.{source, is_source, inherit_checks, inherit_effect}
use Rattle.model.specs.CatchUp.{is_peer, catch_up_checks, catch_up_effect}
use Rattle.types.specs.StepNames.{shard_of, configuration_of}
use Rattle.model.specs.Steps.{are_numbers, in_range, kind_checks, kind_effect, effect}
use Rattle.model.specs.Numbers.{with_lower, read_groups, read_number, with_first, after_first, read_numbers}
use Rattle.model.specs.Log.{step_of, after_numbers, after_kind, read_step, with_step, stopped, is_empty, log_after, read_log}
use Rattle.model.specs.Transcript.{program_plan, program_start}
use Rattle.model.specs.Marked.{next_issue}
use Rattle.model.proofs.Answers.{quick_rejection, quick_after, quick_answers}
use Rattle.cases.specs.CaseRows.{changed}
use Rattle.cases.specs.Scripts.{rival_issue, later_issue, other_issue, unmarked, four_hosts, last_issue, up_to}
use Rattle.cases.specs.Scripts.{one_take, confirmed, replaced, gone_on, two_sources, caught_up_after, last_index}
use Rattle.cases.specs.States.{too_short, ill_formed, borrowed, two_issues, full, unlike, late, began_empty}
use Rattle.cases.specs.Effects.{replaced_words, last_index_words}
use Rattle.cases.proofs.Quick.{quick_after_all}

-- the states and the steps of the table
unfoldable pub given_cases : ℕ
unfolding program_start initial_state program_plan plan_sequencer plan_members plan_orderer concat_below initial_shard initial_head initial_replica
    replica_words fresh unused ones changed up_to began_empty replaced_words last_index_words too_short ill_formed borrowed two_issues full unlike late
    one_take confirmed replaced gone_on two_sources caught_up_after last_index
    issue next_issue rival_issue later_issue other_issue unmarked four_hosts last_issue step_of
given_cases = 0

-- the words of a state, its configurations and its replicas; hosts, member sets and entries
unfoldable pub state_reading : ℕ
unfolding shards_of head_word head_place sequencer installed is_installed members orderer
    configuration place replica_place replica_number replica_of replica_in replica_at part read_replica replica_words is_active is_pending is_immutable
    is_configuration is_member_set is_host has_member ones all_below any_below all_of contains
    is_entry is_take is_proper_issue is_issue is_issue_for issue_index issue_shard issue_orderer issue_members names rivals
state_reading = 0

-- the test of a whole state
unfoldable pub form_testing : ℕ
unfolding state_reading well_formed is_shard is_configuration_of is_head_of all_differ is_sequencer is_part is_unused is_replica same
    is_origin_of names_source names_member source
form_testing = 0

-- what a step on a well-formed state answers and leaves
unfoldable pub step_trying : ℕ
unfolding state_reading quick_answers quick_after_all quick_rejection quick_after
    first_of kind_of is_kept is_unknown shard_of configuration_of in_range are_numbers kind_checks effect kind_effect
    added adopted learned wedged pending inherited caught_up put_replica put_head
    orderer_place orderer_replica may_issue no_rival add_checks add_effect adopt_checks adopt_effect
    alike all_alike learn_checks learn_effect wedge_checks wedge_effect
    issuer issued_at is_stable_issue none_before is_wedged is_newest_wedged install_checks install_effect install_next put_pending
    source is_source inherit_checks inherit_effect is_peer catch_up_checks catch_up_effect
step_trying = 0

-- what a log's bytes read to
unfoldable pub log_reading : ℕ
unfolding kind_of is_kept is_unknown used_numbers step_of
    read_step read_number read_groups with_lower read_numbers after_first with_first after_kind after_numbers
    read_log log_after with_step stopped is_empty
log_reading = 0
