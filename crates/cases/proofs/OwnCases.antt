-- The whole table (`own_cases`).
use Rattle.cases.specs.OwnCases.{OwnCases}
use Rattle.cases.proofs.States.{form}
use Rattle.cases.proofs.Effects.{effects}
use Rattle.cases.proofs.StepOrders.{setup_order, step_order, kind_orders, step_bounds, plan_bounds}
use Rattle.cases.proofs.Logs.{reader_order, writer_order, replay_order}
use Rattle.cases.proofs.TallyCases.{named, tally_left, tally_order}
use Rattle.cases.proofs.ListCases.{stable_histories, shown_prefixes, traced_hosts}
use Rattle.cases.proofs.Texts.{program_text, spreadsheet}

pub own_cases : OwnCases
own_cases =
    record {
      effects = effects;
      setup = setup_order;
      step = step_order;
      kinds = kind_orders;
      bounds = step_bounds;
      plans = plan_bounds;
      reader = reader_order;
      writer = writer_order;
      replay = replay_order;
      form = form;
      named = named;
      left = tally_left;
      tally = tally_order;
      histories = stable_histories;
      prefixes = shown_prefixes;
      traces = traced_hosts;
      program = program_text;
      spreadsheet = spreadsheet;
    }
