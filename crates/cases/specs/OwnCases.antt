-- Cases of our own beside the marked ones, as one table with known answers and one claim. A definition and the code that follows it can be wrong together;
-- a row then gives another answer. It is proved in `proofs/OwnCases.antt` (`own_cases`).
use Rattle.cases.specs.Effects.{Effects}
use Rattle.cases.specs.StepOrders.{SetupOrder, StepOrder, KindOrders}
use Rattle.cases.specs.Bounds.{StepBounds, PlanBounds}
use Rattle.cases.specs.Logs.{ReaderOrder, WriterOrder, ReplayOrder}
use Rattle.cases.specs.Form.{Form}
use Rattle.cases.specs.TallyCases.{Named, TallyLeft, TallyOrder}
use Rattle.cases.specs.ListCases.{StableHistories, ShownPrefixes, TracedHosts}
use Rattle.cases.specs.Texts.{ProgramText, Spreadsheet}

pub record OwnCases : Type 0 where
  pub effects : Effects
  pub setup : SetupOrder
  pub step : StepOrder
  pub kinds : KindOrders
  pub bounds : StepBounds
  pub plans : PlanBounds
  pub reader : ReaderOrder
  pub writer : WriterOrder
  pub replay : ReplayOrder
  pub form : Form
  pub named : Named
  pub left : TallyLeft
  pub tally : TallyOrder
  pub histories : StableHistories
  pub prefixes : ShownPrefixes
  pub traces : TracedHosts
  pub program : ProgramText
  pub spreadsheet : Spreadsheet
