-- `wellformed_origins::origin::all_origins` meets its contract: where no replica is pending, the members before decide.
use native.Mathlib.Omega.{arith}
use mathlib.Core.Path.{◌∙◌}
use Rattle.wellformed_origins.proofs.OriginWords.{all_decided}
use Rattle.wellformed_origins.proofs.origin.all_origins.Goals as goal

pub returns-then-none_pending-2 : goal.returns-then-none_pending-2
returns-then-none_pending-2 c =
    let b = c.before-then-at-gt0.ensures in
    let d = c.before-then-none_pending-2.ensures in
    (rw (c.members_of.ensures, d.0, d.1) at c.all_named.ensures)
    ∙ all_decided _ _ _ (omega arith) (c.requires.0.few (omega arith)) c.if-none_pending-2.ensures (rw (b.0, b.1) at c.if-none_pending.ensures) _ c.requires.1
