-- `wellformed_origins::origin::names_source` meets its contract, by the laws of an origin that names a member.
use native.Mathlib.Omega.{arith}
use mathlib.Core.Path.{sym}
use Rattle.model.proofs.Origins.{member_named}
use Rattle.wellformed_origins.proofs.OriginWords.{names_none, source_fits, names_mode}
use Rattle.wellformed_origins.proofs.origin.names_source.Goals as goal

pub returns-then-not-names_member : goal.returns-then-not-names_member
returns-then-not-names_member c =
    let b = c.before-before.ensures in
    names_none _ _ _ _ _ (rw (b.0, b.1) at c.members_of-members.ensures) c.if-not-names_member.ensures

pub overflow_sub-x : goal.overflow_sub-x
overflow_sub-x c = omega (arith, (member_named _ _ (sym c.if-not-names_member.ensures)).0)

pub below-number-requires : goal.below-number-requires
below-number-requires c = omega (arith, (member_named _ _ (sym c.if-not-names_member.ensures)).1)

pub offset_bounds-state-replica : goal.offset_bounds-state-replica
offset_bounds-state-replica c =
    let b = c.before-before.ensures in
    let fits = source_fits _ _ _ _ _ (rw (b.0, b.1) at c.members_of-members.ensures) c.if-not-names_member.ensures c.requires.0 c.requires.1 in
    omega (arith, fits, rw (b.0, b.1, c.below-number.ensures) at c.replica.ensures)

pub bounds-state-replica : goal.bounds-state-replica
bounds-state-replica c =
    let b = c.before-before.ensures in
    let fits = source_fits _ _ _ _ _ (rw (b.0, b.1) at c.members_of-members.ensures) c.if-not-names_member.ensures c.requires.0 c.requires.1 in
    omega (arith, fits, rw (b.0, b.1, c.below-number.ensures) at c.replica.ensures)

pub returns : goal.returns
returns c =
    let b = c.before-before.ensures in
    names_mode _ _ _ _ _ (rw (b.0, b.1) at c.members_of-members.ensures) c.if-not-names_member.ensures _
    (rw (b.0, b.1, c.below-number.ensures) at c.replica.ensures)
