-- `types::kind::Kind::try_from` meets its contract.
use Prim.Native.Nat.{◌≤◌}
use native.Mathlib.Omega.{arith}
use mathlib.Core.Bool.{true, false}
use mathlib.Core.Path.{◌≡◌}
use lib.Dec.{leb}
use borrow.Author.Tests.{le-leb, lt-leb}
use Rattle.types.specs.Kinds.{kind_of}
use Rattle.types.proofs.KindNumbers.{late_kind, names_kind}
use Rattle.types.proofs.kind.KindTryFromU64.try_from.Goals as goal

pub returns-in-1 : goal.returns-in-1
unfolding kind_of
returns-in-1 c =
    names_kind c.args.number (simp c.in-1.is)

pub returns-in-2 : goal.returns-in-2
unfolding kind_of
returns-in-2 c =
    names_kind c.args.number (simp c.in-2.is)

pub returns-in-3 : goal.returns-in-3
unfolding kind_of
returns-in-3 c =
    names_kind c.args.number (simp c.in-3.is)

pub returns-in-4 : goal.returns-in-4
unfolding kind_of
returns-in-4 c =
    names_kind c.args.number (simp c.in-4.is)

pub returns-in-5 : goal.returns-in-5
unfolding kind_of
returns-in-5 c =
    names_kind c.args.number (simp c.in-5.is)

pub returns-in-6 : goal.returns-in-6
unfolding kind_of
returns-in-6 c =
    names_kind c.args.number (simp c.in-6.is)

pub returns-in-7 : goal.returns-in-7
unfolding kind_of
returns-in-7 c =
    names_kind c.args.number (simp c.in-7.is)

pub returns-in-0 : goal.returns-in-0
unfolding kind_of
returns-in-0 c =
    names_kind c.args.number (simp c.in-0.is)

pub returns-in-8-to-31 : goal.returns-in-8-to-31
returns-in-8-to-31 c =
    let late : 8 ≤ c.args.number = omega arith in
    let q : leb c.args.number 31 ≡ true = le-leb _ _ (omega arith) in
    names_kind c.args.number (rw (late_kind c.args.number late, q))

pub returns-in_default : goal.returns-in_default
returns-in_default c =
    let late : 8 ≤ c.args.number = omega arith in
    let q : leb c.args.number 31 ≡ false = lt-leb _ _ (omega arith) in
    names_kind c.args.number (rw (late_kind c.args.number late, q))
