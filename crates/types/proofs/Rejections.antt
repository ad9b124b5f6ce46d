-- A rejection is the one of its number, and no rejection has number 0.
use Prim.Native.Nat.{ℕ, zero, suc}
use mathlib.Core.Path.{◌≡◌, refl, sym}
use mathlib.Core.Bool.{Bool, true, false, cond, not, true≢false}
use lib.Dec.{ltb, eqb}
use native.Mathlib.Omega.{arith}
use borrow.Author.Tests.{eqb-true, eqb-false, ltb-true}
use Rattle.std.specs.Prelude.{Result, Ok, Err, is_err}
use Rattle.types.specs.declared.rejection.Rejection.{Rejection}
use Rattle.types.specs.declared.rejection.Rejection.TheVariants.{StateLength, Plan, KeptKind, UnknownKind, LogEnds, NumberForm, OutOfRange, OutputLength, NotWellFormed, NotInstalled, NotMember, WrongMode, NoSource, IsOrderer, EntryHeld, HistoryFull, NotSequencer, NotLonger, NotAlike, NoIssue, WrongIndex, IssuedBefore, RivalIssue, NotWedged}
use Rattle.types.specs.Rejections.{rejection_number, numbered, answer_number, answered}

pub numbered_back : (r : Rejection) → numbered (rejection_number r) ≡ r
unfolding numbered
numbered_back StateLength = refl
numbered_back Plan = refl
numbered_back KeptKind = refl
numbered_back UnknownKind = refl
numbered_back LogEnds = refl
numbered_back NumberForm = refl
numbered_back OutOfRange = refl
numbered_back OutputLength = refl
numbered_back NotWellFormed = refl
numbered_back NotInstalled = refl
numbered_back NotMember = refl
numbered_back WrongMode = refl
numbered_back NoSource = refl
numbered_back IsOrderer = refl
numbered_back EntryHeld = refl
numbered_back HistoryFull = refl
numbered_back NotSequencer = refl
numbered_back NotLonger = refl
numbered_back NotAlike = refl
numbered_back NoIssue = refl
numbered_back WrongIndex = refl
numbered_back IssuedBefore = refl
numbered_back RivalIssue = refl
numbered_back NotWedged = refl

pub number_not_0 : (r : Rejection) → eqb (rejection_number r) 0 ≡ false
number_not_0 StateLength = refl
number_not_0 Plan = refl
number_not_0 KeptKind = refl
number_not_0 UnknownKind = refl
number_not_0 LogEnds = refl
number_not_0 NumberForm = refl
number_not_0 OutOfRange = refl
number_not_0 OutputLength = refl
number_not_0 NotWellFormed = refl
number_not_0 NotInstalled = refl
number_not_0 NotMember = refl
number_not_0 WrongMode = refl
number_not_0 NoSource = refl
number_not_0 IsOrderer = refl
number_not_0 EntryHeld = refl
number_not_0 HistoryFull = refl
number_not_0 NotSequencer = refl
number_not_0 NotLonger = refl
number_not_0 NotAlike = refl
number_not_0 NoIssue = refl
number_not_0 WrongIndex = refl
number_not_0 IssuedBefore = refl
number_not_0 RivalIssue = refl
number_not_0 NotWedged = refl

-- the number of a rejection that a number names, 1 to 24, is that number
pub named_number : (n : ℕ) → eqb n 0 ≡ false → ltb n 25 ≡ true → rejection_number (numbered n) ≡ n
unfolding numbered
named_number zero e h = absurd (true≢false e)
named_number (suc zero) e h = refl
named_number (suc (suc zero)) e h = refl
named_number (suc (suc (suc zero))) e h = refl
named_number (suc (suc (suc (suc zero)))) e h = refl
named_number (suc (suc (suc (suc (suc zero))))) e h = refl
named_number (suc (suc (suc (suc (suc (suc zero)))))) e h = refl
named_number (suc (suc (suc (suc (suc (suc (suc zero))))))) e h = refl
named_number (suc (suc (suc (suc (suc (suc (suc (suc zero)))))))) e h = refl
named_number (suc (suc (suc (suc (suc (suc (suc (suc (suc zero))))))))) e h = refl
named_number (suc (suc (suc (suc (suc (suc (suc (suc (suc (suc zero)))))))))) e h = refl
named_number (suc (suc (suc (suc (suc (suc (suc (suc (suc (suc (suc zero))))))))))) e h = refl
named_number (suc (suc (suc (suc (suc (suc (suc (suc (suc (suc (suc (suc zero)))))))))))) e h = refl
named_number (suc (suc (suc (suc (suc (suc (suc (suc (suc (suc (suc (suc (suc zero))))))))))))) e h = refl
named_number (suc (suc (suc (suc (suc (suc (suc (suc (suc (suc (suc (suc (suc (suc zero)))))))))))))) e h = refl
named_number (suc (suc (suc (suc (suc (suc (suc (suc (suc (suc (suc (suc (suc (suc (suc zero))))))))))))))) e h = refl
named_number (suc (suc (suc (suc (suc (suc (suc (suc (suc (suc (suc (suc (suc (suc (suc (suc zero)))))))))))))))) e h = refl
named_number (suc (suc (suc (suc (suc (suc (suc (suc (suc (suc (suc (suc (suc (suc (suc (suc (suc zero))))))))))))))))) e h = refl
named_number (suc (suc (suc (suc (suc (suc (suc (suc (suc (suc (suc (suc (suc (suc (suc (suc (suc (suc zero)))))))))))))))))) e h = refl
named_number (suc (suc (suc (suc (suc (suc (suc (suc (suc (suc (suc (suc (suc (suc (suc (suc (suc (suc (suc zero))))))))))))))))))) e h = refl
named_number (suc (suc (suc (suc (suc (suc (suc (suc (suc (suc (suc (suc (suc (suc (suc (suc (suc (suc (suc (suc zero)))))))))))))))))))) e h = refl
named_number (suc (suc (suc (suc (suc (suc (suc (suc (suc (suc (suc (suc (suc (suc (suc (suc (suc (suc (suc (suc (suc zero))))))))))))))))))))) e h = refl
named_number (suc (suc (suc (suc (suc (suc (suc (suc (suc (suc (suc (suc (suc (suc (suc (suc (suc (suc (suc (suc (suc (suc zero)))))))))))))))))))))) e h = refl
named_number (suc (suc (suc (suc (suc (suc (suc (suc (suc (suc (suc (suc (suc (suc (suc (suc (suc (suc (suc (suc (suc (suc (suc zero))))))))))))))))))))))) e h = refl
named_number (suc (suc (suc (suc (suc (suc (suc (suc (suc (suc (suc (suc (suc (suc (suc (suc (suc (suc (suc (suc (suc (suc (suc (suc zero)))))))))))))))))))))))) e h = refl
named_number (suc (suc (suc (suc (suc (suc (suc (suc (suc (suc (suc (suc (suc (suc (suc (suc (suc (suc (suc (suc (suc (suc (suc (suc (suc n))))))))))))))))))))))))) e h = absurd (omega (arith, ltb-true _ 25 h))

pub answered_number : {A : Type 0} (n : ℕ) (x : A) → ltb n 25 ≡ true → answer_number (answered n x) ≡ n
unfolding answered
answered_number {A} n x h = go (eqb n 0) refl
  where
    go : (t : Bool) → eqb n 0 ≡ t → answer_number (cond {A = Result A Rejection} t (Ok x) (Err (numbered n))) ≡ n
    go true e = sym (eqb-true n 0 e)
    go false e = named_number n e h

-- a rejection is the answer of its number
pub rejected_answer : {A : Type 0} (r : Rejection) (x : A) → Err r ≡ answered (rejection_number r) x
unfolding answered
rejected_answer r x = rw (number_not_0 r, numbered_back r)

-- an answer is an error where its number is not 0
pub error_number : {A : Type 0} (r : Result A Rejection) → eqb (answer_number r) 0 ≡ not (is_err r)
error_number (Ok x) = refl
error_number (Err e) = number_not_0 e

pub number_positive : (r : Rejection) → rejection_number r ≡ 0 → ⊥
number_positive r = eqb-false (rejection_number r) 0 (number_not_0 r)
