-- The rejections by their numbers (document 01, "Refusals"), and answers by theirs: "A refusal is its number, other results 0".
use Rattle.std.specs.Prelude.{ℕ, cond, eqb, Result, Ok, Err}
use Rattle.types.specs.declared.kind.NoKind.{NoKind}
use Rattle.types.specs.declared.kind.NoKind.TheVariants.{Kept, Unknown}
use Rattle.types.specs.declared.rejection.Rejection.{Rejection}
use Rattle.types.specs.declared.rejection.Rejection.TheVariants.{StateLength, Plan, KeptKind, UnknownKind, LogEnds, NumberForm, OutOfRange, OutputLength, NotWellFormed, NotInstalled, NotMember, WrongMode, NoSource, IsOrderer, EntryHeld, HistoryFull, NotSequencer, NotLonger, NotAlike, NoIssue, WrongIndex, IssuedBefore, RivalIssue, NotWedged}

abbrev pub rejection_number : Rejection → ℕ
rejection_number StateLength = 1
rejection_number Plan = 2
rejection_number KeptKind = 3
rejection_number UnknownKind = 4
rejection_number LogEnds = 5
rejection_number NumberForm = 6
rejection_number OutOfRange = 7
rejection_number OutputLength = 8
rejection_number NotWellFormed = 9
rejection_number NotInstalled = 10
rejection_number NotMember = 11
rejection_number WrongMode = 12
rejection_number NoSource = 13
rejection_number IsOrderer = 14
rejection_number EntryHeld = 15
rejection_number HistoryFull = 16
rejection_number NotSequencer = 17
rejection_number NotLonger = 18
rejection_number NotAlike = 19
rejection_number NoIssue = 20
rejection_number WrongIndex = 21
rejection_number IssuedBefore = 22
rejection_number RivalIssue = 23
rejection_number NotWedged = 24

-- the rejection that a number names; of 0 and the numbers above 24, which name none, it is asked for nowhere
unfoldable pub numbered : ℕ → Rejection
numbered n =
    cond (eqb n 1) StateLength
    (cond (eqb n 2) Plan
    (cond (eqb n 3) KeptKind
    (cond (eqb n 4) UnknownKind
    (cond (eqb n 5) LogEnds
    (cond (eqb n 6) NumberForm
    (cond (eqb n 7) OutOfRange
    (cond (eqb n 8) OutputLength
    (cond (eqb n 9) NotWellFormed
    (cond (eqb n 10) NotInstalled
    (cond (eqb n 11) NotMember
    (cond (eqb n 12) WrongMode
    (cond (eqb n 13) NoSource
    (cond (eqb n 14) IsOrderer
    (cond (eqb n 15) EntryHeld
    (cond (eqb n 16) HistoryFull
    (cond (eqb n 17) NotSequencer
    (cond (eqb n 18) NotLonger
    (cond (eqb n 19) NotAlike
    (cond (eqb n 20) NoIssue
    (cond (eqb n 21) WrongIndex
    (cond (eqb n 22) IssuedBefore
    (cond (eqb n 23) RivalIssue NotWedged))))))))))))))))))))))

-- 3 or 4, where a number is no kind's
abbrev pub no_kind_rejection : NoKind → Rejection
no_kind_rejection Kept = KeptKind
no_kind_rejection Unknown = UnknownKind

-- the number of an answer: that of its rejection, or 0
abbrev pub answer_number : {A : Type 0} → Result A Rejection → ℕ
answer_number (Ok x) = 0
answer_number (Err r) = rejection_number r

-- the answer that has a number: x, or the rejection
unfoldable pub answered : {A : Type 0} → ℕ → A → Result A Rejection
answered n x = cond (eqb n 0) (Ok x) (Err (numbered n))

-- what writing to an output gives: the count of what was written, or the rejection
abbrev pub Written : Type 0
Written = Result ℕ Rejection

unfoldable pub answer_count : Written → ℕ
answer_count (Ok n) = n
answer_count (Err r) = 0
