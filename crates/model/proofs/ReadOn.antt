-- Bytes that follow a log change nothing of the steps read from it: a longer log reads to these steps and then others. Assumes nothing.
use Rattle.std.specs.Prelude.{Ok, Err, Some, None}
use Rattle.types.specs.declared.rejection.Rejection.TheVariants.{KeptKind, UnknownKind, NumberForm}
use Rattle.model.specs.Numbers.{ReadNumber, valued}
use Rattle.model.specs.Log.{ReadStep, one_step}
use Prim.Native.Nat.{ℕ, zero, suc, ◌%◌}
use mathlib.Core.Path.{◌≡◌, refl, ap}
use mathlib.Core.Bool.{Bool, true, false, cond, not, ◌&&◌}
use mathlib.Core.List.{List, [], ◌∷◌, ◌++◌}
use lib.Dec.{ltb, eqb}
use lib.ListN.{drop}
use lib.Seq.{drop-append-le}
use Rattle.types.specs.declared.step.Step.{Step}
use Rattle.types.specs.Kinds.{kind_of, is_kept, is_unknown, used_numbers}
use Rattle.model.specs.Numbers.{most_bytes, Numbers, values, rejected, with_lower, read_groups, read_number, with_first, after_first, read_numbers}
use Rattle.model.specs.Log.{after_numbers, after_kind, read_step, with_step, stopped, log_after, read_log}
use Rattle.model.proofs.Numbers.{number_within}
use Rattle.model.proofs.RoundTrip.{step_within}

-- ---- a number, several numbers, a step

-- what was read from the bytes, of the same bytes with more behind them: a value stays
abbrev Stays : ReadNumber → ReadNumber → Type 0
Stays (Ok read) r = r ≡ valued read.value read.bytes
Stays (Err x) r = Unit {0}

lower_stays : (x : ℕ) (a b : ReadNumber) → Stays a b → Stays (with_lower x a) (with_lower x b)
unfolding with_lower
lower_stays x (Ok read) b e = rw e
lower_stays x (Err r) b e = tt

last_stays : (t : Bool) (b : ℕ) → Stays (cond t (Err NumberForm) (valued b 1)) (cond t (Err NumberForm) (valued b 1))
last_stays true b = tt
last_stays false b = refl

groups_stay : (k : ℕ) (is_first : Bool) (bs more : List ℕ) → Stays (read_groups k is_first bs) (read_groups k is_first (bs ++ more))
unfolding read_groups
groups_stay zero is_first bs more = tt
groups_stay (suc k) is_first [] more = tt
groups_stay (suc k) is_first (b ∷ bs) more = go (ltb b 128) (groups_stay k false bs more)
  where
    go : (t : Bool) → Stays (read_groups k false bs) (read_groups k false (bs ++ more))
        → Stays (cond t (cond (eqb b 0 && not is_first) (Err NumberForm) (valued b 1)) (with_lower (b % 128) (read_groups k false bs)))
        (cond t (cond (eqb b 0 && not is_first) (Err NumberForm) (valued b 1)) (with_lower (b % 128) (read_groups k false (bs ++ more))))
    go true s = last_stays (eqb b 0 && not is_first) b
    go false s = lower_stays (b % 128) (read_groups k false bs) (read_groups k false (bs ++ more)) s

number_stays : (bs more : List ℕ) {v n : ℕ} → read_number bs ≡ valued v n → read_number (bs ++ more) ≡ valued v n
unfolding read_number
number_stays bs more e = rw e at (groups_stay most_bytes true bs more)

-- the same of several numbers
abbrev AllStay : Numbers → Numbers → Type 0
AllStay (values vs m) r = r ≡ values vs m
AllStay (rejected x) r = Unit {0}

first_stays : (v n : ℕ) (a b : Numbers) → AllStay a b → AllStay (with_first v n a) (with_first v n b)
unfolding with_first
first_stays v n (values vs m) b e = rw e
first_stays v n (rejected r) b e = tt

numbers_stay : (count : ℕ) (bs more : List ℕ) → AllStay (read_numbers count bs) (read_numbers count (bs ++ more))
unfolding read_numbers after_first
numbers_stay zero bs more = refl
numbers_stay (suc count) bs more = go (read_number bs) refl (λ n. numbers_stay count (drop n bs) more)
  where
    go : (r : ReadNumber) → read_number bs ≡ r → ((n : ℕ) → AllStay (read_numbers count (drop n bs)) (read_numbers count (drop n bs ++ more)))
        → AllStay (after_first r (λ n. read_numbers count (drop n bs)))
        (after_first (read_number (bs ++ more)) (λ n. read_numbers count (drop n (bs ++ more))))
    go (Ok read) e rest =
        rw (number_stays bs more e, drop-append-le read.bytes bs more (number_within bs e))
        (first_stays read.value read.bytes (read_numbers count (drop read.bytes bs)) (read_numbers count (drop read.bytes bs ++ more)) (rest read.bytes))
    go (Err r) e rest = tt

-- and of a step
abbrev StepStays : ReadStep → ReadStep → Type 0
StepStays (Ok (Some read)) r = r ≡ one_step read.step read.next
StepStays (Ok None) r = Unit {0}
StepStays (Err x) r = Unit {0}

after_numbers_stays : (k n : ℕ) (a b : Numbers) → AllStay a b → StepStays (after_numbers k n a) (after_numbers k n b)
unfolding after_numbers
after_numbers_stays k n (values vs m) b e = rw e
after_numbers_stays k n (rejected r) b e = tt

kind_stays : (t u : Bool) (a b : ReadStep) → StepStays a b
    → StepStays (cond t (Err KeptKind) (cond u (Err UnknownKind) a)) (cond t (Err KeptKind) (cond u (Err UnknownKind) b))
kind_stays true u a b e = tt
kind_stays false true a b e = tt
kind_stays false false a b e = e

after_kind_stays : (bs more : List ℕ) (r : ReadNumber) → read_number bs ≡ r
    → StepStays (after_kind bs r) (after_kind (bs ++ more) (read_number (bs ++ more)))
unfolding after_kind
after_kind_stays bs more (Ok read) e =
    let used : ℕ = used_numbers (kind_of read.value) in
    rw (number_stays bs more e, drop-append-le read.bytes bs more (number_within bs e))
    (kind_stays (is_kept (kind_of read.value)) (is_unknown (kind_of read.value)) (after_numbers read.value read.bytes (read_numbers used (drop read.bytes bs)))
    (after_numbers read.value read.bytes (read_numbers used (drop read.bytes bs ++ more)))
    (after_numbers_stays read.value read.bytes (read_numbers used (drop read.bytes bs)) (read_numbers used (drop read.bytes bs ++ more)) (numbers_stay used (drop read.bytes bs) more)))
after_kind_stays bs more (Err r) e = tt

reading_stays : (bs more : List ℕ) → StepStays (read_step bs) (read_step (bs ++ more))
unfolding read_step
reading_stays [] more = tt
reading_stays (b ∷ bs) more = after_kind_stays (b ∷ bs) more (read_number (b ∷ bs)) refl

step_stays : (bs more : List ℕ) {s : Step} {n : ℕ} → read_step bs ≡ one_step s n → read_step (bs ++ more) ≡ one_step s n
step_stays bs more e = rw e at (reading_stays bs more)

-- ---- a log

-- the steps ts are the steps ss and then others
pub record Continues (ss ts : List Step) : Type 0 where
  pub others : List Step
  pub is : ts ≡ ss ++ others

step_continues : (s : Step) (ss ts : List Step) → Continues ss ts → Continues (s ∷ ss) (s ∷ ts)
step_continues s ss ts c = record { others = c.others; is = ap (s ∷◌) c.is }

none_continues : (ts : List Step) → Continues [] ts
none_continues ts = record { others = ts; is = refl }

pub log_continues : (budget : ℕ) (bs more : List ℕ) → Continues (read_log budget bs).steps (read_log budget (bs ++ more)).steps
unfolding read_log log_after with_step stopped
log_continues zero bs more = none_continues []
log_continues (suc budget) bs more = go (read_step bs) refl (λ n. log_continues budget (drop n bs) more)
  where
    go : (r : ReadStep) → read_step bs ≡ r
        → ((n : ℕ) → Continues (read_log budget (drop n bs)).steps (read_log budget (drop n bs ++ more)).steps)
        → Continues (log_after r (λ n. read_log budget (drop n bs))).steps
        (log_after (read_step (bs ++ more)) (λ n. read_log budget (drop n (bs ++ more)))).steps
    go (Ok (Some read)) e rest =
        rw (step_stays bs more e, drop-append-le read.next bs more (step_within bs e))
        (step_continues read.step (read_log budget (drop read.next bs)).steps (read_log budget (drop read.next bs ++ more)).steps (rest read.next))
    go (Ok None) e rest = none_continues _
    go (Err r) e rest = none_continues _
