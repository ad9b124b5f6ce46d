-- The numbers and values of answers that are enums.
use Rattle.std.specs.Prelude.{Result, Ok, Err, Some, None}
use Rattle.model.specs.Log.{ReadStep, one_step}
use Rattle.types.specs.declared.rejection.Rejection.{Rejection}
use Rattle.types.specs.Rejections.{Written, numbered, answered, answer_count, answer_number}
use Rattle.types.proofs.Rejections.{named_number, answered_number}
use Rattle.model.specs.Checks.{Check, first_of}
use Prim.Native.Nat.{ℕ, ◌+◌, ◌≤◌}
use native.Mathlib.Omega.{arith}
use mathlib.Core.Path.{◌≡◌, refl, ap, ◌∙◌}
use mathlib.Core.Bool.{Bool, true, false, cond, not, ◌&&◌}
use mathlib.Core.List.{List, [], ◌∷◌}
use lib.Dec.{leb, ltb, eqb}
use lib.ListN.{length, drop}
use borrow.Author.Tests.{ne_eqb}
use Rattle.types.specs.declared.step.Step.{Step}
use Rattle.types.specs.declared.Report.{Report}
use Rattle.model.specs.Log.{read_step, read_at, from}
use Rattle.types.specs.Kinds.{kind_of, is_kept, is_unknown}
use Rattle.model.specs.Writer.{are_writable, step_bytes, write_rejection, writing, after_writing}
use Rattle.model.specs.Replay.{rejected_in, replay_rejection, replayed, report}
use Rattle.model.specs.Results.{reading_step, reading_next, read_rejection, step_read, bytes_read, next_read}
use Rattle.model.specs.Results.{count_beside, replay_number, replay_code, replay_bytes, report_number, report_code, report_tried, report_rejected, report_bytes}
use Rattle.model.specs.Layout.{is_state_length}
use Rattle.model.specs.WellFormed.{well_formed}
use Rattle.model.specs.Checks.{◌or_else◌}
use Rattle.model.proofs.Tests.{and_left, and_right}
use Rattle.model.proofs.RoundTrip.{step_least}

-- ---- the reader

pub reads_first : {r : ReadStep} (bs : List ℕ) → r ≡ read_step bs
    → (answer_number r ≡ read_rejection bs) × ((reading_step r ≡ step_read bs) × ((reading_next r ≡ bytes_read bs) × (r ≡ read_step bs)))
unfolding read_rejection step_read bytes_read
reads_first bs e = (ap answer_number e, (ap reading_step e, (ap reading_next e, e)))

-- a position moves only where a step was read
moved : (at : ℕ) (x : ReadStep) → ((s : Step) (n : ℕ) → x ≡ one_step s n → 1 ≤ n)
    → (answer_number (from at x) ≡ answer_number x) × (reading_step (from at x) ≡ reading_step x)
    × (reading_next (from at x) ≡ cond (eqb (reading_next x) 0) 0 (at + reading_next x))
unfolding from reading_step reading_next
moved at (Ok (Some read)) h = (refl, refl, rw (ne_eqb read.next 0 (λ e. omega (arith, h read.step read.next refl))))
moved at (Ok None) h = (refl, refl, refl)
moved at (Err r) h = (refl, refl, refl)

pub reads_at : {r : ReadStep} (log : List ℕ) (at : ℕ) → r ≡ read_at log at
    → (answer_number r ≡ read_rejection (drop at log))
    × ((reading_step r ≡ step_read (drop at log)) × ((reading_next r ≡ next_read log at) × (r ≡ read_at log at)))
unfolding read_at read_rejection step_read bytes_read next_read
reads_at log at e =
    let m = moved at (read_step (drop at log)) (λ s n q. step_least (drop at log) q) in
    (ap answer_number e ∙ m.0, (ap reading_step e ∙ m.1, (ap reading_next e ∙ m.2, e)))

-- ---- the writer, and whatever answers a count or a rejection

-- the first check that fails has one of the numbers of the checks
abbrev pub below_25 : List Check → Bool
below_25 [] = true
below_25 (c ∷ cs) = ltb c.number 25 && below_25 cs

one_below : (t : Bool) (m n : ℕ) → ltb m 25 ≡ true → ltb n 25 ≡ true → ltb (cond t m n) 25 ≡ true
one_below true m n h g = h
one_below false m n h g = g

pub first_below : (cs : List Check) → below_25 cs ≡ true → ltb (first_of cs) 25 ≡ true
unfolding first_of
first_below [] h = refl
first_below (c ∷ cs) h = one_below c.passes _ _ (first_below cs (and_right _ _ h)) (and_left _ _ h)

-- an answer that is a rejection, or the count of what is written where there is none
pub counted : (n : ℕ) (l : List ℕ) {r : Written} → ltb n 25 ≡ true → r ≡ answered n (length l)
    → (answer_number r ≡ n) × (answer_count r ≡ count_beside n l)
unfolding answered answer_count count_beside
counted n l {r} h e = (ap answer_number e ∙ answered_number n (length l) h, ap answer_count e ∙ go (eqb n 0))
  where
    go : (t : Bool) → answer_count (cond {A = Written} t (Ok (length l)) (Err (numbered n))) ≡ cond t (length l) 0
    go true = refl
    go false = refl

write_below : (out : List ℕ) (at : ℕ) (s : Step) → ltb (write_rejection out at s) 25 ≡ true
unfolding write_rejection
write_below out at s =
    first_below
    (not (is_kept (kind_of s.kind)) or_else 3
    ∷ not (is_unknown (kind_of s.kind)) or_else 4
    ∷ are_writable s or_else 7
    ∷ leb (at + length (step_bytes s)) (length out) or_else 8
    ∷ [])
    refl

pub writes_at : {r : Written} {v : List ℕ} (out : List ℕ) (at : ℕ) (s : Step) → r ≡ writing out at s → v ≡ after_writing out at s
    → (answer_number r ≡ write_rejection out at s)
    × ((answer_count r ≡ count_beside (write_rejection out at s) (step_bytes s)) × ((r ≡ writing out at s) × (v ≡ after_writing out at s)))
unfolding writing
writes_at out at s e f = let c = counted (write_rejection out at s) (step_bytes s) (write_below out at s) e in (c.0, (c.1, (e, f)))

-- ---- the replay

-- an answer of a replay, told by its numbers
pub record Told (r : Result Report Rejection) (w log : List ℕ) (budget : ℕ) : Type 0 where
  pub number : report_number r ≡ replay_number w log budget
  pub code : report_code r ≡ replay_code w log budget
  pub tried : report_tried r ≡ length (replayed w log budget)
  pub rejected : report_rejected r ≡ rejected_in w (replayed w log budget)
  pub bytes : report_bytes r ≡ replay_bytes w log budget

replay_below : (w : List ℕ) → ltb (replay_rejection w) 25 ≡ true
unfolding replay_rejection
replay_below w = first_below (is_state_length (length w) or_else 1 ∷ well_formed w or_else 9 ∷ []) refl

pub replays : {r : Result Report Rejection} (w log : List ℕ) (budget : ℕ) → r ≡ report w log budget → Told r w log budget
unfolding report answered replay_number replay_code replay_bytes replayed report_number report_code report_tried report_rejected report_bytes rejected_in
replays {r} w log budget e = go (eqb (replay_rejection w) 0) refl
  where
    go : (t : Bool) → eqb (replay_rejection w) 0 ≡ t → Told r w log budget
    go true q =
        record {
          number = ap report_number e ∙ rw q;
          code = ap report_code e ∙ rw q;
          tried = ap report_tried e ∙ rw q;
          rejected = ap report_rejected e ∙ rw q;
          bytes = ap report_bytes e ∙ rw q;
        }
    go false q =
        record {
          number = ap report_number e ∙ rw q (named_number (replay_rejection w) q (replay_below w));
          code = ap report_code e ∙ rw q;
          tried = ap report_tried e ∙ rw q;
          rejected = ap report_rejected e ∙ rw q;
          bytes = ap report_bytes e ∙ rw q;
        }
