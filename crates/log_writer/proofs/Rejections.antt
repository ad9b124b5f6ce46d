-- What the writer rejects. Assumes nothing.
use Rattle.std.specs.Prelude.{Ok, Err}
use Prim.Native.Nat.{ℕ, ◌+◌, ◌≤◌, ◌<◌}
use native.Mathlib.Omega.{arith}
use mathlib.Core.Path.{◌≡◌, refl, ◌∙◌}
use mathlib.Core.Bool.{true, false, cond, not}
use mathlib.Core.List.{List, [], ◌∷◌, append_assoc}
use lib.ListN.{length, take, drop}
use lib.Seq.{sets, sets-eq}
use borrow.Author.Tests.{le-leb, lt-leb, ltb-true}
use Rattle.types.specs.declared.step.Step.{Step}
use Rattle.model.specs.Checks.{first_of}
use Rattle.types.specs.declared.kind.NoKind.{NoKind}
use Rattle.types.specs.declared.kind.NoKind.TheVariants.{Kept, Unknown}
use Rattle.types.specs.declared.rejection.Rejection.{Rejection}
use Rattle.types.specs.declared.rejection.Rejection.TheVariants.{OutOfRange, OutputLength}
use Rattle.types.specs.Rejections.{rejection_number, no_kind_rejection, answered}
use Rattle.types.proofs.Rejections.{number_not_0, rejected_answer}
use Rattle.types.specs.Kinds.{kind_of, is_kept, is_unknown, used_numbers}
use Rattle.model.specs.Writer.{is_writable, are_writable, step_bytes, write_rejection, writing, after_writing}
use Rattle.types.proofs.KindNumbers.{kind_below}
use Rattle.model.proofs.Tests.{all_pass}
use Rattle.types.specs.Rules.{Known}
use Rattle.log_writer.specs.WriteInParts.{writable, bytes_of, StepRoom}
use Rattle.log_writer.proofs.StepBytes.{bytes_used}

-- how many numbers a step uses
abbrev pub used_by : Step → ℕ
used_by s = used_numbers (kind_of s.kind)

-- what the writer answers with a rejection, and that it leaves the output untouched
pub record Refused (out : List ℕ) (at : ℕ) (s : Step) (r : Rejection) : Type 0 where
  pub answer : Err r ≡ writing out at s
  pub untouched : out ≡ after_writing out at s

-- 3 and 4 come first
no_kind_first : (e : NoKind) (n : ℕ) → cond (not (is_kept (Err e))) (cond (not (is_unknown (Err e))) n 4) 3 ≡ rejection_number (no_kind_rejection e)
unfolding is_kept is_unknown
no_kind_first Kept n = refl
no_kind_first Unknown n = refl

module _ (out : List ℕ) (at : ℕ) (s : Step) where
  refused : (r : Rejection) → write_rejection out at s ≡ rejection_number r → Refused out at s r
  unfolding writing after_writing
  refused r e = record { answer = rw e (rejected_answer r _); untouched = rw (e, number_not_0 r) }

  pub kind_refused : {e : NoKind} → Err e ≡ kind_of s.kind → Refused out at s (no_kind_rejection e)
  unfolding write_rejection first_of
  kind_refused {e} q = refused (no_kind_rejection e) (rw (← q) (no_kind_first e _))

  module _ (k : Known (kind_of s.kind)) where
    -- 7
    pub numbers_refused : writable s (used_by s) ≡ false → Refused out at s OutOfRange
    unfolding writable are_writable write_rejection first_of
    numbers_refused e = refused OutOfRange (rw (k.not_kept, k.known, e))

    module _ (w : writable s (used_by s) ≡ true) where
      -- 8
      pub room_refused : length out < at + length (bytes_of s (used_by s)) → Refused out at s OutputLength
      unfolding writable are_writable write_rejection first_of
      room_refused h =
          let full = lt-leb (at + length (step_bytes s)) (length out) (rw (bytes_used s k) at h) in
          refused OutputLength (rw (k.not_kept, k.known, w, full))

      pub room : at + length (bytes_of s (used_by s)) ≤ length out → StepRoom out at s (used_by s)
      unfolding writable is_writable
      room h =
          let p = all_pass (is_writable s.a) (is_writable s.b ∷ is_writable s.c ∷ is_writable s.d ∷ _ ∷ []) w in
          record {
            kind = omega (arith, kind_below s.kind k.not_kept k.known);
            a = ltb-true _ _ p.0;
            b = ltb-true _ _ p.1.0;
            c = ltb-true _ _ p.1.1.0;
            d = ltb-true _ _ p.1.1.1.0;
            within = h;
          }

      module _ (h : at + length (bytes_of s (used_by s)) ≤ length out) where
        accepted : write_rejection out at s ≡ 0
        unfolding writable are_writable write_rejection first_of
        accepted =
            let fits = le-leb (at + length (step_bytes s)) (length out) (rw (bytes_used s k) at h) in
            rw (k.not_kept, k.known, w, fits)

        pub written : Ok (length (bytes_of s (used_by s))) ≡ writing out at s
        unfolding writing answered
        written = rw (accepted, bytes_used s k)

        pub left : sets out at (bytes_of s (used_by s)) ≡ after_writing out at s
        unfolding after_writing
        left =
            rw (accepted, bytes_used s k)
            (sets-eq (step_bytes s) out at (rw (bytes_used s k) at h)
            ∙ append_assoc (take at out) (step_bytes s) (drop (at + length (step_bytes s)) out))
