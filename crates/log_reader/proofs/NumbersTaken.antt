-- The numbers that a reader takes one after the other. Assumes nothing.
use Rattle.std.specs.Prelude.{Result, Ok, Err}
use Prim.Native.Nat.{ℕ, suc, ◌+◌, ◌<◌}
use native.Mathlib.Omega.{arith}
use mathlib.Core.Path.{◌≡◌, refl, sym, ◌∙◌}
use mathlib.Core.List.{List, [], ◌∷◌, ◌++◌}
use lib.ListN.{length, drop}
use Rattle.types.specs.declared.rejection.Rejection.{Rejection}
use Rattle.types.proofs.OkErr.{ok_is, err_is, ok_err, err_ok}
use Rattle.model.specs.Log.{ReadStep, read_step}
use Rattle.model.specs.Numbers.{ReadNumber, read_number, read_numbers}
use Rattle.log_reader.specs.declared.Reader.{Reader}
use Rattle.log_reader.specs.ReadInParts.{Taken, taken_value, taken_bytes, with_prior, kind_at}
use Rattle.log_reader.proofs.StepParts.{step_more, step_rejected, first_kind, first_no_kind}

module _ {a : Reader} {x : Result ℕ Rejection} {b : Reader} (t : Taken a x b) where
  abbrev read : ReadNumber
  read = read_number (drop a.at a.log.now)

  -- the number's place: what was read, and the position after it
  abbrev Place : ℕ → ReadNumber → Type 0
  Place v y = (y ≡ read) × ((Ok v ≡ taken_value y) × (b.at ≡ a.at + taken_bytes y))

  module _ (k : ℕ) (prior : List ℕ) where
    pub number_more :
        (count : ℕ) {v : ℕ} → x ≡ Ok v → {r : ReadStep}
        → r ≡ with_prior k (prior ++ v ∷ []) b.at (read_numbers count (drop b.at b.log.now))
        → r ≡ with_prior k prior a.at (read_numbers (suc count) (drop a.at a.log.now))
    unfolding taken_value taken_bytes
    number_more count {v} q {r} e = go read (refl, (sym q ∙ t.value, t.position))
      where
        go : (y : ReadNumber) → Place v y → r ≡ with_prior k prior a.at (read_numbers (suc count) (drop a.at a.log.now))
        go (Ok n) p = step_more k prior a.log.now a.at p.0 count refl (rw (t.log, p.1.1, ok_is p.1.0) at e)
        go (Err s) p = absurd (ok_err p.1.0)

    pub number_rejected :
        (count : ℕ) {r : Rejection} → x ≡ Err r → Err r ≡ with_prior k prior a.at (read_numbers (suc count) (drop a.at a.log.now))
    unfolding taken_value
    number_rejected count {r} q = go read refl (sym q ∙ t.value)
      where
        go : (y : ReadNumber) → y ≡ read → Err r ≡ taken_value y → Err r ≡ with_prior k prior a.at (read_numbers (suc count) (drop a.at a.log.now))
        go (Ok n) p w = absurd (err_ok w)
        go (Err s) p w = rw (err_is w) (step_rejected k prior a.log.now a.at p count refl)

  -- ---- the first one is the kind

  module _ (h : 0 < length a.log.now) (here : a.at ≡ 0) where
    pub taken_kind : {k : ℕ} → x ≡ Ok k → {r : ReadStep} → r ≡ kind_at b.log.now b.at k → r ≡ read_step a.log.now
    unfolding taken_value taken_bytes
    taken_kind {k} q {r} e = go read (refl, (sym q ∙ t.value, t.position))
      where
        go : (y : ReadNumber) → Place k y → r ≡ read_step a.log.now
        go (Ok n) p =
            let after : b.at ≡ n.bytes = omega (arith, p.1.1, here) in
            first_kind a.log.now h (rw here at p.0) refl (rw (t.log, after, ok_is p.1.0) at e)
        go (Err s) p = absurd (ok_err p.1.0)

    pub taken_no_kind : {r : Rejection} → x ≡ Err r → Err r ≡ read_step a.log.now
    unfolding taken_value
    taken_no_kind {r} q = go read refl (sym q ∙ t.value)
      where
        go : (y : ReadNumber) → y ≡ read → Err r ≡ taken_value y → Err r ≡ read_step a.log.now
        go (Ok n) p w = absurd (err_ok w)
        go (Err s) p w = rw (err_is w) (first_no_kind a.log.now h (rw here at p) refl)
