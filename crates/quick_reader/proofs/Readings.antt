-- A step that was read, as a reading. Assumes nothing.
use Prim.Native.Nat.{ℕ}
use mathlib.Core.Path.{◌≡◌, refl}
use Rattle.std.specs.Prelude.{Ok, Some}
use Rattle.types.specs.declared.Reading.{Reading}
use Rattle.types.specs.declared.step.Step.{Step}
use Rattle.model.specs.Log.{ReadStep, one_step}

pub is_read : {r : ReadStep} {s : Step} {n : ℕ} → r ≡ one_step s n → {x : Reading} → x.step ≡ s → x.next ≡ n → Ok (Some x) ≡ r
is_read e p q = rw (e, ← p, ← q) refl
