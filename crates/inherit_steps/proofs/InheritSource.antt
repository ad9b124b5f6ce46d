-- The source of an inherit: a host of the configuration before.
-- Assumes nothing.
use Prim.Native.Nat.{ℕ, ◌-◌}
use native.Mathlib.Omega.{arith}
use mathlib.Core.Path.{◌≡◌, refl}
use mathlib.Core.Bool.{true, false}
use mathlib.Core.List.{List}
use lib.Dec.{eqb}
use lib.ListN.{get_or}
use borrow.Author.Tests.{ltb-true, lt-ltb}
use Rattle.model.specs.Layout.{is_installed}
use Rattle.model.specs.Inherit.{is_source, source}
use Rattle.lookup.specs.Ready.{Ready}
use Rattle.std.specs.Prelude.{Err}
use Rattle.types.specs.declared.rejection.Rejection.{Rejection}
use Rattle.lookup.specs.FoundReplicas.{found_of}
use Rattle.model.proofs.Fields.{immutable_word}
use Rattle.lookup.proofs.FoundReplicas.{At, no_member_lem}

-- the configuration before is one too
pub ready_before : {w : List ℕ} {z j : ℕ} → Ready w z j → Ready w z (j - 1)
ready_before r = record { state = r.state; shard = r.shard; configuration = omega (arith, r.configuration) }

-- the configuration before an installed one is installed
installed_before : (w : List ℕ) (z j : ℕ) → is_installed w z j ≡ true → is_installed w z (j - 1) ≡ true
unfolding is_installed
installed_before w z j e = lt-ltb (j - 1) _ (omega (arith, ltb-true j _ e))

-- a host without a replica there is no source
pub no_source_lem : (w : List ℕ) (z j g : ℕ) (x : Rejection) → Err x ≡ found_of w z (j - 1) g → is_installed w z j ≡ true → is_source w z j g ≡ false
unfolding is_source
no_source_lem w z j g x e i = rw (no_member_lem w z (j - 1) g e (installed_before w z j i) x refl)

-- a host with a replica is a source where that is immutable
pub source_word : (j : ℕ) {w : List ℕ} {z g q : ℕ} → At w z (j - 1) g q → is_source w z j g ≡ eqb (get_or w q 0) 3
unfolding is_source source
source_word j a = simp (a.member, a.replica_is, immutable_word)
