-- A configuration is wedged where one of its four modes is that of an immutable replica: the modes of no member are 0.
-- Assumes nothing.
use Prim.Native.Nat.{ℕ, ◌+◌, ◌-◌, ◌*◌}
use native.Mathlib.Omega.{arith}
use mathlib.Core.Path.{◌≡◌, sym, ◌∙◌}
use mathlib.Core.List.{List}
use lib.Dec.{eqb}
use borrow.Author.Tests.{eqb-true}
use lib.ListN.{get_or}
use Rattle.model.specs.Tests.{any_below}
use Rattle.types.specs.Members.{size}
use Rattle.model.specs.Replicas.{is_immutable}
use Rattle.model.specs.Layout.{place, members, replica_at}
use Rattle.model.specs.Install.{is_wedged, is_newest_wedged}
use Rattle.model.proofs.Tests.{any_below_lem, below_any}
use Rattle.model.proofs.Ranges.{same_test}
use Rattle.model.proofs.Fields.{mode_word_lem, immutable_word}
use Rattle.model.proofs.Heads.{installed_word}
use Rattle.model.proofs.WellFormedMembers.{size_few, number_in_use}
use Rattle.lookup.specs.Ready.{Ready}
use Rattle.lookup.proofs.ReadyFields.{formed}
use Rattle.install_steps.proofs.InstallReads.{installed_few}

-- the mode of replica k of configuration j of shard z
abbrev mode_of : List ℕ → ℕ → ℕ → ℕ → ℕ
mode_of w z j k = get_or w (place z j k) 0

-- its four places tell whether a replica is immutable
pub four_places : {w : List ℕ} {z j : ℕ} → Ready w z j → any_below 4 (λ k. eqb (mode_of w z j k) 3) ≡ is_wedged w z j
unfolding is_wedged
four_places {w} {z} {j} r =
    same_test (any_below 4 (λ k. eqb (mode_of w z j k) 3)) (any_below (size (members w z j)) (λ k. is_immutable (replica_at w (place z j k))))
    (λ e.
    let b = any_below_lem 4 (λ k. eqb (mode_of w z j k) 3) e in
    let three : mode_of w z j b.number ≡ 3 = eqb-true (mode_of w z j b.number) 3 b.passes in
    let used = number_in_use (formed r.state) r.shard r.configuration b.small (omega (arith, three, mode_word_lem w (place z j b.number))) in
    below_any _ _ b.number used (immutable_word w (place z j b.number) ∙ b.passes))
    (λ e.
    let b = any_below_lem (size (members w z j)) (λ k. is_immutable (replica_at w (place z j k))) e in
    below_any 4 (λ k. eqb (mode_of w z j k) 3) b.number (omega (arith, b.small, size_few (formed r.state) r.shard r.configuration))
    (sym (immutable_word w (place z j b.number)) ∙ b.passes))

-- ---- the newest configuration

pub newest_ready : {w : List ℕ} {z j : ℕ} → Ready w z j → Ready w z (get_or w (z * 2112 + 1) 0 - 1)
newest_ready r = record { state = r.state; shard = r.shard; configuration = omega (arith, installed_few r) }

pub newest_is : (w : List ℕ) (z : ℕ) → is_wedged w z (get_or w (z * 2112 + 1) 0 - 1) ≡ is_newest_wedged w z
unfolding is_newest_wedged
newest_is w z = rw installed_word

-- .. looked for from any configuration of the shard
pub first_ready : {w : List ℕ} {z j : ℕ} → Ready w z j → Ready w z 0
first_ready r = record { state = r.state; shard = r.shard; configuration = omega arith }
