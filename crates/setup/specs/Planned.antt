-- What a plan is known to be once it was tested, as far as writing its state needs it.
use Rattle.std.specs.Prelude.{ℕ, ◌*◌, ◌≤◌, ◌<◌, ◌≡◌, List, length}
use Rattle.types.specs.Members.{size}
use Rattle.model.specs.Setup.{plan_members}

pub record Planned (Z : ℕ) (p : List ℕ) : Type 0 where
  pub most : Z ≤ 8
  pub long : length p ≡ 3 * Z
  pub few : (z : ℕ) → z < Z → size (plan_members p z) ≤ 4
