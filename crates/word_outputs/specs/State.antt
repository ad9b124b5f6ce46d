-- The length of a state, for whoever sets one up.
use Rattle.std.specs.Prelude.{ℕ, ◌*◌, cond, ◌&&◌, leb}
use Rattle.model.specs.Layout.{shard_words}

-- 2,112 words a zone for 2 to 8 zones, else 0
unfoldable pub state_words : ℕ → ℕ
state_words zones = cond (leb 2 zones && leb zones 8) (shard_words * zones) 0
