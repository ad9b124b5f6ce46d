-- What it is to append bytes to a text.
use Rattle.std.specs.Prelude.{◌+◌, ◌≤◌, ◌≡◌, ℕ, List, length}
use Rattle.std.proofs.lemmas.List.Edits.{sets}
use Rattle.decimal_text.specs.declared.text.Text.{Text}

-- the output has room for the bytes
pub record HasRoom (t : Text) (bytes : List ℕ) : Type 0 where
  pub room : t.at + length bytes ≤ length t.out.now

-- u is t, in the same output, with the bytes written from t's position on
pub record Appended (t : Text) (bytes : List ℕ) (u : Text) : Type 0 where
  pub same_reference : u.out.ghost_name ≡ t.out.ghost_name
  pub position : u.at ≡ t.at + length bytes
  pub kept : length u.out.now ≡ length t.out.now
  pub written : u.out.now ≡ sets t.out.now t.at bytes
