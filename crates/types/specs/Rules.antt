-- What the code looks up of a kind, in one match (`types::kind::Kind::rules`). Steps are defined without it.
use Rattle.std.specs.Prelude.{ℕ, ◌≡◌, Bool, false, cond, leb, Ok, Err}
use Rattle.types.specs.declared.kind.Kind.TheVariants.{Add, Adopt, Learn, Wedge, Install, Inherit, CatchUp}
use Rattle.types.specs.declared.kind.NoKind.TheVariants.{Kept, Unknown}
use Rattle.types.specs.declared.kind.Rules.{Rules}
use Rattle.types.specs.Kinds.{NamedKind, kind_of, is_kept, is_unknown, names_host, used_numbers}

-- a kind that is neither kept nor unknown
pub record Known (k : NamedKind) : Type 0 where
  pub not_kept : is_kept k ≡ false
  pub known : is_unknown k ≡ false

-- the largest fourth number: "length above 56, place above 55", "a box above 15", "an unused number not 0"
unfoldable pub most_fourth : NamedKind → ℕ
most_fourth (Ok Add) = 0
most_fourth (Ok Adopt) = 0
most_fourth (Ok Learn) = 56
most_fourth (Ok Wedge) = 0
most_fourth (Ok Install) = 55
most_fourth (Ok Inherit) = 15
most_fourth (Ok CatchUp) = 15
most_fourth (Err Kept) = 0
most_fourth (Err Unknown) = 0

abbrev pub rules_with : ℕ → ℕ → Bool → Rules
rules_with used fourth host = record { used = used; fourth = fourth; host = host }

unfoldable pub rules_of : NamedKind → Rules
rules_of k = rules_with (used_numbers k) (most_fourth k) (names_host k)

-- how many fourth numbers the kind of a number has: 1 where it uses four
unfoldable pub fourth_numbers : ℕ → ℕ
fourth_numbers n = cond (leb 4 (used_numbers (kind_of n))) 1 0
