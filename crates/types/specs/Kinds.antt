-- The seven kinds of steps, their numbers and rejections, and how many numbers each uses (document 01, "Steps" and rejections 3 and 4; request A4,
-- kind 7).
use Rattle.std.specs.Prelude.{ℕ, ◌≡◌, Bool, true, false, cond, ◌&&◌, ◌||◌, leb, ltb, eqb, Result, Ok, Err}
use Rattle.types.specs.declared.kind.Kind.{Kind}
use Rattle.types.specs.declared.kind.Kind.TheVariants.{Add, Adopt, Learn, Wedge, Install, Inherit, CatchUp}
use Rattle.types.specs.declared.kind.NoKind.{NoKind}
use Rattle.types.specs.declared.kind.NoKind.TheVariants.{Kept, Unknown}

-- what a number names: a kind, or why it names none
abbrev pub NamedKind : Type 0
NamedKind = Result Kind NoKind

-- "1 add", "2 adopt", "3 confirm" (here: learn), "4 wedge", "5 install", "6 inherit"; request A4: "Kind 7", here: catch up, and
-- "Only kinds 8 to 31 are kept"; "Kind 0 or above 31"
unfoldable pub kind_of : ℕ → NamedKind
kind_of n =
    cond (eqb n 1) (Ok Add)
    (cond (eqb n 2) (Ok Adopt)
    (cond (eqb n 3) (Ok Learn)
    (cond (eqb n 4) (Ok Wedge)
    (cond (eqb n 5) (Ok Install)
    (cond (eqb n 6) (Ok Inherit) (cond (eqb n 7) (Ok CatchUp) (cond (leb 8 n && leb n 31) (Err Kept) (Err Unknown))))))))

-- rejection 3
unfoldable pub is_kept : NamedKind → Bool
is_kept (Ok Add) = false
is_kept (Ok Adopt) = false
is_kept (Ok Learn) = false
is_kept (Ok Wedge) = false
is_kept (Ok Install) = false
is_kept (Ok Inherit) = false
is_kept (Ok CatchUp) = false
is_kept (Err Kept) = true
is_kept (Err Unknown) = false

-- rejection 4
unfoldable pub is_unknown : NamedKind → Bool
is_unknown (Ok Add) = false
is_unknown (Ok Adopt) = false
is_unknown (Ok Learn) = false
is_unknown (Ok Wedge) = false
is_unknown (Ok Install) = false
is_unknown (Ok Inherit) = false
is_unknown (Ok CatchUp) = false
is_unknown (Err Kept) = false
is_unknown (Err Unknown) = true

-- the third number is the box that acts; for add it is an entry, and the orderer acts
unfoldable pub names_host : NamedKind → Bool
names_host (Ok Add) = false
names_host (Ok Adopt) = true
names_host (Ok Learn) = true
names_host (Ok Wedge) = true
names_host (Ok Install) = true
names_host (Ok Inherit) = true
names_host (Ok CatchUp) = true
names_host (Err Kept) = true
names_host (Err Unknown) = true

-- the table's column "numbers"; request A4: "(zone, index, box, source box)"
unfoldable pub used_numbers : NamedKind → ℕ
used_numbers (Ok Add) = 3
used_numbers (Ok Adopt) = 3
used_numbers (Ok Learn) = 4
used_numbers (Ok Wedge) = 3
used_numbers (Ok Install) = 4
used_numbers (Ok Inherit) = 4
used_numbers (Ok CatchUp) = 4
used_numbers (Err Kept) = 0
used_numbers (Err Unknown) = 0

-- ---- document 01's number and rejection of a kind, and what a number names

-- "1 add", "2 adopt", "3 confirm", "4 wedge", "5 install", "6 inherit"; request A4: "Kind 7". A kind that is kept or unknown is no step's, and has 0
unfoldable pub kind_number : NamedKind → ℕ
kind_number (Ok Add) = 1
kind_number (Ok Adopt) = 2
kind_number (Ok Learn) = 3
kind_number (Ok Wedge) = 4
kind_number (Ok Install) = 5
kind_number (Ok Inherit) = 6
kind_number (Ok CatchUp) = 7
kind_number (Err Kept) = 0
kind_number (Err Unknown) = 0

-- the rejection of a kind, 3 or 4, and 0 where it has none
unfoldable pub kind_rejection : NamedKind → ℕ
kind_rejection k = cond (is_kept k) 3 (cond (is_unknown k) 4 0)

-- the kind's number that a number names: itself, 1 to 7, or 0
unfoldable pub number_named : ℕ → ℕ
number_named n = cond (leb 1 n && leb n 7) n 0

-- "3. Kind 7 to 31, which are kept for later", by request A4: "Only kinds 8 to 31 are kept"; "4. Kind 0 or above 31."
unfoldable pub rejection_named : ℕ → ℕ
rejection_named n = cond (leb 8 n && leb n 31) 3 (cond (eqb n 0 || ltb 31 n) 4 0)

-- what reading a kind's number gives
pub record Names (n : ℕ) (k : NamedKind) : Type 0 where
  pub number : kind_number k ≡ number_named n
  pub rejection : kind_rejection k ≡ rejection_named n
  pub kind : k ≡ kind_of n
