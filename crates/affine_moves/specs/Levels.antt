-- What the levels of a statement stand for that goes over a whole sparse matrix.
use Rattle.std.specs.Prelude.{⊤, ◌≤◌, ℕ, ◌^◌, Bool, cond, ◌&&◌, nat_le, List, [], ◌∷◌, ℤ, pos, ◌+ℤ◌, ◌*ℤ◌, unsigned_abs, Option, Some, None, slice_get, unwrap_or, ◌-◌}
use Rattle.std.specs.Ordering.{int_eq}
use Rattle.affine_moves.specs.declared.levels.Sum.{Sum}
use Rattle.nest_tree.specs.declared.form.Form.{Form}
use Rattle.nest_tree.specs.declared.form.Form.TheVariants.{Other, Whole}

-- what a level stands for
unfoldable pub form_at : List Form → ℕ → Form
form_at levels l = unwrap_or (slice_get levels (l - 1)) Other

abbrev pub is_within : ℤ → Bool
is_within z = nat_le (unsigned_abs z) (2 ^ 62)

-- the form floord(r*row + j*column + k*place + constant, divisor), where none of these numbers is past 2^62 in size
unfoldable pub whole_form : ℤ → ℤ → ℤ → ℤ → ℤ → Form
whole_form r j k constant divisor =
    cond (is_within r && (is_within j && (is_within k && (is_within constant && is_within divisor)))) (Whole r j k constant divisor) Other

-- the number of a tile of so many values of a level
abbrev pub tiled_form : ℕ → Form → Form
tiled_form size Other = Other
tiled_form size (Whole r j k constant divisor) = whole_form r j k constant (divisor *ℤ pos size)

-- a level whose values are raised by an amount
abbrev pub shifted_form : ℤ → Form → Form
shifted_form amount Other = Other
shifted_form amount (Whole r j k constant divisor) = whole_form r j k (constant +ℤ amount *ℤ divisor) divisor

-- ---- sums of levels without division
-- what a level without division stands for
unfoldable pub sum_of : Form → Option Sum
sum_of Other = None
sum_of (Whole r j k constant divisor) = cond (int_eq divisor (pos 1)) (Some (record { r = r; j = j; k = k; constant = constant })) None

-- a multiple of one sum added to another
abbrev pub plus : Sum → ℤ → Option Sum → Option Sum
plus s c None = None
plus s c (Some t) = Some (record { r = s.r +ℤ c *ℤ t.r; j = s.j +ℤ c *ℤ t.j; k = s.k +ℤ c *ℤ t.k; constant = s.constant +ℤ c *ℤ t.constant })

-- each number of the sum is at most so great in size
abbrev pub IsAtMost : ℕ → Option Sum → Type 0
IsAtMost n None = ⊤
IsAtMost n (Some s) = (unsigned_abs s.r ≤ n) × (unsigned_abs s.j ≤ n) × (unsigned_abs s.k ≤ n) × (unsigned_abs s.constant ≤ n)

-- a level that is added 0 times may be of any form
unfoldable pub plus_multiple : Sum → ℤ → Form → Option Sum
plus_multiple s c f = cond (int_eq c (pos 0)) (Some s) (plus s c (sum_of f))

-- multiples of levels added up, in order
abbrev pub plus_each : Option Sum → List ℤ → List Form → Option Sum
plus_each None _ _ = None
plus_each (Some s) [] _ = Some s
plus_each (Some s) (c ∷ cs) [] = Some s
plus_each (Some s) (c ∷ cs) (f ∷ fs) = plus_each (plus_multiple s c f) cs fs

abbrev pub form_of : Option Sum → Form
form_of None = Other
form_of (Some s) = whole_form s.r s.j s.k s.constant (pos 1)

-- a level with multiples of the levels before it added, where none of these has a division
abbrev pub skewed_form : Form → List ℤ → List Form → Form
skewed_form f coefs levels = form_of (plus_each (sum_of f) coefs levels)
