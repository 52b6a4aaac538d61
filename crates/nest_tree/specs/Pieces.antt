-- The pieces of the affine commands that leave a statement one piece: the old levels as forms of the new ones, and the rows.
use Rattle.std.specs.Prelude.{◌≡◌, ℕ, zero, suc, cond, nat_eq, List, [], ◌∷◌, length, ℤ, pos, ◌-ℤ◌, neg_ℤ, true, false}
use Rattle.int_rows.specs.declared.row.Aff.{Aff}
use Rattle.int_rows.specs.declared.row.Row.{Row}
use Rattle.nest_tree.specs.declared.kernel.KernelRow.{KernelRow}
use Rattle.nest_tree.specs.declared.moves.Piece.{Piece}
use Rattle.nest_tree.specs.Lists.{Pairwise}
use Rattle.nest_tree.specs.Forms.{coef, sum, times, less, number, variables}
use Rattle.nest_tree.specs.Levels.{without}

-- the form of a level among the forms of all levels, counted from 1
abbrev pub form_at : ℕ → List Aff → Aff
form_at l [] = number (pos 0)
form_at zero (f ∷ fs) = number (pos 0)
form_at (suc zero) (f ∷ fs) = f
form_at (suc (suc l)) (f ∷ fs) = form_at (suc l) fs

-- `permute`: old level l is the new level at which the order has l
abbrev pub form_for : ℕ → List ℕ → List Aff → Aff
form_for l [] fs = number (pos 0)
form_for l (o ∷ order) [] = number (pos 0)
form_for l (o ∷ order) (f ∷ fs) = cond (nat_eq o l) f (form_for l order fs)

-- for the levels l, l+1 and on, one for each of `rest`
abbrev pub permuted_forms : List ℕ → List Aff → ℕ → List ℕ → List Aff
permuted_forms order fs l [] = []
permuted_forms order fs l (o ∷ rest) = form_for l order fs ∷ permuted_forms order fs (suc l) rest

-- `skew`: the level is the new value less the multiples of the levels before; `sum` is the form of those passed so far
abbrev pub unskewed_forms : List ℤ → Aff → List Aff → List Aff
unskewed_forms cs total [] = []
unskewed_forms [] total (f ∷ fs) = less f total ∷ fs
unskewed_forms (c ∷ cs) total (f ∷ fs) = f ∷ unskewed_forms cs (sum total (times c f)) fs

-- `shift`: the level is the new value less the amount
abbrev pub unshifted_forms : ℕ → ℤ → List Aff → List Aff
unshifted_forms l amount [] = []
unshifted_forms zero amount (f ∷ fs) = f ∷ fs
unshifted_forms (suc zero) amount (f ∷ fs) = sum f (number (neg_ℤ amount)) ∷ fs
unshifted_forms (suc (suc l)) amount (f ∷ fs) = f ∷ unshifted_forms (suc l) amount fs

abbrev pub is_at_least_zero : Aff → Row
is_at_least_zero f = record { form = f; equal = false }

abbrev pub is_zero : Aff → Row
is_zero f = record { form = f; equal = true }

-- `tile`: v - size*t >= 0 and size*t + size-1 - v >= 0, both made for the level v
abbrev pub tile_rows : ℤ → Aff → Aff → ℕ → List KernelRow
tile_rows size t v own =
    record { row = is_at_least_zero (less v (times size t)); own = own }
    ∷ record { row = is_at_least_zero (less (sum (times size t) (number (size -ℤ pos 1))) v); own = own } ∷ []

-- two forms are one but for zeros at the end
pub record IsLike (f g : Aff) : Type 0 where
  pub coefs : (j : ℕ) → coef j f.coefs ≡ coef j g.coefs
  pub constant : f.constant ≡ g.constant

pub record IsRowLike (r s : KernelRow) : Type 0 where
  pub equal : (r.row).equal ≡ (s.row).equal
  pub form : IsLike (r.row).form (s.row).form

-- the piece has these forms and rows, but for zeros at the end, and drops no row and adds no term
pub record HasForms (p : Piece) (fs : List Aff) (rs : List KernelRow) : Type 0 where
  pub drops : p.drops ≡ []
  pub terms : p.terms ≡ []
  pub old : Pairwise IsLike p.old fs
  pub rows : Pairwise IsRowLike p.rows rs

-- the piece of each command, for a statement with so many parameters before its levels
abbrev pub IsPermutedPiece : ℕ → List ℕ → Piece → Type 0
IsPermutedPiece params order p = HasForms p (permuted_forms order (variables params (length order)) 1 order) []

abbrev pub IsTiledPiece : ℕ → ℤ → ℕ → ℕ → ℕ → Piece → Type 0
IsTiledPiece params size outer level depth p =
    let fs = variables params (suc depth) in
    HasForms p (without outer fs) (tile_rows size (form_at outer fs) (form_at (suc level) fs) (suc level))

abbrev pub IsSkewedPiece : ℕ → List ℤ → ℕ → Piece → Type 0
IsSkewedPiece params coefs depth p = HasForms p (unskewed_forms coefs (number (pos 0)) (variables params depth)) []

abbrev pub IsShiftedPiece : ℕ → ℕ → ℤ → ℕ → Piece → Type 0
IsShiftedPiece params level amount depth p = HasForms p (unshifted_forms level amount (variables params depth)) []

-- `fuse` and `distribute` change positions alone
abbrev pub IsPlacedPiece : ℕ → ℕ → Piece → Type 0
IsPlacedPiece params depth p = HasForms p (variables params depth) []
