-- Statements in which each old level is replaced by a form of the new ones.
use Rattle.std.specs.Prelude.{◌≡◌, ℕ, suc, ◌+◌, ◌≤◌, List, ◌++◌, map, length, ℤ, pos}
use Rattle.int_rows.specs.declared.row.Aff.{Aff}
use Rattle.nest_tree.specs.declared.kernel.Nest.{Nest}
use Rattle.nest_tree.specs.declared.kernel.Term.{Term}
use Rattle.nest_tree.specs.declared.moves.Piece.{Piece}
use Rattle.nest_tree.specs.declared.kernel.KernelRow.{KernelRow}
use Rattle.nest_tree.specs.declared.body.Access.{Access}
use Rattle.nest_tree.specs.declared.body.Body.{Body}
use Rattle.nest_tree.specs.declared.body.Body.TheVariants.{Const, At, Plus, Minus, Times}
use Rattle.nest_tree.specs.Lists.{IsIn, Pairwise}
use Rattle.nest_tree.specs.Forms.{coef, value, Names, variables}
use Rattle.nest_tree.specs.Moving.{Move}
use Rattle.nest_tree.specs.Systems.{IsRead}

-- a statement's variables as forms of the new ones: the parameters, each old level by its form in the piece, and the old terms
abbrev pub variables_of : ℕ → Nest → Piece → List Aff
variables_of params n p = variables 0 params ++ (p.old ++ variables (params + length p.levels) (length n.terms))

abbrev pub old_variables : ℕ → Move → List Aff
old_variables params m = variables_of params m.old m.piece

-- a form of the new variables has an old form's value at the old variables' values
abbrev pub HasValue : List Aff → Aff → Aff → Type 0
HasValue olds f g = (q : List ℤ) → value q g ≡ value (map (value q) olds) f

-- and it names the same terms
pub record SaysForm (olds : List Aff) (old_width new_width : ℕ) (f g : Aff) : Type 0 where
  pub same_value : HasValue olds f g
  pub no_more : (j : ℕ) → Names g (new_width + j) → Names f (old_width + j)
  pub no_fewer : (j : ℕ) → Names f (old_width + j) → Names g (new_width + j)

pub record SaysTerm (olds : List Aff) (old_width new_width : ℕ) (t u : Term) : Type 0 where
  pub array : u.array ≡ t.array
  pub at : Pairwise (SaysForm olds old_width new_width) t.at u.at

pub record SaysRow (olds : List Aff) (old_width new_width : ℕ) (r s : KernelRow) : Type 0 where
  pub equal : (s.row).equal ≡ (r.row).equal
  pub form : SaysForm olds old_width new_width (r.row).form (s.row).form

-- an access to the same array, where each new subscript says so much of the old one
pub record SaysAccess (Says : Aff → Aff → Type 0) (a b : Access) : Type 0 where
  pub array : b.array ≡ a.array
  pub at : Pairwise Says a.at b.at

-- the same right side but for its subscripts
pub data SaysBody (Says : Aff → Aff → Type 0) : Body → Body → Type 0 where
  const : (c : ℕ) → SaysBody Says (Const c) (Const c)
  at : (a b : Access) → SaysAccess Says a b → SaysBody Says (At a) (At b)
  plus : (a b c d : Body) → SaysBody Says a c → SaysBody Says b d → SaysBody Says (Plus a b) (Plus c d)
  minus : (a b c d : Body) → SaysBody Says a c → SaysBody Says b d → SaysBody Says (Minus a b) (Minus c d)
  times : (a b c d : Body) → SaysBody Says a c → SaysBody Says b d → SaysBody Says (Times a b) (Times c d)

-- the form names no term, nor any variable behind the parameters and levels
abbrev pub NamesNoTerm : ℕ → Aff → Type 0
NamesNoTerm width f = (j : ℕ) → coef (width + j) f.coefs ≡ pos 0

-- a form over the piece's levels says what the old form says over the old ones
abbrev pub SaysNew : ℕ → Move → Aff → Aff → Type 0
SaysNew params m = SaysForm (old_variables params m) (params + length (m.old).levels) (params + length (m.piece).levels)

-- the new statement has the piece's levels and positions, the old terms and all old rows in the new variables, and then the piece's rows, and the same assignment; the old levels' forms name no terms
pub record IsRewritten (params : ℕ) (m : Move) : Type 0 where
  pub old_shape : length (m.old).positions ≡ suc (length (m.old).levels)
  pub new_shape : length (m.piece).positions ≡ suc (length (m.piece).levels)
  pub forms : length (m.piece).old ≡ length (m.old).levels
  pub no_terms : (f : Aff) → IsIn f (m.piece).old → NamesNoTerm (params + length (m.piece).levels) f
  pub levels : (m.new).levels ≡ (m.piece).levels
  pub positions : (m.new).positions ≡ (m.piece).positions
  pub terms : Pairwise (SaysTerm (old_variables params m) (params + length (m.old).levels) (params + length (m.piece).levels)) (m.old).terms (m.new).terms
  pub target : SaysAccess (SaysNew params m) (m.old).target (m.new).target
  pub how : (m.new).how ≡ (m.old).how
  pub body : SaysBody (SaysNew params m) (m.old).value (m.new).value
  pub kept : List KernelRow
  pub says : Pairwise (SaysRow (old_variables params m) (params + length (m.old).levels) (params + length (m.piece).levels)) (m.old).rows kept
  pub rows : (m.new).rows ≡ kept ++ (m.piece).rows

-- each form has at most so many coefficients
abbrev pub AreWithin : ℕ → List Aff → Type 0
AreWithin width fs = (f : Aff) → IsIn f fs → length f.coefs ≤ width

-- there is one position more than levels, and no row, term or subscript has more coefficients than there are parameters, levels and terms
pub record IsWide (params : ℕ) (n : Nest) : Type 0 where
  pub shape : length n.positions ≡ suc (length n.levels)
  pub rows : (r : KernelRow) → IsIn r n.rows → length ((r.row).form).coefs ≤ params + length n.levels + length n.terms
  pub terms : (t : Term) → IsIn t n.terms → AreWithin (params + length n.levels + length n.terms) t.at
  pub target : AreWithin (params + length n.levels + length n.terms) (n.target).at
  pub reads : (a : Access) → IsRead a n.value → AreWithin (params + length n.levels + length n.terms) a.at

-- a piece with a form for each level, of parameters and new levels alone
pub record FitsWide (params : ℕ) (n : Nest) (p : Piece) : Type 0 where
  pub shape : length p.positions ≡ suc (length p.levels)
  pub forms : length p.old ≡ length n.levels
  pub no_terms : (f : Aff) → IsIn f p.old → NamesNoTerm (params + length p.levels) f
