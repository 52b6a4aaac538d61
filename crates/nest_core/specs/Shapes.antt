-- The shapes of kernels, and how pieces fit them.
use Rattle.std.specs.Prelude.{◌≡◌, ℕ, suc, List, [], ◌∷◌, length, ◌+◌, ◌≤◌, IsTrue, ⊤, nat_lt, nat_le, nat_eq, Option, Some, None, Bool, true, not, ◌&&◌, ◌||◌}
use Rattle.std.specs.List.{list_all, AllByRecursion}
use Rattle.c_tree.specs.declared.program.Program.{Program}
use Rattle.int_rows.specs.declared.row.Aff.{Aff}
use Rattle.nest_tree.specs.declared.body.Access.{Access}
use Rattle.nest_tree.specs.declared.body.Body.{Body, fold-Body}
use Rattle.nest_tree.specs.declared.body.Body.TheOpen.{Body-F, Const as Const-F, At as At-F, Plus as Plus-F, Minus as Minus-F, Times as Times-F}
use Rattle.nest_tree.specs.declared.kernel.Nest.{Nest}
use Rattle.nest_tree.specs.declared.kernel.Term.{Term}
use Rattle.nest_tree.specs.declared.kernel.KernelRow.{KernelRow}
use Rattle.nest_tree.specs.declared.kernel.Kernel.{Kernel}
use Rattle.nest_tree.specs.declared.moves.Piece.{Piece}
use Rattle.nest_tree.specs.declared.moves.Moves.{Moves}
use Rattle.nest_core.specs.declared.form.Frame.{Frame}
use Rattle.nest_core.specs.Forms.{has_vars, new_vars}
use Rattle.nest_core.specs.Order.{numbered}
use Rattle.nest_core.specs.Pieces.{frame_of, own_made, kept}

-- how many variables the forms of a statement have: the parameters, its levels and its terms
abbrev pub vars_of : ℕ → Nest → ℕ
vars_of params n = params + length n.levels + length n.terms

-- a row over n variables and d levels: a bound is an inequality with one of the levels as its own
abbrev pub is_row_over : ℕ → ℕ → KernelRow → Bool
is_row_over n d r = has_vars n r.row.form && (nat_le r.own d && (nat_eq r.own 0 || not r.row.equal))

-- a read of an index array with one to three arguments
abbrev pub is_term_over : ℕ → Term → Bool
is_term_over n t = list_all (has_vars n) t.at && (nat_le 1 (length t.at) && nat_le (length t.at) 3)

-- a cell with one to three subscripts
abbrev pub is_access_over : ℕ → Access → Bool
is_access_over n a = list_all (has_vars n) a.at && (nat_le 1 (length a.at) && nat_le (length a.at) 3)

abbrev pub over_layer : ℕ → Body-F Bool → Bool
over_layer n (Const-F c) = true
over_layer n (At-F a) = is_access_over n a
over_layer n (Plus-F a b) = a && b
over_layer n (Minus-F a b) = a && b
over_layer n (Times-F a b) = a && b

-- a right side all of whose cells are such
unfoldable pub is_body_over : ℕ → Body → Bool
is_body_over n = fold-Body Bool (over_layer n)

abbrev pub is_below : ℕ → Option ℕ → Bool
is_below n None = true
is_below n (Some i) = nat_lt i n

-- a statement's forms have one coefficient for each parameter, level and term; it has one position more than levels
pub record IsShapedNest (head : Program) (n : Nest) : Type 0 where
  pub positions : length n.positions ≡ suc (length n.levels)
  pub depth : length n.levels ≤ 8
  pub rows : IsTrue (list_all (is_row_over (vars_of (length head.params) n) (length n.levels)) n.rows)
  pub terms : IsTrue (list_all (is_term_over (vars_of (length head.params) n)) n.terms)
  pub target : IsTrue (is_access_over (vars_of (length head.params) n) n.target)
  pub value : IsTrue (is_body_over (vars_of (length head.params) n) n.value)
  pub whole : IsTrue (is_below (length head.matrices) n.whole)

-- a kernel has 1 to 64 statements, each of that shape; the children of each loop, and of the whole, are counted from 0
pub record IsShaped (k : Kernel) : Type 0 where
  pub nests : AllByRecursion (IsShapedNest k.head) k.nests
  pub some : 1 ≤ length k.nests
  pub few : length k.nests ≤ 64
  pub counted : numbered k.nests ≡ k.nests

-- a row keeps an own level where it has one
abbrev pub keeps_own : Frame → List Aff → KernelRow → Bool
keeps_own s old r = nat_eq r.own 0 || nat_lt 0 (own_made s old r.own)

-- a piece has one form for each of the statement's levels, and all its forms are over the new variables; the form of the own level of each row that is kept holds a new level
pub record FitsNest (params : ℕ) (n : Nest) (p : Piece) : Type 0 where
  pub counts : length p.old ≡ length n.levels
  pub positions : length p.positions ≡ suc (length p.levels)
  pub depth : length p.levels ≤ 8
  pub old : IsTrue (list_all (has_vars (new_vars (frame_of params n p))) p.old)
  pub rows : IsTrue (list_all (is_row_over (new_vars (frame_of params n p)) (length p.levels)) p.rows)
  pub terms : IsTrue (list_all (is_term_over (new_vars (frame_of params n p))) p.terms)
  pub drops : IsTrue (list_all (λ i. nat_lt i (length n.rows)) p.drops)
  pub bounds : IsTrue (list_all (keeps_own (frame_of params n p) p.old) (kept p.drops 0 n.rows))

-- each statement has at least one piece, and its pieces fit it
abbrev pub AllFit : ℕ → List Nest → List (List Piece) → Type 0
AllFit params [] [] = ⊤
AllFit params [] (ps ∷ pss) = ⊥
AllFit params (n ∷ ns) [] = ⊥
AllFit params (n ∷ ns) (ps ∷ pss) = (1 ≤ length ps) × AllByRecursion (FitsNest params n) ps × AllFit params ns pss

-- how many pieces there are
abbrev pub count_pieces : List (List Piece) → ℕ
count_pieces [] = 0
count_pieces (ps ∷ pss) = length ps + count_pieces pss

-- moves that can be made: the pieces fit the statements, of which there are at most 64 afterwards
pub record Fits (k : Kernel) (m : Moves) : Type 0 where
  pub pieces : AllFit (length k.head.params) k.nests m.pieces
  pub applies : length m.applies ≡ length k.nests
  pub few : count_pieces m.pieces ≤ 64
