-- The systems whose integer points are two instances that name one cell by conflicting accesses and change their order.
use Rattle.std.specs.Prelude.{◌≡◌, ℕ, zero, suc, ◌+◌, List, [], ◌∷◌, ◌++◌, map, length, ℤ, negsuc, ◌≤◌, Bool, true, false, not, ◌&&◌, ◌||◌, IsTrue, Ok}
use Rattle.int_rows.specs.declared.row.Aff.{Aff}
use Rattle.int_rows.specs.declared.row.Row.{Row}
use Rattle.c_tree.specs.declared.statement.How.{How}
use Rattle.c_tree.specs.declared.statement.How.TheVariants.{Write, Add, Subtract}
use Rattle.nest_tree.specs.declared.kernel.Nest.{Nest}
use Rattle.nest_tree.specs.declared.kernel.KernelRow.{KernelRow}
use Rattle.nest_tree.specs.declared.body.Access.{Access}
use Rattle.nest_tree.specs.declared.body.Body.{Body}
use Rattle.nest_tree.specs.declared.body.Body.TheVariants.{At, Plus, Minus, Times}
use Rattle.int_rows.specs.Systems.{excluded}
use Rattle.nest_tree.specs.Lists.{IsIn}
use Rattle.nest_tree.specs.Places.{IsBefore, place}
use Rattle.nest_tree.specs.Forms.{less, sum, number, replaced, replaced_row, variables, Meets}
use Rattle.nest_tree.specs.Carriers.{Carrier, loop, text, shared, IsListed}
use Rattle.nest_tree.specs.Terms.{Input, term_values}
use Rattle.nest_tree.specs.Kernels.{IsPointOf}
use Rattle.nest_tree.specs.Pieces.{is_zero, is_at_least_zero}
use Rattle.nest_tree.specs.Moving.{Move, Gives}

-- the access is one of the right side
pub data IsRead (a : Access) : Body → Type 0 where
  here : IsRead a (At a)
  plus_left : (x y : Body) → IsRead a x → IsRead a (Plus x y)
  plus_right : (x y : Body) → IsRead a y → IsRead a (Plus x y)
  minus_left : (x y : Body) → IsRead a x → IsRead a (Minus x y)
  minus_right : (x y : Body) → IsRead a y → IsRead a (Minus x y)
  times_left : (x y : Body) → IsRead a x → IsRead a (Times x y)
  times_right : (x y : Body) → IsRead a y → IsRead a (Times x y)

abbrev pub is_compound : How → Bool
is_compound Write = false
is_compound Add = true
is_compound Subtract = true

-- an access of one statement and one of another to one array conflict: one is a target, and not both are targets of += or -=
pub data Clash (n m : Nest) : Access → Access → Type 0 where
  target_read : (b : Access) → IsRead b m.value → (n.target).array ≡ b.array → Clash n m n.target b
  read_target : (a : Access) → IsRead a n.value → a.array ≡ (m.target).array → Clash n m a m.target
  targets : (n.target).array ≡ (m.target).array → IsTrue (not (is_compound n.how && is_compound m.how)) → Clash n m n.target m.target

-- each two subscripts are equal: the first's less the second's is 0
abbrev pub equal_rows : List Aff → List Aff → List Row
equal_rows [] ys = []
equal_rows (x ∷ xs) [] = []
equal_rows (x ∷ xs) (y ∷ ys) = is_zero (less x y) ∷ equal_rows xs ys

-- the first n levels are equal
abbrev pub agreed_rows : ℕ → List Aff → List Aff → List Row
agreed_rows zero xs ys = []
agreed_rows (suc n) [] ys = []
agreed_rows (suc n) (x ∷ xs) [] = []
agreed_rows (suc n) (x ∷ xs) (y ∷ ys) = is_zero (less y x) ∷ agreed_rows n xs ys

-- the levels before a level, counted from 1, are equal, and at it y - x - 1 >= 0
abbrev pub smaller_rows : ℕ → List Aff → List Aff → List Row
smaller_rows l [] ys = []
smaller_rows l (x ∷ xs) [] = []
smaller_rows zero (x ∷ xs) (y ∷ ys) = []
smaller_rows (suc zero) (x ∷ xs) (y ∷ ys) = is_at_least_zero (sum (less y x) (number (negsuc 0))) ∷ []
smaller_rows (suc (suc l)) (x ∷ xs) (y ∷ ys) = is_zero (less y x) ∷ smaller_rows (suc l) xs ys

-- the rows by which an instance at the levels xs is before one at the levels ys, of n shared loops
abbrev pub order_rows : Carrier → ℕ → List Aff → List Aff → List Row
order_rows (loop l) n xs ys = smaller_rows l xs ys
order_rows text n xs ys = agreed_rows n xs ys

-- of two statements that two pieces make, the variables of a system: the parameters, the levels of the first and of the second, the terms of the first and of the second
pub record Pair : Type 0 where
  pub params : ℕ
  pub first : Move
  pub second : Move

abbrev pub depth_of : Move → ℕ
depth_of m = length (m.piece).levels

abbrev pub first_levels : Pair → List Aff
first_levels p = variables p.params (depth_of p.first)

abbrev pub second_levels : Pair → List Aff
second_levels p = variables (p.params + depth_of p.first) (depth_of p.second)

abbrev pub terms_from : Pair → ℕ
terms_from p = (p.params + depth_of p.first) + depth_of p.second

-- each statement's own variables among those of the system
abbrev pub first_variables : Pair → List Aff
first_variables p = variables 0 p.params ++ (first_levels p ++ variables (terms_from p) (length ((p.first).new).terms))

abbrev pub second_variables : Pair → List Aff
second_variables p = variables 0 p.params ++ (second_levels p ++ variables (terms_from p + length ((p.first).new).terms) (length ((p.second).new).terms))

abbrev pub row_of : KernelRow → Row
row_of r = r.row

-- the rows of both statements, further rows, equal subscripts of the two accesses, the old order and the opposite new order
abbrev pub system : Pair → List Row → Access → Access → Carrier → Carrier → List Row
system p further a b c d =
    map (replaced_row (first_variables p)) (map row_of ((p.first).new).rows)
    ++ (map (replaced_row (second_variables p)) (map row_of ((p.second).new).rows)
    ++ (further
    ++ (equal_rows (map (replaced (first_variables p)) a.at) (map (replaced (second_variables p)) b.at)
    ++ (order_rows c (shared ((p.first).old).positions ((p.second).old).positions) (map (replaced (first_variables p)) ((p.first).piece).old) (map (replaced (second_variables p)) ((p.second).piece).old)
    ++ order_rows d (shared ((p.second).piece).positions ((p.first).piece).positions) (second_levels p) (first_levels p)))))

-- the joint point of two instances on an input
abbrev pub joint_point : Input → Move → Move → List ℤ → List ℤ → List ℤ
joint_point i m k ws zs = i.params ++ (ws ++ (zs ++ (term_values i (m.new).terms (i.params ++ ws) ++ term_values i (k.new).terms (i.params ++ zs))))

-- how many variables a system has
abbrev pub variables_count : Pair → ℕ
variables_count p = (terms_from p + length ((p.first).new).terms) + length ((p.second).new).terms

-- further rows, as the ranges of terms' values, that hold at each two points of two moves
abbrev pub HoldTogether : Input → (Move → Move → List Row) → List Move → Type 0
HoldTogether i further moves = (m k : Move) (ws zs : List ℤ) → IsIn m moves → IsIn k moves → IsPointOf i m.new ws → IsPointOf i k.new zs → Meets (joint_point i m k ws zs) (further m k)

-- conflicting accesses have as many subscripts, at most three
abbrev pub SubscriptsFit : List Move → Type 0
SubscriptsFit moves = (m k : Move) (a b : Access) → IsIn m moves → IsIn k moves → Clash m.new k.new a b → (length a.at ≡ length b.at) × (length a.at ≤ 3)

-- a command tests the systems of each two moves to one of which it applies, of each two conflicting accesses, and of each two listed carriers; all are excluded
abbrev pub AllAreExcluded : ℕ → (Move → Move → List Row) → (Move → Bool) → List Move → Type 0
AllAreExcluded params further applies moves =
    (m k : Move) (a b : Access) (c d : Carrier) → IsIn m moves → IsIn k moves → IsTrue (applies m || applies k) → Clash m.new k.new a b
    → IsListed c (m.old).positions (k.old).positions → IsListed d (k.piece).positions (m.piece).positions
    → let p : Pair = record { params = params; first = m; second = k } in excluded (record { vars = variables_count p; rows = system p (further m k) a b c d }) ≡ Ok true

-- two instances to whose moves the command doesn't apply keep their order
abbrev pub OthersKeepOrder : Input → (Move → Bool) → List Move → Type 0
OthersKeepOrder i applies moves =
    (m k : Move) (vs ws us zs : List ℤ) → IsIn m moves → IsIn k moves → applies m ≡ false → applies k ≡ false → Gives i m vs ws → Gives i k us zs
    → IsBefore (place (m.old).positions vs) (place (k.old).positions us) → IsBefore (place (m.piece).positions ws) (place (k.piece).positions zs)
