-- The value of an index expression, or the first fault that is met.
use Rattle.std.specs.Prelude.{ℤ, pos, Bool, true, false, ◌&&◌, List, [], ◌∷◌, Option, Some, None, Result, Ok, Err, if◌then◌else◌, nat_le, int_lt, int_le}
use Rattle.std.specs.Ordering.{int_eq}
use Rattle.c_tree.specs.declared.index.Index.{Index, fold-Index}
use Rattle.c_tree.specs.declared.index.Cell.{Cell, fold-Cell}
use Rattle.c_tree.specs.declared.index.Subscripts.{Subscripts, fold-Subscripts}
use Rattle.c_tree.specs.declared.index.Index.TheOpen.{Index-F, Const, Var, At, Neg, Plus, Minus, Times, Min, Max, Floor, Ceil, Cell-F, Subscripts-F, One, Two, Three}
use Rattle.c_tree.specs.declared.statement.Cmp.{Cmp}
use Rattle.c_tree.specs.declared.statement.Cmp.TheVariants.{Less, AtMost, More, AtLeast, Same}
use Rattle.c_tree.specs.declared.statement.Test.{Test}
use Rattle.c_meaning.specs.declared.fault.EvalFault.{EvalFault}
use Rattle.c_meaning.specs.declared.fault.EvalFault.TheVariants.{Outside, Range}
use Rattle.c_meaning.specs.Names.{Name}
use Rattle.c_meaning.specs.Weighed.{Weighed, greatest, plain, negated, sum_of, difference_of, multiple_of, lesser_of, greater_of, floor_of, ceil_of}

-- What an expression sees: the values of names, and the extents and cells of index arrays. Extents are three, of which
-- missing ones are 1; where there is no array there are none.
pub record Sight : Type 0 where
  pub value : Name → ℤ
  pub extents : Name → List ℤ
  pub index : Name → List ℤ → ℤ

-- each subscript is in 0 to extent-1
abbrev pub is_inside : List ℤ → List ℤ → Bool
is_inside [] [] = true
is_inside (i ∷ is) (e ∷ es) = (int_le (pos 0) i && int_lt i e) && is_inside is es
is_inside _ _ = false

-- the cell of an index array, where the subscripts are inside
abbrev pub cell_seen : Sight → Name → List ℤ → Option ℤ
cell_seen s a at = if is_inside at (s.extents a) then Some (s.index a at) else None

abbrev pub Answer : Type 0 → Type 0
Answer A = Result A EvalFault

-- the second needs the value of the first
infixl 10 ◌>>=◌
abbrev pub ◌>>=◌ : {A B : Type 0} → Answer A → (A → Answer B) → Answer B
Ok a >>= f = f a
Err e >>= f = Err e

-- the value, where its weight isn't too great
abbrev pub judged : Weighed → Answer ℤ
judged w = if nat_le w.weight greatest then Ok w.value else Err Range

abbrev pub judged_answer : Answer Weighed → Answer ℤ
judged_answer a = a >>= judged

abbrev pub plain_answer : Answer ℤ → Answer Weighed
plain_answer a = a >>= (λ n. Ok (plain n))

-- what stands for an expression, for the subscripts of a cell and for a cell: what they give under a sight
abbrev pub Meaning : Type 0
Meaning = Sight → Answer Weighed

abbrev pub SubscriptsMeaning : Type 0
SubscriptsMeaning = Sight → Answer (List ℤ)

abbrev pub CellMeaning : Type 0
CellMeaning = Sight → Answer ℤ

-- each subscript is judged as soon as it has been evaluated
abbrev pub subscript : Meaning → Sight → Answer ℤ
subscript m s = judged_answer (m s)

-- from the left: the first fault counts
abbrev pub three_answers : Answer ℤ → Answer ℤ → Answer ℤ → Answer (List ℤ)
three_answers a b c = do
  i ← a
  j ← b
  k ← c
  Ok (i ∷ j ∷ k ∷ [])

-- all subscripts; missing ones are 0
abbrev pub subscripts_layer : Subscripts-F Meaning SubscriptsMeaning CellMeaning → SubscriptsMeaning
subscripts_layer (One a) s = three_answers (subscript a s) (Ok (pos 0)) (Ok (pos 0))
subscripts_layer (Two a b) s = three_answers (subscript a s) (subscript b s) (Ok (pos 0))
subscripts_layer (Three a b c) s = three_answers (subscript a s) (subscript b s) (subscript c s)

abbrev pub held : Name → Option ℤ → Answer ℤ
held array None = Err (Outside array)
held array (Some n) = Ok n

-- all subscripts come before the cell
abbrev pub cell_layer : Cell-F Meaning SubscriptsMeaning CellMeaning → CellMeaning
cell_layer c s = c.at s >>= (λ at. held c.array (cell_seen s c.array at))

abbrev pub on_one : (Weighed → Weighed) → Answer Weighed → Answer Weighed
on_one f a = a >>= (λ x. Ok (f x))

-- from the left: the first fault counts
abbrev pub on_two : (Weighed → Weighed → Weighed) → Answer Weighed → Answer Weighed → Answer Weighed
on_two f a b = a >>= (λ x. b >>= (λ y. Ok (f x y)))

abbrev pub index_layer : Index-F Meaning SubscriptsMeaning CellMeaning → Meaning
index_layer (Const n) s = Ok (plain n)
index_layer (Var x) s = Ok (plain (s.value x))
index_layer (At c) s = plain_answer (c s)
index_layer (Neg a) s = on_one negated (a s)
index_layer (Plus a b) s = on_two sum_of (a s) (b s)
index_layer (Minus a b) s = on_two difference_of (a s) (b s)
index_layer (Times c a) s = on_one (multiple_of c) (a s)
index_layer (Min a b) s = on_two lesser_of (a s) (b s)
index_layer (Max a b) s = on_two greater_of (a s) (b s)
index_layer (Floor a d) s = on_one (λ x. floor_of x d) (a s)
index_layer (Ceil a d) s = on_one (λ x. ceil_of x d) (a s)

-- an index expression's value with its weight
unfoldable pub measure : Index → Meaning
measure = fold-Index Meaning SubscriptsMeaning CellMeaning index_layer subscripts_layer cell_layer

-- the subscripts of a cell
unfoldable pub subscripts_of : Subscripts → SubscriptsMeaning
subscripts_of = fold-Subscripts Meaning SubscriptsMeaning CellMeaning index_layer subscripts_layer cell_layer

-- the value of a cell of an index array
unfoldable pub cell_value : Cell → CellMeaning
cell_value = fold-Cell Meaning SubscriptsMeaning CellMeaning index_layer subscripts_layer cell_layer

-- the value of a whole index expression: the weight of the whole is judged last
abbrev pub value_of : Index → Sight → Answer ℤ
value_of e s = judged_answer (measure e s)

-- the values of expressions, from the left
abbrev pub values_of : List Index → Sight → Answer (List ℤ)
values_of [] s = Ok []
values_of (e ∷ es) s = do
  v ← value_of e s
  vs ← values_of es s
  Ok (v ∷ vs)

abbrev pub compares : Cmp → ℤ → ℤ → Bool
compares Less a b = int_lt a b
compares AtMost a b = int_le a b
compares More a b = int_lt b a
compares AtLeast a b = int_le b a
compares Same a b = int_eq a b

-- whether a test holds
abbrev pub holds : Test → Sight → Answer Bool
holds t s = do
  a ← value_of t.left s
  b ← value_of t.right s
  Ok (compares t.cmp a b)

-- whether all tests of a guard hold: from the left, up to the first false one
abbrev pub all_hold : List Test → Sight → Answer Bool
all_hold [] s = Ok true
all_hold (t ∷ ts) s = holds t s >>= (λ b. if b then all_hold ts s else Ok false)
