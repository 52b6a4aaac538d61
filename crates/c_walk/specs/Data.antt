-- The worth of data expressions, as it is gathered from the right.
use Rattle.std.specs.Prelude.{ℕ, ◌+◌, ◌-◌, ◌*◌, ◌^◌, Option, Some, None, Ok}
use Rattle.c_tree.specs.declared.index.Cell.{Cell}
use Rattle.c_tree.specs.declared.data.Expr.{Expr}
use Rattle.c_meaning.specs.Value.{Answer, ◌>>=◌}
use Rattle.c_meaning.specs.Ground.{worth, wrapped}
use Rattle.c_meaning.specs.Listing.{Scene, spot, ground, scene_of}
use Rattle.c_walk.specs.declared.data.Operator.{Operator}
use Rattle.c_walk.specs.declared.data.Operator.TheVariants.{Plus, Minus, Times}
use Rattle.c_walk.specs.State.{State, memory_in}

abbrev pub scene : State → Scene
scene s = scene_of s.sight.value (memory_in s)

-- what a data expression is worth, or its first fault
abbrev pub worth_of : Expr → State → Answer ℕ
worth_of e s = ground e (scene s) >>= (λ g. Ok (worth g s.cells))

-- what a cell holds, or its fault
abbrev pub data_value : Cell → State → Answer ℕ
data_value e s = spot e (scene s) >>= (λ x. Ok (s.cells x))

-- from the left: the first fault counts
abbrev pub on_numbers : {A B C : Type 0} → (A → B → C) → Answer A → Answer B → Answer C
on_numbers f a b = a >>= (λ x. b >>= (λ y. Ok (f x y)))

abbrev pub plus_of : ℕ → ℕ → ℕ
plus_of x y = wrapped (x + y)

abbrev pub minus_of : ℕ → ℕ → ℕ
minus_of x y = wrapped (x + (2 ^ 64 - y))

abbrev pub times_of : ℕ → ℕ → ℕ
times_of x y = wrapped (x * y)

abbrev pub operated : Operator → ℕ → ℕ → ℕ
operated Plus x y = plus_of x y
operated Minus x y = minus_of x y
operated Times x y = times_of x y

-- what is done with a left part: nothing, or it is multiplied by the first and then the second is added
abbrev pub Tail : Type 0
Tail = Option (ℕ × ℕ)

abbrev pub applied : ℕ → Tail → ℕ
applied x None = x
applied x (Some p) = wrapped (p.0 * x + p.1)

abbrev pub plus_tail : ℕ → Tail → Tail
plus_tail y None = Some (1, y)
plus_tail y (Some p) = Some (p.0, wrapped (p.1 + wrapped (p.0 * y)))

abbrev pub minus_tail : ℕ → Tail → Tail
minus_tail y None = Some (1, wrapped (0 + (2 ^ 64 - y)))
minus_tail y (Some p) = Some (p.0, wrapped (p.1 + (2 ^ 64 - wrapped (p.0 * y))))

abbrev pub times_tail : ℕ → Tail → Tail
times_tail y None = Some (y, 0)
times_tail y (Some p) = Some (wrapped (p.0 * y), p.1)
