-- What an executor performs: its assignments with their places, and the fault that ends them, if one does.
-- Parameters, loop variables, index arrays and extents don't change in an executor, so no state of data arrays is needed.
use Rattle.std.specs.Prelude.{ℕ, zero, suc, ◌+◌, ℤ, pos, negsuc, ◌+ℤ◌, ◌-ℤ◌, Bool, List, [], ◌∷◌, ◌++◌, map, if◌then◌else◌, Option, Some, None, Ok, Err}
use Rattle.c_tree.specs.declared.index.Cell.{Cell}
use Rattle.c_tree.specs.declared.index.Index.{Index}
use Rattle.c_tree.specs.declared.statement.How.{How}
use Rattle.c_tree.specs.declared.data.Expr.{Expr, fold-Expr}
use Rattle.c_tree.specs.declared.data.Expr.TheOpen.{Expr-F, Const, At, Plus, Minus, Times}
use Rattle.c_tree.specs.declared.statement.Stmt.{Stmt, fold-Stmt}
use Rattle.c_tree.specs.declared.statement.Stmt.TheOpen.{Stmt-F, For, If, Assign, Put, Declare, Grow}
use Rattle.c_meaning.specs.declared.fault.EvalFault.{EvalFault}
use Rattle.c_meaning.specs.declared.fault.EvalFault.TheVariants.{Outside}
use Rattle.c_meaning.specs.Names.{Name, Place, child}
use Rattle.c_meaning.specs.Value.{Sight, Answer, ◌>>=◌, subscripts_of, value_of, all_hold}
use Rattle.c_meaning.specs.Memory.{Spot, Memory, Env, sight_of, is_in_array, bound}
use Rattle.c_meaning.specs.Ground.{Ground, number, load, sum, difference, product, Step}

-- what a statement of an executor sees: numbers and index cells, and which spots are inside their arrays
pub record Scene : Type 0 where
  pub sight : Sight
  pub inside : Spot → Bool

abbrev pub scene_of : Env → Memory → Scene
scene_of c m = record { sight = sight_of c m; inside = λ x. is_in_array x m }

-- the scene in a turn of a loop
abbrev pub bind : Name → ℤ → Scene → Scene
bind x v c = record { sight = record c.sight { value = bound x v c.sight.value }; inside = c.inside }

-- the cell that a data cell names: all subscripts come before the test that it is inside
abbrev pub spot : Cell → Scene → Answer Spot
spot e c = do
  at ← subscripts_of e.at c.sight
  let x : Spot = record { array = e.array; at = at } in (if c.inside x then Ok x else Err (Outside e.array))

abbrev pub on_grounds : (Ground → Ground → Ground) → Answer Ground → Answer Ground → Answer Ground
on_grounds f a b = a >>= (λ x. b >>= (λ y. Ok (f x y)))

abbrev pub ground_layer : Expr-F (Scene → Answer Ground) → Scene → Answer Ground
ground_layer (Const n) c = Ok (number n)
ground_layer (At e) c = spot e c >>= (λ x. Ok (load x))
ground_layer (Plus a b) c = on_grounds sum (a c) (b c)
ground_layer (Minus a b) c = on_grounds difference (a c) (b c)
ground_layer (Times a b) c = on_grounds product (a c) (b c)

-- the right side of an assignment over cells
unfoldable pub ground : Expr → Scene → Answer Ground
ground = fold-Expr (Scene → Answer Ground) ground_layer

-- an assignment over cells: the right side first, and then the target's subscripts
abbrev pub assigned : Cell → How → Expr → Scene → Answer Step
assigned target how value c = do
  e ← ground value c
  x ← spot target c
  Ok (record { target = x; how = how; value = e })

-- what stands at a place
pub record Item (T : Type 0) : Type 0 where
  pub place : Place
  pub step : T

pub record Trouble : Type 0 where
  pub place : Place
  pub fault : EvalFault

pub record Listing : Type 0 where
  pub items : List (Item Step)
  pub trouble : Option Trouble

abbrev pub nothing : Listing
nothing = record { items = []; trouble = None }

abbrev pub fails : Place → EvalFault → Listing
fails p e = record { items = []; trouble = Some (record { place = p; fault = e }) }

abbrev pub performs : Place → Step → Listing
performs p t = record { items = record { place = p; step = t } ∷ []; trouble = None }

abbrev pub after : Listing → Option Trouble → Listing → Listing
after l (Some t) m = l
after l None m = record { items = l.items ++ m.items; trouble = m.trouble }

-- the first, and where it has no fault the second
infixr 5 ◌⨾◌
abbrev pub ◌⨾◌ : Listing → Listing → Listing
l ⨾ m = after l l.trouble m

-- a value that the place needs, or the fault of that place
abbrev pub given : {A : Type 0} → Place → Answer A → (A → Listing) → Listing
given p (Ok a) f = f a
given p (Err e) f = fails p e

-- a statement: how many child positions it takes, and its listing in a list at a place, at a child position
pub record Part : Type 0 where
  pub width : ℕ
  pub listing : Scene → Place → ℕ → Listing

abbrev pub widths : List Part → ℕ
widths [] = 0
widths (p ∷ ps) = p.width + widths ps

-- statements one after another, from child position n of the list at the place
abbrev pub sequence : List Part → Scene → Place → ℕ → Listing
sequence [] c at n = nothing
sequence (p ∷ ps) c at n = p.listing c at n ⨾ sequence ps c at (n + p.width)

-- k turns, for v and the numbers behind it
abbrev pub turns : ℕ → ℤ → (ℤ → Listing) → Listing
turns zero v body = nothing
turns (suc k) v body = body v ⨾ turns k (v +ℤ pos 1) body

-- how many numbers there are from `low` to below `high`
abbrev pub above_zero : ℤ → ℕ
above_zero (pos n) = n
above_zero (negsuc n) = 0

-- a loop at its place: its two bounds once, and then a turn for each number from the first to below the second
abbrev pub loop_listing : Name → Index → Index → List Part → Scene → Place → Listing
loop_listing x low high body c at =
    given at (value_of low c.sight) (λ l. given at (value_of high c.sight) (λ h.
    turns (above_zero (h -ℤ l)) l (λ v. sequence body (bind x v c) (at ++ v ∷ []) 0)))

-- a guard takes no child position: its statements take positions in the list around it
abbrev pub stmt_layer : Stmt-F Part → Part
stmt_layer (For x low high body) = record { width = 1; listing = λ c at n. loop_listing x low high body c (child at n) }
stmt_layer (If tests body) = record {
  width = widths body;
  listing = λ c at n. given (child at n) (all_hold tests c.sight) (λ b. if b then sequence body c at n else nothing);
}
stmt_layer (Assign target how value) = record {
  width = 1;
  listing = λ c at n. given (child at n) (assigned target how value c) (performs (child at n));
}
-- these three don't stand in an executor
stmt_layer (Put target value) = record { width = 1; listing = λ c at n. nothing }
stmt_layer (Declare name kind inner) = record { width = 1; listing = λ c at n. nothing }
stmt_layer (Grow name by) = record { width = 1; listing = λ c at n. nothing }

unfoldable pub part : Stmt → Part
part = fold-Stmt Part stmt_layer

-- the listing of an executor
abbrev pub listing : List Stmt → Scene → Listing
listing body c = sequence (map part body) c [] 0

abbrev pub steps : List (Item Step) → List Step
steps [] = []
steps (i ∷ is) = i.step ∷ steps is
