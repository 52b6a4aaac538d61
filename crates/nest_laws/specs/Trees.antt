-- An executor as loops, guards and steps over the values of its loop variables, any of which may have a fault.
use Rattle.std.specs.Prelude.{◌≡◌, ℕ, suc, ◌+◌, ℤ, pos, ◌-ℤ◌, ◌≤ℤ◌, ◌<ℤ◌, Bool, true, false, List, [], ◌∷◌, ◌++◌, map, if◌then◌else◌, Ok, Err}
use Rattle.c_tree.specs.declared.statement.Stmt.{Stmt, fold-Stmt}
use Rattle.c_tree.specs.declared.statement.Stmt.TheOpen.{Stmt-F, For, If, Assign, Put, Declare, Grow}
use Rattle.c_meaning.specs.Names.{Name, Place, child}
use Rattle.c_meaning.specs.Value.{Answer, value_of, all_hold}
use Rattle.c_meaning.specs.Ground.{Step}
use Rattle.c_meaning.specs.Listing.{Scene, bind, assigned, Listing, nothing, performs, given, ◌⨾◌, above_zero}
use Rattle.c_meaning.specs.Listing as listing
use Rattle.nest_tree.specs.Loops.{Levels, Loops, stop, assign, loop, guard}

-- children one after another: what each does, as a function of the values of the loops around, and the children behind it
pub data Tree : Type 0 where
  end : Tree
  skip : Tree → Tree
  step : (Levels → Answer Step) → Tree → Tree
  turns : (Levels → Answer ℤ) → (Levels → Answer ℤ) → Tree → Tree → Tree
  when : (Levels → Answer Bool) → Tree → Tree → Tree

abbrev pub count : Tree → ℕ
count end = 0
count (skip rest) = suc (count rest)
count (step f rest) = suc (count rest)
count (turns low high body rest) = suc (count rest)
count (when test body rest) = count body + count rest

-- the listing of children at a place, from child position n on
abbrev pub listed : Tree → Levels → Place → ℕ → Listing
listed end e at n = nothing
listed (skip rest) e at n = nothing ⨾ listed rest e at (suc n)
listed (step f rest) e at n = given (child at n) (f e) (performs (child at n)) ⨾ listed rest e at (suc n)
listed (turns low high body rest) e at n =
    given (child at n) (low e) (λ l. given (child at n) (high e) (λ h. listing.turns (above_zero (h -ℤ l)) l (λ v. listed body (e ++ v ∷ []) (child at n ++ v ∷ []) 0)))
    ⨾ listed rest e at (suc n)
listed (when test body rest) e at n = given (child at n) (test e) (λ b. if b then listed body e at n else nothing) ⨾ listed rest e at (n + count body)

-- nothing that is reached has a fault
abbrev pub IsFine : Tree → Levels → Type 0
IsFine end e = Unit
IsFine (skip rest) e = IsFine rest e
IsFine (step f rest) e = ((t : Step) × (f e ≡ Ok t)) × IsFine rest e
IsFine (turns low high body rest) e = ((l h : ℤ) × (low e ≡ Ok l) × (high e ≡ Ok h) × ((v : ℤ) → l ≤ℤ v → v <ℤ h → IsFine body (e ++ v ∷ []))) × IsFine rest e
IsFine (when test body rest) e = ((b : Bool) × (test e ≡ Ok b) × (b ≡ true → IsFine body e)) × IsFine rest e

abbrev pub or_else : {A : Type 0} → A → Answer A → A
or_else d (Ok a) = a
or_else d (Err e) = d

-- the same with a value in place of each fault; a statement that does nothing is a guard that is false, around a step
abbrev pub without_faults : Step → Tree → Loops Step
without_faults d end = stop
without_faults d (skip rest) = guard (λ e. false) (assign (λ e. d) stop) (without_faults d rest)
without_faults d (step f rest) = assign (λ e. or_else d (f e)) (without_faults d rest)
without_faults d (turns low high body rest) = loop (λ e. or_else (pos 0) (low e)) (λ e. or_else (pos 0) (high e)) (without_faults d body) (without_faults d rest)
without_faults d (when test body rest) = guard (λ e. or_else false (test e)) (without_faults d body) (without_faults d rest)

-- the scene in the turns of the loops with these variables, which have these values
abbrev pub bind_all : List Name → Levels → Scene → Scene
bind_all [] e c = c
bind_all (x ∷ xs) [] c = c
bind_all (x ∷ xs) (v ∷ e) c = bind_all xs e (bind x v c)

-- a statement in front of others, under the variables of the loops around
abbrev pub InFront : Type 0
InFront = Scene → List Name → Tree → Tree

abbrev pub in_order : List InFront → InFront
in_order [] c names rest = rest
in_order (f ∷ fs) c names rest = f c names (in_order fs c names rest)

abbrev pub tree_layer : Stmt-F InFront → InFront
tree_layer (For x low high body) c names rest = turns (λ e. value_of low (bind_all names e c).sight) (λ e. value_of high (bind_all names e c).sight) (in_order body c (names ++ x ∷ []) end) rest
tree_layer (If tests body) c names rest = when (λ e. all_hold tests (bind_all names e c).sight) (in_order body c names end) rest
tree_layer (Assign target how value) c names rest = step (λ e. assigned target how value (bind_all names e c)) rest
tree_layer (Put target value) c names rest = skip rest
tree_layer (Declare name kind inner) c names rest = skip rest
tree_layer (Grow name by) c names rest = skip rest

unfoldable pub in_front : Stmt → InFront
in_front = fold-Stmt InFront tree_layer

-- the tree of an executor
abbrev pub tree_of : List Stmt → Scene → Tree
tree_of body c = in_order (map in_front body) c [] end
