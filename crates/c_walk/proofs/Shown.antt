-- The cells of an expression that has a value have subscripts that have values.
use Rattle.std.proofs.Common.{ℕ, ◌≡◌, refl, sym, ap, ◌∙◌, ℤ, List, Bool, true, ◌&&◌, if◌then◌else◌, Ok, Err, is_ok}
use Rattle.c_tree.specs.declared.index.Cell.{Cell}
use Rattle.c_tree.specs.declared.data.Expr.{Expr}
use Rattle.c_tree.specs.declared.data.Expr.TheVariants.{Const, At, Plus, Minus, Times}
use Rattle.c_meaning.specs.declared.fault.EvalFault.TheVariants.{Outside}
use Rattle.c_meaning.specs.Memory.{Spot}
use Rattle.c_meaning.specs.Scope.{data_cell_fits}
use Rattle.c_meaning.specs.Value.{Answer, ◌>>=◌, subscripts_of}
use Rattle.c_trace.specs.Lines.{has_cells}
use Rattle.c_trace.proofs.Expressions.{induct}
use Rattle.c_trace.proofs.Cells.{has-Const, has-At, has-Plus, has-Minus, has-Times}
use Rattle.c_walk.specs.State.{State}
use Rattle.c_walk.specs.Ready.{data_fits}
use Rattle.c_walk.specs.Data.{scene, worth_of, data_value, on_numbers, plus_of, minus_of, times_of}
use Rattle.c_walk.proofs.DataFits.{cell-At, left-Plus, right-Plus, left-Minus, right-Minus, left-Times, right-Times}
use Rattle.c_walk.proofs.Worths.{worth-At, worth-Plus, worth-Minus, worth-Times}

pub both : (p q : Bool) → p ≡ true → q ≡ true → (p && q) ≡ true
both p q h k = ap (λ t. t && q) h ∙ k

left_number : (f : ℕ → ℕ → ℕ) (a b : Answer ℕ) (n : ℕ) → on_numbers f a b ≡ Ok n → (m : ℕ) × (a ≡ Ok m)
left_number f (Ok x) b n h = (x, refl)
left_number f (Err e) b n h = cc

right_number : (f : ℕ → ℕ → ℕ) (a b : Answer ℕ) (n : ℕ) → on_numbers f a b ≡ Ok n → (m : ℕ) × (b ≡ Ok m)
right_number f (Ok x) (Ok y) n h = (y, refl)
right_number f (Ok x) (Err e) n h = cc
right_number f (Err e) b n h = cc

-- a cell that is read has its subscripts
pub read_subscripts : (x : Cell) (s : State) (n : ℕ) → data_value x s ≡ Ok n → is_ok (subscripts_of x.at s.sight) ≡ true
read_subscripts x s n h = by (subscripts_of x.at s.sight) h
  where
    by : (a : Answer (List ℤ)) → ((a >>= (λ at. let y : Spot = record { array = x.array; at = at } in (if (scene s).inside y then Ok y else Err (Outside x.array)))) >>= (λ y. Ok (s.cells y))) ≡ Ok n → is_ok a ≡ true
    by (Ok at) k = refl
    by (Err e) k = cc

abbrev IsShown : Expr → Type 0
IsShown e = (s : State) (n : ℕ) → data_fits e s.scope ≡ true → worth_of e s ≡ Ok n → has_cells e s.scope s.sight ≡ true

constant_shown : (n : ℕ) → IsShown (Const n)
constant_shown n s m f w = has-Const s.scope s.sight n

cell_shown : (x : Cell) → IsShown (At x)
cell_shown x s n f w =
    has-At s.scope s.sight x ∙ both (data_cell_fits x s.scope) (is_ok (subscripts_of x.at s.sight)) (cell-At s.scope (At x) x refl f) (read_subscripts x s n (sym (worth-At x s) ∙ w))

plus_shown : (a b : Expr) → IsShown a → IsShown b → IsShown (Plus a b)
plus_shown a b p q s n f w =
    let h : on_numbers plus_of (worth_of a s) (worth_of b s) ≡ Ok n = sym (worth-Plus a b s) ∙ w in
    let x = left_number plus_of (worth_of a s) (worth_of b s) n h in
    let y = right_number plus_of (worth_of a s) (worth_of b s) n h in
    has-Plus s.scope s.sight a b ∙ both (has_cells a s.scope s.sight) (has_cells b s.scope s.sight) (p s x.0 (left-Plus s.scope (Plus a b) a b refl f) x.1) (q s y.0 (right-Plus s.scope (Plus a b) a b refl f) y.1)

minus_shown : (a b : Expr) → IsShown a → IsShown b → IsShown (Minus a b)
minus_shown a b p q s n f w =
    let h : on_numbers minus_of (worth_of a s) (worth_of b s) ≡ Ok n = sym (worth-Minus a b s) ∙ w in
    let x = left_number minus_of (worth_of a s) (worth_of b s) n h in
    let y = right_number minus_of (worth_of a s) (worth_of b s) n h in
    has-Minus s.scope s.sight a b ∙ both (has_cells a s.scope s.sight) (has_cells b s.scope s.sight) (p s x.0 (left-Minus s.scope (Minus a b) a b refl f) x.1) (q s y.0 (right-Minus s.scope (Minus a b) a b refl f) y.1)

times_shown : (a b : Expr) → IsShown a → IsShown b → IsShown (Times a b)
times_shown a b p q s n f w =
    let h : on_numbers times_of (worth_of a s) (worth_of b s) ≡ Ok n = sym (worth-Times a b s) ∙ w in
    let x = left_number times_of (worth_of a s) (worth_of b s) n h in
    let y = right_number times_of (worth_of a s) (worth_of b s) n h in
    has-Times s.scope s.sight a b ∙ both (has_cells a s.scope s.sight) (has_cells b s.scope s.sight) (p s x.0 (left-Times s.scope (Times a b) a b refl f) x.1) (q s y.0 (right-Times s.scope (Times a b) a b refl f) y.1)

pub are_shown : (e : Expr) → IsShown e
are_shown = induct IsShown (record { constant = constant_shown; cell = cell_shown; plus = plus_shown; minus = minus_shown; times = times_shown })
