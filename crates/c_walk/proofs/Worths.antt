-- Numbers modulo 2^64, gathered from the right.
use Rattle.std.proofs.Common.{ℕ, ◌≡◌, refl, sym, ap, ◌∙◌, ◌+◌, ◌-◌, ◌*◌, ◌%◌, ◌^◌, ◌<◌, Some, None, Ok, Err, arith}
use Rattle.std.proofs.Math.Nat.{mul_comm, mul_assoc, mul-add}
use Rattle.std.proofs.lemmas.Nat.{mul-mod_first}
use Rattle.c_tree.specs.declared.index.Cell.{Cell}
use Rattle.c_tree.specs.declared.data.Expr.{Expr}
use Rattle.c_tree.specs.declared.data.Expr.TheVariants.{Const, At, Plus, Minus, Times}
use Rattle.c_meaning.specs.declared.fault.EvalFault.{EvalFault}
use Rattle.c_meaning.specs.Memory.{Spot, Cells}
use Rattle.c_meaning.specs.Value.{Answer, ◌>>=◌}
use Rattle.c_meaning.specs.Ground.{Ground, load, sum, difference, product, worth}
use Rattle.c_meaning.specs.Listing.{ground, on_grounds, spot}
use Rattle.c_meaning.proofs.Parts.{ground-Const, ground-At, ground-Plus, ground-Minus, ground-Times}
use Rattle.c_walk.specs.State.{State}
use Rattle.c_walk.specs.Data.{scene, worth_of, data_value, on_numbers, Tail, applied, plus_tail, minus_tail, times_tail, plus_of, minus_of, times_of}

mod_second : (f z : ℕ) → (f * (z % 2 ^ 64)) % 2 ^ 64 ≡ (f * z) % 2 ^ 64
mod_second f z = ap (λ x. x % 2 ^ 64) (mul_comm f (z % 2 ^ 64)) ∙ mul-mod_first z f (2 ^ 64) ∙ ap (λ x. x % 2 ^ 64) (mul_comm z f)

plus_sum : (p q fx fy t : ℕ) → p % 2 ^ 64 ≡ q % 2 ^ 64 → q ≡ fx + fy → (p + t) % 2 ^ 64 ≡ (fx + (t + fy % 2 ^ 64) % 2 ^ 64) % 2 ^ 64
plus_sum p q fx fy t h k = omega arith

pub plus_law : (x y : ℕ) (t : Tail) → applied (plus_of x y) t ≡ applied x (plus_tail y t)
plus_law x y None = let e : (x + y) % 2 ^ 64 ≡ (1 * x + y) % 2 ^ 64 = omega arith in e
plus_law x y (Some p) = plus_sum (p.0 * ((x + y) % 2 ^ 64)) (p.0 * (x + y)) (p.0 * x) (p.0 * y) p.1 (mod_second p.0 (x + y)) (mul-add p.0 x y)

minus_sum : (p q fx u fy f t : ℕ) → p % 2 ^ 64 ≡ q % 2 ^ 64 → q ≡ fx + u → u + fy ≡ f * 2 ^ 64 → (p + t) % 2 ^ 64 ≡ (fx + (t + (2 ^ 64 - fy % 2 ^ 64)) % 2 ^ 64) % 2 ^ 64
minus_sum p q fx u fy f t h k l = omega arith

pub minus_law : (x y : ℕ) (t : Tail) → y < 2 ^ 64 → applied (minus_of x y) t ≡ applied x (minus_tail y t)
minus_law x y None h = let e : (x + (2 ^ 64 - y)) % 2 ^ 64 ≡ (1 * x + (0 + (2 ^ 64 - y)) % 2 ^ 64) % 2 ^ 64 = omega arith in e
minus_law x y (Some p) h =
    let whole : (2 ^ 64 - y) + y ≡ 2 ^ 64 = omega arith in
    minus_sum (p.0 * ((x + (2 ^ 64 - y)) % 2 ^ 64)) (p.0 * (x + (2 ^ 64 - y))) (p.0 * x) (p.0 * (2 ^ 64 - y)) (p.0 * y) p.0 p.1
    (mod_second p.0 (x + (2 ^ 64 - y))) (mul-add p.0 x (2 ^ 64 - y)) (sym (mul-add p.0 (2 ^ 64 - y) y) ∙ ap (λ n. p.0 * n) whole)

sums : (p q t : ℕ) → p % 2 ^ 64 ≡ q % 2 ^ 64 → (p + t) % 2 ^ 64 ≡ (q + t) % 2 ^ 64
sums p q t h = omega arith

pub times_law : (x y : ℕ) (t : Tail) → applied (times_of x y) t ≡ applied x (times_tail y t)
times_law x y None = let e : y * x + 0 ≡ y * x = omega arith in ap (λ n. n % 2 ^ 64) (mul_comm x y) ∙ ap (λ n. n % 2 ^ 64) (sym e)
times_law x y (Some p) =
    sums (p.0 * ((x * y) % 2 ^ 64)) (((p.0 * y) % 2 ^ 64) * x) p.1
    (mod_second p.0 (x * y) ∙ ap (λ n. n % 2 ^ 64) (ap (λ n. p.0 * n) (mul_comm x y) ∙ sym (mul_assoc p.0 y x)) ∙ sym (mul-mod_first (p.0 * y) x (2 ^ 64)))

-- answers in place of numbers
module _ (f : ℕ → ℕ → ℕ) where
  pub on_both : (a : Answer ℕ) (y : ℕ) (t t' : Tail) → ((x : ℕ) → applied (f x y) t ≡ applied x t') → on_numbers applied (on_numbers f a (Ok y)) (Ok t) ≡ on_numbers applied a (Ok t')
  on_both (Ok x) y t t' h = ap Ok (h x)
  on_both (Err e) y t t' h = refl

  pub no_right : (a : Answer ℕ) (e : EvalFault) (t : Answer Tail) → on_numbers applied (on_numbers f a (Err e)) t ≡ on_numbers applied a (Err e)
  no_right (Ok x) e t = refl
  no_right (Err q) e t = refl

  pub no_tail : (a : Answer ℕ) (y : ℕ) (e : EvalFault) → on_numbers applied (on_numbers f a (Ok y)) (Err e) ≡ on_numbers applied a (Err e)
  no_tail (Ok x) y e = refl
  no_tail (Err q) y e = refl

worth-Const : (n : ℕ) (s : State) → worth_of (Const n) s ≡ Ok n
worth-Const n s = ap (λ a. a >>= (λ g. Ok (worth g s.cells))) (ground-Const n (scene s))

at_of : (a : Answer Spot) (k : Cells) → ((a >>= (λ x. Ok (load x))) >>= (λ g. Ok (worth g k))) ≡ (a >>= (λ x. Ok (k x)))
at_of (Ok x) k = refl
at_of (Err e) k = refl

pub worth-At : (e : Cell) (s : State) → worth_of (At e) s ≡ data_value e s
worth-At e s = ap (λ a. a >>= (λ g. Ok (worth g s.cells))) (ground-At e (scene s)) ∙ at_of (spot e (scene s)) s.cells

two_of : (f : Ground → Ground → Ground) (h : ℕ → ℕ → ℕ) (k : Cells) → ((x y : Ground) → worth (f x y) k ≡ h (worth x k) (worth y k)) → (m n : Answer Ground)
    → (on_grounds f m n >>= (λ g. Ok (worth g k))) ≡ on_numbers h (m >>= (λ g. Ok (worth g k))) (n >>= (λ g. Ok (worth g k)))
two_of f h k e (Ok x) (Ok y) = ap Ok (e x y)
two_of f h k e (Ok x) (Err q) = refl
two_of f h k e (Err q) n = refl

pub worth-Plus : (a b : Expr) (s : State) → worth_of (Plus a b) s ≡ on_numbers plus_of (worth_of a s) (worth_of b s)
worth-Plus a b s = ap (λ a. a >>= (λ g. Ok (worth g s.cells))) (ground-Plus a b (scene s)) ∙ two_of sum plus_of s.cells (λ x y. refl) (ground a (scene s)) (ground b (scene s))

pub worth-Minus : (a b : Expr) (s : State) → worth_of (Minus a b) s ≡ on_numbers minus_of (worth_of a s) (worth_of b s)
worth-Minus a b s = ap (λ a. a >>= (λ g. Ok (worth g s.cells))) (ground-Minus a b (scene s)) ∙ two_of difference minus_of s.cells (λ x y. refl) (ground a (scene s)) (ground b (scene s))

pub worth-Times : (a b : Expr) (s : State) → worth_of (Times a b) s ≡ on_numbers times_of (worth_of a s) (worth_of b s)
worth-Times a b s = ap (λ a. a >>= (λ g. Ok (worth g s.cells))) (ground-Times a b (scene s)) ∙ two_of product times_of s.cells (λ x y. refl) (ground a (scene s)) (ground b (scene s))

abbrev pub Gathers : Expr → Expr → Answer Tail → State → Type 0
Gathers whole rest tail s = worth_of whole s ≡ on_numbers applied (worth_of rest s) tail

nothing_right : (a : Answer ℕ) → a ≡ on_numbers applied a (Ok None)
nothing_right (Ok x) = refl
nothing_right (Err e) = refl

pub begins : (e : Expr) (s : State) → Gathers e e (Ok None) s
begins e s = nothing_right (worth_of e s)

module _ (e rest left part : Expr) (s : State) (given : Answer ℕ) (tail next : Answer Tail) (g : Gathers e rest tail s) (h : given ≡ worth_of part s) where
  pub adds : rest ≡ Plus left part → ((a : Answer ℕ) → on_numbers applied (on_numbers plus_of a given) tail ≡ on_numbers applied a next) → Gathers e left next s
  adds is k =
      g ∙ ap (λ t. on_numbers applied (worth_of t s) tail) is ∙ ap (λ a. on_numbers applied a tail) (worth-Plus left part s)
      ∙ ap (λ b. on_numbers applied (on_numbers plus_of (worth_of left s) b) tail) (sym h) ∙ k (worth_of left s)

  pub takes : rest ≡ Minus left part → ((a : Answer ℕ) → on_numbers applied (on_numbers minus_of a given) tail ≡ on_numbers applied a next) → Gathers e left next s
  takes is k =
      g ∙ ap (λ t. on_numbers applied (worth_of t s) tail) is ∙ ap (λ a. on_numbers applied a tail) (worth-Minus left part s)
      ∙ ap (λ b. on_numbers applied (on_numbers minus_of (worth_of left s) b) tail) (sym h) ∙ k (worth_of left s)

  pub multiplies : rest ≡ Times left part → ((a : Answer ℕ) → on_numbers applied (on_numbers times_of a given) tail ≡ on_numbers applied a next) → Gathers e left next s
  multiplies is k =
      g ∙ ap (λ t. on_numbers applied (worth_of t s) tail) is ∙ ap (λ a. on_numbers applied a tail) (worth-Times left part s)
      ∙ ap (λ b. on_numbers applied (on_numbers times_of (worth_of left s) b) tail) (sym h) ∙ k (worth_of left s)

pub ends_constant : (e rest : Expr) (s : State) (n : ℕ) (tail : Answer Tail) (r : Answer ℕ) → Gathers e rest tail s → rest ≡ Const n → r ≡ on_numbers applied (Ok n) tail → r ≡ worth_of e s
ends_constant e rest s n tail r g is k = k ∙ sym (ap (λ a. on_numbers applied a tail) (ap (λ t. worth_of t s) is ∙ worth-Const n s)) ∙ sym g

pub ends_cell : (e rest : Expr) (s : State) (x : Cell) (given : Answer ℕ) (tail : Answer Tail) (r : Answer ℕ) → Gathers e rest tail s → rest ≡ At x → given ≡ data_value x s → r ≡ on_numbers applied given tail → r ≡ worth_of e s
ends_cell e rest s x given tail r g is h k = k ∙ ap (λ a. on_numbers applied a tail) h ∙ sym (ap (λ a. on_numbers applied a tail) (ap (λ t. worth_of t s) is ∙ worth-At x s)) ∙ sym g
