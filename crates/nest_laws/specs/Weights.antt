-- Index expressions whose size, known from the text alone, is small.
use Rattle.std.specs.Prelude.{◌≡◌, ℕ, ◌+◌, ◌*◌, ◌≤◌, max, ℤ, pos, ◌+ℤ◌, ◌-ℤ◌, ◌*ℤ◌, neg_ℤ, ◌≤ℤ◌, unsigned_abs, List, [], ◌∷◌, Some, Ok}
use Rattle.std.specs.Int.{int_min, int_max, int_div_euclid}
use Rattle.c_tree.specs.declared.index.Index.{Index}
use Rattle.c_tree.specs.declared.index.Index.TheVariants.{Const, Var, At, Neg, Plus, Minus, Times, Min, Max, Floor, Ceil}
use Rattle.c_tree.specs.declared.index.Subscripts.TheVariants.{One, Two, Three}
use Rattle.c_meaning.specs.Names.{Name}
use Rattle.c_meaning.specs.Weighed.{greatest}
use Rattle.c_meaning.specs.Value.{Sight, cell_seen, value_of}

-- the greatest size of each name's value, and of each array's cells
pub record Sizes : Type 0 where
  pub names : Name → ℕ
  pub cells : Name → ℕ

-- The expression has this value and this size: each name in it, and the cell that each read in it finds, keeps to its size, each
-- subscript has a size of at most 2^62, and each divisor is at least 1.
pub data HasSize (z : Sizes) (s : Sight) : Index → ℤ → ℕ → Type 0 where
  const : (n : ℤ) → HasSize z s (Const n) n (unsigned_abs n)
  name : (x : Name) → unsigned_abs (s.value x) ≤ z.names x → HasSize z s (Var x) (s.value x) (z.names x)
  one : (array : Name) (a : Index) (v w : ℤ) (n : ℕ) → HasSize z s a v n → n ≤ greatest → cell_seen s array (v ∷ pos 0 ∷ pos 0 ∷ []) ≡ Some w → unsigned_abs w ≤ z.cells array → HasSize z s (At (record { array = array; at = One a })) w (z.cells array)
  two : (array : Name) (a b : Index) (v u w : ℤ) (n m : ℕ) → HasSize z s a v n → n ≤ greatest → HasSize z s b u m → m ≤ greatest → cell_seen s array (v ∷ u ∷ pos 0 ∷ []) ≡ Some w → unsigned_abs w ≤ z.cells array → HasSize z s (At (record { array = array; at = Two a b })) w (z.cells array)
  three : (array : Name) (a b c : Index) (v u t w : ℤ) (n m k : ℕ) → HasSize z s a v n → n ≤ greatest → HasSize z s b u m → m ≤ greatest → HasSize z s c t k → k ≤ greatest → cell_seen s array (v ∷ u ∷ t ∷ []) ≡ Some w → unsigned_abs w ≤ z.cells array → HasSize z s (At (record { array = array; at = Three a b c })) w (z.cells array)
  neg : (a : Index) (v : ℤ) (n : ℕ) → HasSize z s a v n → HasSize z s (Neg a) (neg_ℤ v) n
  plus : (a b : Index) (v u : ℤ) (n m : ℕ) → HasSize z s a v n → HasSize z s b u m → HasSize z s (Plus a b) (v +ℤ u) (n + m)
  minus : (a b : Index) (v u : ℤ) (n m : ℕ) → HasSize z s a v n → HasSize z s b u m → HasSize z s (Minus a b) (v -ℤ u) (n + m)
  times : (c : ℤ) (a : Index) (v : ℤ) (n : ℕ) → HasSize z s a v n → HasSize z s (Times c a) (c *ℤ v) (unsigned_abs c * n)
  lesser : (a b : Index) (v u : ℤ) (n m : ℕ) → HasSize z s a v n → HasSize z s b u m → HasSize z s (Min a b) (int_min v u) (max n m)
  greater : (a b : Index) (v u : ℤ) (n m : ℕ) → HasSize z s a v n → HasSize z s b u m → HasSize z s (Max a b) (int_max v u) (max n m)
  floor : (a : Index) (d v : ℤ) (n : ℕ) → HasSize z s a v n → pos 1 ≤ℤ d → HasSize z s (Floor a d) (int_div_euclid v d) n
  ceil : (a : Index) (d v : ℤ) (n : ℕ) → HasSize z s a v n → pos 1 ≤ℤ d → HasSize z s (Ceil a d) (neg_ℤ (int_div_euclid (neg_ℤ v) d)) n

-- an expression of a small size has its value, no fault, and the value keeps to the size
abbrev pub SmallExpressionHasValue : Type 0
SmallExpressionHasValue = (z : Sizes) (s : Sight) (e : Index) (v : ℤ) (n : ℕ) → HasSize z s e v n → n ≤ greatest → (value_of e s ≡ Ok v) × (unsigned_abs v ≤ n)
