-- Level values, and what the affine commands do to them. Levels count from 1.
use Rattle.std.specs.Prelude.{◌≡◌, ℕ, zero, suc, ◌<◌, ◌≤◌, List, [], ◌∷◌, map, length, ℤ, pos, ◌+ℤ◌, ◌*ℤ◌, ◌-ℤ◌, ◌≤ℤ◌, neg_ℤ, cond, nat_eq}
use Rattle.nest_tree.specs.Lists.{IsIn}

-- the value at a level
abbrev pub at_level : ℕ → List ℤ → ℤ
at_level l [] = pos 0
at_level zero (v ∷ vs) = pos 0
at_level (suc zero) (v ∷ vs) = v
at_level (suc (suc l)) (v ∷ vs) = at_level (suc l) vs

-- the list without its l-th thing, and with a further thing as the l-th; both count from 1
abbrev pub without : {A : Type 0} → ℕ → List A → List A
without l [] = []
without zero (x ∷ xs) = x ∷ xs
without (suc zero) (x ∷ xs) = xs
without (suc (suc l)) (x ∷ xs) = x ∷ without (suc l) xs

abbrev pub inserted : {A : Type 0} → ℕ → A → List A → List A
inserted zero y xs = y ∷ xs
inserted (suc zero) y xs = y ∷ xs
inserted (suc (suc l)) y [] = y ∷ []
inserted (suc (suc l)) y (x ∷ xs) = x ∷ inserted (suc l) y xs

-- `permute`: new level t is old level order[t]
abbrev pub permuted : List ℕ → List ℤ → List ℤ
permuted order vs = map (λ l. at_level l vs) order

-- the new value at which the order has old level l, and so the old level values l, l+1 and on, one for each of `rest`
abbrev pub value_for : ℕ → List ℕ → List ℤ → ℤ
value_for l [] ws = pos 0
value_for l (o ∷ order) [] = pos 0
value_for l (o ∷ order) (w ∷ ws) = cond (nat_eq o l) w (value_for l order ws)

abbrev pub unpermuted : List ℕ → List ℤ → ℕ → List ℕ → List ℤ
unpermuted order ws l [] = []
unpermuted order ws l (o ∷ rest) = value_for l order ws ∷ unpermuted order ws (suc l) rest

-- a permutation of 1 to its length
pub record IsPermutation (order : List ℕ) : Type 0 where
  pub each : (l : ℕ) → IsIn l order → (0 < l) × (l ≤ length order)
  pub all : (l : ℕ) → 0 < l → l ≤ length order → IsIn l order

abbrev pub NoTwice : List ℕ → Type 0
NoTwice [] = Unit
NoTwice (l ∷ ls) = (IsIn l ls → ⊥) × NoTwice ls

-- `tile`: the value v is in the tile t, that is v - size*t >= 0 and size*t + size-1 - v >= 0
pub record IsInTile (size t v : ℤ) : Type 0 where
  pub low : pos 0 ≤ℤ (v -ℤ size *ℤ t)
  pub high : pos 0 ≤ℤ (((size *ℤ t) +ℤ (size -ℤ pos 1)) -ℤ v)

-- the new level `outer` is the tile of the old level `level`, and all old levels stay
pub record IsTiled (size : ℤ) (outer level : ℕ) (old new : List ℤ) : Type 0 where
  pub longer : length new ≡ suc (length old)
  pub stays : without outer new ≡ old
  pub tile : IsInTile size (at_level outer new) (at_level level old)

-- `skew`: multiples of the levels before are added to a level; `sum` is that of those passed so far
abbrev pub skewed : List ℤ → ℤ → List ℤ → List ℤ
skewed cs sum [] = []
skewed [] sum (v ∷ vs) = (v +ℤ sum) ∷ vs
skewed (c ∷ cs) sum (v ∷ vs) = v ∷ skewed cs (sum +ℤ (c *ℤ v)) vs

-- and the old level values from the new ones
abbrev pub unskewed : List ℤ → ℤ → List ℤ → List ℤ
unskewed cs sum [] = []
unskewed [] sum (w ∷ ws) = (w +ℤ neg_ℤ sum) ∷ ws
unskewed (c ∷ cs) sum (w ∷ ws) = w ∷ unskewed cs (sum +ℤ (c *ℤ w)) ws

-- `shift`: a number is added to a level
abbrev pub shifted : ℕ → ℤ → List ℤ → List ℤ
shifted l amount [] = []
shifted zero amount (v ∷ vs) = v ∷ vs
shifted (suc zero) amount (v ∷ vs) = (v +ℤ amount) ∷ vs
shifted (suc (suc l)) amount (v ∷ vs) = v ∷ shifted (suc l) amount vs
