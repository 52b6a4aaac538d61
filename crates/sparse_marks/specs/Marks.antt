-- The marks by which kept values are found in one walk over the entries.
use Rattle.std.specs.Prelude.{◌≡◌, ℕ, zero, suc, ◌-◌, ◌≤◌, ◌<◌, ℤ, List, [], ◌∷◌, ◌++◌, length, if◌then◌else◌, nat_eq, nat_le}
use Rattle.sparse_marks.specs.Kept.{same, Placed, kept, kept_before, start}

-- for each value one more than the last position that it got, where the groups begin, and the values kept so far
pub record Marks : Type 0 where
  pub mark : ℤ → ℕ
  pub ptr : ℕ → ℕ
  pub val : List ℤ

abbrev pub unmarked : Marks
unmarked = record { mark = λ w. 0; ptr = λ g. 0; val = [] }

abbrev pub marked : (ℤ → ℕ) → ℤ → ℕ → ℤ → ℕ
marked f w n v = if same w v then n else f v

abbrev pub pointed : (ℕ → ℕ) → ℕ → ℕ → ℕ → ℕ
pointed f g n h = if nat_eq g h then n else f h

-- an entry of group g with value w: new where the mark isn't above the start of the group
abbrev pub see : ℕ → Marks → ℤ → Marks
see g s w = if nat_le (s.mark w) (s.ptr g) then record { mark = marked s.mark w (suc (length s.val)); ptr = s.ptr; val = s.val ++ w ∷ [] } else s

-- the end of a row of group g
abbrev pub close : ℕ → Marks → Marks
close g s = record { mark = s.mark; ptr = pointed s.ptr (suc g) (length s.val); val = s.val }

-- 1 more than the position of a value, or 0
abbrev pub after : ℕ → ℕ
after zero = zero
after (suc n) = suc (suc n)

abbrev pub found : ℤ → List ℤ → ℕ
found w [] = 0
found w (k ∷ ks) = if same w k then 1 else after (found w ks)

-- what the marks tell behind some entries, in a row of group g
pub record Follows (es : List Placed) (g : ℕ) (s : Marks) : Type 0 where
  pub val : s.val ≡ kept_before g es ++ kept g es
  pub ptr : (h : ℕ) → h ≤ g → s.ptr h ≡ start h es
  pub mark : (w : ℤ) → s.mark w - start g es ≡ found w (kept g es)
  pub bound : (w : ℤ) → s.mark w ≤ length s.val
  pub later : (h : ℕ) → g < h → kept h es ≡ []
