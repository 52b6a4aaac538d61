-- The lines of a data text: a name, and then numbers.
use Rattle.std.specs.Prelude.{ℕ, ◌+◌, ◌-◌, ◌*◌, ◌^◌, List, [], ◌∷◌, ◌++◌, drop, Bool, true, false, ◌&&◌, if◌then◌else◌, nat_eq, nat_lt, nat_le, Option, Some, None}
use Rattle.std.specs.Option.{option_map, option_to_list}

-- what stands before the first separator, and what behind it
abbrev pub cut : ℕ → List ℕ → List ℕ × List ℕ
cut c [] = ([], [])
cut c (b ∷ bs) = if nat_eq b c then ([], bs) else (b ∷ (cut c bs).0, (cut c bs).1)

-- the words between blanks: the first, and the others
abbrev pub words : List ℕ → List ℕ × List (List ℕ)
words [] = ([], [])
words (b ∷ bs) = if nat_eq b 32 then ([], (words bs).0 ∷ (words bs).1) else (b ∷ (words bs).0, (words bs).1)

-- the number that one more digit makes; there are no leading zeros, and the greatest number is 2^64-1
abbrev pub digit : Option ℕ → ℕ → Option ℕ
digit None b = if nat_le 48 b && nat_le b 57 then Some (b - 48) else None
digit (Some v) b = if nat_le 48 b && nat_le b 57 && nat_lt 0 v && nat_lt (v * 10 + (b - 48)) (2 ^ 64) then Some (v * 10 + (b - 48)) else None

abbrev pub option_then : {X Y : Type 0} → Option X → (X → Option Y) → Option Y
option_then None f = None
option_then (Some x) f = f x

-- a word is a number, or empty
abbrev pub number : Option ℕ → List ℕ → Option (Option ℕ)
number t [] = Some t
number t (b ∷ bs) = option_then (digit t b) (λ v. number (Some v) bs)

abbrev pub numbers : List (List ℕ) → Option (List ℕ)
numbers [] = Some []
numbers (w ∷ ws) = option_then (number None w) (λ t. option_map (λ ns. option_to_list t ++ ns) (numbers ws))

-- the numbers of a line whose first word begins with the digits of t
abbrev pub line : Option ℕ → List ℕ → Option (List ℕ)
line t l = option_then (number t (words l).0) (λ u. option_map (λ ns. option_to_list u ++ ns) (numbers (words l).1))

-- what stands behind the name: nothing, or a blank and more
abbrev pub behind_name : List ℕ → List ℕ → Option (List ℕ)
behind_name [] [] = Some []
behind_name [] (b ∷ bs) = if nat_eq b 32 then Some bs else None
behind_name (c ∷ cs) [] = None
behind_name (c ∷ cs) (b ∷ bs) = if nat_eq b c then behind_name cs bs else None

-- the numbers of a line of which m bytes of the name have come, or all of it and a blank
abbrev pub front : Bool → ℕ → List ℕ → Option ℕ → List ℕ → Option (List ℕ)
front true m name t l = line t l
front false m name t l = option_then (behind_name (drop m name) l) (λ rest. line None rest)
