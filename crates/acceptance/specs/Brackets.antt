-- How many brackets stand around one place of an expression as it is printed.
use Rattle.std.specs.Prelude.{ℕ, suc, max, ℤ, pos, int_lt, Bool, true, false, cond, List, [], ◌∷◌, map}
use Rattle.c_tree.specs.declared.data.Expr.{Expr, fold-Expr}
use Rattle.c_tree.specs.declared.data.Expr.TheOpen as expr
use Rattle.c_tree.specs.declared.data.Expr.TheOpen.{Expr-F}
use Rattle.acceptance.specs.Expressions.{Expression, number, name, one, two, three, negated, plus, minus, times, lesser, greater, floor, ceil, plains}

-- a part of a sum, and a factor, in brackets where that is so
abbrev pub within : Bool → ℕ → ℕ
within b n = cond b (suc n) n

abbrev pub is_negative : ℤ → Bool
is_negative n = int_lt n (pos 0)

-- a sum, or what begins with `-`
abbrev pub is_sum : Expression → Bool
is_sum (number n) = is_negative n
is_sum (times n e) = is_negative n
is_sum (negated e) = true
is_sum (plus e f) = true
is_sum (minus e f) = true
is_sum e = false

abbrev pub is_sum_or_product : Expression → Bool
is_sum_or_product (times n e) = true
is_sum_or_product e = is_sum e

-- the greatest number of brackets around one place
abbrev pub brackets : Expression → ℕ
brackets (number n) = 0
brackets (name x) = 0
brackets (one a e) = suc (brackets e)
brackets (two a e f) = suc (max (brackets e) (brackets f))
brackets (three a e f g) = suc (max (max (brackets e) (brackets f)) (brackets g))
brackets (negated e) = within (is_sum e) (brackets e)
brackets (plus e f) = max (brackets e) (within (is_sum f) (brackets f))
brackets (minus e f) = max (brackets e) (within (is_sum f) (brackets f))
brackets (times n e) = within (is_sum_or_product e) (brackets e)
brackets (lesser e f) = suc (max (brackets e) (brackets f))
brackets (greater e f) = suc (max (brackets e) (brackets f))
brackets (floor e d) = suc (brackets e)
brackets (ceil e d) = suc (brackets e)

-- ## Right sides

-- the greatest number of brackets in a right side, and whether it is a sum or a product
pub record Bracketed : Type 0 where
  pub most : ℕ
  pub is_sum : Bool
  pub is_product : Bool

abbrev pub greatest : List ℕ → ℕ
greatest [] = 0
greatest (n ∷ ns) = max n (greatest ns)

abbrev pub as_part : Bracketed → ℕ
as_part b = within b.is_sum b.most

abbrev pub as_factor : Bracketed → ℕ
as_factor b = within b.is_product (within b.is_sum b.most)

abbrev pub bracketed_layer : Expr-F Bracketed → Bracketed
bracketed_layer (expr.Const n) = record { most = 0; is_sum = false; is_product = false }
bracketed_layer (expr.At c) = record { most = suc (greatest (map brackets (plains c.at))); is_sum = false; is_product = false }
bracketed_layer (expr.Plus a b) = record { most = max a.most (as_part b); is_sum = true; is_product = false }
bracketed_layer (expr.Minus a b) = record { most = max a.most (as_part b); is_sum = true; is_product = false }
bracketed_layer (expr.Times a b) = record { most = max (as_part a) (as_factor b); is_sum = false; is_product = true }

-- the brackets of a right side
unfoldable pub bracketed : Expr → Bracketed
bracketed = fold-Expr Bracketed bracketed_layer
