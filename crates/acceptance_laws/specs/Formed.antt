-- Values of forms.
use Rattle.std.specs.Prelude.{unsigned_abs, ◌≡◌, ◌≤◌, ◌^◌, ℕ, ℤ, pos, Bool, true, ◌&&◌, bytes_eq, List, [], ◌∷◌, ◌++◌, map, Some}
use Rattle.std.specs.List.{list_any, AllByRecursion}
use Rattle.c_tree.specs.declared.program.Matrix.{Matrix}
use Rattle.source_limits.specs.declared.reads.Read.{Read}
use Rattle.c_meaning.specs.Names.{Name, line}
use Rattle.c_meaning.specs.Weighed.{greatest}
use Rattle.c_meaning.specs.Value.{Sight, cell_seen}
use Rattle.nest_tree.specs.Lists.{IsIn}
use Rattle.nest_tree.specs.Forms.{value}
use Rattle.nest_tree.specs.Terms.{or_zero}
use Rattle.nest_laws.specs.Weights.{Sizes, HasSize}
use Rattle.acceptance.specs.Affine.{is_affine, Mention, mentions}
use Rattle.acceptance.specs.Expressions.{Expression, number, name, one, two, three, negated, plus, minus, times, lesser, greater, floor, ceil, index_of}
use Rattle.acceptance.specs.Forms.{Vars, form, over_names, read_of, same_read, is_among}
use Rattle.acceptance.specs.Sizes.{Size, size_of, weight}

-- each name is a parameter or a loop variable around
abbrev pub is_in_scope : List Name → Expression → Bool
is_in_scope names (number n) = true
is_in_scope names (name x) = list_any (λ y. bytes_eq y x) names
is_in_scope names (one a e) = is_in_scope names e
is_in_scope names (two a e f) = is_in_scope names e && is_in_scope names f
is_in_scope names (three a e f g) = is_in_scope names e && (is_in_scope names f && is_in_scope names g)
is_in_scope names (negated e) = is_in_scope names e
is_in_scope names (plus e f) = is_in_scope names e && is_in_scope names f
is_in_scope names (minus e f) = is_in_scope names e && is_in_scope names f
is_in_scope names (times n e) = is_in_scope names e
is_in_scope names (lesser e f) = is_in_scope names e && is_in_scope names f
is_in_scope names (greater e f) = is_in_scope names e && is_in_scope names f
is_in_scope names (floor e d) = is_in_scope names e
is_in_scope names (ceil e d) = is_in_scope names e

-- no two are the same
abbrev pub AreApart : {A : Type 0} → List A → Type 0
AreApart [] = Unit
AreApart (x ∷ xs) = (IsIn x xs → ⊥) × AreApart xs

abbrev pub sizes_of : List Size → Sizes
sizes_of sizes = record { names = size_of sizes; cells = λ a. 2 ^ 24 }

-- what a read gives, 0 where it finds no cell
abbrev pub read_value : Sight → List Name → Read → ℤ
read_value s names r = or_zero (cell_seen s r.array (line (value (map s.value names) r.at)))

-- the values of the variables of forms
abbrev pub point : Sight → Vars → List ℤ
point s v = map s.value v.names ++ map (read_value s v.names) v.reads

-- the names keep to their sizes
abbrev pub KeepSizes : List Size → Sight → List Name → Type 0
KeepSizes sizes s names = AllByRecursion (λ x. unsigned_abs (s.value x) ≤ size_of sizes x) names

-- a term whose subscript is small, that is one of the variables, and that finds its cell, which is at most 2^24
pub record IsFound (sizes : List Size) (s : Sight) (v : Vars) (m : Mention) : Type 0 where
  pub small : weight sizes m.at ≤ greatest
  pub listed : is_among v.reads (read_of v.names m) ≡ true
  pub cell : ℤ
  pub found : cell_seen s m.array (line (value (map s.value v.names) (form m.at (over_names v.names)))) ≡ Some cell
  pub kept : unsigned_abs cell ≤ 2 ^ 24

-- the form of an affine expression has the expression's value, and the expression its judged size, where the names in it keep to
-- their sizes and the terms in it are found; further variables may stand behind the names in scope
abbrev pub FormHasValue : Type 0
FormHasValue =
    (ms : List Matrix) (sizes : List Size) (s : Sight) (v : Vars) (front inner : List Name) (e : Expression) → v.names ≡ front ++ inner → AreApart v.names → AreApart v.reads → KeepSizes sizes s front
    → is_affine ms e ≡ true → is_in_scope front e ≡ true → AllByRecursion (IsFound sizes s v) (mentions ms e)
    → HasSize (sizes_of sizes) s (index_of e) (value (point s v) (form e v)) (weight sizes e)
