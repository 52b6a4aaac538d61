-- Affine expressions as forms over names and reads, in exact integers.
use Rattle.std.specs.Prelude.{ℤ, pos, negsuc, Bool, ◌&&◌, not, cond, bytes_eq, List, [], ◌∷◌, ◌++◌, map, filter}
use Rattle.std.specs.List.{flat_map, list_any}
use Rattle.std.specs.Ordering.{int_eq}
use Rattle.c_tree.specs.declared.program.Matrix.{Matrix}
use Rattle.int_rows.specs.declared.row.Aff.{Aff}
use Rattle.c_meaning.specs.Names.{Name, same_numbers}
use Rattle.source_limits.specs.declared.reads.Read.{Read}
use Rattle.nest_tree.specs.Forms.{sum, less}
use Rattle.nest_tree.specs.Forms as forms
use Rattle.acceptance.specs.Expressions.{Expression, number, name, one, two, three, negated, plus, minus, times, lesser, greater, floor, ceil}
use Rattle.acceptance.specs.Affine.{Mention, mentions}

-- the variables of forms: names, and then reads of index arrays
pub record Vars : Type 0 where
  pub names : List Name
  pub reads : List Read

abbrev pub same_form : Aff → Aff → Bool
same_form f g = int_eq f.constant g.constant && same_numbers f.coefs g.coefs

-- two reads of one cell
abbrev pub same_read : Read → Read → Bool
same_read r s = bytes_eq r.array s.array && same_form r.at s.at

abbrev pub one_if : Bool → ℤ
one_if b = cond b (pos 1) (pos 0)

-- a number, and the variable that has a name or is a read
abbrev pub number_form : Vars → ℤ → Aff
number_form v n = record { coefs = map (λ x. pos 0) v.names ++ map (λ r. pos 0) v.reads; constant = n }

abbrev pub name_form : Vars → Name → Aff
name_form v x = record { coefs = map (λ y. one_if (bytes_eq y x)) v.names ++ map (λ r. pos 0) v.reads; constant = pos 0 }

abbrev pub read_form : Vars → Read → Aff
read_form v s = record { coefs = map (λ x. pos 0) v.names ++ map (λ r. one_if (same_read r s)) v.reads; constant = pos 0 }

abbrev pub over_names : List Name → Vars
over_names names = record { names = names; reads = [] }

-- the form of an affine expression; a constant 0 stands for what isn't affine
abbrev pub form : Expression → Vars → Aff
form (number n) v = number_form v n
form (name x) v = name_form v x
form (one a e) v = read_form v (record { array = a; at = form e (over_names v.names) })
form (two a e f) v = number_form v (pos 0)
form (three a e f g) v = number_form v (pos 0)
form (negated e) v = forms.times (negsuc 0) (form e v)
form (plus e f) v = sum (form e v) (form f v)
form (minus e f) v = less (form e v) (form f v)
form (times n e) v = forms.times n (form e v)
form (lesser e f) v = number_form v (pos 0)
form (greater e f) v = number_form v (pos 0)
form (floor e d) v = number_form v (pos 0)
form (ceil e d) v = number_form v (pos 0)

-- the forms of its parts, inner ones first and from the left, and of the whole
abbrev pub parts : Expression → Vars → List Aff
parts (negated e) v = parts e v ++ form (negated e) v ∷ []
parts (plus e f) v = parts e v ++ (parts f v ++ form (plus e f) v ∷ [])
parts (minus e f) v = parts e v ++ (parts f v ++ form (minus e f) v ∷ [])
parts (times n e) v = parts e v ++ form (times n e) v ∷ []
parts e v = form e v ∷ []

-- the read that a mention is
abbrev pub read_of : List Name → Mention → Read
read_of names m = record { array = m.array; at = form m.at (over_names names) }

abbrev pub is_among : List Read → Read → Bool
is_among rs r = list_any (λ s. same_read s r) rs

-- each read once, at its first place
abbrev pub distinct : List Read → List Read
distinct [] = []
distinct (r ∷ rs) = r ∷ filter (λ s. not (same_read r s)) (distinct rs)

-- the reads that expressions name, in order
abbrev pub reads_of : List Matrix → List Name → List Expression → List Read
reads_of ms names es = distinct (map (read_of names) (flat_map (mentions ms) es))
