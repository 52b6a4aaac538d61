-- What a data text says: a line for each parameter and array, in the signature's order.
use Rattle.std.specs.Prelude.{ℕ, suc, ◌+◌, ◌-◌, ◌^◌, min, ℤ, pos, List, [], ◌∷◌, ◌++◌, length, drop, map, slice_index_or, Bool, true, false, if◌then◌else◌, nat_eq, nat_le, Option, Some, None, Result, Ok, Err}
use Rattle.c_tree.specs.declared.program.Array.{Array}
use Rattle.c_tree.specs.declared.program.Program.{Program}
use Rattle.c_meaning.specs.Names.{Name}
use Rattle.csr_data.specs.declared.values.Parameter.{Parameter}
use Rattle.csr_data.specs.declared.values.Table.{Table}
use Rattle.csr_data.specs.declared.fault.ValuesFault.{ValuesFault}
use Rattle.csr_data.specs.declared.fault.ValuesFault.TheVariants.{Line, Missing, Limit, Count}
use Rattle.csr_data.specs.Signature.{extents_of}
use Rattle.csr_data.specs.Extents.{first_negative, extent_at, cells_wanted}
use Rattle.csr_data.specs.Text.{cut, front}

-- what a line is about
pub data Due : Type 0 where
  parameter : Name → Due
  array : Array → Due

abbrev pub name_of : Due → Name
name_of (parameter x) = x
name_of (array a) = a.name

abbrev pub is_parameter : Due → Bool
is_parameter (parameter x) = true
is_parameter (array a) = false

-- the lines that a signature wants
unfoldable pub dues : Program → List Due
dues p = map parameter p.params ++ map array p.arrays

-- what the lines before gave
pub record Given : Type 0 where
  pub params : List Parameter
  pub arrays : List Table

abbrev pub Said : Type 0
Said = Result Given ValuesFault

abbrev pub after : Said → (Given → Said) → Said
after (Ok g) f = f g
after (Err e) f = Err e

abbrev pub table_of : Array → List ℤ → List ℕ → Table
table_of a es vs = record { name = a.name; kind = a.kind; dimensions = length a.extents; cells = record { first = extent_at es 0; deep = extent_at es 1; wide = extent_at es 2; cells = vs } }

-- a parameter is at most 2^24; a value past the range of `i64` is told as the greatest one
abbrev pub limited : Name → Given → ℕ → Said
limited x g v = if nat_le v (2 ^ 24) then Ok (record g { params = g.params ++ record { name = x; value = v } ∷ [] }) else Err (Limit x (pos (min v (2 ^ 63 - 1))))

abbrev pub counted : Array → Given → List ℤ → Option ℤ → ℕ → List ℕ → Said
counted a g es (Some e) n vs = Err (Limit a.name e)
counted a g es None n vs = if nat_eq n (cells_wanted es) then Ok (record g { arrays = g.arrays ++ table_of a es vs ∷ [] }) else Err (Count a.name (cells_wanted es) n)

-- what the k-th line gives by its numbers ns, where `found` were found before, the first of them vs
abbrev pub judged : (k : ℕ) → Due → Given → (found : ℕ) → (vs ns : List ℕ) → Said
judged k (parameter x) g found vs ns = if nat_eq (found + length ns) 1 then limited x g (slice_index_or (vs ++ ns) 0 0) else Err (Line k)
judged k (array a) g found vs ns = counted a g (extents_of a g.params) (first_negative (extents_of a g.params)) (found + length ns) (vs ++ ns)

-- the k-th line is one of a name and numbers, or the fault
abbrev pub line_or : ℕ → Option (List ℕ) → (List ℕ → Said) → Said
line_or k None f = Err (Line k)
line_or k (Some ns) f = f ns

-- what the text says from its k-th line on
abbrev pub says_from : ℕ → List Due → Given → List ℕ → Said
says_from k [] g [] = Ok g
says_from k [] g (b ∷ bs) = Err (Line k)
says_from k (d ∷ ds) g [] = Err (Missing (name_of d))
says_from k (d ∷ ds) g (b ∷ bs) = line_or k (front false 0 (name_of d) None (cut 10 (b ∷ bs)).0) (λ ns. after (judged k d g 0 [] ns) (λ g'. says_from (suc k) ds g' (cut 10 (b ∷ bs)).1))

-- the extents of a line: a parameter has one number
abbrev pub shape_of_due : Due → List Parameter → List ℤ
shape_of_due (parameter x) vs = pos 1 ∷ pos 1 ∷ pos 1 ∷ []
shape_of_due (array a) vs = extents_of a vs

abbrev pub shape_of_first : List Due → List Parameter → List ℤ
shape_of_first [] vs = pos 1 ∷ pos 1 ∷ pos 1 ∷ []
shape_of_first (d ∷ ds) vs = shape_of_due d vs

-- the extents of the line behind the first n
unfoldable pub shape_at : Program → List Parameter → ℕ → List ℤ
shape_at p vs n = shape_of_first (drop n (dues p)) vs

-- the parameters that a line adds
abbrev pub new_names : Due → List Name
new_names (parameter x) = x ∷ []
new_names (array a) = []
