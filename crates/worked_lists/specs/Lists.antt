-- Worked lists: what the definitions give, item by item, beside the list that is wanted.
use Rattle.std.specs.Prelude.{◌≡◌, ℕ, List, [], ◌∷◌, ◌++◌, map, take, length, ℤ, pos, negsuc}
use Rattle.c_tree.specs.declared.statement.How.TheVariants.{Write}
use Rattle.c_meaning.specs.Ground.{load, Step}
use Rattle.nest_tree.specs.declared.kernel.Nest.{Nest}
use Rattle.nest_tree.specs.declared.body.Body.TheVariants.{Const, At}
use Rattle.nest_tree.specs.Lists.{IsStrictlySorted}
use Rattle.nest_tree.specs.Places.{place, Item, Precedes}
use Rattle.nest_tree.specs.Terms.{Input}
use Rattle.nest_tree.specs.Kernels.{point}
use Rattle.nest_tree.specs.Levels.{permuted, skewed}
use Rattle.nest_tree.specs.Unrolling.{Upper, Part, full, rest, IsUnrolled}
use Rattle.nest_laws.specs.Acts.{three, act}
use Rattle.copy_laws.specs.Copying.{Copying, base_at, less_by, moved, step_in_copy}
use Rattle.worked_lists.specs.Statements.{b, c, d, e, x, form, access, writing, input, line, grid, gets, is_set, at_place}

-- b[i][j] = b[i-1][j+1], over the variables n, m, i, j
abbrev pub stencil : Nest
stencil = writing (0 ∷ 0 ∷ 0 ∷ []) (access b (form (pos 0 ∷ pos 0 ∷ pos 1 ∷ []) (pos 0) ∷ form (pos 0 ∷ pos 0 ∷ pos 0 ∷ pos 1 ∷ []) (pos 0) ∷ []))
    (At (access b (form (pos 0 ∷ pos 0 ∷ pos 1 ∷ []) (negsuc 0) ∷ form (pos 0 ∷ pos 0 ∷ pos 0 ∷ pos 1 ∷ []) (pos 1) ∷ [])))

-- level 1 is added to level 2, and then the two change places
abbrev pub skewed_and_permuted : List ℤ → List ℤ
skewed_and_permuted vs = permuted (2 ∷ 1 ∷ []) (skewed (pos 1 ∷ []) (pos 0) vs)

abbrev pub stencil_list : List (Item Step)
stencil_list =
    gets (pos 0 ∷ pos 1 ∷ pos 0 ∷ pos 1 ∷ pos 0 ∷ []) (grid b (pos 1) (pos 0)) (grid b (pos 0) (pos 1))
    ∷ gets (pos 0 ∷ pos 2 ∷ pos 0 ∷ pos 1 ∷ pos 0 ∷ []) (grid b (pos 1) (pos 1)) (grid b (pos 0) (pos 2))
    ∷ gets (pos 0 ∷ pos 2 ∷ pos 0 ∷ pos 2 ∷ pos 0 ∷ []) (grid b (pos 2) (pos 0)) (grid b (pos 1) (pos 1))
    ∷ gets (pos 0 ∷ pos 3 ∷ pos 0 ∷ pos 2 ∷ pos 0 ∷ []) (grid b (pos 2) (pos 1)) (grid b (pos 1) (pos 2))
    ∷ []

-- for n = m = 3, the instances with i in 1 to 2 and j in 0 to 1
abbrev pub SkewedStencil : Type 0
SkewedStencil =
    (map (λ vs. at_place (input (pos 3 ∷ pos 3 ∷ [])) stencil (0 ∷ 0 ∷ 0 ∷ []) (skewed_and_permuted vs) vs) ((pos 1 ∷ pos 0 ∷ []) ∷ (pos 1 ∷ pos 1 ∷ []) ∷ (pos 2 ∷ pos 0 ∷ []) ∷ (pos 2 ∷ pos 1 ∷ []) ∷ []) ≡ stencil_list)
    × IsStrictlySorted Precedes stencil_list

-- b[i] = c[i], over n and i
abbrev pub copying : Nest
copying = writing (0 ∷ 0 ∷ []) (access b (form (pos 0 ∷ pos 1 ∷ []) (pos 0) ∷ [])) (At (access c (form (pos 0 ∷ pos 1 ∷ []) (pos 0) ∷ [])))

-- i is at most 9
abbrev pub to_nine : List Upper
to_nine = record { less_one = 0; bound = pos 9 } ∷ []

-- the value v at its group q and place r, in groups of 4: in a copy of the full loop, or in the rest behind it
pub record InCopy (q : ℤ) (r : ℕ) (v : ℤ) (y : Item Step) : Type 0 where
  pub unrolled : IsUnrolled (pos 0) 4 to_nine full q (pos r) v
  pub is : at_place (input (pos 10 ∷ [])) copying (0 ∷ r ∷ []) (q ∷ []) (v ∷ []) ≡ y

pub record InRest (q r v : ℤ) (y : Item Step) : Type 0 where
  pub unrolled : IsUnrolled (pos 0) 4 to_nine (rest 0) q r v
  pub is : at_place (input (pos 10 ∷ [])) copying (1 ∷ 0 ∷ 0 ∷ []) (q ∷ r ∷ []) (v ∷ []) ≡ y

-- ten copies, in groups of four
abbrev pub UnrolledCopies : Type 0
UnrolledCopies =
    InCopy (pos 0) 0 (pos 0) (gets (pos 0 ∷ pos 0 ∷ pos 0 ∷ []) (line b (pos 0)) (line c (pos 0)))
    × InCopy (pos 0) 1 (pos 1) (gets (pos 0 ∷ pos 0 ∷ pos 1 ∷ []) (line b (pos 1)) (line c (pos 1)))
    × InCopy (pos 0) 2 (pos 2) (gets (pos 0 ∷ pos 0 ∷ pos 2 ∷ []) (line b (pos 2)) (line c (pos 2)))
    × InCopy (pos 0) 3 (pos 3) (gets (pos 0 ∷ pos 0 ∷ pos 3 ∷ []) (line b (pos 3)) (line c (pos 3)))
    × InCopy (pos 1) 0 (pos 4) (gets (pos 0 ∷ pos 1 ∷ pos 0 ∷ []) (line b (pos 4)) (line c (pos 4)))
    × InCopy (pos 1) 1 (pos 5) (gets (pos 0 ∷ pos 1 ∷ pos 1 ∷ []) (line b (pos 5)) (line c (pos 5)))
    × InCopy (pos 1) 2 (pos 6) (gets (pos 0 ∷ pos 1 ∷ pos 2 ∷ []) (line b (pos 6)) (line c (pos 6)))
    × InCopy (pos 1) 3 (pos 7) (gets (pos 0 ∷ pos 1 ∷ pos 3 ∷ []) (line b (pos 7)) (line c (pos 7)))
    × InRest (pos 2) (pos 0) (pos 8) (gets (pos 1 ∷ pos 2 ∷ pos 0 ∷ pos 0 ∷ pos 0 ∷ []) (line b (pos 8)) (line c (pos 8)))
    × InRest (pos 2) (pos 1) (pos 9) (gets (pos 1 ∷ pos 2 ∷ pos 0 ∷ pos 1 ∷ pos 0 ∷ []) (line b (pos 9)) (line c (pos 9)))

-- d[i] = x[0], over n, the tile and i, in tiles of 4; e is a copy of the box x[0], made in each tile
abbrev pub reader : Nest
reader = writing (0 ∷ 0 ∷ 0 ∷ []) (access d (form (pos 0 ∷ pos 0 ∷ pos 1 ∷ []) (pos 0) ∷ [])) (At (access x (form [] (pos 0) ∷ [])))

abbrev pub box_of_x : Copying
box_of_x = record { array = x; copy = e; front = 0 ∷ []; at = 0; base = form [] (pos 0) ∷ []; box = writing (0 ∷ 0 ∷ 0 ∷ []) (access e []) (Const 0); reader = reader; others = [] }

-- a cell of the box as it is copied, and an item of the reader
abbrev pub copied_cell : Input → Copying → List ℤ → List ℤ → Item Step
copied_cell i k outer cell = record {
  place = place (k.box).positions (outer ++ cell);
  step = record { target = record { array = k.copy; at = less_by (three cell) (base_at i k outer) }; how = Write; value = load (record { array = k.array; at = three cell }) };
}

abbrev pub read_in_copy : Input → Copying → List ℤ → Item Step
read_in_copy i k vs = record {
  place = place (moved k.front k.at (k.reader).positions) vs;
  step = step_in_copy k (base_at i k (take (length k.front) vs)) (act k.reader (point i k.reader vs));
}

abbrev pub copied_at : ℤ → Item Step
copied_at t = copied_cell (input (pos 5 ∷ [])) box_of_x (t ∷ []) (pos 0 ∷ [])

abbrev pub read_at : ℤ → ℤ → Item Step
read_at t v = read_in_copy (input (pos 5 ∷ [])) box_of_x (t ∷ v ∷ [])

abbrev pub copied_list : List (Item Step)
copied_list =
    gets (pos 0 ∷ pos 0 ∷ pos 0 ∷ pos 0 ∷ pos 0 ∷ []) (line e (pos 0)) (line x (pos 0))
    ∷ gets (pos 0 ∷ pos 0 ∷ pos 1 ∷ pos 0 ∷ pos 0 ∷ []) (line d (pos 0)) (line e (pos 0))
    ∷ gets (pos 0 ∷ pos 0 ∷ pos 1 ∷ pos 1 ∷ pos 0 ∷ []) (line d (pos 1)) (line e (pos 0))
    ∷ gets (pos 0 ∷ pos 0 ∷ pos 1 ∷ pos 2 ∷ pos 0 ∷ []) (line d (pos 2)) (line e (pos 0))
    ∷ gets (pos 0 ∷ pos 0 ∷ pos 1 ∷ pos 3 ∷ pos 0 ∷ []) (line d (pos 3)) (line e (pos 0))
    ∷ gets (pos 0 ∷ pos 1 ∷ pos 0 ∷ pos 0 ∷ pos 0 ∷ []) (line e (pos 0)) (line x (pos 0))
    ∷ gets (pos 0 ∷ pos 1 ∷ pos 1 ∷ pos 4 ∷ pos 0 ∷ []) (line d (pos 4)) (line e (pos 0))
    ∷ []

-- for n = 5
abbrev pub CopiedBox : Type 0
CopiedBox =
    (copied_at (pos 0) ∷ read_at (pos 0) (pos 0) ∷ read_at (pos 0) (pos 1) ∷ read_at (pos 0) (pos 2) ∷ read_at (pos 0) (pos 3) ∷ copied_at (pos 1) ∷ read_at (pos 1) (pos 4) ∷ [] ≡ copied_list)
    × IsStrictlySorted Precedes copied_list

-- d[i] = c[i], over i from 0 to 7; e is a copy of all of c, made before the loop
abbrev pub whole_array : Copying
whole_array = record {
  array = c;
  copy = e;
  front = [];
  at = 0;
  base = form [] (pos 0) ∷ [];
  box = writing (0 ∷ 0 ∷ []) (access e []) (Const 0);
  reader = writing (0 ∷ 0 ∷ []) (access d (form (pos 1 ∷ []) (pos 0) ∷ [])) (At (access c (form (pos 1 ∷ []) (pos 0) ∷ [])));
  others = [];
}

abbrev pub to_seven : List ℤ
to_seven = pos 0 ∷ pos 1 ∷ pos 2 ∷ pos 3 ∷ pos 4 ∷ pos 5 ∷ pos 6 ∷ pos 7 ∷ []

abbrev pub whole_array_list : List (Item Step)
whole_array_list = map (λ v. gets (pos 0 ∷ v ∷ pos 0 ∷ []) (line e v) (line c v)) to_seven ++ map (λ v. gets (pos 1 ∷ v ∷ pos 0 ∷ []) (line d v) (line e v)) to_seven

abbrev pub CopiedArray : Type 0
CopiedArray =
    (map (λ v. copied_cell (input []) whole_array [] (v ∷ [])) to_seven ++ map (λ v. read_in_copy (input []) whole_array (v ∷ [])) to_seven ≡ whole_array_list)
    × IsStrictlySorted Precedes whole_array_list

-- b[i][j] = c[j], over n, i, j
abbrev pub triangle : Nest
triangle = writing (0 ∷ 0 ∷ 0 ∷ []) (access b (form (pos 0 ∷ pos 1 ∷ []) (pos 0) ∷ form (pos 0 ∷ pos 0 ∷ pos 1 ∷ []) (pos 0) ∷ [])) (At (access c (form (pos 0 ∷ pos 0 ∷ pos 1 ∷ []) (pos 0) ∷ [])))

abbrev pub triangle_list : List (Item Step)
triangle_list =
    gets (pos 0 ∷ pos 0 ∷ pos 0 ∷ pos 0 ∷ pos 0 ∷ []) (grid b (pos 0) (pos 0)) (line c (pos 0))
    ∷ gets (pos 0 ∷ pos 1 ∷ pos 0 ∷ pos 0 ∷ pos 0 ∷ []) (grid b (pos 0) (pos 1)) (line c (pos 1))
    ∷ gets (pos 0 ∷ pos 1 ∷ pos 0 ∷ pos 1 ∷ pos 0 ∷ []) (grid b (pos 1) (pos 1)) (line c (pos 1))
    ∷ []

-- for n = 2, the instances with i in 0 to 1 and j from i to 1, when the loops change places
abbrev pub PermutedTriangle : Type 0
PermutedTriangle =
    (map (λ vs. at_place (input (pos 2 ∷ [])) triangle (0 ∷ 0 ∷ 0 ∷ []) (permuted (2 ∷ 1 ∷ []) vs) vs) ((pos 0 ∷ pos 0 ∷ []) ∷ (pos 0 ∷ pos 1 ∷ []) ∷ (pos 1 ∷ pos 1 ∷ []) ∷ []) ≡ triangle_list)
    × IsStrictlySorted Precedes triangle_list

-- b[i] = 1 and d[i] = 2, over n, m and i
abbrev pub ones : Nest
ones = writing (0 ∷ 0 ∷ []) (access b (form (pos 0 ∷ pos 0 ∷ pos 1 ∷ []) (pos 0) ∷ [])) (Const 1)

abbrev pub twos : Nest
twos = writing (1 ∷ 0 ∷ []) (access d (form (pos 0 ∷ pos 0 ∷ pos 1 ∷ []) (pos 0) ∷ [])) (Const 2)

abbrev pub fused_list : List (Item Step)
fused_list =
    is_set (pos 0 ∷ pos 0 ∷ pos 0 ∷ []) (line b (pos 0)) 1 ∷ is_set (pos 0 ∷ pos 0 ∷ pos 1 ∷ []) (line d (pos 0)) 2 ∷ is_set (pos 0 ∷ pos 1 ∷ pos 1 ∷ []) (line d (pos 1)) 2 ∷ []

-- for n = 1 and m = 2, in one loop with the second behind the first
abbrev pub FusedLoops : Type 0
FusedLoops =
    (at_place (input (pos 1 ∷ pos 2 ∷ [])) ones (0 ∷ 0 ∷ []) (pos 0 ∷ []) (pos 0 ∷ []) ∷ at_place (input (pos 1 ∷ pos 2 ∷ [])) twos (0 ∷ 1 ∷ []) (pos 0 ∷ []) (pos 0 ∷ [])
    ∷ at_place (input (pos 1 ∷ pos 2 ∷ [])) twos (0 ∷ 1 ∷ []) (pos 1 ∷ []) (pos 1 ∷ []) ∷ [] ≡ fused_list)
    × IsStrictlySorted Precedes fused_list
