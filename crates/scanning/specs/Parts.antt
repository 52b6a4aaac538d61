-- What a scan has at hand: statements over the table, the loops that stand around a place, and assignments under tests.
use Rattle.std.specs.Prelude.{ℕ, ◌+◌, List, [], ◌∷◌, ◌++◌, map, length, Option, Some, None}
use Rattle.std.specs.List.{flat_map, fold}
use Rattle.c_tree.specs.declared.index.Index.{Index}
use Rattle.c_tree.specs.declared.index.Cell.{Cell}
use Rattle.c_tree.specs.declared.data.Expr.{Expr}
use Rattle.c_tree.specs.declared.statement.How.{How}
use Rattle.c_tree.specs.declared.statement.Stmt.{Stmt}
use Rattle.c_tree.specs.declared.statement.Stmt.TheVariants.{For, Assign}
use Rattle.c_tree.specs.declared.statement.Test.{Test}
use Rattle.int_rows.specs.declared.row.Aff.{Aff}
use Rattle.nest_tree.specs.declared.body.Access.{Access}
use Rattle.nest_tree.specs.declared.kernel.Kernel.{Kernel}
use Rattle.nest_tree.specs.declared.kernel.KernelRow.{KernelRow}
use Rattle.nest_tree.specs.declared.kernel.Nest.{Nest}
use Rattle.nest_systems.specs.Cells.{cells, subscripts}
use Rattle.scan_forms.specs.declared.affine.Affine.{Affine}
use Rattle.scan_forms.specs.declared.claim.Claim.{Claim}
use Rattle.scan_forms.specs.declared.reads.Read.{Read}
use Rattle.loop_scan.specs.Choices.{guarded}
use Rattle.scanning.specs.Reads.{placed, claim_of, place_of}
use Rattle.scanning.specs.Tables.{origin_of}
use Rattle.scanning.specs.Named.{named_ordered, with_new}
use Rattle.scanning.specs.Written.{level_name}
use Rattle.scanning.specs.Sizes.{Sizes}

-- a statement as a scan sees it: its number, the forms of its subscripts, its rows over the table, and its reads in the order in
-- which they are printed
pub record Part : Type 0 where
  pub number : ℕ
  pub nest : Nest
  pub forms : List Aff
  pub rows : List (KernelRow × Claim)
  pub order : List ℕ

-- A loop that stands around a place: its bounds and their greatest size, the tests around it with the claims that they are, the
-- claims that its bounds say of each of its turns, and for each statement those of its rows that they say.
pub record Opened : Type 0 where
  pub low : Index
  pub high : Index
  pub size : ℕ
  pub tests : List Test
  pub asked : List Claim
  pub known : List Claim
  pub settled : ℕ → List Claim

-- the loops around a place, from the outside
abbrev pub Around : Type 0
Around = List Opened

-- what is known there, the sizes of the levels, and the rows of a statement that the loops say
abbrev pub context_of : Around → List Claim
context_of a = flat_map (λ o. o.asked ++ o.known) a

abbrev pub sizes_of : Around → Sizes
sizes_of a = map (λ o. o.size) a

abbrev pub settled_in : Around → ℕ → List Claim
settled_in a s = flat_map (λ o. o.settled s) a

-- an assignment with the tests around it
pub record Assigned : Type 0 where
  pub tests : List Test
  pub target : Cell
  pub how : How
  pub value : Expr

abbrev pub stated : Assigned → Stmt
stated x = guarded x.tests (Assign x.target x.how x.value)

abbrev pub looped : Around → Opened → List Stmt → Stmt
looped a o body = guarded o.tests (For (level_name (length a)) o.low o.high body)

abbrev pub push_place : Option ℕ → List ℕ → List ℕ
push_place (Some i) ns = with_new ns i
push_place None ns = ns

abbrev pub number_of : List Part → ℕ
number_of [] = 0
number_of (p ∷ ps) = p.number

module _ (k : Kernel) (table : List Read) where
  abbrev pub at_of : Nest → Access → List Affine
  at_of n a = map (placed table (origin_of k.head n)) a.at

  -- the reads of a statement by first appearance, in its rows and then in its cells; in one form those that are its terms come
  -- first, in their order
  abbrev pub part_by : ℕ → Nest → List Aff → Part
  part_by s n forms =
      let o = origin_of k.head n in
      let rows : List (KernelRow × Claim) = map (λ r. (r, claim_of table o r.row)) n.rows in
      let terms : List ℕ = fold (λ ns t. push_place (place_of table o t) ns) [] n.terms in
      let all : List Affine = map (λ r. (r.1).form) rows ++ map (placed table o) forms in
      record { number = s; nest = n; forms = forms; rows = rows; order = fold (named_ordered table terms) [] all }

  abbrev pub part_of : ℕ → Nest → Part
  part_of s n = part_by s n (subscripts (cells n))

  abbrev pub parts_from : ℕ → List Nest → List Part
  parts_from s [] = []
  parts_from s (n ∷ ns) = part_of s n ∷ parts_from (s + 1) ns
