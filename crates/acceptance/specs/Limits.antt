-- The limits of a source's expressions, judged in the order of the text.
use Rattle.std.specs.Prelude.{ℕ, suc, ◌+◌, ◌^◌, max, ℤ, cond, bytes_eq, nat_lt, List, [], ◌∷◌, ◌++◌, map, length, slice_get, Option, Some, None}
use Rattle.std.specs.List.{flat_map, list_all}
use Rattle.c_tree.specs.declared.index.Cell.{Cell}
use Rattle.c_tree.specs.declared.index.Index.{Index}
use Rattle.c_tree.specs.declared.program.Array.{Array}
use Rattle.c_tree.specs.declared.program.Program.{Program}
use Rattle.int_rows.specs.declared.row.Aff.{Aff}
use Rattle.c_meaning.specs.Names.{Name}
use Rattle.source_limits.specs.declared.fault.Part.{Part}
use Rattle.source_limits.specs.declared.fault.Part.TheVariants as part
use Rattle.source_limits.specs.declared.fault.SourceWhat.TheVariants as what
use Rattle.source_limits.specs.declared.fault.SourceExcess.TheVariants as excess
use Rattle.source_limits.specs.declared.fault.SourceFault.TheVariants.{NotAffine, Overflow}
use Rattle.source_limits.specs.declared.reads.Read.{Read}
use Rattle.acceptance.specs.Expressions.{Expression, plain, plains}
use Rattle.acceptance.specs.Affine.{is_affine, mentions, lowers, uppers}
use Rattle.acceptance.specs.Sizes.{Size, weight}
use Rattle.acceptance.specs.Brackets.{brackets, bracketed}
use Rattle.acceptance.specs.Forms.{parts, reads_of}
use Rattle.acceptance.specs.Visits.{Asked, bounds, test, assignment, Visit}
use Rattle.acceptance.specs.Around.{loop_names, sizes_in, cells_of}
use Rattle.acceptance.specs.Judged.{Judged, first, unless, at_most, all_at_most}

-- what an expression is judged by
pub record Scene : Type 0 where
  pub head : Program
  pub number : ℕ
  pub names : List Name
  pub sizes : List Size

abbrev pub scene_at : Program → Visit → Scene
scene_at p v = record { head = p; number = v.number; names = p.params ++ loop_names v.around; sizes = sizes_in [] v.around }

abbrev pub coefs_of : Aff → List ℤ
coefs_of f = f.coefs

abbrev pub constant_of : Aff → ℤ
constant_of f = f.constant

-- an expression whose operands are sums: they are affine, their parts have small coefficients and small constants, and it has few brackets
abbrev pub sums : Scene → Part → List Read → Expression → List Expression → Judged
sums s at reads e operands =
    let all : List Aff = flat_map (λ o. parts o (record { names = s.names; reads = reads })) operands in
    first (unless (list_all (is_affine s.head.matrices) operands) (NotAffine s.number at)
    ∷ all_at_most (2 ^ 16) what.Coefficient (flat_map coefs_of all)
    ∷ all_at_most (2 ^ 31) what.Constant (map constant_of all)
    ∷ at_most 64 what.Nest (brackets e) ∷ [])

-- a row or a subscript has a size of at most 2^62
abbrev pub sized : Scene → ℕ → Judged
sized s n = cond (nat_lt (2 ^ 62) n) (Some (Overflow s.number excess.Size)) None

-- the extents of the array of that name
abbrev pub extents : List Array → Name → List Index
extents [] x = []
extents (a ∷ arrays) x = cond (bytes_eq a.name x) a.extents (extents arrays x)

-- the row `e <= extent-1`
abbrev pub sized_below : Scene → ℕ → Option Index → Judged
sized_below s n None = None
sized_below s n (Some x) = sized s (n + weight [] (plain x) + 2)

-- a subscript at a place of an array
abbrev pub subscript : Scene → List Read → Name → ℕ → Expression → Judged
subscript s reads array place e =
    first (sums s part.Subscript reads e (e ∷ []) ∷ sized s (weight s.sizes e) ∷ sized_below s (weight s.sizes e) (slice_get (extents s.head.arrays array) place) ∷ [])

-- the subscripts of the terms in an expression
abbrev pub terms : Scene → Expression → Judged
terms s e = first (map (λ m. subscript s [] m.array 0 m.at) (mentions s.head.matrices e))

-- the reads that expressions name
abbrev pub named : Scene → List Expression → List Read
named s es = reads_of s.head.matrices s.names es

-- a bound, whose loop variable has that size
abbrev pub bound : Scene → ℕ → Expression → List Expression → Judged
bound s own e operands =
    first (terms s e ∷ sums s part.Bound (named s (e ∷ [])) e operands ∷ at_most 32 what.Bounds (length operands)
    ∷ map (λ o. sized s (own + weight s.sizes o + 1)) operands)

-- a side of a test
abbrev pub side : Scene → Expression → Judged
side s e = first (terms s e ∷ sums s part.Guard (named s (e ∷ [])) e (e ∷ []) ∷ [])

-- each subscript of a cell, from a place on
abbrev pub each_subscript : Scene → List Read → Name → ℕ → List Expression → List Judged
each_subscript s reads array place [] = []
each_subscript s reads array place (e ∷ es) = subscript s reads array place e ∷ each_subscript s reads array (suc place) es

-- a cell: the terms of all its subscripts, and then each subscript
abbrev pub cell : Scene → Cell → Judged
cell s c = first (map (terms s) (plains c.at) ++ each_subscript s (named s (plains c.at)) c.array 0 (plains c.at))

-- all limits of what is judged
abbrev pub asked_limits : Scene → Asked → Judged
asked_limits s (bounds x low high) =
    let own : ℕ = max (weight s.sizes (plain low)) (weight s.sizes (plain high)) in
    first (bound s own (plain low) (lowers (plain low)) ∷ bound s own (plain high) (uppers (plain high)) ∷ [])
asked_limits s (test t) = first (side s (plain t.left) ∷ side s (plain t.right) ∷ sized s (weight s.sizes (plain t.left) + weight s.sizes (plain t.right) + 1) ∷ [])
asked_limits s (assignment target how value) = first (map (cell s) (target ∷ cells_of value) ++ at_most 64 what.Nest (bracketed value).most ∷ [])

-- the first limit that a visit passes
abbrev pub limits : Program → Visit → Judged
limits p v = asked_limits (scene_at p v) v.asked
