-- The table of a kernel: the reads that the statements' terms are, those in their arguments first, and then the counts of made
-- arrays, each once.
use Rattle.std.specs.Prelude.{ℕ, zero, suc, cond, List, [], ◌∷◌, ◌++◌, length, pos, Option, Some, None}
use Rattle.std.specs.List.{list_any, fold}
use Rattle.c_tree.specs.declared.program.Program.{Program}
use Rattle.nest_tree.specs.declared.kernel.Kernel.{Kernel}
use Rattle.nest_tree.specs.declared.kernel.Nest.{Nest}
use Rattle.nest_tree.specs.declared.kernel.Term.{Term}
use Rattle.nest_tree.specs.declared.made.MadeWhat.{MadeWhat}
use Rattle.nest_tree.specs.declared.made.MadeWhat.TheVariants.{Pointer, Kept, Count, Mark, Width, Columns, Block, Diag, Padded, Copy}
use Rattle.scan_forms.specs.declared.reads.Read.{Read}
use Rattle.scanning.specs.Reads.{same_read, Origin, term_numbers, over_held, read_of}

abbrev pub with_read : List Read → Read → List Read
with_read table r = cond (list_any (same_read r) table) table (table ++ r ∷ [])

abbrev pub with_term : Origin → ℕ → Term → List Read → List Read
with_term o zero t table = with_read table (read_of table o zero t)
with_term o (suc deep) t table =
    let inner = fold (λ s f. over_held (λ u z. with_term o deep u) o.terms (term_numbers o f) s) table t.at in
    with_read inner (read_of inner o (suc deep) t)

abbrev pub origin_of : Program → Nest → Origin
origin_of head n = record { params = length head.params; levels = length n.levels; terms = n.terms }

abbrev pub with_nest : Program → List Read → Nest → List Read
with_nest head table n = fold (λ s t. with_term (origin_of head n) (length n.terms) t s) table n.terms

-- the array whose cell 0 counts what a made array holds
abbrev pub count_of : MadeWhat → Option (List ℕ)
count_of (Pointer rows count) = Some count
count_of (Kept c s0 divisor count) = Some count
count_of (Columns width) = Some width
count_of Count = None
count_of Width = None
count_of Mark = None
count_of (Block count rows cols) = None
count_of (Diag count) = None
count_of (Padded width) = None
count_of (Copy extents) = None

-- the read array[0]
abbrev pub first_cell : List ℕ → Read
first_cell name = record { array = name; at = record { params = []; levels = []; reads = []; constant = pos 0 } ∷ [] }

abbrev pub with_count : List Read → Option (List ℕ) → List Read
with_count table (Some name) = with_read table (first_cell name)
with_count table None = table

unfoldable pub table_of : Kernel → List Read
table_of k = fold (λ s m. with_count s (count_of m.what)) (fold (with_nest k.head) [] k.nests) k.made
