-- The figures of a measured run, by the arrays that the run leaves.
use Rattle.std.specs.Prelude.{ℕ, ◌+◌, ◌-◌, ◌*◌, ◌%◌, ◌^◌, ℤ, pos, negsuc, unsigned_abs, List, [], ◌∷◌, map, codes}
use Rattle.std.specs.List.{flat_map, range_with_len, sum}
use Rattle.c_meaning.specs.Memory.{Memory}
use Rattle.c_meaning.specs.Names.{Name}
use Rattle.c_walk.specs.State.{spot}
use Rattle.csr_data.specs.declared.values.Parameter.{Parameter}
use Rattle.csr_data.specs.Parameters.{number_in}
use Rattle.measured_run.specs.declared.summary.Figures.{Figures}

-- the numbers from 0 to below an extent
abbrev pub below : ℤ → List ℕ
below e = range_with_len 0 (unsigned_abs e)

-- what f is at each place of an array with these extents, the last subscript running fastest
abbrev pub at_places : List ℤ → (List ℤ → ℕ) → List ℕ
at_places (a ∷ b ∷ c ∷ []) f = flat_map (λ i. flat_map (λ j. map (λ k. f (pos i ∷ pos j ∷ pos k ∷ [])) (below c)) (below b)) (below a)
at_places _ f = []

-- a whole number modulo 2^64
abbrev pub word : ℤ → ℕ
word (pos n) = n % 2 ^ 64
word (negsuc n) = 2 ^ 64 - 1 - n % 2 ^ 64

-- what a cell holds: a cell of an index array or of a data array, which is 0 as the other
abbrev pub held : Memory → Name → List ℤ → ℕ
held m x at = word (m.index x at) + m.cells (spot x at)

-- the cells of an array in their order; an array that isn't there has none
abbrev pub cells_of : Memory → Name → List ℕ
cells_of m x = at_places (m.extents x) (held m x)

-- the sum of the cells modulo 2^64
abbrev pub total : List ℕ → ℕ
total cells = sum cells % 2 ^ 64

-- the sum of the cells, each times one more than its place, where the first stands at this place
abbrev pub weighed : ℕ → List ℕ → ℕ
weighed place [] = 0
weighed place (c ∷ cs) = c * (place + 1) + weighed (place + 1) cs

-- how many entries the matrix of the data has
abbrev pub entries_of : List Parameter → ℕ
entries_of params = number_in params (codes "nnz")

-- what is told of the arrays `b_num`, `b_lay` and `y`, modulo 2^64
abbrev pub figures : (size entries : ℕ) → Memory → Figures
figures size entries m = record {
  size = size;
  entries = entries;
  blocks = total (cells_of m (codes "b_num"));
  layout = weighed 0 (cells_of m (codes "b_lay")) % 2 ^ 64;
  sum = total (cells_of m (codes "y"));
}
