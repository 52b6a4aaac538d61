-- The reads that forms name, in order: inner ones first, each once.
use Rattle.std.specs.Prelude.{ℕ, zero, suc, cond, nat_eq, List, [], ◌∷◌, ◌++◌, length, slice_get, Option, Some, None}
use Rattle.std.specs.List.{list_any, fold}
use Rattle.scan_forms.specs.declared.affine.Affine.{Affine}
use Rattle.scan_forms.specs.declared.reads.Read.{Read}
use Rattle.scan_forms.specs.Numbers.{number_at}
use Rattle.scanning.specs.Reads.{if_held}

abbrev pub arguments : Option Read → List Affine
arguments (Some r) = r.at
arguments None = []

-- a number behind others, unless it is there
abbrev pub with_new : List ℕ → ℕ → List ℕ
with_new ns i = cond (list_any (nat_eq i) ns) ns (ns ++ i ∷ [])

-- behind others the reads that a form names, of those below a number: by their places in the table, each behind those in its
-- arguments
abbrev pub named_below : List Read → ℕ → List ℕ → Affine → List ℕ
named_below table zero ns f = ns
named_below table (suc b) ns f =
    if_held (number_at b f.reads) (λ z ms. with_new (fold (named_below table b) ms (arguments (slice_get table b))) b) (named_below table b ns f)

abbrev pub named : List Read → List ℕ → Affine → List ℕ
named table ns f = named_below table (length table) ns f

-- the reads in the arguments of a read
abbrev pub inner_named : List Read → List ℕ → ℕ → List ℕ
inner_named table ns i = fold (named_below table i) ns (arguments (slice_get table i))

-- first those of a list, in its order, and then all others
abbrev pub named_ordered : List Read → List ℕ → List ℕ → Affine → List ℕ
named_ordered table list ns f =
    named table (fold (λ ms i. if_held (number_at i f.reads) (λ z ls. with_new (inner_named table ls i) i) ms) ns list) f
