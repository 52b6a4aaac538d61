-- The reads that a scan speaks of, and the forms of statements over a table of them.
use Rattle.std.specs.Prelude.{ℕ, zero, suc, ◌+◌, Bool, true, false, ◌&&◌, bytes_eq, List, [], ◌∷◌, map, length, take, drop, replicate, ℤ, pos, ◌+ℤ◌, slice_set, Option, Some, None}
use Rattle.std.specs.Int.{w128, saturate_signed}
use Rattle.std.specs.List.{position_from}
use Rattle.int_rows.specs.declared.row.Aff.{Aff}
use Rattle.int_rows.specs.declared.row.Row.{Row}
use Rattle.nest_tree.specs.declared.kernel.Term.{Term}
use Rattle.scan_forms.specs.declared.affine.Affine.{Affine}
use Rattle.scan_forms.specs.declared.claim.Claim.{Claim}
use Rattle.scan_forms.specs.declared.reads.Read.{Read}
use Rattle.scan_forms.specs.Numbers.{number_at}
use Rattle.scan_forms.specs.Forms.{same_form}

abbrev pub same_forms : List Affine → List Affine → Bool
same_forms [] [] = true
same_forms [] (g ∷ gs) = false
same_forms (f ∷ fs) [] = false
same_forms (f ∷ fs) (g ∷ gs) = same_form f g && same_forms fs gs

abbrev pub same_read : Read → Read → Bool
same_read a b = bytes_eq a.array b.array && same_forms a.at b.at

-- what the variables of a statement's forms are: so many parameters and levels, and then terms
pub record Origin : Type 0 where
  pub params : ℕ
  pub levels : ℕ
  pub terms : List Term

abbrev pub term_numbers : Origin → Aff → List ℤ
term_numbers o f = drop (o.params + o.levels) f.coefs

-- something is done for each term that a form holds, in order
abbrev pub if_held : {S : Type 0} → ℤ → (ℤ → S → S) → S → S
if_held (pos zero) act s = s
if_held z act s = act z s

abbrev pub over_held : {S : Type 0} → (Term → ℤ → S → S) → List Term → List ℤ → S → S
over_held act [] zs s = s
over_held act (t ∷ ts) [] s = s
over_held act (t ∷ ts) (z ∷ zs) s = over_held act ts zs (if_held z (act t) s)

-- a number more at a place, within 128 bits
abbrev pub more_at : Option ℕ → ℤ → List ℤ → List ℤ
more_at (Some i) z zs = slice_set zs i (saturate_signed w128 (number_at i zs +ℤ z))
more_at None z zs = zs

-- the form over the table, with the numbers of the reads
abbrev pub over_table : Origin → Aff → List ℤ → Affine
over_table o f reads = record { params = take o.params f.coefs; levels = take o.levels (drop o.params f.coefs); reads = reads; constant = f.constant }

-- a form of a statement over the table, with terms that stand at most so deep in one another: each term's number goes to the read that it is
abbrev pub placed_to : List Read → Origin → ℕ → Aff → Affine
placed_to table o zero f = over_table o f (replicate (length table) (pos 0))
placed_to table o (suc deep) f =
    let at_term : Term → Option ℕ = λ t. position_from (same_read (record { array = t.array; at = map (placed_to table o deep) t.at })) 0 table in
    over_table o f (over_held (λ t z zs. more_at (at_term t) z zs) o.terms (term_numbers o f) (replicate (length table) (pos 0)))

abbrev pub read_of : List Read → Origin → ℕ → Term → Read
read_of table o deep t = record { array = t.array; at = map (placed_to table o deep) t.at }

-- terms can stand as deep in one another as there are terms
abbrev pub placed : List Read → Origin → Aff → Affine
placed table o f = placed_to table o (length o.terms) f

abbrev pub claim_of : List Read → Origin → Row → Claim
claim_of table o r = record { equal = r.equal; form = placed table o r.form }

-- the place in the table of the read that a term is
abbrev pub place_of : List Read → Origin → Term → Option ℕ
place_of table o t = position_from (same_read (read_of table o (length o.terms) t)) 0 table
