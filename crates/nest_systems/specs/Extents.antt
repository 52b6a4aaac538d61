-- Extents as affine forms of the parameters alone.
use Rattle.std.specs.Prelude.{ℕ, Bool, cond, bytes_eq, List, [], ◌∷◌, ℤ, pos, negsuc, Option, Some, None}
use Rattle.std.specs.List.{list_any}
use Rattle.c_tree.specs.declared.index.Index.{Index, fold-Index}
use Rattle.c_tree.specs.declared.index.Index.TheOpen.{Index-F, Const, Var, At, Neg, Plus, Minus, Times, Min, Max, Floor, Ceil, Cell-F, Subscripts-F}
use Rattle.int_rows.specs.declared.row.Aff.{Aff}
use Rattle.nest_systems.specs.Sums.{stopped_sum, stopped_product}
use Rattle.nest_systems.specs.Ranges.{Names, of_none}

-- a form with a number more
abbrev pub plus_number : ℤ → Aff → Aff
plus_number z f = record { coefs = f.coefs; constant = stopped_sum f.constant z }

-- numbers of the parameters, with a number more at each that has the name
abbrev pub raised : Names → List ℕ → ℤ → List ℤ → List ℤ
raised [] p z cs = cs
raised (q ∷ qs) p z [] = []
raised (q ∷ qs) p z (c ∷ cs) = cond (bytes_eq q p) (stopped_sum c z) c ∷ raised qs p z cs

-- a form with a multiple of a parameter more
abbrev pub plus_parameter : Names → List ℕ → ℤ → Aff → Aff
plus_parameter params p z f = record { coefs = raised params p z f.coefs; constant = f.constant }

abbrev pub has_name : List ℕ → List ℕ → Bool
has_name p q = bytes_eq q p

-- what a multiple of an expression makes of a form to which it is added, where the expression is affine in the parameters
abbrev pub Multiple : Type 0
Multiple = ℤ → Aff → Option Aff

abbrev pub and_then : Option Aff → (Aff → Option Aff) → Option Aff
and_then (Some f) g = g f
and_then None g = None

abbrev pub negative : ℤ → ℤ
negative z = stopped_product z (negsuc 0)

abbrev pub index_layer : Names → Index-F Multiple (Unit {0}) (Unit {0}) → Multiple
index_layer params (Const n) z f = Some (plus_number (stopped_product z n) f)
index_layer params (Var p) z f = cond (list_any (has_name p) params) (Some (plus_parameter params p z f)) None
index_layer params (At c) z f = None
index_layer params (Neg a) z f = a (negative z) f
index_layer params (Plus a b) z f = and_then (b z f) (a z)
index_layer params (Minus a b) z f = and_then (b (negative z) f) (a z)
index_layer params (Times n a) z f = a (stopped_product z n) f
index_layer params (Min a b) z f = None
index_layer params (Max a b) z f = None
index_layer params (Floor a d) z f = None
index_layer params (Ceil a d) z f = None

abbrev pub subscripts_layer : Subscripts-F Multiple (Unit {0}) (Unit {0}) → Unit {0}
subscripts_layer s = tt

abbrev pub cell_layer : Cell-F Multiple (Unit {0}) (Unit {0}) → Unit {0}
cell_layer c = tt

-- a form with a multiple of an expression more
unfoldable pub with_multiple : Names → Index → Multiple
with_multiple params = fold-Index Multiple (Unit {0}) (Unit {0}) (index_layer params) subscripts_layer cell_layer

-- the form of an extent, where it is affine
unfoldable pub extent_form : Names → Index → Option Aff
extent_form params e = with_multiple params e (pos 1) (of_none params (pos 0))
