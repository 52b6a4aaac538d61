-- What is told of an array of a store.
use Rattle.std.proofs.Common.{◌≡◌, ℕ, ◌*◌, ◌^◌, ◌<◌, Bool, true, false, List, [], ◌∷◌, if◌then◌else◌, length, get_or, Some, None, refl, sym, ap, ◌∙◌, subst}
use Rattle.std.specs.Option.{unwrap_or}
use Rattle.c_meaning.specs.Names.{Name, same_name}
use Rattle.c_walk.specs.State.{memory_in}
use Rattle.raw_store.specs.Rows.{Rows}
use Rattle.csr_data.specs.Parameters.{number_in}
use Rattle.csr_data.specs.Values.{array_of, param_of}
use Rattle.csr_data.specs.declared.values.Parameter.{Parameter}
use Rattle.csr_data.specs.declared.values.Table.{Table}
use Rattle.c_run.specs.Store.{prepared}
use Rattle.measured_run.specs.Figures.{cells_of}
use Rattle.measured_run.proofs.Cells.{cells_are, no_cells}

-- a figure of the cells that the store holds is one of the cells of its memory
pub told : (figure : List ℕ → ℕ) (ts : List Table) (x y : Name) (g : Rows) (cells : List ℕ) (n : ℕ) → y ≡ x → array_of ts y ≡ Some g → cells ≡ g.cells
    → length g.cells ≡ g.first * (g.deep * g.wide) → ((k : ℕ) → k < length cells → get_or cells k 0 < 2 ^ 64) → n ≡ figure cells → n ≡ figure (cells_of (memory_in (prepared [] ts)) x)
told figure ts x y g cells n same found is full words e =
    e ∙ ap figure (is ∙ sym (cells_are ts x g (ap (array_of ts) (sym same) ∙ found) (record { count = full; words = subst (λ (l : List ℕ). (k : ℕ) → k < length l → get_or l k 0 < 2 ^ 64) is words })))

pub untold : (figure : List ℕ → ℕ) (ts : List Table) (x y : Name) → y ≡ x → array_of ts y ≡ None → figure [] ≡ figure (cells_of (memory_in (prepared [] ts)) x)
untold figure ts x y same none = ap figure (sym (no_cells ts x (ap (array_of ts) (sym same) ∙ none)))

-- the value of a parameter, 0 where there is none
pub value_or : (ps : List Parameter) (x : Name) → unwrap_or (param_of ps x) 0 ≡ number_in ps x
value_or [] x = refl
value_or (v ∷ ps) x = by (same_name v.name x) (value_or ps x)
  where
    by : (b : Bool) → unwrap_or (param_of ps x) 0 ≡ number_in ps x → unwrap_or (if b then Some v.value else param_of ps x) 0 ≡ (if b then v.value else number_in ps x)
    by true e = refl
    by false e = e
