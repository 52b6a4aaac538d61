-- Programs that leave the same arrays leave the same text.
use Rattle.std.proofs.Common.{◌≡◌, ℕ, List, [], ◌∷◌, ◌++◌, Some, refl, sym, ap, ◌∙◌, subst}
use Rattle.c_tree.specs.declared.program.Array.{Array}
use Rattle.c_tree.specs.declared.program.Program.{Program}
use Rattle.c_meaning.specs.Memory.{Memory}
use Rattle.c_walk.specs.State.{memory_in}
use Rattle.csr_data.specs.declared.values.Parameter.{Parameter}
use Rattle.csr_data.specs.declared.values.Table.{Table}
use Rattle.csr_data.specs.Lines.{Given}
use Rattle.csr_data.specs.Printed.{parameters_text}
use Rattle.c_run.specs.Printing.{AreWhole, arrays_text}
use Rattle.c_run.specs.Store.{prepared}
use Rattle.first_form.specs.Written.{written}
use Rattle.first_laws.proofs.Programs.{same_signature}
use Rattle.program_run.specs.Runs.{executed, LeavesText}
use Rattle.input_laws.specs.Inputs.{Reads}
use Rattle.input_laws.specs.Texts.{AreSame}
use Rattle.input_laws.proofs.Alike.{alike}
use Rattle.input_laws.proofs.Texts.{same_text}

all_same : (arrays : List Array) (m : Memory) → AreSame arrays m m
all_same [] m = tt
all_same (a ∷ arrays) m = (record { extents = refl; index = λ at. refl; cells = λ at. refl }, all_same arrays m)

pub same_effect : (p q : Program) (ps : List Parameter) (ts : List Table) → q.arrays ≡ p.arrays → AreSame p.arrays (executed p ps ts).last (executed q ps ts).last
    → (t u : List ℕ) → LeavesText p ps ts t → LeavesText q ps ts u → t ≡ u
same_effect p q ps ts arrays same t u a b =
    let whole : AreWhole b.left p.arrays = subst (AreWhole b.left) arrays b.whole in
    let seen : AreSame p.arrays (memory_in (prepared [] a.left)) (memory_in (prepared [] b.left)) =
    subst (λ (m : Memory). AreSame p.arrays m (memory_in (prepared [] b.left))) (sym a.are) (subst (λ (m : Memory). AreSame p.arrays (executed p ps ts).last m) (sym b.are) same) in
    a.is_text ∙ ap (λ (l : List ℕ). parameters_text ps ++ l) (same_text p.arrays a.left b.left a.whole whole seen ∙ ap (arrays_text b.left) (sym arrays)) ∙ sym b.is_text

pub one_text : (p : Program) (ps : List Parameter) (ts : List Table) (t u : List ℕ) → LeavesText p ps ts t → LeavesText p ps ts u → t ≡ u
one_text p ps ts t u a b = same_effect p p ps ts refl (all_same p.arrays (executed p ps ts).last) t u a b

pub first_form : (p q : Program) (input : List ℕ) (g : Given) → written p ≡ Some q → Reads p input g
    → (t u : List ℕ) → LeavesText p g.params g.arrays t → LeavesText q g.params g.arrays u → t ≡ u
first_form p q input g w r t u a b = same_effect p q g.params g.arrays (same_signature p q w).arrays (alike p q input g w r).arrays t u a b
