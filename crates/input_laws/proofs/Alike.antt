-- A program of the first form and the program that is written for it do the same on what a data text gives.
use Rattle.std.proofs.Common.{◌≡◌, ℕ, List, [], Some, sym, ap, ◌∙◌, subst}
use Rattle.std.specs.Prelude.{◌++◌, map}
use Rattle.c_tree.specs.declared.program.Array.{Array}
use Rattle.c_tree.specs.declared.program.Matrix.{Matrix}
use Rattle.c_tree.specs.declared.program.Program.{Program}
use Rattle.c_meaning.specs.Inputs.{Input, IsMatrix, IsValid, array_named, extents_in, start}
use Rattle.c_meaning.specs.Memory.{Memory}
use Rattle.c_meaning.specs.Programs.{inspection, execution, IsFine, LeaveSameArrays}
use Rattle.c_meaning.specs.Run.{Outcome, run}
use Rattle.c_walk.specs.State.{memory_in}
use Rattle.csr_data.specs.Lines.{Given, after, dues, parameter, array, says_from}
use Rattle.csr_data.specs.Matrices.{matrices_fault, unless, says}
use Rattle.c_run.specs.Store.{prepared}
use Rattle.program_run.specs.Runs.{inspected, executed, IsDone}
use Rattle.first_form.specs.Written.{written}
use Rattle.first_laws.specs.Alike.{HasSameSignature, RunsAlike}
use Rattle.first_laws.proofs.Programs.{same_signature, runs_alike}
use Rattle.first_laws.proofs.Quiet.{is_fine}
use Rattle.input_laws.specs.Inputs.{input_of, Reads, RunsAsDefined}
use Rattle.input_laws.specs.Alike.{RunAlikeOn}
use Rattle.input_laws.specs.Texts.{AreSame}
use Rattle.input_laws.proofs.Matrices.{input_valid}
use Rattle.input_laws.proofs.Starts.{starts, runs}

-- a text says the same for programs of one signature
pub same_says : (p q : Program) (text : List ℕ) → q.params ≡ p.params → q.arrays ≡ p.arrays → q.matrices ≡ p.matrices → says q text ≡ says p text
unfolding dues
same_says p q text params arrays matrices =
    let none : Given = record { params = []; arrays = [] } in
    (λ i. after (says_from 1 (map parameter (params i) ++ map array (arrays i)) none text) (λ g. unless (matrices_fault 0 g (matrices i)) g))

abbrev memory_with : Input → List Array → Memory
memory_with i arrays = record { extents = λ x. extents_in (array_named x arrays) i; index = i.index; cells = i.cells }

-- the machine runs the written program as the definitions say, too
written_runs : (p q : Program) (text : List ℕ) (g : Given) → HasSameSignature p q → Reads p text g → RunsAsDefined q g
written_runs p q text g s r =
    let begins : memory_in (prepared g.params g.arrays) ≡ start q (input_of g) = starts p text g r ∙ ap (memory_with (input_of g)) (sym s.arrays) in
    let inspects : inspected q g.params g.arrays ≡ inspection q (input_of g) = ap (λ (m : Memory). run q.inspector (input_of g).value m) begins in
    record { inspector = inspects; executor = ap (λ (o : Outcome). run q.executor (input_of g).value o.last) inspects }

pub done : (p : Program) (g : Given) → RunsAsDefined p g → IsFine p (input_of g) → IsDone p g.params g.arrays
done p g r f = record { inspector = ap (λ (o : Outcome). o.trouble) r.inspector ∙ f.inspector; executor = ap (λ (o : Outcome). o.trouble) r.executor ∙ f.executor }

-- where the definitions leave the arrays the same, so does the machine
pub same_left : (p q : Program) (g : Given) → RunsAsDefined p g → RunsAsDefined q g → LeaveSameArrays p q (input_of g) → AreSame p.arrays (executed p g.params g.arrays).last (executed q g.params g.arrays).last
same_left p q g old new same =
    subst (λ (m : Memory). AreSame p.arrays m (executed q g.params g.arrays).last) (sym (ap (λ (o : Outcome). o.last) old.executor))
    (subst (λ (m : Memory). AreSame p.arrays (execution p (input_of g)).last m) (sym (ap (λ (o : Outcome). o.last) new.executor)) same)

pub alike : (p q : Program) (text : List ℕ) (g : Given) → written p ≡ Some q → Reads p text g → RunAlikeOn p q text g
alike p q text g w r =
    let s : HasSameSignature p q = same_signature p q w in
    let fine : IsFine p (input_of g) = is_fine p q (input_of g) w (input_valid p text g r) in
    let both : RunsAlike p q (input_of g) = runs_alike p q (input_of g) w in
    let old : RunsAsDefined p g = runs p text g r in
    let new : RunsAsDefined q g = written_runs p q text g s r in
    record {
      says = same_says p q text s.params s.arrays (s.no_new_matrix ∙ sym s.no_matrix) ∙ r.says;
      source = done p g old fine;
      written = done q g new (both.fine fine);
      arrays = same_left p q g old new both.arrays;
    }
