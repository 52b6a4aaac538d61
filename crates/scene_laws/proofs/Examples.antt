-- The worked scene, computed.
use Rattle.std.proofs.Common.{◌≡◌, Bool, true, false, [], ◌∷◌, refl, sym, ◌∙◌, ap, subst, arith, ℤ, pos, ◌+ℤ◌, ◌≤ℤ◌, ◌<ℤ◌, Some, None, Ok}
use Rattle.std.specs.Prelude.{if◌then◌else◌}
use Rattle.std.specs.List.{list_all}
use Rattle.std.specs.Option.{option_or}
use Rattle.std.proofs.lemmas.Int.{ints}
use Rattle.c_tree.specs.declared.index.Index.TheVariants.{outs-Const, outs-Var, outs-Plus}
use Rattle.c_judge.specs.declared.names.Part.TheVariants as part
use Rattle.c_judge.specs.Fixed.{fixed_fault}
use Rattle.c_judge.specs.Limits.{limit_fault}
use Rattle.c_judge.specs.Names.{Fault, find}
use Rattle.c_judge.specs.Rules.{all_names, fixed_in, fault_of, KeepsRules}
use Rattle.c_judge.specs.Signature.{signature, signature_fault}
use Rattle.c_judge.specs.Statements.{judged_all}
use Rattle.c_judge.proofs.SizesAt.{size_const, size_var, size_plus, count_for, count_if, count_assign}
use Rattle.c_judge.proofs.StatementsAt.{judged_for, judged_if, judged_assign, changes_for, changes_if, changes_assign}
use Rattle.c_judge.proofs.UsesAt.{at_const, at_var, at_plus, at_at, at_cell, at_one, of_const, of_at}
use Rattle.c_meaning.specs.Inputs.{IsValid}
use Rattle.c_meaning.specs.Names.{line, same_numbers}
use Rattle.c_meaning.specs.Programs.{is_executor}
use Rattle.c_meaning.specs.Value.{cell_seen}
use Rattle.c_meaning.proofs.Equations.{measure-Const, measure-Var, measure-Plus}
use Rattle.c_meaning.proofs.Parts.{executes-For, executes-If, executes-Assign}
use Rattle.acceptance.specs.Accepted.{accepted, kernel_of, unless_refused}
use Rattle.acceptance.specs.Judged.{Judged}
use Rattle.worked_acceptance.specs.Examples.{first_of}
use Rattle.worked_acceptance.specs.Guarded.{guarded}
use Rattle.worked_acceptance.proofs.Guarded.{guarded_accepted}
use Rattle.scene_laws.specs.Examples.{begins, one_row, WorkedScene}
use Rattle.scene_laws.specs.Inputs.{scene, IsAcceptedOn}
use Rattle.scene_laws.proofs.Laws.{name_cells, is_scene, fine_on_inputs}
use Rattle.scene_laws.proofs.Ranged.{is_ranged}

-- ---- the rules
limits : limit_fault guarded ≡ None
unfolding limit_fault
limits = simp (count_for, count_if, count_assign, size_plus, size_var, size_const)

sign : signature_fault (signature guarded) guarded ≡ None
unfolding signature signature_fault find
sign = simp (outs-Var, outs-Plus, outs-Const, at_plus, at_var, at_const)

judges : judged_all part.Executor guarded.executor (signature guarded) ≡ Ok (signature guarded)
unfolding signature find
judges = simp (judged_for, judged_if, judged_assign, at_const, at_var, at_plus, at_at, at_cell, at_one, of_const, of_at)

fixes : fixed_fault (signature guarded) part.Executor guarded.executor ≡ None
unfolding signature find
fixes = simp (changes_for, changes_if, changes_assign)

keeps : KeepsRules guarded
unfolding fault_of all_names
keeps =
    ap (λ (f : Fault). option_or f (option_or (signature_fault (signature guarded) guarded) (fixed_in guarded (all_names guarded)))) limits
    ∙ ap (λ (f : Fault). option_or f (fixed_in guarded (all_names guarded))) sign ∙ ap (fixed_in guarded) judges ∙ fixes

is_accepted : accepted guarded ≡ Ok (kernel_of guarded)
unfolding accepted
is_accepted = ap (λ (r : Judged). unless_refused r (kernel_of guarded)) guarded_accepted.0

executes : list_all is_executor guarded.executor ≡ true
executes = simp (executes-For, executes-If, executes-Assign)

-- ---- the input
column : (b : Bool) → (pos 0 ≤ℤ (if b then pos 1 else pos 0)) × ((if b then pos 1 else pos 0) <ℤ pos 2)
column true = (omega (arith, ints), omega (arith, ints))
column false = (omega (arith, ints), omega (arith, ints))

only_row : (r : ℤ) → pos 0 ≤ℤ r → r <ℤ pos 1 → begins (line r) ≤ℤ begins (line (r +ℤ pos 1))
only_row r a b = let e : r ≡ pos 0 = omega (arith, ints, a, b) in subst (λ (x : ℤ). begins (line x) ≤ℤ begins (line (x +ℤ pos 1))) (sym e) (omega (arith, ints))

valid : IsValid guarded one_row
valid = record {
  parameters = (record { from = omega (arith, ints); to = omega (arith, ints) }, (record { from = omega (arith, ints); to = omega (arith, ints) }, (record { from = omega (arith, ints); to = omega (arith, ints) }, tt)));
  extents = (
    record { values = pos 2 ∷ []; are = simp (measure-Plus, measure-Var, measure-Const); not_negative = (omega (arith, ints), tt) },
    (
      record { values = pos 2 ∷ []; are = simp measure-Var; not_negative = (omega (arith, ints), tt) },
      (
        record { values = pos 2 ∷ []; are = simp measure-Var; not_negative = (omega (arith, ints), tt) },
        (record { values = pos 1 ∷ []; are = simp measure-Var; not_negative = (omega (arith, ints), tt) }, tt),
      ),
    ),
  );
  numbers = λ x. omega arith;
  matrices = (
    record {
      first = refl;
      rises = only_row;
      last = refl;
      column_from = λ k a b. (column (same_numbers (line k) (line (pos 0)))).0;
      column_to = λ k a b. (column (same_numbers (line k) (line (pos 0)))).1;
    },
    tt,
  );
}

on : IsAcceptedOn guarded (kernel_of guarded) one_row
on = record { rules = keeps; is_accepted = is_accepted; executes = executes; valid = valid }

second_begin : cell_seen (scene guarded one_row).sight first_of (line (pos 1)) ≡ Some (pos 2)
second_begin = simp (measure-Plus, measure-Var, measure-Const)

pub worked_scene : WorkedScene
worked_scene = (on, name_cells guarded (kernel_of guarded) one_row on, is_scene guarded (kernel_of guarded) one_row on, fine_on_inputs guarded (kernel_of guarded) one_row on, is_ranged guarded (kernel_of guarded) one_row on, second_begin)
