use Rattle.std.proofs.Common.{◌≡◌, length, sym, subst, List, ℕ}
use Rattle.std.specs.Prelude.{Result, Ok, Err, IfOk}
use Rattle.chill_base.specs.declared.faults.NoMemory.{NoMemory}
use Rattle.c_tree.specs.declared.program.Program.{Program}
use Rattle.nest_tree.specs.declared.kernel.Nest.{Nest}
use Rattle.nest_core.specs.Shapes.{IsShapedNest}
use Rattle.pad_layouts.specs.declared.parts.Parts.{Parts}
use Rattle.pad_layouts.specs.Parts.{padded_nest, AreFitting}
use Rattle.pad_layouts.proofs.Widths.{access-suits}
use Rattle.pad_layouts.proofs.Shaping.{body-suits, nest-shaped}
use Rattle.pad_layouts.proofs.statement.shaped_nest.Goals as goal

pub padded_nest-requires-clause-target : goal.padded_nest-requires-clause-target
padded_nest-requires-clause-target c = access-suits _ c.args.parts.picks c.args.nest.now.target c.requires.picks c.requires.shaped.target

pub padded_nest-requires-clause-value : goal.padded_nest-requires-clause-value
padded_nest-requires-clause-value c = body-suits _ c.args.parts.picks c.requires.picks c.args.nest.now.value c.requires.shaped.value

shaped-if : (head : Program) (value : List ℕ) (n : Nest) (p : Parts) (r : Result Nest NoMemory) → IfOk r (λ m. m ≡ padded_nest value n p) → IsShapedNest head n → AreFitting (length head.params) p → IfOk r (λ m. IsShapedNest head m)
shaped-if head value n p (Ok m) e s f = subst (IsShapedNest head) (sym e) (nest-shaped head value n p s f)
shaped-if head value n p (Err x) e s f = tt

pub returns-clause-shaped : goal.returns-clause-shaped
returns-clause-shaped c = shaped-if c.args.head.now c.args.value c.args.nest.now c.args.parts c.padded_nest.result c.padded_nest.ensures c.requires.shaped c.requires.fitting
