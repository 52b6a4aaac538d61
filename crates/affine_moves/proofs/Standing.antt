-- The piece that leaves a statement as it is, at other positions, fits it.
use Rattle.std.proofs.Common.{◌≡◌, ℕ, List, length, refl, sym, ap, ◌∙◌}
use Rattle.c_tree.specs.declared.program.Program.{Program}
use Rattle.nest_tree.specs.declared.kernel.Nest.{Nest}
use Rattle.nest_core.specs.Shapes.{IsShapedNest, FitsNest}
use Rattle.affine_moves.specs.declared.change.Change.TheVariants.{Stay}
use Rattle.affine_moves.specs.Change.{piece_of, new_positions}
use Rattle.affine_moves.specs.Placed.{piece_at}
use Rattle.affine_moves.proofs.Fitting.{piece_of-fits}

same-positions : (params : ℕ) (n : Nest) → (piece_of params Stay n).positions ≡ n.positions
unfolding piece_of new_positions
same-positions params n = refl

pub piece_at-fits : (head : Program) (n : Nest) (ps : List ℕ) → IsShapedNest head n → length ps ≡ length n.positions → FitsNest (length head.params) n (piece_at (length head.params) n ps)
piece_at-fits head n ps s e =
    let f = piece_of-fits head n Stay s refl in
    record {
      counts = f.counts;
      positions = e ∙ sym (ap length (same-positions (length head.params) n)) ∙ f.positions;
      depth = f.depth;
      old = f.old;
      rows = f.rows;
      terms = f.terms;
      drops = f.drops;
      bounds = f.bounds;
    }
