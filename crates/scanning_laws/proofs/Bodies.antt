-- Reads and printed right sides, step by step.
use Rattle.std.proofs.Common.{◌∙◌, ap, ◌≡◌, ℕ, List, [], ◌∷◌, ◌++◌}
use Rattle.std.specs.Prelude.{Result, Ok}
use Rattle.nest_systems.specs.Cells as cells
use Rattle.c_tree.specs.declared.data.Expr.{Expr}
use Rattle.c_tree.specs.declared.data.Expr.TheVariants as expr
use Rattle.nest_core.specs.Making.{after}
use Rattle.nest_tree.specs.declared.body.Access.{Access}
use Rattle.nest_tree.specs.declared.body.Body.{Body, Body-F, fold_out-Body, map-Body, out-Body}
use Rattle.nest_tree.specs.declared.body.Body.TheVariants as body
use Rattle.nest_tree.specs.declared.body.Body.TheVariants.{outs-Const, outs-At, outs-Times}
use Rattle.nest_tree.specs.declared.kernel.Kernel.{Kernel}
use Rattle.scan_forms.specs.declared.affine.Affine.{Affine}
use Rattle.scan_forms.specs.declared.reads.Read.{Read}
use Rattle.scan_forms.specs.declared.fault.ScanFault.{ScanFault}
use Rattle.scanning.specs.Sizes.{Sizes}
use Rattle.scanning.specs.Written.{body_layer, body_printed, cell_printed}

reads_at : (b : Body) (d : Body-F Body) → out-Body b ≡ d → cells.reads b ≡ cells.reads_layer (map-Body Body (List Access) cells.reads d)
unfolding cells.reads
reads_at b d h = fold_out-Body (List Access) cells.reads_layer b ∙ ap (λ d. cells.reads_layer (map-Body Body (List Access) cells.reads d)) h

pub reads_const : (c : ℕ) → cells.reads (body.Const c) ≡ []
reads_const c = reads_at (body.Const c) _ (outs-Const c)

pub reads_cell : (a : Access) → cells.reads (body.At a) ≡ a ∷ []
reads_cell a = reads_at (body.At a) _ (outs-At a)

-- a product of two cells
pub reads_two : (a b : Access) → cells.reads (body.Times (body.At a) (body.At b)) ≡ a ∷ b ∷ []
reads_two a b =
    reads_at (body.Times (body.At a) (body.At b)) _ (outs-Times (body.At a) (body.At b))
    ∙ ap (λ (rs : List Access). rs ++ cells.reads (body.At b)) (reads_cell a) ∙ ap (λ (rs : List Access). a ∷ rs) (reads_cell b)

module _ (k : Kernel) (table : List Read) (order : List ℕ) (sizes : Sizes) (s : ℕ) (at : Access → List Affine) where
  abbrev side : Body → Result Expr ScanFault
  side = body_printed k table order sizes s at

  printed_at : (b : Body) (d : Body-F Body) → out-Body b ≡ d → side b ≡ body_layer k table order sizes s at (map-Body Body (Result Expr ScanFault) side d)
  printed_at b d h =
      fold_out-Body (Result Expr ScanFault) (body_layer k table order sizes s at) b
      ∙ ap (λ d. body_layer k table order sizes s at (map-Body Body (Result Expr ScanFault) side d)) h

  pub printed_const : (c : ℕ) → side (body.Const c) ≡ Ok (expr.Const c)
  printed_const c = printed_at (body.Const c) _ (outs-Const c)

  pub printed_cell : (a : Access) → side (body.At a) ≡ after (cell_printed k table order sizes s a.array (at a)) (λ c. Ok (expr.At c))
  printed_cell a = printed_at (body.At a) _ (outs-At a)

  pub printed_times : (a b : Body) (x y : Expr) → side a ≡ Ok x → side b ≡ Ok y → side (body.Times a b) ≡ Ok (expr.Times x y)
  printed_times a b x y p q =
      printed_at (body.Times a b) _ (outs-Times a b) ∙ ap (λ (v : Result Expr ScanFault). after v (λ x. after (side b) (λ y. Ok (expr.Times x y)))) p
      ∙ ap (λ (v : Result Expr ScanFault). after v (λ y. Ok (expr.Times x y))) q
