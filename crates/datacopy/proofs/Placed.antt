-- The statements with a copying statement among them.
use Rattle.std.proofs.Common.{◌≡◌, ℕ, suc, arith, ◌<◌, ◌+◌, List, ◌∷◌, length, take, drop, ◌∙◌, length-append, length-take, length-drop}
use Rattle.std.specs.List.{AllByRecursion}
use Rattle.chill_base.proofs.Each.{each-append, each-take, each-drop}
use Rattle.c_tree.specs.declared.program.Program.{Program}
use Rattle.nest_tree.specs.declared.kernel.Nest.{Nest}
use Rattle.nest_core.specs.Order.{numbered}
use Rattle.nest_core.specs.Shapes.{IsShapedNest}
use Rattle.nest_core.proofs.Ordered.{length-numbered, has_positions, numbered-shaped, numbered-again}
use Rattle.datacopy.specs.Copied.{with_both, AreCounted}

module _ (head : Program) (nests : List Nest) (s : ℕ) (a b : Nest) where
  pub both-shaped : AllByRecursion (IsShapedNest head) nests → IsShapedNest head a → IsShapedNest head b → AllByRecursion (IsShapedNest head) (with_both nests s a b)
  both-shaped all x y =
      each-append (IsShapedNest head) (take s nests) (a ∷ b ∷ drop (s + 1) nests) (each-take (IsShapedNest head) nests s all)
      (x, (y, each-drop (IsShapedNest head) nests (s + 1) all))

  length-both : s < length nests → length (with_both nests s a b) ≡ suc (length nests)
  length-both l = omega (arith, length-append (take s nests) (a ∷ b ∷ drop (s + 1) nests), length-take s nests, length-drop (s + 1) nests)

  pub both-counted : (new : List Nest) → s < length nests → AllByRecursion (IsShapedNest head) nests → IsShapedNest head a → IsShapedNest head b
      → new ≡ numbered (with_both nests s a b) → AreCounted head (suc (length nests)) new
  both-counted new l all x y e =
      let shaped = both-shaped all x y in
      rw e (record {
        shaped = numbered-shaped head (with_both nests s a b) shaped;
        many = length-numbered (with_both nests s a b) ∙ length-both l;
        counted = numbered-again (with_both nests s a b) (has_positions head (with_both nests s a b) shaped);
      })
