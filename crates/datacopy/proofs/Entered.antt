-- The kernel with a copy has the shapes of kernels.
use Rattle.std.proofs.Common.{◌≡◌, ℕ, suc, arith, ◌≤◌, ◌<◌, List, [], ◌∷◌, length, refl, sym, subst}
use Rattle.std.specs.Prelude.{ℤ, Result, Ok, Err, OnOk}
use Rattle.std.specs.List.{AllByRecursion}
use Rattle.c_tree.specs.declared.program.Program.{Program}
use Rattle.c_tree.specs.declared.statement.Stmt.{Stmt}
use Rattle.nest_tree.specs.declared.kernel.Kernel.{Kernel}
use Rattle.nest_tree.specs.declared.kernel.Nest.{Nest}
use Rattle.nest_core.specs.Shapes.{IsShapedNest, IsShaped}
use Rattle.datacopy.specs.Copied.{with_lines, lines_of, entered, IsCopied, HasCopyAt, AreCounted}

-- a statement's shape doesn't speak of the inspector
module _ (head : Program) (ls : List Stmt) where
  nest-again : (n : Nest) → IsShapedNest head n → IsShapedNest (with_lines head ls) n
  nest-again n s = record {
    positions = s.positions;
    depth = s.depth;
    rows = s.rows;
    terms = s.terms;
    target = s.target;
    value = s.value;
    whole = s.whole;
  }

  nests-again : (ns : List Nest) → AllByRecursion (IsShapedNest head) ns → AllByRecursion (IsShapedNest (with_lines head ls)) ns
  nests-again [] s = tt
  nests-again (n ∷ ns) s = (nest-again n s.0, nests-again ns s.1)

module _ (k new : Kernel) (copy : List ℕ) (extents : List ℤ) (nests : List Nest) (is : new ≡ entered k copy extents nests) where
  pub entered-shaped : IsShaped k → length k.nests < 64 → AreCounted k.head (suc (length k.nests)) nests → IsShaped new
  entered-shaped s few c = rw is (record {
    nests = nests-again k.head (lines_of copy extents) nests c.shaped;
    some = omega (arith, c.many);
    few = omega (arith, c.many, few);
    counted = c.counted;
  })

-- with the statements that have the copy
pub is-copied : {E : Type 0} (r : Result (Unit {0}) E) (k new : Kernel) (s level : ℕ) (array copy : List ℕ) (extents : List ℤ) (nests : List Nest) (dims : ℕ)
    → 1 ≤ length extents → length extents ≡ dims → HasCopyAt k s level dims array copy nests → AreCounted k.head (suc (length k.nests)) nests → OnOk r (new ≡ entered k copy extents nests)
    → OnOk r (IsCopied k new s level array copy)
is-copied (Ok u) k new s level array copy extents nests dims some d has c is =
    rw is (record { extents = extents; some = some; is = refl; more = c.many; statements = subst (λ (n : ℕ). HasCopyAt k s level n array copy nests) (sym d) has })
is-copied (Err e) k new s level array copy extents nests dims some d has c is = tt
