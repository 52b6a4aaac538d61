use Rattle.std.proofs.Common.{◌≡◌, ℕ, zero, suc, List, [], ◌∷◌, get_or, sym, ap}
use Rattle.std.specs.Prelude.{Some, slice_get}
use Rattle.compact_pad.proofs.command.entered_at.Goals as goal

-- the one that is read is the one that is found
found-at : {A : Type 0} (xs : List A) (i : ℕ) (x y : A) → slice_get xs i ≡ Some y → x ≡ get_or xs i x → slice_get xs i ≡ Some x
found-at [] i x y e d = absurd cc
found-at (z ∷ zs) zero x y e d = ap Some (sym d)
found-at (z ∷ zs) (suc i) x y e d = found-at zs i x y e d

pub returns-in-Ok-clause-put : goal.returns-in-Ok-clause-put
returns-in-Ok-clause-put c =
    let p = c.requires.plan in
    let item = c.index-as_slice-statement.result in
    record {
      nest = item;
      found = found-at c.args.kernel.now.nests c.args.statement item p.nest p.found (rw c.as_slice.ensures at c.index-as_slice-statement.is);
      is = c.in-Ok.ensures.value;
    }
