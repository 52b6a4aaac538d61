-- How deep the statements of layouts are, and what is found.
use Rattle.std.proofs.Common.{◌≡◌, ℕ, zero, suc, ◌+◌, ◌<◌, arith, List, [], ◌∷◌, length, Bool, true, false, cond, ◌&&◌, get_or, refl, sym, ap, lt-ltb, ℤ}
use Rattle.std.specs.Prelude.{Option, Some, None, IfSome, slice_get}
use Rattle.std.proofs.lemmas.Bool.{cond_both}
use Rattle.chill_base.specs.declared.padding.Padding.{Padding}
use Rattle.chill_base.specs.declared.padding.Padding.TheVariants.{Block as BlockKind, Diag as DiagKind, Rows as RowsKind}
use Rattle.nest_tree.specs.declared.form.Form.{Form}
use Rattle.nest_tree.specs.declared.kernel.Term.{Term}
use Rattle.pad_layouts.specs.declared.layout.Layout.{Layout}
use Rattle.pad_layouts.specs.declared.layout.Layout.TheVariants.{Block, Diag, Rows}
use Rattle.pad_layouts.specs.Layouts.{blocks, layout_of, is_diag, is_rows}
use Rattle.pad_layouts.specs.Moved.{is_pick}
use Rattle.pad_layouts.specs.Plans.{old_depth}
use Rattle.pad_layouts.specs.Products.{find_read, is_name, is_single}

block-depth : (r c : Option ℤ) (o : Option Bool) (b : Bool) (l : Layout) → blocks r c o b ≡ Some l → 5 ≡ old_depth l
block-depth (Some r) (Some c) (Some s) true l e = let same : Block r c s ≡ l = cc in ap old_depth same
block-depth (Some r) (Some c) (Some s) false l e = absurd cc
block-depth (Some r) (Some c) None b l e = absurd cc
block-depth (Some r) None o b l e = absurd cc
block-depth None c o b l e = absurd cc

cond-depth : (b : Bool) (x l : Layout) → cond b (Some x) None ≡ Some l → old_depth x ≡ old_depth l
cond-depth true x l e = let same : x ≡ l = cc in ap old_depth same
cond-depth false x l e = absurd cc

depth-of : (kind : Padding) (ls : List Form) (l : Layout) → layout_of kind ls ≡ Some l → length ls ≡ old_depth l
depth-of BlockKind (g ∷ w ∷ a ∷ b ∷ k ∷ []) l e = block-depth _ _ _ _ l e
depth-of DiagKind (w ∷ r ∷ k ∷ []) l e = cond-depth (is_diag w r k) Diag l e
depth-of RowsKind (r ∷ k ∷ []) l e = cond-depth (is_rows r k) Rows l e
depth-of _ _ l e = absurd cc

pub depth-if : (kind : Padding) (ls : List Form) (o : Option Layout) → o ≡ layout_of kind ls → IfSome o (λ l. length ls ≡ old_depth l)
depth-if kind ls (Some l) e = depth-of kind ls l (sym e)
depth-if kind ls None e = tt

-- the variable that is found is one of those of the terms
pub find-within : (array : List ℕ) (var v n : ℕ) (ts : List Term) → v + length ts ≡ n → is_pick n (find_read array var v ts) ≡ true
find-within array var v n [] e = refl
find-within array var v n (t ∷ ts) e =
    let l : v < n = omega (arith, e) in
    let r : suc v + length ts ≡ n = omega (arith, e) in
    cond_both (is_name t.array array && is_single var t.at) (Some v) (find_read array var (suc v) ts) (λ (o : Option ℕ). is_pick n o ≡ true) (λ _. lt-ltb v n l) (λ _. find-within array var (suc v) n ts r)

-- the item at a place within a list
pub got : {A : Type 0} (xs : List A) (i : ℕ) (x : A) → i < length xs → x ≡ get_or xs i x → slice_get xs i ≡ Some x
got [] i x l e = absurd (omega (arith, l))
got (y ∷ ys) zero x l e = ap Some (sym e)
got (y ∷ ys) (suc i) x l e = got ys i x (omega (arith, l)) e
