-- Each read of a table is printed as a cell with the read's value, where it is found.
use Rattle.std.proofs.Common.{◌≡◌, ℕ, zero, suc, ◌≤◌, ◌<◌, ◌^◌, List, [], ◌∷◌, ◌++◌, map, length, drop, refl, sym, ◌∙◌, ap, subst, arith, ℤ, pos, Bool, true, false, cond, append_assoc, append-nil}
use Rattle.std.specs.Prelude.{Option, Some, None, Result, Ok, Err, nat_le, slice_get, is_some, ◌&&◌}
use Rattle.std.specs.List.{list_all}
use Rattle.std.proofs.lemmas.Bool.{and_parts}
use Rattle.std.proofs.lemmas.Bool.Decides.{nat_tests}
use Rattle.c_tree.specs.declared.index.Index.{Index}
use Rattle.c_tree.specs.declared.index.Cell.{Cell}
use Rattle.c_tree.specs.declared.index.Index.TheVariants.{Const, At}
use Rattle.c_meaning.specs.Names.{Name}
use Rattle.c_meaning.specs.Weighed.{greatest}
use Rattle.c_meaning.specs.Value.{Sight}
use Rattle.nest_core.specs.Making.{after, before, each_made}
use Rattle.nest_tree.specs.declared.kernel.Kernel.{Kernel}
use Rattle.nest_tree.specs.Lists.{Pairwise}
use Rattle.nest_tree.specs.Loops.{Levels}
use Rattle.nest_tree.specs.Terms.{Input, or_zero}
use Rattle.nest_laws.specs.Weights.{const, one, two, three as three_at}
use Rattle.print_laws.specs.Printed.{IsSized}
use Rattle.scan_forms.specs.declared.affine.Affine.{Affine}
use Rattle.scan_forms.specs.declared.reads.Read.{Read}
use Rattle.scan_forms.specs.declared.fault.ScanFault.{ScanFault}
use Rattle.scan_forms.specs.declared.fault.ScanFault.TheVariants.{Size}
use Rattle.scan_forms.specs.Numbers.{number_at, are_zero}
use Rattle.scan_forms.specs.Sums.{judged_size}
use Rattle.scanning.specs.Sizes.{Sizes, size_there, cell_size}
use Rattle.scanning.specs.Written.{size_of, printed_sum, printed_by, subscripts_of, cell_by, cells_from, form_printed}
use Rattle.scanning_laws.specs.Valued.{form_value, values_from, only_where, founds_from, form_before, befores_from}
use Rattle.printed_laws.specs.Printed.{AreDistinct, Sees, seen_sizes, CanBeRead}
use Rattle.printed_laws.proofs.Parts.{sized-more, ok_same}
use Rattle.scanning_laws.proofs.Derived.{came}
use Rattle.printed_laws.proofs.Forms.{marked, where_marked, AreHeld, sum_is}

-- ---- lists that are made in order
pub record Both {A E : Type 0} (r : Result A E) (rs : Result (List A) E) (xs : List A) : Type 0 where
  pub first : A
  pub others : List A
  pub is : r ≡ Ok first
  pub are : rs ≡ Ok others
  pub all : first ∷ others ≡ xs

pub both : {A E : Type 0} (r : Result A E) (rs : Result (List A) E) (xs : List A) → before r rs ≡ Ok xs → Both r rs xs
both (Ok x) (Ok ys) xs h = record { first = x; others = ys; is = refl; are = refl; all = ok_same (x ∷ ys) xs h }
both (Ok x) (Err e) xs h = cc
both (Err e) rs xs h = cc

-- ---- a small size
size_small : {A : Type 0} (st n : ℕ) (y z : A) → after (judged_size st n) (λ u. (let r : Result A ScanFault = Ok y in r)) ≡ Ok z → (y ≡ z) × (n ≤ greatest)
size_small {A} st n y z h = passed (nat_le n (2 ^ 62)) (λ e. small n e) h
  where
    small : (n : ℕ) → nat_le n (2 ^ 62) ≡ true → n ≤ greatest
    small n e = grind (arith, nat_tests, e)

    passed : (b : Bool) → (b ≡ true → n ≤ greatest) → after (cond b (Ok tt) (let r : Result (Unit {0}) ScanFault = Err (Size st) in r)) (λ u. (let r : Result A ScanFault = Ok y in r)) ≡ Ok z → (y ≡ z) × (n ≤ greatest)
    passed true k h = (ok_same y z h, k refl)
    passed false k h = cc

-- ---- lists along the table
get-front : {A : Type 0} (xs ys : List A) (i : ℕ) (x : A) → slice_get xs i ≡ Some x → slice_get (xs ++ ys) i ≡ Some x
get-front [] ys i x h = cc
get-front (y ∷ xs) ys zero x h = h
get-front (y ∷ xs) ys (suc i) x h = get-front xs ys i x h

module _ (k : Kernel) (table : List Read) (order : List ℕ) (sizes : Sizes) (n : ℕ) (s : Sight) (i : Input) (e : Levels) (w : Sees k i sizes e s) (d : AreDistinct order) where
  abbrev pub Sized : ℕ → Index → ℤ → Type 0
  Sized m x v = IsSized (seen_sizes k s) s m x v

  -- a read that is marked twice, as found and as one of levels before, is printed as a cell with its value
  abbrev IsPrinted : Result Cell ScanFault → ℤ → Bool → Bool → Read → Type 0
  IsPrinted c v f b r = (x : Cell) → c ≡ Ok x → f ≡ true → b ≡ true → Sized (cell_size k.made r.array) (At x) v

  pub data Ready : List (Result Cell ScanFault) → List ℤ → List Bool → List Bool → List Read → Type 0 where
    none : Ready [] [] [] [] []
    more : (c : Result Cell ScanFault) (v : ℤ) (f b : Bool) (r : Read) (cs : List (Result Cell ScanFault)) (vs : List ℤ) (fs bs : List Bool) (rs : List Read)
        → IsPrinted c v f b r → Ready cs vs fs bs rs → Ready (c ∷ cs) (v ∷ vs) (f ∷ fs) (b ∷ bs) (r ∷ rs)

  ready-end : (c : Result Cell ScanFault) (v : ℤ) (f b : Bool) (r : Read) → IsPrinted c v f b r → (cs : List (Result Cell ScanFault)) (vs : List ℤ) (fs bs : List Bool) (rs : List Read)
      → Ready cs vs fs bs rs → Ready (cs ++ c ∷ []) (vs ++ v ∷ []) (fs ++ f ∷ []) (bs ++ b ∷ []) (rs ++ r ∷ [])
  ready-end c v f b r p _ _ _ _ _ none = more c v f b r [] [] [] [] [] p none
  ready-end c v f b r p _ _ _ _ _ (more c1 v1 f1 b1 r1 cs vs fs bs rs q h) = more c1 v1 f1 b1 r1 _ _ _ _ _ q (ready-end c v f b r p cs vs fs bs rs h)

  ready-long : (cs : List (Result Cell ScanFault)) (vs : List ℤ) (fs bs : List Bool) (rs : List Read) → Ready cs vs fs bs rs → length vs ≡ length cs
  ready-long _ _ _ _ _ none = refl
  ready-long _ _ _ _ _ (more c v f b r cs vs fs bs rs q h) = ap suc (ready-long cs vs fs bs rs h)

  record IsThere (cs : List (Result Cell ScanFault)) (rs : List Read) (j : ℕ) (v : ℤ) : Type 0 where
    cell : Result Cell ScanFault
    read : Read
    is : slice_get cs j ≡ Some cell
    of : slice_get rs j ≡ Some read
    inside : j < length cs
    printed : IsPrinted cell v true true read

  there : (cs : List (Result Cell ScanFault)) (vs : List ℤ) (fs bs : List Bool) (rs : List Read) → Ready cs vs fs bs rs → (j : ℕ) → marked j fs ≡ true → marked j bs ≡ true → IsThere cs rs j (number_at j vs)
  there _ _ _ _ _ none j f b = cc
  there _ _ _ _ _ (more c v f1 b1 r cs vs fs bs rs q h) zero f b = record {
    cell = c;
    read = r;
    is = refl;
    of = refl;
    inside = omega arith;
    printed = λ x is g g2. q x is f b;
  }
  there _ _ _ _ _ (more c v f1 b1 r cs vs fs bs rs q h) (suc j) f b =
      let t = there cs vs fs bs rs h j f b in
      let l = t.inside in
      record { cell = t.cell; read = t.read; is = t.is; of = t.of; inside = omega (arith, l); printed = t.printed }

  -- ---- a form, by the reads before
  module _ (cs : List (Result Cell ScanFault)) (vs : List ℤ) (fs bs : List Bool) (rs rest : List Read) (whole : table ≡ rs ++ rest) (ready : Ready cs vs fs bs rs) where
    held : (f : Affine) → only_where fs f.reads ≡ true → only_where bs f.reads ≡ true → AreHeld k table order sizes n s i e w cs vs f
    held f p q j other =
        let t = there cs vs fs bs rs ready j (where_marked fs f.reads j p other) (where_marked bs f.reads j q other) in
        let g : slice_get table j ≡ Some t.read = ap (λ (l : List Read). slice_get l j) whole ∙ get-front rs rest j t.read t.of in
        (t.cell, t.is, t.inside, λ x is. subst (λ (m : ℕ). Sized m (At x) (number_at j vs)) (ap (size_there k.made) (sym g)) (t.printed x is refl refl))

    form_is : (f : Affine) (x : Index) → only_where fs f.reads ≡ true → form_before (length e) bs f ≡ true → printed_by k table order sizes n cs f ≡ Ok x
        → Sized (size_of k table order sizes n f) x (form_value i e vs f) × (size_of k table order sizes n f ≤ greatest)
    form_is f x p q h =
        let b = and_parts (are_zero (drop (length e) f.levels)) (only_where bs f.reads) q in
        let c = came (printed_sum k table order sizes n cs f) (λ x. after (judged_size n (size_of k table order sizes n f)) (λ u. (let r : Result Index ScanFault = Ok x in r))) x h in
        let g = size_small n (size_of k table order sizes n f) c.value x c.then in (
          subst (λ (y : Index). Sized (size_of k table order sizes n f) y (form_value i e vs f)) g.0
              (sum_is k table order sizes n s i e w cs vs f c.value d (ready-long cs vs fs bs rs ready) (held f p b.1) b.0 c.is),
          g.1,
        )

    pub forms_are : (at : List Affine) (xs : List Index) → list_all (λ f. only_where fs f.reads) at ≡ true → list_all (form_before (length e) bs) at ≡ true → each_made (printed_by k table order sizes n cs) at ≡ Ok xs
        → Pairwise (Sized greatest) xs (map (form_value i e vs) at)
    forms_are [] xs p q h = subst (λ (l : List Index). Pairwise (Sized greatest) l []) (ok_same [] xs h) tt
    forms_are (f ∷ at) xs p q h =
        let a = and_parts (only_where fs f.reads) (list_all (λ f. only_where fs f.reads) at) p in
        let b = and_parts (form_before (length e) bs f) (list_all (form_before (length e) bs) at) q in
        let c = both (printed_by k table order sizes n cs f) (each_made (printed_by k table order sizes n cs) at) xs h in
        let g = form_is f c.first a.0 b.0 c.is in
        subst (λ (l : List Index). Pairwise (Sized greatest) l (form_value i e vs f ∷ map (form_value i e vs) at)) c.all
        (sized-more (seen_sizes k s) s c.first (form_value i e vs f) (form_value i e vs f) (size_of k table order sizes n f) greatest refl g.1 g.0, forms_are at c.others a.1 b.1 c.are)

  -- ---- a cell of an index array
  pub cell_is : (array : Name) (xs : List Index) (vs : List ℤ) (v : ℤ) → Pairwise (Sized greatest) xs vs → i.cells array vs ≡ Some v → Sized (cell_size k.made array) (At (record { array = array; at = subscripts_of k table order sizes n xs })) v
  cell_is array [] [] v p h =
      let c = w.cell array [] v h in
      (cell_size k.made array, one array (Const (pos 0)) (pos 0) v 0 (const (pos 0)) (omega arith) c.0 c.1, omega arith)
  cell_is array [] (u ∷ us) v p h = absurd p
  cell_is array (x ∷ xs) [] v p h = absurd p
  cell_is array (x ∷ []) (u ∷ []) v p h =
      let c = w.cell array (u ∷ []) v h in
      (cell_size k.made array, one array x u v p.0.0 p.0.1 p.0.2 c.0 c.1, omega arith)
  cell_is array (x ∷ []) (u ∷ t ∷ us) v p h = absurd p.1
  cell_is array (x ∷ y ∷ xs) (u ∷ []) v p h = absurd p.1
  cell_is array (x ∷ y ∷ []) (u ∷ t ∷ []) v p h =
      let c = w.cell array (u ∷ t ∷ []) v h in
      (cell_size k.made array, two array x y u t v p.0.0 p.1.0.0 p.0.1 p.0.2 p.1.0.1 p.1.0.2 c.0 c.1, omega arith)
  cell_is array (x ∷ y ∷ []) (u ∷ t ∷ r ∷ us) v p h = absurd p.1.1
  cell_is array (x ∷ y ∷ z ∷ xs) (u ∷ t ∷ []) v p h = absurd p.1.1
  cell_is array (x ∷ y ∷ z ∷ xs) (u ∷ t ∷ r ∷ us) v p h =
      let c = w.cell array (u ∷ t ∷ r ∷ us) v h in
      let a = p.0 in
      let b = p.1.0 in
      let g = p.1.1.0 in
      (cell_size k.made array, three_at array x y z u t r v a.0 b.0 g.0 a.1 a.2 b.1 b.2 g.1 g.2 c.0 c.1, omega arith)

  found_is : (o : Option ℤ) → is_some o ≡ true → o ≡ Some (or_zero o)
  found_is (Some v) h = refl
  found_is None h = cc

  -- ---- along the table
  ready_all : (rest rs : List Read) (cs : List (Result Cell ScanFault)) (vs : List ℤ) (fs bs : List Bool) → table ≡ rs ++ rest → Ready cs vs fs bs rs
      → Ready (cells_from k table order sizes n cs rest) (values_from i e vs rest) (founds_from i e vs fs rest) (befores_from (length e) bs rest) table
  ready_all [] rs cs vs fs bs whole ready = subst (Ready cs vs fs bs) (sym (whole ∙ append-nil rs)) ready
  ready_all (r ∷ rest) rs cs vs fs bs whole ready =
      let at = map (form_value i e vs) r.at in
      let v = or_zero (i.cells r.array at) in
      let f = is_some (i.cells r.array at) && list_all (λ f. only_where fs f.reads) r.at in
      let b = list_all (form_before (length e) bs) r.at in
      ready_all rest (rs ++ r ∷ []) (cs ++ cell_by k table order sizes n cs r.array r.at ∷ []) (vs ++ v ∷ []) (fs ++ f ∷ []) (bs ++ b ∷ []) (whole ∙ sym (append_assoc rs (r ∷ []) rest))
      (ready-end (cell_by k table order sizes n cs r.array r.at) v f b r (λ x h p q.
      let c = came (each_made (printed_by k table order sizes n cs) r.at) (λ es. (let o : Result Cell ScanFault = Ok (record { array = r.array; at = subscripts_of k table order sizes n es }) in o)) x h in
      let a = and_parts (is_some (i.cells r.array at)) (list_all (λ f. only_where fs f.reads) r.at) p in
      subst (λ (y : Cell). Sized (cell_size k.made r.array) (At y) v) (ok_same (record { array = r.array; at = subscripts_of k table order sizes n c.value }) x c.then)
      (cell_is r.array c.value at v (forms_are cs vs fs bs rs (r ∷ rest) whole ready r.at c.value a.1 q c.is) (found_is (i.cells r.array at) a.0)))
      cs vs fs bs rs ready)

  pub ready_table : Ready (cells_from k table order sizes n [] table) (values_from i e [] table) (founds_from i e [] [] table) (befores_from (length e) [] table) table
  ready_table = ready_all table [] [] [] [] [] refl none

  -- a form that can be read
  pub printed_form : (f : Affine) (x : Index) → CanBeRead i table e f → form_printed k table order sizes n f ≡ Ok x
      → Sized (size_of k table order sizes n f) x (form_value i e (values_from i e [] table) f) × (size_of k table order sizes n f ≤ greatest)
  printed_form f x c h =
      form_is (cells_from k table order sizes n [] table) (values_from i e [] table) (founds_from i e [] [] table) (befores_from (length e) [] table) table [] (sym (append-nil table)) ready_table
      f x c.found c.before h
