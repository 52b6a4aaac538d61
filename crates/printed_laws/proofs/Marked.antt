-- The reads that a form names, where those that it holds name only levels around: so do the reads in their arguments.
use Rattle.std.proofs.Common.{◌≡◌, ◌⊎◌, inl, inr, ℕ, zero, suc, ◌+◌, ◌<◌, List, [], ◌∷◌, ◌++◌, length, drop, refl, sym, ◌∙◌, subst, arith, ℤ, pos, negsuc, nat_eq, Bool, true, false, cond, length-append}
use Rattle.std.specs.Prelude.{slice_get}
use Rattle.std.specs.List.{list_all, list_any, fold, AllByRecursion}
use Rattle.std.proofs.lemmas.Int.{ints}
use Rattle.std.proofs.lemmas.Bool.{and_parts}
use Rattle.nest_tree.specs.Lists.{IsIn}
use Rattle.nest_tree.specs.Loops.{Levels}
use Rattle.scan_forms.specs.declared.affine.Affine.{Affine}
use Rattle.scan_forms.specs.declared.bounds.Bound.{Bound}
use Rattle.scan_forms.specs.declared.reads.Read.{Read}
use Rattle.scan_forms.specs.Numbers.{number_at, are_zero}
use Rattle.loop_scan.specs.declared.sides.Sides.{Sides}
use Rattle.scanning.specs.Named.{named_below, named, arguments, with_new}
use Rattle.scanning.specs.Reads.{if_held}
use Rattle.scanning_laws.specs.Asking.{InnerFirst}
use Rattle.scanning_laws.specs.Naming.{IsInnerOf, IsTable}
use Rattle.scanning_laws.specs.Valued.{only_where, form_before, befores_from}
use Rattle.scanning_laws.proofs.Naming.{names_more}
use Rattle.printed_laws.specs.Opened.{RestsOn}
use Rattle.printed_laws.proofs.Forms.{marked, where_marked}

-- ---- marks along the table
pub front : (bs cs : List Bool) (j : ℕ) → j < length bs → marked j (bs ++ cs) ≡ marked j bs
front [] cs j l = absurd (omega (arith, l))
front (b ∷ bs) cs zero l = refl
front (b ∷ bs) cs (suc j) l = front bs cs j (omega (arith, l))

pub last : (bs : List Bool) (b : Bool) → marked (length bs) (bs ++ b ∷ []) ≡ b
last [] b = refl
last (c ∷ bs) b = last bs b

pub marked_inside : (bs : List Bool) (j : ℕ) → marked j bs ≡ true → j < length bs
marked_inside [] j h = absurd (cc)
marked_inside (b ∷ bs) zero h = omega arith
marked_inside (b ∷ bs) (suc j) h = let l = marked_inside bs j h in omega (arith, l)

kept : (q : ℕ) (table : List Read) (bs : List Bool) (j : ℕ) → j < length bs → marked j (befores_from q bs table) ≡ marked j bs
kept q [] bs j l = refl
kept q (r ∷ more) bs j l =
    let b : Bool = list_all (form_before q bs) r.at in
    kept q more (bs ++ b ∷ []) j (omega (arith, length-append bs (b ∷ []), l)) ∙ front bs (b ∷ []) j l

pub all_at : (P : Affine → Bool) (fs : List Affine) (f : Affine) → list_all P fs ≡ true → IsIn f fs → P f ≡ true
all_at P [] f h m = absurd m
all_at P (g ∷ fs) f h (inl e) = subst (λ (x : Affine). P x ≡ true) (sym e) (and_parts (P g) (list_all P fs) h).0
all_at P (g ∷ fs) f h (inr m) = all_at P fs f (and_parts (P g) (list_all P fs) h).1 m

-- the arguments of a marked read name only levels before, and hold only marked reads
pub arguments_before : (q : ℕ) (table : List Read) (bs : List Bool) (b : ℕ) → marked (length bs + b) (befores_from q bs table) ≡ true → (g : Affine) → IsIn g (arguments (slice_get table b))
    → (are_zero (drop q g.levels) ≡ true) × ((j : ℕ) → (number_at j g.reads ≡ pos 0 → ⊥) → marked j (befores_from q bs table) ≡ true)
arguments_before q [] bs b h g m = absurd m
arguments_before q (r ∷ more) bs zero h g m =
    let x : Bool = list_all (form_before q bs) r.at in
    let longer : length (bs ++ x ∷ []) ≡ length bs + 1 = length-append bs (x ∷ []) in
    let place : length bs + 0 ≡ length bs = omega arith in
    let own : marked (length bs) (befores_from q (bs ++ x ∷ []) more) ≡ x = kept q more (bs ++ x ∷ []) (length bs) (omega (arith, longer)) ∙ last bs x in
    let is : x ≡ true = sym own ∙ subst (λ (i : ℕ). marked i (befores_from q (bs ++ x ∷ []) more) ≡ true) place h in
    let both = and_parts (are_zero (drop q g.levels)) (only_where bs g.reads) (all_at (form_before q bs) r.at g is m) in (
      both.0,
      λ j n. (
          let here : marked j bs ≡ true = where_marked bs g.reads j both.1 n in
          let inside = marked_inside bs j here in
          kept q more (bs ++ x ∷ []) j (omega (arith, longer, inside)) ∙ front bs (x ∷ []) j inside ∙ here),
    )
arguments_before q (r ∷ more) bs (suc b) h g m =
    let x : Bool = list_all (form_before q bs) r.at in
    let place : length bs + suc b ≡ length (bs ++ x ∷ []) + b = omega (arith, length-append bs (x ∷ [])) in
    arguments_before q more (bs ++ x ∷ []) b (subst (λ (i : ℕ). marked i (befores_from q (bs ++ x ∷ []) more) ≡ true) place h) g m

end_in : (ns : List ℕ) (i j : ℕ) → IsIn j (ns ++ i ∷ []) → IsIn j ns ⊎ (j ≡ i)
end_in [] i j (inl e) = inr e
end_in [] i j (inr m) = absurd m
end_in (n ∷ ns) i j (inl e) = inl (inl e)
end_in (n ∷ ns) i j (inr m) = elim (end_in ns i j m) [ inl k ↦ inl (inr k) | inr e ↦ inr e ]

-- ---- what a form names has what all that it holds has, where this goes on to the reads in arguments
module _ (table : List Read) (P : ℕ → Type 0) (closed : (b : ℕ) → P b → (g : Affine) → IsIn g (arguments (slice_get table b)) → (j : ℕ) → (number_at j g.reads ≡ pos 0 → ⊥) → P j) where
  abbrev pub AllHave : List ℕ → Type 0
  AllHave ns = (i : ℕ) → IsIn i ns → P i

  abbrev pub HeldHave : Affine → Type 0
  HeldHave f = (j : ℕ) → (number_at j f.reads ≡ pos 0 → ⊥) → P j

  abbrev NamesHave : ℕ → Type 0
  NamesHave b = (ns : List ℕ) (f : Affine) → AllHave ns → HeldHave f → AllHave (named_below table b ns f)

  new_has : (ns : List ℕ) (i : ℕ) → AllHave ns → P i → AllHave (with_new ns i)
  new_has ns i all one = by_there (list_any (nat_eq i) ns)
    where
      by_there : (b : Bool) → AllHave (cond b ns (ns ++ i ∷ []))
      by_there true = all
      by_there false = λ j m. elim (end_in ns i j m) [ inl k ↦ all j k | inr e ↦ subst P (sym e) one ]

  each_has : (b : ℕ) → NamesHave b → (fs : List Affine) (ns : List ℕ) → AllHave ns → ((g : Affine) → IsIn g fs → HeldHave g) → AllHave (fold (named_below table b) ns fs)
  each_has b one [] ns all h = all
  each_has b one (f ∷ fs) ns all h = each_has b one fs (named_below table b ns f) (one ns f all (h f (inl refl))) (λ g m. h g (inr m))

  read_has : (b : ℕ) → NamesHave b → (ns : List ℕ) → AllHave ns → P b → AllHave (with_new (fold (named_below table b) ns (arguments (slice_get table b))) b)
  read_has b one ns all own =
      new_has (fold (named_below table b) ns (arguments (slice_get table b))) b (each_has b one (arguments (slice_get table b)) ns all (λ g m j n. closed b own g m j n)) own

  by_number : (b : ℕ) → NamesHave b → (ns : List ℕ) (z : ℤ) → AllHave ns → ((z ≡ pos 0 → ⊥) → P b)
      → AllHave (if_held z (λ z ls. with_new (fold (named_below table b) ls (arguments (slice_get table b))) b) ns)
  by_number b one ns (pos zero) all h = all
  by_number b one ns (pos (suc n)) all h = read_has b one ns all (h (λ e. omega (arith, ints, e)))
  by_number b one ns (negsuc n) all h = read_has b one ns all (h (λ e. omega (arith, ints, e)))

  below_have : (b : ℕ) → NamesHave b
  below_have zero ns f all h = all
  below_have (suc b) ns f all h = by_number b (below_have b) (named_below table b ns f) (number_at b f.reads) (below_have b ns f all h) (h b)

  pub named_have : (ns : List ℕ) (f : Affine) → AllHave ns → HeldHave f → AllHave (named table ns f)
  named_have = below_have (length table)

-- reads that name only levels around are so
module _ (q : ℕ) (table : List Read) where
  abbrev IsMarked : ℕ → Type 0
  IsMarked j = marked j (befores_from q [] table) ≡ true

  abbrev pub AreMarked : List ℕ → Type 0
  AreMarked ns = (i : ℕ) → IsIn i ns → IsMarked i

  abbrev pub HoldsMarked : Affine → Type 0
  HoldsMarked f = (j : ℕ) → (number_at j f.reads ≡ pos 0 → ⊥) → IsMarked j

  inner_marked : (b : ℕ) → IsMarked b → (g : Affine) → IsIn g (arguments (slice_get table b)) → (j : ℕ) → (number_at j g.reads ≡ pos 0 → ⊥) → IsMarked j
  inner_marked b own g m j n =
      let place : b ≡ 0 + b = omega arith in
      (arguments_before q table [] b (subst IsMarked place own) g m).1 j n

  pub named_marked : (ns : List ℕ) (f : Affine) → AreMarked ns → HoldsMarked f → AreMarked (named table ns f)
  named_marked = named_have table IsMarked inner_marked

-- what bounds name, one behind the other
module _ (q : ℕ) (table : List Read) (t : IsTable table) where
  abbrev InOrder : List ℕ → Type 0
  InOrder ns = InnerFirst (IsInnerOf table) ns [] × AreMarked q table ns

  abbrev pub BoundsHoldMarked : List Bound → Type 0
  BoundsHoldMarked bs = AllByRecursion (λ b. HoldsMarked q table b.form) bs

  bounds_in_order : (bs : List Bound) (ns : List ℕ) → InOrder ns → BoundsHoldMarked bs → InOrder (fold (λ ms b. named table ms b.form) ns bs)
  bounds_in_order [] ns o h = o
  bounds_in_order (b ∷ bs) ns o h = bounds_in_order bs (named table ns b.form) ((names_more table t ns b.form).2 o.0, named_marked q table ns b.form o.1 h.0) h.1

  pub sides_in_order : (g : Sides → List Bound) (ds : List Sides) (ns : List ℕ) → InOrder ns → AllByRecursion (λ d. BoundsHoldMarked (g d)) ds
      → InOrder (fold (λ ns d. fold (λ ms b. named table ms b.form) ns (g d)) ns ds)
  sides_in_order g [] ns o h = o
  sides_in_order g (d ∷ ds) ns o h = sides_in_order g ds (fold (λ ms b. named table ms b.form) ns (g d)) (bounds_in_order (g d) ns o h.0) h.1

-- reads that name no further level rest only on those in their arguments
module _ (table : List Read) (e : Levels) where
  pub rest_in_order : (is found : List ℕ) → InnerFirst (IsInnerOf table) is found → AreMarked (length e) table is → InnerFirst (RestsOn table e) is found
  rest_in_order [] found h all = tt
  rest_in_order (i ∷ is) found h all = (
    λ j r. elim r [ inl n ↦ h.0 j n | inr p ↦ absurd (let no : true ≡ false = sym (all i (inl refl)) ∙ p.1 in cc) ],
    rest_in_order is (i ∷ found) h.1 (λ j m. all j (inr m)),
  )
