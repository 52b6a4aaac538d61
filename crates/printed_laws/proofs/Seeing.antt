-- Inside loops the variables of the levels have their values, and all else is as outside.
use Rattle.std.proofs.Common.{◌≡◌, inl, inr, ℕ, zero, suc, ◌+◌, ◌<◌, ◌≤◌, List, [], ◌∷◌, ◌++◌, length, refl, sym, ◌∙◌, ap, arith, ℤ, unsigned_abs, Bool, false, slice_index_or, if◌then◌else◌}
use Rattle.std.proofs.lemmas.Bool.{cases_Bool}
use Rattle.c_meaning.specs.Names.{Name, same_name}
use Rattle.c_meaning.specs.Value.{cell_seen}
use Rattle.c_meaning.specs.Listing.{Scene, bind}
use Rattle.c_meaning.proofs.Spots.{name_is, name_self}
use Rattle.nest_tree.specs.Lists.{Pairwise}
use Rattle.nest_tree.specs.Loops.{Levels}
use Rattle.nest_laws.specs.Acts.{three}
use Rattle.nest_laws.specs.Trees.{bind_all}
use Rattle.scan_forms.specs.Numbers.{number_at}
use Rattle.scanning.specs.Written.{level_name}
use Rattle.scanning.specs.Parts.{Around, sizes_of}
use Rattle.scanning_laws.specs.Derived.{names_of}
use Rattle.scanning_laws.specs.Knowing.{KeepsTo}
use Rattle.printed_laws.specs.Seeing.{LoopsSeeLevels}

-- ---- the names of levels, from one on
names_from : ℕ → ℕ → List Name
names_from a zero = []
names_from a (suc n) = level_name a ∷ names_from (suc a) n

names-last : (n a : ℕ) → names_from a (suc n) ≡ names_from a n ++ level_name (a + n) ∷ []
unfolding names_from
names-last zero a = let e : a ≡ a + 0 = omega arith in ap (λ (b : ℕ). level_name b ∷ []) e
names-last (suc n) a =
    let e : suc a + n ≡ a + suc n = omega arith in
    ap (λ (l : List Name). level_name a ∷ l) (names-last n (suc a) ∙ ap (λ (b : ℕ). names_from (suc a) n ++ level_name b ∷ []) e)

names_are : (n : ℕ) → names_of n ≡ names_from 0 n
unfolding names_from
names_are zero = refl
names_are (suc n) =
    let e : n ≡ 0 + n = omega arith in
    ap (λ (l : List Name). l ++ level_name n ∷ []) (names_are n) ∙ ap (λ (b : ℕ). names_from 0 n ++ level_name b ∷ []) e ∙ sym (names-last n 0)

depth_in : Name → ℕ
depth_in (x ∷ y ∷ more) = y
depth_in (x ∷ []) = 0
depth_in [] = 0

levels_apart : (p q : ℕ) → q < p → same_name (level_name p) (level_name q) ≡ false
unfolding depth_in
levels_apart p q h = elim (cases_Bool (same_name (level_name p) (level_name q))) [
  | inl t ↦ (let e : 49 + p ≡ 49 + q = ap depth_in (name_is (level_name p) (level_name q) t) in absurd (omega (arith, e, h)))
  | inr f ↦ f
]

value_past : (n a : ℕ) (e : Levels) (c : Scene) (y : Name) → ((q : ℕ) → a ≤ q → q < a + n → same_name (level_name q) y ≡ false) → ((bind_all (names_from a n) e c).sight).value y ≡ (c.sight).value y
unfolding names_from
value_past zero a e c y h = refl
value_past (suc n) a [] c y h = refl
value_past (suc n) a (v ∷ e) c y h =
    value_past n (suc a) e (bind (level_name a) v c) y (λ q l u. h q (omega (arith, l)) (omega (arith, u)))
    ∙ ap (λ (b : Bool). if b then v else (c.sight).value y) (h a (omega arith) (omega arith))

value_at : (n a : ℕ) (e : Levels) (c : Scene) → length e ≡ n → (q : ℕ) → q < n → ((bind_all (names_from a n) e c).sight).value (level_name (a + q)) ≡ number_at q e
unfolding names_from
value_at zero a e c l q h = absurd (omega (arith, h))
value_at (suc n) a [] c l q h = absurd (omega (arith, l))
value_at (suc n) a (v ∷ e) c l zero h =
    let s : a + 0 ≡ a = omega arith in
    ap (λ (b : ℕ). ((bind_all (names_from (suc a) n) e (bind (level_name a) v c)).sight).value (level_name b)) s
    ∙ value_past n (suc a) e (bind (level_name a) v c) (level_name a) (λ q x u. levels_apart q a (omega (arith, x)))
    ∙ ap (λ (b : Bool). if b then v else (c.sight).value (level_name a)) (name_self (level_name a))
value_at (suc n) a (v ∷ e) c l (suc q) h =
    let s : a + suc q ≡ suc a + q = omega arith in
    ap (λ (b : ℕ). ((bind_all (names_from (suc a) n) e (bind (level_name a) v c)).sight).value (level_name b)) s
    ∙ value_at n (suc a) e (bind (level_name a) v c) (omega (arith, l)) q (omega (arith, h))

cells_same : (xs : List Name) (e : Levels) (c : Scene) (array : Name) (at : List ℤ) → cell_seen (bind_all xs e c).sight array at ≡ cell_seen c.sight array at
cells_same [] e c array at = refl
cells_same (x ∷ xs) [] c array at = refl
cells_same (x ∷ xs) (v ∷ e) c array at = cells_same xs e (bind x v c) array at

sized_at : (a : Around) (e : Levels) → Pairwise KeepsTo a e → (q : ℕ) → q < length e → unsigned_abs (number_at q e) ≤ slice_index_or (sizes_of a) q 0
sized_at [] [] p q h = absurd (omega (arith, h))
sized_at [] (v ∷ e) p q h = absurd p
sized_at (o ∷ a) [] p q h = absurd p
sized_at (o ∷ a) (v ∷ e) p zero h = p.0
sized_at (o ∷ a) (v ∷ e) p (suc q) h = sized_at a e p.1 q (omega (arith, h))

pub loops_see : LoopsSeeLevels
loops_see k i c a e out few long keeps =
    let same = names_are (length a) in
    record {
      few = omega (arith, few, long);
      level = λ q h.
          (let z : q ≡ 0 + q = omega arith in
          ap (λ (l : List Name). ((bind_all l e c).sight).value (level_name q)) same ∙ ap (λ (b : ℕ). ((bind_all (names_from 0 (length a)) e c).sight).value (level_name b)) z
          ∙ value_at (length a) 0 e c long q (omega (arith, h, long)));
      level_sized = λ q h. sized_at a e keeps q h;
      count = out.count;
      param = λ p h.
          (let y = slice_index_or k.head.params p [] in
          ap (λ (l : List Name). ((bind_all l e c).sight).value y) same ∙ value_past (length a) 0 e c y (λ q l u. out.apart p q h (omega (arith, u, few))) ∙ out.param p h);
      param_sized = out.param_sized;
      cell = λ array at v h. (let r = out.cell array at v h in (cells_same (names_of (length a)) e c array (three at) ∙ r.0, r.1));
    }
