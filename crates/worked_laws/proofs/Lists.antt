-- Lists of one and of two, statements of a few rows, and statements that a piece makes.
use Rattle.std.proofs.Common.{◌≡◌, ◌⊎◌, inl, inr, ℕ, zero, suc, ◌+◌, ◌≤◌, List, [], ◌∷◌, length, refl, sym, ◌∙◌, ap, subst, arith, ℤ, pos, ◌+ℤ◌, ◌≤ℤ◌}
use Rattle.std.specs.List.{AllByRecursion}
use Rattle.std.proofs.lemmas.Int.{ints}
use Rattle.int_rows.specs.declared.row.Aff.{Aff}
use Rattle.c_meaning.specs.Ground.{Step}
use Rattle.nest_tree.specs.declared.kernel.Nest.{Nest}
use Rattle.nest_tree.specs.declared.kernel.KernelRow.{KernelRow}
use Rattle.nest_tree.specs.declared.moves.Piece.{Piece}
use Rattle.nest_tree.specs.Lists.{IsIn}
use Rattle.nest_tree.specs.Places.{IsBefore, place, IsInstance, Item, Precedes}
use Rattle.nest_tree.specs.Forms.{coef}
use Rattle.nest_tree.specs.Terms.{Input}
use Rattle.nest_tree.specs.Kernels.{item_at, IsPointOf, IsItemOf, IsKernelList, AreDistinct}
use Rattle.nest_tree.specs.Rewriting.{NamesNoTerm, AreWithin, IsWide, FitsWide, IsRewritten}
use Rattle.nest_tree.specs.Pieces.{IsLike}
use Rattle.nest_laws.specs.Acts.{act}
use Rattle.nest_laws.proofs.Made.{made_nest, rewritten-made}

pub only : {A : Type 0} (x y : A) → IsIn x (y ∷ []) → x ≡ y
only x y (inl e) = e
only x y (inr h) = absurd h

-- one statement is distinct from all others
pub distinct : (n : Nest) → AreDistinct (n ∷ [])
distinct n x y a b e = only x n a ∙ sym (only y n b)

-- a coefficient behind the end
pub past_end : (cs : List ℤ) (w j : ℕ) → length cs ≤ w → coef (w + j) cs ≡ pos 0
past_end [] w j h = refl
past_end (c ∷ cs) zero j h = absurd (omega (arith, h))
past_end (c ∷ cs) (suc w) j h = let s : suc w + j ≡ suc (w + j) = omega arith in ap (λ (k : ℕ). coef k (c ∷ cs)) s ∙ past_end cs w j (omega (arith, h))

-- the forms are short
abbrev pub AreShort : ℕ → List Aff → Type 0
AreShort w fs = AllByRecursion (λ (f : Aff). length f.coefs ≤ w) fs

pub names_none : (w : ℕ) (fs : List Aff) → AreShort w fs → (f : Aff) → IsIn f fs → NamesNoTerm w f
names_none w [] h f a = absurd a
names_none w (g ∷ fs) h f (inl e) = subst (NamesNoTerm w) (sym e) (λ j. past_end g.coefs w j h.0)
names_none w (g ∷ fs) h f (inr a) = names_none w fs h.1 f a

pub short_rows : (w : ℕ) (rows : List KernelRow) → AllByRecursion (λ (r : KernelRow). length ((r.row).form).coefs ≤ w) rows → (r : KernelRow) → IsIn r rows → length ((r.row).form).coefs ≤ w
short_rows w [] h r a = absurd a
short_rows w (s ∷ rows) h r (inl e) = subst (λ (k : KernelRow). length ((k.row).form).coefs ≤ w) (sym e) h.0
short_rows w (s ∷ rows) h r (inr a) = short_rows w rows h.1 r a

pub short_forms : (w : ℕ) (fs : List Aff) → AreShort w fs → AreWithin w fs
short_forms w [] h f a = absurd a
short_forms w (g ∷ fs) h f (inl e) = subst (λ (k : Aff). length k.coefs ≤ w) (sym e) h.0
short_forms w (g ∷ fs) h f (inr a) = short_forms w fs h.1 f a

pub like_itself : (f : Aff) → IsLike f f
like_itself f = record { coefs = λ j. refl; constant = refl }

-- a statement is the one in the new variables where it is the one that replacing makes
pub rewrites : (params : ℕ) (n : Nest) (p : Piece) (new : Nest) → IsWide params n → FitsWide params n p → made_nest params n p ≡ new → IsRewritten params (record { old = n; piece = p; new = new })
rewrites params n p new wide fits e = subst (λ (k : Nest). IsRewritten params (record { old = n; piece = p; new = k })) e (rewritten-made params n p wide fits)

-- a statement in one loop with two points, one behind the other
module _ (i : Input) (n : Nest) (low : ℤ) (places : n.positions ≡ 0 ∷ 0 ∷ []) (first : IsPointOf i n (low ∷ [])) (second : IsPointOf i n ((low +ℤ pos 1) ∷ [])) (within : (v : ℤ) → IsPointOf i n (v ∷ []) → (low ≤ℤ v) × (v ≤ℤ (low +ℤ pos 1))) where
  abbrev item : ℤ → Item Step
  item v = item_at act i n (v ∷ [])

  abbrev two_items : List (Item Step)
  two_items = item low ∷ item (low +ℤ pos 1) ∷ []

  one_or_two : (v : ℤ) → low ≤ℤ v → v ≤ℤ (low +ℤ pos 1) → (v ≡ low) ⊎ (v ≡ low +ℤ pos 1)
  one_or_two v a b = grind (arith, ints)

  in_order : Precedes (item low) (item (low +ℤ pos 1))
  in_order = subst (λ (ps : List ℕ). IsBefore (place ps (low ∷ [])) (place ps ((low +ℤ pos 1) ∷ []))) (sym places) (inr (refl, inl (omega (arith, ints))))

  item_in : (v : ℤ) (x : Item Step) → IsPointOf i n (v ∷ []) → x ≡ item v → IsIn x two_items
  item_in v x p e = elim (one_or_two v (within v p).0 (within v p).1) [ inl f ↦ inl (e ∙ ap item f) | inr f ↦ inr (inl (e ∙ ap item f)) ]

  levels_in : (vs : List ℤ) (x : Item Step) → IsPointOf i n vs → x ≡ item_at act i n vs → IsIn x two_items
  levels_in [] x p e = absurd (subst (λ (ps : List ℕ). IsInstance ps []) places p.instance)
  levels_in (v ∷ []) x p e = item_in v x p e
  levels_in (v ∷ w ∷ vs) x p e = absurd (subst (λ (ps : List ℕ). IsInstance ps (v ∷ w ∷ vs)) places p.instance)

  is_item : (v : ℤ) (x : Item Step) → IsPointOf i n (v ∷ []) → x ≡ item v → IsItemOf act i (n ∷ []) x
  is_item v x p e = record { nest = n; is_in = inl refl; levels = v ∷ []; is_point = p; is = e }

  pub two_points : IsKernelList act i (n ∷ []) two_items
  two_points = record {
    sorted = (λ y a. subst (Precedes (item low)) (sym (only y (item (low +ℤ pos 1)) a)) in_order, (λ y a. absurd a, tt));
    each = λ x a. elim a [ inl e ↦ is_item low x first e | inr b ↦ is_item (low +ℤ pos 1) x second (only x (item (low +ℤ pos 1)) b) ];
    all = λ x h. elim h.is_in [
      | inl e ↦ levels_in h.levels x (subst (λ (k : Nest). IsPointOf i k h.levels) e h.is_point) (h.is ∙ ap (λ (k : Nest). item_at act i k h.levels) e)
      | inr a ↦ absurd a
    ];
  }
