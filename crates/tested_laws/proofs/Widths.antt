-- The forms of a shaped statement have one coefficient for each parameter, level and term.
use Rattle.std.proofs.Common.{◌≡◌, inl, inr, ℕ, Bool, true, ◌&&◌, List, [], ◌∷◌, ◌++◌, map, length, refl, sym, ◌∙◌, ap, subst}
use Rattle.std.specs.List.{list_all}
use Rattle.std.proofs.lemmas.Bool.{eqb-true}
use Rattle.std.proofs.lemmas.List.Folds.{list_all-append}
use Rattle.c_tree.specs.declared.program.Program.{Program}
use Rattle.int_rows.specs.declared.row.Aff.{Aff}
use Rattle.int_rows.specs.declared.row.Row.{Row}
use Rattle.nest_tree.specs.declared.body.Access.{Access}
use Rattle.nest_tree.specs.declared.body.Body.{Body}
use Rattle.nest_tree.specs.declared.body.Body.TheVariants.{Const, At, Plus, Minus, Times, outs-Const, outs-At, outs-Plus, outs-Minus, outs-Times}
use Rattle.nest_tree.specs.declared.kernel.Nest.{Nest}
use Rattle.nest_tree.specs.declared.kernel.Term.{Term}
use Rattle.nest_tree.specs.Lists.{IsIn}
use Rattle.nest_core.specs.Forms.{has_vars}
use Rattle.nest_core.specs.Shapes.{vars_of, is_row_over, is_term_over, is_access_over, is_body_over, IsShapedNest}
use Rattle.nest_core.proofs.Bodies.{over-At, over-Plus, over-Minus, over-Times}
use Rattle.nest_core.proofs.BodiesKept.{induct}
use Rattle.nest_core.proofs.Kept.{and}
use Rattle.nest_laws.proofs.Lists.{in_append}
use Rattle.nest_systems.specs.Cells.{reads, cells, subscripts}
use Rattle.nest_systems.specs.Statements.{plain_row}
use Rattle.pair_laws.proofs.Levels.{reads_at}

pub all-in : {A : Type 0} (p : A → Bool) (xs : List A) (x : A) → list_all p xs ≡ true → IsIn x xs → p x ≡ true
all-in p [] x h a = absurd a
all-in p (y ∷ ys) x h (inl e) = ap p e ∙ (and (p y) (list_all p ys) h).0
all-in p (y ∷ ys) x h (inr a) = all-in p ys x (and (p y) (list_all p ys) h).1 a

pub of-map : {A B : Type 0} (f : A → B) (xs : List A) (y : B) → IsIn y (map f xs) → (x : A) × IsIn x xs × (y ≡ f x)
of-map f [] y a = absurd a
of-map f (x ∷ xs) y (inl e) = (x, inl refl, e)
of-map f (x ∷ xs) y (inr a) = let r = of-map f xs y a in (r.0, inr r.1, r.2)

pub form-width : (w : ℕ) (fs : List Aff) → list_all (has_vars w) fs ≡ true → (f : Aff) → IsIn f fs → length f.coefs ≡ w
form-width w fs h f a = eqb-true (length f.coefs) w (all-in (has_vars w) fs f h a)

-- ---- the cells of a right side
module _ (w : ℕ) where
  abbrev ReadsOver : Body → Type 0
  ReadsOver b = is_body_over w b ≡ true → list_all (is_access_over w) (reads b) ≡ true

  all-both : (xs ys : List Access) → list_all (is_access_over w) xs ≡ true → list_all (is_access_over w) ys ≡ true → list_all (is_access_over w) (xs ++ ys) ≡ true
  all-both xs ys a b = rw (list_all-append (is_access_over w) xs ys, a, b) refl

  reads-over : (b : Body) → ReadsOver b
  reads-over = induct ReadsOver (record {
    const = λ c h. subst (λ (l : List Access). list_all (is_access_over w) l ≡ true) (sym (reads_at (Const c) _ (outs-Const c))) refl;
    cell = λ a h. subst (λ (l : List Access). list_all (is_access_over w) l ≡ true) (sym (reads_at (At a) _ (outs-At a))) (ap (λ (b : Bool). b && true) (over-At w (At a) a refl h));
    plus = λ x y p q h. (let o = over-Plus w (Plus x y) x y refl h in subst (λ (l : List Access). list_all (is_access_over w) l ≡ true) (sym (reads_at (Plus x y) _ (outs-Plus x y))) (all-both (reads x) (reads y) (p o.0) (q o.1)));
    minus = λ x y p q h. (let o = over-Minus w (Minus x y) x y refl h in subst (λ (l : List Access). list_all (is_access_over w) l ≡ true) (sym (reads_at (Minus x y) _ (outs-Minus x y))) (all-both (reads x) (reads y) (p o.0) (q o.1)));
    times = λ x y p q h. (let o = over-Times w (Times x y) x y refl h in subst (λ (l : List Access). list_all (is_access_over w) l ≡ true) (sym (reads_at (Times x y) _ (outs-Times x y))) (all-both (reads x) (reads y) (p o.0) (q o.1)));
  })

  subscripts-width : (xs : List Access) → list_all (is_access_over w) xs ≡ true → (f : Aff) → IsIn f (subscripts xs) → length f.coefs ≡ w
  subscripts-width [] h f a = absurd a
  subscripts-width (x ∷ xs) h f a =
      let b = and (is_access_over w x) (list_all (is_access_over w) xs) h in
      elim (in_append f x.at (subscripts xs) a) [
        | inl c ↦ form-width w x.at (and (list_all (has_vars w) x.at) _ b.0).0 f c
        | inr c ↦ subscripts-width xs b.1 f c
      ]

-- ---- a shaped statement
module _ (head : Program) (n : Nest) (s : IsShapedNest head n) where
  abbrev width : ℕ
  width = vars_of (length head.params) n

  pub row-width : (r : Row) → IsIn r (map plain_row n.rows) → length r.form.coefs ≡ width
  row-width r a =
      let o = of-map plain_row n.rows r a in
      let h = all-in (is_row_over width (length n.levels)) n.rows o.0 s.rows o.1 in
      ap (λ (x : Row). length x.form.coefs) o.2 ∙ eqb-true (length ((o.0).row).form.coefs) width (and (has_vars width ((o.0).row).form) _ h).0

  pub argument-width : (t : Term) (f : Aff) → IsIn t n.terms → IsIn f t.at → length f.coefs ≡ width
  argument-width t f a b = form-width width t.at (and (list_all (has_vars width) t.at) _ (all-in (is_term_over width) n.terms t s.terms a)).0 f b

  pub subscript-width : (f : Aff) → IsIn f (subscripts (cells n)) → length f.coefs ≡ width
  unfolding cells
  subscript-width f a = subscripts-width width (n.target ∷ reads n.value) (both (is_access_over width n.target) (list_all (is_access_over width) (reads n.value)) s.target (reads-over width n.value s.value)) f a
    where
      both : (x y : Bool) → x ≡ true → y ≡ true → (x && y) ≡ true
      both x y h k = rw (h, k) refl
