-- Each statement has a rewritten one for each piece that fits: each variable is replaced by its form.
use Rattle.std.proofs.Common.{◌≡◌, inl, inr, ℕ, zero, suc, ◌+◌, ◌≤◌, ◌<◌, List, [], ◌∷◌, ◌++◌, map, length, drop, refl, sym, ◌∙◌, ap, subst, arith, ℤ, pos, ◌*ℤ◌, append_assoc, length-append}
use Rattle.std.proofs.lemmas.Int.{ints}
use lib.IntN.{*ℤ-zero}
use Rattle.int_rows.specs.declared.row.Aff.{Aff}
use Rattle.nest_tree.specs.declared.kernel.Nest.{Nest}
use Rattle.nest_tree.specs.declared.kernel.Term.{Term}
use Rattle.nest_tree.specs.declared.kernel.KernelRow.{KernelRow}
use Rattle.nest_tree.specs.declared.body.Access.{Access}
use Rattle.nest_tree.specs.declared.body.Body.{Body, fold-Body, fold_out-Body, map-Body, out-Body, ind-Body, roll-Body}
use Rattle.nest_tree.specs.declared.body.Body.TheVariants.{Const, At, Plus, Minus, Times, outs-Const, outs-At, outs-Plus, outs-Minus, outs-Times, rolls-Const, rolls-At, rolls-Plus, rolls-Minus, rolls-Times}
use Rattle.nest_tree.specs.declared.body.Body.TheOpen.{Body-F, Const as Const-F, At as At-F, Plus as Plus-F, Minus as Minus-F, Times as Times-F}
use Rattle.nest_tree.specs.declared.moves.Piece.{Piece}
use Rattle.std.specs.Prelude.{None}
use Rattle.nest_tree.specs.Lists.{IsIn, Pairwise}
use Rattle.int_rows.specs.Rows.{dot}
use Rattle.nest_tree.specs.Forms.{coef, combined, replaced, replaced_row, times, zeros, variables}
use Rattle.nest_tree.specs.Systems.{IsRead, here, plus_left, plus_right, minus_left, minus_right, times_left, times_right}
use Rattle.nest_tree.specs.Rewriting.{variables_of, SaysForm, SaysTerm, SaysRow, SaysBody, const, at, plus, minus, times as times_says, IsRewritten, AreWithin, IsWide, FitsWide}
use Rattle.nest_laws.proofs.Lists.{in_append, map-append}
use Rattle.nest_laws.proofs.Forms.{value-replaced}
use Rattle.nest_laws.proofs.Narrow.{coef-added, coef-scaled, coef-zeros, narrow-variables}

-- the coefficient of a variable in a form with replaced variables
pub coef-combined : (x : ℕ) (cs : List ℤ) (fs : List Aff) (n : ℤ) → coef x (combined cs fs n).coefs ≡ dot cs (map (λ f. coef x f.coefs) fs)
coef-combined x [] fs n = refl
coef-combined x (c ∷ cs) [] n = refl
coef-combined x (c ∷ cs) (f ∷ fs) n =
    let a = coef-added x (times c f).coefs (combined cs fs n).coefs in
    let b = coef-scaled x c f.coefs in
    let d = coef-combined x cs fs n in
    omega (arith, ints)

length-drop : (n : ℕ) (cs : List ℤ) (k : ℕ) → length cs ≤ n + k → length (drop n cs) ≤ k
length-drop zero cs k h = omega (arith, h)
length-drop (suc n) [] k h = omega arith
length-drop (suc n) (c ∷ cs) k h = length-drop n cs k (omega (arith, h))

pub coef-drop : (n k : ℕ) (cs : List ℤ) → coef k (drop n cs) ≡ coef (n + k) cs
coef-drop zero k cs = let e : k ≡ 0 + k = omega arith in ap (λ (j : ℕ). coef j cs) e
coef-drop (suc n) k [] = refl
coef-drop (suc n) k (c ∷ cs) = let e : suc (n + k) ≡ suc n + k = omega arith in coef-drop n k cs ∙ ap (λ (j : ℕ). coef j (c ∷ cs)) e

dot-nil : (cs : List ℤ) → dot cs [] ≡ pos 0
dot-nil [] = refl
dot-nil (c ∷ cs) = refl

-- numbers that are 0 in front count for nothing
dot-skip : (F : Aff → ℤ) (fs : List Aff) (cs es : List ℤ) → ((f : Aff) → IsIn f fs → F f ≡ pos 0) → dot cs (map F fs ++ es) ≡ dot (drop (length fs) cs) es
dot-skip F [] cs es h = refl
dot-skip F (f ∷ fs) [] es h = refl
dot-skip F (f ∷ fs) (c ∷ cs) es h =
    let a : c *ℤ F f ≡ pos 0 = ap (λ (x : ℤ). c *ℤ x) (h f (inl refl)) ∙ *ℤ-zero c in
    let b = dot-skip F fs cs es (λ g m. h g (inr m)) in
    omega (arith, ints)

-- numbers that are all 0
dot-none : (F : Aff → ℤ) (fs : List Aff) (cs : List ℤ) → ((f : Aff) → IsIn f fs → F f ≡ pos 0) → dot cs (map F fs) ≡ pos 0
dot-none F [] cs h = dot-nil cs
dot-none F (f ∷ fs) [] h = refl
dot-none F (f ∷ fs) (c ∷ cs) h =
    let a : c *ℤ F f ≡ pos 0 = ap (λ (x : ℤ). c *ℤ x) (h f (inl refl)) ∙ *ℤ-zero c in
    let b = dot-none F fs cs (λ g m. h g (inr m)) in
    omega (arith, ints)

coef-itself : (v : ℕ) → coef v (zeros v (pos 1 ∷ [])) ≡ pos 1
coef-itself zero = refl
coef-itself (suc v) = coef-itself v

coef-earlier : (x v : ℕ) → x < v → coef x (zeros v (pos 1 ∷ [])) ≡ pos 0
coef-earlier x zero h = absurd (omega (arith, h))
coef-earlier zero (suc v) h = refl
coef-earlier (suc x) (suc v) h = coef-earlier x v (omega (arith, h))

later : (x v n : ℕ) → x < v → (f : Aff) → IsIn f (variables v n) → coef x f.coefs ≡ pos 0
later x v zero h f a = absurd a
later x v (suc n) h f (inl e) = subst (λ (g : Aff). coef x g.coefs ≡ pos 0) (sym e) (coef-earlier x v h)
later x v (suc n) h f (inr a) = later x (suc v) n (omega arith) f a

-- each variable picks its own coefficient
dot-picks : (v n j : ℕ) (cs : List ℤ) → length cs ≤ n → dot cs (map (λ f. coef (v + j) f.coefs) (variables v n)) ≡ coef j cs
dot-picks v n j [] h = refl
dot-picks v zero j (c ∷ cs) h = absurd (omega (arith, h))
dot-picks v (suc n) zero (c ∷ cs) h =
    let e : v + 0 ≡ v = omega arith in
    let a : coef (v + 0) (zeros v (pos 1 ∷ [])) ≡ pos 1 = ap (λ (x : ℕ). coef x (zeros v (pos 1 ∷ []))) e ∙ coef-itself v in
    let b : c *ℤ coef (v + 0) (zeros v (pos 1 ∷ [])) ≡ c *ℤ pos 1 = ap (λ (x : ℤ). c *ℤ x) a in
    let d = dot-none (λ f. coef (v + 0) f.coefs) (variables (suc v) n) cs (later (v + 0) (suc v) n (omega arith)) in
    omega (arith, ints)
dot-picks v (suc n) (suc j) (c ∷ cs) h =
    let a : c *ℤ coef (v + suc j) (zeros v (pos 1 ∷ [])) ≡ pos 0 = ap (λ (x : ℤ). c *ℤ x) (coef-zeros v j) ∙ *ℤ-zero c in
    let e : suc v + j ≡ v + suc j = omega arith in
    let d : dot cs (map (λ f. coef (v + suc j) f.coefs) (variables (suc v) n)) ≡ coef j cs = subst (λ (x : ℕ). dot cs (map (λ f. coef x f.coefs) (variables (suc v) n)) ≡ coef j cs) e (dot-picks (suc v) n j cs (omega (arith, h))) in
    omega (arith, ints)

abbrev replaced_body_layer : List Aff → Body-F Body → Body
replaced_body_layer olds (Const-F c) = Const c
replaced_body_layer olds (At-F a) = At (record { array = a.array; at = map (replaced olds) a.at })
replaced_body_layer olds (Plus-F a b) = Plus a b
replaced_body_layer olds (Minus-F a b) = Minus a b
replaced_body_layer olds (Times-F a b) = Times a b

pub replaced_body : List Aff → Body → Body
replaced_body olds = fold-Body Body (replaced_body_layer olds)

pub body_at : (olds : List Aff) (b : Body) (d : Body-F Body) → out-Body b ≡ d → replaced_body olds b ≡ replaced_body_layer olds (map-Body Body Body (replaced_body olds) d)
unfolding replaced_body
body_at olds b d h = fold_out-Body Body (replaced_body_layer olds) b ∙ ap (λ d. replaced_body_layer olds (map-Body Body Body (replaced_body olds) d)) h

-- a right side with replaced variables, where each subscript with replaced variables says what the old one does
module _ (R : Aff → Aff → Type 0) (olds : List Aff) where
  abbrev Says : Body → Type 0
  Says b = ((a : Access) → IsRead a b → Pairwise R a.at (map (replaced olds) a.at)) → SaysBody R b (replaced_body olds b)

  says_layer : {A : Type 0} (f : A → Body) (g : (a : A) → Says (f a)) (y : Body-F A) → Says (roll-Body (map-Body A Body f y))
  says_layer f g (Const-F c) = subst Says (sym (rolls-Const c)) (λ h. subst (SaysBody R (Const c)) (sym (body_at olds (Const c) _ (outs-Const c))) (const c))
  says_layer f g (At-F a) = subst Says (sym (rolls-At a)) (λ h. subst (SaysBody R (At a)) (sym (body_at olds (At a) _ (outs-At a))) (at a _ (record { array = refl; at = h a here })))
  says_layer f g (Plus-F a b) =
      subst Says (sym (rolls-Plus (f a) (f b)))
      (λ h. subst (SaysBody R (Plus (f a) (f b))) (sym (body_at olds (Plus (f a) (f b)) _ (outs-Plus (f a) (f b)))) (plus (f a) (f b) _ _ (g a (λ x r. h x (plus_left (f a) (f b) r))) (g b (λ x r. h x (plus_right (f a) (f b) r)))))
  says_layer f g (Minus-F a b) =
      subst Says (sym (rolls-Minus (f a) (f b)))
      (λ h. subst (SaysBody R (Minus (f a) (f b))) (sym (body_at olds (Minus (f a) (f b)) _ (outs-Minus (f a) (f b)))) (minus (f a) (f b) _ _ (g a (λ x r. h x (minus_left (f a) (f b) r))) (g b (λ x r. h x (minus_right (f a) (f b) r)))))
  says_layer f g (Times-F a b) =
      subst Says (sym (rolls-Times (f a) (f b)))
      (λ h. subst (SaysBody R (Times (f a) (f b))) (sym (body_at olds (Times (f a) (f b)) _ (outs-Times (f a) (f b)))) (times_says (f a) (f b) _ _ (g a (λ x r. h x (times_left (f a) (f b) r))) (g b (λ x r. h x (times_right (f a) (f b) r)))))

  says_body : (b : Body) → Says b
  says_body = ind-Body Says (λ x y e. subst (λ d. Says (roll-Body d)) e (says_layer (λ e. e.0) (λ e. e.1) y))

-- the statement with replaced variables; the levels for which its rows were made don't matter here
abbrev pub made_nest : ℕ → Nest → Piece → Nest
made_nest params n p = record {
  levels = p.levels;
  positions = p.positions;
  terms = map (λ t. record { array = t.array; at = map (replaced (variables_of params n p)) t.at }) n.terms;
  rows = map (λ r. record { row = replaced_row (variables_of params n p) r.row; own = r.own }) n.rows ++ p.rows;
  target = record { array = (n.target).array; at = map (replaced (variables_of params n p)) (n.target).at };
  how = n.how;
  value = replaced_body (variables_of params n p) n.value;
  whole = None;
}

module _ (params : ℕ) (n : Nest) (p : Piece) (wide : IsWide params n) (fits : FitsWide params n p) where
  -- the coefficient of a term stays
  same_coef : (f : Aff) → length f.coefs ≤ params + length n.levels + length n.terms → (j : ℕ) → coef (params + length p.levels + j) (replaced (variables_of params n p) f).coefs ≡ coef (params + length n.levels + j) f.coefs
  same_coef f h j =
      let w : ℕ = params + length p.levels in
      let F : Aff → ℤ = λ g. coef (w + j) g.coefs in
      let front : List Aff = variables 0 params ++ p.old in
      let terms : List Aff = variables w (length n.terms) in
      let none : (g : Aff) → IsIn g front → F g ≡ pos 0 = λ g a. elim (in_append g (variables 0 params) p.old a) [ inl b ↦ narrow-variables w 0 params (omega arith) g b j | inr b ↦ fits.no_terms g b j ] in
      let long : length front ≡ params + length n.levels = length-append (variables 0 params) p.old ∙ ap (λ (k : ℕ). k + length p.old) (variables-length 0 params) ∙ ap (λ (k : ℕ). params + k) fits.forms in
      coef-combined (w + j) f.coefs (variables_of params n p) f.constant
      ∙ ap (λ (es : List ℤ). dot f.coefs es) (map-append F (variables 0 params) (p.old ++ terms) ∙ ap (λ (es : List ℤ). map F (variables 0 params) ++ es) (map-append F p.old terms) ∙ sym (append_assoc (map F (variables 0 params)) (map F p.old) (map F terms)) ∙ ap (λ (es : List ℤ). es ++ map F terms) (sym (map-append F (variables 0 params) p.old)))
      ∙ dot-skip F front f.coefs (map F terms) none
      ∙ ap (λ (k : ℕ). dot (drop k f.coefs) (map F terms)) long
      ∙ dot-picks w (length n.terms) j (drop (params + length n.levels) f.coefs) (length-drop (params + length n.levels) f.coefs (length n.terms) h)
      ∙ coef-drop (params + length n.levels) j f.coefs
    where
      variables-length : (k c : ℕ) → length (variables k c) ≡ c
      variables-length k zero = refl
      variables-length k (suc c) = ap (λ (x : ℕ). suc x) (variables-length (suc k) c)

  says_form : (f : Aff) → length f.coefs ≤ params + length n.levels + length n.terms → SaysForm (variables_of params n p) (params + length n.levels) (params + length p.levels) f (replaced (variables_of params n p) f)
  says_form f h = record {
    same_value = λ q. value-replaced q (variables_of params n p) f;
    no_more = λ j a e. a (same_coef f h j ∙ e);
    no_fewer = λ j a e. a (sym (same_coef f h j) ∙ e);
  }

  says_forms : (fs : List Aff) → AreWithin (params + length n.levels + length n.terms) fs → Pairwise (SaysForm (variables_of params n p) (params + length n.levels) (params + length p.levels)) fs (map (replaced (variables_of params n p)) fs)
  says_forms [] h = tt
  says_forms (f ∷ fs) h = (says_form f (h f (inl refl)), says_forms fs (λ g a. h g (inr a)))

  says_terms : (ts : List Term) → ((t : Term) → IsIn t ts → AreWithin (params + length n.levels + length n.terms) t.at) → Pairwise (SaysTerm (variables_of params n p) (params + length n.levels) (params + length p.levels)) ts (map (λ t. record { array = t.array; at = map (replaced (variables_of params n p)) t.at }) ts)
  says_terms [] h = tt
  says_terms (t ∷ ts) h = (record { array = refl; at = says_forms t.at (h t (inl refl)) }, says_terms ts (λ u a. h u (inr a)))

  says_rows : (rs : List KernelRow) → ((r : KernelRow) → IsIn r rs → length ((r.row).form).coefs ≤ params + length n.levels + length n.terms) → Pairwise (SaysRow (variables_of params n p) (params + length n.levels) (params + length p.levels)) rs (map (λ r. record { row = replaced_row (variables_of params n p) r.row; own = r.own }) rs)
  says_rows [] h = tt
  says_rows (r ∷ rs) h = (record { equal = refl; form = says_form (r.row).form (h r (inl refl)) }, says_rows rs (λ s a. h s (inr a)))

  pub rewritten-made : IsRewritten params (record { old = n; piece = p; new = made_nest params n p })
  rewritten-made =
      record {
        old_shape = wide.shape;
        new_shape = fits.shape;
        forms = fits.forms;
        no_terms = fits.no_terms;
        levels = refl;
        positions = refl;
        terms = says_terms n.terms wide.terms;
        target = record { array = refl; at = says_forms (n.target).at wide.target };
        how = refl;
        body = says_body (SaysForm (variables_of params n p) (params + length n.levels) (params + length p.levels)) (variables_of params n p) n.value (λ a r. says_forms a.at (wide.reads a r));
        kept = map (λ r. record { row = replaced_row (variables_of params n p) r.row; own = r.own }) n.rows;
        says = says_rows n.rows wide.rows;
        rows = refl;
      }

  pub made-rewritten : (new : Nest) × IsRewritten params (record { old = n; piece = p; new = new })
  made-rewritten = (made_nest params n p, rewritten-made)
