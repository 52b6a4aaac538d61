-- A rewritten statement is the old one at the level values that the piece's forms give.
use Rattle.std.proofs.Common.{◌≡◌, inl, inr, ℕ, suc, ◌+◌, List, [], ◌∷◌, ◌++◌, map, length, refl, sym, ◌∙◌, ap, subst, subst₂, arith, ℤ, pos, ◌+ℤ◌, Bool, zero, append_assoc, append-nil, length-append}
use Rattle.int_rows.specs.declared.row.Aff.{Aff}
use Rattle.nest_tree.specs.declared.kernel.Term.{Term}
use Rattle.nest_tree.specs.declared.kernel.KernelRow.{KernelRow}
use Rattle.nest_tree.specs.Lists.{IsIn, Pairwise}
use Rattle.nest_tree.specs.Places.{IsInstance}
use Rattle.int_rows.specs.Rows.{Holds}
use Rattle.nest_tree.specs.Forms.{value, Names, variables}
use Rattle.nest_tree.specs.Terms.{Input, or_zero, reading, rounds, term_values, IsFound, found}
use Rattle.nest_tree.specs.Kernels.{Acting, point, IsMet, IsPointOf}
use Rattle.nest_tree.specs.Moving.{Move, StandsFor}
use Rattle.nest_tree.specs.Rewriting.{old_variables, SaysForm, SaysTerm, SaysRow, NamesNoTerm, IsRewritten}
use Rattle.nest_laws.proofs.Lists.{in_append, in_append-left, in_append-right, pair_of-first, pair_of-second, pair_at-first, pair_at-second, pairs-map, pairs-length, map-append}
use Rattle.nest_laws.proofs.Forms.{value-variables}
use Rattle.nest_laws.proofs.Points.{dot-behind, map-same, length-map}
use Rattle.nest_laws.proofs.Terms.{rounds-length}

-- one position more than level values makes an instance, and an instance has so many
pub instance_of : (ps : List ℕ) (vs : List ℤ) → length ps ≡ suc (length vs) → IsInstance ps vs
instance_of [] vs e = absurd (omega (arith, e))
instance_of (p ∷ []) [] e = tt
instance_of (p ∷ []) (v ∷ vs) e = absurd (omega (arith, e))
instance_of (p ∷ p' ∷ ps) [] e = absurd (omega (arith, e))
instance_of (p ∷ p' ∷ ps) (v ∷ vs) e = instance_of (p' ∷ ps) vs (omega (arith, e))

pub instance-depth : (ps : List ℕ) (vs : List ℤ) → IsInstance ps vs → length ps ≡ suc (length vs)
instance-depth [] vs i = absurd i
instance-depth (p ∷ []) [] i = refl
instance-depth (p ∷ []) (v ∷ vs) i = absurd i
instance-depth (p ∷ p' ∷ ps) [] i = absurd i
instance-depth (p ∷ p' ∷ ps) (v ∷ vs) i = ap (λ (n : ℕ). suc n) (instance-depth (p' ∷ ps) vs i)

-- the values of the variables behind parameters and levels
pub last_variables : (ps ws ts : List ℤ) → map (value (ps ++ (ws ++ ts))) (variables (length ps + length ws) (length ts)) ≡ ts
last_variables ps ws ts =
    subst (λ (n : ℕ). map (value (ps ++ (ws ++ ts))) (variables n (length ts)) ≡ ts) (length-append ps ws)
    (subst (λ (l : List ℤ). map (value l) (variables (length (ps ++ ws)) (length ts)) ≡ ts) (ap (λ (l : List ℤ). (ps ++ ws) ++ l) (append-nil ts) ∙ append_assoc ps ws ts) (value-variables (ps ++ ws) ts []))

-- a form that names no term has one value, whatever the terms' values are
no_term-value : (ps ws ts us : List ℤ) (f : Aff) → NamesNoTerm (length ps + length ws) f → value (ps ++ (ws ++ ts)) f ≡ value (ps ++ (ws ++ us)) f
no_term-value ps ws ts us f h =
    ap (λ (q : List ℤ). value q f) (sym (append_assoc ps ws ts))
    ∙ ap (λ (n : ℤ). n +ℤ f.constant) (dot-behind f.coefs (ps ++ ws) ts us (λ j n. absurd (n (subst (λ (k : ℕ). Rattle.nest_tree.specs.Forms.coef (k + j) f.coefs ≡ pos 0) (sym (length-append ps ws)) (h j)))))
    ∙ ap (λ (q : List ℤ). value q f) (append_assoc ps ws us)

-- the forms of one list at a point, and those that they say at the old point
module _ (olds : List Aff) (old_width new_width : ℕ) (q p : List ℤ) (is : map (value q) olds ≡ p) where
  form-says : (f g : Aff) → SaysForm olds old_width new_width f g → value q g ≡ value p f
  form-says f g h = h.same_value q ∙ ap (λ (l : List ℤ). value l f) is

  pub forms-say : (fs gs : List Aff) → Pairwise (SaysForm olds old_width new_width) fs gs → map (value q) gs ≡ map (value p) fs
  forms-say fs gs h = pairs-map (SaysForm olds old_width new_width) (value p) (value q) form-says fs gs h

  module _ (i : Input) (ts us : List Term) (all : Pairwise (SaysTerm olds old_width new_width) ts us) where
    readings-say : map (reading i q) us ≡ map (reading i p) ts
    readings-say = pairs-map (SaysTerm olds old_width new_width) (reading i p) (reading i q) (λ t u h. same t u h) ts us all
      where
        same : (t u : Term) → SaysTerm olds old_width new_width t u → reading i q u ≡ reading i p t
        same t u h = ap (λ (a : List ℕ). or_zero (i.cells a (map (value q) u.at))) h.array ∙ ap (λ (at : List ℤ). or_zero (i.cells t.array at)) (forms-say t.at u.at h.at)

    same_cell : (t u : Term) (v : ℤ) → SaysTerm olds old_width new_width t u → i.cells u.array (map (value q) u.at) ≡ i.cells t.array (map (value p) t.at)
    same_cell t u v h = ap (λ (a : List ℕ). i.cells a (map (value q) u.at)) h.array ∙ ap (λ (at : List ℤ). i.cells t.array at) (forms-say t.at u.at h.at)

    -- the new term at a place finds its cell exactly where the old one does
    pub found_new : (k : ℕ) → IsFound i old_width ts p k → IsFound i new_width us q k
    found_new _ (found k t v at is args) =
        let u = pair_at-first (SaysTerm olds old_width new_width) k ts us t all at in
        found k u.0 v u.1 (same_cell t u.0 v u.2 ∙ is)
        (λ g j a n. (
        let f = pair_of-second (SaysForm olds old_width new_width) t.at (u.0).at g (u.2).at a in
        found_new j (args f.0 j f.1 ((f.2).no_more j n))))

    found_old : (k : ℕ) → IsFound i new_width us q k → IsFound i old_width ts p k
    found_old _ (found k u v at is args) =
        let t = pair_at-second (SaysTerm olds old_width new_width) k ts us u all at in
        found k t.0 v t.1 (sym (same_cell t.0 u v t.2) ∙ is)
        (λ f j a n. (
        let g = pair_of-first (SaysForm olds old_width new_width) (t.0).at u.at f (t.2).at a in
        found_old j (args g.0 j g.1 ((g.2).no_fewer j n))))

module _ {T : Type 0} (act : Acting T) (i : Input) (m : Move) (r : IsRewritten (length i.params) m)
    (same_act : (q : List ℤ) → act m.new q ≡ act m.old (map (value q) (old_variables (length i.params) m))) where
  -- the old level values at new level values, whatever the terms' values are
  old_levels : List ℤ → List ℤ → List ℤ
  old_levels ws ts = map (value (i.params ++ (ws ++ ts))) (m.piece).old

  same_levels : (ws ts us : List ℤ) → length ws ≡ length (m.piece).levels → map (value (i.params ++ (ws ++ ts))) (m.piece).old ≡ map (value (i.params ++ (ws ++ us))) (m.piece).old
  same_levels ws ts us e =
      map-same (value (i.params ++ (ws ++ ts))) (value (i.params ++ (ws ++ us))) (m.piece).old
      (λ f a. no_term-value i.params ws ts us f (subst (λ (n : ℕ). NamesNoTerm (length i.params + n) f) (sym e) (r.no_terms f a)))

  -- the old variables' values at a new point
  olds_at : (ws ts : List ℤ) → length ws ≡ length (m.piece).levels → length ts ≡ length (m.old).terms → map (value (i.params ++ (ws ++ ts))) (old_variables (length i.params) m) ≡ i.params ++ (map (value (i.params ++ (ws ++ ts))) (m.piece).old ++ ts)
  olds_at ws ts e f =
      let q : List ℤ = i.params ++ (ws ++ ts) in
      let last : map (value q) (variables (length i.params + length (m.piece).levels) (length (m.old).terms)) ≡ ts =
      subst₂ (λ (a b : ℕ). map (value q) (variables (length i.params + a) b) ≡ ts) e f (last_variables i.params ws ts) in
      map-append (value q) (variables 0 (length i.params)) ((m.piece).old ++ variables (length i.params + length (m.piece).levels) (length (m.old).terms))
      ∙ ap (λ (l : List ℤ). l ++ map (value q) ((m.piece).old ++ variables (length i.params + length (m.piece).levels) (length (m.old).terms))) (value-variables [] i.params (ws ++ ts))
      ∙ ap (λ (l : List ℤ). i.params ++ l) (map-append (value q) (m.piece).old (variables (length i.params + length (m.piece).levels) (length (m.old).terms)))
      ∙ ap (λ (l : List ℤ). i.params ++ (map (value q) (m.piece).old ++ l)) last

  same_count : length (m.new).terms ≡ length (m.old).terms
  same_count = pairs-length _ (m.old).terms (m.new).terms r.terms

  module _ (vs ws : List ℤ) (e : length ws ≡ length (m.piece).levels) (v : map (value (point i m.new ws)) (m.piece).old ≡ vs) where
    -- each round reads the same in the new statement as in the old one
    same_rounds : (k : ℕ) → rounds i (m.new).terms (i.params ++ ws) k ≡ rounds i (m.old).terms (i.params ++ vs) k
    same_rounds zero = pairs-map _ (λ t. pos 0) (λ t. pos 0) (λ t u h. refl) (m.old).terms (m.new).terms r.terms
    same_rounds (suc k) =
        let ts : List ℤ = rounds i (m.new).terms (i.params ++ ws) k in
        let us : List ℤ = rounds i (m.old).terms (i.params ++ vs) k in
        let count : length ts ≡ length (m.old).terms = rounds-length i (m.new).terms (i.params ++ ws) k ∙ same_count in
        let at : map (value ((i.params ++ ws) ++ ts)) (old_variables (length i.params) m) ≡ (i.params ++ vs) ++ us =
        ap (λ (q : List ℤ). map (value q) (old_variables (length i.params) m)) (append_assoc i.params ws ts)
        ∙ olds_at ws ts e count
        ∙ ap (λ (l : List ℤ). i.params ++ (l ++ ts)) (same_levels ws ts (term_values i (m.new).terms (i.params ++ ws)) e ∙ v)
        ∙ ap (λ (l : List ℤ). i.params ++ (vs ++ l)) (same_rounds k)
        ∙ sym (append_assoc i.params vs us) in
        readings-say (old_variables (length i.params) m) (length i.params + length (m.old).levels) (length i.params + length (m.piece).levels) ((i.params ++ ws) ++ ts) ((i.params ++ vs) ++ us) at i (m.old).terms (m.new).terms r.terms

    same_terms : term_values i (m.new).terms (i.params ++ ws) ≡ term_values i (m.old).terms (i.params ++ vs)
    same_terms = ap (rounds i (m.new).terms (i.params ++ ws)) same_count ∙ same_rounds (length (m.old).terms)

    -- the old variables have the old point's values
    old_point : map (value (point i m.new ws)) (old_variables (length i.params) m) ≡ point i m.old vs
    old_point =
        olds_at ws (term_values i (m.new).terms (i.params ++ ws)) e (rounds-length i (m.new).terms (i.params ++ ws) (length (m.new).terms) ∙ same_count)
        ∙ ap (λ (l : List ℤ). i.params ++ (l ++ term_values i (m.new).terms (i.params ++ ws))) v
        ∙ ap (λ (l : List ℤ). i.params ++ (vs ++ l)) same_terms

    depth : length vs ≡ length (m.old).levels
    depth = ap length (sym v) ∙ length-map (value (point i m.new ws)) (m.piece).old ∙ r.forms

    row_new : (a b : KernelRow) → SaysRow (old_variables (length i.params) m) (length i.params + length (m.old).levels) (length i.params + length (m.piece).levels) a b → IsMet i m.old vs a → IsMet i m.new ws b
    row_new a b h k = record {
      readable = λ j n. subst (λ (w : ℕ). IsFound i (length i.params + w) (m.new).terms (point i m.new ws) j) (sym e)
          (found_new (old_variables (length i.params) m) (length i.params + length (m.old).levels) (length i.params + length (m.piece).levels) (point i m.new ws) (point i m.old vs) old_point i (m.old).terms (m.new).terms r.terms j
          (subst (λ (w : ℕ). IsFound i (length i.params + w) (m.old).terms (point i m.old vs) j) depth
          (k.readable j (subst (λ (w : ℕ). Names (a.row).form (length i.params + w + j)) (sym depth) ((h.form).no_more j (subst (λ (w : ℕ). Names (b.row).form (length i.params + w + j)) e n))))));
      holds = subst₂ (λ (q : Bool) (z : ℤ). Holds q z) (sym h.equal) (sym (form-says (old_variables (length i.params) m) (length i.params + length (m.old).levels) (length i.params + length (m.piece).levels) (point i m.new ws) (point i m.old vs) old_point (a.row).form (b.row).form h.form)) k.holds;
    }

    row_old : (a b : KernelRow) → SaysRow (old_variables (length i.params) m) (length i.params + length (m.old).levels) (length i.params + length (m.piece).levels) a b → IsMet i m.new ws b → IsMet i m.old vs a
    row_old a b h k = record {
      readable = λ j n. subst (λ (w : ℕ). IsFound i (length i.params + w) (m.old).terms (point i m.old vs) j) (sym depth)
          (found_old (old_variables (length i.params) m) (length i.params + length (m.old).levels) (length i.params + length (m.piece).levels) (point i m.new ws) (point i m.old vs) old_point i (m.old).terms (m.new).terms r.terms j
          (subst (λ (w : ℕ). IsFound i (length i.params + w) (m.new).terms (point i m.new ws) j) e
          (k.readable j (subst (λ (w : ℕ). Names (b.row).form (length i.params + w + j)) (sym e) ((h.form).no_fewer j (subst (λ (w : ℕ). Names (a.row).form (length i.params + w + j)) depth n))))));
      holds = subst₂ (λ (q : Bool) (z : ℤ). Holds q z) h.equal (form-says (old_variables (length i.params) m) (length i.params + length (m.old).levels) (length i.params + length (m.piece).levels) (point i m.new ws) (point i m.old vs) old_point (a.row).form (b.row).form h.form) k.holds;
    }

    new_rows : IsPointOf i m.old vs → ((s : KernelRow) → IsIn s (m.piece).rows → IsMet i m.new ws s) → (s : KernelRow) → IsIn s (m.new).rows → IsMet i m.new ws s
    new_rows p g s a =
        elim (in_append s r.kept (m.piece).rows (subst (λ (l : List KernelRow). IsIn s l) r.rows a)) [
          | inr b ↦ g s b
          | inl b ↦ (let o = pair_of-second _ (m.old).rows r.kept s r.says b in row_new o.0 s o.2 (p.meets o.0 o.1))
        ]

    old_rows : IsPointOf i m.new ws → (a : KernelRow) → IsIn a (m.old).rows → IsMet i m.old vs a
    old_rows p a h =
        let s = pair_of-first _ (m.old).rows r.kept a r.says h in
        row_old a s.0 s.2 (p.meets s.0 (subst (λ (l : List KernelRow). IsIn s.0 l) (sym r.rows) (in_append-left s.0 r.kept (m.piece).rows s.1)))

  new_depth : (ws : List ℤ) → IsInstance (m.piece).positions ws → length ws ≡ length (m.piece).levels
  new_depth ws h = let a = instance-depth (m.piece).positions ws h in let b = r.new_shape in omega arith

  -- the rewritten statement is the old one at the values of the piece's forms
  pub rewritten-stands : StandsFor act i m
  rewritten-stands = record {
    positions = r.positions;
    to_new = λ vs ws p g. record {
      instance = subst (λ (ps : List ℕ). IsInstance ps ws) (sym r.positions) g.instance;
      meets = new_rows vs ws (new_depth ws g.instance) g.old p g.meets;
    };
    to_old = λ ws p. (
        let vs : List ℤ = map (value (point i m.new ws)) (m.piece).old in
        let is : IsInstance (m.piece).positions ws = subst (λ (ps : List ℕ). IsInstance ps ws) r.positions p.instance in
        let e : length ws ≡ length (m.piece).levels = new_depth ws is in
        let d : length vs ≡ length (m.old).levels = depth vs ws e refl in (
          vs,
          record {
            instance = instance_of (m.old).positions vs (let a = r.old_shape in omega arith);
            meets = old_rows vs ws e refl p;
          },
          record {
            instance = is;
            meets = λ s a. p.meets s (subst (λ (l : List KernelRow). IsIn s l) (sym r.rows) (in_append-right s r.kept (m.piece).rows a));
            old = refl;
          },
        ));
    same_step = λ vs ws p g. same_act (point i m.new ws) ∙ ap (act m.old) (old_point vs ws (new_depth ws g.instance) g.old);
  }
