-- A statement that a plain piece makes is the old one in the new variables.
use Rattle.std.proofs.Common.{◌≡◌, inl, inr, ℕ, suc, ◌+◌, Bool, true, false, cond, List, [], ◌∷◌, ◌++◌, length, refl, sym, ◌∙◌, ap, subst, arith, ℤ, append-nil}
use Rattle.std.specs.Prelude.{Some, None, Result, Ok, Err}
use Rattle.std.specs.List.{list_all}
use Rattle.std.proofs.lemmas.Bool.{eqb-true}
use Rattle.int_rows.specs.declared.row.Aff.{Aff}
use Rattle.int_rows.specs.declared.row.Excess.{Excess}
use Rattle.nest_tree.specs.declared.body.Access.{Access}
use Rattle.nest_tree.specs.declared.body.Body.{Body}
use Rattle.nest_tree.specs.declared.body.Body.TheVariants.{Const, At, Plus, Minus, Times}
use Rattle.nest_tree.specs.declared.kernel.Nest.{Nest}
use Rattle.nest_tree.specs.declared.kernel.Term.{Term}
use Rattle.nest_tree.specs.declared.kernel.KernelRow.{KernelRow}
use Rattle.nest_tree.specs.declared.moves.Piece.{Piece}
use Rattle.nest_tree.specs.Lists.{IsIn, Pairwise}
use Rattle.nest_tree.specs.Forms.{variables}
use Rattle.nest_tree.specs.Rewriting.{variables_of, SaysForm, SaysTerm, SaysRow, SaysAccess, SaysBody, const, at, plus, minus, times, NamesNoTerm}
use Rattle.nest_core.specs.declared.form.Frame.{Frame}
use Rattle.nest_core.specs.Making.{each_made, both_lists}
use Rattle.nest_core.specs.Forms.{has_vars, new_vars, rewritten, number_judged, numbers_judged, judged_form, or_large}
use Rattle.nest_core.specs.Numbers.{is_small}
use Rattle.nest_core.specs.Pieces.{access_made, both_made, body_made, own_made, row_made, row_judged, kept, term_made, frame_of, nest_of_piece}
use Rattle.nest_core.specs.Shapes.{is_row_over, is_term_over, is_access_over, is_body_over}
use Rattle.nest_core.proofs.Kept.{before_ok, after_ok, both_lists_ok, and}
use Rattle.nest_core.proofs.Bodies.{made-Const, made-At, made-Plus, made-Minus, made-Times, over-At, over-Plus, over-Minus, over-Times}
use Rattle.nest_core.proofs.BodiesKept.{induct}
use Rattle.kernel_laws.specs.Laws.{PieceRewritesStatement}
use Rattle.kernel_laws.proofs.Forms.{rewritten-says}

-- what is made of each thing of a list
pairs_made : {A B E : Type 0} (R : A → B → Type 0) (p : A → Bool) (f : A → Result B E) → ((x : A) (y : B) → p x ≡ true → f x ≡ Ok y → R x y) → (xs : List A) (ys : List B) → list_all p xs ≡ true → each_made f xs ≡ Ok ys → Pairwise R xs ys
pairs_made {B = B} R p f h [] ys a e = let d : ys ≡ [] = cc in subst (λ (l : List B). Pairwise R [] l) (sym d) tt
pairs_made {B = B} R p f h (x ∷ xs) ys a e =
    let b = before_ok (f x) (each_made f xs) ys e in
    let t = and (p x) (list_all p xs) a in
    subst (λ (l : List B). Pairwise R (x ∷ xs) l) (sym b.2) (h x b.0 t.0 b.3, pairs_made R p f h xs b.1 t.1 b.4)

-- a form that is judged is the same
number-same : (v : ℕ) (z y : ℤ) (b : Bool) → or_large v (cond b (Some z) None) ≡ Ok y → y ≡ z
number-same v z y true e = cc
number-same v z y false e = absurd cc

number_judged-same : (v : ℕ) (z y : ℤ) → number_judged v z ≡ Ok y → y ≡ z
unfolding number_judged
number_judged-same v z y e = number-same v z y (is_small z) e

numbers_judged-same : (v : ℕ) (zs ys : List ℤ) → numbers_judged v zs ≡ Ok ys → ys ≡ zs
numbers_judged-same v [] ys e = cc
numbers_judged-same v (z ∷ zs) ys e =
    let b = before_ok (number_judged v z) (numbers_judged (suc v) zs) ys e in
    let h = number_judged-same v z b.0 b.3 in
    let t = numbers_judged-same (suc v) zs b.1 b.4 in
    b.2 ∙ ap (λ (x : ℤ). x ∷ b.1) h ∙ ap (λ (l : List ℤ). z ∷ l) t

judged-same : (f g : Aff) → judged_form f ≡ Ok g → g ≡ f
unfolding judged_form
judged-same f g e =
    let a = after_ok (numbers_judged 0 f.coefs) _ g e in
    let b = after_ok (number_judged (length f.coefs) f.constant) _ g a.2 in
    let c = numbers_judged-same 0 f.coefs a.0 a.1 in
    let d = number_judged-same (length f.coefs) f.constant b.0 b.1 in
    let g_is : g ≡ record { coefs = a.0; constant = b.0 } = cc in
    g_is ∙ ap (λ (l : List ℤ). record { coefs = l; constant = b.0 }) c ∙ ap (λ (z : ℤ). record { coefs = f.coefs; constant = z }) d

row_judged-same : (r s : KernelRow) → row_judged r ≡ Ok s → s ≡ r
row_judged-same r s e =
    let a = after_ok (judged_form (r.row).form) _ s e in
    let g = judged-same (r.row).form a.0 a.1 in
    let s_is : s ≡ record { row = record { equal = (r.row).equal; form = a.0 }; own = r.own } = cc in
    s_is ∙ ap (λ (f : Aff). record { row = record { equal = (r.row).equal; form = f }; own = r.own }) g

rows_judged-same : (rs ss : List KernelRow) → each_made row_judged rs ≡ Ok ss → ss ≡ rs
rows_judged-same [] ss e = cc
rows_judged-same (r ∷ rs) ss e =
    let b = before_ok (row_judged r) (each_made row_judged rs) ss e in
    b.2 ∙ ap (λ (x : KernelRow). x ∷ b.1) (row_judged-same r b.0 b.3) ∙ ap (λ (l : List KernelRow). r ∷ l) (rows_judged-same rs b.1 b.4)

none_kept : (i : ℕ) (rows : List KernelRow) → kept [] i rows ≡ rows
none_kept i [] = refl
none_kept i (r ∷ rows) = ap (λ (l : List KernelRow). r ∷ l) (none_kept (suc i) rows)

each_of : (w : ℕ) (fs : List Aff) → list_all (has_vars w) fs ≡ true → (f : Aff) → IsIn f fs → length f.coefs ≡ w
each_of w [] h f a = absurd a
each_of w (g ∷ fs) h f (inl e) = ap (λ (x : Aff). length x.coefs) e ∙ eqb-true (length g.coefs) w (and (has_vars w g) (list_all (has_vars w) fs) h).0
each_of w (g ∷ fs) h f (inr a) = each_of w fs (and (has_vars w g) (list_all (has_vars w) fs) h).1 f a

both_made_ok : (op : Body → Body → Body) (a b : Result Body Excess) (z : Body) → both_made op a b ≡ Ok z → (x : Body) × (y : Body) × (a ≡ Ok x) × (b ≡ Ok y) × (z ≡ op x y)
both_made_ok op (Ok x) (Ok y) z e = (x, y, refl, refl, cc)
both_made_ok op (Ok x) (Err w) z e = absurd cc
both_made_ok op (Err w) b z e = absurd cc

module _ (params d d' nt : ℕ) (old : List Aff) (counts : length old ≡ d) (each : (f : Aff) → IsIn f old → length f.coefs ≡ params + d' + nt) (narrow : (f : Aff) → IsIn f old → NamesNoTerm (params + d') f) where
  abbrev frame : Frame
  frame = record { params = params; levels = d; terms = nt; new_levels = d'; new_terms = 0 }

  abbrev olds : List Aff
  olds = variables 0 params ++ (old ++ variables (params + d') nt)

  form-says : (f g : Aff) → has_vars (params + d + nt) f ≡ true → rewritten frame old f ≡ Ok g → SaysForm olds (params + d) (params + d') f g
  form-says f g h e = rewritten-says params d d' nt old counts each narrow f g (eqb-true (length f.coefs) (params + d + nt) h) e

  row-says : (l : ℕ) (r s : KernelRow) → is_row_over (params + d + nt) l r ≡ true → row_made frame old r ≡ Ok s → SaysRow olds (params + d) (params + d') r s
  row-says l r s h e =
      let a = after_ok (rewritten frame old (r.row).form) _ s e in
      let s_is : record { row = record { equal = (r.row).equal; form = a.0 }; own = own_made frame old r.own } ≡ s = cc in
      let t = form-says (r.row).form a.0 (and (has_vars (params + d + nt) (r.row).form) _ h).0 a.1 in
      record {
        equal = ap (λ (x : KernelRow). (x.row).equal) (sym s_is);
        form = subst (λ (x : KernelRow). SaysForm olds (params + d) (params + d') (r.row).form (x.row).form) s_is t;
      }

  term-says : (t u : Term) → is_term_over (params + d + nt) t ≡ true → term_made (rewritten frame old) t ≡ Ok u → SaysTerm olds (params + d) (params + d') t u
  term-says t u h e =
      let a = after_ok (each_made (rewritten frame old) t.at) _ u e in
      let u_is : record { array = t.array; at = a.0 } ≡ u = cc in
      record {
        array = ap (λ (x : Term). x.array) (sym u_is);
        at = subst (λ (x : Term). Pairwise (SaysForm olds (params + d) (params + d')) t.at x.at) u_is (pairs_made (SaysForm olds (params + d) (params + d')) (has_vars (params + d + nt)) (rewritten frame old) form-says t.at a.0 (and (list_all (has_vars (params + d + nt)) t.at) _ h).0 a.1);
      }

  access-says : (a b : Access) → is_access_over (params + d + nt) a ≡ true → access_made (rewritten frame old) a ≡ Ok b → SaysAccess (SaysForm olds (params + d) (params + d')) a b
  access-says a b h e =
      let k = after_ok (each_made (rewritten frame old) a.at) _ b e in
      let b_is : record { array = a.array; at = k.0 } ≡ b = cc in
      record {
        array = ap (λ (x : Access). x.array) (sym b_is);
        at = subst (λ (x : Access). Pairwise (SaysForm olds (params + d) (params + d')) a.at x.at) b_is (pairs_made (SaysForm olds (params + d) (params + d')) (has_vars (params + d + nt)) (rewritten frame old) form-says a.at k.0 (and (list_all (has_vars (params + d + nt)) a.at) _ h).0 k.1);
      }

  abbrev BodySays : Body → Type 0
  BodySays b = (c : Body) → is_body_over (params + d + nt) b ≡ true → body_made (rewritten frame old) b ≡ Ok c → SaysBody (SaysForm olds (params + d) (params + d')) b c

  body-says : (b : Body) → BodySays b
  body-says = induct BodySays (record {
    const = λ v c h e. (let m : Ok (Const v) ≡ Ok c = sym (made-Const (rewritten frame old) (Const v) v refl) ∙ e in let is : Const v ≡ c = cc in subst (SaysBody (SaysForm olds (params + d) (params + d')) (Const v)) is (const v));
    cell = λ a c h e. (
        let m = after_ok (access_made (rewritten frame old) a) _ c (sym (made-At (rewritten frame old) (At a) a refl) ∙ e) in
        let is : At m.0 ≡ c = cc in
        subst (SaysBody (SaysForm olds (params + d) (params + d')) (At a)) is (at a m.0 (access-says a m.0 (over-At (params + d + nt) (At a) a refl h) m.1)));
    plus = λ x y p q c h e. (
        let m = both_made_ok Plus (body_made (rewritten frame old) x) (body_made (rewritten frame old) y) c (sym (made-Plus (rewritten frame old) (Plus x y) x y refl) ∙ e) in
        let o = over-Plus (params + d + nt) (Plus x y) x y refl h in
        subst (SaysBody (SaysForm olds (params + d) (params + d')) (Plus x y)) (sym m.4) (plus x y m.0 m.1 (p m.0 o.0 m.2) (q m.1 o.1 m.3)));
    minus = λ x y p q c h e. (
        let m = both_made_ok Minus (body_made (rewritten frame old) x) (body_made (rewritten frame old) y) c (sym (made-Minus (rewritten frame old) (Minus x y) x y refl) ∙ e) in
        let o = over-Minus (params + d + nt) (Minus x y) x y refl h in
        subst (SaysBody (SaysForm olds (params + d) (params + d')) (Minus x y)) (sym m.4) (minus x y m.0 m.1 (p m.0 o.0 m.2) (q m.1 o.1 m.3)));
    times = λ x y p q c h e. (
        let m = both_made_ok Times (body_made (rewritten frame old) x) (body_made (rewritten frame old) y) c (sym (made-Times (rewritten frame old) (Times x y) x y refl) ∙ e) in
        let o = over-Times (params + d + nt) (Times x y) x y refl h in
        subst (SaysBody (SaysForm olds (params + d) (params + d')) (Times x y)) (sym m.4) (times x y m.0 m.1 (p m.0 o.0 m.2) (q m.1 o.1 m.3)));
  })

-- the parts of a statement that a piece makes
record Parts (params : ℕ) (alone : Bool) (n : Nest) (p : Piece) (new : Nest) : Type 0 where
  rows : List KernelRow
  terms : List Term
  target : Access
  value : Body
  rows_made : both_lists (each_made (row_made (frame_of params n p) p.old) (kept p.drops 0 n.rows)) (each_made row_judged p.rows) ≡ Ok rows
  terms_made : both_lists (each_made (term_made (rewritten (frame_of params n p) p.old)) n.terms) (each_made (term_made judged_form) p.terms) ≡ Ok terms
  target_made : access_made (rewritten (frame_of params n p) p.old) n.target ≡ Ok target
  value_made : body_made (rewritten (frame_of params n p) p.old) n.value ≡ Ok value
  is : record { levels = p.levels; positions = p.positions; terms = terms; rows = rows; target = target; how = n.how; value = value; whole = cond alone n.whole None } ≡ new

parts_of : (params : ℕ) (alone : Bool) (n : Nest) (p : Piece) (new : Nest) → nest_of_piece params alone n p ≡ Ok new → Parts params alone n p new
unfolding nest_of_piece
parts_of params alone n p new e =
    let a = after_ok (both_lists (each_made (row_made (frame_of params n p) p.old) (kept p.drops 0 n.rows)) (each_made row_judged p.rows)) _ new e in
    let b = after_ok (both_lists (each_made (term_made (rewritten (frame_of params n p) p.old)) n.terms) (each_made (term_made judged_form) p.terms)) _ new a.2 in
    let c = after_ok (access_made (rewritten (frame_of params n p) p.old) n.target) _ new b.2 in
    let d = after_ok (body_made (rewritten (frame_of params n p) p.old) n.value) _ new c.2 in
    record { rows = a.0; terms = b.0; target = c.0; value = d.0; rows_made = a.1; terms_made = b.1; target_made = c.1; value_made = d.1; is = cc }

pub rewrites : PieceRewritesStatement
rewrites head n p alone new shaped fits plain e =
    let params : ℕ = length head.params in
    let d : ℕ = length n.levels in
    let d' : ℕ = length p.levels in
    let nt : ℕ = length n.terms in
    let q = parts_of params alone n p new e in
    let same : frame_of params n p ≡ record { params = params; levels = d; terms = nt; new_levels = d'; new_terms = 0 } = ap (λ (ts : List Term). record { params = params; levels = d; terms = nt; new_levels = d'; new_terms = length ts }) plain.terms in
    let widths : (f : Aff) → IsIn f p.old → length f.coefs ≡ params + d' + nt = λ f a. each_of (new_vars (frame_of params n p)) p.old fits.old f a ∙ ap (λ (s : Frame). new_vars s) same ∙ (let z : params + d' + nt + 0 ≡ params + d' + nt = omega arith in z) in
    let r = both_lists_ok (each_made (row_made (frame_of params n p) p.old) (kept p.drops 0 n.rows)) (each_made row_judged p.rows) q.rows q.rows_made in
    let t = both_lists_ok (each_made (term_made (rewritten (frame_of params n p) p.old)) n.terms) (each_made (term_made judged_form) p.terms) q.terms q.terms_made in
    let old_rows : each_made (row_made (record { params = params; levels = d; terms = nt; new_levels = d'; new_terms = 0 }) p.old) n.rows ≡ Ok r.0 =
    ap (λ (l : List KernelRow). each_made (row_made (record { params = params; levels = d; terms = nt; new_levels = d'; new_terms = 0 }) p.old) l) (sym (ap (λ (x : List ℕ). kept x 0 n.rows) plain.drops ∙ none_kept 0 n.rows))
    ∙ ap (λ (s : Frame). each_made (row_made s p.old) (kept p.drops 0 n.rows)) (sym same) ∙ r.2 in
    let old_terms : each_made (term_made (rewritten (record { params = params; levels = d; terms = nt; new_levels = d'; new_terms = 0 }) p.old)) n.terms ≡ Ok t.0 = ap (λ (s : Frame). each_made (term_made (rewritten s p.old)) n.terms) (sym same) ∙ t.2 in
    let no_more : t.1 ≡ [] = none_made t.1 (ap (λ (ts : List Term). each_made (term_made judged_form) ts) (sym plain.terms) ∙ t.3) in
    let terms_are : q.terms ≡ t.0 = t.4 ∙ ap (λ (l : List Term). t.0 ++ l) no_more ∙ append-nil t.0 in
    let old_target : access_made (rewritten (record { params = params; levels = d; terms = nt; new_levels = d'; new_terms = 0 }) p.old) n.target ≡ Ok q.target = ap (λ (s : Frame). access_made (rewritten s p.old) n.target) (sym same) ∙ q.target_made in
    let old_value : body_made (rewritten (record { params = params; levels = d; terms = nt; new_levels = d'; new_terms = 0 }) p.old) n.value ≡ Ok q.value = ap (λ (s : Frame). body_made (rewritten s p.old) n.value) (sym same) ∙ q.value_made in
    let rows_say = pairs_made (SaysRow (variables_of params n p) (params + d) (params + d')) (is_row_over (params + d + nt) d) (row_made (record { params = params; levels = d; terms = nt; new_levels = d'; new_terms = 0 }) p.old) (row-says params d d' nt p.old fits.counts widths plain.no_terms d) n.rows r.0 shaped.rows old_rows in
    let terms_say = pairs_made (SaysTerm (variables_of params n p) (params + d) (params + d')) (is_term_over (params + d + nt)) (term_made (rewritten (record { params = params; levels = d; terms = nt; new_levels = d'; new_terms = 0 }) p.old)) (term-says params d d' nt p.old fits.counts widths plain.no_terms) n.terms t.0 shaped.terms old_terms in
    record {
      old_shape = shaped.positions;
      new_shape = fits.positions;
      forms = fits.counts;
      no_terms = plain.no_terms;
      levels = ap (λ (x : Nest). x.levels) (sym q.is);
      positions = ap (λ (x : Nest). x.positions) (sym q.is);
      terms = subst (λ (x : Nest). Pairwise (SaysTerm (variables_of params n p) (params + d) (params + d')) n.terms x.terms) q.is (subst (λ (l : List Term). Pairwise (SaysTerm (variables_of params n p) (params + d) (params + d')) n.terms l) (sym terms_are) terms_say);
      target = subst (λ (x : Nest). SaysAccess (SaysForm (variables_of params n p) (params + d) (params + d')) n.target x.target) q.is (access-says params d d' nt p.old fits.counts widths plain.no_terms n.target q.target shaped.target old_target);
      how = ap (λ (x : Nest). x.how) (sym q.is);
      body = subst (λ (x : Nest). SaysBody (SaysForm (variables_of params n p) (params + d) (params + d')) n.value x.value) q.is (body-says params d d' nt p.old fits.counts widths plain.no_terms n.value q.value shaped.value old_value);
      kept = r.0;
      says = rows_say;
      rows = ap (λ (x : Nest). x.rows) (sym q.is) ∙ r.4 ∙ ap (λ (l : List KernelRow). r.0 ++ l) (rows_judged-same p.rows r.1 r.3);
    }
  where
    none_made : (us : List Term) → each_made (term_made judged_form) [] ≡ Ok us → us ≡ []
    none_made us e = cc
