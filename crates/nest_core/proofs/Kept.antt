-- What pieces make has the shapes of kernels.
use Rattle.std.proofs.Common.{◌≡◌, ℕ, zero, suc, arith, ◌≤◌, ◌+◌, Bool, true, false, not, ◌&&◌, ◌||◌, cond, nat_eq, nat_le, List, [], ◌∷◌, ◌++◌, length, refl, ap, ◌∙◌, ℤ, pos, take, drop, length-append, length-take, length-drop, eq-eqb, le-leb}
use Rattle.std.specs.Prelude.{Result, Ok, Err, slice_get}
use Rattle.std.specs.Ordering.{int_eq}
use Rattle.std.specs.List.{list_all, list_any}
use Rattle.std.proofs.lemmas.Bool.{cond_both, eqb-true}
use Rattle.std.proofs.lemmas.Bool.Decides.{nat_tests}
use Rattle.std.proofs.lemmas.List.{length-replicate}
use Rattle.int_rows.specs.declared.row.Aff.{Aff}
use Rattle.int_rows.specs.declared.row.Excess.{Excess}
use Rattle.nest_tree.specs.declared.kernel.KernelRow.{KernelRow}
use Rattle.nest_tree.specs.declared.kernel.Term.{Term}
use Rattle.nest_tree.specs.declared.body.Access.{Access}
use Rattle.nest_core.specs.declared.form.Frame.{Frame}
use Rattle.nest_core.specs.Making.{before, after, each_made, both_lists}
use Rattle.nest_core.specs.Forms.{number_made, numbers_made, rewritten, lifted, level_coefs, old_vars, new_vars, has_vars, number_judged, numbers_judged, judged_form}
use Rattle.nest_core.specs.Pieces.{last_held, coefs_of, own_made, row_made, row_judged, kept, term_made, access_made}
use Rattle.nest_core.specs.Shapes.{is_row_over, is_term_over, is_access_over}

pub before_ok : {A E : Type 0} (a : Result A E) (r : Result (List A) E) (ys : List A) → before a r ≡ Ok ys → (y : A) × (zs : List A) × (ys ≡ y ∷ zs) × (a ≡ Ok y) × (r ≡ Ok zs)
before_ok (Ok y) (Ok zs) ys e = (y, zs, cc, refl, refl)
before_ok (Ok y) (Err x) ys e = absurd cc
before_ok (Err x) r ys e = absurd cc

pub after_ok : {A B E : Type 0} (a : Result A E) (f : A → Result B E) (y : B) → after a f ≡ Ok y → (x : A) × (a ≡ Ok x) × (f x ≡ Ok y)
after_ok (Ok x) f y e = (x, refl, e)
after_ok (Err x) f y e = absurd cc

pub both_lists_ok : {A E : Type 0} (a b : Result (List A) E) (ys : List A) → both_lists a b ≡ Ok ys → (xs : List A) × (zs : List A) × (a ≡ Ok xs) × (b ≡ Ok zs) × (ys ≡ xs ++ zs)
both_lists_ok (Ok xs) (Ok zs) ys e = (xs, zs, refl, refl, cc)
both_lists_ok (Ok xs) (Err x) ys e = absurd cc
both_lists_ok (Err x) b ys e = absurd cc

pub and : (x y : Bool) → x && y ≡ true → (x ≡ true) × (y ≡ true)
and true true e = (refl, refl)
and true false e = absurd cc
and false y e = absurd cc

-- a test that holds of each thing, along a making that keeps it
pub each_made-all : {A B E : Type 0} (p : A → Bool) (q : B → Bool) (f : A → Result B E) → ((x : A) (y : B) → p x ≡ true → f x ≡ Ok y → q y ≡ true)
    → (xs : List A) (ys : List B) → list_all p xs ≡ true → each_made f xs ≡ Ok ys → list_all q ys ≡ true
each_made-all p q f h [] ys a e = let d : ys ≡ [] = cc in rw d refl
each_made-all p q f h (x ∷ xs) ys a e =
    let b = before_ok (f x) (each_made f xs) ys e in
    let t = and (p x) (list_all p xs) a in
    rw (b.2, h x b.0 t.0 b.3) (each_made-all p q f h xs b.1 t.1 b.4)

pub each_made-length : {A B E : Type 0} (f : A → Result B E) (xs : List A) (ys : List B) → each_made f xs ≡ Ok ys → length ys ≡ length xs
each_made-length f [] ys e = let d : ys ≡ [] = cc in rw d refl
each_made-length f (x ∷ xs) ys e = let b = before_ok (f x) (each_made f xs) ys e in rw b.2 (ap suc (each_made-length f xs b.1 b.4))

length-numbers_made : (cs : List ℤ) (old : List Aff) (v : ℕ) (zs ys : List ℤ) → numbers_made cs old v zs ≡ Ok ys → length ys ≡ length zs
length-numbers_made cs old v [] ys e = let d : ys ≡ [] = cc in rw d refl
length-numbers_made cs old v (z ∷ zs) ys e =
    let b = before_ok (number_made cs old v z) (numbers_made cs old (suc v) zs) ys e in
    rw b.2 (ap suc (length-numbers_made cs old (suc v) zs b.1 b.4))

length-numbers_judged : (v : ℕ) (zs ys : List ℤ) → numbers_judged v zs ≡ Ok ys → length ys ≡ length zs
length-numbers_judged v [] ys e = let d : ys ≡ [] = cc in rw d refl
length-numbers_judged v (z ∷ zs) ys e =
    let b = before_ok (number_judged v z) (numbers_judged (suc v) zs) ys e in
    rw b.2 (ap suc (length-numbers_judged (suc v) zs b.1 b.4))

length-lifted : (s : Frame) (cs : List ℤ) → length cs ≡ old_vars s → length (lifted s cs) ≡ new_vars s
unfolding lifted
length-lifted s cs e = grind (arith, length-append, length-replicate, length-take, length-drop)

-- a rewritten form has one coefficient for each new variable
pub rewritten-width : (s : Frame) (old : List Aff) (f g : Aff) → has_vars (old_vars s) f ≡ true → rewritten s old f ≡ Ok g → has_vars (new_vars s) g ≡ true
unfolding rewritten
rewritten-width s old f g w e =
    let a = after_ok (numbers_made (level_coefs s f.coefs) old 0 (lifted s f.coefs)) _ g e in
    let b = after_ok (number_made (level_coefs s f.coefs) old (length (lifted s f.coefs)) f.constant) _ g a.2 in
    let d : g.coefs ≡ a.0 = cc in
    eq-eqb (length g.coefs) (new_vars s) (ap length d ∙ length-numbers_made (level_coefs s f.coefs) old 0 (lifted s f.coefs) a.0 a.1 ∙ length-lifted s f.coefs (eqb-true (length f.coefs) (old_vars s) w))

-- and one that is judged has as many as before
pub judged-width : (n : ℕ) (f g : Aff) → has_vars n f ≡ true → judged_form f ≡ Ok g → has_vars n g ≡ true
unfolding judged_form
judged-width n f g w e =
    let a = after_ok (numbers_judged 0 f.coefs) _ g e in
    let b = after_ok (number_judged (length f.coefs) f.constant) _ g a.2 in
    let d : g.coefs ≡ a.0 = cc in
    eq-eqb (length g.coefs) n (ap length d ∙ length-numbers_judged 0 f.coefs a.0 a.1 ∙ eqb-true (length f.coefs) n w)

last_held-below : (q found : ℕ) (zs : List ℤ) → found ≤ q → last_held q found zs ≤ q + length zs
last_held-below q found [] h = omega (arith, h)
last_held-below q found (z ∷ zs) h =
    let new : ℕ = cond (int_eq z (pos 0)) found (suc q) in
    let low : new ≤ suc q = cond_both (int_eq z (pos 0)) found (suc q) (λ n. n ≤ suc q) (λ e. omega (arith, h)) (λ e. omega arith) in
    omega (arith, last_held-below (suc q) new zs low)

-- the new own level is a new level
pub own_made-below : (s : Frame) (old : List Aff) (l : ℕ) → own_made s old l ≤ s.new_levels
unfolding own_made
own_made-below s old zero = omega arith
own_made-below s old (suc l) =
    omega (arith, last_held-below 0 0 (take s.new_levels (drop s.params (coefs_of (slice_get old l)))) (omega arith), length-take s.new_levels (drop s.params (coefs_of (slice_get old l))))

or-true : (b : Bool) → b || true ≡ true
or-true true = refl
or-true false = refl

not_zero : (n : ℕ) → nat_eq (suc n) 0 ≡ false
not_zero n = grind (arith, nat_tests)

-- a guard stays a guard, and a bound that is an inequality stays one
guard_or : (s : Frame) (old : List Aff) (own : ℕ) (b : Bool) → nat_eq own 0 || b ≡ true → nat_eq (own_made s old own) 0 || b ≡ true
unfolding own_made
guard_or s old zero b e = refl
guard_or s old (suc l) b e = let d = rw (not_zero l) at e in rw d (or-true (nat_eq (own_made s old (suc l)) 0))

pub row_made-kept : (s : Frame) (old : List Aff) (d : ℕ) (r t : KernelRow) → is_row_over (old_vars s) d r ≡ true → row_made s old r ≡ Ok t → is_row_over (new_vars s) s.new_levels t ≡ true
row_made-kept s old d r t h e =
    let a = after_ok (rewritten s old r.row.form) _ t e in
    let w = and (has_vars (old_vars s) r.row.form) (nat_le r.own d && (nat_eq r.own 0 || not r.row.equal)) h in
    let g = and (nat_le r.own d) (nat_eq r.own 0 || not r.row.equal) w.1 in
    let is : t ≡ record { row = record { equal = r.row.equal; form = a.0 }; own = own_made s old r.own } = cc in
    rw (is, rewritten-width s old r.row.form a.0 w.0 a.1, le-leb (own_made s old r.own) s.new_levels (own_made-below s old r.own)) (guard_or s old r.own (not r.row.equal) g.1)

pub row_judged-kept : (n d : ℕ) (r t : KernelRow) → is_row_over n d r ≡ true → row_judged r ≡ Ok t → is_row_over n d t ≡ true
row_judged-kept n d r t h e =
    let a = after_ok (judged_form r.row.form) _ t e in
    let w = and (has_vars n r.row.form) (nat_le r.own d && (nat_eq r.own 0 || not r.row.equal)) h in
    let is : t ≡ record { row = record { equal = r.row.equal; form = a.0 }; own = r.own } = cc in
    rw (is, judged-width n r.row.form a.0 w.0 a.1) w.1

pub kept-all : (p : KernelRow → Bool) (drops : List ℕ) (i : ℕ) (rows : List KernelRow) → list_all p rows ≡ true → list_all p (kept drops i rows) ≡ true
kept-all p drops i [] e = refl
kept-all p drops i (r ∷ rows) e =
    let h = and (p r) (list_all p rows) e in
    let more = kept-all p drops (suc i) rows h.1 in
    cond_both (list_any (λ n. nat_eq n i) drops) (kept drops (suc i) rows) (r ∷ kept drops (suc i) rows) (λ (xs : List KernelRow). list_all p xs ≡ true) (λ _. more) (λ _. rw h.0 more)

module _ (n m : ℕ) (f : Aff → Result Aff Excess) (h : (x y : Aff) → has_vars n x ≡ true → f x ≡ Ok y → has_vars m y ≡ true) where
  pub term_made-kept : (t u : Term) → is_term_over n t ≡ true → term_made f t ≡ Ok u → is_term_over m u ≡ true
  term_made-kept t u w e =
      let a = after_ok (each_made f t.at) _ u e in
      let is : u ≡ record { array = t.array; at = a.0 } = cc in
      let p = and (list_all (has_vars n) t.at) (nat_le 1 (length t.at) && nat_le (length t.at) 3) w in
      rw (is, each_made-all (has_vars n) (has_vars m) f h t.at a.0 p.0 a.1, each_made-length f t.at a.0 a.1) p.1

  pub access_made-kept : (a b : Access) → is_access_over n a ≡ true → access_made f a ≡ Ok b → is_access_over m b ≡ true
  access_made-kept a b w e =
      let x = after_ok (each_made f a.at) _ b e in
      let is : b ≡ record { array = a.array; at = x.0 } = cc in
      let p = and (list_all (has_vars n) a.at) (nat_le 1 (length a.at) && nat_le (length a.at) 3) w in
      rw (is, each_made-all (has_vars n) (has_vars m) f h a.at x.0 p.0 x.1, each_made-length f a.at x.0 x.1) p.1
