-- The form of an affine expression has the expression's value.
use Rattle.std.proofs.Common.{◌≡◌, inl, inr, ℕ, suc, Bool, true, false, cond, ◌&&◌, ◌||◌, List, [], ◌∷◌, ◌++◌, map, length, refl, sym, ◌∙◌, ap, subst, arith, ℤ, pos, negsuc, ◌+ℤ◌, ◌-ℤ◌, ◌*ℤ◌, neg_ℤ}
use Rattle.std.specs.Prelude.{bytes_eq, Option, Some, None, ◌≤◌, unsigned_abs}
use Rattle.std.specs.List.{list_any, AllByRecursion}
use Rattle.std.specs.Ordering.{int_eq}
use Rattle.std.proofs.lemmas.Int.{ints}
use Rattle.std.proofs.lemmas.Slice.Eq.{bytes_eq-Decides}
use Rattle.int_rows.specs.declared.row.Aff.{Aff}
use Rattle.int_rows.specs.Rows.{dot}
use Rattle.c_tree.specs.declared.program.Matrix.{Matrix}
use Rattle.source_limits.specs.declared.reads.Read.{Read}
use Rattle.c_meaning.specs.Names.{Name, line, same_numbers}
use Rattle.c_meaning.specs.Value.{Sight, cell_seen}
use Rattle.nest_tree.specs.Lists.{IsIn}
use Rattle.nest_tree.specs.Forms.{value}
use Rattle.nest_tree.specs.Forms as forms
use Rattle.nest_tree.specs.Terms.{or_zero}
use Rattle.nest_laws.specs.Weights.{HasSize}
use Rattle.nest_laws.specs.Weights as has
use Rattle.nest_laws.proofs.Forms.{value-sum, value-times, value-less}
use Rattle.acceptance.specs.Affine.{is_plain, is_index_array, is_term, is_affine, Mention, mentions}
use Rattle.acceptance.specs.Expressions.{Expression, number, name, one, two, three, negated, plus, minus, times, lesser, greater, floor, ceil, index_of}
use Rattle.acceptance.specs.Forms.{Vars, form, over_names, read_of, same_read, same_form, is_among, one_if, number_form, name_form, read_form}
use Rattle.acceptance.specs.Sizes.{Size, size_of, weight}
use Rattle.acceptance_laws.specs.Formed.{is_in_scope, AreApart, sizes_of, read_value, point, KeepSizes, IsFound, FormHasValue}

pub dot-append : (cs ds ps qs : List ℤ) → length cs ≡ length ps → dot (cs ++ ds) (ps ++ qs) ≡ dot cs ps +ℤ dot ds qs
dot-append [] ds [] qs h = omega (arith, ints)
dot-append [] ds (x ∷ ps) qs h = absurd (omega (arith, h))
dot-append (c ∷ cs) ds [] qs h = absurd (omega (arith, h))
dot-append (c ∷ cs) ds (x ∷ ps) qs h = let k = dot-append cs ds ps qs (omega (arith, h)) in omega (arith, ints, k)

pub append-none : (ps : List ℤ) → ps ++ [] ≡ ps
append-none [] = refl
append-none (x ∷ ps) = ap (λ (qs : List ℤ). x ∷ qs) (append-none ps)

module _ {A : Type 0} where
  length-map : {B : Type 0} (f : A → B) (xs : List A) → length (map f xs) ≡ length xs
  length-map f [] = refl
  length-map f (x ∷ xs) = ap suc (length-map f xs)

  dot-none : (xs : List A) (ps : List ℤ) → dot (map (λ x. pos 0) xs) ps ≡ pos 0
  dot-none [] ps = refl
  dot-none (x ∷ xs) [] = refl
  dot-none (x ∷ xs) (p ∷ ps) = let k = dot-none xs ps in omega (arith, ints, k)

  -- a test that is true of one thing alone
  module _ (t : A → Bool) (g : A → ℤ) (x : A) (sound : (y : A) → t y ≡ true → y ≡ x) where
    dot-absent : (xs : List A) → (IsIn x xs → ⊥) → dot (map (λ y. one_if (t y)) xs) (map g xs) ≡ pos 0
    dot-absent [] h = refl
    dot-absent (y ∷ ys) h = by (t y) refl (dot-absent ys (λ m. h (inr m)))
      where
        by : (b : Bool) → t y ≡ b → dot (map (λ y. one_if (t y)) ys) (map g ys) ≡ pos 0 → dot (map (λ y. one_if (t y)) (y ∷ ys)) (map g (y ∷ ys)) ≡ pos 0
        by true e k = absurd (h (inl (sym (sound y e))))
        by false e k = rw e (omega (arith, ints, k))

    dot-one : (xs : List A) → AreApart xs → list_any t xs ≡ true → dot (map (λ y. one_if (t y)) xs) (map g xs) ≡ g x
    dot-one [] a h = absurd cc
    dot-one (y ∷ ys) a h = by (t y) refl (λ k. dot-one ys a.1 k) (λ k. dot-absent ys k)
      where
        by : (b : Bool) → t y ≡ b → (list_any t ys ≡ true → dot (map (λ y. one_if (t y)) ys) (map g ys) ≡ g x) → ((IsIn x ys → ⊥) → dot (map (λ y. one_if (t y)) ys) (map g ys) ≡ pos 0)
            → dot (map (λ y. one_if (t y)) (y ∷ ys)) (map g (y ∷ ys)) ≡ g x
        by true e more none =
            let d : y ≡ x = sound y e in
            let k = none (subst (λ (z : A). IsIn z ys → ⊥) d a.0) in
            let w : g y ≡ g x = ap g d in
            rw e (omega (arith, ints, k, w))
        by false e more none =
            let f : list_any t ys ≡ true = subst (λ (b : Bool). (b || list_any t ys) ≡ true) e h in
            let k = more f in
            rw e (omega (arith, ints, k))

pub both : (a b : Bool) → (a && b) ≡ true → (a ≡ true) × (b ≡ true)
both true b h = (refl, h)
both false b h = absurd cc

same-numbers : (xs ys : List ℤ) → same_numbers xs ys ≡ true → xs ≡ ys
same-numbers [] [] h = refl
same-numbers [] (y ∷ ys) h = absurd cc
same-numbers (x ∷ xs) [] h = absurd cc
same-numbers (x ∷ xs) (y ∷ ys) h =
    let p = both (int_eq x y) (same_numbers xs ys) h in
    let e : x ≡ y = grind (arith, p.0) in
    ap (λ (z : ℤ). z ∷ xs) e ∙ ap (λ (zs : List ℤ). y ∷ zs) (same-numbers xs ys p.1)

same-form : (f g : Aff) → same_form f g ≡ true → f ≡ g
same-form f g h =
    let p = both (int_eq f.constant g.constant) (same_numbers f.coefs g.coefs) h in
    let e : f.constant ≡ g.constant = grind (arith, p.0) in
    ap (λ (c : ℤ). record { coefs = f.coefs; constant = c }) e ∙ ap (λ (cs : List ℤ). record { coefs = cs; constant = g.constant }) (same-numbers f.coefs g.coefs p.1)

pub same-read : (r q : Read) → same_read r q ≡ true → r ≡ q
same-read r q h =
    let p = both (bytes_eq r.array q.array) (same_form r.at q.at) h in
    ap (λ (a : Name). record { array = a; at = r.at }) ((bytes_eq-Decides r.array q.array).0 p.0) ∙ ap (λ (f : Aff). record { array = q.array; at = f }) (same-form r.at q.at p.1)

pub any-append : (x : Name) (xs ys : List Name) → list_any (λ y. bytes_eq y x) xs ≡ true → list_any (λ y. bytes_eq y x) (xs ++ ys) ≡ true
any-append x [] ys h = absurd cc
any-append x (z ∷ xs) ys h = by (bytes_eq z x) refl h (any-append x xs ys)
  where
    by : (b : Bool) → bytes_eq z x ≡ b → (b || list_any (λ y. bytes_eq y x) xs) ≡ true → (list_any (λ y. bytes_eq y x) xs ≡ true → list_any (λ y. bytes_eq y x) (xs ++ ys) ≡ true) → list_any (λ y. bytes_eq y x) (z ∷ (xs ++ ys)) ≡ true
    by true e k m = rw e refl
    by false e k m = rw e (m k)

pub kept-at : (s : Sight) (sizes : List Size) (x : Name) (names : List Name) → KeepSizes sizes s names → list_any (λ y. bytes_eq y x) names ≡ true → unsigned_abs (s.value x) ≤ size_of sizes x
kept-at s sizes x [] h k = absurd cc
kept-at s sizes x (y ∷ ys) h k = by (bytes_eq y x) refl k (kept-at s sizes x ys h.1)
  where
    by : (b : Bool) → bytes_eq y x ≡ b → (b || list_any (λ y. bytes_eq y x) ys) ≡ true → (list_any (λ y. bytes_eq y x) ys ≡ true → unsigned_abs (s.value x) ≤ size_of sizes x) → unsigned_abs (s.value x) ≤ size_of sizes x
    by true e m more = subst (λ (z : Name). unsigned_abs (s.value z) ≤ size_of sizes z) ((bytes_eq-Decides y x).0 e) h.0
    by false e m more = more m

module _ (s : Sight) (v : Vars) where
  point-is : (cs ds : List ℤ) → length cs ≡ length v.names → dot (cs ++ ds) (point s v) ≡ dot cs (map s.value v.names) +ℤ dot ds (map (read_value s v.names) v.reads)
  point-is cs ds h = dot-append cs ds (map s.value v.names) (map (read_value s v.names) v.reads) (h ∙ sym (length-map s.value v.names))

  value-number : (n : ℤ) → value (point s v) (number_form v n) ≡ n
  value-number n =
      let k = point-is (map (λ x. pos 0) v.names) (map (λ r. pos 0) v.reads) (length-map (λ x. pos 0) v.names) in
      let a = dot-none v.names (map s.value v.names) in
      let b = dot-none v.reads (map (read_value s v.names) v.reads) in
      omega (arith, ints, k, a, b)

  value-name : (x : Name) → AreApart v.names → list_any (λ y. bytes_eq y x) v.names ≡ true → value (point s v) (name_form v x) ≡ s.value x
  value-name x a h =
      let k = point-is (map (λ y. one_if (bytes_eq y x)) v.names) (map (λ r. pos 0) v.reads) (length-map (λ y. one_if (bytes_eq y x)) v.names) in
      let l = dot-one (λ y. bytes_eq y x) s.value x (λ y e. (bytes_eq-Decides y x).0 e) v.names a h in
      let b = dot-none v.reads (map (read_value s v.names) v.reads) in
      omega (arith, ints, k, l, b)

  value-read : (r : Read) → AreApart v.reads → is_among v.reads r ≡ true → value (point s v) (read_form v r) ≡ read_value s v.names r
  value-read r a h =
      let k = point-is (map (λ x. pos 0) v.names) (map (λ q. one_if (same_read q r)) v.reads) (length-map (λ x. pos 0) v.names) in
      let l = dot-one (λ q. same_read q r) (read_value s v.names) r (λ q e. same-read q r e) v.reads a h in
      let b = dot-none v.names (map s.value v.names) in
      omega (arith, ints, k, l, b)

  module _ (sizes : List Size) where
    abbrev pub Has : Expression → Type 0
    Has e = HasSize (sizes_of sizes) s (index_of e) (value (point s v) (form e v)) (weight sizes e)

    has-number : (n : ℤ) → Has (number n)
    has-number n = subst (λ (x : ℤ). HasSize (sizes_of sizes) s (index_of (number n)) x (weight sizes (number n))) (sym (value-number n)) (has.const n)

    has-name : (x : Name) → AreApart v.names → list_any (λ y. bytes_eq y x) v.names ≡ true → unsigned_abs (s.value x) ≤ size_of sizes x → Has (name x)
    has-name x a h k = subst (λ (w : ℤ). HasSize (sizes_of sizes) s (index_of (name x)) w (weight sizes (name x))) (sym (value-name x a h)) (has.name x k)

    has-negated : (e : Expression) → Has e → Has (negated e)
    has-negated e h =
        let k = value-times (point s v) (negsuc 0) (form e v) in
        let d : neg_ℤ (value (point s v) (form e v)) ≡ value (point s v) (form (negated e) v) = omega (arith, ints, k) in
        subst (λ (w : ℤ). HasSize (sizes_of sizes) s (index_of (negated e)) w (weight sizes (negated e))) d (has.neg _ _ _ h)

    has-plus : (e f : Expression) → Has e → Has f → Has (plus e f)
    has-plus e f h g = subst (λ (w : ℤ). HasSize (sizes_of sizes) s (index_of (plus e f)) w (weight sizes (plus e f))) (sym (value-sum (point s v) (form e v) (form f v))) (has.plus _ _ _ _ _ _ h g)

    has-minus : (e f : Expression) → Has e → Has f → Has (minus e f)
    has-minus e f h g =
        let k = value-less (point s v) (form e v) (form f v) in
        let d : value (point s v) (form e v) -ℤ value (point s v) (form f v) ≡ value (point s v) (form (minus e f) v) = omega (arith, ints, k) in
        subst (λ (w : ℤ). HasSize (sizes_of sizes) s (index_of (minus e f)) w (weight sizes (minus e f))) d (has.minus _ _ _ _ _ _ h g)

    has-times : (n : ℤ) (e : Expression) → Has e → Has (times n e)
    has-times n e h = subst (λ (w : ℤ). HasSize (sizes_of sizes) s (index_of (times n e)) w (weight sizes (times n e))) (sym (value-times (point s v) n (form e v))) (has.times n _ _ _ h)

  module _ (sizes : List Size) (front inner : List Name) (all : v.names ≡ front ++ inner) (a : AreApart v.names) (keeps : KeepSizes sizes s front) where
    in_all : (x : Name) → list_any (λ y. bytes_eq y x) front ≡ true → list_any (λ y. bytes_eq y x) v.names ≡ true
    in_all x h = subst (λ (ns : List Name). list_any (λ y. bytes_eq y x) ns ≡ true) (sym all) (any-append x front inner h)

    pub plain_has : (e : Expression) → is_plain e ≡ true → is_in_scope front e ≡ true → Has sizes e
    plain_has (number n) p i = has-number sizes n
    plain_has (name x) p i = has-name sizes x a (in_all x i) (kept-at s sizes x front keeps i)
    plain_has (one b e) p i = absurd cc
    plain_has (two b e f) p i = absurd cc
    plain_has (three b e f g) p i = absurd cc
    plain_has (negated e) p i = has-negated sizes e (plain_has e p i)
    plain_has (plus e f) p i = let q = both (is_plain e) (is_plain f) p in let j = both (is_in_scope front e) (is_in_scope front f) i in has-plus sizes e f (plain_has e q.0 j.0) (plain_has f q.1 j.1)
    plain_has (minus e f) p i = let q = both (is_plain e) (is_plain f) p in let j = both (is_in_scope front e) (is_in_scope front f) i in has-minus sizes e f (plain_has e q.0 j.0) (plain_has f q.1 j.1)
    plain_has (times n e) p i = has-times sizes n e (plain_has e p i)
    plain_has (lesser e f) p i = absurd cc
    plain_has (greater e f) p i = absurd cc
    plain_has (floor e d) p i = absurd cc
    plain_has (ceil e d) p i = absurd cc

pub all-left : {A : Type 0} (P : A → Type 0) (xs ys : List A) → AllByRecursion P (xs ++ ys) → AllByRecursion P xs
all-left P [] ys h = tt
all-left P (x ∷ xs) ys h = (h.0, all-left P xs ys h.1)

pub all-right : {A : Type 0} (P : A → Type 0) (xs ys : List A) → AllByRecursion P (xs ++ ys) → AllByRecursion P ys
all-right P [] ys h = h
all-right P (x ∷ xs) ys h = all-right P xs ys h.1

module _ (ms : List Matrix) (sizes : List Size) (s : Sight) (v : Vars) (front inner : List Name) (all : v.names ≡ front ++ inner) (a : AreApart v.names) (r : AreApart v.reads) (keeps : KeepSizes sizes s front) where
  read_has : (b : Name) (e : Expression) → is_term ms b e ≡ true → is_in_scope front e ≡ true → IsFound sizes s v (record { array = b; at = e }) → Has s v sizes (one b e)
  read_has b e t i f =
      let q = both (is_index_array ms b) (is_plain e) t in
      let h = plain_has s (over_names v.names) sizes front inner all a keeps e q.1 i in
      let bare : point s (over_names v.names) ≡ map s.value v.names = append-none (map s.value v.names) in
      let g = subst (λ (p : List ℤ). HasSize (sizes_of sizes) s (index_of e) (value p (form e (over_names v.names))) (weight sizes e)) bare h in
      let w : value (point s v) (form (one b e) v) ≡ f.cell = value-read s v (record { array = b; at = form e (over_names v.names) }) r f.listed ∙ ap or_zero f.found in
      subst (λ (x : ℤ). HasSize (sizes_of sizes) s (index_of (one b e)) x (weight sizes (one b e))) (sym w) (has.one b (index_of e) _ f.cell _ g f.small f.found f.kept)

  affine_has : (e : Expression) → is_affine ms e ≡ true → is_in_scope front e ≡ true → AllByRecursion (IsFound sizes s v) (mentions ms e) → Has s v sizes e
  affine_has (number n) p i m = has-number s v sizes n
  affine_has (name x) p i m = has-name s v sizes x a (in_all s v sizes front inner all a keeps x i) (kept-at s sizes x front keeps i)
  affine_has (one b e) p i m = read_has b e p i (subst (λ (t : Bool). AllByRecursion (IsFound sizes s v) (cond t (record { array = b; at = e } ∷ []) (mentions ms e))) p m).0
  affine_has (two b e f) p i m = absurd cc
  affine_has (three b e f g) p i m = absurd cc
  affine_has (negated e) p i m = has-negated s v sizes e (affine_has e p i m)
  affine_has (plus e f) p i m =
      let q = both (is_affine ms e) (is_affine ms f) p in let j = both (is_in_scope front e) (is_in_scope front f) i in
      has-plus s v sizes e f (affine_has e q.0 j.0 (all-left _ (mentions ms e) (mentions ms f) m)) (affine_has f q.1 j.1 (all-right _ (mentions ms e) (mentions ms f) m))
  affine_has (minus e f) p i m =
      let q = both (is_affine ms e) (is_affine ms f) p in let j = both (is_in_scope front e) (is_in_scope front f) i in
      has-minus s v sizes e f (affine_has e q.0 j.0 (all-left _ (mentions ms e) (mentions ms f) m)) (affine_has f q.1 j.1 (all-right _ (mentions ms e) (mentions ms f) m))
  affine_has (times n e) p i m = has-times s v sizes n e (affine_has e p i m)
  affine_has (lesser e f) p i m = absurd cc
  affine_has (greater e f) p i m = absurd cc
  affine_has (floor e d) p i m = absurd cc
  affine_has (ceil e d) p i m = absurd cc

pub form_value : FormHasValue
form_value ms sizes s v front inner e all a r keeps p i m = affine_has ms sizes s v front inner all a r keeps e p i m
