-- What reads give, and which are found, place by place along the table.
use Rattle.std.proofs.Common.{◌≡◌, inl, inr, ℕ, zero, suc, ◌+◌, ◌<◌, ◌≤◌, List, [], ◌∷◌, ◌++◌, map, length, refl, sym, ◌∙◌, ap, subst, arith, ℤ, pos, ◌+ℤ◌, ◌*ℤ◌, Bool, true, ◌&&◌, append_assoc, append-nil, length-append}
use Rattle.std.specs.Prelude.{Option, Some, None, slice_get, is_some}
use Rattle.std.specs.List.{list_all}
use Rattle.std.proofs.lemmas.Int.{ints}
use Rattle.std.proofs.lemmas.Bool.{and_parts}
use Rattle.int_rows.specs.Rows.{dot}
use Rattle.nest_tree.specs.Lists.{IsIn}
use Rattle.nest_tree.specs.Loops.{Levels}
use Rattle.nest_tree.specs.Terms.{Input, or_zero}
use Rattle.scan_forms.specs.declared.affine.Affine.{Affine}
use Rattle.scan_forms.specs.declared.reads.Read.{Read}
use Rattle.scan_forms.specs.Numbers.{number_at}
use Rattle.scanning.specs.Named.{arguments}
use Rattle.scanning_laws.specs.Naming.{IsTable}
use Rattle.scanning_laws.specs.Valued.{form_value, values_from, only_where, founds_from}
use Rattle.printed_laws.proofs.Forms.{marked, where_marked, held_or_not}
use Rattle.printed_laws.proofs.Marked.{front, marked_inside, all_at}

-- ---- lists
nothing-times : (x : ℤ) → pos 0 *ℤ x ≡ pos 0
nothing-times x = omega (arith, ints)

dot-zero : (zs xs : List ℤ) → ((j : ℕ) → number_at j zs ≡ pos 0) → dot zs xs ≡ pos 0
dot-zero [] xs h = refl
dot-zero (z ∷ zs) [] h = refl
dot-zero (z ∷ zs) (x ∷ xs) h =
    let a = ap (λ (y : ℤ). y *ℤ x) (h 0) ∙ nothing-times x in
    let b = dot-zero zs xs (λ j. h (suc j)) in
    omega (arith, ints, a, b)

-- numbers of a form behind the values that it names change nothing
dot-front : (zs xs more : List ℤ) → ((j : ℕ) → length xs ≤ j → number_at j zs ≡ pos 0) → dot zs xs ≡ dot zs (xs ++ more)
dot-front [] xs more h = refl
dot-front (z ∷ zs) [] more h = sym (dot-zero (z ∷ zs) more (λ j. h j (omega arith)))
dot-front (z ∷ zs) (x ∷ xs) more h = ap (λ (y : ℤ). z *ℤ x +ℤ y) (dot-front zs xs more (λ j l. h (suc j) (omega (arith, l))))

number-last : (xs : List ℤ) (v : ℤ) (more : List ℤ) → number_at (length xs) (xs ++ v ∷ more) ≡ v
number-last [] v more = refl
number-last (x ∷ xs) v more = number-last xs v more

marked-front : (bs : List Bool) (b : Bool) (more : List Bool) → marked (length bs) (bs ++ b ∷ more) ≡ b
marked-front [] b more = refl
marked-front (c ∷ bs) b more = marked-front bs b more

pub map-same : {A B : Type 0} (F G : A → B) (xs : List A) → ((x : A) → IsIn x xs → F x ≡ G x) → map F xs ≡ map G xs
map-same F G [] h = refl
map-same {B = B} F G (x ∷ xs) h = ap (λ (y : B). y ∷ map F xs) (h x (inl refl)) ∙ ap (λ (ys : List B). G x ∷ ys) (map-same F G xs (λ y m. h y (inr m)))

module _ (i : Input) (e : Levels) where
  -- the cell that a read finds where those before it give these values
  abbrev pub cell_of : List ℤ → Read → Option ℤ
  cell_of rs r = i.cells r.array (map (form_value i e rs) r.at)

  abbrev is_found : List ℤ → List Bool → Read → Bool
  is_found rs fs r = is_some (cell_of rs r) && list_all (λ f. only_where fs f.reads) r.at

  values-go : (rs : List ℤ) (t : List Read) → (more : List ℤ) × (values_from i e rs t ≡ rs ++ more)
  values-go rs [] = ([], sym (append-nil rs))
  values-go rs (r ∷ t) =
      let v : ℤ = or_zero (cell_of rs r) in
      let g = values-go (rs ++ v ∷ []) t in
      (v ∷ g.0, g.1 ∙ append_assoc rs (v ∷ []) g.0)

  founds-go : (rs : List ℤ) (fs : List Bool) (t : List Read) → (more : List Bool) × (founds_from i e rs fs t ≡ fs ++ more)
  founds-go rs fs [] = ([], sym (append-nil fs))
  founds-go rs fs (r ∷ t) =
      let b : Bool = is_found rs fs r in
      let g = founds-go (rs ++ or_zero (cell_of rs r) ∷ []) (fs ++ b ∷ []) t in
      (b ∷ g.0, g.1 ∙ append_assoc fs (b ∷ []) g.0)

  -- what stands at a place: the values and marks before it make its own
  record Stands (rs : List ℤ) (fs : List Bool) (t : List Read) (b : ℕ) (r : Read) : Type 0 where
    before : List ℤ
    behind : List ℤ
    marks : List Bool
    others : List Bool
    values : values_from i e rs t ≡ before ++ or_zero (cell_of before r) ∷ behind
    founds : founds_from i e rs fs t ≡ marks ++ is_found before marks r ∷ others
    long : length before ≡ length rs + b
    count : length marks ≡ length fs + b

  stands : (t : List Read) (rs : List ℤ) (fs : List Bool) (b : ℕ) (r : Read) → slice_get t b ≡ Some r → Stands rs fs t b r
  stands [] rs fs b r h = absurd cc
  stands (x ∷ t) rs fs zero r h =
      let is : x ≡ r = cc in
      let v : ℤ = or_zero (cell_of rs x) in
      let g = values-go (rs ++ v ∷ []) t in
      let f = founds-go (rs ++ v ∷ []) (fs ++ is_found rs fs x ∷ []) t in
      subst (λ (y : Read). Stands rs fs (x ∷ t) zero y) is (record {
        before = rs;
        behind = g.0;
        marks = fs;
        others = f.0;
        values = g.1 ∙ append_assoc rs (v ∷ []) g.0;
        founds = f.1 ∙ append_assoc fs (is_found rs fs x ∷ []) f.0;
        long = omega arith;
        count = omega arith;
      })
  stands (x ∷ t) rs fs (suc b) r h =
      let v : ℤ = or_zero (cell_of rs x) in
      let m : Bool = is_found rs fs x in
      let p = stands t (rs ++ v ∷ []) (fs ++ m ∷ []) b r h in
      record {
        before = p.before;
        behind = p.behind;
        marks = p.marks;
        others = p.others;
        values = p.values;
        founds = p.founds;
        long = (let a = p.long in let l = length-append rs (v ∷ []) in omega (arith, a, l));
        count = (let a = p.count in let l = length-append fs (m ∷ []) in omega (arith, a, l));
      }

  module _ (table : List Read) (t : IsTable table) where
    abbrev pub values : List ℤ
    values = values_from i e [] table

    abbrev pub founds : List Bool
    founds = founds_from i e [] [] table

    abbrev pub IsFoundAt : ℕ → Type 0
    IsFoundAt j = marked j founds ≡ true

    -- the arguments of a read have the same values by the reads before it and by all reads
    same-cell : (b : ℕ) (r : Read) → slice_get table b ≡ Some r → (p : Stands [] [] table b r) → cell_of p.before r ≡ cell_of values r
    same-cell b r h p = ap (i.cells r.array) (map-same (form_value i e p.before) (form_value i e values) r.at one)
      where
        one : (g : Affine) → IsIn g r.at → form_value i e p.before g ≡ form_value i e values g
        one g m =
            let none : (j : ℕ) → length p.before ≤ j → number_at j g.reads ≡ pos 0 = λ j l. elim (held_or_not (number_at j g.reads)) [
              | inl z ↦ z
              | inr n ↦ absurd (
                  let inside : j < b = t j b (record { form = g; is_in = subst (λ (o : Option Read). IsIn g (arguments o)) (sym h) m; held = n }) in
                  let a = p.long in omega (arith, inside, a, l))
            ] in
            let is : dot g.reads p.before ≡ dot g.reads values = dot-front g.reads p.before (or_zero (cell_of p.before r) ∷ p.behind) none ∙ ap (dot g.reads) (sym p.values) in
            ap (λ (x : ℤ). dot g.params i.params +ℤ (dot g.levels e +ℤ (x +ℤ g.constant))) is

    -- a read's value is what its cell holds
    pub value-at : (b : ℕ) (r : Read) → slice_get table b ≡ Some r → number_at b values ≡ or_zero (cell_of values r)
    value-at b r h =
        let p = stands table [] [] b r h in
        let place : length p.before ≡ b = (let a = p.long in omega (arith, a)) in
        ap (λ (l : List ℤ). number_at b l) p.values
        ∙ subst (λ (j : ℕ). number_at j (p.before ++ or_zero (cell_of p.before r) ∷ p.behind) ≡ or_zero (cell_of p.before r)) place (number-last p.before (or_zero (cell_of p.before r)) p.behind)
        ∙ ap or_zero (same-cell b r h p)

    -- a read that is found has its cell, and those in its arguments are found
    pub found-at : (b : ℕ) (r : Read) → slice_get table b ≡ Some r → IsFoundAt b
        → (is_some (cell_of values r) ≡ true) × ((g : Affine) → IsIn g r.at → (j : ℕ) → (number_at j g.reads ≡ pos 0 → ⊥) → IsFoundAt j)
    found-at b r h own =
        let p = stands table [] [] b r h in
        let place : length p.marks ≡ b = (let a = p.count in omega (arith, a)) in
        let mark : marked b (p.marks ++ is_found p.before p.marks r ∷ p.others) ≡ is_found p.before p.marks r =
        subst (λ (j : ℕ). marked j (p.marks ++ is_found p.before p.marks r ∷ p.others) ≡ is_found p.before p.marks r) place (marked-front p.marks (is_found p.before p.marks r) p.others) in
        let both = and_parts (is_some (cell_of p.before r)) (list_all (λ f. only_where p.marks f.reads) r.at) (sym mark ∙ ap (marked b) (sym p.founds) ∙ own) in (
          ap is_some (sym (same-cell b r h p)) ∙ both.0,
          λ g m j n. (
              let here : marked j p.marks ≡ true = where_marked p.marks g.reads j (all_at (λ f. only_where p.marks f.reads) r.at g both.1 m) n in
              ap (marked j) p.founds ∙ front p.marks (is_found p.before p.marks r ∷ p.others) j (marked_inside p.marks j here) ∙ here),
        )

    -- so what is found goes on to the reads in arguments
    pub found-inner : (b : ℕ) → IsFoundAt b → (g : Affine) → IsIn g (arguments (slice_get table b)) → (j : ℕ) → (number_at j g.reads ≡ pos 0 → ⊥) → IsFoundAt j
    found-inner b own g m j n = by (slice_get table b) refl m
      where
        by : (o : Option Read) → slice_get table b ≡ o → IsIn g (arguments o) → IsFoundAt j
        by (Some r) h k = (found-at b r h own).1 g k j n
        by None h k = absurd k

    -- a mark stands at a read of the table
    pub found-there : (b : ℕ) → IsFoundAt b → (r : Read) × (slice_get table b ≡ Some r)
    found-there b own = (let place : b ≡ 0 + b = omega arith in by table [] [] b (omega arith) (subst (λ (j : ℕ). IsFoundAt j) place own))
      where
        by : (u : List Read) (rs : List ℤ) (fs : List Bool) (c : ℕ) → length fs ≤ length fs + c → marked (length fs + c) (founds_from i e rs fs u) ≡ true → (r : Read) × (slice_get u c ≡ Some r)
        by [] rs fs c l h = (let inside = marked_inside fs (length fs + c) h in absurd (omega (arith, inside)))
        by (r ∷ u) rs fs zero l h = (r, refl)
        by (r ∷ u) rs fs (suc c) l h =
            let m : Bool = is_found rs fs r in
            let place : length fs + suc c ≡ length (fs ++ m ∷ []) + c = (let a = length-append fs (m ∷ []) in omega (arith, a)) in
            by u (rs ++ or_zero (cell_of rs r) ∷ []) (fs ++ m ∷ []) c (omega arith) (subst (λ (j : ℕ). marked j (founds_from i e (rs ++ or_zero (cell_of rs r) ∷ []) (fs ++ m ∷ []) u) ≡ true) place h)
