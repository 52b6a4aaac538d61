-- Keys tell whether rows are alike, and the place of a key is that of the row.
use Rattle.std.proofs.Common.{◌≡◌, ℕ, suc, ◌+◌, ◌<◌, ℤ, Bool, true, false, not, ◌&&◌, ◌||◌, cond, List, [], ◌∷◌, ◌++◌, length, take, set, arith, refl, ap, sym, ◌∙◌, subst}
use Rattle.std.specs.Prelude.{Some, None, slice_get, int_lt, IfSome}
use Rattle.std.specs.Option.{option_eq}
use Rattle.std.specs.List.{AllZip, list_any, position_or_len}
use Rattle.std.specs.Int.{int_min}
use Rattle.std.specs.Ordering.{int_eq}
use Rattle.std.specs.Cmp.{int_eq_equiv}
use Rattle.std.specs.Cmp.Lexicographic.{lists_equiv}
use lib.Pointwise.{pointwise}
use Rattle.std.proofs.Math.Seq.{take-append_seam}
use Rattle.std.proofs.lemmas.Bool.{and_parts, cond_both}
use Rattle.std.proofs.lemmas.Bool.Decides.{Decides-int_eq}
use Rattle.int_rows.specs.Elimination.{is_alike, tightest, absorbed}
use Rattle.int_rows.specs.Systems.{Rows, with_rows}
use Rattle.int_rows.specs.declared.row.Row.{Row}
use Rattle.int_sets.specs.declared.key.RowKey.{RowKey}
use Rattle.int_sets.specs.contracts.key.RowKeyPartialEq.TheImpl.{eq-value}
use Rattle.int_sets.specs.Keys.{IsKeyOf}
use Rattle.int_sets.specs.Views.{lowered}

same_kind : (p q : Bool) (x y : ℤ) → option_eq int_eq (cond p (Some x) None) (cond q (Some y) None) ≡ cond q (p && int_eq y x) (not p)
same_kind true true x y = int_eq_equiv.symm x y
same_kind true false x y = refl
same_kind false true x y = refl
same_kind false false x y = refl

pub key-alike : (k j : RowKey) (s r : Row) → IsKeyOf k s → IsKeyOf j r → eq-value.it k j ≡ is_alike r s
key-alike k j s r h g =
    (λ i. option_eq int_eq (h.equals i) (g.equals i) && pointwise int_eq (h.coefs i) (g.coefs i))
    ∙ (λ i. same_kind s.equal r.equal s.form.constant r.form.constant i && (lists_equiv int_eq_equiv).symm s.form.coefs r.form.coefs i)

-- an equality that is alike has the same constant, so a row keeps its key
least : (q p rest : Bool) (x y : ℤ) → (cond q (p && int_eq x y) (not p) && rest) ≡ true → cond q (Some x) None ≡ cond q (Some (int_min x y)) None
least false p rest x y e = refl
least true p rest x y e =
    let same : x ≡ y = (Decides-int_eq x y).0 (and_parts p _ (and_parts (p && int_eq x y) rest e).0).1 in
    sym (ap (λ (z : ℤ). Some z) (cond_both (int_lt y x) y x (λ (z : ℤ). z ≡ x) (λ _. sym same) (λ _. refl)))

key-tightest : (j : RowKey) (r s : Row) → IsKeyOf j r → is_alike r s ≡ true → IsKeyOf j (tightest r s)
key-tightest j r s h e = record { equals = h.equals ∙ least r.equal s.equal (pointwise int_eq r.form.coefs s.form.coefs) r.form.constant s.form.constant e; coefs = h.coefs }

or_parts : (a b : Bool) → (a || b) ≡ false → (a ≡ false) × (b ≡ false)
or_parts true b e = absurd cc
or_parts false b e = (refl, e)

pub length-keys : (ks : List RowKey) (rows : List Row) → AllZip IsKeyOf ks rows → length ks ≡ length rows
length-keys [] [] z = refl
length-keys [] (r ∷ rows) z = absurd z
length-keys (j ∷ ks) [] z = absurd z
length-keys (j ∷ ks) (r ∷ rows) z = ap suc (length-keys ks rows z.1)

keys-push : (ks : List RowKey) (rows : List Row) (k : RowKey) (s : Row) → AllZip IsKeyOf ks rows → IsKeyOf k s → AllZip IsKeyOf (ks ++ k ∷ []) (rows ++ s ∷ [])
keys-push [] [] k s z h = (h, tt)
keys-push [] (r ∷ rows) k s z h = absurd z
keys-push (j ∷ ks) [] k s z h = absurd z
keys-push (j ∷ ks) (r ∷ rows) k s z h = (z.0, keys-push ks rows k s z.1 h)

absorbed-new : (ks : List RowKey) (rows : List Row) (k : RowKey) (s : Row) → AllZip IsKeyOf ks rows → IsKeyOf k s → list_any (eq-value.it k) ks ≡ false → absorbed rows s ≡ rows ++ s ∷ []
absorbed-new [] [] k s z h e = refl
absorbed-new [] (r ∷ rows) k s z h e = absurd z
absorbed-new (j ∷ ks) [] k s z h e = absurd z
absorbed-new (j ∷ ks) (r ∷ rows) k s z h e =
    let p = or_parts (eq-value.it k j) (list_any (eq-value.it k) ks) e in
    let no : is_alike r s ≡ false = sym (key-alike k j s r h z.0) ∙ p.0 in
    rw no (ap (λ (l : List Row). r ∷ l) (absorbed-new ks rows k s z.1 h p.1))

-- the row at the place of a key takes in one that is alike
pub record TakesIn (ks : List RowKey) (rows : List Row) (s : Row) (at : ℕ) : Type 0 where
  pub row : Row
  pub is : slice_get rows at ≡ Some row
  pub inside : at < length rows
  pub absorbs : absorbed rows s ≡ set rows at (tightest row s)
  pub keys : AllZip IsKeyOf ks (set rows at (tightest row s))

takes-next : (ks : List RowKey) (rows : List Row) (s : Row) (j : RowKey) (r : Row) (at : ℕ) → IsKeyOf j r → is_alike r s ≡ false → TakesIn ks rows s at → TakesIn (j ∷ ks) (r ∷ rows) s (suc at)
takes-next ks rows s j r at g other t = record {
  row = t.row;
  is = t.is;
  inside = (let l = t.inside in omega arith);
  absorbs = rw other (ap (λ (l : List Row). r ∷ l) t.absorbs);
  keys = (g, t.keys);
}

takes_by : (ks : List RowKey) (rows : List Row) (k : RowKey) (s : Row) (j : RowKey) (r : Row) → IsKeyOf j r × AllZip IsKeyOf ks rows → IsKeyOf k s → (eq-value.it k j || list_any (eq-value.it k) ks) ≡ true
    → (list_any (eq-value.it k) ks ≡ true → TakesIn ks rows s (position_or_len (eq-value.it k) ks))
    → (b : Bool) → eq-value.it k j ≡ b → TakesIn (j ∷ ks) (r ∷ rows) s (position_or_len (eq-value.it k) (j ∷ ks))
takes_by ks rows k s j r z h e later true is =
    let same : is_alike r s ≡ true = sym (key-alike k j s r h z.0) ∙ is in
    rw is (record { row = r; is = refl; inside = omega arith; absorbs = rw same refl; keys = (key-tightest j r s z.0 same, z.1) })
takes_by ks rows k s j r z h e later false is =
    let other : is_alike r s ≡ false = sym (key-alike k j s r h z.0) ∙ is in
    let more : list_any (eq-value.it k) ks ≡ true = rw is at e in
    let next : suc (position_or_len (eq-value.it k) ks) ≡ 1 + position_or_len (eq-value.it k) ks = omega arith in
    rw is (subst (λ (n : ℕ). TakesIn (j ∷ ks) (r ∷ rows) s n) next (takes-next ks rows s j r (position_or_len (eq-value.it k) ks) z.0 other (later more)))

takes-in : (ks : List RowKey) (rows : List Row) (k : RowKey) (s : Row) → AllZip IsKeyOf ks rows → IsKeyOf k s → list_any (eq-value.it k) ks ≡ true → TakesIn ks rows s (position_or_len (eq-value.it k) ks)
takes-in [] rows k s z h e = absurd cc
takes-in (j ∷ ks) [] k s z h e = absurd z
takes-in (j ∷ ks) (r ∷ rows) k s z h e = takes_by ks rows k s j r z h e (takes-in ks rows k s z.1 h) (eq-value.it k j) refl

-- one turn, by whether the key was there
module _ (ks : List RowKey) (rows : List Row) (k : RowKey) (s : Row) (z : AllZip IsKeyOf ks rows) (h : IsKeyOf k s) (new : List RowKey) (is : new ≡ cond (list_any (eq-value.it k) ks) ks (ks ++ k ∷ [])) where
  module _ (at : ℕ) (place : at ≡ position_or_len (eq-value.it k) ks) (old : list_any (eq-value.it k) ks ≡ true) where
    pub turn-found : TakesIn ks rows s at
    turn-found = subst (λ (n : ℕ). TakesIn ks rows s n) (sym place) (takes-in ks rows k s z h old)

    pub turn-keys : AllZip IsKeyOf new (set rows at (tightest turn-found.row s))
    turn-keys =
        let same : new ≡ ks = rw old at is in
        subst (λ (l : List RowKey). AllZip IsKeyOf l (set rows at (tightest turn-found.row s))) (sym same) turn-found.keys

  module _ (none : list_any (eq-value.it k) ks ≡ false) where
    last : new ≡ ks ++ k ∷ []
    last = rw none at is

    pub turn-new : absorbed rows s ≡ rows ++ s ∷ []
    turn-new = absorbed-new ks rows k s z h none

    pub turn-new_keys : AllZip IsKeyOf new (rows ++ s ∷ [])
    turn-new_keys = subst (λ (l : List RowKey). AllZip IsKeyOf l (rows ++ s ∷ [])) (sym last) (keys-push ks rows k s z h)

    -- where the row found no room the key goes again
    pub turn-undone : take (length rows) new ≡ ks
    turn-undone = ap (λ (l : List RowKey). take (length rows) l) last ∙ ap (λ (n : ℕ). take n (ks ++ k ∷ [])) (sym (length-keys ks rows z)) ∙ take-append_seam ks (k ∷ [])

-- whether the key was there, by what the set answers
pub was-there : (new there : Bool) → new ≡ not there → new ≡ false → there ≡ true
was-there new true a e = refl
was-there new false a e = absurd (let k : false ≡ true = sym e ∙ a in cc)

pub was-absent : (new there : Bool) → new ≡ not there → new ≡ true → there ≡ false
was-absent new false a e = refl
was-absent new true a e = absurd (let k : true ≡ false = sym e ∙ a in cc)

-- what lowers the constant of a row makes it as tight as the other
pub lowered-rows : (old new : Rows) (at : ℕ) (r s : Row) → slice_get old.rows at ≡ Some r → IfSome (slice_get old.rows at) (λ t. new ≡ with_rows old (set old.rows at (lowered t s.form.constant))) → new ≡ with_rows old (set old.rows at (tightest r s))
lowered-rows old new at r s is e = subst (λ o. IfSome o (λ t. new ≡ with_rows old (set old.rows at (lowered t s.form.constant)))) is e
