use Rattle.std.proofs.Common.{rules, ◌≡◌, ℕ, ◌<◌, ◌≤◌, ◌+◌, suc, ℤ, pos, drop, length, get_or, List, ◌++◌, ◌∷◌, [], Bool, true, false, not, drop-cons, add-one, sym, ap}
use Rattle.std.specs.Prelude.{Option, Some}
use Rattle.std.specs.List.{position_from}
use Rattle.std.proofs.lemmas.Int.{to_z-of_z}
use Rattle.std.proofs.lemmas.List.{drop_all}
use mir.Val.{SFits}
use mir.Syntax.{w128}
use Rattle.int_rows.specs.Elimination.{is_small}
use Rattle.int_sets.proofs.numbers.first_large.Goals as goal

module _ (t : ℤ → Bool) (xs ks : List ℤ) (i : ℕ) (o : Option ℕ) where
  more : i < length xs → t (get_or xs i (pos 0)) ≡ false → position_from t i (drop i xs ++ ks) ≡ o → position_from t (i + 1) (drop (i + 1) xs ++ ks) ≡ o
  more h f e =
      let cons : drop i xs ≡ get_or xs i (pos 0) ∷ drop (suc i) xs = drop-cons xs i (pos 0) h in
      let step = rw (cons, f) at e in
      rw (ap (λ (n : ℕ). drop n xs) (add-one i)) step

  found : i < length xs → t (get_or xs i (pos 0)) ≡ true → position_from t i (drop i xs ++ ks) ≡ o → Some i ≡ o
  found h f e =
      let cons : drop i xs ≡ get_or xs i (pos 0) ∷ drop (suc i) xs = drop-cons xs i (pos 0) h in
      rw (cons, f) at e

  rest : length xs ≤ i → position_from t i (drop i xs ++ ks) ≡ o → position_from t i ks ≡ o
  rest h e =
      let none : drop i xs ≡ [] = drop_all i xs h in
      rw none at e

pub loop-i-preserved : goal.loop-i-preserved
loop-i-preserved c =
    let a : SFits w128 (get_or c.args.coefs.now c.loop-i.i (pos 0)) = search rules in
    let h : c.loop-i.i < length c.args.coefs.now = search rules in
    more (λ z. not (is_small z)) _ _ _ _ h (ap not (sym (simp to_z-of_z at c.if-not-is_small.ensures))) c.loop-i.invariant

pub returns-then-not-is_small : goal.returns-then-not-is_small
returns-then-not-is_small c =
    let k : SFits w128 c.args.constant = c.ranges.constant in
    let a : SFits w128 (get_or c.args.coefs.now c.loop-i.i (pos 0)) = search rules in
    let h : c.loop-i.i < length c.args.coefs.now = search rules in
    found (λ z. not (is_small z)) _ _ _ _ h (ap not (sym (simp to_z-of_z at c.if-not-is_small.ensures))) (simp to_z-of_z at c.loop-i.invariant)

pub returns-then-is_small : goal.returns-then-is_small
returns-then-is_small c =
    let k : SFits w128 c.args.constant = c.ranges.constant in
    let h : length c.args.coefs.now ≤ c.loop-i.i = search rules in
    let e : is_small c.args.constant ≡ true = sym (simp to_z-of_z at c.if-is_small.ensures) in
    let at_end = rest (λ z. not (is_small z)) _ _ _ _ h (simp to_z-of_z at c.loop-i.invariant) in
    rw e at at_end

pub returns-else-is_small : goal.returns-else-is_small
returns-else-is_small c =
    let k : SFits w128 c.args.constant = c.ranges.constant in
    let h : length c.args.coefs.now ≤ c.loop-i.i = search rules in
    let same : c.loop-i.i ≡ length c.args.coefs.now = search rules in
    let e : is_small c.args.constant ≡ false = sym (simp to_z-of_z at c.if-is_small.ensures) in
    let at_end = rest (λ z. not (is_small z)) _ _ _ _ h (simp to_z-of_z at c.loop-i.invariant) in
    rw (e, same) at at_end
