-- Printed right sides, of each kind.
use Rattle.std.proofs.Common.{◌≡◌, ℕ, zero, suc, Bool, true, false, ◌&&◌, List, refl, sym, ap, ◌∙◌}
use Rattle.std.specs.Prelude.{Some, None}
use Rattle.nest_tree.specs.declared.body.Access.{Access}
use Rattle.nest_tree.specs.declared.body.Body.{Body, fold_out-Body, map-Body, out-Body}
use Rattle.nest_tree.specs.declared.body.Body.TheVariants.{Const, At, Plus, Minus, Times, outs-Const, outs-At, outs-Plus, outs-Minus, outs-Times}
use Rattle.nest_tree.specs.declared.body.Body.TheOpen.{Body-F}
use Rattle.nest_tree.specs.declared.kernel.Term.{Term}
use Rattle.nest_limits.specs.declared.body.Level.TheVariants.{Atom, Sum, Product}
use Rattle.nest_limits.specs.Brackets.{Printed, access_fits, part, is_sum, left_room, summand_fits, factor_fits, sum_fits, product_fits, printed_layer, printed}

module _ (first : ℕ) (terms : List Term) where
  printed_at : (b : Body) (d : Body-F Body) → out-Body b ≡ d → printed first terms b ≡ printed_layer first terms (map-Body Body Printed (printed first terms) d)
  unfolding printed
  printed_at b d h = fold_out-Body Printed (printed_layer first terms) b ∙ ap (λ d. printed_layer first terms (map-Body Body Printed (printed first terms) d)) h

  pub printed-Const : (b : Body) (n : ℕ) → b ≡ Const n → printed first terms b ≡ record { level = Atom; fits = λ room. true }
  printed-Const b n e = ap (printed first terms) e ∙ printed_at (Const n) _ (outs-Const n)

  pub printed-At : (b : Body) (a : Access) → b ≡ At a → printed first terms b ≡ record { level = Atom; fits = access_fits first terms a }
  printed-At b a e = ap (printed first terms) e ∙ printed_at (At a) _ (outs-At a)

  pub printed-Plus : (b x y : Body) → b ≡ Plus x y → printed first terms b ≡ record { level = Sum; fits = sum_fits (printed first terms x) (printed first terms y) }
  printed-Plus b x y e = ap (printed first terms) e ∙ printed_at (Plus x y) _ (outs-Plus x y)

  pub printed-Minus : (b x y : Body) → b ≡ Minus x y → printed first terms b ≡ record { level = Sum; fits = sum_fits (printed first terms x) (printed first terms y) }
  printed-Minus b x y e = ap (printed first terms) e ∙ printed_at (Minus x y) _ (outs-Minus x y)

  pub printed-Times : (b x y : Body) → b ≡ Times x y → printed first terms b ≡ record { level = Product; fits = product_fits (printed first terms x) (printed first terms y) }
  printed-Times b x y e = ap (printed first terms) e ∙ printed_at (Times x y) _ (outs-Times x y)

and_false : (x : Bool) → (x && false) ≡ false
and_false true = refl
and_false false = refl

and_true : (x : Bool) → (x && true) ≡ x
and_true true = refl
and_true false = refl

no_part : (inside : Bool) (fits : ℕ → Bool) (n : ℕ) → left_room inside n ≡ None → part inside fits n ≡ false
no_part false fits n e = search e
no_part true fits zero e = refl
no_part true fits (suc n) e = search e

a_part : (inside : Bool) (fits : ℕ → Bool) (n m : ℕ) → left_room inside n ≡ Some m → part inside fits n ≡ fits m
a_part false fits n m e =
    let same : n ≡ m = search e in
    ap fits same
a_part true fits zero m e = search e
a_part true fits (suc n) m e =
    let same : n ≡ m = search e in
    ap fits same

-- down a sum, and down a product: where the right part doesn't fit, the whole doesn't; where it does, the left part tells
module _ (first : ℕ) (terms : List Term) (b x y w z : Body) (room : ℕ) (left_is : w ≡ x) (right_is : z ≡ y) where
  module _ (e : printed first terms b ≡ record { level = Sum; fits = sum_fits (printed first terms x) (printed first terms y) }) where
    sum_whole : (printed first terms b).fits room ≡ ((printed first terms x).fits room && summand_fits (printed first terms z) room)
    sum_whole = ap (λ p. p.fits room) e ∙ ap (λ v. (printed first terms x).fits room && summand_fits (printed first terms v) room) (sym right_is)

    pub sum_stops : summand_fits (printed first terms z) room ≡ false → (printed first terms b).fits room ≡ false
    sum_stops f = sum_whole ∙ (ap (λ q. (printed first terms x).fits room && q) f ∙ and_false ((printed first terms x).fits room))

    pub sum_goes : summand_fits (printed first terms z) room ≡ true → (printed first terms w).fits room ≡ (printed first terms b).fits room
    sum_goes t = ap (λ v. (printed first terms v).fits room) left_is ∙ sym (sum_whole ∙ (ap (λ q. (printed first terms x).fits room && q) t ∙ and_true ((printed first terms x).fits room)))

  module _ (e : printed first terms b ≡ record { level = Product; fits = product_fits (printed first terms x) (printed first terms y) }) where
    left_part : Body → Bool
    left_part v = part (is_sum (printed first terms v).level) (printed first terms v).fits room

    product_whole : (printed first terms b).fits room ≡ (left_part w && factor_fits (printed first terms z) room)
    unfolding left_part
    product_whole = ap (λ p. p.fits room) e ∙ (ap (λ v. part (is_sum (printed first terms x).level) (printed first terms x).fits room && factor_fits (printed first terms v) room) (sym right_is)
        ∙ ap (λ v. part (is_sum (printed first terms v).level) (printed first terms v).fits room && factor_fits (printed first terms z) room) (sym left_is))

    pub factor_stops : factor_fits (printed first terms z) room ≡ false → (printed first terms b).fits room ≡ false
    factor_stops f = product_whole ∙ (ap (λ q. left_part w && q) f ∙ and_false (left_part w))

    pub left_stops : left_room (is_sum (printed first terms w).level) room ≡ None → (printed first terms b).fits room ≡ false
    unfolding left_part
    left_stops f = product_whole ∙ ap (λ q. q && factor_fits (printed first terms z) room) (no_part (is_sum (printed first terms w).level) (printed first terms w).fits room f)

    pub product_goes : (m : ℕ) → factor_fits (printed first terms z) room ≡ true → left_room (is_sum (printed first terms w).level) room ≡ Some m → (printed first terms w).fits m ≡ (printed first terms b).fits room
    unfolding left_part
    product_goes m t s = sym (product_whole ∙ (ap (λ q. left_part w && q) t ∙ (and_true (left_part w) ∙ a_part (is_sum (printed first terms w).level) (printed first terms w).fits room m s)))
