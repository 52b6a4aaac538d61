-- `skew` changes the order of no two instances: those that are skewed are skewed alike, and with any other they share only loops that stay.
use Rattle.std.proofs.Common.{◌≡◌, ℕ, zero, suc, ◌<◌, ◌≤◌, Bool, true, false, cond, List, [], ◌∷◌, ◌++◌, map, length, refl, sym, ◌∙◌, ap, subst, subst₂, arith, nat_eq, nat_le, ℤ, pos, ◌+ℤ◌, ◌*ℤ◌, neg_ℤ}
use Rattle.std.specs.Prelude.{not, Option, Some, None, Ok, slice_get}
use Rattle.std.specs.List.{list_all}
use Rattle.std.proofs.lemmas.Bool.{eqb-true, eq-eqb, leb-true, leb-false}
use Rattle.std.proofs.lemmas.Int.{ints}
use Rattle.int_rows.specs.declared.row.Aff.{Aff}
use Rattle.nest_tree.specs.declared.fault.ShapeWhy.{ShapeWhy}
use Rattle.nest_tree.specs.declared.fault.ShapeWhy.TheVariants.{NoLoop, NotPermutation}
use Rattle.nest_tree.specs.declared.kernel.Kernel.{Kernel}
use Rattle.nest_tree.specs.declared.kernel.Nest.{Nest}
use Rattle.nest_tree.specs.declared.moves.Moves.{Moves}
use Rattle.nest_tree.specs.declared.moves.Piece.{Piece}
use Rattle.nest_tree.specs.Carriers.{shared, AgreeOn, IsSmallerAt, Carrier, loop, text, IsCarried}
use Rattle.nest_tree.specs.Forms.{value, sum, times, less, number, variables}
use Rattle.nest_tree.specs.Levels.{skewed, unskewed}
use Rattle.nest_tree.specs.Lists.{IsIn, Pairwise}
use Rattle.nest_tree.specs.Moving.{Move, Gives}
use Rattle.nest_tree.specs.Pieces.{unskewed_forms, IsLike}
use Rattle.nest_tree.specs.Places.{place, IsBefore, IsInstance}
use Rattle.nest_tree.specs.Terms.{Input, term_values}
use Rattle.nest_core.specs.Order.{shares_loop}
use Rattle.nest_core.specs.Shapes.{IsShapedNest, IsShaped}
use Rattle.nest_core.proofs.Sharing.{shared-second_below}
use Rattle.nest_laws.proofs.Carriers.{carried_before}
use Rattle.nest_laws.proofs.Forms.{value-sum, value-times, value-less, value-variables}
use Rattle.nest_laws.proofs.Levels.{skewed-forth, skewed-length}
use Rattle.nest_laws.proofs.Lists.{pairs-map}
use Rattle.nest_laws.proofs.Narrow.{like-value}
use Rattle.nest_laws.proofs.Places.{order_of_places}
use Rattle.nest_laws.proofs.Rewriting.{instance_of, instance-depth}
use Rattle.nest_laws.proofs.Skewing.{skew-order}
use Rattle.affine_moves.specs.declared.change.Change.TheVariants.{Stay, Skew}
use Rattle.affine_moves.specs.Change.{is_level, piece_of, new_positions}
use Rattle.affine_moves.specs.Moves as affine
use Rattle.affine_moves.specs.Moves.{moves_of, judged, sharers, is_zero, is_skew, skew_shape}
use Rattle.piece_laws.proofs.Pieces.{placed_pieces}
use Rattle.piece_laws.proofs.Skew.{skew_piece}
use Rattle.move_laws.specs.Moves.{moves_of_all}
use Rattle.tested_laws.proofs.Ordered.{in_order}
use Rattle.order_laws.specs.Skewing.{AllStay, SkewChangesNone}
use Rattle.order_laws.proofs.Commands.{only-one, judged-ok, unless-some}
use Rattle.order_laws.proofs.Finding.{AllHave, find, each-in}

-- ---- levels before the skewed one keep their values
smaller-first : (l : ℕ) (cs : List ℤ) (total : ℤ) (vs us : List ℤ) → l ≤ length cs → IsSmallerAt l vs us → IsSmallerAt l (skewed cs total vs) us
smaller-first zero cs total vs us n h = absurd h
smaller-first (suc l) [] total vs us n h = absurd (omega (arith, n))
smaller-first (suc zero) (c ∷ cs) total [] us n h = absurd h
smaller-first (suc zero) (c ∷ cs) total (v ∷ vs) us n h = h
smaller-first (suc (suc l)) (c ∷ cs) total [] us n h = absurd h
smaller-first (suc (suc l)) (c ∷ cs) total (v ∷ vs) [] n h = absurd h
smaller-first (suc (suc l)) (c ∷ cs) total (v ∷ vs) (u ∷ us) n h = (h.0, smaller-first (suc l) cs (total +ℤ (c *ℤ v)) vs us (omega (arith, n)) h.1)

smaller-second : (l : ℕ) (cs : List ℤ) (total : ℤ) (vs us : List ℤ) → l ≤ length cs → IsSmallerAt l vs us → IsSmallerAt l vs (skewed cs total us)
smaller-second zero cs total vs us n h = absurd h
smaller-second (suc l) [] total vs us n h = absurd (omega (arith, n))
smaller-second (suc zero) (c ∷ cs) total [] us n h = absurd h
smaller-second (suc zero) (c ∷ cs) total (v ∷ vs) [] n h = absurd h
smaller-second (suc zero) (c ∷ cs) total (v ∷ vs) (u ∷ us) n h = h
smaller-second (suc (suc l)) (c ∷ cs) total [] us n h = absurd h
smaller-second (suc (suc l)) (c ∷ cs) total (v ∷ vs) [] n h = absurd h
smaller-second (suc (suc l)) (c ∷ cs) total (v ∷ vs) (u ∷ us) n h = (h.0, smaller-second (suc l) cs (total +ℤ (c *ℤ u)) vs us (omega (arith, n)) h.1)

agree-first : (n : ℕ) (cs : List ℤ) (total : ℤ) (vs us : List ℤ) → n ≤ length cs → AgreeOn n vs us → AgreeOn n (skewed cs total vs) us
agree-first zero cs total vs us n h = tt
agree-first (suc k) [] total vs us n h = absurd (omega (arith, n))
agree-first (suc k) (c ∷ cs) total [] us n h = absurd h
agree-first (suc k) (c ∷ cs) total (v ∷ vs) [] n h = absurd h
agree-first (suc k) (c ∷ cs) total (v ∷ vs) (u ∷ us) n h = (h.0, agree-first k cs (total +ℤ (c *ℤ v)) vs us (omega (arith, n)) h.1)

agree-second : (n : ℕ) (cs : List ℤ) (total : ℤ) (vs us : List ℤ) → n ≤ length cs → AgreeOn n vs us → AgreeOn n vs (skewed cs total us)
agree-second zero cs total vs us n h = tt
agree-second (suc k) [] total vs us n h = absurd (omega (arith, n))
agree-second (suc k) (c ∷ cs) total [] us n h = absurd h
agree-second (suc k) (c ∷ cs) total (v ∷ vs) [] n h = absurd h
agree-second (suc k) (c ∷ cs) total (v ∷ vs) (u ∷ us) n h = (h.0, agree-second k cs (total +ℤ (c *ℤ u)) vs us (omega (arith, n)) h.1)

carried-first : (c : Carrier) (cs : List ℤ) (ps : List ℕ) (vs : List ℤ) (qs : List ℕ) (us : List ℤ) → shared ps qs ≤ length cs → IsCarried c ps vs qs us → IsCarried c ps (skewed cs (pos 0) vs) qs us
carried-first (loop l) cs ps vs qs us n h = (h.0, smaller-first l cs (pos 0) vs us (let a = h.0 in omega (arith, n, a)) h.1)
carried-first text cs ps vs qs us n h = (agree-first (shared ps qs) cs (pos 0) vs us n h.0, h.1)

carried-second : (c : Carrier) (cs : List ℤ) (ps : List ℕ) (vs : List ℤ) (qs : List ℕ) (us : List ℤ) → shared ps qs ≤ length cs → IsCarried c ps vs qs us → IsCarried c ps vs qs (skewed cs (pos 0) us)
carried-second (loop l) cs ps vs qs us n h = (h.0, smaller-second l cs (pos 0) vs us (let a = h.0 in omega (arith, n, a)) h.1)
carried-second text cs ps vs qs us n h = (agree-second (shared ps qs) cs (pos 0) vs us n h.0, h.1)

-- ---- loops that are shared by two of three statements
shared-through : (l : ℕ) (ns ps qs : List ℕ) → l ≤ shared ns ps → l ≤ shared ps qs → l ≤ shared ns qs
shared-through zero ns ps qs a b = omega arith
shared-through (suc l) [] ps qs a b = absurd (omega (arith, a))
shared-through (suc l) (n ∷ []) ps qs a b = absurd (omega (arith, a))
shared-through (suc l) (n ∷ n' ∷ ns) [] qs a b = absurd (omega (arith, a))
shared-through (suc l) (n ∷ n' ∷ ns) (p ∷ []) qs a b = absurd (omega (arith, a))
shared-through (suc l) (n ∷ n' ∷ ns) (p ∷ p' ∷ ps) [] a b = absurd (omega (arith, b))
shared-through (suc l) (n ∷ n' ∷ ns) (p ∷ p' ∷ ps) (q ∷ []) a b = absurd (omega (arith, b))
shared-through (suc l) (n ∷ n' ∷ ns) (p ∷ p' ∷ ps) (q ∷ q' ∷ qs) a b = by (nat_eq n p) (nat_eq p q) refl refl a b (shared-through l (n' ∷ ns) (p' ∷ ps) (q' ∷ qs))
  where
    by : (x y : Bool) → nat_eq n p ≡ x → nat_eq p q ≡ y → suc l ≤ cond x (suc (shared (n' ∷ ns) (p' ∷ ps))) 0 → suc l ≤ cond y (suc (shared (p' ∷ ps) (q' ∷ qs))) 0
        → (l ≤ shared (n' ∷ ns) (p' ∷ ps) → l ≤ shared (p' ∷ ps) (q' ∷ qs) → l ≤ shared (n' ∷ ns) (q' ∷ qs)) → suc l ≤ shared (n ∷ n' ∷ ns) (q ∷ q' ∷ qs)
    by false y e f a b h = absurd (omega (arith, a))
    by true false e f a b h = absurd (omega (arith, b))
    by true true e f a b h = (let c = h (omega (arith, a)) (omega (arith, b)) in let d = eqb-true n p e ∙ eqb-true p q f in rw (eq-eqb n q d) (omega (arith, c)))

shared-turned : (ps qs : List ℕ) → shared ps qs ≡ shared qs ps
shared-turned [] [] = refl
shared-turned [] (q ∷ []) = refl
shared-turned [] (q ∷ q' ∷ qs) = refl
shared-turned (p ∷ []) [] = refl
shared-turned (p ∷ []) (q ∷ []) = refl
shared-turned (p ∷ []) (q ∷ q' ∷ qs) = refl
shared-turned (p ∷ p' ∷ ps) [] = refl
shared-turned (p ∷ p' ∷ ps) (q ∷ []) = refl
shared-turned (p ∷ p' ∷ ps) (q ∷ q' ∷ qs) = by (nat_eq p q) (nat_eq q p) refl refl (shared-turned (p' ∷ ps) (q' ∷ qs))
  where
    by : (x y : Bool) → nat_eq p q ≡ x → nat_eq q p ≡ y → shared (p' ∷ ps) (q' ∷ qs) ≡ shared (q' ∷ qs) (p' ∷ ps) → cond x (suc (shared (p' ∷ ps) (q' ∷ qs))) 0 ≡ cond y (suc (shared (q' ∷ qs) (p' ∷ ps))) 0
    by true true e f h = ap (λ (n : ℕ). suc n) h
    by false false e f h = refl
    by true false e f h = absurd (let d : nat_eq q p ≡ true = eq-eqb q p (sym (eqb-true p q e)) in let x : true ≡ false = sym d ∙ f in cc)
    by false true e f h = absurd (let d : nat_eq p q ≡ true = eq-eqb p q (sym (eqb-true q p f)) in let x : true ≡ false = sym d ∙ e in cc)

-- ---- what the pieces give
unskewed-map : (q : List ℤ) (cs : List ℤ) (total : Aff) (fs : List Aff) → map (value q) (unskewed_forms cs total fs) ≡ unskewed cs (value q total) (map (value q) fs)
unskewed-map q cs total [] = refl
unskewed-map q [] total (f ∷ fs) = let e : value q (less f total) ≡ value q f +ℤ neg_ℤ (value q total) = (let a = value-less q f total in omega (arith, ints)) in ap (λ (x : ℤ). x ∷ map (value q) fs) e
unskewed-map q (c ∷ cs) total (f ∷ fs) =
    let e : value q (sum total (times c f)) ≡ value q total +ℤ (c *ℤ value q f) = value-sum q total (times c f) ∙ ap (λ (x : ℤ). value q total +ℤ x) (value-times q c f) in
    ap (λ (xs : List ℤ). value q f ∷ xs) (unskewed-map q cs (sum total (times c f)) fs ∙ ap (λ (s : ℤ). unskewed cs s (map (value q) fs)) e)

-- the level values of an instance after `skew`
after_skew : Bool → List ℤ → List ℤ → List ℤ
after_skew b coefs vs = cond b (skewed coefs (pos 0) vs) vs

-- a piece of `skew`, with the flag of its statement
record IsOfSkew (params : ℕ) (coefs : List ℤ) (first : Nest) (b : Bool) (n : Nest) (p : Piece) : Type 0 where
  flag : b ≡ shares_loop (suc (length coefs)) first n
  is : p ≡ piece_of params (cond b (Skew (suc (length coefs)) coefs) Stay) n

all-of-skew : (params : ℕ) (coefs : List ℤ) (first : Nest) (ns : List Nest)
    → AllHave (IsOfSkew params coefs first) (sharers (suc (length coefs)) first ns) ns (affine.pieces_of params (Skew (suc (length coefs)) coefs) (sharers (suc (length coefs)) first ns) ns)
all-of-skew params coefs first [] = tt
all-of-skew params coefs first (n ∷ ns) = (λ p a. record { flag = refl; is = only-one p _ a }, all-of-skew params coefs first ns)

module _ (i : Input) (coefs : List ℤ) (first : Nest) (x : Move) (deep : length (x.old).positions ≡ suc (length (x.old).levels)) where
  -- its positions stay, and its level values are skewed where it shares the loop
  gives-skewed : (b : Bool) → IsOfSkew (length i.params) coefs first b x.old x.piece → (vs ws : List ℤ) → Gives i x vs ws → ((x.piece).positions ≡ (x.old).positions) × (ws ≡ after_skew b coefs vs)
  unfolding piece_of new_positions after_skew
  gives-skewed b h vs ws g = by b h refl
    where
      ts : List ℤ
      ts = term_values i (x.new).terms (i.params ++ ws)

      q : List ℤ
      q = i.params ++ (ws ++ ts)

      d : ℕ
      d = length (x.old).levels

      likes : (fs : List Aff) → Pairwise IsLike (x.piece).old fs → map (value q) fs ≡ vs
      likes fs h = pairs-map IsLike (value q) (value q) (λ f k l. sym (like-value q f k l)) (x.piece).old fs h ∙ g.old

      stays : (x.piece).positions ≡ (x.old).positions → length ws ≡ d
      stays e = (let a = instance-depth (x.piece).positions ws g.instance in let l = ap (λ (ps : List ℕ). length ps) e in let c = deep in omega (arith, a, l, c))

      levels : length ws ≡ d → map (value q) (variables (length i.params) d) ≡ ws
      levels e = subst (λ (n : ℕ). map (value q) (variables (length i.params) n) ≡ ws) e (value-variables i.params ws ts)

      by : (c : Bool) → IsOfSkew (length i.params) coefs first c x.old x.piece → b ≡ c → ((x.piece).positions ≡ (x.old).positions) × (ws ≡ after_skew c coefs vs)
      by false k e = (
          let at : (x.piece).positions ≡ (x.old).positions = ap (λ (p : Piece). p.positions) k.is in
          let like = subst (λ (p : Piece). Pairwise IsLike p.old (variables (length i.params) d)) (sym k.is) (placed_pieces (length i.params) x.old []).0.old in
          (at, sym (levels (stays at)) ∙ likes (variables (length i.params) d) like))
      by true k e = (
          let at : (x.piece).positions ≡ (x.old).positions = ap (λ (p : Piece). p.positions) k.is in
          let in_loop : suc (length coefs) ≤ shared first.positions (x.old).positions = leb-true _ _ (sym k.flag) in
          let within : length coefs < d = (let s = shared-second_below first.positions (x.old).positions (let c = deep in omega (arith, c)) in let c = deep in omega (arith, in_loop, s, c)) in
          let fs : List Aff = unskewed_forms coefs (number (pos 0)) (variables (length i.params) d) in
          let like = subst (λ (p : Piece). Pairwise IsLike p.old fs) (sym k.is) (skew_piece (length i.params) coefs x.old within).old in
          let back : unskewed coefs (pos 0) ws ≡ vs = (
          sym (ap (λ (l : List ℤ). unskewed coefs (pos 0) l) (levels (stays at))) ∙ sym (unskewed-map q coefs (number (pos 0)) (variables (length i.params) d)) ∙ likes fs like) in
          (at, sym (skewed-forth coefs (pos 0) ws) ∙ ap (skewed coefs (pos 0)) back))

-- ---- two instances
module _ (coefs : List ℤ) (first ps qs : List ℕ) (vs us : List ℤ) where
  abbrev level : ℕ
  level = suc (length coefs)

  skewed-instance : (rs : List ℕ) (xs : List ℤ) → IsInstance rs xs → IsInstance rs (skewed coefs (pos 0) xs)
  skewed-instance rs xs i = instance_of rs (skewed coefs (pos 0) xs) (instance-depth rs xs i ∙ ap (λ (n : ℕ). suc n) (sym (skewed-length coefs (pos 0) xs)))

  few-shared : (b : Bool) → nat_le level (shared ps qs) ≡ b → (nat_le level (shared ps qs) ≡ true → ⊥) → shared ps qs ≤ length coefs
  few-shared true e h = absurd (h e)
  few-shared false e h = let a = leb-false level (shared ps qs) e in omega (arith, a)

  order-kept : (b c : Bool) → nat_le level (shared first ps) ≡ b → nat_le level (shared first qs) ≡ c → IsInstance ps vs → IsInstance qs us → (d : Carrier) → IsCarried d ps vs qs us
      → IsBefore (place ps (after_skew b coefs vs)) (place qs (after_skew c coefs us))
  unfolding after_skew
  order-kept true true e f i j d h = skew-order coefs ps vs qs us i j (carried_before d ps vs qs us i j h)
  order-kept false false e f i j d h = carried_before d ps vs qs us i j h
  order-kept true false e f i j d h =
      let apart : nat_le level (shared ps qs) ≡ true → ⊥ = λ g. (
      let a = shared-through level first ps qs (leb-true level _ e) (leb-true level _ g) in let b = leb-false level (shared first qs) f in omega (arith, a, b)) in
      let n = few-shared (nat_le level (shared ps qs)) refl apart in
      carried_before d ps (skewed coefs (pos 0) vs) qs us (skewed-instance ps vs i) j (carried-first d coefs ps vs qs us n h)
  order-kept false true e f i j d h =
      let apart : nat_le level (shared ps qs) ≡ true → ⊥ = λ g. (
      let t = shared-turned ps qs in let m = leb-true level (shared ps qs) g in
      let a = shared-through level first qs ps (leb-true level _ f) (omega (arith, m, t)) in let b = leb-false level (shared first ps) e in omega (arith, a, b)) in
      let n = few-shared (nat_le level (shared ps qs)) refl apart in
      carried_before d ps vs qs (skewed coefs (pos 0) us) i (skewed-instance qs us j) (carried-second d coefs ps vs qs us n h)

after-length : (b : Bool) (coefs vs : List ℤ) → length (after_skew b coefs vs) ≡ length vs
unfolding after_skew
after-length true coefs vs = skewed-length coefs (pos 0) vs
after-length false coefs vs = refl

-- ---- the command
shape-level : (a b : Bool) (rest : Option ShapeWhy) → cond a (Some NoLoop) (cond (not b) (Some NotPermutation) rest) ≡ None → b ≡ true
shape-level true b rest e = absurd cc
shape-level false true rest e = refl
shape-level false false rest e = absurd cc

judged-none : {A : Type 0} (o : Option ShapeWhy) (x y : A) → judged o x ≡ Ok y → o ≡ None
judged-none None x y e = refl
judged-none (Some why) x y e = absurd cc

module _ (k : Kernel) (m : Moves) (i : Input) (moves : List Move) (coefs : List ℤ) (first : Nest) (count : length i.params ≡ length k.head.params) (shaped : IsShaped k)
    (is : moves_of k (Skew (suc (length coefs)) coefs) (sharers (suc (length coefs)) first k.nests) ≡ m) (made : moves_of_all (length k.head.params) k.nests m.pieces ≡ Ok moves) where
  abbrev params : ℕ
  params = length k.head.params

  of_skew : (x : Move) → IsIn x moves → IsIn x.old k.nests × (b : Bool) × IsOfSkew params coefs first b x.old x.piece
  of_skew x a =
      let all = subst (λ (n : Moves). AllHave (IsOfSkew params coefs first) n.applies k.nests n.pieces) is (all-of-skew params coefs first k.nests) in
      let f = find params (IsOfSkew params coefs first) m.applies k.nests m.pieces moves all (in_order k shaped) made x a in
      (f.0, _, f.1)

  stay : AllStay i moves
  stay x y vs ws us zs c d a b g h old new =
      let one = of_skew x a in
      let two = of_skew y b in
      let deep = (each-in (IsShapedNest k.head) k.nests x.old shaped.nests one.0).positions in
      let other_deep = (each-in (IsShapedNest k.head) k.nests y.old shaped.nests two.0).positions in
      let p = gives-skewed i coefs first x deep one.1 (subst (λ (n : ℕ). IsOfSkew n coefs first one.1 x.old x.piece) (sym count) one.2) vs ws g in
      let q = gives-skewed i coefs first y other_deep two.1 (subst (λ (n : ℕ). IsOfSkew n coefs first two.1 y.old y.piece) (sym count) two.2) us zs h in
      let at : IsInstance (x.old).positions vs = instance_of (x.old).positions vs (sym (ap (λ (l : List ℕ). length l) p.0) ∙ instance-depth (x.piece).positions ws g.instance ∙ ap (λ (l : List ℤ). suc (length l)) p.1
      ∙ ap (λ (n : ℕ). suc n) (after-length one.1 coefs vs)) in
      let other_at : IsInstance (y.old).positions us = instance_of (y.old).positions us (sym (ap (λ (l : List ℕ). length l) q.0) ∙ instance-depth (y.piece).positions zs h.instance ∙ ap (λ (l : List ℤ). suc (length l)) q.1
      ∙ ap (λ (n : ℕ). suc n) (after-length two.1 coefs us)) in
      let forth = order-kept coefs first.positions (x.old).positions (y.old).positions vs us one.1 two.1 (sym one.2.flag) (sym two.2.flag) at other_at c old in
      let here = place (x.piece).positions ws in
      let there = place (y.piece).positions zs in
      let forth_now : IsBefore here there =
      subst₂ (λ (v w : List ℤ). IsBefore v w) (ap (λ (l : List ℕ). place l (after_skew one.1 coefs vs)) (sym p.0) ∙ ap (λ (l : List ℤ). place (x.piece).positions l) (sym p.1))
      (ap (λ (l : List ℕ). place l (after_skew two.1 coefs us)) (sym q.0) ∙ ap (λ (l : List ℤ). place (y.piece).positions l) (sym q.1)) forth in
      let back = carried_before d (y.piece).positions zs (x.piece).positions ws h.instance g.instance new in
      order_of_places.irreflexive here (order_of_places.transitive here there here forth_now back)

at-level : (k : Kernel) (m : Moves) (i : Input) (moves : List Move) (l : ℕ) (coefs : List ℤ) (first : Nest) → length i.params ≡ length k.head.params → IsShaped k
    → l ≡ suc (length coefs) → moves_of k (Skew l coefs) (sharers l first k.nests) ≡ m → moves_of_all (length k.head.params) k.nests m.pieces ≡ Ok moves → AllStay i moves
at-level k m i moves l coefs first count shaped e is made =
    stay k m i moves coefs first count shaped (subst (λ (n : ℕ). moves_of k (Skew n coefs) (sharers n first k.nests) ≡ m) e is) made

pub skew_changes_none : SkewChangesNone
skew_changes_none k m i moves s l coefs count shaped e made = by (slice_get k.nests s) e
  where
    by : (n : Option Nest) → affine.skew_at k n l coefs ≡ Ok (Some m) → AllStay i moves
    by None e = absurd cc
    by (Some n) e =
        at-level k m i moves l coefs n count shaped
        (eqb-true l (suc (length coefs)) (shape-level (not (is_level (length n.levels) l)) (nat_eq l (suc (length coefs))) _ (judged-none (skew_shape n l coefs) _ (Some m) e)))
        (unless-some (list_all is_zero coefs) _ m (judged-ok (skew_shape n l coefs) _ (Some m) e)) made
