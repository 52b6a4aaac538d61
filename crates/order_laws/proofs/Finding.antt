-- The statement, and the piece, of a move to which a command doesn't apply.
use Rattle.std.proofs.Common.{◌≡◌, inl, inr, ℕ, Bool, false, cond, List, [], ◌∷◌, sym, ◌∙◌, ap, subst, subst₂, bytes_eq}
use Rattle.std.specs.Prelude.{length, Ok}
use Rattle.std.specs.List.{AllByRecursion}
use Rattle.std.proofs.lemmas.Slice.Eq.{bytes_eq-Decides}
use Rattle.nest_tree.specs.declared.kernel.Kernel.{Kernel}
use Rattle.nest_tree.specs.declared.kernel.Nest.{Nest}
use Rattle.nest_tree.specs.declared.moves.Moves.{Moves}
use Rattle.nest_tree.specs.declared.moves.Piece.{Piece}
use Rattle.nest_tree.specs.Lists.{IsIn, IsStrictlySorted}
use Rattle.nest_tree.specs.Moving.{Move}
use Rattle.nest_tree.specs.Pieces.{IsPlacedPiece}
use Rattle.nest_core.specs.Making.{each_made}
use Rattle.nest_core.specs.Pieces.{nest_of_piece, is_one}
use Rattle.nest_core.specs.Shapes.{IsShapedNest, IsShaped}
use Rattle.nest_core.proofs.Kept.{before_ok, after_ok, both_lists_ok}
use Rattle.nest_laws.proofs.Lists.{in_append}
use Rattle.move_laws.specs.Moves.{move_of, moves_of_one, moves_of_all}
use Rattle.tested_laws.specs.Testing.{flag_at, applies_to}
use Rattle.tested_laws.proofs.Ordered.{IsEarlier, told-apart, in_order}
use Rattle.order_laws.specs.Others.{StandAlike, LeaveOthers}

pub each-in : {A : Type 0} (P : A → Type 0) (xs : List A) (x : A) → AllByRecursion P xs → IsIn x xs → P x
each-in P [] x h a = absurd a
each-in P (y ∷ ys) x h (inl e) = subst P (sym e) h.0
each-in P (y ∷ ys) x h (inr a) = each-in P ys x h.1 a

-- a piece that leaves a statement at new positions
pub record Leaves (params : ℕ) (r : List ℕ → List ℕ) (n : Nest) (p : Piece) : Type 0 where
  pub placed : IsPlacedPiece params (length n.levels) p
  pub positions : p.positions ≡ r n.positions

-- each piece of a statement, with the flag of the statement, is such
abbrev pub AllHave : (Bool → Nest → Piece → Type 0) → List Bool → List Nest → List (List Piece) → Type 0
AllHave P bs [] pss = Unit
AllHave P bs (n ∷ ns) [] = Unit
AllHave P [] (n ∷ ns) (ps ∷ pss) = ⊥
AllHave P (b ∷ bs) (n ∷ ns) (ps ∷ pss) = ((p : Piece) → IsIn p ps → P b n p) × AllHave P bs ns pss

-- all pieces of each statement to which a command doesn't apply leave it
abbrev pub AllLeave : ℕ → (List ℕ → List ℕ) → List Bool → List Nest → List (List Piece) → Type 0
AllLeave params r = AllHave (λ b n p. b ≡ false → Leaves params r n p)

-- a move of one statement has a piece of it
one-move : (params : ℕ) (alone : Bool) (n : Nest) (ps : List Piece) (xs : List Move) → each_made (move_of params alone n) ps ≡ Ok xs → (x : Move) → IsIn x xs → (x.old ≡ n) × IsIn x.piece ps
one-move params alone n [] xs e x a = absurd (let is : xs ≡ [] = cc in subst (λ (l : List Move). IsIn x l) is a)
one-move params alone n (p ∷ ps) xs e x a =
    let b = before_ok (move_of params alone n p) (each_made (move_of params alone n) ps) xs e in
    elim (subst (λ (l : List Move). IsIn x l) b.2 a) [
      | inl y ↦ (
          let c = after_ok (nest_of_piece params alone n p) _ b.0 b.3 in
          let is : record { old = n; piece = p; new = c.0 } ≡ b.0 = cc in
          (ap (λ (m : Move). m.old) (y ∙ sym is), inl (ap (λ (m : Move). m.piece) (y ∙ sym is))))
      | inr z ↦ (let g = one-move params alone n ps b.1 b.4 x z in (g.0, inr g.1))
    ]

first-flag : (n : Nest) (ns : List Nest) (b : Bool) (bs : List Bool) (ps : List ℕ) → ps ≡ n.positions → flag_at (n ∷ ns) (b ∷ bs) ps ≡ b
first-flag n ns b bs ps e = ap (λ (c : Bool). cond c b (flag_at ns bs ps)) ((bytes_eq-Decides n.positions ps).1 (sym e))

further-flag : (n : Nest) (ns : List Nest) (b : Bool) (bs : List Bool) (ps : List ℕ) → bytes_eq n.positions ps ≡ false → flag_at (n ∷ ns) (b ∷ bs) ps ≡ flag_at ns bs ps
further-flag n ns b bs ps e = ap (λ (c : Bool). cond c b (flag_at ns bs ps)) e

module _ (params : ℕ) (P : Bool → Nest → Piece → Type 0) where
  pub find : (bs : List Bool) (ns : List Nest) (pss : List (List Piece)) (moves : List Move) → AllHave P bs ns pss → IsStrictlySorted IsEarlier ns → moves_of_all params ns pss ≡ Ok moves
      → (x : Move) → IsIn x moves → IsIn x.old ns × P (flag_at ns bs (x.old).positions) x.old x.piece
  find bs [] pss moves h s e x a = absurd (let is : moves ≡ [] = cc in subst (λ (l : List Move). IsIn x l) is a)
  find bs (n ∷ ns) [] moves h s e x a = absurd (let is : moves ≡ [] = cc in subst (λ (l : List Move). IsIn x l) is a)
  find [] (n ∷ ns) (ps ∷ pss) moves h s e x a = absurd h
  find (b ∷ bs) (n ∷ ns) (ps ∷ pss) moves h s e x a =
      let o = both_lists_ok (moves_of_one params n ps) (moves_of_all params ns pss) moves e in
      elim (in_append x o.0 o.1 (subst (λ (l : List Move). IsIn x l) o.4 a)) [
        | inl y ↦ (
            let c = one-move params (is_one ps) n ps o.0 o.2 x y in
            let flag : flag_at (n ∷ ns) (b ∷ bs) (x.old).positions ≡ b = first-flag n ns b bs (x.old).positions (ap (λ (w : Nest). w.positions) c.0) in
            (inl c.0, subst₂ (λ (f : Bool) (w : Nest). P f w x.piece) (sym flag) (sym c.0) (h.0 x.piece c.1)))
        | inr z ↦ (
            let g = find bs ns pss o.1 h.1 s.1 o.3 x z in
            let flag : flag_at (n ∷ ns) (b ∷ bs) (x.old).positions ≡ flag_at ns bs (x.old).positions = further-flag n ns b bs (x.old).positions (told-apart n.positions (x.old).positions (s.0 x.old g.0)) in
            (inr g.0, subst (λ (f : Bool). P f x.old x.piece) (sym flag) g.1))
      ]

pub leave_others : (k : Kernel) (m : Moves) (moves : List Move) (r : List ℕ → List ℕ) → IsShaped k → ((ps : List ℕ) → length (r ps) ≡ length ps) → ((ps qs : List ℕ) → StandAlike ps qs (r ps) (r qs))
    → AllLeave (length k.head.params) r m.applies k.nests m.pieces → moves_of_all (length k.head.params) k.nests m.pieces ≡ Ok moves → LeaveOthers (length k.head.params) (applies_to k m) moves
leave_others k m moves r shaped long alike h e =
    let found = find (length k.head.params) (λ b n p. b ≡ false → Leaves (length k.head.params) r n p) m.applies k.nests m.pieces moves h (in_order k shaped) e in
    let left = λ (x : Move) (a : IsIn x moves) (off : applies_to k m x ≡ false). (found x a).1 off in
    record {
      left = λ x a off. (
          let g = left x a off in
          let s = each-in (IsShapedNest k.head) k.nests x.old shaped.nests (found x a).0 in
          record { placed = g.placed; deep = ap (λ (ps : List ℕ). length ps) g.positions ∙ long (x.old).positions ∙ s.positions });
      alike = λ x y a b off away. subst₂ (λ (ps qs : List ℕ). StandAlike (x.old).positions (y.old).positions ps qs) (sym (left x a off).positions) (sym (left y b away).positions) (alike (x.old).positions (y.old).positions);
    }
