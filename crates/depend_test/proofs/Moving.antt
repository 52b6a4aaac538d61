-- Statements and what their pieces make of them, one after another.
use Rattle.std.proofs.lemmas.List.{take_more, take_all}
use Rattle.nest_tree.specs.declared.made.Made.{Made}
use Rattle.std.proofs.Common.{◌≡◌, ℕ, suc, ◌<◌, ◌≤◌, ◌+◌, Bool, false, List, [], ◌∷◌, ◌++◌, take, drop, length, get_or, refl, sym, ap, ◌∙◌, drop-cons, add-one}
use Rattle.std.specs.Prelude.{Result, Ok, Err}
use Rattle.std.specs.List.{AllByRecursion}
use Rattle.c_tree.specs.declared.program.Program.{Program}
use Rattle.int_rows.specs.declared.row.Excess.{Excess}
use Rattle.nest_tree.specs.declared.kernel.Nest.{Nest}
use Rattle.nest_tree.specs.declared.kernel.Kernel.{Kernel}
use Rattle.nest_tree.specs.declared.moves.Piece.{Piece}
use Rattle.nest_tree.specs.declared.moves.Moves.{Moves}
use Rattle.nest_core.specs.Pieces.{pieces_made, nests_made}
use Rattle.nest_core.specs.Making.{both_lists, each_made, before}
use Rattle.nest_core.specs.Shapes.{IsShaped, IsShapedNest, FitsNest, AllFit, Fits}
use Rattle.nest_core.proofs.Nests.{fit-lengths}
use Rattle.nest_core.proofs.Shaped.{nests_made-shaped}
use Rattle.depend_test.specs.declared.side.Moved.{Moved}
use Rattle.depend_test.specs.declared.side.Side.{Side}
use Rattle.depend_test.specs.Sides.{IsMoved, IsSideOf, AreSides, none, more, IsMovedBy, AreAllMoved, none as all-none, more as all-more, AreMoved}

pub each-push : {X : Type 0} (P : X → Type 0) (xs : List X) (x : X) → AllByRecursion P xs → P x → AllByRecursion P (xs ++ x ∷ [])
each-push P [] x a b = (b, tt)
each-push P (y ∷ xs) x a b = (a.0, each-push P xs x a.1 b)

append-nil' : {X : Type 0} (xs : List X) → xs ++ [] ≡ xs
append-nil' [] = refl
append-nil' (x ∷ xs) = ap (λ (ys : List _). x ∷ ys) (append-nil' xs)

both-none : (ms : List Nest) → both_lists {E = Excess} (Ok ms) (Ok []) ≡ Ok ms
both-none ms = ap (λ (ns : List Nest). Ok ns) (append-nil' ms)

-- the statements that the pieces of one statement make are shaped
pub pieces-shaped : (head : Program) (n : Nest) (ps : List Piece) (ms : List Nest) → IsShapedNest head n → AllByRecursion (FitsNest (length head.params) n) ps → 1 ≤ length ps
    → pieces_made (length head.params) n ps ≡ Ok ms → AllByRecursion (IsShapedNest head) ms
pieces-shaped head n ps ms s f some e =
    let made : nests_made (length head.params) (n ∷ []) (ps ∷ []) ≡ Ok ms =
    ap (λ (r : Result (List Nest) Excess). both_lists r (Ok [])) e ∙ both-none ms in
    let all = nests_made-shaped head (n ∷ []) (ps ∷ []) ms (s, tt) (some, f, tt) made in
    all.0

longer : {A B E : Type 0} (r : Result B E) (rs : Result (List B) E) (xs : List A) (ys : List B) → ((zs : List B) → rs ≡ Ok zs → length zs ≡ length xs) → before r rs ≡ Ok ys → length ys ≡ suc (length xs)
longer (Ok y) (Ok zs) xs ys h e = let k : ys ≡ y ∷ zs = cc in ap length k ∙ ap suc (h zs refl)
longer (Ok y) (Err z) xs ys h e = absurd (cc)
longer (Err z) rs xs ys h e = absurd (cc)

-- as many things are made as there are
pub made-length : {A B E : Type 0} (f : A → Result B E) (xs : List A) (ys : List B) → each_made f xs ≡ Ok ys → length ys ≡ length xs
made-length f [] [] e = refl
made-length f [] (y ∷ ys) e = absurd (cc)
made-length f (x ∷ xs) ys e = longer (f x) (each_made f xs) xs ys (made-length f xs) e

module _ (head : Program) (made : List Made) where
  -- a side more
  pub sides-more : (n : Nest) (ns : List Nest) (p : Piece) (ps : List Piece) (s : Side) (ss : List Side) → AreSides head made ns ps ss → IsSideOf head made n p.old s → AreSides head made (ns ++ n ∷ []) (ps ++ p ∷ []) (ss ++ s ∷ [])
  sides-more n _ p _ s _ none a = more n [] p [] s [] a none
  sides-more n _ p _ s _ (more m ms q qs t ts b w) a = more m (ms ++ n ∷ []) q (qs ++ p ∷ []) t (ts ++ s ∷ []) b (sides-more n ms p qs s ts w a)

  -- a statement more
  moved-more : (b : Bool) (bs : List Bool) (n : Nest) (ns : List Nest) (ps : List Piece) (pss : List (List Piece)) (m : Moved) (ms : List Moved) → AreAllMoved head made bs ns pss ms → IsMovedBy head made b n ps m
      → AreAllMoved head made (bs ++ b ∷ []) (ns ++ n ∷ []) (pss ++ ps ∷ []) (ms ++ m ∷ [])
  moved-more b _ n _ ps _ m _ none a = all-more b [] n [] ps [] m [] a all-none
  moved-more b _ n _ ps _ m _ (all-more d ds o os qs qss t ts u w) a =
      all-more d (ds ++ b ∷ []) o (os ++ n ∷ []) qs (qss ++ ps ∷ []) t (ts ++ m ∷ []) u (moved-more b ds n os ps qss m ts w a)

  -- the sides of the first statements
  pub sides-step : (nests : List Nest) (pieces : List Piece) (i : ℕ) (n : Nest) (p : Piece) (s : Side) (old new : List Side) → i < length nests → length nests ≡ length pieces → n ≡ get_or nests i n → p ≡ get_or pieces i p
      → new ≡ old ++ s ∷ [] → IsSideOf head made n p.old s → AreSides head made (take i nests) (take i pieces) old → AreSides head made (take (i + 1) nests) (take (i + 1) pieces) new
  sides-step nests pieces i n p s old new l w e f is a o =
      let k : take (i + 1) nests ≡ take i nests ++ n ∷ [] = take_more nests i n l ∙ ap (λ (x : Nest). take i nests ++ x ∷ []) (sym e) in
      let d : take (i + 1) pieces ≡ take i pieces ++ p ∷ [] = take_more pieces i p (rw (← w) l) ∙ ap (λ (x : Piece). take i pieces ++ x ∷ []) (sym f) in
      rw (k, d, is) (sides-more n (take i nests) p (take i pieces) s old o a)

  pub sides-all : (nests : List Nest) (pieces : List Piece) (i : ℕ) (all : List Side) → length nests ≤ i → length nests ≡ length pieces → AreSides head made (take i nests) (take i pieces) all → AreSides head made nests pieces all
  sides-all nests pieces i all l w a = rw (take_all i nests l, take_all i pieces (rw (← w) l)) at a

-- what the loop over all statements keeps at the i-th
pub record Making (k : Kernel) (m : Moves) (i : ℕ) (all : List Moved) : Type 0 where
  pub shaped : AllByRecursion (IsShapedNest k.head) (drop i k.nests)
  pub fit : AllFit (length k.head.params) (drop i k.nests) (drop i m.pieces)
  pub same : length m.pieces ≡ length k.nests
  pub applies : length m.applies ≡ length k.nests
  pub done : AllByRecursion (IsMoved (length k.head.params)) all
  pub moved : AreAllMoved k.head k.made (take i m.applies) (take i k.nests) (take i m.pieces) all

pub making-none : (k : Kernel) (m : Moves) → IsShaped k → Fits k m → Making k m 0 []
making-none k m s f = record { shaped = s.nests; fit = f.pieces; same = fit-lengths (length k.head.params) k.nests m.pieces f.pieces; applies = f.applies; done = tt; moved = all-none }

pub making-all : (k : Kernel) (m : Moves) (i : ℕ) (all : List Moved) → length k.nests ≤ i → Making k m i all → AreMoved k m all
making-all k m i all l w = rw (take_all i m.applies (rw w.applies l), take_all i k.nests l, take_all i m.pieces (rw w.same l)) at w.moved

module _ (k : Kernel) (m : Moves) (i : ℕ) (n : Nest) (ps : List Piece) (all : List Moved) (l : i < length k.nests) (e : n ≡ get_or k.nests i n) (d : ps ≡ get_or m.pieces i ps) (w : Making k m i all) where
  cons : drop i k.nests ≡ n ∷ drop (suc i) k.nests
  cons = drop-cons k.nests i n l ∙ ap (λ (a : Nest). a ∷ drop (suc i) k.nests) (sym e)

  cons' : drop i m.pieces ≡ ps ∷ drop (suc i) m.pieces
  cons' = drop-cons m.pieces i ps (rw w.same l) ∙ ap (λ (a : List Piece). a ∷ drop (suc i) m.pieces) (sym d)

  pub making-shaped : IsShapedNest k.head n
  making-shaped = let s = rw cons at w.shaped in s.0

  pub making-fit : AllByRecursion (FitsNest (length k.head.params) n) ps
  making-fit = let f = rw (cons, cons') at w.fit in f.1

  pub making-some : 1 ≤ length ps
  making-some = let f = rw (cons, cons') at w.fit in f.0

  pub making-more : (b : Bool) (x : Moved) (new : List Moved) → b ≡ get_or m.applies i false → IsMoved (length k.head.params) x → IsMovedBy k.head k.made b n ps x → new ≡ all ++ x ∷ [] → Making k m (i + 1) new
  making-more b x new a is by made =
      let s = rw cons at w.shaped in
      let f = rw (cons, cons') at w.fit in
      let ns : take (i + 1) k.nests ≡ take i k.nests ++ n ∷ [] = take_more k.nests i n l ∙ ap (λ (y : Nest). take i k.nests ++ y ∷ []) (sym e) in
      let pss : take (i + 1) m.pieces ≡ take i m.pieces ++ ps ∷ [] = take_more m.pieces i ps (rw w.same l) ∙ ap (λ (y : List Piece). take i m.pieces ++ y ∷ []) (sym d) in
      let bs : take (i + 1) m.applies ≡ take i m.applies ++ b ∷ [] = take_more m.applies i false (rw w.applies l) ∙ ap (λ (y : Bool). take i m.applies ++ y ∷ []) (sym a) in
      record {
        shaped = rw (add-one i) s.1;
        fit = rw (add-one i) f.2;
        same = w.same;
        applies = w.applies;
        done = rw made (each-push (IsMoved (length k.head.params)) all x w.done is);
        moved = rw (bs, ns, pss, made) (moved-more k.head k.made b (take i m.applies) n (take i k.nests) ps (take i m.pieces) x all w.moved by);
      }
