-- The moves that pieces make, and the kernel that they make.
use Rattle.std.proofs.Common.{◌≡◌, inl, inr, ℕ, suc, Bool, true, false, cond, List, [], ◌∷◌, ◌++◌, length, replicate, refl, sym, ◌∙◌, ap, subst, arith}
use Rattle.std.specs.Prelude.{Result, Ok, Err}
use Rattle.int_rows.specs.declared.row.Excess.{Excess}
use Rattle.nest_tree.specs.declared.kernel.Kernel.{Kernel}
use Rattle.nest_tree.specs.declared.kernel.Nest.{Nest}
use Rattle.nest_tree.specs.declared.moves.Moves.{Moves}
use Rattle.nest_tree.specs.declared.moves.Piece.{Piece}
use Rattle.nest_tree.specs.Lists.{IsIn}
use Rattle.nest_tree.specs.Moving.{Move}
use Rattle.nest_core.specs.Making.{after, before, each_made, both_lists}
use Rattle.nest_tree.specs.Carriers.{shared}
use Rattle.nest_core.specs.Order.{is_earlier, placed, placed_each, in_text_order, next_positions, numbered, numbered_after}
use Rattle.nest_core.specs.Pieces.{nest_of_piece, is_one, nests_made, moved_nests, kernel_made}
use Rattle.nest_laws.proofs.Lists.{in_append}
use Rattle.move_laws.specs.Moves.{move_of, moves_of_one, moves_of_all}
use Rattle.kernel_promise.specs.Moved.{put_in, in_order, new_nests, to_nest, to_nests, counted, moves_made}
use Rattle.promise_laws.specs.Moved.{with_nests, MakeKernel, MovesMakeKernel}
use Rattle.promise_laws.proofs.Prescribed.{one_value}

abbrev Nests : Type 0
Nests = Result (List Nest) Excess

-- the new statements of moves, where there are any
abbrev news : Result (List Move) Excess → Nests
news r = after r (λ ms. Ok (new_nests ms))

-- ---- the statements that are made are those of the moves
one-made : (params : ℕ) (alone : Bool) (n : Nest) (p : Piece) → nest_of_piece params alone n p ≡ after (move_of params alone n p) (λ m. Ok m.new)
one-made params alone n p = by (nest_of_piece params alone n p)
  where
    by : (r : Result Nest Excess) → r ≡ after (after r (λ new. let m : Move = record { old = n; piece = p; new = new } in Ok m)) (λ m. Ok m.new)
    by (Ok x) = refl
    by (Err e) = refl

each-made : (f : Piece → Result Nest Excess) (g : Piece → Result Move Excess) → ((p : Piece) → f p ≡ after (g p) (λ m. Ok m.new)) → (ps : List Piece) → each_made f ps ≡ news (each_made g ps)
each-made f g h [] = refl
each-made f g h (p ∷ ps) = ap (λ (r : Result Nest Excess). before r (each_made f ps)) (h p) ∙ ap (λ (r : Nests). before (after (g p) (λ m. Ok m.new)) r) (each-made f g h ps) ∙ by (g p) (each_made g ps)
  where
    by : (r : Result Move Excess) (s : Result (List Move) Excess) → before (after r (λ m. Ok m.new)) (news s) ≡ news (before r s)
    by (Ok m) (Ok ms) = refl
    by (Ok m) (Err e) = refl
    by (Err e) s = refl

map-append : (xs ys : List Move) → new_nests (xs ++ ys) ≡ new_nests xs ++ new_nests ys
map-append [] ys = refl
map-append (x ∷ xs) ys = ap (λ (l : List Nest). x.new ∷ l) (map-append xs ys)

both-made : (r s : Result (List Move) Excess) → both_lists (news r) (news s) ≡ news (both_lists r s)
both-made (Ok xs) (Ok ys) = ap (λ (l : List Nest). let o : Nests = Ok l in o) (sym (map-append xs ys))
both-made (Ok xs) (Err e) = refl
both-made (Err e) s = refl

all-made : (params : ℕ) (ns : List Nest) (pss : List (List Piece)) → nests_made params ns pss ≡ news (moves_of_all params ns pss)
all-made params [] pss = refl
all-made params (n ∷ ns) [] = refl
all-made params (n ∷ ns) (ps ∷ pss) =
    ap (λ (r : Nests). both_lists r (nests_made params ns pss)) (each-made (nest_of_piece params (is_one ps) n) (move_of params (is_one ps) n) (one-made params (is_one ps) n) ps)
    ∙ ap (λ (r : Nests). both_lists (news (moves_of_one params n ps)) r) (all-made params ns pss)
    ∙ both-made (moves_of_one params n ps) (moves_of_all params ns pss)

-- ---- they stand in the same order
put-placed : (m : Move) (xs : List Move) → new_nests (put_in m xs) ≡ placed m.new (new_nests xs)
put-placed m [] = refl
put-placed m (x ∷ xs) = by (is_earlier (x.new).positions (m.new).positions) (put-placed m xs)
  where
    by : (b : Bool) → new_nests (put_in m xs) ≡ placed m.new (new_nests xs) → new_nests (cond b (x ∷ put_in m xs) (m ∷ x ∷ xs)) ≡ cond b (x.new ∷ placed m.new (new_nests xs)) (m.new ∷ x.new ∷ new_nests xs)
    by true e = ap (λ (l : List Nest). x.new ∷ l) e
    by false e = refl

in-order : (ms : List Move) → new_nests (in_order ms) ≡ placed_each (new_nests ms) []
in-order [] = refl
in-order (m ∷ ms) = put-placed m (in_order ms) ∙ ap (placed m.new) (in-order ms)

-- ---- and at the same positions
to-nests : (ms : List Move) (ns : List Nest) → length ns ≡ length ms → new_nests (to_nests ms ns) ≡ ns
to-nests [] [] e = refl
to-nests [] (n ∷ ns) e = absurd (omega (arith, e))
to-nests (m ∷ ms) [] e = absurd (omega (arith, e))
to-nests (m ∷ ms) (n ∷ ns) e = ap (λ (l : List Nest). n ∷ l) (to-nests ms ns (omega (arith, e)))

after-length : (old new : List ℕ) (ns : List Nest) → length (numbered_after old new ns) ≡ length ns
after-length old new [] = refl
after-length old new (n ∷ ns) = ap (λ (k : ℕ). suc k) (after-length n.positions (next_positions (shared old n.positions) new (length n.positions)) ns)

numbered-length : (ns : List Nest) → length (numbered ns) ≡ length ns
unfolding numbered
numbered-length [] = refl
numbered-length (n ∷ ns) = ap (λ (k : ℕ). suc k) (after-length n.positions (replicate (length n.positions) 0) ns)

news-length : (ms : List Move) → length (new_nests ms) ≡ length ms
news-length [] = refl
news-length (m ∷ ms) = ap (λ (k : ℕ). suc k) (news-length ms)

new-counted : (ms : List Move) → new_nests (counted ms) ≡ numbered (new_nests ms)
new-counted ms = to-nests ms (numbered (new_nests ms)) (numbered-length (new_nests ms) ∙ news-length ms)

moved-nests : (k : Kernel) (m : Moves) → moved_nests k m ≡ news (moves_made k m)
unfolding moved_nests in_text_order
moved-nests k m =
    ap (λ (r : Nests). after r (λ ns. let o : Nests = Ok (numbered (in_text_order ns)) in o)) (all-made (length k.head.params) k.nests m.pieces)
    ∙ by (moves_of_all (length k.head.params) k.nests m.pieces)
  where
    by : (r : Result (List Move) Excess) → after (news r) (λ ns. let o : Nests = Ok (numbered (in_text_order ns)) in o) ≡ news (after r (λ ms. Ok (counted (in_order ms))))
    by (Ok ms) = ap (λ (l : List Nest). let o : Nests = Ok l in o) (ap numbered (sym (in-order ms)) ∙ sym (new-counted (in_order ms)))
    by (Err e) = refl

kernel-made : (k : Kernel) (m : Moves) → kernel_made k m ≡ after (news (moves_made k m)) (λ ns. Ok (with_nests k ns))
kernel-made k m = ap (λ (r : Nests). after r (λ ns. let o : Result Kernel Excess = Ok (with_nests k ns) in o)) (moved-nests k m)

-- ---- each move is of an old statement
abbrev AreOf : List Nest → Result (List Move) Excess → Type 0
AreOf ns (Ok ms) = (x : Move) → IsIn x ms → IsIn x.old ns
AreOf ns (Err e) = Unit

of-one : (params : ℕ) (alone : Bool) (n : Nest) (rest : List Nest) (ps : List Piece) → AreOf (n ∷ rest) (each_made (move_of params alone n) ps)
of-one params alone n rest [] = λ x a. absurd a
of-one params alone n rest (p ∷ ps) = by (nest_of_piece params alone n p) (each_made (move_of params alone n) ps) (of-one params alone n rest ps)
  where
    by : (r : Result Nest Excess) (s : Result (List Move) Excess) → AreOf (n ∷ rest) s → AreOf (n ∷ rest) (before (after r (λ new. let m : Move = record { old = n; piece = p; new = new } in Ok m)) s)
    by (Ok new) (Ok ms) h = λ x a. elim a [ inl e ↦ inl (ap (λ (m : Move). m.old) e) | inr b ↦ h x b ]
    by (Ok new) (Err e) h = tt
    by (Err e) s h = tt

of-more : (n : Nest) (ns : List Nest) (r : Result (List Move) Excess) → AreOf ns r → AreOf (n ∷ ns) r
of-more n ns (Ok ms) h = λ x a. inr (h x a)
of-more n ns (Err e) h = tt

of-both : (ns : List Nest) (r s : Result (List Move) Excess) → AreOf ns r → AreOf ns s → AreOf ns (both_lists r s)
of-both ns (Ok xs) (Ok ys) h g = λ x a. elim (in_append x xs ys a) [ inl b ↦ h x b | inr b ↦ g x b ]
of-both ns (Ok xs) (Err e) h g = tt
of-both ns (Err e) s h g = tt

of-all : (params : ℕ) (ns : List Nest) (pss : List (List Piece)) → AreOf ns (moves_of_all params ns pss)
of-all params [] pss = λ x a. absurd a
of-all params (n ∷ ns) [] = λ x a. absurd a
of-all params (n ∷ ns) (ps ∷ pss) =
    of-both (n ∷ ns) (moves_of_one params n ps) (moves_of_all params ns pss) (of-one params (is_one ps) n ns ps) (of-more n ns (moves_of_all params ns pss) (of-all params ns pss))

in-put : (x m : Move) (xs : List Move) → IsIn x (put_in m xs) → IsIn x (m ∷ xs)
in-put x m [] a = a
in-put x m (y ∷ xs) a = by (is_earlier (y.new).positions (m.new).positions) (in-put x m xs) a
  where
    by : (b : Bool) → (IsIn x (put_in m xs) → IsIn x (m ∷ xs)) → IsIn x (cond b (y ∷ put_in m xs) (m ∷ y ∷ xs)) → IsIn x (m ∷ y ∷ xs)
    by true h (inl e) = inr (inl e)
    by true h (inr b) = elim (h b) [ inl e ↦ inl e | inr c ↦ inr (inr c) ]
    by false h b = b

in-ordered : (x : Move) (ms : List Move) → IsIn x (in_order ms) → IsIn x ms
in-ordered x [] a = a
in-ordered x (m ∷ ms) a = elim (in-put x m (in_order ms) a) [ inl e ↦ inl e | inr b ↦ inr (in-ordered x ms b) ]

-- a counted move is of the statement of a move, and its piece has its statement's positions
record IsCounted (x : Move) (ms : List Move) : Type 0 where
  first : Move
  is_in : IsIn first ms
  old : x.old ≡ first.old
  positions : (x.new).positions ≡ (x.piece).positions

more-counted : (x m : Move) (ms : List Move) → IsCounted x ms → IsCounted x (m ∷ ms)
more-counted x m ms h = record { first = h.first; is_in = inr h.is_in; old = h.old; positions = h.positions }

first-counted : (x m : Move) (n : Nest) (ms : List Move) → x ≡ to_nest m n → IsCounted x (m ∷ ms)
first-counted x m n ms e = record { first = m; is_in = inl refl; old = ap (λ (y : Move). y.old) e; positions = ap (λ (y : Move). (y.new).positions) e ∙ sym (ap (λ (y : Move). (y.piece).positions) e) }

in-nests : (x : Move) (ms : List Move) (ns : List Nest) → IsIn x (to_nests ms ns) → IsCounted x ms
in-nests x [] ns a = absurd a
in-nests x (m ∷ ms) [] a = absurd a
in-nests x (m ∷ ms) (n ∷ ns) (inl e) = first-counted x m n ms e
in-nests x (m ∷ ms) (n ∷ ns) (inr a) = more-counted x m ms (in-nests x ms ns a)

in-news : (n : Nest) (ms : List Move) → IsIn n (new_nests ms) → (m : Move) × IsIn m ms × (n ≡ m.new)
in-news n [] a = absurd a
in-news n (m ∷ ms) (inl e) = (m, inl refl, e)
in-news n (m ∷ ms) (inr a) = let f = in-news n ms a in (f.0, inr f.1, f.2)

news-in : (m : Move) (ms : List Move) → IsIn m ms → IsIn m.new (new_nests ms)
news-in m [] a = absurd a
news-in m (x ∷ ms) (inl e) = inl (ap (λ (y : Move). y.new) e)
news-in m (x ∷ ms) (inr a) = inr (news-in m ms a)

-- each counted move, of those that the pieces make
abbrev AreCounted : List Nest → Result (List Move) Excess → Type 0
AreCounted ns r = (moves : List Move) → r ≡ Ok moves → (x : Move) → IsIn x moves → IsIn x.old ns × ((x.new).positions ≡ (x.piece).positions)

are-counted : (ns : List Nest) (r : Result (List Move) Excess) → AreOf ns r → AreCounted ns (after r (λ ms. Ok (counted (in_order ms))))
are-counted ns (Ok ms) h moves e x a =
    let c = in-nests x (in_order ms) (numbered (new_nests (in_order ms))) (subst (λ (l : List Move). IsIn x l) (one_value (Ok moves) moves (counted (in_order ms)) refl (sym e)) a) in
    (subst (λ (n : Nest). IsIn n ns) (sym c.old) (h c.first (in-ordered c.first ms c.is_in)), c.positions)
are-counted ns (Err f) h moves e x a = absurd cc

pub moves_kernel : MovesMakeKernel
moves_kernel k m = (makes, some (moves_made k m) refl)
  where
    makes : (moves : List Move) → moves_made k m ≡ Ok moves → MakeKernel k m moves
    makes moves e =
        let each = are-counted k.nests (moves_of_all (length k.head.params) k.nests m.pieces) (of-all (length k.head.params) k.nests m.pieces) moves e in record {
          kernel = kernel-made k m ∙ ap (λ (r : Result (List Move) Excess). after (news r) (λ ns. let o : Result Kernel Excess = Ok (with_nests k ns) in o)) e;
          made = record {
            of_kernel = λ x a. (each x a).0;
            of_moves = λ n a. in-news n moves a;
            all = λ x a. news-in x moves a;
          };
          positions = λ x a. (each x a).1;
        }

    some : (r : Result (List Move) Excess) → moves_made k m ≡ r → (new : Kernel) → kernel_made k m ≡ Ok new → (moves : List Move) × (moves_made k m ≡ Ok moves)
    some (Ok moves) e new g = (moves, e)
    some (Err f) e new g =
        let no : kernel_made k m ≡ Err f = kernel-made k m ∙ ap (λ (r : Result (List Move) Excess). after (news r) (λ ns. let o : Result Kernel Excess = Ok (with_nests k ns) in o)) e in
        absurd cc
