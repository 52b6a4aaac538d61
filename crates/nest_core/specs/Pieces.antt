-- What statements become by pieces.
use Rattle.std.specs.Prelude.{ℕ, zero, suc, List, [], ◌∷◌, length, take, drop, ℤ, pos, cond, nat_eq, Option, Some, None, slice_get, Result, Ok, Bool, true, false}
use Rattle.std.specs.Ordering.{int_eq}
use Rattle.std.specs.List.{list_any}
use Rattle.int_rows.specs.declared.row.Aff.{Aff}
use Rattle.int_rows.specs.declared.row.Excess.{Excess}
use Rattle.nest_tree.specs.declared.body.Access.{Access}
use Rattle.nest_tree.specs.declared.body.Body.{Body, fold-Body}
use Rattle.nest_tree.specs.declared.body.Body.TheVariants.{Const, At, Plus, Minus, Times}
use Rattle.nest_tree.specs.declared.body.Body.TheOpen.{Body-F, Const as Const-F, At as At-F, Plus as Plus-F, Minus as Minus-F, Times as Times-F}
use Rattle.nest_tree.specs.declared.kernel.Nest.{Nest}
use Rattle.nest_tree.specs.declared.kernel.Term.{Term}
use Rattle.nest_tree.specs.declared.kernel.KernelRow.{KernelRow}
use Rattle.nest_tree.specs.declared.kernel.Kernel.{Kernel}
use Rattle.nest_tree.specs.declared.moves.Piece.{Piece}
use Rattle.nest_tree.specs.declared.moves.Moves.{Moves}
use Rattle.nest_core.specs.declared.form.Frame.{Frame}
use Rattle.nest_core.specs.Making.{after, each_made, pair_made, both_lists}
use Rattle.nest_core.specs.Forms.{rewritten, judged_form}
use Rattle.nest_core.specs.Order.{numbered, in_text_order}

-- the cell with each subscript made anew
abbrev pub access_made : {E : Type 0} → (Aff → Result Aff E) → Access → Result Access E
access_made f a = after (each_made f a.at) (λ at. Ok (record { array = a.array; at = at }))

abbrev pub both_made : {E : Type 0} → (Body → Body → Body) → Result Body E → Result Body E → Result Body E
both_made op a b = after (pair_made a b) (λ p. Ok (op p.0 p.1))

-- the right side with each subscript made anew, from the left
abbrev pub body_layer : {E : Type 0} → (Aff → Result Aff E) → Body-F (Result Body E) → Result Body E
body_layer f (Const-F c) = Ok (Const c)
body_layer f (At-F a) = after (access_made f a) (λ b. Ok (At b))
body_layer f (Plus-F a b) = both_made Plus a b
body_layer f (Minus-F a b) = both_made Minus a b
body_layer f (Times-F a b) = both_made Times a b

unfoldable pub body_made : {E : Type 0} → (Aff → Result Aff E) → Body → Result Body E
body_made {E} f = fold-Body (Result Body E) (body_layer f)

-- of the numbers from place q on, counted from 1, the last that isn't 0, or else `found`
abbrev pub last_held : ℕ → ℕ → List ℤ → ℕ
last_held q found [] = found
last_held q found (z ∷ zs) = last_held (suc q) (cond (int_eq z (pos 0)) found (suc q)) zs

abbrev pub coefs_of : Option Aff → List ℤ
coefs_of (Some f) = f.coefs
coefs_of None = []

-- the new own level of a row: the last new level in the form of its old own level; a guard has none
unfoldable pub own_made : Frame → List Aff → ℕ → ℕ
own_made s old zero = 0
own_made s old (suc l) = last_held 0 0 (take s.new_levels (drop s.params (coefs_of (slice_get old l))))

-- the row rewritten
abbrev pub row_made : Frame → List Aff → KernelRow → Result KernelRow Excess
row_made s old r = after (rewritten s old r.row.form) (λ f. Ok (record { row = record { equal = r.row.equal; form = f }; own = own_made s old r.own }))

-- the row as it is
abbrev pub row_judged : KernelRow → Result KernelRow Excess
row_judged r = after (judged_form r.row.form) (λ f. Ok (record { row = record { equal = r.row.equal; form = f }; own = r.own }))

-- the rows from place i on that aren't dropped
abbrev pub kept : List ℕ → ℕ → List KernelRow → List KernelRow
kept drops i [] = []
kept drops i (r ∷ rows) = cond (list_any (λ n. nat_eq n i) drops) (kept drops (suc i) rows) (r ∷ kept drops (suc i) rows)

abbrev pub term_made : (Aff → Result Aff Excess) → Term → Result Term Excess
term_made f t = after (each_made f t.at) (λ at. Ok (record { array = t.array; at = at }))

-- how the variables of a statement's forms stand to those of a piece
abbrev pub frame_of : ℕ → Nest → Piece → Frame
frame_of params n p = record { params = params; levels = length n.levels; terms = length n.terms; new_levels = length p.levels; new_terms = length p.terms }

-- the statement that a piece makes: the rows, then the arguments of the terms, then the subscripts; it goes over its matrix as a whole only where the piece is the only one
unfoldable pub nest_of_piece : ℕ → Bool → Nest → Piece → Result Nest Excess
nest_of_piece params alone n p =
    let s = frame_of params n p in
    let f = rewritten s p.old in
    after (both_lists (each_made (row_made s p.old) (kept p.drops 0 n.rows)) (each_made row_judged p.rows)) (λ rows.
    after (both_lists (each_made (term_made f) n.terms) (each_made (term_made judged_form) p.terms)) (λ terms.
    after (access_made f n.target) (λ target.
    after (body_made f n.value) (λ value.
    Ok (record { levels = p.levels; positions = p.positions; terms = terms; rows = rows; target = target; how = n.how; value = value; whole = cond alone n.whole None })))))

abbrev pub is_one : {A : Type 0} → List A → Bool
is_one (x ∷ []) = true
is_one _ = false

-- the statements that the pieces of one statement make
abbrev pub pieces_made : ℕ → Nest → List Piece → Result (List Nest) Excess
pieces_made params n ps = each_made (nest_of_piece params (is_one ps) n) ps

-- the statements that the pieces of all statements make, by rising statement
abbrev pub nests_made : ℕ → List Nest → List (List Piece) → Result (List Nest) Excess
nests_made params [] _ = Ok []
nests_made params (n ∷ ns) [] = Ok []
nests_made params (n ∷ ns) (ps ∷ pss) = both_lists (pieces_made params n ps) (nests_made params ns pss)

-- the statements of the kernel after the moves, in textual order and with their positions counted anew
unfoldable pub moved_nests : Kernel → Moves → Result (List Nest) Excess
moved_nests k m = after (nests_made (length k.head.params) k.nests m.pieces) (λ ns. Ok (numbered (in_text_order ns)))

-- the kernel after the moves
abbrev pub kernel_made : Kernel → Moves → Result Kernel Excess
kernel_made k m = after (moved_nests k m) (λ ns. Ok (record { head = k.head; made = k.made; nests = ns }))
