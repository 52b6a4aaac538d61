-- The tiled loop, computed.
use Rattle.std.proofs.Common.{◌≡◌, inl, inr, List, [], ◌∷◌, map, length, refl, sym, ◌∙◌, ap, subst, arith, ℤ, pos, ◌≤ℤ◌, Bool, true, false}
use Rattle.std.specs.Prelude.{Result, Ok, None}
use Rattle.std.proofs.lemmas.Int.{ints}
use Rattle.int_rows.specs.declared.row.Excess.{Excess}
use Rattle.int_rows.specs.Rows.{Holds}
use Rattle.c_meaning.specs.Examples.{b, c, copy_loop}
use Rattle.c_meaning.specs.Ground.{Step}
use Rattle.c_meaning.specs.Inputs.{start}
use Rattle.c_meaning.specs.Listing as listing
use Rattle.c_meaning.specs.Listing.{scene_of}
use Rattle.c_meaning.proofs.Equations.{measure-Const, measure-Var, subscripts-One}
use Rattle.c_meaning.proofs.Parts.{listed-For, listed-Assign, ground-At as loaded-At}
use Rattle.nest_tree.specs.declared.body.Body.{Body}
use Rattle.nest_tree.specs.declared.kernel.KernelRow.{KernelRow}
use Rattle.nest_tree.specs.declared.kernel.Nest.{Nest}
use Rattle.nest_tree.specs.Forms.{value}
use Rattle.nest_tree.specs.Levels.{IsTiled}
use Rattle.nest_tree.specs.Lists.{IsIn, IsStrictlySorted}
use Rattle.nest_tree.specs.Places.{Item, Precedes}
use Rattle.nest_tree.specs.Terms.{Input}
use Rattle.nest_tree.specs.Kernels.{point, IsMet, IsPointOf}
use Rattle.nest_tree.specs.Moving.{Move, IsMovedList, IsOneToOne}
use Rattle.nest_tree.specs.Pieces.{IsTiledPiece}
use Rattle.nest_tree.specs.Rewriting.{IsRewritten}
use Rattle.nest_core.specs.Forms.{level_coefs, lifted, judged_sum, number_made, rewritten, number_judged, judged_form}
use Rattle.nest_core.specs.Making.{after, before, both_lists}
use Rattle.nest_core.specs.Order.{numbered}
use Rattle.nest_core.specs.Pieces.{own_made, frame_of, nest_of_piece}
use Rattle.nest_core.specs.Shapes.{IsShapedNest, FitsNest}
use Rattle.nest_core.proofs.Bodies.{at_ok, over_is-At}
use Rattle.nest_laws.specs.Acts.{act}
use Rattle.nest_laws.proofs.Acts.{ground-At}
use Rattle.nest_laws.proofs.Laws.{tile_law}
use Rattle.kernel_laws.specs.Laws.{IsPlain}
use Rattle.kernel_laws.proofs.Pieces.{rewrites}
use Rattle.source_limits.specs.Heads.{signature_of}
use Rattle.acceptance.specs.Accepted.{accepted, kernel_of, unless_refused}
use Rattle.acceptance.specs.Judged.{Judged}
use Rattle.worked_acceptance.specs.Examples.{copying}
use Rattle.worked_acceptance.proofs.Examples.{copy_accepted}
use Rattle.affine_moves.specs.Change.{old_at, place_of, padded, unit, of_two, tile_rows, old_form, new_rows, new_levels, new_positions, piece_of}
use Rattle.affine_moves.specs.Levels.{form_at}
use Rattle.affine_moves.specs.Moves.{waits_for, is_late, tile_moves}
use Rattle.worked_laws.proofs.Lists.{past_end, names_none, like_itself}
use Rattle.kernel_promise.specs.Seen.{seen}
use Rattle.kernel_promise.specs.Motions.{Motion, of_moves, moving}
use Rattle.kernel_promise.specs.Moved.{counted, in_order, moves_made}
use Rattle.kernel_promise.specs.Prescribed.{Items, IsMovedBy, items_of, IsPrescribed}
use Rattle.promise_laws.proofs.Levels.{tiled_levels}
use Rattle.promise_laws.proofs.Moved.{moves_kernel}
use Rattle.promise_laws.proofs.Prescribed.{one_prescribed}
use Rattle.worked_promise.specs.Tiled.{source, kernel, input, in_twos, tiling, inner, tiled, move, moves, copies, own_list, tiled_list, TiledLoop}
use Rattle.worked_promise.proofs.Pairs.{Levels, first, behind, chain-sorted, IsPair, old_item, new_item, moved}

-- ---- the source
is_accepted : accepted source ≡ Ok (kernel copying)
unfolding accepted
is_accepted =
    ap (λ (r : Judged). unless_refused r (kernel_of source)) copy_accepted.0
    ∙ ap (λ (ns : List Nest). unless_refused None (record { head = signature_of source; made = []; nests = ns })) copy_accepted.1

abbrev copied : ℤ → listing.Item Step
copied v = record { place = pos 0 ∷ v ∷ pos 0 ∷ []; step = copies v }

listed : listing.listing copy_loop (scene_of input.value (start source input)) ≡ record { items = copied (pos 0) ∷ copied (pos 1) ∷ copied (pos 2) ∷ []; trouble = None }
listed = simp (listed-For, measure-Const, measure-Var, listed-Assign, loaded-At, subscripts-One)

own_is : items_of source input ≡ own_list
own_is = ap (λ (l : listing.Listing). map (λ x. let o : Item Step = record { place = x.place; step = x.step } in o) l.items) listed

-- ---- the pieces of the command
finds : tile_moves (kernel copying) 0 1 2 1 ≡ Ok moves
unfolding old_at place_of padded unit of_two tile_rows old_form new_rows new_levels new_positions piece_of form_at waits_for is_late
finds = refl

-- the statement with its right side still to be made
abbrev with_value : Result Body Excess → Result Nest Excess
with_value r = after r (λ v. Ok (record { levels = tiled.levels; positions = tiled.positions; terms = []; rows = tiled.rows; target = tiled.target; how = tiled.how; value = v; whole = None }))

nest-made : nest_of_piece 1 true copying tiling ≡ Ok tiled
unfolding nest_of_piece own_made rewritten level_coefs lifted judged_sum number_made number_judged judged_form
nest-made = ap with_value (at_ok (rewritten (frame_of 1 copying tiling) tiling.old) copying.value _ (inner c) refl refl)

abbrev Made : Type 0
Made = Result (List Move) Excess

made : moves_made (kernel copying) moves ≡ Ok (move ∷ [])
unfolding numbered
made = ap (λ (r : Result Nest Excess). let done : Made = Ok [] in after (both_lists (before (after r (λ new. let m : Move = record { old = copying; piece = tiling; new = new } in Ok m)) done) done) (λ ms. let o : Made = Ok (counted (in_order ms)) in o)) nest-made

-- ---- the law of tiles says what the piece does
shaped : IsShapedNest (signature_of source) copying
shaped = record { positions = refl; depth = omega arith; rows = refl; terms = refl; target = refl; value = over_is-At 2 _; whole = refl }

fits : FitsNest 1 copying tiling
unfolding own_made
fits = record { counts = refl; positions = refl; depth = omega arith; old = refl; rows = refl; terms = refl; drops = refl; bounds = refl }

plain : IsPlain 1 tiling
plain = record { drops = refl; terms = refl; no_terms = names_none 3 tiling.old (omega arith, tt) }

is_rewritten : IsRewritten 1 move
is_rewritten = rewrites (signature_of source) copying tiling true tiled shaped fits plain nest-made

is_tiled : IsTiledPiece 1 (pos 2) 1 1 1 tiling
is_tiled = record { drops = refl; terms = refl; old = (like_itself _, tt); rows = (record { equal = refl; form = like_itself _ }, (record { equal = refl; form = like_itself _ }, tt)) }

abbrev three : Input
three = seen (kernel copying) input

one_to_one : IsOneToOne three move
one_to_one = tile_law three move 2 1 1 is_rewritten refl (omega arith) (omega arith) (omega arith) (omega arith) is_tiled

-- ---- the points
met : (v : ℤ) (r : KernelRow) → length ((r.row).form).coefs ≡ 2 → (r.row).equal ≡ false → pos 0 ≤ℤ value (point three copying (v ∷ [])) (r.row).form → IsMet three copying (v ∷ []) r
met v r l e h = record {
  readable = λ j m. absurd (m (past_end ((r.row).form).coefs 2 j (omega (arith, l))));
  holds = subst (λ (b : Bool). Holds b (value (point three copying (v ∷ [])) (r.row).form)) (sym e) h;
}

in_loop : (v : ℤ) → pos 0 ≤ℤ v → v ≤ℤ pos 2 → IsPointOf three copying (v ∷ [])
in_loop v a b = record { instance = tt; meets = each }
  where
    each : (r : KernelRow) → IsIn r copying.rows → IsMet three copying (v ∷ []) r
    each r (inl e) = subst (IsMet three copying (v ∷ [])) (sym e) (met v _ refl refl (omega (arith, ints)))
    each r (inr (inl e)) = subst (IsMet three copying (v ∷ [])) (sym e) (met v _ refl refl (omega (arith, ints)))
    each r (inr (inr e)) = absurd e

pair : (t v : ℤ) → IsPointOf three copying (v ∷ []) → IsTiled (pos 2) 1 1 (v ∷ []) (t ∷ v ∷ []) → IsPair three move one_to_one (v ∷ [], t ∷ v ∷ [])
pair t v p h = record { is_point = p; gives = (tiled_levels three move 2 1 1 is_rewritten refl (omega arith) (omega arith) (omega arith) (omega arith) is_tiled (v ∷ []) (t ∷ v ∷ []) p).1 h }

abbrev at : ℤ → ℤ → Levels
at t v = (v ∷ [], t ∷ v ∷ [])

abbrev pairs : List Levels
pairs = at (pos 0) (pos 0) ∷ at (pos 0) (pos 1) ∷ at (pos 1) (pos 2) ∷ []

abbrev Pair : Levels → Type 0
Pair p = IsPair three move one_to_one p

all_pairs : (p : Levels) → IsIn p pairs → Pair p
all_pairs p (inl e) = subst Pair (sym e) (pair (pos 0) (pos 0) (in_loop (pos 0) (omega (arith, ints)) (omega (arith, ints))) (record { longer = refl; stays = refl; tile = record { low = omega (arith, ints); high = omega (arith, ints) } }))
all_pairs p (inr (inl e)) = subst Pair (sym e) (pair (pos 0) (pos 1) (in_loop (pos 1) (omega (arith, ints)) (omega (arith, ints))) (record { longer = refl; stays = refl; tile = record { low = omega (arith, ints); high = omega (arith, ints) } }))
all_pairs p (inr (inr (inl e))) = subst Pair (sym e) (pair (pos 1) (pos 2) (in_loop (pos 2) (omega (arith, ints)) (omega (arith, ints))) (record { longer = refl; stays = refl; tile = record { low = omega (arith, ints); high = omega (arith, ints) } }))
all_pairs p (inr (inr (inr e))) = absurd e

-- ---- the lists
old_are : own_list ≡ map (old_item three move one_to_one) pairs
old_are = simp ground-At

new_are : map (new_item three move one_to_one) pairs ≡ tiled_list
new_are = simp ground-At

tiles_sorted : IsStrictlySorted Precedes tiled_list
tiles_sorted = chain-sorted (first tiled_list) (behind tiled_list) (inr (refl, inr (refl, inr (refl, inl (omega (arith, ints))))), (inr (refl, inl (omega (arith, ints))), tt))

moved_to_tiles : IsMovedList act three (move ∷ []) own_list tiled_list
moved_to_tiles =
    moved three move one_to_one pairs all_pairs own_list tiled_list old_are tiles_sorted
    (λ y a. subst (λ (l : List (Item Step)). IsIn y l) (sym new_are) a)
    (λ y a. subst (λ (l : List (Item Step)). IsIn y l) new_are a)

by_tile : IsMovedBy input (moving moves) (kernel copying) own_list (kernel tiled) tiled_list
by_tile = (move ∷ [], made, ((moves_kernel (kernel copying) moves).0 (move ∷ []) made).kernel, moved_to_tiles)

is_prescribed : IsPrescribed source (in_twos ∷ []) input tiled_list
is_prescribed = (
  kernel copying,
  kernel tiled,
  is_accepted,
  (
    kernel tiled,
    tiled_list,
    subst (λ (xs : Items). IsMovedBy input (in_twos (kernel copying)) (kernel copying) xs (kernel tiled) tiled_list) (sym own_is) (subst (λ (m : Motion). IsMovedBy input m (kernel copying) own_list (kernel tiled) tiled_list) (sym (ap of_moves finds)) by_tile),
    (refl, refl),
  ),
)

pub tiled_loop : TiledLoop
tiled_loop = (is_accepted, own_is, finds, made, is_tiled, is_prescribed, λ ys h. one_prescribed source (in_twos ∷ []) input ys tiled_list h is_prescribed)
