-- The shifted loop: all that is asked of it, and what the laws say of its lists.
use Rattle.std.proofs.Common.{◌≡◌, inl, inr, ℕ, zero, suc, ◌+◌, Bool, true, false, List, [], ◌∷◌, length, refl, sym, ◌∙◌, ap, subst, arith, ℤ, pos, ◌+ℤ◌, ◌≤ℤ◌, Ok}
use Rattle.std.proofs.lemmas.Int.{ints}
use Rattle.int_rows.specs.Rows.{Holds}
use Rattle.int_rows.specs.Systems.{excluded}
use Rattle.int_rows.specs.Exclusion.{exclusion, is_impossible}
use Rattle.int_rows.specs.Elimination.{elimination, made as rows_made, paired, canceled, outcome, reduced, merged, made_small}
use Rattle.int_rows.specs.Gcd.{gcd, gcd_of}
use Rattle.c_tree.specs.declared.statement.How.TheVariants.{Write}
use Rattle.c_meaning.specs.Ground.{Ground, Step}
use Rattle.nest_tree.specs.declared.kernel.Nest.{Nest}
use Rattle.nest_tree.specs.declared.kernel.KernelRow.{KernelRow}
use Rattle.nest_tree.specs.declared.body.Access.{Access}
use Rattle.nest_tree.specs.declared.body.Body.{Body}
use Rattle.nest_tree.specs.declared.body.Body.TheVariants.{Const, outs-Const}
use Rattle.nest_tree.specs.Lists.{IsIn}
use Rattle.nest_tree.specs.Places.{Item}
use Rattle.nest_tree.specs.Carriers.{Carrier, loop, text, IsListed}
use Rattle.nest_tree.specs.Forms.{coef, value}
use Rattle.nest_tree.specs.Terms.{Input}
use Rattle.nest_tree.specs.Kernels.{item_at, point, IsMet, IsPointOf, IsKernelList}
use Rattle.nest_tree.specs.Moving.{Move, IsMade, StandsFor, ArePieces, IsOneToOne}
use Rattle.nest_tree.specs.Rewriting.{variables_of, FitsWide, IsRewritten}
use Rattle.nest_tree.specs.Pieces.{IsShiftedPiece}
use Rattle.nest_tree.specs.Systems.{Clash, target_read, read_target, targets, IsRead, system, variables_count}
use Rattle.nest_laws.specs.Acts.{act}
use Rattle.nest_laws.specs.SystemLaws.{IsTested}
use Rattle.nest_laws.proofs.Acts.{ground-Const}
use Rattle.nest_laws.proofs.Clashes.{no_access}
use Rattle.nest_laws.proofs.Made.{made_nest, body_at}
use Rattle.nest_laws.proofs.Laws.{rewritten, shift_law, one_each, made_list}
use Rattle.nest_laws.proofs.Tested.{excluded_keep, tested_effect}
use Rattle.worked_laws.specs.Statements.{one_cell, input}
use Rattle.worked_laws.specs.Shift.{by_five, set_in, old_list, new_list, ShiftedLoop}
use Rattle.worked_laws.proofs.Lists.{only, distinct, past_end, names_none, like_itself, rewrites, two_points}
use Rattle.worked_laws.proofs.Pieces.{one_wide}

abbrev pub two : Input
two = input (pos 2)

abbrev pub moves : List Move
moves = by_five ∷ []

-- ---- the piece
fits : FitsWide 1 one_cell by_five.piece
fits = record { shape = refl; forms = refl; no_terms = names_none 2 (by_five.piece).old (omega arith, tt) }

made_is : made_nest 1 one_cell by_five.piece ≡ by_five.new
made_is = ap (λ (b : Body). with_value by_five.new b) (body_at (variables_of 1 one_cell by_five.piece) (Const 1) _ (outs-Const 1))
  where
    with_value : Nest → Body → Nest
    with_value k b = record { levels = k.levels; positions = k.positions; terms = k.terms; rows = k.rows; target = k.target; how = k.how; value = b; whole = k.whole }

pub is_rewritten : IsRewritten 1 by_five
is_rewritten = rewrites 1 one_cell by_five.piece by_five.new one_wide fits made_is

is_shift : IsShiftedPiece 1 1 (pos 5) 1 by_five.piece
is_shift = record { drops = refl; terms = refl; old = (like_itself _, tt); rows = tt }

one_to_one : IsOneToOne two by_five
one_to_one = shift_law two by_five 1 (pos 5) is_rewritten refl is_shift

stands : StandsFor act two by_five
stands = rewritten two by_five is_rewritten

pieces : ArePieces two moves (one_cell ∷ [])
pieces =
    one_each two moves (one_cell ∷ [])
    (λ m a. (by_five, inl refl, sym (only m one_cell a)))
    (λ m k a b e. only m by_five a ∙ sym (only k by_five b))
    (λ m a. subst (IsOneToOne two) (sym (only m by_five a)) one_to_one)
    (λ m k a b e. only m by_five a ∙ sym (only k by_five b))

made : IsMade moves (one_cell ∷ []) (by_five.new ∷ [])
made = record {
  of_kernel = λ m a. inl (ap (λ (k : Move). k.old) (only m by_five a));
  of_moves = λ n a. (by_five, inl refl, only n by_five.new a);
  all = λ m a. inl (ap (λ (k : Move). k.new) (only m by_five a));
}

-- ---- the test: the target alone conflicts, with itself, and the loop alone carries
reads_none : (a : Access) → IsRead a (by_five.new).value → ⊥
reads_none a h = no_access [] a (by_five.new).value 1 (ground-Const [] 1) h

clash_is : (a b : Access) → Clash by_five.new by_five.new a b → (a ≡ (by_five.new).target) × (b ≡ (by_five.new).target)
clash_is _ _ (target_read b h e) = absurd (reads_none b h)
clash_is _ _ (read_target a h e) = absurd (reads_none a h)
clash_is _ _ (targets e h) = (refl, refl)

carrier_is : (c : Carrier) → IsListed c (0 ∷ 0 ∷ []) (0 ∷ 0 ∷ []) → c ≡ loop 1
carrier_is (loop zero) h = absurd (omega (arith, h.0))
carrier_is (loop (suc zero)) h = refl
carrier_is (loop (suc (suc l))) h = absurd (omega (arith, h.1))
carrier_is text (inl h) = absurd (omega (arith, ints))
carrier_is text (inr (e, inl h)) = absurd (omega (arith, ints))
carrier_is text (inr (e, inr h)) = absurd h.1

abbrev target : Access
target = (by_five.new).target

abbrev IsExcluded : Move → Move → Access → Access → Carrier → Carrier → Type 0
IsExcluded m k a b c d = excluded (record { vars = variables_count (record { params = 1; first = m; second = k }); rows = system (record { params = 1; first = m; second = k }) [] a b c d }) ≡ Ok true

-- i < i' and i' < i can't be
one_excluded : IsExcluded by_five by_five target target (loop 1) (loop 1)
unfolding excluded exclusion is_impossible elimination rows_made paired canceled outcome reduced merged made_small gcd gcd_of
one_excluded = refl

at_target : (a b : Access) (c d : Carrier) → a ≡ target → b ≡ target → c ≡ loop 1 → d ≡ loop 1 → IsExcluded by_five by_five a b c d
at_target a b c d e f g h =
    subst (λ (x : Access). IsExcluded by_five by_five x b c d) (sym e) (subst (λ (x : Access). IsExcluded by_five by_five target x c d) (sym f)
    (subst (λ (x : Carrier). IsExcluded by_five by_five target target x d) (sym g) (subst (λ (x : Carrier). IsExcluded by_five by_five target target (loop 1) x) (sym h) one_excluded)))

alone_excluded : (a b : Access) (c d : Carrier) → Clash by_five.new by_five.new a b → IsListed c (0 ∷ 0 ∷ []) (0 ∷ 0 ∷ []) → IsListed d (0 ∷ 0 ∷ []) (0 ∷ 0 ∷ []) → IsExcluded by_five by_five a b c d
alone_excluded a b c d h x y = let k = clash_is a b h in at_target a b c d k.0 k.1 (carrier_is c x) (carrier_is d y)

abbrev Excludes : Move → Move → Type 0
Excludes m k = (a b : Access) (c d : Carrier) → Clash m.new k.new a b → IsListed c (m.old).positions (k.old).positions → IsListed d (k.piece).positions (m.piece).positions → IsExcluded m k a b c d

all_excluded : (m k : Move) → m ≡ by_five → k ≡ by_five → Excludes m k
all_excluded m k e f = subst (λ (x : Move). Excludes x k) (sym e) (subst (λ (x : Move). Excludes by_five x) (sym f) alone_excluded)

pub tested : IsTested two moves (λ m. true) (λ m k. []) (one_cell ∷ []) (by_five.new ∷ [])
tested = record {
  made = made;
  stands = λ m a. subst (StandsFor act two) (sym (only m by_five a)) stands;
  pieces = pieces;
  distinct = distinct one_cell;
  shapes = λ m a. ap (λ (k : Move). length (k.piece).positions) (only m by_five a) ∙ sym (ap (λ (k : Move). suc (length (k.piece).levels)) (only m by_five a));
  further_rows = λ m k ws zs a b p q. tt;
  subscripts = λ m k a b i j h. (
      let e : m ≡ by_five = only m by_five i in
      let f : k ≡ by_five = only k by_five j in
      let c = clash_is a b (subst (λ (x : Move). Clash by_five.new x.new a b) f (subst (λ (x : Move). Clash x.new k.new a b) e h)) in
      (ap (λ (x : Access). length x.at) c.0 ∙ sym (ap (λ (x : Access). length x.at) c.1), (let l : length a.at ≡ 1 = ap (λ (x : Access). length x.at) c.0 in omega arith)));
  excluded = λ m k a b c d i j h cl lc ld. all_excluded m k (only m by_five i) (only k by_five j) a b c d cl lc ld;
  others = λ m k vs ws us zs i j h g x y o. absurd cc;
}

-- ---- the lists
-- a form over n and i names no term
short : (cs : List ℤ) (j : ℕ) → length cs ≡ 2 → (coef (2 + j) cs ≡ pos 0 → ⊥) → ⊥
short cs j l n = n (past_end cs 2 j (omega arith))

met : (n : Nest) (v : ℤ) (r : KernelRow) → length ((r.row).form).coefs ≡ 2 → (r.row).equal ≡ false → pos 0 ≤ℤ value (point two n (v ∷ [])) (r.row).form → IsMet two n (v ∷ []) r
met n v r l e h = record {
  readable = λ j m. absurd (short ((r.row).form).coefs j l m);
  holds = subst (λ (b : Bool). Holds b (value (point two n (v ∷ [])) (r.row).form)) (sym e) h;
}

old_point : (v : ℤ) → pos 0 ≤ℤ v → v ≤ℤ pos 1 → IsPointOf two one_cell (v ∷ [])
old_point v a b = record { instance = tt; meets = each }
  where
    each : (r : KernelRow) → IsIn r one_cell.rows → IsMet two one_cell (v ∷ []) r
    each r (inl e) = subst (IsMet two one_cell (v ∷ [])) (sym e) (met one_cell v _ refl refl (omega (arith, ints)))
    each r (inr (inl e)) = subst (IsMet two one_cell (v ∷ [])) (sym e) (met one_cell v _ refl refl (omega (arith, ints)))
    each r (inr (inr e)) = absurd e

old_within : (v : ℤ) → IsPointOf two one_cell (v ∷ []) → (pos 0 ≤ℤ v) × (v ≤ℤ (pos 0 +ℤ pos 1))
old_within v p = ((let h = (p.meets _ (inl refl)).holds in omega (arith, ints)), (let h = (p.meets _ (inr (inl refl))).holds in omega (arith, ints)))

new_point : (v : ℤ) → pos 5 ≤ℤ v → v ≤ℤ pos 6 → IsPointOf two by_five.new (v ∷ [])
new_point v a b = record { instance = tt; meets = each }
  where
    each : (r : KernelRow) → IsIn r (by_five.new).rows → IsMet two by_five.new (v ∷ []) r
    each r (inl e) = subst (IsMet two by_five.new (v ∷ [])) (sym e) (met by_five.new v _ refl refl (omega (arith, ints)))
    each r (inr (inl e)) = subst (IsMet two by_five.new (v ∷ [])) (sym e) (met by_five.new v _ refl refl (omega (arith, ints)))
    each r (inr (inr e)) = absurd e

new_within : (v : ℤ) → IsPointOf two by_five.new (v ∷ []) → (pos 5 ≤ℤ v) × (v ≤ℤ (pos 5 +ℤ pos 1))
new_within v p = ((let h = (p.meets _ (inl refl)).holds in omega (arith, ints)), (let h = (p.meets _ (inr (inl refl))).holds in omega (arith, ints)))

-- the items of both statements
old_item : (v : ℤ) → item_at act two one_cell (v ∷ []) ≡ set_in v
old_item v = ap (λ (g : Ground). let i : Item Step = record { place = pos 0 ∷ v ∷ pos 0 ∷ []; step = record { target = (set_in v).step.target; how = Write; value = g } } in i) (ground-Const (point two one_cell (v ∷ [])) 1)

new_item : (v : ℤ) → item_at act two by_five.new (v ∷ []) ≡ set_in v
new_item v = ap (λ (g : Ground). let i : Item Step = record { place = pos 0 ∷ v ∷ pos 0 ∷ []; step = record { target = (set_in v).step.target; how = Write; value = g } } in i) (ground-Const (point two by_five.new (v ∷ [])) 1)

list_is : (n : Nest) (v w : ℤ) → IsKernelList act two (n ∷ []) (item_at act two n (v ∷ []) ∷ item_at act two n (w ∷ []) ∷ []) → item_at act two n (v ∷ []) ≡ set_in v → item_at act two n (w ∷ []) ≡ set_in w → IsKernelList act two (n ∷ []) (set_in v ∷ set_in w ∷ [])
list_is n v w l e f = subst (λ (x : Item Step). IsKernelList act two (n ∷ []) (x ∷ set_in w ∷ [])) e (subst (λ (x : Item Step). IsKernelList act two (n ∷ []) (item_at act two n (v ∷ []) ∷ x ∷ [])) f l)

pub old_is : IsKernelList act two (one_cell ∷ []) old_list
old_is = list_is one_cell (pos 0) (pos 1) (two_points two one_cell (pos 0) refl (old_point (pos 0) (omega (arith, ints)) (omega (arith, ints))) (old_point (pos 1) (omega (arith, ints)) (omega (arith, ints))) old_within) (old_item (pos 0)) (old_item (pos 1))

pub new_is : IsKernelList act two (by_five.new ∷ []) new_list
new_is = list_is by_five.new (pos 5) (pos 6) (two_points two by_five.new (pos 5) refl (new_point (pos 5) (omega (arith, ints)) (omega (arith, ints))) (new_point (pos 6) (omega (arith, ints)) (omega (arith, ints))) new_within) (new_item (pos 5)) (new_item (pos 6))

pub shifted_loop : ShiftedLoop
shifted_loop =
    let moved = made_list two moves (one_cell ∷ []) (by_five.new ∷ []) made (λ m a. subst (StandsFor act two) (sym (only m by_five a)) stands) pieces (distinct one_cell) old_list new_list old_is new_is in (
      one_wide,
      fits,
      is_rewritten,
      refl,
      is_shift,
      one_to_one,
      stands,
      pieces,
      tested,
      old_is,
      new_is,
      moved.0,
      moved.1,
      refl,
      excluded_keep two moves (λ m. true) (λ m k. []) (one_cell ∷ []) (by_five.new ∷ []) tested old_list new_list old_is new_is,
      tested_effect two moves (λ m. true) (λ m k. []) (one_cell ∷ []) (by_five.new ∷ []) tested old_list new_list old_is new_is,
    )
