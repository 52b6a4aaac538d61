-- The worked test of a shifted loop.
use Rattle.std.proofs.Common.{◌≡◌, inl, inr, ℕ, zero, suc, ◌+◌, ◌<◌, ◌≤◌, true, false, ◌&&◌, List, [], ◌∷◌, ◌++◌, map, length, refl, sym, ◌∙◌, ap, subst, arith, ℤ, pos, negsuc, ◌≤ℤ◌, nat_eq}
use Rattle.std.specs.Prelude.{Ok, None}
use Rattle.std.specs.List.{list_all}
use Rattle.std.proofs.lemmas.Bool.{and_parts, eqb-true}
use Rattle.std.proofs.lemmas.Int.{ints}
use Rattle.int_rows.specs.declared.row.Aff.{Aff}
use Rattle.int_rows.specs.declared.row.Row.{Row}
use Rattle.int_rows.specs.Rows.{numbers}
use Rattle.int_rows.specs.Elimination as elimination
use Rattle.int_rows.specs.Exclusion as exclusion
use Rattle.int_rows.specs.Gcd as gcd
use Rattle.int_rows.specs.Systems as systems
use Rattle.nest_core.specs.Numbers.{is_small}
use Rattle.nest_tree.specs.declared.body.Access.{Access}
use Rattle.nest_tree.specs.declared.body.Body.TheVariants.{Const, outs-Const}
use Rattle.nest_tree.specs.Forms.{coef}
use Rattle.nest_tree.specs.Kernels.{IsPointOf}
use Rattle.nest_tree.specs.Lists.{IsIn}
use Rattle.nest_systems.specs.declared.seats.Seats.{Seats}
use Rattle.nest_systems.specs.Begun as begun
use Rattle.nest_systems.specs.Cells.{cells, subscripts}
use Rattle.nest_systems.specs.Choosing as choosing
use Rattle.nest_systems.specs.Parts as parts
use Rattle.nest_systems.specs.Placing as placing
use Rattle.nest_systems.specs.Spans as spans
use Rattle.nest_systems.specs.Statements.{plain_row}
use Rattle.nest_systems.specs.Sums as sums
use Rattle.point_laws.specs.Ranges.{IsRanged, HasNoCounts}
use Rattle.point_laws.specs.Values.{AreSmall}
use Rattle.depend_test.specs.First.{none, excluded}
use Rattle.depend_test.specs.Orders as orders
use Rattle.depend_test.specs.Pairs.{pair_system}
use Rattle.depend_test.specs.Sides.{IsSideOf, IsMovedBy}
use Rattle.depend_test.specs.Systems.{SameCell, subscript_rows, cell_system}
use Rattle.depend_test.specs.declared.pair.Pair.{Pair}
use Rattle.pair_laws.specs.Pairs.{IsSideAt}
use Rattle.kernel_laws.specs.Examples.{head, ones, by_five, shifted_ones}
use Rattle.kernel_laws.proofs.Worked.{worked}
use Rattle.nest_core.specs.Pieces.{pieces_made}
use Rattle.nest_tree.specs.Moving.{Move}
use Rattle.depend_test.specs.Candidates as candidates
use Rattle.depend_test.specs.Candidates.{Candidate, Between, IsDecidedBetween, IsFirstDependence, between, orders_between, whole}
use Rattle.depend_test.specs.Sides.{more, none as none_left}
use Rattle.nest_systems.specs.Ranges.{value_span}
use Rattle.depend_test.specs.Systems.{with_orders}
use Rattle.pair_laws.specs.Changes.{IsTestedMove, OthersStay}
use Rattle.pair_laws.specs.Shifted.{kernel, shift, input, side, moved, applies, ShiftedLoop}
use Rattle.pair_laws.proofs.Changes.{none_changes}
use Rattle.pair_laws.proofs.Levels.{reads_at}

abbrev cell : Access
cell = shifted_ones.target

abbrev form : List ℤ → ℤ → Aff
form cs k = record { coefs = cs; constant = k }

old-cells-are : cells ones ≡ ones.target ∷ []
unfolding cells
old-cells-are = ap (λ (l : List Access). ones.target ∷ l) (reads_at (Const 1) _ (outs-Const 1))

cells-are : cells shifted_ones ≡ cell ∷ []
unfolding cells
cells-are = ap (λ (l : List Access). cell ∷ l) (reads_at (Const 1) _ (outs-Const 1))

pub is_side : IsSideOf head [] shifted_ones (by_five.old) side
unfolding choosing.chosen_of choosing.meet_term choosing.with_counts parts.extended_terms parts.value_rows sums.number_at spans.unit_form
is_side = record {
  part = record {
    held = side.instance.chosen;
    further = [];
    is_held = sym (ap (λ (l : List Access). choosing.chosen_of 2 [] 0 (map plain_row shifted_ones.rows) (subscripts l ++ by_five.old)) cells-are);
    are_further = refl;
    own_levels = refl;
    own_terms = refl;
    own_chosen = refl;
    own_rows = refl;
    ranges = refl;
  };
  accesses = sym cells-are;
  positions = refl;
  old = refl;
}

-- ---- the system of two instances
abbrev first_seats : Seats
first_seats = record { params = 1; levels = 1; first_level = 1; terms = []; vars = 3; own = omega arith; levels_within = omega arith; room = omega arith }

abbrev second_seats : Seats
second_seats = record { params = 1; levels = 1; first_level = 2; terms = []; vars = 3; own = omega arith; levels_within = omega arith; room = omega arith }

abbrev pair : Pair
pair = record {
  system = pair_system kernel side.instance side.instance first_seats second_seats;
  first = first_seats;
  second = second_seats;
  first_old = map (placing.placed first_seats) side.old;
  second_old = map (placing.placed second_seats) side.old;
  first_new = placing.seated_levels first_seats;
  second_new = placing.seated_levels second_seats;
}

two_cells : SameCell kernel side side cell cell
two_cells = record {
  pair = pair;
  equal = subscript_rows pair cell cell;
  is_pair = record {
    first = record { params = refl; levels = refl; first_level = refl; terms = refl; vars = refl };
    second = record { params = refl; levels = refl; first_level = refl; terms = refl; vars = refl };
    system = refl;
    first_old = refl;
    second_old = refl;
    first_new = refl;
    second_new = refl;
  };
  are_equal = refl;
}

-- n at least 0, t and t' from 5 to below n + 5, t - t' equal to 0, and both t' - t - 1 and t - t' - 1 at least 0
abbrev rows : List Row
rows =
    record { equal = false; form = form (pos 1 ∷ pos 0 ∷ pos 0 ∷ []) (pos 0) }
    ∷ record { equal = false; form = form (pos 0 ∷ pos 1 ∷ pos 0 ∷ []) (negsuc 4) }
    ∷ record { equal = false; form = form (pos 1 ∷ negsuc 0 ∷ pos 0 ∷ []) (pos 4) }
    ∷ record { equal = false; form = form (pos 0 ∷ pos 0 ∷ pos 1 ∷ []) (negsuc 4) }
    ∷ record { equal = false; form = form (pos 1 ∷ pos 0 ∷ negsuc 0 ∷ []) (pos 4) }
    ∷ record { equal = true; form = form (pos 0 ∷ pos 1 ∷ negsuc 0 ∷ []) (pos 0) }
    ∷ record { equal = false; form = form (pos 0 ∷ negsuc 0 ∷ pos 1 ∷ []) (negsuc 0) }
    ∷ record { equal = false; form = form (pos 0 ∷ pos 1 ∷ negsuc 0 ∷ []) (negsuc 0) }
    ∷ []

abbrev candidate : Candidate
candidate = record { one = side; other = side; first = cell; second = cell; orders = orders_between moved moved side side; carried = record { old = 1; new = 1 } }

rows-are : (with_orders (cell_system two_cells) pair candidate.orders candidate.carried).rows ≡ rows
unfolding two_cells begun.begun_rows placing.placed placing.seated_number placing.small_total placing.seated_levels spans.unit_form sums.number_at sums.stopped_difference orders.difference_at orders.difference_row orders.equal_rows orders.order_rows
rows-are = refl

is_excluded : systems.excluded (record { vars = 3; rows = rows }) ≡ Ok true
unfolding systems.excluded exclusion.exclusion exclusion.is_impossible elimination.canceled elimination.reduced elimination.outcome elimination.made_small elimination.paired elimination.made elimination.merged elimination.elimination gcd.gcd gcd.gcd_of
is_excluded = refl

small-rows : (rs : List Row) → list_all (λ r. nat_eq (length r.form.coefs) 3 && list_all is_small (numbers r.form)) rs ≡ true → AreSmall 3 rs
small-rows [] h = tt
small-rows (r ∷ rs) h =
    let a = and_parts (nat_eq (length r.form.coefs) 3 && list_all is_small (numbers r.form)) _ h in
    let b = and_parts (nat_eq (length r.form.coefs) 3) (list_all is_small (numbers r.form)) a.0 in
    (record { width = eqb-true (length r.form.coefs) 3 b.0; small = b.1 }, small-rows rs a.1)

decided : IsDecidedBetween kernel (between 0 0 ones.target candidate) true
unfolding two_cells
decided = whole true two_cells (
  record { each = subst (AreSmall 3) (sym rows-are) (small-rows rows refl); count = subst (λ (rs : List Row). length rs ≤ 4096) (sym rows-are) (omega arith) },
  ap (λ (rs : List Row). systems.excluded (record { vars = 3; rows = rs })) rows-are ∙ is_excluded,
)

candidates-are : candidates.candidates (moved ∷ []) ≡ between 0 0 ones.target candidate ∷ []
unfolding candidates.candidates candidates.of_statement candidates.of_statements candidates.of_access candidates.of_numbers candidates.of_piece candidates.of_pieces
candidates-are = refl

none_open : IsFirstDependence kernel (candidates.candidates (moved ∷ [])) None
none_open = subst (λ (cs : List Between). IsFirstDependence kernel cs None) (sym candidates-are) (excluded (between 0 0 ones.target candidate) [] None decided none)

-- ---- points
ranged : IsRanged head [] input
ranged = record {
  count = refl;
  params = λ v l. at v l;
  extents = λ a e f m. absurd m;
  values = λ array at x s e h. absurd cc;
}
  where
    at : (v : ℕ) → v < 1 → pos 0 ≤ℤ coef v (pos 3 ∷ [])
    at zero l = omega (arith, ints)
    at (suc v) l = absurd (omega (arith, l))

side_at : (v : ℤ) → IsPointOf input shifted_ones (v ∷ []) → IsSideAt kernel input shifted_ones (by_five.old) side (v ∷ [])
unfolding spans.unit_form
side_at v point = record {
  side = is_side;
  over = record { args = λ t f m. absurd m; wide = λ r m. wide r m; ranks = inl refl };
  forms = λ f m. narrow f (subst (λ (l : List Access). IsIn f (subscripts l ++ by_five.old)) cells-are m);
  deep = refl;
  at = point;
  found = λ t l. absurd (omega (arith, l));
  small = tt;
}
  where
    wide : (r : Row) → IsIn r (map plain_row shifted_ones.rows) → length r.form.coefs ≤ 2 + 0
    wide r (inl e) = let d = ap (λ (s : Row). length s.form.coefs) e in omega (arith, d)
    wide r (inr (inl e)) = let d = ap (λ (s : Row). length s.form.coefs) e in omega (arith, d)
    wide r (inr (inr e)) = absurd e

    narrow : (f : Aff) → IsIn f (subscripts (cell ∷ []) ++ by_five.old) → length f.coefs ≤ 2
    narrow f (inl e) = let d = ap (λ (g : Aff). length g.coefs) e in omega (arith, d)
    narrow f (inr (inl e)) = let d = ap (λ (g : Aff). length g.coefs) e in omega (arith, d)
    narrow f (inr (inr e)) = absurd e

sides_at : (ws : List ℤ) → IsPointOf input shifted_ones ws → IsSideAt kernel input shifted_ones by_five.old side ws
sides_at [] h = absurd h.instance
sides_at (v ∷ []) h = side_at v h
sides_at (v ∷ w ∷ ws) h = absurd h.instance

makes : pieces_made 1 ones (by_five ∷ []) ≡ Ok (shifted_ones ∷ [])
makes = rw (worked.3) refl

-- what the code has of the loop and its piece
pub moved_by : IsMovedBy head [] true ones (by_five ∷ []) moved
moved_by = record {
  own_applies = refl;
  how = refl;
  accesses = sym old-cells-are;
  positions = refl;
  nests = shifted_ones ∷ [];
  makes = makes;
  own_sides = more shifted_ones [] by_five [] side [] is_side none_left;
}

tested : IsTestedMove kernel input applies (moved ∷ []) shift
tested = record {
  number = 0;
  moved = moved;
  at = refl;
  pieces = by_five ∷ [];
  by = moved_by;
  side = side;
  among = inl refl;
  rewritten = worked.4;
  points = sides_at;
}

each-tested : (x : Move) → IsIn x (shift ∷ []) → IsTestedMove kernel input applies (moved ∷ []) x
each-tested x (inl e) = subst (IsTestedMove kernel input applies (moved ∷ [])) (sym e) tested
each-tested x (inr e) = absurd e

others : OthersStay input applies (shift ∷ [])
others m k vs ws us zs c d a b e f g h o n = absurd cc

counts : HasNoCounts head []
unfolding value_span
counts array s e = absurd cc

pub shifted_loop : ShiftedLoop
shifted_loop = (ranged, each-tested, none_open, others, none_changes kernel input applies (moved ∷ []) (shift ∷ []) ranged counts each-tested none_open others)
