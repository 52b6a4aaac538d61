-- The worked test of a loop that sets an array.
use Rattle.std.proofs.Common.{◌≡◌, inl, inr, ℕ, zero, suc, ◌+◌, ◌<◌, ◌≤◌, true, false, ◌&&◌, List, [], ◌∷◌, ◌++◌, map, length, refl, sym, ◌∙◌, ap, subst, arith, ℤ, pos, negsuc, ◌≤ℤ◌, nat_eq}
use Rattle.std.specs.Prelude.{Ok, None}
use Rattle.std.specs.List.{list_all}
use Rattle.std.proofs.lemmas.Bool.{and_parts, eqb-true}
use Rattle.std.proofs.lemmas.Int.{ints}
use Rattle.c_tree.specs.declared.statement.How.TheVariants.{Write}
use Rattle.int_rows.specs.declared.row.Aff.{Aff}
use Rattle.int_rows.specs.declared.row.Row.{Row}
use Rattle.int_rows.specs.Rows.{numbers}
use Rattle.int_rows.specs.Elimination as elimination
use Rattle.int_rows.specs.Exclusion as exclusion
use Rattle.int_rows.specs.Gcd as gcd
use Rattle.int_rows.specs.Systems as systems
use Rattle.nest_core.specs.Numbers.{is_small}
use Rattle.nest_tree.specs.declared.body.Access.{Access}
use Rattle.nest_tree.specs.declared.body.Body.TheVariants.{Const, outs-Const}
use Rattle.nest_tree.specs.declared.kernel.KernelRow.{KernelRow}
use Rattle.nest_tree.specs.Forms.{coef, MeetsRow}
use Rattle.nest_tree.specs.Kernels.{IsMet, point}
use Rattle.nest_tree.specs.Lists.{IsIn}
use Rattle.nest_systems.specs.declared.seats.Seats.{Seats}
use Rattle.nest_systems.specs.Begun as begun
use Rattle.nest_systems.specs.Cells.{cells, subscripts}
use Rattle.nest_systems.specs.Choosing as choosing
use Rattle.nest_systems.specs.Parts as parts
use Rattle.nest_systems.specs.Placing as placing
use Rattle.nest_systems.specs.Spans as spans
use Rattle.nest_systems.specs.Statements.{plain_row}
use Rattle.nest_systems.specs.Sums as sums
use Rattle.point_laws.specs.Ranges.{IsRanged}
use Rattle.point_laws.specs.Values.{AreSmall}
use Rattle.point_laws.proofs.Alike.{coef-past}
use Rattle.depend_test.specs.First.{IsFirst, none, excluded}
use Rattle.depend_test.specs.Levels as levels
use Rattle.depend_test.specs.Levels.{AccessPair, IsDecidedAt, access_pairs, level_dependence}
use Rattle.depend_test.specs.Orders as orders
use Rattle.depend_test.specs.Pairs.{pair_system}
use Rattle.depend_test.specs.Sides.{IsSame, IsSideOf, own_levels}
use Rattle.depend_test.specs.Systems.{SameCell, subscript_rows, cell_system, with_old}
use Rattle.depend_test.specs.declared.pair.Pair.{Pair}
use Rattle.pair_laws.specs.Pairs.{IsSideAt}
use Rattle.pair_laws.specs.Examples.{head, form, cell, setting, kernel, input, side, SettingLoop}
use Rattle.pair_laws.proofs.Levels.{reads_at}

cells-are : cells setting ≡ cell ∷ []
unfolding cells
cells-are = ap (λ (l : List Access). cell ∷ l) (reads_at (Const 1) _ (outs-Const 1))

is_side : IsSideOf head [] setting (own_levels head setting) side
unfolding choosing.chosen_of choosing.meet_term choosing.with_counts parts.extended_terms parts.value_rows sums.number_at spans.unit_form
is_side = record {
  part = record {
    held = side.instance.chosen;
    further = [];
    is_held = sym (ap (λ (l : List Access). choosing.chosen_of 2 [] 0 (map plain_row setting.rows) (subscripts l ++ own_levels head setting)) cells-are);
    are_further = refl;
    own_levels = refl;
    own_terms = refl;
    own_chosen = refl;
    own_rows = refl;
    ranges = refl;
  };
  accesses = sym cells-are;
  positions = refl;
  old = refl;
}

same : IsSame head [] setting side
same = record { shape = record { instance = record { levels = omega arith; terms = refl; chosen = record { place = refl; order = refl; ends = refl; same = refl; stands = refl; room = omega arith } } }; side = is_side }

-- ---- the system of two instances
abbrev first_seats : Seats
first_seats = record { params = 1; levels = 1; first_level = 1; terms = []; vars = 3; own = omega arith; levels_within = omega arith; room = omega arith }

abbrev second_seats : Seats
second_seats = record { params = 1; levels = 1; first_level = 2; terms = []; vars = 3; own = omega arith; levels_within = omega arith; room = omega arith }

abbrev pair : Pair
pair = record {
  system = pair_system kernel side.instance side.instance first_seats second_seats;
  first = first_seats;
  second = second_seats;
  first_old = map (placing.placed first_seats) side.old;
  second_old = map (placing.placed second_seats) side.old;
  first_new = placing.seated_levels first_seats;
  second_new = placing.seated_levels second_seats;
}

two_cells : SameCell kernel side side cell cell
two_cells = record {
  pair = pair;
  equal = subscript_rows pair cell cell;
  is_pair = record {
    first = record { params = refl; levels = refl; first_level = refl; terms = refl; vars = refl };
    second = record { params = refl; levels = refl; first_level = refl; terms = refl; vars = refl };
    system = refl;
    first_old = refl;
    second_old = refl;
    first_new = refl;
    second_new = refl;
  };
  are_equal = refl;
}

-- n, i and i' at least 0 and below n, i - i' equal to 0, and i' - i - 1 at least 0
abbrev rows : List Row
rows =
    record { equal = false; form = form (pos 1 ∷ pos 0 ∷ pos 0 ∷ []) (pos 0) }
    ∷ record { equal = false; form = form (pos 0 ∷ pos 1 ∷ pos 0 ∷ []) (pos 0) }
    ∷ record { equal = false; form = form (pos 1 ∷ negsuc 0 ∷ pos 0 ∷ []) (negsuc 0) }
    ∷ record { equal = false; form = form (pos 0 ∷ pos 0 ∷ pos 1 ∷ []) (pos 0) }
    ∷ record { equal = false; form = form (pos 1 ∷ pos 0 ∷ negsuc 0 ∷ []) (negsuc 0) }
    ∷ record { equal = true; form = form (pos 0 ∷ pos 1 ∷ negsuc 0 ∷ []) (pos 0) }
    ∷ record { equal = false; form = form (pos 0 ∷ negsuc 0 ∷ pos 1 ∷ []) (negsuc 0) }
    ∷ []

rows-are : (with_old (cell_system two_cells) pair 1 1).rows ≡ rows
unfolding two_cells begun.begun_rows placing.placed placing.seated_number placing.small_total spans.unit_form sums.number_at sums.stopped_difference orders.difference_at orders.difference_row orders.equal_rows orders.order_rows
rows-are = refl

is_excluded : systems.excluded (record { vars = 3; rows = rows }) ≡ Ok true
unfolding systems.excluded exclusion.exclusion exclusion.is_impossible elimination.canceled elimination.reduced elimination.outcome elimination.made_small elimination.paired elimination.made elimination.merged elimination.elimination gcd.gcd gcd.gcd_of
is_excluded = refl

small-rows : (rs : List Row) → list_all (λ r. nat_eq (length r.form.coefs) 3 && list_all is_small (numbers r.form)) rs ≡ true → AreSmall 3 rs
small-rows [] h = tt
small-rows (r ∷ rs) h =
    let a = and_parts (nat_eq (length r.form.coefs) 3 && list_all is_small (numbers r.form)) _ h in
    let b = and_parts (nat_eq (length r.form.coefs) 3) (list_all is_small (numbers r.form)) a.0 in
    (record { width = eqb-true (length r.form.coefs) 3 b.0; small = b.1 }, small-rows rs a.1)

abbrev both : AccessPair
both = record { first = cell; second = cell }

decided : IsDecidedAt kernel side 1 both true
unfolding two_cells
decided = record {
  cell = two_cells;
  decided = (
    record { each = subst (AreSmall 3) (sym rows-are) (small-rows rows refl); count = subst (λ (rs : List Row). length rs ≤ 4096) (sym rows-are) (omega arith) },
    ap (λ (rs : List Row). systems.excluded (record { vars = 3; rows = rs })) rows-are ∙ is_excluded,
  );
}

pairs-are : access_pairs side Write ≡ both ∷ []
unfolding levels.access_pairs levels.with_access
pairs-are = refl

none_open : IsFirst (IsDecidedAt kernel side 1) (level_dependence 0 1) (access_pairs side Write) None
none_open = subst (λ (cs : List AccessPair). IsFirst (IsDecidedAt kernel side 1) (level_dependence 0 1) cs None) (sym pairs-are) (excluded both [] None decided none)

-- ---- points
ranged : IsRanged head [] input
ranged = record {
  count = refl;
  params = λ v l. at v l;
  extents = λ a e f m. absurd m;
  values = λ array at x s e h. absurd cc;
}
  where
    at : (v : ℕ) → v < 1 → pos 0 ≤ℤ coef v (pos 3 ∷ [])
    at zero l = omega (arith, ints)
    at (suc v) l = absurd (omega (arith, l))

met : (v : ℤ) → pos 0 ≤ℤ v → v ≤ℤ pos 2 → (r : KernelRow) → IsIn r setting.rows → IsMet input setting (v ∷ []) r
met v low top r m = record {
  readable = λ j names. absurd (names (past r m j));
  holds = elim m [
    | inl e ↦ subst (λ (x : KernelRow). MeetsRow (point input setting (v ∷ [])) x.row) (sym e) (omega (arith, ints, low))
    | inr k ↦ elim k [ inl e ↦ subst (λ (x : KernelRow). MeetsRow (point input setting (v ∷ [])) x.row) (sym e) (omega (arith, ints, top)) | inr z ↦ absurd z ]
  ];
}
  where
    past : (r : KernelRow) → IsIn r setting.rows → (j : ℕ) → coef (2 + j) (r.row).form.coefs ≡ pos 0
    past r (inl e) j = ap (λ (x : KernelRow). coef (2 + j) (x.row).form.coefs) e ∙ coef-past (pos 0 ∷ pos 1 ∷ []) (2 + j) (omega arith)
    past r (inr (inl e)) j = ap (λ (x : KernelRow). coef (2 + j) (x.row).form.coefs) e ∙ coef-past (pos 1 ∷ negsuc 0 ∷ []) (2 + j) (omega arith)
    past r (inr (inr e)) j = absurd e

side_at : (v : ℤ) → pos 0 ≤ℤ v → v ≤ℤ pos 2 → IsSideAt kernel input setting (own_levels head setting) side (v ∷ [])
unfolding spans.unit_form
side_at v low top = record {
  side = is_side;
  over = record { args = λ t f m. absurd m; wide = λ r m. wide r m; ranks = inl refl };
  forms = λ f m. narrow f (subst (λ (l : List Access). IsIn f (subscripts l ++ own_levels head setting)) cells-are m);
  deep = refl;
  at = record { instance = tt; meets = met v low top };
  found = λ t l. absurd (omega (arith, l));
  small = tt;
}
  where
    wide : (r : Row) → IsIn r (map plain_row setting.rows) → length r.form.coefs ≤ 2 + 0
    wide r (inl e) = let d = ap (λ (s : Row). length s.form.coefs) e in omega (arith, d)
    wide r (inr (inl e)) = let d = ap (λ (s : Row). length s.form.coefs) e in omega (arith, d)
    wide r (inr (inr e)) = absurd e

    narrow : (f : Aff) → IsIn f (subscripts (cell ∷ []) ++ own_levels head setting) → length f.coefs ≤ 2
    narrow f (inl e) = let d = ap (λ (g : Aff). length g.coefs) e in omega (arith, d)
    narrow f (inr (inl e)) = let d = ap (λ (g : Aff). length g.coefs) e in omega (arith, d)
    narrow f (inr (inr e)) = absurd e

pub setting_loop : SettingLoop
setting_loop = (same, none_open, ranged, side_at (pos 1) (omega (arith, ints)) (omega (arith, ints)), side_at (pos 2) (omega (arith, ints)) (omega (arith, ints)))
