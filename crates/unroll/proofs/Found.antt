-- The bounds of a level are over the statement's variables, and their places are those of its rows.
use Rattle.std.proofs.Common.{◌≡◌, ℕ, suc, arith, ◌<◌, ◌+◌, Bool, true, false, ◌&&◌, nat_le, nat_lt, nat_eq, not, ◌||◌, cond, List, [], ◌∷◌, length, refl, subst}
use Rattle.std.specs.Prelude.{Option, Some, None}
use Rattle.std.specs.List.{list_all}
use Rattle.std.proofs.lemmas.Bool.{cond_both}
use Rattle.std.proofs.lemmas.Bool.Decides.{nat_tests}
use Rattle.c_tree.specs.declared.program.Program.{Program}
use Rattle.int_rows.specs.declared.row.Aff.{Aff}
use Rattle.nest_tree.specs.declared.kernel.KernelRow.{KernelRow}
use Rattle.nest_tree.specs.declared.kernel.Nest.{Nest}
use Rattle.nest_core.specs.Forms.{has_vars}
use Rattle.nest_core.specs.Shapes.{vars_of, is_row_over, IsShapedNest}
use Rattle.affine_moves.proofs.Places.{and}
use Rattle.unroll.specs.declared.bounds.Bounds.{Bounds}
use Rattle.unroll.specs.Bounds.{is_lower, is_upper, is_bound, is_plain, forms_where, places_where, only_one, bounds_by, bounds_of, AreBounds}

-- the forms of rows are over their variables
pub forms-over : (vars d : ℕ) (p : KernelRow → Bool) (rows : List KernelRow) → list_all (is_row_over vars d) rows ≡ true → list_all (has_vars vars) (forms_where p rows) ≡ true
forms-over vars d p [] e = refl
forms-over vars d p (r ∷ rows) e =
    let h = and (is_row_over vars d r) (list_all (is_row_over vars d) rows) e in
    let w = and (has_vars vars r.row.form) (nat_le r.own d && (nat_eq r.own 0 || not r.row.equal)) h.0 in
    let more = forms-over vars d p rows h.1 in
    cond_both (p r) (r.row.form ∷ forms_where p rows) (forms_where p rows) (λ (fs : List Aff). list_all (has_vars vars) fs ≡ true) (λ _. rw w.0 more) (λ _. more)

abbrev below : ℕ → ℕ → Bool
below m i = nat_lt i m

below-yes : (i m : ℕ) → i < m → nat_lt i m ≡ true
below-yes i m h = grind (arith, nat_tests)

places-below : (m : ℕ) (p : KernelRow → Bool) (i : ℕ) (rows : List KernelRow) → i + length rows ≡ m → list_all (below m) (places_where p i rows) ≡ true
places-below m p i [] e = refl
places-below m p i (r ∷ rows) e =
    let more = places-below m p (suc i) rows (omega (arith, e)) in
    let here = below-yes i m (omega (arith, e)) in
    cond_both (p r) (i ∷ places_where p (suc i) rows) (places_where p (suc i) rows) (λ (ps : List ℕ). list_all (below m) ps ≡ true) (λ _. rw here more) (λ _. more)

-- the only form of a list is one of it
pub only-over : (vars : ℕ) (fs : List Aff) (f : Aff) → list_all (has_vars vars) fs ≡ true → Some f ≡ only_one fs → has_vars vars f ≡ true
only-over vars [] f a e = absurd cc
only-over vars (g ∷ []) f a e = let same : g ≡ f = cc in subst (λ (x : Aff). has_vars vars x ≡ true) same (and (has_vars vars g) true a).0
only-over vars (g ∷ h ∷ fs) f a e = absurd cc

module _ (head : Program) (level : ℕ) (n : Nest) (s : IsShapedNest head n) where
  pub lower-over : (lower : Aff) → Some lower ≡ only_one (forms_where (is_lower (length head.params) level n) n.rows) → has_vars (vars_of (length head.params) n) lower ≡ true
  lower-over lower e =
      only-over (vars_of (length head.params) n) (forms_where (is_lower (length head.params) level n) n.rows) lower (forms-over (vars_of (length head.params) n) (length n.levels) (is_lower (length head.params) level n) n.rows s.rows) e

  bounds-by : (found : Option Aff) (b : Bounds) → ((lower : Aff) → Some lower ≡ found → has_vars (vars_of (length head.params) n) lower ≡ true) → Some b ≡ bounds_by (length head.params) level n found
      → AreBounds (length head.params) n b
  bounds-by None b h e = absurd cc
  bounds-by (Some lower) b h e = of (is_plain (length head.params) level n lower) e where
    of : (t : Bool) → Some b ≡ cond t (Some (record { lower = lower; uppers = forms_where (is_upper (length head.params) level n) n.rows; places = places_where (is_bound (length head.params) level n) 0 n.rows })) None → AreBounds (length head.params) n b
    of true d =
        let same : record { lower = lower; uppers = forms_where (is_upper (length head.params) level n) n.rows; places = places_where (is_bound (length head.params) level n) 0 n.rows } ≡ b = cc in
        subst (λ (x : Bounds). AreBounds (length head.params) n x) same (record {
          lower = h lower refl;
          uppers = forms-over (vars_of (length head.params) n) (length n.levels) (is_upper (length head.params) level n) n.rows s.rows;
          places = places-below (length n.rows) (is_bound (length head.params) level n) 0 n.rows (omega arith);
        })
    of false d = absurd cc

  pub bounds_of-fits : (b : Bounds) → Some b ≡ bounds_of (length head.params) level n → AreBounds (length head.params) n b
  unfolding bounds_of
  bounds_of-fits b e = bounds-by (only_one (forms_where (is_lower (length head.params) level n) n.rows)) b (λ lower d. lower-over lower d) e
