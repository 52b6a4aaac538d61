-- The moves of `unroll` fit the kernel.
use Rattle.std.proofs.Common.{◌≡◌, ℕ, zero, suc, arith, ◌<◌, ◌≤◌, ◌+◌, ◌-◌, Bool, true, false, ◌&&◌, ◌||◌, not, nat_le, nat_lt, cond, List, [], ◌∷◌, take, length, map, refl, ap, ◌∙◌, length-append, length-take, length-drop, ◌⊎◌, inl, inr}
use Rattle.std.specs.Prelude.{IsTrue, Some, None, Option}
use Rattle.std.specs.List.{list_all, range_with_len, AllByRecursion}
use Rattle.std.proofs.Math.Facts.{leb_yes}
use Rattle.std.proofs.lemmas.Bool.{cond_both}
use Rattle.std.proofs.lemmas.Bool.Decides.{nat_tests}
use Rattle.std.proofs.lemmas.List.{length-set, length-map}
use Rattle.std.proofs.lemmas.List.FromFn.{length-map-range_with_len}
use Rattle.chill_base.proofs.Each.{each-append}
use Rattle.c_tree.specs.declared.program.Program.{Program}
use Rattle.int_rows.specs.declared.row.Aff.{Aff}
use Rattle.nest_tree.specs.declared.kernel.Kernel.{Kernel}
use Rattle.nest_tree.specs.declared.kernel.Nest.{Nest}
use Rattle.nest_tree.specs.declared.moves.Moves.{Moves}
use Rattle.nest_core.specs.Forms.{has_vars}
use Rattle.nest_core.specs.Order.{shares_loop}
use Rattle.nest_core.specs.Shapes.{vars_of, IsShapedNest, FitsNest, AllFit, IsShaped, Fits, count_pieces}
use Rattle.affine_moves.proofs.Places.{and}
use Rattle.affine_moves.proofs.Standing.{piece_at-fits}
use Rattle.unroll.specs.declared.bounds.Bounds.{Bounds}
use Rattle.unroll.specs.declared.roles.Role.{Role}
use Rattle.unroll.specs.declared.roles.Role.TheVariants.{Stays, Unrolls}
use Rattle.unroll.specs.Places.{copy_positions, further, rest_positions, is_behind, roomy_positions}
use Rattle.unroll.specs.Moves.{RolesFit, UnrollsSo, RoleSuits, RolesSuit, has_room_in, has_room, is_deep, any_deep, count_from, copy_of, full_pieces, rest_pieces, unrolled_pieces, pieces_of, all_pieces, moves_by, moves_where, is_large}
use Rattle.unroll.proofs.Widths.{take-over}
use Rattle.unroll.proofs.Fitting.{full_piece-fits, rest_piece-fits}

-- ---- positions
copy-length : (n : Nest) (copy count : ℕ) → length (copy_positions n copy count) ≡ length n.positions
unfolding copy_positions
copy-length n copy count = length-set n.positions (length n.levels) _

pub further-length : (level more : ℕ) (ps : List ℕ) → length (further level more ps) ≡ length ps
unfolding further
further-length level more ps = length-set ps (level - 1) _

rest-length : (level : ℕ) (n : Nest) (rest : ℕ) → length (rest_positions level n rest) ≡ suc (length n.positions)
unfolding rest_positions
rest-length level n rest =
    let same = further-length level rest n.positions in
    grind (arith, length-append, length-take, length-drop)

roomy-length : (level : ℕ) (n m : Nest) (rests : ℕ) → length (roomy_positions level n m rests) ≡ length m.positions
roomy-length level n m rests = cond_both (is_behind level n m) (further level rests m.positions) m.positions (λ (ps : List ℕ). length ps ≡ length m.positions) (λ _. further-length level rests m.positions) (λ _. refl)

-- ---- pieces of one statement
module _ (head : Program) (level factor count : ℕ) (some : 2 ≤ factor) where
  module _ (m : Nest) (b : Bounds) (s : IsShapedNest head m) (u : UnrollsSo (length head.params) level factor m b) where
    copies-fit : (a k : ℕ) → AllByRecursion (FitsNest (length head.params) m) (map (copy_of (length head.params) level factor count m b) (range_with_len a k))
    copies-fit a zero = tt
    copies-fit a (suc k) = (full_piece-fits head m level factor b s u.within u.bounds a (copy_positions m a count) some (copy-length m a count ∙ s.positions), copies-fit (a + 1) k)

    rests-fit : (i : ℕ) (us : List Aff) → length m.levels < 8 → list_all (has_vars (vars_of (length head.params) m)) us ≡ true → AllByRecursion (FitsNest (length head.params) m) (rest_pieces (length head.params) level factor m b i us)
    rests-fit i [] deep e = tt
    rests-fit i (x ∷ us) deep e =
        let h = and (has_vars (vars_of (length head.params) m) x) (list_all (has_vars (vars_of (length head.params) m)) us) e in (
          rest_piece-fits head m level factor b s u.within u.bounds (take i b.uppers) x (rest_positions level m (suc i)) some deep (rest-length level m (suc i) ∙ ap suc s.positions) (take-over (vars_of (length head.params) m) i b.uppers u.bounds.uppers) h.0,
          rests-fit (suc i) us deep h.1,
        )

    no-rests : (us : List Aff) → length us ≡ 0 → AllByRecursion (FitsNest (length head.params) m) (rest_pieces (length head.params) level factor m b 0 us)
    no-rests [] e = tt
    no-rests (x ∷ us) e = absurd (omega (arith, e))

    all-rests : AllByRecursion (FitsNest (length head.params) m) (rest_pieces (length head.params) level factor m b 0 b.uppers)
    all-rests = elim u.depth [ inl e ↦ no-rests b.uppers e | inr l ↦ rests-fit 0 b.uppers l u.bounds.uppers ]

    unrolled-fit : AllByRecursion (FitsNest (length head.params) m) (unrolled_pieces (length head.params) level factor count m b)
    unrolled-fit = each-append (FitsNest (length head.params) m) (full_pieces (length head.params) level factor count m b) (rest_pieces (length head.params) level factor m b 0 b.uppers) (copies-fit 0 factor) all-rests

  rests-count : (params : ℕ) (m : Nest) (b : Bounds) (i : ℕ) (us : List Aff) → length (rest_pieces params level factor m b i us) ≡ length us
  rests-count params m b i [] = refl
  rests-count params m b i (x ∷ us) = ap suc (rests-count params m b (suc i) us)

  unrolled-count : (params : ℕ) (m : Nest) (b : Bounds) → length (unrolled_pieces params level factor count m b) ≡ factor + length b.uppers
  unrolled-count params m b =
      length-append (full_pieces params level factor count m b) (rest_pieces params level factor m b 0 b.uppers)
      ∙ omega (arith, length-map-range_with_len (copy_of params level factor count m b) 0 factor, rests-count params m b 0 b.uppers)

  module _ (n : Nest) (rests : ℕ) where
    role-fits : (m : Nest) (r : Role) → IsShapedNest head m → RoleSuits (length head.params) level factor m r → AllByRecursion (FitsNest (length head.params) m) (pieces_of (length head.params) level factor count rests n m r)
    role-fits m Stays s t = (piece_at-fits head m (roomy_positions level n m rests) s (roomy-length level n m rests), tt)
    role-fits m (Unrolls b) s t = unrolled-fit m b s t

    role-some : (m : Nest) (r : Role) → 1 ≤ length (pieces_of (length head.params) level factor count rests n m r)
    role-some m Stays = omega arith
    role-some m (Unrolls b) = omega (arith, unrolled-count (length head.params) m b, some)

    pub all-fit : (ms : List Nest) (rs : List Role) → AllByRecursion (IsShapedNest head) ms → RolesSuit (length head.params) level factor ms rs → AllFit (length head.params) ms (all_pieces (length head.params) level factor count rests n ms rs)
    all-fit [] [] s t = tt
    all-fit [] (r ∷ rs) s t = absurd t
    all-fit (m ∷ ms) [] s t = absurd t
    all-fit (m ∷ ms) (r ∷ rs) s t = (role-some m r, role-fits m r s.0 t.0, all-fit ms rs s.1 t.1)

    -- ---- how many pieces there are
    rooms : (room : ℕ) (ms : List Nest) (rs : List Role) → RolesSuit (length head.params) level factor ms rs → has_room_in factor (Some room) rs ≡ true
        → count_pieces (all_pieces (length head.params) level factor count rests n ms rs) ≤ room
    rooms room [] [] t e = omega arith
    rooms room [] (r ∷ rs) t e = absurd t
    rooms room (m ∷ ms) [] t e = absurd t
    rooms room (m ∷ ms) (Stays ∷ rs) t e =
        of (nat_le 1 room) refl e (λ d. rooms (room - 1) ms rs t.1 d)
      where
        of : (x : Bool) → nat_le 1 room ≡ x → has_room_in factor (cond x (Some (room - 1)) None) rs ≡ true
            → (has_room_in factor (Some (room - 1)) rs ≡ true → count_pieces (all_pieces (length head.params) level factor count rests n ms rs) ≤ room - 1)
            → 1 + count_pieces (all_pieces (length head.params) level factor count rests n ms rs) ≤ room
        of true h d again = let more = again d in let low : 1 ≤ room = leb_yes (rw h tt) in omega (arith, more, low)
        of false h d again = absurd cc
    rooms room (m ∷ ms) (Unrolls b ∷ rs) t e =
        of (nat_le (length b.uppers + factor) room) refl e (λ d. rooms (room - (length b.uppers + factor)) ms rs t.1 d)
      where
        of : (x : Bool) → nat_le (length b.uppers + factor) room ≡ x → has_room_in factor (cond x (Some (room - (length b.uppers + factor))) None) rs ≡ true
            → (has_room_in factor (Some (room - (length b.uppers + factor))) rs ≡ true → count_pieces (all_pieces (length head.params) level factor count rests n ms rs) ≤ room - (length b.uppers + factor))
            → length (unrolled_pieces (length head.params) level factor count m b) + count_pieces (all_pieces (length head.params) level factor count rests n ms rs) ≤ room
        of true h d again =
            let more = again d in
            let low : length b.uppers + factor ≤ room = leb_yes (rw h tt) in
            omega (arith, more, low, unrolled-count (length head.params) m b)
        of false h d again = absurd cc

-- ---- the moves
pub moves_by-fits : (k : Kernel) (n : Nest) (level factor rests : ℕ) (roles : List Role) → IsShaped k → 2 ≤ factor → RolesSuit (length k.head.params) level factor k.nests roles → IsTrue (has_room factor 64 roles) → Fits k (moves_by k n level factor rests roles)
moves_by-fits k n level factor rests roles s some t room =
    let count : ℕ = count_from 0 level n k.nests in
    record {
      pieces = all-fit k.head level factor count some n rests k.nests roles s.nests t;
      applies = length-map k.nests (shares_loop level n);
      few = rooms k.head level factor count some n rests 64 k.nests roles t room;
    }

-- ---- roles that suit
deep-not : (m : Nest) (b : Bounds) → nat_lt 0 (length b.uppers) && nat_le 8 (length m.levels) ≡ false → (length b.uppers ≡ 0) ⊎ (length m.levels < 8)
deep-not m b e = of (nat_lt 0 (length b.uppers)) (nat_le 8 (length m.levels)) refl refl e where
  of : (x y : Bool) → nat_lt 0 (length b.uppers) ≡ x → nat_le 8 (length m.levels) ≡ y → x && y ≡ false → (length b.uppers ≡ 0) ⊎ (length m.levels < 8)
  of true true h d f = absurd cc
  of true false h d f = inr (grind (arith, nat_tests))
  of false y h d f = inl (grind (arith, nat_tests))

or-false : (x y : Bool) → x || y ≡ false → (x ≡ false) × (y ≡ false)
or-false false false e = (refl, refl)
or-false false true e = absurd cc
or-false true y e = absurd cc

pub roles-suit : (params level factor room : ℕ) (ns : List Nest) (rs : List Role) → RolesFit params level ns rs → room ≤ 64 → has_room_in factor (Some room) rs ≡ true → any_deep ns rs ≡ false → RolesSuit params level factor ns rs
roles-suit params level factor room [] [] f l e d = tt
roles-suit params level factor room [] (r ∷ rs) f l e d = absurd f
roles-suit params level factor room (m ∷ ms) [] f l e d = absurd f
roles-suit params level factor room (m ∷ ms) (Stays ∷ rs) f l e d =
    of (nat_le 1 room) refl e (λ k. roles-suit params level factor (room - 1) ms rs f.1 (omega (arith, l)) k (or-false (is_deep m Stays) (any_deep ms rs) d).1)
  where
    of : (x : Bool) → nat_le 1 room ≡ x → has_room_in factor (cond x (Some (room - 1)) None) rs ≡ true → (has_room_in factor (Some (room - 1)) rs ≡ true → RolesSuit params level factor ms rs) → Unit {0} × RolesSuit params level factor ms rs
    of true h k again = (tt, again k)
    of false h k again = absurd cc
roles-suit params level factor room (m ∷ ms) (Unrolls b ∷ rs) f l e d =
    of (nat_le (length b.uppers + factor) room) refl e (λ k. roles-suit params level factor (room - (length b.uppers + factor)) ms rs f.1 (omega (arith, l)) k (or-false (is_deep m (Unrolls b)) (any_deep ms rs) d).1)
  where
    of : (x : Bool) → nat_le (length b.uppers + factor) room ≡ x → has_room_in factor (cond x (Some (room - (length b.uppers + factor))) None) rs ≡ true
        → (has_room_in factor (Some (room - (length b.uppers + factor))) rs ≡ true → RolesSuit params level factor ms rs) → UnrollsSo params level factor m b × RolesSuit params level factor ms rs
    of true h k again =
        let low : length b.uppers + factor ≤ room = leb_yes (rw h tt) in
        (record { bounds = f.0.0; within = f.0.1; few = omega (arith, low, l); depth = deep-not m b (or-false (is_deep m (Unrolls b)) (any_deep ms rs) d).0 }, again k)
    of false h k again = absurd cc

-- ---- limits that hold
not-false : (x : Bool) → not x ≡ false → x ≡ true
not-false true e = refl
not-false false e = absurd cc

pub record Within (factor rests : ℕ) (ns : List Nest) (rs : List Role) : Type 0 where
  pub low : 2 ≤ factor
  pub high : factor ≤ 16
  pub few : rests ≤ 64
  pub room : IsTrue (has_room factor 64 rs)
  pub shallow : any_deep ns rs ≡ false

pub limits-hold : (factor rests : ℕ) (ns : List Nest) (rs : List Role) → is_large factor rests ns rs ≡ false → Within factor rests ns rs
limits-hold factor rests ns rs e =
    let a = or-false (not (nat_le 2 factor && nat_le factor 16)) (not (nat_le rests 64) || (not (has_room factor 64 rs) || any_deep ns rs)) e in
    let b = or-false (not (nat_le rests 64)) (not (has_room factor 64 rs) || any_deep ns rs) a.1 in
    let d = or-false (not (has_room factor 64 rs)) (any_deep ns rs) b.1 in
    let f = and (nat_le 2 factor) (nat_le factor 16) (not-false _ a.0) in
    record {
      low = leb_yes (rw f.0 tt);
      high = leb_yes (rw f.1 tt);
      few = leb_yes (rw (not-false _ b.0) tt);
      room = not-false _ d.0;
      shallow = d.1;
    }

pub suits-within : (params level factor rests : ℕ) (ns : List Nest) (rs : List Role) → RolesFit params level ns rs → Within factor rests ns rs → RolesSuit params level factor ns rs
suits-within params level factor rests ns rs f w = roles-suit params level factor 64 ns rs f (omega arith) w.room w.shallow

-- ---- answers
pub moves-given : (k : Kernel) (n : Nest) (level factor : ℕ) (mine : Bounds) (roles : List Role) (found : Option Bounds) (all : Option (List Role)) (m : Moves) → Some mine ≡ found → Some roles ≡ all
    → m ≡ moves_by k n level factor (length mine.uppers) roles → Some m ≡ moves_where k n level factor found all
moves-given k n level factor mine roles found all m a b e = rw (← a, ← b, e) refl
