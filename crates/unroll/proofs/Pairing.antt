-- What becomes of each statement: its role speaks of its own variables, rows and levels.
use Rattle.std.proofs.Common.{◌≡◌, ℕ, suc, arith, ◌<◌, ◌≤◌, ◌+◌, Bool, true, false, cond, List, [], ◌∷◌, ◌++◌, drop, length, get_or, refl, sym, ap, ◌∙◌, subst, drop-cons, add-one, append_assoc, append-nil, le-leb}
use Rattle.std.specs.Prelude.{IsTrue, Option, Some, None}
use Rattle.std.specs.List.{AllByRecursion}
use Rattle.std.proofs.lemmas.List.{drop_all}
use Rattle.c_tree.specs.declared.program.Program.{Program}
use Rattle.nest_tree.specs.declared.kernel.Nest.{Nest}
use Rattle.nest_core.specs.Order.{shares_loop}
use Rattle.nest_core.specs.Shapes.{IsShapedNest}
use Rattle.nest_tree.specs.declared.moves.Piece.{Piece}
use Rattle.affine_moves.specs.Change.{is_level}
use Rattle.affine_moves.specs.Placed.{are_small, ArePlaced}
use Rattle.affine_moves.proofs.Counted.{shares-within}
use Rattle.unroll.specs.declared.bounds.Bounds.{Bounds}
use Rattle.unroll.specs.declared.roles.Role.{Role}
use Rattle.unroll.specs.declared.roles.Role.TheVariants.{Stays, Unrolls}
use Rattle.unroll.specs.Bounds.{bounds_of, AreBounds}
use Rattle.unroll.specs.Moves.{unrolls, role_of, in_front, roles_of, RoleFits, RolesFit, RoleSuits, RolesSuit, pieces_of, all_pieces}
use Rattle.unroll.proofs.Found.{bounds_of-fits}

-- ---- the roles of all statements
module _ (head : Program) (level : ℕ) (n : Nest) (some : 1 ≤ level) where
  of-loop : (m : Nest) (r : Role) (found : Option Bounds) → ((b : Bounds) → Some b ≡ found → AreBounds (length head.params) m b) → is_level (length m.levels) level ≡ true → Some r ≡ unrolls found → RoleFits (length head.params) level m r
  of-loop m r None h l e = absurd cc
  of-loop m r (Some b) h l e =
      let same : Unrolls b ≡ r = cc in
      subst (λ (x : Role). RoleFits (length head.params) level m x) same (h b refl, l)

  pub deep : (m : Nest) → IsShapedNest head m → shares_loop level n m ≡ true → is_level (length m.levels) level ≡ true
  deep m s e =
      let p = s.positions in
      let w = shares-within level n m e (omega (arith, p)) in
      rw (le-leb 1 level some, le-leb level (length m.levels) (omega (arith, w, p))) refl

  pub role_of-fits : (m : Nest) (r : Role) → IsShapedNest head m → Some r ≡ role_of (length head.params) level n m → RoleFits (length head.params) level m r
  unfolding role_of
  role_of-fits m r s e = of (shares_loop level n m) refl e where
    of : (t : Bool) → shares_loop level n m ≡ t → Some r ≡ cond t (unrolls (bounds_of (length head.params) level m)) (Some Stays) → RoleFits (length head.params) level m r
    of true h d = of-loop m r (bounds_of (length head.params) level m) (λ b x. bounds_of-fits head level m s b x) (deep m s h) d
    of false h d = let same : Stays ≡ r = cc in subst (λ (x : Role). RoleFits (length head.params) level m x) same tt

  front : (o : Option Role) (os : Option (List Role)) (rs : List Role) → Some rs ≡ in_front o os → (r : Role) × (qs : List Role) × (Some r ≡ o) × (Some qs ≡ os) × (rs ≡ r ∷ qs)
  front None os rs e = absurd cc
  front (Some r) None rs e = absurd cc
  front (Some r) (Some qs) rs e = (r, qs, refl, refl, cc)

  pub roles_of-fit : (ms : List Nest) (rs : List Role) → AllByRecursion (IsShapedNest head) ms → Some rs ≡ roles_of (length head.params) level n ms → RolesFit (length head.params) level ms rs
  roles_of-fit [] rs s e = let same : [] ≡ rs = cc in subst (λ (x : List Role). RolesFit (length head.params) level [] x) same tt
  roles_of-fit (m ∷ ms) rs s e =
      let f = front (role_of (length head.params) level n m) (roles_of (length head.params) level n ms) rs e in
      subst (λ (x : List Role). RolesFit (length head.params) level (m ∷ ms) x) (sym f.4)
      (role_of-fits m f.0 s.0 f.2, roles_of-fit ms f.1 s.1 f.3)

-- ---- the loop that finds them
abbrev pub with_all : List Role → Option (List Role) → Option (List Role)
with_all rs None = None
with_all rs (Some qs) = Some (rs ++ qs)

with-front : (out : List Role) (r : Role) (rest : Option (List Role)) → with_all out (in_front (Some r) rest) ≡ with_all (out ++ r ∷ []) rest
with-front out r None = refl
with-front out r (Some qs) = ap (λ (x : List Role). Some x) (sym (append_assoc out (r ∷ []) qs))

module _ (head : Program) (level : ℕ) (n : Nest) (ms : List Nest) (i : ℕ) (out : List Role) (w : Option (List Role)) where
  module _ (m : Nest) (l : i < length ms) (e : m ≡ get_or ms i m) where
    cons : drop i ms ≡ m ∷ drop (suc i) ms
    cons = drop-cons ms i m l ∙ ap (λ (a : Nest). a ∷ drop (suc i) ms) (sym e)

    pub roles-more : (r : Role) (new : List Role) → Some r ≡ role_of (length head.params) level n m → new ≡ out ++ r ∷ [] → with_all out (roles_of (length head.params) level n (drop i ms)) ≡ w
        → with_all new (roles_of (length head.params) level n (drop (i + 1) ms)) ≡ w
    roles-more r new is pushed h =
        let k = rw (cons, ← is) at h in
        rw (add-one i, pushed) (sym (with-front out r (roles_of (length head.params) level n (drop (suc i) ms))) ∙ k)

    pub roles-none : None ≡ role_of (length head.params) level n m → with_all out (roles_of (length head.params) level n (drop i ms)) ≡ w → None ≡ w
    roles-none is h = rw (cons, ← is) at h

  pub roles-end : length ms ≤ i → with_all out (roles_of (length head.params) level n (drop i ms)) ≡ w → Some out ≡ w
  roles-end l h =
      let none : drop i ms ≡ [] = drop_all i ms l in
      let k = rw none at h in
      ap (λ (x : List Role). Some x) (sym (append-nil out)) ∙ k

-- ---- statements with their roles, from the i-th on
pub fit-counts : (params level : ℕ) (ns : List Nest) (rs : List Role) → RolesFit params level ns rs → length rs ≡ length ns
fit-counts params level [] [] f = refl
fit-counts params level [] (r ∷ rs) f = absurd f
fit-counts params level (n ∷ ns) [] f = absurd f
fit-counts params level (n ∷ ns) (r ∷ rs) f = ap suc (fit-counts params level ns rs f.1)

pub record Paired (head : Program) (level : ℕ) (ns : List Nest) (rs : List Role) (i : ℕ) : Type 0 where
  pub shaped : AllByRecursion (IsShapedNest head) (drop i ns)
  pub fit : RolesFit (length head.params) level (drop i ns) (drop i rs)
  pub same : length rs ≡ length ns

module _ (head : Program) (level : ℕ) (ns : List Nest) (rs : List Role) where
  pub paired-none : AllByRecursion (IsShapedNest head) ns → RolesFit (length head.params) level ns rs → Paired head level ns rs 0
  paired-none s f = record { shaped = s; fit = f; same = fit-counts (length head.params) level ns rs f }

  module _ (i : ℕ) (n : Nest) (r : Role) (l : i < length ns) (e : n ≡ get_or ns i n) (d : r ≡ get_or rs i r) (p : Paired head level ns rs i) where
    cons2 : drop i ns ≡ n ∷ drop (suc i) ns
    cons2 = drop-cons ns i n l ∙ ap (λ (a : Nest). a ∷ drop (suc i) ns) (sym e)

    cons3 : drop i rs ≡ r ∷ drop (suc i) rs
    cons3 = drop-cons rs i r (rw p.same l) ∙ ap (λ (a : Role). a ∷ drop (suc i) rs) (sym d)

    pub paired-shaped : IsShapedNest head n
    paired-shaped = let s = rw cons2 at p.shaped in s.0

    pub paired-role : RoleFits (length head.params) level n r
    paired-role = let f = rw (cons2, cons3) at p.fit in f.0

    pub paired-more : Paired head level ns rs (i + 1)
    paired-more =
        let s = rw cons2 at p.shaped in
        let f = rw (cons2, cons3) at p.fit in
        rw (add-one i) (record { shaped = s.1; fit = f.1; same = p.same })

-- ---- statements that suit their roles, from the i-th on
suit-counts : (params level factor : ℕ) (ns : List Nest) (rs : List Role) → RolesSuit params level factor ns rs → length rs ≡ length ns
suit-counts params level factor [] [] f = refl
suit-counts params level factor [] (r ∷ rs) f = absurd f
suit-counts params level factor (n ∷ ns) [] f = absurd f
suit-counts params level factor (n ∷ ns) (r ∷ rs) f = ap suc (suit-counts params level factor ns rs f.1)

-- what the loop that makes the pieces keeps
pub record Pieces (head : Program) (level factor count rests : ℕ) (nest : Nest) (ns : List Nest) (rs : List Role) (i : ℕ) (out : List (List Piece)) : Type 0 where
  pub shaped : AllByRecursion (IsShapedNest head) (drop i ns)
  pub placed : ArePlaced (drop i ns)
  pub suit : RolesSuit (length head.params) level factor (drop i ns) (drop i rs)
  pub same : length rs ≡ length ns
  pub rest : out ++ all_pieces (length head.params) level factor count rests nest (drop i ns) (drop i rs) ≡ all_pieces (length head.params) level factor count rests nest ns rs

module _ (head : Program) (level factor count rests : ℕ) (nest : Nest) (ns : List Nest) (rs : List Role) where
  pub pieces-none : AllByRecursion (IsShapedNest head) ns → ArePlaced ns → RolesSuit (length head.params) level factor ns rs → Pieces head level factor count rests nest ns rs 0 []
  pieces-none s p t = record { shaped = s; placed = p; suit = t; same = suit-counts (length head.params) level factor ns rs t; rest = refl }

  module _ (i : ℕ) (n : Nest) (r : Role) (out : List (List Piece)) (l : i < length ns) (e : n ≡ get_or ns i n) (d : r ≡ get_or rs i r) (p : Pieces head level factor count rests nest ns rs i out) where
    cons4 : drop i ns ≡ n ∷ drop (suc i) ns
    cons4 = drop-cons ns i n l ∙ ap (λ (a : Nest). a ∷ drop (suc i) ns) (sym e)

    cons5 : drop i rs ≡ r ∷ drop (suc i) rs
    cons5 = drop-cons rs i r (rw p.same l) ∙ ap (λ (a : Role). a ∷ drop (suc i) rs) (sym d)

    pub pieces-shaped : IsShapedNest head n
    pieces-shaped = let s = rw cons4 at p.shaped in s.0

    pub pieces-small : IsTrue (are_small n.positions)
    pieces-small = let s = rw cons4 at p.placed in s.0.small

    pub pieces-role : RoleSuits (length head.params) level factor n r
    pieces-role = let t = rw (cons4, cons5) at p.suit in t.0

    pub pieces-more : (one : List Piece) (new : List (List Piece)) → one ≡ pieces_of (length head.params) level factor count rests nest n r → new ≡ out ++ one ∷ [] → Pieces head level factor count rests nest ns rs (i + 1) new
    pieces-more one new is pushed =
        let s = rw cons4 at p.shaped in
        let q = rw cons4 at p.placed in
        let t = rw (cons4, cons5) at p.suit in
        let k = rw (cons4, cons5) at p.rest in
        rw (add-one i, pushed, is) (record {
          shaped = s.1;
          placed = q.1;
          suit = t.1;
          same = p.same;
          rest = append_assoc out (pieces_of (length head.params) level factor count rests nest n r ∷ []) (all_pieces (length head.params) level factor count rests nest (drop (suc i) ns) (drop (suc i) rs)) ∙ k;
        })

  pub pieces-end : (i : ℕ) (out : List (List Piece)) → length ns ≤ i → Pieces head level factor count rests nest ns rs i out → out ≡ all_pieces (length head.params) level factor count rests nest ns rs
  pieces-end i out l p =
      let none : drop i ns ≡ [] = drop_all i ns l in
      let k = rw none at p.rest in
      sym (append-nil out) ∙ k
