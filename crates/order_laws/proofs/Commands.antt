-- What the moves of each command are for the statements to which it doesn't apply.
use Rattle.std.proofs.Common.{◌≡◌, inl, inr, ℕ, suc, ◌-◌, Bool, true, false, cond, List, [], ◌∷◌, map, length, refl, sym, ◌∙◌, ap, subst, arith, ℤ, nat_le}
use Rattle.std.specs.Prelude.{◌||◌, Option, Some, None, Ok, slice_get, slice_index_or, slice_set}
use Rattle.std.specs.List.{list_all}
use Rattle.nest_tree.specs.declared.fault.ShapeWhy.{ShapeWhy}
use Rattle.nest_tree.specs.declared.kernel.Kernel.{Kernel}
use Rattle.nest_tree.specs.declared.kernel.Nest.{Nest}
use Rattle.nest_tree.specs.declared.moves.Moves.{Moves}
use Rattle.nest_tree.specs.declared.moves.Piece.{Piece}
use Rattle.nest_tree.specs.Lists.{IsIn}
use Rattle.nest_tree.specs.Moving.{Move}
use Rattle.nest_core.specs.Order.{shares_loop}
use Rattle.nest_core.specs.Shapes.{IsShaped}
use Rattle.affine_moves.specs.declared.change.Change.{Change}
use Rattle.affine_moves.specs.declared.change.Change.TheVariants.{Stay, Skew, Shift, Tile}
use Rattle.affine_moves.specs.Change.{piece_of, new_positions}
use Rattle.affine_moves.specs.Moves as affine
use Rattle.affine_moves.specs.Moves.{moves_of, judged, sharers, only, is_identity, first_moving, reordering, is_zero, permute_shape, tile_shape, skew_shape, shift_shape}
use Rattle.affine_moves.specs.Placed.{piece_at}
use Rattle.fuse_distribute.specs.Moving.{pieces_at, moved_to}
use Rattle.fuse_distribute.specs.Fusing.{child_count, fused_positions, in_either, fuse_shape, fuse_at}
use Rattle.fuse_distribute.specs.Distributing.{is_behind, one_further, split_positions, split_each, distribute_shape, distribute_at}
use Rattle.unroll.specs.declared.bounds.Bounds.{Bounds}
use Rattle.unroll.specs.declared.roles.Role.{Role}
use Rattle.unroll.specs.declared.roles.Role.TheVariants.{Stays}
use Rattle.unroll.specs.Bounds.{bounds_of}
use Rattle.unroll.specs.Moves as unroll
use Rattle.unroll.specs.Moves.{unrolls, role_of, in_front, roles_of, all_pieces, moves_by, moves_where, count_from}
use Rattle.unroll.specs.Places.{further, roomy_positions}
use Rattle.piece_laws.proofs.Pieces.{placed_pieces}
use Rattle.move_laws.specs.Moves.{moves_of_all}
use Rattle.tested_laws.specs.Testing.{applies_to}
use Rattle.order_laws.specs.Others.{StandAlike, LeaveOthers, AreMovesOf, by_permute, by_tile, by_skew, by_shift, by_fuse, by_distribute, by_unroll, CommandsLeaveOthers, OthersOfCommandsStay}
use Rattle.order_laws.proofs.Finding.{Leaves, AllLeave, leave_others}
use Rattle.order_laws.proofs.Room.{roomy, roomy-length, roomy-alike}
use Rattle.order_laws.proofs.Staying.{left_instances_stay}

same : List ℕ → List ℕ
same ps = ps

same-alike : (ps qs : List ℕ) → StandAlike ps qs (same ps) (same qs)
unfolding same
same-alike ps qs = record { shares = refl; before = λ h. h }

pub only-one : {A : Type 0} (p q : A) → IsIn p (q ∷ []) → p ≡ q
only-one p q (inl e) = e
only-one p q (inr a) = absurd a

-- a statement that stays at its positions, and one that goes to others
stays : (params : ℕ) (n : Nest) (p : Piece) → p ≡ piece_of params Stay n → Leaves params same n p
unfolding same piece_of new_positions
stays params n p e = subst (Leaves params same n) (sym e) (record { placed = (placed_pieces params n []).0; positions = refl })

stays-at : (params : ℕ) (r : List ℕ → List ℕ) (n : Nest) (ps : List ℕ) (p : Piece) → ps ≡ r n.positions → p ≡ piece_at params n ps → Leaves params r n p
stays-at params r n ps p is e = subst (Leaves params r n) (sym e) (record { placed = (placed_pieces params n ps).1; positions = is })

-- ---- permute, tile, skew and shift
changes-leave : (params : ℕ) (change : Change) (bs : List Bool) (ns : List Nest) → AllLeave params same bs ns (affine.pieces_of params change bs ns)
changes-leave params change bs [] = tt
changes-leave params change [] (n ∷ ns) = tt
changes-leave params change (b ∷ bs) (n ∷ ns) =
    (λ p a off. stays params n p (only-one p (piece_of params (cond b change Stay) n) a ∙ ap (λ (c : Bool). piece_of params (cond c change Stay) n) off), changes-leave params change bs ns)

-- ---- fuse
fuse-leaves : (params level loop count : ℕ) (a b : Nest) (ns : List Nest) → AllLeave params same (map (in_either level a b) ns) ns (pieces_at params ns (map (fused_positions level loop count b) ns))
unfolding same
fuse-leaves params level loop count a b [] = tt
fuse-leaves params level loop count a b (n ∷ ns) =
    (λ p i off. stays-at params same n (fused_positions level loop count b n) p (keeps (shares_loop level a n) (shares_loop level b n) refl off) (only-one p _ i), fuse-leaves params level loop count a b ns)
  where
    keeps : (x y : Bool) → shares_loop level b n ≡ y → (x || y) ≡ false → fused_positions level loop count b n ≡ n.positions
    keeps true y e off = absurd cc
    keeps false true e off = absurd cc
    keeps false false e off = rw e refl

-- ---- distribute
make-room : (level : ℕ) (n m : Nest) → cond (is_behind level n m) (one_further level m.positions) m.positions ≡ roomy 1 (level - 1) n.positions m.positions
unfolding one_further
make-room level n m = ap (λ (v : ℕ). cond (is_behind level n m) (slice_set m.positions (level - 1) v) m.positions) (omega arith)

split-leaves : (params level s : ℕ) (n : Nest) (i : ℕ) (ns : List Nest) → AllLeave params (roomy 1 (level - 1) n.positions) (sharers level n ns) ns (pieces_at params ns (split_each level s n i ns))
split-leaves params level s n i [] = tt
split-leaves params level s n i (m ∷ ns) = (
  λ p a off. stays-at params (roomy 1 (level - 1) n.positions) m (split_positions level s n i m) p
      (ap (λ (b : Bool). cond (cond b (nat_le s i) (is_behind level n m)) (one_further level m.positions) m.positions) off ∙ make-room level n m) (only-one p _ a),
  split-leaves params level s n (suc i) ns,
)

-- ---- unroll
both-there : (x : Option Role) (xs : Option (List Role)) (r : Role) (rs : List Role) → in_front x xs ≡ Some (r ∷ rs) → (x ≡ Some r) × (xs ≡ Some rs)
both-there (Some x) (Some xs) r rs e = (cc, cc)
both-there (Some x) None r rs e = absurd cc
both-there None xs r rs e = absurd cc

stays-outside : (params level : ℕ) (n m : Nest) (r : Role) → role_of params level n m ≡ Some r → shares_loop level n m ≡ false → r ≡ Stays
unfolding role_of
stays-outside params level n m r e off = by (shares_loop level n m) off e
  where
    by : (b : Bool) → b ≡ false → cond b (unrolls (bounds_of params level m)) (Some Stays) ≡ Some r → r ≡ Stays
    by true off g = absurd cc
    by false off g = cc

more-room : (level : ℕ) (n m : Nest) (rests : ℕ) → roomy_positions level n m rests ≡ roomy rests (level - 1) n.positions m.positions
unfolding further
more-room level n m rests = refl

unroll-leaves : (params level factor count rests : ℕ) (n : Nest) (ns : List Nest) (roles : List Role) → roles_of params level n ns ≡ Some roles
    → AllLeave params (roomy rests (level - 1) n.positions) (sharers level n ns) ns (all_pieces params level factor count rests n ns roles)
unroll-leaves params level factor count rests n [] roles e = tt
unroll-leaves params level factor count rests n (m ∷ ns) [] e = tt
unroll-leaves params level factor count rests n (m ∷ ns) (r ∷ rs) e =
    let b = both-there (role_of params level n m) (roles_of params level n ns) r rs e in (
      λ p a off. stays-at params (roomy rests (level - 1) n.positions) m (roomy_positions level n m rests) p (more-room level n m rests)
          (only-one p _ (subst (λ (x : Role). IsIn p (unroll.pieces_of params level factor count rests n m x)) (stays-outside params level n m r b.0 off) a)),
      unroll-leaves params level factor count rests n ns rs b.1,
    )

-- ---- all commands
pub judged-ok : {A : Type 0} (o : Option ShapeWhy) (x y : A) → judged o x ≡ Ok y → x ≡ y
judged-ok None x y e = cc
judged-ok (Some why) x y e = absurd cc

pub unless-some : (b : Bool) (x m : Moves) → cond b None (Some x) ≡ Some m → x ≡ m
unless-some true x m e = absurd cc
unless-some false x m e = cc

module _ (k : Kernel) (m : Moves) (moves : List Move) (shaped : IsShaped k) (made : moves_of_all (length k.head.params) k.nests m.pieces ≡ Ok moves) where
  Wanted : Type 0
  Wanted = LeaveOthers (length k.head.params) (applies_to k m) moves

  by_change : (change : Change) (bs : List Bool) → moves_of k change bs ≡ m → Wanted
  unfolding Wanted same
  by_change change bs e = leave_others k m moves same shaped (λ ps. refl) same-alike
      (subst (λ (x : Moves). AllLeave (length k.head.params) same x.applies k.nests x.pieces) e (changes-leave (length k.head.params) change bs k.nests)) made

  permuted : (n : Option Nest) (order : List ℕ) → affine.permute_at k n order ≡ Ok (Some m) → Wanted
  permuted None order e = absurd cc
  permuted (Some n) order e = by_change (reordering order) _ (unless-some (is_identity order) _ m (judged-ok (permute_shape (length k.head.params) k.nests n order) _ (Some m) e))

  tiled : (n : Option Nest) (level size outer : ℕ) → affine.tile_at k n level size outer ≡ Ok m → Wanted
  tiled None level size outer e = absurd cc
  tiled (Some n) level size outer e = by_change (Tile level size outer) _ (judged-ok (tile_shape (length k.head.params) k.nests n level size outer) _ m e)

  skewed : (n : Option Nest) (level : ℕ) (coefs : List ℤ) → affine.skew_at k n level coefs ≡ Ok (Some m) → Wanted
  skewed None level coefs e = absurd cc
  skewed (Some n) level coefs e = by_change (Skew level coefs) _ (unless-some (list_all is_zero coefs) _ m (judged-ok (skew_shape n level coefs) _ (Some m) e))

  shifted : (s : ℕ) (n : Option Nest) (level : ℕ) (amount : ℤ) → affine.shift_at k s n level amount ≡ Ok (Some m) → Wanted
  shifted s None level amount e = absurd cc
  shifted s (Some n) level amount e = by_change (Shift level amount) _ (unless-some (is_zero amount) _ m (judged-ok (shift_shape n level amount) _ (Some m) e))

  by_places : (r : List ℕ → List ℕ) (pss : List (List ℕ)) (bs : List Bool) → ((ps : List ℕ) → length (r ps) ≡ length ps) → ((ps qs : List ℕ) → StandAlike ps qs (r ps) (r qs))
      → AllLeave (length k.head.params) r bs k.nests (pieces_at (length k.head.params) k.nests pss) → moved_to k pss bs ≡ m → Wanted
  unfolding Wanted
  by_places r pss bs long alike h e = leave_others k m moves r shaped long alike (subst (λ (x : Moves). AllLeave (length k.head.params) r x.applies k.nests x.pieces) e h) made

  fused : (a b : Option Nest) (level : ℕ) → fuse_at k a b level ≡ Ok m → Wanted
  unfolding same
  fused None b level e = absurd cc
  fused (Some a) None level e = absurd cc
  fused (Some a) (Some b) level e =
      let loop : ℕ = slice_index_or a.positions (level - 1) 0 in
      let count : ℕ = child_count 0 level a k.nests in
      by_places same (map (fused_positions level loop count b) k.nests) (map (in_either level a b) k.nests) (λ ps. refl) same-alike (fuse-leaves (length k.head.params) level loop count a b k.nests)
      (judged-ok (fuse_shape a b level) _ m e)

  distributed : (s : ℕ) (n : Option Nest) (level : ℕ) → distribute_at k s n level ≡ Ok m → Wanted
  distributed s None level e = absurd cc
  distributed s (Some n) level e =
      by_places (roomy 1 (level - 1) n.positions) (split_each level s n 0 k.nests) (sharers level n k.nests) (roomy-length 1 (level - 1) n.positions) (roomy-alike 1 (level - 1) n.positions)
      (split-leaves (length k.head.params) level s n 0 k.nests) (judged-ok (distribute_shape k.nests s n level) _ m e)

  unrolled_by : (n : Nest) (level factor : ℕ) (mine : Option Bounds) (roles : Option (List Role)) → roles_of (length k.head.params) level n k.nests ≡ roles → moves_where k n level factor mine roles ≡ Some m → Wanted
  unfolding Wanted
  unrolled_by n level factor None roles is e = absurd cc
  unrolled_by n level factor (Some mine) None is e = absurd cc
  unrolled_by n level factor (Some mine) (Some roles) is e =
      let rests : ℕ = length mine.uppers in
      let moved : moves_by k n level factor rests roles ≡ m = cc in
      leave_others k m moves (roomy rests (level - 1) n.positions) shaped (roomy-length rests (level - 1) n.positions) (roomy-alike rests (level - 1) n.positions)
      (subst (λ (x : Moves). AllLeave (length k.head.params) (roomy rests (level - 1) n.positions) x.applies k.nests x.pieces) moved
      (unroll-leaves (length k.head.params) level factor (count_from 0 level n k.nests) rests n k.nests roles is)) made

  unrolled_of : (n : Option Nest) (level factor : ℕ) → unroll.unrolled_at k n level factor ≡ Some m → Wanted
  unrolled_of None level factor e = absurd cc
  unrolled_of (Some n) level factor e = unrolled_by n level factor (bounds_of (length k.head.params) level n) (roles_of (length k.head.params) level n k.nests) refl e

  by_command : AreMovesOf k m → LeaveOthers (length k.head.params) (applies_to k m) moves
  unfolding Wanted
  by_command (by_permute s order e) = permuted (slice_get k.nests s) order e
  by_command (by_tile s level size outer e) = tiled (slice_get k.nests s) level size outer e
  by_command (by_skew s level coefs e) = skewed (slice_get k.nests s) level coefs e
  by_command (by_shift s level amount e) = shifted s (slice_get k.nests s) level amount e
  by_command (by_fuse s other level e) = fused (slice_get k.nests s) (slice_get k.nests other) level e
  by_command (by_distribute s level e) = distributed s (slice_get k.nests s) level e
  by_command (by_unroll s level factor e) = unrolled_of (slice_get k.nests s) level factor e

pub commands_leave : CommandsLeaveOthers
commands_leave k m moves shaped by made = by_command k m moves shaped made by

pub others_stay : OthersOfCommandsStay
others_stay k m i moves count shaped by made =
    left_instances_stay i (applies_to k m) moves (subst (λ (n : ℕ). LeaveOthers n (applies_to k m) moves) (sym count) (commands_leave k m moves shaped by made))
