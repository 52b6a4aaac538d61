-- Each statement keeps the number of its positions.
use Rattle.std.proofs.Common.{◌≡◌, ℕ, suc, arith, ◌<◌, ◌≤◌, ◌-◌, ◌+◌, Bool, true, false, ◌&&◌, nat_le, List, [], ◌∷◌, length, map, refl, ◌∙◌}
use Rattle.std.specs.Prelude.{slice_set, slice_index_or}
use Rattle.std.proofs.Math.Facts.{leb_yes}
use Rattle.std.proofs.lemmas.Bool.{cond_both}
use Rattle.std.proofs.lemmas.List.{length-set}
use Rattle.nest_tree.specs.declared.kernel.Nest.{Nest}
use Rattle.nest_core.specs.Order.{shares_loop}
use Rattle.affine_moves.specs.Change.{is_level}
use Rattle.affine_moves.proofs.Counted.{shares-within}
use Rattle.fuse_distribute.specs.Moving.{AreAsLong}
use Rattle.fuse_distribute.specs.Fusing.{rehung, fused_positions}
use Rattle.fuse_distribute.specs.Distributing.{one_further, is_behind, moves_on, split_each}

rehung-length : (level loop count : ℕ) (ps : List ℕ) → length (rehung level loop count ps) ≡ length ps
unfolding rehung
rehung-length level loop count ps = length-set (slice_set ps (level - 1) loop) level (count + slice_index_or ps level 0) ∙ length-set ps (level - 1) loop

pub fused-long : (level loop count : ℕ) (b : Nest) (ns : List Nest) → AreAsLong ns (map (fused_positions level loop count b) ns)
fused-long level loop count b [] = tt
fused-long level loop count b (m ∷ ms) =
    (cond_both (shares_loop level b m) (rehung level loop count m.positions) m.positions (λ (ps : List ℕ). length ps ≡ length m.positions) (λ _. rehung-length level loop count m.positions) (λ _. refl), fused-long level loop count b ms)

further-length : (level : ℕ) (ps : List ℕ) → length (one_further level ps) ≡ length ps
unfolding one_further
further-length level ps = length-set ps (level - 1) (suc (slice_index_or ps (level - 1) 0))

pub split-long : (level s : ℕ) (n : Nest) (i : ℕ) (ns : List Nest) → AreAsLong ns (split_each level s n i ns)
split-long level s n i [] = tt
split-long level s n i (m ∷ ms) =
    (cond_both (moves_on level s n i m) (one_further level m.positions) m.positions (λ (ps : List ℕ). length ps ≡ length m.positions) (λ _. further-length level m.positions) (λ _. refl), split-long level s n (suc i) ms)

-- ---- statements that move have the level
both : (x y : Bool) → x && y ≡ true → x ≡ true
both true y e = refl
both false y e = absurd cc

pub moves-within : (level s : ℕ) (n : Nest) (i : ℕ) (m : Nest) → moves_on level s n i m ≡ true → 0 < length m.positions → 1 ≤ level → level ≤ length m.positions
moves-within level s n i m e p l =
    cond_both (shares_loop level n m) (nat_le s i) (is_behind level n m) (λ (b : Bool). b ≡ true → level ≤ length m.positions)
    (λ h _. (let w = shares-within level n m h p in omega (arith, w)))
    (λ _ h. (let w = shares-within (level - 1) n m (both (shares_loop (level - 1) n m) _ h) p in omega (arith, w, l))) e

pub level-some : (d l : ℕ) → is_level d l ≡ true → 1 ≤ l
level-some d l e = leb_yes (rw (both (nat_le 1 l) (nat_le l d) e) tt)
