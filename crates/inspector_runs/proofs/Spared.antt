-- Steps on own arrays leave all other arrays.
use Rattle.std.proofs.Common.{◌≡◌, refl, sym, ap, ◌∙◌, ℤ, pos, Bool, true, false, ◌&&◌, List, arith, if◌then◌else◌}
use Rattle.c_meaning.specs.Names.{Name, same_name, same_numbers}
use Rattle.c_meaning.specs.Memory.{Memory}
use Rattle.c_meaning.specs.Ground.{Step, updated, worth}
use Rattle.c_meaning.specs.Run.{put_in, with_extents, declared, assign, do_deed}
use Rattle.c_meaning.proofs.Spots.{pointwise_equal, name_is, unread_cell}
use Rattle.inspector_runs.specs.Shown.{Spares}
use Rattle.inspector_runs.proofs.Memories.{in_other, long_other}

pub not_own : (own : Name → Bool) (a b : Name) → own a ≡ true → own b ≡ false → same_name a b ≡ false
not_own own a b h k = by _ refl
  where
    by : (c : Bool) → same_name a b ≡ c → same_name a b ≡ false
    by true e = absurd (let q : own b ≡ true = ap own (sym (name_is a b e)) ∙ h in grind (arith, q, k))
    by false e = e

module _ (own : Name → Bool) (base m : Memory) (a : Name) (h : own a ≡ true) (g : Spares own base m) where
  pub spares_put : (at : List ℤ) (v : ℤ) → Spares own base (put_in a at v m)
  spares_put at v = record {
    index = λ b k. pointwise_equal _ _ (λ is. in_other a b at is v m (not_own own a b h k)) ∙ g.index b k;
    extents = g.extents;
    cells = g.cells;
  }

  pub spares_long : (es : List ℤ) → Spares own base (with_extents a es m)
  spares_long es = record { index = g.index; extents = λ b k. long_other a b es m (not_own own a b h k) ∙ g.extents b k; cells = g.cells }

  pub spares_declared : (es : List ℤ) → Spares own base (declared a es m)
  spares_declared es = record {
    index = λ b k. pointwise_equal _ _ (λ is. ap (λ c. if c then pos 0 else m.index b is) (not_own own a b h k)) ∙ g.index b k;
    extents = λ b k. ap (λ c. if c then es else m.extents b) (not_own own a b h k) ∙ g.extents b k;
    cells = λ y k. ap (λ c. if c then 0 else m.cells y) (not_own own a y.array h k) ∙ g.cells y k;
  }

  pub spares_assign : (t : Step) → t.target.array ≡ a → Spares own base (do_deed (assign t) m)
  spares_assign t e = record {
    index = g.index;
    extents = g.extents;
    cells = λ y k.
        unread_cell m.cells t.target y (updated t.how (m.cells t.target) (worth t.value m.cells))
        (ap (λ b. b && same_numbers t.target.at y.at) (ap (λ n. same_name n y.array) e ∙ not_own own a y.array h k)) ∙ g.cells y k;
  }
