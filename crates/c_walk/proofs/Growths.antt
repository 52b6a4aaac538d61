-- Growths.
use Rattle.std.proofs.Common.{◌≡◌, refl, sym, ap, ◌∙◌, ℕ, ◌+◌, ℤ, pos, unsigned_abs, true, false, ◌&&◌, int_lt, [], ◌∷◌, Ok, Err, arith, if◌then◌else◌}
use Rattle.std.proofs.lemmas.Int.{ints}
use Rattle.c_tree.specs.declared.index.Index.{Index}
use Rattle.c_meaning.specs.declared.fault.EvalFault.TheVariants.{Range}
use Rattle.c_meaning.specs.Names.{Name, Place}
use Rattle.c_meaning.specs.Value.{Answer, ◌>>=◌, value_of}
use Rattle.c_meaning.specs.Memory.{Memory, Env, sight_of}
use Rattle.c_meaning.specs.Run.{Deed, grow, do_deed, given_by, performs, is_natural, is_within, grown, with_extents, grow_step}
use Rattle.c_walk.specs.declared.halt.Halt.TheVariants.{NoMemory}
use Rattle.c_walk.specs.State.{State, memory_in, with_memory}
use Rattle.c_walk.specs.Does.{has_growth, Does, growth}
use Rattle.c_walk.proofs.Pieces.{does_given}

pub not_negative : (x : ℤ) → int_lt x (pos 0) ≡ false → pos (unsigned_abs x) ≡ x
not_negative x h = grind (arith, ints)

natural : (k : ℕ) → is_natural (pos k) ≡ true
natural k = grind (arith, ints)

does_step : (p : Place) (d : Deed) (s s' : State) (m : Memory) (u : Unit {0}) → s' ≡ with_memory m s → do_deed d (memory_in s) ≡ m → Does (performs p d) s s' (Ok u)
does_step p d s s' m u h k =
    let e : memory_in s' ≡ m = ap memory_in h in
    record { frame = h ∙ ap (λ m. with_memory m s) (sym e); ends = (refl, e ∙ sym k) }

module _ (p : Place) (name : Name) (by : Index) (c : Env) (s s' : State) (n : ℤ) (k a b d : ℕ) (v : value_of by (sight_of c (memory_in s)) ≡ Ok n) (q : pos k ≡ n) (e : s.sight.extents name ≡ pos a ∷ pos b ∷ pos d ∷ []) (room : is_within (pos (a + k) ∷ pos b ∷ pos d ∷ []) ≡ true) where
  within : (is_natural (pos k) && is_within (grown (pos k) (s.sight.extents name))) ≡ true
  within = ap (λ t. t && is_within (grown (pos k) (s.sight.extents name))) (natural k) ∙ ap (λ es. is_within (grown (pos k) es)) e ∙ room

  step_is : grow_step name by c (memory_in s) ≡ Ok (grow name (pos k))
  step_is =
      ap (λ x. x >>= (λ n. if is_natural n && is_within (grown n (s.sight.extents name)) then Ok (grow name n) else Err Range)) (v ∙ ap Ok (sym q))
      ∙ ap (λ t. let r : Answer Deed = if t then Ok (grow name (pos k)) else Err Range in r) within

  pub does_growth : s' ≡ with_memory (with_extents name (grown (pos k) (s.sight.extents name)) (memory_in s)) s → Does (growth name by c p) s s' (Ok (tt {0}))
  does_growth h = does_given p (grow_step name by c) (grow name (pos k)) (performs p) s s' (Ok (tt {0})) step_is (does_step p (grow name (pos k)) s s' _ (tt {0}) h refl)

  pub no_room : s' ≡ s → Does {A = Unit {0}} (growth name by c p) s s' (Err NoMemory)
  no_room h = record {
    frame = h ∙ ap (λ m. with_memory m s) (sym (ap memory_in h));
    ends = ap (λ x. has_growth ((given_by p x (performs p) (memory_in s)).items)) step_is;
  }
