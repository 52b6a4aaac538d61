-- Cells with several subscripts, assignments to data, and arrays with inner extents.
use Rattle.std.proofs.Common.{◌≡◌, refl, sym, ap, ◌∙◌, ℕ, ◌+◌, ◌*◌, ◌≤◌, ◌<◌, ℤ, pos, Bool, true, false, ◌&&◌, List, [], ◌∷◌, Ok, Err, arith, nat_eq, if◌then◌else◌}
use Rattle.std.proofs.lemmas.Int.{ints}
use Rattle.std.specs.List.{list_all}
use Rattle.c_meaning.specs.Inputs.{three}
use Rattle.std.proofs.Math.Nat.{mul-one}
use Rattle.c_tree.specs.declared.index.Cell.{Cell}
use Rattle.c_tree.specs.declared.index.Index.{Index}
use Rattle.c_tree.specs.declared.index.Subscripts.TheVariants.{One, Two, Three}
use Rattle.c_tree.specs.declared.data.Expr.TheVariants as of_data
use Rattle.c_tree.specs.declared.program.Kind.{Kind}
use Rattle.c_tree.specs.declared.statement.How.{How}
use Rattle.c_meaning.specs.declared.fault.EvalFault.TheVariants.{Outside, Range}
use Rattle.c_meaning.specs.Names.{Name, same_numbers}
use Rattle.c_meaning.specs.Weighed.{greatest}
use Rattle.c_meaning.specs.Value.{◌>>=◌, Sight, is_inside, subscripts_of, value_of, three_answers}
use Rattle.c_meaning.specs.Memory.{Spot, Memory, Env, sight_of}
use Rattle.c_meaning.specs.Ground.{Step, load}
use Rattle.c_meaning.specs.Listing.{spot, assigned, scene_of}
use Rattle.c_meaning.specs.Run.{put, grow, declare, product, grown, target_of, put_step, grow_step, declare_step, is_natural, is_small, is_within}
use Rattle.c_meaning.proofs.Equations.{subscripts-One, subscripts-Two, subscripts-Three}
use Rattle.c_meaning.proofs.Parts.{ground-At}
use Rattle.c_meaning.proofs.Spots.{numbers_are, numbers_self}

pub subscripts_one : (e : Index) (s : Sight) (i : ℤ) → value_of e s ≡ Ok i → subscripts_of (One e) s ≡ Ok (i ∷ pos 0 ∷ pos 0 ∷ [])
subscripts_one e s i h = subscripts-One e s ∙ ap (λ x. three_answers x (Ok (pos 0)) (Ok (pos 0))) h

pub subscripts_two : (e f : Index) (s : Sight) (i j : ℤ) → value_of e s ≡ Ok i → value_of f s ≡ Ok j → subscripts_of (Two e f) s ≡ Ok (i ∷ j ∷ pos 0 ∷ [])
subscripts_two e f s i j h k = subscripts-Two e f s ∙ ap (λ x. three_answers x (value_of f s) (Ok (pos 0))) h ∙ ap (λ x. three_answers (Ok i) x (Ok (pos 0))) k

pub subscripts_three : (e f g : Index) (s : Sight) (i j k : ℤ) → value_of e s ≡ Ok i → value_of f s ≡ Ok j → value_of g s ≡ Ok k → subscripts_of (Three e f g) s ≡ Ok (i ∷ j ∷ k ∷ [])
subscripts_three e f g s i j k p q r =
    subscripts-Three e f g s ∙ ap (λ x. three_answers x (value_of f s) (value_of g s)) p ∙ ap (λ x. three_answers (Ok i) x (value_of g s)) q ∙ ap (three_answers (Ok i) (Ok j)) r

pub inside_two : (i j n w : ℕ) → i < n → j < w → is_inside (pos i ∷ pos j ∷ pos 0 ∷ []) (pos n ∷ pos w ∷ pos 1 ∷ []) ≡ true
inside_two i j n w h k = grind (arith, ints)

pub inside_three : (i j k n w u : ℕ) → i < n → j < w → k < u → is_inside (pos i ∷ pos j ∷ pos k ∷ []) (pos n ∷ pos w ∷ pos u ∷ []) ≡ true
inside_three i j k n w u p q r = grind (arith, ints)

pub inside_extents : (at es ds : List ℤ) → ds ≡ es → is_inside at es ≡ true → is_inside at ds ≡ true
inside_extents at es ds h k = ap (is_inside at) h ∙ k

-- an index cell that gets a number
pub put_at : (t : Cell) (v : Index) (c : Env) (m : Memory) (at : List ℤ) (n : ℤ) → value_of v (sight_of c m) ≡ Ok n → subscripts_of t.at (sight_of c m) ≡ Ok at → is_inside at (m.extents t.array) ≡ true → put_step t v c m ≡ Ok (put t.array at n)
put_at t v c m at n h k l =
    ap (λ x. x >>= (λ v. target_of t c m >>= (λ at. Ok (put t.array at v)))) h
    ∙ ap (λ x. x >>= (λ at. if is_inside at (m.extents t.array) then Ok at else Err (Outside t.array)) >>= (λ at. Ok (put t.array at n))) k
    ∙ ap (λ b. (if b then Ok at else Err (Outside t.array)) >>= (λ at. Ok (put t.array at n))) l

-- a data cell, and an assignment of one to another
pub spot_at : (t : Cell) (c : Env) (m : Memory) (at : List ℤ) → subscripts_of t.at (sight_of c m) ≡ Ok at → is_inside at (m.extents t.array) ≡ true → spot t (scene_of c m) ≡ Ok (record { array = t.array; at = at })
spot_at t c m at h k =
    ap (λ x. x >>= (λ at. if is_inside at (m.extents t.array) then Ok (let x : Spot = record { array = t.array; at = at } in x) else Err (Outside t.array))) h
    ∙ ap (λ b. if b then Ok (let x : Spot = record { array = t.array; at = at } in x) else Err (Outside t.array)) k

pub assigned_at : (t e : Cell) (how : How) (c : Env) (m : Memory) (x y : Spot) → spot e (scene_of c m) ≡ Ok y → spot t (scene_of c m) ≡ Ok x → assigned t how (of_data.At e) (scene_of c m) ≡ Ok (record { target = x; how = how; value = load y })
assigned_at t e how c m x y h k =
    ap (λ z. z >>= (λ g. spot t (scene_of c m) >>= (λ x. Ok (let s : Step = record { target = x; how = how; value = g } in s)))) (ground-At e (scene_of c m) ∙ ap (λ z. z >>= (λ x. Ok (load x))) h)
    ∙ ap (λ z. z >>= (λ x. Ok (let s : Step = record { target = x; how = how; value = load y } in s))) k

-- numbers within the limits
natural_is : (n : ℕ) → is_natural (pos n) ≡ true
natural_is n = grind (arith, ints)

small_is : (n : ℕ) → n ≤ greatest → is_small (pos n) ≡ true
small_is n h = grind (arith, ints)

-- a declaration with inner extents
pub declare_one : (a : Name) (kind : Kind) (e : Index) (c : Env) (m : Memory) (w : ℕ) → value_of e (sight_of c m) ≡ Ok (pos w) → w ≤ greatest
    → declare_step a kind (e ∷ []) c m ≡ Ok (declare a kind (pos 0 ∷ pos w ∷ pos 1 ∷ []))
declare_one a kind e c m w h k =
    ap (λ x. x >>= (λ v. Ok (v ∷ [])) >>= (λ es. if list_all is_natural es && is_small (product es) then Ok (declare a kind (three (pos 0 ∷ es))) else Err Range)) h
    ∙ ap (λ b. if (b && true) && is_small (pos (w * 1)) then Ok (declare a kind (pos 0 ∷ pos w ∷ pos 1 ∷ [])) else Err Range) (natural_is w)
    ∙ ap (λ n. if is_small (pos n) then Ok (declare a kind (pos 0 ∷ pos w ∷ pos 1 ∷ [])) else Err Range) (mul-one w)
    ∙ ap (λ b. if b then Ok (declare a kind (pos 0 ∷ pos w ∷ pos 1 ∷ [])) else Err Range) (small_is w k)

pub declare_two : (a : Name) (kind : Kind) (e f : Index) (c : Env) (m : Memory) (w u : ℕ) → value_of e (sight_of c m) ≡ Ok (pos w) → value_of f (sight_of c m) ≡ Ok (pos u) → w * (u * 1) ≤ greatest
    → declare_step a kind (e ∷ f ∷ []) c m ≡ Ok (declare a kind (pos 0 ∷ pos w ∷ pos u ∷ []))
declare_two a kind e f c m w u h l k =
    ap (λ x. x >>= (λ v. value_of f (sight_of c m) >>= (λ u. Ok (u ∷ [])) >>= (λ vs. Ok (v ∷ vs))) >>= (λ es. if list_all is_natural es && is_small (product es) then Ok (declare a kind (three (pos 0 ∷ es))) else Err Range)) h
    ∙ ap (λ x. x >>= (λ u. Ok (u ∷ [])) >>= (λ vs. Ok (pos w ∷ vs)) >>= (λ es. if list_all is_natural es && is_small (product es) then Ok (declare a kind (three (pos 0 ∷ es))) else Err Range)) l
    ∙ ap (λ b. if (b && (is_natural (pos u) && true)) && is_small (pos (w * (u * 1))) then Ok (declare a kind (pos 0 ∷ pos w ∷ pos u ∷ [])) else Err Range) (natural_is w)
    ∙ ap (λ b. if (b && true) && is_small (pos (w * (u * 1))) then Ok (declare a kind (pos 0 ∷ pos w ∷ pos u ∷ [])) else Err Range) (natural_is u)
    ∙ ap (λ b. if b then Ok (declare a kind (pos 0 ∷ pos w ∷ pos u ∷ [])) else Err Range) (small_is (w * (u * 1)) k)

-- a growth of an array with inner extents
pub grow_inner : (a : Name) (e : Index) (c : Env) (m : Memory) (k n w u : ℕ) → value_of e (sight_of c m) ≡ Ok (pos n) → m.extents a ≡ pos k ∷ pos w ∷ pos u ∷ [] → k + n ≤ greatest → (k + n) * (w * (u * 1)) ≤ greatest
    → grow_step a e c m ≡ Ok (grow a (pos n))
grow_inner a e c m k n w u h l p q =
    ap (λ x. x >>= (λ n. if is_natural n && is_within (grown n (m.extents a)) then Ok (grow a n) else Err Range)) h
    ∙ ap (λ es. if is_natural (pos n) && is_within (grown (pos n) es) then Ok (grow a (pos n)) else Err Range) l
    ∙ ap (λ b. if b && (is_small (pos (k + n)) && is_small (pos ((k + n) * (w * (u * 1))))) then Ok (grow a (pos n)) else Err Range) (natural_is n)
    ∙ ap (λ b. if b && is_small (pos ((k + n) * (w * (u * 1)))) then Ok (grow a (pos n)) else Err Range) (small_is (k + n) p)
    ∙ ap (λ b. if b then Ok (grow a (pos n)) else Err Range) (small_is ((k + n) * (w * (u * 1))) q)

-- subscripts are the same
pub same_by : (x y : List ℤ) (b : Bool) → (x ≡ y → b ≡ true) → (b ≡ true → x ≡ y) → same_numbers x y ≡ b
same_by x y b f g = by _ b refl f g
  where
    by : (c b : Bool) → same_numbers x y ≡ c → (x ≡ y → b ≡ true) → (b ≡ true → x ≡ y) → same_numbers x y ≡ b
    by true b e f g = e ∙ sym (f (numbers_are x y e))
    by false true e f g = absurd (let q : same_numbers x y ≡ true = ap (same_numbers x) (sym (g refl)) ∙ numbers_self x in grind (arith, q, e))
    by false false e f g = e

pub same_pair : (i s j t : ℕ) → same_numbers (pos i ∷ pos s ∷ pos 0 ∷ []) (pos j ∷ pos t ∷ pos 0 ∷ []) ≡ (nat_eq i j && nat_eq s t)
same_pair i s j t =
    same_by (pos i ∷ pos s ∷ pos 0 ∷ []) (pos j ∷ pos t ∷ pos 0 ∷ []) (nat_eq i j && nat_eq s t)
    (λ h. let q : i ≡ j = cc in let r : s ≡ t = cc in grind (arith, q, r))
    (λ h. let q : i ≡ j = grind (arith, h) in let r : s ≡ t = grind (arith, h) in ap (λ n. pos n ∷ pos s ∷ pos 0 ∷ []) q ∙ ap (λ n. pos j ∷ pos n ∷ pos 0 ∷ []) r)
