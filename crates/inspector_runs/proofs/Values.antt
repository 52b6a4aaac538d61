-- Values of reads, sums and constants in a memory, and the steps that they make.
use Rattle.std.proofs.Common.{◌≡◌, ap, ◌∙◌, ℕ, ◌+◌, ◌*◌, ◌≤◌, ℤ, pos, ◌+ℤ◌, ◌≤ℤ◌, ◌<ℤ◌, true, ◌&&◌, List, Some, None, Ok, Err, arith, nat_le, int_le, unsigned_abs, if◌then◌else◌}
use Rattle.std.proofs.lemmas.Int.{ints}
use Rattle.std.proofs.Math.Nat.{mul-one}
use Rattle.c_tree.specs.declared.index.Index.{Index}
use Rattle.c_tree.specs.declared.index.Index.TheVariants.{Const, Var, At, Plus, Minus, Floor}
use Rattle.c_meaning.specs.declared.fault.EvalFault.TheVariants.{Outside, Range}
use Rattle.c_meaning.specs.Names.{Name, line}
use Rattle.c_meaning.specs.Weighed.{Weighed, greatest, plain, sum_of, difference_of, floor_of}
use Rattle.c_meaning.specs.Value.{◌>>=◌, Sight, is_inside, measure, value_of, judged, held, cell_seen, plain_answer, three_answers, on_one, on_two}
use Rattle.c_meaning.specs.Memory.{Memory, Env, sight_of}
use Rattle.c_meaning.specs.Run.{put, grow, grown, target_of, put_step, grow_step, is_natural, is_small, is_within}
use Rattle.c_meaning.proofs.Equations.{measure-Const, measure-Var, measure-At, measure-Plus, measure-Minus, measure-Floor, cell_value_is, subscripts-One}
use Rattle.inspector_runs.specs.Texts.{cell}
use Rattle.inspector_runs.specs.Shown.{long}

pub judged_is : (w : Weighed) → w.weight ≤ greatest → judged w ≡ Ok w.value
judged_is w h = let e : nat_le w.weight greatest ≡ true = grind arith in ap (λ b. if b then Ok w.value else Err Range) e

pub within : (i n : ℤ) → pos 0 ≤ℤ i → i <ℤ n → is_inside (line i) (long n) ≡ true
within i n h k = grind (arith, ints)

pub inside_long : (es : List ℤ) (i n : ℤ) → es ≡ long n → pos 0 ≤ℤ i → i <ℤ n → is_inside (line i) es ≡ true
inside_long es i n h k l = ap (is_inside (line i)) h ∙ within i n k l

-- a read of a cell that is inside
pub measure_read : (a : Name) (e : Index) (c : Env) (m : Memory) (i n : ℤ) → value_of e (sight_of c m) ≡ Ok i → is_inside (line i) (m.extents a) ≡ true → m.index a (line i) ≡ n → measure (At (cell a e)) (sight_of c m) ≡ Ok (plain n)
measure_read a e c m i n h k q =
    measure-At (cell a e) (sight_of c m)
    ∙ ap plain_answer
    (cell_value_is (cell a e) (sight_of c m)
    ∙ ap (λ x. x >>= (λ at. held a (cell_seen (sight_of c m) a at))) (subscripts-One e (sight_of c m) ∙ ap (λ x. three_answers x (Ok (pos 0)) (Ok (pos 0))) h)
    ∙ ap (λ b. held a (if b then Some (m.index a (line i)) else None)) k
    ∙ ap Ok q)

pub value_by : (e : Index) (s : Sight) (w : Weighed) → measure e s ≡ Ok w → w.weight ≤ greatest → value_of e s ≡ Ok w.value
value_by e s w h k = ap (λ x. x >>= judged) h ∙ judged_is w k

pub value_read : (a : Name) (e : Index) (c : Env) (m : Memory) (i n : ℤ) → value_of e (sight_of c m) ≡ Ok i → is_inside (line i) (m.extents a) ≡ true → m.index a (line i) ≡ n → unsigned_abs n ≤ greatest → value_of (At (cell a e)) (sight_of c m) ≡ Ok n
value_read a e c m i n h k q l = value_by _ _ (plain n) (measure_read a e c m i n h k q) l

pub value_const : (n : ℤ) (s : Sight) → unsigned_abs n ≤ greatest → value_of (Const n) s ≡ Ok n
value_const n s h = value_by (Const n) s (plain n) (measure-Const n s) h

pub value_var : (x : Name) (s : Sight) → unsigned_abs (s.value x) ≤ greatest → value_of (Var x) s ≡ Ok (s.value x)
value_var x s h = value_by (Var x) s (plain (s.value x)) (measure-Var x s) h

pub measure_plus : (a b : Index) (s : Sight) (x y : Weighed) → measure a s ≡ Ok x → measure b s ≡ Ok y → measure (Plus a b) s ≡ Ok (sum_of x y)
measure_plus a b s x y h k = measure-Plus a b s ∙ ap (λ a. on_two sum_of a (measure b s)) h ∙ ap (on_two sum_of (Ok x)) k

pub measure_minus : (a b : Index) (s : Sight) (x y : Weighed) → measure a s ≡ Ok x → measure b s ≡ Ok y → measure (Minus a b) s ≡ Ok (difference_of x y)
measure_minus a b s x y h k = measure-Minus a b s ∙ ap (λ a. on_two difference_of a (measure b s)) h ∙ ap (on_two difference_of (Ok x)) k

pub measure_floor : (a : Index) (d : ℤ) (s : Sight) (x : Weighed) → measure a s ≡ Ok x → measure (Floor a d) s ≡ Ok (floor_of x d)
measure_floor a d s x h = measure-Floor a d s ∙ ap (on_one (λ x. floor_of x d)) h

pub value_plus : (a b : Index) (s : Sight) (x y : Weighed) → measure a s ≡ Ok x → measure b s ≡ Ok y → x.weight + y.weight ≤ greatest → value_of (Plus a b) s ≡ Ok (x.value +ℤ y.value)
value_plus a b s x y h k l = value_by (Plus a b) s (sum_of x y) (measure_plus a b s x y h k) l

pub target_line : (a : Name) (e : Index) (c : Env) (m : Memory) (i : ℤ) → value_of e (sight_of c m) ≡ Ok i → is_inside (line i) (m.extents a) ≡ true → target_of (cell a e) c m ≡ Ok (line i)
target_line a e c m i h k =
    ap (λ x. x >>= (λ at. if is_inside at (m.extents a) then Ok at else Err (Outside a))) (subscripts-One e (sight_of c m) ∙ ap (λ x. three_answers x (Ok (pos 0)) (Ok (pos 0))) h)
    ∙ ap (λ b. if b then Ok (line i) else Err (Outside a)) k

pub put_line : (a : Name) (e v : Index) (c : Env) (m : Memory) (i n : ℤ) → value_of v (sight_of c m) ≡ Ok n → value_of e (sight_of c m) ≡ Ok i → is_inside (line i) (m.extents a) ≡ true → put_step (cell a e) v c m ≡ Ok (put a (line i) n)
put_line a e v c m i n g h k = ap (λ x. x >>= (λ v. target_of (cell a e) c m >>= (λ at. Ok (put a at v)))) g ∙ ap (λ x. x >>= (λ at. Ok (put a at n))) (target_line a e c m i h k)

-- a growth within the limits
at_most_is : (n g : ℕ) → n ≤ g → int_le (pos n) (pos g) ≡ true
at_most_is n g h = grind (arith, ints)

natural_is : (n : ℕ) → is_natural (pos n) ≡ true
natural_is n = grind (arith, ints)

grown_within : (k n : ℕ) → k + n ≤ greatest → (is_natural (pos n) && is_within (grown (pos n) (long (pos k)))) ≡ true
grown_within k n h =
    ap (λ b. b && is_within (grown (pos n) (long (pos k)))) (natural_is n)
    ∙ ap (λ b. b && is_small (pos ((k + n) * 1))) (at_most_is (k + n) greatest h)
    ∙ ap (λ x. is_small (pos x)) (mul-one (k + n))
    ∙ at_most_is (k + n) greatest h

pub grow_value : (a : Name) (e : Index) (c : Env) (m : Memory) (k n : ℕ) → value_of e (sight_of c m) ≡ Ok (pos n) → m.extents a ≡ long (pos k) → k + n ≤ greatest → grow_step a e c m ≡ Ok (grow a (pos n))
grow_value a e c m k n h l p =
    ap (λ x. x >>= (λ n. if is_natural n && is_within (grown n (m.extents a)) then Ok (grow a n) else Err Range)) h
    ∙ ap (λ es. if is_natural (pos n) && is_within (grown (pos n) es) then Ok (grow a (pos n)) else Err Range) l
    ∙ ap (λ b. if b then Ok (grow a (pos n)) else Err Range) (grown_within k n p)
