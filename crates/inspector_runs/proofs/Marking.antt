-- The lines of one entry, run.
use Rattle.std.proofs.Common.{◌≡◌, refl, sym, ap, ◌∙◌, subst, ℕ, suc, ◌+◌, ◌≤◌, ℤ, pos, ◌+ℤ◌, ◌≤ℤ◌, ◌<ℤ◌, Bool, true, false, List, [], ◌∷◌, ◌++◌, length, Ok, arith, nat_le, nat_eq, if◌then◌else◌, length-append, int_le}
use Rattle.std.proofs.lemmas.Int.{ints}
use Rattle.c_tree.specs.declared.index.Index.TheVariants.{Const, At, Plus}
use Rattle.c_tree.specs.declared.statement.Stmt.{Stmt}
use Rattle.c_tree.specs.declared.statement.Stmt.TheVariants.{Put}
use Rattle.c_meaning.specs.Names.{Name, Place, same_name, line}
use Rattle.c_meaning.specs.Weighed.{greatest, plain}
use Rattle.c_meaning.specs.Value.{Answer, ◌>>=◌, measure, value_of, all_hold}
use Rattle.c_meaning.specs.Memory.{Memory, Env, sight_of}
use Rattle.c_meaning.specs.Run.{put_in, with_extents, grown, put, grow, grow_step}
use Rattle.c_meaning.proofs.Equations.{measure-Const}
use Rattle.sparse_marks.specs.Kept.{same}
use Rattle.sparse_marks.specs.Marks.{Marks, marked, see}
use Rattle.inspector_runs.specs.Rules.{Leads}
use Rattle.inspector_runs.specs.Texts.{Arrays, Text, cell, count, new_value, new_test, entry_lines}
use Rattle.inspector_runs.specs.Shown.{long, Agrees, Apart, Sizes, Shows, Gives}
use Rattle.inspector_runs.proofs.Values.{inside_long, value_by, measure_read, value_read, value_const, value_plus, put_line, grow_value}
use Rattle.inspector_runs.proofs.Statements.{goes_end, goes_put, goes_grow, goes_if}
use Rattle.inspector_runs.proofs.Memories.{other_way, in_same, in_line, in_other, long_same, long_other, agrees_put, agrees_long, made_val, made_num, made_mark, nth-snoc, same_place, same_value}

-- what is known in the turn of an entry with value w, at d above the lowest value, in group g
pub record Turn (b : Arrays) (x : Text) (c : Env) (base : Memory) (z : Sizes) (w d : ℤ) (g : ℕ) (s : Marks) : Type 0 where
  pub apart : Apart b
  pub gives : Gives b x c base w d g
  pub above : d +ℤ z.low ≡ w
  pub from : pos 0 ≤ℤ d
  pub to : d <ℤ z.marks
  pub group : pos g <ℤ z.starts
  pub mark : s.mark w ≤ length s.val
  pub ptr : s.ptr g ≤ length s.val
  pub small : length s.val + 2 ≤ greatest

-- the test of an entry
pub test_is : (b : Arrays) (x : Text) (c : Env) (base : Memory) (z : Sizes) (w d : ℤ) (g : ℕ) (s : Marks) (m : Memory) → Turn b x c base z w d g s → Shows b z base s m
    → all_hold (new_test b x) (sight_of c m) ≡ Ok (nat_le (s.mark w) (s.ptr g))
test_is b x c base z w d g s m t sh =
    let k : length s.val ≤ greatest = omega (arith, t.small) in
    let l : value_of (At (cell b.mark x.from_low)) (sight_of c m) ≡ Ok (pos (s.mark w)) =
    value_read b.mark x.from_low c m d _ (t.gives.from_low m sh.others) (inside_long _ d z.marks sh.mark_long t.from t.to) (sh.mark d ∙ ap (λ w. pos (s.mark w)) t.above) (omega (arith, k, t.mark)) in
    let r : value_of (At (cell b.ptr x.group)) (sight_of c m) ≡ Ok (pos (s.ptr g)) =
    value_read b.ptr x.group c m (pos g) _ (t.gives.group m sh.others) (inside_long _ (pos g) z.starts sh.ptr_long (grind (arith, ints)) t.group) (sh.ptr g) (omega (arith, k, t.ptr)) in
    ap (λ y. (y >>= (λ a. value_of (At (cell b.ptr x.group)) (sight_of c m) >>= (λ b. Ok (int_le a b)))) >>= (λ b. if b then Ok true else Ok false)) l
    ∙ ap (λ y. (y >>= (λ b. Ok (int_le (pos (s.mark w)) b))) >>= (λ b. if b then Ok true else Ok false)) r
    ∙ by (int_le (pos (s.mark w)) (pos (s.ptr g))) ∙ ap Ok (le_same (s.mark w) (s.ptr g))
  where
    yes : Answer Bool
    yes = Ok true

    no : Answer Bool
    no = Ok false

    by : (b : Bool) → (if b then yes else no) ≡ Ok b
    by true = refl
    by false = refl

    le_same : (m n : ℕ) → int_le (pos m) (pos n) ≡ nat_le m n
    le_same m n = grind (arith, ints)

-- the count of values, read
pub count_is : (b : Arrays) (c : Env) (m : Memory) (n : ℕ) → m.extents b.num ≡ long (pos 1) → m.index b.num (line (pos 0)) ≡ pos n → measure (count b) (sight_of c m) ≡ Ok (plain (pos n))
count_is b c m n h k = measure_read b.num (Const (pos 0)) c m (pos 0) (pos n) (value_const (pos 0) _ (omega arith)) (inside_long _ (pos 0) (pos 1) h (grind (arith, ints)) (grind (arith, ints))) k

below_one : pos 0 <ℤ pos 1
below_one = grind (arith, ints)

from_zero : (n : ℕ) → pos 0 ≤ℤ pos n
from_zero n = grind (arith, ints)

below_next : (n : ℕ) → pos n <ℤ (pos n +ℤ pos 1)
below_next n = grind (arith, ints)

one_more : (n : ℕ) → pos n +ℤ pos 1 ≡ pos (suc n)
one_more n = grind (arith, ints)

-- the memories of the four statements
abbrev pub grown_val : Arrays → ℕ → Memory → Memory
grown_val b n m = with_extents b.val (grown (pos 1) (m.extents b.val)) m

abbrev valued : Arrays → ℕ → ℤ → Memory → Memory
valued b n w m = put_in b.val (line (pos n)) w (grown_val b n m)

abbrev counted : Arrays → ℕ → ℤ → Memory → Memory
counted b n w m = put_in b.num (line (pos 0)) (pos n +ℤ pos 1) (valued b n w m)

abbrev remarked : Arrays → ℕ → ℤ → ℤ → Memory → Memory
remarked b n w d m = put_in b.mark (line d) (pos (suc n)) (counted b n w m)

past_mark : (b : Arrays) (n : ℕ) (w d : ℤ) (m : Memory) (a : Name) (is : List ℤ) → same_name b.mark a ≡ false → (remarked b n w d m).index a is ≡ (counted b n w m).index a is
past_mark b n w d m a is h = in_other b.mark a (line d) is (pos (suc n)) (counted b n w m) h

past_num : (b : Arrays) (n : ℕ) (w : ℤ) (m : Memory) (a : Name) (is : List ℤ) → same_name b.num a ≡ false → (counted b n w m).index a is ≡ (valued b n w m).index a is
past_num b n w m a is h = in_other b.num a (line (pos 0)) is (pos n +ℤ pos 1) (valued b n w m) h

past_val : (b : Arrays) (n : ℕ) (w : ℤ) (m : Memory) (a : Name) (is : List ℤ) → same_name b.val a ≡ false → (valued b n w m).index a is ≡ m.index a is
past_val b n w m a is h = in_other b.val a (line (pos n)) is w (grown_val b n m) h

appended : (b : Arrays) (x : Text) (c : Env) (base : Memory) (z : Sizes) (w d : ℤ) (g : ℕ) (s : Marks) (m : Memory) → Turn b x c base z w d g s → Shows b z base s m
    → Shows b z base (record { mark = marked s.mark w (suc (length s.val)); ptr = s.ptr; val = s.val ++ w ∷ [] }) (remarked b (length s.val) w d m)
appended b x c base z w d g s m t sh = record {
  mark = λ d'.
      in_line b.mark (line d) (line d') (pos (suc n)) (counted b n w m)
      ∙ ap (λ b'. if b' then pos (suc n) else (counted b n w m).index b.mark (line d')) (same_value d d' z.low w t.above)
      ∙ ap (λ v. if same w (d' +ℤ z.low) then pos (suc n) else v) (past_num b n w m b.mark (line d') dn.num_mark ∙ past_val b n w m b.mark (line d') dn.val_mark ∙ sh.mark d')
      ∙ by_pos (same w (d' +ℤ z.low)) (suc n) (s.mark (d' +ℤ z.low));
  ptr = λ g'.
      past_mark b n w d m b.ptr (line (pos g')) (other_way b.ptr b.mark dn.ptr_mark) ∙ past_num b n w m b.ptr (line (pos g')) (other_way b.ptr b.num dn.ptr_num)
      ∙ past_val b n w m b.ptr (line (pos g')) (other_way b.ptr b.val dn.ptr_val) ∙ sh.ptr g';
  val = λ p.
      past_mark b n w d m b.val (line (pos p)) (other_way b.val b.mark dn.val_mark) ∙ past_num b n w m b.val (line (pos p)) (other_way b.val b.num dn.val_num)
      ∙ in_line b.val (line (pos n)) (line (pos p)) w (grown_val b n m)
      ∙ ap (λ b'. if b' then w else m.index b.val (line (pos p))) (same_place n p)
      ∙ ap (λ v. if nat_eq n p then w else v) (sh.val p)
      ∙ sym (nth-snoc s.val w p);
  num = past_mark b n w d m b.num (line (pos 0)) (other_way b.num b.mark dn.num_mark) ∙ in_same b.num (line (pos 0)) (pos n +ℤ pos 1) (valued b n w m) ∙ more;
  mark_long = long_other b.val b.mark _ m dn.val_mark ∙ sh.mark_long;
  ptr_long = long_other b.val b.ptr _ m (other_way b.ptr b.val dn.ptr_val) ∙ sh.ptr_long;
  val_long = long_same b.val _ m ∙ ap (grown (pos 1)) sh.val_long ∙ ap long more;
  num_long = long_other b.val b.num _ m dn.val_num ∙ sh.num_long;
  others = agrees_put b base _ b.mark (line d) (pos (suc n)) (made_mark b) (agrees_put b base _ b.num (line (pos 0)) (pos n +ℤ pos 1) (made_num b) (agrees_put b base _ b.val (line (pos n)) w (made_val b) (agrees_long b base m b.val _ (made_val b) sh.others)));
}
  where
    n : ℕ
    n = length s.val

    dn : Apart b
    dn = t.apart

    by_pos : (b : Bool) (p q : ℕ) → (if b then pos p else pos q) ≡ pos (if b then p else q)
    by_pos true p q = refl
    by_pos false p q = refl

    more : pos (length s.val) +ℤ pos 1 ≡ pos (length (s.val ++ w ∷ []))
    more = let e : length (s.val ++ w ∷ []) ≡ length s.val + 1 = length-append s.val (w ∷ []) in grind (arith, ints, e)

-- the statements at a new value, behind the growth
abbrev pub noted : Arrays → Text → List Stmt
noted b x = Put (cell b.val (count b)) x.value ∷ Put (cell b.num (Const (pos 0))) (Plus (count b) (Const (pos 1))) ∷ Put (cell b.mark x.from_low) (count b) ∷ []

pub noted_goes : (b : Arrays) (x : Text) (c : Env) (at : Place) (k : ℕ) (base : Memory) (z : Sizes) (w d : ℤ) (g : ℕ) (s : Marks) (m : Memory) → Turn b x c base z w d g s → Shows b z base s m
    → Leads (noted b x) c at k (grown_val b (length s.val) m) 0 (Shows b z base (record { mark = marked s.mark w (suc (length s.val)); ptr = s.ptr; val = s.val ++ w ∷ [] }))
noted_goes b x c at k base z w d g s m t sh =
    let n : ℕ = length s.val in
    let a1 : Agrees b base (grown_val b n m) = agrees_long b base m b.val _ (made_val b) sh.others in
    let a2 : Agrees b base (valued b n w m) = agrees_put b base _ b.val (line (pos n)) w (made_val b) a1 in
    let a3 : Agrees b base (counted b n w m) = agrees_put b base _ b.num (line (pos 0)) (pos n +ℤ pos 1) (made_num b) a2 in
    let dn = t.apart in
    let small : n ≤ greatest = omega (arith, t.small) in
    let e0 : m.extents b.num ≡ long (pos 1) = sh.num_long in
    let e1 : (grown_val b n m).extents b.num ≡ long (pos 1) = long_other b.val b.num _ m dn.val_num ∙ e0 in
    goes_put (cell b.val (count b)) x.value _ c at k (grown_val b n m) 0 _ (put b.val (line (pos n)) w)
    (put_line b.val (count b) x.value c (grown_val b n m) (pos n) w (t.gives.value _ a1) (value_by (count b) _ (plain (pos n)) (count_is b c (grown_val b n m) n e1 sh.num) small)
    (inside_long _ (pos n) (pos n +ℤ pos 1) (long_same b.val _ m ∙ ap (grown (pos 1)) sh.val_long) (from_zero n) (below_next n)))
    (goes_put (cell b.num (Const (pos 0))) (Plus (count b) (Const (pos 1))) _ c at _ (valued b n w m) 0 _ (put b.num (line (pos 0)) (pos n +ℤ pos 1))
    (put_line b.num (Const (pos 0)) (Plus (count b) (Const (pos 1))) c (valued b n w m) (pos 0) (pos n +ℤ pos 1)
    (value_plus (count b) (Const (pos 1)) _ (plain (pos n)) (plain (pos 1)) (count_is b c (valued b n w m) n e1 (past_val b n w m b.num (line (pos 0)) dn.val_num ∙ sh.num)) (measure-Const (pos 1) _) (omega (arith, t.small)))
    (value_const (pos 0) _ (omega arith)) (inside_long _ (pos 0) (pos 1) e1 (from_zero 0) below_one))
    (goes_put (cell b.mark x.from_low) (count b) _ c at _ (counted b n w m) 0 _ (put b.mark (line d) (pos (suc n)))
    (put_line b.mark x.from_low (count b) c (counted b n w m) d (pos (suc n)) (value_by (count b) _ (plain (pos (suc n))) (count_is b c (counted b n w m) (suc n) e1 (in_same b.num (line (pos 0)) (pos n +ℤ pos 1) (valued b n w m) ∙ one_more n)) (omega (arith, t.small)))
    (t.gives.from_low _ a3) (inside_long _ d z.marks (long_other b.val b.mark _ m dn.val_mark ∙ sh.mark_long) t.from t.to))
    (goes_end c at _ (remarked b n w d m) _ (appended b x c base z w d g s m t sh))))

-- a step of growth within the limits
pub grows_val : (b : Arrays) (c : Env) (m : Memory) (n : ℕ) → m.extents b.val ≡ long (pos n) → n + 2 ≤ greatest → grow_step b.val (Const (pos 1)) c m ≡ Ok (grow b.val (pos 1))
grows_val b c m n h k = grow_value b.val (Const (pos 1)) c m n 1 (value_const (pos 1) _ (omega arith)) h (omega (arith, k))

new_goes : (b : Arrays) (x : Text) (c : Env) (at : Place) (k : ℕ) (base : Memory) (z : Sizes) (w d : ℤ) (g : ℕ) (s : Marks) (m : Memory) → Turn b x c base z w d g s → Shows b z base s m
    → Leads (new_value b x) c at k m 0 (Shows b z base (record { mark = marked s.mark w (suc (length s.val)); ptr = s.ptr; val = s.val ++ w ∷ [] }))
new_goes b x c at k base z w d g s m t sh =
    goes_grow b.val (Const (pos 1)) _ c at k m 0 _ (grow b.val (pos 1)) (grows_val b c m (length s.val) sh.val_long t.small) (noted_goes b x c at (k + 1) base z w d g s m t sh)

-- an entry
pub entry_goes : (b : Arrays) (x : Text) (c : Env) (at : Place) (k : ℕ) (base : Memory) (z : Sizes) (w d : ℤ) (g : ℕ) (s : Marks) (m : Memory) → Turn b x c base z w d g s → Shows b z base s m
    → Leads (entry_lines b x) c at k m 0 (Shows b z base (see g s w))
entry_goes b x c at k base z w d g s m t sh =
    goes_if (new_test b x) (new_value b x) [] c at k m 0 _ _ (nat_le (s.mark w) (s.ptr g)) (test_is b x c base z w d g s m t sh)
    (λ e. subst (λ b'. Leads (new_value b x) c at k m 0 (Shows b z base (if b' then record { mark = marked s.mark w (suc (length s.val)); ptr = s.ptr; val = s.val ++ w ∷ [] } else s))) (sym e)
    (new_goes b x c at k base z w d g s m t sh))
    (λ e. subst (λ b'. Shows b z base (if b' then record { mark = marked s.mark w (suc (length s.val)); ptr = s.ptr; val = s.val ++ w ∷ [] } else s) m) (sym e) sh)
    (λ m' q. goes_end c at _ m' _ q)
