-- Declarations and growths, run.
use Rattle.std.proofs.Common.{◌≡◌, refl, ap, ◌∙◌, ℕ, ◌+◌, ◌≤◌, ℤ, pos, ◌+ℤ◌, Bool, true, false, ◌||◌, List, [], ◌∷◌, arith, if◌then◌else◌}
use Rattle.std.proofs.lemmas.Int.{ints}
use Rattle.c_tree.specs.declared.index.Index.{Index}
use Rattle.c_tree.specs.declared.index.Index.TheVariants.{Const}
use Rattle.c_tree.specs.declared.program.Kind.TheVariants.{Position}
use Rattle.c_tree.specs.declared.statement.Stmt.{Stmt}
use Rattle.c_tree.specs.declared.statement.Stmt.TheVariants.{Declare, Grow}
use Rattle.c_meaning.specs.Names.{Name, same_name, line}
use Rattle.c_meaning.specs.Weighed.{greatest}
use Rattle.c_meaning.specs.Memory.{Memory, Env}
use Rattle.c_meaning.specs.Run.{declare, grow, grown, declared, with_extents}
use Rattle.c_meaning.proofs.Spots.{pointwise_equal, name_self}
use Rattle.sparse_marks.specs.Marks.{unmarked}
use Rattle.sparse_marks.proofs.Marking.{none_yet}
use Rattle.inspector_runs.specs.Rules.{Leads}
use Rattle.inspector_runs.specs.Texts.{Arrays, Text, Loops, marking_lines, kept_lines}
use Rattle.inspector_runs.specs.Shown.{long, is_made, Agrees, Apart, Shows, cleared, SizesFit}
use Rattle.inspector_runs.specs.Laws.{sizes, LinesLeaveKeptValues, LinesOfNoRows}
use Rattle.inspector_runs.proofs.Values.{value_const, grow_value}
use Rattle.inspector_runs.proofs.Statements.{goes_declare, goes_grow, weaker}
use Rattle.inspector_runs.proofs.Memories.{other_way, apart_from, long_same, long_other, made_ptr, made_val, made_num, made_mark}
use Rattle.inspector_runs.proofs.Nests.{nest_goes}
use Rattle.inspector_runs.proofs.Whole.{marking_goes, nest_of, left_by}

pub new_cell : (a : Name) (es is : List ℤ) (m : Memory) → (declared a es m).index a is ≡ pos 0
new_cell a es is m = ap (λ b. if b then pos 0 else m.index a is) (name_self a)

pub other_cell : (a b : Name) (es is : List ℤ) (m : Memory) → same_name a b ≡ false → (declared a es m).index b is ≡ m.index b is
other_cell a b es is m h = ap (λ c. if c then pos 0 else m.index b is) h

pub new_long : (a : Name) (es : List ℤ) (m : Memory) → (declared a es m).extents a ≡ es
new_long a es m = ap (λ b. if b then es else m.extents a) (name_self a)

pub other_long : (a b : Name) (es : List ℤ) (m : Memory) → same_name a b ≡ false → (declared a es m).extents b ≡ m.extents b
other_long a b es m h = ap (λ c. if c then es else m.extents b) h

-- the memories behind the seven lines
abbrev pub empty : Name → Memory → Memory
empty a m = declared a (long (pos 0)) m

abbrev pub made_arrays : Arrays → Memory → Memory
made_arrays b m = empty b.mark (empty b.num (empty b.val (empty b.ptr m)))

abbrev pub longer : Name → ℕ → Memory → Memory
longer a n m = with_extents a (grown (pos n) (m.extents a)) m

abbrev pub with_starts : Arrays → ℕ → Memory → Memory
with_starts b s m = longer b.ptr s (made_arrays b m)

abbrev pub with_number : Arrays → ℕ → Memory → Memory
with_number b s m = longer b.num 1 (with_starts b s m)

abbrev pub with_marks : Arrays → ℕ → ℕ → Memory → Memory
with_marks b s k m = longer b.mark k (with_number b s m)

longer_other : (a b : Name) (n : ℕ) (m : Memory) → same_name a b ≡ false → (longer a n m).extents b ≡ m.extents b
longer_other a b n m h = long_other a b (grown (pos n) (m.extents a)) m h

-- all but the made arrays stays
same_index : (b : Arrays) (m : Memory) (a : Name) → is_made b a ≡ false → (made_arrays b m).index a ≡ m.index a
same_index b m a h = pointwise_equal _ _ (λ is.
    other_cell b.mark a (long (pos 0)) is (empty b.num (empty b.val (empty b.ptr m))) (apart_from b b.mark a (made_mark b) h)
    ∙ other_cell b.num a (long (pos 0)) is (empty b.val (empty b.ptr m)) (apart_from b b.num a (made_num b) h)
    ∙ other_cell b.val a (long (pos 0)) is (empty b.ptr m) (apart_from b b.val a (made_val b) h)
    ∙ other_cell b.ptr a (long (pos 0)) is m (apart_from b b.ptr a (made_ptr b) h))

same_long : (b : Arrays) (m : Memory) (a : Name) → is_made b a ≡ false → (made_arrays b m).extents a ≡ m.extents a
same_long b m a h =
    other_long b.mark a (long (pos 0)) (empty b.num (empty b.val (empty b.ptr m))) (apart_from b b.mark a (made_mark b) h)
    ∙ other_long b.num a (long (pos 0)) (empty b.val (empty b.ptr m)) (apart_from b b.num a (made_num b) h)
    ∙ other_long b.val a (long (pos 0)) (empty b.ptr m) (apart_from b b.val a (made_val b) h)
    ∙ other_long b.ptr a (long (pos 0)) m (apart_from b b.ptr a (made_ptr b) h)

same_cells : (b : Arrays) (m : Memory) → (made_arrays b m).cells ≡ (cleared b m).cells
same_cells b m = pointwise_equal _ _ (λ x. by (same_name b.ptr x.array) (same_name b.val x.array) (same_name b.num x.array) (same_name b.mark x.array) (m.cells x))
  where
    by : (p v n k : Bool) (w : ℕ) → (if k then 0 else (if n then 0 else (if v then 0 else (if p then 0 else w)))) ≡ (if (p || v) || (n || k) then 0 else w)
    by true true n true w = refl
    by true true true false w = refl
    by true true false false w = refl
    by true false n true w = refl
    by true false true false w = refl
    by true false false false w = refl
    by false true n true w = refl
    by false true true false w = refl
    by false true false false w = refl
    by false false true true w = refl
    by false false true false w = refl
    by false false false true w = refl
    by false false false false w = refl

made_agrees : (b : Arrays) (m : Memory) → Agrees b (cleared b m) (made_arrays b m)
made_agrees b m = record { index = same_index b m; extents = same_long b m; cells = same_cells b m }

longer_agrees : (b : Arrays) (base m : Memory) (a : Name) (n : ℕ) → is_made b a ≡ true → Agrees b base m → Agrees b base (longer a n m)
longer_agrees b base m a n h g = record {
  index = g.index;
  extents = λ a' k. long_other a a' (grown (pos n) (m.extents a)) m (apart_from b a a' h k) ∙ g.extents a' k;
  cells = g.cells;
}

-- the extents of the made arrays
ptr_empty : (b : Arrays) (m : Memory) → Apart b → (made_arrays b m).extents b.ptr ≡ long (pos 0)
ptr_empty b m d =
    other_long b.mark b.ptr (long (pos 0)) (empty b.num (empty b.val (empty b.ptr m))) (other_way b.ptr b.mark d.ptr_mark)
    ∙ other_long b.num b.ptr (long (pos 0)) (empty b.val (empty b.ptr m)) (other_way b.ptr b.num d.ptr_num)
    ∙ other_long b.val b.ptr (long (pos 0)) (empty b.ptr m) (other_way b.ptr b.val d.ptr_val)
    ∙ new_long b.ptr (long (pos 0)) m

val_empty : (b : Arrays) (m : Memory) → Apart b → (made_arrays b m).extents b.val ≡ long (pos 0)
val_empty b m d =
    other_long b.mark b.val (long (pos 0)) (empty b.num (empty b.val (empty b.ptr m))) (other_way b.val b.mark d.val_mark)
    ∙ other_long b.num b.val (long (pos 0)) (empty b.val (empty b.ptr m)) (other_way b.val b.num d.val_num)
    ∙ new_long b.val (long (pos 0)) (empty b.ptr m)

num_empty : (b : Arrays) (m : Memory) → Apart b → (made_arrays b m).extents b.num ≡ long (pos 0)
num_empty b m d = other_long b.mark b.num (long (pos 0)) (empty b.num (empty b.val (empty b.ptr m))) (other_way b.num b.mark d.num_mark) ∙ new_long b.num (long (pos 0)) (empty b.val (empty b.ptr m))

mark_empty : (b : Arrays) (m : Memory) → (made_arrays b m).extents b.mark ≡ long (pos 0)
mark_empty b m = new_long b.mark (long (pos 0)) (empty b.num (empty b.val (empty b.ptr m)))

grown_long : (a : Name) (n : ℕ) (m : Memory) → m.extents a ≡ long (pos 0) → (longer a n m).extents a ≡ long (pos n)
grown_long a n m h = long_same a (grown (pos n) (m.extents a)) m ∙ ap (grown (pos n)) h ∙ ap long (zero_and n)
  where
    zero_and : (n : ℕ) → pos 0 +ℤ pos n ≡ pos n
    zero_and n = grind (arith, ints)

-- behind the head nothing is marked
pub head_shows : (b : Arrays) (low : ℤ) (s k : ℕ) (m : Memory) → Apart b → Shows b (sizes low s k) (cleared b m) unmarked (with_marks b s k m)
head_shows b low s k m d = record {
  mark = λ e. new_cell b.mark (long (pos 0)) (line e) (empty b.num (empty b.val (empty b.ptr m)));
  ptr = λ g.
      other_cell b.mark b.ptr (long (pos 0)) (line (pos g)) (empty b.num (empty b.val (empty b.ptr m))) (other_way b.ptr b.mark d.ptr_mark)
      ∙ other_cell b.num b.ptr (long (pos 0)) (line (pos g)) (empty b.val (empty b.ptr m)) (other_way b.ptr b.num d.ptr_num)
      ∙ other_cell b.val b.ptr (long (pos 0)) (line (pos g)) (empty b.ptr m) (other_way b.ptr b.val d.ptr_val)
      ∙ new_cell b.ptr (long (pos 0)) (line (pos g)) m;
  val = λ p.
      other_cell b.mark b.val (long (pos 0)) (line (pos p)) (empty b.num (empty b.val (empty b.ptr m))) (other_way b.val b.mark d.val_mark)
      ∙ other_cell b.num b.val (long (pos 0)) (line (pos p)) (empty b.val (empty b.ptr m)) (other_way b.val b.num d.val_num)
      ∙ new_cell b.val (long (pos 0)) (line (pos p)) (empty b.ptr m);
  num = other_cell b.mark b.num (long (pos 0)) (line (pos 0)) (empty b.num (empty b.val (empty b.ptr m))) (other_way b.num b.mark d.num_mark) ∙ new_cell b.num (long (pos 0)) (line (pos 0)) (empty b.val (empty b.ptr m));
  mark_long = grown_long b.mark k (with_number b s m) (longer_other b.num b.mark 1 (with_starts b s m) d.num_mark ∙ longer_other b.ptr b.mark s (made_arrays b m) d.ptr_mark ∙ mark_empty b m);
  ptr_long = longer_other b.mark b.ptr k (with_number b s m) (other_way b.ptr b.mark d.ptr_mark) ∙ longer_other b.num b.ptr 1 (with_starts b s m) (other_way b.ptr b.num d.ptr_num) ∙ grown_long b.ptr s (made_arrays b m) (ptr_empty b m d);
  val_long = longer_other b.mark b.val k (with_number b s m) (other_way b.val b.mark d.val_mark) ∙ longer_other b.num b.val 1 (with_starts b s m) (other_way b.val b.num d.val_num) ∙ longer_other b.ptr b.val s (made_arrays b m) d.ptr_val ∙ val_empty b m d;
  num_long = longer_other b.mark b.num k (with_number b s m) (other_way b.num b.mark d.num_mark) ∙ grown_long b.num 1 (with_starts b s m) (longer_other b.ptr b.num s (made_arrays b m) d.ptr_num ∙ num_empty b m d);
  others = longer_agrees b (cleared b m) (with_number b s m) b.mark k (made_mark b) (longer_agrees b (cleared b m) (with_starts b s m) b.num 1 (made_num b) (longer_agrees b (cleared b m) (made_arrays b m) b.ptr s (made_ptr b) (made_agrees b m)));
}

from_none : (n g : ℕ) → n ≤ g → 0 + n ≤ g
from_none n g h = omega (arith, h)

-- the growths behind the declarations
pub growths_go : (b : Arrays) (starts marks : Index) (ts : List Stmt) (c : Env) (m : Memory) (n s k t : ℕ) (Q : Memory → Type 0) → Apart b → SizesFit b c (cleared b m) starts marks s k
    → Leads ts c [] (((n + 1) + 1) + 1) (with_marks b s k m) t Q → Leads (Grow b.ptr starts ∷ Grow b.num (Const (pos 1)) ∷ Grow b.mark marks ∷ ts) c [] n (made_arrays b m) t Q
growths_go b starts marks ts c m n s k t Q d f g =
    goes_grow b.ptr starts _ c [] n (made_arrays b m) t Q (grow b.ptr (pos s))
    (grow_value b.ptr starts c (made_arrays b m) 0 s (f.starts_are (made_arrays b m) (made_agrees b m)) (ptr_empty b m d) (from_none s greatest f.starts_small))
    (goes_grow b.num (Const (pos 1)) _ c [] (n + 1) (with_starts b s m) t Q (grow b.num (pos 1))
    (grow_value b.num (Const (pos 1)) c (with_starts b s m) 0 1 (value_const (pos 1) _ (omega arith)) (longer_other b.ptr b.num s (made_arrays b m) d.ptr_num ∙ num_empty b m d) (omega arith))
    (goes_grow b.mark marks ts c [] ((n + 1) + 1) (with_number b s m) t Q (grow b.mark (pos k))
    (grow_value b.mark marks c (with_number b s m) 0 k
    (f.marks_are (with_number b s m) (longer_agrees b (cleared b m) (with_starts b s m) b.num 1 (made_num b) (longer_agrees b (cleared b m) (made_arrays b m) b.ptr s (made_ptr b) (made_agrees b m))))
    (longer_other b.num b.mark 1 (with_starts b s m) d.num_mark ∙ longer_other b.ptr b.mark s (made_arrays b m) d.ptr_mark ∙ mark_empty b m) (from_none k greatest f.marks_small))
    g))

-- the declarations, and what follows them
pub declares_go : (b : Arrays) (ts : List Stmt) (c : Env) (m : Memory) (t : ℕ) (Q : Memory → Type 0)
    → Leads ts c [] 4 (made_arrays b m) t Q → Leads (Declare b.ptr Position [] ∷ Declare b.val Position [] ∷ Declare b.num Position [] ∷ Declare b.mark Position [] ∷ ts) c [] 0 m t Q
declares_go b ts c m t Q g =
    goes_declare b.ptr Position [] _ c [] 0 m t Q (declare b.ptr Position (long (pos 0))) refl
    (goes_declare b.val Position [] _ c [] 1 (empty b.ptr m) t Q (declare b.val Position (long (pos 0))) refl
    (goes_declare b.num Position [] _ c [] 2 (empty b.val (empty b.ptr m)) t Q (declare b.num Position (long (pos 0))) refl
    (goes_declare b.mark Position [] ts c [] 3 (empty b.num (empty b.val (empty b.ptr m))) t Q (declare b.mark Position (long (pos 0))) refl g)))

-- the head, and what follows it
head_goes : (b : Arrays) (x : Text) (l : Loops) (starts marks : Index) (c : Env) (m : Memory) (s k t : ℕ) (Q : Memory → Type 0) → Apart b → SizesFit b c (cleared b m) starts marks s k
    → Leads (marking_lines b x l) c [] 7 (with_marks b s k m) t Q → Leads (kept_lines b x l starts marks) c [] 0 m t Q
head_goes b x l starts marks c m s k t Q d f g = declares_go b _ c m t Q (growths_go b starts marks (marking_lines b x l) c m 4 s k t Q d f g)

pub lines_leave : LinesLeaveKeptValues
lines_leave b x l starts marks c m low s k n first a f g =
    (head_goes b x l starts marks c m s k _ _ g.apart f
    (marking_goes b x l c (cleared b m) (sizes low s k) n first a g [] 7 (with_marks b s k m) (head_shows b low s k m g.apart))).goes

pub no_rows : LinesOfNoRows
no_rows b x l starts marks c m low s k groups first a f g =
    (head_goes b x l starts marks c m s k 0 _ g.apart f
    (weaker _ c [] 7 (with_marks b s k m) 0 0 (Shows b (sizes low s k) (cleared b m) unmarked) _ refl
    (λ m' sh. left_by b (cleared b m) (sizes low s k) [] groups unmarked m' (none_yet groups) refl sh)
    (nest_goes b x l c (cleared b m) (sizes low s k) 0 first a.group a.count a.value (nest_of b x l c (cleared b m) (sizes low s k) 0 first a g) [] 7 (with_marks b s k m) (head_shows b low s k m g.apart)))).goes
