-- The marking lines on a matrix: no fault, the turns, and the kept values.
use Rattle.std.proofs.Common.{◌≡◌, refl, ap, ◌∙◌, ℕ, suc, ◌+◌, ◌≤◌, ℤ, pos, ◌+ℤ◌, ◌-ℤ◌, ◌<ℤ◌, List, [], ◌++◌, length, arith}
use Rattle.std.proofs.lemmas.Int.{ints}
use Rattle.std.proofs.lemmas.List.{append-nil}
use Rattle.c_meaning.specs.Names.{Place}
use Rattle.c_meaning.specs.Memory.{Memory, Env}
use Rattle.sparse_marks.specs.Kept.{Placed, kept, kept_before, nth}
use Rattle.sparse_marks.specs.Marks.{Marks, unmarked, Follows}
use Rattle.sparse_marks.specs.Walks.{Walk, row_met, met_before, marks_in, marks_of, sum_below}
use Rattle.sparse_marks.proofs.Walking.{within, at_end, start_bound, values_bound}
use Rattle.inspector_runs.specs.Rules.{Leads}
use Rattle.inspector_runs.specs.Texts.{Arrays, Text, Loops, marking_lines}
use Rattle.inspector_runs.specs.Shown.{long, Sizes, Shows, Left, Fits}
use Rattle.inspector_runs.specs.Laws.{MarkingLeavesKeptValues}
use Rattle.inspector_runs.proofs.Statements.{weaker}
use Rattle.inspector_runs.proofs.Nests.{Nest, nest_goes}

below_less : (v w : ℤ) → (v -ℤ w) +ℤ w ≡ v
below_less v w = omega (arith, ints)

less : (g : ℕ) (n : ℤ) → pos (suc g) <ℤ n → pos g <ℤ n
less g n h = grind (arith, ints)

pub nest_of : (b : Arrays) (x : Text) (l : Loops) (c : Env) (base : Memory) (z : Sizes) (rows : ℕ) (first : ℕ → ℕ) (a : Walk)
    → Fits b x l c base z rows first a → Nest b x l c base z rows first a.group a.count a.value
nest_of b x l c base z rows first a f = record {
  apart = f.apart;
  rows_are = f.rows_are;
  from = f.from;
  to = f.to;
  next = f.next;
  next_in = f.groups_in;
  small = λ i h. let q : length (marks_in a i (a.count i)).val ≤ sum_below a.count rows = values_bound a rows i (a.count i) h (omega arith) in omega (arith, q, f.small);
  turn = λ i j h k.
      let s : Marks = marks_in a i j in
      let g : Follows (met_before a i ++ row_met a i j) (a.group i) (marks_in a i j) = within a f.rising i j in
      let q : length (marks_in a i j).val ≤ sum_below a.count rows = values_bound a rows i j h (omega (arith, k)) in
      record {
        apart = f.apart;
        gives = f.gives i j h k;
        above = below_less (a.value i j) z.low;
        from = f.low_in i j h k;
        to = f.high_in i j h k;
        group = less (a.group i) z.starts (f.groups_in i h);
        mark = g.bound (a.value i j);
        ptr = start_bound _ (a.group i) (marks_in a i j) g;
        small = omega (arith, q, f.small);
      };
}

pub left_by : (b : Arrays) (base : Memory) (z : Sizes) (es : List Placed) (g : ℕ) (s : Marks) (m : Memory) → Follows es g s → kept g es ≡ [] → Shows b z base s m → Left b z.starts z.marks base es g m
left_by b base z es g s m f n sh =
    let v : s.val ≡ kept_before g es = f.val ∙ ap (λ l. kept_before g es ++ l) n ∙ append-nil _ in
    record {
      ptr = λ h k. sh.ptr h ∙ ap pos (f.ptr h k);
      val = λ p. sh.val p ∙ ap (λ l. nth l p) v;
      num = sh.num ∙ ap (λ l. pos (length l)) v;
      mark_long = sh.mark_long;
      ptr_long = sh.ptr_long;
      val_long = sh.val_long ∙ ap (λ l. long (pos (length l))) v;
      num_long = sh.num_long;
      others = sh.others;
    }

-- it has no fault, makes as many turns as there are rows and entries, and leaves the kept values
pub marking_goes : (b : Arrays) (x : Text) (l : Loops) (c : Env) (base : Memory) (z : Sizes) (n : ℕ) (first : ℕ → ℕ) (a : Walk)
    → Fits b x l c base z (suc n) first a → (at : Place) (k : ℕ) (m : Memory) → Shows b z base unmarked m
    → Leads (marking_lines b x l) c at k m (suc n + sum_below a.count (suc n)) (Left b z.starts z.marks base (met_before a (suc n)) (suc (a.group n)))
marking_goes b x l c base z n first a f at k m sh =
    weaker _ c at k m _ _ (Shows b z base (marks_of a (suc n))) _
    refl
    (λ m' sh'. left_by b base z (met_before a (suc n)) (suc (a.group n)) (marks_of a (suc n)) m' (at_end a f.rising n) ((within a f.rising n (a.count n)).later (suc (a.group n)) (omega arith)) sh')
    (nest_goes b x l c base z (suc n) first a.group a.count a.value (nest_of b x l c base z (suc n) first a f) at k m sh)

pub leaves : MarkingLeavesKeptValues
leaves = marking_goes
