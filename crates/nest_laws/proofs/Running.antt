-- The laws of runs in the form in which the functions of this crate state them.
use Rattle.std.proofs.Common.{◌≡◌, List, [], sym, ◌∙◌, ap, subst}
use Rattle.c_meaning.specs.Ground.{Step}
use Rattle.nest_tree.specs.declared.kernel.Nest.{Nest}
use Rattle.nest_tree.specs.Places.{place, IsInstance, Item}
use Rattle.nest_tree.specs.Terms.{Input}
use Rattle.nest_tree.specs.Kernels.{point, item_at, IsItemOf}
use Rattle.nest_tree.specs.Loops.{Levels}
use Rattle.nest_tree.specs.Scans.{Slot, Maker, IsPoint}
use Rattle.nest_laws.specs.Acts.{act}
use Rattle.nest_laws.specs.Trees.{without_faults, tree_of}
use Rattle.nest_laws.specs.RunLaws.{ExecutorPerformsItsLoops, LeavesTellPerformed, MeetsRows, slots_of, ScanHasKernelList}
use Rattle.nest_laws.proofs.Loops.{performed-list, in_map, map_in}
use Rattle.nest_laws.proofs.Scans.{leaf_of, of_leaf, scan-list}
use Rattle.nest_laws.proofs.Trees.{tree-listing, fine_run}

pub executor : ExecutorPerformsItsLoops
executor body c d fine = (tree-listing body c ∙ fine_run d (tree_of body c) [] [] 0 fine, performed-list (without_faults d (tree_of body c)) [] 0)

pub leaves_tell : LeavesTellPerformed
leaves_tell t e n = (leaf_of t e n, of_leaf t e n)

item_is : (x y : Item Step) → x.place ≡ y.place → x.step ≡ y.step → x ≡ y
item_is x y p q = λ k. record { place = p k; step = q k }

module _ (i : Input) (nests : List Nest) (m : Maker Nest Step) (same_step : (n : Nest) (vs : Levels) → m.step n vs ≡ act n (point i n vs)) where
  abbrev OfSlot : Slot Nest → Levels → Item Step → Type 0
  OfSlot s vs x = IsInstance s.left vs × MeetsRows i s.of vs × (x.place ≡ place s.left vs) × (x.step ≡ m.step s.of vs)

  point_item : (x : Item Step) → IsPoint m (MeetsRows i) (slots_of nests) [] x → IsItemOf act i nests x
  point_item x p =
      let f = in_map (λ (n : Nest). record { left = n.positions; of = n }) p.slot nests p.is_in in
      let q = subst (λ (s : Slot Nest). OfSlot s p.levels x) f.2 (p.depth, p.meets, p.place_is, p.step_is) in
      record { nest = f.0; is_in = f.1; levels = p.levels; is_point = record { instance = q.0; meets = q.1 }; is = item_is x (item_at act i f.0 p.levels) q.2 (q.3 ∙ same_step f.0 p.levels) }

  item_point : (x : Item Step) → IsItemOf act i nests x → IsPoint m (MeetsRows i) (slots_of nests) [] x
  item_point x h = record {
    slot = record { left = (h.nest).positions; of = h.nest };
    is_in = map_in (λ (n : Nest). record { left = n.positions; of = n }) h.nest nests h.is_in;
    levels = h.levels;
    depth = (h.is_point).instance;
    meets = (h.is_point).meets;
    place_is = ap (λ (y : Item Step). y.place) h.is;
    step_is = ap (λ (y : Item Step). y.step) h.is ∙ sym (same_step h.nest h.levels);
  }

pub scan : ScanHasKernelList
scan i nests m known t sound same_step is_scan k =
    let l = scan-list m (MeetsRows i) known sound t (slots_of nests) is_scan k in record {
      sorted = l.sorted;
      each = λ x a. point_item i nests m same_step x (l.each x a);
      all = λ x h. l.all x (item_point i nests m same_step x h);
    }
