use Rattle.std.proofs.Common.{◌≡◌, ◌++◌, take}
use Rattle.std.specs.List.{flat_map}
use Rattle.c_run.specs.Store.{tables_of}
use Rattle.c_run.specs.Printing.{array_text, AreWhole}
use Rattle.c_run.proofs.machine.push_all.Given as goal

abbrev pub invariant-loop-array : goal.invariant-loop-array
invariant-loop-array l = record {
  text : l.text.items ≡ l.initial.text.items ++ flat_map (array_text (tables_of l.store.arrays)) (take l.array-index l.array-items);
  whole : AreWhole (tables_of l.store.arrays) (take l.array-index l.array-items);
}
