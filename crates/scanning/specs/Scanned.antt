-- The program that a kernel is scanned as, or why there is none: loops from the outside and in textual order.
use Rattle.std.specs.Prelude.{List, [], ◌∷◌, ◌++◌, Result, Ok}
use Rattle.c_tree.specs.declared.program.Program.{Program}
use Rattle.c_tree.specs.declared.statement.Stmt.{Stmt}
use Rattle.nest_tree.specs.declared.kernel.Kernel.{Kernel}
use Rattle.nest_core.specs.Making.{after}
use Rattle.scan_forms.specs.declared.reads.Read.{Read}
use Rattle.scan_forms.specs.declared.fault.ScanFault.{ScanFault}
use Rattle.scanning.specs.Tables.{table_of}
use Rattle.scanning.specs.Shapes.{Loops, end, leaf, loop, leaves, loops_of}
use Rattle.scanning.specs.Parts.{Part, Around, stated, looped, parts_from}
use Rattle.scanning.specs.Heads.{opened}
use Rattle.scanning.specs.Assignments.{assignment}

module _ (k : Kernel) (table : List Read) where
  -- the statements of loops inside others
  abbrev pub scanned_in : Around → Loops Part → Result (List Stmt) ScanFault
  scanned_in a end = Ok []
  scanned_in a (leaf p rest) = after (assignment k table a p) (λ x. after (scanned_in a rest) (λ more. Ok (stated x ∷ more)))
  scanned_in a (loop n body rest) =
      after (opened k table a (leaves body)) (λ o. after (scanned_in (a ++ o ∷ []) body) (λ inner.
      after (scanned_in a rest) (λ more. Ok (looped a o inner ∷ more))))

unfoldable pub scanned : Kernel → Result Program ScanFault
scanned k =
    let table = table_of k in
    after (scanned_in k table [] (loops_of (λ p. (p.nest).positions) (parts_from k table 0 k.nests))) (λ executor.
    Ok (record k.head { executor = executor }))
