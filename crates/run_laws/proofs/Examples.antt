-- The worked case.
use Rattle.std.proofs.Common.{◌≡◌, ℕ, ◌≤◌, ◌^◌, Bool, true, false, List, [], ◌∷◌, if◌then◌else◌, refl, arith}
use Rattle.c_grammar.specs.Index as i
use Rattle.c_grammar.specs.Data as d
use Rattle.c_grammar.specs.Statement as s'
use Rattle.c_grammar.specs.Program as p
use Rattle.c_grammar.specs.Program.{IsProgram}
use Rattle.c_meaning.specs.Names.{Name, same_name}
use Rattle.c_meaning.specs.Examples.{n}
use Rattle.csr_data.specs.Headings.{HasSignature}
use Rattle.csr_data.specs.Parameters.{AreSmall}
use Rattle.run_laws.specs.Examples.{copying, copying_tokens, copied_values, copied_arrays, CopyCanRun}
use Rattle.run_laws.proofs.Divisors.{program_divides}
use Rattle.run_laws.proofs.Programs.{program_can_run}

copying_is : IsProgram copying_tokens copying
copying_is =
    p.program p.none (p.more (p.arrays (p.more (p.numbers (p.one (i.subscript (i.first (i.factor i.name))))) (p.one (p.numbers (p.one (i.subscript (i.first (i.factor i.name)))))))))
    (p.alone (s'.one (s'.loop (i.first (i.factor (i.number (omega arith)))) (i.first (i.factor i.name))
    (s'.bare (s'.assignment (i.one (i.subscript (i.first (i.factor i.name)))) s'.write refl (d.first (d.factor (d.cell (i.one (i.subscript (i.first (i.factor i.name))))))))))))

values_small : AreSmall copied_values
values_small x = by (same_name n x)
  where
    by : (b : Bool) → (if b then 2 else 0) ≤ 2 ^ 24
    by true = omega arith
    by false = omega arith

values_are : HasSignature copying copied_values copied_arrays
values_are = record { names = refl; small = values_small; arrays = refl }

pub copy_can_run : CopyCanRun
copy_can_run = (program_divides copying_tokens copying copying_is, λ keeps. program_can_run copying_tokens copying copied_values copied_arrays copying_is keeps values_are)
