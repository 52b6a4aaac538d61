-- What arrays are, but for their cells; and values of a signature.
use Rattle.std.specs.Prelude.{◌≡◌, ℕ, List, length, map}
use Rattle.c_tree.specs.declared.program.Array.{Array}
use Rattle.c_tree.specs.declared.program.Kind.{Kind}
use Rattle.c_tree.specs.declared.program.Program.{Program}
use Rattle.c_meaning.specs.Names.{Name}
use Rattle.csr_data.specs.declared.values.Parameter.{Parameter}
use Rattle.csr_data.specs.declared.values.Table.{Table}
use Rattle.csr_data.specs.Parameters.{names_of, AreSmall}

-- a name, what the cells hold, and how many extents there are
pub record Heading : Type 0 where
  pub name : Name
  pub kind : Kind
  pub dimensions : ℕ

abbrev pub heading_of : Table → Heading
heading_of t = record { name = t.name; kind = t.kind; dimensions = t.dimensions }

abbrev pub declared_heading : Array → Heading
declared_heading a = record { name = a.name; kind = a.kind; dimensions = length a.extents }

-- values of each parameter and each array of a signature, in its order, where no parameter is past 2^24
pub record HasSignature (p : Program) (ps : List Parameter) (ts : List Table) : Type 0 where
  pub names : names_of ps ≡ p.params
  pub small : AreSmall ps
  pub arrays : map heading_of ts ≡ map declared_heading p.arrays
