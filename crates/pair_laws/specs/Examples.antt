-- A worked test: for i from 0 to below n: y[i] = 1, whose level is to be free of dependences.
use Rattle.std.specs.Prelude.{ℕ, List, [], ◌∷◌, map, ℤ, pos, negsuc, false, None}
use Rattle.c_tree.specs.declared.program.Program.{Program}
use Rattle.c_tree.specs.declared.statement.How.TheVariants.{Write}
use Rattle.int_rows.specs.declared.row.Aff.{Aff}
use Rattle.nest_tree.specs.declared.body.Access.{Access}
use Rattle.nest_tree.specs.declared.body.Body.TheVariants.{Const}
use Rattle.nest_tree.specs.declared.form.Form.TheVariants.{Other}
use Rattle.nest_tree.specs.declared.kernel.Kernel.{Kernel}
use Rattle.nest_tree.specs.declared.kernel.KernelRow.{KernelRow}
use Rattle.nest_tree.specs.declared.kernel.Nest.{Nest}
use Rattle.nest_tree.specs.Terms.{Input}
use Rattle.nest_systems.specs.Choosing.{none_chosen}
use Rattle.nest_systems.specs.Statements.{plain_row}
use Rattle.point_laws.specs.Ranges.{IsRanged}
use Rattle.depend_test.specs.First.{IsFirst}
use Rattle.depend_test.specs.Levels.{IsDecidedAt, access_pairs, level_dependence}
use Rattle.depend_test.specs.Sides.{IsSame, own_levels}
use Rattle.depend_test.specs.declared.side.Side.{Side}
use Rattle.pair_laws.specs.Pairs.{IsSideAt}

abbrev pub n : List ℕ
n = 110 ∷ []

abbrev pub y : List ℕ
y = 121 ∷ []

abbrev pub head : Program
head = record { name = 115 ∷ []; matrices = []; params = n ∷ []; arrays = []; inspector = []; executor = [] }

abbrev pub form : List ℤ → ℤ → Aff
form cs k = record { coefs = cs; constant = k }

abbrev pub at_least_zero : Aff → KernelRow
at_least_zero f = record { row = record { equal = false; form = f }; own = 1 }

abbrev pub cell : Access
cell = record { array = y; at = form (pos 0 ∷ pos 1 ∷ []) (pos 0) ∷ [] }

abbrev pub setting : Nest
setting = record {
  levels = Other ∷ [];
  positions = 0 ∷ 0 ∷ [];
  terms = [];
  rows = at_least_zero (form (pos 0 ∷ pos 1 ∷ []) (pos 0)) ∷ at_least_zero (form (pos 1 ∷ negsuc 0 ∷ []) (negsuc 0)) ∷ [];
  target = cell;
  how = Write;
  value = Const 1;
  whole = None;
}

abbrev pub kernel : Kernel
kernel = record { head = head; made = []; nests = setting ∷ [] }

-- n is 3
abbrev pub input : Input
input = record { params = pos 3 ∷ []; cells = λ a at. None }

-- what the loop gives to systems
abbrev pub side : Side
side = record {
  instance = record { levels = 1; vars = 2; count = 0; terms = []; chosen = none_chosen 2 0 0; rows = map plain_row setting.rows; ranges = [] };
  accesses = cell ∷ [];
  old = own_levels head setting;
  positions = 0 ∷ 0 ∷ [];
}

-- that is what the code has of it; its one candidate at level 1 is excluded; and 1 and 2 are points of it, so that all premises of the law hold but that they name one cell
abbrev pub SettingLoop : Type 0
SettingLoop =
    IsSame head [] setting side × IsFirst (IsDecidedAt kernel side 1) (level_dependence 0 1) (access_pairs side Write) None
    × IsRanged head [] input × IsSideAt kernel input setting (own_levels head setting) side (pos 1 ∷ []) × IsSideAt kernel input setting (own_levels head setting) side (pos 2 ∷ [])
