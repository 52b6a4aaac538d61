-- The line that each outcome has, and its exit status.
use Rattle.std.specs.Prelude.{ℕ, List, [], ◌∷◌, codes}
use Rattle.std.specs.Fmt.{decimal, signed_decimal}
use Rattle.c_judge.specs.declared.faults.LimitWhat.{LimitWhat}
use Rattle.c_judge.specs.declared.faults.LimitWhat.TheVariants.{Signature, Locals, Assignments, InspectorStatements, Matrices, Extent}
use Rattle.c_judge.specs.declared.faults.NameWhy.{NameWhy}
use Rattle.c_judge.specs.declared.faults.NameWhy.TheVariants.{Unknown, Twice, Kind, Dims, NoMatrix, Matrix, Reserved}
use Rattle.c_judge.specs.declared.faults.ProgramFault.{ProgramFault}
use Rattle.c_judge.specs.declared.faults.ProgramFault.TheVariants as program
use Rattle.recipe_read.specs.declared.recipe.RecipeFault.{RecipeFault}
use Rattle.recipe_read.specs.declared.recipe.RecipeFault.TheVariants as recipe
use Rattle.source_limits.specs.declared.fault.SourceFault.{SourceFault}
use Rattle.source_limits.specs.declared.fault.SourceFault.TheVariants as source
use Rattle.source_limits.specs.declared.fault.SourceWhat.{SourceWhat}
use Rattle.source_limits.specs.declared.fault.SourceWhat.TheVariants.{Inspector, Coefficient, Constant, Nest, Bounds}
use Rattle.source_limits.specs.declared.fault.Side.{Side}
use Rattle.source_limits.specs.declared.fault.Side.TheVariants.{Below, Past}
use Rattle.nest_tree.specs.declared.fault.ShapeWhy.{ShapeWhy}
use Rattle.nest_tree.specs.declared.fault.ShapeWhy.TheVariants as shape
use Rattle.nest_tree.specs.declared.fault.Dependence.{Dependence}
use Rattle.nest_tree.specs.declared.fault.CommandFault.{CommandFault}
use Rattle.nest_tree.specs.declared.fault.CommandFault.TheVariants as command
use Rattle.scan_forms.specs.declared.fault.ScanFault.{ScanFault}
use Rattle.scan_forms.specs.declared.fault.ScanFault.TheVariants as scan
use Rattle.csr_data.specs.declared.fault.CsrWhy.{CsrWhy}
use Rattle.csr_data.specs.declared.fault.CsrWhy.TheVariants.{Start, Falls, End, Column}
use Rattle.csr_data.specs.declared.fault.ValuesFault.{ValuesFault}
use Rattle.csr_data.specs.declared.fault.ValuesFault.TheVariants as values
use Rattle.c_run.specs.declared.fault.Section.{Section}
use Rattle.c_run.specs.declared.fault.Section.TheVariants as section
use Rattle.c_run.specs.declared.fault.RunFault.{RunFault}
use Rattle.c_run.specs.declared.fault.RunFault.TheVariants as run
use Rattle.token_places.specs.declared.marks.TooFew.{TooFew}
use Rattle.outcomes.specs.declared.outcome.Outcome.{Outcome}
use Rattle.outcomes.specs.declared.outcome.Outcome.TheVariants.{Done, Refused, Usage, ReadFault, WriteFault, NoMemory}
use Rattle.outcomes.specs.declared.outcome.Refusal.{Refusal}
use Rattle.outcomes.specs.declared.outcome.Refusal.TheVariants.{FileLong, Recipe, Program, Source, Command, Scan, Values, Run, Where}
use Rattle.outcomes.specs.Words.{joined, place_text}

-- ---- recipes and programs
abbrev pub recipe_line : RecipeFault → List ℕ
recipe_line (recipe.Line number) = joined (codes "chill: recipe line " ∷ decimal number ∷ codes "\n" ∷ [])
recipe_line (recipe.Limit count) = joined (codes "chill: recipe: " ∷ decimal count ∷ codes " commands\n" ∷ [])

-- a count that passed its limit
abbrev pub limit_line : LimitWhat → ℕ → List ℕ
limit_line Signature count = joined (codes "chill: limit: " ∷ decimal count ∷ codes " signature names\n" ∷ [])
limit_line Locals count = joined (codes "chill: limit: " ∷ decimal count ∷ codes " growable arrays\n" ∷ [])
limit_line Assignments count = joined (codes "chill: limit: " ∷ decimal count ∷ codes " assignments\n" ∷ [])
limit_line InspectorStatements count = joined (codes "chill: limit: " ∷ decimal count ∷ codes " inspector statements\n" ∷ [])
limit_line Matrices count = joined (codes "chill: limit: " ∷ decimal count ∷ codes " matrices\n" ∷ [])
limit_line Extent array = joined (codes "chill: limit: " ∷ codes "extent of array " ∷ decimal array ∷ codes "\n" ∷ [])

abbrev pub why_words : NameWhy → List ℕ
why_words Unknown = codes ": unknown\n"
why_words Twice = codes ": twice\n"
why_words Kind = codes ": kind\n"
why_words Dims = codes ": dimensions\n"
why_words NoMatrix = codes ": no matrix\n"
why_words Matrix = codes ": matrix\n"
why_words Reserved = codes ": reserved\n"

abbrev pub program_line : ProgramFault → List ℕ
program_line (program.Syntax token) = joined (codes "chill: syntax at token " ∷ decimal token ∷ codes "\n" ∷ [])
program_line (program.Limit what count) = limit_line what count
program_line (program.Name name why) = joined (codes "chill: name " ∷ name ∷ why_words why ∷ [])
program_line (program.Fixed name) = joined (codes "chill: name " ∷ name ∷ codes ": fixed\n" ∷ [])

-- ---- sources
abbrev pub source_words : SourceWhat → List ℕ
source_words Inspector = codes " inspector statements\n"
source_words Coefficient = codes " coefficient\n"
source_words Constant = codes " constant\n"
source_words Nest = codes " nest\n"
source_words Bounds = codes " bounds\n"

abbrev pub side_words : Side → List ℕ
side_words Below = codes " reaches below "
side_words Past = codes " reaches past "

abbrev pub source_line : SourceFault → List ℕ
source_line (source.Limit what count) = joined (codes "chill: source: limit: " ∷ decimal count ∷ source_words what ∷ [])
source_line (source.NotAffine statement part) = joined (codes "chill: source: statement " ∷ decimal statement ∷ codes " isn't affine\n" ∷ [])
source_line (source.Overflow statement why) = joined (codes "chill: source: overflow in statement " ∷ decimal statement ∷ codes "\n" ∷ [])
source_line (source.Outside statement array side) = joined (codes "chill: source: statement " ∷ decimal statement ∷ side_words side ∷ array ∷ codes "\n" ∷ [])

-- ---- commands and scans
abbrev pub shape_number : ShapeWhy → ℕ
shape_number shape.NoStatement = 1
shape_number shape.NoLoop = 2
shape_number shape.NotPermutation = 3
shape_number shape.NotShared = 4
shape_number shape.TermFirst = 5
shape_number shape.LowerBounds = 6
shape_number shape.InnerBound = 7
shape_number shape.NotTraversal = 8
shape_number shape.NotProduct = 9
shape_number shape.NotAlone = 10
shape_number shape.NotReadOnly = 11
shape_number shape.NotConstant = 12
shape_number shape.NameTaken = 13
shape_number shape.Limit = 14

abbrev pub dependence_line : ℕ → Dependence → List ℕ
dependence_line number d = joined (codes "chill: command " ∷ decimal number ∷ codes ": dependence from " ∷ decimal d.from ∷ codes " to " ∷ decimal d.to
    ∷ codes " on " ∷ d.array ∷ codes ", old level " ∷ decimal d.old_level ∷ codes ", new level " ∷ decimal d.new_level ∷ codes "\n" ∷ [])

abbrev pub command_line : ℕ → CommandFault → List ℕ
command_line number (command.Shape why) = joined (codes "chill: command " ∷ decimal number ∷ codes ": shape " ∷ decimal (shape_number why) ∷ codes "\n" ∷ [])
command_line number (command.Depends found) = dependence_line number found
command_line number (command.Overflow excess) = joined (codes "chill: command " ∷ decimal number ∷ codes ": overflow\n" ∷ [])

abbrev pub scan_line : ScanFault → List ℕ
scan_line (scan.Overflow excess) = codes "chill: scan: overflow\n"
scan_line (scan.Size statement) = joined (codes "chill: scan: size in statement " ∷ decimal statement ∷ codes "\n" ∷ [])
scan_line (scan.Wide statement level) = joined (codes "chill: scan: bounds of statement " ∷ decimal statement ∷ codes " level " ∷ decimal level ∷ codes "\n" ∷ [])

-- ---- data and runs
abbrev pub csr_words : CsrWhy → List ℕ
csr_words Start = codes ": start\n"
csr_words Falls = codes ": falls\n"
csr_words End = codes ": end\n"
csr_words Column = codes ": column\n"

abbrev pub values_line : ValuesFault → List ℕ
values_line (values.Line number) = joined (codes "chill: data: line " ∷ decimal number ∷ codes "\n" ∷ [])
values_line (values.Missing name) = joined (codes "chill: data: " ∷ name ∷ codes " is missing\n" ∷ [])
values_line (values.Limit name value) = joined (codes "chill: data: " ∷ name ∷ codes " is " ∷ signed_decimal value ∷ codes "\n" ∷ [])
values_line (values.Count name wanted found) = joined (codes "chill: data: " ∷ name ∷ codes " wants " ∷ decimal wanted ∷ codes " numbers, found " ∷ decimal found ∷ codes "\n" ∷ [])
values_line (values.NotCsr matrix why row place) = joined (codes "chill: data: matrix " ∷ decimal matrix ∷ codes " row " ∷ decimal row ∷ codes " place " ∷ decimal place ∷ csr_words why ∷ [])

abbrev pub section_words : Section → List ℕ
section_words section.Inspector = codes "inspector "
section_words section.Executor = codes "executor "

abbrev pub run_line : RunFault → List ℕ
run_line (run.Outside section array place) = joined (codes "chill: " ∷ section_words section ∷ place_text place ∷ codes ": outside " ∷ array ∷ codes "\n" ∷ [])
run_line (run.Range section place) = joined (codes "chill: " ∷ section_words section ∷ place_text place ∷ codes ": range\n" ∷ [])

-- ---- places of tokens
abbrev pub tokens_line : TooFew → List ℕ
tokens_line few = joined (codes "chill: where: " ∷ decimal few.tokens ∷ codes " tokens\n" ∷ [])

-- ---- outcomes
abbrev pub refusal_line : Refusal → List ℕ
refusal_line (FileLong file) = joined (codes "chill: file " ∷ decimal file ∷ codes ": longer than 67108864 bytes\n" ∷ [])
refusal_line (Recipe fault) = recipe_line fault
refusal_line (Program fault) = program_line fault
refusal_line (Source fault) = source_line fault
refusal_line (Command number fault) = command_line number fault
refusal_line (Scan fault) = scan_line fault
refusal_line (Values fault) = values_line fault
refusal_line (Run fault) = run_line fault
refusal_line (Where few) = tokens_line few

-- one line for each outcome other than `Done`
abbrev pub line_of : Outcome → List ℕ
line_of Done = []
line_of (Refused refusal) = refusal_line refusal
line_of Usage = joined (codes "chill: usage: chill emit RECIPE SOURCE, run PROGRAM DATA, " ∷ codes "trace PROGRAM DATA, work SEED SIZE, where TEXT TOKEN\n" ∷ [])
line_of (ReadFault file) = joined (codes "chill: file " ∷ decimal file ∷ codes ": read fault\n" ∷ [])
line_of WriteFault = codes "chill: write fault\n"
line_of NoMemory = codes "chill: no memory\n"

abbrev pub status_of : Outcome → ℕ
status_of Done = 0
status_of (Refused refusal) = 1
status_of Usage = 2
status_of (ReadFault file) = 3
status_of WriteFault = 4
status_of NoMemory = 5
