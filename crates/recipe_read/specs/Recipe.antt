-- A recipe: lines that are empty, comments or commands.
use Rattle.std.specs.Prelude.{◌≡◌, ℕ, ◌+◌, Bool, ◌||◌, if◌then◌else◌, ◌==◌, nat_le, List, [], ◌∷◌, ◌++◌, length, slice_index, Option, Some, None, is_none, Result, Ok, Err}
use Rattle.chill_base.specs.declared.faults.Stop.{Stop}
use Rattle.chill_base.specs.declared.faults.Stop.TheVariants.{Refused, NoMemory}
use Rattle.recipe_read.specs.declared.command.Command.{Command}
use Rattle.recipe_read.specs.declared.cursor.BadLine.{BadLine}
use Rattle.recipe_read.specs.declared.recipe.RecipeFault.{RecipeFault}
use Rattle.recipe_read.specs.declared.recipe.RecipeFault.TheVariants.{Line, Limit}
use Rattle.recipe_read.specs.Words.{Text}
use Rattle.recipe_read.specs.Commands.{command}

-- ---- lines

abbrev pub onto_first : ℕ → List Text → List Text
onto_first b [] = (b ∷ []) ∷ []
onto_first b (l ∷ ls) = (b ∷ l) ∷ ls

-- the lines of a text, without the line feeds that end them; the last may lack its own
abbrev pub lines : Text → List Text
lines [] = []
lines (b ∷ z) = if b == 10 then [] ∷ lines z else onto_first b (lines z)

-- an empty line, or a comment, which begins with `#`
abbrev pub is_remark : Text → Bool
is_remark z = length z == 0 || slice_index z 0 == 35

-- a command with nothing behind it
abbrev pub alone : Option (Command × Text) → Option (Option Command)
alone None = None
alone (Some p) = if length p.1 == 0 then Some (Some p.0) else None

-- what a line says: nothing, or a command. No line of a recipe says None.
unfoldable pub line : Text → Option (Option Command)
line z = if is_remark z then Some None else alone (command z)

unfoldable pub is_bad : Text → Bool
is_bad z = is_none (line z)

abbrev pub commands_of : Option (Option Command) → List Command
commands_of (Some (Some c)) = c ∷ []
commands_of (Some None) = []
commands_of None = []

-- the command of a line, if there is one
unfoldable pub said : Text → List Command
said z = commands_of (line z)

-- ---- recipes

-- the number of the first bad line, where the first of these lines has this number
abbrev pub first_bad : ℕ → List Text → Option ℕ
first_bad number [] = None
first_bad number (l ∷ ls) = if is_bad l then Some number else first_bad (number + 1) ls

abbrev pub commands : List Text → List Command
commands [] = []
commands (l ∷ ls) = said l ++ commands ls

abbrev pub judged : Option ℕ → List Command → Result (List Command) RecipeFault
judged (Some number) cs = Err (Line number)
judged None cs = if nat_le (length cs) 64 then Ok cs else Err (Limit (length cs))

-- the commands of a recipe; or its first bad line; or, where all lines are good, that they are more than 64
unfoldable pub recipe : Text → Result (List Command) RecipeFault
recipe text = judged (first_bad 1 (lines text)) (commands (lines text))

-- ---- what functions ensure: the outcome, unless memory runs out

abbrev pub Says : Option (Option Command) → Result (Option Command) (Stop BadLine) → Type 0
Says outcome (Ok a) = outcome ≡ Some a
Says outcome (Err (Refused _)) = outcome ≡ None
Says outcome (Err NoMemory) = Unit {0}

abbrev pub IsRefused : {A : Type 0} → Result A (Stop BadLine) → Type 0
IsRefused (Ok _) = ⊥
IsRefused (Err (Refused _)) = Unit {0}
IsRefused (Err NoMemory) = ⊥

abbrev pub Answers : Result (List Command) RecipeFault → Result (List Command) (Stop RecipeFault) → Type 0
Answers outcome (Ok cs) = outcome ≡ Ok cs
Answers outcome (Err (Refused fault)) = outcome ≡ Err fault
Answers outcome (Err NoMemory) = Unit {0}
