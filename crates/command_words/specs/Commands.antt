-- The commands by their words.
use Rattle.std.specs.Prelude.{ℕ, ◌≤◌, nat_le, if◌then◌else◌, List, [], ◌∷◌, Option, Some, None, codes}
use Rattle.std.specs.Str.{bytes_eq}
use Rattle.command_words.specs.declared.request.Request.{Request}
use Rattle.command_words.specs.declared.request.Request.TheVariants as is
use Rattle.command_words.specs.Words.{are_words}
use Rattle.command_words.specs.Numbers.{number}

abbrev pub Text : Type 0
Text = List ℕ

pub data Command : Type 0 where
  -- emit RECIPE SOURCE
  emit : Text → Text → Command
  -- run PROGRAM DATA
  run : Text → Text → Command
  -- trace PROGRAM DATA
  trace : Text → Text → Command
  -- work SEED SIZE
  work : ℕ → ℕ → Command
  -- where TEXT TOKEN
  locate : Text → ℕ → Command

-- a seed and a size of at least 1
abbrev pub sized : Option ℕ → Option ℕ → Option Command
sized (Some seed) (Some size) = if nat_le 1 size then Some (work seed size) else None
sized _ _ = None

-- a token, counted from 1
abbrev pub counted : Text → Option ℕ → Option Command
counted text (Some token) = if nat_le 1 token then Some (locate text token) else None
counted text None = None

-- the command of that name with two words
abbrev pub named : Text → Text → Text → Option Command
named verb a b =
    if bytes_eq verb (codes "emit") then Some (emit a b)
    else if bytes_eq verb (codes "run") then Some (run a b)
    else if bytes_eq verb (codes "trace") then Some (trace a b)
    else if bytes_eq verb (codes "work") then sized (number 2147483647 a) (number 65536 b)
    else if bytes_eq verb (codes "where") then counted a (number 4294967295 b)
    else None

-- the command that three plain words name
abbrev pub command_in : List Text → Option Command
command_in (verb ∷ a ∷ b ∷ []) = named verb a b
command_in _ = None

abbrev pub command_of : List Text → Option Command
command_of words = if are_words words then command_in words else None

-- the command that a request stands for
abbrev pub command : Request → Command
command (is.Emit recipe source) = emit recipe.now source.now
command (is.Run program input) = run program.now input.now
command (is.Trace program input) = trace program.now input.now
command (is.Work seed size) = work seed size
command (is.Where text token) = locate text.now token

-- the number of a token that is asked for is at least 1
abbrev pub IsFromOne : Request → Type 0
IsFromOne (is.Where text token) = 1 ≤ token
IsFromOne _ = Unit {0}

abbrev pub request : Option Request → Option Command
request (Some r) = Some (command r)
request None = None
