-- Lines and columns of a text.
use Rattle.std.specs.Prelude.{ℕ, ◌+◌, List, fold, if◌then◌else◌}
use Rattle.c_tokens.specs.Pieces.{is_line_feed}
use Rattle.token_places.specs.declared.caret.Caret.{Caret}

abbrev pub first : Caret
first = record { line = 1; column = 1 }

-- a line feed ends a line, and any other byte takes a column
abbrev pub behind : Caret → ℕ → Caret
behind c b = if is_line_feed b then record { line = c.line + 1; column = 1 } else record { line = c.line; column = c.column + 1 }

-- the place behind a text
abbrev pub caret_of : List ℕ → Caret
caret_of = fold behind first
