-- Lists of texts with a sign between them.
use Rattle.std.specs.Prelude.{List, [], ◌∷◌, ◌++◌}
use Rattle.c_print.specs.Printed.{Text}

-- each text with the sign before it
abbrev pub followed : Text → List Text → Text
followed sign [] = []
followed sign (t ∷ ts) = sign ++ t ++ followed sign ts

-- texts with the sign between them
abbrev pub joined : Text → List Text → Text
joined sign [] = []
joined sign (t ∷ ts) = t ++ followed sign ts
