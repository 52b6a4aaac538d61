-- A whole as its first part and what is joined to it.
use Rattle.std.specs.Prelude.{List, [], ◌∷◌}

-- a first part with the links behind it, the last one first: each joins its own part by its own operation
abbrev pub chained : {E L O : Type 0} → (O → E → E → E) → (L → O) → (L → E) → E → List L → E
chained join op part e [] = e
chained join op part e (l ∷ ls) = join (op l) (chained join op part e ls) (part l)
