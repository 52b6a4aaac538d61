-- Index expressions and their plain data.
use Rattle.std.specs.Prelude.{◌≡◌}
use Rattle.c_tree.specs.declared.index.Index.{Index}
use Rattle.acceptance.specs.Expressions.{plain, index_of}

abbrev pub PlainIsExpression : Type 0
PlainIsExpression = (e : Index) → index_of (plain e) ≡ e
