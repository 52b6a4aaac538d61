-- Parts of expressions, which are smaller than the whole.
use Rattle.std.specs.Prelude.{ℕ, Bool, nat_lt}
use Rattle.c_tree.specs.declared.data.Expr.{size-Expr}
use Rattle.c_tree.specs.declared.index.Index.{size-Index}
use Rattle.source_limits.specs.declared.spine.Summand.{Summand}
use Rattle.source_limits.specs.declared.spine.Link.{Link}

abbrev pub is_smaller : ℕ → Summand → Bool
is_smaller n s = nat_lt (size-Index s.part.now) n

abbrev pub is_smaller_link : ℕ → Link → Bool
is_smaller_link n l = nat_lt (size-Expr l.value.now) n
