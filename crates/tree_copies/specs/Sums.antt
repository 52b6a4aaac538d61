-- A sum of index expressions as its first part and those behind it.
use Rattle.std.specs.Prelude.{ℕ, Bool, nat_le, List}
use Rattle.c_tree.specs.declared.index.Index.{Index, size-Index}
use Rattle.c_tree.specs.declared.index.Index.TheVariants.{Plus, Minus}
use Rattle.tree_copies.specs.Chained.{chained}
use Rattle.tree_copies.specs.declared.index.Sign.{Sign}
use Rattle.tree_copies.specs.declared.index.Sign.TheVariants as sign
use Rattle.tree_copies.specs.declared.index.Summand.{Summand}

abbrev pub applied : Sign → Index → Index → Index
applied sign.Plus a b = Plus a b
applied sign.Minus a b = Minus a b

abbrev pub sign_of : Summand → Sign
sign_of s = s.sign

abbrev pub part_of : Summand → Index
part_of s = s.part.now

-- a first part with the others behind it, the last one first
abbrev pub linked : Index → List Summand → Index
linked = chained applied sign_of part_of

abbrev pub is_at_most : ℕ → Summand → Bool
is_at_most n s = nat_le (size-Index s.part.now) n
