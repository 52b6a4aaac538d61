-- The commands of a recipe, each as one line writes it. Blanks may stand between its tokens.
use Rattle.std.specs.Prelude.{ℕ, zero, suc, ℤ, if◌then◌else◌, List, [], ◌∷◌, ◌++◌, length, Some}
use Rattle.recipe_read.specs.declared.command.Command.{Command}
use Rattle.recipe_read.specs.declared.command.Command.TheVariants as to
use Rattle.recipe_read.specs.declared.words.Verb.{Verb}
use Rattle.recipe_read.specs.declared.words.Verb.TheVariants as verb
use Rattle.recipe_read.specs.Words.{Text}
use Rattle.recipe_read.specs.Cursor.{Reader, ◌>>=◌, ◌>>◌, pure, sees, after, sign, number, integer, name, layout, command_word}

-- ---- lists in brackets

module _ {A : Type 0} (item : Reader A) where
  -- the items behind those that were found, each after a comma; the number bounds their count
  unfoldable pub more : ℕ → List A → Reader (List A)
  more zero found = pure found
  more (suc n) found = λ z. if sees 44 z then (item >>= λ x. more n (found ++ x ∷ [])) (after 44 z) else Some (found, z)

  -- each item takes at least its comma, so there are no more items than bytes
  unfoldable pub further : List A → Reader (List A)
  further found z = more (length z) found z

  -- items with commas between them, and the bracket that closes their list
  unfoldable pub items : Reader (List A)
  items = do
    first ← item
    found ← further (first ∷ [])
    sign 93
    pure found

-- `[L,L]`, with at least one L
unfoldable pub levels : Reader (List ℕ)
levels = do
  sign 91
  items number

-- `[Z]`, with any number of Z
unfoldable pub integers : Reader (List ℤ)
integers = do
  sign 91
  λ z. if sees 93 z then Some ([], after 93 z) else items integer z

-- ---- arguments

-- `(S`
unfoldable pub first : Reader ℕ
first = do
  sign 40
  number

-- `,L`
unfoldable pub next : Reader ℕ
next = do
  sign 44
  number

-- `,N`
unfoldable pub next_name : Reader Text
next_name = do
  sign 44
  name

-- ---- commands

unfoldable pub permute : Reader Command
permute = do
  statement ← first
  sign 44
  order ← levels
  sign 41
  pure (to.Permute statement order)

unfoldable pub tile : Reader Command
tile = do
  statement ← first
  level ← next
  size ← next
  outer ← next
  sign 41
  pure (to.Tile statement level size outer)

unfoldable pub skew : Reader Command
skew = do
  statement ← first
  level ← next
  sign 44
  coefs ← integers
  sign 41
  pure (to.Skew statement level coefs)

unfoldable pub shift : Reader Command
shift = do
  statement ← first
  level ← next
  sign 44
  amount ← integer
  sign 41
  pure (to.Shift statement level amount)

unfoldable pub fuse : Reader Command
fuse = do
  one ← first
  second ← next
  level ← next
  sign 41
  pure (to.Fuse one second level)

unfoldable pub distribute : Reader Command
distribute = do
  statement ← first
  level ← next
  sign 41
  pure (to.Distribute statement level)

unfoldable pub unroll : Reader Command
unroll = do
  statement ← first
  level ← next
  factor ← next
  sign 41
  pure (to.Unroll statement level factor)

unfoldable pub datacopy : Reader Command
datacopy = do
  statement ← first
  level ← next
  array ← next_name
  copy ← next_name
  sign 41
  pure (to.Datacopy statement level array copy)

unfoldable pub make_dense : Reader Command
make_dense = do
  statement ← first
  level ← next
  sign 41
  pure (to.MakeDense statement level)

unfoldable pub compact : Reader Command
compact = do
  statement ← first
  level ← next
  prefix ← next_name
  sign 41
  pure (to.Compact statement level prefix)

unfoldable pub compact_and_pad : Reader Command
compact_and_pad = do
  statement ← first
  level ← next
  sign 44
  kind ← layout
  prefix ← next_name
  sign 41
  pure (to.CompactAndPad statement level kind prefix)

-- what stands behind the word of a command
abbrev pub arguments : Verb → Reader Command
arguments verb.Permute = permute
arguments verb.Tile = tile
arguments verb.Skew = skew
arguments verb.Shift = shift
arguments verb.Fuse = fuse
arguments verb.Distribute = distribute
arguments verb.Unroll = unroll
arguments verb.Datacopy = datacopy
arguments verb.MakeDense = make_dense
arguments verb.Compact = compact
arguments verb.CompactAndPad = compact_and_pad

unfoldable pub command : Reader Command
command = do
  word ← command_word
  arguments word
