-- The lines that stand before every printed program, and that a text may have in any line of its own.
use Rattle.std.specs.Prelude.{ℕ, List, [], ◌∷◌, ◌++◌, codes}

-- headers of C that the macros and types come from
abbrev pub includes : List (List ℕ)
includes = codes "#include <stdint.h>" ∷ codes "#include <stdlib.h>" ∷ codes "#include <string.h>" ∷ []

-- macros that give the words of the language a meaning in C
abbrev pub macros : List (List ℕ)
macros =
    codes "#define min(a, b) ((a) < (b) ? (a) : (b))"
    ∷ codes "#define max(a, b) ((a) > (b) ? (a) : (b))"
    ∷ codes "#define floord(a, b) ((a) >= 0 ? (a) / (b) : -((-(a) + (b) - 1) / (b)))"
    ∷ codes "#define ceild(a, b) (-floord(-(a), (b)))"
    ∷ codes "#define INDEX1(x) int64_t *x = 0; int64_t x##_len = 0"
    ∷ codes "#define INDEX2(x, e) int64_t (*x)[e] = 0; int64_t x##_len = 0"
    ∷ codes "#define DATA1(x) uint64_t *x = 0; int64_t x##_len = 0"
    ∷ codes "#define DATA2(x, e) uint64_t (*x)[e] = 0; int64_t x##_len = 0"
    ∷ codes "#define DATA3(x, e, f) uint64_t (*x)[e][f] = 0; int64_t x##_len = 0"
    ∷ codes "#define GROW(x, e) x = realloc(x, sizeof(*x) * (x##_len + (e))); memset(x + x##_len, 0, sizeof(*x) * (e)); x##_len += (e)"
    ∷ []

-- the prelude, line by line
abbrev pub prelude : List (List ℕ)
prelude = includes ++ macros
