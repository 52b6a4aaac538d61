-- A worked case: a source and the text that is written for it.
use Rattle.std.specs.Prelude.{ℕ, List, ◌++◌, codes}
use Rattle.c_tokens.specs.Lines.{prelude}
use Rattle.c_print.specs.Program.{lines_of}

abbrev pub copy_source : List ℕ
copy_source = codes "void f(int64_t n, uint64_t b[n], uint64_t c[n]) { for (int64_t i = 0; i < n; i++) b[i] = c[i]; }"

abbrev pub copy_text : List ℕ
copy_text =
    lines_of prelude
    ++ codes "void f(int64_t n, uint64_t b[n], uint64_t c[n])\n{\n  for (int64_t t1 = 0; t1 < n; t1++) {\n    b[t1] = c[t1];\n  }\n}\n"
