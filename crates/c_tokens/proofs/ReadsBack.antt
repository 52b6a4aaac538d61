-- Each sign and word is read back from its own text.
use Rattle.std.specs.Prelude.{◌≡◌, ◌≢◌, [], ◌∷◌, refl}
use Rattle.c_tokens.specs.declared.token.Sign.{Sign}
use Rattle.c_tokens.specs.declared.token.Sign.TheVariants as s
use Rattle.c_tokens.specs.declared.token.Token.TheVariants as t
use Rattle.c_tokens.specs.Signs.{spelling, sign_at, word_of, is_keyword}
use Rattle.c_tokens.specs.Pieces.{tokens_of, piece, comment, sign, hash, token_of_run}

pub reads_back : (x : Sign) → x ≢ s.Reserved → tokens_of (spelling x) ≡ t.Sign x ∷ []
unfolding tokens_of piece comment sign hash token_of_run sign_at word_of is_keyword
reads_back s.Pragma h = refl
reads_back s.Open h = refl
reads_back s.Close h = refl
reads_back s.OpenSquare h = refl
reads_back s.CloseSquare h = refl
reads_back s.OpenBrace h = refl
reads_back s.CloseBrace h = refl
reads_back s.Comma h = refl
reads_back s.Semicolon h = refl
reads_back s.Assign h = refl
reads_back s.AddAssign h = refl
reads_back s.SubtractAssign h = refl
reads_back s.Plus h = refl
reads_back s.Minus h = refl
reads_back s.Star h = refl
reads_back s.Less h = refl
reads_back s.AtMost h = refl
reads_back s.More h = refl
reads_back s.AtLeast h = refl
reads_back s.Same h = refl
reads_back s.And h = refl
reads_back s.Increment h = refl
reads_back s.Void h = refl
reads_back s.For h = refl
reads_back s.If h = refl
reads_back s.Int64 h = refl
reads_back s.Uint64 h = refl
reads_back s.Min h = refl
reads_back s.Max h = refl
reads_back s.Floord h = refl
reads_back s.Ceild h = refl
reads_back s.Grow h = refl
reads_back s.Index1 h = refl
reads_back s.Index2 h = refl
reads_back s.Data1 h = refl
reads_back s.Data2 h = refl
reads_back s.Data3 h = refl
reads_back s.Reserved h = absurd (h refl)
