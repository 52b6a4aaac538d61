use Rattle.std.proofs.Common.{ap, ap₂, codes, true, false, ◌≡◌, ◌==◌, ◌&&◌, ◌∙◌, refl, List, [], ◌∷◌, ℕ, Some, None, Option, Bor, option_map, unwrap_or, is_some}
use Rattle.std.specs.Str.{bytes_eq}
use Rattle.clap.specs.Words.{Rule, Shape, Text, first_of, matches_of, takes, is_simple, built}
use Rattle.clap.specs.Walk.{Walk, Held, idle, value, walk, walked, to_positional, arg_by_index, nothing_held, finished}
use Rattle.clap.specs.Takes.{walk_passes, step_passes, turn_passes}
use Rattle.clap.proofs.WalkLemmas.{both}
use Rattle.clap.specs.Lexer.{long_of, short_of}
use Rattle.clap.proofs.OnLiterals.{clap_on_literals}
use Rattle.std.proofs.lemmas.Bool.{not-true, false≢true}
use Rattle.command_words.specs.Words.{three_words, is_word, are_words}

pub simple : is_simple three_words ≡ true
unfolding clap_on_literals
simple = refl

-- what clap's lexer says of a word that isn't one of its flags
pub record IsPlain (w : Text) : Type 0 where
  pub dashes : bytes_eq w (45 ∷ 45 ∷ []) ≡ false
  pub long : long_of w ≡ None
  pub short : short_of w ≡ None

abbrev pub idle_at : Held → ℕ → Walk
idle_at h p = record { held = h; waiting = idle; position = p; is_trailing = false; stopped = None }

pub one_word : (c : List Rule) (h : Held) (p : ℕ) (w : Text) → IsPlain w → walked c [] (idle_at h p) w ≡ to_positional c (arg_by_index c p) w (idle_at h p) h
unfolding walked
one_word c h p w plain = rw (plain.dashes) (rw (plain.long) (rw (plain.short) refl))

pub one_turn : (s : Shape) (h : Held) (p : ℕ) (w : Text) → IsPlain w → turn_passes s [] (idle_at h p) w ≡ step_passes s p h value
one_turn s h p w plain = rw (plain.dashes) (rw (plain.long) (rw (plain.short) refl))

pub passes_one : (s : Shape) (h : Held) (p : ℕ) (w : Text) (rest : List Text) → IsPlain w → walk_passes s [] (idle_at h p) (w ∷ rest) ≡ (step_passes s p h value && walk_passes s [] (to_positional s.rules (arg_by_index s.rules p) w (idle_at h p) h) rest)
unfolding walk_passes
passes_one s h p w rest plain = ap₂ (λ x y. x && y) (one_turn s h p w plain) (ap (λ k. walk_passes s [] k rest) (one_word s.rules h p w plain))

abbrev shape : Shape
shape = (built three_words).top

-- the walk after one word, two and three
abbrev one : Text → Walk
one a = to_positional shape.rules (arg_by_index shape.rules 1) a (idle_at nothing_held 1) nothing_held

abbrev two : Text → Text → Walk
two a b = to_positional shape.rules (arg_by_index shape.rules 2) b (one a) (one a).held

abbrev end : Text → Text → Text → Walk
end a b c = to_positional shape.rules (arg_by_index shape.rules 3) c (two a b) (two a b).held

walk_is : (a b c : Text) → IsPlain a → IsPlain b → IsPlain c → walk shape.rules [] nothing_held (a ∷ b ∷ c ∷ []) ≡ end a b c
walk_is a b c pa pb pc = ap (λ w. walked shape.rules [] (walked shape.rules [] w b) c) (one_word shape.rules nothing_held 1 a pa)
    ∙ ap (λ w. walked shape.rules [] w c) (one_word shape.rules (one a).held 2 b pb) ∙ one_word shape.rules (two a b).held 3 c pc

pub verb_is : (a b c : Text) → IsPlain a → IsPlain b → IsPlain c → first_of (codes "verb") (matches_of three_words (a ∷ b ∷ c ∷ [])) ≡ Some a
verb_is a b c pa pb pc = ap (λ w. first_of (codes "verb") (finished shape.rules w.held)) (walk_is a b c pa pb pc)

pub first_is : (a b c : Text) → IsPlain a → IsPlain b → IsPlain c → first_of (codes "first") (matches_of three_words (a ∷ b ∷ c ∷ [])) ≡ Some b
first_is a b c pa pb pc = ap (λ w. first_of (codes "first") (finished shape.rules w.held)) (walk_is a b c pa pb pc)

pub second_is : (a b c : Text) → IsPlain a → IsPlain b → IsPlain c → first_of (codes "second") (matches_of three_words (a ∷ b ∷ c ∷ [])) ≡ Some c
second_is a b c pa pb pc = ap (λ w. first_of (codes "second") (finished shape.rules w.held)) (walk_is a b c pa pb pc)

passes_three : (a b c : Text) → IsPlain a → IsPlain b → IsPlain c → walk_passes shape [] (idle_at nothing_held 1) (a ∷ b ∷ c ∷ []) ≡ true
unfolding walk_passes
passes_three a b c pa pb pc = passes_one shape nothing_held 1 a (b ∷ c ∷ []) pa ∙ passes_one shape (one a).held 2 b (c ∷ []) pb ∙ passes_one shape (two a b).held 3 c [] pc

pub taken : (a b c : Text) → IsPlain a → IsPlain b → IsPlain c → takes three_words (a ∷ b ∷ c ∷ []) ≡ true
taken a b c pa pb pc = rw (passes_three a b c pa pb pc) (rw (walk_is a b c pa pb pc) refl)

pub first_byte : (x : ℕ) (xs : Text) → (x == 45) ≡ false → IsPlain (x ∷ xs)
first_byte x xs h = record { dashes = rw h refl; long = rw h refl; short = rw h refl }

pub plain : (w : Text) → is_word w ≡ true → IsPlain w
plain [] h = absurd (false≢true h)
plain (x ∷ xs) h = first_byte x xs (not-true _ h)

-- three plain words
pub record IsLine (ws : List Text) : Type 0 where
  pub a : Text
  pub b : Text
  pub c : Text
  pub is : ws ≡ a ∷ b ∷ c ∷ []
  pub first : IsPlain a
  pub second : IsPlain b
  pub third : IsPlain c

pub line : (ws : List Text) → are_words ws ≡ true → IsLine ws
line [] h = absurd (false≢true h)
line (a ∷ []) h = absurd (false≢true h)
line (a ∷ b ∷ []) h = absurd (false≢true h)
line (a ∷ b ∷ c ∷ []) h = record {
  a = a;
  b = b;
  c = c;
  is = refl;
  first = plain a (both _ _ h).0;
  second = plain b (both _ _ (both _ _ h).1).0;
  third = plain c (both _ _ (both _ _ h).1).1;
}
line (a ∷ b ∷ c ∷ d ∷ rest) h = absurd (false≢true h)

pub text_of : (r : Option (Bor Text)) (d : Bor Text) (x : Text) → option_map (λ s. s.now) r ≡ Some x → (unwrap_or r d).now ≡ x
text_of (Some s) d x h = ap (λ o. unwrap_or o x) h
text_of None d x h = absurd (false≢true (ap is_some h))
