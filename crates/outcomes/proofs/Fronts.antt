-- Texts that are written in pieces.
use Rattle.std.proofs.Common.{◌≡◌, ℕ, List, [], ◌∷◌, ◌++◌, refl, sym, ◌∙◌, ap, inl, inr, append_assoc, length, arith, codes, drop, take, ◌-◌, get_or, ℤ, pos, ◌≤◌}
use Rattle.std.specs.Prelude.{◌≢◌, Result, Ok, Err}
use Rattle.std.proofs.lemmas.List.{append-nil, take_all, length-drop}
use Rattle.chill_base.specs.declared.faults.Failed.{Failed}
use Rattle.chill_base.specs.Outside.{SinkState, Wrote, WritesAll, TookFront}
use Rattle.chill_base.proofs.Sinks.{wrote_nothing, wrote_both, rose_later}
use Rattle.outcomes.specs.declared.words.Word.{Word}
use Rattle.outcomes.specs.Words.{text_of, word_text, behind_dots}
use Rattle.std.specs.Fmt.{signed_decimal}

pub taken_or_cut : (s u : SinkState) (xs : List ℕ) (r : Result (Unit {0}) Failed) → WritesAll s xs u r → TookFront s xs u
taken_or_cut s u xs (Ok v) w = record { count = w.all.count; front = (xs, [], sym (append-nil xs), w.all, inl refl) }
taken_or_cut s u xs (Err e) w =
    let front = w.failed.0 in
    let proper = w.failed.1 in
    let both = w.failed.2 in
    record { count = both.count; front = (front, proper.0, proper.2, both, inr w.failed.3) }

not_empty : (rest ys : List ℕ) → rest ≢ [] → rest ++ ys ≢ []
not_empty [] ys h e = h refl
not_empty (x ∷ rest) ys h e = let n : length (x ∷ (rest ++ ys)) ≡ 0 = ap length e in omega (arith, n)

-- the first piece was cut short
pub cut_first : (s t : SinkState) (xs ys : List ℕ) (e : Failed) → WritesAll s xs t (Err e) → WritesAll s (xs ++ ys) t (Err e)
cut_first s t xs ys e w =
    let front = w.failed.0 in
    let proper = w.failed.1 in
    record {
      all = tt;
      failed = (front, (proper.0 ++ ys, not_empty proper.0 ys proper.1, ap (λ k. k ++ ys) proper.2 ∙ append_assoc front proper.0 ys), w.failed.2, w.failed.3);
    }

-- behind the first piece the others were written, or cut short
pub both_written : (s t u : SinkState) (xs ys : List ℕ) (r : Result (Unit {0}) Failed) → Wrote s xs t → WritesAll t ys u r → WritesAll s (xs ++ ys) u r
both_written s t u xs ys (Ok v) w x = record { all = wrote_both s t u xs ys w x.all; failed = tt }
both_written s t u xs ys (Err e) w x =
    let front = x.failed.0 in
    let proper = x.failed.1 in
    record {
      all = tt;
      failed = (
        xs ++ front,
        (proper.0, proper.1, ap (λ k. xs ++ k) proper.2 ∙ sym (append_assoc xs front proper.0)),
        wrote_both s t u xs front w x.failed.2,
        rose_later _ _ _ w.count x.failed.3,
      );
    }

-- the first word and the others
pub text_is : (w : Word) (ws : List Word) → text_of (w ∷ ws) ≡ word_text w ++ text_of ws
text_is w [] = sym (append-nil (word_text w))
text_is w (v ∷ ws) = refl

pub rest_is : {A : Type 0} (xs : List A) → take (length xs - 1) (drop 1 xs) ≡ drop 1 xs
rest_is xs = take_all (length xs - 1) (drop 1 xs) (omega (arith, length-drop 1 xs))

-- a number that is there, and those behind it
pub behind_is : (s u : SinkState) (zs : List ℤ) (r : Result (Unit {0}) Failed) → 1 ≤ length zs
    → WritesAll s (codes "." ++ (signed_decimal (get_or zs 0 (pos 0)) ++ behind_dots (drop 1 zs))) u r → WritesAll s (behind_dots zs) u r
behind_is s u [] r h w = absurd (omega (arith, h))
behind_is s u (z ∷ zs) r h w = w

-- a word that is there, and those behind it
pub words_are : (s u : SinkState) (ws : List Word) (w : Word) (r : Result (Unit {0}) Failed) → 1 ≤ length ws → get_or ws 0 w ≡ w
    → WritesAll s (word_text w ++ text_of (drop 1 ws)) u r → WritesAll s (text_of ws) u r
words_are s u [] w r h e x = absurd (omega (arith, h))
words_are s u (v ∷ ws) w r h e x = rw (text_is v ws) (rw e x)
