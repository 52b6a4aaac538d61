-- Texts that are written in pieces.
use Rattle.std.proofs.Common.{◌≡◌, ◌<◌, ◌≤◌, ℕ, ◌+◌, List, [], ◌∷◌, ◌++◌, length, drop, get_or, refl, sym, ◌∙◌, ap, subst, append_assoc, drop-cons, add-one, zero, suc, arith}
use Rattle.std.specs.Prelude.{◌≢◌, Result, Ok, Err, IsErr}
use Rattle.chill_base.specs.declared.faults.Failed.{Failed}
use Rattle.chill_base.specs.Outside.{SinkState, Wrote, WritesAll}
use Rattle.chill_base.proofs.Sinks.{wrote_nothing, wrote_both, rose_later}

abbrev pub Text : Type 0
Text = List ℕ

longer : (xs ys : Text) → xs ≢ [] → (xs ++ ys) ≢ []
longer [] ys h e = h refl
longer (x ∷ xs) ys h e = cc

-- a fault of a sink has no parts
pub any_fault : (s t : SinkState) (xs : Text) (e : Failed) (r : Result (Unit {0}) Failed) → IsErr r → WritesAll s xs t (Err e) → WritesAll s xs t r
any_fault s t xs e (Ok v) h w = cc
any_fault s t xs e (Err f) h w = record { all = tt; failed = w.failed }

-- the first piece was cut short
pub cut : (s t : SinkState) (xs ys : Text) (e : Failed) → WritesAll s xs t (Err e) → WritesAll s (xs ++ ys) t (Err e)
cut s t xs ys e w = record {
  all = tt;
  failed = (w.failed.0, (w.failed.1.0 ++ ys, longer w.failed.1.0 ys w.failed.1.1, ap (λ k. k ++ ys) w.failed.1.2 ∙ append_assoc w.failed.0 w.failed.1.0 ys), w.failed.2, w.failed.3);
}

pub cut_short : (s t : SinkState) (xs ys : Text) (e : Failed) (r : Result (Unit {0}) Failed) → IsErr r → WritesAll s xs t (Err e) → WritesAll s (xs ++ ys) t r
cut_short s t xs ys e r h w = any_fault s t (xs ++ ys) e r h (cut s t xs ys e w)

-- the first piece was written, and then the second
pub onward : (s t u : SinkState) (xs ys : Text) (r : Result (Unit {0}) Failed) → Wrote s xs t → WritesAll t ys u r → WritesAll s (xs ++ ys) u r
onward s t u xs ys (Ok v) w x = record { all = wrote_both s t u xs ys w x.all; failed = tt }
onward s t u xs ys (Err e) w x = record {
  all = tt;
  failed = (
    xs ++ x.failed.0,
    (x.failed.1.0, x.failed.1.1, ap (λ k. xs ++ k) x.failed.1.2 ∙ sym (append_assoc xs x.failed.0 x.failed.1.0)),
    wrote_both s t u xs x.failed.0 w x.failed.2,
    rose_later s.faults t.faults u.faults w.count x.failed.3,
  );
}

pub all_written : (s : SinkState) (u : Unit {0}) → WritesAll s [] s (Ok u)
all_written s u = record { all = wrote_nothing s; failed = tt }

-- three pieces
pub cut_first : (s t : SinkState) (a b c : Text) (e : Failed) (r : Result (Unit {0}) Failed) → IsErr r → WritesAll s a t (Err e) → WritesAll s (a ++ b ++ c) t r
cut_first s t a b c e r h w = cut_short s t (a ++ b) c e r h (cut s t a b e w)

pub cut_second : (s t u : SinkState) (a b c : Text) (e : Failed) (r : Result (Unit {0}) Failed) → IsErr r → Wrote s a t → WritesAll t b u (Err e) → WritesAll s (a ++ b ++ c) u r
cut_second s t u a b c e r h w x = cut_short s u (a ++ b) c e r h (onward s t u a b (Err e) w x)

pub third : (s t u v : SinkState) (a b c : Text) (r : Result (Unit {0}) Failed) → Wrote s a t → Wrote t b u → WritesAll u c v r → WritesAll s (a ++ b ++ c) v r
third s t u v a b c r w x y = onward s u v (a ++ b) c r (wrote_both s t u a b w x) y

-- whatever comes of the rest from the second state on, that comes of the whole from the first
pub record Remains (s : SinkState) (whole : Text) (t : SinkState) (rest : Text) : Type 0 where
  pub whatever : (u : SinkState) (r : Result (Unit {0}) Failed) → WritesAll t rest u r → WritesAll s whole u r

pub begins : (s : SinkState) (whole rest : Text) → whole ≡ rest → Remains s whole s rest
begins s whole rest h = record { whatever = λ u r w. subst (λ k. WritesAll s k u r) (sym h) w }

pub goes_on : (s t u : SinkState) (whole rest piece next : Text) (v : Unit {0}) → Remains s whole t rest → rest ≡ piece ++ next → WritesAll t piece u (Ok v) → Remains s whole u next
goes_on s t u whole rest piece next v h e w = record {
  whatever = λ x r y. h.whatever x r (subst (λ k. WritesAll t k x r) (sym e) (onward t u x piece next r w.all y));
}

pub breaks_off : (s t u : SinkState) (whole rest piece next : Text) (f : Failed) → Remains s whole t rest → rest ≡ piece ++ next → WritesAll t piece u (Err f) → WritesAll s whole u (Err f)
breaks_off s t u whole rest piece next f h e w = h.whatever u (Err f) (subst (λ k. WritesAll t k u (Err f)) (sym e) (cut t u piece next f w))

pub is_done : (s t : SinkState) (whole rest : Text) (v : Unit {0}) → Remains s whole t rest → rest ≡ [] → WritesAll s whole t (Ok v)
is_done s t whole rest v h e = h.whatever t (Ok v) (subst (λ k. WritesAll t k t (Ok v)) (sym e) (all_written t v))

-- the next item of a list, and those behind it
pub drop-next : {A : Type 0} (xs : List A) (i : ℕ) (d : A) → i < length xs → drop i xs ≡ get_or xs i d ∷ drop (i + 1) xs
drop-next xs i d h = drop-cons xs i d h ∙ ap (λ n. get_or xs i d ∷ drop n xs) (sym (add-one i))

drop-nil : {A : Type 0} (i : ℕ) → drop i (let e : List A = [] in e) ≡ []
drop-nil zero = refl
drop-nil (suc i) = refl

pub drop-past : {A : Type 0} (xs : List A) (i : ℕ) → length xs ≤ i → drop i xs ≡ []
drop-past [] i h = drop-nil i
drop-past (x ∷ xs) zero h = absurd (omega (arith, h))
drop-past (x ∷ xs) (suc i) h = drop-past xs i (omega arith)

pub answered : (s t : SinkState) (xs : Text) (r r' : Result (Unit {0}) Failed) → r ≡ r' → WritesAll s xs t r → WritesAll s xs t r'
answered s t xs r r' h w = subst (λ (r : Result (Unit {0}) Failed). WritesAll s xs t r) h w
