-- In a list with longer signs first, the first that fits is the longest.
use Rattle.std.specs.Prelude.{◌≡◌, ℕ, ◌≤◌, Bool, true, false, cond, ◌&&◌, nat_le, List, [], ◌∷◌, length, Option, Some, None, refl, eqb, IfSome, IfNone}
use Rattle.std.proofs.Common.{sym, ◌∙◌, ap, subst, inl, inr, arith, drop, length-append}
use Rattle.std.specs.List.{starts_with}
use Rattle.std.proofs.lemmas.Slice.Eq.{starts_is}
use Rattle.std.proofs.lemmas.Bool.Decides.{Decides-eqb, nat_tests}
use Rattle.c_tokens.specs.declared.token.Sign.{Sign}
use Rattle.c_tokens.specs.Signs.{spelling, signs, Begins, IsOneOf, IsLongestSign, first_of, sign_at}

begins_where : (text : List ℕ) (s : Sign) (b : Bool) → starts_with eqb text (spelling s) ≡ b → ((b ≡ true) → Begins text s) × (Begins text s → b ≡ true)
begins_where text s b e =
    let d = starts_is Decides-eqb text (spelling s) (starts_with eqb text (spelling s)) refl in
    ((λ t. (drop (length (spelling s)) text, d.0 (e ∙ t))), (λ w. sym e ∙ d.1 w.0 w.1))

-- no sign is longer than the one before it, and none is empty
abbrev pub is_falling : ℕ → List Sign → Bool
is_falling most [] = true
is_falling most (s ∷ ss) = (nat_le (length (spelling s)) most && nat_le 1 (length (spelling s))) && is_falling (length (spelling s)) ss

falls : (most : ℕ) (s : Sign) (ss : List Sign) → is_falling most (s ∷ ss) ≡ true → (1 ≤ length (spelling s)) × (length (spelling s) ≤ most) × (is_falling (length (spelling s)) ss ≡ true)
falls most s ss h = grind (arith, nat_tests)

shorter : (most : ℕ) (ss : List Sign) → is_falling most ss ≡ true → (x : Sign) → IsOneOf ss x → (1 ≤ length (spelling x)) × (length (spelling x) ≤ most)
shorter most [] h x m = absurd m
shorter most (s ∷ ss) h x m =
    let f = falls most s ss h in
    elim m [
      | inl q ↦ subst (λ z. (1 ≤ length (spelling z)) × (length (spelling z) ≤ most)) (sym q) (f.0, f.1)
      | inr q ↦ (let r = shorter (length (spelling s)) ss f.2 x q in (r.0, omega (arith, r.1, f.1)))
    ]

-- what is known of a list's answer
abbrev Chosen : List Sign → List ℕ → Sign → Type 0
Chosen ss text s = IsOneOf ss s × Begins text s × ((x : Sign) → IsOneOf ss x → Begins text x → length (spelling x) ≤ length (spelling s))

chosen_at : (most : ℕ) (a : Sign) (ss : List Sign) (text : List ℕ) (s : Sign) → is_falling most (a ∷ ss) ≡ true → (first_of ss text ≡ Some s → Chosen ss text s)
    → (b : Bool) → starts_with eqb text (spelling a) ≡ b → cond b (Some a) (first_of ss text) ≡ Some s → Chosen (a ∷ ss) text s
chosen_at most a ss text s f rest true h k =
    let is : a ≡ s = cc in
    let tail = (falls most a ss f).2 in (
      inl (sym is),
      subst (λ x. Begins text x) is ((begins_where text a true h).0 refl),
      λ x m w. subst (λ z. length (spelling x) ≤ length (spelling z)) is
          (elim m [
            | inl q ↦ subst (λ z. length (spelling z) ≤ length (spelling a)) (sym q) (omega arith)
            | inr q ↦ (shorter (length (spelling a)) ss tail x q).1
          ]),
    )
chosen_at most a ss text s f rest false h k =
    let r = rest k in
    (inr r.0, r.1, λ x m w. elim m [ inl q ↦ absurd (let t = (begins_where text a false h).1 (subst (λ z. Begins text z) q w) in cc) | inr q ↦ r.2 x q w ])

first_is_longest : (most : ℕ) (ss : List Sign) (text : List ℕ) (s : Sign) → is_falling most ss ≡ true → first_of ss text ≡ Some s → Chosen ss text s
first_is_longest most [] text s f e = absurd cc
first_is_longest most (a ∷ ss) text s f e =
    chosen_at most a ss text s f (first_is_longest (length (spelling a)) ss text s (falls most a ss f).2) (starts_with eqb text (spelling a)) refl e

none_at : (a : Sign) (ss : List Sign) (text : List ℕ) (x : Sign) → IsOneOf (a ∷ ss) x → Begins text x → (first_of ss text ≡ None → IsOneOf ss x → ⊥)
    → (b : Bool) → starts_with eqb text (spelling a) ≡ b → cond b (Some a) (first_of ss text) ≡ None → ⊥
none_at a ss text x m w rest true h k = absurd cc
none_at a ss text x m w rest false h k =
    elim m [ inl q ↦ (let t = (begins_where text a false h).1 (subst (λ z. Begins text z) q w) in absurd cc) | inr q ↦ rest k q ]

none_begins : (ss : List Sign) (text : List ℕ) → first_of ss text ≡ None → (x : Sign) → IsOneOf ss x → Begins text x → ⊥
none_begins [] text e x m w = m
none_begins (a ∷ ss) text e x m w = none_at a ss text x m w (λ k q. none_begins ss text k x q w) (starts_with eqb text (spelling a)) refl e

pub longest : (text : List ℕ) (o : Option Sign) → o ≡ sign_at text → IfSome o (λ s. IsLongestSign text s)
unfolding sign_at
longest text None e = tt
longest text (Some s) e =
    let c = first_is_longest 7 signs text s refl (sym e) in record { listed = c.0; begins = c.1; longest = c.2 }

pub no_sign : (text : List ℕ) (o : Option Sign) → o ≡ sign_at text → IfNone o ((s : Sign) → IsOneOf signs s → Begins text s → ⊥)
unfolding sign_at
no_sign text None e = λ s m w. none_begins signs text (sym e) s m w
no_sign text (Some s) e = tt

pub sign_fits : (text : List ℕ) (o : Option Sign) → o ≡ sign_at text → IfSome o (λ s. (1 ≤ length (spelling s)) × (length (spelling s) ≤ length text))
unfolding sign_at
sign_fits text None e = tt
sign_fits text (Some s) e =
    let c = first_is_longest 7 signs text s refl (sym e) in
    ((shorter 7 signs refl s c.0).0, omega (arith, ap length c.1.1, length-append (spelling s) c.1.0))
