-- What a text says, byte by byte.
use Rattle.std.proofs.Common.{◌≡◌, ◌≢◌, ℕ, zero, suc, ◌+◌, ◌<◌, ◌≤◌, ◌*◌, Bool, true, false, List, [], ◌∷◌, ◌++◌, length, drop, nat_eq, Option, Some, None, Ok, Err, if◌then◌else◌, refl, sym, ap, ◌∙◌, append-nil, append_assoc, length-append, arith, pos, ℤ}
use Rattle.std.specs.Prelude.{slice_index_or, nat_le}
use Rattle.std.specs.Option.{option_to_list, option_map}
use Rattle.c_tree.specs.declared.program.Array.{Array}
use Rattle.c_meaning.specs.Names.{Name}
use Rattle.csr_data.specs.declared.fault.ValuesFault.{ValuesFault}
use Rattle.csr_data.specs.declared.fault.ValuesFault.TheVariants.{Line, Count}
use Rattle.csr_data.specs.declared.values.Parameter.{Parameter}
use Rattle.csr_data.specs.Text.{cut, words, digit, option_then, number, numbers, line, behind_name, front}
use Rattle.csr_data.specs.Extents.{first_negative, cells_wanted}
use Rattle.csr_data.specs.Signature.{extents_of}
use Rattle.csr_data.specs.Lines.{Due, parameter, array, name_of, is_parameter, Given, Said, after, limited, counted, judged, line_or, says_from, shape_of_due, table_of}
use Rattle.csr_data.specs.Reading.{inside, rest, closed}

pub differ : (a b : ℕ) → a ≢ b → nat_eq a b ≡ false
differ a b h = by (nat_eq a b) refl
  where
    by : (t : Bool) → nat_eq a b ≡ t → t ≡ false
    by false e = refl
    by true e = absurd (h (grind (arith, e)))

same : (b : ℕ) → nat_eq b b ≡ true
same b = grind arith

-- a byte that ends no line
cut_more : (b : ℕ) (bs : List ℕ) → nat_eq b 10 ≡ false → cut 10 (b ∷ bs) ≡ (b ∷ (cut 10 bs).0, (cut 10 bs).1)
cut_more b bs h = ap (λ (t : Bool). if t then ([], bs) else (b ∷ (cut 10 bs).0, (cut 10 bs).1)) h

module _ (k : ℕ) (d : Due) (ds : List Due) (g : Given) where
  -- what a line says by what is left of it, and what stands behind it
  abbrev by_line : Bool → (m found : ℕ) (vs : List ℕ) → Option ℕ → List ℕ × List ℕ → Said
  by_line headed m found vs t p = line_or k (front headed m (name_of d) t p.0) (λ ns. after (judged k d g found vs ns) (λ g'. says_from (suc k) ds g' p.1))

  abbrev numbers_of : (found : ℕ) (vs : List ℕ) → Option (List ℕ) → List ℕ → Said
  numbers_of found vs o behind = line_or k o (λ ns. after (judged k d g found vs ns) (λ g'. says_from (suc k) ds g' behind))

  module _ (m found : ℕ) (vs : List ℕ) (t : Option ℕ) (b : ℕ) (more : List ℕ) (no_end : nat_eq b 10 ≡ false) where
    cut_here : (headed : Bool) → inside headed m k found vs t (d ∷ ds) g (b ∷ more) ≡ by_line headed m found vs t (b ∷ (cut 10 more).0, (cut 10 more).1)
    cut_here headed = ap (by_line headed m found vs t) (cut_more b more no_end)

    abbrev name_left : List ℕ → Said
    name_left l = numbers_of found vs (option_then (behind_name l (b ∷ (cut 10 more).0)) (λ rest. line None rest)) (cut 10 more).1

    -- the next byte of the name
    pub takes_name : (cs : List ℕ) → drop m (name_of d) ≡ b ∷ cs → drop (suc m) (name_of d) ≡ cs → inside false m k found vs t (d ∷ ds) g (b ∷ more) ≡ inside false (suc m) k found vs t (d ∷ ds) g more
    takes_name cs e f =
        cut_here false ∙ ap name_left e
        ∙ ap (λ (y : Bool). numbers_of found vs (option_then (if y then behind_name cs (cut 10 more).0 else None) (λ rest. line None rest)) (cut 10 more).1) (same b)
        ∙ ap (λ (l : List ℕ). numbers_of found vs (option_then (behind_name l (cut 10 more).0) (λ rest. line None rest)) (cut 10 more).1) (sym f)

    pub other_name : (c : ℕ) (cs : List ℕ) → drop m (name_of d) ≡ c ∷ cs → nat_eq b c ≡ false → inside false m k found vs t (d ∷ ds) g (b ∷ more) ≡ Err (Line k)
    other_name c cs e f =
        cut_here false ∙ ap name_left e
        ∙ ap (λ (y : Bool). numbers_of found vs (option_then (if y then behind_name cs (cut 10 more).0 else None) (λ rest. line None rest)) (cut 10 more).1) f

    pub no_blank : drop m (name_of d) ≡ [] → nat_eq b 32 ≡ false → inside false m k found vs t (d ∷ ds) g (b ∷ more) ≡ Err (Line k)
    no_blank e f =
        cut_here false ∙ ap name_left e
        ∙ ap (λ (y : Bool). numbers_of found vs (option_then (if y then Some (cut 10 more).0 else None) (λ rest. line None rest)) (cut 10 more).1) f

    -- a digit
    abbrev digits_left : List ℕ × List (List ℕ) → Said
    digits_left w = numbers_of found vs (option_then (number t w.0) (λ u. option_map (λ ns. option_to_list u ++ ns) (numbers w.1))) (cut 10 more).1

    abbrev digit_left : Option ℕ → Said
    digit_left v = numbers_of found vs (option_then (option_then v (λ v. number (Some v) (words (cut 10 more).0).0)) (λ u. option_map (λ ns. option_to_list u ++ ns) (numbers (words (cut 10 more).0).1))) (cut 10 more).1

    is_digit : nat_eq b 32 ≡ false → inside true m k found vs t (d ∷ ds) g (b ∷ more) ≡ digit_left (digit t b)
    is_digit f =
        cut_here true
        ∙ ap (λ (y : Bool). digits_left (if y then ([], (words (cut 10 more).0).0 ∷ (words (cut 10 more).0).1) else (b ∷ (words (cut 10 more).0).0, (words (cut 10 more).0).1))) f

    pub takes_digit : (v : ℕ) → nat_eq b 32 ≡ false → digit t b ≡ Some v → inside true m k found vs t (d ∷ ds) g (b ∷ more) ≡ inside true m k found vs (Some v) (d ∷ ds) g more
    takes_digit v f e = is_digit f ∙ ap digit_left e

    pub no_digit : nat_eq b 32 ≡ false → digit t b ≡ None → inside true m k found vs t (d ∷ ds) g (b ∷ more) ≡ Err (Line k)
    no_digit f e = is_digit f ∙ ap digit_left e

  -- the blank behind the name
  pub takes_blank : (m found : ℕ) (vs : List ℕ) (t : Option ℕ) (more : List ℕ) → drop m (name_of d) ≡ [] → t ≡ None → inside false m k found vs t (d ∷ ds) g (32 ∷ more) ≡ inside true m k found vs t (d ∷ ds) g more
  takes_blank m found vs t more e f =
      ap (λ (l : List ℕ). numbers_of found vs (option_then (behind_name l (32 ∷ (cut 10 more).0)) (λ rest. line None rest)) (cut 10 more).1) e
      ∙ ap (λ (u : Option ℕ). numbers_of found vs (line u (cut 10 more).0) (cut 10 more).1) (sym f)

  -- a blank behind a number, or behind none
  line_map : (o : Option (List ℕ)) (t : Option ℕ) (F : List ℕ → Said) → line_or k (option_map (λ ns. option_to_list t ++ ns) o) F ≡ line_or k o (λ ns. F (option_to_list t ++ ns))
  line_map None t F = refl
  line_map (Some ns) t F = refl

  pub takes_number : (m found found' : ℕ) (vs vs' : List ℕ) (t : Option ℕ) (more : List ℕ) → ((ns : List ℕ) → judged k d g found vs (option_to_list t ++ ns) ≡ judged k d g found' vs' ns)
      → inside true m k found vs t (d ∷ ds) g (32 ∷ more) ≡ inside true m k found' vs' None (d ∷ ds) g more
  takes_number m found found' vs vs' t more counts =
      line_map (line None (cut 10 more).0) t (λ ns. after (judged k d g found vs ns) (λ g'. says_from (suc k) ds g' (cut 10 more).1))
      ∙ (λ i. line_or k (line None (cut 10 more).0) (λ ns. after (counts ns i) (λ g'. says_from (suc k) ds g' (cut 10 more).1)))

  -- ---- the end of the line
  pub ends_name : (m found : ℕ) (vs : List ℕ) (t : Option ℕ) (more : List ℕ) → drop m (name_of d) ≡ [] → t ≡ None → closed false m k found vs t d ds g more ≡ closed true m k found vs t d ds g more
  ends_name m found vs t more e f =
      ap (λ (l : List ℕ). numbers_of found vs (option_then (behind_name l []) (λ rest. line None rest)) more) e
      ∙ ap (λ (u : Option ℕ). numbers_of found vs (line u []) more) (sym f)

  pub no_name : (m found : ℕ) (vs : List ℕ) (t : Option ℕ) (more : List ℕ) (c : ℕ) (cs : List ℕ) → drop m (name_of d) ≡ c ∷ cs → closed false m k found vs t d ds g more ≡ Err (Line k)
  no_name m found vs t more c cs e = ap (λ (l : List ℕ). numbers_of found vs (option_then (behind_name l []) (λ rest. line None rest)) more) e

  pub ends_number : (m found found' : ℕ) (vs vs' : List ℕ) (t : Option ℕ) (more : List ℕ) → ((ns : List ℕ) → judged k d g found vs (option_to_list t ++ ns) ≡ judged k d g found' vs' ns)
      → closed true m k found vs t d ds g more ≡ closed true m k found' vs' None d ds g more
  ends_number m found found' vs vs' t more counts = ap (λ (s : Said). after s (λ g'. says_from (suc k) ds g' more)) (counts [])

-- ---- a parameter's second number
some_number : (v : ℕ) (w : List ℕ) (o : Option ℕ) → number (Some v) w ≡ Some o → (u : ℕ) × (o ≡ Some u)
some_number v [] o h = (v, cc)
some_number v (b ∷ bs) o h = by (digit (Some v) b) (λ u k. some_number u bs o k) h
  where
    by : (q : Option ℕ) → ((u : ℕ) → number (Some u) bs ≡ Some o → (u : ℕ) × (o ≡ Some u)) → option_then q (λ v. number (Some v) bs) ≡ Some o → (u : ℕ) × (o ≡ Some u)
    by None more h = absurd cc
    by (Some u) more h = more u h

too_many : (found n : ℕ) → 1 ≤ found → nat_eq (found + suc n) 1 ≡ false
too_many found n h = differ (found + suc n) 1 (λ e. omega (arith, e, h))

module _ (k : ℕ) (x : Name) (ds : List Due) (g : Given) (m found : ℕ) (vs : List ℕ) (t : Option ℕ) (b : ℕ) (more : List ℕ) (no_end : nat_eq b 10 ≡ false) (no_space : nat_eq b 32 ≡ false) (some : 1 ≤ found) where
  abbrev first : List ℕ
  first = (words (cut 10 more).0).0

  abbrev others : Option (List ℕ)
  others = numbers (words (cut 10 more).0).1

  abbrev ending : Option (Option ℕ) → Option (List ℕ) → Said
  ending o q = numbers_of k (parameter x) ds g found vs (option_then o (λ u. option_map (λ ns. option_to_list u ++ ns) q)) (cut 10 more).1

  refused_with : (u : ℕ) (q : Option (List ℕ)) → ending (Some (Some u)) q ≡ Err (Line k)
  refused_with u None = refl
  refused_with u (Some ns) = ap (λ (y : Bool). after (if y then limited x g (slice_index_or (vs ++ u ∷ ns) 0 0) else Err (Line k)) (λ g'. says_from (suc k) ds g' (cut 10 more).1)) (too_many found (length ns) some)

  refused_after : (v : ℕ) (o : Option (Option ℕ)) → number (Some v) first ≡ o → ending o others ≡ Err (Line k)
  refused_after v None h = refl
  refused_after v (Some w) h = let u = some_number v first w h in ap (λ (w : Option ℕ). ending (Some w) others) u.1 ∙ refused_with u.0 others

  refused_digit : (o : Option ℕ) → digit_left k (parameter x) ds g m found vs t b more no_end o ≡ Err (Line k)
  refused_digit None = refl
  refused_digit (Some v) = refused_after v (number (Some v) first) refl

  pub second_number : inside true m k found vs t (parameter x ∷ ds) g (b ∷ more) ≡ Err (Line k)
  second_number = is_digit k (parameter x) ds g m found vs t b more no_end no_space ∙ refused_digit (digit t b)

-- ---- one number more
one_more : (found n : ℕ) → found + suc n ≡ found + 1 + n
one_more found n = omega arith

joined : (vs : List ℕ) (v : ℕ) (vs' ns : List ℕ) → vs' ≡ vs ++ v ∷ [] → vs ++ v ∷ ns ≡ vs' ++ ns
joined vs v vs' ns e = sym (append_assoc vs (v ∷ []) ns) ∙ ap (λ (l : List ℕ). l ++ ns) (sym e)

stored_parameter : (k : ℕ) (x : Name) (g : Given) (found v : ℕ) (vs vs' ns : List ℕ) → (found < 1 → vs' ≡ vs ++ v ∷ []) → judged k (parameter x) g found vs (v ∷ ns) ≡ judged k (parameter x) g (found + 1) vs' ns
stored_parameter k x g zero v vs vs' ns h =
    ap (λ (n : ℕ). if nat_eq n 1 then limited x g (slice_index_or (vs ++ v ∷ ns) 0 0) else Err (Line k)) (one_more 0 (length ns))
    ∙ ap (λ (l : List ℕ). if nat_eq (0 + 1 + length ns) 1 then limited x g (slice_index_or l 0 0) else Err (Line k)) (joined vs v vs' ns (h (omega arith)))
stored_parameter k x g (suc n) v vs vs' ns h =
    ap (λ (y : Bool). if y then limited x g (slice_index_or (vs ++ v ∷ ns) 0 0) else Err (Line k)) (too_many (suc n) (length ns) (omega arith))
    ∙ sym (ap (λ (y : Bool). if y then limited x g (slice_index_or (vs' ++ ns) 0 0) else Err (Line k)) (differ (suc n + 1 + length ns) 1 (λ e. omega (arith, e))))

past_wanted : (a : Array) (g : Given) (es : List ℤ) (n : ℕ) (l l' : List ℕ) → nat_eq n (cells_wanted es) ≡ false → counted a g es None n l ≡ counted a g es None n l'
past_wanted a g es n l l' e = out l ∙ sym (out l')
  where
    out : (l : List ℕ) → counted a g es None n l ≡ Err (Count a.name (cells_wanted es) n)
    out l = ap (λ (y : Bool). if y then Ok (record g { arrays = g.arrays ++ table_of a es l ∷ [] }) else Err (Count a.name (cells_wanted es) n)) e

stored_array : (a : Array) (g : Given) (es : List ℤ) (o : Option ℤ) (found v : ℕ) (vs vs' ns : List ℕ) → first_negative es ≡ o → (first_negative es ≡ None → found < cells_wanted es → vs' ≡ vs ++ v ∷ [])
    → counted a g es o (found + length (v ∷ ns)) (vs ++ v ∷ ns) ≡ counted a g es o (found + 1 + length ns) (vs' ++ ns)
stored_array a g es (Some e) found v vs vs' ns is h = refl
stored_array a g es None found v vs vs' ns is h = ap (λ (n : ℕ). counted a g es None n (vs ++ v ∷ ns)) (one_more found (length ns)) ∙ by (nat_le (suc found) (cells_wanted es)) refl
  where
    by : (y : Bool) → nat_le (suc found) (cells_wanted es) ≡ y → counted a g es None (found + 1 + length ns) (vs ++ v ∷ ns) ≡ counted a g es None (found + 1 + length ns) (vs' ++ ns)
    by true e = (let lt : found < cells_wanted es = grind (arith, e) in ap (counted a g es None (found + 1 + length ns)) (joined vs v vs' ns (h is lt)))
    by false e =
        let past : cells_wanted es ≤ found = grind (arith, e) in
        past_wanted a g es (found + 1 + length ns) (vs ++ v ∷ ns) (vs' ++ ns) (differ (found + 1 + length ns) (cells_wanted es) (λ q. omega (arith, q, past)))

pub stored : (k : ℕ) (d : Due) (g : Given) (es : List ℤ) (found v : ℕ) (vs vs' : List ℕ) → es ≡ shape_of_due d g.params → (first_negative es ≡ None → found < cells_wanted es → vs' ≡ vs ++ v ∷ [])
    → (ns : List ℕ) → judged k d g found vs (v ∷ ns) ≡ judged k d g (found + 1) vs' ns
stored k (parameter x) g es found v vs vs' e h ns =
    let none : first_negative es ≡ None = ap first_negative e in
    let one : cells_wanted es ≡ 1 = ap cells_wanted e in
    stored_parameter k x g found v vs vs' ns (λ lt. h none (omega (arith, lt, one)))
stored k (array a) g es found v vs vs' e h ns =
    stored_array a g (extents_of a g.params) (first_negative (extents_of a g.params)) found v vs vs' ns refl (λ n lt. h (ap first_negative e ∙ n) (let w = ap cells_wanted e in omega (arith, lt, w)))
