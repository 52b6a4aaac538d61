-- Terms that are seen are found, and operands have their forms' values.
use Rattle.std.proofs.Common.{◌≡◌, inl, inr, ℕ, Bool, true, false, cond, ◌&&◌, ◌≤◌, ◌^◌, max, List, [], ◌∷◌, ◌++◌, map, refl, sym, ◌∙◌, ap, subst, arith, ℤ, Some, Ok}
use Rattle.std.specs.Prelude.{bytes_eq}
use Rattle.std.specs.List.{list_any, list_all, AllByRecursion}
use Rattle.c_tree.specs.declared.program.Matrix.{Matrix}
use Rattle.c_meaning.specs.Names.{Name, line}
use Rattle.c_meaning.specs.Weighed.{greatest}
use Rattle.c_meaning.specs.Value.{Sight, cell_seen}
use Rattle.nest_tree.specs.Lists.{IsIn}
use Rattle.nest_tree.specs.Forms.{value}
use Rattle.nest_laws.specs.Weights.{HasSize}
use Rattle.nest_laws.proofs.Weights.{small}
use Rattle.acceptance.specs.Expressions.{Expression, number, name, one, two, three, negated, plus, minus, times, lesser, greater, floor, ceil, index_of}
use Rattle.acceptance.specs.Affine.{is_plain, is_index_array, is_term, is_affine, Mention, mentions, lowers, uppers}
use Rattle.acceptance.specs.Sizes.{Size, weight}
use Rattle.acceptance.specs.Forms.{Vars, form, over_names, read_of, is_among}
use Rattle.acceptance_laws.specs.Formed.{is_in_scope, AreApart, sizes_of, point, KeepSizes, IsFound}
use Rattle.acceptance_laws.specs.Listed.{IsSmall, HasSmallAt}
use Rattle.acceptance_laws.specs.Rows.{IsOperand}
use Rattle.acceptance_laws.specs.Seen.{IsSeen, AreSeen, IsInScope}
use Rattle.acceptance_laws.specs.Kept.{IsKeptBy, HasSmallCells}
use Rattle.acceptance_laws.proofs.Formed.{both, append-none, plain_has, form_value, all-left, all-right}
use Rattle.acceptance_laws.proofs.Rows.{all-both}
use Rattle.acceptance_laws.proofs.Scopes.{ok-is}
use Rattle.acceptance_laws.proofs.Seen.{inner}

abbrev pub IsTerm : List Matrix → Mention → Type 0
IsTerm ms m = (is_index_array ms m.array ≡ true) × (is_plain m.at ≡ true)

-- what is mentioned is a term
pub are_terms : (ms : List Matrix) (e : Expression) → AllByRecursion (IsTerm ms) (mentions ms e)
are_terms ms (number n) = tt
are_terms ms (name x) = tt
are_terms ms (one a e) = by (is_term ms a e) refl (are_terms ms e)
  where
    by : (b : Bool) → is_term ms a e ≡ b → AllByRecursion (IsTerm ms) (mentions ms e) → AllByRecursion (IsTerm ms) (cond b (record { array = a; at = e } ∷ []) (mentions ms e))
    by true h k = (both (is_index_array ms a) (is_plain e) h, tt)
    by false h k = k
are_terms ms (two a e f) = all-both _ (mentions ms e) (mentions ms f) (are_terms ms e) (are_terms ms f)
are_terms ms (three a e f g) = all-both _ (mentions ms e) (mentions ms f ++ mentions ms g) (are_terms ms e) (all-both _ (mentions ms f) (mentions ms g) (are_terms ms f) (are_terms ms g))
are_terms ms (negated e) = are_terms ms e
are_terms ms (plus e f) = all-both _ (mentions ms e) (mentions ms f) (are_terms ms e) (are_terms ms f)
are_terms ms (minus e f) = all-both _ (mentions ms e) (mentions ms f) (are_terms ms e) (are_terms ms f)
are_terms ms (times n e) = are_terms ms e
are_terms ms (lesser e f) = all-both _ (mentions ms e) (mentions ms f) (are_terms ms e) (are_terms ms f)
are_terms ms (greater e f) = all-both _ (mentions ms e) (mentions ms f) (are_terms ms e) (are_terms ms f)
are_terms ms (floor e d) = are_terms ms e
are_terms ms (ceil e d) = are_terms ms e

pub all_in : {A : Type 0} (P : A → Type 0) (xs : List A) → ((x : A) → IsIn x xs → P x) → AllByRecursion P xs
all_in P [] h = tt
all_in P (x ∷ xs) h = (h x (inl refl), all_in P xs (λ y m. h y (inr m)))

-- ## Operands

abbrev pub AllMentions : List Matrix → (Mention → Type 0) → Expression → Type 0
AllMentions ms P e = AllByRecursion P (mentions ms e)

module _ (ms : List Matrix) (P : Mention → Type 0) where
  pub in_lowers : (e : Expression) → AllMentions ms P e → AllByRecursion (AllMentions ms P) (lowers e)
  in_lowers (greater e f) h = all-both _ (lowers e) (lowers f) (in_lowers e (all-left P (mentions ms e) (mentions ms f) h)) (in_lowers f (all-right P (mentions ms e) (mentions ms f) h))
  in_lowers (number n) h = (h, tt)
  in_lowers (name x) h = (h, tt)
  in_lowers (one a e) h = (h, tt)
  in_lowers (two a e f) h = (h, tt)
  in_lowers (three a e f g) h = (h, tt)
  in_lowers (negated e) h = (h, tt)
  in_lowers (plus e f) h = (h, tt)
  in_lowers (minus e f) h = (h, tt)
  in_lowers (times n e) h = (h, tt)
  in_lowers (lesser e f) h = (h, tt)
  in_lowers (floor e d) h = (h, tt)
  in_lowers (ceil e d) h = (h, tt)

  pub in_uppers : (e : Expression) → AllMentions ms P e → AllByRecursion (AllMentions ms P) (uppers e)
  in_uppers (lesser e f) h = all-both _ (uppers e) (uppers f) (in_uppers e (all-left P (mentions ms e) (mentions ms f) h)) (in_uppers f (all-right P (mentions ms e) (mentions ms f) h))
  in_uppers (number n) h = (h, tt)
  in_uppers (name x) h = (h, tt)
  in_uppers (one a e) h = (h, tt)
  in_uppers (two a e f) h = (h, tt)
  in_uppers (three a e f g) h = (h, tt)
  in_uppers (negated e) h = (h, tt)
  in_uppers (plus e f) h = (h, tt)
  in_uppers (minus e f) h = (h, tt)
  in_uppers (times n e) h = (h, tt)
  in_uppers (greater e f) h = (h, tt)
  in_uppers (floor e d) h = (h, tt)
  in_uppers (ceil e d) h = (h, tt)

module _ (front : List Name) where
  pub scoped_lowers : (e : Expression) → IsInScope front e → AllByRecursion (IsInScope front) (lowers e)
  scoped_lowers (greater e f) h = let k = both (is_in_scope front e) (is_in_scope front f) h in all-both _ (lowers e) (lowers f) (scoped_lowers e k.0) (scoped_lowers f k.1)
  scoped_lowers (number n) h = (h, tt)
  scoped_lowers (name x) h = (h, tt)
  scoped_lowers (one a e) h = (h, tt)
  scoped_lowers (two a e f) h = (h, tt)
  scoped_lowers (three a e f g) h = (h, tt)
  scoped_lowers (negated e) h = (h, tt)
  scoped_lowers (plus e f) h = (h, tt)
  scoped_lowers (minus e f) h = (h, tt)
  scoped_lowers (times n e) h = (h, tt)
  scoped_lowers (lesser e f) h = (h, tt)
  scoped_lowers (floor e d) h = (h, tt)
  scoped_lowers (ceil e d) h = (h, tt)

  pub scoped_uppers : (e : Expression) → IsInScope front e → AllByRecursion (IsInScope front) (uppers e)
  scoped_uppers (lesser e f) h = let k = both (is_in_scope front e) (is_in_scope front f) h in all-both _ (uppers e) (uppers f) (scoped_uppers e k.0) (scoped_uppers f k.1)
  scoped_uppers (number n) h = (h, tt)
  scoped_uppers (name x) h = (h, tt)
  scoped_uppers (one a e) h = (h, tt)
  scoped_uppers (two a e f) h = (h, tt)
  scoped_uppers (three a e f g) h = (h, tt)
  scoped_uppers (negated e) h = (h, tt)
  scoped_uppers (plus e f) h = (h, tt)
  scoped_uppers (minus e f) h = (h, tt)
  scoped_uppers (times n e) h = (h, tt)
  scoped_uppers (greater e f) h = (h, tt)
  scoped_uppers (floor e d) h = (h, tt)
  scoped_uppers (ceil e d) h = (h, tt)

module _ (sizes : List Size) where
  pub small_lower : (e : Expression) → AllByRecursion (IsSmall sizes) (lowers e) → weight sizes e ≤ greatest
  small_lower (greater e f) h = let a = small_lower e (all-left _ (lowers e) (lowers f) h) in let b = small_lower f (all-right _ (lowers e) (lowers f) h) in omega (arith, a, b)
  small_lower (number n) h = h.0
  small_lower (name x) h = h.0
  small_lower (one a e) h = h.0
  small_lower (two a e f) h = h.0
  small_lower (three a e f g) h = h.0
  small_lower (negated e) h = h.0
  small_lower (plus e f) h = h.0
  small_lower (minus e f) h = h.0
  small_lower (times n e) h = h.0
  small_lower (lesser e f) h = h.0
  small_lower (floor e d) h = h.0
  small_lower (ceil e d) h = h.0

  pub small_upper : (e : Expression) → AllByRecursion (IsSmall sizes) (uppers e) → weight sizes e ≤ greatest
  small_upper (lesser e f) h = let a = small_upper e (all-left _ (uppers e) (uppers f) h) in let b = small_upper f (all-right _ (uppers e) (uppers f) h) in omega (arith, a, b)
  small_upper (number n) h = h.0
  small_upper (name x) h = h.0
  small_upper (one a e) h = h.0
  small_upper (two a e f) h = h.0
  small_upper (three a e f g) h = h.0
  small_upper (negated e) h = h.0
  small_upper (plus e f) h = h.0
  small_upper (minus e f) h = h.0
  small_upper (times n e) h = h.0
  small_upper (greater e f) h = h.0
  small_upper (floor e d) h = h.0
  small_upper (ceil e d) h = h.0

-- ## What is seen is found

module _ (ms : List Matrix) (sizes : List Size) (s : Sight) (v : Vars) (front behind : List Name) (all : v.names ≡ front ++ behind) (apart : AreApart v.names) (keeps : KeepSizes sizes s front) (cells : HasSmallCells ms s) where
  abbrev IsListed : Mention → Type 0
  IsListed m = is_among v.reads (read_of v.names m) ≡ true

  abbrev IsScopedAt : Mention → Type 0
  IsScopedAt m = is_in_scope front m.at ≡ true

  seen_found : (m : Mention) → IsTerm ms m → IsScopedAt m → HasSmallAt sizes m → IsSeen s m → IsListed m → IsFound sizes s v m
  seen_found m t i k h l =
      let q = plain_has s (over_names v.names) sizes front behind all apart keeps m.at t.1 i in
      let r = subst (λ (p : List ℤ). HasSize (sizes_of sizes) s (index_of m.at) (value p (form m.at (over_names v.names))) (weight sizes m.at)) (append-none (map s.value v.names)) q in
      let w = (small (sizes_of sizes) s (index_of m.at) _ _ r k).0 in
      let d : h.at ≡ value (map s.value v.names) (form m.at (over_names v.names)) = ok-is h.at _ _ h.is w in
      record { small = k; listed = l; cell = h.cell; found = subst (λ (z : ℤ). cell_seen s m.array (line z) ≡ Some h.cell) d h.found; kept = cells m.array (line h.at) h.cell t.0 h.found }

  all_found : (xs : List Mention) → AllByRecursion (IsTerm ms) xs → AllByRecursion IsScopedAt xs → AllByRecursion (HasSmallAt sizes) xs → AllByRecursion (IsSeen s) xs → AllByRecursion IsListed xs → AllByRecursion (IsFound sizes s v) xs
  all_found [] t i k h l = tt
  all_found (x ∷ xs) t i k h l = (seen_found x t.0 i.0 k.0 h.0 l.0, all_found xs t.1 i.1 k.1 h.1 l.1)

  -- the terms of an expression that are seen are found
  pub are_found : (e : Expression) → is_in_scope front e ≡ true → AllByRecursion (HasSmallAt sizes) (mentions ms e) → AreSeen ms s e → AllByRecursion IsListed (mentions ms e) → AllByRecursion (IsFound sizes s v) (mentions ms e)
  are_found e i k h l = all_found (mentions ms e) (are_terms ms e) (inner ms front e i) k h l

  module _ (reads : AreApart v.reads) where
    pub all_operands : (os : List Expression) → list_all (is_affine ms) os ≡ true → AllByRecursion (IsInScope front) os → AllByRecursion (AllMentions ms (IsFound sizes s v)) os → AllByRecursion (IsOperand sizes s v) os
    all_operands [] a i f = tt
    all_operands (o ∷ os) a i f =
        let b = both (is_affine ms o) (list_all (is_affine ms) os) a in
        (form_value ms sizes s v front behind o all apart reads keeps b.0 i.0 f.0, all_operands os b.1 i.1 f.1)
