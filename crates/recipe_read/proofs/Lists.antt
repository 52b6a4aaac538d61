-- Items that are read one after another.
use Rattle.std.proofs.Common.{◌≡◌, ℕ, zero, suc, ◌<◌, ◌≤◌, true, false, List, [], ◌∷◌, ◌++◌, length, Option, Some, None, Err, refl, sym, ◌∙◌, ap, arith}
use Rattle.chill_base.specs.declared.faults.Stop.{Stop}
use Rattle.chill_base.specs.declared.faults.Stop.TheVariants.{Refused, NoMemory}
use Rattle.recipe_read.specs.declared.cursor.BadLine.{BadLine}
use Rattle.recipe_read.specs.Words.{Text}
use Rattle.recipe_read.specs.Cursor.{Reader, and_then, sees, after, Reads}
use Rattle.recipe_read.specs.Commands.{more, further}

-- what is left to read gives the whole list
pub record Goes {A : Type 0} (item : Reader A) (found : List A) (z : Text) (whole : Option (List A × Text)) : Type 0 where
  pub count : ℕ
  pub enough : length z ≤ count
  pub reads : more item count found z ≡ whole

pub start : {A : Type 0} (item : Reader A) (found : List A) (z : Text) → Goes item found z (further item found z)
unfolding further
start item found z = record { count = length z; enough = omega arith; reads = refl }

more_on : {A : Type 0} (item : Reader A) (n : ℕ) (found : List A) (z : Text) → sees 44 z ≡ true → more item (suc n) found z ≡ and_then (item (after 44 z)) (λ x. more item n (found ++ x ∷ []))
unfolding more
more_on item n found z h = rw h

more_off : {A : Type 0} (item : Reader A) (n : ℕ) (found : List A) (z : Text) → sees 44 z ≡ false → more item n found z ≡ Some (found, z)
unfolding more
more_off item zero found z h = refl
more_off item (suc n) found z h = rw h

-- after a comma and an item
pub goes_on : {A : Type 0} (item : Reader A) (found : List A) (z : Text) (whole : Option (List A × Text)) (x : A) (rest : Text)
    → Goes item found z whole → sees 44 z ≡ true → item (after 44 z) ≡ Some (x, rest) → length rest < length z → Goes item (found ++ x ∷ []) rest whole
goes_on item found z whole x rest g h e lt = by_count item found z whole x rest g.count g.enough g.reads h e lt
  where
    by_count : {A : Type 0} (item : Reader A) (found : List A) (z : Text) (whole : Option (List A × Text)) (x : A) (rest : Text) (n : ℕ)
        → length z ≤ n → more item n found z ≡ whole → sees 44 z ≡ true → item (after 44 z) ≡ Some (x, rest) → length rest < length z → Goes item (found ++ x ∷ []) rest whole
    by_count item found z whole x rest zero enough reads h e lt = absurd (omega arith)
    by_count item found z whole x rest (suc n) enough reads h e lt = record {
      count = n;
      enough = omega arith;
      reads = ap (λ o. and_then o (λ x. more item n (found ++ x ∷ []))) (sym e) ∙ sym (more_on item n found z h) ∙ reads;
    }

-- after a comma without an item
pub goes_wrong : {A : Type 0} (item : Reader A) (found : List A) (z : Text) (whole : Option (List A × Text))
    → Goes item found z whole → sees 44 z ≡ true → item (after 44 z) ≡ None → 0 < length z → whole ≡ None
goes_wrong item found z whole g h e lt = by_count item found z whole g.count g.enough g.reads h e lt
  where
    by_count : {A : Type 0} (item : Reader A) (found : List A) (z : Text) (whole : Option (List A × Text)) (n : ℕ)
        → length z ≤ n → more item n found z ≡ whole → sees 44 z ≡ true → item (after 44 z) ≡ None → 0 < length z → whole ≡ None
    by_count item found z whole zero enough reads h e lt = absurd (omega arith)
    by_count item found z whole (suc n) enough reads h e lt = sym reads ∙ more_on item n found z h ∙ ap (λ o. and_then o (λ x. more item n (found ++ x ∷ []))) e

-- where no comma comes next
pub goes_out : {A : Type 0} (item : Reader A) (found : List A) (z : Text) (whole : Option (List A × Text)) → Goes item found z whole → sees 44 z ≡ false → whole ≡ Some (found, z)
goes_out item found z whole g h = sym g.reads ∙ more_off item g.count found z h

-- the same, where a function returns what the item's reader did
pub fails : {A : Type 0} (item : Reader A) (found : List A) (z here rest : Text) (whole : Option (List A × Text)) (e : Stop BadLine)
    → Goes item found z whole → sees 44 z ≡ true → here ≡ after 44 z → 0 < length z → Reads (item here) (Err e) rest → Reads whole (Err e) rest
fails item found z here rest whole (Refused x) g h is some none = goes_wrong item found z whole g h (ap item (sym is) ∙ none) some
fails item found z here rest whole NoMemory g h is some none = tt
