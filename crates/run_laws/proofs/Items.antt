-- The statements and declarations of an inspector can be run, one after another.
use Rattle.std.proofs.Common.{◌≡◌, ℕ, suc, ◌+◌, ◌<◌, ◌≤◌, Bool, true, false, not, ◌&&◌, nat_le, List, [], ◌∷◌, ◌++◌, map, length, Option, Some, None, Ok, refl, sym, ap, ◌∙◌, subst, arith}
use Rattle.std.specs.List.{list_all}
use Rattle.c_tokens.specs.declared.token.Token.{Token}
use Rattle.c_tree.specs.declared.index.Index.{Index}
use Rattle.c_tree.specs.declared.program.Kind.{Kind}
use Rattle.c_tree.specs.declared.statement.Stmt.{Stmt}
use Rattle.c_tree.specs.declared.statement.Stmt.TheVariants.{For, If, Assign, Put, Declare, Grow}
use Rattle.c_grammar.specs.declared.pieces.Section.{Section}
use Rattle.c_grammar.specs.Index.{Word, cell_of}
use Rattle.c_grammar.specs.Statement.{IsStatement, IsBody}
use Rattle.c_grammar.specs.Statement as rule
use Rattle.c_grammar.specs.Program.{inspector, loops, guards, IsDeclaration, IsItem, AreItems}
use Rattle.c_grammar.specs.Program as whole
use Rattle.c_judge.specs.declared.limits.Counted.TheVariants.{All}
use Rattle.c_judge.specs.declared.names.Part.TheVariants.{Inspector}
use Rattle.c_judge.specs.declared.scope.Meaning.{Meaning}
use Rattle.c_judge.specs.declared.scope.Meaning.TheVariants as meaning
use Rattle.c_judge.specs.declared.uses.Rule.TheVariants.{InScope}
use Rattle.c_judge.specs.Names.{Name, Names, find, enter, Fault}
use Rattle.c_judge.specs.Limits.{count_in, count_of}
use Rattle.c_judge.specs.Outcomes.{Outcome, one_by_one}
use Rattle.c_judge.specs.Uses.{index_fault, indexes_fault}
use Rattle.c_judge.specs.Statements.{judged, judged_all, new_fault, declare_fault}
use Rattle.c_judge.specs.Fixed.{Changes, changes, fixed_fault}
use Rattle.c_judge.proofs.StatementsAt.{judged_declare}
use Rattle.c_meaning.specs.Scope.{Scope, fits}
use Rattle.c_meaning.specs.Run.{part, widths}
use Rattle.c_walk.specs.Ready.{is_ready, has_array, most_children}
use Rattle.c_run.specs.Ready.{Declaration, declaration_of, declared_in, declaration_fits, are_inspectable, scope_behind, with_array}
use Rattle.c_run.proofs.Declarations.{none-For, none-If, none-Assign, none-Put, some-Declare, none-Grow}
use Rattle.csr_data.proofs.Fits.{none_first, none_second}
use Rattle.run_laws.proofs.Choices.{both, no_fault, then_outcome, went_on}
use Rattle.run_laws.proofs.Agreement.{Means, Agrees, Keeps, agrees_behind, found_behind}
use Rattle.run_laws.proofs.Indexes.{index_fits}
use Rattle.run_laws.proofs.Widths.{all_narrow}
use Rattle.run_laws.proofs.Stays.{stays}
use Rattle.run_laws.proofs.Statements.{AreNarrow, statement_ready}

-- ---- what is no declaration
no_declaration : {section : Section} {b l g : ℕ} {ts after : List Token} {x : Stmt} → IsStatement section b l g ts x after → declaration_of x ≡ None
no_declaration (rule.loop {v = v} {low = low} {high = high} {body = body} i j k) = none-For (For v low high body) v low high body refl
no_declaration (rule.guard {tests = tests} {body = body} h k) = none-If (If tests body) tests body refl
no_declaration (rule.assignment {x = x} {subscripts = s} {h = how} {value = value} p q other d) = none-Assign (Assign (cell_of x s) how value) (cell_of x s) how value refl
no_declaration (rule.index_assignment {x = x} {subscripts = s} {value = value} p grows i) = none-Put (Put (cell_of x s) value) (cell_of x s) value refl
no_declaration (rule.growth {x = x} {by = by} here i) = none-Grow (Grow x by) x by refl

-- ---- declarations
few_inner : {b : ℕ} {ts after : List Token} {x : Word} {k : Kind} {inner : List Index} → IsDeclaration b ts x k inner after → nat_le (length inner) 2 ≡ true
few_inner whole.index1 = refl
few_inner (whole.index2 i) = refl
few_inner whole.data1 = refl
few_inner (whole.data2 i) = refl
few_inner (whole.data3 i j) = refl

inner_fits : {b : ℕ} {ts after : List Token} {x : Word} {k : Kind} {inner : List Index} → IsDeclaration b ts x k inner after → (names : Names) (c : Scope) → Agrees names c
    → indexes_fault InScope names inner ≡ None → list_all (λ e. fits e c) inner ≡ true
inner_fits whole.index1 names c agrees h = refl
inner_fits (whole.index2 {i = i} d) names c agrees h = both (fits i c) true (index_fits names c agrees d (none_first (index_fault InScope names i) None h)) refl
inner_fits whole.data1 names c agrees h = refl
inner_fits (whole.data2 {i = i} d) names c agrees h = both (fits i c) true (index_fits names c agrees d (none_first (index_fault InScope names i) None h)) refl
inner_fits (whole.data3 {i = i} {j = j} d e) names c agrees h =
    let rest = none_second (index_fault InScope names i) (indexes_fault InScope names (j ∷ [])) h in
    both (fits i c) (fits j c && true) (index_fits names c agrees d (none_first (index_fault InScope names i) (indexes_fault InScope names (j ∷ [])) h))
    (both (fits j c) true (index_fits names c agrees e (none_first (index_fault InScope names j) None rest)) refl)

is_new : (x : Name) (m : Option Meaning) → new_fault x m ≡ None → m ≡ None
is_new x None h = refl
is_new x (Some m) h = cc

no_array : (names : Names) (c : Scope) (x : Name) → Agrees names c → find names x ≡ None → not (has_array x c) ≡ true
no_array names c x agrees h = ap not (subst (Means c x) h (agrees x))

abbrev fine : Names → Outcome
fine n = Ok n

same_names : (n m : Names) → fine n ≡ fine m → m ≡ n
same_names n m h = cc

-- ---- items
abbrev Grows : Names → Names → Type 0
Grows names more = (x : Name) (m : Meaning) → find names x ≡ Some m → find more x ≡ Some m

item_grows : {b : ℕ} {gs hs : List Word} {ts after : List Token} {x : Stmt} → IsItem b gs ts x hs after → (names left : Names) → judged Inspector x names ≡ Ok left → Grows names left
item_grows (whole.statement s) names left h y m is = ap (λ (n : Names). find n y) (stays Inspector s names left h) ∙ is
item_grows (whole.declaration {x = x} {k = k} {inner = inner} d) names left h y m is =
    let o = then_outcome (declare_fault names x inner) (Ok (enter names x (meaning.Array k (length inner + 1) true))) left (sym (judged_declare Inspector x k inner names) ∙ h) in
    ap (λ (n : Names). find n y) (same_names (enter names x (meaning.Array k (length inner + 1) true)) left o) ∙ found_behind names x y (meaning.Array k (length inner + 1) true) m is

items_grow : {b : ℕ} {gs hs : List Word} {ts after : List Token} {xs : List Stmt} → AreItems b gs ts xs hs after → (names left : Names) → judged_all Inspector xs names ≡ Ok left → Grows names left
items_grow (whole.one {x = x} i) names left h y m is =
    let o = went_on (judged Inspector x names) (one_by_one []) left h in ap (λ (n : Names). find n y) (same_names o.0 left o.1.1) ∙ item_grows i names o.0 o.1.0 y m is
items_grow (whole.more {x = x} {xs = xs} i k) names left h y m is =
    let o = went_on (judged Inspector x names) (judged_all Inspector xs) left h in items_grow k o.0 left o.1.1 y m (item_grows i names o.0 o.1.0 y m is)

pub keeps_all : (names final : Names) → Grows names final → Keeps names final
keeps_all names final grows x k n g h = grows x (meaning.Array k n g) h

body_narrow : (gs : List Word) → AreNarrow (inspector gs) All
body_narrow gs b l g ts after xs h = all_narrow xs

-- what holds behind an item
record Behind (o : Option Declaration) (x : Stmt) (names left : Names) (c : Scope) : Type 0 where
  fit : declaration_fits o x c ≡ true
  agrees : Agrees left (declared_in o c)

module _ (final : Names) where
  item_ready : {b : ℕ} {gs hs : List Word} {ts after : List Token} {x : Stmt} → IsItem b gs ts x hs after → (names left : Names) (c : Scope) → Agrees names c → Grows left final
      → count_in All x ≤ most_children → judged Inspector x names ≡ Ok left → (changes final Inspector x).fault ≡ None → Behind (declaration_of x) x names left c
  item_ready (whole.statement {x = x} s) names left c agrees grows few h fixed =
      let same = stays Inspector s names left h in
      subst (λ (o : Option Declaration). Behind o x names left c) (sym (no_declaration s)) (record {
        fit = statement_ready Inspector All final (body_narrow _) s names left c 0 agrees (keeps_all names final (subst (λ (n : Names). Grows n final) same grows)) few refl h fixed;
        agrees = subst (λ (n : Names). Agrees n c) (sym same) agrees;
      })
  item_ready (whole.declaration {x = x} {k = k} {inner = inner} d) names left c agrees grows few h fixed =
      let is = sym (judged_declare Inspector x k inner names) ∙ h in
      let none = no_fault (declare_fault names x inner) (Ok (enter names x (meaning.Array k (length inner + 1) true))) left is in
      let same = same_names (enter names x (meaning.Array k (length inner + 1) true)) left (then_outcome (declare_fault names x inner) (Ok (enter names x (meaning.Array k (length inner + 1) true))) left is) in
      let fresh = is_new x (find names x) (none_first (new_fault x (find names x)) (indexes_fault InScope names inner) none) in
      let free = none_second (new_fault x (find names x)) (indexes_fault InScope names inner) none in
      subst (λ (o : Option Declaration). Behind o (Declare x k inner) names left c) (sym (some-Declare (Declare x k inner) x k inner refl)) (record {
        fit = both (not (has_array x c)) (nat_le (length inner) 2 && list_all (λ e. fits e c) inner) (no_array names c x agrees fresh)
            (both (nat_le (length inner) 2) (list_all (λ e. fits e c) inner) (few_inner d) (inner_fits d names c agrees free));
        agrees = subst (λ (n : Names). Agrees n (with_array x k (length inner + 1) c)) (sym same) (agrees_behind names c x k (length inner + 1) (omega arith) fresh agrees);
      })

  pub record Inspected (xs : List Stmt) (left : Names) (c : Scope) : Type 0 where
    pub fit : are_inspectable xs c ≡ true
    pub agrees : Agrees left (scope_behind xs c)

  pub items_ready : {b : ℕ} {gs hs : List Word} {ts after : List Token} {xs : List Stmt} → AreItems b gs ts xs hs after → (names left : Names) (c : Scope) → Agrees names c → Grows left final
      → count_of All xs ≤ most_children → judged_all Inspector xs names ≡ Ok left → fixed_fault final Inspector xs ≡ None → Inspected xs left c
  items_ready (whole.one {x = x} i) names left c agrees grows few h fixed =
      let o = went_on (judged Inspector x names) (one_by_one []) left h in
      let same = same_names o.0 left o.1.1 in
      let b = item_ready i names o.0 c agrees (subst (λ (n : Names). Grows n final) same grows) (omega (arith, few)) o.1.0 (none_first (changes final Inspector x).fault None fixed) in
      record {
        fit = both (declaration_fits (declaration_of x) x c) true b.fit refl;
        agrees = subst (λ (n : Names). Agrees n (declared_in (declaration_of x) c)) (sym same) b.agrees;
      }
  items_ready (whole.more {x = x} {xs = xs} i k) names left c agrees grows few h fixed =
      let o = went_on (judged Inspector x names) (judged_all Inspector xs) left h in
      let later = items_grow k o.0 left o.1.1 in
      let b = item_ready i names o.0 c agrees (λ y m is. grows y m (later y m is)) (omega (arith, few)) o.1.0 (none_first (changes final Inspector x).fault (fixed_fault final Inspector xs) fixed) in
      let rest = items_ready k o.0 left (declared_in (declaration_of x) c) b.agrees grows (omega (arith, few)) o.1.1 (none_second (changes final Inspector x).fault (fixed_fault final Inspector xs) fixed) in
      record {
        fit = both (declaration_fits (declaration_of x) x c) (are_inspectable xs (declared_in (declaration_of x) c)) b.fit rest.fit;
        agrees = rest.agrees;
      }
