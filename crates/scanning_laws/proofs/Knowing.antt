-- What is known goes on into each turn of a loop, so what a scan made is printed for its statements.
use Rattle.std.proofs.Common.{◌≡◌, ◌⊎◌, inl, inr, ℕ, suc, List, [], ◌∷◌, ◌++◌, length, refl, sym, ◌∙◌, ap, subst, ℤ, ◌≤ℤ◌, ◌<ℤ◌, true}
use Rattle.std.specs.Prelude.{Ok}
use Rattle.c_tree.specs.declared.statement.Stmt.{Stmt}
use Rattle.c_meaning.specs.Ground.{Step}
use Rattle.c_meaning.specs.Listing.{Scene}
use Rattle.nest_tree.specs.declared.kernel.Kernel.{Kernel}
use Rattle.nest_tree.specs.Lists.{IsIn, Pairwise}
use Rattle.nest_tree.specs.Loops.{Levels}
use Rattle.nest_tree.specs.Scans.{Slot, Maker}
use Rattle.nest_laws.specs.Trees.{tree_of}
use Rattle.nest_laws.proofs.Lists.{in_append, in_append-left, in_append-right}
use Rattle.scan_forms.specs.declared.claim.Claim.{Claim}
use Rattle.scan_forms.specs.declared.reads.Read.{Read}
use Rattle.print_laws.proofs.Asked.{level}
use Rattle.scan_laws.specs.Printing.{IsPrinted}
use Rattle.scanning.specs.Shapes.{Loops}
use Rattle.scanning.specs.Parts.{Part, Around, Opened, context_of}
use Rattle.scanning.specs.Heads.{opened}
use Rattle.scanning_laws.specs.Derived.{IsScanned, IsOf, IsFaithful, slots}
use Rattle.scanning_laws.specs.Knowing.{KeepsTo, Knows, IsLocal}
use Rattle.scanning_laws.proofs.Printed.{printed}

in_context : (a : Around) (o : Opened) (x : Claim) → IsIn x (context_of (a ++ o ∷ [])) → IsIn x (context_of a) ⊎ (IsIn x o.asked ⊎ IsIn x o.known)
in_context [] o x i = elim (in_append x (o.asked ++ o.known) [] i) [
  | inl j ↦ inr (in_append x o.asked o.known j)
  | inr j ↦ absurd j
]
in_context (b ∷ a) o x i = elim (in_append x (b.asked ++ b.known) (context_of (a ++ o ∷ [])) i) [
  | inl j ↦ inl (in_append-left x (b.asked ++ b.known) (context_of a) j)
  | inr j ↦ elim (in_context a o x j) [ inl l ↦ inl (in_append-right x (b.asked ++ b.known) (context_of a) l) | inr l ↦ inr l ]
]

longer : {A : Type 0} (xs : List A) (x : A) → length (xs ++ x ∷ []) ≡ suc (length xs)
longer [] x = refl
longer (y ∷ xs) x = ap suc (longer xs x)

sized-more : (a : Around) (e : Levels) (o : Opened) (v : ℤ) → Pairwise KeepsTo a e → KeepsTo o v → Pairwise KeepsTo (a ++ o ∷ []) (e ++ v ∷ [])
sized-more [] [] o v h k = (k, tt)
sized-more [] (w ∷ e) o v h k = absurd h
sized-more (b ∷ a) [] o v h k = absurd h
sized-more (b ∷ a) (w ∷ e) o v h k = (h.0, sized-more a e o v h.1 k)

module _ (k : Kernel) (table : List Read) (Says : Claim → Levels → Type 0) (Before : ℕ → Claim → Type 0) where
  module _ (Good : Around → Part → Type 0) {St : Type 0} (plan : (a : Around) (p : Part) → Good a p → St) (m : Maker St Step) (c : Scene) (f : IsLocal k table Says Before Good plan m c) where
    pub turn : (a : Around) (ps : List Part) (o : Opened) (group : List (Slot St)) (e : Levels) (v : ℤ) → opened k table a ps ≡ Ok o
        → ((s : Slot St) → IsIn s group → IsOf k table Good plan (a ++ o ∷ []) ps s) → Knows k table Says Before a e
        → m.ready group e ≡ true → m.low group e ≤ℤ v → v <ℤ m.high group e → Knows k table Says Before (a ++ o ∷ []) (e ++ v ∷ [])
    turn a ps o group e v is own h y low high =
        let one = longer a o in
        let tests = (f.heads a ps o group e is own h).1 ∙ ap Ok y in
        let size = f.sizes a ps o group e is own h y in
        record {
          long = longer e v ∙ ap suc h.long ∙ sym one;
          says = λ x i. elim (in_context a o x i) [
            | inl j ↦ (f.claims).steady (length a) x e v (h.before x j) h.long (h.says x j)
            | inr j ↦ elim j [
              | inl l ↦ (let q = f.asked a ps o e x is h tests l in (f.claims).steady (length a) x e v q.1 h.long q.0)
              | inr l ↦ (f.known a ps o group e v x is own h y low high l).0
            ]
          ];
          before = λ x i. subst (λ (n : ℕ). Before n x) (sym one) (elim (in_context a o x i) [
            | inl j ↦ (f.claims).later (length a) x (h.before x j)
            | inr j ↦ elim j [
              | inl l ↦ (f.claims).later (length a) x (f.asked a ps o e x is h tests l).1
              | inr l ↦ (f.known a ps o group e v x is own h y low high l).1
            ]
          ]);
          sized = sized-more a e o v h.sized (level (m.low group e) (m.high group e) v o.size size.0 size.1 low high);
        }

    pub faithful : IsFaithful k table Good plan m c (Knows k table Says Before)
    faithful = record {
      assignments = λ a p g x e is h. f.assignments a p g x e is h;
      heads = λ a ps o group e is own h. f.heads a ps o group e is own h;
      turns = λ a ps o group e v is own h y low high. turn a ps o group e v is own h y low high;
    }

    outside : Knows k table Says Before [] []
    outside = record { long = refl; says = λ x i. absurd i; before = λ x i. absurd i; sized = tt }

    -- the induction from the outside
    pub scan_printed : {t : Loops Part} {ss : List Stmt} (d : IsScanned k table Good [] t ss) → IsPrinted m (tree_of ss c) (slots k table Good plan d 0) 0 []
    scan_printed d = printed k table Good plan m c (Knows k table Says Before) faithful d 0 [] outside
