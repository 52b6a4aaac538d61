-- The worked cases.
use Rattle.std.proofs.Common.{◌≡◌, inl, inr, ℕ, suc, ◌+◌, ◌<◌, ◌≤◌, List, [], ◌∷◌, length, refl, sym, ◌∙◌, ap, subst, arith, ℤ, pos, negsuc, ◌+ℤ◌, neg_ℤ, ◌≤ℤ◌, ◌<ℤ◌, int_le, int_lt, nat_le, Bool, true, ◌&&◌}
use Rattle.std.specs.Prelude.{Ok, Err, if◌then◌else◌, ◌↔◌}
use Rattle.std.specs.Int.{int_div_euclid}
use Rattle.std.specs.Ordering.{int_eq}
use Rattle.std.proofs.lemmas.Bool.{and_from}
use Rattle.std.proofs.lemmas.Bool.Decides.{Decides-int_eq}
use Rattle.std.proofs.lemmas.Int.{ints}
use Rattle.int_rows.specs.declared.row.Row.{Row}
use Rattle.c_tree.specs.declared.index.Index.TheVariants.{Const, Var}
use Rattle.c_tree.specs.declared.index.Subscripts.TheVariants.{One}
use Rattle.c_tree.specs.declared.statement.How.TheVariants.{Write}
use Rattle.c_tree.specs.declared.statement.Stmt.TheVariants.{Assign}
use Rattle.c_tree.specs.declared.data.Expr.TheVariants.{At as Load}
use Rattle.c_meaning.specs.declared.fault.EvalFault.TheVariants.{Outside}
use Rattle.c_meaning.specs.Weighed.{greatest, plain}
use Rattle.c_meaning.specs.Value.{Answer, Sight, ◌>>=◌, value_of, judged, judged_answer, three_answers, subscripts_of, is_inside}
use Rattle.c_meaning.specs.Ground.{Step, Ground, load}
use Rattle.c_meaning.specs.Memory.{Spot}
use Rattle.c_meaning.specs.Listing.{Scene, bind, assigned, spot, Listing}
use Rattle.c_meaning.specs.Examples.{b, c, i, n, scene, copy_loop, copied, at}
use Rattle.c_meaning.proofs.Equations.{measure-Const, measure-Var, subscripts-One}
use Rattle.c_meaning.proofs.Parts.{ground-At}
use Rattle.c_meaning.proofs.Examples.{copies}
use Rattle.nest_tree.specs.declared.kernel.KernelRow.{KernelRow}
use Rattle.nest_tree.specs.Lists.{IsIn}
use Rattle.nest_tree.specs.Forms.{value, MeetsRow, Names}
use Rattle.nest_tree.specs.Terms.{IsReadable, IsDirect}
use Rattle.nest_tree.specs.Kernels.{point, IsMet}
use Rattle.nest_tree.specs.Loops.{Levels}
use Rattle.nest_tree.specs.Scans.{Slot}
use Rattle.nest_laws.specs.Acts.{act, spot as acts_spot}
use Rattle.nest_laws.specs.Trees.{Tree, end, step, turns, bind_all, tree_of}
use Rattle.nest_laws.proofs.Acts as acts
use Rattle.nest_tree.specs.Levels.{IsInTile}
use Rattle.nest_laws.proofs.Levels.{quotient_is}
use Rattle.nest_laws.proofs.Running.{executor}
use Rattle.scan_laws.specs.Printing.{IsPrinted, none, alone, around}
use Rattle.scan_laws.specs.Bounds.{lowers, uppers}
use Rattle.scan_laws.specs.Rows.{rest, next, Scanned, own_low, own_high, maker, slots}
use Rattle.scan_laws.specs.Laws.{AreAtMost, AreAbove}
use Rattle.scan_laws.specs.Examples.{from_zero, below_n, copy_nest, copy_input, WorkedExecutor, WorkedPrinting, WorkedRows}
use Rattle.scan_laws.proofs.Bounds.{direct_rows}
use Rattle.scan_laws.proofs.Fronts.{front-For, front-Assign}
use Rattle.scan_laws.proofs.Printing.{printed-fine}
use Rattle.scan_laws.proofs.Scanned.{sound_bounds, scanned_list}

-- ---- what the loop is, and what its parts give
abbrev copying : Scene → Tree
copying s =
    turns (λ e. value_of (Const (pos 0)) (bind_all [] e s).sight) (λ e. value_of (Var n) (bind_all [] e s).sight)
    (step (λ e. assigned (at b (Var i)) Write (Load (at c (Var i))) (bind_all (i ∷ []) e s)) end) end

pub tree_is : (s : Scene) → tree_of copy_loop s ≡ copying s
tree_is s =
    front-For s [] end i (Const (pos 0)) (Var n) (Assign (at b (Var i)) Write (Load (at c (Var i))) ∷ [])
    ∙ ap (λ (t : Tree). turns (λ e. value_of (Const (pos 0)) (bind_all [] e s).sight) (λ e. value_of (Var n) (bind_all [] e s).sight) t end)
    (front-Assign s (i ∷ []) end (at b (Var i)) Write (Load (at c (Var i))))

small-number : (k : ℕ) → k ≤ greatest → judged (plain (pos k)) ≡ Ok (pos k)
small-number k h = let t : nat_le k greatest ≡ true = grind (arith, h) in rw t refl

pub value-Const : (s : Sight) → value_of (Const (pos 0)) s ≡ Ok (pos 0)
value-Const s = ap judged_answer (measure-Const (pos 0) s) ∙ small-number 0 (omega arith)

module _ (k : ℕ) (small : k ≤ greatest) where
  pub value-n : value_of (Var n) (scene k).sight ≡ Ok (pos k)
  value-n = ap judged_answer (measure-Var n (scene k).sight) ∙ small-number k small

  module _ (v : ℕ) (below : v < k) where
    abbrev inner : Scene
    inner = bind i (pos v) (scene k)

    value-i : value_of (Var i) inner.sight ≡ Ok (pos v)
    value-i = ap judged_answer (measure-Var i inner.sight) ∙ small-number v (omega arith)

    at-i : subscripts_of (One (Var i)) inner.sight ≡ Ok (pos v ∷ pos 0 ∷ pos 0 ∷ [])
    at-i = subscripts-One (Var i) inner.sight ∙ ap (λ (a : Answer ℤ). three_answers a (Ok (pos 0)) (Ok (pos 0))) value-i

    is_in : is_inside (pos v ∷ pos 0 ∷ pos 0 ∷ []) (pos k ∷ pos 1 ∷ pos 1 ∷ []) ≡ true
    is_in = let t : int_lt (pos v) (pos k) ≡ true = grind (arith, ints, below) in let u : int_le (pos 0) (pos v) ≡ true = grind (arith, ints) in rw (t, u) refl

    abbrev here : Spot
    here = record { array = c; at = pos v ∷ pos 0 ∷ pos 0 ∷ [] }

    spot-is : (x : List ℕ) → spot (at x (Var i)) inner ≡ Ok (record { array = x; at = pos v ∷ pos 0 ∷ pos 0 ∷ [] })
    spot-is x =
        ap (λ (a : Answer (List ℤ)). a >>= (λ is. let y : Spot = record { array = x; at = is } in (if inner.inside y then Ok y else Err (Outside x)))) at-i
        ∙ ap (λ (t : Bool). let y : Spot = record { array = x; at = pos v ∷ pos 0 ∷ pos 0 ∷ [] } in (if t then Ok y else Err (Outside x))) is_in

    pub copied_step : assigned (at b (Var i)) Write (Load (at c (Var i))) inner ≡ Ok ((copied v).step)
    copied_step =
        ap (λ (g : Answer Ground). g >>= (λ w. spot (at b (Var i)) inner >>= (λ x. Ok (record { target = x; how = Write; value = w })))) (ground-At (at c (Var i)) inner ∙ ap (λ (a : Answer Spot). a >>= (λ x. Ok (load x))) (spot-is c))
        ∙ ap (λ (a : Answer Spot). a >>= (λ x. Ok (record { target = x; how = Write; value = load (record { array = c; at = pos v ∷ pos 0 ∷ pos 0 ∷ [] }) }))) (spot-is b)

  -- the kernel's step is the same
  pub kernel_step : (v : ℕ) → act copy_nest (point (copy_input k) copy_nest (pos v ∷ [])) ≡ (copied v).step
  kernel_step v =
      let q : List ℤ = pos k ∷ pos v ∷ [] in
      let f : value q (record { coefs = pos 0 ∷ pos 1 ∷ []; constant = pos 0 }) ≡ pos v = omega (arith, ints) in
      ap (λ (g : Ground). let t : Step = record { target = acts_spot q copy_nest.target; how = Write; value = g } in t) (acts.ground-At q (record { array = c; at = record { coefs = pos 0 ∷ pos 1 ∷ []; constant = pos 0 } ∷ [] }))
      ∙ ap (λ (z : ℤ). let t : Step = record { target = record { array = b; at = z ∷ pos 0 ∷ pos 0 ∷ [] }; how = Write; value = load (record { array = c; at = z ∷ pos 0 ∷ pos 0 ∷ [] }) } in t) f

-- ---- the statement as the scan sees it
row_cases : (r : KernelRow) (P : Row → Type 0) → IsIn r copy_nest.rows → P from_zero → P below_n → P r.row
row_cases r P (inl e) a b = subst (λ (s : KernelRow). P s.row) (sym e) a
row_cases r P (inr (inl e)) a b = subst (λ (s : KernelRow). P s.row) (sym e) b
row_cases r P (inr (inr h)) a b = absurd h

bound_cases : (r : Row) (P : Row → Type 0) → IsIn r (from_zero ∷ below_n ∷ []) → P from_zero → P below_n → P r
bound_cases r P (inl e) a b = subst P (sym e) a
bound_cases r P (inr (inl e)) a b = subst P (sym e) b
bound_cases r P (inr (inr h)) a b = absurd h

module _ (k : ℕ) where
  no_names : (r : Row) → ((j : ℕ) → Names r.form (2 + j) → ⊥) → (q : List ℤ) → IsReadable (copy_input k) 2 [] q r.form
  no_names r h q j n = absurd (h j n)

  behind_zero : (j : ℕ) → Names from_zero.form (2 + j) → ⊥
  behind_zero j n = let e : 2 + j ≡ suc (suc j) = omega arith in subst (λ (m : ℕ). Names from_zero.form m) e n refl

  behind_n : (j : ℕ) → Names below_n.form (2 + j) → ⊥
  behind_n j n = let e : 2 + j ≡ suc (suc j) = omega arith in subst (λ (m : ℕ). Names below_n.form m) e n refl

  direct-zero : IsDirect 2 1 [] from_zero.form
  direct-zero = record {
    named = λ e. absurd cc;
    no_later = λ j n l m. absurd (omega (arith, l, m));
    ready_terms = λ j n. absurd (behind_zero j n);
  }

  direct-n : IsDirect 2 1 [] below_n.form
  direct-n = record {
    named = λ e. absurd cc;
    no_later = λ j n l m. absurd (omega (arith, l, m));
    ready_terms = λ j n. absurd (behind_n j n);
  }

  one_level : (vs : Levels) → length vs ≡ 1 → (v : ℤ) × (vs ≡ v ∷ [])
  one_level [] h = absurd (omega arith)
  one_level (v ∷ []) h = (v, refl)
  one_level (v ∷ w ∷ vs) h = absurd (omega arith)

  copying_statement : Scanned (copy_input k)
  copying_statement = record {
    nest = copy_nest;
    bounds = λ q. from_zero ∷ below_n ∷ [];
    settled = λ q. true;
    test = λ vs. true;
    shape = refl;
    direct = λ q r inner a. (let z : q ≡ 0 = omega (arith, inner) in subst (λ (m : ℕ). IsDirect 2 (1 + m) [] r.form) (sym z) (bound_cases r (λ s. IsDirect 2 1 [] s.form) a direct-zero direct-n));
    lower = λ e h p. absurd (no_lower e h p);
    upper = λ e h p. absurd (no_upper e h p);
    follow = λ q r vs inner full meets a. bound_cases r (λ s. MeetsRow (point (copy_input k) copy_nest vs) s) a (meets (record { row = from_zero; own = 1 }) (inl refl)).holds (meets (record { row = below_n; own = 1 }) (inr (inl refl))).holds;
    tested = λ vs full meets. refl;
    enough = λ vs full t h r a. row_cases r (λ s. IsMet (copy_input k) copy_nest vs (record { row = s; own = r.own })) a
        (record { readable = λ j n. absurd (readable_zero vs full j n); holds = h 0 from_zero (omega arith) refl (inl refl) })
        (record { readable = λ j n. absurd (readable_n vs full j n); holds = h 0 below_n (omega arith) refl (inr (inl refl)) });
  }
    where
      no_lower : (e : Levels) → length e < 1 → lowers (next (copy_input k) e) (rest (copy_input k) copy_nest e) (from_zero ∷ below_n ∷ []) ≡ [] → ⊥
      no_lower [] h p = cc
      no_lower (v ∷ e) h p = omega arith

      no_upper : (e : Levels) → length e < 1 → uppers (next (copy_input k) e) (rest (copy_input k) copy_nest e) (from_zero ∷ below_n ∷ []) ≡ [] → ⊥
      no_upper [] h p = cc
      no_upper (v ∷ e) h p = omega arith

      readable_zero : (vs : Levels) → length vs ≡ 1 → (j : ℕ) → Names from_zero.form ((1 + length vs) + j) → ⊥
      readable_zero vs full j n = behind_zero j (subst (λ (m : ℕ). Names from_zero.form ((1 + m) + j)) full n)

      readable_n : (vs : Levels) → length vs ≡ 1 → (j : ℕ) → Names below_n.form ((1 + length vs) + j) → ⊥
      readable_n vs full j n = behind_n j (subst (λ (m : ℕ). Names below_n.form ((1 + m) + j)) full n)

by_one : (v : ℤ) → int_div_euclid v (pos 1) ≡ v
by_one v = let q : IsInTile (pos 1) (int_div_euclid v (pos 1)) v = quotient_is 0 v in let l = q.low in let h = q.high in omega (arith, ints)

module _ (k : ℕ) where
  low_is : own_low [] (copying_statement k) ≡ pos 0
  unfolding copying_statement
  low_is =
      let r : rest (copy_input k) copy_nest [] from_zero.form ≡ pos 0 = omega (arith, ints) in
      ap (λ (z : ℤ). neg_ℤ (int_div_euclid z (pos 1))) r

  high_is : own_high [] (copying_statement k) ≡ pos k
  unfolding copying_statement
  high_is =
      let r : rest (copy_input k) copy_nest [] below_n.form ≡ (pos k +ℤ negsuc 0) = omega (arith, ints) in
      let q = by_one (pos k +ℤ negsuc 0) in
      ap (λ (z : ℤ). int_div_euclid z (pos 1) +ℤ pos 1) r ∙ ap (λ (z : ℤ). z +ℤ pos 1) q ∙ omega (arith, ints)

module _ (k : ℕ) (small : k ≤ greatest) where
  abbrev group : List (Slot (Scanned (copy_input k)))
  group = record { left = 0 ∷ []; of = copying_statement k } ∷ []

  body_printed : (v : ℤ) → own_low [] (copying_statement k) ≤ℤ v → v <ℤ own_high [] (copying_statement k)
      → IsPrinted (maker (copy_input k) (λ group e. true)) (step (λ e. assigned (at b (Var i)) Write (Load (at c (Var i))) (bind_all (i ∷ []) e (scene k))) end) group 0 (v ∷ [])
  unfolding copying_statement
  body_printed (negsuc w) l u = absurd (let z = low_is k in omega (arith, ints))
  body_printed (pos w) l u =
      let z = high_is k in
      let below : w < k = omega (arith, ints) in
      alone (λ e. assigned (at b (Var i)) Write (Load (at c (Var i))) (bind_all (i ∷ []) e (scene k))) end (copying_statement k) [] 0 (pos w ∷ []) refl
      (copied_step k small w below ∙ ap (λ (t : Step). let a : Answer Step = Ok t in a) (sym (kernel_step k small w))) (none 1 (pos w ∷ []))

  all_bounds : (int_eq (own_low [] (copying_statement k)) (own_low [] (copying_statement k)) && int_eq (own_high [] (copying_statement k)) (own_high [] (copying_statement k))) ≡ true
  all_bounds = and_from (int_eq (own_low [] (copying_statement k)) (own_low [] (copying_statement k))) (int_eq (own_high [] (copying_statement k)) (own_high [] (copying_statement k))) ((Decides-int_eq (own_low [] (copying_statement k)) (own_low [] (copying_statement k))).1 refl) ((Decides-int_eq (own_high [] (copying_statement k)) (own_high [] (copying_statement k))).1 refl)

  copy_printed : IsPrinted (maker (copy_input k) (λ group e. true)) (tree_of copy_loop (scene k)) (slots (copying_statement k ∷ [])) 0 []
  unfolding copying_statement
  copy_printed =
      subst (λ (t : Tree). IsPrinted (maker (copy_input k) (λ group e. true)) t (slots (copying_statement k ∷ [])) 0 []) (sym (tree_is (scene k)))
      (around (λ e. value_of (Const (pos 0)) (bind_all [] e (scene k)).sight) (λ e. value_of (Var n) (bind_all [] e (scene k)).sight)
      (step (λ e. assigned (at b (Var i)) Write (Load (at c (Var i))) (bind_all (i ∷ []) e (scene k))) end) end group [] 0 []
      (and_from (int_eq (own_low [] (copying_statement k)) (own_low [] (copying_statement k)) && int_eq (own_high [] (copying_statement k)) (own_high [] (copying_statement k))) true all_bounds refl)
      (λ s a p. some_left s a p) (value-Const (scene k).sight ∙ ap (λ (z : ℤ). let a : Answer ℤ = Ok z in a) (sym (low_is k))) (value-n k small ∙ ap (λ (z : ℤ). let a : Answer ℤ = Ok z in a) (sym (high_is k)))
      body_printed (none 1 []))
    where
      some_left : (s : Slot (Scanned (copy_input k))) → IsIn s group → s.left ≡ [] → ⊥
      some_left s (inl e) p = let q : s.left ≡ 0 ∷ [] = ap (λ (t : Slot (Scanned (copy_input k))). t.left) e in cc
      some_left s (inr h) p = h

pub worked_printing : WorkedPrinting
unfolding copying_statement
worked_printing k small = (
  λ group s e v vs ok a d h. refl,
  sound_bounds (copy_input k) (λ group e. true) (λ group s e v vs ok a d h. refl),
  (copying_statement k, refl, copy_printed k small),
  scanned_list (copy_input k) (copying_statement k ∷ []) (λ group e. true) copy_loop (scene k) (λ group s e v vs ok a d h. refl) (copy_printed k small),
)

two_small : 2 ≤ greatest
two_small = omega arith

pub worked_executor : WorkedExecutor
unfolding copying_statement
worked_executor d =
    let fine = printed-fine (maker (copy_input 2) (λ group e. true)) (tree_of copy_loop (scene 2)) (slots (copying_statement 2 ∷ [])) 0 [] (copy_printed 2 two_small) in
    (fine, ap (λ (l : Listing). l.items) (sym (executor copy_loop (scene 2) d fine).0 ∙ copies))

pub worked_rows : WorkedRows
unfolding copying_statement
worked_rows k v = (
  λ r a. bound_cases r (λ s. IsDirect 2 1 [] s.form) a (direct-zero k) (direct-n k),
  (
    λ h. (
        let b = law.0 h in
        (subst (λ (z : ℤ). z ≤ℤ v) (low_is k) (b.0 (own_low [] (copying_statement k)) (inl refl)), subst (λ (z : ℤ). v <ℤ z) (high_is k) (b.1 (own_high [] (copying_statement k)) (inl refl)))),
    λ b. law.1 (
      λ z a. elim a [ inl e ↦ subst (λ (y : ℤ). y ≤ℤ v) (sym (e ∙ low_is k)) b.0 | inr x ↦ absurd x ],
      λ z a. elim a [ inl e ↦ subst (λ (y : ℤ). v <ℤ y) (sym (e ∙ high_is k)) b.1 | inr x ↦ absurd x ],
    ),
  ),
)
  where
    law : ((r : Row) → IsIn r (from_zero ∷ below_n ∷ []) → MeetsRow (point (copy_input k) copy_nest (v ∷ [])) r)
        ↔ (AreAtMost (lowers (next (copy_input k) []) (rest (copy_input k) copy_nest []) (from_zero ∷ below_n ∷ [])) v × AreAbove (uppers (next (copy_input k) []) (rest (copy_input k) copy_nest []) (from_zero ∷ below_n ∷ [])) v)
    law = direct_rows (copy_input k) copy_nest (from_zero ∷ below_n ∷ []) [] v [] refl (λ r a. bound_cases r (λ s. IsDirect 2 1 [] s.form) a (direct-zero k) (direct-n k))
