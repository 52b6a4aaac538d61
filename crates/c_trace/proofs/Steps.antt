-- The line of an assignment is that of the step that it is.
use Rattle.std.proofs.Common.{ℕ, ◌≡◌, refl, sym, ap, ◌∙◌, ℤ, Bool, true, false, ◌&&◌, List, ◌++◌, take, if◌then◌else◌, Ok, Err, is_ok}
use Rattle.std.specs.Prelude.{codes}
use Rattle.c_tree.specs.declared.index.Cell.{Cell}
use Rattle.c_tree.specs.declared.data.Expr.{Expr}
use Rattle.c_tree.specs.declared.data.Expr.TheVariants.{Const, At, Plus, Minus, Times, outs-Const, outs-At, outs-Plus, outs-Minus, outs-Times}
use Rattle.c_tree.specs.declared.statement.How.{How}
use Rattle.c_meaning.specs.declared.fault.EvalFault.TheVariants.{Outside}
use Rattle.c_meaning.specs.Names.{Place}
use Rattle.c_meaning.specs.Scope.{Scope, data_cell_fits}
use Rattle.c_meaning.specs.Value.{Answer, ◌>>=◌, subscripts_of}
use Rattle.c_meaning.specs.Memory.{Spot}
use Rattle.c_meaning.specs.Ground.{Ground, number, load, sum, difference, product, Step}
use Rattle.c_meaning.specs.Listing.{Scene, Item, spot, ground, on_grounds, assigned}
use Rattle.c_meaning.proofs.Fitting.{and_left, and_right}
use Rattle.c_meaning.proofs.Parts.{ground-Const, ground-At, ground-Plus, ground-Minus, ground-Times}
use Rattle.c_print.specs.Printed.{Printed}
use Rattle.c_print.specs.Data.{data_sum, data_product, data_printed}
use Rattle.c_print.specs.Statement.{how_text}
use Rattle.c_trace.specs.Lines.{count_of, shown, brackets, place_line, cell_line, has_cell, has_cells, assignment_line}
use Rattle.c_trace.specs.Steps.{spot_line, ground_printed, step_line}
use Rattle.c_trace.proofs.Cells.{has-At, has-Plus, has-Minus, has-Times}
use Rattle.c_trace.proofs.Counts.{count_is}
use Rattle.c_trace.proofs.DataLines.{data_at}
use Rattle.c_trace.proofs.Expressions.{induct}

-- what an answer that is there was made of
loaded : (a : Answer Spot) (g : Ground) → (a >>= (λ x. Ok (load x))) ≡ Ok g → (x : Spot) × (a ≡ Ok x) × (load x ≡ g)
loaded (Ok x) g h = (x, refl, cc)
loaded (Err e) g h = cc

both : (f : Ground → Ground → Ground) (a b : Answer Ground) (g : Ground) → on_grounds f a b ≡ Ok g → (x y : Ground) × (a ≡ Ok x) × (b ≡ Ok y) × (f x y ≡ g)
both f (Ok x) (Ok y) g h = (x, y, refl, refl, cc)
both f (Ok x) (Err e) g h = cc
both f (Err e) b g h = cc

made : (how : How) (a : Answer Ground) (b : Answer Spot) (t : Step) → (a >>= (λ e. b >>= (λ x. Ok (record { target = x; how = how; value = e })))) ≡ Ok t → (a ≡ Ok t.value) × (b ≡ Ok t.target) × (how ≡ t.how)
made how (Ok e) (Ok x) t h =
    let u : Step = record { target = x; how = how; value = e } in
    let same : u ≡ t = cc in
    (ap (λ (t : Step). Ok t.value) same, ap (λ (t : Step). Ok t.target) same, ap (λ (t : Step). t.how) same)
made how (Ok e) (Err f) t h = cc
made how (Err f) b t h = cc

module _ (k : Scope) (c : Scene) where
  inside : (e : Cell) (at : List ℤ) (x : Spot) (b : Bool) → (let y : Spot = record { array = e.array; at = at } in (if b then Ok y else Err (Outside e.array))) ≡ Ok x → (e.array ≡ x.array) × (at ≡ x.at)
  inside e at x true h =
      let y : Spot = record { array = e.array; at = at } in
      let same : y ≡ x = cc in
      (ap (λ (x : Spot). x.array) same, ap (λ (x : Spot). x.at) same)
  inside e at x false h = cc

  found : (e : Cell) (a : Answer (List ℤ)) (x : Spot) → (a >>= (λ at. let y : Spot = record { array = e.array; at = at } in (if c.inside y then Ok y else Err (Outside e.array)))) ≡ Ok x → (e.array ≡ x.array) × (a ≡ Ok x.at)
  found e (Ok at) x h = let p = inside e at x (c.inside (record { array = e.array; at = at })) h in (p.0, ap Ok p.1)
  found e (Err f) x h = cc

  cell_is : (e : Cell) (x : Spot) → has_cell e k c.sight ≡ true → spot e c ≡ Ok x → cell_line c.sight e ≡ spot_line k.data_arrays x
  cell_is e x h s =
      let f = found e (subscripts_of e.at c.sight) x s in
      ap (λ a. e.array ++ shown (count_of e.at) a) f.1
      ∙ ap (λ n. e.array ++ brackets (take n x.at)) (count_is e.at k (k.data_arrays e.array) (and_left (data_cell_fits e k) (is_ok (subscripts_of e.at c.sight)) h))
      ∙ ap (λ b. b ++ brackets (take (k.data_arrays b) x.at)) f.0

  abbrev IsPrinted : Expr → Type 0
  IsPrinted e = (g : Ground) → has_cells e k c.sight ≡ true → ground e c ≡ Ok g → data_printed (cell_line c.sight) e ≡ ground_printed k.data_arrays g

  constant_is : (n : ℕ) → IsPrinted (Const n)
  constant_is n g h w =
      let same : number n ≡ g = let e : Ok (number n) ≡ Ok g = sym (ground-Const n c) ∙ w in cc in
      data_at (cell_line c.sight) (Const n) _ (outs-Const n) ∙ ap (ground_printed k.data_arrays) same

  load_is : (x : Cell) → IsPrinted (At x)
  load_is x g h w =
      let l = loaded (spot x c) g (sym (ground-At x c) ∙ w) in
      data_at (cell_line c.sight) (At x) _ (outs-At x)
      ∙ ap (λ t. record { text = t; level = (ground_printed k.data_arrays (load l.0)).level }) (cell_is x l.0 (sym (has-At k c.sight x) ∙ h) l.1)
      ∙ ap (ground_printed k.data_arrays) l.2

  two_are : (f : Ground → Ground → Ground) (layer : Printed → Printed → Printed) (a b e : Expr) → ((x y : Ground) → ground_printed k.data_arrays (f x y) ≡ layer (ground_printed k.data_arrays x) (ground_printed k.data_arrays y))
      → data_printed (cell_line c.sight) e ≡ layer (data_printed (cell_line c.sight) a) (data_printed (cell_line c.sight) b) → ground e c ≡ on_grounds f (ground a c) (ground b c)
      → has_cells e k c.sight ≡ (has_cells a k c.sight && has_cells b k c.sight) → IsPrinted a → IsPrinted b → IsPrinted e
  two_are f layer a b e prints is grounds has p q g h w =
      let t = both f (ground a c) (ground b c) g (sym grounds ∙ w) in
      let cells = sym has ∙ h in
      let left = p t.0 (and_left (has_cells a k c.sight) (has_cells b k c.sight) cells) t.2 in
      let right = q t.1 (and_right (has_cells a k c.sight) (has_cells b k c.sight) cells) t.3 in
      is ∙ (λ i. layer (left i) (right i)) ∙ sym (prints t.0 t.1) ∙ ap (ground_printed k.data_arrays) t.4

  plus_is : (a b : Expr) → IsPrinted a → IsPrinted b → IsPrinted (Plus a b)
  plus_is a b = two_are sum (λ p q. data_sum p (codes " + ") q) a b (Plus a b) (λ x y. refl) (data_at (cell_line c.sight) (Plus a b) _ (outs-Plus a b)) (ground-Plus a b c) (has-Plus k c.sight a b)

  minus_is : (a b : Expr) → IsPrinted a → IsPrinted b → IsPrinted (Minus a b)
  minus_is a b = two_are difference (λ p q. data_sum p (codes " - ") q) a b (Minus a b) (λ x y. refl) (data_at (cell_line c.sight) (Minus a b) _ (outs-Minus a b)) (ground-Minus a b c) (has-Minus k c.sight a b)

  times_is : (a b : Expr) → IsPrinted a → IsPrinted b → IsPrinted (Times a b)
  times_is a b = two_are product data_product a b (Times a b) (λ x y. refl) (data_at (cell_line c.sight) (Times a b) _ (outs-Times a b)) (ground-Times a b c) (has-Times k c.sight a b)

  ground_is : (e : Expr) → IsPrinted e
  ground_is = induct IsPrinted (record { constant = constant_is; cell = load_is; plus = plus_is; minus = minus_is; times = times_is })

  pub line_is : (target : Cell) (how : How) (value : Expr) (p : Place) (t : Step) → has_cell target k c.sight ≡ true → has_cells value k c.sight ≡ true → assigned target how value c ≡ Ok t
      → assignment_line p target how value c.sight ≡ step_line k.data_arrays (record { place = p; step = t })
  line_is target how value p t h w is =
      let m = made how (ground value c) (spot target c) t is in
      let cell = cell_is target t.target h m.1 in
      let print = ground_is value t.value w m.0 in
      (λ i. place_line p ++ codes " " ++ (cell i ++ how_text (m.2 i) ++ ((print i).text ++ codes "\n")))
