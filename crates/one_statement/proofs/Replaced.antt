-- Replaced forms have one coefficient for each new variable.
use Rattle.std.proofs.Common.{◌≡◌, ℕ, arith, ◌≤◌, ◌+◌, ◌-◌, true, ◌&&◌, nat_le, List, [], ◌++◌, length, ap, sym, ◌∙◌, ℤ, pos, take, drop, append-nil}
use Rattle.std.specs.Prelude.{Result, Ok, Err, IfOk, IsTrue, replicate, nat_eq, not, ◌||◌}
use Rattle.std.specs.List.{list_all}
use Rattle.std.proofs.lemmas.List.{drop_all}
use Rattle.chill_base.specs.declared.faults.Stop.{Stop}
use Rattle.chill_base.specs.declared.faults.Stop.TheVariants.{Refused, NoMemory}
use Rattle.int_rows.specs.declared.row.Aff.{Aff}
use Rattle.int_rows.specs.declared.row.Excess.{Excess}
use Rattle.nest_tree.specs.declared.kernel.KernelRow.{KernelRow}
use Rattle.nest_tree.specs.declared.kernel.Term.{Term}
use Rattle.nest_tree.specs.declared.body.Access.{Access}
use Rattle.nest_tree.specs.declared.body.Body.{Body}
use Rattle.nest_core.specs.Making.{Gives, each_made}
use Rattle.nest_core.specs.Forms.{level_coefs, lifted, has_vars, new_vars}
use Rattle.nest_core.specs.Forms as forms
use Rattle.nest_core.specs.Pieces.{access_made, body_made, term_made}
use Rattle.nest_core.specs.Shapes.{is_row_over, is_term_over, is_access_over, is_body_over}
use Rattle.nest_core.proofs.Kept.{after_ok, and, each_made-all, rewritten-width, term_made-kept, access_made-kept}
use Rattle.nest_core.proofs.BodiesKept.{body_made-kept}
use Rattle.nest_core.proofs.Rewrites.{levels_at}
use Rattle.one_statement.specs.declared.images.Images.{Images}
use Rattle.one_statement.specs.Images.{old_vars, frame_of, image_of, same_row}

pub replaced_at : (i : Images) (bs cs : List ℤ) → bs ≡ cs → length cs ≡ old_vars i → take (length bs - i.params) (drop i.params bs) ≡ level_coefs (frame_of i) cs
replaced_at i bs cs e w = levels_at (frame_of i) (length bs - i.params) bs cs (omega (arith, ap length e, w)) e

pub lifted_at : (i : Images) (cs : List ℤ) → length cs ≡ old_vars i → take i.params cs ++ replicate (i.vars - i.params) (pos 0) ≡ lifted (frame_of i) cs
unfolding lifted
lifted_at i cs w =
    let none : drop (i.params + length i.forms) cs ≡ [] = drop_all (i.params + length i.forms) cs (omega (arith, w)) in
    let front : List ℤ = take i.params cs ++ replicate (i.vars - i.params) (pos 0) in
    rw none (sym (append-nil (front ++ []) ∙ append-nil front))

-- what a call gives has what the thing that is wanted has
pub gives-has : {A E : Type 0} (P : A → Type 0) (r : Result A (Stop E)) (w : Result A E) → ((x : A) → w ≡ Ok x → P x) → Gives r w → IfOk r P
gives-has P (Ok x) w h g = h x g
gives-has P (Err (Refused e)) w h g = tt
gives-has P (Err NoMemory) w h g = tt

module _ (i : Images) (room : i.params ≤ i.vars) where
  width : (f g : Aff) → has_vars (old_vars i) f ≡ true → image_of i f ≡ Ok g → has_vars i.vars g ≡ true
  unfolding image_of
  width f g w e =
      let old : forms.old_vars (frame_of i) ≡ old_vars i = omega arith in
      let new : new_vars (frame_of i) ≡ i.vars = omega (arith, room) in
      ap (λ n. has_vars n g) (sym new) ∙ rewritten-width (frame_of i) i.forms f g (ap (λ n. has_vars n f) old ∙ w) e

  pub image-width : (f : Aff) (r : Result Aff (Stop Excess)) → IsTrue (has_vars (old_vars i) f) → Gives r (image_of i f) → IfOk r (λ g. IsTrue (has_vars i.vars g))
  image-width f r w = gives-has (λ g. IsTrue (has_vars i.vars g)) r (image_of i f) (λ g e. width f g w e)

  row-kept : (d : ℕ) (r t : KernelRow) → is_row_over (old_vars i) d r ≡ true → same_row i r ≡ Ok t → is_row_over i.vars d t ≡ true
  row-kept d r t h e =
      let a = after_ok (image_of i r.row.form) _ t e in
      let w = and (has_vars (old_vars i) r.row.form) (nat_le r.own d && (nat_eq r.own 0 || not r.row.equal)) h in
      let is : t ≡ record { row = record { equal = r.row.equal; form = a.0 }; own = r.own } = cc in
      rw (is, width r.row.form a.0 w.0 a.1) w.1

  pub rows-over : (d : ℕ) (rs : List KernelRow) (r : Result (List KernelRow) (Stop Excess)) → IsTrue (list_all (is_row_over (old_vars i) d) rs) → Gives r (each_made (same_row i) rs)
      → IfOk r (λ ts. IsTrue (list_all (is_row_over i.vars d) ts))
  rows-over d rs r w = gives-has (λ ts. IsTrue (list_all (is_row_over i.vars d) ts)) r (each_made (same_row i) rs)
      (λ ts e. each_made-all (is_row_over (old_vars i) d) (is_row_over i.vars d) (same_row i) (row-kept d) rs ts w e)

  pub terms-over : (xs : List Term) (r : Result (List Term) (Stop Excess)) → IsTrue (list_all (is_term_over (old_vars i)) xs) → Gives r (each_made (term_made (image_of i)) xs)
      → IfOk r (λ ts. IsTrue (list_all (is_term_over i.vars) ts))
  terms-over xs r w = gives-has (λ ts. IsTrue (list_all (is_term_over i.vars) ts)) r (each_made (term_made (image_of i)) xs)
      (λ ts e. each_made-all (is_term_over (old_vars i)) (is_term_over i.vars) (term_made (image_of i)) (term_made-kept (old_vars i) i.vars (image_of i) width) xs ts w e)

  pub access-over : (a : Access) (r : Result Access (Stop Excess)) → IsTrue (is_access_over (old_vars i) a) → Gives r (access_made (image_of i) a) → IfOk r (λ b. IsTrue (is_access_over i.vars b))
  access-over a r w = gives-has (λ b. IsTrue (is_access_over i.vars b)) r (access_made (image_of i) a) (λ b e. access_made-kept (old_vars i) i.vars (image_of i) width a b w e)

  pub body-over : (b : Body) (r : Result Body (Stop Excess)) → IsTrue (is_body_over (old_vars i) b) → Gives r (body_made (image_of i) b) → IfOk r (λ c. IsTrue (is_body_over i.vars c))
  body-over b r w = gives-has (λ c. IsTrue (is_body_over i.vars c)) r (body_made (image_of i) b) (λ c e. body_made-kept (old_vars i) i.vars (image_of i) width b c w e)
