-- The marks follow the kept values.
use Rattle.std.proofs.Common.{◌≡◌, refl, sym, ap, ◌∙◌, subst, ℕ, zero, suc, ◌+◌, ◌-◌, ◌≤◌, ◌<◌, ℤ, Bool, true, false, List, [], ◌∷◌, ◌++◌, length, if◌then◌else◌, nat_eq, nat_le, arith, append_assoc, length-append}
use Rattle.std.proofs.lemmas.List.{append-nil}
use Rattle.sparse_marks.specs.Kept.{same, is_among, Placed, kept, kept_before, start}
use Rattle.sparse_marks.specs.Marks.{Marks, unmarked, found, marked, see, close, Follows}
use Rattle.sparse_marks.proofs.Values.{same_is, one, kept_here, kept_elsewhere, kept_before_here, found_none, found_some, found_new, found_old}

-- before the first entry and row

starts_none : (h : ℕ) → 0 ≡ start h []
starts_none zero = refl
starts_none (suc h) = starts_none h ∙ sym (ap length (append-nil (kept_before h [])))

no_values : (g : ℕ) → [] ≡ kept_before g [] ++ kept g []
no_values zero = refl
no_values (suc g) = no_values g ∙ sym (append-nil (kept_before (suc g) []))

-- with no row, and any number of groups
pub none_yet : (g : ℕ) → Follows [] g unmarked
none_yet g = record { val = no_values g; ptr = λ h k. starts_none h; mark = λ w. omega arith; bound = λ w. omega arith; later = λ h k. refl }

pub begins : Follows [] 0 unmarked
begins = record { val = refl; ptr = λ h k. starts_none h; mark = λ w. refl; bound = λ w. omega arith; later = λ h k. refl }

-- the marks where a value is new
mark_new : (f : ℤ → ℕ) (w v : ℤ) (b n : ℕ) (ks : List ℤ) (c : Bool) → same w v ≡ c → n ≡ b + length ks → is_among w ks ≡ false → f v - b ≡ found v ks → (if c then suc n else f v) - b ≡ found v (ks ++ w ∷ [])
mark_new f w v b n ks true e l i h =
    let k : found v (ks ++ w ∷ []) ≡ suc (length ks) = subst (λ u. found u (ks ++ w ∷ []) ≡ suc (length ks)) (same_is w v e) (found_new w ks i) in
    grind (arith, l, k)
mark_new f w v b n ks false e l i h = h ∙ sym (found_old v w ks e)

bound_new : (f : ℤ → ℕ) (w v : ℤ) (n : ℕ) (c : Bool) → f v ≤ n → (if c then suc n else f v) ≤ n + 1
bound_new f w v n true h = omega arith
bound_new f w v n false h = omega arith

-- a new value of the group
appears : (es : List Placed) (g : ℕ) (s : Marks) (w : ℤ) (o : List ℤ) (a : ℕ) → Follows es g s → is_among w (kept g es) ≡ false
    → Follows (es ++ one g w o a ∷ []) g (record { mark = marked s.mark w (suc (length s.val)); ptr = s.ptr; val = s.val ++ w ∷ [] })
appears es g s w o a f n =
    let before : kept_before g (es ++ one g w o a ∷ []) ≡ kept_before g es = kept_before_here es g g w o a (omega arith) in
    let here : kept g (es ++ one g w o a ∷ []) ≡ kept g es ++ w ∷ [] = kept_here es g w o a ∙ ap (λ b. if b then kept g es else kept g es ++ w ∷ []) n in
    record {
      val = ap (λ l. l ++ w ∷ []) f.val ∙ append_assoc (kept_before g es) (kept g es) (w ∷ []) ∙ ap (λ l. l ++ (kept g es ++ w ∷ [])) (sym before) ∙ ap (λ l. kept_before g (es ++ one g w o a ∷ []) ++ l) (sym here);
      ptr = λ h k. f.ptr h k ∙ sym (ap length (kept_before_here es g h w o a k));
      mark = λ v.
          ap (λ l. marked s.mark w (suc (length s.val)) v - length l) before
          ∙ mark_new s.mark w v (start g es) (length s.val) (kept g es) _ refl (ap length f.val ∙ length-append (kept_before g es) (kept g es)) n (f.mark v)
          ∙ ap (found v) (sym here);
      bound = λ v. subst (λ m. marked s.mark w (suc (length s.val)) v ≤ m) (sym (length-append s.val (w ∷ []))) (bound_new s.mark w v (length s.val) _ (f.bound v));
      later = λ h k. kept_elsewhere es g h w o a (omega arith) ∙ f.later h k;
    }

-- a value that its group has
repeats : (es : List Placed) (g : ℕ) (s : Marks) (w : ℤ) (o : List ℤ) (a : ℕ) → Follows es g s → is_among w (kept g es) ≡ true → Follows (es ++ one g w o a ∷ []) g s
repeats es g s w o a f n =
    let before : kept_before g (es ++ one g w o a ∷ []) ≡ kept_before g es = kept_before_here es g g w o a (omega arith) in
    let here : kept g (es ++ one g w o a ∷ []) ≡ kept g es = kept_here es g w o a ∙ ap (λ b. if b then kept g es else kept g es ++ w ∷ []) n in
    record {
      val = f.val ∙ ap (λ l. l ++ kept g es) (sym before) ∙ ap (λ l. kept_before g (es ++ one g w o a ∷ []) ++ l) (sym here);
      ptr = λ h k. f.ptr h k ∙ sym (ap length (kept_before_here es g h w o a k));
      mark = λ v. ap (λ l. s.mark v - length l) before ∙ f.mark v ∙ ap (found v) (sym here);
      bound = f.bound;
      later = λ h k. kept_elsewhere es g h w o a (omega arith) ∙ f.later h k;
    }

-- the test of the inspector tells whether the value is new
pub test_by : (es : List Placed) (g : ℕ) (s : Marks) (w : ℤ) → Follows es g s → (b : Bool) → is_among w (kept g es) ≡ b → nat_le (s.mark w) (s.ptr g) ≡ (if b then false else true)
test_by es g s w f true e =
    let m : s.mark w - start g es ≡ found w (kept g es) = f.mark w in
    let p : s.ptr g ≡ start g es = f.ptr g (omega arith) in
    let n : 0 < found w (kept g es) = found_some w (kept g es) e in
    grind (arith, m, p, n)
test_by es g s w f false e =
    let m : s.mark w - start g es ≡ found w (kept g es) = f.mark w in
    let p : s.ptr g ≡ start g es = f.ptr g (omega arith) in
    let n : found w (kept g es) ≡ 0 = found_none w (kept g es) e in
    grind (arith, m, p, n)

sees_by : (es : List Placed) (g : ℕ) (s : Marks) (w : ℤ) (o : List ℤ) (a : ℕ) → Follows es g s → (b : Bool) → is_among w (kept g es) ≡ b → Follows (es ++ one g w o a ∷ []) g (see g s w)
sees_by es g s w o a f true e = subst (λ b. Follows (es ++ one g w o a ∷ []) g (if b then record { mark = marked s.mark w (suc (length s.val)); ptr = s.ptr; val = s.val ++ w ∷ [] } else s)) (sym (test_by es g s w f true e)) (repeats es g s w o a f e)
sees_by es g s w o a f false e = subst (λ b. Follows (es ++ one g w o a ∷ []) g (if b then record { mark = marked s.mark w (suc (length s.val)); ptr = s.ptr; val = s.val ++ w ∷ [] } else s)) (sym (test_by es g s w f false e)) (appears es g s w o a f e)

pub sees : (es : List Placed) (g : ℕ) (s : Marks) (w : ℤ) (o : List ℤ) (a : ℕ) → Follows es g s → Follows (es ++ one g w o a ∷ []) g (see g s w)
sees es g s w o a f = sees_by es g s w o a f _ refl

-- the end of a row
pub closes : (es : List Placed) (g : ℕ) (s : Marks) → Follows es g s → Follows es g (close g s)
closes es g s f = record {
  val = f.val;
  ptr = λ h k. let e : nat_eq (suc g) h ≡ false = grind arith in ap (λ b. if b then length s.val else s.ptr h) e ∙ f.ptr h k;
  mark = f.mark;
  bound = f.bound;
  later = f.later;
}

at_most : (P : ℕ → Type 0) (g : ℕ) → ((h : ℕ) → h ≤ g → P h) → P (suc g) → (h : ℕ) → h ≤ suc g → P h
at_most P g f p h k = at_most_by P g f p h k _ refl
  where
    at_most_by : (P : ℕ → Type 0) (g : ℕ) → ((h : ℕ) → h ≤ g → P h) → P (suc g) → (h : ℕ) → h ≤ suc g → (b : Bool) → nat_le h g ≡ b → P h
    at_most_by P g f p h k true e = f h (grind (arith, e))
    at_most_by P g f p h k false e = let q : suc g ≡ h = grind (arith, e, k) in subst P q p

-- the first row of the next group, behind the end of a row
pub goes_on : (es : List Placed) (g : ℕ) (s : Marks) → Follows es g s → s.ptr (suc g) ≡ length s.val → Follows es (suc g) s
goes_on es g s f k =
    let none : kept (suc g) es ≡ [] = f.later (suc g) (omega arith) in
    record {
      val = f.val ∙ sym (append-nil _) ∙ ap (λ l. kept_before (suc g) es ++ l) (sym none);
      ptr = λ h i. at_most (λ h. s.ptr h ≡ start h es) g f.ptr (k ∙ ap length f.val) h i;
      mark = λ w.
          let b : s.mark w ≤ start (suc g) es = subst (λ m. s.mark w ≤ m) (ap length f.val) (f.bound w) in
          let z : s.mark w - start (suc g) es ≡ 0 = omega (arith, b) in
          z ∙ ap (found w) (sym none);
      bound = f.bound;
      later = λ h i. f.later h (omega arith);
    }
