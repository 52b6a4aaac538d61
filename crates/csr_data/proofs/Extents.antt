-- The values of extents, one by one.
use Rattle.std.proofs.Common.{◌≡◌, ℕ, zero, suc, ◌<◌, ◌≤◌, ◌^◌, ℤ, pos, List, [], ◌∷◌, length, get_or, slice_get, Some, None, Ok, Err, refl, sym, ap, ◌∙◌, arith}
use Rattle.std.specs.Prelude.{IsTrue, unsigned_abs}
use Rattle.std.proofs.lemmas.Bool.Decides.{nat_tests}
use Rattle.c_tree.specs.declared.index.Index.{Index}
use Rattle.c_meaning.specs.Value.{Answer, ◌>>=◌, Sight, cell_seen, value_of, values_of}
use Rattle.c_meaning.specs.Inputs.{three, three_of}
use Rattle.c_meaning.specs.Names.{Name}
use Rattle.csr_data.specs.declared.values.Parameter.{Parameter}
use Rattle.csr_data.specs.Parameters.{sight_of, Gives}
use Rattle.csr_data.specs.Signature.{AreExtents, is_small}

split : (a : Answer ℤ) (b : Answer (List ℤ)) (vs : List ℤ) → (a >>= (λ v. b >>= (λ ws. Ok (v ∷ ws)))) ≡ Ok vs → (v : ℤ) × (ws : List ℤ) × (a ≡ Ok v) × (b ≡ Ok ws) × (vs ≡ v ∷ ws)
split (Ok v) (Ok ws) vs h = (v, ws, refl, refl, cc)
split (Ok v) (Err e) vs h = cc
split (Err e) b vs h = cc

-- the value of the extent at that place
pub values_at : (es : List Index) (s : Sight) (vs : List ℤ) → values_of es s ≡ Ok vs → (k : ℕ) (e : Index) → slice_get es k ≡ Some e → (v : ℤ) → value_of e s ≡ Ok v → v ≡ get_or vs k (pos 1)
values_at [] s vs h k e is v hv = cc
values_at (x ∷ es) s vs h zero e is v hv =
    let parts = split (value_of x s) (values_of es s) vs h in
    let same : x ≡ e = cc in
    let value : Ok v ≡ value_of x s = sym hv ∙ ap (λ e. value_of e s) (sym same) in
    let one : v ≡ parts.0 = (let both = value ∙ parts.2 in cc) in
    one ∙ ap (λ l. get_or l 0 (pos 1)) (sym parts.4)
values_at (x ∷ es) s vs h (suc k) e is v hv =
    let parts = split (value_of x s) (values_of es s) vs h in
    values_at es s parts.1 parts.3 k e is v hv ∙ ap (λ l. get_or l (suc k) (pos 1)) (sym parts.4)

-- an extent that is missing
pub values_past : (es : List Index) (s : Sight) (vs : List ℤ) → values_of es s ≡ Ok vs → (k : ℕ) → slice_get es k ≡ None → pos 1 ≡ get_or vs k (pos 1)
values_past [] s vs h k is = (let same : [] ≡ vs = cc in ap (λ l. get_or l k (pos 1)) same)
values_past (x ∷ es) s vs h zero is = cc
values_past (x ∷ es) s vs h (suc k) is =
    let parts = split (value_of x s) (values_of es s) vs h in
    values_past es s parts.1 parts.3 k is ∙ ap (λ l. get_or l (suc k) (pos 1)) (sym parts.4)

-- an answer that is small is a value
pub small_answer : (a : Answer ℤ) → IsTrue (is_small a) → (v : ℤ) × (a ≡ Ok v) × (unsigned_abs v ≤ 2 ^ 41)
small_answer (Ok v) h = (v, refl, grind (arith, nat_tests, h))
small_answer (Err e) h = cc

-- the extents of a signature have values
pub have_values : (xs : List Name) (ps : List Parameter) → Gives xs ps → (es : List Index) → AreExtents xs es → (vs : List ℤ) × (values_of es (sight_of ps) ≡ Ok vs)
have_values xs ps gives [] all = ([], refl)
have_values xs ps gives (e ∷ es) all =
    let value = small_answer (value_of e (sight_of ps)) ((all 0 e refl).small ps gives) in
    let others = have_values xs ps gives es (λ k e' is. all (suc k) e' is) in
    (value.0 ∷ others.0, ap (λ (a : Answer ℤ). a >>= (λ v. values_of es (sight_of ps) >>= (λ ws. Ok (v ∷ ws)))) value.1 ∙ ap (λ (b : Answer (List ℤ)). b >>= (λ ws. Ok (value.0 ∷ ws))) others.1)

three_are : (vs : List ℤ) → three vs ≡ get_or vs 0 (pos 1) ∷ get_or vs 1 (pos 1) ∷ get_or vs 2 (pos 1) ∷ []
three_are [] = refl
three_are (a ∷ []) = refl
three_are (a ∷ b ∷ []) = refl
three_are (a ∷ b ∷ c ∷ vs) = refl

-- the three extents, where each is what stands at its place
pub three_extents_are : (es : List Index) (s : Sight) (vs : List ℤ) → values_of es s ≡ Ok vs → (a b c : ℤ) → a ≡ get_or vs 0 (pos 1) → b ≡ get_or vs 1 (pos 1) → c ≡ get_or vs 2 (pos 1)
    → a ∷ b ∷ c ∷ [] ≡ three_of (values_of es s)
three_extents_are es s vs h a b c ea eb ec = (λ i. ea i ∷ eb i ∷ ec i ∷ []) ∙ sym (three_are vs) ∙ ap three_of (sym h)

-- an item as it is read
pub read_is : {X : Type 0} (xs : List X) (k : ℕ) (x : X) → k < length xs → x ≡ get_or xs k x → slice_get xs k ≡ Some x
read_is [] k x lt e = absurd (omega arith)
read_is (y ∷ xs) zero x lt e = ap Some (sym e)
read_is (y ∷ xs) (suc k) x lt e = read_is xs k x (omega arith) e

pub read_past : {X : Type 0} (xs : List X) (k : ℕ) → length xs ≤ k → slice_get xs k ≡ None
read_past [] k le = refl
read_past (y ∷ xs) zero le = absurd (omega arith)
read_past (y ∷ xs) (suc k) le = read_past xs k (omega arith)

-- where an array has no cells, none is seen
pub none_seen : (vs : List Parameter) (a : Name) (at : List ℤ) → 0 < length at → None ≡ cell_seen (sight_of vs) a at
none_seen vs a [] lt = absurd (omega arith)
none_seen vs a (i ∷ is) lt = refl
