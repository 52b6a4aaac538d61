-- What is read as a program is one.
use Rattle.std.specs.Prelude.{◌≡◌, ℕ, suc, ◌||◌, not, Bool, true, false, List, [], ◌∷◌, ◌++◌, Option, Some, None, Ok, refl, ◌⊎◌, codes}
use Rattle.std.proofs.Common.{sym, ◌∙◌, ap, subst, inl, inr}
use Rattle.c_tokens.specs.declared.token.Sign.{Sign}
use Rattle.c_tokens.specs.declared.token.Sign.TheVariants as s
use Rattle.c_tokens.specs.declared.token.Token.{Token}
use Rattle.c_tokens.specs.declared.token.Token.TheVariants as t
use Rattle.c_tokens.specs.Tokens.{first, rest, sees, is_sign, expect}
use Rattle.c_tree.specs.declared.index.Index.{Index}
use Rattle.c_tree.specs.declared.statement.Stmt.{Stmt}
use Rattle.c_tree.specs.declared.statement.Stmt.TheVariants as stmt
use Rattle.c_tree.specs.declared.program.Kind.{Kind}
use Rattle.c_tree.specs.declared.program.Kind.TheVariants as kind
use Rattle.c_tree.specs.declared.program.Array.{Array}
use Rattle.c_tree.specs.declared.program.Matrix.{Matrix}
use Rattle.c_tree.specs.declared.program.Program.{Program}
use Rattle.c_grammar.specs.declared.pieces.Signature.{Signature}
use Rattle.c_grammar.specs.Index.{Word, IsIndex, IsSubscript}
use Rattle.c_grammar.specs.Statement.{AreStatements}
use Rattle.c_grammar.specs.Program.{brackets, loops, guards, executor, inspector, with_declared, IsMatrix, AreMatrices, AreExtents, IsArray, AreArrays, AreParameters, IsDeclaration, IsItem, AreItems, AreSections, IsProgram}
use Rattle.c_grammar.specs.Program as rule
use Rattle.c_grammar.specs.Reader.{Reader, ◌>>=◌, ◌>>◌, pure, skip, many, name, word}
use Rattle.c_grammar.specs.ReadIndex as index
use Rattle.c_grammar.specs.ReadStatement as statement
use Rattle.c_grammar.specs.ReadProgram as r
use Rattle.c_grammar.proofs.Local.{bound, value_is}
use Rattle.c_grammar.proofs.Turns.{IsKept, many_keep}
use Rattle.c_grammar.proofs.LocalIndex.{one_way}
use Rattle.c_grammar.proofs.SoundIndex.{IsSound, along, chosen, is_sign_at, seen, expected, name_is, subscript_sound, index_sound}
use Rattle.c_grammar.proofs.SoundStatement.{word_is, unless, statement_sound, statements_sound}

-- ---- matrices

further_is : (ts after : List Token) (x : Word) → r.further_name ts ≡ Ok (x, after) → ts ≡ t.Sign s.Comma ∷ t.Name x ∷ after
unfolding r.further_name
further_is ts after x e =
    let p = bound (expect s.Comma ts) _ _ _ e in
    expected s.Comma _ _ _ p.first ∙ ap (λ (z : List Token). t.Sign s.Comma ∷ z) (name_is _ _ _ p.second)

-- the names of a matrix, from the first
record AreNames (ts : List Token) (x : Matrix) (after : List Token) : Type 0 where
  pub tokens : ts ≡ t.Name x.index ∷ t.Sign s.Comma ∷ t.Name x.col ∷ t.Sign s.Comma ∷ t.Name x.value ∷ t.Sign s.Comma ∷ t.Name x.rows ∷ t.Sign s.Comma ∷ t.Name x.cols ∷ t.Sign s.Comma ∷ t.Name x.count ∷ t.Sign s.Close ∷ after

six : (ts a b c d e f g : List Token) (u v w x y z : Word)
    → ts ≡ t.Name u ∷ a → a ≡ t.Sign s.Comma ∷ t.Name v ∷ b → b ≡ t.Sign s.Comma ∷ t.Name w ∷ c → c ≡ t.Sign s.Comma ∷ t.Name x ∷ d → d ≡ t.Sign s.Comma ∷ t.Name y ∷ e → e ≡ t.Sign s.Comma ∷ t.Name z ∷ f
    → f ≡ t.Sign s.Close ∷ g
    → ts ≡ t.Name u ∷ t.Sign s.Comma ∷ t.Name v ∷ t.Sign s.Comma ∷ t.Name w ∷ t.Sign s.Comma ∷ t.Name x ∷ t.Sign s.Comma ∷ t.Name y ∷ t.Sign s.Comma ∷ t.Name z ∷ t.Sign s.Close ∷ g
six ts a b c d e f g u v w x y z h i j k l m n = cc

names_sound : (ts after : List Token) (x : Matrix) → r.names ts ≡ Ok (x, after) → AreNames ts x after
unfolding r.names
names_sound ts after x e =
    let index = bound (name ts) _ _ _ e in
    let col = bound (r.further_name index.left) _ _ _ index.second in
    let value = bound (r.further_name col.left) _ _ _ col.second in
    let rows = bound (r.further_name value.left) _ _ _ value.second in
    let cols = bound (r.further_name rows.left) _ _ _ rows.second in
    let count = bound (r.further_name cols.left) _ _ _ cols.second in
    let close = bound (expect s.Close count.left) _ _ _ count.second in
    let w = value_is _ _ _ _ close.second in
    let made : AreNames ts (record { index = index.value; col = col.value; value = value.value; rows = rows.value; cols = cols.value; count = count.value }) close.left = record {
      tokens = six ts index.left col.left value.left rows.left cols.left count.left close.left index.value col.value value.value rows.value cols.value count.value
          (name_is _ _ _ index.first) (further_is _ _ _ col.first) (further_is _ _ _ value.first) (further_is _ _ _ rows.first) (further_is _ _ _ cols.first) (further_is _ _ _ count.first)
          (expected s.Close _ _ _ close.first);
    } in
    along AreNames refl w.0 w.1 made

front : (x y z w : Token) (ts us vs ws after : List Token) → ts ≡ x ∷ us → us ≡ y ∷ vs → vs ≡ z ∷ ws → ws ≡ w ∷ after → ts ≡ x ∷ y ∷ z ∷ w ∷ after
front x y z w ts us vs ws after e f g h = cc

-- four tokens and a name
matrix_of : (ts us after : List Token) (x : Matrix) → ts ≡ t.Sign s.Pragma ∷ t.Name (codes "sparse") ∷ t.Name (codes "csr") ∷ t.Sign s.Open ∷ us → AreNames us x after → IsMatrix ts x after
matrix_of ts us after x e h =
    along IsMatrix (e ∙ ap (λ (z : List Token). t.Sign s.Pragma ∷ t.Name (codes "sparse") ∷ t.Name (codes "csr") ∷ t.Sign s.Open ∷ z) h.tokens) refl refl rule.matrix

matrix_sound : IsSound IsMatrix r.matrix
unfolding r.matrix
matrix_sound ts after x e =
    let pragma = bound (expect s.Pragma ts) _ _ _ e in
    let sparse = bound (word (codes "sparse") pragma.left) _ _ _ pragma.second in
    let csr = bound (word (codes "csr") sparse.left) _ _ _ sparse.second in
    let open_ = bound (expect s.Open csr.left) _ _ _ csr.second in
    matrix_of ts open_.left after x
    (front _ _ _ _ ts pragma.left sparse.left csr.left open_.left (expected s.Pragma _ _ _ pragma.first) (word_is _ _ _ _ sparse.first) (word_is _ _ _ _ csr.first) (expected s.Open _ _ _ open_.first))
    (names_sound open_.left after x open_.second)

-- one more matrix behind others
matrices_snoc : {ts us : List Token} {xs : List Matrix} → AreMatrices ts xs us → (after : List Token) (x : Matrix) → IsMatrix us x after → AreMatrices ts (xs ++ x ∷ []) after
matrices_snoc rule.none after x k = rule.more k rule.none
matrices_snoc (rule.more h others) after x k = rule.more h (matrices_snoc others after x k)

matrices_are_kept : (ts : List Token) → IsKept r.next_matrix (λ xs us. AreMatrices ts xs us)
matrices_are_kept ts xs us f ys after i h e =
    let w = one_way s.Pragma (r.matrix >>= (λ x. pure (xs ++ x ∷ []))) (first us) f h in
    let p = bound (r.matrix us) (λ x. pure (xs ++ x ∷ [])) ys after (ap (λ (k : Reader (List Matrix)). k us) w.1 ∙ e) in
    let v = value_is _ _ _ _ p.second in
    along AreMatrices refl v.0 v.1 (matrices_snoc i p.left p.value (matrix_sound us p.left p.value p.first))

matrices_sound : IsSound AreMatrices r.matrices
matrices_sound ts after xs e = many_keep r.next_matrix (λ xs us. AreMatrices ts xs us) (matrices_are_kept ts) [] ts xs after rule.none e

-- ---- parameters

module _ (b : ℕ) where
  extent_sound : IsSound (IsSubscript b) (index.subscript (index.index b))
  extent_sound = subscript_sound b (index.index b) (index_sound b)

  third_sound : (i j : Index) (ts us : List Token) → IsSubscript b ts i us → (vs : List Token) → IsSubscript b us j vs → (after : List Token) (is : List Index) → r.third_extent b i j vs ≡ Ok (is, after) → AreExtents b ts is after
  unfolding r.third_extent
  third_sound i j ts us one vs two after is e =
      elim (chosen (sees s.OpenSquare vs) _ _ _ e) [
        | inl h ↦
            let q = bound (index.subscript (index.index b) vs) _ _ _ h.1 in
            let v = value_is _ _ _ _ q.second in
            along (AreExtents b) refl v.0 v.1 (rule.three one two (extent_sound vs q.left q.value q.first))
        | inr h ↦ let v = value_is _ _ _ _ h.1 in along (AreExtents b) refl v.0 v.1 (rule.two one two)
      ]

  second_sound : (i : Index) (ts us : List Token) → IsSubscript b ts i us → (after : List Token) (is : List Index) → r.second_extent b i us ≡ Ok (is, after) → AreExtents b ts is after
  unfolding r.second_extent
  second_sound i ts us one after is e =
      elim (chosen (sees s.OpenSquare us) _ _ _ e) [
        | inl h ↦
            let q = bound (index.subscript (index.index b) us) (r.third_extent b i) _ _ h.1 in
            third_sound i q.value ts us one q.left (extent_sound us q.left q.value q.first) after is q.second
        | inr h ↦ let v = value_is _ _ _ _ h.1 in along (AreExtents b) refl v.0 v.1 (rule.one one)
      ]

  extents_sound : IsSound (AreExtents b) (r.extents b)
  unfolding r.extents
  extents_sound ts after is e =
      let q = bound (index.subscript (index.index b) ts) (r.second_extent b) _ _ e in
      second_sound q.value ts q.left (extent_sound ts q.left q.value q.first) after is q.second

  -- what one more parameter is: a name behind names alone, or an array
  record IsParam (found : Signature) (ts : List Token) (made : Signature) (after : List Token) : Type 0 where
    pub name : Word
    pub alone : r.is_empty found.arrays ≡ true
    pub is : made ≡ r.with_param found name
    pub tokens : ts ≡ t.Sign s.Int64 ∷ t.Name name ∷ after

  record IsFurtherArray (found : Signature) (ts : List Token) (made : Signature) (after : List Token) : Type 0 where
    pub array : Array
    pub is : made ≡ r.with_array found array
    pub holds : IsArray b ts array after

  abbrev IsFurther : Signature → List Token → Signature → List Token → Type 0
  IsFurther found ts made after = IsParam found ts made after ⊎ IsFurtherArray found ts made after

  positions_sound : (x : Word) (found : Signature) (ts us after : List Token) (made : Signature) → ts ≡ t.Sign s.Int64 ∷ t.Name x ∷ us → r.positions b x found us ≡ Ok (made, after) → IsFurtherArray found ts made after
  unfolding r.positions
  positions_sound x found ts us after made e h =
      let p = bound (index.subscript (index.index b) us) _ _ _ h in
      let v = value_is _ _ _ _ p.second in
      record {
        array = record { name = x; kind = kind.Position; extents = p.value ∷ [] };
        is = sym v.0;
        holds = along (IsArray b) e refl v.1 (rule.positions (extent_sound us p.left p.value p.first));
      }

  numbers_sound : (x : Word) (found : Signature) (ts us after : List Token) (made : Signature) → ts ≡ t.Sign s.Uint64 ∷ t.Name x ∷ us → r.numbers b x found us ≡ Ok (made, after) → IsFurtherArray found ts made after
  unfolding r.numbers
  numbers_sound x found ts us after made e h =
      let p = bound (r.extents b us) _ _ _ h in
      let v = value_is _ _ _ _ p.second in
      record {
        array = record { name = x; kind = kind.Number; extents = p.value };
        is = sym v.0;
        holds = along (IsArray b) e refl v.1 (rule.numbers (extents_sound us p.left p.value p.first));
      }

  not_false : (a c : Bool) → (a || not c) ≡ false → c ≡ true
  not_false true c e = absurd cc
  not_false false true e = refl
  not_false false false e = absurd cc

  position_sound : (x : Word) (found : Signature) (ts us after : List Token) (made : Signature) → ts ≡ t.Sign s.Int64 ∷ t.Name x ∷ us → r.position b x found us ≡ Ok (made, after) → IsFurther found ts made after
  unfolding r.position
  position_sound x found ts us after made e h =
      elim (chosen (sees s.OpenSquare us || not (r.is_empty found.arrays)) _ _ _ h) [
        | inl k ↦ inr (positions_sound x found ts us after made e k.1)
        | inr k ↦
            let v = value_is _ _ _ _ k.1 in
            inl (record { name = x; alone = not_false (sees s.OpenSquare us) (r.is_empty found.arrays) k.0; is = sym v.0; tokens = e ∙ ap (λ (z : List Token). t.Sign s.Int64 ∷ t.Name x ∷ z) v.1 })
      ]

  parameter_sound : (found : Signature) (ts after : List Token) (made : Signature) → r.parameter b found ts ≡ Ok (made, after) → IsFurther found ts made after
  unfolding r.parameter
  parameter_sound found ts after made e =
      elim (chosen (sees s.Int64 ts) _ _ _ e) [
        | inl h ↦
            let x = bound (name (rest ts)) (λ x. r.position b x found) _ _ h.1 in
            position_sound x.value found ts x.left after made (seen s.Int64 ts _ h.0 (name_is _ _ _ x.first)) x.second
        | inr h ↦
            let p = bound (expect s.Uint64 ts) _ _ _ h.1 in
            let x = bound (name p.left) _ _ _ p.second in
            inr (numbers_sound x.value found ts x.left after made (expected s.Uint64 _ _ _ p.first ∙ ap (λ (z : List Token). t.Sign s.Uint64 ∷ z) (name_is _ _ _ x.first)) x.second)
      ]

-- one more array behind others
arrays_snoc : {b : ℕ} {ts middle : List Token} {xs : List Array} → AreArrays b ts xs middle → (us after : List Token) (x : Array) → middle ≡ t.Sign s.Comma ∷ us → IsArray b us x after → AreArrays b ts (xs ++ x ∷ []) after
arrays_snoc (rule.one {b = b} h) us after x e k = rule.more (along (IsArray b) refl refl e h) (rule.one k)
arrays_snoc (rule.more h others) us after x e k = rule.more h (arrays_snoc others us after x e k)

some_arrays : {b : ℕ} {ts after : List Token} {xs : List Array} → AreArrays b ts xs after → r.is_empty xs ≡ true → ⊥
some_arrays (rule.one h) e = absurd cc
some_arrays (rule.more h k) e = absurd cc

-- one more name behind names alone
param_snoc : {b : ℕ} {ts middle : List Token} {xs : List Word} {arrays : List Array} → AreParameters b ts xs arrays middle → (us after : List Token) (x : Word) → r.is_empty arrays ≡ true
    → middle ≡ t.Sign s.Comma ∷ us → us ≡ t.Sign s.Int64 ∷ t.Name x ∷ after → AreParameters b ts (xs ++ x ∷ []) arrays after
param_snoc (rule.last {b = b} {x = y}) us after x alone e f =
    subst (λ z. AreParameters b (t.Sign s.Int64 ∷ t.Name y ∷ z) (y ∷ x ∷ []) [] after) (sym (e ∙ ap (λ (z : List Token). t.Sign s.Comma ∷ z) f)) (rule.more rule.last)
param_snoc (rule.more h) us after x alone e f = rule.more (param_snoc h us after x alone e f)
param_snoc (rule.arrays h) us after x alone e f = absurd (some_arrays h alone)

-- one more array behind names and arrays
array_snoc : {b : ℕ} {ts middle : List Token} {xs : List Word} {arrays : List Array} → AreParameters b ts xs arrays middle → (us after : List Token) (x : Array) → middle ≡ t.Sign s.Comma ∷ us → IsArray b us x after
    → AreParameters b ts xs (arrays ++ x ∷ []) after
array_snoc (rule.last {b = b} {x = y}) us after x e k = subst (λ z. AreParameters b (t.Sign s.Int64 ∷ t.Name y ∷ z) (y ∷ []) (x ∷ []) after) (sym e) (rule.more (rule.arrays (rule.one k)))
array_snoc (rule.more h) us after x e k = rule.more (array_snoc h us after x e k)
array_snoc (rule.arrays h) us after x e k = rule.arrays (arrays_snoc h us after x e k)

module _ (b : ℕ) where
  -- the parameters so far
  abbrev AreFound : List Token → Signature → List Token → Type 0
  AreFound ts found us = AreParameters b ts found.params found.arrays us

  further_found : (ts us after : List Token) (found made : Signature) → AreParameters b ts found.params found.arrays (t.Sign s.Comma ∷ us) → IsFurther b found us made after → AreFound ts made after
  further_found ts us after found made h (inl k) = subst (λ z. AreFound ts z after) (sym k.is) (param_snoc h us after k.name k.alone refl k.tokens)
  further_found ts us after found made h (inr k) = subst (λ z. AreFound ts z after) (sym k.is) (array_snoc h us after k.array refl k.holds)

  first_found : (ts after : List Token) (made : Signature) → IsFurther b r.nothing_found ts made after → AreFound ts made after
  first_found ts after made (inl k) = subst (λ z. AreFound ts z after) (sym k.is) (subst (λ z. AreParameters b z (k.name ∷ []) [] after) (sym k.tokens) rule.last)
  first_found ts after made (inr k) = subst (λ z. AreFound ts z after) (sym k.is) (rule.arrays (rule.one k.holds))

  parameters_are_kept : (ts : List Token) → IsKept (r.next_parameter b) (AreFound ts)
  parameters_are_kept ts found us f made after i h e =
      let w = one_way s.Comma (skip >> r.parameter b found) (first us) f h in
      further_found ts (rest us) after found made (subst (λ z. AreParameters b ts found.params found.arrays z) (is_sign_at s.Comma us w.0) i)
      (parameter_sound b found (rest us) after made (ap (λ (k : Reader Signature). k us) w.1 ∙ e))

  parameters_sound : (ts after : List Token) (found : Signature) → r.parameters b ts ≡ Ok (found, after) → AreParameters b ts found.params found.arrays after
  unfolding r.parameters
  parameters_sound ts after found e =
      let p = bound (r.parameter b r.nothing_found ts) (many (r.next_parameter b)) found after e in
      many_keep (r.next_parameter b) (AreFound ts) (parameters_are_kept ts) p.value p.left found after (first_found ts p.left p.value (parameter_sound b r.nothing_found ts p.left p.value p.first)) p.second

-- ---- declarations

inner_none : (b : ℕ) (is js : List Index) (us after : List Token) → r.inner b 0 is us ≡ Ok (js, after) → (is ≡ js) × (us ≡ after)
unfolding r.inner
inner_none b is js us after e = value_is _ _ _ _ e

record InnerSome (b n : ℕ) (is js : List Index) (us after : List Token) : Type 0 where
  pub extent : Index
  pub begins : List Token
  pub left : List Token
  pub tokens : us ≡ t.Sign s.Comma ∷ begins
  pub holds : IsIndex b begins extent left
  pub others : r.inner b n (is ++ extent ∷ []) left ≡ Ok (js, after)

inner_some : (b n : ℕ) (is js : List Index) (us after : List Token) → r.inner b (suc n) is us ≡ Ok (js, after) → InnerSome b n is js us after
unfolding r.inner
inner_some b n is js us after e =
    let p = bound (expect s.Comma us) _ _ _ e in
    let q = bound (index.index b p.left) _ _ _ p.second in
    record { extent = q.value; begins = p.left; left = q.left; tokens = expected s.Comma _ _ _ p.first; holds = index_sound b p.left q.left q.value q.first; others = q.second }

-- what was read as a declaration
record Declared (b n : ℕ) (k : Kind) (names : List Word) (ts : List Token) (made : Stmt × List Word) (after : List Token) : Type 0 where
  pub name : Word
  pub extents : List Index
  pub begins : List Token
  pub tokens : rest ts ≡ t.Sign s.Open ∷ t.Name name ∷ begins
  pub inner : r.inner b n [] begins ≡ Ok (extents, t.Sign s.Close ∷ t.Sign s.Semicolon ∷ after)
  pub is : made ≡ (stmt.Declare name k extents, with_declared k name names)

declared_is : (b n : ℕ) (k : Kind) (names : List Word) (ts after : List Token) (made : Stmt × List Word) → r.declaration b k n names ts ≡ Ok (made, after) → Declared b n k names ts made after
unfolding r.declaration
declared_is b n k names ts after made e =
    let open_ = bound (expect s.Open (rest ts)) _ _ _ e in
    let x = bound (name open_.left) _ _ _ open_.second in
    let is = bound (r.inner b n [] x.left) _ _ _ x.second in
    let close = bound (expect s.Close is.left) _ _ _ is.second in
    let semi = bound (expect s.Semicolon close.left) _ _ _ close.second in
    let v = value_is _ _ _ _ semi.second in
    record {
      name = x.value;
      extents = is.value;
      begins = x.left;
      tokens = expected s.Open _ _ _ open_.first ∙ ap (λ (z : List Token). t.Sign s.Open ∷ z) (name_is _ _ _ x.first);
      inner = is.first ∙ ap (λ (z : List Token). Ok (is.value, z)) (expected s.Close _ _ _ close.first ∙ ap (λ (z : List Token). t.Sign s.Close ∷ z) (expected s.Semicolon _ _ _ semi.first ∙ ap (λ (z : List Token). t.Sign s.Semicolon ∷ z) v.1));
      is = sym v.0;
    }

-- an item, by its statement and the arrays behind it
abbrev IsMade : ℕ → List Word → List Token → Stmt × List Word → List Token → Type 0
IsMade b names ts made after = IsItem b names ts made.0 made.1 after

declaration_of : (b : ℕ) (k : Kind) (names : List Word) (ts after : List Token) (made : Stmt × List Word) (x : Word) (is : List Index) → made ≡ (stmt.Declare x k is, with_declared k x names) → IsDeclaration b ts x k is after
    → IsMade b names ts made after
declaration_of b k names ts after made x is e h = subst (λ z. IsMade b names ts z after) (sym e) (rule.declaration h)

abbrev option_or : Kind × ℕ → Option (Kind × ℕ) → Kind × ℕ
option_or q None = q
option_or q (Some p) = p

module _ (b : ℕ) (names : List Word) (ts after : List Token) (made : Stmt × List Word) where
  without : (z : Sign) (k : Kind) → sees z ts ≡ true → Declared b 0 k names ts made after
      → ((x : Word) (us : List Token) → IsDeclaration b (t.Sign z ∷ t.Sign s.Open ∷ t.Name x ∷ t.Sign s.Close ∷ t.Sign s.Semicolon ∷ us) x k [] us) → IsMade b names ts made after
  without z k here d make =
      let none = inner_none b [] d.extents d.begins (t.Sign s.Close ∷ t.Sign s.Semicolon ∷ after) d.inner in
      let tokens : ts ≡ t.Sign z ∷ t.Sign s.Open ∷ t.Name d.name ∷ t.Sign s.Close ∷ t.Sign s.Semicolon ∷ after = seen z ts _ here (d.tokens ∙ ap (λ (l : List Token). t.Sign s.Open ∷ t.Name d.name ∷ l) none.1) in
      declaration_of b k names ts after made d.name d.extents d.is
      (subst (λ l. IsDeclaration b l d.name k d.extents after) (sym tokens) (subst (λ is. IsDeclaration b (t.Sign z ∷ t.Sign s.Open ∷ t.Name d.name ∷ t.Sign s.Close ∷ t.Sign s.Semicolon ∷ after) d.name k is after) none.0 (make d.name after)))

  with_one : (z : Sign) (k : Kind) → sees z ts ≡ true → Declared b 1 k names ts made after
      → ((x : Word) (us vs : List Token) (i : Index) → IsIndex b us i (t.Sign s.Close ∷ t.Sign s.Semicolon ∷ vs) → IsDeclaration b (t.Sign z ∷ t.Sign s.Open ∷ t.Name x ∷ t.Sign s.Comma ∷ us) x k (i ∷ []) vs) → IsMade b names ts made after
  with_one z k here d make =
      let some = inner_some b 0 [] d.extents d.begins (t.Sign s.Close ∷ t.Sign s.Semicolon ∷ after) d.inner in
      let none = inner_none b (some.extent ∷ []) d.extents some.left (t.Sign s.Close ∷ t.Sign s.Semicolon ∷ after) some.others in
      let tokens : ts ≡ t.Sign z ∷ t.Sign s.Open ∷ t.Name d.name ∷ t.Sign s.Comma ∷ some.begins = seen z ts _ here (d.tokens ∙ ap (λ (l : List Token). t.Sign s.Open ∷ t.Name d.name ∷ l) some.tokens) in
      declaration_of b k names ts after made d.name d.extents d.is
      (subst (λ l. IsDeclaration b l d.name k d.extents after) (sym tokens) (subst (λ is. IsDeclaration b (t.Sign z ∷ t.Sign s.Open ∷ t.Name d.name ∷ t.Sign s.Comma ∷ some.begins) d.name k is after) none.0
      (make d.name some.begins after some.extent (along (IsIndex b) refl refl none.1 some.holds))))

  with_two : (z : Sign) (k : Kind) → sees z ts ≡ true → Declared b 2 k names ts made after
      → ((x : Word) (us vs ws : List Token) (i j : Index) → IsIndex b us i (t.Sign s.Comma ∷ vs) → IsIndex b vs j (t.Sign s.Close ∷ t.Sign s.Semicolon ∷ ws) → IsDeclaration b (t.Sign z ∷ t.Sign s.Open ∷ t.Name x ∷ t.Sign s.Comma ∷ us) x k (i ∷ j ∷ []) ws)
      → IsMade b names ts made after
  with_two z k here d make =
      let one = inner_some b 1 [] d.extents d.begins (t.Sign s.Close ∷ t.Sign s.Semicolon ∷ after) d.inner in
      let two = inner_some b 0 (one.extent ∷ []) d.extents one.left (t.Sign s.Close ∷ t.Sign s.Semicolon ∷ after) one.others in
      let none = inner_none b (one.extent ∷ two.extent ∷ []) d.extents two.left (t.Sign s.Close ∷ t.Sign s.Semicolon ∷ after) two.others in
      let tokens : ts ≡ t.Sign z ∷ t.Sign s.Open ∷ t.Name d.name ∷ t.Sign s.Comma ∷ one.begins = seen z ts _ here (d.tokens ∙ ap (λ (l : List Token). t.Sign s.Open ∷ t.Name d.name ∷ l) one.tokens) in
      declaration_of b k names ts after made d.name d.extents d.is
      (subst (λ l. IsDeclaration b l d.name k d.extents after) (sym tokens) (subst (λ is. IsDeclaration b (t.Sign z ∷ t.Sign s.Open ∷ t.Name d.name ∷ t.Sign s.Comma ∷ one.begins) d.name k is after) none.0
      (make d.name one.begins two.begins after one.extent two.extent (along (IsIndex b) refl refl two.tokens one.holds) (along (IsIndex b) refl refl none.1 two.holds))))

  -- a declaration, by its word
  by_word : (p : Kind × ℕ) → r.declared (first ts) ≡ Some p → r.declaration b p.0 p.1 names ts ≡ Ok (made, after) → IsMade b names ts made after
  by_word p h e =
      elim (chosen (sees s.Index1 ts) _ _ _ h) [
        | inl k ↦ without s.Index1 kind.Position k.0 (declared_is b 0 kind.Position names ts after made (same (kind.Position, 0) (of_some k.1))) (λ x us. rule.index1)
        | inr k ↦ elim (chosen (sees s.Index2 ts) _ _ _ k.1) [
          | inl m ↦ with_one s.Index2 kind.Position m.0 (declared_is b 1 kind.Position names ts after made (same (kind.Position, 1) (of_some m.1))) (λ x us vs i h. rule.index2 h)
          | inr m ↦ elim (chosen (sees s.Data1 ts) _ _ _ m.1) [
            | inl n ↦ without s.Data1 kind.Number n.0 (declared_is b 0 kind.Number names ts after made (same (kind.Number, 0) (of_some n.1))) (λ x us. rule.data1)
            | inr n ↦ elim (chosen (sees s.Data2 ts) _ _ _ n.1) [
              | inl o ↦ with_one s.Data2 kind.Number o.0 (declared_is b 1 kind.Number names ts after made (same (kind.Number, 1) (of_some o.1))) (λ x us vs i h. rule.data2 h)
              | inr o ↦ elim (chosen (sees s.Data3 ts) _ _ _ o.1) [
                | inl q ↦ with_two s.Data3 kind.Number q.0 (declared_is b 2 kind.Number names ts after made (same (kind.Number, 2) (of_some q.1))) (λ x us vs ws i j h l. rule.data3 h l)
                | inr q ↦ absurd cc
              ]
            ]
          ]
        ]
      ]
    where
      same : (q : Kind × ℕ) → q ≡ p → r.declaration b q.0 q.1 names ts ≡ Ok (made, after)
      same q f = subst (λ (z : Kind × ℕ). r.declaration b z.0 z.1 names ts ≡ Ok (made, after)) (sym f) e

      of_some : {q : Kind × ℕ} → Some q ≡ Some p → q ≡ p
      of_some f = ap (option_or p) f

item_sound : (b : ℕ) (names : List Word) (ts after : List Token) (made : Stmt × List Word) → r.item b names ts ≡ Ok (made, after) → IsMade b names ts made after
unfolding r.item
item_sound b names ts after made e = by_declared (r.declared (first ts)) refl e
  where
    by_declared : (o : Option (Kind × ℕ)) → r.declared (first ts) ≡ o → r.item_by b names o ts ≡ Ok (made, after) → IsMade b names ts made after
    by_declared (Some p) h e = by_word b names ts after made p h e
    by_declared None h e =
        let p = bound (statement.statement (inspector names) (suc b) loops guards ts) (λ x. pure (x, names)) _ _ e in
        let v = value_is _ _ _ _ p.second in
        subst (λ z. IsMade b names ts z after) v.0 (subst (λ z. IsItem b names ts p.value names z) v.1 (rule.statement (statement_sound (inspector names) (suc b) loops guards ts p.left p.value p.first)))

-- ---- sections

items_snoc : {b : ℕ} {names middle : List Word} {ts us : List Token} {xs : List Stmt} → AreItems b names ts xs middle us → (behind : List Word) (after : List Token) (x : Stmt) → IsItem b middle us x behind after
    → AreItems b names ts (xs ++ x ∷ []) behind after
items_snoc (rule.one h) behind after x k = rule.more h (rule.one k)
items_snoc (rule.more h others) behind after x k = rule.more h (items_snoc others behind after x k)

abbrev AreMade : ℕ → List Token → r.Items → List Token → Type 0
AreMade b ts found us = AreItems b [] ts found.0 found.1 us

items_are_kept : (b : ℕ) (ts : List Token) → IsKept (r.next_item b) (AreMade b ts)
items_are_kept b ts found us f made after i h e =
    let w = unless (is_sign s.Pragma (first us)) (r.item b found.1 >>= (λ p. pure (found.0 ++ p.0 ∷ [], p.1))) f h in
    let p = bound (r.item b found.1 us) (λ p. pure (found.0 ++ p.0 ∷ [], p.1)) made after (ap (λ (k : Reader r.Items). k us) w ∙ e) in
    let v = value_is _ _ _ _ p.second in
    subst (λ z. AreMade b ts made z) v.1 (subst (λ z. AreMade b ts z p.left) v.0 (items_snoc i p.value.1 p.left p.value.0 (item_sound b found.1 us p.left p.value p.first)))

-- the items of an inspector, and the arrays behind them
record AreInspected (b : ℕ) (ts : List Token) (xs : List Stmt) (after : List Token) : Type 0 where
  pub behind : List Word
  pub holds : AreItems b [] ts xs behind after

items_sound : (b : ℕ) → IsSound (AreInspected b) (r.items b)
unfolding r.items
items_sound b ts after xs e =
    let p = bound (r.item b [] ts) _ _ _ e in
    let q = bound (many (r.next_item b) (p.value.0 ∷ [], p.value.1) p.left) _ _ _ p.second in
    let v = value_is _ _ _ _ q.second in
    let made : AreMade b ts q.value q.left = many_keep (r.next_item b) (AreMade b ts) (items_are_kept b ts) (p.value.0 ∷ [], p.value.1) p.left q.value q.left (rule.one (item_sound b [] ts p.left p.value p.first)) q.first in
    record { behind = q.value.1; holds = subst (λ z. AreItems b [] ts z q.value.1 after) v.0 (subst (λ z. AreItems b [] ts q.value.0 q.value.1 z) v.1 made) }

-- what is read before the executor
data IsBefore (b : ℕ) : List Token → List Stmt → List Token → Type 0 where
  nothing : {ts : List Token} → IsBefore b ts [] ts
  inspected : {ts after : List Token} {xs : List Stmt} {behind : List Word} → AreItems b [] ts xs behind (t.Sign s.Pragma ∷ t.Name (codes "sparse") ∷ t.Name (codes "executor") ∷ after)
      → IsBefore b (t.Sign s.Pragma ∷ t.Name (codes "sparse") ∷ t.Name (codes "inspector") ∷ ts) xs after

three : (x y z : Token) (ts us vs after : List Token) → ts ≡ x ∷ us → us ≡ y ∷ vs → vs ≡ z ∷ after → ts ≡ x ∷ y ∷ z ∷ after
three x y z ts us vs after e f g = cc

inspected_of : (b : ℕ) (ts us middle after : List Token) (xs : List Stmt) → ts ≡ t.Sign s.Pragma ∷ t.Name (codes "sparse") ∷ t.Name (codes "inspector") ∷ us → AreInspected b us xs middle
    → middle ≡ t.Sign s.Pragma ∷ t.Name (codes "sparse") ∷ t.Name (codes "executor") ∷ after → IsBefore b ts xs after
inspected_of b ts us middle after xs e h f = along (IsBefore b) e refl refl (inspected (subst (λ z. AreItems b [] us xs h.behind z) f h.holds))

inspected_sound : (b : ℕ) → IsSound (IsBefore b) (r.inspected b)
unfolding r.inspected
inspected_sound b ts after xs e =
    let pragma = bound (expect s.Pragma ts) _ _ _ e in
    let sparse = bound (word (codes "sparse") pragma.left) _ _ _ pragma.second in
    let here = bound (word (codes "inspector") sparse.left) _ _ _ sparse.second in
    let items = bound (r.items b here.left) _ _ _ here.second in
    let pragma2 = bound (expect s.Pragma items.left) _ _ _ items.second in
    let sparse2 = bound (word (codes "sparse") pragma2.left) _ _ _ pragma2.second in
    let there = bound (word (codes "executor") sparse2.left) _ _ _ sparse2.second in
    let v = value_is _ _ _ _ there.second in
    along (IsBefore b) refl v.0 v.1
    (inspected_of b ts here.left items.left there.left items.value
    (three _ _ _ ts pragma.left sparse.left here.left (expected s.Pragma _ _ _ pragma.first) (word_is _ _ _ _ sparse.first) (word_is _ _ _ _ here.first))
    (items_sound b here.left items.left items.value items.first)
    (three _ _ _ items.left pragma2.left sparse2.left there.left (expected s.Pragma _ _ _ pragma2.first) (word_is _ _ _ _ sparse2.first) (word_is _ _ _ _ there.first)))

inspector_if_any_sound : (b : ℕ) → IsSound (IsBefore b) (r.inspector_if_any b)
unfolding r.inspector_if_any
inspector_if_any_sound b ts after xs e =
    elim (chosen (sees s.Pragma ts) _ _ _ e) [
      | inl h ↦ inspected_sound b ts after xs h.1
      | inr h ↦ let v = value_is _ _ _ _ h.1 in along (IsBefore b) refl v.0 v.1 nothing
    ]

sections_of : {b : ℕ} {ts middle : List Token} {xs : List Stmt} → IsBefore b ts xs middle → (after : List Token) (ys : List Stmt) → AreStatements executor (suc b) loops guards middle ys after → AreSections b ts xs ys after
sections_of nothing after ys h = rule.alone h
sections_of (inspected k) after ys h = rule.both k h

executed_sound : (b : ℕ) → IsSound (AreStatements executor b loops guards) (r.executed b)
unfolding r.executed
executed_sound b ts after xs e = statements_sound executor b loops guards ts after xs e

-- ---- programs

-- what follows the bracket behind a procedure's name
record IsProcedure (matrices : List Matrix) (x : Word) (ts : List Token) (p : Program) (after : List Token) : Type 0 where
  pub begins : List Token
  pub found : Signature
  pub xs : List Stmt
  pub ys : List Stmt
  pub parameters : AreParameters brackets ts found.params found.arrays (t.Sign s.Close ∷ t.Sign s.OpenBrace ∷ begins)
  pub sections : AreSections brackets begins xs ys (t.Sign s.CloseBrace ∷ after)
  pub is : p ≡ record { name = x; matrices = matrices; params = found.params; arrays = found.arrays; inspector = xs; executor = ys }

procedure_sound : (matrices : List Matrix) (x : Word) → IsSound (IsProcedure matrices x) (r.procedure matrices x)
unfolding r.procedure
procedure_sound matrices x ts after p e =
    let found = bound (r.parameters brackets ts) _ _ _ e in
    let close = bound (expect s.Close found.left) _ _ _ found.second in
    let brace = bound (expect s.OpenBrace close.left) _ _ _ close.second in
    let xs = bound (r.inspector_if_any brackets brace.left) _ _ _ brace.second in
    let ys = bound (r.executed (suc brackets) xs.left) _ _ _ xs.second in
    let end = bound (expect s.CloseBrace ys.left) _ _ _ ys.second in
    let v = value_is _ _ _ _ end.second in
    record {
      begins = brace.left;
      found = found.value;
      xs = xs.value;
      ys = ys.value;
      parameters = subst (λ z. AreParameters brackets ts found.value.params found.value.arrays z) (expected s.Close _ _ _ close.first ∙ ap (λ (z : List Token). t.Sign s.Close ∷ z) (expected s.OpenBrace _ _ _ brace.first))
          (parameters_sound brackets ts found.left found.value found.first);
      sections = sections_of (inspector_if_any_sound brackets brace.left xs.left xs.value xs.first) (t.Sign s.CloseBrace ∷ after) ys.value
          (along (AreStatements executor (suc brackets) loops guards) refl refl (expected s.CloseBrace _ _ _ end.first ∙ ap (λ (z : List Token). t.Sign s.CloseBrace ∷ z) v.1) (executed_sound (suc brackets) xs.left ys.left ys.value ys.first));
      is = sym v.0;
    }

program_of : (ts us middle : List Token) (matrices : List Matrix) (x : Word) (p : Program) → AreMatrices ts matrices middle → middle ≡ t.Sign s.Void ∷ t.Name x ∷ t.Sign s.Open ∷ us → IsProcedure matrices x us p [] → IsProgram ts p
program_of ts us middle matrices x p h e k = subst (λ z. IsProgram ts z) (sym k.is) (rule.program (along AreMatrices refl refl e h) k.parameters k.sections)

-- what is read, all of it, is a text of the grammar
pub program_sound : (ts : List Token) (p : Program) → r.program ts ≡ Ok (p, []) → IsProgram ts p
unfolding r.program
program_sound ts p e =
    let matrices = bound (r.matrices ts) _ _ _ e in
    let void = bound (expect s.Void matrices.left) _ _ _ matrices.second in
    let x = bound (name void.left) _ _ _ void.second in
    let open_ = bound (expect s.Open x.left) _ _ _ x.second in
    program_of ts open_.left matrices.left matrices.value x.value p (matrices_sound ts matrices.left matrices.value matrices.first)
    (three _ _ _ matrices.left void.left x.left open_.left (expected s.Void _ _ _ void.first) (name_is _ _ _ x.first) (expected s.Open _ _ _ open_.first))
    (procedure_sound matrices.value x.value open_.left [] p open_.second)
