-- What is read is of the grammar, and what is of the grammar is read.
use Rattle.std.proofs.Common.{◌≡◌, ℕ, zero, suc, ◌+◌, ◌-◌, ◌<◌, ◌≤◌, Bool, true, false, List, [], ◌∷◌, ◌++◌, drop, Option, Some, None, refl, sym, ap, subst, ◌∙◌, append_assoc, arith}
use Rattle.rv_ltl.specs.declared.token.Token.{Token}
use Rattle.rv_ltl.specs.declared.token.Token.TheVariants as token
use Rattle.rv_ltl.specs.declared.token.Binary.{Binary}
use Rattle.rv_ltl.specs.declared.token.Binary.TheVariants.{And}
use Rattle.rv_ltl.specs.Grammar.{Expr, Paren, One, Two, Place, Whole, Chain, spell, Fits}
use Rattle.rv_ltl.specs.Parse.{Reader, operator, chain_at, term_at, expr_by, after_term, closed, is_close}
use Rattle.rv_ltl.specs.Operators.{is_same_operator, joins}
use Rattle.rv_ltl.proofs.ChainSteps.{chain_end, chain_full, chain_other, chain_more}
use Rattle.rv_ltl.proofs.OperatorLaws.{bind_some, close_is, operator_is, same_is, test_some}

-- what a reader took from the front
pub record Takes (depth : ℕ) (place : Place) (marks : List Token) (e : Expr) (rest : List Token) : Type 0 where
  pub text : marks ≡ spell e ++ rest
  pub fits : Fits depth place e

-- what the reader reads fits the place, and the tokens that it took spell it
abbrev pub Sound : ℕ → Place → Reader → Type 0
Sound depth place read = (marks : List Token) (e : Expr) (rest : List Token) → read marks ≡ Some (e, rest) → Takes depth place marks e rest

-- a chain may be of fewer
more_room : (depth : ℕ) (op : Binary) (j k : ℕ) (e : Expr) → j ≤ k → Fits depth (Chain op j) e → Fits depth (Chain op k) e
more_room depth op j k Expr.True le h = tt
more_room depth op j k Expr.False le h = tt
more_room depth op j k (Expr.Name n) le h = tt
more_room depth op j k (Paren e) le h = h
more_room depth op j k (One u e) le h = h
more_room depth op j k (Two o a b) le h = (h.0, omega (arith, h.1), more_room depth op (j - 1) (k - 1) a (omega arith) h.2, h.3)

-- a term is a term whatever the operator, and an expression
as_chain : (depth : ℕ) (op : Binary) (e : Expr) → Fits depth (Chain And 0) e → Fits depth (Chain op 0) e
as_chain depth op Expr.True h = tt
as_chain depth op Expr.False h = tt
as_chain depth op (Expr.Name n) h = tt
as_chain depth op (Paren e) h = h
as_chain depth op (One u e) h = h
as_chain depth op (Two o a b) h = absurd (omega (arith, h.1))

-- a chain is an expression
as_whole : (depth : ℕ) (op : Binary) (e : Expr) → Fits depth (Chain op (joins op)) e → Fits depth Whole e
as_whole depth op Expr.True h = tt
as_whole depth op Expr.False h = tt
as_whole depth op (Expr.Name n) h = tt
as_whole depth op (Paren e) h = h
as_whole depth op (One u e) h = h
as_whole depth op (Two o a b) h =
    let P : Binary → Type 0 = λ p. Fits depth (Chain p (joins p - 1)) a in
    (subst P (sym h.0) h.2, h.3)

-- a term is an expression
term_whole : (depth : ℕ) (e : Expr) → Fits depth (Chain And 0) e → Fits depth Whole e
term_whole depth e h = as_whole depth And e (more_room depth And 0 (joins And) e (omega arith) h)

-- how a chain was read: it ended here, or one more operand was read
data Went (read : Reader) (op : Binary) (n : ℕ) (left : Expr) (marks : List Token) (e : Expr) (rest : List Token) : Type 0 where
  Ended : left ≡ e → marks ≡ rest → Went read op n left marks e rest
  More : (right : Expr) (after : List Token) → marks ≡ token.Binary op ∷ drop 1 marks → 0 < n → read (drop 1 marks) ≡ Some (right, after)
      → chain_at read op (n - 1) (Two op left right) after ≡ Some (e, rest) → Went read op n left marks e rest

-- a tree and the tokens that are left, as what was read
abbrev pub got : Expr → List Token → Option (Expr × List Token)
got e rest = Some (e, rest)

-- where two readings are the same, so are their trees and the tokens that are left
some_pair : (a c : Expr) (b d : List Token) → got a b ≡ got c d → (a ≡ c) × (b ≡ d)
some_pair a c b d e =
    let first : Option (Expr × List Token) → Expr = λ o. elim o [ None ↦ a | Some x ↦ x.0 ] in
    let second : Option (Expr × List Token) → List Token = λ o. elim o [ None ↦ b | Some x ↦ x.1 ] in
    (ap first e, ap second e)

-- a chain that was read and has its operator in front read one more operand
went_more : (read : Reader) (op other : Binary) (n : ℕ) (left : Expr) (marks : List Token) (e : Expr) (rest : List Token) → operator marks ≡ Some other → is_same_operator op other ≡ true → 0 < n
    → chain_at read op n left marks ≡ Some (e, rest) → Went read op n left marks e rest
went_more read op other n left marks e rest o s lt h =
    let b = bind_some (read (drop 1 marks)) (λ (x : Expr × List Token). chain_at read op (n - 1) (Two op left x.0) x.1) (e, rest) (sym (chain_more read op other n left marks o s lt) ∙ h) in
    More b.0.0 b.0.1 (operator_is marks op (o ∙ ap (λ (p : Binary). Some p) (same_is op other s))) lt b.1 b.2

-- a chain that was read ended or read one more operand, whatever is in front
went_with : (read : Reader) (op : Binary) (n : ℕ) (left : Expr) (marks : List Token) (e : Expr) (rest : List Token) (o : Option Binary) → operator marks ≡ o → chain_at read op n left marks ≡ Some (e, rest) → Went read op n left marks e rest
went_with read op n left marks e rest None o h =
    let p = some_pair left e marks rest (sym (chain_end read op n left marks o) ∙ h) in
    Ended p.0 p.1
went_with read op zero left marks e rest (Some other) o h =
    let p : None ≡ got e rest = sym (chain_full read op other left marks o) ∙ h in
    absurd cc
went_with read op (suc n) left marks e rest (Some other) o h = went_same read op other n left marks e rest o h (is_same_operator op other) refl
  where
    went_same : (read : Reader) (op other : Binary) (n : ℕ) (left : Expr) (marks : List Token) (e : Expr) (rest : List Token) → operator marks ≡ Some other → chain_at read op (suc n) left marks ≡ Some (e, rest)
        → (b : Bool) → is_same_operator op other ≡ b → Went read op (suc n) left marks e rest
    went_same read op other n left marks e rest o h true s = went_more read op other (suc n) left marks e rest o s (omega arith) h
    went_same read op other n left marks e rest o h false s =
        let p : None ≡ got e rest = sym (chain_other read op other (suc n) left marks o s) ∙ h in
        absurd cc

-- a chain that was read ended here, or read one more operand
went : (read : Reader) (op : Binary) (n : ℕ) (left : Expr) (marks : List Token) (e : Expr) (rest : List Token) → chain_at read op n left marks ≡ Some (e, rest) → Went read op n left marks e rest
went read op n left marks e rest h = went_with read op n left marks e rest (operator marks) refl h

-- the tree is a chain, and spells what was read before and the tokens that were taken after it
abbrev Chained : ℕ → Binary → Expr → List Token → Expr → List Token → Type 0
Chained depth op left marks e rest = (spell left ++ marks ≡ spell e ++ rest) × Fits depth (Chain op (joins op)) e

-- what a chain reads, by how often the operator may still stand
chain_sound : (depth : ℕ) (read : Reader) → Sound depth (Chain And 0) read → (op : Binary) (n j : ℕ) (left : Expr) (marks : List Token) (e : Expr) (rest : List Token) → j + n ≤ joins op
    → Fits depth (Chain op j) left → Went read op n left marks e rest → Chained depth op left marks e rest
chain_sound depth read sound op n j left marks e rest room fits (Ended p q) =
    let fits' : Fits depth (Chain op (joins op)) left = more_room depth op j (joins op) left (omega arith) fits in
    let F : Expr → Type 0 = λ x. Fits depth (Chain op (joins op)) x in
    (ap (λ (x : Expr). spell x ++ marks) p ∙ ap (λ (m : List Token). spell e ++ m) q, subst F p fits')
chain_sound depth read sound op zero j left marks e rest room fits (More right after m lt r c) = absurd (omega arith)
chain_sound depth read sound op (suc n) j left marks e rest room fits (More right after m lt r c) =
    let t = sound (drop 1 marks) right after r in
    let two : Fits depth (Chain op (suc j)) (Two op left right) = (refl, omega arith, more_room depth op j (suc j - 1) left (omega arith) fits, t.fits) in
    let k : suc n - 1 ≡ n = omega arith in
    let c' : chain_at read op n (Two op left right) after ≡ Some (e, rest) = rw k at c in
    let ih = chain_sound depth read sound op n (suc j) (Two op left right) after e rest (omega arith) two (went read op n (Two op left right) after e rest c') in
    (ap (λ (x : List Token). spell left ++ x) (m ∙ ap (λ (x : List Token). token.Binary op ∷ x) t.text) ∙ sym (append_assoc (spell left) (token.Binary op ∷ spell right) after) ∙ ih.0, ih.1)

-- an expression, over what reads its terms
expr_with : (depth : ℕ) (read : Reader) → Sound depth (Chain And 0) read → (first : Expr) (marks : List Token) (e : Expr) (rest : List Token) → Fits depth (Chain And 0) first → (o : Option Binary) → operator marks ≡ o
    → after_term read first marks ≡ Some (e, rest) → (spell first ++ marks ≡ spell e ++ rest) × Fits depth Whole e
expr_with depth read sound first marks e rest fits None o h =
    let h' : got first marks ≡ got e rest = rw (o, after_term) at h in
    let p = some_pair first e marks rest h' in
    let F : Expr → Type 0 = λ x. Fits depth Whole x in
    (ap (λ (x : Expr). spell x ++ marks) p.0 ∙ ap (λ (m : List Token). spell e ++ m) p.1, subst F p.0 (term_whole depth first fits))
expr_with depth read sound first marks e rest fits (Some op) o h =
    let h' : chain_at read op (joins op) first marks ≡ got e rest = rw (o, after_term) at h in
    let c = chain_sound depth read sound op (joins op) 0 first marks e rest (omega arith) (as_chain depth op first fits) (went read op (joins op) first marks e rest h') in
    (c.0, as_whole depth op e c.1)

-- where terms are read soundly, so are expressions
expr_sound : (depth : ℕ) (read : Reader) → Sound depth (Chain And 0) read → Sound depth Whole (expr_by read)
expr_sound depth read sound marks e rest h =
    let b = bind_some (read marks) (λ (x : Expr × List Token). after_term read x.0 x.1) (e, rest) h in
    let t = sound marks b.0.0 b.0.1 b.1 in
    let w = expr_with depth read sound b.0.0 b.0.1 e rest t.fits (operator b.0.1) refl b.2 in
    record { text = t.text ∙ w.0; fits = w.1 }

-- a tree of one token takes that token
one_takes : (depth : ℕ) (place : Place) (mark : Token) (a e : Expr) (marks rest : List Token) → spell a ≡ mark ∷ [] → Fits depth place a → got a marks ≡ got e rest → Takes depth place (mark ∷ marks) e rest
one_takes depth place mark a e marks rest s f h =
    let p = some_pair a e marks rest h in
    let F : Expr → Type 0 = λ x. Fits depth place x in
    record {
      text = ap (λ (m : List Token). m ++ marks) (sym s) ∙ ap (λ (x : Expr). spell x ++ marks) p.0 ∙ ap (λ (m : List Token). spell e ++ m) p.1;
      fits = subst F p.0 f;
    }

-- what is read as a term is a term, and its tokens spell it
pub term_sound : (depth : ℕ) → Sound depth (Chain And 0) (term_at depth)
unfolding term_at
term_sound zero [] e rest h = absurd cc
term_sound zero (token.True ∷ marks) e rest h = one_takes 0 (Chain And 0) token.True Expr.True e marks rest refl tt h
term_sound zero (token.False ∷ marks) e rest h = one_takes 0 (Chain And 0) token.False Expr.False e marks rest refl tt h
term_sound zero (token.Name n ∷ marks) e rest h = one_takes 0 (Chain And 0) (token.Name n) (Expr.Name n) e marks rest refl tt h
term_sound zero (token.Open ∷ marks) e rest h = absurd cc
term_sound zero (token.Close ∷ marks) e rest h = absurd cc
term_sound zero (token.Equals ∷ marks) e rest h = absurd cc
term_sound zero (token.Unary u ∷ marks) e rest h = absurd cc
term_sound zero (token.Binary b ∷ marks) e rest h = absurd cc
term_sound (suc n) [] e rest h = absurd cc
term_sound (suc n) (token.True ∷ marks) e rest h = one_takes (suc n) (Chain And 0) token.True Expr.True e marks rest refl tt h
term_sound (suc n) (token.False ∷ marks) e rest h = one_takes (suc n) (Chain And 0) token.False Expr.False e marks rest refl tt h
term_sound (suc n) (token.Name m ∷ marks) e rest h = one_takes (suc n) (Chain And 0) (token.Name m) (Expr.Name m) e marks rest refl tt h
term_sound (suc n) (token.Close ∷ marks) e rest h = absurd cc
term_sound (suc n) (token.Equals ∷ marks) e rest h = absurd cc
term_sound (suc n) (token.Binary b ∷ marks) e rest h = absurd cc
term_sound (suc n) (token.Unary u ∷ marks) e rest h =
    let b = bind_some (term_at n marks) (λ (x : Expr × List Token). Some (One u x.0, x.1)) (e, rest) h in
    let t = term_sound n marks b.0.0 b.0.1 b.1 in
    let p = some_pair (One u b.0.0) e b.0.1 rest b.2 in
    let k : suc n - 1 ≡ n = omega arith in
    let f : Fits (suc n) (Chain And 0) (One u b.0.0) = (omega arith, rw k t.fits) in
    let F : Expr → Type 0 = λ x. Fits (suc n) (Chain And 0) x in
    record {
      text = ap (λ (m : List Token). token.Unary u ∷ m) t.text ∙ ap (λ (x : Expr). spell x ++ b.0.1) p.0 ∙ ap (λ (m : List Token). spell e ++ m) p.1;
      fits = subst F p.0 f;
    }
term_sound (suc n) (token.Open ∷ marks) e rest h =
    let b = bind_some (expr_by (term_at n) marks) (λ (x : Expr × List Token). closed x.0 x.1) (e, rest) h in
    let t = expr_sound n (term_at n) (term_sound n) marks b.0.0 b.0.1 b.1 in
    let c = test_some (is_close b.0.1) (Some (Paren b.0.0, drop 1 b.0.1)) (e, rest) b.2 in
    let p = some_pair (Paren b.0.0) e (drop 1 b.0.1) rest c.1 in
    let k : suc n - 1 ≡ n = omega arith in
    let f : Fits (suc n) (Chain And 0) (Paren b.0.0) = (omega arith, rw k t.fits) in
    let F : Expr → Type 0 = λ x. Fits (suc n) (Chain And 0) x in
    record {
      text = ap (λ (m : List Token). token.Open ∷ m) (t.text ∙ ap (λ (m : List Token). spell b.0.0 ++ m) (close_is b.0.1 c.0) ∙ sym (append_assoc (spell b.0.0) (token.Close ∷ []) (drop 1 b.0.1)))
          ∙ ap (λ (x : Expr). spell x ++ drop 1 b.0.1) p.0 ∙ ap (λ (m : List Token). spell e ++ m) p.1;
      fits = subst F p.0 f;
    }

-- what is read as an expression is an expression, and its tokens spell it
pub whole_sound : (depth : ℕ) → Sound depth Whole (expr_by (term_at depth))
whole_sound depth = expr_sound depth (term_at depth) (term_sound depth)
