-- Reading into postfix code.
use Rattle.std.proofs.Common.{◌≡◌, ℕ, ◌-◌, ◌<◌, true, false, List, [], ◌∷◌, ◌++◌, drop, Option, Some, None, sym, ap, ◌∙◌, append_assoc}
use Rattle.rv_ltl.specs.declared.token.Token.{Token}
use Rattle.rv_ltl.specs.declared.token.Token.TheVariants as token
use Rattle.rv_ltl.specs.declared.token.Unary.{Unary}
use Rattle.rv_ltl.specs.declared.token.Binary.{Binary}
use Rattle.rv_ltl.specs.declared.token.CodeStep.{CodeStep}
use Rattle.rv_ltl.specs.declared.token.CodeStep.TheVariants as steps
use Rattle.rv_ltl.specs.Grammar.{Expr, Paren, One, Two}
use Rattle.rv_ltl.specs.Parse.{operator, is_close, chain_at, term_at, expr_by}
use Rattle.rv_ltl.specs.inner.Fronts.{front}
use Rattle.rv_ltl.specs.Operators.{is_same_operator}
use Rattle.std.specs.Prelude.{map, Result, Ok, Err}
use Rattle.std.specs.Borrow.{Bor}
use Rattle.rv_text.specs.declared.unread.Unread.{Unread}
use Rattle.rv_text.specs.declared.unread.Unread.TheVariants.{Memory, Syntax}
use Rattle.std.proofs.lemmas.List.{map_push}
use Rattle.rv_ltl.specs.declared.definitions.Definition.{Definition}
use Rattle.rv_ltl.specs.File.{Def}
use Rattle.rv_ltl.specs.inner.Postfix.{code, coded, Appends, PutsStep, Coded, coded_def, seen, AreCodes}
use Rattle.rv_ltl.proofs.ChainSteps.{chain_step, paren_at, unary_at, leaf_at, closed_yes, closed_no}

-- a tree was read up to the rest, and its code stands behind the old code
pub record Read (old new : List CodeStep) (read : Option (Expr × List Token)) (rest : List Token) : Type 0 where
  pub tree : Expr
  pub is : read ≡ Some (tree, rest)
  pub text : new ≡ old ++ code tree

-- code and the tokens that are left, as what was read
abbrev pair : List CodeStep → List Token → Option (List CodeStep × List Token)
pair a b = Some (a, b)

-- where code was made behind the old code, a tree was read, and it is that tree's code
pub coded_some : (old new : List CodeStep) (read : Option (Expr × List Token)) (rest : List Token) → coded old read ≡ pair new rest → Read old new read rest
coded_some old new None rest h = absurd cc
coded_some old new (Some x) rest h =
    let first : Option (List CodeStep × List Token) → List CodeStep = λ o. elim o [ None ↦ old | Some y ↦ y.0 ] in
    let second : Option (List CodeStep × List Token) → List Token = λ o. elim o [ None ↦ rest | Some y ↦ y.1 ] in
    record { tree = x.0; is = ap (λ (r : List Token). Some (x.0, r)) (ap second h); text = sym (ap first h) }

-- where a tree is read, its code is made behind the old code
pub some_coded : (old new : List CodeStep) (read : Option (Expr × List Token)) (e : Expr) (rest : List Token) → read ≡ Some (e, rest) → new ≡ old ++ code e → coded old read ≡ pair new rest
some_coded old new read e rest h n = ap (λ (o : Option (Expr × List Token)). coded old o) h ∙ ap (λ (x : List CodeStep). pair x rest) (sym n)

-- an expression in parentheses is read as a term with the code of that expression
pub post_paren : (depth : ℕ) (old new : List CodeStep) (marks rest after behind : List Token) → front marks ≡ Some token.Open → rest ≡ drop 1 marks → 0 < depth → coded old (expr_by (term_at (depth - 1)) rest) ≡ pair new after → is_close after ≡ true → behind ≡ drop 1 after
    → coded old (term_at depth marks) ≡ pair new behind
post_paren depth old new marks rest after behind f d lt h c b =
    let r = coded_some old new (expr_by (term_at (depth - 1)) rest) after h in
    some_coded old new (term_at depth marks) (Paren r.tree) behind (paren_at depth r.tree marks rest after f d lt r.is ∙ closed_yes r.tree after c ∙ ap (λ (x : List Token). Some (Paren r.tree, x)) (sym b)) r.text

-- an expression that is opened and not closed is not read as a term
pub post_open : (depth : ℕ) (old new : List CodeStep) (marks rest after : List Token) → front marks ≡ Some token.Open → rest ≡ drop 1 marks → 0 < depth → coded old (expr_by (term_at (depth - 1)) rest) ≡ pair new after → is_close after ≡ false → term_at depth marks ≡ None
post_open depth old new marks rest after f d lt h c =
    let r = coded_some old new (expr_by (term_at (depth - 1)) rest) after h in
    paren_at depth r.tree marks rest after f d lt r.is ∙ closed_no r.tree after c

-- a step went behind the code of a term, so that a term was read whose code ends with it
put_step : (old new last : List CodeStep) (step : CodeStep) (read : Option (Expr × List Token)) (e : Expr) (after : List Token) (result : Result (Bor (List Token)) Unread) → read ≡ Some (e, after) → old ++ code e ≡ new ++ step ∷ [] → PutsStep new last step after result → Appends old last read result
put_step old new last step read e after (Ok rest) r text p = some_coded old last read e rest.now (r ∙ ap (λ (m : List Token). Some (e, m)) (sym p.1)) (p.0 ∙ sym text)
put_step old new last step read e after (Err Memory) r text p = tt
put_step old new last step read e after (Err Syntax) r text p = absurd cc

-- the code of a token that is a term by itself
pub put_leaf : (depth : ℕ) (mark : Token) (e : Expr) (step : CodeStep) (old last : List CodeStep) (marks rest : List Token) (result : Result (Bor (List Token)) Unread) → ((after : List Token) → term_at depth (mark ∷ after) ≡ Some (e, after)) → code e ≡ step ∷ [] → front marks ≡ Some mark → rest ≡ drop 1 marks
    → PutsStep old last step rest result → Appends old last (term_at depth marks) result
put_leaf depth mark e step old last marks rest result alone text f d p = put_step old old last step (term_at depth marks) e rest result (leaf_at depth mark e marks rest alone f d) (ap (λ (x : List CodeStep). old ++ x) text) p

-- a unary operator goes behind the code of the term that it stands before
pub put_unary : (depth : ℕ) (u : Unary) (old new last : List CodeStep) (marks rest after : List Token) (result : Result (Bor (List Token)) Unread) → front marks ≡ Some (token.Unary u) → rest ≡ drop 1 marks → 0 < depth → coded old (term_at (depth - 1) rest) ≡ pair new after
    → PutsStep new last (steps.Unary u) after result → Appends old last (term_at depth marks) result
put_unary depth u old new last marks rest after result f d lt h p =
    let r = coded_some old new (term_at (depth - 1) rest) after h in
    put_step old new last (steps.Unary u) (term_at depth marks) (One u r.tree) after result (unary_at depth u r.tree marks rest after f d lt r.is) (sym (ap (λ (x : List CodeStep). x ++ steps.Unary u ∷ []) r.text ∙ append_assoc old (code r.tree) (steps.Unary u ∷ []))) p

-- the code of one more operand goes behind what was read, and the operator behind that
pub post_more : (depth more : ℕ) (b other : Binary) (e : Expr) (old here new last : List CodeStep) (marks rest after : List Token) (total : Option (Expr × List Token)) → operator marks ≡ Some other → is_same_operator b other ≡ true → 0 < more → rest ≡ drop 1 marks
    → here ≡ old ++ code e → coded here (term_at depth rest) ≡ pair new after → last ≡ new ++ steps.Binary b ∷ [] → chain_at (term_at depth) b more e marks ≡ total
    → (x : Expr) × (last ≡ old ++ code x) × (chain_at (term_at depth) b (more - 1) x after ≡ total)
post_more depth more b other e old here new last marks rest after total o s lt d h c l t =
    let r = coded_some here new (term_at depth rest) after c in
    let step = chain_step (term_at depth) b other more e r.tree marks after o s lt (ap (λ (m : List Token). term_at depth m) (sym d) ∙ r.is) in
    let text : last ≡ old ++ (code e ++ (code r.tree ++ steps.Binary b ∷ [])) =
    l ∙ ap (λ (x : List CodeStep). x ++ steps.Binary b ∷ []) (r.text ∙ ap (λ (x : List CodeStep). x ++ code r.tree) h) ∙ simp append_assoc in
    (Two b e r.tree, text, sym step ∙ t)

-- one definition more, with its code
pub more_codes : (ds : List Def) (definitions : List Definition) (d : Def) (definition : Definition) (new : List Definition) → new ≡ definitions ++ definition ∷ [] → definition.name ≡ d.name → definition.code.items ≡ code d.body
    → AreCodes ds definitions → AreCodes (ds ++ d ∷ []) new
more_codes ds definitions d definition new pushed name same so_far =
    let here : seen definition ≡ coded_def d = ap (λ (x : ℕ). record { name = x; code = definition.code.items }) name ∙ ap (λ (x : List CodeStep). record { name = d.name; code = x }) same in
    ap (map seen) pushed ∙ map_push seen definitions definition ∙ ap (λ (x : List Coded). x ++ seen definition ∷ []) so_far ∙ ap (λ (x : Coded). map coded_def ds ++ x ∷ []) here ∙ sym (map_push coded_def ds d)
