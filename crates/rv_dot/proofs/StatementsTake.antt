-- What is read is spelled so: statements and files.
use Rattle.std.proofs.Common.{◌≡◌, ℕ, ◌<◌, Bool, eqb, List, [], ◌∷◌, ◌++◌, length, Option, Some, None, cond, sym, ap, ◌∙◌, append_assoc, arith, inl, inr}
use Rattle.std.specs.Prelude.{map, codes}
use Rattle.std.specs.List.{flat_map, AllByRecursion}
use Rattle.std.specs.Str.{bytes_eq}
use Rattle.std.proofs.lemmas.Option.{same_Some}
use Rattle.std.specs.Cmp.Lexicographic.{bytes_decides}
use Rattle.rv_dot.specs.declared.token.Mark.TheVariants.{OpenBrace, CloseBrace, OpenBracket, CloseBracket, Equals, Semicolon, Arrow}
use Rattle.rv_dot.specs.Tokens.{Lexeme, sign, word}
use Rattle.rv_dot.specs.Marks.{begins, expects, past_mark, is_assignment}
use Rattle.rv_dot.specs.Names.{name_of}
use Rattle.rv_dot.specs.Lists.{front_word, value_at, name_at, attribute_at, items_at, bracket_at, names_at}
use Rattle.rv_dot.specs.Statements.{Claim, declares, leads, value_held, optional_bracket_at, declared_at, ranked_at, group_at, assignment_at, edge_at, named_at, statement_at, statements_at}
use Rattle.rv_dot.specs.Grammar.{semicolon, inside, optional_bracket, Group, group, Statement, assigns, declaration, rank, node, edge, statement, with_semicolon, IsName, IsStatement, statement_claims}
use Rattle.rv_dot.proofs.MarkLaws.{bind_some, chosen, expects_takes, begins_takes, semicolon_takes}
use Rattle.rv_dot.proofs.ListsTake.{word_takes, value_takes, name_takes, attribute_takes, bracket_takes, optional_bracket_takes, group_takes}
use Rattle.rv_dot.proofs.StatementsAgain.{declared_each}
use Rattle.rv_dot.proofs.Items.{Takes, items_take}

-- a statement was read off the front
abbrev pub Took : List Lexeme → List Claim × List Lexeme → Type 0
Took tokens x = (s : Statement) × IsStatement s × (tokens ≡ statement s ++ x.1) × (statement_claims s ≡ x.0)

-- the tokens behind
abbrev behind_of : List Claim × List Lexeme → List Lexeme
behind_of y = y.1

-- what was said
abbrev claims_in : List Claim × List Lexeme → List Claim
claims_in y = y.0

-- what is read of tokens is read of them however they are written
respelled : (tokens tokens' : List Lexeme) (x : List Claim × List Lexeme) → tokens ≡ tokens' → Took tokens' x → Took tokens x
respelled tokens tokens' x same took = (took.0, took.1, same ∙ took.2, took.3)

-- what is read so is spelled so: assignment
assignment_takes : (tokens : List Lexeme) (x : List Claim × List Lexeme) → assignment_at tokens ≡ Some x → Took tokens x
unfolding assignment_at
assignment_takes tokens x h =
    let read = bind_some (attribute_at tokens) _ x h in
    let e = same_Some _ x read.2 in
    let spelled = attribute_takes tokens read.0 read.1 in
    (assigns read.0.0.key read.0.0.value, spelled.1, spelled.0 ∙ ap (λ (y : List Claim × List Lexeme). word read.0.0.key ∷ sign Equals ∷ read.0.0.value ∷ y.1) e, ap claims_in e)

-- what is read so is spelled so: edge
edge_takes : (from : Lexeme) (tokens : List Lexeme) (x : List Claim × List Lexeme) → IsName from → edge_at from tokens ≡ Some x → Took (from ∷ sign Arrow ∷ tokens) x
unfolding edge_at
edge_takes from tokens x k h =
    let to = bind_some (name_at tokens) _ x h in
    let label = bind_some (optional_bracket_at (codes "label") to.0.1) _ x to.2 in
    let e = same_Some _ x label.2 in
    let t = name_takes tokens to.0 to.1 in
    let b = optional_bracket_takes (codes "label") to.0.1 label.0 label.1 in (
      edge from to.0.0 b.0,
      (k, t.1, b.1),
      ap (λ (ts : List Lexeme). from ∷ sign Arrow ∷ ts) (t.0 ∙ ap (λ (ts : List Lexeme). to.0.0 ∷ ts) (b.2 ∙ ap (λ (y : List Claim × List Lexeme). optional_bracket b.0 ++ y.1) e)),
      ap (λ (l : Option Lexeme). leads (name_of from) (name_of to.0.0) (value_held l) ∷ []) b.3 ∙ ap claims_in e,
    )

-- what is read so is spelled so: named
named_takes : (tokens : List Lexeme) (x : List Claim × List Lexeme) → named_at tokens ≡ Some x → Took tokens x
unfolding named_at
named_takes tokens x h =
    let from = bind_some (name_at tokens) _ x h in
    let f = name_takes tokens from.0 from.1 in
    elim (chosen (begins Arrow from.0.1) _ _ (Some x) from.2) [
      | inl p ↦ respelled tokens _ x (f.0 ∙ ap (λ (ts : List Lexeme). from.0.0 ∷ ts) (begins_takes Arrow from.0.1 p.0)) (edge_takes from.0.0 (past_mark Arrow from.0.1) x f.1 p.1)
      | inr p ↦
          let ignored = bind_some (optional_bracket_at [] from.0.1) _ x p.1 in
          let e = same_Some _ x ignored.2 in
          let b = optional_bracket_takes [] from.0.1 ignored.0 ignored.1 in
          (node from.0.0 b.0, (f.1, b.1), f.0 ∙ ap (λ (ts : List Lexeme). from.0.0 ∷ ts) (b.2 ∙ ap (λ (y : List Claim × List Lexeme). optional_bracket b.0 ++ y.1) e), ap claims_in e)
    ]

-- a group that is read has a name
some_name : {A : Type 0} (g : Group) (x y : A) → cond (eqb (length (map (λ n. n.0) g)) 0) None (Some x) ≡ Some y → 0 < length g
some_name [] x y h = absurd (cc)
some_name (n ∷ g) x y h = omega arith

-- what is read so is spelled so: declared
declared_takes : (tokens : List Lexeme) (x : List Claim × List Lexeme) → declared_at tokens ≡ Some x → Took (sign OpenBrace ∷ word (codes "node") ∷ tokens) x
unfolding declared_at
declared_takes tokens x h =
    let behind = bind_some (expects OpenBracket tokens) _ x h in
    let shape = bind_some (bracket_at (codes "shape") behind.0) _ x behind.2 in
    let names = bind_some (names_at shape.0.1) _ x shape.2 in
    let b = bracket_takes (codes "shape") behind.0 shape.0 shape.1 in
    let g = group_takes shape.0.1 names.0 names.1 in
    let said = map (λ name. declares (name_of name) (value_held shape.0.0)) names.0.0 in
    let guarded : cond (eqb (length (map (λ (n : Lexeme × Bool). n.0) g.0)) 0) None (Some (said, names.0.1)) ≡ Some x = rw g.3 names.2 in
    let some : 0 < length g.0 = some_name g.0 (said, names.0.1) x guarded in
    elim (chosen (eqb (length names.0.0) 0) None (Some (said, names.0.1)) (Some x) names.2) [
      | inl p ↦ absurd (cc)
      | inr p ↦
          let e = same_Some (said, names.0.1) x p.1 in (
            declaration b.0 g.0,
            (b.1, g.1, some),
            ap (λ (ts : List Lexeme). sign OpenBrace ∷ word (codes "node") ∷ ts)
                (expects_takes OpenBracket tokens behind.0 behind.1 ∙ ap (λ (ts : List Lexeme). sign OpenBracket ∷ ts)
                (b.2 ∙ ap (λ (ts : List Lexeme). inside b.0 ++ sign CloseBracket ∷ ts) (g.2 ∙ ap (λ (y : List Claim × List Lexeme). group g.0 ++ y.1) e)
                ∙ sym (append_assoc (inside b.0 ++ sign CloseBracket ∷ []) (group g.0) x.1 ∙ append_assoc (inside b.0) (sign CloseBracket ∷ []) (group g.0 ++ x.1)))),
            ap (λ (o : Option Lexeme). map (λ (n : Lexeme × Bool). declares (name_of n.0) (value_held o)) g.0) b.3 ∙ sym (declared_each g.0 shape.0.0) ∙ ap (λ (ns : List Lexeme). map (λ (name : Lexeme). declares (name_of name) (value_held shape.0.0)) ns) g.3 ∙ ap claims_in e,
          )
    ]

-- what is read so is spelled so: ranked
ranked_takes : (key : List ℕ) (tokens : List Lexeme) (x : List Claim × List Lexeme) → ranked_at tokens ≡ Some x → Took (sign OpenBrace ∷ word key ∷ sign Equals ∷ tokens) x
unfolding ranked_at
ranked_takes key tokens x h =
    let value = bind_some (value_at tokens) _ x h in
    let names = bind_some (names_at (past_mark Semicolon value.0.1)) _ x value.2 in
    let e = same_Some _ x names.2 in
    let v = value_takes tokens value.0 value.1 in
    let s = semicolon_takes value.0.1 in
    let g = group_takes (past_mark Semicolon value.0.1) names.0 names.1 in (
      rank key value.0.0 s.0 g.0,
      (v.1, g.1),
      ap (λ (ts : List Lexeme). sign OpenBrace ∷ word key ∷ sign Equals ∷ ts)
          (v.0 ∙ ap (λ (ts : List Lexeme). value.0.0 ∷ ts)
          (s.1 ∙ ap (λ (ts : List Lexeme). semicolon s.0 ++ ts) (g.2 ∙ ap (λ (y : List Claim × List Lexeme). group g.0 ++ y.1) e) ∙ sym (append_assoc (semicolon s.0) (group g.0) x.1))),
      ap claims_in e,
    )

-- what is read so is spelled so: group statement
group_statement_takes : (tokens : List Lexeme) (x : List Claim × List Lexeme) → group_at tokens ≡ Some x → Took (sign OpenBrace ∷ tokens) x
unfolding group_at
group_statement_takes tokens x h =
    let head = bind_some (front_word tokens) _ x h in
    let w = word_takes tokens head.0 head.1 in
    elim (chosen (begins Equals head.0.1) _ _ (Some x) head.2) [
      | inl p ↦ respelled (sign OpenBrace ∷ tokens) _ x (ap (λ (ts : List Lexeme). sign OpenBrace ∷ ts) (w ∙ ap (λ (ts : List Lexeme). word head.0.0 ∷ ts) (begins_takes Equals head.0.1 p.0))) (ranked_takes head.0.0 (past_mark Equals head.0.1) x p.1)
      | inr p ↦
          elim (chosen (bytes_eq head.0.0 (codes "node")) _ _ (Some x) p.1) [
            | inl q ↦
                let is_node = (bytes_decides head.0.0 (codes "node")).0 q.0 in
                respelled (sign OpenBrace ∷ tokens) _ x (ap (λ (ts : List Lexeme). sign OpenBrace ∷ ts) (w ∙ ap (λ (k : List ℕ). word k ∷ head.0.1) is_node)) (declared_takes head.0.1 x q.1)
            | inr q ↦ absurd (cc)
          ]
    ]

-- what is read so is spelled so: statement
statement_takes : (tokens : List Lexeme) (x : List Claim × List Lexeme) → statement_at tokens ≡ Some x → Took tokens x
unfolding statement_at
statement_takes tokens x h =
    elim (chosen (begins OpenBrace tokens) _ _ (Some x) h) [
      | inl p ↦ respelled tokens _ x (begins_takes OpenBrace tokens p.0) (group_statement_takes (past_mark OpenBrace tokens) x p.1)
      | inr p ↦
          elim (chosen (is_assignment tokens) _ _ (Some x) p.1) [
            | inl q ↦ assignment_takes tokens x q.1
            | inr q ↦ named_takes tokens x q.1
          ]
    ]

-- a statement among others
statement_item_takes : Takes CloseBrace statement_at (past_mark Semicolon) with_semicolon (λ s. statement_claims s.0) (λ s. IsStatement s.0)
statement_item_takes tokens x h =
    let took = statement_takes tokens x h in
    let s = semicolon_takes x.1 in
    ((took.0, s.0), took.1, took.2 ∙ ap (λ (ts : List Lexeme). statement took.0 ++ ts) s.1 ∙ sym (append_assoc (statement took.0) (semicolon s.0) (past_mark Semicolon x.1)), took.3)

-- what is read so is spelled so: statements
pub statements_take : (tokens : List Lexeme) (x : List Claim × List Lexeme) → statements_at tokens ≡ Some x
    → (ss : List (Statement × Bool)) × AllByRecursion (λ s. IsStatement s.0) ss × (tokens ≡ flat_map with_semicolon ss ++ sign CloseBrace ∷ x.1) × (flat_map (λ s. statement_claims s.0) ss ≡ x.0)
unfolding items_at
statements_take tokens x h = items_take CloseBrace statement_at (past_mark Semicolon) with_semicolon (λ s. statement_claims s.0) (λ s. IsStatement s.0) statement_item_takes (length tokens) tokens x h
