-- What is spelled so is read: statements and files.
use Rattle.std.proofs.Common.{◌≡◌, ℕ, suc, ◌<◌, Bool, true, false, eqb, List, [], ◌∷◌, ◌++◌, length, length-append, Option, Some, None, cond, refl, ap, ◌∙◌, append_assoc, arith}
use Rattle.std.specs.Prelude.{map, codes}
use Rattle.std.specs.List.{flat_map, AllByRecursion}
use Rattle.std.proofs.lemmas.Bool.Decides.{nat_tests}
use Rattle.rv_dot.specs.declared.token.Mark.{Mark}
use Rattle.rv_dot.specs.declared.token.Mark.TheVariants.{OpenBrace, CloseBrace, OpenBracket, CloseBracket, Equals, Semicolon, Arrow}
use Rattle.rv_dot.specs.Tokens.{Lexeme, sign, word, text}
use Rattle.rv_dot.specs.Marks.{begins, expects, past_mark, is_assignment}
use Rattle.rv_dot.specs.Names.{name_of}
use Rattle.rv_dot.specs.Lists.{front_word, attribute_at}
use Rattle.rv_dot.specs.Statements.{Claim, declares, value_held, declared_at, ranked_at, group_at, assignment_at, edge_at, named_at, statement_at, claims_of}
use Rattle.rv_dot.specs.Grammar.{semicolon, Bracket, inside, optional_bracket, Group, group, Statement, assigns, declaration, rank, node, edge, statement, with_semicolon, File, file, IsValue, IsName, IsGroup, IsStatement, IsFile, value_in, statement_claims, file_says}
use Rattle.rv_dot.proofs.MarkLaws.{semicolon_again}
use Rattle.rv_dot.proofs.ListsAgain.{value_again, name_again, name_begins, bracket_again, optional_bracket_again, names_begin, group_again}
use Rattle.rv_dot.proofs.Items.{Again, items_again}

-- what goes on with none of the marks that would belong to the statement before
pub record Follows (rest : List Lexeme) : Type 0 where
  pub no_bracket : begins OpenBracket rest ≡ false
  pub no_arrow : begins Arrow rest ≡ false
  pub no_equals : begins Equals rest ≡ false

-- an optional bracket begins with a bracket or not at all
optional_bracket_begins : (m : Mark) (b : Option Bracket) (rest : List Lexeme) → begins m (sign OpenBracket ∷ []) ≡ false → begins m rest ≡ false → begins m (optional_bracket b ++ rest) ≡ false
unfolding begins
optional_bracket_begins m None rest other apart = apart
optional_bracket_begins m (Some b) rest other apart = other

-- a statement begins with no mark but an opening brace
statement_begins : (m : Mark) (s : Statement) (rest : List Lexeme) → IsStatement s → begins m (sign OpenBrace ∷ []) ≡ false → begins m (statement s ++ rest) ≡ false
unfolding begins
statement_begins m (assigns key value) rest h other = refl
statement_begins m (declaration b g) rest h other = other
statement_begins m (rank key value s g) rest h other = other
statement_begins m (node name b) rest h other = name_begins m name _ h.0
statement_begins m (edge from to b) rest h other = name_begins m from _ h.0

-- no name is an assignment, unless `=` follows
name_assigns : (v : Lexeme) (rest : List Lexeme) → IsName v → begins Equals rest ≡ false → is_assignment (v ∷ rest) ≡ false
unfolding is_assignment
name_assigns (sign m) rest h apart = absurd h
name_assigns (word w) rest h apart = apart
name_assigns (text t) rest h apart = refl

-- each name of a group is declared
pub declared_each : (g : Group) (shape : Option Lexeme) → map (λ name. declares (name_of name) (value_held shape)) (map (λ n. n.0) g) ≡ map (λ n. declares (name_of n.0) (value_held shape)) g
declared_each [] shape = refl
declared_each (n ∷ g) shape = ap (λ (cs : List Claim). declares (name_of n.0) (value_held shape) ∷ cs) (declared_each g shape)

-- a longer list has some length
nonzero : (n : ℕ) → eqb (suc n) 0 ≡ false
nonzero n = grind (arith, nat_tests)

-- a group with names is read
some_names : {A : Type 0} (g : Group) (x : Option A) → 0 < length g → cond (eqb (length (map (λ n. n.0) g)) 0) None x ≡ x
some_names [] x h = absurd (omega arith)
some_names {A = A} (n ∷ g) x h = rw (nonzero (length (map (λ (n : Lexeme × Bool). n.0) g))) refl

-- what is spelled so is read so: declared
declared_again : (b : Bracket) (g : Group) (rest : List Lexeme) → IsStatement (declaration b g) → declared_at (sign OpenBracket ∷ inside b ++ sign CloseBracket ∷ (group g ++ rest)) ≡ Some (statement_claims (declaration b g), rest)
unfolding declared_at expects
declared_again b g rest h =
    rw (bracket_again (codes "shape") b (group g ++ rest) h.0, group_again g rest h.1)
    (some_names g (Some (map (λ name. declares (name_of name) (value_held (value_in (codes "shape") b))) (map (λ n. n.0) g), rest)) h.2 ∙ ap (λ (cs : List Claim). Some (cs, rest)) (declared_each g (value_in (codes "shape") b)))

-- no statement begins with a semicolon
no_semicolon : (rest : List Lexeme) → begins Semicolon (sign CloseBrace ∷ rest) ≡ false
unfolding begins
no_semicolon rest = refl

-- what is spelled so is read so: ranked
ranked_again : (value : Lexeme) (s : Bool) (g : Group) (rest : List Lexeme) → IsValue value → IsGroup g → ranked_at (value ∷ semicolon s ++ (group g ++ rest)) ≡ Some ([], rest)
unfolding ranked_at
ranked_again value s g rest h k =
    let regrouped : begins Semicolon (group g ++ rest) ≡ false = ap (begins Semicolon) (append_assoc _ (sign CloseBrace ∷ []) rest) ∙ names_begin Semicolon g rest k (no_semicolon rest) in
    rw (value_again value (semicolon s ++ (group g ++ rest)) h, semicolon_again s (group g ++ rest) regrouped, group_again g rest k) refl

-- what is spelled so is read so: statement
pub statement_again : (s : Statement) (rest : List Lexeme) → IsStatement s → Follows rest → statement_at (statement s ++ rest) ≡ Some (statement_claims s, rest)
unfolding statement_at begins past_mark is_assignment assignment_at attribute_at group_at named_at edge_at front_word expects
statement_again (assigns key value) rest h next = rw (value_again value rest h) refl
statement_again (declaration b g) rest h next =
    let regrouped : (inside b ++ sign CloseBracket ∷ []) ++ group g ++ rest ≡ inside b ++ sign CloseBracket ∷ (group g ++ rest) = append_assoc _ (group g) rest ∙ append_assoc (inside b) (sign CloseBracket ∷ []) (group g ++ rest) in
    ap (λ (ts : List Lexeme). declared_at (sign OpenBracket ∷ ts)) regrouped ∙ declared_again b g rest h
statement_again (rank key value s g) rest h next = ap (λ (ts : List Lexeme). ranked_at (value ∷ ts)) (append_assoc (semicolon s) (group g) rest) ∙ ranked_again value s g rest h.0 h.1
statement_again (node name b) rest h next =
    let tail = optional_bracket b ++ rest in
    rw (name_begins OpenBrace name tail h.0, name_assigns name tail h.0 (optional_bracket_begins Equals b rest refl next.no_equals), name_again name tail h.0, optional_bracket_begins Arrow b rest refl next.no_arrow, optional_bracket_again [] b rest h.1 next.no_bracket) refl
statement_again (edge from to b) rest h next =
    let tail = to ∷ optional_bracket b ++ rest in
    rw (name_begins OpenBrace from (sign Arrow ∷ tail) h.0, name_assigns from (sign Arrow ∷ tail) h.0 refl, name_again from (sign Arrow ∷ tail) h.0, name_again to (optional_bracket b ++ rest) h.1, optional_bracket_again (codes "label") b rest h.2 next.no_bracket) refl

-- behind statements stands no mark but a brace
with_semicolon_begin : (m : Mark) (ss : List (Statement × Bool)) (rest : List Lexeme) → AllByRecursion (λ s. IsStatement s.0) ss → begins m (sign OpenBrace ∷ []) ≡ false → begins m (sign CloseBrace ∷ rest) ≡ false
    → begins m (flat_map with_semicolon ss ++ sign CloseBrace ∷ rest) ≡ false
with_semicolon_begin m [] rest h other apart = apart
with_semicolon_begin m (s ∷ ss) rest h other apart =
    ap (begins m) (append_assoc (with_semicolon s) (flat_map with_semicolon ss) _ ∙ append_assoc (statement s.0) (semicolon s.1) _) ∙ statement_begins m s.0 _ h.0 other

-- what may follow a statement
follows : (b : Bool) (ss : List (Statement × Bool)) (rest : List Lexeme) → AllByRecursion (λ s. IsStatement s.0) ss → Follows (semicolon b ++ (flat_map with_semicolon ss ++ sign CloseBrace ∷ rest))
unfolding begins
follows true ss rest h = record { no_bracket = refl; no_arrow = refl; no_equals = refl }
follows false ss rest h = record { no_bracket = with_semicolon_begin OpenBracket ss rest h refl refl; no_arrow = with_semicolon_begin Arrow ss rest h refl refl; no_equals = with_semicolon_begin Equals ss rest h refl refl }

-- a statement before others
statement_item_again : Again CloseBrace statement_at (past_mark Semicolon) with_semicolon (λ s. statement_claims s.0) (λ s. IsStatement s.0)
unfolding begins
statement_item_again s ss rest h more =
    let tail = flat_map with_semicolon ss ++ sign CloseBrace ∷ rest in
    let regrouped : with_semicolon s ++ tail ≡ statement s.0 ++ (semicolon s.1 ++ tail) = append_assoc (statement s.0) (semicolon s.1) tail in (
      ap (begins CloseBrace) regrouped ∙ statement_begins CloseBrace s.0 (semicolon s.1 ++ tail) h refl,
      semicolon s.1 ++ tail,
      ap statement_at regrouped ∙ statement_again s.0 (semicolon s.1 ++ tail) h (follows s.1 ss rest more),
      semicolon_again s.1 tail (with_semicolon_begin Semicolon ss rest more refl refl),
    )

-- a statement has tokens
length_statement : (s : Statement) → 0 < length (statement s)
length_statement (assigns key value) = omega arith
length_statement (declaration b g) = omega arith
length_statement (rank key value s g) = omega arith
length_statement (node name b) = omega arith
length_statement (edge from to b) = omega arith

-- with its semicolon too
length_with_semicolon : (s : Statement × Bool) → 0 < length (with_semicolon s)
length_with_semicolon s = omega (arith, length_statement s.0, length-append (statement s.0) (semicolon s.1))

-- a file that is spelled so says this
pub file_again : (f : File) → IsFile f → claims_of (file f) ≡ Some (file_says f)
unfolding claims_of front_word expects
file_again f h =
    rw (items_again CloseBrace statement_at (past_mark Semicolon) with_semicolon (λ s. statement_claims s.0) (λ s. IsStatement s.0) statement_item_again length_with_semicolon f.statements [] h) refl
