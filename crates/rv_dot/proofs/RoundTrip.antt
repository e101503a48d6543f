-- The canonical text is in the grammar, and says what it draws.
use Rattle.std.proofs.Common.{rules, ◌≡◌, ℕ, Bool, true, false, List, [], ◌∷◌, ◌++◌, Some, None, refl, sym, ap, ◌∙◌, append_assoc, subst, arith}
use Rattle.std.specs.Prelude.{codes, map}
use Rattle.std.specs.List.{flat_map, AllByRecursion}
use Rattle.std.proofs.lemmas.List.Concat.{flat_map-append}
use Rattle.rv_dot.specs.declared.token.Mark.TheVariants.{OpenBrace, CloseBrace, Equals, Semicolon}
use Rattle.rv_dot.specs.Tokens.{Lexeme, sign, word, text}
use Rattle.rv_dot.specs.Names.{name_of}
use Rattle.rv_dot.specs.Pieces.{Piece, piece_bytes, IsString, IsPieceAt, ends_line, SplitsInto, tokens_in}
use Rattle.rv_dot.specs.Lists.{last_value}
use Rattle.rv_dot.specs.Statements.{Claim, declares, leads}
use Rattle.rv_dot.specs.Grammar.{Statement, with_semicolon, file, IsStatement, statement_claims, file_says}
use Rattle.rv_dot.specs.Text.{IsTextOf, said_by}
use Rattle.rv_dot.specs.Gathered.{Arc}
use Rattle.rv_dot.specs.Canonical.{State, Drawing, marker, drawn_shape, drawing_text}
use Rattle.rv_dot.proofs.Layouts.{head_pieces, marker_pieces, state_pieces, initial_pieces, node_pieces, arc_pieces, last_pieces, layout, layout_text, state_statement, marker_statement, initial_statement, node_statement, arc_statement, end, drawn, state_claim, arc_claim, claims_drawn}
use Rattle.rv_dot.proofs.PlainBytes.{IsPlain, plain_string, plain_name}
use Rattle.rv_dot.proofs.TextLaws.{text_again}

-- each piece may stand where it stands
abbrev pub Made : Bool → List Piece → Type 0
Made starts [] = Unit {0}
Made starts (p ∷ ps) = IsPieceAt starts p (flat_map piece_bytes ps) × Made (ends_line p) ps

-- pieces that may stand so are read
reads_made : (starts : Bool) (ps : List Piece) → Made starts ps → SplitsInto starts (flat_map piece_bytes ps) ps
reads_made starts [] h = refl
reads_made starts (p ∷ ps) h = (flat_map piece_bytes ps, refl, h.0, reads_made (ends_line p) ps h.1)

-- the names of a drawing are plain
pub record IsDrawing (d : Drawing) : Type 0 where
  pub initial : IsPlain d.initial
  pub states : AllByRecursion (λ s. IsPlain s.name) d.states
  pub arcs : AllByRecursion (λ a. IsPlain a.from × IsPlain a.event × IsPlain a.to) d.arcs

-- a declaration may stand so
state_made : (name : List ℕ) (t : Bool) (ps : List Piece) → IsString 34 name → Made true ps → Made true (state_pieces (record { name = name; is_marked = t }) ++ ps)
state_made name true ps h more = search (rules, h, more)
state_made name false ps h more = search (rules, h, more)

-- the marker's declaration too
marker_made : (initial : List ℕ) (ps : List Piece) → IsString 95 initial → Made true ps → Made true (marker_pieces initial ++ ps)
marker_made initial ps h more = search (rules, h, more)

-- the edge from the marker too
initial_made : (initial : List ℕ) (ps : List Piece) → IsString 34 initial → IsString 95 initial → Made true ps → Made true (initial_pieces initial ++ ps)
initial_made initial ps h k more = search (rules, h, k, more)

-- a label too
node_made : (name : List ℕ) (ps : List Piece) → IsString 34 name → Made true ps → Made true (node_pieces name ++ ps)
node_made name ps h more = search (rules, h, more)

-- an edge too
arc_made : (a : Arc) (ps : List Piece) → IsString 34 a.from → IsString 34 a.event → IsString 34 a.to → Made true ps → Made true (arc_pieces a ++ ps)
arc_made a ps from event to more = search (rules, from, event, to, more)

-- the first lines too
head_made : (ps : List Piece) → Made true ps → Made true (head_pieces ++ ps)
head_made ps more = search (rules, more)

-- lines of which each may stand in front
lines_made : {A : Type 0} (pieces : A → List Piece) (P : A → Type 0) → ((x : A) (ps : List Piece) → P x → Made true ps → Made true (pieces x ++ ps)) → (xs : List A) (ps : List Piece) → AllByRecursion P xs → Made true ps → Made true (flat_map pieces xs ++ ps)
lines_made pieces P one [] ps h more = more
lines_made pieces P one (x ∷ xs) ps h more = subst (Made true) (sym (append_assoc (pieces x) (flat_map pieces xs) ps)) (one x (flat_map pieces xs ++ ps) h.0 (lines_made pieces P one xs ps h.1 more))

-- the names of plain states are plain
names_plain : (ss : List State) → AllByRecursion (λ s. IsPlain s.name) ss → AllByRecursion IsPlain (map (λ s. s.name) ss)
names_plain [] h = tt
names_plain (s ∷ ss) h = (h.0, names_plain ss h.1)

-- the whole text too
layout_made : (d : Drawing) → IsDrawing d → Made true (layout d)
layout_made d h =
    let i = plain_string 34 d.initial refl h.initial in
    let m = plain_string 95 d.initial refl h.initial in
    let four = flat_map arc_pieces d.arcs ++ last_pieces in
    let three = flat_map node_pieces (map (λ (s : State). s.name) d.states) ++ four in
    let two = initial_pieces d.initial ++ three in
    let one = flat_map state_pieces d.states ++ two in
    let arcs : Made true four = lines_made arc_pieces (λ (a : Arc). IsPlain a.from × IsPlain a.event × IsPlain a.to) (λ a ps k. arc_made a ps (plain_string 34 a.from refl k.0) (plain_string 34 a.event refl k.1) (plain_string 34 a.to refl k.2)) d.arcs last_pieces h.arcs (tt, (refl, tt)) in
    let nodes : Made true three = lines_made node_pieces IsPlain (λ n ps k. node_made n ps (plain_string 34 n refl k)) (map (λ (s : State). s.name) d.states) four (names_plain d.states h.states) arcs in
    let initial : Made true two = initial_made d.initial three i m nodes in
    let states : Made true one = lines_made state_pieces (λ (s : State). IsPlain s.name) (λ s ps k. state_made s.name s.is_marked ps (plain_string 34 s.name refl k)) d.states two h.states initial in
    head_made (marker_pieces d.initial ++ one) (marker_made d.initial one m states)

-- lines spell statements
lines_tokens : {A : Type 0} (pieces : A → List Piece) (statement : A → Statement) → ((x : A) (ps : List Piece) → tokens_in (pieces x ++ ps) ≡ with_semicolon (statement x, true) ++ tokens_in ps) → (xs : List A) (ps : List Piece)
    → tokens_in (flat_map pieces xs ++ ps) ≡ flat_map with_semicolon (flat_map (λ x. end (statement x)) xs) ++ tokens_in ps
lines_tokens pieces statement one [] ps = refl
lines_tokens pieces statement one (x ∷ xs) ps =
    ap tokens_in (append_assoc (pieces x) (flat_map pieces xs) ps) ∙ one x (flat_map pieces xs ++ ps) ∙ ap (λ (ts : List Lexeme). with_semicolon (statement x, true) ++ ts) (lines_tokens pieces statement one xs ps)
    ∙ sym (append_assoc (with_semicolon (statement x, true)) (flat_map with_semicolon (flat_map (λ y. end (statement y)) xs)) (tokens_in ps))

-- the tokens of the pieces are the file's
layout_tokens : (d : Drawing) → tokens_in (layout d) ≡ file (drawn d)
layout_tokens d =
    let names = map (λ (s : State). s.name) d.states in
    let states = flat_map (λ (s : State). end (state_statement s)) d.states in
    let nodes = flat_map (λ (n : List ℕ). end (node_statement n)) names in
    let arcs = flat_map (λ (a : Arc). end (arc_statement a)) d.arcs in
    let four = flat_map arc_pieces d.arcs ++ last_pieces in
    let three = flat_map node_pieces names ++ four in
    let two = initial_pieces d.initial ++ three in
    let brace : List Lexeme = sign CloseBrace ∷ [] in
    let initial = with_semicolon (initial_statement d.initial, true) in
    let t_four : tokens_in four ≡ flat_map with_semicolon arcs ++ brace = lines_tokens arc_pieces arc_statement (λ a ps. refl) d.arcs last_pieces in
    let t_three : tokens_in three ≡ flat_map with_semicolon nodes ++ (flat_map with_semicolon arcs ++ brace) = lines_tokens node_pieces node_statement (λ n ps. refl) names four ∙ ap (λ (ts : List Lexeme). flat_map with_semicolon nodes ++ ts) t_four in
    let t_one : tokens_in (flat_map state_pieces d.states ++ two) ≡ flat_map with_semicolon states ++ (initial ++ (flat_map with_semicolon nodes ++ (flat_map with_semicolon arcs ++ brace))) =
    lines_tokens state_pieces state_statement (λ s ps. refl) d.states two ∙ ap (λ (ts : List Lexeme). flat_map with_semicolon states ++ (initial ++ ts)) t_three in
    let inner : flat_map with_semicolon (nodes ++ arcs) ++ brace ≡ flat_map with_semicolon nodes ++ (flat_map with_semicolon arcs ++ brace) = ap (λ (ts : List Lexeme). ts ++ brace) (flat_map-append with_semicolon nodes arcs) ∙ append_assoc (flat_map with_semicolon nodes) (flat_map with_semicolon arcs) brace in
    let split : flat_map with_semicolon (states ++ ((initial_statement d.initial, true) ∷ (nodes ++ arcs))) ++ brace ≡ flat_map with_semicolon states ++ (initial ++ (flat_map with_semicolon nodes ++ (flat_map with_semicolon arcs ++ brace))) =
    ap (λ (ts : List Lexeme). ts ++ brace) (flat_map-append with_semicolon states ((initial_statement d.initial, true) ∷ (nodes ++ arcs))) ∙ append_assoc (flat_map with_semicolon states) (initial ++ flat_map with_semicolon (nodes ++ arcs)) brace
    ∙ ap (λ (ts : List Lexeme). flat_map with_semicolon states ++ (initial ++ ts)) inner in
    let front : List Lexeme → List Lexeme = λ ts.
    word (codes "digraph") ∷ word (codes "state_automaton") ∷ sign OpenBrace ∷ word (codes "center") ∷ sign Equals ∷ word (codes "true") ∷ sign Semicolon ∷ word (codes "size") ∷ sign Equals ∷ text (codes "7,11") ∷ sign Semicolon
    ∷ (with_semicolon (marker_statement d.initial, true) ++ ts) in
    ap front (t_one ∙ sym split)

-- statements of lines
lines_are : {A : Type 0} (statement : A → Statement) → ((x : A) → IsStatement (statement x)) → (xs : List A) (more : List (Statement × Bool)) → AllByRecursion (λ s. IsStatement s.0) more
    → AllByRecursion (λ (s : Statement × Bool). IsStatement s.0) (flat_map (λ x. end (statement x)) xs ++ more)
lines_are statement one [] more h = h
lines_are statement one (x ∷ xs) more h = (one x, lines_are statement one xs more h)

-- the statements are of the grammar
statements_are : (d : Drawing) → AllByRecursion (λ (s : Statement × Bool). IsStatement s.0) (drawn d).statements
statements_are d = (
  tt,
  (
    tt,
    (
      ((tt, (tt, (tt, tt))), (tt, tt), omega arith),
      lines_are state_statement (λ s. ((tt, tt), (tt, tt), omega arith)) d.states _ (
        (tt, tt, tt),
        lines_are node_statement (λ n. (tt, (tt, tt))) (map (λ (s : State). s.name) d.states) _ (no_more d.arcs),
      ),
    ),
  ),
)
  where
    no_more : (as' : List Arc) → AllByRecursion (λ (s : Statement × Bool). IsStatement s.0) (flat_map (λ a. end (arc_statement a)) as')
    no_more [] = tt
    no_more (a ∷ as') = ((tt, tt, (tt, tt)), no_more as')

-- the canonical text is in the grammar
drawing_is_text : (d : Drawing) → IsDrawing d → IsTextOf (drawing_text d) (drawn d)
drawing_is_text d h = (statements_are d, layout d, subst (λ (bytes : List ℕ). SplitsInto true bytes (layout d)) (layout_text d) (reads_made true (layout d) (layout_made d h)), layout_tokens d)

-- what lines of one claim each say
lines_say : {A : Type 0} (statement : A → Statement) (P : A → Type 0) (claim : A → Claim) → ((x : A) → P x → statement_claims (statement x) ≡ claim x ∷ []) → (xs : List A) → AllByRecursion P xs
    → flat_map (λ (s : Statement × Bool). statement_claims s.0) (flat_map (λ x. end (statement x)) xs) ≡ map claim xs
lines_say statement P claim one [] h = refl
lines_say statement P claim one (x ∷ xs) h =
    ap (λ (cs : List Claim). cs ++ flat_map (λ (s : Statement × Bool). statement_claims s.0) (flat_map (λ y. end (statement y)) xs)) (one x h.0) ∙ ap (λ (cs : List Claim). claim x ∷ cs) (lines_say statement P claim one xs h.1)

-- labels say nothing
nothing_said : (names : List (List ℕ)) → flat_map (λ (s : Statement × Bool). statement_claims s.0) (flat_map (λ n. end (node_statement n)) names) ≡ []
nothing_said [] = refl
nothing_said (n ∷ names) = nothing_said names

-- what a declaration says
state_statement_claims : (s : State) → IsPlain s.name → statement_claims (state_statement s) ≡ state_claim s ∷ []
unfolding last_value
state_statement_claims s h = ap (λ (n : List ℕ). declares n (Some (drawn_shape s.is_marked)) ∷ []) (plain_name s.name h)

-- what an edge says
arc_statement_claims : (a : Arc) → IsPlain a.from × IsPlain a.event × IsPlain a.to → statement_claims (arc_statement a) ≡ arc_claim a ∷ []
unfolding last_value
arc_statement_claims a h = ap (λ (n : List ℕ). leads n (name_of (text a.to)) (Some a.event) ∷ []) (plain_name a.from h.0) ∙ ap (λ (n : List ℕ). leads a.from n (Some a.event) ∷ []) (plain_name a.to h.2)

-- the marker's name
marker_named : (initial : List ℕ) → IsPlain initial → name_of (text (marker initial)) ≡ marker initial
marker_named initial h = ap marker (plain_name initial h)

-- what the file says is what it draws
drawing_says : (d : Drawing) → IsDrawing d → file_says (drawn d) ≡ claims_drawn d
unfolding last_value
drawing_says d h =
    let claims : List (Statement × Bool) → List Claim = λ ss. flat_map (λ (s : Statement × Bool). statement_claims s.0) ss in
    let names = map (λ (s : State). s.name) d.states in
    let states = flat_map (λ (s : State). end (state_statement s)) d.states in
    let nodes = flat_map (λ (n : List ℕ). end (node_statement n)) names in
    let arcs = flat_map (λ (a : Arc). end (arc_statement a)) d.arcs in
    let m = marker_named d.initial h.initial in
    let lead : statement_claims (initial_statement d.initial) ≡ leads (marker d.initial) d.initial None ∷ [] = ap (λ (n : List ℕ). leads n (name_of (text d.initial)) None ∷ []) m ∙ ap (λ (n : List ℕ). leads (marker d.initial) n None ∷ []) (plain_name d.initial h.initial) in
    let last : claims (nodes ++ arcs) ≡ map arc_claim d.arcs =
    flat_map-append (λ (s : Statement × Bool). statement_claims s.0) nodes arcs ∙ ap (λ (cs : List Claim). cs ++ claims arcs) (nothing_said names) ∙ lines_say arc_statement (λ (a : Arc). IsPlain a.from × IsPlain a.event × IsPlain a.to) arc_claim arc_statement_claims d.arcs h.arcs in
    let front : claims (states ++ ((initial_statement d.initial, true) ∷ (nodes ++ arcs))) ≡ map state_claim d.states ++ (leads (marker d.initial) d.initial None ∷ map arc_claim d.arcs) =
    flat_map-append (λ (s : Statement × Bool). statement_claims s.0) states ((initial_statement d.initial, true) ∷ (nodes ++ arcs))
    ∙ ap (λ (cs : List Claim). cs ++ (statement_claims (initial_statement d.initial) ++ claims (nodes ++ arcs))) (lines_say state_statement (λ (s : State). IsPlain s.name) state_claim state_statement_claims d.states h.states)
    ∙ ap (λ (cs : List Claim). map state_claim d.states ++ (cs ++ claims (nodes ++ arcs))) lead
    ∙ ap (λ (cs : List Claim). map state_claim d.states ++ (leads (marker d.initial) d.initial None ∷ cs)) last in
    ap (λ (n : List ℕ). declares n (Some (codes "plaintext")) ∷ claims (states ++ ((initial_statement d.initial, true) ∷ (nodes ++ arcs)))) m
    ∙ ap (λ (cs : List Claim). declares (marker d.initial) (Some (codes "plaintext")) ∷ cs) front

-- the canonical text says what it draws
pub text_says : (d : Drawing) → IsDrawing d → said_by (drawing_text d) ≡ Some (claims_drawn d)
text_says d h = text_again (drawing_text d) (drawn d) (drawing_is_text d h) ∙ ap Some (drawing_says d h)
