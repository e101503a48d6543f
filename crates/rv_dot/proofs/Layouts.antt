-- The canonical text as pieces, and the file that they spell.
use Rattle.std.proofs.Common.{◌≡◌, ℕ, Bool, true, false, List, [], ◌∷◌, ◌++◌, Some, None, refl, ap, ◌∙◌, append_assoc}
use Rattle.std.specs.Prelude.{codes, map}
use Rattle.std.specs.List.{flat_map}
use Rattle.std.proofs.lemmas.List.Concat.{flat_map-append}
use Rattle.rv_dot.specs.declared.token.Mark.{Mark}
use Rattle.rv_dot.specs.declared.token.Mark.TheVariants.{OpenBrace, CloseBrace, OpenBracket, CloseBracket, Equals, Semicolon, Comma, Arrow}
use Rattle.rv_dot.specs.Tokens.{sign, word, text}
use Rattle.rv_dot.specs.Pieces.{Piece, blank, unit, piece_bytes}
use Rattle.rv_dot.specs.Statements.{Claim, declares, leads}
use Rattle.rv_dot.specs.Grammar.{nothing, comma, Statement, assigns, declaration, node, edge, File}
use Rattle.rv_dot.specs.Gathered.{Arc}
use Rattle.rv_dot.specs.Canonical.{State, Drawing, quoted, marker, drawn_shape, head_lines, marker_line, state_line, initial_line, node_line, arc_line, last_line, drawing_text}

-- one token or blank
abbrev pub space : Piece
space = blank 32

-- a tab
abbrev pub tab : Piece
tab = blank 9

-- a line end
abbrev pub line_end : Piece
line_end = blank 10

-- a mark
abbrev pub mark : Mark → Piece
mark m = unit (sign m)

-- a word
abbrev pub named : List ℕ → Piece
named w = unit (word w)

-- a string
abbrev pub string : List ℕ → Piece
string t = unit (text t)

-- the lines as pieces
abbrev pub head_pieces : List Piece
head_pieces =
    named (codes "digraph") ∷ space ∷ named (codes "state_automaton") ∷ space ∷ mark OpenBrace ∷ line_end
    ∷ tab ∷ named (codes "center") ∷ space ∷ mark Equals ∷ space ∷ named (codes "true") ∷ mark Semicolon ∷ line_end
    ∷ tab ∷ named (codes "size") ∷ space ∷ mark Equals ∷ space ∷ string (codes "7,11") ∷ mark Semicolon ∷ line_end ∷ []

-- the marker's declaration
abbrev pub marker_pieces : List ℕ → List Piece
marker_pieces initial =
    tab ∷ mark OpenBrace ∷ named (codes "node") ∷ space ∷ mark OpenBracket ∷ named (codes "shape") ∷ space ∷ mark Equals ∷ space ∷ named (codes "plaintext") ∷ mark Comma ∷ space
    ∷ named (codes "style") ∷ mark Equals ∷ named (codes "invis") ∷ mark Comma ∷ space ∷ named (codes "label") ∷ mark Equals ∷ string [] ∷ mark CloseBracket ∷ space
    ∷ string (marker initial) ∷ mark CloseBrace ∷ mark Semicolon ∷ line_end ∷ []

-- a state's declaration
abbrev pub state_pieces : State → List Piece
state_pieces s =
    tab ∷ mark OpenBrace ∷ named (codes "node") ∷ space ∷ mark OpenBracket ∷ named (codes "shape") ∷ space ∷ mark Equals ∷ space ∷ named (drawn_shape s.is_marked) ∷ mark CloseBracket ∷ space
    ∷ string s.name ∷ mark CloseBrace ∷ mark Semicolon ∷ line_end ∷ []

-- the edge from the marker
abbrev pub initial_pieces : List ℕ → List Piece
initial_pieces initial = tab ∷ string (marker initial) ∷ space ∷ mark Arrow ∷ space ∷ string initial ∷ mark Semicolon ∷ line_end ∷ []

-- a state's label
abbrev pub node_pieces : List ℕ → List Piece
node_pieces name = tab ∷ string name ∷ space ∷ mark OpenBracket ∷ named (codes "label") ∷ space ∷ mark Equals ∷ space ∷ string name ∷ mark CloseBracket ∷ mark Semicolon ∷ line_end ∷ []

-- an edge
abbrev pub arc_pieces : Arc → List Piece
arc_pieces a =
    tab ∷ string a.from ∷ space ∷ mark Arrow ∷ space ∷ string a.to ∷ space ∷ mark OpenBracket ∷ space ∷ named (codes "label") ∷ space ∷ mark Equals ∷ space ∷ string a.event
    ∷ space ∷ mark CloseBracket ∷ mark Semicolon ∷ line_end ∷ []

-- the last line
abbrev pub last_pieces : List Piece
last_pieces = mark CloseBrace ∷ line_end ∷ []

-- the whole text as pieces
abbrev pub layout : Drawing → List Piece
layout d =
    head_pieces ++ (marker_pieces d.initial ++ (flat_map state_pieces d.states ++ (initial_pieces d.initial
    ++ (flat_map node_pieces (map (λ s. s.name) d.states) ++ (flat_map arc_pieces d.arcs ++ last_pieces)))))

-- six parts and the last
six : (a b c d e f g : List ℕ) → a ++ (b ++ (c ++ (d ++ (e ++ (f ++ g))))) ≡ a ++ b ++ c ++ d ++ e ++ f ++ g
six a b c d e f g = simp append_assoc

-- a declaration's bytes
state_text : (name : List ℕ) (t : Bool) → flat_map piece_bytes (state_pieces (record { name = name; is_marked = t })) ≡ state_line (record { name = name; is_marked = t })
state_text name true = refl
state_text name false = refl

-- the marker's bytes
marker_text : (initial : List ℕ) → flat_map piece_bytes (marker_pieces initial) ≡ marker_line initial
marker_text initial = refl

-- a line with two names
with_two : (a b c x y : List ℕ) → a ++ (quoted x ++ (b ++ (quoted y ++ c))) ≡ a ++ quoted x ++ b ++ quoted y ++ c
with_two a b c x y = regroup a (quoted x) b (quoted y) c
  where
    regroup : (a b c d e : List ℕ) → a ++ (b ++ (c ++ (d ++ e))) ≡ a ++ b ++ c ++ d ++ e
    regroup a b c d e = simp append_assoc

-- a line with three names
with_three : (a b c d x y z : List ℕ) → a ++ (quoted x ++ (b ++ (quoted y ++ (c ++ (quoted z ++ d))))) ≡ a ++ quoted x ++ b ++ quoted y ++ c ++ quoted z ++ d
with_three a b c d x y z = six a (quoted x) b (quoted y) c (quoted z) d

-- its edge's bytes
initial_text : (initial : List ℕ) → flat_map piece_bytes (initial_pieces initial) ≡ initial_line initial
initial_text initial = with_two (codes "\t") (codes " -> ") (codes ";\n") (marker initial) initial

-- a label's bytes
node_text : (name : List ℕ) → flat_map piece_bytes (node_pieces name) ≡ node_line name
node_text name = with_two (codes "\t") (codes " [label = ") (codes "];\n") name name

-- an edge's bytes
arc_text : (a : Arc) → flat_map piece_bytes (arc_pieces a) ≡ arc_line a
arc_text a = with_three (codes "\t") (codes " -> ") (codes " [ label = ") (codes " ];\n") a.from a.to a.event

-- pieces and more pieces spell their texts
more_text : (ps qs : List Piece) → flat_map piece_bytes (ps ++ qs) ≡ flat_map piece_bytes ps ++ flat_map piece_bytes qs
more_text ps qs = flat_map-append piece_bytes ps qs

-- lines as pieces and more pieces spell the lines and more
lines_text : {A : Type 0} (pieces : A → List Piece) (line : A → List ℕ) → ((x : A) → flat_map piece_bytes (pieces x) ≡ line x) → (xs : List A) → flat_map piece_bytes (flat_map pieces xs) ≡ flat_map line xs
lines_text pieces line same [] = refl
lines_text pieces line same (x ∷ xs) = more_text (pieces x) (flat_map pieces xs) ∙ ap (λ (t : List ℕ). t ++ flat_map piece_bytes (flat_map pieces xs)) (same x) ∙ ap (λ (t : List ℕ). line x ++ t) (lines_text pieces line same xs)

-- the pieces spell the text
pub layout_text : (d : Drawing) → flat_map piece_bytes (layout d) ≡ drawing_text d
layout_text d =
    let states = flat_map state_pieces d.states in
    let nodes = flat_map node_pieces (map (λ (s : State). s.name) d.states) in
    let arcs = flat_map arc_pieces d.arcs in
    let rest_four = arcs ++ last_pieces in
    let rest_three = nodes ++ rest_four in
    let rest_two = initial_pieces d.initial ++ rest_three in
    let rest_one = states ++ rest_two in
    let rest = marker_pieces d.initial ++ rest_one in
    let t : List Piece → List ℕ = λ ps. flat_map piece_bytes ps in
    let e1 : t (head_pieces ++ rest) ≡ head_lines ++ t rest = more_text head_pieces rest in
    let e2 : t rest ≡ marker_line d.initial ++ t rest_one = more_text (marker_pieces d.initial) rest_one ∙ ap (λ (x : List ℕ). x ++ t rest_one) (marker_text d.initial) in
    let e3 : t rest_one ≡ flat_map state_line d.states ++ t rest_two = more_text states rest_two ∙ ap (λ (x : List ℕ). x ++ t rest_two) (lines_text state_pieces state_line (λ s. state_text s.name s.is_marked) d.states) in
    let e4 : t rest_two ≡ initial_line d.initial ++ t rest_three = more_text (initial_pieces d.initial) rest_three ∙ ap (λ (x : List ℕ). x ++ t rest_three) (initial_text d.initial) in
    let e5 : t rest_three ≡ flat_map node_line (map (λ (s : State). s.name) d.states) ++ t rest_four = more_text nodes rest_four ∙ ap (λ (x : List ℕ). x ++ t rest_four) (lines_text node_pieces node_line node_text (map (λ (s : State). s.name) d.states)) in
    let e6 : t rest_four ≡ flat_map arc_line d.arcs ++ last_line = more_text arcs last_pieces ∙ ap (λ (x : List ℕ). x ++ last_line) (lines_text arc_pieces arc_line arc_text d.arcs) in
    e1 ∙ ap (λ (x : List ℕ). head_lines ++ x) (e2 ∙ ap (λ (x : List ℕ). marker_line d.initial ++ x) (e3 ∙ ap (λ (x : List ℕ). flat_map state_line d.states ++ x) (e4 ∙ ap (λ (x : List ℕ). initial_line d.initial ++ x)
    (e5 ∙ ap (λ (x : List ℕ). flat_map node_line (map (λ (s : State). s.name) d.states) ++ x) e6))))
    ∙ six head_lines (marker_line d.initial) (flat_map state_line d.states) (initial_line d.initial) (flat_map node_line (map (λ (s : State). s.name) d.states)) (flat_map arc_line d.arcs) last_line

-- the statements that the lines spell
abbrev pub marker_statement : List ℕ → Statement
marker_statement initial =
    declaration ((record { key = codes "shape"; value = word (codes "plaintext") }, comma) ∷ (record { key = codes "style"; value = word (codes "invis") }, comma) ∷ (record { key = codes "label"; value = text [] }, nothing) ∷ [])
    ((text (marker initial), false) ∷ [])

-- a state's declaration
abbrev pub state_statement : State → Statement
state_statement s = declaration ((record { key = codes "shape"; value = word (drawn_shape s.is_marked) }, nothing) ∷ []) ((text s.name, false) ∷ [])

-- the edge from the marker
abbrev pub initial_statement : List ℕ → Statement
initial_statement initial = edge (text (marker initial)) (text initial) None

-- a state's label
abbrev pub node_statement : List ℕ → Statement
node_statement name = node (text name) (Some ((record { key = codes "label"; value = text name }, nothing) ∷ []))

-- an edge
abbrev pub arc_statement : Arc → Statement
arc_statement a = edge (text a.from) (text a.to) (Some ((record { key = codes "label"; value = text a.event }, nothing) ∷ []))

-- a statement with its semicolon
abbrev pub end : Statement → List (Statement × Bool)
end s = (s, true) ∷ []

-- the file that the text spells
abbrev pub drawn : Drawing → File
drawn d = record {
  title = codes "state_automaton";
  statements = (assigns (codes "center") (word (codes "true")), true) ∷ (assigns (codes "size") (text (codes "7,11")), true) ∷ (marker_statement d.initial, true)
      ∷ (flat_map (λ s. end (state_statement s)) d.states ++ ((initial_statement d.initial, true) ∷ (flat_map (λ n. end (node_statement n)) (map (λ s. s.name) d.states) ++ flat_map (λ a. end (arc_statement a)) d.arcs)));
}

-- what the file says
abbrev pub state_claim : State → Claim
state_claim s = declares s.name (Some (drawn_shape s.is_marked))

-- an edge's claim
abbrev pub arc_claim : Arc → Claim
arc_claim a = leads a.from a.to (Some a.event)

-- what the whole file says
abbrev pub claims_drawn : Drawing → List Claim
claims_drawn d = declares (marker d.initial) (Some (codes "plaintext")) ∷ (map state_claim d.states ++ (leads (marker d.initial) d.initial None ∷ map arc_claim d.arcs))
