-- The laws of routing, of all texts, bindings and lines.
use Rattle.std.specs.Prelude.{◌≡◌, ℕ, ◌+◌, ◌<◌, ◌≤◌, Bool, List, [], ◌∷◌, ◌++◌, length, map, filter, All, Result, Ok, Err, IfOk}
use Rattle.std.specs.List.{list_any}
use Rattle.rv_text.specs.Places.{between}
use Rattle.rv_text.specs.declared.refusals.Refusal.{Refusal}
use Rattle.rv_text.specs.Readings.{and_then}
use Rattle.rv_model.specs.declared.work.Turn.{Turn}
use Rattle.rv_model.specs.Works.{Work}
use Rattle.rv_trace.specs.Lines.{LiesIn, moved_line}
use Rattle.rv_trace.specs.declared.line.TraceLine.{TraceLine}
use Rattle.rv_bind.specs.declared.bindings.Monitor.{Monitor}
use Rattle.rv_bind.specs.RuleValues.{OnValue}
use Rattle.rv_bind.specs.WellFormed.{kinds_of, FitsKind}
use Rattle.rv_route.specs.Asking.{ask_of}
use Rattle.rv_route.specs.Routing.{RoutedValue, is_asked, route_of}
use Rattle.rv_route.specs.Fitting.{FromRules, NumbersAscend, WorksFit}
use Rattle.rv_route.specs.LineByLine.{Routes, line_routes, routes_of, no_routes, routed_of}

-- a law: lines of a text are routed alike, whatever follows the text
abbrev pub RoutedBeforeMore : Type 0
RoutedBeforeMore = (text more : List ℕ) (monitors : List Monitor) (rules : List OnValue) (lines : List TraceLine) (routes : Routes) → All (LiesIn text) lines → routes_of (text ++ more) monitors rules lines routes ≡ routes_of text monitors rules lines routes

-- a law: one line more is routed last, behind the lines before it
abbrev pub RoutedLast : Type 0
RoutedLast = (text : List ℕ) (monitors : List Monitor) (rules : List OnValue) (lines : List TraceLine) (line : TraceLine) (routes : Routes) →
    routes_of text monitors rules (lines ++ line ∷ []) routes ≡ and_then (routes_of text monitors rules lines routes) (line_routes text line monitors rules)

-- a law: a line is routed by its own text as it is by a whole text that it stands in
abbrev pub RoutedByOwnText : Type 0
RoutedByOwnText = (text own : List ℕ) (from : ℕ) (line : TraceLine) (monitors : List Monitor) (rules : List OnValue) (routes : Routes) → LiesIn own line → own ≡ between text from (from + length own) → from + length own ≤ length text →
    line_routes text (moved_line from line) monitors rules routes ≡ line_routes own line monitors rules routes

-- a law: each delivery of the works is to the monitor of one of the rules, with the rule's hit
abbrev pub WorksAreFromRules : Type 0
WorksAreFromRules = (text : List ℕ) (monitors : List Monitor) (rules : List OnValue) (lines : List TraceLine) → IfOk (route_of monitors rules text lines) (λ value. FromRules rules value.works)

-- a law: where lines are numbered upwards, routing them line after line comes to what the whole trace is routed to
abbrev pub RoutedLineByLine : Type 0
RoutedLineByLine = (text : List ℕ) (monitors : List Monitor) (rules : List OnValue) (lines : List TraceLine) → NumbersAscend lines → route_of monitors rules text lines ≡ routed_of (routes_of text monitors rules lines no_routes)

-- a law: where lines are numbered upwards and each is of a CPU that there is, and the rules fit the monitors, what the lines are routed to fits them
abbrev pub RoutedWorksFit : Type 0
RoutedWorksFit = (text : List ℕ) (monitors : List Monitor) (rules : List OnValue) (lines : List TraceLine) → NumbersAscend lines → All (λ l. l.cpu < 64) lines → All (FitsKind (kinds_of monitors)) rules
    → IfOk (route_of monitors rules text lines) (λ value. WorksFit (kinds_of monitors) (length value.tasks) value.works)

-- some rule fires on the line
abbrev pub is_fired_on : List Monitor → List OnValue → List ℕ → TraceLine → Bool
is_fired_on monitors rules text line = list_any (λ rule. is_asked (ask_of text line monitors rule)) rules

-- a law: where lines are numbered upwards, those on which some rule fires are routed, with their numbers, to what all of them are routed to, or refused as they are
abbrev pub RoutedByFiredLines : Type 0
RoutedByFiredLines = (text : List ℕ) (monitors : List Monitor) (rules : List OnValue) (lines : List TraceLine) → NumbersAscend lines → route_of monitors rules text (filter (is_fired_on monitors rules text) lines) ≡ route_of monitors rules text lines

-- a higher number stays higher
abbrev pub KeepsOrder : (ℕ → ℕ) → Type 0
KeepsOrder f = (a b : ℕ) → a < b → f a < f b

-- a line, a turn, a work and a refusal with other numbers of lines
abbrev pub renumbered : (ℕ → ℕ) → TraceLine → TraceLine
renumbered f line = record line { number = f line.number }

abbrev pub turn_renumbered : (ℕ → ℕ) → Turn → Turn
turn_renumbered f turn = record turn { line = f turn.line }

abbrev pub work_renumbered : (ℕ → ℕ) → Work → Work
work_renumbered f w = record w { turns = map (turn_renumbered f) w.turns }

abbrev pub refusal_renumbered : (ℕ → ℕ) → Refusal → Refusal
refusal_renumbered f refusal = record refusal { line = f refusal.line }

-- what was routed, with other numbers of lines
abbrev pub value_renumbered : (ℕ → ℕ) → Result RoutedValue Refusal → Result RoutedValue Refusal
value_renumbered f (Ok value) = Ok (record value { works = map (work_renumbered f) value.works })
value_renumbered f (Err refusal) = Err (refusal_renumbered f refusal)

-- a law: where lines are numbered upwards, the same lines with other numbers in the same order are routed to the same, or refused alike, with these numbers
abbrev pub RoutedRenumbered : Type 0
RoutedRenumbered = (f : ℕ → ℕ) → KeepsOrder f → (text : List ℕ) (monitors : List Monitor) (rules : List OnValue) (lines : List TraceLine) → NumbersAscend lines
    → route_of monitors rules text (map (renumbered f) lines) ≡ value_renumbered f (route_of monitors rules text lines)
