-- The rules of a monitor with their lines, and what findings ask of them.
use Rattle.std.specs.Prelude.{ℕ, min, Bool, true, false, ◌||◌, ◌==◌, List, [], ◌∷◌, map, filter, fold, Option, Some, None, if◌then◌else◌}
use Rattle.rv_model.specs.declared.hit.Hit.{Hit}
use Rattle.rv_model.specs.declared.hit.Mode.{Mode}
use Rattle.rv_model.specs.declared.hit.Mode.TheVariants as modes
use Rattle.rv_model.specs.declared.hit.What.{What}
use Rattle.rv_model.specs.declared.hit.What.TheVariants.{Da, Ltl, Nothing}
use Rattle.rv_model.specs.Numbers.{has_bit}
use Rattle.rv_bind.specs.RuleValues.{OnValue}
use Rattle.rv_findings.specs.declared.finding.Asked.{Asked}
use Rattle.rv_findings.specs.declared.finding.Asked.TheVariants.{Starts, Brings, Sets}
use Rattle.rv_findings.specs.declared.finding.OwnRule.{OwnRule}
use Rattle.rv_facts.specs.Pairs.{of_pairs}

-- ---- lines of the bindings

-- the first of lines, or another where there is none
abbrev pub first_or : ℕ → List ℕ → ℕ
first_or other [] = other
first_or other (line ∷ lines) = line

-- the first of lines, where there is one
abbrev pub first_of : List ℕ → Option ℕ
first_of [] = None
first_of (line ∷ lines) = Some line

-- the last of lines
abbrev pub final_line : List ℕ → ℕ
final_line lines = fold (λ before line. line) 0 lines

-- the least of a line and others
abbrev pub least_line : ℕ → List ℕ → ℕ
least_line line lines = fold (λ least other. min least other) line lines

-- the least of lines, where there is one
abbrev pub least_of : List ℕ → Option ℕ
least_of [] = None
least_of (line ∷ lines) = Some (least_line line lines)

-- there is none
abbrev pub is_nothing : {X : Type 0} → List X → Bool
is_nothing [] = true
is_nothing (x ∷ xs) = false

-- ---- the rules of a monitor

-- an instance may begin with it
abbrev pub is_start : Mode → Bool
is_start modes.Start = true
is_start modes.StartRun = true
is_start modes.Event = false
is_start modes.End = false

-- it brings the event
abbrev pub brings : ℕ → What → Bool
brings event (Da brought) = brought == event
brings event (Ltl on off pulse) = false
brings event Nothing = false

-- it sets the atom
abbrev pub sets : ℕ → What → Bool
sets atom (Da event) = false
sets atom (Ltl on off pulse) = has_bit on atom || has_bit pulse atom
sets atom Nothing = false

-- what is asked of a rule's hit is so
abbrev pub is_asked : Asked → Hit → Bool
is_asked Starts hit = is_start hit.mode
is_asked (Brings event) hit = brings event hit.what
is_asked (Sets atom) hit = sets atom hit.what

-- the rules of the monitor at an index, each with its line
abbrev pub own_rule : ℕ → ℕ → OnValue → ℕ → List OwnRule
own_rule monitor place rule line = if rule.monitor == monitor then record { line = line; hit = rule.hit } ∷ [] else []

abbrev pub own_rules : ℕ → List OnValue → List ℕ → List OwnRule
own_rules monitor rules lines = of_pairs (own_rule monitor) rules lines

-- the lines of those of them of which it is so
abbrev pub lines_where : Asked → List OwnRule → List ℕ
lines_where asked own = map (λ r. r.line) (filter (λ r. is_asked asked r.hit) own)
