-- Every refusal of a specification and of a line of bindings has one of the numbers of these.
use Rattle.std.proofs.Common.{◌≡◌, ℕ, zero, suc, List, [], ◌∷◌, subst, ap, ◌∙◌, arith}
use Rattle.std.specs.Prelude.{Bool, true, false, not, bytes_eq, codes, Option, Some, None, Result, Ok, Err, IfErr, if◌then◌else◌}
use Rattle.std.specs.Str.{is_utf8}
use Rattle.rv_text.specs.declared.refusals.Refusal.{Refusal}
use Rattle.rv_text.specs.declared.refusals.Refused.{Refused}
use Rattle.rv_text.specs.declared.refusals.Refused.TheVariants as refuseds
use Rattle.rv_text.specs.Readings.{Refuses, and_then}
use Rattle.rv_text.specs.TextLines.{LineText}
use Rattle.rv_io.specs.Files.{Files}
use Rattle.rv_model.specs.Ltl.{Ltl}
use Rattle.rv_model.specs.declared.hit.Mode.{Mode}
use Rattle.rv_model.specs.Reactors.{reactor_named}
use Rattle.rv_model.specs.Words.{kind_named, scope_named}
use Rattle.rv_dot.specs.Statements.{Claim}
use Rattle.rv_dot.specs.Gathered.{targets_in}
use Rattle.rv_dot.specs.Text.{said_by}
use Rattle.rv_dot.specs.Dot.{dot_of, machine_said, machine_of, initial_of, with_initial}
use Rattle.rv_ltl.specs.File.{Def}
use Rattle.rv_ltl.specs.RuleFile.{ltl_of, rule_in, formula_of}
use Rattle.rv_nnf.specs.Parts.{PartValue}
use Rattle.rv_nnf.specs.NormalForm.{normal_of}
use Rattle.rv_tableau.specs.declared.pairs.Pair.{Pair}
use Rattle.rv_tableau.specs.Nodes.{whole_set, nodes_of, nodes_from}
use Rattle.rv_tableau.specs.Rows.{tableau_of}
use Rattle.rv_bind.specs.declared.bindings.Monitor.{Monitor}
use Rattle.rv_bind.specs.declared.bindings.Test.{Test}
use Rattle.rv_bind.specs.declared.compile.Compiled.{Compiled}
use Rattle.rv_bind.specs.declared.fault.BindFault.{BindFault}
use Rattle.rv_bind.specs.declared.fault.BindFault.TheVariants as faults
use Rattle.rv_model.specs.declared.kind.SpecKind.{SpecKind}
use Rattle.rv_model.specs.declared.kind.SpecKind.TheVariants as kinds
use Rattle.rv_bind.specs.Values.{BoundValue}
use Rattle.rv_bind.specs.LineWords.{Words, when, after, or_syntax, word_at, no_word_left, is_name}
use Rattle.rv_bind.specs.Forms.{FormValue, on, holder_at, container_form, monitor_form, react_form, off_form, begin_form, by_at, tests_at, hit_form, on_form, form_of}
use Rattle.rv_bind.specs.MonitorLines.{rule_bound, change_bound, begin_bound}
use Rattle.rv_bind.specs.Compiling.{compiled_of}
use Rattle.rv_bind.specs.Bound.{compiled_in, form_in, place_for, container_bound}
use Rattle.rv_bind.specs.Outcomes.{IsNumber, IsBindingsNumber, IsFaultIn, Refines, accepted, of_file, text_front, front_named}
use Rattle.rv_bind.proofs.FrontLemmas.{spec_front}

-- ---- specifications

-- the refusal has one of the numbers
abbrev pub IsBindingsRefusal : Refusal → Type 0
IsBindingsRefusal refusal = IsBindingsNumber refusal.number

-- it is one that refusals have
pub bindings_are_numbers : (number : ℕ) → IsBindingsNumber number → IsNumber number
bindings_are_numbers number is = (let low = is.0 in omega arith, let high = is.1 in omega arith)

-- what is read, and what is read on from it
pub then_numbered : {X Y : Type 0} (Is : Refusal → Type 0) (read : Result X Refusal) (next : X → Result Y Refusal) → IfErr read Is → ((x : X) → IfErr (next x) Is) → IfErr (and_then read next) Is
then_numbered Is (Ok x) next first second = second x
then_numbered Is (Err refusal) next first second = first

-- the target of the edges that leave markers
initial_numbered : (targets : List (List ℕ)) → IfErr (initial_of targets) IsBindingsRefusal
initial_numbered targets = grind arith

-- the automaton with an initial state
with_initial_numbered : (claims : List Claim) (initial : List ℕ) → IfErr (with_initial claims initial) IsBindingsRefusal
unfolding with_initial
with_initial_numbered claims initial = grind arith

-- the automaton of the statements
machine_numbered : (claims : List Claim) → IfErr (machine_of claims) IsBindingsRefusal
unfolding machine_of
machine_numbered claims = grind (arith, then_numbered IsBindingsRefusal (initial_of (targets_in claims)) (with_initial claims) (initial_numbered (targets_in claims)) (with_initial_numbered claims))

-- the automaton of a text
pub dot_numbered : (bytes : List ℕ) → IfErr (dot_of bytes) IsBindingsRefusal
unfolding dot_of
dot_numbered bytes = grind (arith, said (said_by bytes))
  where
    said : (claims : Option (List Claim)) → IfErr (machine_said claims) IsBindingsRefusal
    said None = grind arith
    said (Some claims) = machine_numbered claims

-- the formula that a name stands for
formula_numbered : (ds : List Def) (root : ℕ) → IfErr (formula_of ds root) IsBindingsRefusal
formula_numbered ds root = grind arith

-- the rule of the definitions
definitions_numbered : (names : List (List ℕ)) (ds : List Def) → IfErr (rule_in names ds) IsBindingsRefusal
definitions_numbered names ds = grind (arith, formula_numbered)

-- the rule of a text
pub ltl_numbered : (bytes : List ℕ) → IfErr (ltl_of bytes) IsBindingsRefusal
unfolding ltl_of
ltl_numbered bytes = grind (arith, definitions_numbered)

-- the parts of a formula
pub normal_numbered : (f : Ltl) → IfErr (normal_of f) IsBindingsRefusal
normal_numbered f = grind arith

-- the nodes from a place on
nodes_numbered : (ps : List PartValue) (n i : ℕ) (sets : List ℕ) (nodes : List Pair) → IfErr (nodes_from ps n i sets nodes) IsBindingsRefusal
unfolding nodes_from
nodes_numbered ps zero i sets nodes = tt
nodes_numbered ps (suc n) i sets nodes = grind (arith, nodes_numbered ps n)

-- all the nodes
all_nodes_numbered : (ps : List PartValue) → IfErr (nodes_of ps) IsBindingsRefusal
unfolding nodes_of
all_nodes_numbered ps = nodes_numbered ps 33 0 (whole_set ps ∷ []) []

-- the table of the parts
pub tableau_numbered : (ps : List PartValue) → IfErr (tableau_of ps) IsBindingsRefusal
tableau_numbered ps = grind (arith, all_nodes_numbered ps)

-- the specification of a text
pub compiled_numbered : (kind : SpecKind) (text : List ℕ) → IfErr (compiled_of kind text) IsBindingsRefusal
compiled_numbered kinds.Da text = then_numbered IsBindingsRefusal (dot_of text) _ (dot_numbered text) (λ automaton. tt)
compiled_numbered kinds.Ltl text = then_numbered IsBindingsRefusal (ltl_of text) _ (ltl_numbered text) (λ rule. then_numbered IsBindingsRefusal (and_then (normal_of rule.formula) tableau_of) _ (then_numbered IsBindingsRefusal (normal_of rule.formula) tableau_of (normal_numbered rule.formula) tableau_numbered) (λ table. tt))

-- what came of a file's specification that is refused
pub spec_comes : (told : Option Files) (before now : ℕ) (kind : SpecKind) (file text : List ℕ) (fault : Refused) (given : BindFault) → IsFaultIn file fault given → Refuses fault (compiled_of kind text)
    → ((files : Files) → told ≡ Some files → front_named files file ≡ accepted (text_front text)) → Refines (λ (compiled : Compiled). compiled) told before now (Err given) (λ files. compiled_in files kind file)
spec_comes told before now kind file text refuseds.Memory given is refuses read = rw is tt
spec_comes told before now kind file text (refuseds.Because refusal) faults.Memory is refuses read = tt
spec_comes told before now kind file text (refuseds.Because refusal) (faults.Unread named) is refuses read = absurd is
spec_comes told before now kind file text (refuseds.Because refusal) (faults.Refused named given) is refuses read = (
  rw is.1 (bindings_are_numbers _ (subst (λ (r : Result Compiled Refusal). IfErr r IsBindingsRefusal) refuses (compiled_numbered kind text))),
  λ files known. rw (is.0, is.1) (spec_front files kind file text (read files known) ∙ ap (of_file file) refuses),
)

-- ---- lines

-- what is read, and what is read on from it
after_numbered : {X Y : Type 0} (read : Result X ℕ) (next : X → Result Y ℕ) → IfErr read IsBindingsNumber → ((x : X) → IfErr (next x) IsBindingsNumber) → IfErr (after read next) IsBindingsNumber
after_numbered (Ok x) next first second = second x
after_numbered (Err number) next first second = first

-- one of two readings, by a test
either_numbered : {X : Type 0} (test : Bool) (x y : Result X ℕ) → IfErr x IsBindingsNumber → IfErr y IsBindingsNumber → IfErr (if test then x else y) IsBindingsNumber
either_numbered true x y first second = first
either_numbered false x y first second = second

-- what is chosen by a word, where it chooses something
or_syntax_numbered : {X : Type 0} (o : Option X) → IfErr (or_syntax o) IsBindingsNumber
or_syntax_numbered (Some x) = tt
or_syntax_numbered None = grind arith

-- what is read where a test passes
when_numbered : {X : Type 0} (test : Bool) (x : X) → IfErr (when test x) IsBindingsNumber
when_numbered true x = tt
when_numbered false x = grind arith

-- the next word
word_numbered : (words : Words) → IfErr (word_at words) IsBindingsNumber
word_numbered [] = grind arith
word_numbered (word ∷ words) = tt

-- the end of the words
end_numbered : (words : Words) → IfErr (no_word_left words) IsBindingsNumber
end_numbered [] = tt
end_numbered (word ∷ words) = grind arith

-- the container
holder_numbered : (words : Words) → IfErr (holder_at words) IsBindingsNumber
holder_numbered words = grind arith

-- the form of a monitor's line
monitor_numbered : (words : Words) → IfErr (monitor_form words) IsBindingsNumber
monitor_numbered words =
    after_numbered (word_at words) _ (word_numbered words) (λ name.
    after_numbered (when (is_name name.0) name.0) _ (when_numbered (is_name name.0) name.0) (λ called.
    after_numbered (word_at name.1) _ (word_numbered name.1) (λ scope.
    after_numbered (or_syntax (scope_named scope.0)) _ (or_syntax_numbered (scope_named scope.0)) (λ reach.
    after_numbered (word_at scope.1) _ (word_numbered scope.1) (λ kind.
    after_numbered (or_syntax (kind_named kind.0)) _ (or_syntax_numbered (kind_named kind.0)) (λ language.
    after_numbered (word_at kind.1) _ (word_numbered kind.1) (λ file.
    after_numbered (when (is_utf8 file.0) file.0) _ (when_numbered (is_utf8 file.0) file.0) (λ text.
    after_numbered (holder_at file.1) _ (holder_numbered file.1) (λ holder. tt)))))))))

-- the form of a reactor's line
react_numbered : (words : Words) → IfErr (react_form words) IsBindingsNumber
react_numbered words =
    after_numbered (word_at words) _ (word_numbered words) (λ name.
    after_numbered (word_at name.1) _ (word_numbered name.1) (λ reactor.
    after_numbered (or_syntax (reactor_named reactor.0)) _ (or_syntax_numbered (reactor_named reactor.0)) (λ chosen.
    after_numbered (no_word_left reactor.1) _ (end_numbered reactor.1) (λ done. tt))))

-- the field that has the pid
by_numbered : (words : Words) → IfErr (by_at words) IsBindingsNumber
by_numbered words = grind arith

-- the tests
tests_numbered : (words : Words) → IfErr (tests_at words) IsBindingsNumber
tests_numbered [] = tt
tests_numbered (word ∷ []) = grind arith
tests_numbered (word ∷ test ∷ words) = grind (arith, tests_numbered words)

-- what a hit is
hit_numbered : (made : Mode → Words → FormValue) (words : Words) → IfErr (hit_form made words) IsBindingsNumber
hit_numbered made words = grind arith

-- what stands behind the event of a rule's line
behind_numbered : (name called : List ℕ) (words : Words) → IfErr (after (by_at words) (λ by. after (tests_at by.1) (λ tests. hit_form (on name called by.0 tests.0) tests.1))) IsBindingsNumber
behind_numbered name called words = after_numbered (by_at words) _ (by_numbered words) (λ by. after_numbered (tests_at by.1) _ (tests_numbered by.1) (λ tests. hit_numbered (on name called by.0 tests.0) tests.1))

-- the form of a rule's line
on_numbered : (words : Words) → IfErr (on_form words) IsBindingsNumber
on_numbered [] = grind arith
on_numbered (name ∷ []) = grind arith
on_numbered (name ∷ event ∷ words) = after_numbered (when (not (bytes_eq event (codes ":"))) event) _ (grind arith) (λ called. behind_numbered name called words)

-- the forms of the shorter lines
short_numbered : (words : Words) → IfErr (container_form words) IsBindingsNumber × IfErr (react_form words) IsBindingsNumber × IfErr (off_form words) IsBindingsNumber × IfErr (begin_form words) IsBindingsNumber
short_numbered words = (grind arith, react_numbered words, grind arith, grind arith)

-- the form of a line
form_numbered : (words : Words) → IfErr (form_of words) IsBindingsNumber
form_numbered [] = tt
form_numbered (word ∷ words) = search (arith, either_numbered, short_numbered words, monitor_numbered words, on_numbered words)

-- the form of a line that ends in time
pub form_in_numbered : (line : LineText) → IfErr (form_in line) IsBindingsNumber
form_in_numbered line = grind (arith, form_numbered)

-- a monitor's place
pub place_numbered : (bound : BoundValue) (name : List ℕ) (holder : Option (List ℕ)) → IfErr (place_for bound name holder) IsBindingsNumber
place_numbered bound name holder = grind arith

-- a container
pub container_numbered : (bound : BoundValue) (name : List ℕ) → IfErr (container_bound bound name) IsBindingsNumber
container_numbered bound name = grind arith

-- a rule
pub rule_numbered : (bound : BoundValue) (place : Option ℕ) (event : List ℕ) (by : Option (List ℕ)) (tests : List Test) (mode : Mode) (words : Words) → IfErr (rule_bound bound place event by tests mode words) IsBindingsNumber
rule_numbered bound place event by tests mode words = grind arith

-- a change of a monitor
pub change_numbered : (bound : BoundValue) (place : Option ℕ) (change : Monitor → Monitor) → IfErr (change_bound bound place change) IsBindingsNumber
change_numbered bound place change = grind arith

-- an atom that starts true
pub begin_numbered : (bound : BoundValue) (place : Option ℕ) (atom : List ℕ) → IfErr (begin_bound bound place atom) IsBindingsNumber
begin_numbered bound place atom = grind arith
