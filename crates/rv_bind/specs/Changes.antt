-- What an `on` line brings: an automaton's event, what becomes of a rule's atoms, or nothing where it is an end (this
-- project's choice: docs/FORMATS.md, "Bindings").
use Rattle.std.specs.Prelude.{ℕ, ◌^◌, Bool, true, false, not, ◌&&◌, ◌||◌, ◌==◌, List, [], ◌∷◌, length, bytes_eq, position, is_some, Option, Some, None, Result, Ok, Err, slice_index_or, if◌then◌else◌}
use Rattle.std.specs.List.{list_all, list_any}
use Rattle.rv_text.specs.declared.numbers.TheConstants.{BIND_SYNTAX, UNKNOWN_EVENT, UNKNOWN_ATOM}
use Rattle.rv_model.specs.declared.hit.Mode.{Mode}
use Rattle.rv_model.specs.declared.hit.Mode.TheVariants as modes
use Rattle.rv_model.specs.declared.hit.What.{What}
use Rattle.rv_model.specs.declared.hit.What.TheVariants as whats
use Rattle.rv_model.specs.declared.work.Scope.{Scope}
use Rattle.rv_model.specs.declared.work.Scope.TheVariants as scopes
use Rattle.rv_model.specs.declared.formula.Spec.{Spec}
use Rattle.rv_model.specs.declared.formula.Spec.TheVariants as specs
use Rattle.rv_model.specs.Numbers.{number_of}
use Rattle.rv_model.specs.Scripts.{is_end}
use Rattle.rv_bind.specs.LineWords.{Words}

-- ---- single words

-- whether the byte is `+`, `-` or `*`
abbrev pub is_sign : ℕ → Bool
is_sign byte = byte == 43 || (byte == 45 || byte == 42)

-- whether the word is a sign and a name of one byte or more
abbrev pub is_change : List ℕ → Bool
is_change [] = false
is_change (sign ∷ []) = false
is_change (sign ∷ byte ∷ name) = is_sign sign

-- a change without its sign: the atom's name
abbrev pub atom_in : List ℕ → List ℕ
atom_in [] = []
atom_in (sign ∷ name) = name

-- whether the word is this sign and the atom's name
abbrev pub is_signed_name : ℕ → List ℕ → List ℕ → Bool
is_signed_name sign atom [] = false
is_signed_name sign atom (first ∷ name) = first == sign && bytes_eq name atom

-- ---- the words of a line

-- whether two of the words change one atom, whatever their signs
abbrev pub stands_twice : Words → Bool
stands_twice [] = false
stands_twice (word ∷ words) = list_any (λ other. bytes_eq (atom_in other) (atom_in word)) words || stands_twice words

-- whether a hit of the mode runs its event: it is no end, and begins no run without its event
abbrev pub runs_its_event : Mode → Bool
runs_its_event modes.Event = true
runs_its_event modes.Start = false
runs_its_event modes.StartRun = true
runs_its_event modes.End = false

-- whether there is exactly one word
abbrev pub is_one : Words → Bool
is_one [] = false
is_one (word ∷ []) = true
is_one (word ∷ next ∷ words) = false

-- whether the words are what the specification takes: for an automaton one event; for a rule changes of different
-- atoms, in a mode that runs its event
abbrev pub allows_what : Spec → Mode → Words → Bool
allows_what (specs.Da automaton) mode words = is_one words
allows_what (specs.Ltl rule) mode words = runs_its_event mode && (list_all is_change words && not (stands_twice words))

-- whether instances of the scope may end, which a task's alone may
abbrev pub may_end : Scope → Bool
may_end scopes.Global = false
may_end scopes.Cpu = false
may_end scopes.Task = true

-- whether a rule may have the mode and the words: an end, of a task monitor alone, has no words
abbrev pub allows_hit : Scope → Spec → Mode → Words → Bool
allows_hit scope spec mode words = if is_end mode then may_end scope && length words == 0 else allows_what spec mode words

-- ---- by the specification's names

-- the index at which a list has the name first, if it has it
abbrev pub place_named : List (List ℕ) → List ℕ → Option ℕ
place_named names name = position (λ other. bytes_eq other name) names

-- the set of the atoms that a word names with this sign, a bit for each atom's index
abbrev pub atoms_signed : ℕ → List (List ℕ) → Words → ℕ
atoms_signed sign atoms words = number_of (λ place. list_any (is_signed_name sign (slice_index_or atoms place [])) words) (length atoms)

-- whether each word names an atom
abbrev pub are_known : List (List ℕ) → Words → Bool
are_known atoms words = list_all (λ word. is_some (place_named atoms (atom_in word))) words

-- the atoms that go on, that go off, and that are true for the event alone, or a refusal where one is unknown
abbrev pub atoms_change : List (List ℕ) → Words → Result What ℕ
atoms_change atoms words =
    if are_known atoms words then Ok (whats.Ltl (atoms_signed 43 atoms words) (atoms_signed 45 atoms words) (atoms_signed 42 atoms words)) else Err UNKNOWN_ATOM

-- an automaton's event by its index, or a refusal where its name was not found
abbrev pub event_what : Option ℕ → Result What ℕ
event_what None = Err UNKNOWN_EVENT
event_what (Some place) = Ok (whats.Da place)

-- the one event that the words name; no word, or a second, is of no form
abbrev pub event_of : List (List ℕ) → Words → Result What ℕ
event_of events [] = Err BIND_SYNTAX
event_of events (word ∷ []) = event_what (place_named events word)
event_of events (word ∷ next ∷ words) = Err BIND_SYNTAX

-- what a hit other than an end brings: the event of the words, or their changes of atoms
abbrev pub what_of : Spec → Words → Result What ℕ
what_of (specs.Da automaton) words = event_of automaton.events words
what_of (specs.Ltl rule) words = atoms_change rule.atoms words

-- what a hit brings: an end nothing, and any other what its words say
abbrev pub brought : Spec → Mode → Words → Result What ℕ
brought spec mode words = if is_end mode then Ok whats.Nothing else what_of spec words

-- the set of one atom alone by its index, or a refusal where its name was not found
abbrev pub bit_at_place : Option ℕ → Result ℕ ℕ
bit_at_place None = Err UNKNOWN_ATOM
bit_at_place (Some place) = Ok (2 ^ place)

-- the set of one atom alone by its name; an automaton has none
abbrev pub atom_bit : Spec → List ℕ → Result ℕ ℕ
atom_bit (specs.Da automaton) name = Err BIND_SYNTAX
atom_bit (specs.Ltl rule) name = bit_at_place (place_named rule.atoms name)
