-- The forms of a bindings line, word by word (this project's choice: docs/FORMATS.md, "Bindings").
use Rattle.std.specs.Prelude.{ℕ, not, List, [], ◌∷◌, codes, bytes_eq, nat_eq, Option, Some, None, Result, Ok, Err, if◌then◌else◌}
use Rattle.std.specs.List.{starts_with}
use Rattle.std.specs.Str.{is_utf8}
use Rattle.rv_text.specs.declared.numbers.TheConstants.{BIND_SYNTAX}
use Rattle.rv_model.specs.declared.work.Scope.{Scope}
use Rattle.rv_model.specs.declared.hit.Mode.{Mode}
use Rattle.rv_model.specs.declared.reactor.Reactor.{Reactor}
use Rattle.rv_bind.specs.declared.bindings.Test.{Test}
use Rattle.rv_model.specs.declared.kind.SpecKind.{SpecKind}
use Rattle.rv_model.specs.Reactors.{reactor_named}
use Rattle.rv_model.specs.Words.{kind_named, scope_named}
use Rattle.rv_bind.specs.LineWords.{Read, Words, no_word_left, is_field, is_name, mode_named, or_syntax, test_of, when, word_at, after}

-- what a bindings line says, by its form
pub data FormValue : Type 0 where
  skipped : FormValue
  -- the container's name
  container : List ℕ → FormValue
  -- the monitor's name, scope, kind of specification and file, and its container's name
  monitor : List ℕ → Scope → SpecKind → List ℕ → Option (List ℕ) → FormValue
  -- the monitor, the event, the field that has the pid, the tests, the mode, and the words that say what is brought
  on : List ℕ → List ℕ → Option (List ℕ) → List Test → Mode → Words → FormValue
  -- the monitor and its reactor
  react : List ℕ → Reactor → FormValue
  -- the monitor, which is not enabled when a run begins
  off : List ℕ → FormValue
  -- the monitor and the atom, which starts true
  begin : List ℕ → List ℕ → FormValue

-- after `container`: NAME
abbrev pub container_form : Words → Result FormValue ℕ
container_form words =
    after (word_at words) (λ name.
    after (when (is_name name.0) name.0) (λ called.
    after (no_word_left name.1) (λ done.
    Ok (container called))))

-- at the end of a monitor's line: [in CONTAINER]
abbrev pub holder_at : Words → Result (Option (List ℕ)) ℕ
holder_at [] = Ok None
holder_at (word ∷ words) =
    after (when (bytes_eq word (codes "in")) word) (λ sign.
    after (word_at words) (λ name.
    after (no_word_left name.1) (λ done.
    Ok (Some name.0))))

-- after `monitor`: NAME SCOPE KIND FILE [in CONTAINER]
abbrev pub monitor_form : Words → Result FormValue ℕ
monitor_form words =
    after (word_at words) (λ name.
    after (when (is_name name.0) name.0) (λ called.
    after (word_at name.1) (λ scope.
    after (or_syntax (scope_named scope.0)) (λ reach.
    after (word_at scope.1) (λ kind.
    after (or_syntax (kind_named kind.0)) (λ language.
    after (word_at kind.1) (λ file.
    after (when (is_utf8 file.0) file.0) (λ text.
    after (holder_at file.1) (λ holder.
    Ok (monitor called reach language text holder))))))))))

-- after `react`: MONITOR REACTOR
abbrev pub react_form : Words → Result FormValue ℕ
react_form words =
    after (word_at words) (λ name.
    after (word_at name.1) (λ reactor.
    after (or_syntax (reactor_named reactor.0)) (λ chosen.
    after (no_word_left reactor.1) (λ done.
    Ok (react name.0 chosen)))))

-- after `off`: MONITOR
abbrev pub off_form : Words → Result FormValue ℕ
off_form words = after (word_at words) (λ name. after (no_word_left name.1) (λ done. Ok (off name.0)))

-- after `begin`: MONITOR ATOM
abbrev pub begin_form : Words → Result FormValue ℕ
begin_form words =
    after (word_at words) (λ name.
    after (word_at name.1) (λ atom.
    after (no_word_left atom.1) (λ done.
    Ok (begin name.0 atom.0))))

-- after an event: [by FIELD]
abbrev pub by_at : Words → Read (Option (List ℕ))
by_at [] = Ok (None, [])
by_at (word ∷ words) = if bytes_eq word (codes "by") then after (word_at words) (λ field. after (when (is_field field.0) field.0) (λ name. Ok (Some name, field.1))) else Ok (None, word ∷ words)

-- a test, and then the tests that are read after it, or their refusal
abbrev pub with_test : Test → Read (List Test) → Read (List Test)
with_test test (Ok later) = Ok (test ∷ later.0, later.1)
with_test test (Err number) = Err number

-- after an event and its field: {if TEST}
abbrev pub tests_at : Words → Read (List Test)
tests_at [] = Ok ([], [])
tests_at (word ∷ []) = if bytes_eq word (codes "if") then Err BIND_SYNTAX else Ok ([], word ∷ [])
tests_at (word ∷ test ∷ words) =
    if bytes_eq word (codes "if") then after (or_syntax (test_of test)) (λ first. with_test first (tests_at words)) else Ok ([], word ∷ test ∷ words)

-- after the tests: `:` MODE {WHAT}
abbrev pub hit_form : (Mode → Words → FormValue) → Words → Result FormValue ℕ
hit_form made words =
    after (word_at words) (λ colon.
    after (when (bytes_eq colon.0 (codes ":")) colon.0) (λ sign.
    after (word_at colon.1) (λ mode.
    after (or_syntax (mode_named mode.0)) (λ chosen.
    Ok (made chosen mode.1)))))

-- after `on`: MONITOR EVENT [by FIELD] {if TEST} : MODE {WHAT}
abbrev pub on_form : Words → Result FormValue ℕ
on_form words =
    after (word_at words) (λ name.
    after (word_at name.1) (λ event.
    after (when (not (bytes_eq event.0 (codes ":"))) event.0) (λ called.
    after (by_at event.1) (λ by.
    after (tests_at by.1) (λ tests.
    hit_form (on name.0 called by.0 tests.0) tests.1)))))

-- ---- all forms

-- the form of a line; one without a word, or whose first word begins with `#`, is skipped
abbrev pub form_of : Words → Result FormValue ℕ
form_of [] = Ok skipped
form_of (word ∷ words) =
    if starts_with nat_eq word (codes "#") then Ok skipped
    else if bytes_eq word (codes "container") then container_form words
    else if bytes_eq word (codes "monitor") then monitor_form words
    else if bytes_eq word (codes "on") then on_form words
    else if bytes_eq word (codes "react") then react_form words
    else if bytes_eq word (codes "off") then off_form words
    else if bytes_eq word (codes "begin") then begin_form words else Err BIND_SYNTAX
