-- The forms of lines by the parts that the program reads: those of a rule's line with one word read ahead.
use Rattle.std.specs.Prelude.{ℕ, not, List, ◌∷◌, ◌++◌, codes, bytes_eq, Result, Ok, Err, if◌then◌else◌}
use Rattle.rv_text.specs.declared.numbers.TheConstants.{BIND_SYNTAX}
use Rattle.rv_model.specs.declared.hit.Mode.{Mode}
use Rattle.rv_bind.specs.declared.bindings.Test.{Test}
use Rattle.rv_bind.specs.LineWords.{Read, Words, mode_named, or_syntax, test_of, when, word_at, after}
use Rattle.rv_bind.specs.Forms.{FormValue, on, container_form, on_form, monitor_form, react_form, off_form, begin_form, by_at, tests_at}

-- the form of a line that begins with the word and changes a monitor
abbrev pub change_form : List ℕ → Words → Result FormValue ℕ
change_form word words =
    if bytes_eq word (codes "react") then react_form words
    else if bytes_eq word (codes "off") then off_form words
    else if bytes_eq word (codes "begin") then begin_form words else Err BIND_SYNTAX

-- the form of a line that begins with the word, which is no comment's
abbrev pub form_behind : List ℕ → Words → Result FormValue ℕ
form_behind word words =
    if bytes_eq word (codes "container") then container_form words
    else if bytes_eq word (codes "monitor") then monitor_form words
    else if bytes_eq word (codes "on") then on_form words else change_form word words

-- what is read, with the word after it
abbrev pub with_next : {Y : Type 0} → Read Y → Read (Y × List ℕ)
with_next read = after read (λ x. after (word_at x.1) (λ next. Ok ((x.0, next.0), next.1)))

-- a test, with the word after it
abbrev pub test_next : Words → Read (Test × List ℕ)
test_next words = after (word_at words) (λ word. after (or_syntax (test_of word.0)) (λ test. after (word_at word.1) (λ next. Ok ((test, next.0), next.1))))

-- the mode and the words that say what is brought, behind the word that has to be `:`
abbrev pub hit_at : List ℕ → Words → Result (Mode × Words) ℕ
hit_at colon words =
    after (when (bytes_eq colon (codes ":")) colon) (λ sign.
    after (word_at words) (λ mode.
    after (or_syntax (mode_named mode.0)) (λ chosen.
    Ok (chosen, mode.1))))

-- the tests, with one word read ahead, and the hit behind them
abbrev pub hit_read : (List Test → Mode → Words → FormValue) → Words → Result FormValue ℕ
hit_read made words =
    after (with_next (tests_at words)) (λ tests.
    after (hit_at tests.0.1 tests.1) (λ hit.
    Ok (made tests.0.0 hit.0 hit.1)))

-- the form of a rule's line, with one word read ahead at its field and at its tests
abbrev pub on_read : Words → Result FormValue ℕ
on_read words =
    after (word_at words) (λ name.
    after (word_at name.1) (λ event.
    after (when (not (bytes_eq event.0 (codes ":"))) event.0) (λ called.
    after (with_next (by_at event.1)) (λ by.
    hit_read (on name.0 called by.0.0) (by.0.1 ∷ by.1)))))

-- the tests `tests`, then those that are read, or their refusal
abbrev pub with_tests : List Test → Read (List Test) → Read (List Test)
with_tests tests (Ok later) = Ok (tests ++ later.0, later.1)
with_tests tests (Err number) = Err number
