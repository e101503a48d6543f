-- How the lines of a bindings file are written, form by form (this project's choice: docs/FORMATS.md, "Bindings").
use Rattle.std.specs.Prelude.{◌≡◌, ℕ, ◌<◌, false, IsTrue, List, [], ◌∷◌, ◌++◌, length, codes, bytes_eq, nat_eq, Option, Some, None}
use Rattle.std.specs.List.{AllByRecursion, list_all, starts_with}
use Rattle.std.specs.Str.{is_utf8}
use Rattle.rv_model.specs.declared.hit.Mode.{Mode}
use Rattle.rv_model.specs.declared.hit.Mode.TheVariants as modes
use Rattle.rv_model.specs.Reactors.{reactor_name}
use Rattle.rv_model.specs.Words.{kind_name, scope_name}
use Rattle.rv_bind.specs.declared.bindings.Test.{Test}
use Rattle.rv_bind.specs.declared.bindings.Test.TheVariants.{Is, IsNot}
use Rattle.rv_bind.specs.LineWords.{Words, is_field, is_field_byte, is_name}
use Rattle.rv_bind.specs.Forms.{FormValue, skipped, container, monitor, on, react, off, begin}

-- ---- parts of a line

-- how a mode is written
abbrev pub mode_name : Mode → List ℕ
mode_name modes.Event = codes "event"
mode_name modes.Start = codes "start"
mode_name modes.StartRun = codes "start_run"
mode_name modes.End = codes "end"

-- how a test is written
abbrev pub test_word : Test → List ℕ
test_word (Is field value) = field ++ (codes "=" ++ value)
test_word (IsNot field value) = field ++ (codes "!=" ++ value)

-- the field's name has one byte or more, all letters, digits and `_`, and the value one or more
abbrev pub IsFieldTest : List ℕ → List ℕ → Type 0
IsFieldTest field value = IsTrue (list_all is_field_byte field) × (0 < length field) × (0 < length value)

-- the test may be written
abbrev pub IsTest : Test → Type 0
IsTest (Is field value) = IsFieldTest field value
IsTest (IsNot field value) = IsFieldTest field value

-- [by FIELD]
abbrev pub by_words : Option (List ℕ) → Words
by_words None = []
by_words (Some field) = codes "by" ∷ field ∷ []

-- a field's name has letters, digits and `_`
abbrev pub IsBy : Option (List ℕ) → Type 0
IsBy None = Unit {0}
IsBy (Some field) = IsTrue (is_field field)

-- {if TEST}
abbrev pub tests_words : List Test → Words
tests_words [] = []
tests_words (test ∷ tests) = codes "if" ∷ test_word test ∷ tests_words tests

-- [in CONTAINER]
abbrev pub holder_words : Option (List ℕ) → Words
holder_words None = []
holder_words (Some name) = codes "in" ∷ name ∷ []

-- ---- whole lines

-- the words of a form's line; a line that is skipped has none
abbrev pub line_words : FormValue → Words
line_words skipped = []
line_words (container name) = codes "container" ∷ name ∷ []
line_words (monitor name scope kind file holder) = codes "monitor" ∷ name ∷ scope_name scope ∷ kind_name kind ∷ file ∷ holder_words holder
line_words (on name event by tests mode words) = codes "on" ∷ name ∷ event ∷ (by_words by ++ (tests_words tests ++ (codes ":" ∷ mode_name mode ∷ words)))
line_words (react name reactor) = codes "react" ∷ name ∷ reactor_name reactor ∷ []
line_words (off name) = codes "off" ∷ name ∷ []
line_words (begin name atom) = codes "begin" ∷ name ∷ atom ∷ []

-- a line without words, or whose first word begins with `#`
abbrev pub IsSkipped : Words → Type 0
IsSkipped [] = Unit {0}
IsSkipped (word ∷ words) = IsTrue (starts_with nat_eq word (codes "#"))

-- the words are a line of the form, whose names, texts and tests are what they have to be
abbrev pub IsLineOf : Words → FormValue → Type 0
IsLineOf words skipped = IsSkipped words
IsLineOf words (container name) = IsTrue (is_name name) × (words ≡ line_words (container name))
IsLineOf words (monitor name scope kind file holder) = IsTrue (is_name name) × IsTrue (is_utf8 file) × (words ≡ line_words (monitor name scope kind file holder))
IsLineOf words (on name event by tests mode brought) = (bytes_eq event (codes ":") ≡ false) × IsBy by × AllByRecursion IsTest tests × (words ≡ line_words (on name event by tests mode brought))
IsLineOf words (react name reactor) = words ≡ line_words (react name reactor)
IsLineOf words (off name) = words ≡ line_words (off name)
IsLineOf words (begin name atom) = words ≡ line_words (begin name atom)
