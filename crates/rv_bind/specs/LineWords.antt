-- The words of a bindings line, one at a time (this project's choice: docs/FORMATS.md, "Bindings").
use Rattle.std.specs.Prelude.{ℕ, Bool, true, false, not, ◌&&◌, ◌||◌, ◌==◌, nat_le, nat_lt, List, [], ◌∷◌, length, take, drop, codes, bytes_eq, position, Option, Some, None, Result, Ok, Err, if◌then◌else◌}
use Rattle.std.specs.List.{list_all}
use Rattle.rv_text.specs.declared.numbers.TheConstants.{BIND_SYNTAX}
use Rattle.rv_model.specs.declared.hit.Mode.{Mode}
use Rattle.rv_model.specs.declared.hit.Mode.TheVariants as modes
use Rattle.rv_bind.specs.declared.bindings.Test.{Test}
use Rattle.rv_bind.specs.declared.bindings.Test.TheVariants.{Is, IsNot}

-- the words of a line that are left to be read, each by its bytes
abbrev pub Words : Type 0
Words = List (List ℕ)

-- a value and the words that are left, or the number of a refusal
abbrev pub Read : Type 0 → Type 0
Read Y = Result (Y × Words) ℕ

-- the value, or the refusal of a line without a form where there is none
abbrev pub or_syntax : {Y : Type 0} → Option Y → Result Y ℕ
or_syntax (Some y) = Ok y
or_syntax None = Err BIND_SYNTAX

-- the value where the test passes, and else the refusal of a line without a form
abbrev pub when : {Y : Type 0} → Bool → Y → Result Y ℕ
when true y = Ok y
when false y = Err BIND_SYNTAX

-- goes on from the value, or keeps the refusal
abbrev pub after : {X Y : Type 0} → Result X ℕ → (X → Result Y ℕ) → Result Y ℕ
after (Ok x) next = next x
after (Err number) next = Err number

-- the first word, and those after it; a line that ends here has no form
abbrev pub word_at : Words → Read (List ℕ)
word_at [] = Err BIND_SYNTAX
word_at (word ∷ words) = Ok (word, words)

-- nothing where no word is left; a line with one more word has no form
abbrev pub no_word_left : Words → Result Unit ℕ
no_word_left [] = Ok tt
no_word_left (word ∷ words) = Err BIND_SYNTAX

-- ---- single words

-- whether the byte is a lower-case letter, a digit or `_`
abbrev pub is_name_byte : ℕ → Bool
is_name_byte byte = nat_le 97 byte && nat_le byte 122 || (nat_le 48 byte && nat_le byte 57 || byte == 95)

-- whether the byte is a letter of either case, a digit or `_`
abbrev pub is_field_byte : ℕ → Bool
is_field_byte byte = is_name_byte byte || nat_le 65 byte && nat_le byte 90

-- whether the word may name a container or a monitor: at most 32 lower-case letters, digits and `_`
abbrev pub is_name : List ℕ → Bool
is_name word = nat_le (length word) 32 && list_all is_name_byte word

-- whether the word may name a field: letters, digits and `_`
abbrev pub is_field : List ℕ → Bool
is_field word = list_all is_field_byte word

-- the mode that the word names, if it names one
abbrev pub mode_named : List ℕ → Option Mode
mode_named word = if bytes_eq word (codes "event") then Some modes.Event else if bytes_eq word (codes "start") then Some modes.Start else if bytes_eq word (codes "start_run") then Some modes.StartRun else if bytes_eq word (codes "end") then Some modes.End else None

-- the test of a field's name and what follows it, if that is `=` or `!=` and a value of one byte or more
abbrev pub test_behind : List ℕ → List ℕ → Option Test
test_behind field [] = None
test_behind field (sign ∷ []) = None
test_behind field (sign ∷ next ∷ rest) =
    if sign == 61 then Some (Is field (next ∷ rest))
    else if sign == 33 && (next == 61 && nat_lt 0 (length rest)) then Some (IsNot field rest) else None

-- the test that a word says, if it says one, by the offset at which its field's name ends
abbrev pub test_split : List ℕ → Option ℕ → Option Test
test_split word None = None
test_split word (Some end) = if end == 0 then None else test_behind (take end word) (drop end word)

-- the test that a word says, if it says one: `F=W` or `F!=W`, with one byte or more on each side
abbrev pub test_of : List ℕ → Option Test
test_of word = test_split word (position (λ byte. not (is_field_byte byte)) word)
