-- How one piece of a line is read, which stands between two blanks: as a number or as a name.
use Rattle.std.specs.Prelude.{◌≡◌, ℕ, ◌&&◌, nat_le, bytes_eq, List, [], ◌∷◌, Option, Some, None, if◌then◌else◌, codes, decimal}
use Rattle.std.specs.Option.{option_and_then, option_map}
use Rattle.rv_text.specs.Decimal.{decimal_of}
use Rattle.rv_model.specs.declared.hit.Mode.{Mode}
use Rattle.rv_model.specs.declared.hit.Mode.TheVariants.{Event, Start, StartRun}
use Rattle.rv_journal.specs.declared.names.LetterKind.{LetterKind}
use Rattle.rv_journal.specs.declared.names.LetterKind.TheVariants as kinds
use Rattle.rv_journal.specs.declared.names.ActVerb.{ActVerb}
use Rattle.rv_journal.specs.declared.names.ActVerb.TheVariants as verbs

-- a value that the first words give, and the words after them, or none
abbrev pub Reading : Type 0 → Type 0
Reading X = Option (X × List (List ℕ))

-- the answer is what `reads` reads of the words, and the words after it are left
abbrev pub ReadsWords : {X : Type 0} → (List (List ℕ) → Reading X) → List (List ℕ) → List (List ℕ) → Option X → Type 0
ReadsWords reads old new None = reads old ≡ None
ReadsWords reads old new (Some x) = reads old ≡ Some (x, new)

-- reads on after what was read, or reads nothing where nothing was
abbrev pub then_read : {X Y : Type 0} → Reading X → (X → List (List ℕ) → Option Y) → Option Y
then_read None next = None
then_read (Some read) next = next read.0 read.1

-- the number whose decimal text the word is, if it is at most `most`
unfoldable pub number_in : ℕ → List ℕ → Option ℕ
number_in most word = option_and_then (λ n. if nat_le n most && bytes_eq (decimal n) word then Some n else None) (decimal_of word)

-- the value of the first word, and the words after it, if it has a value
abbrev pub first_by : {X : Type 0} → (List ℕ → Option X) → List (List ℕ) → Reading X
first_by read [] = None
first_by read (word ∷ words) = option_map (λ x. (x, words)) (read word)

-- the largest number of 8 bits
abbrev pub most_8 : ℕ
most_8 = 255

-- the largest number of 32 bits
abbrev pub most_32 : ℕ
most_32 = 4294967295

-- the largest number of 64 bits
abbrev pub most_64 : ℕ
most_64 = 18446744073709551615

-- reads a number of at most `most`
abbrev pub number_from : ℕ → List (List ℕ) → Reading ℕ
number_from most words = first_by (number_in most) words

-- ---- names

-- the mode that a word names; an end is in no journal
unfoldable pub mode_in : List ℕ → Option Mode
mode_in word =
    if bytes_eq word (codes "event") then Some Event
    else if bytes_eq word (codes "start") then Some Start
    else if bytes_eq word (codes "start_run") then Some StartRun else None

-- the kind of letter that a word names
unfoldable pub kind_in : List ℕ → Option LetterKind
kind_in word = if bytes_eq word (codes "da") then Some kinds.Da else if bytes_eq word (codes "ltl") then Some kinds.Ltl else None

-- the act that a word names, without its numbers
unfoldable pub verb_in : List ℕ → Option ActVerb
verb_in word =
    if bytes_eq word (codes "deliver") then Some verbs.Deliver
    else if bytes_eq word (codes "stop") then Some verbs.Stop
    else if bytes_eq word (codes "look") then Some verbs.Look
    else if bytes_eq word (codes "raise") then Some verbs.Raise
    else if bytes_eq word (codes "lower") then Some verbs.Lower
    else if bytes_eq word (codes "clear") then Some verbs.Clear
    else if bytes_eq word (codes "end") then Some verbs.End else None
