-- How words and numbers are printed in facts and findings (this project's choice: docs/COVERAGE.md).
use Rattle.std.specs.Prelude.{ℕ, ◌+◌, ◌/◌, ◌%◌, Bool, not, ◌&&◌, ◌==◌, nat_lt, List, [], ◌∷◌, ◌++◌, flat_map, codes, decimal, if◌then◌else◌}
use Rattle.rv_model.specs.Reports.{line_end}
use Rattle.rv_facts.specs.declared.counts.Counted.{Counted}

-- a digit of base 16
abbrev pub hex_digit : ℕ → ℕ
hex_digit n = if nat_lt n 10 then 48 + n else 87 + n

-- it is a printed character of ASCII, and no backslash
abbrev pub is_plain : ℕ → Bool
is_plain byte = nat_lt 32 byte && nat_lt byte 127 && not (byte == 92)

-- a byte that is plain as it is, and any other as four
abbrev pub shown_byte : ℕ → List ℕ
shown_byte byte = if is_plain byte then byte ∷ [] else codes "\\x" ++ hex_digit (byte / 16) ∷ hex_digit (byte % 16) ∷ []

-- a word of a file as it is printed
abbrev pub shown : List ℕ → List ℕ
shown word = flat_map shown_byte word

-- a word of a file behind a text
abbrev pub worded : List ℕ → List ℕ → List ℕ
worded front word = front ++ shown word

-- a number behind its name
abbrev pub numbered : List ℕ → ℕ → List ℕ
numbered name n = name ++ codes " " ++ decimal n

-- a number in brackets, at the end of a finding
abbrev pub in_brackets : ℕ → List ℕ
in_brackets n = codes " (" ++ decimal n ++ codes ")"

-- a number of lines, at the end of a fact
abbrev pub lines_text : ℕ → List ℕ
lines_text n = numbered (codes ": lines") n ++ line_end

-- a fact of a word, with the number of its lines
abbrev pub counted_fact : List ℕ → Counted → List ℕ
counted_fact front counted = front ++ shown counted.word ++ lines_text counted.lines
