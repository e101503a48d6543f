-- What a token says as a name and as a value (this project's choice of a DOT subset).
use Rattle.std.specs.Prelude.{ℕ, Bool, false, not, ◌&&◌, ◌||◌, ◌==◌, nat_le, nat_eq, codes, length, List, [], map, Option, Some, None, if◌then◌else◌}
use Rattle.std.specs.List.{starts_with, list_all}
use Rattle.std.specs.Str.{bytes_eq}
use Rattle.rv_dot.specs.Runs.{is_word_byte}
use Rattle.rv_dot.specs.Tokens.{Lexeme, sign, word, text}

-- what a word or a string holds; a mark holds nothing
abbrev pub content_of : Lexeme → List ℕ
content_of (sign mark) = []
content_of (word w) = w
content_of (text t) = t

-- in a name every comma reads as `_`
abbrev pub name_byte : ℕ → ℕ
name_byte b = if b == 44 then 95 else b

-- the name that a word or a string is
abbrev pub name_of : Lexeme → List ℕ
name_of lexeme = map name_byte (content_of lexeme)

-- names of markers begin so, and no others
abbrev pub is_marker : List ℕ → Bool
is_marker name = starts_with nat_eq name (codes "__init_")

-- 1 to 64 bytes of the kind
abbrev pub is_name_by : (ℕ → Bool) → List ℕ → Bool
is_name_by of_kind name = not (length name == 0) && nat_le (length name) 64 && list_all of_kind name

-- a state's name has letters, digits, `_` and `.`
abbrev pub is_state_name : List ℕ → Bool
is_state_name name = is_name_by is_word_byte name

-- an event's name has letters, digits and `_`
abbrev pub is_event_name : List ℕ → Bool
is_event_name name = is_name_by (λ b. is_word_byte b && not (b == 46)) name

-- the shapes that mark a state
abbrev pub is_marking_shape : Option (List ℕ) → Bool
is_marking_shape None = false
is_marking_shape (Some shape) = bytes_eq shape (codes "doublecircle") || bytes_eq shape (codes "ellipse")
