-- How far the word, the mark, the blank or the comment in front of a text reaches.
use Rattle.std.specs.Prelude.{ℕ, suc, nat_eq, if◌then◌else◌, List, [], ◌∷◌}
use Rattle.rv_ltl.specs.Pieces.{is_whitespace, is_mark, is_word}

-- how many bytes of a word are in front
abbrev pub word_len : List ℕ → ℕ
word_len [] = 0
word_len (b ∷ bytes) = if is_word b then suc (word_len bytes) else 0

-- how many bytes of a comment are in front
abbrev pub comment_len : List ℕ → ℕ
comment_len [] = 0
comment_len (b ∷ bytes) = if nat_eq b 10 then 1 else suc (comment_len bytes)

-- how many bytes the word or mark in front has
abbrev pub piece_len : List ℕ → ℕ
piece_len [] = 0
piece_len (b ∷ bytes) = if is_word b then suc (word_len bytes) else if is_mark b then 1 else 0

-- how many bytes the blank or the comment in front has
abbrev pub skipped : List ℕ → ℕ
skipped [] = 0
skipped (b ∷ bytes) = if is_whitespace b then 1 else if nat_eq b 35 then suc (comment_len bytes) else 0
