-- What is made of pieces is read so.
use Rattle.std.proofs.Common.{◌≡◌, ℕ, zero, suc, ◌+◌, ◌<◌, ◌≤◌, Bool, true, false, eqb, List, [], ◌∷◌, ◌++◌, length, length-append, Some, refl, sym, ap, ◌∙◌, append_assoc, arith, take, drop, get_or, ◌-◌, ap₂}
use Rattle.std.specs.Prelude.{not}
use Rattle.std.specs.List.{AllByRecursion}
use Rattle.std.proofs.lemmas.List.{drop_at, take_at, take_all}
use Rattle.rv_dot.specs.declared.token.Mark.TheVariants.{OpenBrace, CloseBrace, OpenBracket, CloseBracket, Equals, Semicolon, Comma, Arrow}
use Rattle.rv_dot.specs.Runs.{is_word_byte, line_len, word_len, block_len, string_len}
use Rattle.rv_dot.specs.Tokens.{sign, word, text, gap, comment_of, string_of, front_of, tokens_within}
use Rattle.rv_dot.specs.Pieces.{Piece, blank, line_comment, block_comment, hash_line, unit, piece_bytes, EndsLine, EndsWord, IsOfLine, IsPieceAt, ends_line, SplitsInto, token_in, tokens_in}
use Rattle.rv_dot.proofs.RunLaws.{Stops, stop_again, block_again, string_again, same_byte}

-- a byte that passes is none that doesn't
pub other_byte : (p : ℕ → Bool) (b k : ℕ) → p b ≡ true → p k ≡ false → eqb b k ≡ false
other_byte p b k passes fails = go (eqb b k) refl
  where
    go : (t : Bool) → eqb b k ≡ t → t ≡ false
    go true h = absurd (let same = same_byte b k h in let both : true ≡ false = sym passes ∙ ap p same ∙ fails in cc)
    go false h = refl

-- a line's end stops a line
pub line_stops : (rest : List ℕ) → EndsLine rest → Stops (λ b. eqb b 10) rest
line_stops [] h = tt
line_stops (b ∷ rest) h = h

-- a line is read up to its end
pub line_again : (c rest : List ℕ) → IsOfLine c → EndsLine rest → drop (line_len (c ++ rest)) (c ++ rest) ≡ rest
line_again c rest h k = drop_at c rest (line_len (c ++ rest)) (sym (stop_again (λ b. eqb b 10) c rest h (line_stops rest k)))

-- a word's end stops a word
pub not_word : (rest : List ℕ) → EndsWord rest → Stops (λ b. not (is_word_byte b)) rest
not_word [] h = tt
not_word (b ∷ rest) h = rw h refl

-- bytes of a word stop none
pub no_stops : (w : List ℕ) → AllByRecursion (λ b. is_word_byte b ≡ true) w → AllByRecursion (λ b. not (is_word_byte b) ≡ false) w
no_stops [] h = tt
no_stops (b ∷ w) h = (rw h.0 refl, no_stops w h.1)

-- what stands at the front of a text is told by its first byte and the bytes behind it
pub front-at : (starts : Bool) (bytes : List ℕ) (b : ℕ) → 1 ≤ length bytes → get_or bytes 0 0 ≡ b → front_of starts (b ∷ take (length bytes - 1) (drop 1 bytes)) ≡ front_of starts bytes
front-at starts [] b long is = absurd (omega (arith, long))
front-at starts (x ∷ xs) b long is = ap₂ (λ (y : ℕ) (ys : List ℕ). front_of starts (y ∷ ys)) (sym is) (take_all (length (x ∷ xs) - 1) xs (omega arith))

-- a piece is read off the front
pub front_again : (starts : Bool) (p : Piece) (rest : List ℕ) → IsPieceAt starts p rest → front_of starts (piece_bytes p ++ rest) ≡ Some (token_in p, rest)
unfolding front_of comment_of string_of
front_again starts (blank b) rest h = rw h refl
front_again starts (line_comment c) rest h = ap gap (line_again (47 ∷ c) rest (refl, h.0) h.1)
front_again starts (block_comment c) rest h =
    let inner : block_len ((c ++ 42 ∷ 47 ∷ []) ++ rest) ≡ Some (length c) = ap block_len (append_assoc c (42 ∷ 47 ∷ []) rest) ∙ block_again c rest h in
    let long : length (42 ∷ c ++ 42 ∷ 47 ∷ []) ≡ length c + 3 = omega (arith, length-append c (42 ∷ 47 ∷ [])) in
    rw inner (ap gap (drop_at (42 ∷ c ++ 42 ∷ 47 ∷ []) rest (length c + 3) long))
front_again starts (hash_line c) rest h = rw h.0 (ap gap (line_again c rest h.1 h.2))
front_again starts (unit (sign OpenBrace)) rest h = refl
front_again starts (unit (sign CloseBrace)) rest h = refl
front_again starts (unit (sign OpenBracket)) rest h = refl
front_again starts (unit (sign CloseBracket)) rest h = refl
front_again starts (unit (sign Equals)) rest h = refl
front_again starts (unit (sign Semicolon)) rest h = refl
front_again starts (unit (sign Comma)) rest h = refl
front_again starts (unit (sign Arrow)) rest h = refl
front_again starts (unit (word [])) rest h = absurd (omega arith)
front_again starts (unit (word (b ∷ w))) rest h =
    let is_word = h.0.0 in
    let len : word_len (w ++ rest) ≡ length w = stop_again (λ b. not (is_word_byte b)) w rest (no_stops w h.0.1) (not_word rest h.2) in
    let taken : take (length w + 1) (b ∷ w ++ rest) ≡ b ∷ w = take_at (b ∷ w) rest (length w + 1) (omega arith) in
    let left : drop (length w) (w ++ rest) ≡ rest = drop_at w rest (length w) refl in
    rw (other_byte is_word_byte b 32 is_word refl, other_byte is_word_byte b 9 is_word refl, other_byte is_word_byte b 13 is_word refl, other_byte is_word_byte b 10 is_word refl, other_byte is_word_byte b 35 is_word refl, other_byte is_word_byte b 47 is_word refl, other_byte is_word_byte b 34 is_word refl, other_byte is_word_byte b 45 is_word refl, is_word, len, taken, left) refl
front_again starts (unit (text t)) rest h =
    let regrouped : (t ++ 34 ∷ []) ++ rest ≡ t ++ 34 ∷ rest = append_assoc t (34 ∷ []) rest in
    let inner : string_len 34 ((t ++ 34 ∷ []) ++ rest) ≡ Some (length t) = ap (string_len 34) regrouped ∙ string_again 34 t rest h in
    let taken : take (length t) ((t ++ 34 ∷ []) ++ rest) ≡ t = ap (take (length t)) regrouped ∙ take_at t (34 ∷ rest) (length t) refl in
    let left : drop (length t + 1) ((t ++ 34 ∷ []) ++ rest) ≡ rest = drop_at (t ++ 34 ∷ []) rest (length t + 1) (length-append t (34 ∷ [])) in
    rw (inner, taken, left) refl

-- the first byte of a piece ends a line exactly where the piece does
pub first_byte : (starts : Bool) (p : Piece) (rest : List ℕ) → IsPieceAt starts p rest → (b : ℕ) × (more : List ℕ) × (piece_bytes p ++ rest ≡ b ∷ more) × (eqb b 10 ≡ ends_line p)
first_byte starts (blank b) rest h = (b, rest, refl, refl)
first_byte starts (line_comment c) rest h = (47, _, refl, refl)
first_byte starts (block_comment c) rest h = (47, _, refl, refl)
first_byte starts (hash_line c) rest h = (35, _, refl, refl)
first_byte starts (unit (sign OpenBrace)) rest h = (123, _, refl, refl)
first_byte starts (unit (sign CloseBrace)) rest h = (125, _, refl, refl)
first_byte starts (unit (sign OpenBracket)) rest h = (91, _, refl, refl)
first_byte starts (unit (sign CloseBracket)) rest h = (93, _, refl, refl)
first_byte starts (unit (sign Equals)) rest h = (61, _, refl, refl)
first_byte starts (unit (sign Semicolon)) rest h = (59, _, refl, refl)
first_byte starts (unit (sign Comma)) rest h = (44, _, refl, refl)
first_byte starts (unit (sign Arrow)) rest h = (45, _, refl, refl)
first_byte starts (unit (word [])) rest h = absurd (omega arith)
first_byte starts (unit (word (b ∷ w))) rest h = (b, w ++ rest, refl, other_byte is_word_byte b 10 h.0.0 refl)
first_byte starts (unit (text t)) rest h = (34, _, refl, refl)

-- the tokens of pieces are read
pub tokens_again : (ps : List Piece) (n : ℕ) (starts : Bool) (bytes : List ℕ) → SplitsInto starts bytes ps → length bytes ≤ n → tokens_within n starts bytes ≡ Some (tokens_in ps)
unfolding tokens_within
tokens_again [] zero starts bytes h few = rw h refl
tokens_again [] (suc n) starts bytes h few = rw h refl
tokens_again (p ∷ ps) zero starts bytes h few =
    let first = first_byte starts p h.0 h.2 in
    absurd (omega (arith, ap length (h.1 ∙ first.2)))
tokens_again (p ∷ ps) (suc n) starts bytes h few =
    let rest = h.0 in
    let first = first_byte starts p rest h.2 in
    let read : front_of starts (first.0 ∷ first.1) ≡ Some (token_in p, rest) = ap (front_of starts) (sym first.2) ∙ front_again starts p rest h.2 in
    let shorter : length rest ≤ n = omega (arith, ap length h.1, ap length (h.1 ∙ first.2), length-append (piece_bytes p) rest, piece_long starts p rest h.2) in
    let more : tokens_within n (eqb first.0 10) rest ≡ Some (tokens_in ps) = ap (λ (t : Bool). tokens_within n t rest) first.3 ∙ tokens_again ps n (ends_line p) rest h.3 shorter in
    ap (tokens_within (suc n) starts) (h.1 ∙ first.2) ∙ rw (read, more) refl
  where
    piece_long : (starts : Bool) (p : Piece) (rest : List ℕ) → IsPieceAt starts p rest → 0 < length (piece_bytes p)
    piece_long starts (blank b) rest h = omega arith
    piece_long starts (line_comment c) rest h = omega arith
    piece_long starts (block_comment c) rest h = omega arith
    piece_long starts (hash_line c) rest h = omega arith
    piece_long starts (unit (sign OpenBrace)) rest h = omega arith
    piece_long starts (unit (sign CloseBrace)) rest h = omega arith
    piece_long starts (unit (sign OpenBracket)) rest h = omega arith
    piece_long starts (unit (sign CloseBracket)) rest h = omega arith
    piece_long starts (unit (sign Equals)) rest h = omega arith
    piece_long starts (unit (sign Semicolon)) rest h = omega arith
    piece_long starts (unit (sign Comma)) rest h = omega arith
    piece_long starts (unit (sign Arrow)) rest h = omega arith
    piece_long starts (unit (word w)) rest h = h.1
    piece_long starts (unit (text t)) rest h = omega arith
