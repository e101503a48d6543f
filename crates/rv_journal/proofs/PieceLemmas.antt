-- From the pieces of a line to their text, and back.
use Rattle.std.proofs.Common.{◌≡◌, ◌≢◌, ℕ, zero, suc, ◌<◌, Bool, true, false, ◌&&◌, ◌==◌, cond, ltb, List, [], ◌∷◌, ◌++◌, length, get_or, refl, sym, ap, ◌∙◌, arith}
use Rattle.std.proofs.lemmas.Bool.{eqb-true, lt-ltb, ltb-true, and_parts, and_from}
use Rattle.std.proofs.lemmas.List.{append-nil}
use Rattle.rv_text.specs.Pieces.{begin_with, pieces_by}
use Rattle.rv_text.proofs.PieceLemmas.{byte-begins}
use Rattle.rv_journal.specs.EntryTexts.{behind_blanks, one_apart}

-- ---- the pieces of a text are its words, one blank apart

-- a byte in front of the first piece stands behind its blank
begin-behind : (byte : ℕ) (text : List ℕ) (pieces : List (List ℕ)) → behind_blanks pieces ≡ 32 ∷ text → behind_blanks (begin_with byte pieces) ≡ 32 ∷ byte ∷ text
begin-behind byte text [] is = absurd (cc)
begin-behind byte text (piece ∷ pieces) is =
    let tail : piece ++ behind_blanks pieces ≡ text = cc in
    ap (λ (t : List ℕ). 32 ∷ byte ∷ t) tail

-- behind a blank each, the pieces are the text behind a blank
pieces-behind : (text : List ℕ) → behind_blanks (pieces_by 32 text) ≡ 32 ∷ text
unfolding pieces_by
pieces-behind [] = refl
pieces-behind (byte ∷ bytes) = on (byte == 32) refl (pieces-behind bytes)
  where
    on : (b : Bool) → (byte == 32) ≡ b → behind_blanks (pieces_by 32 bytes) ≡ 32 ∷ bytes → behind_blanks (cond b ([] ∷ pieces_by 32 bytes) (begin_with byte (pieces_by 32 bytes))) ≡ 32 ∷ byte ∷ bytes
    on true is later = ap (λ (t : List ℕ). 32 ∷ t) later ∙ ap (λ (b : ℕ). 32 ∷ b ∷ bytes) (sym (eqb-true byte 32 is))
    on false is later = begin-behind byte bytes (pieces_by 32 bytes) later

-- one blank apart, the pieces are the text
pub pieces-text : (text : List ℕ) → one_apart (pieces_by 32 text) ≡ text
pieces-text text = on (pieces_by 32 text) (pieces-behind text)
  where
    on : (pieces : List (List ℕ)) → behind_blanks pieces ≡ 32 ∷ text → one_apart pieces ≡ text
    on [] is = absurd (cc)
    on (piece ∷ pieces) is = cc

-- ---- and words without a blank are the pieces of their text

-- each byte is above this one
abbrev pub all_above : ℕ → List ℕ → Bool
all_above low [] = true
all_above low (byte ∷ bytes) = ltb low byte && all_above low bytes

-- said of each place
pub above-each : (low : ℕ) (text : List ℕ) → ((k : ℕ) → k < length text → low < get_or text k 0) → all_above low text ≡ true
above-each low [] each = refl
above-each low (byte ∷ bytes) each = and_from _ _ (lt-ltb low byte (each 0 (omega arith))) (above-each low bytes (λ k l. each (suc k) (omega arith)))

-- a byte at a place
pub above-at : (low : ℕ) (text : List ℕ) (k : ℕ) → all_above low text ≡ true → k < length text → low < get_or text k 0
above-at low [] k is inside = absurd (omega arith)
above-at low (byte ∷ bytes) zero is inside = ltb-true low byte (and_parts (ltb low byte) (all_above low bytes) is).0
above-at low (byte ∷ bytes) (suc k) is inside = above-at low bytes k (and_parts (ltb low byte) (all_above low bytes) is).1 (omega arith)

-- of two texts
pub above-append : (low : ℕ) (a b : List ℕ) → all_above low a ≡ true → all_above low b ≡ true → all_above low (a ++ b) ≡ true
above-append low [] b left right = right
above-append low (byte ∷ bytes) b left right =
    let parts = and_parts (ltb low byte) (all_above low bytes) left in
    and_from _ _ parts.0 (above-append low bytes b parts.1 right)

-- no word has a blank, or a byte below it
abbrev pub AreWords : List (List ℕ) → Type 0
AreWords [] = Unit {0}
AreWords (word ∷ words) = (all_above 32 word ≡ true) × AreWords words

-- of two lists
pub words-append : (xs ys : List (List ℕ)) → AreWords xs → AreWords ys → AreWords (xs ++ ys)
words-append [] ys a b = b
words-append (x ∷ xs) ys a b = (a.0, words-append xs ys a.1 b)

-- what is above a blank is none
byte-of : (byte : ℕ) (b : Bool) → (ltb 32 byte && b) ≡ true → byte ≢ 32
byte-of byte b is = λ same. let past : 32 < byte = ltb-true 32 byte (and_parts _ _ is).0 in absurd (omega arith)

-- a word behind which a blank stands
piece-word : (word text : List ℕ) → all_above 32 word ≡ true → pieces_by 32 (word ++ 32 ∷ text) ≡ word ∷ pieces_by 32 text
unfolding pieces_by
piece-word [] text is = refl
piece-word (byte ∷ bytes) text is =
    byte-begins 32 byte (bytes ++ 32 ∷ text) (byte-of byte (all_above 32 bytes) is) ∙ ap (begin_with byte) (piece-word bytes text ((and_parts _ _ is).1))

-- a word that is the whole text
piece-whole : (word : List ℕ) → all_above 32 word ≡ true → pieces_by 32 word ≡ word ∷ []
unfolding pieces_by
piece-whole [] is = refl
piece-whole (byte ∷ bytes) is = byte-begins 32 byte bytes (byte-of byte (all_above 32 bytes) is) ∙ ap (begin_with byte) (piece-whole bytes ((and_parts _ _ is).1))

-- one or more words
pub pieces-words : (word : List ℕ) (words : List (List ℕ)) → all_above 32 word ≡ true → AreWords words → pieces_by 32 (one_apart (word ∷ words)) ≡ word ∷ words
pieces-words word [] first others = ap (pieces_by 32) (append-nil word) ∙ piece-whole word first
pieces-words word (next ∷ words) first others =
    piece-word word (next ++ behind_blanks words) first ∙ ap (λ (later : List (List ℕ)). word ∷ later) (pieces-words next words others.0 others.1)

-- ---- and their text has no byte below a blank

-- a word alone
word-above : (word : List ℕ) → all_above 32 word ≡ true → all_above 10 word ≡ true
word-above word is = above-each 10 word (λ k l. let past : 32 < get_or word k 0 = above-at 32 word k is l in omega arith)

-- behind a blank each
blanks-above : (words : List (List ℕ)) → AreWords words → all_above 10 (behind_blanks words) ≡ true
blanks-above [] are = refl
blanks-above (word ∷ words) are = above-append 10 word (behind_blanks words) (word-above word are.0) (blanks-above words are.1)

-- one blank apart
pub words-above : (words : List (List ℕ)) → AreWords words → all_above 10 (one_apart words) ≡ true
words-above [] are = refl
words-above (word ∷ words) are = above-append 10 word (behind_blanks words) (word-above word are.0) (blanks-above words are.1)
