-- From one piece of a text to the next.
use Rattle.std.proofs.Common.{◌≡◌, ◌≢◌, ℕ, zero, suc, ◌+◌, ◌-◌, ◌<◌, cond, List, [], ◌∷◌, length, get_or, take, drop, refl, sym, ap, ◌∙◌, arith, add-one}
use Rattle.std.proofs.lemmas.Bool.{ne_eqb, eq-eqb}
use Rattle.std.proofs.lemmas.List.{take_rest}
use Rattle.rv_text.specs.Pieces.{begin_with, pieces_by}

module _ (separator : ℕ) where
  -- a first byte that is no separator begins the first piece
  pub byte-begins : (byte : ℕ) (bytes : List ℕ) → byte ≢ separator → pieces_by separator (byte ∷ bytes) ≡ begin_with byte (pieces_by separator bytes)
  unfolding pieces_by
  byte-begins byte bytes other = ap (λ b. cond b ([] ∷ pieces_by separator bytes) (begin_with byte (pieces_by separator bytes))) (ne_eqb byte separator other)

  -- a text without a separator is one piece
  pub piece-last : (text : List ℕ) → ((k : ℕ) → k < length text → get_or text k 0 ≢ separator) → pieces_by separator text ≡ text ∷ []
  unfolding pieces_by
  piece-last [] other = refl
  piece-last (byte ∷ bytes) other =
      byte-begins byte bytes (other 0 (omega arith)) ∙ ap (begin_with byte) (piece-last bytes (λ k l. other (suc k) (omega arith)))

  -- the first separator ends the first piece
  piece-ends : (text : List ℕ) (end : ℕ) → end < length text → get_or text end 0 ≡ separator → ((k : ℕ) → k < end → get_or text k 0 ≢ separator) → pieces_by separator text ≡ take end text ∷ pieces_by separator (drop (suc end) text)
  unfolding pieces_by
  piece-ends [] end inside here other = absurd (omega arith)
  piece-ends (byte ∷ bytes) zero inside here other = ap (λ b. cond b ([] ∷ pieces_by separator bytes) (begin_with byte (pieces_by separator bytes))) (eq-eqb byte separator here)
  piece-ends (byte ∷ bytes) (suc end) inside here other =
      byte-begins byte bytes (other 0 (omega arith)) ∙ ap (begin_with byte) (piece-ends bytes end (omega arith) here (λ k l. other (suc k) (omega arith)))

  -- the same by the bytes behind the separator
  pub piece-next : (text : List ℕ) (end : ℕ) → end < length text → get_or text end 0 ≡ separator → ((k : ℕ) → k < end → get_or text k 0 ≢ separator) → pieces_by separator text ≡ take end text ∷ pieces_by separator (take (length text - (end + 1)) (drop (end + 1) text))
  piece-next text end inside here other =
      piece-ends text end inside here other
      ∙ ap (λ n. take end text ∷ pieces_by separator (drop n text)) (sym (add-one end))
      ∙ ap (λ (rest : List ℕ). take end text ∷ pieces_by separator rest) (sym (take_rest text (end + 1)))
