-- Items, read one after the other as a loop does.
use Rattle.std.proofs.Common.{◌≡◌, ℕ, zero, suc, ◌≤◌, ◌<◌, true, false, List, [], ◌∷◌, ◌++◌, length, Option, Some, None, refl, sym, ap, ◌∙◌, append_assoc, arith}
use Rattle.std.specs.Option.{option_map}
use Rattle.std.proofs.lemmas.List.{append-nil}
use Rattle.rv_text.specs.declared.unread.Unread.{Unread}
use Rattle.rv_text.specs.declared.unread.Unread.TheVariants.{Memory, Syntax}
use Rattle.rv_text.specs.inner.Unreads.{Fails}
use Rattle.rv_dot.specs.declared.token.Mark.{Mark}
use Rattle.rv_dot.specs.declared.token.DotToken.{DotToken}
use Rattle.rv_dot.specs.Tokens.{Lexeme, ◌>>=◌}
use Rattle.rv_dot.specs.inner.Held.{lexemes}
use Rattle.rv_dot.specs.Marks.{begins, past_mark}
use Rattle.rv_dot.specs.Lists.{items_within, items_at}
use Rattle.rv_dot.proofs.Lengths.{length_lexemes}

-- a list and the tokens behind it, with what was read before
abbrev pub items_on : {A : Type 0} → List A → Option (List A × List Lexeme) → Option (List A × List Lexeme)
items_on front read = option_map (λ x. (front ++ x.0, x.1)) read

-- nothing was read before
items_from_nothing : {A : Type 0} (read : Option (List A × List Lexeme)) → items_on [] read ≡ read
items_from_nothing None = refl
items_from_nothing (Some x) = refl

-- the front grows
regroup : {A : Type 0} (front first : List A) (read : Option (List A × List Lexeme)) → items_on front (read >>= (λ others. Some (first ++ others.0, others.1))) ≡ items_on (front ++ first) read
regroup {A = A} front first None = refl
regroup {A = A} front first (Some others) = ap (λ (all : List A). Some (all, others.1)) (sym (append_assoc front first others.0))

module _ {A : Type 0} (close : Mark) (item_at : List Lexeme → Option (List A × List Lexeme)) (past : List Lexeme → List Lexeme) where
  -- what was found, with what the tokens that are left give, is all that the tokens give
  abbrev pub IsUnderWay : List A → List DotToken → List DotToken → Type 0
  IsUnderWay found rest tokens = (n : ℕ) × (length rest ≤ n) × (length rest ≤ length tokens) × (items_on found (items_within close item_at past n (lexemes rest)) ≡ items_at close item_at past (lexemes tokens))

  -- nothing is found yet
  pub at_front : (tokens : List DotToken) → IsUnderWay [] tokens tokens
  unfolding items_at
  at_front tokens = (length (lexemes tokens), omega (arith, length_lexemes tokens), omega arith, items_from_nothing (items_at close item_at past (lexemes tokens)))

  -- one item more, of at most so many tokens
  one_more : (front : List A) (n : ℕ) (tokens : List Lexeme) (first : List A) (after behind : List Lexeme) (total : Option (List A × List Lexeme))
      → begins close tokens ≡ false → item_at tokens ≡ Some (first, after) → behind ≡ past after → length behind < length tokens → length tokens ≤ n
      → items_on front (items_within close item_at past n tokens) ≡ total
      → (m : ℕ) × (length behind ≤ m) × (items_on (front ++ first) (items_within close item_at past m behind) ≡ total)
  unfolding items_within
  one_more front zero tokens first after behind total apart read cut shorter few so_far = absurd (omega arith)
  one_more front (suc m) tokens first after behind total apart read cut shorter few so_far =
      let step : items_on front (items_within close item_at past (suc m) tokens) ≡ items_on (front ++ first) (items_within close item_at past m behind) = rw (apart, read, ← cut) (regroup front first (items_within close item_at past m behind)) in
      (m, omega arith, sym step ∙ so_far)

  -- a fault in at most so many tokens
  faulty : (front : List A) (n : ℕ) (tokens : List Lexeme) (total : Option (List A × List Lexeme))
      → begins close tokens ≡ false → item_at tokens ≡ None → items_on front (items_within close item_at past n tokens) ≡ total → total ≡ None
  unfolding items_within
  faulty front zero tokens total apart read so_far = sym so_far
  faulty front (suc m) tokens total apart read so_far =
      let step : items_on front (items_within close item_at past (suc m) tokens) ≡ None = rw (apart, read) refl in
      sym so_far ∙ step

  -- the closing mark in at most so many tokens
  closed : (front : List A) (n : ℕ) (tokens : List Lexeme) (total : Option (List A × List Lexeme))
      → begins close tokens ≡ true → length tokens ≤ n → items_on front (items_within close item_at past n tokens) ≡ total → total ≡ Some (front, past_mark close tokens)
  unfolding items_within begins
  closed front zero [] total ends few so_far = absurd (cc)
  closed front zero (t ∷ tokens) total ends few so_far = absurd (omega arith)
  closed front (suc m) tokens total ends few so_far =
      let step : items_on front (items_within close item_at past (suc m) tokens) ≡ Some (front ++ [], past_mark close tokens) = rw ends refl in
      sym so_far ∙ step ∙ ap (λ (all : List A). Some (all, past_mark close tokens)) (append-nil front)

  -- one item more
  pub goes_on : (found : List A) (rest tokens : List DotToken) → IsUnderWay found rest tokens → (first : List A) (after : List Lexeme) (behind : List DotToken)
      → begins close (lexemes rest) ≡ false → item_at (lexemes rest) ≡ Some (first, after) → lexemes behind ≡ past after → length behind < length rest → IsUnderWay (found ++ first) behind tokens
  goes_on found rest tokens so_far first after behind apart read cut shorter =
      let less : length (lexemes behind) < length (lexemes rest) = rw (length_lexemes behind, length_lexemes rest) shorter in
      let few : length (lexemes rest) ≤ so_far.0 = rw (length_lexemes rest) so_far.1 in
      let more = one_more found so_far.0 (lexemes rest) first after (lexemes behind) (items_at close item_at past (lexemes tokens)) apart read cut less few so_far.3 in
      (more.0, omega (arith, more.1, length_lexemes behind), omega (arith, shorter, so_far.2), more.2)

  -- where an item is none, the tokens give nothing
  pub ends : (found : List A) (rest tokens : List DotToken) → IsUnderWay found rest tokens → begins close (lexemes rest) ≡ false → item_at (lexemes rest) ≡ None → items_at close item_at past (lexemes tokens) ≡ None
  ends found rest tokens so_far apart read = faulty found so_far.0 (lexemes rest) (items_at close item_at past (lexemes tokens)) apart read so_far.3

  -- an item that could not be read ends the reading as it ended its own
  pub fails : (unread : Unread) (found : List A) (rest tokens : List DotToken) → IsUnderWay found rest tokens → begins close (lexemes rest) ≡ false → Fails unread (item_at (lexemes rest)) → Fails unread (items_at close item_at past (lexemes tokens))
  fails Memory found rest tokens so_far apart read = tt
  fails Syntax found rest tokens so_far apart read = ends found rest tokens so_far apart read

  -- at the closing mark all is found
  pub is_done : (found : List A) (rest tokens : List DotToken) → IsUnderWay found rest tokens → begins close (lexemes rest) ≡ true → items_at close item_at past (lexemes tokens) ≡ Some (found, past_mark close (lexemes rest))
  is_done found rest tokens so_far here = closed found so_far.0 (lexemes rest) (items_at close item_at past (lexemes tokens)) here (rw (length_lexemes rest) so_far.1) so_far.3
