-- What the functions on single marks say.
use Rattle.std.proofs.Common.{◌≡◌, Bool, true, false, List, [], ◌∷◌, ◌++◌, Option, Some, None, cond, refl, sym, ap, ◌⊎◌, inl, inr}
use Rattle.rv_dot.specs.declared.token.Mark.{Mark}
use Rattle.rv_dot.specs.declared.token.Mark.TheVariants.{OpenBrace, CloseBrace, OpenBracket, CloseBracket, Equals, Semicolon, Comma, Arrow}
use Rattle.rv_dot.specs.Tokens.{Lexeme, sign, word, text, ◌>>=◌}
use Rattle.rv_dot.specs.Marks.{mark_eq, begins, expects, past_mark}
use Rattle.rv_dot.specs.Grammar.{semicolon}

-- what was read on comes of what was read
pub bind_some : {A B : Type 0} (o : Option A) (f : A → Option B) (y : B) → (o >>= f) ≡ Some y → (x : A) × (o ≡ Some x) × (f x ≡ Some y)
bind_some None f y h = absurd (cc)
bind_some (Some x) f y h = (x, refl, h)

-- which way a test went
pub chosen : {A : Type 0} (b : Bool) (x y z : A) → cond b x y ≡ z → ((b ≡ true) × (x ≡ z)) ⊎ ((b ≡ false) × (y ≡ z))
chosen true x y z h = inl (refl, h)
chosen false x y z h = inr (refl, h)

-- a mark is itself
pub mark_eq-same : (m : Mark) → mark_eq m m ≡ true
mark_eq-same OpenBrace = refl
mark_eq-same CloseBrace = refl
mark_eq-same OpenBracket = refl
mark_eq-same CloseBracket = refl
mark_eq-same Equals = refl
mark_eq-same Semicolon = refl
mark_eq-same Comma = refl
mark_eq-same Arrow = refl

-- equal marks are one
pub mark_eq_is : (m n : Mark) → mark_eq m n ≡ true → m ≡ n
mark_eq_is OpenBrace OpenBrace h = refl
mark_eq_is CloseBrace CloseBrace h = refl
mark_eq_is OpenBracket OpenBracket h = refl
mark_eq_is CloseBracket CloseBracket h = refl
mark_eq_is Equals Equals h = refl
mark_eq_is Semicolon Semicolon h = refl
mark_eq_is Comma Comma h = refl
mark_eq_is Arrow Arrow h = refl
mark_eq_is _ _ h = absurd (cc)

-- what is spelled so is read so: expects
pub expects_again : (m : Mark) (rest : List Lexeme) → expects m (sign m ∷ rest) ≡ Some rest
unfolding expects
expects_again m rest = rw mark_eq-same refl

-- what is read so is spelled so: expects
pub expects_takes : (m : Mark) (tokens rest : List Lexeme) → expects m tokens ≡ Some rest → tokens ≡ sign m ∷ rest
unfolding expects
expects_takes m [] rest h = absurd (cc)
expects_takes m (sign n ∷ tokens) rest h =
    elim (chosen (mark_eq m n) (Some tokens) None (Some rest) h) [
      | inl p ↦ let same = mark_eq_is m n p.0 in cc
      | inr p ↦ absurd (cc)
    ]
expects_takes m (word w ∷ tokens) rest h = absurd (cc)
expects_takes m (text t ∷ tokens) rest h = absurd (cc)

-- what is spelled so is read so: begins
pub begins_again : (m : Mark) (rest : List Lexeme) → begins m (sign m ∷ rest) ≡ true
unfolding begins
begins_again m rest = mark_eq-same m

-- the mark is passed over
pub past_mark_again : (m : Mark) (rest : List Lexeme) → past_mark m (sign m ∷ rest) ≡ rest
unfolding past_mark
past_mark_again m rest = rw mark_eq-same refl

-- a mark that doesn't stand there is not taken
pub past_mark_none : (m : Mark) (tokens : List Lexeme) → begins m tokens ≡ false → past_mark m tokens ≡ tokens
unfolding past_mark begins
past_mark_none m [] h = refl
past_mark_none m (sign n ∷ tokens) h = rw h refl
past_mark_none m (word w ∷ tokens) h = refl
past_mark_none m (text t ∷ tokens) h = refl

-- what is read so is spelled so: begins
pub begins_takes : (m : Mark) (tokens : List Lexeme) → begins m tokens ≡ true → tokens ≡ sign m ∷ past_mark m tokens
unfolding past_mark begins
begins_takes m [] h = absurd (cc)
begins_takes m (sign n ∷ tokens) h = let same = mark_eq_is m n h in rw h (ap (λ (k : Mark). sign k ∷ tokens) (sym same))
begins_takes m (word w ∷ tokens) h = absurd (cc)
begins_takes m (text t ∷ tokens) h = absurd (cc)

-- a semicolon or none is passed over
pub semicolon_again : (b : Bool) (rest : List Lexeme) → begins Semicolon rest ≡ false → past_mark Semicolon (semicolon b ++ rest) ≡ rest
semicolon_again true rest h = past_mark_again Semicolon rest
semicolon_again false rest h = past_mark_none Semicolon rest h

-- what is passed over is a semicolon or none
pub semicolon_takes : (tokens : List Lexeme) → (b : Bool) × (tokens ≡ semicolon b ++ past_mark Semicolon tokens)
semicolon_takes tokens = go (begins Semicolon tokens) refl
  where
    go : (t : Bool) → begins Semicolon tokens ≡ t → (b : Bool) × (tokens ≡ semicolon b ++ past_mark Semicolon tokens)
    go true h = (true, begins_takes Semicolon tokens h)
    go false h = (false, sym (past_mark_none Semicolon tokens h))
