-- The line ends of a text: where there is none, and the first one.
use Rattle.std.proofs.Common.{◌≡◌, ◌≢◌, ℕ, zero, suc, ◌+◌, ◌<◌, true, not, ◌==◌, List, [], ◌∷◌, ◌++◌, length, get_or, take, drop, Option, Some, None, add-one, refl, sym, ap, ◌∙◌, arith}
use Rattle.std.specs.Prelude.{IfSome, IfNone}
use Rattle.memchr.specs.Find.{IsFirstByte, is_byte}
use Rattle.std.proofs.lemmas.Bool.{ne_eqb, eq-eqb, eqb-true, and_parts, and_from}
use Rattle.rv_check.specs.Readings.{has_no_end}

-- a byte that begins a text without line ends is none
byte-of : (byte : ℕ) (bytes : List ℕ) → has_no_end (byte ∷ bytes) ≡ true → byte ≢ 10
byte-of byte bytes is = λ same. let there : (byte == 10) ≡ true = eq-eqb byte 10 same in cc (rw there at is)

-- and so have the others none
bytes-of : (byte : ℕ) (bytes : List ℕ) → has_no_end (byte ∷ bytes) ≡ true → has_no_end bytes ≡ true
bytes-of byte bytes is = (and_parts (not (byte == 10)) (has_no_end bytes) is).1

-- said of each place
pub no_end-each : (text : List ℕ) → ((k : ℕ) → k < length text → get_or text k 0 ≢ 10) → has_no_end text ≡ true
no_end-each [] other = refl
no_end-each (byte ∷ bytes) other = and_from _ _ (ap not (ne_eqb byte 10 (other 0 (omega arith)))) (no_end-each bytes (λ k l. other (suc k) (omega arith)))

-- of two texts
pub no_end-append : (a b : List ℕ) → has_no_end a ≡ true → has_no_end b ≡ true → has_no_end (a ++ b) ≡ true
no_end-append [] b left right = right
no_end-append (byte ∷ bytes) b left right = and_from _ _ (and_parts (not (byte == 10)) (has_no_end bytes) left).0 (no_end-append bytes b (bytes-of byte bytes left) right)

-- a text with a line end has one
pub end-in : (a b : List ℕ) → has_no_end (a ++ 10 ∷ b) ≡ true → ⊥
end-in [] b is = byte-of 10 b is refl
end-in (byte ∷ bytes) b is = end-in bytes b (bytes-of byte (bytes ++ 10 ∷ b) is)

-- the first line of a text, and the rest
pub one-line : (a b x y : List ℕ) → has_no_end a ≡ true → has_no_end b ≡ true → a ++ 10 ∷ x ≡ b ++ 10 ∷ y → (a ≡ b) × (x ≡ y)
one-line [] [] x y left right is = (refl, let same : 10 ∷ x ≡ 10 ∷ y = is in cc)
one-line [] (c ∷ b) x y left right is = absurd (byte-of c b right (let same : 10 ∷ x ≡ c ∷ (b ++ 10 ∷ y) = is in cc))
one-line (c ∷ a) [] x y left right is = absurd (byte-of c a left (let same : c ∷ (a ++ 10 ∷ x) ≡ 10 ∷ y = is in cc))
one-line (c ∷ a) (d ∷ b) x y left right is =
    let heads : c ≡ d = cc in
    let tails : a ++ 10 ∷ x ≡ b ++ 10 ∷ y = cc in
    let rest = one-line a b x y (bytes-of c a left) (bytes-of d b right) tails in
    (cc (heads, rest.0), rest.1)

-- a long text without a line end begins with no short line
pub long-line : (long more short rest : List ℕ) → has_no_end long ≡ true → length short < length long → long ++ more ≡ short ++ 10 ∷ rest → ⊥
long-line [] more short rest left longer is = omega arith
long-line (c ∷ long) more [] rest left longer is = byte-of c long left (let same : c ∷ (long ++ more) ≡ 10 ∷ rest = is in cc)
long-line (c ∷ long) more (d ∷ short) rest left longer is =
    let tails : long ++ more ≡ short ++ 10 ∷ rest = cc in
    long-line long more short rest (bytes-of c long left) (omega arith) tails

-- ---- the first line end

-- what stands before it
no_end-before : (text : List ℕ) (n : ℕ) → ((k : ℕ) → k < n → k < length text → get_or text k 0 ≢ 10) → has_no_end (take n text) ≡ true
no_end-before text zero other = refl
no_end-before [] (suc n) other = refl
no_end-before (byte ∷ bytes) (suc n) other = and_from _ _ (ap not (ne_eqb byte 10 (other 0 (omega arith) (omega arith)))) (no_end-before bytes n (λ k l m. other (suc k) (omega arith) (omega arith)))

-- and what is behind it
split-at : (text : List ℕ) (n : ℕ) → n < length text → get_or text n 0 ≡ 10 → text ≡ take n text ++ 10 ∷ drop (suc n) text
split-at [] n inside is = absurd (omega arith)
split-at (byte ∷ bytes) zero inside is = ap (λ (b : ℕ). b ∷ bytes) is
split-at (byte ∷ bytes) (suc n) inside is = ap (λ (t : List ℕ). byte ∷ t) (split-at bytes n (omega arith) is)

-- by a search for it
pub end-inside : (text : List ℕ) (r : Option ℕ) → IsFirstByte (is_byte 10) text r → IfSome r (λ end. end < length text)
end-inside text None first = tt
end-inside text (Some end) first = first.0.high

-- where one is found, no line end stands before it
pub end-before : (text : List ℕ) (r : Option ℕ) → IsFirstByte (is_byte 10) text r → IfSome r (λ end. has_no_end (take end text) ≡ true)
end-before text None first = tt
end-before text (Some end) first = no_end-before text end (λ k l m is. first.0.before k (omega arith) l (eq-eqb _ _ is))

-- it parts the text into what stands before it and what stands behind it
pub end-split : (text : List ℕ) (r : Option ℕ) → IsFirstByte (is_byte 10) text r → IfSome r (λ end. text ≡ take end text ++ 10 ∷ drop (end + 1) text)
end-split text None first = tt
end-split text (Some end) first = split-at text end first.0.high (eqb-true _ _ first.1) ∙ ap (λ n. take end text ++ 10 ∷ drop n text) (sym (add-one end))

-- where none is found, the text has no line end
pub end-none : (text : List ℕ) (r : Option ℕ) → IsFirstByte (is_byte 10) text r → IfNone r (has_no_end text ≡ true)
end-none text None first = no_end-each text (λ k l is. first k (omega arith) l (eq-eqb _ _ is))
end-none text (Some end) first = tt
