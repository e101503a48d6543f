-- Each name of a formula has a number below that of the file's names.
use Rattle.std.proofs.Common.{◌≡◌, ℕ, zero, suc, ◌<◌, Bool, true, false, cond, List, [], ◌∷◌, ◌++◌, length, Option, Some, None, refl, subst, inl, inr, arith}
use Rattle.std.specs.Prelude.{map, codes}
use Rattle.std.specs.Str.{bytes_eq}
use Rattle.rv_ltl.specs.declared.token.Token.{Token}
use Rattle.rv_ltl.specs.declared.token.Token.TheVariants as token
use Rattle.rv_ltl.specs.declared.token.Unary.{Unary}
use Rattle.rv_ltl.specs.declared.token.Binary.{Binary}
use Rattle.rv_ltl.specs.Grammar.{Expr, Paren, One, Two, spell}
use Rattle.rv_ltl.specs.Parse.{◌>>=◌}
use Rattle.rv_ltl.specs.File.{Def, spell_file}
use Rattle.rv_ltl.specs.Names.{place_in}
use Rattle.rv_ltl.specs.Tokens.{plain_of, unary_of, binary_of, token_of, tokens_of}
use Rattle.rv_ltl.specs.Reach.{Mentions}
use Rattle.rv_ltl.specs.Replace.{plain, plain_def}
use Rattle.rv_ltl.specs.inner.Weights.{def_at}
use Rattle.rv_ltl.specs.inner.Rules.{AllNamed}
use Rattle.rv_ltl.proofs.OperatorLaws.{bind_some}

-- a name of a token is below n
abbrev InMark : ℕ → Token → Type 0
InMark n token.Open = Unit {0}
InMark n token.Close = Unit {0}
InMark n token.Equals = Unit {0}
InMark n token.True = Unit {0}
InMark n token.False = Unit {0}
InMark n (token.Name x) = x < n
InMark n (token.Unary op) = Unit {0}
InMark n (token.Binary op) = Unit {0}

-- the same of each token
abbrev pub InMarks : ℕ → List Token → Type 0
InMarks n [] = Unit {0}
InMarks n (mark ∷ marks) = InMark n mark × InMarks n marks

-- the place of a word among the names is below their number
place_below : (names : List (List ℕ)) (word : List ℕ) (i : ℕ) → place_in names word ≡ Some i → i < length names
place_below [] word i h = absurd cc
place_below (name ∷ names) word i h = go (bytes_eq name word) h (λ k e. place_below names word k e)
  where
    go : (b : Bool) → cond b (Some 0) (place_in names word >>= λ place. Some (suc place)) ≡ Some i → ((k : ℕ) → place_in names word ≡ Some k → k < length names) → i < length (name ∷ names)
    go true e ih = let k : 0 ≡ i = cc in omega arith
    go false e ih =
        let s = bind_some (place_in names word) (λ (place : ℕ). Some (suc place)) i e in
        let k : suc s.0 ≡ i = cc in
        omega (arith, ih s.0 s.1, k)

-- whichever of two tokens a test picks has its name below n, where both have
pick : (n : ℕ) (b : Bool) (mark : Token) (o : Option Token) (found : Token) → InMark n mark → (o ≡ Some found → InMark n found) → cond b (Some mark) o ≡ Some found → InMark n found
pick n true mark o found h f e = let k : mark ≡ found = cc in let P : Token → Type 0 = λ m. InMark n m in subst P k h
pick n false mark o found h f e = f e

-- a mark or a constant has no name, and so none from n on
plain_in : (n : ℕ) (piece : List ℕ) (mark : Token) → plain_of piece ≡ Some mark → InMark n mark
plain_in n piece mark h =
    pick n (bytes_eq piece (codes "(")) token.Open _ mark tt (pick n (bytes_eq piece (codes ")")) token.Close _ mark tt (pick n (bytes_eq piece (codes "=")) token.Equals _ mark tt
    (pick n (bytes_eq piece (codes "true")) token.True _ mark tt (pick n (bytes_eq piece (codes "false")) token.False None mark tt (λ e. absurd cc))))) h

-- a name that is a piece's token is below the number of names
token_in : (names : List (List ℕ)) (piece : List ℕ) (mark : Token) → token_of names piece ≡ Some mark → InMark (length names) mark
token_in names piece mark h = by_plain (plain_of piece) (plain_in (length names) piece) h
  where
    by_name : (o : Option ℕ) → ((i : ℕ) → o ≡ Some i → i < length names) → (o >>= λ place. Some (token.Name place)) ≡ Some mark → InMark (length names) mark
    by_name None f e = absurd cc
    by_name (Some i) f e = let k : token.Name i ≡ mark = cc in let P : Token → Type 0 = λ m. InMark (length names) m in subst P k (f i refl)

    by_binary : (o : Option Binary) → elim o as (λ _. Option Token) [ Some op ↦ Some (token.Binary op) | None ↦ place_in names piece >>= λ place. Some (token.Name place) ] ≡ Some mark → InMark (length names) mark
    by_binary (Some op) e = let k : token.Binary op ≡ mark = cc in let P : Token → Type 0 = λ m. InMark (length names) m in subst P k tt
    by_binary None e = by_name (place_in names piece) (λ i f. place_below names piece i f) e

    by_unary : (o : Option Unary)
        → elim o as (λ _. Option Token) [ Some op ↦ Some (token.Unary op) | None ↦ elim (binary_of piece) as (λ _. Option Token) [ Some op ↦ Some (token.Binary op) | None ↦ place_in names piece >>= λ place. Some (token.Name place) ] ] ≡ Some mark
        → InMark (length names) mark
    by_unary (Some op) e = let k : token.Unary op ≡ mark = cc in let P : Token → Type 0 = λ m. InMark (length names) m in subst P k tt
    by_unary None e = by_binary (binary_of piece) e

    by_plain : (o : Option Token) → ((m : Token) → o ≡ Some m → InMark (length names) m)
        → elim o as (λ _. Option Token) [
          | Some m ↦ Some m
          | None ↦ elim (unary_of piece) as (λ _. Option Token) [ Some op ↦ Some (token.Unary op) | None ↦ elim (binary_of piece) as (λ _. Option Token) [ Some op ↦ Some (token.Binary op) | None ↦ place_in names piece >>= λ place. Some (token.Name place) ] ]
        ] ≡ Some mark
        → InMark (length names) mark
    by_plain (Some m) f e = f mark e
    by_plain None f e = by_unary (unary_of piece) e

-- the tokens of pieces have the places of names
pub tokens_in : (names pieces : List (List ℕ)) (marks : List Token) → tokens_of names pieces ≡ Some marks → InMarks (length names) marks
tokens_in names [] marks h = let k : [] ≡ marks = cc in let P : List Token → Type 0 = λ m. InMarks (length names) m in subst P k tt
tokens_in names (piece ∷ pieces) marks h =
    let a = bind_some (token_of names piece) (λ (mark : Token). tokens_of names pieces >>= λ ms. Some (mark ∷ ms)) marks h in
    let b = bind_some (tokens_of names pieces) (λ (ms : List Token). Some (a.0 ∷ ms)) marks a.2 in
    let k : a.0 ∷ b.0 ≡ marks = cc in
    let P : List Token → Type 0 = λ m. InMarks (length names) m in
    subst P k (token_in names piece a.0 a.1, tokens_in names pieces b.0 b.1)

-- where all tokens have their names below n, so have those in front
in_front : (n : ℕ) (front back : List Token) → InMarks n (front ++ back) → InMarks n front
in_front n [] back h = tt
in_front n (mark ∷ front) back h = (h.0, in_front n front back h.1)

-- where all tokens have their names below n, so have those behind
in_back : (n : ℕ) (front back : List Token) → InMarks n (front ++ back) → InMarks n back
in_back n [] back h = h
in_back n (mark ∷ front) back h = in_back n front back h.1

-- where the tokens of a formula have their names below n, it mentions only names below n
spelled : (n : ℕ) (e : Expr) → InMarks n (spell e) → (x : ℕ) → Mentions e x → x < n
spelled n Expr.True h x m = absurd m
spelled n Expr.False h x m = absurd m
spelled n (Expr.Name y) h x m = let k : y < n = h.0 in omega (arith, k, m)
spelled n (Paren e) h x m = spelled n e (in_front n (spell e) (token.Close ∷ []) h.1) x m
spelled n (One op e) h x m = spelled n e h.1 x m
spelled n (Two op a b) h x (inl m) = spelled n a (in_front n (spell a) (token.Binary op ∷ spell b) h) x m
spelled n (Two op a b) h x (inr m) = let r = in_back n (spell a) (token.Binary op ∷ spell b) h in spelled n b r.1 x m

-- the definitions that such tokens spell mention only such names
pub file_named : (n : ℕ) (ds : List Def) → InMarks n (spell_file ds) → AllNamed n ds
file_named n [] h = tt
file_named n (d ∷ ds) h = (spelled n d.body (in_front n (spell d.body) (spell_file ds) h.1.1), file_named n ds (in_back n (spell d.body) (spell_file ds) h.1.1))

-- what a formula mentions without its parentheses it mentions with them
plain_mentions : (e : Expr) (x : ℕ) → Mentions (plain e) x → Mentions e x
plain_mentions Expr.True x m = m
plain_mentions Expr.False x m = m
plain_mentions (Expr.Name y) x m = m
plain_mentions (Paren e) x m = plain_mentions e x m
plain_mentions (One op e) x m = plain_mentions e x m
plain_mentions (Two op a b) x (inl m) = inl (plain_mentions a x m)
plain_mentions (Two op a b) x (inr m) = inr (plain_mentions b x m)

-- also without parentheses
pub plain_named : (n : ℕ) (ds : List Def) → AllNamed n ds → AllNamed n (map plain_def ds)
plain_named n [] h = tt
plain_named n (d ∷ ds) h = ((λ x m. h.0 x (plain_mentions d.body x m)), plain_named n ds h.1)

-- what a definition mentions is below n
pub named_at : (n : ℕ) (ds : List Def) (i x : ℕ) → AllNamed n ds → i < length ds → Mentions (def_at ds i).body x → x < n
named_at n [] i x h lt m = absurd (omega arith)
named_at n (d ∷ ds) zero x h lt m = h.0 x m
named_at n (d ∷ ds) (suc i) x h lt m = named_at n ds i x h.1 (omega arith) m
