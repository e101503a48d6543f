-- A loop over the pieces, from each to its token.
use Rattle.std.proofs.Common.{◌≡◌, ℕ, ◌+◌, ◌<◌, ◌≤◌, List, [], ◌∷◌, ◌++◌, length, drop, get_or, Option, Some, None, refl, sym, ap, ◌∙◌, append_assoc, add-one, drop-cons, Bor}
use Rattle.std.proofs.lemmas.List.{append-nil, drop_all}
use Rattle.rv_ltl.specs.declared.token.Token.{Token}
use Rattle.rv_ltl.specs.inner.Texts.{texts}
use Rattle.rv_ltl.specs.Parse.{◌>>=◌}
use Rattle.rv_ltl.specs.Tokens.{token_of, tokens_of}

-- the tokens before, and those that are read
abbrev pub before : List Token → Option (List Token) → Option (List Token)
before front read = read >>= λ marks. Some (front ++ marks)

-- a token before those that are read is the last of those before
regroup : (front : List Token) (mark : Token) (read : Option (List Token)) → before front (read >>= λ marks. Some (mark ∷ marks)) ≡ before (front ++ mark ∷ []) read
regroup front mark None = refl
regroup front mark (Some marks) = ap (λ (x : List Token). Some x) (simp append_assoc)

-- the piece at the loop's place is the first that is left
here : (names : List (List ℕ)) (pieces : List (Bor (List ℕ))) (i : ℕ) (d : Bor (List ℕ)) → i < length pieces
    → tokens_of names (texts (drop i pieces)) ≡ (token_of names (get_or pieces i d).now >>= λ mark. tokens_of names (texts (drop (i + 1) pieces)) >>= λ marks. Some (mark ∷ marks))
here names pieces i d lt = rw add-one (ap (λ (ps : List (Bor (List ℕ))). tokens_of names (texts ps)) (drop-cons pieces i d lt))

-- one token more
pub one_token : (names : List (List ℕ)) (pieces : List (Bor (List ℕ))) (i : ℕ) (d : Bor (List ℕ)) (front : List Token) (mark : Token) (total : Option (List Token)) → i < length pieces
    → token_of names (get_or pieces i d).now ≡ Some mark → before front (tokens_of names (texts (drop i pieces))) ≡ total → before (front ++ mark ∷ []) (tokens_of names (texts (drop (i + 1) pieces))) ≡ total
one_token names pieces i d front mark total lt t h =
    let rest = tokens_of names (texts (drop (i + 1) pieces)) in
    let s : tokens_of names (texts (drop i pieces)) ≡ (rest >>= λ marks. Some (mark ∷ marks)) = here names pieces i d lt ∙ ap (λ (o : Option Token). o >>= λ m. rest >>= λ marks. Some (m ∷ marks)) t in
    sym (regroup front mark rest) ∙ ap (λ (o : Option (List Token)). before front o) (sym s) ∙ h

-- a piece that has none
pub no_token : (names : List (List ℕ)) (pieces : List (Bor (List ℕ))) (i : ℕ) (d : Bor (List ℕ)) (front : List Token) (total : Option (List Token)) → i < length pieces
    → token_of names (get_or pieces i d).now ≡ None → before front (tokens_of names (texts (drop i pieces))) ≡ total → total ≡ None
no_token names pieces i d front total lt t h =
    let rest = tokens_of names (texts (drop (i + 1) pieces)) in
    let s : tokens_of names (texts (drop i pieces)) ≡ None = here names pieces i d lt ∙ ap (λ (o : Option Token). o >>= λ m. rest >>= λ marks. Some (m ∷ marks)) t in
    sym h ∙ ap (λ (o : Option (List Token)). before front o) s

-- the loop's begin and end
pub begins : (read : Option (List Token)) → before [] read ≡ read
begins None = refl
begins (Some marks) = refl

-- with no pieces left the tokens before are all
pub ends : (names : List (List ℕ)) (pieces : List (Bor (List ℕ))) (i : ℕ) (front : List Token) (total : Option (List Token)) → length pieces ≤ i
    → before front (tokens_of names (texts (drop i pieces))) ≡ total → total ≡ Some front
ends names pieces i front total le h = sym h ∙ ap (λ (ps : List (Bor (List ℕ))). before front (tokens_of names (texts ps))) (drop_all i pieces le) ∙ ap (λ (x : List Token). Some x) (append-nil front)
