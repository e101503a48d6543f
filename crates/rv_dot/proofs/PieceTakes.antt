-- Comments, strings and words that are read are pieces.
use Rattle.std.proofs.Common.{◌≡◌, ℕ, ◌+◌, Bool, true, false, eqb, List, [], ◌∷◌, ◌++◌, length, length-append, Some, refl, sym, ap, ◌∙◌, subst, append_assoc, arith, take, drop, inl, inr}
use Rattle.std.specs.Prelude.{not}
use Rattle.std.specs.List.{AllByRecursion}
use Rattle.std.proofs.lemmas.Option.{same_Some}
use Rattle.std.proofs.lemmas.List.{drop_at, take_at}
use Rattle.rv_dot.specs.Runs.{is_word_byte, line_len, word_len, block_len, string_len, begins_with}
use Rattle.rv_dot.specs.Tokens.{word, text, Front, gap, one, comment_of, string_of}
use Rattle.rv_dot.specs.Pieces.{Piece, line_comment, block_comment, unit, piece_bytes, EndsLine, EndsWord, IsOfLine, IsPieceAt, token_in}
use Rattle.rv_dot.proofs.MarkLaws.{bind_some, chosen}
use Rattle.rv_dot.proofs.RunLaws.{Stops, stop-is, stop_takes, block_takes, string_takes, begins_with_takes}
use Rattle.rv_dot.proofs.FrontLaws.{line_again}

-- something was read off the front
abbrev pub Took : Bool → List ℕ → Front → Type 0
Took starts bytes x = (p : Piece) × IsPieceAt starts p x.1 × (bytes ≡ piece_bytes p ++ x.1) × (token_in p ≡ x.0)

-- what may stand between tokens is a piece
pub took_gap : (starts : Bool) (bytes : List ℕ) (p : Piece) (rest : List ℕ) (x : Front) → Some (token_in p, rest) ≡ Some x → IsPieceAt starts p rest → bytes ≡ piece_bytes p ++ rest → Took starts bytes x
took_gap starts bytes p rest x h fits whole =
    let e = same_Some (token_in p, rest) x h in
    (p, subst (λ (y : Front). IsPieceAt starts p y.1) e fits, whole ∙ ap (λ (y : Front). piece_bytes p ++ y.1) e, ap (λ (y : Front). y.0) e)

-- the rest of a line
pub line_takes : (bytes : List ℕ) → (c : List ℕ) × (rest : List ℕ) × (bytes ≡ c ++ rest) × IsOfLine c × EndsLine rest × (drop (line_len bytes) bytes ≡ rest)
line_takes bytes =
    let k = stop_takes (λ b. eqb b 10) bytes in
    let left : drop (line_len bytes) bytes ≡ k.1 = ap (drop (line_len bytes)) k.2.whole ∙ drop_at k.0 k.1 (line_len bytes) (k.2.long ∙ sym (stop-is (λ b. eqb b 10) bytes)) in
    (k.0, k.1, k.2.whole, k.2.none, ends k.1 k.2.stops, left)
  where
    ends : (rest : List ℕ) → Stops (λ b. eqb b 10) rest → EndsLine rest
    ends [] h = tt
    ends (b ∷ rest) h = h

-- what is read so is spelled so: comment
pub comment_takes : (starts : Bool) (rest : List ℕ) (x : Front) → comment_of rest ≡ Some x → Took starts (47 ∷ rest) x
unfolding comment_of
comment_takes starts rest x h =
    elim (chosen (begins_with 47 rest) _ _ (Some x) h) [
      | inl p ↦
          let line = line_takes rest in
          let slash = begins_with_takes 47 rest p.0 in
          let k = line_takes (drop 1 rest) in
          let again : drop (line_len rest) rest ≡ k.1 = ap (λ (bs : List ℕ). drop (line_len bs) bs) (slash ∙ ap (λ (bs : List ℕ). 47 ∷ bs) k.2) ∙ line_again (47 ∷ k.0) k.1 (refl, k.3) k.4 in
          took_gap starts (47 ∷ rest) (line_comment k.0) k.1 x (ap gap (sym again) ∙ p.1) (k.3, k.4) (ap (λ (bs : List ℕ). 47 ∷ bs) (slash ∙ ap (λ (bs : List ℕ). 47 ∷ bs) k.2))
      | inr p ↦
          elim (chosen (begins_with 42 rest) _ _ (Some x) p.1) [
            | inl q ↦
                let star = begins_with_takes 42 rest q.0 in
                let n = bind_some (block_len (drop 1 rest)) _ x q.1 in
                let k = block_takes (drop 1 rest) n.0 n.1 in
                let c = k.0 in
                let behind : drop 1 rest ≡ (c ++ 42 ∷ 47 ∷ []) ++ k.1 = k.2.whole ∙ sym (append_assoc c (42 ∷ 47 ∷ []) k.1) in
                let whole : rest ≡ 42 ∷ (c ++ 42 ∷ 47 ∷ []) ++ k.1 = star ∙ ap (λ (bs : List ℕ). 42 ∷ bs) behind in
                let long : length (42 ∷ c ++ 42 ∷ 47 ∷ []) ≡ n.0 + 3 = omega (arith, length-append c (42 ∷ 47 ∷ []), k.2.long) in
                let left : drop (n.0 + 3) rest ≡ k.1 = ap (drop (n.0 + 3)) whole ∙ drop_at (42 ∷ c ++ 42 ∷ 47 ∷ []) k.1 (n.0 + 3) long in
                took_gap starts (47 ∷ rest) (block_comment c) k.1 x (ap gap (sym left) ∙ n.2) k.2.inside (ap (λ (bs : List ℕ). 47 ∷ bs) whole)
            | inr q ↦ absurd (cc)
          ]
    ]

-- what is read so is spelled so: string token
pub string_token_takes : (starts : Bool) (rest : List ℕ) (x : Front) → string_of rest ≡ Some x → Took starts (34 ∷ rest) x
unfolding string_of
string_token_takes starts rest x h =
    let n = bind_some (string_len 34 rest) _ x h in
    let k = string_takes 34 rest n.0 n.1 in
    let t = k.0 in
    let whole : rest ≡ (t ++ 34 ∷ []) ++ k.1 = k.2.whole ∙ sym (append_assoc t (34 ∷ []) k.1) in
    let taken : take n.0 rest ≡ t = ap (take n.0) k.2.whole ∙ take_at t (34 ∷ k.1) n.0 k.2.long in
    let left : drop (n.0 + 1) rest ≡ k.1 = ap (drop (n.0 + 1)) whole ∙ drop_at (t ++ 34 ∷ []) k.1 (n.0 + 1) (omega (arith, length-append t (34 ∷ []), k.2.long)) in
    let found : Some (Some (text t), k.1) ≡ one (text (take n.0 rest)) (drop (n.0 + 1) rest) = rw (taken, left) refl in
    took_gap starts (34 ∷ rest) (unit (text t)) k.1 x (found ∙ n.2) k.2.inside (ap (λ (bs : List ℕ). 34 ∷ bs) whole)

-- what is read so is spelled so: word token
pub word_token_takes : (starts : Bool) (b : ℕ) (rest : List ℕ) (x : Front) → is_word_byte b ≡ true → one (word (take (word_len rest + 1) (b ∷ rest))) (drop (word_len rest) rest) ≡ Some x → Took starts (b ∷ rest) x
word_token_takes starts b rest x is_word h =
    let k = stop_takes (λ b. not (is_word_byte b)) rest in
    let long : length k.0 ≡ word_len rest = k.2.long ∙ sym (stop-is (λ b. not (is_word_byte b)) rest) in
    let taken : take (word_len rest + 1) (b ∷ rest) ≡ b ∷ k.0 = ap (λ (bs : List ℕ). take (word_len rest + 1) (b ∷ bs)) k.2.whole ∙ take_at (b ∷ k.0) k.1 (word_len rest + 1) (omega (arith, long)) in
    let left : drop (word_len rest) rest ≡ k.1 = ap (drop (word_len rest)) k.2.whole ∙ drop_at k.0 k.1 (word_len rest) long in
    let found : Some (Some (word (b ∷ k.0)), k.1) ≡ one (word (take (word_len rest + 1) (b ∷ rest))) (drop (word_len rest) rest) = ap (λ (w : List ℕ). Some (Some (word w), k.1)) (sym taken) ∙ ap (λ (r : List ℕ). Some (Some (word (take (word_len rest + 1) (b ∷ rest))), r)) (sym left) in
    took_gap starts (b ∷ rest) (unit (word (b ∷ k.0))) k.1 x (found ∙ h) ((is_word, all k.0 k.2.none), omega arith, ends k.1 k.2.stops) (ap (λ (bs : List ℕ). b ∷ bs) k.2.whole)
  where
    back : (t : Bool) → not t ≡ false → t ≡ true
    back true h = refl
    back false h = absurd (cc)

    forth : (t : Bool) → not t ≡ true → t ≡ false
    forth true h = absurd (cc)
    forth false h = refl

    all : (w : List ℕ) → AllByRecursion (λ b. not (is_word_byte b) ≡ false) w → AllByRecursion (λ b. is_word_byte b ≡ true) w
    all [] h = tt
    all (b ∷ w) h = (back (is_word_byte b) h.0, all w h.1)

    ends : (rest : List ℕ) → Stops (λ b. not (is_word_byte b)) rest → EndsWord rest
    ends [] h = tt
    ends (b ∷ rest) h = forth (is_word_byte b) h
