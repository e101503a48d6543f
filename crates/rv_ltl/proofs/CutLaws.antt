-- A text is cut into the words and marks of its parts, and into no others.
use Rattle.std.proofs.Common.{◌≡◌, ℕ, Bool, true, false, cond, not, ◌||◌, ◌⊎◌, inl, inr, List, [], ◌∷◌, ◌++◌, Some, None, refl, sym, ap, subst, ◌∙◌, arith}
use Rattle.std.specs.Prelude.{nat_eq}
use Rattle.std.proofs.lemmas.Bool.{eqb-true}
use Rattle.std.proofs.lemmas.Option.{same_Some}
use Rattle.rv_ltl.specs.Parse.{◌>>=◌}
use Rattle.rv_ltl.specs.Pieces.{is_whitespace, is_mark, is_word, goes_on, grown, pieces_of}
use Rattle.rv_ltl.specs.Cuts.{Part, blank, comment, mark, word, EndsLine, IsOfLine, IsWord, SplitsInto, pieces_in}
use Rattle.rv_ltl.proofs.OperatorLaws.{bind_some}

-- ---- single bytes

-- of two tests one passes
either : (a b : Bool) → a || b ≡ true → (a ≡ true) ⊎ (b ≡ true)
either true b is = inl refl
either false b is = inr is

-- what holds of a blank and of a line end
of_blank : (P : ℕ → Type 0) (b : ℕ) → is_whitespace b ≡ true → P 32 → P 9 → P 10 → P 13 → P b
of_blank P b is space tab end return = elim (either (nat_eq b 32 || nat_eq b 9 || nat_eq b 10) (nat_eq b 13) is) [
  | inr same ↦ at 13 same return
  | inl is ↦ elim (either (nat_eq b 32 || nat_eq b 9) (nat_eq b 10) is) [
    | inr same ↦ at 10 same end
    | inl is ↦ elim (either (nat_eq b 32) (nat_eq b 9) is) [ inr same ↦ at 9 same tab | inl same ↦ at 32 same space ]
  ]
]
  where
    at : (n : ℕ) → nat_eq b n ≡ true → P n → P b
    at n same p = subst P (sym (eqb-true b n same)) p

-- what holds of a mark
of_mark : (P : ℕ → Type 0) (b : ℕ) → is_mark b ≡ true → P 40 → P 41 → P 61 → P b
of_mark P b is left right equals = elim (either (nat_eq b 40 || nat_eq b 41) (nat_eq b 61) is) [
  | inr same ↦ at 61 same equals
  | inl is ↦ elim (either (nat_eq b 40) (nat_eq b 41) is) [ inr same ↦ at 41 same right | inl same ↦ at 40 same left ]
]
  where
    at : (n : ℕ) → nat_eq b n ≡ true → P n → P b
    at n same p = subst P (sym (eqb-true b n same)) p

-- ---- the parts of a text give its pieces

-- a blank is passed over
blank_cut : (b : ℕ) (rest : List ℕ) → is_whitespace b ≡ true → pieces_of false (b ∷ rest) ≡ pieces_of false rest
unfolding pieces_of
blank_cut b rest is = of_blank (λ b. pieces_of false (b ∷ rest) ≡ pieces_of false rest) b is refl refl refl refl

-- a mark is a piece
mark_cut : (b : ℕ) (rest : List ℕ) → is_mark b ≡ true → pieces_of false (b ∷ rest) ≡ (pieces_of false rest >>= λ ps. Some ((b ∷ []) ∷ ps))
unfolding pieces_of
mark_cut b rest is = of_mark (λ b. pieces_of false (b ∷ rest) ≡ (pieces_of false rest >>= λ ps. Some ((b ∷ []) ∷ ps))) b is refl refl refl

-- at the end of a line a comment ends
line_ends : (rest : List ℕ) → EndsLine rest → pieces_of true rest ≡ pieces_of false rest
unfolding pieces_of
line_ends [] ends = refl
line_ends (b ∷ rest) ends = ap (λ (t : Bool). pieces_of (not t) rest) ends ∙ sym (blank_cut b rest (subst (λ (n : ℕ). is_whitespace n ≡ true) (sym (eqb-true b 10 ends)) refl))

-- a comment is passed over
comment_cut : (c rest : List ℕ) → IsOfLine c → EndsLine rest → pieces_of true (c ++ rest) ≡ pieces_of false rest
unfolding pieces_of
comment_cut [] rest of_line ends = line_ends rest ends
comment_cut (b ∷ c) rest of_line ends = ap (λ (t : Bool). pieces_of (not t) (c ++ rest)) of_line.0 ∙ comment_cut c rest of_line.1 ends

-- the sign of a comment
hash_cut : (bytes : List ℕ) → pieces_of false (35 ∷ bytes) ≡ pieces_of true bytes
unfolding pieces_of
hash_cut bytes = refl

-- one byte of a word
byte_cut : (b : ℕ) (rest : List ℕ) → is_word b ≡ true → pieces_of false (b ∷ rest) ≡ (pieces_of false rest >>= λ ps. Some (grown b (goes_on rest) ps))
unfolding pieces_of
byte_cut b rest is = rw is refl

-- a word is a piece
word_cut : (w rest : List ℕ) (pieces : List (List ℕ)) → IsWord w → goes_on rest ≡ false → pieces_of false rest ≡ Some pieces → pieces_of false (w ++ rest) ≡ Some (w ∷ pieces)
word_cut [] rest pieces is ends later = absurd (omega (arith, is.1))
word_cut (b ∷ []) rest pieces is ends later = byte_cut b rest is.0.0 ∙ rw (later, ends) refl
word_cut (b ∷ next ∷ w) rest pieces is ends later =
    let on : goes_on (next ∷ w ++ rest) ≡ true = is.0.1.0 in
    byte_cut b (next ∷ w ++ rest) is.0.0 ∙ rw (word_cut (next ∷ w) rest pieces (is.0.1, omega arith) ends later, on) refl

-- so a text is cut into the words and marks of its parts
pub parts_cut : (parts : List Part) (bytes : List ℕ) → SplitsInto bytes parts → pieces_of false bytes ≡ Some (pieces_in parts)
unfolding pieces_of
parts_cut [] bytes splits = ap (pieces_of false) splits
parts_cut (blank b ∷ parts) bytes (rest, whole, fits, later) = ap (pieces_of false) whole ∙ blank_cut b rest fits ∙ parts_cut parts rest later
parts_cut (comment c ∷ parts) bytes (rest, whole, fits, later) = ap (pieces_of false) whole ∙ hash_cut (c ++ rest) ∙ comment_cut c rest fits.0 fits.1 ∙ parts_cut parts rest later
parts_cut (mark b ∷ parts) bytes (rest, whole, fits, later) = ap (pieces_of false) whole ∙ mark_cut b rest fits ∙ rw (parts_cut parts rest later) refl
parts_cut (word w ∷ parts) bytes (rest, whole, fits, later) = ap (pieces_of false) whole ∙ word_cut w rest (pieces_in parts) fits.0 fits.1 (parts_cut parts rest later)

-- ---- and a text that is cut has such parts

-- a text is made of parts with these pieces
abbrev IsCut : List ℕ → List (List ℕ) → Type 0
IsCut bytes pieces = (parts : List Part) × SplitsInto bytes parts × (pieces_in parts ≡ pieces)

-- a text in a comment is the rest of the line, and then parts with these pieces
abbrev IsCutBehind : List ℕ → List (List ℕ) → Type 0
IsCutBehind bytes pieces = (c : List ℕ) × (rest : List ℕ) × (bytes ≡ c ++ rest) × IsOfLine c × EndsLine rest × IsCut rest pieces

-- one more byte of a word, before a text that goes on with that word
longer : (b : ℕ) (bytes : List ℕ) (parts : List Part) (pieces : List (List ℕ)) → is_word b ≡ true → goes_on bytes ≡ true → SplitsInto bytes parts → pieces_in parts ≡ pieces → IsCut (b ∷ bytes) (grown b true pieces)
longer b bytes [] pieces is on splits same = absurd (let none : goes_on [] ≡ true = subst (λ (bs : List ℕ). goes_on bs ≡ true) splits on in cc)
longer b bytes (blank x ∷ parts) pieces is on (rest, whole, fits, later) same =
    absurd (of_blank (λ x. is_word x ≡ true → ⊥) x fits (λ e. cc) (λ e. cc) (λ e. cc) (λ e. cc) (subst (λ (bs : List ℕ). goes_on bs ≡ true) whole on))
longer b bytes (comment c ∷ parts) pieces is on (rest, whole, fits, later) same = absurd (let none : goes_on (35 ∷ c ++ rest) ≡ true = subst (λ (bs : List ℕ). goes_on bs ≡ true) whole on in cc)
longer b bytes (mark x ∷ parts) pieces is on (rest, whole, fits, later) same =
    absurd (of_mark (λ x. is_word x ≡ true → ⊥) x fits (λ e. cc) (λ e. cc) (λ e. cc) (subst (λ (bs : List ℕ). goes_on bs ≡ true) whole on))
longer b bytes (word w ∷ parts) pieces is on (rest, whole, fits, later) same =
    (word (b ∷ w) ∷ parts, (rest, ap (λ (bs : List ℕ). b ∷ bs) whole, (((is, fits.0.0), omega arith), fits.1), later), ap (grown b true) same)

-- a byte of a word before parts
in_word : (b : ℕ) (bytes : List ℕ) (pieces : List (List ℕ)) → is_word b ≡ true → (on : Bool) → goes_on bytes ≡ on → IsCut bytes pieces → IsCut (b ∷ bytes) (grown b on pieces)
in_word b bytes pieces is true on (parts, splits, same) = longer b bytes parts pieces is on splits same
in_word b bytes pieces is false ends (parts, splits, same) = (word (b ∷ []) ∷ parts, (bytes, refl, (((is, tt), omega arith), ends), splits), ap (λ (ps : List (List ℕ)). (b ∷ []) ∷ ps) same)

-- a text is made of parts where it is cut, outside comments and in one
abbrev HasParts : List ℕ → Type 0
HasParts bytes = ((pieces : List (List ℕ)) → pieces_of false bytes ≡ Some pieces → IsCut bytes pieces) × ((pieces : List (List ℕ)) → pieces_of true bytes ≡ Some pieces → IsCutBehind bytes pieces)

module _ (b : ℕ) (bytes : List ℕ) (later : HasParts bytes) where
  -- in a comment
  inside : (t : Bool) → nat_eq b 10 ≡ t → (pieces : List (List ℕ)) → pieces_of (not t) bytes ≡ Some pieces → IsCutBehind (b ∷ bytes) pieces
  inside true end pieces h =
      let cut = later.0 pieces h in
      let white : is_whitespace b ≡ true = subst (λ (n : ℕ). is_whitespace n ≡ true) (sym (eqb-true b 10 end)) refl in
      ([], b ∷ bytes, refl, tt, end, (blank b ∷ cut.0, (bytes, refl, white, cut.1), cut.2))
  inside false other pieces h =
      let cut = later.1 pieces h in
      (b ∷ cut.0, cut.1, ap (λ (bs : List ℕ). b ∷ bs) cut.2, (other, cut.3), cut.4, cut.5)

  -- where a comment begins
  at_hash : (t : Bool) → nat_eq b 35 ≡ t → (pieces : List (List ℕ)) → cond t (pieces_of true bytes) None ≡ Some pieces → IsCut (b ∷ bytes) pieces
  at_hash true hash pieces h =
      let cut = later.1 pieces h in
      let sign : b ≡ 35 = eqb-true b 35 hash in
      (comment cut.0 ∷ cut.5.0, (cut.1, ap (λ (n : ℕ). n ∷ bytes) sign ∙ ap (λ (bs : List ℕ). 35 ∷ bs) cut.2, (cut.3, cut.4), cut.5.1), cut.5.2)
  at_hash false other pieces h = absurd cc

  -- at a blank
  at_blank : (t : Bool) → is_whitespace b ≡ t → (pieces : List (List ℕ)) → cond t (pieces_of false bytes) (cond (nat_eq b 35) (pieces_of true bytes) None) ≡ Some pieces → IsCut (b ∷ bytes) pieces
  at_blank true white pieces h = let cut = later.0 pieces h in (blank b ∷ cut.0, (bytes, refl, white, cut.1), cut.2)
  at_blank false other pieces h = at_hash (nat_eq b 35) refl pieces h

  -- at a mark
  at_mark : (t : Bool) → is_mark b ≡ t → (pieces : List (List ℕ)) → cond t (pieces_of false bytes >>= λ ps. Some ((b ∷ []) ∷ ps)) (cond (is_whitespace b) (pieces_of false bytes) (cond (nat_eq b 35) (pieces_of true bytes) None)) ≡ Some pieces → IsCut (b ∷ bytes) pieces
  at_mark true is pieces h =
      let found = bind_some (pieces_of false bytes) (λ (ps : List (List ℕ)). Some ((b ∷ []) ∷ ps)) pieces h in
      let cut = later.0 found.0 found.1 in
      (mark b ∷ cut.0, (bytes, refl, is, cut.1), ap (λ (ps : List (List ℕ)). (b ∷ []) ∷ ps) cut.2 ∙ same_Some _ _ found.2)
  at_mark false other pieces h = at_blank (is_whitespace b) refl pieces h

  -- at a byte of a word
  at_word : (t : Bool) → is_word b ≡ t → (pieces : List (List ℕ))
      → cond t (pieces_of false bytes >>= λ ps. Some (grown b (goes_on bytes) ps)) (cond (is_mark b) (pieces_of false bytes >>= λ ps. Some ((b ∷ []) ∷ ps)) (cond (is_whitespace b) (pieces_of false bytes) (cond (nat_eq b 35) (pieces_of true bytes) None))) ≡ Some pieces
      → IsCut (b ∷ bytes) pieces
  at_word true is pieces h =
      let found = bind_some (pieces_of false bytes) (λ (ps : List (List ℕ)). Some (grown b (goes_on bytes) ps)) pieces h in
      subst (IsCut (b ∷ bytes)) (same_Some _ _ found.2) (in_word b bytes found.0 is (goes_on bytes) refl (later.0 found.0 found.1))
  at_word false other pieces h = at_mark (is_mark b) refl pieces h

  -- so one more byte stands before parts
  one_more : HasParts (b ∷ bytes)
  unfolding pieces_of
  one_more = (λ pieces h. at_word (is_word b) refl pieces h, λ pieces h. inside (nat_eq b 10) refl pieces h)

-- every text that is cut
has_parts : (bytes : List ℕ) → HasParts bytes
unfolding pieces_of
has_parts [] = (λ pieces h. ([], refl, same_Some _ _ h), λ pieces h. ([], [], refl, tt, tt, ([], refl, same_Some _ _ h)))
has_parts (b ∷ bytes) = one_more b bytes (has_parts bytes)

-- the parts of a text that is cut
pub cut_parts : (bytes : List ℕ) (pieces : List (List ℕ)) → pieces_of false bytes ≡ Some pieces → (parts : List Part) × SplitsInto bytes parts × (pieces_in parts ≡ pieces)
cut_parts bytes = (has_parts bytes).0
