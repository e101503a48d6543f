-- A piece has the token that it is how one writes, and no other.
use Rattle.std.proofs.Common.{◌≡◌, ℕ, zero, suc, Bool, true, false, cond, List, [], ◌∷◌, Option, Some, None, refl, ap, subst, ◌∙◌}
use Rattle.std.specs.Prelude.{codes, slice_get}
use Rattle.std.specs.List.{AllByRecursion, fold}
use Rattle.std.specs.Str.{bytes_eq}
use Rattle.std.specs.BTreeSet.{insert_key}
use Rattle.std.specs.Cmp.Lexicographic.{slice_cmp}
use Rattle.std.specs.Ordering.{nat_cmp, match_ordering}
use Rattle.std.specs.declared.cmp.Ordering.{Ordering}
use Rattle.std.specs.declared.cmp.Ordering.TheVariants.{Less, Equal, Greater}
use Rattle.std.proofs.lemmas.Cmp.{nat_list_cmp_total}
use Rattle.std.proofs.lemmas.Option.{same_Some}
use Rattle.std.proofs.lemmas.Slice.Eq.{bytes_eq-Decides}
use Rattle.rv_text.specs.inner.Ascending.{Ascends}
use Rattle.rv_text.proofs.AscendingLemmas.{irreflexive}
use Rattle.rv_ltl.specs.declared.token.Token.{Token}
use Rattle.rv_ltl.specs.declared.token.Token.TheVariants as token
use Rattle.rv_ltl.specs.declared.token.Unary.{Unary}
use Rattle.rv_ltl.specs.declared.token.Unary.TheVariants as unary
use Rattle.rv_ltl.specs.declared.token.Binary.{Binary}
use Rattle.rv_ltl.specs.declared.token.Binary.TheVariants as binary
use Rattle.rv_ltl.specs.Names.{is_atom_name, with_piece, names_of, place_in}
use Rattle.rv_ltl.specs.Parse.{◌>>=◌}
use Rattle.rv_ltl.specs.Tokens.{named, plain_of, unary_of, binary_of, token_of, tokens_of}
use Rattle.rv_ltl.specs.Spelling.{unary_word, binary_word, IsSpelled, AreSpelled}
use Rattle.rv_ltl.proofs.NameSets.{names_ascend}
use Rattle.rv_ltl.proofs.OperatorLaws.{bind_some}

-- ---- from a piece to how its token is written

-- whichever of two values a test picks has a fact, where both have
pick : {A : Type 0} (P : A → Type 0) (b : Bool) (x : A) (o : Option A) (found : A) → (b ≡ true → P x) → (o ≡ Some found → P found) → cond b (Some x) o ≡ Some found → P found
pick P true x o found here later e = subst P (same_Some x found e) (here refl)
pick P false x o found here later e = later e

-- no value is found
nothing : {A : Type 0} (P : A → Type 0) (found : A) → (let none : Option A = None in none ≡ Some found) → P found
nothing P found e = absurd cc

module _ (names : List (List ℕ)) (piece : List ℕ) where
  -- the piece is this text
  is_text : (text : List ℕ) → bytes_eq piece text ≡ true → piece ≡ text
  is_text text same = (bytes_eq-Decides piece text).0 same

  -- marks and constants
  plain_spelled : (found : Token) → plain_of piece ≡ Some found → IsSpelled names found piece
  plain_spelled found e =
      pick (λ t. IsSpelled names t piece) (bytes_eq piece (codes "(")) token.Open _ found (is_text (codes "(")) (λ e.
      pick (λ t. IsSpelled names t piece) (bytes_eq piece (codes ")")) token.Close _ found (is_text (codes ")")) (λ e.
      pick (λ t. IsSpelled names t piece) (bytes_eq piece (codes "=")) token.Equals _ found (is_text (codes "=")) (λ e.
      pick (λ t. IsSpelled names t piece) (bytes_eq piece (codes "true")) token.True _ found (is_text (codes "true")) (λ e.
      pick (λ t. IsSpelled names t piece) (bytes_eq piece (codes "false")) token.False None found (is_text (codes "false")) (λ e.
      nothing (λ t. IsSpelled names t piece) found e) e) e) e) e) e

  -- operators before their operand
  unary_spelled : (found : Unary) → unary_of piece ≡ Some found → piece ≡ unary_word found
  unary_spelled found e =
      pick (λ op. piece ≡ unary_word op) (bytes_eq piece (codes "always")) unary.Always _ found (is_text (codes "always")) (λ e.
      pick (λ op. piece ≡ unary_word op) (bytes_eq piece (codes "eventually")) unary.Eventually _ found (is_text (codes "eventually")) (λ e.
      pick (λ op. piece ≡ unary_word op) (bytes_eq piece (codes "next")) unary.Next _ found (is_text (codes "next")) (λ e.
      pick (λ op. piece ≡ unary_word op) (bytes_eq piece (codes "not")) unary.Not None found (is_text (codes "not")) (λ e.
      nothing (λ op. piece ≡ unary_word op) found e) e) e) e) e

  -- operators between their operands
  binary_spelled : (found : Binary) → binary_of piece ≡ Some found → piece ≡ binary_word found
  binary_spelled found e =
      pick (λ op. piece ≡ binary_word op) (bytes_eq piece (codes "and")) binary.And _ found (is_text (codes "and")) (λ e.
      pick (λ op. piece ≡ binary_word op) (bytes_eq piece (codes "or")) binary.Or _ found (is_text (codes "or")) (λ e.
      pick (λ op. piece ≡ binary_word op) (bytes_eq piece (codes "until")) binary.Until _ found (is_text (codes "until")) (λ e.
      pick (λ op. piece ≡ binary_word op) (bytes_eq piece (codes "release")) binary.Release _ found (is_text (codes "release")) (λ e.
      pick (λ op. piece ≡ binary_word op) (bytes_eq piece (codes "weak_until")) binary.WeakUntil _ found (is_text (codes "weak_until")) (λ e.
      pick (λ op. piece ≡ binary_word op) (bytes_eq piece (codes "imply")) binary.Imply _ found (is_text (codes "imply")) (λ e.
      pick (λ op. piece ≡ binary_word op) (bytes_eq piece (codes "equivalent")) binary.Equivalent None found (is_text (codes "equivalent")) (λ e.
      nothing (λ op. piece ≡ binary_word op) found e) e) e) e) e) e) e) e

-- names
name_spelled : (names : List (List ℕ)) (piece : List ℕ) (place : ℕ) → place_in names piece ≡ Some place → slice_get names place ≡ Some piece
name_spelled [] piece place e = absurd cc
name_spelled (name ∷ names) piece place e = go (bytes_eq name piece) refl e (λ k found. name_spelled names piece k found)
  where
    go : (b : Bool) → bytes_eq name piece ≡ b → cond b (Some 0) (place_in names piece >>= λ k. Some (suc k)) ≡ Some place → ((k : ℕ) → place_in names piece ≡ Some k → slice_get names k ≡ Some piece) → slice_get (name ∷ names) place ≡ Some piece
    go true same e later = subst (λ (k : ℕ). slice_get (name ∷ names) k ≡ Some piece) (same_Some 0 place e) (ap (λ (n : List ℕ). Some n) ((bytes_eq-Decides name piece).0 same))
    go false other e later =
        let found = bind_some (place_in names piece) (λ (k : ℕ). Some (suc k)) place e in
        subst (λ (k : ℕ). slice_get (name ∷ names) k ≡ Some piece) (same_Some (suc found.0) place found.2) (later found.0 found.1)

-- any token
token_spelled : (names : List (List ℕ)) (piece : List ℕ) (found : Token) → token_of names piece ≡ Some found → IsSpelled names found piece
token_spelled names piece found e = by_plain (plain_of piece) refl e
  where
    by_name : (o : Option ℕ) → place_in names piece ≡ o → (o >>= λ place. Some (token.Name place)) ≡ Some found → IsSpelled names found piece
    by_name None is e = absurd cc
    by_name (Some place) is e = subst (λ (t : Token). IsSpelled names t piece) (same_Some (token.Name place) found e) (name_spelled names piece place is)

    by_binary : (o : Option Binary) → binary_of piece ≡ o → elim o as (λ _. Option Token) [ Some op ↦ Some (token.Binary op) | None ↦ place_in names piece >>= λ place. Some (token.Name place) ] ≡ Some found → IsSpelled names found piece
    by_binary (Some op) is e = subst (λ (t : Token). IsSpelled names t piece) (same_Some (token.Binary op) found e) (binary_spelled names piece op is)
    by_binary None is e = by_name (place_in names piece) refl e

    by_unary : (o : Option Unary) → unary_of piece ≡ o
        → elim o as (λ _. Option Token) [ Some op ↦ Some (token.Unary op) | None ↦ elim (binary_of piece) as (λ _. Option Token) [ Some op ↦ Some (token.Binary op) | None ↦ place_in names piece >>= λ place. Some (token.Name place) ] ] ≡ Some found
        → IsSpelled names found piece
    by_unary (Some op) is e = subst (λ (t : Token). IsSpelled names t piece) (same_Some (token.Unary op) found e) (unary_spelled names piece op is)
    by_unary None is e = by_binary (binary_of piece) refl e

    by_plain : (o : Option Token) → plain_of piece ≡ o
        → elim o as (λ _. Option Token) [
          | Some m ↦ Some m
          | None ↦ elim (unary_of piece) as (λ _. Option Token) [ Some op ↦ Some (token.Unary op) | None ↦ elim (binary_of piece) as (λ _. Option Token) [ Some op ↦ Some (token.Binary op) | None ↦ place_in names piece >>= λ place. Some (token.Name place) ] ]
        ] ≡ Some found
        → IsSpelled names found piece
    by_plain (Some m) is e = plain_spelled names piece found (is ∙ e)
    by_plain None is e = by_unary (unary_of piece) refl e

-- so each token of pieces is how its piece is written
pub tokens_spelled : (names pieces : List (List ℕ)) (marks : List Token) → tokens_of names pieces ≡ Some marks → AreSpelled names marks pieces
tokens_spelled names [] marks e = subst (λ (ms : List Token). AreSpelled names ms []) (same_Some [] marks e) tt
tokens_spelled names (piece ∷ pieces) marks e =
    let a = bind_some (token_of names piece) (λ (mark : Token). tokens_of names pieces >>= λ ms. Some (mark ∷ ms)) marks e in
    let b = bind_some (tokens_of names pieces) (λ (ms : List Token). Some (a.0 ∷ ms)) marks a.2 in
    subst (λ (ms : List Token). AreSpelled names ms (piece ∷ pieces)) (same_Some (a.0 ∷ b.0) marks b.2) (token_spelled names piece a.0 a.1, tokens_spelled names pieces b.0 b.1)

-- ---- and back

-- what all have the one at a place has
at_place : {X : Type 0} (P : X → Type 0) (xs : List X) (i : ℕ) (x : X) → AllByRecursion P xs → slice_get xs i ≡ Some x → P x
at_place P [] i x all is = absurd cc
at_place P (y ∷ xs) zero x all is = subst P (same_Some y x is) all.0
at_place P (y ∷ xs) (suc i) x all is = at_place P xs i x all.1 is

-- of names that ascend each is found at its place
name_found : (names : List (List ℕ)) (piece : List ℕ) (place : ℕ) → Ascends (slice_cmp nat_cmp) names → slice_get names place ≡ Some piece → place_in names piece ≡ Some place
name_found [] piece place ascends is = absurd cc
name_found (name ∷ names) piece zero ascends is = rw ((bytes_eq-Decides name piece).1 (same_Some name piece is)) refl
name_found (name ∷ names) piece (suc place) ascends is = go (bytes_eq name piece) refl (name_found names piece place ascends.1 is)
  where
    below : slice_cmp nat_cmp name piece ≡ Less
    below = at_place (λ n. slice_cmp nat_cmp name n ≡ Less) names place piece ascends.0 is

    go : (b : Bool) → bytes_eq name piece ≡ b → place_in names piece ≡ Some place → cond b (Some 0) (place_in names piece >>= λ k. Some (suc k)) ≡ Some (suc place)
    go true same found =
        let it : name ≡ piece = (bytes_eq-Decides name piece).0 same in
        absurd (irreflexive (slice_cmp nat_cmp) nat_list_cmp_total name (ap (slice_cmp nat_cmp name) it ∙ below))
    go false other found = rw found refl

-- one more name
all_with : (P : List ℕ → Type 0) (name : List ℕ) (names : List (List ℕ)) → P name → AllByRecursion P names → AllByRecursion P (insert_key (slice_cmp nat_cmp) names name)
all_with P name [] here all = (here, tt)
all_with P name (other ∷ names) here all = go (slice_cmp nat_cmp name other) (all_with P name names here all.1)
  where
    go : (o : Ordering) → AllByRecursion P (insert_key (slice_cmp nat_cmp) names name) → AllByRecursion P (match_ordering o (name ∷ other ∷ names) (other ∷ names) (other ∷ insert_key (slice_cmp nat_cmp) names name))
    go Less later = (here, all)
    go Equal later = all
    go Greater later = (all.0, later)

-- the names among pieces are names
names_are_atoms : (pieces names : List (List ℕ)) → AllByRecursion (λ n. is_atom_name n ≡ true) names → AllByRecursion (λ n. is_atom_name n ≡ true) (fold with_piece names pieces)
names_are_atoms [] names all = all
names_are_atoms (piece ∷ pieces) names all = names_are_atoms pieces (with_piece names piece) (go (is_atom_name piece) refl)
  where
    go : (b : Bool) → is_atom_name piece ≡ b → AllByRecursion (λ n. is_atom_name n ≡ true) (cond b (insert_key (slice_cmp nat_cmp) names piece) names)
    go true is = all_with (λ n. is_atom_name n ≡ true) piece names is all
    go false is = all

-- a name is none of the words of a table
named_none : {A : Type 0} (rows : List (List ℕ × A)) (piece : List ℕ) → is_atom_name piece ≡ true → AllByRecursion (λ row. is_atom_name row.0 ≡ false) rows → named rows piece ≡ None
named_none [] piece is none = refl
named_none (row ∷ rows) piece is none = go (bytes_eq piece row.0) refl (named_none rows piece is none.1)
  where
    go : (b : Bool) → bytes_eq piece row.0 ≡ b → named rows piece ≡ None → cond b (Some row.1) (named rows piece) ≡ None
    go true same later = let name : is_atom_name row.0 ≡ true = subst (λ (n : List ℕ). is_atom_name n ≡ true) ((bytes_eq-Decides piece row.0).0 same) is in absurd cc
    go false other later = later

-- the words of the three tables
abbrev plain_rows : List (List ℕ × Token)
plain_rows = (codes "(", token.Open) ∷ (codes ")", token.Close) ∷ (codes "=", token.Equals) ∷ (codes "true", token.True) ∷ (codes "false", token.False) ∷ []

abbrev unary_rows : List (List ℕ × Unary)
unary_rows = (codes "always", unary.Always) ∷ (codes "eventually", unary.Eventually) ∷ (codes "next", unary.Next) ∷ (codes "not", unary.Not) ∷ []

abbrev binary_rows : List (List ℕ × Binary)
binary_rows =
    (codes "and", binary.And) ∷ (codes "or", binary.Or) ∷ (codes "until", binary.Until) ∷ (codes "release", binary.Release)
    ∷ (codes "weak_until", binary.WeakUntil) ∷ (codes "imply", binary.Imply) ∷ (codes "equivalent", binary.Equivalent) ∷ []

module _ (names : List (List ℕ)) (ascends : Ascends (slice_cmp nat_cmp) names) (atoms : AllByRecursion (λ n. is_atom_name n ≡ true) names) where
  -- how a token is written is read as the token
  spelled_token : (mark : Token) (piece : List ℕ) → IsSpelled names mark piece → token_of names piece ≡ Some mark
  spelled_token token.Open piece is = ap (token_of names) is
  spelled_token token.Close piece is = ap (token_of names) is
  spelled_token token.Equals piece is = ap (token_of names) is
  spelled_token token.True piece is = ap (token_of names) is
  spelled_token token.False piece is = ap (token_of names) is
  spelled_token (token.Name place) piece is =
      let name : is_atom_name piece ≡ true = at_place (λ n. is_atom_name n ≡ true) names place piece atoms is in
      let no_mark : plain_of piece ≡ None = named_none plain_rows piece name (refl, (refl, (refl, (refl, (refl, tt))))) in
      let no_unary : unary_of piece ≡ None = named_none unary_rows piece name (refl, (refl, (refl, (refl, tt)))) in
      let no_binary : binary_of piece ≡ None = named_none binary_rows piece name (refl, (refl, (refl, (refl, (refl, (refl, (refl, tt))))))) in
      told (plain_of piece) (unary_of piece) (binary_of piece) (place_in names piece) no_mark no_unary no_binary (name_found names piece place ascends is)
    where
      told : (p : Option Token) (u : Option Unary) (b : Option Binary) (n : Option ℕ) → p ≡ None → u ≡ None → b ≡ None → n ≡ Some place
          → elim p as (λ _. Option Token) [ Some m ↦ Some m | None ↦ elim u as (λ _. Option Token) [ Some op ↦ Some (token.Unary op) | None ↦ elim b as (λ _. Option Token) [ Some op ↦ Some (token.Binary op) | None ↦ n >>= λ k. Some (token.Name k) ] ] ] ≡ Some (token.Name place)
      told p u b n no_mark no_unary no_binary at = rw (no_mark, no_unary, no_binary, at) refl
  spelled_token (token.Unary op) piece is = ap (token_of names) is ∙ before op
    where
      before : (op : Unary) → token_of names (unary_word op) ≡ Some (token.Unary op)
      before unary.Always = refl
      before unary.Eventually = refl
      before unary.Next = refl
      before unary.Not = refl
  spelled_token (token.Binary op) piece is = ap (token_of names) is ∙ between op
    where
      between : (op : Binary) → token_of names (binary_word op) ≡ Some (token.Binary op)
      between binary.And = refl
      between binary.Or = refl
      between binary.Until = refl
      between binary.Release = refl
      between binary.WeakUntil = refl
      between binary.Imply = refl
      between binary.Equivalent = refl

  -- so are all
  spelled_tokens : (marks : List Token) (pieces : List (List ℕ)) → AreSpelled names marks pieces → tokens_of names pieces ≡ Some marks
  spelled_tokens [] [] are = refl
  spelled_tokens [] (piece ∷ pieces) are = absurd are
  spelled_tokens (mark ∷ marks) [] are = absurd are
  spelled_tokens (mark ∷ marks) (piece ∷ pieces) are = rw (spelled_token mark piece are.0, spelled_tokens marks pieces are.1) refl

-- the pieces of a file have the tokens that they are how one writes
pub spelled_are_read : (pieces : List (List ℕ)) (marks : List Token) → AreSpelled (names_of pieces) marks pieces → tokens_of (names_of pieces) pieces ≡ Some marks
unfolding names_of
spelled_are_read pieces marks are = spelled_tokens (names_of pieces) (names_ascend pieces) (names_are_atoms pieces [] tt) marks pieces are
