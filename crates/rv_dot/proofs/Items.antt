-- Items that are read are spelled so, and what is spelled so is read.
use Rattle.std.proofs.Common.{◌≡◌, ℕ, zero, suc, ◌<◌, ◌≤◌, false, List, [], ◌∷◌, ◌++◌, length, length-append, Some, refl, sym, ap, ◌∙◌, append_assoc, arith, inl, inr}
use Rattle.std.specs.Prelude.{Option, map}
use Rattle.std.specs.List.{flat_map, AllByRecursion}
use Rattle.std.proofs.lemmas.Option.{same_Some}
use Rattle.rv_dot.specs.declared.token.Mark.{Mark}
use Rattle.rv_dot.specs.Tokens.{Lexeme, sign}
use Rattle.rv_dot.specs.Marks.{begins}
use Rattle.rv_dot.specs.Lists.{items_within, items_at}
use Rattle.rv_dot.proofs.MarkLaws.{bind_some, chosen, begins_takes, begins_again, past_mark_again}

-- things of one each
pub flat_map-one : {A B : Type 0} (f : A → B) (xs : List A) → flat_map (λ x. f x ∷ []) xs ≡ map f xs
flat_map-one f [] = refl
flat_map-one {A} {B} f (x ∷ xs) = ap (λ (ys : List B). f x ∷ ys) (flat_map-one f xs)

module _ {A S : Type 0} (close : Mark) (item_at : List Lexeme → Option (List A × List Lexeme)) (past : List Lexeme → List Lexeme) (spell : S → List Lexeme) (says : S → List A) (IsItem : S → Type 0) where
  -- an item that is read is spelled so, and what may stand behind it too
  abbrev pub Takes : Type 0
  Takes = (tokens : List Lexeme) (x : List A × List Lexeme) → item_at tokens ≡ Some x → (s : S) × IsItem s × (tokens ≡ spell s ++ past x.1) × (says s ≡ x.0)

  -- what is read so is spelled so: items
  pub items_take : Takes → (n : ℕ) (tokens : List Lexeme) (x : List A × List Lexeme) → items_within close item_at past n tokens ≡ Some x → (ss : List S) × AllByRecursion IsItem ss × (tokens ≡ flat_map spell ss ++ sign close ∷ x.1) × (flat_map says ss ≡ x.0)
  unfolding items_within
  items_take takes zero tokens x h = absurd (cc)
  items_take takes (suc n) tokens x h =
      elim (chosen (begins close tokens) _ _ (Some x) h) [
        | inl p ↦
            let e = same_Some _ x p.1 in
            ([], tt, begins_takes close tokens p.0 ∙ ap (λ (y : List A × List Lexeme). sign close ∷ y.1) e, ap (λ (y : List A × List Lexeme). y.0) e)
        | inr p ↦
            let first = bind_some (item_at tokens) _ x p.1 in
            let others = bind_some (items_within close item_at past n (past first.0.1)) _ x first.2 in
            let e = same_Some _ x others.2 in
            let took = takes tokens first.0 first.1 in
            let more = items_take takes n (past first.0.1) others.0 others.1 in (
              took.0 ∷ more.0,
              (took.1, more.1),
              took.2 ∙ ap (λ (ts : List Lexeme). spell took.0 ++ ts) more.2 ∙ sym (append_assoc (spell took.0) (flat_map spell more.0) (sign close ∷ others.0.1)) ∙ ap (λ (y : List A × List Lexeme). flat_map spell (took.0 ∷ more.0) ++ sign close ∷ y.1) e,
              ap (λ (as' : List A). as' ++ flat_map says more.0) took.3 ∙ ap (λ (as' : List A). first.0.0 ++ as') more.3 ∙ ap (λ (y : List A × List Lexeme). y.0) e,
            )
      ]

  -- an item that is spelled so, before others, is read so, and what may stand behind it is passed over
  abbrev pub Again : Type 0
  Again = (s : S) (ss : List S) (rest : List Lexeme) → IsItem s → AllByRecursion IsItem ss
      → (begins close (spell s ++ (flat_map spell ss ++ sign close ∷ rest)) ≡ false) × (after : List Lexeme) × (item_at (spell s ++ (flat_map spell ss ++ sign close ∷ rest)) ≡ Some (says s, after)) × (past after ≡ flat_map spell ss ++ sign close ∷ rest)

  -- items of at most so many tokens
  read_within : Again → (ss : List S) (n : ℕ) (rest : List Lexeme) → AllByRecursion IsItem ss → length ss < n → items_within close item_at past n (flat_map spell ss ++ sign close ∷ rest) ≡ Some (flat_map says ss, rest)
  unfolding items_within
  read_within again ss zero rest h few = absurd (omega arith)
  read_within again [] (suc n) rest h few = rw (begins_again close rest, past_mark_again close rest) refl
  read_within again (s ∷ ss) (suc n) rest h few =
      let read = again s ss rest h.0 h.1 in
      ap (items_within close item_at past (suc n)) (append_assoc (spell s) (flat_map spell ss) (sign close ∷ rest)) ∙ rw (read.0, read.2, read.3, read_within again ss n rest h.1 (omega arith)) refl

  -- there are as many tokens as items
  as_many : ((s : S) → 0 < length (spell s)) → (ss : List S) → length ss ≤ length (flat_map spell ss)
  as_many some [] = omega arith
  as_many some (s ∷ ss) = omega (arith, some s, as_many some ss, length-append (spell s) (flat_map spell ss))

  -- what is spelled so is read so: items
  pub items_again : Again → ((s : S) → 0 < length (spell s)) → (ss : List S) (rest : List Lexeme) → AllByRecursion IsItem ss → items_at close item_at past (flat_map spell ss ++ sign close ∷ rest) ≡ Some (flat_map says ss, rest)
  unfolding items_at
  items_again again some ss rest h =
      read_within again ss (length (flat_map spell ss ++ sign close ∷ rest)) rest h (omega (arith, as_many some ss, length-append (flat_map spell ss) (sign close ∷ rest)))
