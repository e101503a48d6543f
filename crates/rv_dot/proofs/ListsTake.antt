-- What is read is spelled so: attributes and names.
use Rattle.std.proofs.Common.{◌≡◌, ℕ, Bool, true, false, List, [], ◌∷◌, ◌++◌, length, Option, Some, None, cond, refl, sym, ap, ◌∙◌, subst, append_assoc, inl, inr}
use Rattle.std.specs.Prelude.{map}
use Rattle.std.specs.List.{flat_map}
use Rattle.std.proofs.lemmas.Option.{same_Some}
use Rattle.rv_dot.specs.declared.token.Mark.TheVariants.{CloseBrace, OpenBracket, CloseBracket, Equals, Semicolon, Comma}
use Rattle.rv_dot.specs.Tokens.{Lexeme, sign, word, text}
use Rattle.rv_dot.specs.Marks.{begins, expects, past_mark}
use Rattle.rv_dot.specs.Lists.{Attribute, front_word, value_at, name_at, is_keyword, separated, attribute_at, items_at, attribute_item, attributes_at, last_value, bracket_at, name_item, names_at}
use Rattle.rv_dot.specs.Statements.{optional_bracket_at}
use Rattle.rv_dot.specs.Grammar.{semicolon, Separator, nothing, comma, semi, separator, attribute, Bracket, inside, optional_bracket, Group, named, group, IsValue, IsName, IsBracket, IsOptionalBracket, IsGroup, value_in, value_in_optional}
use Rattle.rv_dot.proofs.MarkLaws.{bind_some, chosen, expects_takes, begins_takes, past_mark_none, semicolon_takes}
use Rattle.rv_dot.proofs.RunLaws.{map_some}
use Rattle.rv_dot.proofs.Items.{Takes, items_take, flat_map-one}

-- what is read so is spelled so: word
pub word_takes : (tokens : List Lexeme) (x : List ℕ × List Lexeme) → front_word tokens ≡ Some x → tokens ≡ word x.0 ∷ x.1
unfolding front_word
word_takes [] x h = absurd (cc)
word_takes (sign m ∷ tokens) x h = absurd (cc)
word_takes (word w ∷ tokens) x h = ap (λ (y : List ℕ × List Lexeme). word y.0 ∷ y.1) (same_Some (w, tokens) x h)
word_takes (text t ∷ tokens) x h = absurd (cc)

-- one token that was read
one_token : (IsOne : Lexeme → Type 0) (t : Lexeme) (tokens : List Lexeme) (x : Lexeme × List Lexeme) → IsOne t → Some (t, tokens) ≡ Some x → (t ∷ tokens ≡ x.0 ∷ x.1) × IsOne x.0
one_token IsOne t tokens x is h =
    let e = same_Some (t, tokens) x h in
    (ap (λ (y : Lexeme × List Lexeme). y.0 ∷ y.1) e, subst (λ (y : Lexeme × List Lexeme). IsOne y.0) e is)

-- what is read so is spelled so: value
pub value_takes : (tokens : List Lexeme) (x : Lexeme × List Lexeme) → value_at tokens ≡ Some x → (tokens ≡ x.0 ∷ x.1) × IsValue x.0
unfolding value_at
value_takes [] x h = absurd (cc)
value_takes (sign m ∷ tokens) x h = absurd (cc)
value_takes (word w ∷ tokens) x h = one_token IsValue (word w) tokens x tt h
value_takes (text t ∷ tokens) x h = one_token IsValue (text t) tokens x tt h

-- what is read so is spelled so: name
pub name_takes : (tokens : List Lexeme) (x : Lexeme × List Lexeme) → name_at tokens ≡ Some x → (tokens ≡ x.0 ∷ x.1) × IsName x.0
unfolding name_at
name_takes [] x h = absurd (cc)
name_takes (sign m ∷ tokens) x h = absurd (cc)
name_takes (word w ∷ tokens) x h = elim (chosen (is_keyword w) None (Some (word w, tokens)) (Some x) h) [ inl p ↦ absurd (cc) | inr p ↦ one_token IsName (word w) tokens x p.0 p.1 ]
name_takes (text t ∷ tokens) x h = one_token IsName (text t) tokens x tt h

-- what is read so is spelled so: separated
separated_takes : (tokens : List Lexeme) → (s : Separator) × (tokens ≡ separator s ++ separated tokens)
unfolding separated
separated_takes tokens = go (begins Comma tokens) refl
  where
    none : (t : Bool) → begins Comma tokens ≡ false → begins Semicolon tokens ≡ t → (s : Separator) × (tokens ≡ separator s ++ (cond (begins Comma tokens) (past_mark Comma tokens) (past_mark Semicolon tokens)))
    none true h k = (semi, rw h (begins_takes Semicolon tokens k))
    none false h k = (nothing, rw h (sym (past_mark_none Semicolon tokens k)))

    go : (t : Bool) → begins Comma tokens ≡ t → (s : Separator) × (tokens ≡ separator s ++ (cond (begins Comma tokens) (past_mark Comma tokens) (past_mark Semicolon tokens)))
    go true h = (comma, rw h (begins_takes Comma tokens h))
    go false h = none (begins Semicolon tokens) h refl

-- what is read so is spelled so: attribute
pub attribute_takes : (tokens : List Lexeme) (x : Attribute × List Lexeme) → attribute_at tokens ≡ Some x → (tokens ≡ word x.0.key ∷ sign Equals ∷ x.0.value ∷ x.1) × IsValue x.0.value
unfolding attribute_at
attribute_takes tokens x h =
    let key = bind_some (front_word tokens) _ x h in
    let behind = bind_some (expects Equals key.0.1) _ x key.2 in
    let value = bind_some (value_at behind.0) _ x behind.2 in
    let e = same_Some _ x value.2 in
    let v = value_takes behind.0 value.0 value.1 in
    let spelled : tokens ≡ word key.0.0 ∷ sign Equals ∷ value.0.0 ∷ value.0.1 =
    word_takes tokens key.0 key.1 ∙ ap (λ (ts : List Lexeme). word key.0.0 ∷ ts) (expects_takes Equals key.0.1 behind.0 behind.1) ∙ ap (λ (ts : List Lexeme). word key.0.0 ∷ sign Equals ∷ ts) v.0 in
    (spelled ∙ ap (λ (y : Attribute × List Lexeme). word y.0.key ∷ sign Equals ∷ y.0.value ∷ y.1) e, subst (λ (y : Attribute × List Lexeme). IsValue y.0.value) e v.1)

-- an attribute among others
attribute_item_takes : Takes CloseBracket attribute_item separated attribute (λ a. a.0 ∷ []) (λ a. IsValue a.0.value)
attribute_item_takes tokens x h =
    let read = map_some (λ y. (y.0 ∷ [], y.1)) (attribute_at tokens) x h in
    let spelled = attribute_takes tokens read.0 read.1 in
    let s = separated_takes read.0.1 in (
      (read.0.0, s.0),
      spelled.1,
      spelled.0 ∙ ap (λ (ts : List Lexeme). word read.0.0.key ∷ sign Equals ∷ read.0.0.value ∷ ts) (s.1 ∙ ap (λ (y : List Attribute × List Lexeme). separator s.0 ++ separated y.1) read.2),
      ap (λ (y : List Attribute × List Lexeme). y.0) read.2,
    )

-- what is read so is spelled so: bracket
pub bracket_takes : (key : List ℕ) (tokens : List Lexeme) (x : Option Lexeme × List Lexeme) → bracket_at key tokens ≡ Some x → (b : Bracket) × IsBracket b × (tokens ≡ inside b ++ sign CloseBracket ∷ x.1) × (value_in key b ≡ x.0)
unfolding bracket_at items_at
bracket_takes key tokens x h =
    let k = bind_some (attributes_at tokens) _ x h in
    let e = same_Some _ x k.2 in
    let b = items_take CloseBracket attribute_item separated attribute (λ a. a.0 ∷ []) (λ a. IsValue a.0.value) attribute_item_takes (length tokens) tokens k.0 k.1 in
    let held = sym (flat_map-one (λ (a : Attribute × Separator). a.0) b.0) ∙ b.3 in
    (b.0, b.1, b.2 ∙ ap (λ (y : Option Lexeme × List Lexeme). inside b.0 ++ sign CloseBracket ∷ y.1) e, ap (last_value key) held ∙ ap (λ (y : Option Lexeme × List Lexeme). y.0) e)

-- what is read so is spelled so: optional bracket
pub optional_bracket_takes : (key : List ℕ) (tokens : List Lexeme) (x : Option Lexeme × List Lexeme) → optional_bracket_at key tokens ≡ Some x → (b : Option Bracket) × IsOptionalBracket b × (tokens ≡ optional_bracket b ++ x.1) × (value_in_optional key b ≡ x.0)
unfolding optional_bracket_at
optional_bracket_takes key tokens x h =
    elim (chosen (begins OpenBracket tokens) _ _ (Some x) h) [
      | inl p ↦
          let b = bracket_takes key (past_mark OpenBracket tokens) x p.1 in
          (Some b.0, b.1, begins_takes OpenBracket tokens p.0 ∙ ap (λ (ts : List Lexeme). sign OpenBracket ∷ ts) (b.2 ∙ sym (append_assoc (inside b.0) (sign CloseBracket ∷ []) x.1)), b.3)
      | inr p ↦
          let e = same_Some _ x p.1 in
          (None, tt, ap (λ (y : Option Lexeme × List Lexeme). y.1) e, ap (λ (y : Option Lexeme × List Lexeme). y.0) e)
    ]

-- a name among others
name_item_takes : Takes CloseBrace name_item (past_mark Semicolon) named (λ n. n.0 ∷ []) (λ n. IsName n.0)
name_item_takes tokens x h =
    let read = map_some (λ y. (y.0 ∷ [], y.1)) (name_at tokens) x h in
    let spelled = name_takes tokens read.0 read.1 in
    let s = semicolon_takes read.0.1 in (
      (read.0.0, s.0),
      spelled.1,
      spelled.0 ∙ ap (λ (ts : List Lexeme). read.0.0 ∷ ts) (s.1 ∙ ap (λ (y : List Lexeme × List Lexeme). semicolon s.0 ++ past_mark Semicolon y.1) read.2),
      ap (λ (y : List Lexeme × List Lexeme). y.0) read.2,
    )

-- what is read so is spelled so: group
pub group_takes : (tokens : List Lexeme) (x : List Lexeme × List Lexeme) → names_at tokens ≡ Some x → (g : Group) × IsGroup g × (tokens ≡ group g ++ x.1) × (map (λ n. n.0) g ≡ x.0)
unfolding items_at
group_takes tokens x h =
    let g = items_take CloseBrace name_item (past_mark Semicolon) named (λ n. n.0 ∷ []) (λ n. IsName n.0) name_item_takes (length tokens) tokens x h in
    (g.0, g.1, g.2 ∙ sym (append_assoc (flat_map named g.0) (sign CloseBrace ∷ []) x.1), sym (flat_map-one (λ (n : Lexeme × Bool). n.0) g.0) ∙ g.3)
