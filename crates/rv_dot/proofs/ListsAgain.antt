-- What is spelled so is read: attributes and names.
use Rattle.std.proofs.Common.{◌≡◌, ℕ, Bool, false, List, [], ◌∷◌, ◌++◌, Option, Some, None, refl, ap, ◌∙◌, append_assoc, arith}
use Rattle.std.specs.Prelude.{map}
use Rattle.std.specs.List.{flat_map}
use Rattle.rv_dot.specs.declared.token.Mark.{Mark}
use Rattle.rv_dot.specs.declared.token.Mark.TheVariants.{CloseBrace, OpenBracket, CloseBracket, Semicolon, Comma}
use Rattle.rv_dot.specs.Tokens.{Lexeme, sign, word, text}
use Rattle.rv_dot.specs.Marks.{begins, expects, past_mark}
use Rattle.rv_dot.specs.Lists.{Attribute, front_word, value_at, name_at, separated, attribute_at, attribute_item, bracket_at, name_item, names_at}
use Rattle.rv_dot.specs.Statements.{optional_bracket_at}
use Rattle.rv_dot.specs.Grammar.{semicolon, Separator, nothing, comma, semi, separator, attribute, Bracket, inside, optional_bracket, Group, named, group, IsValue, IsName, IsBracket, IsOptionalBracket, IsGroup, value_in, value_in_optional}
use Rattle.rv_dot.proofs.MarkLaws.{past_mark_none, past_mark_again, semicolon_again}
use Rattle.rv_dot.proofs.Items.{Again, items_again, flat_map-one}

-- what is spelled so is read so: value
pub value_again : (v : Lexeme) (rest : List Lexeme) → IsValue v → value_at (v ∷ rest) ≡ Some (v, rest)
unfolding value_at
value_again (sign m) rest h = absurd h
value_again (word w) rest h = refl
value_again (text t) rest h = refl

-- what is spelled so is read so: name
pub name_again : (v : Lexeme) (rest : List Lexeme) → IsName v → name_at (v ∷ rest) ≡ Some (v, rest)
unfolding name_at
name_again (sign m) rest h = absurd h
name_again (word w) rest h = rw h refl
name_again (text t) rest h = refl

-- a name is no mark
pub name_begins : (m : Mark) (v : Lexeme) (rest : List Lexeme) → IsName v → begins m (v ∷ rest) ≡ false
unfolding begins
name_begins m (sign n) rest h = absurd h
name_begins m (word w) rest h = refl
name_begins m (text t) rest h = refl

-- what is spelled so is read so: separated
separated_again : (s : Separator) (rest : List Lexeme) → begins Comma rest ≡ false → begins Semicolon rest ≡ false → separated (separator s ++ rest) ≡ rest
unfolding separated begins
separated_again nothing rest no_comma no_semi = rw no_comma (past_mark_none Semicolon rest no_semi)
separated_again comma rest no_comma no_semi = past_mark_again Comma rest
separated_again semi rest no_comma no_semi = past_mark_again Semicolon rest

-- what stands inside a bracket begins with a word
inside_begins : (m : Mark) (b : Bracket) (rest : List Lexeme) → begins m (sign CloseBracket ∷ rest) ≡ false → begins m (inside b ++ sign CloseBracket ∷ rest) ≡ false
unfolding begins
inside_begins m [] rest h = h
inside_begins m (a ∷ b) rest h = refl

-- an attribute before others
attribute_again : Again CloseBracket attribute_item separated attribute (λ a. a.0 ∷ []) (λ a. IsValue a.0.value)
unfolding begins attribute_at front_word expects
attribute_again a b rest h more =
    let tail = inside b ++ sign CloseBracket ∷ rest in
    (refl, separator a.1 ++ tail, rw (value_again a.0.value (separator a.1 ++ tail) h) refl, separated_again a.1 tail (inside_begins Comma b rest refl) (inside_begins Semicolon b rest refl))

-- what is spelled so is read so: bracket
pub bracket_again : (key : List ℕ) (b : Bracket) (rest : List Lexeme) → IsBracket b → bracket_at key (inside b ++ sign CloseBracket ∷ rest) ≡ Some (value_in key b, rest)
unfolding bracket_at
bracket_again key b rest h =
    rw (items_again CloseBracket attribute_item separated attribute (λ a. a.0 ∷ []) (λ a. IsValue a.0.value) attribute_again (λ a. omega arith) b rest h, flat_map-one (λ (a : Attribute × Separator). a.0) b) refl

-- what is spelled so is read so: optional bracket
pub optional_bracket_again : (key : List ℕ) (b : Option Bracket) (rest : List Lexeme) → IsOptionalBracket b → begins OpenBracket rest ≡ false → optional_bracket_at key (optional_bracket b ++ rest) ≡ Some (value_in_optional key b, rest)
unfolding optional_bracket_at begins past_mark
optional_bracket_again key None rest h apart = rw apart refl
optional_bracket_again key (Some b) rest h apart = ap (bracket_at key) (append_assoc (inside b) (sign CloseBracket ∷ []) rest) ∙ bracket_again key b rest h

-- names begin with a name
pub names_begin : (m : Mark) (g : Group) (rest : List Lexeme) → IsGroup g → begins m (sign CloseBrace ∷ rest) ≡ false → begins m (flat_map named g ++ sign CloseBrace ∷ rest) ≡ false
names_begin m [] rest h apart = apart
names_begin m (n ∷ g) rest h apart = name_begins m n.0 _ h.0

-- a name before others
name_item_again : Again CloseBrace name_item (past_mark Semicolon) named (λ n. n.0 ∷ []) (λ n. IsName n.0)
unfolding begins
name_item_again n g rest h more =
    let tail = flat_map named g ++ sign CloseBrace ∷ rest in
    (name_begins CloseBrace n.0 (semicolon n.1 ++ tail) h, semicolon n.1 ++ tail, rw (name_again n.0 (semicolon n.1 ++ tail) h) refl, semicolon_again n.1 tail (names_begin Semicolon g rest more refl))

-- what is spelled so is read so: group
pub group_again : (g : Group) (rest : List Lexeme) → IsGroup g → names_at (group g ++ rest) ≡ Some (map (λ n. n.0) g, rest)
group_again g rest h =
    let regrouped : group g ++ rest ≡ flat_map named g ++ sign CloseBrace ∷ rest = append_assoc (flat_map named g) (sign CloseBrace ∷ []) rest in
    ap names_at regrouped ∙ items_again CloseBrace name_item (past_mark Semicolon) named (λ n. n.0 ∷ []) (λ n. IsName n.0) name_item_again (λ n. omega arith) g rest h
    ∙ ap (λ (ns : List Lexeme). Some (ns, rest)) (flat_map-one (λ (n : Lexeme × Bool). n.0) g)
