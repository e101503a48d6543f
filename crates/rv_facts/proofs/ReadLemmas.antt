-- What is read of the lines of a text, line by line.
use Rattle.std.proofs.Common.{◌≡◌, List, [], ◌∷◌, ◌++◌, refl, sym, ap, ◌∙◌, append_assoc, append-nil}
use Rattle.std.specs.Prelude.{Option, Some, None, filter_map, option_to_list}
use Rattle.std.specs.List.{cons_option}

module _ {X Y : Type 0} (read : X → Option Y) where
  -- what the first line gives stands before the rest
  first_read : (line : X) (later : List X) → filter_map read (line ∷ later) ≡ option_to_list (read line) ++ filter_map read later
  first_read line later = go (read line)
    where
      go : (given : Option Y) → cons_option given (filter_map read later) ≡ option_to_list given ++ filter_map read later
      go None = refl
      go (Some y) = refl

  -- nothing is read yet
  pub none_read : (found : List Y) (cursor lines : List X) → found ≡ [] → cursor ≡ lines → found ++ filter_map read cursor ≡ filter_map read lines
  none_read found cursor lines nothing first = ap (λ (z : List Y). z ++ filter_map read cursor) nothing ∙ ap (filter_map read) first

  -- one line more is read
  pub more_read : (found more : List Y) (cursor later : List X) (line : X) (all : List Y) → cursor ≡ line ∷ later → found ++ filter_map read cursor ≡ all → more ≡ found ++ option_to_list (read line) → more ++ filter_map read later ≡ all
  more_read found more cursor later line all next so_far grown =
      ap (λ (z : List Y). z ++ filter_map read later) grown ∙ append_assoc found (option_to_list (read line)) (filter_map read later)
      ∙ ap (λ (z : List Y). found ++ z) (sym (first_read line later)) ∙ ap (λ (z : List X). found ++ filter_map read z) (sym next) ∙ so_far

  -- all lines are read
  pub all_read : (found : List Y) (cursor : List X) (all : List Y) → cursor ≡ [] → found ++ filter_map read cursor ≡ all → found ≡ all
  all_read found cursor all none so_far = sym (append-nil found) ∙ ap (λ (z : List X). found ++ filter_map read z) (sym none) ∙ so_far
