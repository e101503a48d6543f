-- A file is added, in place of an older one of the name.
use Rattle.std.proofs.Common.{◌≡◌, ℕ, ◌≤◌, List, [], ◌∷◌, ◌++◌, Option, Some, None, Bool, true, false, bytes_eq, nat_lt, length, slice_set, find, position, option_map, ap, ◌∙◌, subst, cond, refl, arith}
use Rattle.std.specs.List.{position_or_len}
use Rattle.std.specs.Option.{option_or}
use Rattle.std.proofs.lemmas.Option.{slice_get_past}
use Rattle.std.proofs.lemmas.Slice.Eq.{bytes_eq-Decides}
use Rattle.std.proofs.lemmas.List.Folds.{find-set, find_past, find-append, find_at}
use Rattle.std.proofs.lemmas.List.Quantifiers.{position-Some}
use Rattle.rv_io.specs.MemStores.{lookup, IsReplaced}

-- the bytes of the name are these, and other names keep theirs
replaced : (old new : List (List ℕ × List ℕ)) (name bytes : List ℕ) → lookup new name ≡ Some bytes
    → ((other : List ℕ) → bytes_eq name other ≡ false → lookup new other ≡ lookup old other) → IsReplaced old new name bytes
replaced old new name bytes here others other =
    elim (bytes_eq name other) as (λ b. bytes_eq name other ≡ b → lookup new other ≡ cond b (Some bytes) (lookup old other)) [
      | true ↦ λ e. subst (λ n. lookup new n ≡ Some bytes) ((bytes_eq-Decides name other).0 e) here
      | false ↦ λ e. others other e
    ] refl

-- what a test with a number answers, where it passes
passes_with : (passes : Bool) (n place : ℕ) → cond passes (Some n) None ≡ Some place → place ≡ n
passes_with true n place e = grind (arith, e)
passes_with false n place e = cc (e)

-- a number that is not below another
never_below : (n m : ℕ) → cond (nat_lt n m) (Some n) None ≡ None → m ≤ n
never_below n m e = grind (arith, e)

module _ {X : Type 0} (test : X → Bool) (items : List X) where
  -- a place that was found is the first that passes
  found_first : (place : ℕ) → position test items ≡ Some place → place ≡ position_or_len test items
  found_first place e = passes_with _ _ _ e

  -- where no place was found, no item is
  found_none : position test items ≡ None → find test items ≡ None
  found_none e = find_at test items ∙ slice_get_past items (position_or_len test items) (never_below (position_or_len test items) (length items) e)

-- a first choice that is none
option_or-none : {X : Type 0} (first second : Option X) → first ≡ None → option_or first second ≡ second
option_or-none None second e = refl
option_or-none (Some x) second e = cc (e)

-- a second choice that is none
option_or-first : {X : Type 0} (first : Option X) → option_or first None ≡ first
option_or-first None = refl
option_or-first (Some x) = refl

module _ (files : List (List ℕ × List ℕ)) (name bytes : List ℕ) where
  -- whether a file has the name
  abbrev is_named : List ℕ → List ℕ × List ℕ → Bool
  is_named wanted file = bytes_eq file.0 wanted

  -- the bytes of a file that was found
  abbrev bytes_in : Option (List ℕ × List ℕ) → Option (List ℕ)
  bytes_in found = option_map (λ file. file.1) found

  -- a name equals itself
  same_name : bytes_eq name name ≡ true
  same_name = (bytes_eq-Decides name name).1 refl

  -- a file is replaced
  pub replaced-set : (place : ℕ) → position (λ file. bytes_eq file.0 name) files ≡ Some place → IsReplaced files (slice_set files place (name, bytes)) name bytes
  replaced-set place first =
      let at = position-Some (is_named name) files place (name, bytes) first in
      let here = find-set (is_named name) files place (name, bytes) (found_first (is_named name) files place first) at.0 same_name in
      let others : (other : List ℕ) → bytes_eq name other ≡ false → lookup (slice_set files place (name, bytes)) other ≡ lookup files other =
      λ other apart. ap bytes_in (find_past (is_named other) files place (name, bytes) (name, bytes) (rw ((bytes_eq-Decides _ name).0 at.1) apart) apart) in
      replaced _ _ name bytes (ap bytes_in here) others

  -- a file is new
  pub replaced-push : position (λ file. bytes_eq file.0 name) files ≡ None → IsReplaced files (files ++ (name, bytes) ∷ []) name bytes
  replaced-push none =
      let added : (wanted : List ℕ) → find (is_named wanted) (files ++ (name, bytes) ∷ []) ≡ option_or (find (is_named wanted) files) (cond (bytes_eq name wanted) (Some (name, bytes)) None) =
      λ wanted. find-append (is_named wanted) files ((name, bytes) ∷ []) in
      let here : find (is_named name) (files ++ (name, bytes) ∷ []) ≡ Some (name, bytes) =
      added name ∙ option_or-none _ _ (found_none (is_named name) files none) ∙ rw same_name refl in
      let others : (other : List ℕ) → bytes_eq name other ≡ false → lookup (files ++ (name, bytes) ∷ []) other ≡ lookup files other =
      λ other apart. ap bytes_in (added other ∙ rw apart (option_or-first _)) in
      replaced _ _ name bytes (ap bytes_in here) others
