-- The worked rules are well formed.
use Rattle.std.proofs.Common.{◌≡◌, ℕ, ◌<◌, ◌≤◌, [], ◌∷◌, add-one, ◌++◌, ◌+◌, arith, refl, sym, ap}
use Rattle.std.specs.Prelude.{AllPairs}
use Rattle.std.specs.Ordering.{ordering_then}
use Rattle.std.specs.Cmp.{nat_cmp_is}
use Rattle.std.specs.declared.cmp.Ordering.TheVariants.{Less, Equal}
use Rattle.rv_model.specs.WellFormed.{IsBefore}
use Rattle.rv_model.specs.Formulas.{HasAtomsBelow, IsRule}
use Rattle.rv_model.specs.Ltl.{Ltl}
use Rattle.rv_model.specs.Numbers.{list_of}
use Rattle.rv_model.proofs.FoundLemmas.{length-list_of, get_or-list_of}
use Rattle.rv_reference.specs.Worked.{letter_name, letter_names}

-- of no letters there are no names
pub names-none : [] ≡ letter_names 0
unfolding list_of
names-none = refl

-- the names of one letter each, with one more
pub names-more : (n : ℕ) → letter_names n ++ letter_name n ∷ [] ≡ letter_names (n + 1)
unfolding list_of
names-more n = rw add-one refl

-- names of one letter each ascend
names_ascend : (n : ℕ) → AllPairs IsBefore (letter_names n)
names_ascend n i j d lt below =
    let l : j < n = rw (length-list_of letter_name n) at below in
    rw (get_or-list_of letter_name n i d (omega arith), get_or-list_of letter_name n j d l) (letters_before (65 + i) (65 + j) (omega arith))
  where
    letters_before : (a b : ℕ) → a < b → IsBefore (a ∷ []) (b ∷ [])
    letters_before a b lt = ap (λ o. ordering_then o Equal) (sym (nat_cmp_is a b Less lt))

-- a rule over the first letters is well formed
pub letters_well_formed : (n : ℕ) (f : Ltl) → n ≤ 26 → HasAtomsBelow n f → IsRule (record { atoms = letter_names n; formula = f })
letters_well_formed n f few below = record {
  few_atoms = rw (length-list_of letter_name n) (omega arith);
  atoms_ascend = names_ascend n;
  in_range = rw (length-list_of letter_name n) below;
}
