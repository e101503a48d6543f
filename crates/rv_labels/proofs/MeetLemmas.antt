-- What a letter meets: one cube, a union, lists that are joined.
use Rattle.std.proofs.Common.{◌≡◌, ℕ, ◌&&◌, ◌||◌, not, Bool, true, false, ◌⊎◌, inl, inr, bit_and, List, [], ◌∷◌, map, cond, refl, sym, ap, subst, ◌∙◌}
use mathlib.Core.Path.{ap₂}
use Rattle.std.specs.Prelude.{filter}
use Rattle.std.specs.Bool.{Decides}
use Rattle.std.specs.List.{list_any, Any}
use Rattle.std.proofs.lemmas.Bool.{eq-eqb, or_cases, or_left, or_right, false_from_ne_true, false≢true}
use Rattle.std.proofs.lemmas.Bool.Decides.{Decides-eqb, Decides-and, Decides-like, Decides-not, same_from_decides}
use Rattle.std.proofs.lemmas.List.Folds.{list_any-append, Any-from_list_any, list_any-from_Any}
use Rattle.rv_model.specs.Numbers.{has_bit}
use Rattle.rv_labels.specs.declared.cube.Cube.{Cube}
use Rattle.rv_labels.specs.Cubes.{cube_of, union_of, is_possible, unions_with, cube_unions, whole_if}
use Rattle.rv_labels.specs.Holding.{Meets, meets}
use Rattle.rv_model.proofs.SetLemmas.{has_or, has_none, has_same, only_same}
use Rattle.rv_labels.proofs.AtomLemmas.{within_from, within_to, apart_from, apart_to}

-- the test of a cube tells whether the letter meets it
pub meets_tells : (x : ℕ) (c : Cube) → Decides (meets x c) (Meets x c)
meets_tells x c =
    Decides-and _ _
    (Decides-like _ (within_from x c.need) (within_to x c.need) (Decides-eqb (bit_and x c.need) c.need))
    (Decides-like _ (apart_from x c.forbid) (apart_to x c.forbid) (Decides-eqb (bit_and x c.forbid) 0))

module _ (x : ℕ) where
  -- who meets a union meets both
  meets_parts : (c d : Cube) → Meets x (union_of c d) → Meets x c × Meets x d
  meets_parts c d m = (
    (λ a h. m.0 a (has_or c.need d.need a ∙ or_left _ _ h), λ a h. m.1 a (has_or c.forbid d.forbid a ∙ or_left _ _ h)),
    (λ a h. m.0 a (has_or c.need d.need a ∙ or_right _ _ h), λ a h. m.1 a (has_or c.forbid d.forbid a ∙ or_right _ _ h)),
  )

  -- and the other way round
  meets_both : (c d : Cube) → Meets x c × Meets x d → Meets x (union_of c d)
  meets_both c d m = (λ a h. needed a (or_cases _ _ (sym (has_or c.need d.need a) ∙ h)), λ a h. forbidden a (or_cases _ _ (sym (has_or c.forbid d.forbid a) ∙ h)))
    where
      needed : (a : ℕ) → (has_bit c.need a ≡ true) ⊎ (has_bit d.need a ≡ true) → has_bit x a ≡ true
      needed a (inl h) = m.0.0 a h
      needed a (inr h) = m.1.0 a h

      forbidden : (a : ℕ) → (has_bit c.forbid a ≡ true) ⊎ (has_bit d.forbid a ≡ true) → has_bit x a ≡ true → ⊥
      forbidden a (inl h) = m.0.1 a h
      forbidden a (inr h) = m.1.1 a h

  -- so the test of a union is both tests
  meets_union : (c d : Cube) → meets x (union_of c d) ≡ (meets x c && meets x d)
  meets_union c d = same_from_decides _ _ (meets_tells x (union_of c d)) (Decides-like _ (meets_both c d) (meets_parts c d) (Decides-and _ _ (meets_tells x c) (meets_tells x d)))

  -- no letter meets a cube that needs what it forbids
  meets_impossible : (c : Cube) → is_possible c ≡ false → meets x c ≡ false
  meets_impossible c never = false_from_ne_true (meets x c) (λ yes. false≢true (sym never ∙ eq-eqb _ _ (apart_to c.need c.forbid (λ a f n. let m = (meets_tells x c).0 yes in m.1 a f (m.0 a n)))))

  -- every letter meets the cube that asks for nothing
  pub meets_whole : (sign : Bool) → list_any (meets x) (whole_if sign) ≡ sign
  meets_whole true = or_left _ _ ((meets_tells x (record { need = 0; forbid = 0 })).1 (λ a h. absurd (false≢true (sym (has_none a) ∙ h)), λ a h. absurd (false≢true (sym (has_none a) ∙ h))))
  meets_whole false = refl

  -- a letter meets the cube of an atom where it has the atom, and that of its denial where it has not
  pub meets_need : (a : ℕ) → meets x (cube_of a true) ≡ has_bit x a
  meets_need a = same_from_decides _ _ (meets_tells x (cube_of a true)) (Decides-like _ to from (λ h. h, λ h. h))
    where
      to : has_bit x a ≡ true → Meets x (cube_of a true)
      to has = (λ b h. subst (λ (k : ℕ). has_bit x k ≡ true) (sym (only_same a b h)) has, λ b h. absurd (false≢true (sym (has_none b) ∙ h)))

      from : Meets x (cube_of a true) → has_bit x a ≡ true
      from m = m.0 a (has_same a)

  -- the denial of an atom
  pub meets_forbid : (a : ℕ) → meets x (cube_of a false) ≡ not (has_bit x a)
  meets_forbid a = same_from_decides _ _ (meets_tells x (cube_of a false)) (Decides-like _ to from (Decides-not (has_bit x a) (λ h. h, λ h. h)))
    where
      to : (has_bit x a ≡ true → ⊥) → Meets x (cube_of a false)
      to has = (λ b h. absurd (false≢true (sym (has_none b) ∙ h)), λ b h. subst (λ (k : ℕ). has_bit x k ≡ true → ⊥) (sym (only_same a b h)) has)

      from : Meets x (cube_of a false) → has_bit x a ≡ true → ⊥
      from m = m.1 a (has_same a)

  -- to leave out what no letter meets changes nothing
  any_possible : (cs : List Cube) → list_any (meets x) (filter is_possible cs) ≡ list_any (meets x) cs
  any_possible [] = refl
  any_possible (c ∷ cs) = go (is_possible c) refl (any_possible cs)
    where
      go : (b : Bool) → is_possible c ≡ b → list_any (meets x) (filter is_possible cs) ≡ list_any (meets x) cs → list_any (meets x) (cond b (c ∷ filter is_possible cs) (filter is_possible cs)) ≡ (meets x c || list_any (meets x) cs)
      go true e rest = ap (λ b. meets x c || b) rest
      go false e rest = rest ∙ sym (ap (λ b. b || list_any (meets x) cs) (meets_impossible c e))

  -- unions with one cube
  any_unions : (c : Cube) (ds : List Cube) → list_any (meets x) (map (union_of c) ds) ≡ (meets x c && list_any (meets x) ds)
  any_unions c [] = none (meets x c)
    where
      none : (b : Bool) → false ≡ (b && false)
      none true = refl
      none false = refl
  any_unions c (d ∷ ds) = ap₂ (λ a b. a || b) (meets_union c d) (any_unions c ds) ∙ spread (meets x c) (meets x d) (list_any (meets x) ds)
    where
      spread : (a b c : Bool) → ((a && b) || (a && c)) ≡ (a && (b || c))
      spread true b c = refl
      spread false b c = refl

  -- a letter meets some cube of joined lists exactly where it meets some cube of each
  pub any_cube_unions : (cs ds : List Cube) → list_any (meets x) (cube_unions cs ds) ≡ (list_any (meets x) cs && list_any (meets x) ds)
  any_cube_unions [] ds = refl
  any_cube_unions (c ∷ cs) ds =
      list_any-append (meets x) (unions_with ds c) (cube_unions cs ds)
      ∙ ap₂ (λ a b. a || b) (any_possible (map (union_of c) ds) ∙ any_unions c ds) (any_cube_unions cs ds)
      ∙ spread (meets x c) (list_any (meets x) cs) (list_any (meets x) ds)
    where
      spread : (a b c : Bool) → ((a && c) || (b && c)) ≡ ((a || b) && c)
      spread true true true = refl
      spread true true false = refl
      spread true false true = refl
      spread true false false = refl
      spread false b c = refl

  -- the test of a list tells whether the letter meets one of its cubes
  pub any_tells : (cs : List Cube) → Decides (list_any (meets x) cs) (Any (Meets x) cs)
  any_tells cs = (
    λ e. let a = Any-from_list_any (meets x) cs e in (a.0, a.1, a.2, a.3, (meets_tells x a.1).0 a.4),
    λ a. list_any-from_Any (meets x) cs (a.0, a.1, a.2, a.3, (meets_tells x a.1).1 a.4),
  )
