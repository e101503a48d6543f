-- A label's cubes say what the label says, and those of its negation what the negation says.
use Rattle.std.proofs.Common.{◌≡◌, ℕ, ◌&&◌, ◌||◌, not, nat_lt, cond, Bool, true, false, List, Some, None, refl, ap, ◌∙◌}
use mathlib.Core.Path.{ap₂}
use Rattle.std.specs.List.{list_any}
use Rattle.std.proofs.lemmas.List.Folds.{list_any-append}
use Rattle.rv_model.specs.Ltl.{Ltl, True, Atom, Not, And, Or, Imply, Equivalent}
use Rattle.rv_model.specs.Meaning.{true_on}
use Rattle.rv_labels.specs.declared.cube.Cube.{Cube}
use Rattle.rv_labels.specs.Cubes.{cubes_of, cube_unions}
use Rattle.rv_labels.specs.Holding.{meets}
use Rattle.rv_labels.specs.Sizes.{size_of, cubes_if_few}
use Rattle.rv_labels.proofs.MeetLemmas.{meets_whole, meets_need, meets_forbid, any_cube_unions}

-- a truth value at true, and its denial at false
abbrev pub by_sign : Bool → Bool → Bool
by_sign true b = b
by_sign false b = not b

-- a denial is asked for by the other sign
by_not : (sign b : Bool) → by_sign (not sign) b ≡ by_sign sign (not b)
by_not true b = refl
by_not false true = refl
by_not false false = refl

-- nothing is added
or_false : (b : Bool) → (b || false) ≡ b
or_false true = refl
or_false false = refl

-- the denial of both
deny_and : (a b : Bool) → (not a || not b) ≡ not (a && b)
deny_and true b = refl
deny_and false b = refl

-- the denial of one of two
deny_or : (a b : Bool) → (not a && not b) ≡ not (a || b)
deny_or true b = refl
deny_or false b = refl

-- the denial of a condition
deny_imply : (a b : Bool) → (a && not b) ≡ not (not a || b)
deny_imply true b = refl
deny_imply false b = refl

-- the denial of an equivalence
deny_equivalent : (a b : Bool) → ((a && not b) || (not a && b)) ≡ not ((a && b) || (not a && not b))
deny_equivalent true true = refl
deny_equivalent true false = refl
deny_equivalent false true = refl
deny_equivalent false false = refl

-- both signs
pub cubes_say : (f : Ltl) (sign : Bool) (x : ℕ) → list_any (meets x) (cubes_of f sign) ≡ by_sign sign (true_on x f)
cubes_say True true x = meets_whole x true
cubes_say True false x = meets_whole x false
cubes_say (Atom a) true x = or_false (meets x _) ∙ meets_need x a
cubes_say (Atom a) false x = or_false (meets x _) ∙ meets_forbid x a
cubes_say (Not f) sign x = cubes_say f (not sign) x ∙ by_not sign (true_on x f)
cubes_say (And f g) true x = any_cube_unions x (cubes_of f true) (cubes_of g true) ∙ ap₂ (λ a b. a && b) (cubes_say f true x) (cubes_say g true x)
cubes_say (And f g) false x = list_any-append (meets x) (cubes_of f false) (cubes_of g false) ∙ ap₂ (λ a b. a || b) (cubes_say f false x) (cubes_say g false x) ∙ deny_and (true_on x f) (true_on x g)
cubes_say (Or f g) true x = list_any-append (meets x) (cubes_of f true) (cubes_of g true) ∙ ap₂ (λ a b. a || b) (cubes_say f true x) (cubes_say g true x)
cubes_say (Or f g) false x = any_cube_unions x (cubes_of f false) (cubes_of g false) ∙ ap₂ (λ a b. a && b) (cubes_say f false x) (cubes_say g false x) ∙ deny_or (true_on x f) (true_on x g)
cubes_say (Imply f g) true x = list_any-append (meets x) (cubes_of f false) (cubes_of g true) ∙ ap₂ (λ a b. a || b) (cubes_say f false x) (cubes_say g true x)
cubes_say (Imply f g) false x = any_cube_unions x (cubes_of f true) (cubes_of g false) ∙ ap₂ (λ a b. a && b) (cubes_say f true x) (cubes_say g false x) ∙ deny_imply (true_on x f) (true_on x g)
cubes_say (Equivalent f g) true x =
    list_any-append (meets x) (cube_unions (cubes_of f true) (cubes_of g true)) (cube_unions (cubes_of f false) (cubes_of g false))
    ∙ ap₂ (λ a b. a || b)
    (any_cube_unions x (cubes_of f true) (cubes_of g true) ∙ ap₂ (λ a b. a && b) (cubes_say f true x) (cubes_say g true x))
    (any_cube_unions x (cubes_of f false) (cubes_of g false) ∙ ap₂ (λ a b. a && b) (cubes_say f false x) (cubes_say g false x))
cubes_say (Equivalent f g) false x =
    list_any-append (meets x) (cube_unions (cubes_of f true) (cubes_of g false)) (cube_unions (cubes_of f false) (cubes_of g true))
    ∙ ap₂ (λ a b. a || b)
    (any_cube_unions x (cubes_of f true) (cubes_of g false) ∙ ap₂ (λ a b. a && b) (cubes_say f true x) (cubes_say g false x))
    (any_cube_unions x (cubes_of f false) (cubes_of g true) ∙ ap₂ (λ a b. a && b) (cubes_say f false x) (cubes_say g true x))
    ∙ deny_equivalent (true_on x f) (true_on x g)
cubes_say _ true x = meets_whole x false
cubes_say _ false x = meets_whole x true

-- where a label has few cubes, they say what it says
pub few_say : (f : Ltl) (cs : List Cube) (x : ℕ) → Some cs ≡ cubes_if_few f → list_any (meets x) cs ≡ true_on x f
few_say f cs x e = go (nat_lt 64 (size_of f true)) e
  where
    go : (many : Bool) → Some cs ≡ cond many None (Some (cubes_of f true)) → list_any (meets x) cs ≡ true_on x f
    go true none = cc
    go false some = let same : cs ≡ cubes_of f true = cc in ap (list_any (meets x)) same ∙ cubes_say f true x
