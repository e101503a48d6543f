-- What holds weakly holds weakly of each front, and what holds strongly holds strongly of each extension (Eisner and others, 2003).
use Rattle.std.proofs.Common.{◌≡◌, ℕ, Bool, true, false, not, ◌&&◌, ◌||◌, List, [], ◌∷◌, ◌++◌, map, refl, subst}
use Rattle.std.proofs.lemmas.Bool.{false≢true}
use Rattle.std.proofs.lemmas.List.{map-append}
use Rattle.rv_model.specs.declared.hit.Letter.{Letter}
use Rattle.rv_model.specs.declared.formula.Spec.{Spec}
use Rattle.rv_model.specs.declared.formula.Spec.TheVariants.{Da, Ltl as Rule}
use Rattle.rv_model.specs.Letters.{atoms_in}
use Rattle.rv_model.specs.Ltl.{Ltl, True, False, Atom, Not, Next, Always, Eventually, And, Or, Imply, Equivalent, Until, Release, WeakUntil}
use Rattle.rv_model.specs.Truth.{View, Weak, Strong, Satisfies}
use Rattle.rv_model.specs.Meaning.{Meaning, on_letter, true_m, not_m, and_m, or_m, next_m, until_m, release_m, meaning}
use Rattle.rv_model.specs.Language.{IsPath, HasEdge}
use Rattle.rv_model.specs.Machine.{Machine}
use Rattle.rv_model.specs.Judging.{IsGood}
use Rattle.rv_model.specs.GoodLetters.{GoodLetters}
use Rattle.rv_model.proofs.TruthLemmas.{proper, tells}

-- the weak test passes on each front, the strong one on each extension
record Cuts (p : Meaning) : Type 0 where
  weak : (w more : List ℕ) → p Weak (w ++ more) ≡ true → p Weak w ≡ true
  strong : (w more : List ℕ) → p Strong w ≡ true → p Strong (w ++ more) ≡ true

-- where two tests pass whenever two others do, one of them passes whenever one of the others does
or_mono : (a b c d : Bool) → (a ≡ true → c ≡ true) → (b ≡ true → d ≡ true) → (a || b) ≡ true → (c || d) ≡ true
or_mono true b c d f g e = rw (f refl) refl
or_mono false b true d f g e = refl
or_mono false b false d f g e = g e

-- and both of them pass whenever both others do
and_mono : (a b c d : Bool) → (a ≡ true → c ≡ true) → (b ≡ true → d ≡ true) → (a && b) ≡ true → (c && d) ≡ true
and_mono true b c d f g e = rw (f refl) (g e)
and_mono false b c d f g e = cc

-- where a test does not pass, no test passes from which it follows
not_anti : (a b : Bool) → (b ≡ true → a ≡ true) → not a ≡ true → not b ≡ true
not_anti true true f e = cc
not_anti false true f e = absurd (false≢true (f refl))
not_anti a false f e = refl

-- so does a test of the first letter and the rest, where the test is kept with the rest
letter_cuts : (p : View → ℕ → List ℕ → Bool)
    → ((x : ℕ) (t more : List ℕ) → p Weak x (t ++ more) ≡ true → p Weak x t ≡ true)
    → ((x : ℕ) (t more : List ℕ) → p Strong x t ≡ true → p Strong x (t ++ more) ≡ true) → Cuts (on_letter p)
letter_cuts p h k = record { weak = weak; strong = strong }
  where
    weak : (w more : List ℕ) → on_letter p Weak (w ++ more) ≡ true → on_letter p Weak w ≡ true
    weak [] more e = refl
    weak (x ∷ t) more e = h x t more e

    strong : (w more : List ℕ) → on_letter p Strong w ≡ true → on_letter p Strong (w ++ more) ≡ true
    strong [] more e = cc
    strong (x ∷ t) more e = k x t more e

-- so does the constant true
true_cuts : Cuts true_m
true_cuts = letter_cuts _ (λ x t more e. e) (λ x t more e. e)

-- so does the constant false
false_cuts : Cuts (meaning False)
false_cuts = letter_cuts _ (λ x t more e. e) (λ x t more e. e)

-- so does an atom
atom_cuts : (a : ℕ) → Cuts (meaning (Atom a))
atom_cuts a = letter_cuts _ (λ x t more e. e) (λ x t more e. e)

-- so does a negation, where its operand does
not_cuts : (p : Meaning) → Cuts p → Cuts (not_m p)
not_cuts p h =
    letter_cuts _
    (λ x t more e. not_anti (p Strong (x ∷ t ++ more)) (p Strong (x ∷ t)) (h.strong (x ∷ t) more) e)
    (λ x t more e. not_anti (p Weak (x ∷ t)) (p Weak (x ∷ t ++ more)) (h.weak (x ∷ t) more) e)

-- so does a test that joins two, where it keeps what follows from each of them
join_cuts : (join : Bool → Bool → Bool) → ((a b c d : Bool) → (a ≡ true → c ≡ true) → (b ≡ true → d ≡ true) → join a b ≡ true → join c d ≡ true)
    → (p q : Meaning) → Cuts p → Cuts q → Cuts (on_letter (λ v x t. join (p v (x ∷ t)) (q v (x ∷ t))))
join_cuts join mono p q h k =
    letter_cuts _
    (λ x t more e. mono _ _ (p Weak (x ∷ t)) (q Weak (x ∷ t)) (h.weak (x ∷ t) more) (k.weak (x ∷ t) more) e)
    (λ x t more e. mono _ _ (p Strong (x ∷ t ++ more)) (q Strong (x ∷ t ++ more)) (h.strong (x ∷ t) more) (k.strong (x ∷ t) more) e)

-- so does a conjunction
and_cuts : (p q : Meaning) → Cuts p → Cuts q → Cuts (and_m p q)
and_cuts = join_cuts (λ a b. a && b) and_mono

-- so does a disjunction
or_cuts : (p q : Meaning) → Cuts p → Cuts q → Cuts (or_m p q)
or_cuts = join_cuts (λ a b. a || b) or_mono

-- so does a next, where its operand does
next_cuts : (p : Meaning) → Cuts p → Cuts (next_m p)
next_cuts p h = letter_cuts _ (λ x t more e. h.weak t more e) (λ x t more e. h.strong t more e)

-- an until passes weakly on each front, where its operands do
until_weak : (p q : Meaning) → Cuts p → Cuts q → (w more : List ℕ) → until_m p q Weak (w ++ more) ≡ true → until_m p q Weak w ≡ true
until_weak p q h k [] more e = refl
until_weak p q h k (x ∷ t) more e =
    or_mono _ _ (q Weak (x ∷ t)) (p Weak (x ∷ t) && until_m p q Weak t) (k.weak (x ∷ t) more)
    (and_mono _ _ (p Weak (x ∷ t)) (until_m p q Weak t) (h.weak (x ∷ t) more) (until_weak p q h k t more)) e

-- an until passes strongly on each extension, where its operands do
until_strong : (p q : Meaning) → Cuts p → Cuts q → (w more : List ℕ) → until_m p q Strong w ≡ true → until_m p q Strong (w ++ more) ≡ true
until_strong p q h k [] more e = cc
until_strong p q h k (x ∷ t) more e =
    or_mono _ _ (q Strong (x ∷ t ++ more)) (p Strong (x ∷ t ++ more) && until_m p q Strong (t ++ more)) (k.strong (x ∷ t) more)
    (and_mono _ _ (p Strong (x ∷ t ++ more)) (until_m p q Strong (t ++ more)) (h.strong (x ∷ t) more) (until_strong p q h k t more)) e

-- an until does both, where its operands do
until_cuts : (p q : Meaning) → Cuts p → Cuts q → Cuts (until_m p q)
until_cuts p q h k = record { weak = until_weak p q h k; strong = until_strong p q h k }

-- so does a release, where its operands do
release_cuts : (p q : Meaning) → Cuts p → Cuts q → Cuts (release_m p q)
release_cuts p q h k = not_cuts _ (until_cuts _ _ (not_cuts _ h) (not_cuts _ k))

-- each formula passes weakly on each front, and strongly on each extension
cuts : (f : Ltl) → Cuts (meaning f)
cuts True = true_cuts
cuts False = false_cuts
cuts (Atom a) = atom_cuts a
cuts (Not f) = not_cuts _ (cuts f)
cuts (Next f) = next_cuts _ (cuts f)
cuts (And f g) = and_cuts _ _ (cuts f) (cuts g)
cuts (Or f g) = or_cuts _ _ (cuts f) (cuts g)
cuts (Imply f g) = or_cuts _ _ (not_cuts _ (cuts f)) (cuts g)
cuts (Equivalent f g) = or_cuts _ _ (and_cuts _ _ (cuts f) (cuts g)) (and_cuts _ _ (not_cuts _ (cuts f)) (not_cuts _ (cuts g)))
cuts (Until f g) = until_cuts _ _ (cuts f) (cuts g)
cuts (Release f g) = release_cuts _ _ (cuts f) (cuts g)
cuts (WeakUntil f g) = release_cuts _ _ (cuts g) (or_cuts _ _ (cuts f) (cuts g))
cuts (Eventually f) = until_cuts _ _ true_cuts (cuts f)
cuts (Always f) = not_cuts _ (until_cuts _ _ true_cuts (not_cuts _ (cuts f)))

-- a path over letters begins with a path over their front
path_front : (a : Machine) (state : ℕ) (front back : List Letter) (path : List ℕ) → IsPath (HasEdge a) state path (front ++ back) → (begun : List ℕ) × IsPath (HasEdge a) state begun front
path_front a state [] back path p = ([], tt)
path_front a state (x ∷ front) back [] p = absurd p
path_front a state (x ∷ front) back (next ∷ path) p =
    let later = path_front a next front back path p.1 in
    (next ∷ later.0, (p.0, later.1))

-- the letters are good while there are none
good_empty : (spec : Spec) → IsGood spec []
good_empty (Da a) = ([], tt)
good_empty (Rule r) = (tells r.formula Weak []).0 (proper r.formula Weak)

-- good letters stay good where their end is cut off
good_cut : (spec : Spec) (front back : List Letter) → IsGood spec (front ++ back) → IsGood spec front
good_cut (Da a) front back (path, p) = path_front a 0 front back path p
good_cut (Rule r) front back good =
    let whole : meaning r.formula Weak (map atoms_in front ++ map atoms_in back) ≡ true =
    subst (λ w. meaning r.formula Weak w ≡ true) (map-append atoms_in front back) ((tells r.formula Weak (map atoms_in (front ++ back))).1 good) in
    (tells r.formula Weak (map atoms_in front)).0 ((cuts r.formula).weak (map atoms_in front) (map atoms_in back) whole)

-- a formula that holds strongly holds strongly whatever letters follow
strong_goes_on : (f : Ltl) (front back : List ℕ) → Satisfies Strong front f → Satisfies Strong (front ++ back) f
strong_goes_on f front back h = (tells f Strong (front ++ back)).0 ((cuts f).strong front back ((tells f Strong front).1 h))

-- so the law of good letters holds
pub good_letters : GoodLetters
good_letters = record { empty = good_empty; cut = good_cut; strong = strong_goes_on }
