-- What a formula says of letters, in the weak and in the strong view (Eisner and others, 2003).
-- Only the weak view of a truncated path is asked for at the end; the strong one is what `not` asks of its operand.
use Rattle.std.specs.Prelude.{ℕ, ◌<◌, ◌≤◌, List, [], ◌∷◌, length, drop, ◌⊎◌, IsTrue}
use Rattle.rv_model.specs.Numbers.{has_bit}
use Rattle.rv_model.specs.Ltl.{Ltl, True, False, Atom, Not, Next, Always, Eventually, And, Or, Imply, Equivalent, Until, Release, WeakUntil}

-- how letters that may go on are judged
pub data View : Type 0 where
  Weak Strong : View

-- the other view
abbrev pub other : View → View
other Weak = Strong
other Strong = Weak

-- what is said of letters, in each view
abbrev pub Property : Type 1
Property = View → List ℕ → Type 0

-- Of no letters all is so weakly, and nothing strongly. Of others it is what P says.
abbrev pub OnLetter : (View → ℕ → List ℕ → Type 0) → Property
OnLetter P Weak [] = Unit {0}
OnLetter P Strong [] = ⊥
OnLetter P v (x ∷ t) = P v x t

-- what always holds
abbrev pub TrueSays : Property
TrueSays = OnLetter (λ v x t. Unit {0})

-- what does not hold in the other view
abbrev pub NotSays : Property → Property
NotSays P = OnLetter (λ v x t. ¬ P (other v) (x ∷ t))

-- both hold
abbrev pub AndSays : Property → Property → Property
AndSays P Q = OnLetter (λ v x t. P v (x ∷ t) × Q v (x ∷ t))

-- one holds at least
abbrev pub OrSays : Property → Property → Property
OrSays P Q = OnLetter (λ v x t. P v (x ∷ t) ⊎ Q v (x ∷ t))

-- some suffix, the empty one counts, has Q, and all earlier suffixes have P
abbrev pub UntilSays : Property → Property → Property
UntilSays P Q = OnLetter (λ v x t. (k : ℕ) × (k ≤ length (x ∷ t)) × Q v (drop k (x ∷ t)) × ((j : ℕ) → j < k → P v (drop j (x ∷ t))))

-- it is not so that the denial of the one holds until that of the other
abbrev pub ReleaseSays : Property → Property → Property
ReleaseSays P Q = NotSays (UntilSays (NotSays P) (NotSays Q))

-- what a formula says of letters in a view
abbrev pub property_of : Ltl → Property
property_of True = TrueSays
property_of False = OnLetter (λ v x t. ⊥)
property_of (Atom a) = OnLetter (λ v x t. IsTrue (has_bit x a))
property_of (Not f) = NotSays (property_of f)
property_of (Next f) = OnLetter (λ v x t. property_of f v t)
property_of (And f g) = AndSays (property_of f) (property_of g)
property_of (Or f g) = OrSays (property_of f) (property_of g)
property_of (Imply f g) = OrSays (NotSays (property_of f)) (property_of g)
property_of (Equivalent f g) = OrSays (AndSays (property_of f) (property_of g)) (AndSays (NotSays (property_of f)) (NotSays (property_of g)))
property_of (Until f g) = UntilSays (property_of f) (property_of g)
property_of (Release f g) = ReleaseSays (property_of f) (property_of g)
property_of (WeakUntil f g) = ReleaseSays (property_of g) (OrSays (property_of f) (property_of g))
property_of (Eventually f) = UntilSays TrueSays (property_of f)
property_of (Always f) = NotSays (UntilSays TrueSays (NotSays (property_of f)))

-- the formula holds on the letters in the view
abbrev pub Satisfies : View → List ℕ → Ltl → Type 0
Satisfies v w f = property_of f v w
