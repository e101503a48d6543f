-- How a list of parts is stored, where contracts see a normal form as one.
use Rattle.std.specs.Prelude.{◌≡◌, ℕ, zero, suc, List, refl}
use Rattle.std.specs.Coded.{Coded, code_by, coded×, coded_ℕ, coded_list}
use Rattle.rv_model.specs.Ltl.{Ltl, True}
use Rattle.rv_model.specs.LtlCode.{coded_ltl}
use Rattle.rv_nnf.specs.Parts.{PartValue, Label, Next, And, Or, Until, Release}

-- a part as its kind, its operands and its label
abbrev pub parted : PartValue → (ℕ × ℕ) × (ℕ × Ltl)
parted (Label f) = ((0, 0), (0, f))
parted (Next i) = ((1, i), (0, True))
parted (And i j) = ((2, i), (j, True))
parted (Or i j) = ((3, i), (j, True))
parted (Until i j) = ((4, i), (j, True))
parted (Release i j) = ((5, i), (j, True))

-- the part of a kind
abbrev pub joined : ℕ → ℕ → ℕ → Ltl → PartValue
joined zero i j f = Label f
joined (suc zero) i j f = Next i
joined (suc (suc zero)) i j f = And i j
joined (suc (suc (suc zero))) i j f = Or i j
joined (suc (suc (suc (suc zero)))) i j f = Until i j
joined (suc (suc (suc (suc (suc n))))) i j f = Release i j

-- the part again
pub joined_parted : (p : PartValue) → (let q = parted p in joined q.0.0 q.0.1 q.1.0 q.1.1) ≡ p
joined_parted (Label f) = refl
joined_parted (Next i) = refl
joined_parted (And i j) = refl
joined_parted (Or i j) = refl
joined_parted (Until i j) = refl
joined_parted (Release i j) = refl

-- a part is stored as these
abbrev pub coded_part : Coded PartValue
coded_part = code_by ((ℕ × ℕ) × (ℕ × Ltl)) (coded× (coded× coded_ℕ coded_ℕ) (coded× coded_ℕ coded_ltl)) parted (λ p. joined p.0.0 p.0.1 p.1.0 p.1.1) joined_parted

-- a normal form is stored as the list of its parts
abbrev pub coded_parts : Coded (List PartValue)
coded_parts = coded_list coded_part
