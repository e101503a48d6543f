-- A formula written as a list of numbers in postfix order, which gives it back. Only models of structs want it.
use Rattle.std.specs.Prelude.{◌≡◌, ℕ, zero, suc, List, [], ◌∷◌}
use Rattle.std.specs.Coded.{Coded, code_by, coded×, coded_ℕ, coded_list}
use Rattle.std.proofs.Common.{refl, ap, ◌∙◌}
use Rattle.rv_model.specs.Ltl.{Ltl, True, False, Atom, Not, Next, Always, Eventually, And, Or, Imply, Equivalent, Until, Release, WeakUntil}

-- a symbol: its number, and the atom's number
abbrev pub Symbol : Type 0
Symbol = ℕ × ℕ

-- the symbols of a formula, and then the others
abbrev pub spelled : Ltl → List Symbol → List Symbol
spelled True rest = (0, 0) ∷ rest
spelled False rest = (1, 0) ∷ rest
spelled (Atom a) rest = (2, a) ∷ rest
spelled (Not f) rest = spelled f ((3, 0) ∷ rest)
spelled (Next f) rest = spelled f ((4, 0) ∷ rest)
spelled (Always f) rest = spelled f ((5, 0) ∷ rest)
spelled (Eventually f) rest = spelled f ((6, 0) ∷ rest)
spelled (And f g) rest = spelled f (spelled g ((7, 0) ∷ rest))
spelled (Or f g) rest = spelled f (spelled g ((8, 0) ∷ rest))
spelled (Imply f g) rest = spelled f (spelled g ((9, 0) ∷ rest))
spelled (Equivalent f g) rest = spelled f (spelled g ((10, 0) ∷ rest))
spelled (Until f g) rest = spelled f (spelled g ((11, 0) ∷ rest))
spelled (Release f g) rest = spelled f (spelled g ((12, 0) ∷ rest))
spelled (WeakUntil f g) rest = spelled f (spelled g ((13, 0) ∷ rest))

-- the formula of a symbol and its operands
abbrev formula_of_symbol : ℕ → ℕ → Ltl → Ltl → Ltl
formula_of_symbol zero a f g = True
formula_of_symbol (suc zero) a f g = False
formula_of_symbol (suc (suc zero)) a f g = Atom a
formula_of_symbol (suc (suc (suc zero))) a f g = Not g
formula_of_symbol (suc (suc (suc (suc zero)))) a f g = Next g
formula_of_symbol (suc (suc (suc (suc (suc zero))))) a f g = Always g
formula_of_symbol (suc (suc (suc (suc (suc (suc zero)))))) a f g = Eventually g
formula_of_symbol (suc (suc (suc (suc (suc (suc (suc zero))))))) a f g = And f g
formula_of_symbol (suc (suc (suc (suc (suc (suc (suc (suc zero)))))))) a f g = Or f g
formula_of_symbol (suc (suc (suc (suc (suc (suc (suc (suc (suc zero))))))))) a f g = Imply f g
formula_of_symbol (suc (suc (suc (suc (suc (suc (suc (suc (suc (suc zero)))))))))) a f g = Equivalent f g
formula_of_symbol (suc (suc (suc (suc (suc (suc (suc (suc (suc (suc (suc zero))))))))))) a f g = Until f g
formula_of_symbol (suc (suc (suc (suc (suc (suc (suc (suc (suc (suc (suc (suc zero)))))))))))) a f g = Release f g
formula_of_symbol (suc (suc (suc (suc (suc (suc (suc (suc (suc (suc (suc (suc (suc n))))))))))))) a f g = WeakUntil f g

-- the formula on top of the stack
abbrev top : List Ltl → Ltl
top [] = True
top (f ∷ fs) = f

-- the stack below it
abbrev rest_of_stack : List Ltl → List Ltl
rest_of_stack [] = []
rest_of_stack (f ∷ fs) = fs

-- how many operands a symbol takes off the stack: none, one or two
abbrev popped : ℕ → List Ltl → List Ltl
popped zero fs = fs
popped (suc zero) fs = fs
popped (suc (suc zero)) fs = fs
popped (suc (suc (suc zero))) fs = rest_of_stack fs
popped (suc (suc (suc (suc zero)))) fs = rest_of_stack fs
popped (suc (suc (suc (suc (suc zero))))) fs = rest_of_stack fs
popped (suc (suc (suc (suc (suc (suc zero)))))) fs = rest_of_stack fs
popped (suc (suc (suc (suc (suc (suc (suc n))))))) fs = rest_of_stack (rest_of_stack fs)

-- the stack of formulas after the symbols
abbrev pub read_symbols : List Symbol → List Ltl → List Ltl
read_symbols [] fs = fs
read_symbols (s ∷ symbols) fs = read_symbols symbols (formula_of_symbol s.0 s.1 (top (rest_of_stack fs)) (top fs) ∷ popped s.0 fs)

-- what is spelled is read again
pub read_symbols-spelled : (f : Ltl) (rest : List Symbol) (fs : List Ltl) → read_symbols (spelled f rest) fs ≡ read_symbols rest (f ∷ fs)
read_symbols-spelled True rest fs = refl
read_symbols-spelled False rest fs = refl
read_symbols-spelled (Atom a) rest fs = refl
read_symbols-spelled (Not f) rest fs = read_symbols-spelled f ((3, 0) ∷ rest) fs
read_symbols-spelled (Next f) rest fs = read_symbols-spelled f ((4, 0) ∷ rest) fs
read_symbols-spelled (Always f) rest fs = read_symbols-spelled f ((5, 0) ∷ rest) fs
read_symbols-spelled (Eventually f) rest fs = read_symbols-spelled f ((6, 0) ∷ rest) fs
read_symbols-spelled (And f g) rest fs = read_symbols-spelled f (spelled g ((7, 0) ∷ rest)) fs ∙ read_symbols-spelled g ((7, 0) ∷ rest) (f ∷ fs)
read_symbols-spelled (Or f g) rest fs = read_symbols-spelled f (spelled g ((8, 0) ∷ rest)) fs ∙ read_symbols-spelled g ((8, 0) ∷ rest) (f ∷ fs)
read_symbols-spelled (Imply f g) rest fs = read_symbols-spelled f (spelled g ((9, 0) ∷ rest)) fs ∙ read_symbols-spelled g ((9, 0) ∷ rest) (f ∷ fs)
read_symbols-spelled (Equivalent f g) rest fs = read_symbols-spelled f (spelled g ((10, 0) ∷ rest)) fs ∙ read_symbols-spelled g ((10, 0) ∷ rest) (f ∷ fs)
read_symbols-spelled (Until f g) rest fs = read_symbols-spelled f (spelled g ((11, 0) ∷ rest)) fs ∙ read_symbols-spelled g ((11, 0) ∷ rest) (f ∷ fs)
read_symbols-spelled (Release f g) rest fs = read_symbols-spelled f (spelled g ((12, 0) ∷ rest)) fs ∙ read_symbols-spelled g ((12, 0) ∷ rest) (f ∷ fs)
read_symbols-spelled (WeakUntil f g) rest fs = read_symbols-spelled f (spelled g ((13, 0) ∷ rest)) fs ∙ read_symbols-spelled g ((13, 0) ∷ rest) (f ∷ fs)

-- the symbols of a formula give it back
pub read_again : (f : Ltl) → top (read_symbols (spelled f []) []) ≡ f
read_again f = ap top (read_symbols-spelled f [] [])

-- a formula is stored as its symbols
abbrev pub coded_ltl : Coded Ltl
coded_ltl = code_by (List Symbol) (coded_list (coded× coded_ℕ coded_ℕ)) (λ f. spelled f []) (λ symbols. top (read_symbols symbols [])) read_again
