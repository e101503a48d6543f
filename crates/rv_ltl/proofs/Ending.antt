-- What the checks of a rule know at their end.
use Rattle.std.proofs.Common.{◌≡◌, ◌≢◌, ℕ, ◌<◌, ◌≤◌, Bool, true, false, List, length, Option, Some, None, Ok, sym, ap, subst, ◌∙◌, arith}
use Rattle.std.specs.Prelude.{Vec, Result, Err, IfOk, IfSome}
use Rattle.std.specs.declared.alloc.Global.{Global}
use Rattle.rv_text.specs.declared.numbers.TheConstants.{TOO_MANY_ATOMS, TOO_BIG}
use Rattle.rv_text.specs.Readings.{refused_with}
use Rattle.rv_ltl.specs.declared.weight.Weight.{Weight}
use Rattle.rv_ltl.specs.declared.weight.Weight.TheVariants.{Is}
use Rattle.rv_ltl.specs.Grammar.{Expr}
use Rattle.rv_ltl.specs.File.{Def}
use Rattle.rv_ltl.specs.Replace.{once, is_none, value_of, any_endless, weight_of}
use Rattle.rv_ltl.specs.inner.Weights.{index_of, def_at, limited, weighed}
use Rattle.rv_ltl.specs.inner.Reached.{AreUses, AreReachFlags}
use Rattle.rv_ltl.specs.inner.Collected.{is_free, atoms_from, Collects, CollectsReached}
use Rattle.rv_ltl.specs.RuleFile.{atoms_of, within_limits, formula_of}
use Rattle.rv_ltl.specs.Atoms.{Has}
use Rattle.rv_ltl.specs.inner.Rules.{IsMentioned, GivesAtoms}
use Rattle.rv_ltl.proofs.Collecting.{atoms_only}
use Rattle.rv_ltl.proofs.Settling.{body_at}
use Rattle.rv_ltl.proofs.Mentioned.{the_atoms}
use Rattle.rv_ltl.proofs.Ruling.{once_distinct, ends_at, formula_is, many_atoms, small, heavy}

-- what the root stands for, with its atoms and its weight
pub record Ends (ds : List Def) (root : ℕ) (wanted : List ℕ) (weight : Weight) : Type 0 where
  pub formula : Expr
  pub value : value_of ds (length ds) root ≡ Some formula
  pub checks : formula_of ds root ≡ within_limits formula
  pub atoms : wanted ≡ atoms_of formula
  pub weighs : weight ≡ limited (weight_of formula)
  pub mentioned : (y : ℕ) → Has wanted y → IsMentioned ds y

-- the collected names of a rule, and what it stands for with them
pub record Collected (ds : List Def) (root : ℕ) (weight : Weight) (o : Option (Vec ℕ Global)) : Type 0 where
  pub wanted : List ℕ
  pub collects : Collects wanted o
  pub ends : Ends ds root wanted weight

-- where no definition is endless, the collected names are the atoms and what is known is the weight
pub the_end : (ds : List Def) (root place n : ℕ) (answer : Option Weight) (weight : Weight) (rows rows' : List (Vec Bool Global)) (o : Option (Vec ℕ Global)) → index_of ds root ≡ Some place → once ds ≡ true
    → any_endless ds ds ≡ is_none answer → IfSome answer (λ w. w ≡ weighed (value_of ds (length ds) (def_at ds place).name)) → answer ≡ Some weight → AreUses ds rows n → n ≡ length ds → rows' ≡ rows → CollectsReached ds rows' place n o → Collected ds root weight o
the_end ds root place n answer weight rows rows' o at each_once endless weighs some uses count same collected =
    let fs = collected.0 in
    let ends : any_endless ds ds ≡ false = endless ∙ ap (λ (a : Option Weight). is_none a) some in
    let W : Option Weight → Type 0 = λ a. IfSome a (λ w. w ≡ weighed (value_of ds (length ds) (def_at ds place).name)) in
    let b = body_at ds root place at in
    let f = ends_at ds ds ends place b.0 in
    let value = ap (λ (x : ℕ). value_of ds (length ds) x) (sym b.1) ∙ f.1 in
    let U : ℕ → Type 0 = λ m. AreUses ds rows m in
    let R : List (Vec Bool Global) → Type 0 = λ r. AreReachFlags r place fs in
    let found = the_atoms ds rows fs place (length ds) f.0 (once_distinct ds each_once) (subst U count uses) (subst R same collected.1) b.0 f.1 in
    record {
      wanted = atoms_from (is_free ds) ds fs n;
      collects = collected.2;
      ends = record {
        formula = f.0;
        value = value;
        checks = formula_is ds root place f.0 at each_once ends value;
        atoms = ap (λ (m : ℕ). atoms_from (is_free ds) ds fs m) count ∙ found;
        weighs = subst W some weighs ∙ ap weighed f.1;
        mentioned = λ y h. let r = atoms_only (is_free ds) ds fs n y h in (r.0, omega (arith, r.1, count), r.3);
      };
    }

-- the flags stand behind a reference
pub collects_reached : {E : Type 0} (ds : List Def) (rows : List (Vec Bool Global)) (root n : ℕ) (fs fs' : List Bool) (r : Result (Option (Vec ℕ Global)) E) → AreReachFlags rows root fs → fs' ≡ fs → IfOk r (λ o. Collects (atoms_from (is_free ds) ds fs' n) o)
    → IfOk r (λ o. CollectsReached ds rows root n o)
collects_reached ds rows root n fs fs' (Ok o) flags same made =
    let P : List Bool → Type 0 = λ gs. AreReachFlags rows root gs in
    (fs', subst P (sym same) flags, made)
collects_reached ds rows root n fs fs' (Err e) flags same made = tt

-- there are too many atoms
pub end_many : (ds : List Def) (root : ℕ) (weight : Weight) (o : Option (Vec ℕ Global)) → Collected ds root weight o → o ≡ None → formula_of ds root ≡ refused_with TOO_MANY_ATOMS
end_many ds root weight o all none =
    let wanted = all.wanted in
    let e = all.ends in
    let P : Option (Vec ℕ Global) → Type 0 = λ x. Collects wanted x in
    let lt : 32 < length wanted = subst P none all.collects in
    e.checks ∙ many_atoms e.formula (omega (arith, lt, ap (λ (xs : List ℕ). length xs) e.atoms))

-- a list that was made is the wanted one, and that has at most 32
few : (wanted : List ℕ) (o : Option (Vec ℕ Global)) (v : Vec ℕ Global) → Collects wanted o → o ≡ Some v → (v.items ≡ wanted) × (length wanted ≤ 32)
few wanted o v h some =
    let P : Option (Vec ℕ Global) → Type 0 = λ x. Collects wanted x in
    subst P some h

-- it is within the limits
pub end_small : (ds : List Def) (root : ℕ) (weight : Weight) (o : Option (Vec ℕ Global)) (v : Vec ℕ Global) (w : ℕ) → Collected ds root weight o → o ≡ Some v → Is w ≡ weight → GivesAtoms ds root (Ok v)
end_small ds root weight o v w all some is =
    let e = all.ends in
    let c = few all.wanted o v all.collects some in
    let le : length (atoms_of e.formula) ≤ 32 = omega (arith, c.1, ap (λ (xs : List ℕ). length xs) e.atoms) in
    (e.formula, e.checks ∙ small e.formula w le (sym e.weighs ∙ sym is), e.value, c.0 ∙ e.atoms, omega (arith, c.1, ap (λ (xs : List ℕ). length xs) c.0), λ y k. let P : List ℕ → Type 0 = λ xs. Has xs y in e.mentioned y (subst P c.0 k))

-- it is too heavy
pub end_heavy : (ds : List Def) (root : ℕ) (weight : Weight) (o : Option (Vec ℕ Global)) (v : Vec ℕ Global) → Collected ds root weight o → o ≡ Some v → ((w : ℕ) → weight ≢ Is w) → formula_of ds root ≡ refused_with TOO_BIG
end_heavy ds root weight o v all some other =
    let e = all.ends in
    let c = few all.wanted o v all.collects some in
    let le : length (atoms_of e.formula) ≤ 32 = omega (arith, c.1, ap (λ (xs : List ℕ). length xs) e.atoms) in
    e.checks ∙ heavy e.formula le (λ w k. other w (e.weighs ∙ k))
