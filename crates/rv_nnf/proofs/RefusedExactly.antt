-- There is a refusal exactly where there are more than 64 parts.
use Rattle.std.proofs.Common.{◌≡◌, IsTrue, ℕ, ◌-◌, ◌<◌, ◌≤◌, Bool, true, false, cond, List, [], ◌∷◌, ◌++◌, length, Result, Ok, Err, ◌↔◌, nat_lt, refl, sym, ap, ◌∙◌, subst, arith, length-append}
use Rattle.std.proofs.lemmas.List.{length-map}
use Rattle.std.proofs.lemmas.Bool.{ltb-true, ltb-false, lt-ltb}
use Rattle.rv_text.specs.declared.numbers.TheConstants.{TOO_MANY_PARTS}
use Rattle.rv_text.specs.declared.refusals.Refusal.{Refusal}
use Rattle.rv_text.specs.Readings.{refused_with, and_then, Refuses}
use Rattle.rv_text.specs.declared.refusals.Refused.{Refused}
use Rattle.rv_text.specs.declared.refusals.Refused.TheVariants.{Because, Memory}
use Rattle.rv_model.specs.Formulas.{HasAtomsBelow}
use Rattle.rv_model.specs.Ltl.{Ltl}
use Rattle.rv_model.specs.Meaning.{Meaning, meaning}
use Rattle.rv_model.specs.Truth.{View, Satisfies}
use Rattle.rv_model.proofs.TruthLemmas.{tells}
use Rattle.rv_nnf.specs.Tree.{Tree, Label, Next, And, Or, Until, Release, tree_of}
use Rattle.rv_nnf.specs.Parts.{PartValue, part_meaning, IsNormal}
use Rattle.rv_nnf.specs.Lists.{among, place}
use Rattle.rv_nnf.specs.NormalForm.{same_tree, parts_of, part_value_of, numbered_parts, normal_of}
use Rattle.rv_nnf.specs.inner.Entering.{same_part, Entered, enter, try_enter, numbers}
use Rattle.rv_nnf.proofs.OneByOne.{numbering, numbering_is}
use Rattle.rv_nnf.proofs.TreeLabels.{tree_plain}
use Rattle.rv_nnf.proofs.LastPart.{normal_is, last_says}

-- ---- the limit moves to the end

-- entering a part shortens no list
enter_grows : (ps : List PartValue) (p : PartValue) → length ps ≤ length (enter ps p).0
enter_grows ps p = go (among same_part ps p)
  where
    go : (b : Bool) → length ps ≤ length (cond b ps (ps ++ p ∷ []))
    go true = omega arith
    go false = let l = length-append ps (p ∷ []) in omega arith

-- nor does entering a tree
grows : (t : Tree) (ps : List PartValue) → length ps ≤ length (numbering ps t).0
grows (Label f) ps = enter_grows ps (PartValue.Label f)
grows (Next a) ps = let r = numbering ps a in omega (arith, grows a ps, enter_grows r.0 (PartValue.Next r.1))
grows (And a b) ps = let r = numbering ps a in let q = numbering r.0 b in omega (arith, grows a ps, grows b r.0, enter_grows q.0 (PartValue.And r.1 q.1))
grows (Or a b) ps = let r = numbering ps a in let q = numbering r.0 b in omega (arith, grows a ps, grows b r.0, enter_grows q.0 (PartValue.Or r.1 q.1))
grows (Until a b) ps = let r = numbering ps a in let q = numbering r.0 b in omega (arith, grows a ps, grows b r.0, enter_grows q.0 (PartValue.Until r.1 q.1))
grows (Release a b) ps = let r = numbering ps a in let q = numbering r.0 b in omega (arith, grows a ps, grows b r.0, enter_grows q.0 (PartValue.Release r.1 q.1))

-- refused where there are more than 64
abbrev pub limited : Entered → Result Entered Refusal
limited r = cond (nat_lt 64 (length r.0)) (refused_with TOO_MANY_PARTS) (Ok r)

-- a limit before a step that only grows is the limit after it
then_limited : (r : Entered) (k : Entered → Result Entered Refusal) (out : Entered) → length r.0 ≤ length out.0 → k r ≡ limited out → and_then (limited r) k ≡ limited out
then_limited r k out h e = go (nat_lt 64 (length r.0)) refl
  where
    go : (b : Bool) → nat_lt 64 (length r.0) ≡ b → and_then (cond b (refused_with TOO_MANY_PARTS) (Ok r)) k ≡ limited out
    go true l = let m = ltb-true 64 (length r.0) l in sym (ap (λ b. cond b (let r : Result Entered Refusal = refused_with TOO_MANY_PARTS in r) (Ok out)) (lt-ltb 64 (length out.0) (omega arith)))
    go false l = e

-- the same for two operands
two_limited : (P : ℕ → ℕ → PartValue) (a b : Tree) (ps : List PartValue) → numbers ps a ≡ limited (numbering ps a) → ((qs : List PartValue) → numbers qs b ≡ limited (numbering qs b)) → and_then (numbers ps a) (λ r. and_then (numbers r.0 b) (λ q. try_enter q.0 (P r.1 q.1))) ≡ limited (let r = numbering ps a in let q = numbering r.0 b in enter q.0 (P r.1 q.1))
two_limited P a b ps ea eb =
    let r = numbering ps a in
    let q = numbering r.0 b in
    let out = enter q.0 (P r.1 q.1) in
    let last = enter_grows q.0 (P r.1 q.1) in
    let mid = grows b r.0 in
    ap (λ (o : Result Entered Refusal). and_then o (λ r. and_then (numbers r.0 b) (λ q. try_enter q.0 (P r.1 q.1)))) ea
    ∙ then_limited r (λ r. and_then (numbers r.0 b) (λ q. try_enter q.0 (P r.1 q.1))) out (omega (arith, last, mid))
    (ap (λ (o : Result Entered Refusal). and_then o (λ q. try_enter q.0 (P r.1 q.1))) (eb r.0) ∙ then_limited q (λ q. try_enter q.0 (P r.1 q.1)) out last refl)

-- entering with the limit at each part is entering without, and one limit at the end
numbers_is : (t : Tree) (ps : List PartValue) → numbers ps t ≡ limited (numbering ps t)
numbers_is (Label f) ps = refl
numbers_is (Next a) ps =
    let r = numbering ps a in
    ap (λ (o : Result Entered Refusal). and_then o (λ r. try_enter r.0 (PartValue.Next r.1))) (numbers_is a ps)
    ∙ then_limited r (λ r. try_enter r.0 (PartValue.Next r.1)) (enter r.0 (PartValue.Next r.1)) (enter_grows r.0 (PartValue.Next r.1)) refl
numbers_is (And a b) ps = two_limited PartValue.And a b ps (numbers_is a ps) (λ qs. numbers_is b qs)
numbers_is (Or a b) ps = two_limited PartValue.Or a b ps (numbers_is a ps) (λ qs. numbers_is b qs)
numbers_is (Until a b) ps = two_limited PartValue.Until a b ps (numbers_is a ps) (λ qs. numbers_is b qs)
numbers_is (Release a b) ps = two_limited PartValue.Release a b ps (numbers_is a ps) (λ qs. numbers_is b qs)

-- ---- from the empty list

-- the distinct subtrees of the formula's normal form
abbrev pub all_parts : Ltl → List Tree
all_parts f = parts_of (tree_of f true)

-- the refusal, or the value
abbrev pub unless : {A : Type 0} → Bool → A → Result A Refusal
unless b a = cond b (refused_with TOO_MANY_PARTS) (Ok a)

-- what the code makes is the numbered list and the number of the whole, or the refusal
whole_is : (f : Ltl) → HasAtomsBelow 32 f → numbers [] (tree_of f true) ≡ unless (nat_lt 64 (length (all_parts f))) (numbered_parts (all_parts f), place same_tree (all_parts f) (tree_of f true))
whole_is f a =
    numbers_is (tree_of f true) [] ∙ ap limited (numbering_is (tree_of f true) (tree_plain f true a))
    ∙ ap (λ n. let r : Entered = (numbered_parts (all_parts f), place same_tree (all_parts f) (tree_of f true)) in unless (nat_lt 64 n) r) (length-map (all_parts f) (part_value_of (all_parts f)))

-- the parts alone
abbrev first_of : Result Entered Refusal → Result (List PartValue) Refusal
first_of (Ok r) = Ok r.0
first_of (Err e) = Err e

-- the parts that the code makes, or its refusal, are the normal form
normal_is_first : (f : Ltl) → HasAtomsBelow 32 f → first_of (numbers [] (tree_of f true)) ≡ normal_of f
normal_is_first f a = ap first_of (whole_is f a) ∙ go (nat_lt 64 (length (all_parts f)))
  where
    go : (b : Bool) → first_of (unless b (let r : Entered = (numbered_parts (all_parts f), place same_tree (all_parts f) (tree_of f true)) in r)) ≡ unless b (numbered_parts (all_parts f))
    go true = refl
    go false = refl

-- ---- what is known of a normal form

-- it is one, and its last part says what the formula says
pub record IsNormalOf (f : Ltl) (ps : List PartValue) : Type 0 where
  pub normal : IsNormal ps
  pub says : part_meaning ps (length ps - 1) ≡ meaning f

-- the parts, or none
abbrev parts_in : Result (List PartValue) Refusal → List PartValue
parts_in (Ok ps) = ps
parts_in (Err e) = []

-- what the definition gives is a normal form of the formula
pub normal_of_is : (f : Ltl) (ps : List PartValue) → HasAtomsBelow 32 f → normal_of f ≡ Ok ps → IsNormalOf f ps
normal_of_is f ps a h = go (nat_lt 64 (length (all_parts f))) refl h
  where
    go : (b : Bool) → nat_lt 64 (length (all_parts f)) ≡ b → unless b (numbered_parts (all_parts f)) ≡ Ok ps → IsNormalOf f ps
    go true l e = absurd (cc)
    go false l e = subst (IsNormalOf f) (ap parts_in e) (record { normal = normal_is f a (ltb-false 64 (length (all_parts f)) l); says = last_says f a })

-- its last part holds exactly where the formula does
pub holds_is : (f : Ltl) (ps : List PartValue) → HasAtomsBelow 32 f → normal_of f ≡ Ok ps → (view : View) (letters : List ℕ) → IsTrue (part_meaning ps (length ps - 1) view letters) ↔ Satisfies view letters f
holds_is f ps a h view letters =
    let e = ap (λ (m : Meaning). m view letters) (normal_of_is f ps a h).says in
    let told = tells f view letters in
    (λ t. told.0 (sym e ∙ t), λ s. e ∙ told.1 s)

-- the refusal comes exactly past 64 parts
pub refused_is : (f : Ltl) → (normal_of f ≡ refused_with TOO_MANY_PARTS) ↔ (64 < length (all_parts f))
refused_is f = (go (nat_lt 64 (length (all_parts f))) refl, λ h. ap (λ b. unless b (numbered_parts (all_parts f))) (lt-ltb 64 (length (all_parts f)) h))
  where
    go : (b : Bool) → nat_lt 64 (length (all_parts f)) ≡ b → unless b (numbered_parts (all_parts f)) ≡ refused_with TOO_MANY_PARTS → 64 < length (all_parts f)
    go true l e = ltb-true 64 (length (all_parts f)) l
    go false l e = absurd (cc)

-- ---- from what the code gives

-- parts that were made from the empty list
pub given : (f : Ltl) (start ps : List PartValue) (k : ℕ) → HasAtomsBelow 32 f → start ≡ [] → numbers start (tree_of f true) ≡ Ok (ps, k) → normal_of f ≡ Ok ps
given f start ps k a s h = sym (normal_is_first f a) ∙ ap first_of (ap (λ qs. numbers qs (tree_of f true)) (sym s) ∙ h)

-- a refusal on the way, or want of memory
pub refused : (e : Refused) (f : Ltl) (start : List PartValue) → HasAtomsBelow 32 f → start ≡ [] → Refuses e (numbers start (tree_of f true)) → Refuses e (normal_of f)
refused (Because refusal) f start a s h = sym (normal_is_first f a) ∙ ap first_of (ap (λ qs. numbers qs (tree_of f true)) (sym s) ∙ h)
refused Memory f start a s h = tt
