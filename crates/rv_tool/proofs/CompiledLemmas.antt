-- What is read of a rule file is a rule, and a specification that is compiled has a table that means it.
use Rattle.std.proofs.Common.{◌≡◌, ℕ, ◌<◌, ◌≤◌, Bool, true, false, cond, not, ltb, List, [], ◌∷◌, length, refl, sym, ap, ◌∙◌, subst}
use Rattle.std.proofs.lemmas.Bool.{ltb-false}
use Rattle.std.specs.Prelude.{codes, map, nat_eq, IfOk, Option, Some, None, Result, Ok, Err, if◌then◌else◌}
use Rattle.rv_text.specs.declared.numbers.TheConstants.{LTL_SYNTAX, NO_RULE, DEFINED_TWICE, CYCLE, TOO_MANY_ATOMS, TOO_BIG}
use Rattle.rv_text.specs.declared.refusals.Refusal.{Refusal}
use Rattle.rv_text.specs.Readings.{refused_with, and_then}
use Rattle.rv_model.specs.declared.formula.Spec.TheVariants as specs
use Rattle.rv_model.specs.declared.kind.SpecKind.{SpecKind}
use Rattle.rv_model.specs.declared.kind.SpecKind.TheVariants as kinds
use Rattle.rv_model.specs.Formulas.{RuleValue, IsRule}
use Rattle.rv_model.specs.Judging.{Means}
use Rattle.rv_model.specs.Table.{Table}
use Rattle.rv_model.proofs.MeansLemmas as automata
use Rattle.rv_dot.specs.Dot.{dot_of}
use Rattle.rv_dot.proofs.DrawnSound.{dot_sound}
use Rattle.rv_ltl.specs.Atoms.{Has}
use Rattle.rv_ltl.specs.File.{Def, defs_at}
use Rattle.rv_ltl.specs.Grammar.{Expr}
use Rattle.rv_ltl.specs.Names.{names_of, place_in}
use Rattle.rv_ltl.specs.Parse.{◌>>=◌}
use Rattle.rv_ltl.specs.Pieces.{pieces_of}
use Rattle.rv_ltl.specs.Reach.{Mentions, NameReaches, Step, Then}
use Rattle.rv_ltl.specs.Replace.{plain_def, body_of, is_none, once, any_endless, value_of, weight_of}
use Rattle.rv_ltl.specs.RuleFile.{atoms_of, within_limits, formula_of, rule_of, rule_in, definitions_of, ltl_of}
use Rattle.rv_ltl.specs.Tokens.{tokens_of}
use Rattle.rv_ltl.specs.inner.Rules.{AllNamed}
use Rattle.rv_ltl.proofs.AtomLaws.{atoms_reached}
use Rattle.rv_ltl.proofs.FileLaws.{file_sound}
use Rattle.rv_ltl.proofs.NameSets.{names_ascend}
use Rattle.rv_ltl.proofs.Naming.{InMarks, tokens_in, file_named, plain_named}
use Rattle.rv_ltl.proofs.OperatorLaws.{bind_some}
use Rattle.rv_ltl.proofs.RuleKept.{is_rule}
use Rattle.rv_nnf.specs.NormalForm.{normal_of}
use Rattle.rv_nnf.specs.Parts.{PartValue}
use Rattle.rv_tableau.specs.Rows.{tableau_of}
use Rattle.rv_tableau.proofs.TableMeans as tableaux
use Rattle.rv_bind.specs.Compiling.{compiled_of, Compiles, formula_table}

-- ---- the names of a rule file

-- what the formula of a defined name mentions is below the number of names
body_named : (n : ℕ) (ds : List Def) (x : ℕ) (body : Expr) (y : ℕ) → AllNamed n ds → body_of ds x ≡ Some body → Mentions body y → y < n
body_named n [] x body y named is mentions = absurd cc
body_named n (d ∷ ds) x body y named is mentions = go (nat_eq d.name x) is (λ k. body_named n ds x body y named.1 k mentions)
  where
    go : (same : Bool) → (if same then Some d.body else body_of ds x) ≡ Some body → (body_of ds x ≡ Some body → y < n) → y < n
    go true k later = let one : d.body ≡ body = cc in named.0 y (subst (λ (e : Expr). Mentions e y) (sym one) mentions)
    go false k later = later k

-- so is what a name reaches
reached_named : (n : ℕ) (ds : List Def) {x y : ℕ} → AllNamed n ds → NameReaches ds x y → y < n
reached_named n ds named (Step {x = x} {y = y} u) = body_named n ds x u.0 y named u.1 u.2
reached_named n ds named (Then {x = x} {z = z} {y = y} u later) = reached_named n ds named later

-- the definitions of pieces mention the names of these
definitions_named : (pieces : List (List ℕ)) (ds : List Def) → definitions_of pieces ≡ Some ds → AllNamed (length (names_of pieces)) ds
definitions_named pieces ds is =
    let n = length (names_of pieces) in
    let tokens = bind_some (tokens_of (names_of pieces) pieces) (λ tokens. defs_at 256 256 tokens >>= λ read. Some (map plain_def read)) ds is in
    let read = bind_some (defs_at 256 256 tokens.0) (λ read. Some (map plain_def read)) ds tokens.2 in
    let same : map plain_def read.0 ≡ ds = cc in
    let marks = subst (InMarks n) (file_sound 256 256 tokens.0 read.0 read.1).1 (tokens_in (names_of pieces) pieces tokens.0 tokens.1) in
    subst (AllNamed n) same (plain_named n read.0 (file_named n read.0 marks))

-- ---- the rule of a file

-- what is taken passed the test
test_passed : {X : Type 0} {r : Result X Refusal} {x : X} (b : Bool) (number : ℕ) → cond b (refused_with number) r ≡ Ok x → r ≡ Ok x
test_passed true number e = absurd (cc)
test_passed false number e = e

-- a formula within the limits is kept as it is, and has few atoms
within_few : (f g : Expr) → within_limits f ≡ Ok g → (f ≡ g) × (length (atoms_of g) ≤ 32)
within_few f g e = by_atoms (ltb 32 (length (atoms_of f))) refl e
  where
    by_weight : (heavy : Bool) → length (atoms_of f) ≤ 32 → cond heavy (refused_with TOO_BIG) (Ok f) ≡ Ok g → (f ≡ g) × (length (atoms_of g) ≤ 32)
    by_weight true few k = absurd (cc)
    by_weight false few k = let same : f ≡ g = cc in (same, subst (λ (h : Expr). length (atoms_of h) ≤ 32) same few)

    by_atoms : (many : Bool) → ltb 32 (length (atoms_of f)) ≡ many → cond many (refused_with TOO_MANY_ATOMS) (cond (ltb 1024 (weight_of f)) (refused_with TOO_BIG) (Ok f)) ≡ Ok g → (f ≡ g) × (length (atoms_of g) ≤ 32)
    by_atoms true is k = absurd (cc)
    by_atoms false is k = by_weight (ltb 1024 (weight_of f)) (ltb-false 32 (length (atoms_of f)) is) k

-- the atoms of a formula are few, and below the number of names
record HasAtoms (n : ℕ) (f : Expr) : Type 0 where
  few : length (atoms_of f) ≤ 32
  below : (y : ℕ) → Has (atoms_of f) y → y < n

-- so are those of what a name stands for
formula_atoms : (n : ℕ) (ds : List Def) (root : ℕ) (f : Expr) → AllNamed n ds → formula_of ds root ≡ Ok f → HasAtoms n f
formula_atoms n ds root f named e = by_body (body_of ds root) refl e
  where
    by_value : (body : Expr) → body_of ds root ≡ Some body → (o : Option Expr) → value_of ds (length ds) root ≡ o → (elim o as (λ _. Result Expr Refusal) [ Some g ↦ within_limits g | None ↦ refused_with CYCLE ]) ≡ Ok f → HasAtoms n f
    by_value body is None v k = absurd (cc)
    by_value body is (Some g) v k =
        let within = within_few g f k in
        let value : value_of ds (length ds) root ≡ Some f = v ∙ ap (λ (h : Expr). Some h) within.0 in
        record { few = within.1; below = λ y has. reached_named n ds named ((atoms_reached ds root (length ds) body f is value y).0 has).0 }

    by_body : (o : Option Expr) → body_of ds root ≡ o
        → cond (is_none o) (refused_with NO_RULE) (cond (not (once ds)) (refused_with DEFINED_TWICE) (cond (any_endless ds ds) (refused_with CYCLE) (elim (value_of ds (length ds) root) as (λ _. Result Expr Refusal) [ Some g ↦ within_limits g | None ↦ refused_with CYCLE ]))) ≡ Ok f
        → HasAtoms n f
    by_body None is k = absurd (cc)
    by_body (Some body) is k = by_value body is (value_of ds (length ds) root) refl (test_passed (any_endless ds ds) CYCLE (test_passed (not (once ds)) DEFINED_TWICE k))

-- the rule of pieces keeps what rules keep
pieces_rule : (pieces : List (List ℕ)) (ds : List Def) (rule : RuleValue) → definitions_of pieces ≡ Some ds → rule_in (names_of pieces) ds ≡ Ok rule → IsRule rule
pieces_rule pieces ds rule read e = by_root (place_in (names_of pieces) (codes "RULE")) e
  where
    by_formula : (root : ℕ) (r : Result Expr Refusal) → formula_of ds root ≡ r → and_then r (λ f. Ok (rule_of (names_of pieces) f)) ≡ Ok rule → IsRule rule
    by_formula root (Err refusal) is k = absurd (cc)
    by_formula root (Ok f) is k =
        let same : rule_of (names_of pieces) f ≡ rule = cc in
        let atoms = formula_atoms (length (names_of pieces)) ds root f (definitions_named pieces ds read) is in
        subst IsRule same (is_rule (names_of pieces) f (names_ascend pieces) atoms.few atoms.below)

    by_root : (o : Option ℕ) → (elim o as (λ _. Result RuleValue Refusal) [ Some root ↦ and_then (formula_of ds root) (λ f. Ok (rule_of (names_of pieces) f)) | None ↦ refused_with NO_RULE ]) ≡ Ok rule → IsRule rule
    by_root None k = absurd (cc)
    by_root (Some root) k = by_formula root (formula_of ds root) refl k

-- so does the rule of a text
read_rule : (text : List ℕ) (rule : RuleValue) → ltl_of text ≡ Ok rule → IsRule rule
unfolding ltl_of
read_rule text rule e = by_pieces (pieces_of false text) (test_passed (ltb 1048576 (length text)) LTL_SYNTAX e)
  where
    by_definitions : (pieces : List (List ℕ)) (o : Option (List Def)) → definitions_of pieces ≡ o → (elim o as (λ _. Result RuleValue Refusal) [ None ↦ refused_with LTL_SYNTAX | Some ds ↦ rule_in (names_of pieces) ds ]) ≡ Ok rule → IsRule rule
    by_definitions pieces None is k = absurd (cc)
    by_definitions pieces (Some ds) is k = pieces_rule pieces ds rule is k

    by_pieces : (o : Option (List (List ℕ))) → (elim o as (λ _. Result RuleValue Refusal) [ None ↦ refused_with LTL_SYNTAX | Some pieces ↦ elim (definitions_of pieces) as (λ _. Result RuleValue Refusal) [ None ↦ refused_with LTL_SYNTAX | Some ds ↦ rule_in (names_of pieces) ds ] ]) ≡ Ok rule → IsRule rule
    by_pieces None k = absurd (cc)
    by_pieces (Some pieces) k = by_definitions pieces (definitions_of pieces) refl k

-- ---- tables

-- what is taken is so, where it is so of each value that it may be made of
ok_then : {X Y : Type 0} (Is : Y → Type 0) (next : X → Result Y Refusal) (r : Result X Refusal) → ((x : X) → r ≡ Ok x → IfOk (next x) Is) → IfOk (and_then r next) Is
ok_then Is next (Ok x) each = each x refl
ok_then Is next (Err refusal) each = tt

-- the table of a rule's parts means the rule
parts_mean : (rule : RuleValue) (table : Table) (r : Result (List PartValue) Refusal) → IsRule rule → normal_of rule.formula ≡ r → and_then r tableau_of ≡ Ok table → Means table (specs.Ltl rule)
parts_mean rule table (Err refusal) is normal k = absurd (cc)
parts_mean rule table (Ok parts) is normal k = tableaux.table_means rule is parts table normal k

-- a specification that is compiled has the table that means it
pub compiled_means : (kind : SpecKind) (text : List ℕ) → IfOk (compiled_of kind text) (λ c. Compiles c.spec c.table)
compiled_means kinds.Da text = ok_then _ _ (dot_of text) (λ a read. record { is = refl; means = automata.table_means a (dot_sound text a read).keeps })
compiled_means kinds.Ltl text = ok_then _ _ (ltl_of text) (λ rule read. ok_then _ _ (formula_table rule.formula) (λ table made. record { is = made; means = parts_mean rule table (normal_of rule.formula) (read_rule text rule read) refl made }))
