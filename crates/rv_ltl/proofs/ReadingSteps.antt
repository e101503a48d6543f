-- From a text to its rule, step by step.
use Rattle.std.proofs.Common.{◌≡◌, ℕ, ◌<◌, ◌≤◌, Bool, true, false, cond, ltb, List, length, Option, Some, None, Result, Ok, Err, refl, sym, ap, subst, ◌∙◌, arith}
use Rattle.std.specs.Prelude.{map, codes, Vec}
use Rattle.std.specs.declared.alloc.Global.{Global}
use Rattle.std.proofs.lemmas.Bool.{ltb-true, ltb-false}
use Rattle.rv_text.specs.declared.refusals.Refusal.{Refusal}
use Rattle.rv_text.specs.declared.numbers.TheConstants.{LTL_SYNTAX}
use Rattle.rv_text.specs.Readings.{Refuses, refused_with, and_then}
use Rattle.rv_model.specs.Formulas.{RuleValue}
use Rattle.rv_ltl.specs.declared.token.Token.{Token}
use Rattle.rv_ltl.specs.declared.definitions.Definition.{Definition}
use Rattle.rv_text.specs.declared.unread.Unread.{Unread}
use Rattle.rv_text.specs.declared.unread.Unread.TheVariants.{Memory, Syntax}
use Rattle.rv_text.specs.inner.Unreads.{Fails}
use Rattle.rv_ltl.specs.Grammar.{Expr}
use Rattle.rv_ltl.specs.Parse.{◌>>=◌}
use Rattle.rv_ltl.specs.File.{Def, defs_at}
use Rattle.rv_ltl.specs.inner.Postfix.{ReadsCode}
use Rattle.rv_ltl.specs.Pieces.{pieces_of}
use Rattle.rv_ltl.specs.Names.{names_of, place_in}
use Rattle.rv_ltl.specs.Tokens.{tokens_of}
use Rattle.rv_ltl.specs.Replace.{plain_def}
use Rattle.rv_ltl.specs.RuleFile.{formula_of, rule_of, rule_in, definitions_of, ltl_of}
use Rattle.rv_ltl.specs.inner.Rules.{AllNamed, ReadsDefinitions, of_unread}
use Rattle.rv_ltl.proofs.FileLaws.{file_sound}
use Rattle.rv_ltl.proofs.Running.{defs-codes, all_coded}
use Rattle.rv_ltl.proofs.Naming.{InMarks, tokens_in, file_named, plain_named}

-- ---- definitions

-- the definitions of read tokens
tokens_read : (pieces names : List (List ℕ)) (tokens : List Token) → names ≡ names_of pieces → tokens_of names pieces ≡ Some tokens → definitions_of pieces ≡ (defs_at 256 256 tokens >>= λ ds. Some (map plain_def ds))
tokens_read pieces names tokens n t =
    let t' : tokens_of (names_of pieces) pieces ≡ Some tokens = ap (λ (ns : List (List ℕ)). tokens_of ns pieces) (sym n) ∙ t in
    ap (λ (o : Option (List Token)). o >>= λ ts. defs_at 256 256 ts >>= λ ds. Some (map plain_def ds)) t'

-- the definitions that tokens spell, or none
pub reads_definitions : (pieces names : List (List ℕ)) (tokens : List Token) (n : ℕ) (result : Result (Vec Definition Global) Unread) → names ≡ names_of pieces → tokens_of names pieces ≡ Some tokens → n ≡ length names → ReadsCode (defs_at 256 256 tokens) result → ReadsDefinitions pieces n result
reads_definitions pieces names tokens n (Ok v) named t count h =
    let same = defs-codes h.0 v.items h.2 in
    let file = file_sound 256 256 tokens h.0 h.1 in
    let P : List Token → Type 0 = λ ts. InMarks (length names) ts in
    let A : List Def → Type 0 = λ ds. AllNamed n ds in
    let N : ℕ → Type 0 = λ m. AllNamed m (map plain_def h.0) in
    let all : AllNamed n (map plain_def h.0) = subst N (sym count) (plain_named (length names) h.0 (file_named (length names) h.0 (subst P file.1 (tokens_in names pieces tokens t)))) in
    (tokens_read pieces names tokens named t ∙ ap (λ (o : Option (List Def)). o >>= λ ds. Some (map plain_def ds)) h.1 ∙ ap (λ (ds : List Def). Some ds) (sym same), all_coded h.0 v.items h.2, subst A (sym same) all)
reads_definitions pieces names tokens n (Err Memory) named t count h = tt
reads_definitions pieces names tokens n (Err Syntax) named t count h = tokens_read pieces names tokens named t ∙ ap (λ (o : Option (List Def)). o >>= λ ds. Some (map plain_def ds)) h

-- pieces that are no tokens spell no definitions
pub no_tokens : (pieces names : List (List ℕ)) (unread : Unread) → names ≡ names_of pieces → Fails unread (tokens_of names pieces) → Fails unread (definitions_of pieces)
no_tokens pieces names Memory n h = tt
no_tokens pieces names Syntax n h =
    let t' : tokens_of (names_of pieces) pieces ≡ None = ap (λ (ns : List (List ℕ)). tokens_of ns pieces) (sym n) ∙ h in
    ap (λ (o : Option (List Token)). o >>= λ ts. defs_at 256 256 ts >>= λ ds. Some (map plain_def ds)) t'

-- ---- the rule

-- the rule is that of the formula that RULE stands for
pub rule_found : (names : List (List ℕ)) (ds : List Def) (root : ℕ) (f : Expr) → place_in names (codes "RULE") ≡ Some root → formula_of ds root ≡ Ok f → rule_in names ds ≡ Ok (rule_of names f)
rule_found names ds root f p h = rw (p, rule_in) (ap (λ (r : Result Expr Refusal). and_then r (λ g. Ok (rule_of names g))) h)

-- ---- the text

-- a text of more than 1,048,576 bytes is refused
pub too_long : (bytes : List ℕ) → 1048576 < length bytes → ltl_of bytes ≡ refused_with LTL_SYNTAX
unfolding ltl_of
too_long bytes lt = by_test (ltb 1048576 (length bytes)) refl
  where
    by_test : (b : Bool) → ltb 1048576 (length bytes) ≡ b → cond b (refused_with LTL_SYNTAX) (elim (pieces_of false bytes) as (λ _. Result RuleValue Refusal) [
      | None ↦ refused_with LTL_SYNTAX
      | Some pieces ↦ elim (definitions_of pieces) as (λ _. Result RuleValue Refusal) [ None ↦ refused_with LTL_SYNTAX | Some ds ↦ rule_in (names_of pieces) ds ]
    ]) ≡ refused_with LTL_SYNTAX
    by_test true t = refl
    by_test false t = absurd (omega (arith, lt, ltb-false 1048576 (length bytes) t))

-- what the pieces give
abbrev rest_of : Option (List (List ℕ)) → Result RuleValue Refusal
rest_of o = elim o [
  | None ↦ refused_with LTL_SYNTAX
  | Some pieces ↦ elim (definitions_of pieces) [ None ↦ refused_with LTL_SYNTAX | Some ds ↦ rule_in (names_of pieces) ds ]
]

-- a text of at most 1,048,576 bytes gives what its pieces give
short : (bytes : List ℕ) → length bytes ≤ 1048576 → ltl_of bytes ≡ rest_of (pieces_of false bytes)
unfolding ltl_of
short bytes le = by_test (ltb 1048576 (length bytes)) refl
  where
    by_test : (b : Bool) → ltb 1048576 (length bytes) ≡ b → cond b (refused_with LTL_SYNTAX) (rest_of (pieces_of false bytes)) ≡ rest_of (pieces_of false bytes)
    by_test true t = absurd (omega (arith, le, ltb-true 1048576 (length bytes) t))
    by_test false t = refl

-- a text of which no pieces are read is refused
pub no_pieces : (bytes : List ℕ) (unread : Unread) → length bytes ≤ 1048576 → Fails unread (pieces_of false bytes) → Refuses (of_unread unread) (ltl_of bytes)
no_pieces bytes Memory le h = tt
no_pieces bytes Syntax le h = short bytes le ∙ ap rest_of h

-- a text of which pieces but no definitions are read is refused
pub no_definitions : (bytes : List ℕ) (pieces : List (List ℕ)) (unread : Unread) → length bytes ≤ 1048576 → pieces_of false bytes ≡ Some pieces → Fails unread (definitions_of pieces) → Refuses (of_unread unread) (ltl_of bytes)
no_definitions bytes pieces Memory le p h = tt
no_definitions bytes pieces Syntax le p h = short bytes le ∙ ap rest_of p ∙ ap (λ (o : Option (List Def)). elim o as (λ _. Result RuleValue Refusal) [ None ↦ refused_with LTL_SYNTAX | Some ds ↦ rule_in (names_of pieces) ds ]) h

-- a text of which definitions are read gives the rule of these
pub the_rule : (bytes : List ℕ) (pieces names : List (List ℕ)) (ds : List Def) → length bytes ≤ 1048576 → pieces_of false bytes ≡ Some pieces → names ≡ names_of pieces → definitions_of pieces ≡ Some ds → ltl_of bytes ≡ rule_in names ds
the_rule bytes pieces names ds le p n h =
    short bytes le ∙ ap rest_of p ∙ ap (λ (o : Option (List Def)). elim o as (λ _. Result RuleValue Refusal) [ None ↦ refused_with LTL_SYNTAX | Some es ↦ rule_in (names_of pieces) es ]) h ∙ ap (λ (ns : List (List ℕ)). rule_in ns ds) (sym n)
