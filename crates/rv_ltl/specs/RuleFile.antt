-- The rule that a text gives, or the first refusal (this project's profile of the rule files of Linux, Documentation/trace/rv).
use Rattle.std.specs.Prelude.{ℕ, true, false, not, nat_lt, if◌then◌else◌, List, [], length, map, Option, Some, None, Result, Ok, codes}
use Rattle.rv_text.specs.declared.refusals.Refusal.{Refusal}
use Rattle.rv_text.specs.Readings.{refused_with, and_then}
use Rattle.rv_text.specs.declared.numbers.TheConstants.{LTL_SYNTAX, NO_RULE, DEFINED_TWICE, CYCLE, TOO_MANY_ATOMS, TOO_BIG}
use Rattle.rv_model.specs.Formulas.{RuleValue}
use Rattle.rv_ltl.specs.Grammar.{Expr}
use Rattle.rv_ltl.specs.Parse.{◌>>=◌}
use Rattle.rv_ltl.specs.Pieces.{pieces_of}
use Rattle.rv_ltl.specs.Names.{names_of, place_in}
use Rattle.rv_ltl.specs.Tokens.{tokens_of}
use Rattle.rv_ltl.specs.File.{Def, defs_at}
use Rattle.rv_ltl.specs.Replace.{plain_def, body_of, is_none, once, any_endless, value_of, weight_of}
use Rattle.rv_ltl.specs.Atoms.{names_into, formula_over, name_at}

-- the atoms of a formula in which each defined name was replaced
abbrev pub atoms_of : Expr → List ℕ
atoms_of f = names_into (λ x. true) f []

-- such a formula, if it is within the limits
abbrev pub within_limits : Expr → Result Expr Refusal
within_limits f = if nat_lt 32 (length (atoms_of f)) then refused_with TOO_MANY_ATOMS else if nat_lt 1024 (weight_of f) then refused_with TOO_BIG else Ok f

-- the formula that the name root stands for
abbrev pub formula_of : List Def → ℕ → Result Expr Refusal
formula_of ds root =
    if is_none (body_of ds root) then refused_with NO_RULE
    else if not (once ds) then refused_with DEFINED_TWICE
    else if any_endless ds ds then refused_with CYCLE
    else elim (value_of ds (length ds) root) [ Some f ↦ within_limits f | None ↦ refused_with CYCLE ]

-- its rule
abbrev pub rule_of : List (List ℕ) → Expr → RuleValue
rule_of names f = record { atoms = map (name_at names) (atoms_of f); formula = formula_over (atoms_of f) f }

-- the rule of the definitions: the formula of RULE
abbrev pub rule_in : List (List ℕ) → List Def → Result RuleValue Refusal
rule_in names ds = elim (place_in names (codes "RULE")) [ Some root ↦ and_then (formula_of ds root) (λ f. Ok (rule_of names f)) | None ↦ refused_with NO_RULE ]

-- the definitions that the pieces spell, without parentheses: at most 256, with at most 256 operands in a chain, and at most 256 parentheses and unary operators open at one place
abbrev pub definitions_of : List (List ℕ) → Option (List Def)
definitions_of pieces = tokens_of (names_of pieces) pieces >>= λ tokens. defs_at 256 256 tokens >>= λ ds. Some (map plain_def ds)

-- the rule of a text of at most 1,048,576 bytes
unfoldable pub ltl_of : List ℕ → Result RuleValue Refusal
ltl_of bytes =
    if nat_lt 1048576 (length bytes) then refused_with LTL_SYNTAX
    else elim (pieces_of false bytes) [
      | None ↦ refused_with LTL_SYNTAX
      | Some pieces ↦ elim (definitions_of pieces) [ None ↦ refused_with LTL_SYNTAX | Some ds ↦ rule_in (names_of pieces) ds ]
    ]
