use Rattle.std.proofs.Common.{List, ℕ, length, Some, sym, ap, ◌∙◌, subst}
use Rattle.std.proofs.lemmas.List.{length-map}
use Rattle.std.proofs.lemmas.Result.{err_from_is_err_and}
use Rattle.rv_ltl.specs.declared.token.Token.{Token}
use Rattle.std.specs.Cmp.Lexicographic.{slice_cmp}
use Rattle.std.specs.Ordering.{nat_cmp}
use Rattle.rv_ltl.specs.inner.Texts.{texts}
use Rattle.rv_text.specs.inner.Ascending.{Ascends}
use Rattle.rv_ltl.proofs.NameSets.{names_ascend}
use Rattle.rv_ltl.proofs.ReadingSteps.{reads_definitions, no_tokens}
use Rattle.rv_ltl.proofs.reading.definitions_in.Goals as goal

pub tokens-requires : goal.tokens-requires
tokens-requires c = let P : List (List ℕ) → Type 0 = λ ns. Ascends (slice_cmp nat_cmp) ns in subst P (sym c.requires) (names_ascend (texts c.args.pieces.now))

pub returns-in_err-tokens : goal.returns-in_err-tokens
returns-in_err-tokens c =
    let p = err_from_is_err_and c.from_residual.result c.from_residual.ensures.1 in
    rw (p.1, p.2) (no_tokens (texts c.args.pieces.now) (texts c.args.names.now) c.in_err-tokens.field-0.0 c.requires c.in_err-tokens.ensures)

pub returns : goal.returns
returns c =
    reads_definitions (texts c.args.pieces.now) (texts c.args.names.now) c.deref.result.now (length c.args.names.now) c.definitions.result c.requires
    (c.in_ok-tokens.ensures ∙ ap (λ (ts : List Token). Some ts) (sym c.deref.ensures.value)) (sym (length-map c.args.names.now (λ s. s.now))) c.definitions.ensures
