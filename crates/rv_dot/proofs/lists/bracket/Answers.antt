use Rattle.std.proofs.Common.{rules, ◌≡◌, [], ◌∷◌, ◌++◌, None, refl, sym, ap, ◌∙◌, arith}
use Rattle.std.specs.Option.{option_map}
use Rattle.rv_dot.specs.declared.token.Mark.TheVariants.{CloseBracket}
use Rattle.rv_dot.specs.inner.Held.{setting, lexeme, lexemes}
use Rattle.rv_dot.specs.Lists.{one_item, attribute_item, separated, last_value, bracket_at}
use Rattle.rv_dot.proofs.LastOf.{last_value-push, last_value-nil}
use Rattle.rv_dot.proofs.ListLoops.{at_front, goes_on, ends, is_done}
use Rattle.rv_dot.proofs.lists.bracket.Goals as goal
use Rattle.rv_dot.proofs.lists.bracket.Goals.{then-eq, else-eq}

pub attributes-init : goal.attributes-init
attributes-init c = ([], at_front CloseBracket attribute_item separated c.args.tokens.now, last_value-nil c.args.key.now)

pub returns-in_err-attribute-clause-value : goal.returns-in_err-attribute-clause-value
unfolding bracket_at
returns-in_err-attribute-clause-value c =
    let so_far = c.attributes.invariant in
    let none : c.from_residual.result ≡ None = search rules in
    rw (none, ends CloseBracket attribute_item separated so_far.0 c.attributes.rest.now c.args.tokens.now so_far.1 (sym c.begins.ensures.value ∙ c.attributes-test.true) (ap one_item (sym c.in_err-attribute.ensures.value))) refl

pub attributes-preserved : goal.attributes-preserved
attributes-preserved c =
    let so_far = c.attributes.invariant in
    let last = setting c.in_ok-attribute.attribute in
    let value : last_value c.args.key.now (so_far.0 ++ last ∷ []) ≡ option_map lexeme c.if-eq.value =
    last_value-push c.args.key.now so_far.0 last
    ∙ elim c.if-eq.branch [
      | then-eq w ↦ rw (w.value-is, sym c.eq.ensures ∙ w.if-eq.true) refl
      | else-eq w ↦ rw (w.value-is, sym c.eq.ensures ∙ w.if-eq.false) so_far.2
    ] in (
      so_far.0 ++ last ∷ [],
      goes_on CloseBracket attribute_item separated so_far.0 c.attributes.rest.now c.args.tokens.now so_far.1 (last ∷ []) (lexemes c.in_ok-attribute.after.now) c.separated-rest.result.now
          (sym c.begins.ensures.value ∙ c.attributes-test.true) (ap one_item (sym c.in_ok-attribute.ensures.value)) c.separated-rest.ensures.value (omega (arith, c.in_ok-attribute.ensures.within, c.separated-rest.ensures.within)),
      value,
    )

pub returns-clause-value : goal.returns-clause-value
unfolding bracket_at
returns-clause-value c =
    let so_far = c.attributes.invariant in
    rw (is_done CloseBracket attribute_item separated so_far.0 c.attributes.rest.now c.args.tokens.now so_far.1 (sym c.begins.ensures.value ∙ c.attributes-test.false), so_far.2, c.past_mark.ensures.value) refl
