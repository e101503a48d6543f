use Rattle.std.proofs.Common.{◌≡◌, ℕ, length, false, eqb, refl, sym, ap, ◌∙◌, rules}
use Rattle.std.specs.Vec.{vec_len}
use Rattle.std.proofs.lemmas.List.{length-map}
use Rattle.rv_dot.specs.inner.Held.{lexeme, lexemes}
use Rattle.rv_dot.specs.Statements.{declared_at}
use Rattle.rv_dot.proofs.statement.declared.Goals as goal

pub returns-clause-value : goal.returns-clause-value
unfolding declared_at
returns-clause-value c =
    let size : vec_len c.in_ok-names.names ≡ length c.in_ok-names.names.items = search rules in
    let some : eqb (length (lexemes c.in_ok-names.names.items)) 0 ≡ false =
    ap (λ (n : ℕ). eqb n 0) (length-map c.in_ok-names.names.items lexeme ∙ sym size) ∙ sym c.is_empty.ensures ∙ c.if-is_empty.false in
    rw (declared_at, ← c.in-Some.ensures.value, ← c.in-Some-bracket.ensures.value, c.in_ok-names.ensures.value, some, c.in_ok-declared_names.ensures, c.deref.ensures.value) refl
