use Rattle.std.proofs.Common.{◌≡◌, ◌+◌, ℕ, true, false, Some, is_none, sym, ap, ◌∙◌, rules}
use Rattle.rv_text.specs.TextLines.{line_text}
use Rattle.rv_matches.specs.TextFacts.{FirstOf, TextFactsValue, is_returning, returns_of}
use Rattle.rv_matches.proofs.FirstLemmas.{none_first, some_first}
use Rattle.rv_matches.proofs.TextLemmas.{returns_push}
use Rattle.rv_matches.proofs.text_facts.TextFacts.add_return.Goals as goal

pub returns-then-is_none-clause-returns : goal.returns-then-is_none-clause-returns
returns-then-is_none-clause-returns c = λ lines is.
    let ends : is_returning (line_text c.args.line) ≡ true = search rules in
    let was = ap (λ (t : TextFactsValue). t.returns) c.self.view_is ∙ is in
    let first = ap (λ (r : FirstOf ℕ). r.first) was in
    let none : is_none c.self.inside.first_return ≡ true = search rules in
    let missing : is_none (returns_of lines).first ≡ true = ap is_none (sym first) ∙ none in
    returns_push lines (line_text c.args.line) _ ends (none_first (returns_of lines).first (Some c.args.line.number) missing) (c.in_ok-self-inside.ensures ∙ ap (λ (r : FirstOf ℕ). r.count + 1) was)

pub returns-else-is_none-clause-returns : goal.returns-else-is_none-clause-returns
returns-else-is_none-clause-returns c = λ lines is.
    let ends : is_returning (line_text c.args.line) ≡ true = search rules in
    let was = ap (λ (t : TextFactsValue). t.returns) c.self.view_is ∙ is in
    let first = ap (λ (r : FirstOf ℕ). r.first) was in
    let some : is_none c.self.inside.first_return ≡ false = search rules in
    let there : is_none (returns_of lines).first ≡ false = ap is_none (sym first) ∙ some in
    returns_push lines (line_text c.args.line) _ ends (first ∙ some_first (returns_of lines).first (Some c.args.line.number) there) (c.in_ok-self-inside.ensures ∙ ap (λ (r : FirstOf ℕ). r.count + 1) was)
