-- Whose text a header is, and what reading it comes to.
use Rattle.std.proofs.Common.{◌≡◌, ℕ, true, false, List, Some, refl, sym, ap, ◌∙◌, subst}
use Rattle.std.specs.Prelude.{Result, Ok, Err}
use Rattle.rv_text.specs.declared.refusals.Refusal.{Refusal}
use Rattle.rv_text.specs.declared.refusals.Refused.{Refused}
use Rattle.rv_text.specs.declared.refusals.Refused.TheVariants.{Because}
use Rattle.rv_text.specs.Readings.{Gives}
use Rattle.rv_model.specs.Machine.{Machine}
use Rattle.rv_dot.specs.Canonical.{dot_text}
use Rattle.rv_dot.specs.Dot.{dot_of}
use Rattle.rv_dot.proofs.ReadAgain.{read_again}
use Rattle.rv_text.specs.declared.numbers.TheConstants.{HEADER_SYNTAX}
use Rattle.rv_header.specs.declared.reading.Header.{Header}
use Rattle.rv_header.specs.Naming.{is_header_name}
use Rattle.rv_header.specs.Headers.{IsHeaderOf, Finds}
use Rattle.rv_header.specs.inner.Taking.{name_in, file_in}
use Rattle.rv_header.proofs.Back.{name_back, file_back}

-- the name is taken from the text
pub name_taken : (bytes : List ℕ) (h : Header) → IsHeaderOf bytes h → name_in bytes ≡ h.name
name_taken bytes h is = ap name_in is.text ∙ name_back h.name h.automaton is.named is.formed is.fit

-- the automaton file too
pub file_taken : (bytes : List ℕ) (h : Header) → IsHeaderOf bytes h → file_in bytes ≡ Some (dot_text h.automaton)
file_taken bytes h is = ap file_in is.text ∙ file_back h.name h.automaton is.named is.formed is.fit

-- one answer has one value
same_ok : (a b : Machine) (r : Result Machine Refusal) → r ≡ Ok a → r ≡ Ok b → a ≡ b
same_ok a b r p q = cc

-- a text is one header's
pub one_header : (bytes : List ℕ) (g h : Header) → IsHeaderOf bytes g → IsHeaderOf bytes h → g ≡ h
one_header bytes g h p q =
    let names : g.name ≡ h.name = sym (name_taken bytes g p) ∙ name_taken bytes h q in
    let files : Some (dot_text g.automaton) ≡ Some (dot_text h.automaton) = sym (file_taken bytes g p) ∙ file_taken bytes h q in
    let texts : dot_text g.automaton ≡ dot_text h.automaton = cc in
    let automata : g.automaton ≡ h.automaton = same_ok g.automaton h.automaton (dot_of (dot_text g.automaton)) (read_again g.automaton p.formed) (ap dot_of texts ∙ read_again h.automaton q.formed) in
    ap (λ (n : List ℕ). record { name = n; automaton = g.automaton }) names ∙ ap (λ (a : Machine). record { name = h.name; automaton = a }) automata

-- a text is refused that is no header's
pub refused_for : (bytes : List ℕ) (r : Refused) → r ≡ Because (record { number = HEADER_SYNTAX; line = 0 }) → ((h : Header) → IsHeaderOf bytes h → ⊥) → Finds {X = Header} (IsHeaderOf bytes) HEADER_SYNTAX (Err r)
refused_for bytes r is none = subst (λ (x : Refused). Finds {X = Header} (IsHeaderOf bytes) HEADER_SYNTAX (Err x)) (sym is) (refl, none)

-- a text whose name is no header's
pub unnamed : (bytes : List ℕ) (h : Header) → IsHeaderOf bytes h → is_header_name (name_in bytes) ≡ false → ⊥
unnamed bytes h is no_name = let apart : true ≡ false = sym is.named ∙ ap is_header_name (sym (name_taken bytes h is)) ∙ no_name in absurd (cc)

-- what is read of a header's text is its automaton
pub machine_read : (a b : Machine) → Gives {X = Machine} (λ x. x) (Ok a) (Ok b) → a ≡ b
machine_read a b h = sym (cc)

-- and no refusal
pub no_refusal : (a : Machine) (refusal : Refusal) → Gives {X = Machine} (λ x. x) (Err (Because refusal)) (Ok a) → ⊥
no_refusal a refusal h = absurd (cc)
