-- Whose C tables a text is, and what a reader of such texts answers.
use Rattle.std.specs.Prelude.{◌≡◌, ℕ, List, true, false, Result, Ok, Err}
use Rattle.rv_text.specs.declared.refusals.Refused.{Refused}
use Rattle.rv_text.specs.declared.refusals.Refused.TheVariants as refuseds
use Rattle.rv_model.specs.WellFormed.{IsAutomaton}
use Rattle.rv_header.specs.declared.reading.Header.{Header}
use Rattle.rv_header.specs.Naming.{is_header_name, has_no_tables}
use Rattle.rv_header.specs.HeaderText.{header_text}

-- the text is the header's
pub record IsHeaderOf (bytes : List ℕ) (h : Header) : Type 0 where
  pub named : is_header_name h.name ≡ true
  pub formed : IsAutomaton h.automaton
  pub fit : has_no_tables h.automaton ≡ false
  pub text : bytes ≡ header_text h.name h.automaton

-- what is found has the property; a refusal has this number, and nothing has the property
abbrev pub Finds : {X : Type 0} → (X → Type 0) → ℕ → Result X Refused → Type 0
Finds HasIt number (Ok x) = HasIt x
Finds HasIt number (Err refuseds.Memory) = Unit {0}
Finds {X} HasIt number (Err (refuseds.Because refusal)) = (refusal ≡ record { number = number; line = 0 }) × ((x : X) → ¬ HasIt x)
