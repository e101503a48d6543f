-- A finding more, by its text.
use Rattle.std.proofs.Common.{◌≡◌, ℕ, Bool, List, [], ◌∷◌, ◌++◌, ap, ◌∙◌}
use Rattle.rv_findings.specs.declared.finding.Finding.{Finding}
use Rattle.rv_findings.specs.MonitorFindings.{found_if}

module _ (old new : List Finding) (line : ℕ) (text said : List ℕ) where
  -- the text is this one
  pub found_text : new ≡ old ++ record { line = line; text = text } ∷ [] → text ≡ said → new ≡ old ++ record { line = line; text = said } ∷ []
  found_text grown is = grown ∙ ap (λ (t : List ℕ). old ++ record { line = line; text = t } ∷ []) is

  -- where it is so, the text is this one
  pub found_said : (is_so really : Bool) → new ≡ old ++ found_if is_so line text → is_so ≡ really → text ≡ said → new ≡ old ++ found_if really line said
  found_said is_so really grown so is = grown ∙ ap (λ (b : Bool). old ++ found_if b line text) so ∙ ap (λ (t : List ℕ). old ++ found_if really line t) is
