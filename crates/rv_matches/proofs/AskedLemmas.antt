-- Rules by no field: what lines are to them is what they are to the rules.
use Rattle.std.proofs.Common.{◌≡◌, Bool, ◌||◌, List, [], ◌∷◌, map, refl, sym, ap, ◌∙◌, subst}
use Rattle.std.specs.Prelude.{count_by}
use Rattle.std.specs.List.{AllZip, list_any}
use Rattle.rv_bind.specs.RuleValues.{OnValue}
use Rattle.rv_matches.specs.declared.rule_lines.RuleLine.{RuleLine}
use Rattle.rv_matches.specs.LineEvents.{LineEvent, fires_on, is_of}
use Rattle.rv_matches.specs.RuleLines.{AreRuleLines, IsRuleLine, RuleLinesValue, has_rule, is_fired, rule_counts, without_by}

-- ---- lists

module _ {A B C : Type 0} (f : A → B) (R : B → C → Type 0) where
  -- what fits items fits what is made of others
  fits_made : (xs : List A) (ys : List C) → AllZip (λ x y. R (f x) y) xs ys → AllZip R (map f xs) ys
  fits_made [] [] all = tt
  fits_made [] (y ∷ ys) all = absurd all
  fits_made (x ∷ xs) [] all = absurd all
  fits_made (x ∷ xs) (y ∷ ys) all = (all.0, fits_made xs ys all.1)

  -- and the other way round
  fits_unmade : (xs : List A) (ys : List C) → AllZip R (map f xs) ys → AllZip (λ x y. R (f x) y) xs ys
  fits_unmade [] [] all = tt
  fits_unmade [] (y ∷ ys) all = absurd all
  fits_unmade (x ∷ xs) [] all = absurd all
  fits_unmade (x ∷ xs) (y ∷ ys) all = (all.0, fits_unmade xs ys all.1)

-- some rule by no field passes where one of the rules does
any_made : (p : OnValue → Bool) (rules : List OnValue) → list_any p (map without_by rules) ≡ list_any (λ rule. p (without_by rule)) rules
any_made p [] = refl
any_made p (rule ∷ rules) = ap (λ b. p (without_by rule) || b) (any_made p rules)

-- tests that agree count the same
count_same : (p q : LineEvent → Bool) (lines : List LineEvent) → ((line : LineEvent) → p line ≡ q line) → count_by p lines ≡ count_by q lines
count_same p q lines same = ap (λ (r : LineEvent → Bool). count_by r lines) (λ j line. same line j)

-- ---- what lines are

module _ (rules : List OnValue) (lines : List LineEvent) (value : RuleLinesValue) where
  named_same : count_by (has_rule (map without_by rules)) lines ≡ count_by (has_rule rules) lines
  named_same = count_same (has_rule (map without_by rules)) (has_rule rules) lines (λ line. any_made (λ rule. is_of rule.event line) rules)

  fired_same : count_by (is_fired (map without_by rules)) lines ≡ count_by (is_fired rules) lines
  fired_same = count_same (is_fired (map without_by rules)) (is_fired rules) lines (λ line. any_made (λ rule. fires_on rule line) rules)

  -- what they are to the rules they are to those by no field
  are_asked : AreRuleLines rules lines value → AreRuleLines (map without_by rules) lines value
  are_asked are = record {
    each = fits_made without_by (λ (rule : OnValue) (r : RuleLine). IsRuleLine (rule_counts lines rule) r) rules value.rules are.each;
    named = are.named ∙ sym named_same;
    fired = are.fired ∙ sym fired_same;
  }

  -- and the other way round
  pub asked_are : AreRuleLines (map without_by rules) lines value → AreRuleLines rules lines value
  asked_are are = record {
    each = fits_unmade without_by (λ (rule : OnValue) (r : RuleLine). IsRuleLine (rule_counts lines rule) r) rules value.rules are.each;
    named = are.named ∙ named_same;
    fired = are.fired ∙ fired_same;
  }

-- what is counted of the rules by no field is counted of the rules
pub by_asked : (rules asked : List OnValue) (lines more : List LineEvent) (old new : RuleLinesValue) → asked ≡ map without_by rules
    → (AreRuleLines asked lines old → AreRuleLines asked more new) → AreRuleLines rules lines old → AreRuleLines rules more new
by_asked rules asked lines more old new is counts are =
    asked_are rules more new (subst (λ (rs : List OnValue). AreRuleLines rs more new) is (counts (subst (λ (rs : List OnValue). AreRuleLines rs lines old) (sym is) (are_asked rules lines old are))))
