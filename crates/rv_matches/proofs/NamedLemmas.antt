-- A line of an event that some rule is on, and a line of any other.
use Rattle.std.proofs.Common.{◌≡◌, ◌≢◌, ℕ, ◌+◌, Bool, true, false, cond, ◌&&◌, ◌||◌, List, [], ◌∷◌, ◌++◌, length, refl, sym, ap, ◌∙◌, subst, arith}
use Rattle.std.specs.Prelude.{All, filter, count_by}
use Rattle.std.specs.List.{AllZip, list_all, list_any}
use Rattle.std.proofs.lemmas.List.Elements.{All-head, All-tail}
use Rattle.std.proofs.lemmas.List.Sums.{sum_by_push}
use Rattle.rv_bind.specs.RuleValues.{OnValue}
use Rattle.rv_route.specs.Asking.{holds}
use Rattle.rv_route.specs.declared.event.Asked.{Asked}
use Rattle.rv_route.specs.declared.event.Event.{Event}
use Rattle.rv_route.specs.Events.{HasEvent, IsAsked, is_on_event}
use Rattle.rv_matches.specs.declared.rule_lines.RuleLine.{RuleLine}
use Rattle.rv_matches.specs.LineEvents.{LineEvent}
use Rattle.rv_matches.specs.RuleLines.{AreRuleLines, IsRuleLine, RuleCounts, RuleLinesValue, is_fired, has_rule, rule_counts}
use Rattle.rv_matches.proofs.CountedRuleLemmas.{other_event}
use Rattle.rv_matches.proofs.WordLemmas.{no_more, same_bytes}

module _ {X : Type 0} (p q : X → Bool) where
  -- some that passes one test passes another just where some passes both
  pub any_both : (xs : List X) → list_any q (filter p xs) ≡ list_any (λ x. p x && q x) xs
  any_both [] = refl
  any_both (x ∷ xs) = go (p x) (any_both xs)
    where
      go : (b : Bool) → list_any q (filter p xs) ≡ list_any (λ y. p y && q y) xs → list_any q (cond b (x ∷ filter p xs) (filter p xs)) ≡ ((b && q x) || list_any (λ y. p y && q y) xs)
      go true rest = ap (λ b. q x || b) rest
      go false rest = rest

module _ {X : Type 0} (p : X → Bool) where
  -- where none is left none passes
  pub none_any : (xs : List X) → filter p xs ≡ [] → list_any p xs ≡ false
  none_any [] none = refl
  none_any (x ∷ xs) none = go (p x) none (none_any xs)
    where
      go : (b : Bool) → cond b (x ∷ filter p xs) (filter p xs) ≡ [] → (filter p xs ≡ [] → list_any p xs ≡ false) → (b || list_any p xs) ≡ false
      go true is rest = cc
      go false is rest = rest is

  -- and where one is left one passes
  pub some_any : (xs : List X) → filter p xs ≢ [] → list_any p xs ≡ true
  some_any [] some = absurd (some refl)
  some_any (x ∷ xs) some = go (p x) some (some_any xs)
    where
      go : (b : Bool) → cond b (x ∷ filter p xs) (filter p xs) ≢ [] → (filter p xs ≢ [] → list_any p xs ≡ true) → (b || list_any p xs) ≡ true
      go true is rest = refl
      go false is rest = rest is

-- where each rule has its event, none is on a name without one
pub none_on : (name : List ℕ) (index : List Event) (rules : List OnValue) → (¬ HasEvent index name) → All (λ (rule : OnValue). HasEvent index rule.event) rules → filter (is_on_event name) rules ≡ []
none_on name index [] none has = refl
none_on name index (rule ∷ rules) none has = go (is_on_event name rule) refl (none_on name index rules none (All-tail (λ (r : OnValue). HasEvent index r.event) rule rules has))
  where
    go : (on : Bool) → is_on_event name rule ≡ on → filter (is_on_event name) rules ≡ [] → cond on (rule ∷ filter (is_on_event name) rules) (filter (is_on_event name) rules) ≡ []
    go true on rest = absurd (none (subst (HasEvent index) (sym (same_bytes name rule.event on)) (All-head (λ (r : OnValue). HasEvent index r.event) rule rules has)))
    go false off rest = rest

-- ---- one more line

module _ (rules : List OnValue) (lines : List LineEvent) (line : LineEvent) where
  -- one more line is named, or not
  pub named_push : count_by (has_rule rules) (lines ++ line ∷ []) ≡ count_by (has_rule rules) lines + cond (has_rule rules line) 1 0
  named_push = sum_by_push (λ l. cond (has_rule rules l) 1 0) lines line

  -- on one more line some rule fires, or none
  pub fired_push : count_by (is_fired rules) (lines ++ line ∷ []) ≡ count_by (is_fired rules) lines + cond (is_fired rules line) 1 0
  fired_push = sum_by_push (λ l. cond (is_fired rules l) 1 0) lines line

  -- some rule fires where the tests of one on the event hold
  pub fired_by : (fields : List ℕ) → line.fields ≡ fields → list_any (λ (rule : OnValue). list_all (holds fields) rule.tests) (filter (is_on_event line.name) rules) ≡ is_fired rules line
  fired_by fields is =
      ap (λ (fs : List ℕ). list_any (λ (rule : OnValue). list_all (holds fs) rule.tests) (filter (is_on_event line.name) rules)) (sym is)
      ∙ any_both (is_on_event line.name) (λ (rule : OnValue). list_all (holds line.fields) rule.tests) rules

  -- no rule fires where none is on the event
  none_fires : filter (is_on_event line.name) rules ≡ [] → is_fired rules line ≡ false
  none_fires none = sym (fired_by line.fields refl) ∙ ap (list_any (λ (rule : OnValue). list_all (holds line.fields) rule.tests)) none

-- rules that are not on the event stay as they were
stay : (rules : List OnValue) (lines : List LineEvent) (line : LineEvent) (list : List RuleLine) → filter (is_on_event line.name) rules ≡ []
    → AllZip (λ rule r. IsRuleLine (rule_counts lines rule) r) rules list → AllZip (λ rule r. IsRuleLine (rule_counts (lines ++ line ∷ []) rule) r) rules list
stay [] lines line [] none all = tt
stay [] lines line (r ∷ list) none all = absurd all
stay (rule ∷ rules) lines line [] none all = absurd all
stay (rule ∷ rules) lines line (r ∷ list) none all = go (is_on_event line.name rule) refl none (λ rest. stay rules lines line list rest all.1)
  where
    go : (on : Bool) → is_on_event line.name rule ≡ on → cond on (rule ∷ filter (is_on_event line.name) rules) (filter (is_on_event line.name) rules) ≡ []
        → (filter (is_on_event line.name) rules ≡ [] → AllZip (λ rule r. IsRuleLine (rule_counts (lines ++ line ∷ []) rule) r) rules list)
        → AllZip (λ rule r. IsRuleLine (rule_counts (lines ++ line ∷ []) rule) r) (rule ∷ rules) (r ∷ list)
    go true on is rest = cc
    go false off is rest = (subst (λ (c : RuleCounts). IsRuleLine c r) (sym (other_event rule lines line off)) all.0, rest is)

-- a line that no rule is on changes nothing
pub unnamed : (rules : List OnValue) (lines : List LineEvent) (line : LineEvent) (value : RuleLinesValue) → filter (is_on_event line.name) rules ≡ [] → AreRuleLines rules lines value → AreRuleLines rules (lines ++ line ∷ []) value
unnamed rules lines line value none are = record {
  each = stay rules lines line value.rules none are.each;
  named = are.named ∙ sym (named_push rules lines line ∙ no_more (count_by (has_rule rules) lines) (has_rule rules line) (none_any (is_on_event line.name) rules none));
  fired = are.fired ∙ sym (fired_push rules lines line ∙ no_more (count_by (is_fired rules) lines) (is_fired rules line) (none_fires rules lines line none));
}

-- no rule is on the event where none is asked
pub none_asked : (all : List OnValue) (names : List (List ℕ)) (list : List Asked) (rules : List OnValue) → length list ≡ 0 → AllZip (IsAsked all names) list rules → rules ≡ []
none_asked all names [] [] is are = refl
none_asked all names [] (rule ∷ rules) is are = absurd are
none_asked all names (asked ∷ list) rules is are = absurd (omega arith)
