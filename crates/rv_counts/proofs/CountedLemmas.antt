-- What was kept of rules is told, rule after rule.
use Rattle.std.proofs.Common.{◌≡◌, ℕ, ◌+◌, ◌<◌, ◌≤◌, min, List, [], ◌∷◌, ◌++◌, length, get_or, take, Some, sym, ap, ◌∙◌, subst, arith}
use Rattle.std.specs.List.{AllZip}
use Rattle.std.proofs.lemmas.List.{take_all, take_more}
use Rattle.std.proofs.lemmas.Option.{slice_get-get_or}
use Rattle.rv_bind.specs.RuleValues.{OnValue}
use Rattle.rv_facts.specs.declared.counts.RuleCounts.{RuleCounts}
use Rattle.rv_matches.specs.LineEvents.{LineEvent}
use Rattle.rv_matches.specs.RuleLines as matches
use Rattle.rv_matches.specs.TraceFacts.{counted_names}
use Rattle.rv_matches.specs.Words.{CountedValue}
use Rattle.rv_matches.specs.declared.rule_lines.RuleLine.{RuleLine}
use Rattle.rv_matches.proofs.PlaceLemmas.{fits_at, fits_length, fits_push}
use Rattle.rv_counts.specs.RuleTold.{TellsRule, TellsRules}
use Rattle.rv_counts.specs.inner.Counting.{CountsRule}

module _ (names : CountedValue) (rules : List OnValue) (lines : List RuleLine) where
  -- what is kept of each rule is what the events are to it
  abbrev AreKept : List LineEvent → Type 0
  AreKept events = AllZip (λ (rule : OnValue) (line : RuleLine). matches.IsRuleLine (matches.rule_counts events rule) line) rules lines

  -- the first rules are told
  abbrev pub AreTold : ℕ → List RuleCounts → Type 0
  AreTold place counts = (events : List LineEvent) → names ≡ counted_names events → AreKept events → TellsRules events (take place rules) counts

  -- and the next one
  pub told_more : (place : ℕ) (counts : List RuleCounts) (rule : OnValue) (line : RuleLine) (c : RuleCounts) → place < length rules → place < length lines → rule ≡ get_or rules place rule → line ≡ get_or lines place line
      → CountsRule names.words rule.event line c → AreTold place counts → AreTold (place + 1) (counts ++ c ∷ [])
  told_more place counts rule line c inside kept rule_is line_is counted told = λ events names_are are.
      let R : OnValue → RuleCounts → Type 0 = λ (r : OnValue) (n : RuleCounts). TellsRule (counted_names events).words r.event (matches.rule_counts events r) n in
      let is : matches.IsRuleLine (matches.rule_counts events rule) line =
      fits_at (λ (r : OnValue) (l : RuleLine). matches.IsRuleLine (matches.rule_counts events r) l) rules lines place rule line are
      (slice_get-get_or rules place rule inside ∙ ap Some (sym rule_is)) (slice_get-get_or lines place line kept ∙ ap Some (sym line_is)) in
      let here : R rule c = subst (λ (v : CountedValue). TellsRule v.words rule.event (matches.rule_counts events rule) c) names_are (counted (matches.rule_counts events rule) is) in
      let more : take (place + 1) rules ≡ take place rules ++ rule ∷ [] = take_more rules place rule inside ∙ ap (λ (r : OnValue). take place rules ++ r ∷ []) (sym rule_is) in
      subst (λ (rs : List OnValue). AllZip R rs (counts ++ c ∷ [])) (sym more) (fits_push R (take place rules) counts rule c (told events names_are are) here)

  -- so all are
  pub told_all : (place : ℕ) (counts : List RuleCounts) → min (length rules) (length lines) ≤ place → AreTold place counts → (events : List LineEvent) → names ≡ counted_names events → AreKept events → TellsRules events rules counts
  told_all place counts end told = λ events names_are are.
      let many : length rules ≡ length lines = fits_length (λ (r : OnValue) (l : RuleLine). matches.IsRuleLine (matches.rule_counts events r) l) rules lines are in
      subst (λ (rs : List OnValue). TellsRules events rs counts) (take_all place rules (omega arith)) (told events names_are are)
