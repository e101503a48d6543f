-- How often rules of enabled monitors fire, rule after rule.
use Rattle.std.proofs.Common.{◌≡◌, ℕ, ◌+◌, ◌<◌, ◌≤◌, min, cond, List, length, get_or, map, take, Some, sym, ap, ap₂, ◌∙◌, arith}
use Rattle.std.specs.Prelude.{sum}
use Rattle.std.proofs.lemmas.List.{take_all}
use Rattle.std.proofs.lemmas.List.Sums.{sum-map, sum_by_more}
use Rattle.std.proofs.lemmas.Option.{slice_get-get_or}
use Rattle.rv_bind.specs.RuleValues.{OnValue}
use Rattle.rv_bind.specs.declared.bindings.Monitor.{Monitor}
use Rattle.rv_facts.specs.declared.counts.RuleCounts.{RuleCounts}
use Rattle.rv_matches.specs.LineEvents.{LineEvent}
use Rattle.rv_matches.specs.RuleLines as matches
use Rattle.rv_matches.specs.TraceFacts.{counted_names}
use Rattle.rv_matches.proofs.PlaceLemmas.{fits_at, fits_length}
use Rattle.rv_counts.specs.Counts.{fired_if, is_enabled}
use Rattle.rv_counts.specs.RuleTold.{TellsRule, TellsRules}

module _ (monitors : List Monitor) (events : List LineEvent) (rules : List OnValue) (counts : List RuleCounts) (place : ℕ) (rule : OnValue) (count : RuleCounts) (inside : place < length rules) (counted : place < length counts)
    (rule_is : rule ≡ get_or rules place rule) (count_is : count ≡ get_or counts place count) (told : TellsRules events rules counts) where
  -- what is told of the rule
  told_here : TellsRule (counted_names events).words rule.event (matches.rule_counts events rule) count
  told_here =
      fits_at (λ (r : OnValue) (c : RuleCounts). TellsRule (counted_names events).words r.event (matches.rule_counts events r) c) rules counts place rule count told
      (slice_get-get_or rules place rule inside ∙ ap Some (sym rule_is)) (slice_get-get_or counts place count counted ∙ ap Some (sym count_is))

  -- the sum with one rule more
  pub fired_more : (fired fires : ℕ) → fired ≡ sum (map (fired_if monitors events) (take place rules)) → fires ≡ cond (is_enabled monitors rule.monitor) count.fires 0
      → fired + fires ≡ sum (map (fired_if monitors events) (take (place + 1) rules))
  fired_more fired fires so_far here =
      let f : OnValue → ℕ = fired_if monitors events in
      let last : fires ≡ f (get_or rules place rule) = here ∙ ap (λ (n : ℕ). cond (is_enabled monitors rule.monitor) n 0) told_here.fires ∙ ap f rule_is in
      ap₂ (λ (a b : ℕ). a + b) (so_far ∙ sum-map f (take place rules)) last ∙ sym (sum-map f (take (place + 1) rules) ∙ sum_by_more f rules place rule inside)

-- the sum of all
pub fired_all : (monitors : List Monitor) (events : List LineEvent) (rules : List OnValue) (counts : List RuleCounts) (place fired : ℕ) → min (length rules) (length counts) ≤ place → TellsRules events rules counts
    → fired ≡ sum (map (fired_if monitors events) (take place rules)) → fired ≡ sum (map (fired_if monitors events) rules)
fired_all monitors events rules counts place fired end told so_far =
    let many : length rules ≡ length counts = fits_length (λ (r : OnValue) (c : RuleCounts). TellsRule (counted_names events).words r.event (matches.rule_counts events r) c) rules counts told in
    so_far ∙ ap (λ (rs : List OnValue). sum (map (fired_if monitors events) rs)) (take_all place rules (omega arith))
