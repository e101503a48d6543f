-- Events whose rules have no tests: on each of their lines each of their rules fires.
use Rattle.std.proofs.Common.{◌≡◌, ◌≢◌, ℕ, zero, suc, ◌+◌, ◌<◌, Bool, true, false, cond, ◌||◌, List, [], ◌∷◌, ◌++◌, length, get_or, map, take, Some, refl, sym, ap, ◌∙◌, subst, arith}
use Rattle.std.specs.Prelude.{All, count_by, filter, option_map, slice_get, Vec}
use Rattle.std.specs.Vec.{vec_len, with_items}
use Rattle.std.specs.declared.alloc.Global.{Global}
use Rattle.std.specs.List.{AllZip, list_all, list_any}
use Rattle.std.proofs.lemmas.List.{with_items_is}
use Rattle.std.proofs.lemmas.List.Elements.{All-cons, All-get_or, All-head, All-nil}
use Rattle.std.proofs.lemmas.Option.{get_or_from_slice_get, slice_get_within}
use Rattle.rv_bind.specs.declared.bindings.Test.{Test}
use Rattle.rv_bind.specs.RuleValues.{OnValue}
use Rattle.rv_route.specs.declared.event.Asked.{Asked}
use Rattle.rv_route.specs.Asking.{holds}
use Rattle.rv_route.specs.Events.{IsAsked, is_on_event, places_on, tested_fields}
use Rattle.rv_matches.specs.declared.plain_events.PlainEvent.{PlainEvent}
use Rattle.rv_matches.specs.declared.rule_lines.RuleLine.{RuleLine}
use Rattle.rv_matches.specs.LineEvents.{LineEvent}
use Rattle.rv_matches.specs.RuleLines.{AreRuleLines, IsByTests, IsForRules, IsPlainEvent, RuleLinesValue, has_rule, is_fired}
use Rattle.rv_matches.specs.inner.RuleSteps.{CountsLineOf, IsNamedAt}
use Rattle.rv_matches.proofs.PlaceLemmas.{fits_length, is_place, place_once}
use Rattle.rv_matches.proofs.NamedLemmas.{fired_by, fired_push, named_push, some_any}

-- ---- rules without tests

-- where nothing is named there are no tests
none_tested : (names : List (List ℕ)) (places : List ℕ) (tests : List Test) → names ≡ [] → map (slice_get names) places ≡ map Some (tested_fields tests) → tests ≡ []
none_tested [] places [] none is = refl
none_tested [] [] (test ∷ tests) none is = cc
none_tested [] (place ∷ places) (test ∷ tests) none is = cc
none_tested (name ∷ names) places tests none is = cc

-- a list with no names
pub no_names : (names : List (List ℕ)) → length names ≡ 0 → names ≡ []
no_names [] none = refl
no_names (name ∷ names) none = absurd (omega arith)

-- so the rules of an event without fields have none
pub untested : (all : List OnValue) (names : List (List ℕ)) (list : List Asked) (rules : List OnValue) → names ≡ [] → AllZip (IsAsked all names) list rules → All (λ rule. rule.tests ≡ []) rules
untested all names list [] none are = All-nil (λ (rule : OnValue). rule.tests ≡ [])
untested all names [] (rule ∷ rules) none are = absurd are
untested all names (asked ∷ list) (rule ∷ rules) none are =
    All-cons (λ (rule : OnValue). rule.tests ≡ []) rule rules (none_tested names asked.tests.items rule.tests none are.0.fields.tests) (untested all names list rules none are.1)

module _ (fields : List ℕ) where
  -- each of them fires
  pub passes : (rules : List OnValue) (i : ℕ) (rule : OnValue) → All (λ rule. rule.tests ≡ []) rules → slice_get rules i ≡ Some rule → list_all (holds fields) rule.tests ≡ true
  passes rules i rule none at =
      let is : get_or rules i rule ≡ rule = get_or_from_slice_get rules i rule rule at in
      let empty : rule.tests ≡ [] = subst (λ (r : OnValue). r.tests ≡ []) is (All-get_or (λ (r : OnValue). r.tests ≡ []) rules i rule (slice_get_within rules i rule at) none) in
      ap (list_all (holds fields)) empty

  -- so one fires where there is one
  any_passes : (rules : List OnValue) → rules ≢ [] → All (λ rule. rule.tests ≡ []) rules → list_any (λ (rule : OnValue). list_all (holds fields) rule.tests) rules ≡ true
  any_passes [] some none = absurd (some refl)
  any_passes (rule ∷ rules) some none =
      ap (λ (tests : List Test). list_all (holds fields) tests || list_any (λ (r : OnValue). list_all (holds fields) r.tests) rules) (All-head (λ (r : OnValue). r.tests ≡ []) rule rules none)

-- ---- the rules on an event, by their places

-- a rule that is on the event: its place behind the first, and its place among those on the event
pub record Stands (event : List ℕ) (from : ℕ) (rules : List OnValue) (i place : ℕ) : Type 0 where
  pub rule : OnValue
  pub behind : ℕ
  pub is : place ≡ from + behind
  pub there : slice_get rules behind ≡ Some rule
  pub among : slice_get (filter (is_on_event event) rules) i ≡ Some rule

-- at each place of those on the event stands a rule that is on it
pub stands_on : (event : List ℕ) (from : ℕ) (rules : List OnValue) (i place : ℕ) → slice_get (places_on event from rules) i ≡ Some place → Stands event from rules i place
stands_on event from [] i place at = cc
stands_on event from (rule ∷ rules) i place at =
    let found = go (is_on_event event rule) i at (λ j there. stands_on event (from + 1) rules j place there) in
    record { rule = found.0; behind = found.1; is = found.2; there = found.3; among = found.4 }
  where
    go : (on : Bool) (j : ℕ) → slice_get (cond on (from ∷ []) [] ++ places_on event (from + 1) rules) j ≡ Some place
        → ((k : ℕ) → slice_get (places_on event (from + 1) rules) k ≡ Some place → Stands event (from + 1) rules k place)
        → (r : OnValue) × (b : ℕ) × (place ≡ from + b) × (slice_get (rule ∷ rules) b ≡ Some r) × (slice_get (cond on (rule ∷ filter (is_on_event event) rules) (filter (is_on_event event) rules)) j ≡ Some r)
    go true zero there rest = let here : from ≡ place = cc in (rule, 0, omega arith, refl, refl)
    go true (suc j) there rest = let more = rest j there in let is : place ≡ from + 1 + more.behind = more.is in (more.rule, suc more.behind, omega arith, more.there, more.among)
    go false j there rest = let more = rest j there in let is : place ≡ from + 1 + more.behind = more.is in (more.rule, suc more.behind, omega arith, more.there, more.among)

-- one of the places that are kept of an event
pub record Step (rules : List OnValue) (event : PlainEvent) (i place : ℕ) : Type 0 where
  pub rule : OnValue
  pub inside : i < length (places_on event.name 0 rules)
  pub is : place ≡ get_or (places_on event.name 0 rules) i place
  pub there : slice_get rules place ≡ Some rule
  pub once : is_place (take i (places_on event.name 0 rules)) place ≡ false
  pub passes : (fields : List ℕ) → list_all (holds fields) rule.tests ≡ true

-- a rule stands there that is on the event, and it stands at no place before
pub step_at : (rules : List OnValue) (event : PlainEvent) (list : List ℕ) (i place : ℕ) → IsPlainEvent rules event → list ≡ event.rules.items → slice_get list i ≡ Some place → Step rules event i place
step_at rules event list i place plain same is =
    let placed : List ℕ = places_on event.name 0 rules in
    let at : slice_get placed i ≡ Some place = ap (λ (l : List ℕ). slice_get l i) (sym (same ∙ plain.places)) ∙ is in
    let within : i < length placed = slice_get_within placed i place at in
    let here : place ≡ get_or placed i place = sym (get_or_from_slice_get placed i place place at) in
    let stands = stands_on event.name 0 rules i place at in
    let is_behind : place ≡ 0 + stands.behind = stands.is in
    let behind : stands.behind ≡ place = omega arith in
    record {
      rule = stands.rule;
      inside = within;
      is = here;
      there = subst (λ (p : ℕ). slice_get rules p ≡ Some stands.rule) behind stands.there;
      once = place_once event.name 0 rules i place at;
      passes = λ fields. passes fields (filter (is_on_event event.name) rules) i stands.rule plain.tests stands.among;
    }

-- ---- an event that has the name

-- a place with the name is one of the list's
pub named_within : (events : List PlainEvent) (place : ℕ) (name : List ℕ) → IsNamedAt events place name → place < length events
named_within [] place name at = cc
named_within (event ∷ events) zero name at = omega arith
named_within (event ∷ events) (suc place) name at = let rest : place < length events = named_within events place name at in omega arith

-- and the event there has it
pub named_as : (events : List PlainEvent) (place : ℕ) (name : List ℕ) (event : PlainEvent) → IsNamedAt events place name → slice_get events place ≡ Some event → event.name ≡ name
named_as events place name event at there =
    let named : Some event.name ≡ Some name = sym (ap (option_map (λ (e : PlainEvent). e.name)) there) ∙ at in
    cc

-- what all events are the one at a place is
pub plain_at : (rules : List OnValue) (events : List PlainEvent) (place : ℕ) (event : PlainEvent) → All (IsPlainEvent rules) events → slice_get events place ≡ Some event → IsPlainEvent rules event
plain_at rules events place event are at =
    subst (IsPlainEvent rules) (get_or_from_slice_get events place event event at) (All-get_or (IsPlainEvent rules) events place event (slice_get_within events place event at) are)

-- ---- one more line

-- it is still kept for the rules when their counts are others that fit them
pub still_made : (rules : List OnValue) (old : RuleLinesValue) (list : Vec RuleLine Global) (counts : List RuleLine) (named fired : ℕ) → vec_len list ≡ length list.items → list.items ≡ old.rules → IsForRules rules old → AllZip IsByTests old.asked counts
    → IsForRules rules (record { asked = old.asked; index = old.index; plain = old.plain; rules = (with_items list counts).items; named = named; fired = fired })
still_made rules old list counts named fired size same made now =
    let now_many : length old.asked ≡ length counts = fits_length IsByTests old.asked counts now in
    let begun_many : length old.asked ≡ length old.rules = fits_length IsByTests old.asked old.rules made.places in
    let as_many : length list.items ≡ length old.rules = ap length same in
    let written : (with_items list counts).items ≡ counts = with_items_is list counts (omega arith) in
    record { asked = made.asked; index = made.index; plain = made.plain; places = subst (λ (l : List RuleLine). AllZip IsByTests old.asked l) (sym written) now }

-- one more line of the event
pub plain_more : (rules : List OnValue) (lines : List LineEvent) (line : LineEvent) (event : PlainEvent) (old new : RuleLinesValue) → IsPlainEvent rules event → event.name ≡ line.name
    → CountsLineOf rules event.name line.fields old.rules new.rules → new.named ≡ old.named + 1 → new.fired ≡ old.fired + 1 → AreRuleLines rules lines old → AreRuleLines rules (lines ++ line ∷ []) new
plain_more rules lines line event old new is named counts more_named more_fired are =
    let on : List ℕ → List OnValue = λ (name : List ℕ). filter (is_on_event name) rules in
    let some : on line.name ≢ [] = subst (λ (name : List ℕ). on name ≢ []) named is.some in
    let none : All (λ (rule : OnValue). rule.tests ≡ []) (on line.name) = subst (λ (name : List ℕ). All (λ (rule : OnValue). rule.tests ≡ []) (on name)) named is.tests in
    let has : has_rule rules line ≡ true = some_any (is_on_event line.name) rules some in
    let fires : is_fired rules line ≡ true = sym (fired_by rules lines line line.fields refl) ∙ any_passes line.fields (on line.name) some none in
    record {
      each = counts lines line (sym named) refl are.each;
      named = more_named ∙ ap (λ n. n + 1) are.named ∙ sym (named_push rules lines line ∙ ap (λ b. count_by (has_rule rules) lines + cond b 1 0) has);
      fired = more_fired ∙ ap (λ n. n + 1) are.fired ∙ sym (fired_push rules lines line ∙ ap (λ b. count_by (is_fired rules) lines + cond b 1 0) fires);
    }
