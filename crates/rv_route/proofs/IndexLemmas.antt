-- A line's rules are those of its event.
use Rattle.std.proofs.Common.{◌≡◌, ℕ, ◌+◌, Bool, true, false, cond, List, [], ◌∷◌, drop, Result, Ok, Err, refl, sym, ap, ◌∙◌, subst}
use Rattle.std.specs.Prelude.{All, filter, bytes_eq}
use Rattle.std.specs.List.{IsAmong}
use Rattle.std.proofs.lemmas.List.Elements.{All-get_or, All-head, All-tail, filter_passes}
use Rattle.rv_text.specs.declared.refusals.Refusal.{Refusal}
use Rattle.rv_text.specs.Readings.{and_then}
use Rattle.rv_trace.specs.declared.line.TraceLine.{TraceLine}
use Rattle.rv_bind.specs.declared.bindings.Monitor.{Monitor}
use Rattle.rv_bind.specs.RuleValues.{OnValue}
use Rattle.rv_route.specs.declared.asking.Ask.{Ask}
use Rattle.rv_route.specs.declared.event.Asked.{Asked}
use Rattle.rv_route.specs.declared.event.Event.{Event}
use Rattle.rv_route.specs.declared.asking.Ask.TheVariants as asks
use Rattle.rv_route.specs.Asking.{text_at, ask_of}
use Rattle.rv_route.specs.inner.Asking.{ask_on}
use Rattle.rv_route.specs.Events.{is_on_event, IsEventOf, HasEvent, IsIndexOf}
use Rattle.rv_route.specs.LineByLine.{Routes, answer, line_routes}
use Rattle.rv_route.proofs.EventLemmas.{same_bytes, At}
use Rattle.rv_route.proofs.RoutingLemmas.{rule-more}

-- ---- the rules on a line's event

module _ (text : List ℕ) (line : TraceLine) (monitors : List Monitor) where
  -- a rule on the line's event asks by its fields
  pub ask-on : (rule : OnValue) → is_on_event (text_at text line.name) rule ≡ true → ask_of text line monitors rule ≡ ask_on (text_at text line.fields) line monitors rule
  unfolding ask_of
  ask-on rule on = rw on refl

  -- a rule on another event asks for nothing
  ask-off : (rule : OnValue) → is_on_event (text_at text line.name) rule ≡ false → ask_of text line monitors rule ≡ asks.Quiet
  unfolding ask_of
  ask-off rule off = rw off refl

  -- two that do the same on all routes do the same after any first result
  then-same : (first : Result Routes Refusal) (f g : Routes → Result Routes Refusal) → ((routes : Routes) → f routes ≡ g routes) → and_then first f ≡ and_then first g
  then-same (Ok routes) f g same = same routes
  then-same (Err refusal) f g same = refl

  -- the rules on other events do nothing
  pub line-on : (rules : List OnValue) (routes : Routes) → line_routes text line monitors rules routes ≡ line_routes text line monitors (filter (is_on_event (text_at text line.name)) rules) routes
  unfolding line_routes
  line-on [] routes = refl
  line-on (rule ∷ rules) routes = go (is_on_event (text_at text line.name) rule) refl (line-on rules)
    where
      go : (on : Bool) → is_on_event (text_at text line.name) rule ≡ on → ((r : Routes) → line_routes text line monitors rules r ≡ line_routes text line monitors (filter (is_on_event (text_at text line.name)) rules) r) →
          and_then (answer routes line rule (ask_of text line monitors rule)) (line_routes text line monitors rules)
          ≡ line_routes text line monitors (cond on (rule ∷ filter (is_on_event (text_at text line.name)) rules) (filter (is_on_event (text_at text line.name)) rules)) routes
      go true on rest = then-same (answer routes line rule (ask_of text line monitors rule)) (line_routes text line monitors rules) (line_routes text line monitors (filter (is_on_event (text_at text line.name)) rules)) rest
      go false off rest = ap (λ ask. and_then (answer routes line rule ask) (line_routes text line monitors rules)) (ask-off rule off) ∙ rest routes

-- ---- the event of a name

module _ (name : List ℕ) (index : List Event) where
  -- an event of the index that has the name asks for the rules that are on it
  pub found-event : (rules : List OnValue) (event : Event) → IsIndexOf rules index → IsAmong index event → event.name ≡ name → IsEventOf rules name event
  found-event rules event of among named =
      let asks : IsEventOf rules event.name event = subst (λ (e : Event). IsEventOf rules e.name e) (sym among.1.1) (All-get_or (λ (e : Event). IsEventOf rules e.name e) index among.0 event among.1.0 of.events) in
      subst (λ (n : List ℕ). IsEventOf rules n event) named asks

  -- where each rule has its event, no rule is on a name without one
  none-on : (rules : List OnValue) → (¬ HasEvent index name) → All (λ (rule : OnValue). HasEvent index rule.event) rules → filter (is_on_event name) rules ≡ []
  none-on [] none has = refl
  none-on (rule ∷ rules) none has = go (is_on_event name rule) refl (none-on rules none (All-tail (λ (r : OnValue). HasEvent index r.event) rule rules has))
    where
      go : (on : Bool) → is_on_event name rule ≡ on → filter (is_on_event name) rules ≡ [] → cond on (rule ∷ filter (is_on_event name) rules) (filter (is_on_event name) rules) ≡ []
      go true on rest = absurd (none (subst (HasEvent index) (sym (same_bytes name rule.event on)) (All-head (λ (r : OnValue). HasEvent index r.event) rule rules has)))
      go false off rest = rest

-- where the index has no event, no rule is on it
pub line-none : (text : List ℕ) (line : TraceLine) (monitors : List Monitor) (rules : List OnValue) (index : List Event) (routes : Routes) → IsIndexOf rules index → (¬ HasEvent index (text_at text line.name)) → line_routes text line monitors rules routes ≡ Ok routes
unfolding line_routes
line-none text line monitors rules index routes of none =
    line-on text line monitors rules routes ∙ ap (λ (rs : List OnValue). line_routes text line monitors rs routes) (none-on (text_at text line.name) index rules none of.has)

-- ---- what the rules of a line's event do

-- the next rule of the line's event
pub fired : (text : List ℕ) (line : TraceLine) (monitors : List Monitor) (all : List OnValue) (names : List (List ℕ)) (event : List ℕ) (i : ℕ) (asked : Asked) (rule : OnValue) (ask : Ask) (routes : Routes) → bytes_eq (text_at text line.name) event ≡ true
    → (at : At all names (filter (is_on_event event) all) i asked) → rule ≡ at.rule → ask ≡ ask_on (text_at text line.fields) line monitors rule
    → line_routes text line monitors (drop i (filter (is_on_event event) all)) routes ≡ and_then (answer routes line rule ask) (line_routes text line monitors (drop (i + 1) (filter (is_on_event event) all)))
fired text line monitors all names event i asked rule ask routes same at rule_is ask_is =
    let those = filter (is_on_event event) all in
    let passes : is_on_event event at.rule ≡ true = subst (λ (r : OnValue). is_on_event event r ≡ true) (sym at.is) (filter_passes (is_on_event event) all i at.rule at.inside) in
    let named : text_at text line.name ≡ event = same_bytes (text_at text line.name) event same in
    let on : is_on_event (text_at text line.name) at.rule ≡ true = ap (λ (n : List ℕ). is_on_event n at.rule) named ∙ passes in
    let asks : ask_of text line monitors at.rule ≡ ask = ask-on text line monitors at.rule on ∙ ap (ask_on (text_at text line.fields) line monitors) (sym rule_is) ∙ sym ask_is in
    rule-more text line monitors those i at.rule routes at.inside at.is
    ∙ ap (λ (a : Ask). and_then (answer routes line at.rule a) (line_routes text line monitors (drop (i + 1) those))) asks
    ∙ ap (λ (r : OnValue). and_then (answer routes line r ask) (line_routes text line monitors (drop (i + 1) those))) (sym rule_is)

-- all rules of the line's event are all that do anything
pub line-event : (text : List ℕ) (line : TraceLine) (monitors : List Monitor) (rules : List OnValue) (event : List ℕ) (routes : Routes) → text_at text line.name ≡ event → line_routes text line monitors (filter (is_on_event event) rules) routes ≡ line_routes text line monitors rules routes
line-event text line monitors rules event routes named = ap (λ (n : List ℕ). line_routes text line monitors (filter (is_on_event n) rules) routes) (sym named) ∙ sym (line-on text line monitors rules routes)
