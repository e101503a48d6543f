-- Each delivery of routed works is one of a rule.
use Rattle.std.proofs.Common.{◌≡◌, ℕ, ◌+◌, ◌==◌, not, List, [], ◌∷◌, length, map, get_or, Result, Ok, Err, refl, subst}
use Rattle.std.specs.Prelude.{All, Any, Contains, IfOk, Option, Some, None}
use Rattle.std.specs.List.{range_with_len}
use Rattle.std.proofs.lemmas.List.Elements.{All-nil, All-cons, All-head, All-tail, All-append, All-filter, All-map, All-contains_itself}
use Rattle.rv_text.specs.declared.refusals.Refusal.{Refusal}
use Rattle.rv_text.specs.Readings.{and_then}
use Rattle.rv_trace.specs.declared.line.TraceLine.{TraceLine}
use Rattle.rv_model.specs.declared.record.Task.{Task}
use Rattle.rv_model.specs.declared.work.Delivery.{Delivery}
use Rattle.rv_model.specs.Works.{Work}
use Rattle.rv_bind.specs.declared.bindings.Monitor.{Monitor}
use Rattle.rv_bind.specs.RuleValues.{OnValue}
use Rattle.rv_route.specs.Asking.{ask_of}
use Rattle.rv_route.specs.Routing.{Firing, LineDelivery, is_asked, firings_on, firings_of, tasks_of, delivery_by, deliveries_by, deliveries_on, cpu_work, cpu_works, first_fault, RoutedValue, routed_by, unless_refused, route_of}
use Rattle.rv_route.specs.Fitting.{IsDeliveryOf, FromRules}

module _ (monitors : List Monitor) (rules : List OnValue) (text : List ℕ) where
  -- the firing is of one of the rules
  abbrev IsOfRules : Firing → Type 0
  IsOfRules f = Contains rules f.rule

  -- the delivery is one of some rule
  abbrev IsOfRule : Delivery → Type 0
  IsOfRule d = Any (IsDeliveryOf d) rules

  -- what fires on a line is one of the rules
  on-rules : (line : TraceLine) → All IsOfRules (firings_on monitors rules text line)
  on-rules line =
      All-filter (λ (f : Firing). is_asked f.ask) IsOfRules (map (λ (rule : OnValue). record { line = line; rule = rule; ask = ask_of text line monitors rule }) rules)
      (All-map IsOfRules (λ (rule : OnValue). record { line = line; rule = rule; ask = ask_of text line monitors rule }) rules (All-contains_itself rules))

  -- so it is on all lines
  all-rules : (lines : List TraceLine) → All IsOfRules (firings_of monitors rules text lines)
  all-rules [] = All-nil IsOfRules
  all-rules (line ∷ lines) = All-append IsOfRules (firings_on monitors rules text line) (firings_of monitors rules text lines) (on-rules line) (all-rules lines)

  -- and each delivery is one of a rule
  deliveries-rules : (tasks : List Task) (order : ℕ) (firings : List Firing) → All IsOfRules firings → All (λ (x : LineDelivery). IsOfRule x.delivery) (deliveries_by tasks order firings)
  deliveries-rules tasks order [] all = All-nil (λ (x : LineDelivery). IsOfRule x.delivery)
  deliveries-rules tasks order (f ∷ firings) all =
      All-cons (λ (x : LineDelivery). IsOfRule x.delivery) (delivery_by tasks order f) (deliveries_by tasks (order + 1) firings) (of_rule (All-head IsOfRules f firings all)) (deliveries-rules tasks (order + 1) firings (All-tail IsOfRules f firings all))
    where
      of_rule : Contains rules f.rule → IsOfRule (delivery_by tasks order f).delivery
      of_rule (place, below, is) = (place, f.rule, below, is, (refl, refl))

  -- so it is in the works
  works-rules : (lines : List TraceLine) (all : List LineDelivery) → All (λ (x : LineDelivery). IsOfRule x.delivery) all → FromRules rules (cpu_works lines all)
  works-rules lines all are = All-filter (λ (w : Work). not (length w.deliveries == 0)) InWork (map (cpu_work lines all) (range_with_len 0 64)) (All-map InWork (cpu_work lines all) (range_with_len 0 64) (λ k d within. of_cpu (get_or (range_with_len 0 64) k d)))
    where
      InWork : Work → Type 0
      InWork w = All IsOfRule w.deliveries

      of_cpu : (cpu : ℕ) → InWork (cpu_work lines all cpu)
      of_cpu cpu = All-map IsOfRule (λ (x : LineDelivery). x.delivery) (deliveries_on cpu all) (All-filter (λ (x : LineDelivery). x.line.cpu == cpu) (λ (x : LineDelivery). IsOfRule x.delivery) all are)

-- each delivery of what lines are routed to is one of a rule
pub from_rules : (text : List ℕ) (monitors : List Monitor) (rules : List OnValue) (lines : List TraceLine) → IfOk (route_of monitors rules text lines) (λ value. FromRules rules value.works)
unfolding route_of
from_rules text monitors rules lines = go (first_fault [] all)
  where
    all : List Firing
    all = firings_of monitors rules text lines

    go : (fault : Option Refusal) → IfOk (unless_refused fault (routed_by lines all)) (λ (value : RoutedValue). FromRules rules value.works)
    go None = works-rules monitors rules text lines (deliveries_by (tasks_of all) 0 all) (deliveries-rules monitors rules text (tasks_of all) 0 all (all-rules monitors rules text lines))
    go (Some refusal) = tt

-- so it is of lines that are read first
pub read_from_rules : (text : List ℕ) (monitors : List Monitor) (rules : List OnValue) (read : Result (List TraceLine) Refusal) (value : RoutedValue) → and_then read (route_of monitors rules text) ≡ Ok value → FromRules rules value.works
read_from_rules text monitors rules (Ok lines) value is = subst (λ (r : Result RoutedValue Refusal). IfOk r (λ v. FromRules rules v.works)) is (from_rules text monitors rules lines)
read_from_rules text monitors rules (Err refusal) value is = cc
