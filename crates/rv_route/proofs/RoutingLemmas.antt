-- One more rule, and one more line.
use Rattle.std.proofs.Common.{◌≡◌, ℕ, ◌+◌, ◌<◌, ◌≤◌, List, [], ◌∷◌, ◌++◌, arith, length, get_or, drop, Result, Ok, Err, refl, sym, ◌∙◌, ap, drop-cons, add-one}
use Rattle.std.specs.Prelude.{All}
use Rattle.std.proofs.lemmas.List.{drop_all, append_assoc}
use Rattle.std.proofs.lemmas.List.Elements.{All-rest}
use Rattle.rv_route.specs.Lanes.{LaneValue, IsLane}
use Rattle.rv_text.specs.declared.refusals.Refusal.{Refusal}
use Rattle.rv_text.specs.declared.refusals.Refused.{Refused}
use Rattle.rv_text.specs.declared.refusals.Refused.TheVariants as refuseds
use Rattle.rv_text.specs.Readings.{Refuses}
use Rattle.rv_text.proofs.ReadingLaws.{and_then-and_then}
use Rattle.rv_trace.specs.declared.line.TraceLine.{TraceLine}
use Rattle.rv_bind.specs.declared.bindings.Monitor.{Monitor}
use Rattle.rv_bind.specs.RuleValues.{OnValue}
use Rattle.rv_route.specs.Asking.{ask_of}
use Rattle.rv_model.specs.declared.record.Task.{Task}
use Rattle.rv_model.specs.Works.{Work}
use Rattle.rv_text.specs.Readings.{and_then}
use Rattle.rv_route.specs.LineByLine.{Routes, answer, line_routes, routes_of, no_routes, work_in, works_from, works_of, routed_of}
use Rattle.rv_route.specs.Routing.{route_of}
use Rattle.rv_route.specs.Fitting.{NumbersAscend}
use Rattle.rv_route.proofs.FiredLemmas.{line_by_line}

-- the rest begins with the element that stands at its place
rest-first : {X : Type 0} (xs : List X) (i : ℕ) (x : X) → i < length xs → x ≡ get_or xs i x → drop i xs ≡ x ∷ drop (i + 1) xs
rest-first xs i x inside is = rw add-one (drop-cons xs i x inside) ∙ ap (λ y. y ∷ drop (i + 1) xs) (sym is)

-- the next rule
pub rule-more : (text : List ℕ) (line : TraceLine) (monitors : List Monitor) (rules : List OnValue) (i : ℕ) (rule : OnValue) (routes : Routes) → i < length rules → rule ≡ get_or rules i rule →
    line_routes text line monitors (drop i rules) routes ≡ and_then (answer routes line rule (ask_of text line monitors rule)) (line_routes text line monitors (drop (i + 1) rules))
unfolding line_routes
rule-more text line monitors rules i rule routes inside is = ap (λ rest. line_routes text line monitors rest routes) (rest-first rules i rule inside is)

-- no rule is left
pub rules-end : (text : List ℕ) (line : TraceLine) (monitors : List Monitor) (rules : List OnValue) (i : ℕ) (routes : Routes) → length rules ≤ i → line_routes text line monitors (drop i rules) routes ≡ Ok routes
unfolding line_routes
rules-end text line monitors rules i routes past = ap (λ rest. line_routes text line monitors rest routes) (drop_all i rules past)

-- the next line
pub line-more : (text : List ℕ) (monitors : List Monitor) (rules : List OnValue) (lines : List TraceLine) (i : ℕ) (none : TraceLine) (routes : Routes) → i < length lines →
    routes_of text monitors rules (drop i lines) routes ≡ and_then (line_routes text (get_or lines i none) monitors rules routes) (routes_of text monitors rules (drop (i + 1) lines))
unfolding routes_of
line-more text monitors rules lines i none routes inside =
    let first : drop i lines ≡ get_or lines i none ∷ drop (i + 1) lines = rw add-one (drop-cons lines i none inside) in
    ap (λ rest. routes_of text monitors rules rest routes) first

-- no line is left
pub lines-end : (text : List ℕ) (monitors : List Monitor) (rules : List OnValue) (lines : List TraceLine) (i : ℕ) (routes : Routes) → length lines ≤ i → routes_of text monitors rules (drop i lines) routes ≡ Ok routes
unfolding routes_of
lines-end text monitors rules lines i routes past = ap (λ rest. routes_of text monitors rules rest routes) (drop_all i lines past)

-- what is read next alike is alike
pub next-alike : (read : Result Routes Refusal) (f g : Routes → Result Routes Refusal) → ((routes : Routes) → f routes ≡ g routes) → and_then read f ≡ and_then read g
next-alike (Ok routes) f g same = same routes
next-alike (Err refusal) f g same = refl

-- one more line goes last
pub line-last : (text : List ℕ) (monitors : List Monitor) (rules : List OnValue) (lines : List TraceLine) (line : TraceLine) (routes : Routes) →
    routes_of text monitors rules (lines ++ line ∷ []) routes ≡ and_then (routes_of text monitors rules lines routes) (line_routes text line monitors rules)
unfolding routes_of
line-last text monitors rules [] line routes = ends (line_routes text line monitors rules routes)
  where
    ends : (read : Result Routes Refusal) → and_then read (λ (routes : Routes). routes_of text monitors rules [] routes) ≡ read
    ends (Ok routes) = refl
    ends (Err refusal) = refl
line-last text monitors rules (first ∷ lines) line routes =
    let read : Result Routes Refusal = line_routes text first monitors rules routes in
    next-alike read (routes_of text monitors rules (lines ++ line ∷ [])) _ (line-last text monitors rules lines line) ∙ sym (and_then-and_then read (routes_of text monitors rules lines) (line_routes text line monitors rules))

-- a refusal stays the refusal, whatever would come next
pub refuses-then : (refused : Refused) (read : Result Routes Refusal) (next : Routes → Result Routes Refusal) → Refuses refused read → Refuses refused (and_then read next)
refuses-then refuseds.Memory read next is = tt
refuses-then (refuseds.Because refusal) read next is = ap (λ r. and_then r next) is

module _ (text : List ℕ) (monitors : List Monitor) (rules : List OnValue) (lines : List TraceLine) where
  -- a refusal of the lines is the refusal of the whole
  pub route-refused : (start : Routes) (refused : Refused) → NumbersAscend lines → start ≡ no_routes → Refuses refused (routes_of text monitors rules lines start) → Refuses refused (route_of monitors rules text lines)
  route-refused start refuseds.Memory ascend same is = tt
  route-refused start (refuseds.Because refusal) ascend same is = line_by_line text monitors rules lines ascend ∙ ap routed_of (ap (routes_of text monitors rules lines) (sym same) ∙ is)

  -- what the lines reach is what the whole comes to
  pub route-done : (start routes : Routes) (tasks : List Task) (works : List Work) → NumbersAscend lines → start ≡ no_routes → routes_of text monitors rules lines start ≡ Ok routes → tasks ≡ routes.tasks → works ≡ works_of routes.lanes → route_of monitors rules text lines ≡ Ok (record { tasks = tasks; works = works })
  route-done start routes tasks works ascend same is tasks_is works_is =
      let done : route_of monitors rules text lines ≡ Ok (record { tasks = routes.tasks; works = works_of routes.lanes }) = line_by_line text monitors rules lines ascend ∙ ap routed_of (ap (routes_of text monitors rules lines) (sym same) ∙ is) in
      rw (tasks_is, works_is) done

-- one more lane
pub works_more : (all works more : List Work) (cpu : ℕ) (lane : LaneValue) (lanes rest : List LaneValue) → lanes ≡ lane ∷ rest → all ≡ works ++ works_from cpu lanes → more ≡ works ++ work_in cpu lane
    → all ≡ more ++ works_from (cpu + 1) rest
works_more all works more cpu lane lanes rest split so_far is =
    so_far ∙ ap (λ (ls : List LaneValue). works ++ works_from cpu ls) split ∙ sym (append_assoc works (work_in cpu lane) (works_from (cpu + 1) rest)) ∙ ap (λ (ws : List Work). ws ++ works_from (cpu + 1) rest) (sym is)

-- behind one lane, the next CPU's number and the lanes that are left still make 64
pub lanes_counted : (cpu : ℕ) (lane : LaneValue) (lanes rest : List LaneValue) → lanes ≡ lane ∷ rest → cpu + length lanes ≡ 64 → cpu + 1 + length rest ≡ 64
lanes_counted cpu lane lanes rest split many = let l : length lanes ≡ length (lane ∷ rest) = ap length split in omega arith

-- the lanes behind one still have turns that name their deliveries
pub lanes_left : (lane : LaneValue) (lanes rest : List LaneValue) → lanes ≡ lane ∷ rest → All IsLane lanes → All IsLane rest
lanes_left lane lanes rest split all = All-rest IsLane lane rest lanes split all
