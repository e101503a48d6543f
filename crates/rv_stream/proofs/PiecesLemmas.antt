-- A line more of a text that is routed as it is read.
use Rattle.std.proofs.Common.{◌≡◌, ℕ, ◌+◌, ◌-◌, ◌<◌, ◌≤◌, List, [], ◌∷◌, ◌++◌, length, take, drop, get_or, refl, sym, ap, ◌∙◌, subst, arith, append_assoc, take-append-drop, length-append}
use Rattle.std.specs.Prelude.{All, Option, Some, None, IfSome, Result, Ok, Err}
use Rattle.std.proofs.lemmas.List.{get_or-append_right}
use Rattle.std.proofs.Math.ListN.{get_or-append}
use Rattle.rv_text.specs.declared.refusals.Refusal.{Refusal}
use Rattle.rv_text.specs.declared.refusals.Refused.{Refused}
use Rattle.rv_text.specs.declared.refusals.Refused.TheVariants as refuseds
use Rattle.rv_text.specs.Places.{between}
use Rattle.rv_text.specs.Readings.{Refuses, and_then}
use Rattle.rv_text.specs.TextLines.{lines_of, lines_from, lines_at, select}
use Rattle.rv_text.specs.inner.LinePlaces.{StandsIn}
use Rattle.rv_text.proofs.LinesStand.{lines_of-stand}
use Rattle.rv_text.proofs.ReadingLaws.{Refuses-and_then, Refuses-same, and_then-ok}
use Rattle.rv_trace.specs.declared.line.TraceLine.{TraceLine}
use Rattle.rv_trace.specs.Lines.{LiesIn, moved_line}
use Rattle.rv_trace.specs.Streams as streams
use Rattle.rv_trace.specs.Streams.{Stream, Adds, TakesLine, AnswersLine, part_read}
use Rattle.rv_trace.specs.Traces.{trace_of, all_read}
use Rattle.rv_trace.proofs.TakenLemmas.{adds-nothing, takes-read}
use Rattle.rv_trace.proofs.TraceLemmas.{trace_of-lies}
use Rattle.rv_bind.specs.declared.bindings.Bindings.{Bindings}
use Rattle.rv_route.specs.Fitting.{NumbersAscend}
use Rattle.rv_route.specs.Routers.{RouterValue, IsFor, RoutesLine, refusal_of}
use Rattle.rv_route.specs.LineByLine.{Routes, GivesRoutes, routes_of, line_routes, no_routes, routed_of, works_of}
use Rattle.rv_route.specs.Routing.{RoutedValue, route_of}
use Rattle.rv_route.proofs.FiredLemmas.{line_by_line}
use Rattle.rv_route.proofs.MoveLemmas.{routes_of-more, line_routes-moved}
use Rattle.rv_route.proofs.RoutingLemmas.{line-last}
use Rattle.rv_stream.specs.inner.Pieces.{passed_text, RoutedAs, IsRouted}
use Rattle.rv_trace.proofs.AscendLemmas.{trace_ascends}

module _ (bindings : Bindings) where
  -- the front of a text routes the same
  prefix : (fed : List ℕ) (i : ℕ) (lines : List TraceLine) → All (LiesIn (take i fed)) lines → routes_of fed bindings.monitors.items bindings.rules.items lines no_routes ≡ routes_of (take i fed) bindings.monitors.items bindings.rules.items lines no_routes
  prefix fed i lines lie = ap (λ (t : List ℕ). routes_of t bindings.monitors.items bindings.rules.items lines no_routes) (sym (take-append-drop i fed)) ∙ routes_of-more (take i fed) (drop i fed) bindings.monitors.items bindings.rules.items lines no_routes lie

  -- what holds of all lines holds of the first of them
  front_of : (P : TraceLine → Type 0) (xs ys : List TraceLine) → All P (xs ++ ys) → All P xs
  front_of P xs ys all i d within = let many : length (xs ++ ys) ≡ length xs + length ys = length-append xs ys in subst P (get_or-append xs ys d i within) (all i d (omega arith))

  -- what holds of all elements holds of the last one
  last_of : {X : Type 0} (P : X → Type 0) (xs ys : List X) (x : X) → All P (xs ++ (ys ++ x ∷ [])) → P x
  last_of P xs ys x all =
      let at : ℕ = length xs + length ys in
      let many : length (xs ++ (ys ++ x ∷ [])) ≡ length xs + (length ys + 1) = length-append xs (ys ++ x ∷ []) ∙ ap (λ n. length xs + n) (length-append ys (x ∷ [])) in
      let is : get_or (xs ++ (ys ++ x ∷ [])) at x ≡ x =
      ap (λ l. get_or l at x) (sym (append_assoc xs ys (x ∷ []))) ∙ get_or-append_right (xs ++ ys) (x ∷ []) at at x (length-append xs ys) (omega arith) ∙ (let none : at - at ≡ 0 = omega arith in ap (λ n. get_or (x ∷ []) n x) none) in
      subst P is (all at x (omega arith))

  -- behind ascending lines comes a line of a higher number
  behind : (lines : List TraceLine) (m x : TraceLine) → NumbersAscend ((lines ++ m ∷ []) ++ x ∷ []) → m.number < x.number
  behind lines m x ascend =
      let many : length ((lines ++ m ∷ []) ++ x ∷ []) ≡ length lines + 1 + 1 = length-append (lines ++ m ∷ []) (x ∷ []) ∙ ap (λ n. n + 1) (length-append lines (m ∷ [])) in
      let n : ℕ = length lines in
      let first : get_or ((lines ++ m ∷ []) ++ x ∷ []) n m ≡ m =
      ap (λ l. get_or l n m) (append_assoc lines (m ∷ []) (x ∷ [])) ∙ get_or-append_right lines (m ∷ x ∷ []) n n m refl (omega arith) ∙ (let none : n - n ≡ 0 = omega arith in ap (λ k. get_or (m ∷ x ∷ []) k m) none) in
      let second : get_or ((lines ++ m ∷ []) ++ x ∷ []) (n + 1) m ≡ x =
      get_or-append_right (lines ++ m ∷ []) (x ∷ []) (n + 1) (n + 1) m (length-append lines (m ∷ [])) (omega arith) ∙ (let none : n + 1 - (n + 1) ≡ 0 = omega arith in ap (λ k. get_or (x ∷ []) k m) none) in
      let a : (get_or ((lines ++ m ∷ []) ++ x ∷ []) n m).number ≡ m.number = ap (λ (l : TraceLine). l.number) first in
      let b : (get_or ((lines ++ m ∷ []) ++ x ∷ []) (n + 1) m).number ≡ x.number = ap (λ (l : TraceLine). l.number) second in
      let lt = ascend n (n + 1) m (omega arith) (omega arith) in
      omega arith

  -- a line's step, from what was routed before it
  routed-step : (before : Result Routes Refusal) (old new : RouterValue) (result : Result (Unit {0}) Refused) (step : Routes → Result Routes Refusal)
      → RoutedAs old.refused before old.routes → (old.refused ≡ None → GivesRoutes result new.routes (step old.routes)) → ((refused : Refused) → old.refused ≡ Some refused → result ≡ Err refused) → new.refused ≡ refusal_of result
      → RoutedAs new.refused (and_then before step) new.routes
  routed-step before old new result step so_far first again noted = go old.refused refl result refl so_far
    where
      go : (refused : Option Refused) → old.refused ≡ refused → (r : Result (Unit {0}) Refused) → result ≡ r → RoutedAs refused before old.routes → RoutedAs new.refused (and_then before step) new.routes
      go None is (Ok done) r_is routed =
          let reached : GivesRoutes result new.routes (step old.routes) = first is in
          rw (noted, r_is) (and_then-ok before old.routes step routed ∙ subst (λ (q : Result (Unit {0}) Refused). GivesRoutes q new.routes (step old.routes)) r_is reached)
      go None is (Err fault) r_is routed =
          let reached : GivesRoutes result new.routes (step old.routes) = first is in
          rw (noted, r_is) (Refuses-same fault (step old.routes) (and_then before step) (and_then-ok before old.routes step routed) (subst (λ (q : Result (Unit {0}) Refused). GivesRoutes q new.routes (step old.routes)) r_is reached))
      go (Some fault) is r r_is routed = rw (noted, again fault is) (Refuses-and_then fault before step routed)

  -- one line more
  pub routed-line : (fed whole text : List ℕ) (i j : ℕ) (line : TraceLine) (old new : RouterValue) (late late' : Option Refused) (result : Result (Unit {0}) Refused)
      → IsRouted bindings (take i fed) old late → TakesLine (take i fed) (take j fed) whole text line → LiesIn text line → RoutesLine bindings text line old result new → IsFor bindings new → late' ≡ new.refused
      → IsRouted bindings (take j fed) new late'
  routed-line fed whole text i j line old new late late' result r taken lies takes made late_is =
      let b : List ℕ = take i fed in
      let a : List ℕ = take j fed in
      let m : TraceLine = moved_line taken.last.from line in
      let read : trace_of a ≡ Ok (r.lines ++ m ∷ []) = takes-read b a whole text line r.lines taken r.read in
      let lies_a : All (LiesIn a) r.lines = front_of (LiesIn a) r.lines (m ∷ []) (trace_of-lies a (r.lines ++ m ∷ []) read) in
      let same : routes_of a bindings.monitors.items bindings.rules.items r.lines no_routes ≡ routes_of b bindings.monitors.items bindings.rules.items r.lines no_routes =
      sym (prefix fed j r.lines lies_a) ∙ prefix fed i r.lines (trace_of-lies b r.lines r.read) in
      let stands : StandsIn a taken.last = last_of (StandsIn a) (lines_of b) taken.adds.skipped taken.last (subst (All (StandsIn a)) taken.adds.are (lines_of-stand a)) in
      let own : text ≡ between a taken.last.from (taken.last.from + length text) = subst (λ (t : List ℕ). t ≡ between a taken.last.from (taken.last.from + length t)) (sym taken.bytes) stands.bytes in
      let step : Routes → Result Routes Refusal = line_routes a m bindings.monitors.items bindings.rules.items in
      let first : old.refused ≡ None → GivesRoutes result new.routes (step old.routes) =
      λ none. subst (GivesRoutes result new.routes) (sym (line_routes-moved a text taken.last.from line bindings.monitors.items bindings.rules.items old.routes lies own)) (takes.first none) in
      record {
        lines = r.lines ++ m ∷ [];
        read = read;
        made = made;
        next = λ x ascend. let lt = behind r.lines m x ascend in let is = takes.next in omega arith;
        late_is = late_is;
        routed =
            subst (λ (q : Result Routes Refusal). RoutedAs new.refused q new.routes)
            (sym (line-last a bindings.monitors.items bindings.rules.items r.lines m no_routes ∙ ap (λ (q : Result Routes Refusal). and_then q step) same))
            (routed-step (routes_of b bindings.monitors.items bindings.rules.items r.lines no_routes) old new result step r.routed first takes.again takes.noted);
      }

  -- the next line has a higher number than those that were routed
  pub line-ascends : (whole text before after : List ℕ) (line : TraceLine) (router : RouterValue) (late : Option Refused) → IsRouted bindings before router late → TakesLine before after whole text line → router.next ≤ line.number
  line-ascends whole text before after line router late r taken = r.next (moved_line taken.last.from line) (trace_ascends after (r.lines ++ moved_line taken.last.from line ∷ []) (takes-read before after whole text line r.lines taken r.read))

  -- what a call took, where it took a line
  line-taken : (old new : Stream) (found : Option TraceLine) (line : TraceLine) → found ≡ Some line → streams.TakesNextLine old new (Ok found) → TakesLine (take old.taken old.fed) (take new.taken old.fed) (part_read old.ended old.fed) new.text line
  line-taken old new found line is t =
      subst (λ (fed : List ℕ). TakesLine (take old.taken old.fed) (take new.taken fed) (part_read old.ended old.fed) new.text line) t.fed
      (subst (λ (o : Option TraceLine). AnswersLine (take old.taken old.fed) (take new.taken new.fed) (part_read old.ended old.fed) new.text (Ok o)) is t.answers)

  -- its number is not below that of the next line
  pub taken-ascends : (old new : Stream) (found : Option TraceLine) (line : TraceLine) (router : RouterValue) (late : Option Refused) → found ≡ Some line → streams.TakesNextLine old new (Ok found) → IsRouted bindings (passed_text old) router late → router.next ≤ line.number
  taken-ascends old new found line router late is t r = line-ascends (part_read old.ended old.fed) new.text (passed_text old) (take new.taken old.fed) line router late r (line-taken old new found line is t)

  -- it was routed
  pub taken-routed : (old new : Stream) (found : Option TraceLine) (line : TraceLine) (text : List ℕ) (router router' : RouterValue) (late late' : Option Refused) (result : Result (Unit {0}) Refused)
      → found ≡ Some line → streams.TakesNextLine old new (Ok found) → IfSome found (LiesIn new.text) → text ≡ new.text → IsRouted bindings (passed_text old) router late → RoutesLine bindings text line router result router' → IsFor bindings router' → late' ≡ router'.refused
      → IsRouted bindings (passed_text new) router' late'
  taken-routed old new found line text router router' late late' result is t lies same r takes made late_is =
      let own : LiesIn new.text line = subst (λ (o : Option TraceLine). IfSome o (LiesIn new.text)) is lies in
      let took : RoutesLine bindings new.text line router result router' = subst (λ (x : List ℕ). RoutesLine bindings x line router result router') same takes in
      subst (λ (fed : List ℕ). IsRouted bindings (take new.taken fed) router' late') (sym t.fed)
      (routed-line old.fed (part_read old.ended old.fed) new.text old.taken new.taken line router router' late late' result r (line-taken old new found line is t) own took made late_is)

  -- where a line was routed, no refusal was given before it either
  pub late-stays : (text : List ℕ) (line : TraceLine) (old new : RouterValue) (late : Option Refused) (result : Result (Unit {0}) Refused) (done : Unit {0}) → result ≡ Ok done → late ≡ old.refused → RoutesLine bindings text line old result new → late ≡ new.refused
  late-stays text line old new late result done ok late_is takes = go old.refused refl
    where
      go : (refused : Option Refused) → old.refused ≡ refused → late ≡ new.refused
      go None is = late_is ∙ is ∙ sym (takes.noted ∙ ap refusal_of ok)
      go (Some fault) is = let both : Ok done ≡ Err fault = sym ok ∙ takes.again fault is in cc

  -- lines that are skipped route nothing
  pub adds-routed : (fed : List ℕ) (i j : ℕ) (router : RouterValue) (late : Option Refused) → Adds (take i fed) (take j fed) [] → IsRouted bindings (take i fed) router late → IsRouted bindings (take j fed) router late
  adds-routed fed i j router late adds r =
      let a : List ℕ = take j fed in
      let read : trace_of a ≡ Ok r.lines = adds-nothing (take i fed) a r.lines adds r.read in
      let same : routes_of a bindings.monitors.items bindings.rules.items r.lines no_routes ≡ routes_of (take i fed) bindings.monitors.items bindings.rules.items r.lines no_routes =
      sym (prefix fed j r.lines (trace_of-lies a r.lines read)) ∙ prefix fed i r.lines (trace_of-lies (take i fed) r.lines r.read) in
      record {
        lines = r.lines;
        read = read;
        made = r.made;
        next = r.next;
        late_is = r.late_is;
        routed = subst (λ (q : Result Routes Refusal). RoutedAs router.refused q router.routes) (sym same) r.routed;
      }

  -- nothing was routed of no text
  pub none_routed : (router : RouterValue) (late : Option Refused) → IsFor bindings router → router.routes ≡ no_routes → router.next ≡ 0 → router.refused ≡ None → late ≡ None → IsRouted bindings [] router late
  unfolding trace_of lines_of lines_from select lines_at all_read routes_of
  none_routed router late made routes next refused late_is = record {
    lines = [];
    read = refl;
    made = made;
    next = λ line ascend. omega arith;
    late_is = late_is ∙ sym refused;
    routed = subst (λ (r : Option Refused). RoutedAs r (Ok no_routes) router.routes) (sym refused) (ap (λ (r : Routes). Ok r) (sym routes));
  }

  -- all of a text was routed
  pub all-routed : (text : List ℕ) (router : RouterValue) (late : Option Refused) (value : RoutedValue) → late ≡ None → IsRouted bindings text router late → value ≡ record { tasks = router.routes.tasks; works = works_of router.routes.lanes }
      → and_then (trace_of text) (route_of bindings.monitors.items bindings.rules.items text) ≡ Ok value
  all-routed text router late value none r is =
      let routed : routes_of text bindings.monitors.items bindings.rules.items r.lines no_routes ≡ Ok router.routes =
      subst (λ (o : Option Refused). RoutedAs o (routes_of text bindings.monitors.items bindings.rules.items r.lines no_routes) router.routes) (sym r.late_is ∙ none) r.routed in
      and_then-ok (trace_of text) r.lines (route_of bindings.monitors.items bindings.rules.items text) r.read
      ∙ line_by_line text bindings.monitors.items bindings.rules.items r.lines (trace_ascends text r.lines r.read) ∙ ap routed_of routed ∙ ap (λ (v : RoutedValue). Ok v) (sym is)

  -- a line was refused
  pub late-refused : (text : List ℕ) (router : RouterValue) (late : Option Refused) (fault : Refused) → late ≡ Some fault → IsRouted bindings text router late → Refuses fault (and_then (trace_of text) (route_of bindings.monitors.items bindings.rules.items text))
  late-refused text router late fault is r =
      let routed : Refuses fault (routes_of text bindings.monitors.items bindings.rules.items r.lines no_routes) =
      subst (λ (o : Option Refused). RoutedAs o (routes_of text bindings.monitors.items bindings.rules.items r.lines no_routes) router.routes) (sym r.late_is ∙ is) r.routed in
      Refuses-same fault (route_of bindings.monitors.items bindings.rules.items text r.lines) (and_then (trace_of text) (route_of bindings.monitors.items bindings.rules.items text))
      (and_then-ok (trace_of text) r.lines (route_of bindings.monitors.items bindings.rules.items text) r.read)
      (Refuses-same fault (routed_of (routes_of text bindings.monitors.items bindings.rules.items r.lines no_routes)) (route_of bindings.monitors.items bindings.rules.items text r.lines)
      (line_by_line text bindings.monitors.items bindings.rules.items r.lines (trace_ascends text r.lines r.read))
      (refuses-routed fault (routes_of text bindings.monitors.items bindings.rules.items r.lines no_routes) routed))
    where
      refuses-routed : (f : Refused) (q : Result Routes Refusal) → Refuses f q → Refuses f (routed_of q)
      refuses-routed refuseds.Memory q e = tt
      refuses-routed (refuseds.Because refusal) q e = ap routed_of e
