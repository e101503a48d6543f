-- What the events of a trace tell as one more comes.
use Rattle.std.proofs.Common.{◌≡◌, ◌+◌, true, false, cond, List, [], ◌∷◌, ◌++◌, length, map, sym, ap, ◌∙◌}
use Rattle.std.specs.Prelude.{filter}
use Rattle.std.proofs.lemmas.List.{append-nil, length-append, map_push}
use Rattle.std.proofs.lemmas.List.Elements.{filter-append}
use Rattle.rv_matches.specs.declared.event_facts.TheConstants.{MOST_NAMES}
use Rattle.rv_matches.specs.LateTimes.{Stamped}
use Rattle.rv_matches.specs.inner.LateTimes.{TellsTime, TimesValue, times_of}
use Rattle.rv_matches.specs.LineEvents.{LineEvent}
use Rattle.rv_matches.specs.Times.{is_time}
use Rattle.rv_matches.specs.TraceFacts.{EventFactsValue, event_facts, event_names, counted_names, stamped, stamps_of}
use Rattle.rv_matches.specs.Words.{CountedValue, CountsWord, counted_value}

module _ (lines : List LineEvent) (line : LineEvent) where
  -- one more timestamp, if it can be compared
  stamps_push : stamps_of (lines ++ line ∷ []) ≡ stamps_of lines ++ cond (is_time line.stamp) (stamped line ∷ []) []
  stamps_push =
      ap (filter (λ (s : Stamped). is_time s.stamp)) (map_push stamped lines line)
      ∙ filter-append (λ (s : Stamped). is_time s.stamp) (map stamped lines) (stamped line ∷ [])

  -- one more name
  pub names_push : (old new : CountedValue) → CountsWord line.name old new → old ≡ counted_names lines → new ≡ counted_names (lines ++ line ∷ [])
  names_push old new counts was =
      counts MOST_NAMES (event_names lines) was ∙ ap (counted_value MOST_NAMES) (sym (map_push (λ (l : LineEvent). l.name) lines line))

  module _ (old new : EventFactsValue) (was : old ≡ event_facts lines) (events : new.events ≡ old.events + 1) (names : new.names ≡ counted_names (lines ++ line ∷ [])) where
    -- one more event
    many : new.events ≡ length (lines ++ line ∷ [])
    many = events ∙ ap (λ (e : EventFactsValue). e.events + 1) was ∙ sym (length-append lines (line ∷ []))

    -- the timestamps that were told of
    pub old_times : ◌≡◌ {A = TimesValue} (record { latest = old.latest; late = old.late }) (times_of (stamps_of lines))
    old_times = λ j. record { latest = (was j).latest; late = (was j).late }

    -- an event whose timestamp cannot be compared
    pub told_untimed : is_time line.stamp ≡ false → new.latest ≡ old.latest → new.late ≡ old.late → new ≡ event_facts (lines ++ line ∷ [])
    told_untimed other latest late =
        let same : stamps_of (lines ++ line ∷ []) ≡ stamps_of lines = stamps_push ∙ ap (λ b. stamps_of lines ++ cond b (stamped line ∷ []) []) other ∙ append-nil (stamps_of lines) in
        let times : ◌≡◌ {A = TimesValue} (record { latest = new.latest; late = new.late }) (times_of (stamps_of (lines ++ line ∷ []))) = (λ j. record { latest = latest j; late = late j }) ∙ old_times ∙ ap times_of (sym same) in
        λ j. record { events = many j; names = names j; latest = (times j).latest; late = (times j).late }

    -- one whose timestamp can
    pub told_timed : is_time line.stamp ≡ true → TellsTime (stamped line) (record { latest = old.latest; late = old.late }) (record { latest = new.latest; late = new.late }) → new ≡ event_facts (lines ++ line ∷ [])
    told_timed timed tells =
        let more : stamps_of (lines ++ line ∷ []) ≡ stamps_of lines ++ stamped line ∷ [] = stamps_push ∙ ap (λ b. stamps_of lines ++ cond b (stamped line ∷ []) []) timed in
        let times : ◌≡◌ {A = TimesValue} (record { latest = new.latest; late = new.late }) (times_of (stamps_of (lines ++ line ∷ []))) = tells (stamps_of lines) old_times ∙ ap times_of (sym more) in
        λ j. record { events = many j; names = names j; latest = (times j).latest; late = (times j).late }
