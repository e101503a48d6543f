-- What is kept of lines as one more comes.
use Rattle.std.proofs.Common.{◌≡◌, ℕ, Bool, true, false, cond, List, [], ◌∷◌, ◌++◌, length, map, Option, Some, None, Ok, refl, sym, ap, ◌∙◌, subst, append-nil, length-append}
use Rattle.std.specs.Prelude.{filter, filter_map, slice_get}
use Rattle.std.specs.List.{cons_option}
use Rattle.std.proofs.lemmas.List.{map-append}
use Rattle.std.proofs.lemmas.List.Elements.{filter-append, filter_map-append}
use Rattle.rv_text.specs.TextLines.{LineText}
use Rattle.rv_trace.specs.AnyLines.{IsTakenLine}
use Rattle.rv_trace.specs.Lines.{line_of}
use Rattle.rv_trace.specs.declared.line.TraceLine.{TraceLine}
use Rattle.rv_trace.specs.declared.taken.TakenLine.{TakenLine}
use Rattle.rv_bind.specs.declared.bindings.Bindings.{Bindings}
use Rattle.rv_matches.specs.LineEvents.{LineEvent, event_on}
use Rattle.rv_matches.specs.RuleLines.{AreRuleLines, CountsRuleLine, IsForRules}
use Rattle.rv_matches.specs.TextFacts.{TellsTextLine, entries_on, first_of, is_overwritten, is_returning, text_facts}
use Rattle.rv_matches.specs.TraceFacts.{TellsEvent, event_facts}
use Rattle.rv_counts.specs.declared.watch.TraceWatch.{TraceWatch}
use Rattle.rv_counts.specs.Watching.{IsWatch, event_in, event_read, events_in}

-- ---- what a line tells does not depend on where it stands

module _ (number from there end behind : ℕ) (bytes : List ℕ) (lines : List LineText) where
  -- a line, and the same at another place
  abbrev here : LineText
  here = record { number = number; from = from; bytes = bytes; end = end }

  abbrev elsewhere : LineText
  elsewhere = record { number = number; from = there; bytes = bytes; end = behind }

  -- it has one comment
  one_comment : filter_map entries_on (lines ++ here ∷ []) ≡ filter_map entries_on (lines ++ elsewhere ∷ [])
  one_comment = filter_map-append entries_on lines (here ∷ []) ∙ sym (filter_map-append entries_on lines (elsewhere ∷ []))

  -- and one number, if it is told
  one_number : (told : Bool) → map (λ (l : LineText). l.number) (cond told (here ∷ []) []) ≡ map (λ (l : LineText). l.number) (cond told (elsewhere ∷ []) [])
  one_number true = refl
  one_number false = refl

  one_end : map (λ (l : LineText). l.number) (filter is_returning (lines ++ here ∷ [])) ≡ map (λ (l : LineText). l.number) (filter is_returning (lines ++ elsewhere ∷ []))
  one_end =
      let before : List LineText = filter is_returning lines in
      ap (map (λ (l : LineText). l.number)) (filter-append is_returning lines (here ∷ []))
      ∙ map-append (λ (l : LineText). l.number) before (filter is_returning (here ∷ []))
      ∙ ap (λ (ns : List ℕ). map (λ (l : LineText). l.number) before ++ ns) (one_number (is_returning here))
      ∙ sym (map-append (λ (l : LineText). l.number) before (filter is_returning (elsewhere ∷ [])))
      ∙ sym (ap (map (λ (l : LineText). l.number)) (filter-append is_returning lines (elsewhere ∷ [])))

  -- so the text tells the same
  one_text : text_facts (lines ++ here ∷ []) ≡ text_facts (lines ++ elsewhere ∷ [])
  one_text =
      let many : length (lines ++ here ∷ []) ≡ length (lines ++ elsewhere ∷ []) = length-append lines (here ∷ []) ∙ sym (length-append lines (elsewhere ∷ [])) in
      λ i. record { lines = many i; overwritten = slice_get (filter is_overwritten (one_comment i)) 0; returns = first_of (one_end i) }

-- lines of one number and the same bytes tell the same
same_text : (lines : List LineText) (line last : LineText) → line.number ≡ last.number → line.bytes ≡ last.bytes → text_facts (lines ++ line ∷ []) ≡ text_facts (lines ++ last ∷ [])
same_text lines line last number bytes =
    let moved : text_facts (lines ++ line ∷ []) ≡ text_facts (lines ++ record { number = last.number; from = line.from; bytes = last.bytes; end = line.end } ∷ []) =
    λ i. text_facts (lines ++ record { number = number i; from = line.from; bytes = bytes i; end = line.end } ∷ []) in
    moved ∙ one_text last.number line.from last.from line.end last.end last.bytes lines

-- ---- the events of lines and one more

module _ (lines : List LineText) (last : LineText) where
  -- a line that is skipped is no event
  skipped_none : line_of last.bytes 0 last.number ≡ Ok None → events_in (lines ++ last ∷ []) ≡ events_in lines
  skipped_none is =
      filter_map-append event_in lines (last ∷ [])
      ∙ ap (λ (o : Option LineEvent). events_in lines ++ cons_option o []) (ap (event_read last.bytes) is)
      ∙ append-nil (events_in lines)

  -- a line on which an event was read is one more
  read_push : (line : TraceLine) → line_of last.bytes 0 last.number ≡ Ok (Some line) → events_in (lines ++ last ∷ []) ≡ events_in lines ++ event_on last.bytes line ∷ []
  read_push line is =
      filter_map-append event_in lines (last ∷ [])
      ∙ ap (λ (o : Option LineEvent). events_in lines ++ cons_option o []) (ap (event_read last.bytes) is)

-- ---- what is kept

-- a line was taken, and told to what all lines tell
module _ (bindings : Bindings) (lines : List LineText) (text : List ℕ) (taken : TakenLine) (last : LineText) (old new : TraceWatch) (is : IsTakenLine text taken last) (read : line_of text 0 taken.number ≡ Ok taken.found) (was : IsWatch bindings lines old)
    (told : TellsTextLine (record { number = taken.number; from = 0; bytes = text; end = length text }) old.text new.text) where
  -- all lines tell this of it too
  text_more : new.text ≡ text_facts (lines ++ last ∷ [])
  text_more = told lines was.text ∙ same_text lines (record { number = taken.number; from = 0; bytes = text; end = length text }) last (sym is.number) (sym is.bytes)

  -- what was read on it
  reads : (found : Option TraceLine) → taken.found ≡ found → line_of last.bytes 0 last.number ≡ Ok found
  reads found so_it_is = (λ i. line_of (is.bytes i) 0 (is.number i)) ∙ read ∙ ap Ok so_it_is

  -- a skipped one is told no further
  pub watch_skipped : taken.found ≡ None → new.events ≡ old.events → new.rules ≡ old.rules → IsWatch bindings (lines ++ last ∷ []) new
  watch_skipped none events rules =
      let same : events_in (lines ++ last ∷ []) ≡ events_in lines = skipped_none lines last (reads None none) in
      record {
        text = text_more;
        events = events ∙ was.events ∙ ap event_facts (sym same);
        rules = subst (λ (es : List LineEvent). AreRuleLines bindings.rules.items es new.rules) (sym same) (subst (AreRuleLines bindings.rules.items (events_in lines)) (sym rules) was.rules);
        made = subst (IsForRules bindings.rules.items) (sym rules) was.made;
      }

  -- the event of any other is told to both
  pub watch_read : (line : TraceLine) → taken.found ≡ Some line → TellsEvent (event_on text line) old.events new.events → CountsRuleLine bindings.rules.items (event_on text line) old.rules new.rules → IsForRules bindings.rules.items new.rules
      → IsWatch bindings (lines ++ last ∷ []) new
  watch_read line some tells counts made =
      let more : events_in (lines ++ last ∷ []) ≡ events_in lines ++ event_on text line ∷ [] =
      read_push lines last line (reads (Some line) some) ∙ ap (λ (t : List ℕ). events_in lines ++ event_on t line ∷ []) is.bytes in
      record {
        text = text_more;
        events = tells (events_in lines) was.events ∙ ap event_facts (sym more);
        rules = subst (λ (es : List LineEvent). AreRuleLines bindings.rules.items es new.rules) (sym more) (counts (events_in lines) was.rules);
        made = made;
      }
