-- What the lines of a text tell as one more comes.
use Rattle.std.proofs.Common.{◌≡◌, ℕ, ◌+◌, true, false, cond, List, [], ◌∷◌, ◌++◌, map, Option, Some, None, refl, sym, ap, ◌∙◌}
use Rattle.std.specs.Prelude.{filter, filter_map, slice_get}
use Rattle.std.specs.List.{cons_option}
use Rattle.std.specs.Option.{option_or}
use Rattle.std.proofs.lemmas.Bool.{cond_both}
use Rattle.std.proofs.lemmas.List.{append-nil, map-append}
use Rattle.std.proofs.lemmas.List.Elements.{filter-append, filter_map-append}
use Rattle.rv_text.specs.TextLines.{LineText}
use Rattle.rv_matches.specs.TextFacts.{Entries, FirstOf, entries_on, first_of, is_overwritten, is_returning, overwritten, returning_lines, returns_of}
use Rattle.rv_matches.specs.inner.TextSteps.{if_overwritten}
use Rattle.rv_matches.proofs.FirstLemmas.{first_append, first_push}

-- a line that ends in a carriage return comes last, and no other
returning_push : (lines : List LineText) (line : LineText) → map (λ l. l.number) (returning_lines (lines ++ line ∷ [])) ≡ map (λ l. l.number) (returning_lines lines) ++ cond (is_returning line) (line.number ∷ []) []
returning_push lines line =
    ap (map (λ (l : LineText). l.number)) (filter-append is_returning lines (line ∷ []))
    ∙ map-append (λ (l : LineText). l.number) (returning_lines lines) (cond (is_returning line) (line ∷ []) [])
    ∙ ap (λ (ns : List ℕ). map (λ (l : LineText). l.number) (returning_lines lines) ++ ns) (cond_both (is_returning line) (line ∷ []) [] (λ (ls : List LineText). map (λ (l : LineText). l.number) ls ≡ cond (is_returning line) (line.number ∷ []) []) (λ so_it_is. ap (λ b. cond b (line.number ∷ []) []) (sym so_it_is)) (λ it_is_not. ap (λ b. cond b (line.number ∷ []) []) (sym it_is_not)))

-- a line that does not end in one changes nothing
pub returns_stay : (lines : List LineText) (line : LineText) → is_returning line ≡ false → returns_of (lines ++ line ∷ []) ≡ returns_of lines
returns_stay lines line it_is_not =
    ap first_of (returning_push lines line ∙ ap (λ b. map (λ (l : LineText). l.number) (returning_lines lines) ++ cond b (line.number ∷ []) []) it_is_not ∙ append-nil (map (λ (l : LineText). l.number) (returning_lines lines)))

-- one that does is counted, and the first stays the first
pub returns_push : (lines : List LineText) (line : LineText) (new : FirstOf ℕ) → is_returning line ≡ true → new.first ≡ option_or (returns_of lines).first (Some line.number) → new.count ≡ (returns_of lines).count + 1 → new ≡ returns_of (lines ++ line ∷ [])
returns_push lines line new so_it_is first count =
    first_push (map (λ (l : LineText). l.number) (returning_lines lines)) line.number new first count
    ∙ ap first_of (sym (returning_push lines line ∙ ap (λ b. map (λ (l : LineText). l.number) (returning_lines lines) ++ cond b (line.number ∷ []) []) so_it_is))

-- a comment is kept if it says that more was written than is left
kept_comment : (said : Option Entries) → slice_get (filter is_overwritten (cons_option said [])) 0 ≡ if_overwritten said
kept_comment None = refl
kept_comment (Some entries) = cond_both (is_overwritten entries) (entries ∷ []) [] (λ (es : List Entries). slice_get es 0 ≡ cond (is_overwritten entries) (Some entries) None) (λ so_it_is. ap (λ b. cond b (Some entries) None) (sym so_it_is)) (λ it_is_not. ap (λ b. cond b (Some entries) None) (sym it_is_not))

-- the first comment of lines and one more is that of the lines, if they have one
pub overwritten_push : (lines : List LineText) (line : LineText) → slice_get (overwritten (lines ++ line ∷ [])) 0 ≡ option_or (slice_get (overwritten lines) 0) (if_overwritten (entries_on line))
overwritten_push lines line =
    ap (λ (es : List Entries). slice_get (filter is_overwritten es) 0) (filter_map-append entries_on lines (line ∷ []))
    ∙ ap (λ (es : List Entries). slice_get es 0) (filter-append is_overwritten (filter_map entries_on lines) (cons_option (entries_on line) []))
    ∙ first_append (overwritten lines) (filter is_overwritten (cons_option (entries_on line) []))
    ∙ ap (option_or (slice_get (overwritten lines) 0)) (kept_comment (entries_on line))
