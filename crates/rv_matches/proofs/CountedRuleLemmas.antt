-- What lines are to a rule as one more comes: one of its event on which it fires, one on which it does not, and one of another event.
use Rattle.std.proofs.Common.{◌≡◌, ℕ, ◌+◌, true, false, cond, eqb, ◌&&◌, inl, inr, List, [], ◌∷◌, ◌++◌, length, map, replicate, refl, sym, ap, ap₂, ◌∙◌, subst, arith}
use Rattle.std.specs.Prelude.{bytes_eq}
use Rattle.std.specs.List.{list_all}
use Rattle.std.proofs.lemmas.Bool.{cases_Bool, ne_eqb, and_left}
use Rattle.std.proofs.lemmas.List.{append-nil, length-append}
use Rattle.std.proofs.lemmas.List.Elements.{filter-append}
use Rattle.std.proofs.lemmas.List.Sums.{sum_by_push}
use Rattle.rv_bind.specs.declared.bindings.Test.{Test}
use Rattle.rv_bind.specs.RuleValues.{OnValue}
use Rattle.rv_route.specs.Asking.{holds}
use Rattle.rv_matches.specs.declared.rule_lines.RuleLine.{RuleLine}
use Rattle.rv_matches.specs.LineEvents.{LineEvent, fires_on, is_of}
use Rattle.rv_matches.specs.RuleLines.{IsRuleLine, RuleCounts, field_counts, field_told, fired, held, holds_told, kept_fields, lines_of_event, rule_counts, unless_fired}
use Rattle.rv_matches.specs.inner.RuleSteps.{CountsFields, CountsTests}
use Rattle.rv_matches.proofs.WordLemmas.{itself, no_more}

-- a list with no items
none_left : {X : Type 0} (xs ys : List X) → length xs ≡ length ys → ys ≡ [] → xs ≡ []
none_left [] ys same none = refl
none_left (x ∷ xs) ys same none = absurd (let many : length ys ≡ 0 = ap length none in omega arith)

-- what is told of a rule by the lines of its event and how often it fired
abbrev told_by : OnValue → List LineEvent → ℕ → RuleCounts
told_by rule own fires = record {
  lines = length own;
  fires = fires;
  tests = unless_fired fires (map (λ test. record { test = test; holds = held own test }) rule.tests);
  fields = unless_fired fires (map (field_counts own) (kept_fields rule.tests));
}

-- how often tests hold
told_tests : (lines : List LineEvent) (tests : List Test) → map holds_told (map (λ test. record { test = test; holds = held lines test }) tests) ≡ map (held lines) tests
told_tests lines [] = refl
told_tests lines (test ∷ tests) = ap (λ (ns : List ℕ). held lines test ∷ ns) (told_tests lines tests)

-- on no lines no test holds
pub none_held : (tests : List Test) (counts : List ℕ) (many : ℕ) → many ≡ length tests → counts ≡ replicate many 0 → counts ≡ map holds_told (map (λ test. record { test = test; holds = held [] test }) tests)
none_held tests counts many is zeros = zeros ∙ ap (λ n. replicate n 0) is ∙ all tests
  where
    all : (ts : List Test) → replicate (length ts) 0 ≡ map holds_told (map (λ test. record { test = test; holds = held [] test }) ts)
    all [] = refl
    all (t ∷ ts) = ap (λ (ns : List ℕ). 0 ∷ ns) (all ts)

module _ (rule : OnValue) (lines : List LineEvent) (line : LineEvent) where
  -- a line of the event comes last, and no other
  own_push : lines_of_event (lines ++ line ∷ []) rule.event ≡ lines_of_event lines rule.event ++ cond (is_of rule.event line) (line ∷ []) []
  own_push = filter-append (is_of rule.event) lines (line ∷ [])

  -- the rule fires once more, or not
  fired_push : fired (lines ++ line ∷ []) rule ≡ fired lines rule + cond (fires_on rule line) 1 0
  fired_push = sum_by_push (λ l. cond (fires_on rule l) 1 0) lines line

  -- a line of another event changes nothing
  pub other_event : is_of rule.event line ≡ false → rule_counts (lines ++ line ∷ []) rule ≡ rule_counts lines rule
  other_event other =
      let own : lines_of_event (lines ++ line ∷ []) rule.event ≡ lines_of_event lines rule.event = own_push ∙ ap (λ b. lines_of_event lines rule.event ++ cond b (line ∷ []) []) other ∙ append-nil (lines_of_event lines rule.event) in
      let still : fired (lines ++ line ∷ []) rule ≡ fired lines rule = fired_push ∙ no_more (fired lines rule) (fires_on rule line) (and_left (is_of rule.event line) (list_all (holds line.fields) rule.tests) other) in
      ap₂ (told_by rule) own still

  module _ (named : line.name ≡ rule.event) (old new : RuleLine) (was : IsRuleLine (rule_counts lines rule) old) (counted : new.lines ≡ old.lines + 1) where
    -- the line is of the event
    is_own : is_of rule.event line ≡ true
    is_own = ap (λ (n : List ℕ). bytes_eq n rule.event) named ∙ itself rule.event

    own_more : lines_of_event (lines ++ line ∷ []) rule.event ≡ lines_of_event lines rule.event ++ line ∷ []
    own_more = own_push ∙ ap (λ b. lines_of_event lines rule.event ++ cond b (line ∷ []) []) is_own

    more_lines : new.lines ≡ length (lines_of_event (lines ++ line ∷ []) rule.event)
    more_lines = counted ∙ ap (λ n. n + 1) was.lines ∙ sym (ap length own_more ∙ length-append (lines_of_event lines rule.event) (line ∷ []))

    -- whether the rule fires is whether its tests hold
    fires_by : fires_on rule line ≡ list_all (holds line.fields) rule.tests
    fires_by = ap (λ b. b && list_all (holds line.fields) rule.tests) is_own

    -- a line on which the rule fires
    pub firing : list_all (holds line.fields) rule.tests ≡ true → new.fires ≡ old.fires + 1 → new.holds.items ≡ [] → new.fields.items ≡ [] → IsRuleLine (rule_counts (lines ++ line ∷ []) rule) new
    firing so_it_is fires none none' =
        let many : fired (lines ++ line ∷ []) rule ≡ fired lines rule + 1 = fired_push ∙ ap (λ b. fired lines rule + cond b 1 0) (fires_by ∙ so_it_is) in
        let some : eqb (fired (lines ++ line ∷ []) rule) 0 ≡ false = ne_eqb (fired (lines ++ line ∷ []) rule) 0 (λ e. absurd (omega arith)) in
        record {
          lines = more_lines;
          fires = fires ∙ ap (λ n. n + 1) was.fires ∙ sym many;
          holds = none ∙ ap (λ b. map holds_told (cond b (map (λ test. record { test = test; holds = held (lines_of_event (lines ++ line ∷ []) rule.event) test }) rule.tests) [])) (sym some);
          fields = ap (map field_told) none' ∙ ap (λ b. cond b (map (field_counts (lines_of_event (lines ++ line ∷ []) rule.event)) (kept_fields rule.tests)) []) (sym some);
        }

    -- one on which it does not
    pub quiet : list_all (holds line.fields) rule.tests ≡ false → new.fires ≡ old.fires
        → CountsTests line.fields rule.tests old.holds.items new.holds.items → length new.holds.items ≡ length old.holds.items
        → CountsFields line.fields (map field_told old.fields.items) (map field_told new.fields.items) → length new.fields.items ≡ length old.fields.items
        → IsRuleLine (rule_counts (lines ++ line ∷ []) rule) new
    quiet not_met fires tests many fields many' =
        let own : List LineEvent = lines_of_event lines rule.event in
        let still : fired (lines ++ line ∷ []) rule ≡ fired lines rule = fired_push ∙ no_more (fired lines rule) (fires_on rule line) (fires_by ∙ not_met) in
        let now : IsRuleLine (told_by rule (own ++ line ∷ []) (fired lines rule)) new = (elim (cases_Bool (eqb (fired lines rule) 0)) [
          | inl never ↦
              let old_holds : old.holds.items ≡ map (held own) rule.tests = was.holds ∙ ap (λ b. map holds_told (cond b (map (λ test. record { test = test; holds = held own test }) rule.tests) [])) never ∙ told_tests own rule.tests in
              let old_fields : map field_told old.fields.items ≡ map (field_counts own) (kept_fields rule.tests) = was.fields ∙ ap (λ b. cond b (map (field_counts own) (kept_fields rule.tests)) []) never in
              record {
                lines = more_lines ∙ ap length own_more;
                fires = fires ∙ was.fires;
                holds = tests own line refl old_holds ∙ sym (ap (λ b. map holds_told (cond b (map (λ test. record { test = test; holds = held (own ++ line ∷ []) test }) rule.tests) [])) never ∙ told_tests (own ++ line ∷ []) rule.tests);
                fields = fields own line (kept_fields rule.tests) refl old_fields ∙ sym (ap (λ b. cond b (map (field_counts (own ++ line ∷ [])) (kept_fields rule.tests)) []) never);
              }
          | inr ever ↦
              let old_holds : old.holds.items ≡ [] = was.holds ∙ ap (λ b. map holds_told (cond b (map (λ test. record { test = test; holds = held own test }) rule.tests) [])) ever in
              let old_told : map field_told old.fields.items ≡ [] = was.fields ∙ ap (λ b. cond b (map (field_counts own) (kept_fields rule.tests)) []) ever in
              let old_fields : old.fields.items ≡ [] = no_fields old.fields.items old_told in
              record {
                lines = more_lines ∙ ap length own_more;
                fires = fires ∙ was.fires;
                holds = none_left new.holds.items old.holds.items many old_holds ∙ sym (ap (λ b. map holds_told (cond b (map (λ test. record { test = test; holds = held (own ++ line ∷ []) test }) rule.tests) [])) ever);
                fields = ap (map field_told) (none_left new.fields.items old.fields.items many' old_fields) ∙ sym (ap (λ b. cond b (map (field_counts (own ++ line ∷ [])) (kept_fields rule.tests)) []) ever);
              }
        ]) in
        subst (λ (c : RuleCounts). IsRuleLine c new) (sym (ap₂ (told_by rule) own_more still)) now
      where
        no_fields : (fs : List Rattle.rv_matches.specs.declared.rule_lines.FieldLines.FieldLines) → map field_told fs ≡ [] → fs ≡ []
        no_fields [] is = refl
        no_fields (f ∷ fs) is = cc
