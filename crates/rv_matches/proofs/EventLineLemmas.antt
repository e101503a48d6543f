-- What is kept of rules as one of those on a line's event is passed: it is counted, and all others stay.
use Rattle.std.proofs.Common.{◌≡◌, ◌≢◌, ℕ, zero, suc, ◌+◌, ◌<◌, Bool, true, false, eqb, ◌||◌, inl, inr, List, [], ◌∷◌, ◌++◌, length, get_or, map, set, take, Some, refl, sym, ap, ◌∙◌, subst, arith}
use Rattle.std.specs.Prelude.{slice_get, nat_eq}
use Rattle.std.specs.List.{AllZip, list_any}
use Rattle.std.proofs.lemmas.Bool.{cases_Bool, eq-eqb, eqb-true, or_parts}
use Rattle.std.proofs.lemmas.List.{take_more}
use Rattle.std.proofs.lemmas.List.Folds.{list_any-append}
use Rattle.std.proofs.lemmas.Option.{slice_get-get_or, slice_get_within}
use Rattle.rv_bind.specs.RuleValues.{OnValue}
use Rattle.rv_route.specs.declared.event.Asked.{Asked}
use Rattle.rv_route.specs.Events.{asked_place, is_on_event, places_on}
use Rattle.rv_matches.specs.declared.rule_lines.RuleLine.{RuleLine}
use Rattle.rv_matches.specs.LineEvents.{LineEvent}
use Rattle.rv_matches.specs.RuleLines.{IsRuleLine, RuleCounts, rule_counts}
use Rattle.rv_matches.specs.inner.RuleSteps.{CountsEventLine}
use Rattle.rv_matches.proofs.CountedRuleLemmas.{other_event}
use Rattle.rv_matches.proofs.PlaceLemmas.{fits_at, fits_from, fits_length, has_place, is_place}
use Rattle.rv_matches.proofs.WordLemmas.{or_none, same_bytes}

-- ---- one that is set

-- what was set stands at its place
get_set : {X : Type 0} (xs : List X) (p : ℕ) (y : X) → p < length xs → slice_get (set xs p y) p ≡ Some y
get_set [] p y within = absurd (omega arith)
get_set (x ∷ xs) zero y within = refl
get_set (x ∷ xs) (suc p) y within = get_set xs p y (omega arith)

-- and all others stay
get_other : {X : Type 0} (xs : List X) (p q : ℕ) (y : X) → q ≢ p → slice_get (set xs p y) q ≡ slice_get xs q
get_other [] p q y apart = refl
get_other (x ∷ xs) zero zero y apart = absurd (apart refl)
get_other (x ∷ xs) zero (suc q) y apart = refl
get_other (x ∷ xs) (suc p) zero y apart = refl
get_other (x ∷ xs) (suc p) (suc q) y apart = get_other xs p q y (λ e. apart (ap suc e))

-- places that are told apart are not the same
differ : (q p : ℕ) → eqb q p ≡ false → q ≢ p
differ q p apart e = let same : eqb q p ≡ true = eq-eqb q p e in cc

module _ {A B : Type 0} (C : A → B → B → Type 0) (rules : List A) (begun now : List B) (places : List ℕ) (i p : ℕ) (y : B) (inside : i < length places) (at : p ≡ get_or places i p) (once : is_place (take i places) p ≡ false) (within : p < length now)
    (passed : (place : ℕ) (rule : A) (old new : B) → slice_get rules place ≡ Some rule → slice_get begun place ≡ Some old → slice_get now place ≡ Some new → is_place (take i places) place ≡ true → C rule old new)
    (kept : (place : ℕ) (old new : B) → slice_get begun place ≡ Some old → slice_get now place ≡ Some new → is_place (take i places) place ≡ false → new ≡ old) where
  -- one more place is passed
  one_place : (place : ℕ) → is_place (take (i + 1) places) place ≡ (is_place (take i places) place || eqb place p)
  one_place place =
      ap (λ (ps : List ℕ). is_place ps place) (take_more places i p inside)
      ∙ list_any-append (nat_eq place) (take i places) (get_or places i p ∷ [])
      ∙ ap (λ b. is_place (take i places) place || b) (or_none (eqb place (get_or places i p)) ∙ ap (eqb place) (sym at))

  -- those that are passed
  pub passed_more : ((rule : A) (old : B) → slice_get rules p ≡ Some rule → slice_get now p ≡ Some old → C rule old y)
      → (place : ℕ) (rule : A) (old new : B) → slice_get rules place ≡ Some rule → slice_get begun place ≡ Some old → slice_get (set now p y) place ≡ Some new → is_place (take (i + 1) places) place ≡ true → C rule old new
  passed_more step place rule old new at_rule at_old at_new is = elim (cases_Bool (eqb place p)) [
    | inl same ↦
        let e : place ≡ p = eqb-true place p same in
        let here : slice_get now p ≡ Some (get_or now p old) = slice_get-get_or now p old within in
        let stays : get_or now p old ≡ old = kept p old (get_or now p old) (subst (λ q. slice_get begun q ≡ Some old) e at_old) here once in
        let set_at : slice_get (set now p y) place ≡ Some y = subst (λ q. slice_get (set now p y) q ≡ Some y) (sym e) (get_set now p y within) in
        let last : y ≡ new = cc in
        subst (C rule old) last (step rule old (subst (λ q. slice_get rules q ≡ Some rule) e at_rule) (here ∙ ap Some stays))
    | inr apart ↦
        let before : is_place (take i places) place ≡ true = sym (one_place place ∙ ap (λ b. is_place (take i places) place || b) apart ∙ or_none (is_place (take i places) place)) ∙ is in
        passed place rule old new at_rule at_old (sym (get_other now p place y (differ place p apart)) ∙ at_new) before
  ]

  -- and the others
  pub kept_more : (place : ℕ) (old new : B) → slice_get begun place ≡ Some old → slice_get (set now p y) place ≡ Some new → is_place (take (i + 1) places) place ≡ false → new ≡ old
  kept_more place old new at_old at_new is =
      let parts = or_parts (is_place (take i places) place) (eqb place p) (sym (one_place place) ∙ is) in
      kept place old new at_old (sym (get_other now p place y (differ place p parts.1)) ∙ at_new) parts.0

-- what is asked at a place stands there among the places
pub place_at : (list : List Asked) (placed : List ℕ) (i : ℕ) (asked : Asked) → map asked_place list ≡ placed → i < length list → asked ≡ get_or list i asked
    → (i < length placed) × (slice_get placed i ≡ Some asked.rule) × (asked.rule ≡ get_or placed i asked.rule)
place_at [] placed i asked are inside is = absurd (omega arith)
place_at (a ∷ list) [] i asked are inside is = cc
place_at (a ∷ list) (p ∷ placed) zero asked are inside is =
    let first : a.rule ≡ p = cc in
    let here : asked.rule ≡ p = ap asked_place is ∙ first in
    (omega arith, ap Some (sym here), here)
place_at (a ∷ list) (p ∷ placed) (suc i) asked are inside is =
    let rest : map asked_place list ≡ placed = cc in
    let later = place_at list placed i asked rest (omega arith) is in
    let within : i < length placed = later.0 in
    (omega arith, later.1, later.2)

-- one more that passes, or does not
pub any_more : {X : Type 0} (p : X → Bool) (xs : List X) (i : ℕ) (x : X) → i < length xs → x ≡ get_or xs i x → list_any p (take (i + 1) xs) ≡ (list_any p (take i xs) || p x)
any_more p xs i x inside is =
    ap (list_any p) (take_more xs i x inside)
    ∙ list_any-append p (take i xs) (get_or xs i x ∷ [])
    ∙ ap (λ b. list_any p (take i xs) || b) (or_none (p (get_or xs i x)) ∙ ap p (sym is))

-- ---- all of them

-- rules on the event are counted once more, and all others stay as they were
pub all_counted : (rules : List OnValue) (name fields : List ℕ) (begun now : List RuleLine) (lines : List LineEvent) (line : LineEvent) → length now ≡ length rules → line.name ≡ name → line.fields ≡ fields
    → ((place : ℕ) (rule : OnValue) (old new : RuleLine) → slice_get rules place ≡ Some rule → slice_get begun place ≡ Some old → slice_get now place ≡ Some new → is_place (places_on name 0 rules) place ≡ true → CountsEventLine rule fields old new)
    → ((place : ℕ) (old new : RuleLine) → slice_get begun place ≡ Some old → slice_get now place ≡ Some new → is_place (places_on name 0 rules) place ≡ false → new ≡ old)
    → AllZip (λ rule r. IsRuleLine (rule_counts lines rule) r) rules begun → AllZip (λ rule r. IsRuleLine (rule_counts (lines ++ line ∷ []) rule) r) rules now
all_counted rules name fields begun now lines line many named is passed kept was = fits_from R rules now (sym many) each
  where
    R : OnValue → RuleLine → Type 0
    R rule r = IsRuleLine (rule_counts (lines ++ line ∷ []) rule) r

    each : (place : ℕ) (rule : OnValue) (new : RuleLine) → slice_get rules place ≡ Some rule → slice_get now place ≡ Some new → IsRuleLine (rule_counts (lines ++ line ∷ []) rule) new
    each place rule new at_rule at_new =
        let old : RuleLine = get_or begun place new in
        let as_many : length rules ≡ length begun = fits_length (λ (rule : OnValue) (r : RuleLine). IsRuleLine (rule_counts lines rule) r) rules begun was in
        let within : place < length rules = slice_get_within rules place rule at_rule in
        let at_old : slice_get begun place ≡ Some old = slice_get-get_or begun place new (omega arith) in
        let old_is : IsRuleLine (rule_counts lines rule) old = fits_at (λ (rule : OnValue) (r : RuleLine). IsRuleLine (rule_counts lines rule) r) rules begun place rule old was at_rule at_old in
        let on : is_place (places_on name 0 rules) place ≡ is_on_event name rule = (let same : place ≡ 0 + place = omega arith in ap (is_place (places_on name 0 rules)) same) ∙ has_place name 0 place rules rule at_rule in
        elim (cases_Bool (is_on_event name rule)) [
          | inl so_it_is ↦ passed place rule old new at_rule at_old at_new (on ∙ so_it_is) lines line (named ∙ same_bytes name rule.event so_it_is) is old_is
          | inr it_is_not ↦
              let same : new ≡ old = kept place old new at_old at_new (on ∙ it_is_not) in
              let counts : rule_counts (lines ++ line ∷ []) rule ≡ rule_counts lines rule = other_event rule lines line (ap (λ (n : List ℕ). is_on_event n rule) named ∙ it_is_not) in
              subst (λ (c : RuleCounts). IsRuleLine c new) (sym counts) (subst (IsRuleLine (rule_counts lines rule)) (sym same) old_is)
        ]
