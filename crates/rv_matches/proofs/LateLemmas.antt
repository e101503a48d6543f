-- Timestamps that go back, as one more comes: it is late where it is before the latest.
use Rattle.std.proofs.Common.{◌≡◌, ◌+◌, ◌<◌, ◌≤◌, Bool, true, false, cond, ◌||◌, List, [], ◌∷◌, ◌++◌, Option, Some, None, refl, sym, ap, ◌∙◌, arith}
use Rattle.std.specs.Prelude.{fold}
use Rattle.std.specs.List.{list_any}
use Rattle.std.specs.Option.{option_or}
use Rattle.std.proofs.lemmas.Bool.{cond_both, cond-true, cond-false, lt-ltb, le-ltb, ltb-true, ltb-false}
use Rattle.std.proofs.lemmas.List.{append-nil, append_assoc}
use Rattle.std.proofs.lemmas.List.Sums.{fold_push}
use Rattle.rv_matches.specs.LateTimes.{Late, Stamped, is_earlier, late_behind, later_of, latest_of}
use Rattle.rv_matches.specs.inner.LateTimes.{IfLike, IfTaken, TimesValue, is_late, is_latest, times_of}
use Rattle.rv_matches.specs.TextFacts.{first_of}
use Rattle.rv_matches.specs.Times.{time_of}
use Rattle.rv_matches.proofs.FirstLemmas.{first_push}
use Rattle.rv_matches.proofs.WordLemmas.{or_assoc, or_none}

-- ---- which are late

-- a timestamp as one that is late, behind these
abbrev late_of : List Stamped → Stamped → Late
late_of before s = record { late = s; latest = latest_of before }

-- one more timestamp is late behind all others, or not at all
late_push : (before stamps : List Stamped) (s : Stamped) → late_behind before (stamps ++ s ∷ []) ≡ late_behind before stamps ++ late_behind (before ++ stamps) (s ∷ [])
late_push before [] s = ap (λ (b : List Stamped). late_behind b (s ∷ [])) (sym (append-nil before))
late_push before (t ∷ stamps) s =
    let here : List Late = cond (list_any (is_earlier t) before) (late_of before t ∷ []) [] in
    ap (λ (ls : List Late). here ++ ls) (late_push (before ++ t ∷ []) stamps s)
    ∙ sym (append_assoc here (late_behind (before ++ t ∷ []) stamps) (late_behind ((before ++ t ∷ []) ++ stamps) (s ∷ [])))
    ∙ ap (λ (b : List Stamped). (here ++ late_behind (before ++ t ∷ []) stamps) ++ late_behind b (s ∷ [])) (append_assoc before (t ∷ []) stamps)

less_more : (b c : Bool) → (b ≡ true → c ≡ true) → c ≡ (b || c)
less_more true c is = is refl
less_more false c is = refl

-- a timestamp is before the later of two where it is before one of them
late_more : (best : Option Stamped) (t s : Stamped) → is_late (later_of best t) s ≡ (is_late best s || is_earlier s t)
late_more None t s = refl
late_more (Some best) t s =
    cond_both (is_earlier best t) (Some t) (Some best) (λ o. is_late o s ≡ (is_earlier s best || is_earlier s t))
    (λ so_it_is. less_more (is_earlier s best) (is_earlier s t) (λ is.
    let less : time_of s.stamp < time_of best.stamp = ltb-true _ _ is in
    let later : time_of best.stamp < time_of t.stamp = ltb-true _ _ so_it_is in
    lt-ltb (time_of s.stamp) (time_of t.stamp) (omega arith)))
    (λ it_is_not. less_more (is_earlier s t) (is_earlier s best) (λ is.
    let less : time_of s.stamp < time_of t.stamp = ltb-true _ _ is in
    let later : time_of t.stamp ≤ time_of best.stamp = ltb-false _ _ it_is_not in
    lt-ltb (time_of s.stamp) (time_of best.stamp) (omega arith)) ∙ or_other (is_earlier s t) (is_earlier s best))
  where
    or_other : (b c : Bool) → (b || c) ≡ (c || b)
    or_other true true = refl
    or_other true false = refl
    or_other false true = refl
    or_other false false = refl

-- a timestamp is before the latest where it is before any
any_late : (stamps : List Stamped) (best : Option Stamped) (s : Stamped) → is_late (fold later_of best stamps) s ≡ (is_late best s || list_any (is_earlier s) stamps)
any_late [] best s = sym (or_none (is_late best s))
any_late (t ∷ stamps) best s =
    any_late stamps (later_of best t) s
    ∙ ap (λ b. b || list_any (is_earlier s) stamps) (late_more best t s)
    ∙ or_assoc (is_late best s) (is_earlier s t) (list_any (is_earlier s) stamps)

-- the late ones with one more
late_more_one : (stamps : List Stamped) (s : Stamped) → late_behind [] (stamps ++ s ∷ []) ≡ late_behind [] stamps ++ cond (is_late (latest_of stamps) s) (late_of stamps s ∷ []) []
late_more_one stamps s =
    late_push [] stamps s
    ∙ ap (λ (ls : List Late). late_behind [] stamps ++ ls) (append-nil (cond (list_any (is_earlier s) stamps) (late_of stamps s ∷ []) []))
    ∙ ap (λ b. late_behind [] stamps ++ cond b (late_of stamps s ∷ []) []) (sym (any_late stamps None s))

-- ---- what is told with one more

-- the values are equal if their parts are
same_times : (a b : TimesValue) → a.latest ≡ b.latest → a.late ≡ b.late → a ≡ b
same_times a b latest late = λ j. record { latest = latest j; late = late j }

-- what becomes the latest is not late
latest_not_late : (best : Option Stamped) (s : Stamped) → is_latest best s ≡ true → (later_of best s ≡ Some s) × (is_late best s ≡ false)
latest_not_late None s is = (refl, refl)
latest_not_late (Some best) s is =
    let less : time_of best.stamp < time_of s.stamp = ltb-true _ _ is in
    (cond-true (is_earlier best s) (Some s) (Some best) is, le-ltb (time_of s.stamp) (time_of best.stamp) (omega arith))

-- what does not leaves the latest
stays_latest : (best : Option Stamped) (s : Stamped) → is_latest best s ≡ false → later_of best s ≡ best
stays_latest None s is = cc
stays_latest (Some best) s is = cond-false (is_earlier best s) (Some s) (Some best) is

module _ (stamps : List Stamped) (s : Stamped) (new : TimesValue) where
  -- nothing is late if the one more is not
  not_late : is_late (latest_of stamps) s ≡ false → first_of (late_behind [] stamps) ≡ first_of (late_behind [] (stamps ++ s ∷ []))
  not_late it_is_not = ap first_of (sym (late_more_one stamps s ∙ ap (λ b. late_behind [] stamps ++ cond b (late_of stamps s ∷ []) []) it_is_not ∙ append-nil (late_behind [] stamps)))

  -- a timestamp that becomes the latest
  pub told_latest : is_latest (latest_of stamps) s ≡ true → new.latest ≡ Some s → new.late ≡ (times_of stamps).late → new ≡ times_of (stamps ++ s ∷ [])
  told_latest is latest late =
      let both = latest_not_late (latest_of stamps) s is in
      same_times new (times_of (stamps ++ s ∷ [])) (latest ∙ sym (fold_push later_of None stamps s ∙ both.0)) (late ∙ not_late both.1)

  -- one that is not late, where the later one is now the latest
  pub told_on_time : is_late (latest_of stamps) s ≡ false → new.latest ≡ later_of (latest_of stamps) s → new.late ≡ (times_of stamps).late → new ≡ times_of (stamps ++ s ∷ [])
  told_on_time it_is_not latest late = same_times new (times_of (stamps ++ s ∷ [])) (latest ∙ sym (fold_push later_of None stamps s)) (late ∙ not_late it_is_not)

  -- one that is late
  pub told_late : is_latest (latest_of stamps) s ≡ false → is_late (latest_of stamps) s ≡ true → new.latest ≡ latest_of stamps → new.late.first ≡ option_or (times_of stamps).late.first (Some (late_of stamps s)) → new.late.count ≡ (times_of stamps).late.count + 1 → new ≡ times_of (stamps ++ s ∷ [])
  told_late other so_it_is latest first count =
      same_times new (times_of (stamps ++ s ∷ [])) (latest ∙ sym (fold_push later_of None stamps s ∙ stays_latest (latest_of stamps) s other))
      (first_push (late_behind [] stamps) (late_of stamps s) new.late first count ∙ ap first_of (sym (late_more_one stamps s ∙ ap (λ b. late_behind [] stamps ++ cond b (late_of stamps s ∷ []) []) so_it_is)))

  -- one that is neither
  pub told_neither : is_latest (latest_of stamps) s ≡ false → is_late (latest_of stamps) s ≡ false → new ≡ times_of stamps → new ≡ times_of (stamps ++ s ∷ [])
  told_neither other it_is_not same =
      same_times new (times_of (stamps ++ s ∷ [])) (ap (λ (t : TimesValue). t.latest) same ∙ sym (fold_push later_of None stamps s ∙ stays_latest (latest_of stamps) s other)) (ap (λ (t : TimesValue). t.late) same ∙ not_late it_is_not)

-- a timestamp is told of if it was taken
pub told_taken : (is : Bool) (s : Stamped) (begun old new : TimesValue) → begun ≡ old → IfTaken is s begun.latest new.latest → new.late ≡ begun.late → IfLike is s old new
told_taken true s begun old new same taken late = (
  taken.0,
  λ stamps was.
      let latest : begun.latest ≡ latest_of stamps = ap (λ (t : TimesValue). t.latest) (same ∙ was) in
      told_on_time stamps s new (ap (λ o. is_late o s) (sym latest) ∙ taken.1) (taken.2 ∙ ap (λ o. later_of o s) latest) (late ∙ ap (λ (t : TimesValue). t.late) (same ∙ was)),
)
told_taken false s begun old new same latest late = same_times new begun latest late ∙ same
