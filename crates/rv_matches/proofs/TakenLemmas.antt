-- One more timestamp against the latest: from the bytes of two loads to which time is before.
use Rattle.std.proofs.Common.{◌≡◌, ◌≢◌, ℕ, ◌+◌, ◌-◌, ◌<◌, ◌≤◌, inl, inr, Bool, true, false, not, cond, ◌&&◌, ◌||◌, eqb, ltb, List, length, get_or, take, Option, Some, refl, sym, ap, ◌∙◌, subst, arith}
use Rattle.std.specs.Prelude.{nat_eq}
use Rattle.std.proofs.lemmas.Bool.{and_parts, cases_eq, cases_lt, cond-false, cond-true, eq-eqb, eqb-true, false≢true, le-ltb, lt-ltb, ltb-false, ne_eqb, not-true, or_from}
use Rattle.std.proofs.lemmas.List.{ext_get_or, get_or-take, length-take-le}
use Rattle.rv_text.specs.Places.{has_class, is_digit}
use Rattle.rv_text.specs.declared.runs.ByteClass.TheVariants as kinds
use Rattle.rv_matches.specs.declared.words.TheConstants.{LONGEST}
use Rattle.rv_matches.specs.LateTimes.{Stamped, is_earlier}
use Rattle.rv_matches.specs.Times.{is_time, point_in, time_of}
use Rattle.rv_trace.specs.Masks.{IsPairRun}
use Rattle.rv_matches.specs.inner.Lanes.{is_alike}
use Rattle.rv_matches.specs.inner.LateTimes.{HasTime, IfTaken}
use Rattle.rv_matches.proofs.LikeLemmas.{like_later, like_time, point_no_digit}
use Rattle.rv_matches.proofs.TimeLemmas.{each_digit, point_high}

-- ---- what the times tell

-- a short one that is held
pub held_near : (far : Option Stamped) (line end held : ℕ) (near : List ℕ) → end ≡ held → 0 < end → cond (eqb held 0) far (Some (record { line = line; stamp = take held near })) ≡ Some (record { line = line; stamp = take end near })
held_near far line end held near same some =
    cond-false (eqb held 0) far (Some (record { line = line; stamp = take held near })) (ne_eqb held 0 (omega arith)) ∙ ap (λ e. Some (record { line = line; stamp = take e near })) (sym same)

-- the same bytes again
pub taken_same : (latest : Option Stamped) (best s : Stamped) → latest ≡ Some best → HasTime latest → s.stamp ≡ best.stamp → IfTaken true s latest latest
taken_same latest best s is has same =
    let time : is_time best.stamp ≡ true = subst HasTime is has in
    let equal : time_of s.stamp ≡ time_of best.stamp = ap time_of same in
    subst (λ o. IfTaken true s o o) (sym is)
    (ap is_time same ∙ time, le-ltb (time_of s.stamp) (time_of best.stamp) (omega (arith, equal)), sym (cond-false (is_earlier best s) (Some s) (Some best) (le-ltb (time_of best.stamp) (time_of s.stamp) (omega (arith, equal)))))

-- a later time
pub taken_later : (latest new : Option Stamped) (best s : Stamped) → latest ≡ Some best → is_time s.stamp ≡ true → time_of best.stamp < time_of s.stamp → new ≡ Some s → IfTaken true s latest new
taken_later latest new best s is time later now =
    subst (λ o. IfTaken true s o new) (sym is)
    (time, le-ltb (time_of s.stamp) (time_of best.stamp) (omega arith), now ∙ sym (cond-true (is_earlier best s) (Some s) (Some best) (lt-ltb (time_of best.stamp) (time_of s.stamp) later)))

-- the same timestamp, if it was taken
pub taken_there : (is : Bool) (line : ℕ) (one other : List ℕ) (begun old new : Option Stamped) → begun ≡ old → (is ≡ true → one ≡ other) → IfTaken is (record { line = line; stamp = one }) begun new → IfTaken is (record { line = line; stamp = other }) old new
taken_there true line one other begun old new was same taken =
    subst (λ (b : List ℕ). IfTaken true (record { line = line; stamp = b }) old new) (same refl) (subst (λ o. IfTaken true (record { line = line; stamp = one }) o new) was taken)
taken_there false line one other begun old new was same taken = taken ∙ was

-- ---- what the bytes tell of the times

module _ (a b : ℕ) (alike : is_alike a b ≡ true) where
  -- the same byte, or two digits
  either : (eqb a b || (is_digit a && is_digit b)) ≡ true
  either = (and_parts (not (ltb b 46)) (eqb a b || (is_digit a && is_digit b)) alike).1

  -- the same byte where the one is no digit
  form_kept : is_digit a ≡ false → b ≡ a
  form_kept other = elim (cases_eq a b) [
    | inl same ↦ sym same
    | inr differ ↦ absurd (false≢true (sym (ap (λ d. eqb a b || (d && is_digit b)) other ∙ ap (λ e. e || false) (ne_eqb a b differ)) ∙ either))
  ]

  -- a digit where it is one
  form_digit : is_digit a ≡ true → is_digit b ≡ true
  form_digit digit = elim (cases_eq a b) [
    | inl same ↦ ap is_digit (sym same) ∙ digit
    | inr differ ↦ sym (ap (λ e. e || (is_digit a && is_digit b)) (ne_eqb a b differ) ∙ ap (λ d. d && is_digit b) digit) ∙ either
  ]

  -- and no blank
  form_word : has_class kinds.Word b ≡ true
  form_word =
      let low : 46 ≤ b = ltb-false b 46 (not-true _ (and_parts (not (ltb b 46)) (eqb a b || (is_digit a && is_digit b)) alike).0) in
      ap not (or_from (eqb b 32) (eqb b 9) (ne_eqb b 32 (omega arith)) (ne_eqb b 9 (omega arith)))

module _ (near bytes : List ℕ) (end : ℕ) (low : end ≤ 16) (room : length near ≡ 16) (room' : 16 ≤ length bytes) where
  -- the bytes of the two
  at_old : (k : ℕ) → k < end → get_or (take end near) k 0 ≡ get_or near k 0
  at_old k inside = get_or-take end near k 0 inside

  at_new : (k : ℕ) → k < end → get_or (take end bytes) k 0 ≡ get_or bytes k 0
  at_new k inside = get_or-take end bytes k 0 inside

  long_old : length (take end near) ≡ end
  long_old = length-take-le end near (omega (arith, room))

  long_new : length (take end bytes) ≡ end
  long_new = length-take-le end bytes (omega arith)

  -- bytes of one form are a word
  pub alike_word : (alike : ℕ) → IsPairRun is_alike near bytes 16 alike → end ≤ alike → (k : ℕ) → k < end → has_class kinds.Word (get_or bytes k 0) ≡ true
  alike_word alike form all k inside = form_word (get_or near k 0) (get_or bytes k 0) (form.each k (omega arith))

  module _ (same : ℕ) (run : IsPairRun nat_eq near bytes 16 same) where
    -- bytes before the first that differs are the same
    before : (k : ℕ) → k < same → k < end → get_or (take end bytes) k 0 ≡ get_or (take end near) k 0
    before k first inside =
        let equal : get_or near k 0 ≡ get_or bytes k 0 = eqb-true (get_or near k 0) (get_or bytes k 0) (run.each k first) in
        at_new k inside ∙ sym equal ∙ sym (at_old k inside)

    -- so all are where none differs
    pub same_bytes : end ≤ same → take end bytes ≡ take end near
    same_bytes all = ext_get_or 0 (take end bytes) (take end near) (long_new ∙ sym long_old) (λ k inside. before k (omega (arith, long_new)) (omega (arith, long_new)))

    module _ (alike : ℕ) (form : IsPairRun is_alike near bytes 16 alike) (all : end ≤ alike) (time : is_time (take end near) ≡ true) where
      kept : (k : ℕ) → k < length (take end near) → is_digit (get_or (take end near) k 0) ≡ false → get_or (take end bytes) k 0 ≡ get_or (take end near) k 0
      kept k within other =
          let inside : k < end = omega (arith, long_old) in
          at_new k inside ∙ form_kept (get_or near k 0) (get_or bytes k 0) (form.each k (omega arith)) (sym (ap is_digit (at_old k inside)) ∙ other) ∙ sym (at_old k inside)

      digits : (k : ℕ) → k < length (take end near) → is_digit (get_or (take end near) k 0) ≡ true → is_digit (get_or (take end bytes) k 0) ≡ true
      digits k within digit =
          let inside : k < end = omega (arith, long_old) in
          ap is_digit (at_new k inside) ∙ form_digit (get_or near k 0) (get_or bytes k 0) (form.each k (omega arith)) (sym (ap is_digit (at_old k inside)) ∙ digit)

      -- what has the form of a timestamp that can be compared can be compared too
      pub alike_time : is_time (take end bytes) ≡ true
      alike_time = like_time (take end near) (take end bytes) (omega (arith, long_old)) (long_new ∙ sym long_old) time kept digits

      module _ (inside : same < end) (more : get_or near same 0 ≤ get_or bytes same 0) where
        -- the first bytes that differ
        less : get_or (take end near) same 0 < get_or (take end bytes) same 0
        less =
            let apart : get_or near same 0 ≢ get_or bytes same 0 = λ e. false≢true (sym (run.stop (omega arith)) ∙ eq-eqb (get_or near same 0) (get_or bytes same 0) e) in
            omega (arith, apart, at_old same inside, at_new same inside)

        -- stand not at the point
        no_point : same ≢ point_in (take end near)
        no_point at =
            let other : is_digit (get_or (take end near) same 0) ≡ false = ap (λ k. is_digit (get_or (take end near) k 0)) at ∙ point_no_digit (take end near) (omega (arith, long_old, at)) in
            let kept_there = kept same (omega (arith, long_old)) other in
            absurd (omega (arith, less, kept_there))

        -- so it is later where its byte is the larger one
        pub alike_later : time_of (take end near) < time_of (take end bytes)
        alike_later =
            let old = take end near in
            let new = take end bytes in
            let within : same < length old = omega (arith, long_old) in
            let digit : is_digit (get_or old same 0) ≡ true = each_digit old time same within no_point in
            let few : point_in old ≤ 16 = omega (arith, point_high old, long_old) in
            elim (cases_lt same (point_in old)) [
              | inl front ↦ like_later old new (omega (arith, long_old)) (long_new ∙ sym long_old) time kept digits same (LONGEST + same - point_in old) within (λ k first. before k first (omega arith)) (omega (arith, few)) (inl (omega (arith, few), front)) less digit
              | inr behind ↦ like_later old new (omega (arith, long_old)) (long_new ∙ sym long_old) time kept digits same (LONGEST + same - 1 - point_in old) within (λ k first. before k first (omega arith)) (omega (arith, few, no_point)) (inr (omega (arith, few, no_point), omega (arith, no_point))) less digit
            ]
