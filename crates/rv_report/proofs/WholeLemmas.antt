-- Tallies whatever their instances: one record more, and the records of one more.
use Rattle.std.proofs.Common.{◌≡◌, ◌≢◌, ℕ, zero, suc, ◌+◌, ◌<◌, ◌≤◌, ◌&&◌, ◌||◌, ◌==◌, Bool, true, false, List, [], ◌∷◌, ◌++◌, ◌⊎◌, inl, inr, length, map, get_or, set, count_by, arith, refl, sym, ap, ◌∙◌, subst}
use Rattle.std.specs.List.{list_any}
use Rattle.std.proofs.lemmas.List.{length-map, map-set, map_push, get_or-map, get_or_past, get_or-set_same, get_or-set_other, nil_from_length}
use Rattle.rv_model.specs.declared.record.Record.{Record}
use Rattle.rv_model.specs.Records.{is_failure, is_stopped}
use Rattle.rv_model.specs.Reports.{is_of_monitor, is_at}
use Rattle.rv_report.specs.declared.tally.Tally.{Tally}
use Rattle.rv_report.specs.Tallies.{IsTally, TallyValue, tally_value, IsWholeTally, no_tally, tally_at}
use Rattle.rv_report.specs.inner.Tallies.{AreWhole}
use Rattle.rv_report.proofs.TallyLemmas.{count-snoc, any-snoc, apart, same_or_not}

-- ---- a list that is read past its end

-- what is read past the end, put there
pub push-default : {X : Type 0} (xs : List X) (d : X) (k : ℕ) → get_or (xs ++ d ∷ []) k d ≡ get_or xs k d
push-default [] d zero = refl
push-default [] d (suc k) = refl
push-default (x ∷ xs) d zero = refl
push-default (x ∷ xs) d (suc k) = push-default xs d k

-- neither
or-false : (b : Bool) → (b || false) ≡ b
or-false true = refl
or-false false = refl

-- not both
and-false : (b : Bool) → (b && false) ≡ false
and-false true = refl
and-false false = refl

-- inside or past the end
inside_or_past : (k n : ℕ) → (k < n) ⊎ (n ≤ k)
inside_or_past k n = grind arith

-- ---- one record more

-- of the monitor, where there is room for a mark of its instance
pub whole-mine : (rs : List Record) (r : Record) (old mid new : Tally) → r.instance < length mid.seen.items → ((k : ℕ) → get_or mid.seen.items k false ≡ get_or old.seen.items k false)
    → mid.deliveries ≡ old.deliveries → mid.failures ≡ old.failures → mid.stopped ≡ old.stopped
    → ((instances : ℕ) (us : List Record) → IsTally r.monitor instances us mid → IsTally r.monitor instances (us ++ r ∷ []) new)
    → IsWholeTally r.monitor rs (tally_value old) → IsWholeTally r.monitor (rs ++ r ∷ []) (tally_value new)
whole-mine rs r old mid new room same deliveries failures stopped more was = record {
  seen = λ k. marks k (inside_or_past k (length mid.seen.items));
  deliveries = now.deliveries;
  failures = now.failures;
  stopped = now.stopped;
}
  where
    here : IsTally r.monitor (length mid.seen.items) rs mid
    here = record { many = refl; seen = λ k lt. same k ∙ was.seen k; deliveries = deliveries ∙ was.deliveries; failures = failures ∙ was.failures; stopped = stopped ∙ was.stopped }

    now : IsTally r.monitor (length mid.seen.items) (rs ++ r ∷ []) new
    now = more (length mid.seen.items) rs here

    marks : (k : ℕ) → (k < length mid.seen.items) ⊎ (length mid.seen.items ≤ k) → get_or new.seen.items k false ≡ list_any (is_at r.monitor k) (rs ++ r ∷ [])
    marks k (inl lt) = now.seen k lt
    marks k (inr le) =
        let none : list_any (is_at r.monitor k) rs ≡ false = sym (was.seen k) ∙ sym (same k) ∙ get_or_past mid.seen.items k false le in
        let other : is_at r.monitor k r ≡ false = ap (λ (b : Bool). is_of_monitor r.monitor r && b) (apart r.instance k (λ e. absurd (omega arith))) ∙ and-false (is_of_monitor r.monitor r) in
        get_or_past new.seen.items k false (let m = now.many in omega arith)
        ∙ sym (any-snoc (is_at r.monitor k) rs r false other ∙ ap (λ (b : Bool). b || false) none)

-- of another monitor
whole-other : (monitor : ℕ) (rs : List Record) (r : Record) (t : TallyValue) → r.monitor ≢ monitor → IsWholeTally monitor rs t → IsWholeTally monitor (rs ++ r ∷ []) t
whole-other monitor rs r t other was = record {
  seen = λ k. was.seen k ∙ sym (or-false (list_any (is_at monitor k) rs)) ∙ sym (any-snoc (is_at monitor k) rs r false (rw left refl));
  deliveries = was.deliveries ∙ none (count_by (is_of_monitor monitor) rs) ∙ sym (count-snoc (is_of_monitor monitor) rs r false (rw left refl));
  failures = was.failures ∙ none (count_by (λ x. is_of_monitor monitor x && is_failure x) rs) ∙ sym (count-snoc (λ x. is_of_monitor monitor x && is_failure x) rs r false (rw left refl));
  stopped = was.stopped ∙ none (count_by (λ x. is_of_monitor monitor x && is_stopped x) rs) ∙ sym (count-snoc (λ x. is_of_monitor monitor x && is_stopped x) rs r false (rw left refl));
}
  where
    left : (r.monitor == monitor) ≡ false
    left = apart r.monitor monitor other

    none : (n : ℕ) → n ≡ n + 0
    none n = omega arith

-- in one of the tallies, after which others may have come that are empty
pub wholes-mine : (rs : List Record) (r : Record) (old mid : List Tally) (t t' : Tally) → r.monitor < length mid → ((k : ℕ) → tally_at mid k ≡ tally_at old k)
    → (IsWholeTally r.monitor rs (tally_value (get_or mid r.monitor t)) → IsWholeTally r.monitor (rs ++ r ∷ []) (tally_value t'))
    → AreWhole rs old → AreWhole (rs ++ r ∷ []) (set mid r.monitor t')
wholes-mine rs r old mid t t' inside same mine was k = elim (same_or_not k r.monitor) [
  | inl e ↦
      let here : tally_at mid r.monitor ≡ tally_value (get_or mid r.monitor t) = get_or-map tally_value mid r.monitor t no_tally inside in
      let now : IsWholeTally r.monitor (rs ++ r ∷ []) (tally_value t') = mine (subst (IsWholeTally r.monitor rs) (sym (same r.monitor) ∙ here) (was r.monitor)) in
      let at : tally_at (set mid r.monitor t') r.monitor ≡ tally_value t' =
      ap (λ (vs : List TallyValue). get_or vs r.monitor no_tally) (map-set tally_value mid r.monitor t') ∙ get_or-set_same (map tally_value mid) r.monitor (tally_value t') no_tally (let l = length-map mid tally_value in omega arith) in
      subst (λ (j : ℕ). IsWholeTally j (rs ++ r ∷ []) (tally_at (set mid r.monitor t') j)) (sym e) (subst (IsWholeTally r.monitor (rs ++ r ∷ [])) (sym at) now)
  | inr ne ↦
      let at : tally_at (set mid r.monitor t') k ≡ tally_at old k =
      ap (λ (vs : List TallyValue). get_or vs k no_tally) (map-set tally_value mid r.monitor t') ∙ get_or-set_other (map tally_value mid) r.monitor k (tally_value t') no_tally ne ∙ same k in
      subst (IsWholeTally k (rs ++ r ∷ [])) (sym at) (whole-other k rs r (tally_at old k) (λ f. ne (sym f)) (was k))
]

-- an empty tally at the end
pub reach-more : (ts : List Tally) (t : Tally) → ((monitor : ℕ) → IsTally monitor 0 [] t) → (k : ℕ) → tally_at (ts ++ t ∷ []) k ≡ tally_at ts k
reach-more ts t none k =
    let marks : t.seen.items ≡ [] = nil_from_length t.seen.items (none 0).many in
    let empty : tally_value t ≡ no_tally = λ i. record { seen = marks i; deliveries = (none 0).deliveries i; failures = (none 0).failures i; stopped = (none 0).stopped i } in
    ap (λ (vs : List TallyValue). get_or vs k no_tally) (map_push tally_value ts t ∙ ap (λ (v : TallyValue). map tally_value ts ++ v ∷ []) empty) ∙ push-default (map tally_value ts) no_tally k
