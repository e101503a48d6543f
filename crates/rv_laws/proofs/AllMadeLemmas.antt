-- The whole of what a history of one thread makes.
use Rattle.std.proofs.Common.{◌≡◌, ◌≢◌, ℕ, zero, suc, ◌+◌, ◌-◌, Bool, true, false, ◌==◌, List, [], ◌∷◌, ◌++◌, inl, inr, map, reverse, arith, refl, sym, ap, ◌∙◌, subst}
use Rattle.std.specs.Prelude.{filter, flat_map, Contains, slice_index}
use Rattle.std.proofs.lemmas.List.{map-append, append-nil}
use Rattle.std.proofs.lemmas.List.Elements.{filter-append}
use Rattle.rv_model.specs.declared.entry.Entry.{Entry}
use Rattle.rv_model.specs.declared.record.Record.{Record}
use Rattle.rv_model.specs.Histories.{Input, IsOneHistory, is_on, work_of, line_in}
use Rattle.rv_model.specs.Judging.{Judge}
use Rattle.rv_model.specs.Numbers.{has_bit}
use Rattle.rv_model.specs.Records.{script_records}
use Rattle.rv_model.specs.Scripts.{Played, played}
use Rattle.rv_model.specs.Works.{Work}
use Rattle.rv_model.proofs.UniqueLemmas.{one_has_no_stop}
use Rattle.rv_laws.specs.Parts.{Placed, placed_of, placed_in, IsPlain}
use Rattle.rv_laws.proofs.LineLemmas.{OfTurn, all-of-turn}
use Rattle.rv_laws.proofs.ListLemmas.{Every, every-filter}
use Rattle.rv_laws.proofs.Made.{Made, made_record, made_told, is_for, Ahead, shown, MadeBy}
use Rattle.rv_laws.proofs.MadeLemmas.{made-script}
use Rattle.rv_laws.proofs.OwnerLemmas.{plays}
use Rattle.rv_laws.proofs.PastLemmas.{Each, each-of}
use Rattle.rv_laws.proofs.SeatStepLemmas.{line_of, is_told, seat-told}
use Rattle.rv_laws.proofs.StepLemmas.{Answered, told_of}
use Rattle.rv_laws.proofs.SwitchLemmas.{opening_word, look-opening}
use Rattle.rv_laws.proofs.WholeLemmas.{IsQuiet, calm-played, AreApart, apart-first, apart-rest, work-is, cpu-placed, cpus-placed, every-made, is_at, of_place, own-at, none-at, find}

-- every entry of a history of one thread is quiet
pub quiet : (input : Input) (js : List Judge) (h : List Entry) → IsPlain input → IsOneHistory input js h → Each (IsQuiet (opening_word input.setup)) (reverse h)
quiet input js h plain one = each-of (IsQuiet (opening_word input.setup)) h (λ before e after eq. (look-opening input js h one.legal plain.steady before e after eq, one_has_no_stop input js h plain.apart one before e after eq))

module _ (input : Input) (js : List Judge) (h : List Entry) (plain : IsPlain input) (one : IsOneHistory input js h) (running : has_bit (opening_word input.setup) 34 ≡ false) where
  -- the word of each look
  abbrev look : ℕ
  look = opening_word input.setup

  -- what a seat has played
  abbrev own : ℕ → List Played
  own seat = played input.setup js seat (reverse h)

  -- the records of a work
  abbrev work_records : Work → List Record
  work_records w = script_records w.deliveries w.turns (own (2 + w.cpu))

  -- the steps on a slot, with their answers
  abbrev told : ℕ → List Answered
  told slot = told_of slot (line_of input.works) input.setup js (reverse h)

  -- what a work's script makes
  of-work : (w : Work) → Contains input.works w → MadeBy input.setup.shape look w.cpu (filter (shown look) (placed_of w)) (work_records w) (own (2 + w.cpu)) (Ahead w.turns)
  of-work w has =
      made-script input.setup input.panics plain.steady.no_panics running w.cpu w.deliveries w.turns (own (2 + w.cpu)) (plays input js h one.legal one.no_changes w has)
      (calm-played look input.setup js (2 + w.cpu) (reverse h) (quiet input js h plain one))

  -- the lines of its looks are those of its turns
  work-ahead : (w : Work) → Contains input.works w → Ahead w.turns (line_in (work_of input.works (2 + w.cpu)).turns) 0
  work-ahead w has k = ap (λ (v : Work). line_in v.turns (suc (0 + k))) (work-is input.works plain.cpus w has) ∙ ap (slice_index (map (λ t. t.line) w.turns)) (let e : suc (0 + k) - 1 ≡ k = omega arith in e)

  -- its steps are those of what it made
  work-told : (w : Work) (has : Contains input.works w) (slot : ℕ) → filter (is_told (2 + w.cpu)) (told slot) ≡ reverse (map made_told (filter (of_place (is_for input.setup.shape slot)) (of-work w has).made))
  work-told w has slot =
      seat-told input.setup js input.works slot (2 + w.cpu) (reverse h)
      ∙ ap reverse ((of-work w has).told slot (line_in (work_of input.works (2 + w.cpu)).turns) 0 (work-ahead w has))

  -- ---- some of the works

  -- what these works make, with their records and their steps
  record MadeOf (works : List Work) : Type 0 where
    made : List Made
    places_are : map (λ x. x.place) made ≡ filter (shown look) (placed_in works)
    records_are : flat_map work_records works ≡ map (made_record look) made
    steps_are : (w : Work) → Contains works w → (slot : ℕ) → filter (is_told (2 + w.cpu)) (told slot) ≡ reverse (map made_told (filter (of_place (is_at (2 + w.cpu) input.setup.shape slot)) made))

  -- the works in turn
  made-of : (works : List Work) → AreApart works → ((w : Work) → Contains works w → Contains input.works w) → MadeOf works
  made-of [] apart some = record { made = []; places_are = refl; records_are = refl; steps_are = λ w has slot. absurd (let l = has.1 in omega arith) }
  made-of (w ∷ works) apart some =
      let has : Contains input.works w = some w (0, omega arith, refl) in
      let m = of-work w has in
      let r = made-of works (apart-rest w works apart) (λ v has'. some v (suc (has'.0), (let l = has'.1 in omega arith), has'.2)) in
      let mine : Every (λ x. x.place.cpu ≡ w.cpu) m.made =
      every-made (λ c. c ≡ w.cpu) m.made (subst (Every (λ p. p.cpu ≡ w.cpu)) (sym m.places_are) (every-filter (λ p. p.cpu ≡ w.cpu) (shown look) (placed_of w) (cpu-placed (λ c. c ≡ w.cpu) w.cpu refl w.deliveries w.turns))) in
      let others : (P : ℕ → Type 0) → ((v : Work) → Contains works v → P v.cpu) → Every (λ x. P x.place.cpu) r.made =
      λ P each. every-made P r.made (subst (Every (λ p. P p.cpu)) (sym r.places_are) (every-filter (λ p. P p.cpu) (shown look) (placed_in works) (cpus-placed P works each))) in
      record {
        made = m.made ++ r.made;
        places_are = map-append (λ x. x.place) m.made r.made ∙ ap (λ (z : List Placed). z ++ map (λ x. x.place) r.made) m.places_are ∙ ap (λ (z : List Placed). filter (shown look) (placed_of w) ++ z) r.places_are
            ∙ sym (filter-append (shown look) (placed_of w) (placed_in works));
        records_are = ap (λ (z : List Record). z ++ flat_map work_records works) m.records_are ∙ ap (λ (z : List Record). map (made_record look) m.made ++ z) r.records_are ∙ sym (map-append (made_record look) m.made r.made);
        steps_are = steps m.made r.made (work-told w has) mine others r.steps_are;
      }
    where
      steps : (a b : List Made) → ((slot : ℕ) → filter (is_told (2 + w.cpu)) (told slot) ≡ reverse (map made_told (filter (of_place (is_for input.setup.shape slot)) a))) → Every (λ x. x.place.cpu ≡ w.cpu) a
          → ((P : ℕ → Type 0) → ((v : Work) → Contains works v → P v.cpu) → Every (λ x. P x.place.cpu) b)
          → ((v : Work) → Contains works v → (slot : ℕ) → filter (is_told (2 + v.cpu)) (told slot) ≡ reverse (map made_told (filter (of_place (is_at (2 + v.cpu) input.setup.shape slot)) b)))
          → (v : Work) → Contains (w ∷ works) v → (slot : ℕ) → filter (is_told (2 + v.cpu)) (told slot) ≡ reverse (map made_told (filter (of_place (is_at (2 + v.cpu) input.setup.shape slot)) (a ++ b)))
      steps a b first mine others rest v (zero, lt, at) slot =
          let shape : List ℕ = input.setup.shape in
          let none : Every (λ x. 2 + x.place.cpu ≢ 2 + w.cpu) b = others (λ c. 2 + c ≢ 2 + w.cpu) (λ u has same. apart-first w works apart u has (omega arith)) in
          let here : filter (is_told (2 + w.cpu)) (told slot) ≡ reverse (map made_told (filter (of_place (is_at (2 + w.cpu) shape slot)) (a ++ b))) =
          first slot
          ∙ ap (λ (z : List Made). reverse (map made_told z))
          (sym (filter-append (of_place (is_at (2 + w.cpu) shape slot)) a b ∙ ap (λ (z : List Made). z ++ filter (of_place (is_at (2 + w.cpu) shape slot)) b) (own-at w.cpu shape slot a mine)
          ∙ ap (λ (z : List Made). filter (of_place (is_for shape slot)) a ++ z) (none-at (2 + w.cpu) shape slot b none) ∙ append-nil (filter (of_place (is_for shape slot)) a))) in
          subst (λ (u : Work). filter (is_told (2 + u.cpu)) (told slot) ≡ reverse (map made_told (filter (of_place (is_at (2 + u.cpu) shape slot)) (a ++ b)))) at here
      steps a b first mine others rest v (suc k, lt, at) slot =
          let shape : List ℕ = input.setup.shape in
          let has : Contains works v = (k, omega arith, at) in
          let none : Every (λ x. 2 + x.place.cpu ≢ 2 + v.cpu) a = every-weaker' a mine (apart-first w works apart v has) in
          rest v has slot
          ∙ ap (λ (z : List Made). reverse (map made_told z))
          (sym (filter-append (of_place (is_at (2 + v.cpu) shape slot)) a b ∙ ap (λ (z : List Made). z ++ filter (of_place (is_at (2 + v.cpu) shape slot)) b) (none-at (2 + v.cpu) shape slot a none)))
        where
          every-weaker' : (xs : List Made) → Every (λ x. x.place.cpu ≡ w.cpu) xs → w.cpu ≢ v.cpu → Every (λ x. 2 + x.place.cpu ≢ 2 + v.cpu) xs
          every-weaker' [] all differ = tt
          every-weaker' (x ∷ xs) all differ = ((λ same. differ (let e = all.0 in omega arith)), every-weaker' xs all.1 differ)

  -- ---- all of them

  -- a seat without a work has no step
  none-told : (seat slot : ℕ) → ((w : Work) → Contains input.works w → 2 + w.cpu ≢ seat) → (past : List Entry) → Each (OfTurn input.works) past → filter (is_told seat) (told_of slot (line_of input.works) input.setup js past) ≡ []
  none-told seat slot none [] each = refl
  none-told seat slot none (e ∷ past) each = go (is_on slot e.act) refl (e.seat == seat) refl (none-told seat slot none past each.1)
    where
      go : (b : Bool) → is_on slot e.act ≡ b → (c : Bool) → (e.seat == seat) ≡ c → filter (is_told seat) (told_of slot (line_of input.works) input.setup js past) ≡ [] → filter (is_told seat) (told_of slot (line_of input.works) input.setup js (e ∷ past)) ≡ []
      go true on true mine rest = let same : e.seat ≡ seat = grind arith in absurd (none (work_of input.works e.seat) each.0.work.has (each.0.work.seat_is ∙ same))
      go true on false other rest = rw (on, other) rest
      go false off c is rest = rw off rest

  -- what the history makes, with its records and the steps of each seat on each slot
  pub record IsMade : Type 0 where
    pub made : List Made
    pub places_are : map (λ x. x.place) made ≡ filter (shown look) (placed_in input.works)
    pub records_are : flat_map work_records input.works ≡ map (made_record look) made
    pub steps_are : (seat slot : ℕ) → filter (is_told seat) (told slot) ≡ reverse (map made_told (filter (of_place (is_at seat input.setup.shape slot)) made))

  pub all-made : IsMade
  all-made =
      let all = made-of input.works plain.cpus (λ w has. has) in
      record {
        made = all.made;
        places_are = all.places_are;
        records_are = all.records_are;
        steps_are = λ seat slot. elim (find input.works seat) [
          | inl found ↦
              subst (λ (n : ℕ). filter (is_told n) (told slot) ≡ reverse (map made_told (filter (of_place (is_at n input.setup.shape slot)) all.made))) found.2 (all.steps_are found.0 found.1 slot)
          | inr none ↦
              let away : Every (λ x. 2 + x.place.cpu ≢ seat) all.made =
              every-made (λ c. 2 + c ≢ seat) all.made (subst (Every (λ p. 2 + p.cpu ≢ seat)) (sym all.places_are) (every-filter (λ p. 2 + p.cpu ≢ seat) (shown look) (placed_in input.works) (cpus-placed (λ c. 2 + c ≢ seat) input.works none))) in
              none-told seat slot none (reverse h) (all-of-turn input js h one) ∙ ap (λ (z : List Made). reverse (map made_told z)) (sym (none-at seat input.setup.shape slot all.made away))
        ];
      }
