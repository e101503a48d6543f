-- Before anything is placed a merge is under way.
use Rattle.std.proofs.Common.{◌≡◌, ℕ, suc, ◌<◌, ◌==◌, Bool, true, false, List, [], ◌∷◌, ◌++◌, length, map, get_or, refl, sym, ap, ◌∙◌, subst, arith}
use Rattle.std.specs.Prelude.{filter, All}
use Rattle.std.proofs.lemmas.List.Elements.{All-get_or}
use Rattle.rv_model.specs.declared.entry.Entry.{Entry}
use Rattle.rv_model.specs.declared.work.Delivery.{Delivery}
use Rattle.rv_model.specs.declared.work.Turn.{Turn}
use Rattle.rv_model.specs.Histories.{changed}
use Rattle.rv_model.specs.Setups.{Setup}
use Rattle.rv_model.specs.Works.{IsWork, NamesEach}
use Rattle.rv_model.proofs.CutLemmas.{at_each-nil}
use Rattle.rv_core.specs.Setup.{IsSetup, FitsAct, judges_of}
use Rattle.rv_board.proofs.SoundLemmas.{sound-empty}
use Rattle.rv_journal.specs.declared.counted.Counted.{Counted}
use Rattle.rv_journal.specs.CountedLanes.{CountedLaneValue}
use Rattle.rv_journal.specs.MergeSteps.{items_of, steps_from}
use Rattle.rv_journal.specs.inner.MergeStates.{Mark, mark, items_in, entry_in, is_left, IsMergedAct, NextIsJustified, IsUnderWay}
use Rattle.rv_journal.specs.Merging.{CanMerge, AllServed, seat_of}
use Rattle.rv_journal.specs.inner.Merging.{NumbersFit, no_lane, lanes_of}
use Rattle.rv_journal.proofs.MarkLemmas.{filter_yes, filter_no}
use Rattle.rv_journal.proofs.MergeStepLemmas.{steps-items, steps-opens, steps-none, first-cursor}
use Rattle.rv_journal.proofs.PlaceLemmas.{marked-items}
use Rattle.rv_journal.proofs.ObservedLemmas.{all_items, machine-empty}
use Rattle.rv_journal.proofs.WholeLemmas.{fits-at, whole}

-- as many items as deliveries
pub served-length : (s : Setup) (ds : List Delivery) (items : List Counted) → AllServed s ds items → length items ≡ length ds
served-length s [] [] served = refl
served-length s [] (c ∷ items) served = absurd served
served-length s (d ∷ ds) [] served = absurd served
served-length s (d ∷ ds) (c ∷ items) served = ap suc (served-length s ds items served.1)

-- all of a seat is left
left-all : (n : ℕ) (items : List Counted) → items_in (filter (is_left n) (map (mark false) items)) ≡ filter (λ c. c.entry.seat == n) items
left-all n [] = refl
left-all n (c ∷ items) = by (c.entry.seat == n) refl (left-all n items)
  where
    by : (b : Bool) → (c.entry.seat == n) ≡ b → items_in (filter (is_left n) (map (mark false) items)) ≡ filter (λ c. c.entry.seat == n) items
        → items_in (filter (is_left n) (map (mark false) (c ∷ items))) ≡ filter (λ c. c.entry.seat == n) (c ∷ items)
    by true y rest = ap items_in (filter_yes (is_left n) (mark false c) (map (mark false) items) y) ∙ (ap (λ (z : List Counted). c ∷ z) rest ∙ sym (filter_yes (λ (c : Counted). c.entry.seat == n) c items y))
    by false n' rest = ap items_in (filter_no (is_left n) (mark false c) (map (mark false) items) n') ∙ (rest ∙ sym (filter_no (λ (c : Counted). c.entry.seat == n) c items n'))

-- no change is placed
todo-all : (slot : ℕ) (items : List Counted) → filter (λ m. changed slot (entry_in m)) (map (mark false) items) ≡ map (mark false) (filter (λ c. changed slot c.entry) items)
todo-all slot [] = refl
todo-all slot (c ∷ items) = by (changed slot c.entry) refl (todo-all slot items)
  where
    by : (b : Bool) → changed slot c.entry ≡ b → filter (λ m. changed slot (entry_in m)) (map (mark false) items) ≡ map (mark false) (filter (λ c. changed slot c.entry) items)
        → filter (λ m. changed slot (entry_in m)) (map (mark false) (c ∷ items)) ≡ map (mark false) (filter (λ c. changed slot c.entry) (c ∷ items))
    by true y rest = filter_yes (λ m. changed slot (entry_in m)) (mark false c) (map (mark false) items) y ∙ (ap (λ (z : List Mark). mark false c ∷ z) rest ∙ ap (map (mark false)) (sym (filter_yes (λ (c : Counted). changed slot c.entry) c items y)))
    by false n rest = filter_no (λ m. changed slot (entry_in m)) (mark false c) (map (mark false) items) n ∙ (rest ∙ ap (map (mark false)) (sym (filter_no (λ (c : Counted). changed slot c.entry) c items n)))

-- nothing is placed
none-placed : (items : List Counted) (before : List Mark) (c : Counted) (after : List Mark) → map (mark false) items ≡ before ++ mark true c ∷ after → ⊥
none-placed [] [] c after eq = cc
none-placed [] (x ∷ before) c after eq = cc
none-placed (i ∷ items) [] c after eq = let first : mark false i ≡ mark true c = cc in let no : false ≡ true = ap (λ (m : Mark). m.placed) first in cc
none-placed (i ∷ items) (x ∷ before) c after eq = let tail : map (mark false) items ≡ before ++ mark true c ∷ after = cc in none-placed items before c after tail

-- a lane's first step is a look
first-look : (n : ℕ) (items : List Counted) (turns : List Turn) → NamesEach 0 turns (length items) → NextIsJustified n [] (steps_from items 0 turns)
first-look n items [] names = subst (NextIsJustified n []) (sym (steps-none items 0 (let z : 0 ≡ length items = names in omega arith))) tt
first-look n items (turn ∷ turns) names = subst (NextIsJustified n []) (sym (steps-opens items 0 turn turns names.0)) tt

module _ (s : Setup) (seen : List Entry) (lanes : List CountedLaneValue) (can : CanMerge s seen lanes) (k : IsSetup s) (numbers : All (λ l. All NumbersFit l.counted) lanes) (works : All (λ l. IsWork l.work) lanes) where
  -- the turns of a lane name its items
  pub names-at : (l : ℕ) → l < length lanes → NamesEach 0 (get_or lanes l no_lane).work.turns (length (get_or lanes l no_lane).counted)
  names-at l lt =
      let fit = fits-at s seen lanes can k numbers l lt in
      subst (NamesEach 0 (get_or lanes l no_lane).work.turns) (sym (served-length s (get_or lanes l no_lane).work.deliveries (get_or lanes l no_lane).counted fit.served)) (All-get_or (λ (x : CountedLaneValue). IsWork x.work) lanes l no_lane lt works)

  -- its steps have all its items
  pub script-items : (l : ℕ) → l < length lanes → items_of ((lanes_of lanes).script l) ≡ (get_or lanes l no_lane).counted
  script-items l lt = steps-items (get_or lanes l no_lane).counted 0 (get_or lanes l no_lane).work.turns (first-cursor (get_or lanes l no_lane) (names-at l lt))

  -- the empty history is one that is being merged, where all steps are left to the lanes
  pub starts : IsUnderWay s (all_items s seen lanes can k numbers) (lanes_of lanes) [] (lanes_of lanes).script
  starts =
      let items : List Counted = all_items s seen lanes can k numbers in
      record {
        marks = map (mark false) items;
        marks_are = marked-items false items;
        left = λ l lt. script-items l lt ∙ (sym ((whole s seen lanes can k numbers).parts l lt [] (get_or lanes l no_lane).counted refl refl) ∙ sym (left-all (seat_of (get_or lanes l no_lane)) items));
        divides = λ slot. record { done = []; todo = filter (λ c. changed slot c.entry) items; marks_are = todo-all slot items; history_is = refl };
        quiet = λ slot r lt. absurd (omega arith);
        justified = λ l lt. first-look (seat_of (get_or lanes l no_lane)) (get_or lanes l no_lane).counted (get_or lanes l no_lane).work.turns (names-at l lt);
        stands = λ before c after eq. absurd (none-placed items before c after eq);
        machine = machine-empty s seen lanes can k numbers;
        sound = sound-empty s (judges_of s);
        acts = at_each-nil (λ before e. IsMergedAct e.act);
        fits = at_each-nil (λ before e. FitsAct s e.act);
        others = at_each-nil (λ before e. (l : ℕ) × (l < length lanes) × (e.seat ≡ seat_of (get_or lanes l no_lane)));
        lists = λ l lt. refl;
      }
