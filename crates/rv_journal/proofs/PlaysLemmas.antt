-- A lane whose steps are all placed has played the script of its work.
use Rattle.std.proofs.Common.{◌≡◌, ℕ, zero, suc, ◌+◌, ◌-◌, ◌<◌, ◌≤◌, ◌==◌, Bool, true, false, ◌&&◌, List, [], ◌∷◌, ◌++◌, inl, inr, length, map, reverse, get_or, refl, sym, ap, ◌∙◌, subst, arith}
use Rattle.std.specs.Prelude.{filter, All, MatchBool, slice_range}
use Rattle.std.proofs.lemmas.List.{map-append, append-nil, reverse-append, reverse-reverse}
use Rattle.std.proofs.lemmas.List.Elements.{filter-append, All-get_or}
use Rattle.rv_model.specs.declared.entry.Act.{Act}
use Rattle.rv_model.specs.declared.entry.Act.TheVariants.{Deliver, Look}
use Rattle.rv_model.specs.declared.entry.Answer.TheVariants.{Looked}
use Rattle.rv_model.specs.declared.entry.Entry.{Entry}
use Rattle.rv_model.specs.declared.hit.Mode.TheVariants.{Event}
use Rattle.rv_model.specs.declared.hit.What.TheVariants.{Da}
use Rattle.rv_model.specs.declared.record.Delivered.TheVariants.{Racing}
use Rattle.rv_model.specs.declared.work.Delivery.{Delivery}
use Rattle.rv_model.specs.declared.work.Turn.{Turn}
use Rattle.rv_model.specs.Judging.{Judge}
use Rattle.rv_model.specs.Numbers.{has_bit}
use Rattle.rv_model.specs.Scripts.{Played, played, is_enabled_by, fails, is_end, hit_act, MakesHit, Makes, Delivers, PlaysTurns}
use Rattle.rv_model.specs.Seats.{entries_of}
use Rattle.rv_model.specs.Setups.{Setup, slot_of}
use Rattle.rv_model.specs.SharedWords.{answer_at}
use Rattle.rv_model.specs.Works.{NamesEach}
use Rattle.rv_journal.specs.declared.counted.Counted.{Counted}
use Rattle.rv_journal.specs.MergeSteps.{steps_from}
use Rattle.rv_journal.specs.inner.MergeSteps.{Ahead}
use Rattle.rv_journal.specs.inner.MergeStates.{step_entries}
use Rattle.rv_journal.specs.Merging.{AllServed, Serves}
use Rattle.rv_journal.proofs.MarkLemmas.{filter_yes, filter_no}
use Rattle.rv_journal.proofs.MergeStepLemmas.{range-none, range-cons, steps-opens, steps-item, steps-none, names-within}

-- ---- what a seat has played

-- the entries without their answers
abbrev pub acted_in : List Played → List Entry
acted_in ps = map (λ p. p.0) ps

-- every look tells the word that it found
abbrev pub LooksTell : List Played → Type 0
LooksTell [] = Unit {0}
LooksTell (p ∷ ps) = (p.0.act ≡ Look → p.1 ≡ Looked p.0.after) × LooksTell ps

-- all looks tell their words still with one more entry, which tells its own where it is a look
looks-snoc : (ps : List Played) (p : Played) → LooksTell ps → (p.0.act ≡ Look → p.1 ≡ Looked p.0.after) → LooksTell (ps ++ p ∷ [])
looks-snoc [] p all tells = (tells, tt)
looks-snoc (q ∷ ps) p all tells = (all.0, looks-snoc ps p all.1 tells)

module _ (s : Setup) (js : List Judge) (seat : ℕ) where
  -- they are the seat's
  played-entries : (past : List Entry) → acted_in (played s js seat past) ≡ entries_of (λ n. n == seat) (reverse past)
  played-entries [] = refl
  played-entries (e ∷ past) = by (e.seat == seat) refl (played-entries past)
    where
      last : Played
      last = (e, answer_at s js past e e.act)

      back : reverse (e ∷ past) ≡ reverse past ++ e ∷ []
      back = reverse-append (e ∷ []) past

      split : entries_of (λ n. n == seat) (reverse past ++ e ∷ []) ≡ entries_of (λ n. n == seat) (reverse past) ++ entries_of (λ n. n == seat) (e ∷ [])
      split = filter-append (λ (x : Entry). x.seat == seat) (reverse past) (e ∷ [])

      by : (b : Bool) → (e.seat == seat) ≡ b → acted_in (played s js seat past) ≡ entries_of (λ n. n == seat) (reverse past) → acted_in (played s js seat (e ∷ past)) ≡ entries_of (λ n. n == seat) (reverse (e ∷ past))
      by true y rest =
          let one : played s js seat (e ∷ past) ≡ played s js seat past ++ last ∷ [] = rw y refl in
          ap acted_in one ∙ (map-append (λ (p : Played). p.0) (played s js seat past) (last ∷ [])
          ∙ (ap (λ (z : List Entry). z ++ e ∷ []) rest ∙ (ap (λ (z : List Entry). entries_of (λ n. n == seat) (reverse past) ++ z) (sym (filter_yes (λ (x : Entry). x.seat == seat) e [] y)) ∙ (sym split ∙ ap (entries_of (λ n. n == seat)) (sym back)))))
      by false n rest =
          let none : played s js seat (e ∷ past) ≡ played s js seat past = rw n refl in
          ap acted_in none ∙ (rest ∙ (sym (append-nil (entries_of (λ n. n == seat) (reverse past))) ∙ (ap (λ (z : List Entry). entries_of (λ n. n == seat) (reverse past) ++ z) (sym (filter_no (λ (x : Entry). x.seat == seat) e [] n)) ∙ (sym split ∙ ap (entries_of (λ n. n == seat)) (sym back)))))

  -- every look that the seat has played tells the word that it found
  played-looks : (past : List Entry) → LooksTell (played s js seat past)
  played-looks [] = tt
  played-looks (e ∷ past) = by (e.seat == seat) refl (played-looks past)
    where
      by : (b : Bool) → (e.seat == seat) ≡ b → LooksTell (played s js seat past) → LooksTell (played s js seat (e ∷ past))
      by true y rest = rw y (looks-snoc (played s js seat past) (e, answer_at s js past e e.act) rest (λ is. ap (answer_at s js past e) is))
      by false n rest = rw n rest

  -- what the seat has played in a history is its entries, in their order
  pub played-is : (history : List Entry) → acted_in (played s js seat (reverse history)) ≡ entries_of (λ n. n == seat) history
  played-is history = played-entries (reverse history) ∙ ap (entries_of (λ n. n == seat)) (reverse-reverse history)

  -- and every look among them tells the word that it found
  pub looks-tell : (history : List Entry) → LooksTell (played s js seat (reverse history))
  looks-tell history = played-looks (reverse history)

-- ---- deliveries and items

-- each item serves the delivery at its place
served-at : (s : Setup) (ds : List Delivery) (items : List Counted) (d : Delivery) (c : Counted) (place : ℕ) → AllServed s ds items → place < length items → Serves s (get_or ds place d) (get_or items place c).entry.act
served-at s [] [] d c place served in' = absurd (omega arith)
served-at s [] (i ∷ items) d c place served in' = absurd served
served-at s (x ∷ ds) [] d c place served in' = absurd served
served-at s (x ∷ ds) (i ∷ items) d c zero served in' = served.0
served-at s (x ∷ ds) (i ∷ items) d c (suc place) served in' = served-at s ds items d c place served.1 (omega arith)

-- what serves a delivery that is no end is made by it
serves-makes : (s : Setup) (d : Delivery) (act : Act) → is_end d.hit.mode ≡ false → Serves s d act → MakesHit (slot_of s.shape d.monitor d.instance) d.hit act
serves-makes s d act goes (inl is) =
    let slot : ℕ = slot_of s.shape d.monitor d.instance in
    let same : hit_act slot d.hit ≡ Deliver slot d.hit = rw goes refl in
    inl (is ∙ sym same)
serves-makes s d act goes (inr is) = inr (goes, is)

-- nothing is halted where no reactor is panic
no-panic : (b c : Bool) → (b && (false && c)) ≡ false
no-panic true c = refl
no-panic false c = refl

-- where a test fails, the second of two cases is the one that has to hold
match_false : (b : Bool) (P Q : Type 0) → b ≡ false → Q → MatchBool b P Q
match_false b P Q e q = rw e q

-- where there is no entry, nothing was played
no-played : (ps : List Played) → acted_in ps ≡ [] → ps ≡ []
no-played [] e = refl
no-played (p ∷ ps) e = absurd (cc)

-- behind a turn more turns are ahead
ahead-names : (q to : ℕ) (turns : List Turn) (count : ℕ) → NamesEach to turns count → q < to → Ahead (suc q) turns count
ahead-names q to [] count names lt = let e : to ≡ count = names in omega arith
ahead-names q to (turn ∷ turns) count names lt = let e = names.0 in ((omega arith), subst (λ (n : ℕ). NamesEach n (turn ∷ turns) count) (sym e) names)

-- where there is none
no_delivery : Delivery
no_delivery = record { order = 0; monitor = 0; instance = 0; hit = record { mode = Event; what = Da 0 } }

-- an item, where there is none
no_counted : Counted
no_counted = record { entry = record { seat = 0; act = Look; before = 0; after = 0 }; first = 0; count = 0; outcome = Racing }

-- ---- scripts
module _ (s : Setup) (seat look : ℕ) (ds : List Delivery) (items : List Counted) (served : AllServed s ds items) (many : length items ≡ length ds) (enabled : All (λ d. is_enabled_by look d ≡ true) ds) (going : All (λ d. is_end d.hit.mode ≡ false) ds) (running : has_bit look 34 ≡ false) where
  -- no reactor is panic
  abbrev panics : ℕ → Bool
  panics = λ _. false

  -- the deliveries of each turn
  abbrev lists : List Turn → List (List Delivery)
  lists turns = map (λ turn. slice_range ds turn.from turn.to) turns

  -- what plays the steps from a place on, plays the deliveries from there up to another place, and then the turns
  abbrev Goes : ℕ → ℕ → List Turn → Type 0
  Goes place to turns = (ps : List Played) → acted_in ps ≡ step_entries seat look (steps_from items place turns) → LooksTell ps → Delivers s panics look (filter (is_enabled_by look) (slice_range ds place to)) (PlaysTurns s panics (lists turns)) ps

  -- it holds from an item on where it holds from behind that item on
  one-item : (place to : ℕ) (turns : List Turn) → place < to → to ≤ length items → Ahead (suc place) turns (length items) → Goes (suc place) to turns → Goes place to turns
  one-item place to turns lt within ahead rest [] is tells =
      absurd (let steps = steps-item items place no_counted turns (omega arith) ahead in
      let no : [] ≡ (get_or items place no_counted).entry ∷ step_entries seat look (steps_from items (suc place) turns) = is ∙ ap (step_entries seat look) steps in cc)
  one-item place to turns lt within ahead rest (p ∷ ps) is tells =
      let c : Counted = get_or items place no_counted in
      let d : Delivery = get_or ds place no_delivery in
      let in' : place < length ds = omega arith in
      let steps = steps-item items place no_counted turns (omega arith) ahead in
      let all : p.0 ∷ acted_in ps ≡ c.entry ∷ step_entries seat look (steps_from items (suc place) turns) = is ∙ ap (step_entries seat look) steps in
      let head : p.0 ≡ c.entry = cc in
      let tail : acted_in ps ≡ step_entries seat look (steps_from items (suc place) turns) = cc in
      let on : is_enabled_by look d ≡ true = All-get_or (λ (x : Delivery). is_enabled_by look x ≡ true) ds place no_delivery in' enabled in
      let shown_are : filter (is_enabled_by look) (slice_range ds place to) ≡ d ∷ filter (is_enabled_by look) (slice_range ds (suc place) to) =
      ap (filter (is_enabled_by look)) (range-cons ds no_delivery place to lt in') ∙ filter_yes (is_enabled_by look) d (slice_range ds (suc place) to) on in
      let goes : is_end d.hit.mode ≡ false = All-get_or (λ (x : Delivery). is_end x.hit.mode ≡ false) ds place no_delivery in' going in
      let makes : Makes s d p = subst (MakesHit (slot_of s.shape d.monitor d.instance) d.hit) (sym (ap (λ (e : Entry). e.act) head)) (serves-makes s d c.entry.act goes (served-at s ds items no_delivery no_counted place served (omega arith))) in
      subst (λ (z : List Delivery). Delivers s panics look z (PlaysTurns s panics (lists turns)) (p ∷ ps)) (sym shown_are)
      (makes, match_false (fails p.1 && (false && has_bit look 33)) _ _ (no-panic (fails p.1) (has_bit look 33)) (rest ps tail tells.1))

  -- the items of a turn, one by one
  goes-items : (k : ℕ) (place to : ℕ) (turns : List Turn) → place + k ≡ to → to ≤ length items → ((q : ℕ) → q < to → Ahead (suc q) turns (length items)) → Goes to to turns → Goes place to turns
  goes-items zero place to turns sum within ahead after = let e : to ≡ place = omega arith in subst (λ (n : ℕ). Goes n to turns) e after
  goes-items (suc k) place to turns sum within ahead after =
      let lt : place < to = omega arith in
      one-item place to turns lt within (ahead place lt) (goes-items k (suc place) to turns (omega arith) within ahead after)

  -- turn by turn
  pub plays-steps : (turns : List Turn) (place : ℕ) → NamesEach place turns (length items) → (ps : List Played) → acted_in ps ≡ step_entries seat look (steps_from items place turns) → LooksTell ps → PlaysTurns s panics (lists turns) ps
  plays-steps [] place names ps is tells = no-played ps (is ∙ ap (step_entries seat look) (steps-none items place (let e : place ≡ length items = names in omega arith)))
  plays-steps (turn ∷ turns) place names [] is tells =
      absurd (let no : [] ≡ record { seat = seat; act = Look; before = look; after = look } ∷ step_entries seat look (steps_from items place turns) = is ∙ ap (step_entries seat look) (steps-opens items place turn turns names.0) in cc)
  plays-steps (turn ∷ turns) place names (p ∷ ps) is tells =
      let from : turn.from ≡ place = names.0 in
      let up : turn.from ≤ turn.to = names.1 in
      let opened : Entry = record { seat = seat; act = Look; before = look; after = look } in
      let all : p.0 ∷ acted_in ps ≡ opened ∷ step_entries seat look (steps_from items place turns) = is ∙ ap (step_entries seat look) (steps-opens items place turn turns from) in
      let head : p.0 ≡ opened = cc in
      let tail : acted_in ps ≡ step_entries seat look (steps_from items place turns) = cc in
      let act : p.0.act ≡ Look = ap (λ (e : Entry). e.act) head in
      let observed : p.1 ≡ Looked look = tells.0 act ∙ ap (λ (e : Entry). Looked e.after) head in
      let after : Goes turn.to turn.to turns = λ qs is' tells'. subst (λ (z : List Delivery). Delivers s panics look (filter (is_enabled_by look) z) (PlaysTurns s panics (lists turns)) qs) (sym (range-none ds turn.to)) (plays-steps turns turn.to names.2 qs is' tells') in
      let within = names-within turn.to turns (length items) names.2 in
      let goes = goes-items (turn.to - turn.from) turn.from turn.to turns (omega arith) within (λ q lt. ahead-names q turn.to turns (length items) names.2 lt) after in
      let tail' : acted_in ps ≡ step_entries seat look (steps_from items turn.from turns) = tail ∙ ap (λ (n : ℕ). step_entries seat look (steps_from items n turns)) (sym from) in
      (look, act, observed, match_false (has_bit look 34) _ _ running (goes ps tail' tells.1))
