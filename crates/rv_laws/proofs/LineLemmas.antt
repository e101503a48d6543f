-- In a history of one thread the lines of the steps on a slot ascend, and a line tells the seat.
use Rattle.std.proofs.Common.{◌≡◌, ℕ, ◌+◌, ◌-◌, ◌<◌, ◌≤◌, Bool, true, false, List, [], ◌∷◌, ◌++◌, inl, inr, length, get_or, reverse, arith, refl, sym, ap, ◌∙◌, subst}
use Rattle.std.specs.Prelude.{Contains, slice_range, if◌then◌else◌}
use Rattle.std.proofs.lemmas.List.{length-map}
use Rattle.std.proofs.lemmas.List.Elements.{Contains-get_or}
use Rattle.rv_model.specs.declared.entry.Answer.{Answer}
use Rattle.rv_model.specs.declared.entry.Entry.{Entry}
use Rattle.rv_model.specs.declared.work.Turn.{Turn}
use Rattle.rv_model.specs.Cuts.{AtEach}
use Rattle.rv_model.specs.Histories.{Input, IsOneHistory, LinesApart, is_on, look_count, looks_of, work_of, line_in, line_at}
use Rattle.rv_model.specs.Judging.{Judge}
use Rattle.rv_model.specs.Scripts.{Played, played, PlaysTurns, turns_of}
use Rattle.rv_model.specs.SharedWords.{answer_at}
use Rattle.rv_model.specs.Works.{Work}
use Rattle.rv_model.proofs.AgreeLemmas.{plays-looks, plays-begun, looks_in, looks_in-append}
use Rattle.rv_model.proofs.SeatLemmas.{looks_of-reverse, played-looks, played-cut, IsWorkOf, find-work, line-index}
use Rattle.rv_laws.proofs.Made.{looked}
use Rattle.rv_laws.proofs.MergeLemmas.{Below, Descends, TellsSeats}
use Rattle.rv_laws.proofs.OrderLemmas.{In}
use Rattle.rv_laws.proofs.OwnerLemmas.{by-cpu, plays}
use Rattle.rv_laws.proofs.PastLemmas.{Each, each-of}
use Rattle.rv_laws.proofs.SeatStepLemmas.{line_of, looked-is}
use Rattle.rv_laws.proofs.StepLemmas.{Step, step_of, steps_of}

-- a line of the seat's work
pub record IsOfTurn (works : List Work) (seat line : ℕ) : Type 0 where
  pub work : IsWorkOf works seat (work_of works seat)
  pub turn : Turn
  pub has_turn : Contains (work_of works seat).turns turn
  pub line_is : turn.line ≡ line

module _ (works : List Work) where
  -- the line of an entry, by the entries before it and by its past
  line-past : (before : List Entry) (e : Entry) → line_at works before e ≡ line_of works (reverse before) e
  line-past before e = ap (line_in (work_of works e.seat).turns) (sym (looked-is e.act (looks_of e.seat before)) ∙ ap (looked e.act) (sym (looks_of-reverse e.seat before)))

  -- its line is not above
  abbrev NotAbove : ℕ → List Entry → Entry → Type 0
  NotAbove n past e = line_of works past e ≤ n

  -- no line is above that of the entry
  abbrev pub IsLast : List Entry → Entry → Type 0
  IsLast past e = Each (NotAbove (line_of works past e)) past

  -- its line is one of its seat's work
  abbrev pub OfTurn : List Entry → Entry → Type 0
  OfTurn past e = IsOfTurn works e.seat (line_of works past e)

  module _ (slot : ℕ) where
    -- the steps of a past on the slot
    abbrev steps : List Entry → List Step
    steps past = steps_of slot (line_of works) past

    -- no step's line is above
    below-steps : (n : ℕ) (past : List Entry) → Each (NotAbove n) past → Below n (steps past)
    below-steps n [] each = tt
    below-steps n (e ∷ past) each = inner (below-steps n past each.1) (is_on slot e.act)
      where
        inner : Below n (steps past) → (b : Bool) → Below n (if b then step_of slot (line_of works) past e ∷ steps past else steps past)
        inner rest true = (each.0, rest)
        inner rest false = rest

    -- the steps' lines never ascend, from the newest on
    pub descends : (past : List Entry) → Each IsLast past → Descends (steps past)
    descends [] each = tt
    descends (e ∷ past) each = inner (descends past each.1) (is_on slot e.act)
      where
        inner : Descends (steps past) → (b : Bool) → Descends (if b then step_of slot (line_of works) past e ∷ steps past else steps past)
        inner rest true = (below-steps (line_of works past e) past each.0, rest)
        inner rest false = rest

    -- each step's line is one of its seat's work
    pub of-turns : (past : List Entry) → Each OfTurn past → (x : Step) → In x (steps past) → IsOfTurn works x.seat x.line
    of-turns [] each x in' = absurd in'
    of-turns (e ∷ past) each x in' = inner (of-turns past each.1 x) (is_on slot e.act) in'
      where
        inner : (In x (steps past) → IsOfTurn works x.seat x.line) → (b : Bool) → In x (if b then step_of slot (line_of works) past e ∷ steps past else steps past) → IsOfTurn works x.seat x.line
        inner rest true (inl same) = subst (λ (z : Step). IsOfTurn works z.seat z.line) (sym same) each.0
        inner rest true (inr later) = rest later
        inner rest false later = rest later

module _ (input : Input) (js : List Judge) (h : List Entry) (one : IsOneHistory input js h) where
  -- the lines of a history ascend
  pub in-order : Each (IsLast input.works) (reverse h)
  in-order = each-of (IsLast input.works) h (λ before e after eq.
      each-of (NotAbove input.works (line_of input.works (reverse before) e)) before (λ earlier f later at.
      let le : line_at input.works earlier f ≤ line_at input.works before e = one.in_order before e after eq earlier f later at in
      let a = line-past input.works earlier f in
      let b = line-past input.works before e in
      subst (λ (n : ℕ). n ≤ line_of input.works (reverse before) e) a (subst (λ (n : ℕ). line_at input.works earlier f ≤ n) b le)))

  -- each line is one of its seat's work
  of-turn : AtEach (λ before e. OfTurn input.works (reverse before) e) h
  of-turn before e after eq =
      let works : List Work = input.works in
      let by = by-cpu input js h one.legal one.no_changes before e after eq in
      let w = find-work works e.seat (by.has.0, by.work, by.has.1, by.has.2, by.seat) in
      let own : Work = work_of works e.seat in
      let script = subst (λ (n : ℕ). PlaysTurns input.setup input.panics (turns_of own) (played input.setup js n (reverse h))) w.seat_is (plays input js h one.legal one.no_changes own w.has) in
      let cut = played-cut input.setup js e.seat before e after refl in
      let a : Answer = answer_at input.setup js (reverse before) e e.act in
      let so_far : List Played = played input.setup js e.seat (reverse before) in
      let whole : played input.setup js e.seat (reverse h) ≡ so_far ++ (e, a) ∷ cut.0 = ap (λ (z : List Entry). played input.setup js e.seat (reverse z)) eq ∙ cut.1 in
      let at_cut : PlaysTurns input.setup input.panics (turns_of own) (so_far ++ (e, a) ∷ cut.0) = subst (PlaysTurns input.setup input.panics (turns_of own)) whole script in
      let begun = plays-begun input.setup input.panics (turns_of own) so_far (e, a) cut.0 at_cut in
      let most = plays-looks input.setup input.panics (turns_of own) (so_far ++ (e, a) ∷ cut.0) at_cut in
      let count : looks_in so_far ≡ looks_of e.seat before = played-looks input.setup js e.seat (reverse before) ∙ looks_of-reverse e.seat before in
      let sum = looks_in-append so_far ((e, a) ∷ cut.0) in
      let many : length (turns_of own) ≡ length own.turns = length-map own.turns (λ (turn : Turn). slice_range own.deliveries turn.from turn.to) in
      let n : ℕ = looks_of e.seat before + look_count e.act in
      let low : 1 ≤ n = omega arith in
      let high : n - 1 < length own.turns = omega arith in
      let d : Turn = record { line = 0; from = 0; to = 0 } in
      record { work = w; turn = get_or own.turns (n - 1) d; has_turn = Contains-get_or own.turns (n - 1) d high; line_is = sym (line-index own.turns (n - 1) d high) ∙ line-past works before e }

  -- so is that of each entry of the past
  pub all-of-turn : Each (OfTurn input.works) (reverse h)
  all-of-turn = each-of (OfTurn input.works) h of-turn

  -- one line, one seat
  pub tells-seats : LinesApart input.works → (slot : ℕ) → TellsSeats (steps_of slot (line_of input.works) (reverse h))
  tells-seats apart slot x y in_x in_y same =
      let a = of-turns input.works slot (reverse h) all-of-turn x in_x in
      let b = of-turns input.works slot (reverse h) all-of-turn y in_y in
      let cpu = apart (work_of input.works x.seat) (work_of input.works y.seat) a.turn b.turn a.work.has b.work.has a.has_turn b.has_turn (a.line_is ∙ same ∙ sym b.line_is) in
      sym a.work.seat_is ∙ ap (λ (n : ℕ). 2 + n) cpu ∙ b.work.seat_is
