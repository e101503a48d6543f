-- One more turn of one lane.
use Rattle.std.proofs.Common.{◌≡◌, ◌≢◌, ℕ, ◌+◌, ◌-◌, ◌<◌, ◌≤◌, Bool, true, false, List, [], ◌∷◌, ◌++◌, length, map, inl, inr, reverse, arith, refl, sym, ap, ◌∙◌, subst, append_assoc, take, drop, get_or, set, length-set, get_or-set_same, get_or-set_other, length-append, All}
use Rattle.std.specs.Prelude.{Any, Contains, AllPairs, slice_index}
use Rattle.std.proofs.lemmas.List.{take_more, take-append-drop, get_or_default}
use Rattle.std.proofs.lemmas.List.Elements.{All-get_or, Contains-get_or}
use Rattle.rv_model.specs.declared.entry.Entry.{Entry}
use Rattle.rv_model.specs.declared.work.Turn.{Turn}
use Rattle.rv_model.specs.Cuts.{AtEach}
use Rattle.rv_model.specs.Setups.{Setup}
use Rattle.rv_model.specs.Scripts.{Played, played, PlaysTurns}
use Rattle.rv_model.specs.inner.ScriptParts.{GoesOn, EndsScript, ScriptOr, turn_lists}
use Rattle.rv_model.specs.Histories.{IsNoStop, IsPermittedTo, IsPermitted, look_count, looks_of, NoneOf, IsInOrder, line_at, line_in, work_of}
use Rattle.rv_model.specs.Records.{script_records}
use Rattle.rv_model.specs.Works.{Work}
use Rattle.rv_model.proofs.CutLemmas.{at_each-append, at_each-weaker}
use Rattle.rv_model.proofs.ScriptPartLemmas.{goes-join, goes-end}
use Rattle.rv_model.proofs.SeatLemmas.{looks_of-append, line-index}
use Rattle.rv_core.specs.Core.{CoreValue}
use Rattle.rv_core.specs.Setup.{judges_of}
use Rattle.rv_feed.specs.Lane.{LaneValue, FitLanes, works_of}
use Rattle.rv_feed.specs.Turns.{entries_played, Did}
use Rattle.rv_feed.specs.inner.Turns.{PlaysTurn}
use Rattle.rv_feed.specs.inner.SoFar.{next_turn_of, IsPending, next_line, PlaysNext, Going, LaneSoFar, RunSoFar}
use Rattle.rv_feed.proofs.EntryLemmas.{none-by, IsIn, by-at, one-at, one-looks, below-more, order-more}
use Rattle.rv_feed.proofs.StayLemmas.{lane-stays}
use Rattle.rv_feed.proofs.LaneLemmas.{works-set, work-at, work-is, same-lane, same_or_not, pairs-to, pairs-from, names-in, names-next}

module _ (panics : ℕ → Bool) (old : CoreValue) (more : List Entry) (new : CoreValue) (first lanes : List LaneValue) (places : List ℕ) (from k line : ℕ) (lane' : LaneValue) (place' : ℕ) (d : LaneValue)
    (ok : FitLanes old.setup first) (run : RunSoFar panics old (record old { history = old.history ++ more }) first lanes places from) (more_is : run.more ≡ more) (lt : k < length lanes)
    (least : All (λ l. IsPending places l → line ≤ next_line places l) lanes)
    (pending : IsPending places (get_or lanes k d)) (line_is : next_line places (get_or lanes k d) ≡ line)
    (next : PlaysNext panics (record old { history = old.history ++ more }) new (get_or lanes k d) lane' (next_turn_of places (get_or lanes k d)) place') where
  -- the setup, the lane, its work, its seat, its place, the turn, what it plays and its entries, and all works
  abbrev s : Setup
  s = old.setup

  abbrev l : LaneValue
  l = get_or lanes k d

  abbrev w : Work
  w = l.work

  abbrev seat : ℕ
  seat = 2 + w.cpu

  abbrev p : ℕ
  p = next_turn_of places l

  abbrev t : Turn
  t = next.turn

  abbrev tp : PlaysTurn (Did seat) s panics (record old { history = old.history ++ more }) new t l lane' next.ends
  tp = next.plays

  abbrev es : List Entry
  es = entries_played tp.ps

  abbrev works : List Work
  works = works_of first

  -- what the lane has played so far
  me : LaneSoFar s panics old.history more places from l
  me = subst (λ (m : List Entry). LaneSoFar s panics old.history m places from l) more_is (All-get_or (LaneSoFar s panics old.history run.more places from) lanes k d lt run.lanes_are)

  -- its script goes on, since a turn is left
  going : Going s panics more l p me.script
  going = elim me.state [ inl g ↦ g | inr e ↦ absurd (let a = e.all in omega arith) ]

  -- the works of the lanes are those of the first ones
  same_works : works_of lanes ≡ works
  same_works = run.same_works

  -- the lane's work is one of the works
  has : Contains works w
  has = subst (λ (ws : List Work). Contains ws w) same_works (work-at lanes k d lt)

  -- the seat's work is the lane's
  is_mine : work_of works seat ≡ w
  is_mine = work-is first ok.cpus w has

  -- the turn is the next one of the work
  t_is : (u : Turn) → t ≡ get_or w.turns p u
  t_is = next.turn_is

  -- its line is the least of the next lines
  t_line : t.line ≡ line
  t_line = ap (λ (x : Turn). x.line) (t_is t) ∙ sym (line-index w.turns p t pending) ∙ line_is

  -- each entry of the turn is by the lane's seat
  at : (b : List Entry) (e : Entry) (a : List Entry) → es ≡ b ++ e ∷ a → IsIn seat e
  at = by-at seat tp.ps tp.did.by

  -- the line of each entry of the turn is this line
  line-here : (b : List Entry) (e : Entry) (a : List Entry) → es ≡ b ++ e ∷ a → line_at works (more ++ b) e ≡ line
  line-here b e a eq =
      let mine : e.seat ≡ seat = (at b e a eq).0 in
      let one = one-at seat tp.ps tp.did.by tp.one b e a eq in
      let before = looks_of-append seat more b in
      let looks : looks_of seat (more ++ b) + look_count e.act ≡ p + 1 = let g = going.looks in omega arith in
      let back : (p + 1) - 1 ≡ p = omega arith in
      ap (λ (n : ℕ). line_in (work_of works n).turns (looks_of n (more ++ b) + look_count e.act)) mine
      ∙ ap (λ (v : Work). line_in v.turns (looks_of seat (more ++ b) + look_count e.act)) is_mine
      ∙ ap (line_in w.turns) looks
      ∙ ap (slice_index (map (λ (x : Turn). x.line) w.turns)) back ∙ line_is

  -- no entry before the turn has a later line
  before-line : AtEach (λ b e. line_at works b e ≤ line) more
  before-line =
      let later = me.later pending in
      at_each-weaker (λ b e. line_at works b e < from) (λ b e. line_at works b e ≤ line) (λ b e x. omega arith) more (subst (AtEach (λ b e. line_at works b e < from)) more_is run.below)

  -- ---- the lane itself

  -- the lane after the turn
  abbrev after : LaneValue
  after = record { work = w; records = l.records ++ tp.rs; room = lane'.room }

  -- the lane has its work, and the records of the turn behind its own
  after_is : lane' ≡ after
  after_is = λ i. record { work = tp.kept.work_is i; records = tp.kept.records_are i; room = lane'.room }

  -- the places after the turn
  abbrev places' : List ℕ
  places' = set places w.cpu place'

  -- the place of the lane is the new one
  my_place : next_turn_of places' after ≡ place'
  my_place = let in_places : w.cpu < length places = let c = run.count in let f = me.cpu in omega arith in rw get_or-set_same refl

  -- the turns up to and with this one
  up_to : take (p + 1) w.turns ≡ take p w.turns ++ t ∷ []
  up_to = take_more w.turns p t pending ∙ ap (λ (x : Turn). take p w.turns ++ x ∷ []) (sym (t_is t))

  -- the seat has played the turn behind what it had played
  my_played : played s (judges_of s) seat (reverse (old.history ++ (more ++ es))) ≡ played s (judges_of s) seat (reverse old.history) ++ (me.script ++ tp.ps)
  my_played = ap (λ (h : List Entry). played s (judges_of s) seat (reverse h)) (sym (append_assoc old.history more es)) ∙ tp.did.played_is
      ∙ ap (λ (ps : List Played). ps ++ tp.ps) me.played_is ∙ append_assoc (played s (judges_of s) seat (reverse old.history)) me.script tp.ps

  -- there is room for a record of each delivery
  my_room : length w.deliveries ≤ after.room
  my_room = let a = me.room in let b = tp.kept.room in omega arith

  -- the seat has looked once more
  my_looks : looks_of seat (more ++ es) ≡ p + 1
  my_looks = let a = looks_of-append seat more es in let b = one-looks seat tp.ps tp.did.by tp.one in let g = going.looks in omega arith

  -- what the lane has played with the turn, whether or not its script ends there
  mine-on : (ends : Bool) → next.ends ≡ ends → LaneSoFar s panics old.history (more ++ es) places' (line + 1) after
  mine-on true e =
      let all : place' ≡ length w.turns = next.place_is ∙ rw e refl in
      let script : EndsScript s panics w.deliveries (t ∷ []) tp.ps tp.rs = subst (λ (b : Bool). ScriptOr b s panics w.deliveries (t ∷ []) tp.ps tp.rs) e tp.script in
      let end = goes-end s panics w.deliveries (take p w.turns) (t ∷ []) me.script tp.ps l.records tp.rs going.goes script in
      let turns : (take p w.turns ++ t ∷ []) ++ drop (p + 1) w.turns ≡ w.turns = ap (λ (ts : List Turn). ts ++ drop (p + 1) w.turns) (sym up_to) ∙ take-append-drop (p + 1) w.turns in
      record {
        script = me.script ++ tp.ps;
        played_is = my_played;
        within = rw (my_place, all) (omega arith);
        state = inr (record {
          plays = subst (λ (ts : List Turn). PlaysTurns s panics (turn_lists w.deliveries ts) (me.script ++ tp.ps)) turns (end.plays (drop (p + 1) w.turns));
          records = ap (λ (ts : List Turn). script_records w.deliveries ts (me.script ++ tp.ps)) (sym turns) ∙ end.records (drop (p + 1) w.turns);
          all = my_place ∙ all;
        });
        later = λ pend. absurd (let h = my_place in omega arith);
        room = my_room;
        cpu = me.cpu;
        lines = me.lines;
        fit = me.fit;
      }
  mine-on false e =
      let step : place' ≡ p + 1 = next.place_is ∙ rw e refl in
      let q : next_turn_of places' after ≡ p + 1 = my_place ∙ step in
      let script : GoesOn s panics w.deliveries (t ∷ []) tp.ps tp.rs = subst (λ (b : Bool). ScriptOr b s panics w.deliveries (t ∷ []) tp.ps tp.rs) e tp.script in
      let on = goes-join s panics w.deliveries (take p w.turns) (t ∷ []) me.script tp.ps l.records tp.rs going.goes script in
      let goes : GoesOn s panics w.deliveries (take (p + 1) w.turns) (me.script ++ tp.ps) (l.records ++ tp.rs) = subst (λ (ts : List Turn). GoesOn s panics w.deliveries ts (me.script ++ tp.ps) (l.records ++ tp.rs)) (sym up_to) on in
      let ahead : (u : Turn) → p + 1 < length w.turns → (t.line < (get_or w.turns (p + 1) u).line) × ((get_or w.turns (p + 1) u).from ≡ t.to) =
      λ u in_turns. (rw (t_is u) (me.lines p (p + 1) u (omega arith) in_turns), names-next 0 w.turns (length w.deliveries) next.is_work p u in_turns ∙ ap (λ (x : Turn). x.to) (sym (t_is u))) in
      let sound : t.from ≤ t.to = rw (t_is t) (names-in 0 w.turns (length w.deliveries) next.is_work p t pending).0 in
      record {
        script = me.script ++ tp.ps;
        played_is = my_played;
        within = rw q (omega arith);
        state = inl (subst (λ (n : ℕ). Going s panics (more ++ es) after n (me.script ++ tp.ps)) (sym q) (record {
          goes = goes;
          looks = my_looks;
          kept = λ u in_turns.
              let a = ahead u in_turns in
              let b = going.kept t pending in
              let c = tp.few in
              let sum = length-append l.records tp.rs in
              let f : (get_or w.turns p t).from ≡ t.from = ap (λ (x : Turn). x.from) (sym (t_is t)) in
              let a1 = a.1 in
              omega arith;
        }));
        later = λ pend.
            let in_turns : p + 1 < length w.turns = omega arith in
            let a = (ahead t in_turns).0 in
            let n : next_line places' after ≡ (get_or w.turns (p + 1) t).line = ap (slice_index (map (λ (x : Turn). x.line) w.turns)) q ∙ line-index w.turns (p + 1) t in_turns in
            let tl = t_line in
            omega arith;
        room = my_room;
        cpu = me.cpu;
        lines = me.lines;
        fit = me.fit;
      }

  -- ---- another lane
  -- another lane is of another CPU
  other-cpu : (j : ℕ) (c : LaneValue) → j < length lanes → j ≢ k → w.cpu ≡ (get_or lanes j c).work.cpu → ⊥
  other-cpu j c lj n e =
      let apart = pairs-from lanes (subst (AllPairs (λ v u. v.cpu ≢ u.cpu)) (sym same_works) (pairs-to first ok.cpus)) in
      n (same-lane lanes apart j k d lj lt (ap (λ (x : LaneValue). x.work.cpu) (sym (get_or_default lanes j c d lj)) ∙ sym e))

  -- what another lane has played stays
  other : (j : ℕ) (c : LaneValue) → j < length lanes → j ≢ k → LaneSoFar s panics old.history (more ++ es) places' (line + 1) (get_or lanes j c)
  other j c lj n =
      let m : LaneValue = get_or lanes j c in
      let it : LaneSoFar s panics old.history more places from m = subst (λ (h : List Entry). LaneSoFar s panics old.history h places from m) more_is (All-get_or (LaneSoFar s panics old.history run.more places from) lanes j c lj run.lanes_are) in
      let has_m : Contains works m.work = subst (λ (ws : List Work). Contains ws m.work) same_works (work-at lanes j c lj) in
      let cpus : w.cpu ≢ m.work.cpu = λ e. other-cpu j c lj n e in
      let none : NoneOf (2 + m.work.cpu) es = none-by seat (2 + m.work.cpu) tp.ps tp.did.by (λ e. cpus (omega arith)) in
      lane-stays s panics old.history more es places from line w.cpu place' m it none cpus (λ pend.
      let le = All-get_or (λ x. IsPending places x → line ≤ next_line places x) lanes j c lj least pend in
      let lines : line ≢ next_line places m = λ e. cpus (sym (ok.apart m.work w (get_or m.work.turns (next_turn_of places m) t) t has_m has (Contains-get_or m.work.turns (next_turn_of places m) t pend)
      (subst (Contains w.turns) (sym (t_is t)) (Contains-get_or w.turns p t pending)) (sym (line-index m.work.turns (next_turn_of places m) t pend) ∙ sym e ∙ sym t_line))) in
      grind arith)

  -- what each lane has played, with the turn
  lanes-on : All (LaneSoFar s panics old.history (more ++ es) places' (line + 1)) (set lanes k lane')
  lanes-on j c lj = elim (same_or_not j k) [
    | inl same ↦ let there : get_or (set lanes k lane') j c ≡ lane' = ap (λ (n : ℕ). get_or (set lanes k lane') n c) same ∙ rw get_or-set_same refl in subst (LaneSoFar s panics old.history (more ++ es) places' (line + 1)) (sym (there ∙ after_is)) (mine-on next.ends refl)
    | inr n ↦ let in_lanes : j < length lanes = rw (← length-set lanes k lane') lj in let there : get_or (set lanes k lane') j c ≡ get_or lanes j c = rw get_or-set_other refl in subst (LaneSoFar s panics old.history (more ++ es) places' (line + 1)) (sym there) (other j c in_lanes n)
  ]

  -- all lanes after it
  pub run-step : RunSoFar panics old new first (set lanes k lane') places' (line + 1)
  run-step = record {
    more = more ++ es;
    grows = tp.did.grows ∙ ap (λ (h : List Entry). record old { history = h }) (append_assoc old.history more es);
    same_works = works-set lanes k lane' d lt tp.kept.work_is ∙ same_works;
    count = rw length-set run.count;
    lanes_are = lanes-on;
    nobody_else = at_each-append (λ b e. Any (λ v. e.seat ≡ 2 + v.cpu) works) es more (subst (AtEach (λ b e. Any (λ v. e.seat ≡ 2 + v.cpu) works)) more_is run.nobody_else) (λ b e a eq. (has.0, w, has.1, has.2, (at b e a eq).0));
    no_stop = at_each-append (λ b e. IsNoStop e.act) es more (subst (AtEach (λ b e. IsNoStop e.act)) more_is run.no_stop) (λ b e a eq. (at b e a eq).1);
    permitted = at_each-append (λ b e. (e.seat < 67) × IsPermittedTo e.act e.seat) es more (subst IsPermitted more_is run.permitted)
        (λ b e a eq. let i = at b e a eq in let i0 = i.0 in let f = me.cpu in (omega arith, subst (IsPermittedTo e.act) (sym i.0) i.2));
    in_order = order-more works line more es (subst (IsInOrder works) more_is run.in_order) before-line line-here;
    below = at_each-weaker (λ b e. line_at works b e ≤ line) (λ b e. line_at works b e < line + 1) (λ b e x. omega arith) (more ++ es) (below-more works line more es (subst (IsInOrder works) more_is run.in_order) before-line line-here);
  }
