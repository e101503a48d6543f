-- A run of all scripts: before the first turn, after the last, and from one to the next.
use Rattle.std.proofs.Common.{◌≡◌, ℕ, zero, suc, ◌+◌, ◌^◌, ◌<◌, ◌≤◌, Bool, List, [], ◌∷◌, ◌++◌, ◌⊎◌, length, inl, inr, reverse, arith, refl, sym, ap, ◌∙◌, subst, append-nil, take, get_or, set, All, replicate}
use Rattle.std.specs.Prelude.{Any}
use Rattle.std.proofs.lemmas.List.Elements.{All-get_or}
use Rattle.rv_model.specs.declared.entry.Entry.{Entry}
use Rattle.rv_model.specs.declared.record.Record.{Record}
use Rattle.rv_model.specs.declared.work.Turn.{Turn}
use Rattle.rv_model.specs.Cuts.{AtEach}
use Rattle.rv_model.specs.Scripts.{Played, played, Plays}
use Rattle.rv_model.specs.inner.ScriptParts.{GoesOn}
use Rattle.rv_model.specs.Histories.{IsNoStop, IsPermittedTo, line_at}
use Rattle.rv_model.specs.Records.{script_records}
use Rattle.rv_model.proofs.CutLemmas.{at_each-nil}
use Rattle.rv_model.proofs.ScriptPartLemmas.{goes-nothing, goes-whole}
use Rattle.rv_core.specs.Core.{CoreValue}
use Rattle.rv_core.specs.Setup.{judges_of}
use Rattle.rv_feed.specs.declared.order.NextTurn.{NextTurn}
use Rattle.rv_feed.specs.Lane.{LaneValue, FitsLane, FitLanes, works_of}
use Rattle.rv_feed.specs.Order.{Whole, Ran}
use Rattle.rv_feed.specs.inner.SoFar.{next_turn_of, IsPending, next_line, IsLeast, PlaysNext, Going, HasEnded, LaneSoFar, RunSoFar}
use Rattle.rv_feed.proofs.LaneLemmas.{same_or_not}
use Rattle.rv_feed.proofs.StepLemmas.{run-step}

-- no turn was played
zeros : (n i : ℕ) → let z : ℕ = 0 in get_or (replicate n z) i z ≡ z
zeros zero i = refl
zeros (suc n) zero = refl
zeros (suc n) (suc i) = zeros n i

-- before the first turn
pub run-start : (panics : ℕ → Bool) (old : CoreValue) (lanes : List LaneValue) → FitLanes old.setup lanes → RunSoFar panics old old lanes lanes (replicate 64 0) 0
run-start panics old lanes ok = record {
  more = [];
  grows = ap (λ (h : List Entry). record old { history = h }) (sym (append-nil old.history));
  same_works = refl;
  count = refl;
  lanes_are = λ k d lt. start (get_or lanes k d) (All-get_or (FitsLane old.setup) lanes k d lt ok.fit);
  nobody_else = at_each-nil (λ b e. Any (λ w. e.seat ≡ 2 + w.cpu) (works_of lanes));
  no_stop = at_each-nil (λ b e. IsNoStop e.act);
  permitted = at_each-nil (λ b e. (e.seat < 67) × IsPermittedTo e.act e.seat);
  in_order = at_each-nil (λ before f. AtEach (λ earlier e. line_at (works_of lanes) earlier e ≤ line_at (works_of lanes) before f) before);
  below = at_each-nil (λ b e. line_at (works_of lanes) b e < 0);
}
  where
    start : (l : LaneValue) → FitsLane old.setup l → LaneSoFar old.setup panics old.history [] (replicate 64 0) 0 l
    start l fit =
        let z = zeros 64 l.work.cpu in
        let none : l.records ≡ [] = fit.new_lane.no_records in
        record {
          script = [];
          played_is = ap (λ (h : List Entry). played old.setup (judges_of old.setup) (2 + l.work.cpu) (reverse h)) (append-nil old.history) ∙ sym (append-nil (played old.setup (judges_of old.setup) (2 + l.work.cpu) (reverse old.history)));
          within = rw z (omega arith);
          state = inl (subst (λ (n : ℕ). Going old.setup panics [] l n []) (sym z) (record {
            goes = subst (λ (rs : List Record). GoesOn old.setup panics l.work.deliveries [] [] rs) (sym none) (goes-nothing old.setup panics l.work.deliveries);
            looks = refl;
            kept = λ t lt. let nl : length l.records ≡ 0 = rw none refl in omega arith;
          }));
          later = λ pend. omega arith;
          room = fit.new_lane.room;
          cpu = fit.cpu;
          lines = fit.lines;
          fit = fit.fit;
        }

-- all of a list
take-all : {X : Type 0} (xs : List X) → take (length xs) xs ≡ xs
take-all [] = refl
take-all (x ∷ xs) = ap (λ (ys : List _). x ∷ ys) (take-all xs)

-- after the last turn
pub run-end : (panics : ℕ → Bool) (old cur : CoreValue) (first lanes : List LaneValue) (places : List ℕ) (from : ℕ) → RunSoFar panics old cur first lanes places from → All (λ l. IsPending places l → ⊥) lanes → Ran panics old cur first lanes
run-end panics old cur first lanes places from run none = record {
  more = run.more;
  grows = run.grows;
  same_works = run.same_works;
  whole = λ k d lt. subst (λ (h : List Entry). Whole old.setup panics old.history h (get_or lanes k d)) (sym (ap (λ (v : CoreValue). v.history) run.grows))
      (whole (get_or lanes k d) (All-get_or (LaneSoFar old.setup panics old.history run.more places from) lanes k d lt run.lanes_are) (All-get_or (λ l. IsPending places l → ⊥) lanes k d lt none));
  nobody_else = run.nobody_else;
  no_stop = run.no_stop;
  permitted = run.permitted;
  in_order = run.in_order;
}
  where
    finished : (l : LaneValue) (script : List Played) → next_turn_of places l ≡ length l.work.turns → Going old.setup panics run.more l (next_turn_of places l) script ⊎ HasEnded old.setup panics l (next_turn_of places l) script
        → Plays old.setup panics l.work script × (script_records l.work.deliveries l.work.turns script ≡ l.records)
    finished l script all (inr e) = (e.plays, e.records)
    finished l script all (inl g) =
        let done : take (next_turn_of places l) l.work.turns ≡ l.work.turns = ap (λ (n : ℕ). take n l.work.turns) all ∙ take-all l.work.turns in
        goes-whole old.setup panics l.work.deliveries l.work.turns script l.records (subst (λ (ts : List Turn). GoesOn old.setup panics l.work.deliveries ts script l.records) done g.goes)

    whole : (l : LaneValue) → LaneSoFar old.setup panics old.history run.more places from l → (IsPending places l → ⊥) → Whole old.setup panics old.history (old.history ++ run.more) l
    whole l it free =
        let all : next_turn_of places l ≡ length l.work.turns = let w = it.within in elim (same_or_not (next_turn_of places l) (length l.work.turns)) [ inl e ↦ e | inr n ↦ absurd (free (grind arith)) ] in
        let f = finished l it.script all it.state in
        record { script = it.script; played_is = it.played_is; plays = f.0; records = f.1 }

-- ---- the least next turn

-- the lane at this place goes on, with this line
pub record IsNext (places : List ℕ) (lanes : List LaneValue) (k line : ℕ) (d : LaneValue) : Type 0 where
  pub below : k < length lanes
  pub pending : IsPending places (get_or lanes k d)
  pub line_is : next_line places (get_or lanes k d) ≡ line
  pub fits : line < 2 ^ 32

-- a least line that is one is a lane's
pub is-next : (places : List ℕ) (lanes : List LaneValue) (next : NextTurn) (d : LaneValue) → IsLeast places lanes next → (next.line ≡ 2 ^ 32 → ⊥) → IsNext places lanes next.lane next.line d
is-next places lanes next d least some = go least.found
  where
    go : (next.line ≡ 2 ^ 32) ⊎ ((next.lane < length lanes) × ((d : LaneValue) → IsPending places (get_or lanes next.lane d) × (next_line places (get_or lanes next.lane d) ≡ next.line))) → IsNext places lanes next.lane next.line d
    go (inl none) = absurd (some none)
    go (inr (lt, f)) =
        let g = f d in
        let le = All-get_or (λ x. IsPending places x → (next.line ≤ next_line places x) × (next_line places x < 2 ^ 32)) lanes next.lane d lt least.least g.0 in
        let le0 = le.0 in
        let le1 = le.1 in
        record { below = lt; pending = g.0; line_is = g.1; fits = omega arith }

-- lines ascend
pub from-le : (panics : ℕ → Bool) (old cur : CoreValue) (first lanes : List LaneValue) (places : List ℕ) (from k line : ℕ) (d : LaneValue) → RunSoFar panics old cur first lanes places from → IsNext places lanes k line d → from ≤ line
from-le panics old cur first lanes places from k line d run n =
    let later = (All-get_or (LaneSoFar old.setup panics old.history run.more places from) lanes k d n.below run.lanes_are).later n.pending in
    let e = n.line_is in
    omega arith

-- the lane at this place, whose next line is the least, played its next turn
pub run-played : (panics : ℕ → Bool) (old cur new : CoreValue) (first lanes : List LaneValue) (places : List ℕ) (from k line : ℕ) (lane' : LaneValue) (place' : ℕ) (d : LaneValue)
    → FitLanes old.setup first → RunSoFar panics old cur first lanes places from → k < length lanes → All (λ l. IsPending places l → line ≤ next_line places l) lanes
    → IsPending places (get_or lanes k d) → next_line places (get_or lanes k d) ≡ line
    → PlaysNext panics cur new (get_or lanes k d) lane' (next_turn_of places (get_or lanes k d)) place'
    → RunSoFar panics old new first (set lanes k lane') (set places (get_or lanes k d).work.cpu place') (line + 1)
run-played panics old cur new first lanes places from k line lane' place' d ok run below least pending line_is plays =
    let run' : RunSoFar panics old (record old { history = old.history ++ run.more }) first lanes places from = record {
      more = run.more;
      grows = refl;
      same_works = run.same_works;
      count = run.count;
      lanes_are = run.lanes_are;
      nobody_else = run.nobody_else;
      no_stop = run.no_stop;
      permitted = run.permitted;
      in_order = run.in_order;
      below = run.below;
    } in
    run-step panics old run.more new first lanes places from k line lane' place' d ok run' refl below least pending line_is
    (subst (λ (v : CoreValue). PlaysNext panics v new (get_or lanes k d) lane' (next_turn_of places (get_or lanes k d)) place') run.grows plays)

-- the lane with the least line played its next turn
pub run-next : (panics : ℕ → Bool) (old cur new : CoreValue) (first lanes : List LaneValue) (places : List ℕ) (from : ℕ) (next : NextTurn) (lane' : LaneValue) (place' : ℕ) (d : LaneValue)
    → FitLanes old.setup first → RunSoFar panics old cur first lanes places from → IsLeast places lanes next → (next.line ≡ 2 ^ 32 → ⊥)
    → PlaysNext panics cur new (get_or lanes next.lane d) lane' (next_turn_of places (get_or lanes next.lane d)) place'
    → RunSoFar panics old new first (set lanes next.lane lane') (set places (get_or lanes next.lane d).work.cpu place') (next.line + 1)
run-next panics old cur new first lanes places from next lane' place' d ok run least some plays =
    let n = is-next places lanes next d least some in
    run-played panics old cur new first lanes places from next.lane next.line lane' place' d ok run n.below (λ j c lt pend. (least.least j c lt pend).0) n.pending n.line_is plays
