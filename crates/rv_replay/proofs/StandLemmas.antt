-- Where the lanes stand when one has played its turn.
use Rattle.std.proofs.Common.{◌≡◌, ◌≢◌, ℕ, ◌+◌, ◌<◌, ◌⊎◌, inl, inr, Bool, true, false, List, length, get_or, set, take, refl, sym, ap, ◌∙◌, subst, arith, length-set, get_or-set_same, get_or-set_other, true≢false}
use Rattle.std.specs.Prelude.{All, AllPairs, if◌then◌else◌}
use Rattle.std.proofs.lemmas.List.{get_or_default}
use Rattle.rv_model.specs.declared.record.Record.{Record}
use Rattle.rv_feed.specs.Lane.{LaneValue}
use Rattle.rv_feed.specs.inner.SoFar.{next_turn_of}
use Rattle.rv_feed.proofs.LaneLemmas.{same-lane, same_or_not}
use Rattle.rv_route.specs.Lanes as lanes
use Rattle.rv_route.specs.Listing.{ListedDelivery}
use Rattle.rv_replay.specs.inner.Own.{own}
use Rattle.rv_replay.specs.inner.Turns.{with_records}
use Rattle.rv_replay.specs.inner.Walks.{Stands}

module _ (list : List ListedDelivery) (from to : ℕ) (ended : List Bool) (places : List ℕ) (all : List LaneValue) (k : ℕ) (any : LaneValue) (rs : List Record) (cpu : ℕ) (ends : Bool) (within : k < length all)
    (pairs : AllPairs (λ l m. l.work.cpu ≢ m.work.cpu) all) (cpu_is : (get_or all k any).work.cpu ≡ cpu) (in_places : cpu < length places) (in_ended : cpu < length ended)
    (more : length (own cpu (take to list)).turns ≡ next_turn_of places (get_or all k any) + 1) (others : (c : ℕ) → (cpu ≡ c → ⊥) → own c (take to list) ≡ own c (take from list)) (stood : All (Stands list from ended places) all) where
  -- the lane, and the index of its next turn
  abbrev l : LaneValue
  l = get_or all k any

  abbrev place' : ℕ
  place' = if ends then length l.work.turns else next_turn_of places l + 1

  abbrev After : LaneValue → Type 0
  After = Stands list to (set ended cpu ends) (set places l.work.cpu place')

  -- the lane itself
  mine : (b : Bool) → ends ≡ b → After (with_records l rs)
  mine b is = go b is
    where
      my_place : get_or (set places l.work.cpu place') l.work.cpu 0 ≡ place'
      my_place = get_or-set_same places l.work.cpu place' 0 (let c = cpu_is in omega arith)

      my_end : get_or (set ended cpu ends) l.work.cpu false ≡ ends
      my_end = ap (λ (n : ℕ). get_or (set ended cpu ends) n false) cpu_is ∙ get_or-set_same ended cpu ends false in_ended

      go : (b : Bool) → ends ≡ b → After (with_records l rs)
      go true is = record {
        past = λ on. my_place ∙ ap (λ (b : Bool). if b then length l.work.turns else next_turn_of places l + 1) is;
        next = λ off. absurd (true≢false (sym is ∙ sym my_end ∙ off));
      }
      go false is = record {
        past = λ on. absurd (true≢false (sym on ∙ my_end ∙ is));
        next = λ off. my_place ∙ ap (λ (b : Bool). if b then length l.work.turns else next_turn_of places l + 1) is ∙ sym more ∙ ap (λ (n : ℕ). length (own n (take to list)).turns) (sym cpu_is);
      }

  -- another lane
  theirs : (j : ℕ) (e : LaneValue) → j < length all → j ≢ k → After (get_or all j e)
  theirs j e lt other =
      let m : LaneValue = get_or all j e in
      let apart : l.work.cpu ≡ m.work.cpu → ⊥ = λ eq. other (same-lane all pairs j k any lt within (ap (λ (x : LaneValue). x.work.cpu) (sym (get_or_default all j e any lt)) ∙ sym eq)) in
      let not_mine : cpu ≡ m.work.cpu → ⊥ = λ eq. apart (cpu_is ∙ eq) in
      let their_place : get_or (set places l.work.cpu place') m.work.cpu 0 ≡ next_turn_of places m = get_or-set_other places l.work.cpu m.work.cpu place' 0 (λ eq. apart (sym eq)) in
      let their_end : get_or (set ended cpu ends) m.work.cpu false ≡ get_or ended m.work.cpu false = get_or-set_other ended cpu m.work.cpu ends false (λ eq. not_mine (sym eq)) in
      let s = stood j e lt in
      record {
        past = λ on. their_place ∙ s.past (sym their_end ∙ on);
        next = λ off. their_place ∙ s.next (sym their_end ∙ off) ∙ ap (λ (x : lanes.LaneValue). length x.turns) (sym (others m.work.cpu not_mine));
      }

  -- all lanes
  pub stands-on : All After (set all k (with_records l rs))
  stands-on j e lt = go (same_or_not j k)
    where
      in_lanes : j < length all
      in_lanes = let c = length-set all k (with_records l rs) in omega arith

      go : (j ≡ k) ⊎ (j ≢ k) → After (get_or (set all k (with_records l rs)) j e)
      go (inl here) =
          subst After (sym (ap (λ (n : ℕ). get_or (set all k (with_records l rs)) n e) here ∙ get_or-set_same all k (with_records l rs) e within)) (mine ends refl)
      go (inr other) = subst After (sym (get_or-set_other all k j (with_records l rs) e other)) (theirs j e in_lanes other)
