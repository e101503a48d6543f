-- A lane that is not played stays as it is.
use Rattle.std.proofs.Common.{◌≡◌, ◌≢◌, ℕ, ◌+◌, ◌<◌, Bool, List, ◌++◌, ◌⊎◌, length, map, inl, inr, reverse, arith, sym, ap, ◌∙◌, subst, append_assoc, set, get_or-set_other}
use Rattle.std.specs.Prelude.{slice_index}
use Rattle.rv_model.specs.declared.entry.Entry.{Entry}
use Rattle.rv_model.specs.declared.work.Turn.{Turn}
use Rattle.rv_model.specs.Setups.{Setup}
use Rattle.rv_model.specs.Scripts.{Played, played}
use Rattle.rv_model.specs.Histories.{NoneOf}
use Rattle.rv_model.proofs.SeatLemmas.{looks_on-none, played-none}
use Rattle.rv_core.specs.Setup.{judges_of}
use Rattle.rv_feed.specs.Lane.{LaneValue}
use Rattle.rv_feed.specs.inner.SoFar.{next_turn_of, IsPending, next_line, Going, HasEnded, LaneSoFar}

module _ (s : Setup) (panics : ℕ → Bool) (old more es : List Entry) (places : List ℕ) (from line cpu place' : ℕ) (m : LaneValue) where
  -- entries of other seats leave the lane's script going on or ended
  still : (script : List Played) → NoneOf (2 + m.work.cpu) es → Going s panics more m (next_turn_of places m) script ⊎ HasEnded s panics m (next_turn_of places m) script → Going s panics (more ++ es) m (next_turn_of places m) script ⊎ HasEnded s panics m (next_turn_of places m) script
  still script none (inl g) = inl (record { goes = g.goes; looks = looks_on-none (2 + m.work.cpu) more es none ∙ g.looks; kept = g.kept })
  still script none (inr e) = inr e

  -- the entries are another seat's, the new place is another CPU's, and the lane's next line is above the line
  pub lane-stays : LaneSoFar s panics old more places from m → NoneOf (2 + m.work.cpu) es → cpu ≢ m.work.cpu → (IsPending places m → line < next_line places m) → LaneSoFar s panics old (more ++ es) (set places cpu place') (line + 1) m
  lane-stays it none cpus above =
      let q : next_turn_of (set places cpu place') m ≡ next_turn_of places m = let away : m.work.cpu ≢ cpu = (λ e. cpus (sym e)) in get_or-set_other places cpu m.work.cpu place' 0 away in
      let played_on : played s (judges_of s) (2 + m.work.cpu) (reverse (old ++ (more ++ es))) ≡ played s (judges_of s) (2 + m.work.cpu) (reverse old) ++ it.script =
      ap (λ (h : List Entry). played s (judges_of s) (2 + m.work.cpu) (reverse h)) (sym (append_assoc old more es)) ∙ played-none s (judges_of s) (2 + m.work.cpu) es (old ++ more) none ∙ it.played_is in
      record {
        script = it.script;
        played_is = played_on;
        within = rw q it.within;
        state = subst (λ (n : ℕ). Going s panics (more ++ es) m n it.script ⊎ HasEnded s panics m n it.script) (sym q) (still it.script none it.state);
        later = λ pend.
            let lt = above (subst (λ (n : ℕ). n < length m.work.turns) q pend) in
            let nl : next_line (set places cpu place') m ≡ next_line places m = ap (slice_index (map (λ (x : Turn). x.line) m.work.turns)) q in
            omega arith;
        room = it.room;
        cpu = it.cpu;
        lines = it.lines;
        fit = it.fit;
      }
