-- A turn, delivery by delivery.
use Rattle.std.proofs.Common.{◌≡◌, ℕ, ◌+◌, ◌-◌, Bool, true, false, ◌&&◌, List, [], ◌∷◌, ◌++◌, arith, refl, sym, ap, ◌∙◌, subst, length-append}
use Rattle.rv_model.specs.declared.entry.Answer.TheVariants.{Looked}
use Rattle.rv_model.specs.declared.record.Delivered.{Delivered}
use Rattle.rv_model.specs.declared.record.Record.{Record}
use Rattle.rv_model.specs.declared.work.Delivery.{Delivery}
use Rattle.rv_model.specs.declared.work.Turn.{Turn}
use Rattle.rv_model.specs.Numbers.{has_bit}
use Rattle.rv_model.specs.Histories.{look_count}
use Rattle.rv_model.specs.Records.{failed_outcome, record_of}
use Rattle.rv_model.specs.Setups.{Setup}
use Rattle.rv_model.specs.Scripts.{Played, is_enabled_by, fails}
use Rattle.rv_model.specs.inner.ScriptParts.{TurnPart}
use Rattle.rv_model.proofs.ScriptPartLemmas.{part-nothing, part-join, last-join, part-one, last-one, part-quiet, turn-goes, turn-ends, turn-halted}
use Rattle.rv_feed.specs.Lane.{LaneValue}
use Rattle.rv_feed.specs.inner.Lane.{AddsRecords}
use Rattle.rv_feed.specs.Players.{Composes, LooksAt, Halts, Serves}
use Rattle.rv_feed.specs.inner.Turns.{NoLooks, PartDone, PlaysTurn}
use Rattle.rv_feed.proofs.PlaceLemmas.{record-for, adds-nothing, adds-join, AtPlace, shown_to, shown_behind, hidden-more, shown-more, shown-split}

-- neither has a look
no_looks-append : (ps qs : List Played) → NoLooks ps → NoLooks qs → NoLooks (ps ++ qs)
no_looks-append [] qs a b = b
no_looks-append (p ∷ ps) qs a b = (a.0, no_looks-append ps qs a.1 b)

-- of a CPU's number that is another one
pub of-cpu : {M : Type 0} (does : ℕ → M → M → List Played → Type 0) {cpu other : ℕ} {s : Setup} {panics : ℕ → Bool} {old new : M} {turn : Turn} {lane lane' : LaneValue} {ends : Bool} → cpu ≡ other → PlaysTurn (does cpu) s panics old new turn lane lane' ends → PlaysTurn (does other) s panics old new turn lane lane' ends
of-cpu does {s = s} {panics} {old} {new} {turn} {lane} {lane'} {ends} is plays = subst (λ (n : ℕ). PlaysTurn (does n) s panics old new turn lane lane' ends) is plays

module _ {M : Type 0} {does : M → M → List Played → Type 0} {s : Setup} {panics : ℕ → Bool} {old cur : M} {word : ℕ} {turn : Turn} {lane : LaneValue} where
  -- right after the look
  pub turn-start : LooksAt does old cur word → PartDone does s panics old cur word turn lane lane turn.from
  turn-start l =
      let z : turn.from - turn.from ≡ 0 = omega arith in
      record {
        look = l.entry;
        look_is = l.act_is;
        ps = [];
        rs = [];
        did = l.did;
        quiet = tt;
        part = rw z (part-nothing s panics word turn.line);
        kept = adds-nothing lane;
        few = omega arith;
      }

  -- the look shows a halt
  pub turn-off : LooksAt does old cur word → has_bit word 34 ≡ true → PlaysTurn does s panics old cur turn lane lane true
  turn-off l off = record {
    ps = (l.entry, Looked word) ∷ [];
    rs = [];
    did = l.did;
    script = turn-halted s panics lane.work.deliveries turn l.entry l.act_is word off;
    one = (l.act_is, tt);
    kept = adds-nothing lane;
    few = omega arith;
  }

  -- all deliveries
  pub turn-all : {lane' : LaneValue} {place : ℕ} → place ≡ turn.to → has_bit word 34 ≡ false → PartDone does s panics old cur word turn lane lane' place → PlaysTurn does s panics old cur turn lane lane' false
  turn-all {lane'} end on part =
      let done = subst (PartDone does s panics old cur word turn lane lane') end part in
      record {
        ps = (done.look, Looked word) ∷ done.ps;
        rs = done.rs;
        did = done.did;
        script = turn-goes s panics lane.work.deliveries turn done.look done.look_is word on done.ps done.rs done.part;
        one = (done.look_is, done.quiet);
        kept = done.kept;
        few = done.few;
      }

  module _ {lane' : LaneValue} {place : ℕ} {d : Delivery} (done : PartDone does s panics old cur word turn lane lane' place) (at : AtPlace lane.work.deliveries turn place d) where
    -- the deliveries of the lane's work
    abbrev ds : List Delivery
    ds = lane.work.deliveries

    -- the look does not show the delivery on
    pub turn-hidden : is_enabled_by word d ≡ false → PartDone does s panics old cur word turn lane lane' (place + 1)
    turn-hidden hidden = record {
      look = done.look;
      look_is = done.look_is;
      ps = done.ps;
      rs = done.rs;
      did = done.did;
      quiet = done.quiet;
      part = subst (λ (z : List Delivery). TurnPart s panics word turn.line z done.ps done.rs) (sym (hidden-more word at hidden)) done.part;
      kept = done.kept;
      few = let f = done.few in omega arith;
    }

    module _ (composes : Composes does) {setup : Setup} {mid : M} {outcome : Delivered} {lane'' : LaneValue} (shown : is_enabled_by word d ≡ true) (same : setup ≡ s) (served : Serves does setup cur mid d outcome) (kept : AddsRecords lane' lane'' (record-for turn.line word d outcome ∷ [])) where
      -- the delivery is made on the same setup
      v : Serves does s cur mid d outcome
      v = subst (λ (z : Setup). Serves does z cur mid d outcome) same served

      -- it with its answer, its record, and those of the turn
      abbrev first : Played
      first = (v.entry, v.answer)

      abbrev made : Record
      made = record-for turn.line word d outcome

      abbrev rs : List Record
      rs = done.rs ++ made ∷ []

      -- the record of the entry and its answer is that of the delivery's outcome
      made-is : record_of turn.line word (d, first) ≡ made
      made-is = ap (record-for turn.line word d) v.outcome_is

      -- whether the run halts here
      abbrev halts : Bool
      halts = failed_outcome outcome && (panics d.monitor && has_bit word 33)

      -- the answer and the outcome tell the same of it
      same-test : (fails v.answer && (panics d.monitor && has_bit word 33)) ≡ halts
      same-test = ap (λ (b : Bool). b && (panics d.monitor && has_bit word 33)) v.fails_is

      -- there is no look
      quiet : (qs : List Played) → NoLooks qs → NoLooks (done.ps ++ first ∷ qs)
      quiet qs none = no_looks-append done.ps (first ∷ qs) done.quiet (part-quiet s panics word turn.line d v.entry v.answer v.makes, none)

      -- the script goes on
      pub turn-shown : halts ≡ false → PartDone does s panics old mid word turn lane lane'' (place + 1)
      turn-shown on = record {
        look = done.look;
        look_is = done.look_is;
        ps = done.ps ++ first ∷ [];
        rs = rs;
        did = composes old cur mid ((done.look, Looked word) ∷ done.ps) first [] done.did v.did;
        quiet = quiet [] tt;
        part = subst (λ (z : List Delivery). TurnPart s panics word turn.line z (done.ps ++ first ∷ []) rs) (sym (shown-more word at shown))
            (part-join s panics word turn.line (shown_to word ds turn place) (d ∷ []) done.ps (first ∷ []) done.rs (made ∷ []) done.part (part-one s panics word turn.line d v.entry v.answer v.makes made made-is (same-test ∙ on)));
        kept = adds-join lane lane' lane'' done.rs (made ∷ []) done.kept kept;
        few = let f = done.few in let le = at.from in let l = length-append done.rs (made ∷ []) in omega arith;
      }

      -- the script ends
      pub turn-last : {new : M} → has_bit word 34 ≡ false → halts ≡ true → Halts does mid new → PlaysTurn does s panics old new turn lane lane'' true
      turn-last {new} on off h =
          let ps : List Played = first ∷ (h.entry, h.answer) ∷ [] in
          let front : List Delivery = shown_to word ds turn place in
          let last = last-join s panics word turn.line front (d ∷ []) done.ps ps done.rs (made ∷ []) done.part (last-one s panics word turn.line d v.entry v.answer v.makes made made-is (same-test ∙ off) h.entry h.answer h.act_is) in
          record {
            ps = (done.look, Looked word) ∷ (done.ps ++ ps);
            rs = rs;
            did = composes old cur new ((done.look, Looked word) ∷ done.ps) first ((h.entry, h.answer) ∷ []) done.did (composes cur mid new (first ∷ []) (h.entry, h.answer) [] v.did h.did);
            script = turn-ends s panics ds turn done.look done.look_is word on (front ++ d ∷ []) (shown_behind word at) (done.ps ++ ps) rs (shown-split word at shown) last;
            one = (done.look_is, quiet ((h.entry, h.answer) ∷ []) (let none : look_count h.entry.act ≡ 0 = rw h.act_is refl in (none, tt)));
            kept = adds-join lane lane' lane'' done.rs (made ∷ []) done.kept kept;
            few = let f = done.few in let le = at.from in let lt = at.before in let l = length-append done.rs (made ∷ []) in omega arith;
          }
