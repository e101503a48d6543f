-- A script that is shown its deliveries makes them all.
use Rattle.std.proofs.Common.{◌≡◌, ℕ, suc, ◌+◌, Bool, true, false, ◌==◌, List, [], ◌∷◌, ◌++◌, inl, inr, map, arith, refl, sym, ap, ◌∙◌, subst}
use Rattle.std.specs.Prelude.{filter, MatchBool, slice_range, if◌then◌else◌}
use Rattle.std.proofs.lemmas.List.Elements.{filter-append}
use Rattle.rv_model.specs.declared.entry.Act.{Act}
use Rattle.rv_model.specs.declared.entry.Act.TheVariants.{Deliver, End}
use Rattle.rv_model.specs.declared.entry.Answer.TheVariants.{Looked}
use Rattle.rv_model.specs.declared.hit.Hit.{Hit}
use Rattle.rv_model.specs.declared.record.Delivered.{Delivered}
use Rattle.rv_model.specs.declared.record.Delivered.TheVariants.{Done}
use Rattle.rv_model.specs.declared.record.Record.{Record}
use Rattle.rv_model.specs.declared.work.Delivery.{Delivery}
use Rattle.rv_model.specs.declared.work.Turn.{Turn}
use Rattle.rv_model.specs.Histories.{IsNoStop, is_on}
use Rattle.rv_model.specs.Numbers.{has_bit}
use Rattle.rv_model.specs.Records.{record_of, outcome_of, look_word, until_look, from_look, turn_records, script_records}
use Rattle.rv_model.specs.inner.ScriptParts.{records_in, turn_lists}
use Rattle.rv_model.specs.Scripts.{Played, is_enabled_by, is_end, hit_act, Makes, Delivers, PlaysTurns}
use Rattle.rv_model.specs.Setups.{Setup, slot_of}
use Rattle.rv_model.proofs.HitLemmas.{by_hit}
use Rattle.rv_laws.specs.Parts.{Placed}
use Rattle.rv_laws.proofs.LikeLemmas.{begins, made-record, made-from}
use Rattle.rv_laws.proofs.ListLemmas.{filter-map}
use Rattle.rv_laws.proofs.Made.{Made, made_record, made_told, is_for, looked, told_by, Ahead, placed_from, shown, AreCalm, MadeBy}
use Rattle.rv_laws.proofs.OwnerLemmas.{hit-on}
use Rattle.rv_laws.proofs.StepLemmas.{at_zero, Answered}
use Rattle.rv_laws.proofs.SwitchLemmas.{opening_word, rest-of}

-- the second case is taken
otherwise : (b : Bool) (P Q : Type 0) → b ≡ false → MatchBool b P Q → Q
otherwise b P Q e h = rw e at h

-- the act of a hit as if its slot were 0
zero-hit : (slot : ℕ) (hit : Hit) → at_zero (hit_act slot hit) ≡ hit_act 0 hit
zero-hit slot hit = go (is_end hit.mode)
  where
    go : (b : Bool) → at_zero (if b then End slot else Deliver slot hit) ≡ (if b then End 0 else Deliver 0 hit)
    go true = refl
    go false = refl

module _ (s : Setup) (panics : ℕ → Bool) (calm : (monitor : ℕ) → panics monitor ≡ false) (running : has_bit (opening_word s) 34 ≡ false) (cpu : ℕ) where
  -- the word of each look
  abbrev look : ℕ
  look = opening_word s

  -- a delivery of a line
  abbrev place_at : ℕ → Delivery → Placed
  place_at line d = record { cpu = cpu; line = line; delivery = d }

  -- in a turn of this line, and before these
  abbrev InTurn : ℕ → List Turn → (ℕ → ℕ) → ℕ → Type 0
  InTurn line turns at n = (at n ≡ line) × Ahead turns at n

  -- ---- one delivery
  module _ (line : ℕ) (d : Delivery) (p : Played) (act : p.0.act ≡ hit_act (slot_of s.shape d.monitor d.instance) d.hit) where
    -- what it made
    abbrev one : Made
    one = record { place = place_at line d; answer = p.1 }

    -- its record
    one-record : record_of line look (d, p) ≡ made_record look one
    one-record =
        let outcome : outcome_of p.0.act p.1 ≡ Done p.1 = ap (λ (a : Act). outcome_of a p.1) act ∙ by_hit (λ a. outcome_of a p.1 ≡ Done p.1) (slot_of s.shape d.monitor d.instance) d.hit refl refl in
        ap (λ (o : Delivered). record { order = d.order; line = line; monitor = d.monitor; instance = d.instance; hit = d.hit; outcome = o; reacting = has_bit look 33 }) outcome

    -- its step comes before those of the rest
    one-told : (slot : ℕ) (at : ℕ → ℕ) (n : ℕ) (ps : List Played) (rest : List Made) → at n ≡ line → told_by at (2 + cpu) slot n ps ≡ map made_told (filter (λ x. is_for s.shape slot x.place) rest)
        → told_by at (2 + cpu) slot n (p ∷ ps) ≡ map made_told (filter (λ x. is_for s.shape slot x.place) (one ∷ rest))
    one-told slot at n ps rest line_is later = go (slot_of s.shape d.monitor d.instance == slot) refl
      where
        still : looked p.0.act n ≡ n
        still = ap (λ (a : Act). looked a n) act ∙ by_hit (λ a. looked a n ≡ n) (slot_of s.shape d.monitor d.instance) d.hit refl refl

        zero_is : at_zero p.0.act ≡ hit_act 0 d.hit
        zero_is = ap at_zero act ∙ zero-hit (slot_of s.shape d.monitor d.instance) d.hit

        go : (b : Bool) → (slot_of s.shape d.monitor d.instance == slot) ≡ b → told_by at (2 + cpu) slot n (p ∷ ps) ≡ map made_told (filter (λ x. is_for s.shape slot x.place) (one ∷ rest))
        go true here =
            let on : is_on slot p.0.act ≡ true = ap (is_on slot) act ∙ hit-on (slot_of s.shape d.monitor d.instance) slot d.hit ∙ here in
            let left : told_by at (2 + cpu) slot n (p ∷ ps) ≡ record { step = record { seat = 2 + cpu; line = at (looked p.0.act n); act = at_zero p.0.act }; answer = p.1 } ∷ told_by at (2 + cpu) slot (looked p.0.act n) ps = rw on refl in
            let right : map made_told (filter (λ x. is_for s.shape slot x.place) (one ∷ rest)) ≡ made_told one ∷ map made_told (filter (λ x. is_for s.shape slot x.place) rest) = rw here refl in
            left
            ∙ ap (λ (m : ℕ). record { step = record { seat = 2 + cpu; line = at m; act = at_zero p.0.act }; answer = p.1 } ∷ told_by at (2 + cpu) slot m ps) still
            ∙ ap (λ (l : ℕ). record { step = record { seat = 2 + cpu; line = l; act = at_zero p.0.act }; answer = p.1 } ∷ told_by at (2 + cpu) slot n ps) line_is
            ∙ ap (λ (a : Act). record { step = record { seat = 2 + cpu; line = line; act = a }; answer = p.1 } ∷ told_by at (2 + cpu) slot n ps) zero_is
            ∙ ap (λ (z : List Answered). made_told one ∷ z) later ∙ sym right
        go false off =
            let out : is_on slot p.0.act ≡ false = ap (is_on slot) act ∙ hit-on (slot_of s.shape d.monitor d.instance) slot d.hit ∙ off in
            let left : told_by at (2 + cpu) slot n (p ∷ ps) ≡ told_by at (2 + cpu) slot (looked p.0.act n) ps = rw out refl in
            let right : map made_told (filter (λ x. is_for s.shape slot x.place) (one ∷ rest)) ≡ map made_told (filter (λ x. is_for s.shape slot x.place) rest) = rw off refl in
            left ∙ ap (λ (m : ℕ). told_by at (2 + cpu) slot m ps) still ∙ later ∙ sym right

  -- ---- a turn

  -- an entry of a delivery is the act of its hit
  act-of : (d : Delivery) (p : Played) → Makes s d p → IsNoStop p.0.act → p.0.act ≡ hit_act (slot_of s.shape d.monitor d.instance) d.hit
  act-of d p (inl act) free = act
  act-of d p (inr stop) free = absurd (subst IsNoStop stop.1 free)

  -- what is made in a turn, and after it
  made-turn : (line : ℕ) (all : List Delivery) (turns : List Turn)
      → ((ps : List Played) → PlaysTurns s panics (turn_lists all turns) ps → AreCalm look ps → MadeBy s.shape look cpu (filter (shown look) (placed_from cpu all turns)) (script_records all turns ps) ps (Ahead turns))
      → (ds : List Delivery) (ps : List Played) → Delivers s panics look ds (PlaysTurns s panics (turn_lists all turns)) ps → AreCalm look ps
      → MadeBy s.shape look cpu (map (place_at line) ds ++ filter (shown look) (placed_from cpu all turns)) (records_in line look ds (until_look ps) ++ script_records all turns (from_look ps)) ps (InTurn line turns)
  made-turn line all turns later [] ps h free =
      let r = later ps h free in
      record { made = r.made; places_are = r.places_are; records_are = ap (script_records all turns) (begins s panics (turn_lists all turns) ps h) ∙ r.records_are; told = λ slot at n ahead. r.told slot at n ahead.1 }
  made-turn line all turns later (d ∷ ds) [] h free = absurd h
  made-turn line all turns later (d ∷ ds) (p ∷ ps) h free =
      let r = made-turn line all turns later ds ps (rest-of s panics calm d p look _ _ h.1) free.1 in
      let act = act-of d p h.0 free.0.free in
      let after : List Record = script_records all turns (from_look ps) in
      record {
        made = one line d p act ∷ r.made;
        places_are = ap (λ (z : List Placed). place_at line d ∷ z) r.places_are;
        records_are = ap (λ (z : List Record). z ++ script_records all turns (from_look (p ∷ ps))) (made-record s d p h.0 line look ds ps)
            ∙ ap (λ (z : List Played). (record_of line look (d, p) ∷ records_in line look ds (until_look ps)) ++ script_records all turns z) (made-from s d p h.0 ps)
            ∙ ap (λ (x : Record). x ∷ (records_in line look ds (until_look ps) ++ after)) (one-record line d p act)
            ∙ ap (λ (z : List Record). made_record look (one line d p act) ∷ z) r.records_are;
        told = λ slot at n ahead. one-told line d p act slot at n ps r.made ahead.0 (r.told slot at n ahead);
      }

  -- ---- a script

  -- what comes after a look of this word
  abbrev AfterLook : ℕ → List Delivery → Turn → List Turn → List Played → Type 0
  AfterLook word ds turn turns ps = MatchBool (has_bit word 34) (ps ≡ []) (Delivers s panics word (filter (is_enabled_by word) (slice_range ds turn.from turn.to)) (PlaysTurns s panics (turn_lists ds turns)) ps)

  -- what a script makes
  pub made-script : (ds : List Delivery) (turns : List Turn) (ps : List Played) → PlaysTurns s panics (turn_lists ds turns) ps → AreCalm look ps
      → MadeBy s.shape look cpu (filter (shown look) (placed_from cpu ds turns)) (script_records ds turns ps) ps (Ahead turns)
  made-script ds [] ps h free = record { made = []; places_are = refl; records_are = refl; told = λ slot at n ahead. rw h refl }
  made-script ds (turn ∷ turns) [] h free = absurd h
  made-script ds (turn ∷ turns) (p ∷ ps) (word, is, answer, h) free =
      let seen : p.1 ≡ Looked look = free.0.look_is is in
      let opens : word ≡ look = (let e : Looked word ≡ Looked look = sym answer ∙ seen in cc) in
      let after : AfterLook look ds turn turns ps = subst (λ (n : ℕ). AfterLook n ds turn turns ps) opens h in
      let goes = otherwise (has_bit look 34) _ _ running after in
      let all : List Delivery = slice_range ds turn.from turn.to in
      let r = made-turn turn.line ds turns (made-script ds turns) (filter (is_enabled_by look) all) ps goes free.1 in
      record {
        made = r.made;
        places_are = r.places_are ∙ ap (λ (z : List Placed). z ++ filter (shown look) (placed_from cpu ds turns)) (sym (filter-map (place_at turn.line) (shown look) all)) ∙ sym (filter-append (shown look) (map (place_at turn.line) all) (placed_from cpu ds turns));
        records_are = ap (λ (n : ℕ). turn_records turn.line n all (until_look ps) ++ script_records ds turns (from_look ps)) (ap look_word seen) ∙ r.records_are;
        told = λ slot at n ahead.
            let first : at (suc n) ≡ turn.line = ap (λ (m : ℕ). at (suc m)) (let e : n ≡ n + 0 = omega arith in e) ∙ ahead 0 in
            let rest : Ahead turns at (suc n) = λ k. ap at (let e : suc (suc n + k) ≡ suc (n + suc k) = omega arith in e) ∙ ahead (suc k) in
            rw is (r.told slot at (suc n) (first, rest));
      }
