-- Two scripts of the same work make the same records on a slot of which both tell.
use Rattle.std.proofs.Common.{◌≡◌, ℕ, Bool, true, false, ◌==◌, List, [], ◌∷◌, ◌++◌, inl, inr, arith, refl, sym, ap, ◌∙◌, subst}
use Rattle.std.specs.Prelude.{filter, MatchBool, slice_range}
use Rattle.std.specs.List.{AllZip}
use Rattle.rv_model.specs.declared.entry.Act.{Act}
use Rattle.rv_model.specs.declared.entry.Act.TheVariants.{Stop}
use Rattle.rv_model.specs.declared.entry.Answer.{Answer}
use Rattle.rv_model.specs.declared.entry.Answer.TheVariants.{Looked}
use Rattle.rv_model.specs.declared.entry.Entry.{Entry}
use Rattle.rv_model.specs.declared.record.Delivered.{Delivered}
use Rattle.rv_model.specs.declared.record.Record.{Record}
use Rattle.rv_model.specs.declared.work.Delivery.{Delivery}
use Rattle.rv_model.specs.declared.work.Turn.{Turn}
use Rattle.rv_model.specs.Histories.{is_on}
use Rattle.rv_model.specs.Judging.{Judge}
use Rattle.rv_model.specs.Numbers.{has_bit}
use Rattle.rv_model.specs.Records.{record_of, outcome_of, look_word, is_look, is_delivery, until_look, from_look, turn_records, script_records}
use Rattle.rv_model.specs.inner.ScriptParts.{records_in, turn_lists}
use Rattle.rv_model.specs.Scripts.{Played, is_enabled_by, hit_act, Makes, Delivers, PlaysTurns}
use Rattle.rv_model.specs.Setups.{Setup, slot_of}
use Rattle.rv_model.proofs.AgreeLemmas.{match-both}
use Rattle.rv_model.proofs.HitLemmas.{hit-not_look, hit-delivers}
use Rattle.rv_laws.proofs.OwnerLemmas.{hit-on}
use Rattle.rv_laws.proofs.SwitchLemmas.{opening_word, rest-of}
use Rattle.rv_laws.proofs.ObservedLemmas.{grown, Tells, TellsAt}

-- the records are of one instance, and the same where it has the slot
pub record IsLike (shape : List ℕ) (slot : ℕ) (r t : Record) : Type 0 where
  pub monitor : r.monitor ≡ t.monitor
  pub instance_is : r.instance ≡ t.instance
  pub same : slot_of shape r.monitor r.instance ≡ slot → r ≡ t

-- a record is like itself
like-self : (shape : List ℕ) (slot : ℕ) (rs : List Record) → AllZip (IsLike shape slot) rs rs
like-self shape slot [] = tt
like-self shape slot (r ∷ rs) = (record { monitor = refl; instance_is = refl; same = λ _. refl }, like-self shape slot rs)

-- lists after lists
pub zip-append : (R : Record → Record → Type 0) (a b c d : List Record) → AllZip R a b → AllZip R c d → AllZip R (a ++ c) (b ++ d)
zip-append R [] [] c d h g = g
zip-append R [] (y ∷ b) c d h g = absurd h
zip-append R (x ∷ a) [] c d h g = absurd h
zip-append R (x ∷ a) (y ∷ b) c d h g = (h.0, zip-append R a b c d h.1 g)

-- ---- one entry
module _ (s : Setup) (d : Delivery) (p : Played) (makes : Makes s d p) where
  -- it is no look
  made-no_look : is_look p ≡ false
  made-no_look = elim makes [ inl act ↦ rw act (hit-not_look (slot_of s.shape d.monitor d.instance) d.hit) | inr stop ↦ rw stop.1 refl ]

  -- it makes a delivery
  pub made-delivery : is_delivery p ≡ true
  made-delivery = elim makes [ inl act ↦ rw act (hit-delivers (slot_of s.shape d.monitor d.instance) d.hit) | inr stop ↦ rw stop.1 refl ]

  -- its record comes before those of the rest of the turn
  pub made-record : (line look : ℕ) (ds : List Delivery) (ps : List Played) → records_in line look (d ∷ ds) (until_look (p ∷ ps)) ≡ record_of line look (d, p) ∷ records_in line look ds (until_look ps)
  made-record line look ds ps = rw (made-no_look, made-delivery) refl

  -- the next turn comes after the rest of the turn
  pub made-from : (ps : List Played) → from_look (p ∷ ps) ≡ from_look ps
  made-from ps = rw made-no_look refl

-- where its slot is not stopped, it is the act of its hit
made-act : (s : Setup) (d : Delivery) (p : Played) (slot : ℕ) → Makes s d p → slot_of s.shape d.monitor d.instance ≡ slot → ¬ (p.0.act ≡ Stop slot) → p.0.act ≡ hit_act slot d.hit
made-act s d p slot (inl act) at free = act ∙ ap (λ (n : ℕ). hit_act n d.hit) at
made-act s d p slot (inr stop) at free = absurd (free (stop.1 ∙ ap Stop at))

-- another slot is not the entry's
made-off : (s : Setup) (d : Delivery) (p : Played) (slot : ℕ) → Makes s d p → (slot_of s.shape d.monitor d.instance == slot) ≡ false → is_on slot p.0.act ≡ false
made-off s d p slot (inl act) off = ap (is_on slot) act ∙ hit-on (slot_of s.shape d.monitor d.instance) slot d.hit ∙ off
made-off s d p slot (inr stop) off = ap (is_on slot) stop.1 ∙ off

-- a script begins with a look, or is empty
pub begins : (s : Setup) (panics : ℕ → Bool) (turns : List (List Delivery)) (ps : List Played) → PlaysTurns s panics turns ps → from_look ps ≡ ps
begins s panics [] ps h = rw h refl
begins s panics (turn ∷ turns) [] h = absurd h
begins s panics (turn ∷ turns) (p ∷ ps) h = let is : is_look p ≡ true = rw h.1 refl in rw is refl

module _ (s : Setup) (js : List Judge) (panics : ℕ → Bool) (calm : (monitor : ℕ) → panics monitor ≡ false) (slot : ℕ) where
  -- two entries of a delivery, after the same acts on the slot
  module _ (d : Delivery) (p q : Played) (makes : Makes s d p) (makes' : Makes s d q) (past : List Entry) (at : TellsAt s js slot past p) (at' : TellsAt s js slot past q) where
    -- their answers are the same where it is the delivery's
    same-entry : slot_of s.shape d.monitor d.instance ≡ slot → (p.0.act ≡ q.0.act) × (p.1 ≡ q.1)
    same-entry here =
        let act = made-act s d p slot makes here at.stop in
        let act' = made-act s d q slot makes' here at'.stop in
        (act ∙ sym act', at.answer d.hit act ∙ sym (at'.answer d.hit act'))

    -- so are their records
    like-record : (line look : ℕ) → IsLike s.shape slot (record_of line look (d, p)) (record_of line look (d, q))
    like-record line look = record {
      monitor = refl;
      instance_is = refl;
      same = λ here.
          let both = same-entry here in
          let outcome : outcome_of p.0.act p.1 ≡ outcome_of q.0.act q.1 = ap (λ (a : Act). outcome_of a p.1) both.0 ∙ ap (outcome_of q.0.act) both.1 in
          ap (λ (o : Delivered). record { order = d.order; line = line; monitor = d.monitor; instance = d.instance; hit = d.hit; outcome = o; reacting = has_bit look 33 }) outcome;
    }

    -- and the acts on the slot stay the same
    same-grown : grown s js slot past p.0.act ≡ grown s js slot past q.0.act
    same-grown = go (slot_of s.shape d.monitor d.instance == slot) refl
      where
        go : (b : Bool) → (slot_of s.shape d.monitor d.instance == slot) ≡ b → grown s js slot past p.0.act ≡ grown s js slot past q.0.act
        go true here = let at_slot : slot_of s.shape d.monitor d.instance ≡ slot = grind arith in ap (grown s js slot past) (same-entry at_slot).0
        go false off = rw (made-off s d p slot makes off, made-off s d q slot makes' off) refl

  -- ---- a turn

  -- the records of a turn are alike, and so is what comes after the turn
  record IsLikeTurn (line : ℕ) (ds : List Delivery) (turns : List (List Delivery)) (ps qs : List Played) : Type 0 where
    like : AllZip (IsLike s.shape slot) (records_in line (opening_word s) ds (until_look ps)) (records_in line (opening_word s) ds (until_look qs))
    past : List Entry
    plays : PlaysTurns s panics turns (from_look ps)
    plays' : PlaysTurns s panics turns (from_look qs)
    tells : Tells s js slot past (from_look ps)
    tells' : Tells s js slot past (from_look qs)

  -- what two scripts do in a turn, and after it
  like-turn : (line : ℕ) (turns : List (List Delivery)) (ds : List Delivery) (past : List Entry) (ps qs : List Played) → Delivers s panics (opening_word s) ds (PlaysTurns s panics turns) ps → Delivers s panics (opening_word s) ds (PlaysTurns s panics turns) qs
      → Tells s js slot past ps → Tells s js slot past qs → IsLikeTurn line ds turns ps qs
  like-turn line turns [] past ps qs h g t u =
      let from : ps ≡ from_look ps = sym (begins s panics turns ps h) in
      let from' : qs ≡ from_look qs = sym (begins s panics turns qs g) in
      record { like = tt; past = past; plays = subst (PlaysTurns s panics turns) from h; plays' = subst (PlaysTurns s panics turns) from' g; tells = subst (Tells s js slot past) from t; tells' = subst (Tells s js slot past) from' u }
  like-turn line turns (d ∷ ds) past [] qs h g t u = absurd h
  like-turn line turns (d ∷ ds) past (p ∷ ps) [] h g t u = absurd g
  like-turn line turns (d ∷ ds) past (p ∷ ps) (q ∷ qs) h g t u =
      let same = same-grown d p q h.0 g.0 past t.0 u.0 in
      let later : Tells s js slot (grown s js slot past p.0.act) qs = subst (λ (z : List Entry). Tells s js slot z qs) (sym same) u.1 in
      let rest = like-turn line turns ds (grown s js slot past p.0.act) ps qs (rest-of s panics calm d p (opening_word s) _ _ h.1) (rest-of s panics calm d q (opening_word s) _ _ g.1) t.1 later in
      let from : from_look ps ≡ from_look (p ∷ ps) = sym (made-from s d p h.0 ps) in
      let from' : from_look qs ≡ from_look (q ∷ qs) = sym (made-from s d q g.0 qs) in
      let rs : List Record = records_in line (opening_word s) ds (until_look ps) in
      let us : List Record = records_in line (opening_word s) ds (until_look qs) in
      let r : Record = record_of line (opening_word s) (d, p) in
      let v : Record = record_of line (opening_word s) (d, q) in
      let both : AllZip (IsLike s.shape slot) (r ∷ rs) (v ∷ us) = (like-record d p q h.0 g.0 past t.0 u.0 line (opening_word s), rest.like) in
      record {
        like = subst (λ (z : List Record). AllZip (IsLike s.shape slot) z (records_in line (opening_word s) (d ∷ ds) (until_look (q ∷ qs)))) (sym (made-record s d p h.0 line (opening_word s) ds ps))
            (subst (AllZip (IsLike s.shape slot) (r ∷ rs)) (sym (made-record s d q g.0 line (opening_word s) ds qs)) both);
        past = rest.past;
        plays = subst (PlaysTurns s panics turns) from rest.plays;
        plays' = subst (PlaysTurns s panics turns) from' rest.plays';
        tells = subst (Tells s js slot rest.past) from rest.tells;
        tells' = subst (Tells s js slot rest.past) from' rest.tells';
      }

  -- ---- a script

  -- the records of a script from a look on that is answered so
  abbrev after_look : List Delivery → Turn → List Turn → Answer → List Played → List Record
  after_look ds turn turns answer ps = turn_records turn.line (look_word answer) (slice_range ds turn.from turn.to) (until_look ps) ++ script_records ds turns (from_look ps)

  -- what follows a look
  abbrev AfterLook : ℕ → List Delivery → Turn → List Turn → List Played → Type 0
  AfterLook look ds turn turns ps = MatchBool (has_bit look 34) (ps ≡ []) (Delivers s panics look (filter (is_enabled_by look) (slice_range ds turn.from turn.to)) (PlaysTurns s panics (turn_lists ds turns)) ps)

  -- the records of a script are alike
  pub like-script : (ds : List Delivery) (turns : List Turn) (past : List Entry) (ps qs : List Played) → PlaysTurns s panics (turn_lists ds turns) ps → PlaysTurns s panics (turn_lists ds turns) qs
      → Tells s js slot past ps → Tells s js slot past qs → AllZip (IsLike s.shape slot) (script_records ds turns ps) (script_records ds turns qs)
  like-script ds [] past ps qs h g t u = tt
  like-script ds (turn ∷ turns) past [] qs h g t u = absurd h
  like-script ds (turn ∷ turns) past (p ∷ ps) [] h g t u = absurd g
  like-script ds (turn ∷ turns) past (p ∷ ps) (q ∷ qs) (look, is, answer, h) (look', is', answer', g) t u =
      let enabled : p.1 ≡ Looked (opening_word s) = t.0.look is in
      let shown' : q.1 ≡ Looked (opening_word s) = u.0.look is' in
      let opens : look ≡ opening_word s = (let e : Looked look ≡ Looked (opening_word s) = sym answer ∙ enabled in cc) in
      let opens' : look' ≡ opening_word s = (let e : Looked look' ≡ Looked (opening_word s) = sym answer' ∙ shown' in cc) in
      let told : Tells s js slot past ps = subst (λ (a : Act). Tells s js slot (grown s js slot past a) ps) is t.1 in
      let told' : Tells s js slot past qs = subst (λ (a : Act). Tells s js slot (grown s js slot past a) qs) is' u.1 in
      let alike : AllZip (IsLike s.shape slot) (after_look ds turn turns (Looked (opening_word s)) ps) (after_look ds turn turns (Looked (opening_word s)) qs) =
      (match-both (has_bit (opening_word s) 34) _ _ _ _ (AllZip (IsLike s.shape slot) (after_look ds turn turns (Looked (opening_word s)) ps) (after_look ds turn turns (Looked (opening_word s)) qs))
      (subst (λ (n : ℕ). AfterLook n ds turn turns ps) opens h) (subst (λ (n : ℕ). AfterLook n ds turn turns qs) opens' g)
      (λ none none'. subst (λ (z : List Played). AllZip (IsLike s.shape slot) (after_look ds turn turns (Looked (opening_word s)) ps) (after_look ds turn turns (Looked (opening_word s)) z)) (none ∙ sym none') (like-self s.shape slot (after_look ds turn turns (Looked (opening_word s)) ps)))
      (λ some some'.
      let r = like-turn turn.line (turn_lists ds turns) (filter (is_enabled_by (opening_word s)) (slice_range ds turn.from turn.to)) past ps qs some some' told told' in
      zip-append (IsLike s.shape slot) (turn_records turn.line (opening_word s) (slice_range ds turn.from turn.to) (until_look ps)) (turn_records turn.line (opening_word s) (slice_range ds turn.from turn.to) (until_look qs))
      (script_records ds turns (from_look ps)) (script_records ds turns (from_look qs)) r.like (like-script ds turns r.past (from_look ps) (from_look qs) r.plays r.plays' r.tells r.tells'))) in
      subst (λ (a : Answer). AllZip (IsLike s.shape slot) (after_look ds turn turns a ps) (after_look ds turn turns q.1 qs)) (sym enabled)
      (subst (λ (a : Answer). AllZip (IsLike s.shape slot) (after_look ds turn turns (Looked (opening_word s)) ps) (after_look ds turn turns a qs)) (sym shown') alike)
