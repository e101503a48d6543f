-- What may follow an entry of a seat's own.
use Rattle.std.proofs.Common.{◌≡◌, ℕ, ◌+◌, ◌^◌, ◌<◌, ◌≤◌, Bool, true, false, List, [], ◌∷◌, length, drop, arith, refl, sym, ap, ◌∙◌, subst, length-drop}
use Rattle.std.specs.Prelude.{filter, MatchBool, slice_range}
use Rattle.std.proofs.lemmas.List.{length-map}
use Rattle.rv_model.specs.declared.entry.Act.TheVariants.{Stop, Look, Raise}
use Rattle.rv_model.specs.declared.entry.Answer.{Answer}
use Rattle.rv_model.specs.declared.entry.Answer.TheVariants.{Looked}
use Rattle.rv_model.specs.declared.entry.Entry.{Entry}
use Rattle.rv_model.specs.declared.work.Delivery.{Delivery}
use Rattle.rv_model.specs.declared.work.Turn.{Turn}
use Rattle.rv_model.specs.Numbers.{has_bit}
use Rattle.rv_model.specs.Scripts.{Played, is_enabled_by, Delivers, PlaysTurns, turns_of}
use Rattle.rv_model.specs.Setups.{Setup}
use Rattle.rv_model.specs.Works.{Work}
use Rattle.rv_model.proofs.AgreeLemmas.{match-one}
use Rattle.rv_check.specs.declared.next.Due.{Due}
use Rattle.rv_check.specs.declared.next.Next.{Next}
use Rattle.rv_check.specs.declared.next.Next.TheVariants as next
use Rattle.rv_check.specs.inner.Nexts.{turn_in, May, IsDue, IsNext, HasNoLostTry, ServesDue, IsLook, IsHalt, Allows, Settles, ends_by, Moves}
use Rattle.rv_check.proofs.SettleLemmas.{shown_in}
use Rattle.rv_check.proofs.ServeLemmas.{look-is, halt-is, serves-makes, makes-serves, begins-due}
use Rattle.rv_check.proofs.TurnLemmas.{turns-first, plays-look}

module _ (s : Setup) (panics : ℕ → Bool) (w : Work) where
  -- what may follow is allowed
  pub may-allowed : (n : Next) (e : Entry) (a : Answer) (ps : List Played) → IsNext s w n → ((due : Due) → n ≡ next.Deliver due → e.act ≡ Stop due.slot → 3 ≤ due.lost) → May s panics w n ((e, a) ∷ ps) → Allows w n e.act
  may-allowed (next.Look turn) e a ps is lost h =
      let f = plays-look s panics (drop turn (turns_of w)) (e, a) ps h in
      let l = length-drop turn (turns_of w) in
      let m = length-map w.turns (λ t. slice_range w.deliveries t.from t.to) in
      let some = f.1 in
      (subst IsLook (sym f.0) tt, omega arith)
  may-allowed (next.Deliver due) e a ps is lost h =
      let h' = subst (λ (z : List Delivery). Delivers s panics due.look z (PlaysTurns s panics (drop due.turn (turns_of w))) ((e, a) ∷ ps)) (begins-due s w due is) h in
      makes-serves s w due is e a (lost due refl) h'.0
  may-allowed next.Raise e a ps is lost (stop, one, act) =
      let same : (e, a) ≡ stop = cc in
      subst IsHalt (sym (ap (λ (p : Played). p.0.act) same ∙ act)) refl
  may-allowed next.Over e a ps is lost h = absurd (let no : (e, a) ∷ ps ≡ [] = h in cc)

  module _ (e : Entry) (a : Answer) (word : ℕ) (ps : List Played) where
    -- what may follow one goes on with the other
    abbrev pub Continues : Next → Next → Type 0
    Continues n m = (May s panics w n ((e, a) ∷ ps) → May s panics w m ps) × (May s panics w m ps → May s panics w n ((e, a) ∷ ps))

    -- behind a look
    module _ (turn : ℕ) (lt : turn < length w.turns) (act : e.act ≡ Look) (enabled : a ≡ Looked word) where
      abbrev t : Turn
      t = turn_in w turn

      abbrev ts : List (List Delivery)
      ts = slice_range w.deliveries t.from t.to ∷ drop (turn + 1) (turns_of w)

      look-here : May s panics w (next.Look turn) ((e, a) ∷ ps) → PlaysTurns s panics ts ((e, a) ∷ ps)
      look-here h = subst (λ (z : List (List Delivery)). PlaysTurns s panics z ((e, a) ∷ ps)) (turns-first w turn lt) h

      look-back : PlaysTurns s panics ts ((e, a) ∷ ps) → May s panics w (next.Look turn) ((e, a) ∷ ps)
      look-back h = subst (λ (z : List (List Delivery)). PlaysTurns s panics z ((e, a) ∷ ps)) (sym (turns-first w turn lt)) h

      abbrev AfterLook : ℕ → Bool → Type 0
      AfterLook look b = MatchBool b (ps ≡ []) (Delivers s panics look (filter (is_enabled_by look) (slice_range w.deliveries t.from t.to)) (PlaysTurns s panics (drop (turn + 1) (turns_of w))) ps)

      -- by the word that it shows
      told : PlaysTurns s panics ts ((e, a) ∷ ps) → AfterLook word (has_bit word 34)
      told (look, is, answer, h) =
          let same : look ≡ word = (let l : Looked look ≡ Looked word = sym answer ∙ enabled in cc) in
          subst (λ (n : ℕ). AfterLook n (has_bit n 34)) same h

      look-after : (n : Next) → Moves s panics w (next.Look turn) word a n → Continues (next.Look turn) n
      look-after n moves = on (has_bit word 34) refl
        where
          on : (b : Bool) → has_bit word 34 ≡ b → Continues (next.Look turn) n
          on true y =
              let over : n ≡ next.Over = subst (λ (b : Bool). MatchBool b (n ≡ next.Over) (Settles s w word t.from t.to (turn + 1) n)) y moves in (
                λ h. subst (λ (m : Next). May s panics w m ps) (sym over) (subst (AfterLook word) y (told (look-here h))),
                λ h. look-back (word, act, enabled, subst (AfterLook word) (sym y) (subst (λ (m : Next). May s panics w m ps) over h)),
              )
          on false y =
              let set : Settles s w word t.from t.to (turn + 1) n = subst (λ (b : Bool). MatchBool b (n ≡ next.Over) (Settles s w word t.from t.to (turn + 1) n)) y moves in (
                λ h. set.may panics ps (subst (AfterLook word) y (told (look-here h))),
                λ h. look-back (word, act, enabled, subst (AfterLook word) (sym y) (set.only panics ps h)),
              )

    -- behind a delivery or its stop
    module _ (due : Due) (is : IsDue s w due) (serves : ServesDue w due e.act) where
      abbrev after : List Played → Type 0
      after = PlaysTurns s panics (drop due.turn (turns_of w))

      abbrev AfterDue : Bool → Type 0
      AfterDue b = MatchBool b ((stop : Played) × (ps ≡ stop ∷ []) × (stop.0.act ≡ Raise (2 ^ 34))) (Delivers s panics due.look (shown_in w due.look (due.place + 1) due.to) after ps)

      due-here : May s panics w (next.Deliver due) ((e, a) ∷ ps) → AfterDue (ends_by panics w due a)
      due-here h = (subst (λ (z : List Delivery). Delivers s panics due.look z after ((e, a) ∷ ps)) (begins-due s w due is) h).1

      due-back : AfterDue (ends_by panics w due a) → May s panics w (next.Deliver due) ((e, a) ∷ ps)
      due-back h = subst (λ (z : List Delivery). Delivers s panics due.look z after ((e, a) ∷ ps)) (sym (begins-due s w due is)) (serves-makes s w due is e.act serves e a refl, h)

      delivery-after : (n : Next) → Moves s panics w (next.Deliver due) word a n → Continues (next.Deliver due) n
      delivery-after n moves = on (ends_by panics w due a) refl
        where
          on : (b : Bool) → ends_by panics w due a ≡ b → Continues (next.Deliver due) n
          on true y =
              let raise : n ≡ next.Raise = subst (λ (b : Bool). MatchBool b (n ≡ next.Raise) (Settles s w due.look (due.place + 1) due.to due.turn n)) y moves in (
                λ h. subst (λ (m : Next). May s panics w m ps) (sym raise) (subst AfterDue y (due-here h)),
                λ h. due-back (subst AfterDue (sym y) (subst (λ (m : Next). May s panics w m ps) raise h)),
              )
          on false y =
              let set : Settles s w due.look (due.place + 1) due.to due.turn n = subst (λ (b : Bool). MatchBool b (n ≡ next.Raise) (Settles s w due.look (due.place + 1) due.to due.turn n)) y moves in (
                λ h. set.may panics ps (subst AfterDue y (due-here h)),
                λ h. due-back (subst AfterDue (sym y) (set.only panics ps h)),
              )

    -- behind an act that may be the next one: exactly what may follow then goes on with it
    pub may-after : (n m : Next) → IsNext s w n → Allows w n e.act → (IsLook e.act → a ≡ Looked word) → Moves s panics w n word a m → Continues n m
    may-after (next.Look turn) m is allowed enabled moves = look-after turn allowed.1 (look-is e.act allowed.0) (enabled allowed.0) m moves
    may-after (next.Deliver due) m is allowed enabled moves = delivery-after due is allowed m moves
    may-after next.Raise m is allowed enabled moves = (
      λ h. subst (λ (z : Next). May s panics w z ps) (sym moves) (let one : (e, a) ∷ ps ≡ h.0 ∷ [] = h.1 in cc),
      λ h. let none : ps ≡ [] = subst (λ (z : Next). May s panics w z ps) moves h in ((e, a), ap (λ (z : List Played). (e, a) ∷ z) none, halt-is e.act allowed),
    )
    may-after next.Over m is allowed enabled moves = absurd allowed

  -- what is next behind an act is new
  pub moves-on : (n m : Next) (word : ℕ) (a : Answer) → Moves s panics w n word a m → IsNext s w m × HasNoLostTry m
  moves-on (next.Look turn) m word a moves = match-one (has_bit word 34) _ _ (IsNext s w m × HasNoLostTry m) moves (λ over. subst (λ (x : Next). IsNext s w x × HasNoLostTry x) (sym over) (tt, tt)) (λ set. (set.is_next, set.fresh))
  moves-on (next.Deliver due) m word a moves = match-one (ends_by panics w due a) _ _ (IsNext s w m × HasNoLostTry m) moves (λ raise. subst (λ (x : Next). IsNext s w x × HasNoLostTry x) (sym raise) (tt, tt)) (λ set. (set.is_next, set.fresh))
  moves-on next.Raise m word a moves = subst (λ (x : Next). IsNext s w x × HasNoLostTry x) (sym moves) (tt, tt)
  moves-on next.Over m word a moves = subst (λ (x : Next). IsNext s w x × HasNoLostTry x) (sym moves) (tt, tt)
