-- The status of a whole history of a counted run is that which its entries show.
use Rattle.std.proofs.Common.{◌≡◌, ℕ, ◌+◌, ◌-◌, ◌<◌, ◌≤◌, ◌^◌, ◌&&◌, ◌||◌, Bool, false, List, [], ◌∷◌, ◌++◌, inl, inr, map, reverse, arith, refl, sym, ap, ◌∙◌, subst}
use Rattle.std.specs.Prelude.{All, filter, slice_range, if◌then◌else◌}
use Rattle.std.specs.List.{list_any}
use Rattle.std.proofs.Math.Bool.{or_comm}
use Rattle.std.proofs.Math.Pow.{pow_mono}
use Rattle.std.proofs.lemmas.List.{reverse-append}
use Rattle.std.proofs.lemmas.List.Elements.{All-nil, All-cons, All-head, All-tail, All-weaker, All-take, All-drop, All-filter, All-contains}
use Rattle.std.proofs.lemmas.List.Folds.{list_any-append}
use Rattle.rv_model.specs.declared.entry.Act.TheVariants.{Deliver, Look, Raise}
use Rattle.rv_model.specs.declared.entry.Answer.{Answer}
use Rattle.rv_model.specs.declared.entry.Entry.{Entry}
use Rattle.rv_model.specs.declared.hit.What.{What}
use Rattle.rv_model.specs.declared.hit.What.TheVariants as whats
use Rattle.rv_model.specs.declared.work.Delivery.{Delivery}
use Rattle.rv_model.specs.declared.work.Turn.{Turn}
use Rattle.rv_model.specs.Histories.{Input, input_with}
use Rattle.rv_model.specs.Numbers.{has_bit}
use Rattle.rv_model.specs.Scripts.{Played, played, is_enabled_by, fails, hit_act, Makes, Delivers, PlaysTurns, turns_of}
use Rattle.rv_model.specs.Setups.{Setup, slot_of}
use Rattle.rv_model.specs.SharedWords.{answer_at}
use Rattle.rv_model.specs.Works.{Work}
use Rattle.rv_model.proofs.AgreeLemmas.{match-one}
use Rattle.rv_model.proofs.SeatLemmas.{played-cut}
use Rattle.rv_core.specs.Advance.{WhatFits}
use Rattle.rv_core.specs.Setup.{judges_of}
use Rattle.rv_laws.specs.Exits.{has_failed, has_stop, exit_of}
use Rattle.rv_laws.proofs.OwnerLemmas.{by-cpu, plays}
use Rattle.rv_laws.proofs.PastLemmas.{Each, each-of}
use Rattle.rv_journal.specs.CountedLanes.{FitsCounted}
use Rattle.rv_journal.specs.CountedWords.{IsBelow}
use Rattle.rv_journal.specs.Running.{FitsCountedWork}
use Rattle.rv_journal.specs.Whole.{IsWholeRun}
use Rattle.rv_journal.specs.inner.Whole.{is_failed_entry}
use Rattle.rv_journal.proofs.AnswerLemmas.{FitsEntry, FitsPast, entry-shows}
use Rattle.rv_journal.proofs.ServedLemmas.{slot_of-lt}

-- ---- one script

module _ (s : Setup) (panics : ℕ → Bool) where
  -- the delivery's entries fit
  abbrev DeliversFit : Delivery → Type 0
  DeliversFit d = FitsEntry s (Deliver (slot_of s.shape d.monitor d.instance) d.hit)

  -- an entry that fits
  abbrev PlayedFits : Played → Type 0
  PlayedFits p = FitsEntry s p.0.act

  -- an entry of a delivery whose entries fit is one that fits
  makes-fit : (d : Delivery) (p : Played) → DeliversFit d → Makes s d p → PlayedFits p
  makes-fit d p fits (inl is) =
      let slot : ℕ = slot_of s.shape d.monitor d.instance in
      let delivered : hit_act slot d.hit ≡ Deliver slot d.hit = rw fits.1.0 refl in
      subst (FitsEntry s) (sym (is ∙ delivered)) fits
  makes-fit d p fits (inr is) = subst (FitsEntry s) (sym is.1) tt

  -- an entry that fits, with a raise of the halted bit behind it
  one-fits : (p stop : Played) (ps : List Played) → PlayedFits p → ps ≡ stop ∷ [] → stop.0.act ≡ Raise (2 ^ 34) → All PlayedFits (p ∷ ps)
  one-fits p stop ps here only is = subst (λ (z : List Played). All PlayedFits (p ∷ z)) (sym only) (All-cons PlayedFits p (stop ∷ []) here (All-cons PlayedFits stop [] (subst (FitsEntry s) (sym is) tt) (All-nil PlayedFits)))

  -- the entries of deliveries that fit, and what comes after
  delivers-fit : (look : ℕ) (ds : List Delivery) (after : List Played → Type 0) → ((ps : List Played) → after ps → All PlayedFits ps) → All DeliversFit ds → (ps : List Played) → Delivers s panics look ds after ps → All PlayedFits ps
  delivers-fit look [] after later fits ps h = later ps h
  delivers-fit look (d ∷ ds) after later fits [] h = absurd h
  delivers-fit look (d ∷ ds) after later fits (p ∷ ps) h =
      let here : PlayedFits p = makes-fit d p (All-head DeliversFit d ds fits) h.0 in
      match-one (fails p.1 && (panics d.monitor && has_bit look 33)) _ _ (All PlayedFits (p ∷ ps)) h.1
      (λ stop. one-fits p stop.0 ps here stop.1 stop.2)
      (λ rest. All-cons PlayedFits p ps here (delivers-fit look ds after later (All-tail DeliversFit d ds fits) ps rest))

  -- a look, with entries that fit behind it
  look-fits : (p : Played) (ps : List Played) → p.0.act ≡ Look → All PlayedFits ps → All PlayedFits (p ∷ ps)
  look-fits p ps is rest = All-cons PlayedFits p ps (subst (FitsEntry s) (sym is) tt) rest

  -- the entries of a script
  plays-fit : (turns : List (List Delivery)) → All (All DeliversFit) turns → (ps : List Played) → PlaysTurns s panics turns ps → All PlayedFits ps
  plays-fit [] fits ps h = subst (All PlayedFits) (sym h) (All-nil PlayedFits)
  plays-fit (turn ∷ turns) fits [] h = absurd h
  plays-fit (turn ∷ turns) fits (p ∷ ps) (look, is, answer, h) =
      match-one (has_bit look 34) _ _ (All PlayedFits (p ∷ ps)) h
      (λ none. look-fits p ps is (subst (All PlayedFits) (sym none) (All-nil PlayedFits)))
      (λ more. look-fits p ps is (delivers-fit look (filter (is_enabled_by look) turn) (PlaysTurns s panics turns) (plays-fit turns (All-tail (All DeliversFit) turn turns fits))
      (All-filter (is_enabled_by look) DeliversFit turn (All-head (All DeliversFit) turn turns fits)) ps more))

  -- the deliveries of each turn are deliveries of the work
  turns-fit : (turns : List Turn) (ds : List Delivery) → All DeliversFit ds → All (All DeliversFit) (map (λ t. slice_range ds t.from t.to) turns)
  turns-fit [] ds fits = All-nil (All DeliversFit)
  turns-fit (t ∷ turns) ds fits =
      All-cons (All DeliversFit) (slice_range ds t.from t.to) (map (λ t. slice_range ds t.from t.to) turns)
      (All-take DeliversFit (t.to - t.from) _ (All-drop DeliversFit t.from ds fits)) (turns-fit turns ds fits)

-- ---- one delivery

-- a number of at most 32 bits is one of 32 bits
wider : (levels n : ℕ) → levels ≤ 32 → n < 2 ^ levels → n < 2 ^ 32
wider levels n le lt = let more : 2 ^ levels ≤ 2 ^ 32 = pow_mono le in omega arith

-- what fits some levels fits a word
below-fits : (levels : ℕ) (what : What) → levels ≤ 32 → IsBelow levels what → WhatFits what
below-fits levels (whats.Da event) le below = (tt, tt)
below-fits levels whats.Nothing le below = (tt, tt)
below-fits levels (whats.Ltl on off pulse) le below = ((wider levels on le below.0, wider levels off le below.1), wider levels pulse le below.2)

-- a delivery that fits the counted words has entries that fit
counted-fits : (s : Setup) (d : Delivery) → FitsCounted s d → DeliversFit s (λ _. false) d
counted-fits s d f = (slot_of-lt s.shape d.monitor d.instance f.monitor f.instance_fits, f.hit, below-fits _ d.hit.what (omega arith) f.levels)

-- ---- the history

-- an entry of a list
all-middle : (P : Played → Type 0) (front : List Played) (p : Played) (back : List Played) → All P (front ++ p ∷ back) → P p
all-middle P [] p back all = All-head P p back all
all-middle P (x ∷ front) p back all = all-middle P front p back (All-tail P x (front ++ p ∷ back) all)

-- tests that are the same along a past
any-reverse : (p : Entry → Bool) (h : List Entry) → list_any p (reverse h) ≡ list_any p h
any-reverse p [] = refl
any-reverse p (e ∷ h) =
    ap (list_any p) (reverse-append (e ∷ []) h) ∙ list_any-append p (reverse h) (e ∷ [])
    ∙ or_comm (list_any p (reverse h)) (p e || false) ∙ ap (λ (z : Bool). z || list_any p (reverse h)) (or_comm (p e) false) ∙ ap (λ (z : Bool). p e || z) (any-reverse p h)

module _ (s : Setup) (works : List Work) (h : List Entry) (run : IsWholeRun s works h) where
  -- the input of what is recorded, by no specification
  abbrev input : Input
  input = input_with s [] (λ _. false) works []

  -- each entry fits
  entry-fits : (before : List Entry) (e : Entry) (after : List Entry) → h ≡ before ++ e ∷ after → FitsEntry s e.act
  entry-fits before e after eq =
      let by = by-cpu input (judges_of s) h run.legal refl before e after eq in
      let w : Work = by.work in
      let cut = played-cut s (judges_of s) (2 + w.cpu) before e after by.seat in
      let so_far : List Played = played s (judges_of s) (2 + w.cpu) (reverse before) in
      let a : Answer = answer_at s (judges_of s) (reverse before) e e.act in
      let whole : played s (judges_of s) (2 + w.cpu) (reverse h) ≡ so_far ++ (e, a) ∷ cut.0 = ap (λ (z : List Entry). played s (judges_of s) (2 + w.cpu) (reverse z)) eq ∙ cut.1 in
      let script = plays input (judges_of s) h run.legal refl w by.has in
      let fit : FitsCountedWork s w = All-contains (FitsCountedWork s) works w run.fit by.has in
      let each = All-weaker (FitsCounted s) (DeliversFit s (λ _. false)) (counted-fits s) w.deliveries fit.fit in
      let all = plays-fit s (λ _. false) (turns_of w) (turns-fit s (λ _. false) w.turns w.deliveries each) (played s (judges_of s) (2 + w.cpu) (reverse h)) script in
      all-middle (PlayedFits s (λ _. false)) so_far (e, a) cut.0 (subst (All (PlayedFits s (λ _. false))) whole all)

  -- along the past
  fits-past : Each (FitsPast s) (reverse h)
  fits-past = each-of (FitsPast s) h (λ before e after eq.
      let words = run.legal.sound.replays before e after eq in
      record { found = words.found; left = words.left; fits = entry-fits before e after eq })

  -- the failures of a past
  failed-past : (past : List Entry) → Each (FitsPast s) past → has_failed s (judges_of s) past ≡ list_any (λ e. is_failed_entry e e.act) past
  failed-past [] fits = refl
  failed-past (e ∷ past) fits =
      ap (λ (z : Bool). z || has_failed s (judges_of s) past) (sym (entry-shows s run.is_setup past e e.act refl fits.1 fits.0))
      ∙ ap (λ (z : Bool). is_failed_entry e e.act || z) (failed-past past fits.1)

  -- the status by what entries show
  pub exit-shown : exit_of s (judges_of s) h ≡ (if list_any (λ e. is_failed_entry e e.act) h then 1 else if has_stop h then 6 else 0)
  exit-shown = ap (λ (b : Bool). if b then 1 else if has_stop h then 6 else 0) (failed-past (reverse h) fits-past ∙ any-reverse (λ e. is_failed_entry e e.act) h)
