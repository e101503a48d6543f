-- A script of the deliveries that its looks show on is a script of all.
use Rattle.std.proofs.Common.{◌≡◌, ℕ, zero, suc, ◌+◌, Bool, true, false, ◌&&◌, ◌==◌, List, [], ◌∷◌, ◌++◌, ◌⊎◌, inl, inr, map, reverse, arith, refl, sym, ap, ◌∙◌, subst}
use Rattle.std.specs.Prelude.{filter, MatchBool, All, Any}
use Rattle.std.specs.List.{AllZip}
use Rattle.std.proofs.lemmas.List.Elements.{All-cons, All-head, All-tail}
use Rattle.rv_model.specs.declared.entry.Act.TheVariants.{Look}
use Rattle.rv_model.specs.declared.entry.Answer.TheVariants.{Looked}
use Rattle.rv_model.specs.declared.entry.Entry.{Entry}
use Rattle.rv_model.specs.declared.work.Delivery.{Delivery}
use Rattle.rv_model.specs.Histories.{Input}
use Rattle.rv_model.specs.Judging.{Judge}
use Rattle.rv_model.specs.Numbers.{has_bit}
use Rattle.rv_model.specs.Scripts.{Played, played, is_enabled_by, fails, Delivers, PlaysTurns, Plays, turns_of}
use Rattle.rv_model.specs.Setups.{Setup}
use Rattle.rv_model.specs.SharedWords.{answer_at}
use Rattle.rv_model.specs.Works.{Work}
use Rattle.rv_model.proofs.CutLemmas.{at_each-weaker}
use Rattle.rv_model.proofs.NumberLemmas.{number_of-bits}
use Rattle.rv_laws.specs.Enabled.{IsEnabledOf, EnabledIsEnough}
use Rattle.rv_laws.specs.Verdicts.{IsSteady}
use Rattle.rv_laws.proofs.ListLemmas.{filter-twice}
use Rattle.rv_laws.proofs.PastLemmas.{Each, each-of}
use Rattle.rv_laws.proofs.SwitchLemmas.{opening_word, look-opening}

-- both cases become others
match-map : (b : Bool) (P Q P' Q' : Type 0) → MatchBool b P Q → (P → P') → (Q → Q') → MatchBool b P' Q'
match-map true P Q P' Q' h when else' = when h
match-map false P Q P' Q' h when else' = else' h

-- ---- one script
module _ (look : ℕ) where
  -- each look shows this word
  abbrev Shows : List Played → Type 0
  Shows [] = Unit {0}
  Shows (p ∷ ps) = (p.0.act ≡ Look → p.1 ≡ Looked look) × Shows ps

  -- one more entry
  shows-snoc : (ps : List Played) (p : Played) → Shows ps → (p.0.act ≡ Look → p.1 ≡ Looked look) → Shows (ps ++ p ∷ [])
  shows-snoc [] p shows last = (last, tt)
  shows-snoc (q ∷ ps) p (here, shows) last = (here, shows-snoc ps p shows last)

  -- the look leaves this word
  abbrev LooksAt : List Entry → Entry → Type 0
  LooksAt past e = e.act ≡ Look → e.after ≡ look

  -- what a seat plays
  shows-played : (s : Setup) (js : List Judge) (seat : ℕ) (past : List Entry) → Each LooksAt past → Shows (played s js seat past)
  shows-played s js seat [] looks = tt
  shows-played s js seat (e ∷ past) (here, looks) = go (e.seat == seat) refl (shows-played s js seat past looks)
    where
      go : (b : Bool) → (e.seat == seat) ≡ b → Shows (played s js seat past) → Shows (played s js seat (e ∷ past))
      go true mine rest = rw mine (shows-snoc (played s js seat past) (e, answer_at s js past e e.act) rest (λ act. ap (answer_at s js past e) act ∙ ap Looked (here act)))
      go false other rest = rw other rest

  module _ (s : Setup) (panics : ℕ → Bool) where
    -- what comes after a turn may be said otherwise
    delivers-after : (word : ℕ) (ds : List Delivery) (after after' : List Played → Type 0) → ((ps : List Played) → Shows ps → after ps → after' ps)
        → (ps : List Played) → Shows ps → Delivers s panics word ds after ps → Delivers s panics word ds after' ps
    delivers-after word [] after after' more ps shows h = more ps shows h
    delivers-after word (d ∷ ds) after after' more [] shows h = absurd h
    delivers-after word (d ∷ ds) after after' more (p ∷ ps) shows h =
        (h.0, match-map (fails p.1 && (panics d.monitor && has_bit word 33)) _ _ _ _ h.1 (λ stop. stop) (λ rest. delivers-after word ds after after' more ps shows.1 rest))

    -- a script of what the looks show on is a script of all
    plays-all : (turns : List (List Delivery)) (ps : List Played) → Shows ps → PlaysTurns s panics (map (filter (is_enabled_by look)) turns) ps → PlaysTurns s panics turns ps
    plays-all [] ps shows h = h
    plays-all (turn ∷ turns) [] shows h = absurd h
    plays-all (turn ∷ turns) (p ∷ ps) shows (word, is, answer, h) =
        let same : word ≡ look = (let e : Looked word ≡ Looked look = sym answer ∙ shows.0 is in cc) in
        let known = subst (λ (n : ℕ). MatchBool (has_bit n 34) (ps ≡ []) (Delivers s panics n (filter (is_enabled_by n) (filter (is_enabled_by look) turn)) (PlaysTurns s panics (map (filter (is_enabled_by look)) turns)) ps)) same h in
        let once = subst (λ (ds : List Delivery). MatchBool (has_bit look 34) (ps ≡ []) (Delivers s panics look ds (PlaysTurns s panics (map (filter (is_enabled_by look)) turns)) ps)) (filter-twice (is_enabled_by look) turn) known in (
          look,
          is,
          answer ∙ ap Looked same,
          match-map (has_bit look 34) _ _ _ _ once (λ none. none)
              (λ some. delivers-after look (filter (is_enabled_by look) turn) (PlaysTurns s panics (map (filter (is_enabled_by look)) turns)) (PlaysTurns s panics turns) (plays-all turns) ps shows.1 some),
        )

-- ---- works
module _ (look : ℕ) where
  -- the script of a work of which some deliveries were taken out is the work's script
  plays-work : (s : Setup) (js : List Judge) (panics : ℕ → Bool) (past : List Entry) → Each (LooksAt look) past → (w v : Work) → IsEnabledOf look w v → Plays s panics v (played s js (2 + v.cpu) past) → Plays s panics w (played s js (2 + w.cpu) past)
  plays-work s js panics past looks w v of h =
      let mine = subst (λ (n : ℕ). Plays s panics v (played s js (2 + n) past)) of.cpu h in
      plays-all look s panics (turns_of w) (played s js (2 + w.cpu) past) (shows-played look s js (2 + w.cpu) past looks) (subst (λ (z : List (List Delivery)). PlaysTurns s panics z (played s js (2 + w.cpu) past)) of.turns mine)

  -- what holds of all works holds of those that they were made of
  all-works : (P : Work → Type 0) → ((w v : Work) → IsEnabledOf look w v → P v → P w) → (works enabled : List Work) → AllZip (IsEnabledOf look) works enabled → All P enabled → All P works
  all-works P back [] [] zip h = h
  all-works P back [] (v ∷ enabled) zip h = absurd zip
  all-works P back (w ∷ works) [] zip h = absurd zip
  all-works P back (w ∷ works) (v ∷ enabled) zip h = All-cons P w works (back w v zip.0 (All-head P v enabled h)) (all-works P back works enabled zip.1 (All-tail P v enabled h))

  -- a CPU of one of the works is one of them
  any-works : (seat : ℕ) (works enabled : List Work) → AllZip (IsEnabledOf look) works enabled → Any (λ w. seat ≡ 2 + w.cpu) enabled → Any (λ w. seat ≡ 2 + w.cpu) works
  any-works seat [] [] zip h = h
  any-works seat [] (v ∷ enabled) zip h = absurd zip
  any-works seat (w ∷ works) [] zip h = absurd zip
  any-works seat (w ∷ works) (v ∷ enabled) zip (zero, x, lt, at, is) =
      let one = zip.0 in
      (0, w, omega arith, refl, is ∙ ap (λ (u : Work). 2 + u.cpu) (sym at) ∙ ap (λ (n : ℕ). 2 + n) one.cpu)
  any-works seat (w ∷ works) (v ∷ enabled) zip (suc k, x, lt, at, is) =
      let rest : Any (λ u. seat ≡ 2 + u.cpu) works = any-works seat works enabled zip.1 (k, x, omega arith, at, is) in
      (suc rest.0, rest.1, (let l = rest.2 in omega arith), rest.3, rest.4)

-- a history of what the opening switches show on is one of all
pub shown_is_enough : EnabledIsEnough
shown_is_enough input js enabled h steady small zip legal =
    let part : Input = record input { works = enabled } in
    let calm : IsSteady part = record { no_changes = steady.no_changes; no_panics = steady.no_panics } in
    let same : opening_word input.setup ≡ input.setup.switches = number_of-bits input.setup.switches 64 small in
    let looks : Each (LooksAt input.setup.switches) (reverse h) = each-of (LooksAt input.setup.switches) h (λ before e after eq act. look-opening part js h legal calm before e after eq act ∙ same) in
    record {
      sound = legal.sound;
      cpus = all-works input.setup.switches (λ w. Plays input.setup input.panics w (played input.setup js (2 + w.cpu) (reverse h))) (plays-work input.setup.switches input.setup js input.panics (reverse h) looks) input.works enabled zip legal.cpus;
      control = legal.control;
      nobody_else = at_each-weaker (λ before e. (e.seat ≡ 1) ⊎ Any (λ w. e.seat ≡ 2 + w.cpu) enabled) (λ before e. (e.seat ≡ 1) ⊎ Any (λ w. e.seat ≡ 2 + w.cpu) input.works)
          (λ before e by. elim by [ inl control ↦ inl control | inr cpu ↦ inr (any-works input.setup.switches e.seat input.works enabled zip cpu) ]) h legal.nobody_else;
    }
