-- Without changes and without panics the switches stay as they opened.
use Rattle.std.proofs.Common.{◌≡◌, ℕ, ◌+◌, Bool, true, false, ◌&&◌, List, [], ◌∷◌, ◌++◌, inl, inr, reverse, refl, ap, ◌∙◌, subst}
use Rattle.std.specs.Prelude.{filter, MatchBool}
use Rattle.rv_model.specs.declared.entry.Act.{Act}
use Rattle.rv_model.specs.declared.entry.Act.TheVariants.{Deliver, Stop, Look, Raise, Lower, Clear, End}
use Rattle.rv_model.specs.declared.entry.Answer.{Answer}
use Rattle.rv_model.specs.declared.entry.Entry.{Entry}
use Rattle.rv_model.specs.declared.work.Delivery.{Delivery}
use Rattle.rv_model.specs.Cuts.{AtEach}
use Rattle.rv_model.specs.Histories.{Input, IsLegal}
use Rattle.rv_model.specs.Judging.{Judge}
use Rattle.rv_model.specs.Numbers.{has_bit, number_of}
use Rattle.rv_model.specs.Scripts.{Played, played, is_enabled_by, fails, Delivers, PlaysTurns, Plays, turns_of}
use Rattle.rv_model.specs.Setups.{Setup, slot_of}
use Rattle.rv_model.specs.SharedWords.{answer_at, switch, switch_after, switches_of, word_on}
use Rattle.rv_model.specs.Works.{Work}
use Rattle.rv_model.proofs.AgreeLemmas.{match-one}
use Rattle.rv_model.proofs.HitLemmas.{by_hit}
use Rattle.rv_model.proofs.NumberLemmas.{number_of-same}
use Rattle.rv_model.proofs.SeatLemmas.{played-cut}
use Rattle.rv_laws.specs.Verdicts.{IsSteady}
use Rattle.rv_laws.proofs.OwnerLemmas.{not-empty, by-cpu, plays}
use Rattle.rv_laws.proofs.PastLemmas.{Each, each-before}

-- ---- one script

-- the act leaves the switches as they are
abbrev pub is_quiet : Act → Bool
is_quiet (Raise _) = false
is_quiet (Lower _) = false
is_quiet _ = true

-- without panic nothing is raised
never : (a b c : Bool) → b ≡ false → (a && (b && c)) ≡ false
never true b c e = rw e refl
never false b c e = refl

-- the second case is taken
second : (b : Bool) (P Q : Type 0) → b ≡ false → MatchBool b P Q → Q
second b P Q e h = rw e at h

module _ (s : Setup) (panics : ℕ → Bool) (calm : (monitor : ℕ) → panics monitor ≡ false) where
  -- after a delivery the script goes on
  pub rest-of : (d : Delivery) (p : Played) (look : ℕ) (P Q : Type 0) → MatchBool (fails p.1 && (panics d.monitor && has_bit look 33)) P Q → Q
  rest-of d p look P Q h = second (fails p.1 && (panics d.monitor && has_bit look 33)) P Q (never (fails p.1) (panics d.monitor) (has_bit look 33) (calm d.monitor)) h

  -- the entries of deliveries are quiet
  delivers-quiet : (look : ℕ) (ds : List Delivery) (after : List Played → Type 0) → ((front : List Played) (p : Played) (back : List Played) → after (front ++ p ∷ back) → is_quiet p.0.act ≡ true)
      → (front : List Played) (p : Played) (back : List Played) → Delivers s panics look ds after (front ++ p ∷ back) → is_quiet p.0.act ≡ true
  delivers-quiet look [] after later front p back h = later front p back h
  delivers-quiet look (d ∷ ds) after later [] p back h = elim h.0 [ inl act ↦ ap is_quiet act ∙ by_hit (λ act. is_quiet act ≡ true) (slot_of s.shape d.monitor d.instance) d.hit refl refl | inr stop ↦ rw stop.1 refl ]
  delivers-quiet look (d ∷ ds) after later (x ∷ front) p back h = delivers-quiet look ds after later front p back (rest-of d x look _ _ h.1)

  -- the entries of a script are quiet
  plays-quiet : (turns : List (List Delivery)) (front : List Played) (p : Played) (back : List Played) → PlaysTurns s panics turns (front ++ p ∷ back) → is_quiet p.0.act ≡ true
  plays-quiet [] front p back h = absurd (not-empty front p back h)
  plays-quiet (turn ∷ turns) [] p back h = rw h.1 refl
  plays-quiet (turn ∷ turns) (x ∷ front) p back (look, is, answer, h) =
      match-one (has_bit look 34) _ _ (is_quiet p.0.act ≡ true) h
      (λ none. absurd (not-empty front p back none))
      (λ more. delivers-quiet look (filter (is_enabled_by look) turn) (PlaysTurns s panics turns) (plays-quiet turns) front p back more)

-- ---- a history

-- a quiet act leaves each switch
switch-quiet : (b : ℕ) (act : Act) (was : Bool) → is_quiet act ≡ true → switch_after b act was ≡ was
switch-quiet b (Deliver _ _) was quiet = refl
switch-quiet b (Stop _) was quiet = refl
switch-quiet b Look was quiet = refl
switch-quiet b (Raise _) was quiet = absurd (let wrong : false ≡ true = quiet in cc)
switch-quiet b (Lower _) was quiet = absurd (let wrong : false ≡ true = quiet in cc)
switch-quiet b (Clear _) was quiet = refl
switch-quiet b (End _) was quiet = refl

-- the entry is quiet
abbrev IsQuiet : List Entry → Entry → Type 0
IsQuiet past e = is_quiet e.act ≡ true

-- after a quiet past each switch is as it opened
switches-quiet : (opening : ℕ) (past : List Entry) → Each IsQuiet past → (b : ℕ) → switch opening past b ≡ has_bit opening b
switches-quiet opening [] quiet b = refl
switches-quiet opening (e ∷ past) (here, quiet) b = switch-quiet b e.act (switch opening past b) here ∙ switches-quiet opening past quiet b

-- the word of the switches as they opened
abbrev pub opening_word : Setup → ℕ
opening_word s = number_of (has_bit s.switches) 64

module _ (input : Input) (js : List Judge) (h : List Entry) (legal : IsLegal input js h) (steady : IsSteady input) where
  -- every entry is quiet
  all-quiet : AtEach (λ before e. IsQuiet (reverse before) e) h
  all-quiet before e after eq =
      let by = by-cpu input js h legal steady.no_changes before e after eq in
      let w : Work = by.work in
      let cut = played-cut input.setup js (2 + w.cpu) before e after by.seat in
      let so_far : List Played = played input.setup js (2 + w.cpu) (reverse before) in
      let a : Answer = answer_at input.setup js (reverse before) e e.act in
      let whole : played input.setup js (2 + w.cpu) (reverse h) ≡ so_far ++ (e, a) ∷ cut.0 = ap (λ (z : List Entry). played input.setup js (2 + w.cpu) (reverse z)) eq ∙ cut.1 in
      plays-quiet input.setup input.panics steady.no_panics (turns_of w) so_far (e, a) cut.0 (subst (Plays input.setup input.panics w) whole (plays input js h legal steady.no_changes w by.has))

  -- a look shows the switches as they opened
  pub look-opening : (before : List Entry) (e : Entry) (after : List Entry) → h ≡ before ++ e ∷ after → e.act ≡ Look → e.after ≡ opening_word input.setup
  look-opening before e after eq look =
      let past : Each IsQuiet (reverse before) = each-before IsQuiet h before e after eq all-quiet in
      let enabled : e.after ≡ switches_of input.setup.switches (e ∷ reverse before) = (legal.sound.replays before e after eq).left ∙ ap (word_on input.setup js (e ∷ reverse before)) look in
      enabled ∙ number_of-same (switch input.setup.switches (e ∷ reverse before)) (has_bit input.setup.switches) 64 (λ b lt. switches-quiet input.setup.switches (e ∷ reverse before) (all-quiet before e after eq, past) b)
