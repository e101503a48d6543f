-- Who has an entry on a slot: a CPU with a delivery for it.
use Rattle.std.proofs.Common.{◌≡◌, ℕ, zero, suc, ◌+◌, ◌-◌, ◌^◌, Bool, true, false, ◌==◌, ◌&&◌, ◌||◌, List, [], ◌∷◌, ◌++◌, ◌⊎◌, inl, inr, map, reverse, take, drop, arith, refl, sym, ap, ◌∙◌, subst}
use Rattle.std.specs.Prelude.{Contains, filter, slice_range}
use Rattle.std.specs.List.{list_any}
use Rattle.std.proofs.lemmas.List.Elements.{All-contains}
use Rattle.rv_model.specs.declared.entry.Act.{Act}
use Rattle.rv_model.specs.declared.entry.Act.TheVariants.{Look, Raise}
use Rattle.rv_model.specs.declared.entry.Answer.{Answer}
use Rattle.rv_model.specs.declared.entry.Entry.{Entry}
use Rattle.rv_model.specs.declared.hit.Hit.{Hit}
use Rattle.rv_model.specs.declared.work.Delivery.{Delivery}
use Rattle.rv_model.specs.declared.work.Turn.{Turn}
use Rattle.rv_model.specs.Histories.{Input, IsLegal, is_on, acts_of}
use Rattle.rv_model.specs.Judging.{Judge}
use Rattle.rv_model.specs.Numbers.{has_bit}
use Rattle.rv_model.specs.Scripts.{Played, played, is_enabled_by, fails, hit_act, Makes, Delivers, PlaysTurns, Plays, turns_of}
use Rattle.rv_model.specs.Setups.{Setup, slot_of}
use Rattle.rv_model.specs.SharedWords.{answer_at}
use Rattle.rv_model.specs.Works.{Work}
use Rattle.rv_model.proofs.AgreeLemmas.{match-one}
use Rattle.rv_model.proofs.HitLemmas.{by_hit}
use Rattle.rv_model.proofs.SeatLemmas.{played-cut}
use Rattle.rv_laws.specs.SingleWriter.{is_named}

-- ---- one of a list

-- the first of two tests holds
or_left : (a b : Bool) → a ≡ true → (a || b) ≡ true
or_left a b e = rw e refl

-- the second of two tests holds
or_right : (a b : Bool) → b ≡ true → (a || b) ≡ true
or_right true b e = refl
or_right false b e = e

-- one of two tests holds
or_either : (a b : Bool) → (a || b) ≡ true → (a ≡ true) ⊎ (b ≡ true)
or_either true b e = inl refl
or_either false b e = inr e

module _ {X : Type 0} (test : X → Bool) where
  -- one of some is one of all
  any-filter : (keep : X → Bool) (xs : List X) → list_any test (filter keep xs) ≡ true → list_any test xs ≡ true
  any-filter keep [] some = some
  any-filter keep (x ∷ xs) some = go (keep x) refl (any-filter keep xs)
    where
      go : (b : Bool) → keep x ≡ b → (list_any test (filter keep xs) ≡ true → list_any test xs ≡ true) → list_any test (x ∷ xs) ≡ true
      go true kept rest =
          let here : (test x || list_any test (filter keep xs)) ≡ true = rw kept at some in
          elim (or_either (test x) (list_any test (filter keep xs)) here) [
            | inl first ↦ or_left (test x) (list_any test xs) first
            | inr later ↦ or_right (test x) (list_any test xs) (rest later)
          ]
      go false gone rest = or_right (test x) (list_any test xs) (rest (rw gone at some))

  -- one of the first is one of all
  any-take : (n : ℕ) (xs : List X) → list_any test (take n xs) ≡ true → list_any test xs ≡ true
  any-take zero xs some = absurd (let no : false ≡ true = some in cc)
  any-take (suc n) [] some = some
  any-take (suc n) (x ∷ xs) some = elim (or_either (test x) (list_any test (take n xs)) some) [
    | inl first ↦ or_left (test x) (list_any test xs) first
    | inr later ↦ or_right (test x) (list_any test xs) (any-take n xs later)
  ]

  -- one of the last is one of all
  any-drop : (n : ℕ) (xs : List X) → list_any test (drop n xs) ≡ true → list_any test xs ≡ true
  any-drop zero xs some = some
  any-drop (suc n) [] some = some
  any-drop (suc n) (x ∷ xs) some = or_right (test x) (list_any test xs) (any-drop n xs some)

  -- one of a part is one of all
  any-parts : (turns : List Turn) (xs : List X) → list_any (list_any test) (map (λ t. slice_range xs t.from t.to) turns) ≡ true → list_any test xs ≡ true
  any-parts [] xs some = absurd (let no : false ≡ true = some in cc)
  any-parts (t ∷ turns) xs some = elim (or_either (list_any test (slice_range xs t.from t.to)) (list_any (list_any test) (map (λ t. slice_range xs t.from t.to) turns)) some) [
    | inl here ↦ any-drop t.from xs (any-take (t.to - t.from) (drop t.from xs) here)
    | inr later ↦ any-parts turns xs later
  ]

-- ---- one script

-- the act of a hit is on its slot alone
pub hit-on : (slot other : ℕ) (hit : Hit) → is_on other (hit_act slot hit) ≡ (slot == other)
hit-on slot other hit = by_hit (λ act. is_on other act ≡ (slot == other)) slot hit refl refl

-- the only one of a list
only-one : (front : List Played) (p : Played) (back : List Played) (x : Played) → front ++ p ∷ back ≡ x ∷ [] → p ≡ x
only-one [] p back x e = cc
only-one (y ∷ []) p back x e = absurd (let no : p ∷ back ≡ [] = cc in cc)
only-one (y ∷ z ∷ front) p back x e = absurd (let no : z ∷ (front ++ p ∷ back) ≡ [] = cc in cc)

-- no list with an entry is empty
pub not-empty : (front : List Played) (p : Played) (back : List Played) → front ++ p ∷ back ≡ [] → ⊥
not-empty [] p back e = cc
not-empty (x ∷ front) p back e = cc

module _ (s : Setup) (panics : ℕ → Bool) (slot : ℕ) where
  -- an entry of a delivery is on the delivery's slot
  makes-on : (d : Delivery) (p : Played) → Makes s d p → is_on slot p.0.act ≡ true → (slot_of s.shape d.monitor d.instance == slot) ≡ true
  makes-on d p (inl act) on = sym (ap (is_on slot) act ∙ hit-on (slot_of s.shape d.monitor d.instance) slot d.hit) ∙ on
  makes-on d p (inr stop) on = sym (ap (is_on slot) stop.1) ∙ on

  -- an act on no slot
  off : (p : Played) (act : Act) → p.0.act ≡ act → is_on slot act ≡ false → is_on slot p.0.act ≡ true → ⊥
  off p act is none on = let no : true ≡ false = sym on ∙ ap (is_on slot) is ∙ none in cc

  -- an entry on the slot is one of the deliveries, or comes after them
  delivers-on : (look : ℕ) (ds : List Delivery) (after : List Played → Type 0) (G : Type 0) → ((front : List Played) (p : Played) (back : List Played) → after (front ++ p ∷ back) → is_on slot p.0.act ≡ true → G) → (is_named s.shape slot ds ≡ true → G)
      → (front : List Played) (p : Played) (back : List Played) → Delivers s panics look ds after (front ++ p ∷ back) → is_on slot p.0.act ≡ true → G
  delivers-on look [] after G later now front p back h on = later front p back h on
  delivers-on look (d ∷ ds) after G later now [] p back h on = now (or_left (slot_of s.shape d.monitor d.instance == slot) (is_named s.shape slot ds) (makes-on d p h.0 on))
  delivers-on look (d ∷ ds) after G later now (x ∷ front) p back h on =
      match-one (fails x.1 && (panics d.monitor && has_bit look 33)) _ _ G h.1
      (λ stop. absurd (off p (Raise (2 ^ 34)) (ap (λ (q : Played). q.0.act) (only-one front p back stop.0 stop.1) ∙ stop.2) refl on))
      (λ rest. delivers-on look ds after G later (λ some. now (or_right (slot_of s.shape d.monitor d.instance == slot) (is_named s.shape slot ds) some)) front p back rest on)

  -- an entry on the slot is one of a turn's deliveries
  plays-on : (turns : List (List Delivery)) (front : List Played) (p : Played) (back : List Played) → PlaysTurns s panics turns (front ++ p ∷ back) → is_on slot p.0.act ≡ true → list_any (is_named s.shape slot) turns ≡ true
  plays-on [] front p back h on = absurd (not-empty front p back h)
  plays-on (turn ∷ turns) [] p back h on = absurd (off p Look h.1 refl on)
  plays-on (turn ∷ turns) (x ∷ front) p back (look, is, answer, h) on =
      match-one (has_bit look 34) _ _ (list_any (is_named s.shape slot) (turn ∷ turns) ≡ true) h
      (λ none. absurd (not-empty front p back none))
      (λ more. delivers-on look (filter (is_enabled_by look) turn) (PlaysTurns s panics turns) (list_any (is_named s.shape slot) (turn ∷ turns) ≡ true)
      (λ f q b rest there. or_right (is_named s.shape slot turn) (list_any (is_named s.shape slot) turns) (plays-on turns f q b rest there))
      (λ some. or_left (is_named s.shape slot turn) (list_any (is_named s.shape slot) turns) (any-filter (λ d. slot_of s.shape d.monitor d.instance == slot) (is_enabled_by look) turn some))
      front p back more on)

  -- where a script has an entry on a slot, the work has a delivery for it
  pub plays-named : (w : Work) (front : List Played) (p : Played) (back : List Played) → Plays s panics w (front ++ p ∷ back) → is_on slot p.0.act ≡ true → is_named s.shape slot w.deliveries ≡ true
  plays-named w front p back h on = any-parts (λ d. slot_of s.shape d.monitor d.instance == slot) w.turns w.deliveries (plays-on (turns_of w) front p back h on)

-- ---- a history

-- an entry of a seat is one of its acts
acts-none : (seat : ℕ) (before : List Entry) (e : Entry) (after : List Entry) → e.seat ≡ seat → acts_of seat (before ++ e ∷ after) ≡ [] → ⊥
acts-none seat [] e after at none = let y : (e.seat == seat) ≡ true = grind arith in let no = rw y at none in cc
acts-none seat (x ∷ before) e after at none = go (acts-none seat before e after at) (x.seat == seat) refl
  where
    go : (acts_of seat (before ++ e ∷ after) ≡ [] → ⊥) → (b : Bool) → (x.seat == seat) ≡ b → ⊥
    go rest true y = let no = rw y at none in cc
    go rest false n = rest (rw n at none)

-- the CPU that an entry is by
pub record IsBy (works : List Work) (e : Entry) : Type 0 where
  pub work : Work
  pub has : Contains works work
  pub seat : e.seat ≡ 2 + work.cpu

-- the CPU that an entry is by has a delivery for the slot
pub record IsByOwner (shape : List ℕ) (slot : ℕ) (works : List Work) (e : Entry) : Type 0 where
  pub by : IsBy works e
  pub named : is_named shape slot by.work.deliveries ≡ true

module _ (input : Input) (js : List Judge) (h : List Entry) (legal : IsLegal input js h) where
  -- an entry that is not the control actor's is a CPU's
  by-other : (before : List Entry) (e : Entry) (after : List Entry) → h ≡ before ++ e ∷ after → ¬ (e.seat ≡ 1) → IsBy input.works e
  by-other before e after eq other = elim (legal.nobody_else before e after eq) [
    | inl control ↦ absurd (other control)
    | inr any ↦ record { work = any.1; has = (any.0, any.2, any.3); seat = any.4 }
  ]

  -- a work's script
  script-of : (w : Work) → Contains input.works w → Plays input.setup input.panics w (played input.setup js (2 + w.cpu) (reverse h))
  script-of w has = All-contains (λ w. Plays input.setup input.panics w (played input.setup js (2 + w.cpu) (reverse h))) input.works w legal.cpus has

  -- an entry on a slot that is not the control actor's is by a CPU that has a delivery for it
  pub owner-of : (slot : ℕ) (before : List Entry) (e : Entry) (after : List Entry) → h ≡ before ++ e ∷ after → ¬ (e.seat ≡ 1) → is_on slot e.act ≡ true → IsByOwner input.setup.shape slot input.works e
  owner-of slot before e after eq other on =
      let by = by-other before e after eq other in
      let w : Work = by.work in
      let cut = played-cut input.setup js (2 + w.cpu) before e after by.seat in
      let so_far : List Played = played input.setup js (2 + w.cpu) (reverse before) in
      let a : Answer = answer_at input.setup js (reverse before) e e.act in
      let whole : played input.setup js (2 + w.cpu) (reverse h) ≡ so_far ++ (e, a) ∷ cut.0 = ap (λ (z : List Entry). played input.setup js (2 + w.cpu) (reverse z)) eq ∙ cut.1 in
      let script = subst (Plays input.setup input.panics w) whole (script-of w by.has) in
      record { by = by; named = plays-named input.setup input.panics slot w so_far (e, a) cut.0 script on }

  module _ (still : input.changes ≡ []) where
    -- without changes the control actor has no entry
    not-control : (before : List Entry) (e : Entry) (after : List Entry) → h ≡ before ++ e ∷ after → ¬ (e.seat ≡ 1)
    not-control before e after eq control =
        let none : acts_of 1 h ≡ [] = legal.control ∙ rw still refl in
        acts-none 1 before e after control (rw (← eq) none)

    -- without changes every entry is a CPU's
    pub by-cpu : (before : List Entry) (e : Entry) (after : List Entry) → h ≡ before ++ e ∷ after → IsBy input.works e
    by-cpu before e after eq = by-other before e after eq (not-control before e after eq)

    -- and each work's script is there
    pub plays : (w : Work) → Contains input.works w → Plays input.setup input.panics w (played input.setup js (2 + w.cpu) (reverse h))
    plays = script-of

    -- an entry on a slot is by a CPU that has a delivery for it
    pub by-owner : (slot : ℕ) (before : List Entry) (e : Entry) (after : List Entry) → h ≡ before ++ e ∷ after → is_on slot e.act ≡ true → IsByOwner input.setup.shape slot input.works e
    by-owner slot before e after eq = owner-of slot before e after eq (not-control before e after eq)
