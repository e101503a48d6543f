-- Turns that are left: what may follow, and where a script may end.
use Rattle.std.proofs.Common.{◌≡◌, ℕ, ◌+◌, ◌^◌, ◌<◌, ◌≤◌, Bool, List, [], ◌∷◌, inl, suc, length, map, get_or, drop, arith, refl, sym, ap, ◌∙◌, subst, add-one, length-drop}
use Rattle.std.specs.Prelude.{slice_range}
use Rattle.std.proofs.lemmas.List.{length-map, get_or-map}
use Rattle.std.proofs.Math.ListN.{drop_of_length-le}
use Rattle.std.proofs.Math.Seq.{drop-cons}
use Rattle.rv_model.specs.declared.entry.Act.TheVariants.{Look, Raise}
use Rattle.rv_model.specs.declared.entry.Answer.TheVariants.{Looked, Stopped, Switched}
use Rattle.rv_model.specs.declared.work.Delivery.{Delivery}
use Rattle.rv_model.specs.declared.work.Turn.{Turn}
use Rattle.rv_model.specs.Scripts.{Played, hit_act, Delivers, PlaysTurns, turns_of}
use Rattle.rv_model.specs.Setups.{Setup, slot_of}
use Rattle.rv_model.specs.Works.{Work}
use Rattle.rv_check.specs.declared.next.Next.{Next}
use Rattle.rv_check.specs.declared.next.Next.TheVariants as next
use Rattle.rv_check.specs.inner.Nexts.{turn_in, no_turn, May, IsNext, MayEnd}
use Rattle.rv_check.proofs.SettleLemmas.{shown_in}
use Rattle.rv_check.proofs.ServeLemmas.{begins-due}

-- the turns from one on begin with its deliveries
pub turns-first : (w : Work) (turn : ℕ) → turn < length w.turns → drop turn (turns_of w) ≡ slice_range w.deliveries (turn_in w turn).from (turn_in w turn).to ∷ drop (turn + 1) (turns_of w)
turns-first w turn lt =
    let f : Turn → List Delivery = λ t. slice_range w.deliveries t.from t.to in
    let many : turn < length (map f w.turns) = rw (length-map w.turns f) lt in
    let one = drop-cons (map f w.turns) turn [] many in
    let at : get_or (map f w.turns) turn [] ≡ f (turn_in w turn) = get_or-map f w.turns turn no_turn [] lt in
    let up : drop (suc turn) (map f w.turns) ≡ drop (turn + 1) (map f w.turns) = ap (λ (n : ℕ). drop n (map f w.turns)) (sym (add-one turn)) in
    one ∙ ap (λ (z : List Delivery). z ∷ drop (suc turn) (map f w.turns)) at ∙ ap (λ (zs : List (List Delivery)). f (turn_in w turn) ∷ zs) up

-- none are left
pub turns-none : (w : Work) (turn : ℕ) → length w.turns ≤ turn → drop turn (turns_of w) ≡ []
turns-none w turn le = drop_of_length-le (turns_of w) (rw (length-map w.turns (λ t. slice_range w.deliveries t.from t.to)) le)

module _ (s : Setup) (panics : ℕ → Bool) where
  -- turns that are played begin with a look
  pub plays-look : (ts : List (List Delivery)) (p : Played) (ps : List Played) → PlaysTurns s panics ts (p ∷ ps) → (p.0.act ≡ Look) × (0 < length ts)
  plays-look [] p ps h = absurd (let no : p ∷ ps ≡ [] = h in cc)
  plays-look (t ∷ ts) p ps h = (h.1, omega arith)

  -- turns that are played by nothing are none
  plays-nothing : (ts : List (List Delivery)) → PlaysTurns s panics ts [] → length ts ≡ 0
  plays-nothing [] h = refl
  plays-nothing (t ∷ ts) h = absurd h

  module _ (w : Work) where
    -- where the script may end, nothing has to follow
    pub ends-may : (n : Next) → MayEnd w n → May s panics w n []
    ends-may (next.Look turn) le = subst (λ (z : List (List Delivery)). PlaysTurns s panics z []) (sym (turns-none w turn le)) refl
    ends-may (next.Deliver due) never = absurd never
    ends-may next.Raise never = absurd never
    ends-may next.Over over = refl

    -- and only there
    pub may-ends : (n : Next) → IsNext s w n → May s panics w n [] → MayEnd w n
    may-ends (next.Look turn) is h =
        let none = plays-nothing (drop turn (turns_of w)) h in
        let l = length-drop turn (turns_of w) in
        let m = length-map w.turns (λ t. slice_range w.deliveries t.from t.to) in
        omega arith
    may-ends (next.Deliver due) is h = subst (λ (z : List Delivery). Delivers s panics due.look z (PlaysTurns s panics (drop due.turn (turns_of w))) []) (begins-due s w due is) h
    may-ends next.Raise is h = let one : [] ≡ h.0 ∷ [] = h.1 in cc
    may-ends next.Over is h = tt

    -- turns may be left by a look that shows that the run is over
    some-turns : (ts : List (List Delivery)) → (ps : List Played) × PlaysTurns s panics ts ps
    some-turns [] = ([], refl)
    some-turns (turn ∷ turns) = ((record { seat = 0; act = Look; before = 0; after = 0 }, Looked (2 ^ 34)) ∷ [], (2 ^ 34, refl, refl, refl))

    -- deliveries may be made by their own acts
    some-deliveries : (look : ℕ) (ds : List Delivery) (after : List Played → Type 0) → (ps : List Played) × after ps → (ps : List Played) × Delivers s panics look ds after ps
    some-deliveries look [] after some = some
    some-deliveries look (d ∷ ds) after some =
        let rest = some-deliveries look ds after some in
        ((record { seat = 0; act = hit_act (slot_of s.shape d.monitor d.instance) d.hit; before = 0; after = 0 }, Stopped) ∷ rest.0, (inl refl, rest.1))

    -- something may always follow
    pub some-may : (n : Next) → (ps : List Played) × May s panics w n ps
    some-may (next.Look turn) = some-turns (drop turn (turns_of w))
    some-may (next.Deliver due) = some-deliveries due.look (shown_in w due.look due.place due.to) (PlaysTurns s panics (drop due.turn (turns_of w))) (some-turns (drop due.turn (turns_of w)))
    some-may next.Raise = ((record { seat = 0; act = Raise (2 ^ 34); before = 0; after = 0 }, Switched) ∷ [], ((record { seat = 0; act = Raise (2 ^ 34); before = 0; after = 0 }, Switched), refl, refl))
    some-may next.Over = ([], refl)
