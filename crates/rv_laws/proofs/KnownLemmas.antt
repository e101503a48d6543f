-- The instances of a part: the setups of both have them, and they are kept.
use Rattle.std.proofs.Common.{◌≡◌, ℕ, zero, suc, ◌+◌, ◌-◌, ◌<◌, Bool, true, false, ◌==◌, ◌&&◌, List, [], ◌∷◌, map, arith, refl, sym, ap, ◌∙◌, subst}
use Rattle.std.specs.Prelude.{filter, All, slice_range, nat_lt, drop}
use Rattle.std.proofs.lemmas.List.Elements.{All-head, All-tail, All-take, All-drop}
use Rattle.rv_model.specs.declared.work.Delivery.{Delivery}
use Rattle.rv_model.specs.declared.work.Turn.{Turn}
use Rattle.rv_model.specs.Histories.{Input}
use Rattle.rv_model.specs.Setups.{monitor_of, slot_of}
use Rattle.rv_model.specs.Works.{Work}
use Rattle.rv_laws.specs.SingleWriter.{HasInstance, HaveInstances}
use Rattle.rv_laws.specs.Parts.{Placed, placed_of, placed_in, placed_by, Numbering, KeepsApart, keeps, IsPartOf}
use Rattle.rv_laws.proofs.CpuLemmas.{slot-later, slot-tells}
use Rattle.rv_laws.proofs.ListLemmas.{Every, every-append, every-filter, every-kept, filter-map}
use Rattle.rv_laws.proofs.Made.{is_for, placed_from}
use Rattle.rv_laws.proofs.WholeLemmas.{is_at}

-- the monitor of a slot that the first monitor does not have
monitor-past : (count : ℕ) (shape : List ℕ) (slot : ℕ) → monitor_of (count ∷ shape) (count + slot) ≡ 1 + monitor_of shape slot
monitor-past count shape slot =
    let past : nat_lt (count + slot) count ≡ false = grind arith in
    let left : (count + slot) - count ≡ slot = omega arith in
    rw (past, left) refl

-- the slot of a monitor's instance is of that monitor
pub monitor-of : (shape : List ℕ) (monitor instance : ℕ) → HasInstance shape monitor instance → monitor_of shape (slot_of shape monitor instance) ≡ monitor
monitor-of [] monitor instance has = absurd (let none = has.monitor_below in omega arith)
monitor-of (count ∷ shape) zero instance has =
    let below : instance < count = has.instance_below in
    let first : slot_of (count ∷ shape) zero instance ≡ instance = omega arith in
    let within : nat_lt instance count ≡ true = grind arith in
    ap (monitor_of (count ∷ shape)) first ∙ rw within refl
monitor-of (count ∷ shape) (suc monitor) instance has =
    let below = has.monitor_below in
    let rest = monitor-of shape monitor instance (record { monitor_below = omega arith; instance_below = has.instance_below }) in
    ap (monitor_of (count ∷ shape)) (slot-later count shape monitor instance) ∙ monitor-past count shape (slot_of shape monitor instance) ∙ (let found : monitor_of shape (slot_of shape monitor instance) ≡ monitor = rest in omega arith)

-- the setup has the instance of a delivery
abbrev pub HasPlace : List ℕ → Placed → Type 0
HasPlace shape p = HasInstance shape p.delivery.monitor p.delivery.instance

-- what holds of all deliveries holds of those of turns
module _ (P : Delivery → Type 0) (cpu : ℕ) where
  -- the fact of a placed delivery
  abbrev pub OfDelivery : Placed → Type 0
  OfDelivery p = P p.delivery

  -- of a line's
  every-line : (line : ℕ) (ds : List Delivery) → All P ds → Every OfDelivery (map (λ d. record { cpu = cpu; line = line; delivery = d }) ds)
  every-line line [] all = tt
  every-line line (d ∷ ds) all = (All-head P d ds all, every-line line ds (All-tail P d ds all))

  -- of each turn's
  pub every-turn : (ds : List Delivery) (turns : List Turn) → All P ds → Every OfDelivery (placed_from cpu ds turns)
  every-turn ds [] all = tt
  every-turn ds (t ∷ turns) all =
      every-append OfDelivery (map (λ d. record { cpu = cpu; line = t.line; delivery = d }) (slice_range ds t.from t.to)) (placed_from cpu ds turns)
      (every-line t.line (slice_range ds t.from t.to) (All-take P (t.to - t.from) (drop t.from ds) (All-drop P t.from ds all))) (every-turn ds turns all)

-- the setup has the instances of all deliveries
pub places-have : (shape : List ℕ) (works : List Work) → HaveInstances shape works → Every (HasPlace shape) (placed_in works)
places-have shape [] all = tt
places-have shape (w ∷ works) all =
    every-append (HasPlace shape) (placed_of w) (placed_in works)
    (every-turn (λ d. HasInstance shape d.monitor d.instance) w.cpu w.deliveries w.turns (All-head (λ w. All (λ d. HasInstance shape d.monitor d.instance) w.deliveries) w works all))
    (places-have shape works (All-tail (λ w. All (λ d. HasInstance shape d.monitor d.instance) w.deliveries) w works all))

-- tests of numbers that are equal together
test-same : (a b c d : ℕ) → (a ≡ b → c ≡ d) → (c ≡ d → a ≡ b) → (a == b) ≡ (c == d)
test-same a b c d to from = go (a == b) refl (c == d) refl
  where
    go : (t : Bool) → (a == b) ≡ t → (u : Bool) → (c == d) ≡ u → (a == b) ≡ (c == d)
    go true same u is = let e : a ≡ b = grind arith in let f : c ≡ d = to e in let yes' : (c == d) ≡ true = grind arith in same ∙ sym yes'
    go false other true same = let f : c ≡ d = grind arith in let e : a ≡ b = from f in let yes' : (a == b) ≡ true = grind arith in yes' ∙ sym same
    go false other false away = other ∙ sym away

-- a test that follows from another holds with it
pub test-with : (a b : Bool) → (a ≡ true → b ≡ true) → a ≡ (b && a)
test-with true b to = let here : b ≡ true = to refl in rw here refl
test-with false true to = refl
test-with false false to = refl

-- the second of two tests that both hold
second-holds : (a b : Bool) → (a && b) ≡ true → b ≡ true
second-holds true b e = e
second-holds false b e = absurd (let wrong : false ≡ true = e in cc)

module _ (n : Numbering) (keep : ℕ → ℕ → Bool) (whole part : Input) where
  -- the part and the whole have the instance, and it is kept
  pub record IsKnown (monitor instance : ℕ) : Type 0 where
    pub own : HasInstance part.setup.shape monitor instance
    pub there : HasInstance whole.setup.shape monitor (n.instance_of monitor instance)
    pub kept : keep monitor (n.instance_of monitor instance) ≡ true

  -- so is that of a delivery
  abbrev pub KnowsPlace : Placed → Type 0
  KnowsPlace p = IsKnown p.delivery.monitor p.delivery.instance

  -- the deliveries of the part, as the whole has them
  known-map : (ps : List Placed) → Every (HasPlace part.setup.shape) ps → Every (λ p. HasPlace whole.setup.shape p × (keeps keep p ≡ true)) (map (placed_by n) ps) → Every KnowsPlace ps
  known-map [] own there = tt
  known-map (p ∷ ps) own there = (record { own = own.0; there = there.0.0; kept = there.0.1 }, known-map ps own.1 there.1)

  -- the delivery of the part is to an instance that is kept
  abbrev pub kept_here : Placed → Bool
  kept_here p = keeps keep (placed_by n p)

  -- the instances of the deliveries that are kept are known
  pub known : IsPartOf n keep whole part → HaveInstances whole.setup.shape whole.works → HaveInstances part.setup.shape part.works → Every KnowsPlace (filter kept_here (placed_in part.works))
  known is has has' =
      let same : map (placed_by n) (filter kept_here (placed_in part.works)) ≡ filter (keeps keep) (placed_in whole.works) = sym (filter-map (placed_by n) (keeps keep) (placed_in part.works)) ∙ is.deliveries in
      known-map (filter kept_here (placed_in part.works)) (every-filter (HasPlace part.setup.shape) kept_here (placed_in part.works) (places-have part.setup.shape part.works has'))
      (subst (Every (λ p. HasPlace whole.setup.shape p × (keeps keep p ≡ true))) (sym same) (every-kept (HasPlace whole.setup.shape) (keeps keep) (placed_in whole.works) (places-have whole.setup.shape whole.works has)))

  module _ (monitor instance : ℕ) (at : IsKnown monitor instance) where
    -- a delivery of the whole to the instance is kept
    pub kept-at : (seat : ℕ) (p : Placed) → HasPlace whole.setup.shape p → is_at seat whole.setup.shape (slot_of whole.setup.shape monitor (n.instance_of monitor instance)) p ≡ true → keeps keep p ≡ true
    kept-at seat p has on =
        let slot : ℕ = slot_of whole.setup.shape monitor (n.instance_of monitor instance) in
        let here : is_for whole.setup.shape slot p ≡ true = second-holds (2 + p.cpu == seat) (is_for whole.setup.shape slot p) on in
        let same : slot_of whole.setup.shape p.delivery.monitor p.delivery.instance ≡ slot = grind arith in
        let both = slot-tells whole.setup.shape p.delivery.monitor p.delivery.instance monitor (n.instance_of monitor instance) has at.there same in
        ap (λ (m : ℕ). keep m p.delivery.instance) both.0 ∙ ap (keep monitor) both.1 ∙ at.kept

    -- so is one of the part
    pub kept-here : (seat : ℕ) (p : Placed) → HasPlace part.setup.shape p → is_at seat part.setup.shape (slot_of part.setup.shape monitor instance) p ≡ true → kept_here p ≡ true
    kept-here seat p has on =
        let slot : ℕ = slot_of part.setup.shape monitor instance in
        let here : is_for part.setup.shape slot p ≡ true = second-holds (2 + p.cpu == seat) (is_for part.setup.shape slot p) on in
        let same : slot_of part.setup.shape p.delivery.monitor p.delivery.instance ≡ slot = grind arith in
        let both = slot-tells part.setup.shape p.delivery.monitor p.delivery.instance monitor instance has at.own same in
        ap (λ (m : ℕ). keep m (n.instance_of m p.delivery.instance)) both.0 ∙ ap (λ (i : ℕ). keep monitor (n.instance_of monitor i)) both.1 ∙ at.kept

    -- a delivery of the part is to the instance where the whole's is
    pub test-at : KeepsApart n part.setup.shape → (seat : ℕ) (p : Placed) → KnowsPlace p
        → is_at seat whole.setup.shape (slot_of whole.setup.shape monitor (n.instance_of monitor instance)) (placed_by n p) ≡ is_at seat part.setup.shape (slot_of part.setup.shape monitor instance) p
    test-at apart seat p is = ap (λ (b : Bool). (2 + p.cpu == seat) && b) (test-same a b c d to from)
      where
        a : ℕ
        a = slot_of whole.setup.shape p.delivery.monitor (n.instance_of p.delivery.monitor p.delivery.instance)

        b : ℕ
        b = slot_of whole.setup.shape monitor (n.instance_of monitor instance)

        c : ℕ
        c = slot_of part.setup.shape p.delivery.monitor p.delivery.instance

        d : ℕ
        d = slot_of part.setup.shape monitor instance

        to : a ≡ b → c ≡ d
        to same =
            let both = slot-tells whole.setup.shape p.delivery.monitor (n.instance_of p.delivery.monitor p.delivery.instance) monitor (n.instance_of monitor instance) is.there at.there same in
            let mine : HasInstance part.setup.shape monitor p.delivery.instance = subst (λ (m : ℕ). HasInstance part.setup.shape m p.delivery.instance) both.0 is.own in
            let one : n.instance_of monitor p.delivery.instance ≡ n.instance_of monitor instance = ap (λ (m : ℕ). n.instance_of m p.delivery.instance) (sym both.0) ∙ both.1 in
            ap (λ (m : ℕ). slot_of part.setup.shape m p.delivery.instance) both.0 ∙ ap (slot_of part.setup.shape monitor) (apart.instances monitor p.delivery.instance instance mine at.own one)

        from : c ≡ d → a ≡ b
        from same =
            let both = slot-tells part.setup.shape p.delivery.monitor p.delivery.instance monitor instance is.own at.own same in
            ap (λ (m : ℕ). slot_of whole.setup.shape m (n.instance_of m p.delivery.instance)) both.0 ∙ ap (λ (i : ℕ). slot_of whole.setup.shape monitor (n.instance_of monitor i)) both.1
