-- What one CPU has of the front of a list: it grows with each delivery, and what it has stays.
use Rattle.std.proofs.Common.{◌≡◌, ℕ, zero, suc, ◌+◌, ◌<◌, ◌≤◌, ◌==◌, Bool, true, false, List, [], ◌∷◌, ◌++◌, length, get_or, take, refl, sym, ap, ◌∙◌, subst, arith, append_assoc, append-nil}
use Rattle.std.specs.Prelude.{All, fold, if◌then◌else◌}
use Rattle.std.proofs.lemmas.Bool.{ne_eqb}
use Rattle.std.proofs.lemmas.List.{take_more}
use Rattle.std.proofs.lemmas.List.Elements.{All-nil, All-cons, All-head, All-tail, All-push}
use Rattle.std.proofs.lemmas.List.Sums.{fold-append}
use Rattle.rv_model.specs.declared.work.Delivery.{Delivery}
use Rattle.rv_model.specs.declared.work.Turn.{Turn}
use Rattle.rv_route.specs.Lanes.{LaneValue, ends_with, longer, with_turn, with_delivery}
use Rattle.rv_route.specs.LineByLine.{no_lane}
use Rattle.rv_route.specs.Listing.{ListedDelivery}
use Rattle.rv_replay.specs.inner.Own.{own, own_of}

-- ---- turns

-- no turn is of a line that all lines are below
pub ends-no : (turns : List Turn) (line : ℕ) → All (λ t. t.line < line) turns → ends_with turns line ≡ false
ends-no [] line below = refl
ends-no (t ∷ []) line below = ne_eqb t.line line (λ e. let lt = All-head (λ (u : Turn). u.line < line) t [] below in omega arith)
ends-no (t ∷ u ∷ turns) line below = ends-no (u ∷ turns) line (All-tail (λ (v : Turn). v.line < line) t (u ∷ turns) below)

-- the last turn is that of the second list
ends-behind : (ts : List Turn) (u : Turn) (us : List Turn) (line : ℕ) → ends_with (ts ++ u ∷ us) line ≡ ends_with (u ∷ us) line
ends-behind [] u us line = refl
ends-behind (t ∷ []) u us line = refl
ends-behind (t ∷ v ∷ ts) u us line = ends-behind (v ∷ ts) u us line

-- it is the one that is made longer
longer-behind : (ts : List Turn) (u : Turn) (us : List Turn) (to : ℕ) → longer (ts ++ u ∷ us) to ≡ ts ++ longer (u ∷ us) to
longer-behind [] u us to = refl
longer-behind (t ∷ []) u us to = refl
longer-behind (t ∷ v ∷ ts) u us to = ap (λ (rest : List Turn). t ∷ rest) (longer-behind (v ∷ ts) u us to)

-- turns of lower lines stay
pub turns-behind : (ts us : List Turn) (line place : ℕ) → All (λ t. t.line < line) ts → with_turn (ts ++ us) line place ≡ ts ++ with_turn us line place
turns-behind ts [] line place below =
    let none : ends_with (ts ++ []) line ≡ false = ap (λ (xs : List Turn). ends_with xs line) (append-nil ts) ∙ ends-no ts line below in
    ap (λ (b : Bool). if b then longer (ts ++ []) (place + 1) else (ts ++ []) ++ record { line = line; from = place; to = place + 1 } ∷ []) none
    ∙ ap (λ (xs : List Turn). xs ++ record { line = line; from = place; to = place + 1 } ∷ []) (append-nil ts)
turns-behind ts (u ∷ us) line place below =
    ap (λ (b : Bool). if b then longer (ts ++ u ∷ us) (place + 1) else (ts ++ u ∷ us) ++ record { line = line; from = place; to = place + 1 } ∷ []) (ends-behind ts u us line) ∙ go (ends_with (u ∷ us) line)
  where
    go : (b : Bool) → (if b then longer (ts ++ u ∷ us) (place + 1) else (ts ++ u ∷ us) ++ record { line = line; from = place; to = place + 1 } ∷ [])
        ≡ ts ++ (if b then longer (u ∷ us) (place + 1) else (u ∷ us) ++ record { line = line; from = place; to = place + 1 } ∷ [])
    go true = longer-behind ts u us (place + 1)
    go false = append_assoc ts (u ∷ us) (record { line = line; from = place; to = place + 1 } ∷ [])

module _ (P : ℕ → Type 0) where
  -- a longer turn has its line
  longer-lines : (turns : List Turn) (to : ℕ) → All (λ t. P t.line) turns → All (λ t. P t.line) (longer turns to)
  longer-lines [] to all = all
  longer-lines (t ∷ []) to all = All-cons (λ (u : Turn). P u.line) (record t { to = to }) [] (All-head (λ (u : Turn). P u.line) t [] all) (All-nil (λ (u : Turn). P u.line))
  longer-lines (t ∷ u ∷ turns) to all =
      All-cons (λ (v : Turn). P v.line) t (longer (u ∷ turns) to) (All-head (λ (v : Turn). P v.line) t (u ∷ turns) all) (longer-lines (u ∷ turns) to (All-tail (λ (v : Turn). P v.line) t (u ∷ turns) all))

  -- what holds of all lines holds with one more
  pub lines-more : (turns : List Turn) (line place : ℕ) → All (λ t. P t.line) turns → P line → All (λ t. P t.line) (with_turn turns line place)
  lines-more turns line place all p = go (ends_with turns line)
    where
      go : (b : Bool) → All (λ t. P t.line) (if b then longer turns (place + 1) else turns ++ record { line = line; from = place; to = place + 1 } ∷ [])
      go true = longer-lines turns (place + 1) all
      go false = All-push (λ (t : Turn). P t.line) turns (record { line = line; from = place; to = place + 1 }) all p

-- ---- the front of a list

-- the lane has grown by turns of these lines or later ones
pub record Extends (b : ℕ) (l m : LaneValue) : Type 0 where
  pub turns : List Turn
  pub more : List Delivery
  pub turns_are : m.turns ≡ l.turns ++ turns
  pub deliveries_are : m.deliveries ≡ l.deliveries ++ more
  pub low : All (λ t. b ≤ t.line) turns

-- by none
extends-none : (b : ℕ) (l : LaneValue) → Extends b l l
extends-none b l = record { turns = []; more = []; turns_are = sym (append-nil l.turns); deliveries_are = sym (append-nil l.deliveries); low = All-nil (λ (t : Turn). b ≤ t.line) }

-- and by one delivery more
extends-more : (b cpu : ℕ) (l m : LaneValue) (d : ListedDelivery) → All (λ t. t.line < b) l.turns → b ≤ d.line → Extends b l m → Extends b l (own_of cpu m d)
extends-more b cpu l m d below le e = go (d.cpu == cpu)
  where
    lower : All (λ t. t.line < d.line) l.turns
    lower k t lt = let h = below k t lt in omega arith

    go : (yes : Bool) → Extends b l (if yes then with_delivery m d.line d.delivery else m)
    go true = record {
      turns = with_turn e.turns d.line (length m.deliveries);
      more = e.more ++ d.delivery ∷ [];
      turns_are = ap (λ (ts : List Turn). with_turn ts d.line (length m.deliveries)) e.turns_are ∙ turns-behind l.turns e.turns d.line (length m.deliveries) lower;
      deliveries_are = ap (λ (ds : List Delivery). ds ++ d.delivery ∷ []) e.deliveries_are ∙ append_assoc l.deliveries e.more (d.delivery ∷ []);
      low = lines-more (λ n. b ≤ n) e.turns d.line (length m.deliveries) e.low le;
    }
    go false = e

module _ (list : List ListedDelivery) (d : ListedDelivery) (cpu : ℕ) where
  -- what the CPU has of the deliveries before a place
  abbrev pub front : ℕ → LaneValue
  front at = own cpu (take at list)

  -- with one more
  pub front-more : (at : ℕ) → at < length list → front (at + 1) ≡ own_of cpu (front at) (get_or list at d)
  unfolding own
  front-more at lt = ap (fold (own_of cpu) no_lane) (take_more list at d lt) ∙ fold-append (own_of cpu) no_lane (take at list) (get_or list at d ∷ [])

  -- what holds of the lines of the list holds of those of the turns
  pub front-lines : (P : ℕ → Type 0) (at : ℕ) → at ≤ length list → ((k : ℕ) → k < at → P (get_or list k d).line) → All (λ t. P t.line) (front at).turns
  unfolding own
  front-lines P zero le all = All-nil (λ (t : Turn). P t.line)
  front-lines P (suc at) le all = subst (λ (n : ℕ). All (λ t. P t.line) (front n).turns) same (subst (λ (l : LaneValue). All (λ t. P t.line) l.turns) (sym (front-more at (omega arith))) (go (front-lines P at (omega arith) (λ k lt. all k (omega arith))) ((get_or list at d).cpu == cpu)))
    where
      x : ListedDelivery
      x = get_or list at d

      same : at + 1 ≡ suc at
      same = omega arith

      go : All (λ t. P t.line) (front at).turns → (yes : Bool) → All (λ t. P t.line) (if yes then with_delivery (front at) x.line x.delivery else front at).turns
      go so_far true = lines-more P (front at).turns x.line (length (front at).deliveries) so_far (all at (omega arith))
      go so_far false = so_far

  -- the turns before a place stay, where later lines are not below them
  pub front-extends : (b at n : ℕ) → All (λ t. t.line < b) (front at).turns → ((k : ℕ) → at ≤ k → k < length list → b ≤ (get_or list k d).line) → at + n ≤ length list → Extends b (front at) (front (at + n))
  front-extends b at zero below later le = let same : at ≡ at + 0 = omega arith in subst (λ (m : ℕ). Extends b (front at) (front m)) same (extends-none b (front at))
  front-extends b at (suc n) below later le =
      let same : (at + n) + 1 ≡ at + suc n = omega arith in
      subst (λ (m : ℕ). Extends b (front at) (front m)) same
      (subst (Extends b (front at)) (sym (front-more (at + n) (omega arith)))
      (extends-more b cpu (front at) (front (at + n)) (get_or list (at + n) d) below (later (at + n) (omega arith) (omega arith)) (front-extends b at n below later (omega arith))))

  -- deliveries of other CPUs change nothing
  pub front-others : (at n : ℕ) → at + n ≤ length list → ((k : ℕ) → at ≤ k → k < at + n → (get_or list k d).cpu ≡ cpu → ⊥) → front (at + n) ≡ front at
  front-others at zero le others = let same : at + 0 ≡ at = omega arith in ap front same
  front-others at (suc n) le others =
      let same : at + suc n ≡ (at + n) + 1 = omega arith in
      let no : ((get_or list (at + n) d).cpu == cpu) ≡ false = ne_eqb (get_or list (at + n) d).cpu cpu (others (at + n) (omega arith) (omega arith)) in
      ap front same ∙ front-more (at + n) (omega arith)
      ∙ ap (λ (b : Bool). if b then with_delivery (front (at + n)) (get_or list (at + n) d).line (get_or list (at + n) d).delivery else front (at + n)) no
      ∙ front-others at n (omega arith) (λ k low high. others k low (omega arith))
