-- The turns of lines, as deliveries come: one more of the last line makes the last turn longer, or begins one.
use Rattle.std.proofs.Common.{◌≡◌, ℕ, ◌+◌, ◌<◌, ◌≤◌, ◌==◌, ◌||◌, Bool, true, false, cond, List, [], ◌∷◌, ◌++◌, length, map, refl, sym, ap, ap₂, ◌∙◌, arith}
use Rattle.std.specs.Prelude.{All, filter, count_by, nat_lt, nat_le, if◌then◌else◌}
use Rattle.std.specs.List.{list_any}
use Rattle.std.proofs.lemmas.Bool.{lt-ltb, le-ltb, le-leb, lt-leb, eq-eqb, ne_eqb, eqb-false}
use Rattle.std.proofs.lemmas.List.{append-nil, map-append}
use Rattle.std.proofs.lemmas.List.Elements.{filter-append, All-nil, All-cons, All-head, All-tail, All-filter, All-weaker}
use Rattle.std.proofs.lemmas.List.Folds.{list_any-append, list_any_none}
use Rattle.std.proofs.lemmas.List.Sums.{sum_by-append, sum_by-cons}
use Rattle.rv_trace.specs.declared.line.TraceLine.{TraceLine}
use Rattle.rv_model.specs.declared.work.Delivery.{Delivery}
use Rattle.rv_model.specs.declared.work.Turn.{Turn}
use Rattle.rv_route.specs.Lanes.{ends_with, longer, with_turn}
use Rattle.rv_route.specs.Routing.{LineDelivery, has_delivery, line_turn, line_turns}

-- ---- counts and tests of one more

module _ {X : Type 0} (p : X → Bool) where
  -- one more that passes is counted
  count-more : (xs : List X) (x : X) → p x ≡ true → count_by p (xs ++ x ∷ []) ≡ count_by p xs + 1
  count-more xs x passes = sum_by-append (λ x. cond (p x) 1 0) xs (x ∷ []) ∙ ap (λ b. count_by p xs + (0 + cond b 1 0)) passes

  -- one more that does not pass is not
  count-same : (xs : List X) (x : X) → p x ≡ false → count_by p (xs ++ x ∷ []) ≡ count_by p xs
  count-same xs x fails = sum_by-append (λ x. cond (p x) 1 0) xs (x ∷ []) ∙ ap (λ b. count_by p xs + (0 + cond b 1 0)) fails ∙ (omega arith)

  -- where all pass, all are counted
  count-all : (xs : List X) → All (λ x. p x ≡ true) xs → count_by p xs ≡ length xs
  count-all [] all = refl
  count-all (x ∷ xs) all =
      sum_by-cons (λ x. cond (p x) 1 0) x xs
      ∙ ap₂ (λ (b : Bool) (n : ℕ). cond b 1 0 + n) (All-head (λ x. p x ≡ true) x xs all) (count-all xs (All-tail (λ x. p x ≡ true) x xs all))
      ∙ (omega arith)

  -- one more that passes is some
  any-more : (xs : List X) (x : X) → p x ≡ true → list_any p (xs ++ x ∷ []) ≡ true
  any-more xs x passes = list_any-append p xs (x ∷ []) ∙ ap (λ b. list_any p xs || (b || false)) passes ∙ go (list_any p xs)
    where
      go : (b : Bool) → (b || true) ≡ true
      go true = refl
      go false = refl

  -- one more that does not pass changes nothing
  any-same : (xs : List X) (x : X) → p x ≡ false → list_any p (xs ++ x ∷ []) ≡ list_any p xs
  any-same xs x fails = list_any-append p xs (x ∷ []) ∙ ap (λ b. list_any p xs || (b || false)) fails ∙ go (list_any p xs)
    where
      go : (b : Bool) → (b || false) ≡ b
      go true = refl
      go false = refl

-- ---- the last turn

-- the last turn is the one behind all others
ends_with-push : (turns : List Turn) (turn : Turn) (line : ℕ) → ends_with (turns ++ turn ∷ []) line ≡ (turn.line == line)
ends_with-push [] turn line = refl
ends_with-push (t ∷ []) turn line = refl
ends_with-push (t ∷ u ∷ turns) turn line = ends_with-push (u ∷ turns) turn line

-- so it is the one that goes on
longer-push : (turns : List Turn) (turn : Turn) (to : ℕ) → longer (turns ++ turn ∷ []) to ≡ turns ++ record turn { to = to } ∷ []
longer-push [] turn to = refl
longer-push (t ∷ []) turn to = refl
longer-push (t ∷ u ∷ turns) turn to = ap (λ (rest : List Turn). t ∷ rest) (longer-push (u ∷ turns) turn to)

-- turns that end with the line go on
goes_on : (turns : List Turn) (line place : ℕ) → ends_with turns line ≡ true → with_turn turns line place ≡ longer turns (place + 1)
goes_on turns line place is = ap (λ (b : Bool). if b then longer turns (place + 1) else turns ++ record { line = line; from = place; to = place + 1 } ∷ []) is

-- turns that do not end with the line get one more
begins : (turns : List Turn) (line place : ℕ) → ends_with turns line ≡ false → with_turn turns line place ≡ turns ++ record { line = line; from = place; to = place + 1 } ∷ []
begins turns line place is = ap (λ (b : Bool). if b then longer turns (place + 1) else turns ++ record { line = line; from = place; to = place + 1 } ∷ []) is

-- turns of lines before this one do not end with it
ends_before : (own : List LineDelivery) (lines : List TraceLine) (line : ℕ) → All (λ (l : TraceLine). l.number < line) lines → ends_with (map (line_turn own) lines) line ≡ false
ends_before own [] line below = refl
ends_before own (l ∷ []) line below = ne_eqb l.number line (λ e. let lt = All-head (λ (l : TraceLine). l.number < line) l [] below in omega arith)
ends_before own (l ∷ m ∷ lines) line below = ends_before own (m ∷ lines) line (All-tail (λ (l : TraceLine). l.number < line) l (m ∷ lines) below)

-- ---- which deliveries are counted

-- all deliveries are of lines up to this one
all_up_to : (own : List LineDelivery) (line : ℕ) → All (λ (x : LineDelivery). x.line.number ≤ line) own → count_by (λ (x : LineDelivery). nat_le x.line.number line) own ≡ length own
all_up_to own line low = count-all (λ (x : LineDelivery). nat_le x.line.number line) own (All-weaker (λ (x : LineDelivery). x.line.number ≤ line) (λ (x : LineDelivery). nat_le x.line.number line ≡ true) (λ x le. le-leb x.line.number line le) own low)

-- where none is of this line, all are of lines before it
none_at : (own : List LineDelivery) (line : ℕ) → All (λ (x : LineDelivery). x.line.number ≤ line) own → list_any (λ (x : LineDelivery). x.line.number == line) own ≡ false → All (λ (x : LineDelivery). nat_lt x.line.number line ≡ true) own
none_at [] line low none = All-nil (λ (x : LineDelivery). nat_lt x.line.number line ≡ true)
none_at (x ∷ own) line low none = go (x.line.number == line) refl none (none_at own line (All-tail (λ (y : LineDelivery). y.line.number ≤ line) x own low))
  where
    go : (b : Bool) → (x.line.number == line) ≡ b → (b || list_any (λ (y : LineDelivery). y.line.number == line) own) ≡ false
        → (list_any (λ (y : LineDelivery). y.line.number == line) own ≡ false → All (λ (y : LineDelivery). nat_lt y.line.number line ≡ true) own) → All (λ (y : LineDelivery). nat_lt y.line.number line ≡ true) (x ∷ own)
    go true is e rest = cc
    go false is e rest =
        let le = All-head (λ (y : LineDelivery). y.line.number ≤ line) x own low in
        let other = eqb-false x.line.number line is in
        All-cons (λ (y : LineDelivery). nat_lt y.line.number line ≡ true) x own (lt-ltb x.line.number line (omega arith)) (rest e)

-- so all are counted
all_before : (own : List LineDelivery) (line : ℕ) → All (λ (x : LineDelivery). x.line.number ≤ line) own → list_any (λ (x : LineDelivery). x.line.number == line) own ≡ false → count_by (λ (x : LineDelivery). nat_lt x.line.number line) own ≡ length own
all_before own line low none = count-all (λ (x : LineDelivery). nat_lt x.line.number line) own (none_at own line low none)

-- ---- one line more

module _ (line : TraceLine) where
  -- the turns of lines, and of one line more
  turns-split : (own : List LineDelivery) (lines : List TraceLine) → line_turns (lines ++ line ∷ []) own ≡ line_turns lines own ++ map (line_turn own) (cond (has_delivery own line) (line ∷ []) [])
  turns-split own lines = ap (map (line_turn own)) (filter-append (has_delivery own) lines (line ∷ [])) ∙ map-append (line_turn own) (filter (has_delivery own) lines) (filter (has_delivery own) (line ∷ []))

  -- a line without a delivery has no turn
  pub turns-new : (own : List LineDelivery) (lines : List TraceLine) → All (λ (x : LineDelivery). x.line.number < line.number) own → line_turns (lines ++ line ∷ []) own ≡ line_turns lines own
  turns-new own lines low =
      let none : has_delivery own line ≡ false = list_any_none (λ (x : LineDelivery). x.line.number == line.number) own
      (All-weaker (λ (x : LineDelivery). x.line.number < line.number) (λ (x : LineDelivery). (x.line.number == line.number) ≡ false) (λ x lt. ne_eqb x.line.number line.number (λ e. omega arith)) own low) in
      turns-split own lines ∙ ap (λ (b : Bool). line_turns lines own ++ map (line_turn own) (cond b (line ∷ []) [])) none ∙ append-nil (line_turns lines own)

-- ---- one more delivery of the last line

module _ (line : TraceLine) (d : Delivery) where
  -- the delivery of the line
  abbrev last : LineDelivery
  last = record { line = line; delivery = d }

  -- the turn of a line before stays
  turn-before : (own : List LineDelivery) (l : TraceLine) → l.number < line.number → line_turn (own ++ last ∷ []) l ≡ line_turn own l
  turn-before own l lt =
      ap₂ (λ (from to : ℕ). record { line = l.number; from = from; to = to })
      (count-same (λ (x : LineDelivery). nat_lt x.line.number l.number) own last (le-ltb line.number l.number (omega arith)))
      (count-same (λ (x : LineDelivery). nat_le x.line.number l.number) own last (lt-leb line.number l.number lt))

  -- and has a delivery where it had one
  has-before : (own : List LineDelivery) (l : TraceLine) → l.number < line.number → has_delivery (own ++ last ∷ []) l ≡ has_delivery own l
  has-before own l lt = any-same (λ (x : LineDelivery). x.line.number == l.number) own last (ne_eqb line.number l.number (λ e. omega arith))

  -- so the turns of all lines before stay
  turns-before : (own : List LineDelivery) (lines : List TraceLine) → All (λ (l : TraceLine). l.number < line.number) lines → line_turns lines (own ++ last ∷ []) ≡ line_turns lines own
  turns-before own [] below = refl
  turns-before own (l ∷ lines) below =
      let lt : l.number < line.number = All-head (λ (l : TraceLine). l.number < line.number) l lines below in
      ap (λ (b : Bool). map (line_turn (own ++ last ∷ [])) (cond b (l ∷ filter (has_delivery (own ++ last ∷ [])) lines) (filter (has_delivery (own ++ last ∷ [])) lines))) (has-before own l lt)
      ∙ go lt (turns-before own lines (All-tail (λ (l : TraceLine). l.number < line.number) l lines below)) (has_delivery own l)
    where
      go : l.number < line.number → line_turns lines (own ++ last ∷ []) ≡ line_turns lines own → (b : Bool)
          → map (line_turn (own ++ last ∷ [])) (cond b (l ∷ filter (has_delivery (own ++ last ∷ [])) lines) (filter (has_delivery (own ++ last ∷ [])) lines)) ≡ map (line_turn own) (cond b (l ∷ filter (has_delivery own) lines) (filter (has_delivery own) lines))
      go lt rest true = ap₂ (λ (t : Turn) (ts : List Turn). t ∷ ts) (turn-before own l lt) rest
      go lt rest false = rest

  module _ (own : List LineDelivery) (lines : List TraceLine) (below : All (λ (l : TraceLine). l.number < line.number) lines) (low : All (λ (x : LineDelivery). x.line.number ≤ line.number) own) where
    -- the last line's turn ends with the delivery
    turn-last : line_turn (own ++ last ∷ []) line ≡ record { line = line.number; from = count_by (λ (x : LineDelivery). nat_lt x.line.number line.number) own; to = length own + 1 }
    turn-last =
        ap₂ (λ (from to : ℕ). record { line = line.number; from = from; to = to })
        (count-same (λ (x : LineDelivery). nat_lt x.line.number line.number) own last (le-ltb line.number line.number (omega arith)))
        (count-more (λ (x : LineDelivery). nat_le x.line.number line.number) own last (le-leb line.number line.number (omega arith)) ∙ ap (λ (n : ℕ). n + 1) (all_up_to own line.number low))

    -- it stands behind the turns of the lines before
    turns-last : line_turns (lines ++ line ∷ []) (own ++ last ∷ []) ≡ line_turns lines own ++ record { line = line.number; from = count_by (λ (x : LineDelivery). nat_lt x.line.number line.number) own; to = length own + 1 } ∷ []
    turns-last =
        turns-split line (own ++ last ∷ []) lines
        ∙ ap (λ (b : Bool). line_turns lines (own ++ last ∷ []) ++ map (line_turn (own ++ last ∷ [])) (cond b (line ∷ []) [])) (any-more (λ (x : LineDelivery). x.line.number == line.number) own last (eq-eqb line.number line.number refl))
        ∙ ap₂ (λ (ts : List Turn) (t : Turn). ts ++ t ∷ []) (turns-before own lines below) turn-last

    -- so one more delivery of the last line makes the last turn longer, or begins one
    pub turns-more : line_turns (lines ++ line ∷ []) (own ++ last ∷ []) ≡ with_turn (line_turns (lines ++ line ∷ []) own) line.number (length own)
    turns-more = go (has_delivery own line) refl
      where
        go : (b : Bool) → has_delivery own line ≡ b → line_turns (lines ++ line ∷ []) (own ++ last ∷ []) ≡ with_turn (line_turns (lines ++ line ∷ []) own) line.number (length own)
        go true is =
            let old : line_turns (lines ++ line ∷ []) own ≡ line_turns lines own ++ line_turn own line ∷ [] = turns-split line own lines ∙ ap (λ (b : Bool). line_turns lines own ++ map (line_turn own) (cond b (line ∷ []) [])) is in
            turns-last
            ∙ sym (ap (λ (ts : List Turn). with_turn ts line.number (length own)) old
            ∙ goes_on (line_turns lines own ++ line_turn own line ∷ []) line.number (length own) (ends_with-push (line_turns lines own) (line_turn own line) line.number ∙ eq-eqb line.number line.number refl)
            ∙ longer-push (line_turns lines own) (line_turn own line) (length own + 1))
        go false is =
            let old : line_turns (lines ++ line ∷ []) own ≡ line_turns lines own = turns-split line own lines ∙ ap (λ (b : Bool). line_turns lines own ++ map (line_turn own) (cond b (line ∷ []) [])) is ∙ append-nil (line_turns lines own) in
            turns-last
            ∙ ap (λ (from : ℕ). line_turns lines own ++ record { line = line.number; from = from; to = length own + 1 } ∷ []) (all_before own line.number low is)
            ∙ sym (ap (λ (ts : List Turn). with_turn ts line.number (length own)) old
            ∙ begins (line_turns lines own) line.number (length own) (ends_before own (filter (has_delivery own) lines) line.number (All-filter (has_delivery own) (λ (l : TraceLine). l.number < line.number) lines below)))
