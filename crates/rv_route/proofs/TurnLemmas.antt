-- A lane's turns as they grow: their lines ascend, and each is of a line of its CPU.
use Rattle.std.proofs.Common.{◌≡◌, ℕ, ◌+◌, ◌<◌, ◌≤◌, ◌==◌, Bool, true, false, List, [], ◌∷◌, ◌++◌, refl, arith}
use Rattle.std.specs.Prelude.{All, AllPairs, Contains, if◌then◌else◌}
use Rattle.std.proofs.lemmas.List.Elements.{All-nil, All-cons, All-head, All-tail, All-push, All-weaker}
use Rattle.std.proofs.lemmas.List.Kept.{AllPairs-cons}
use Rattle.rv_model.specs.declared.work.Turn.{Turn}
use Rattle.rv_trace.specs.declared.line.TraceLine.{TraceLine}
use Rattle.rv_route.specs.Lanes.{ends_with, longer, with_turn}
use Rattle.rv_route.specs.Fitting.{IsOf, AscendsTo}

-- turns that ascend to a line ascend to a later one
pub ascends-wider : (n m : ℕ) (turns : List Turn) → n ≤ m → AscendsTo n turns → AscendsTo m turns
ascends-wider n m [] le h = tt
ascends-wider n m (turn ∷ []) le h = omega arith
ascends-wider n m (turn ∷ next ∷ turns) le h = (h.0, ascends-wider n m (next ∷ turns) le h.1)

-- turns ascend as before when the last one goes on
ascends-longer : (n to : ℕ) (turns : List Turn) → AscendsTo n turns → AscendsTo n (longer turns to)
ascends-longer n to [] h = tt
ascends-longer n to (turn ∷ []) h = h
ascends-longer n to (turn ∷ next ∷ []) h = h
ascends-longer n to (turn ∷ next ∷ later ∷ turns) h = (h.0, ascends-longer n to (next ∷ later ∷ turns) h.1)

-- turns that ascend to a line without ending with it still ascend with a turn of it at the end
ascends-push : (n place to : ℕ) (turns : List Turn) → AscendsTo n turns → ends_with turns n ≡ false → AscendsTo n (turns ++ record { line = n; from = place; to = to } ∷ [])
ascends-push n place to [] h other = omega arith
ascends-push n place to (turn ∷ []) h other = (below turn.line n h other, omega arith)
  where
    below : (line n : ℕ) → line ≤ n → (line == n) ≡ false → line < n
    below line n le apart = grind arith
ascends-push n place to (turn ∷ next ∷ turns) h other = (h.0, ascends-push n place to (next ∷ turns) h.1 other)

-- one more delivery of the line
pub ascends-more : (n place : ℕ) (turns : List Turn) → AscendsTo n turns → AscendsTo n (with_turn turns n place)
ascends-more n place turns h = go (ends_with turns n) refl
  where
    go : (b : Bool) → ends_with turns n ≡ b → AscendsTo n (if b then longer turns (place + 1) else turns ++ record { line = n; from = place; to = place + 1 } ∷ [])
    go true is = ascends-longer n (place + 1) turns h
    go false is = ascends-push n place (place + 1) turns h is

-- the first turn's line is below the lines of all that follow
first_below : (n : ℕ) (turn : Turn) (turns : List Turn) → AscendsTo n (turn ∷ turns) → All (λ (u : Turn). turn.line < u.line) turns
first_below n turn [] h = All-nil (λ (u : Turn). turn.line < u.line)
first_below n turn (next ∷ turns) h =
    All-cons (λ (u : Turn). turn.line < u.line) next turns h.0
    (All-weaker (λ (u : Turn). next.line < u.line) (λ (u : Turn). turn.line < u.line) (λ u lt. let l = h.0 in omega arith) turns (first_below n next turns h.1))

-- the turns behind the first ascend too
tail_ascends : (n : ℕ) (turn : Turn) (turns : List Turn) → AscendsTo n (turn ∷ turns) → AscendsTo n turns
tail_ascends n turn [] h = tt
tail_ascends n turn (next ∷ turns) h = h.1

-- where turns ascend, each earlier line is below each later one
pub ascends-pairs : (n : ℕ) (turns : List Turn) → AscendsTo n turns → AllPairs (λ (t u : Turn). t.line < u.line) turns
ascends-pairs n [] h = λ i j d lt within. absurd (omega arith)
ascends-pairs n (turn ∷ turns) h = AllPairs-cons (λ (t u : Turn). t.line < u.line) turn turns (first_below n turn turns h) (ascends-pairs n turns (tail_ascends n turn turns h))

module _ (lines : List TraceLine) (cpu : ℕ) where
  -- all turns are of lines of the CPU still when the last one goes on
  of-longer : (to : ℕ) (turns : List Turn) → All (IsOf lines cpu) turns → All (IsOf lines cpu) (longer turns to)
  of-longer to [] all = All-nil (IsOf lines cpu)
  of-longer to (turn ∷ []) all =
      let is = All-head (IsOf lines cpu) turn [] all in
      All-cons (IsOf lines cpu) (record turn { to = to }) [] (record { line = is.line; there = is.there; number = is.number; cpu_is = is.cpu_is }) (All-nil (IsOf lines cpu))
  of-longer to (turn ∷ next ∷ turns) all =
      All-cons (IsOf lines cpu) turn (longer (next ∷ turns) to) (All-head (IsOf lines cpu) turn (next ∷ turns) all) (of-longer to (next ∷ turns) (All-tail (IsOf lines cpu) turn (next ∷ turns) all))

  -- one more delivery of a line of the CPU
  pub of-more : (line : TraceLine) (place : ℕ) (turns : List Turn) → Contains lines line → line.cpu ≡ cpu → All (IsOf lines cpu) turns → All (IsOf lines cpu) (with_turn turns line.number place)
  of-more line place turns there is all = go (ends_with turns line.number)
    where
      go : (b : Bool) → All (IsOf lines cpu) (if b then longer turns (place + 1) else turns ++ record { line = line.number; from = place; to = place + 1 } ∷ [])
      go true = of-longer (place + 1) turns all
      go false = All-push (IsOf lines cpu) turns _ all (record { line = line; there = there; number = refl; cpu_is = is })
