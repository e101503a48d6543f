-- What an answer tells of the phase behind it, and phases by their rows.
use Rattle.std.proofs.Common.{◌≡◌, ◌≢◌, Bool, true, false, List, [], ◌∷◌, ◌++◌, refl, sym, ap, ◌∙◌, true≢false}
use Rattle.std.specs.Bool.{if◌then◌else◌}
use Rattle.rv_model.specs.declared.entry.Answer.{Answer}
use Rattle.rv_model.specs.declared.entry.Answer.TheVariants.{Passed, Started, Kept, Failed, Stopped, Cleared, Ended, Looked, Switched}
use Rattle.rv_model.specs.declared.hit.Letter.{Letter}
use Rattle.rv_model.specs.declared.hit.Mode.{Mode}
use Rattle.rv_model.specs.declared.hit.Mode.TheVariants as mode
use Rattle.rv_model.specs.Judging.{Judge}
use Rattle.rv_model.specs.Phases.{Phase, waiting, running, stopped, rows_of, turn}
use Rattle.rv_core.specs.RowPhases.{row_phase}
use Rattle.rv_reach.specs.Reached.{is_passed, is_run, is_running, rows_from, rows_run}
use Rattle.rv_reach.specs.inner.RowSets.{rows_before, rows_behind, runs_behind}

-- ---- by its rows

-- a phase runs where its rows do
pub runs-by : (j : Judge) (p : Phase) → runs_behind (row_phase j p) ≡ is_running p
runs-by j waiting = refl
runs-by j (running letters) = refl
runs-by j stopped = refl

-- in the same rows
pub behind-by : (j : Judge) (p : Phase) → rows_behind (row_phase j p) ≡ rows_run j p
behind-by j waiting = refl
behind-by j (running letters) = refl
behind-by j stopped = refl

-- and a letter is judged from the same rows
pub before-by : (j : Judge) (p : Phase) → rows_before (rows_of j []) (row_phase j p) ≡ rows_from j p
before-by j waiting = refl
before-by j (running letters) = refl
before-by j stopped = refl

-- ---- answers

-- an answer other than this one is not passed
pub not-passed : (a : Answer) → a ≢ Passed → is_passed a ≡ false
not-passed Passed n = absurd (n refl)
not-passed Started n = refl
not-passed Kept n = refl
not-passed (Failed rows) n = refl
not-passed Stopped n = refl
not-passed Cleared n = refl
not-passed Ended n = refl
not-passed (Looked word) n = refl
not-passed Switched n = refl

-- what is told passed is
pub told-passed : (a : Answer) → is_passed a ≡ true → a ≡ Passed
told-passed Passed is = refl
told-passed Started is = absurd (true≢false (sym is))
told-passed Kept is = absurd (true≢false (sym is))
told-passed (Failed rows) is = absurd (true≢false (sym is))
told-passed Stopped is = absurd (true≢false (sym is))
told-passed Cleared is = absurd (true≢false (sym is))
told-passed Ended is = absurd (true≢false (sym is))
told-passed (Looked word) is = absurd (true≢false (sym is))
told-passed Switched is = absurd (true≢false (sym is))

-- and what is not told so is not
pub told-judged : (a : Answer) → is_passed a ≡ false → a ≢ Passed
told-judged a is passed = true≢false (sym (ap is_passed passed) ∙ is)

-- what is passed is no letter of a run
pub passed-runs : (m : Mode) → is_run m Passed ≡ false
passed-runs mode.Event = refl
passed-runs mode.Start = refl
passed-runs mode.StartRun = refl
passed-runs mode.End = refl

-- neither of two is passed
neither : (b : Bool) (x y : Answer × Phase) → x.0 ≢ Passed → y.0 ≢ Passed → (if b then x else y).0 ≢ Passed
neither true x y nx ny = nx
neither false x y nx ny = ny

-- neither of two is stopped
goes : (b : Bool) (x y : Answer × Phase) → x.1 ≢ stopped → y.1 ≢ stopped → (if b then x else y).1 ≢ stopped
goes true x y nx ny = nx
goes false x y nx ny = ny

module _ (j : Judge) where
  -- what runs is not passed
  running-judged : (letters : List Letter) (m : Mode) (x : Letter) → (turn j (running letters) m x).0 ≢ Passed
  running-judged letters m x = neither (j.holds (letters ++ x ∷ [])) (Kept, running (letters ++ x ∷ [])) (Failed (rows_of j letters), waiting) (λ e. cc) (λ e. cc)

  -- a first letter is not passed
  first-judged : (x : Letter) → (turn j waiting mode.StartRun x).0 ≢ Passed
  first-judged x = neither (j.holds (x ∷ [])) (Started, running (x ∷ [])) (Failed (rows_of j []), waiting) (λ e. cc) (λ e. cc)

  -- what is passed did not run
  pub passed-before : (p : Phase) (m : Mode) (x : Letter) → (turn j p m x).0 ≡ Passed → is_running p ≡ false
  passed-before waiting m x is = refl
  passed-before (running letters) m x is = absurd (running-judged letters m x is)
  passed-before stopped m x is = refl

  -- and does not run behind it
  pub passed-behind : (p : Phase) (m : Mode) (x : Letter) → (turn j p m x).0 ≡ Passed → is_running (turn j p m x).1 ≡ false
  passed-behind waiting mode.Event x is = refl
  passed-behind waiting mode.Start x is = absurd (let e : Started ≡ Passed = is in cc)
  passed-behind waiting mode.StartRun x is = absurd (first-judged x is)
  passed-behind waiting mode.End x is = refl
  passed-behind (running letters) m x is = absurd (running-judged letters m x is)
  passed-behind stopped m x is = refl

  -- what does not run has no rows
  pub no-rows : (p : Phase) → is_running p ≡ false → rows_run j p ≡ 0
  no-rows waiting is = refl
  no-rows (running letters) is = absurd (true≢false is)
  no-rows stopped is = refl

  -- a letter that was judged leaves nothing stopped
  pub judged-goes : (p : Phase) (m : Mode) (x : Letter) → (turn j p m x).0 ≢ Passed → (turn j p m x).1 ≢ stopped
  judged-goes waiting mode.Event x n = λ e. cc
  judged-goes waiting mode.Start x n = λ e. cc
  judged-goes waiting mode.StartRun x n = goes (j.holds (x ∷ [])) (Started, running (x ∷ [])) (Failed (rows_of j []), waiting) (λ e. cc) (λ e. cc)
  judged-goes waiting mode.End x n = λ e. cc
  judged-goes (running letters) m x n = goes (j.holds (letters ++ x ∷ [])) (Kept, running (letters ++ x ∷ [])) (Failed (rows_of j letters), waiting) (λ e. cc) (λ e. cc)
  judged-goes stopped m x n = absurd (n refl)
