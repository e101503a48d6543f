-- A failure names the state in which the event was not allowed.
use Rattle.std.proofs.Common.{◌≡◌, ◌↔◌, ℕ, zero, suc, ◌+◌, ◌<◌, ◌≤◌, ◌==◌, Bool, true, false, ◌⊎◌, inl, inr, List, [], ◌∷◌, ◌++◌, length, arith, IsTrue, refl, sym, ◌∙◌}
use Rattle.std.specs.Prelude.{slice_index_or, if◌then◌else◌}
use Rattle.std.proofs.lemmas.Nat.Bits.{bit_at_above}
use Rattle.rv_model.specs.declared.entry.Act.{Act}
use Rattle.rv_model.specs.declared.entry.Act.TheVariants.{Deliver, Stop, Look, Raise, Lower, Clear, End}
use Rattle.rv_model.specs.declared.entry.Answer.{Answer}
use Rattle.rv_model.specs.declared.entry.Answer.TheVariants.{Passed, Started, Kept, Failed}
use Rattle.rv_model.specs.declared.entry.Entry.{Entry}
use Rattle.rv_model.specs.declared.formula.Spec.TheVariants.{Da}
use Rattle.rv_model.specs.declared.hit.Letter.{Letter}
use Rattle.rv_model.specs.declared.hit.Mode.{Mode}
use Rattle.rv_model.specs.declared.hit.Mode.TheVariants as mode
use Rattle.rv_model.specs.Judging.{Judge, JudgesBySpec}
use Rattle.rv_model.specs.Language.{Accepts, HasEdge, IsPath}
use Rattle.rv_model.specs.Machine.{Machine}
use Rattle.rv_model.specs.Numbers.{has_bit}
use Rattle.rv_model.specs.Phases.{Phase, waiting, running, stopped, level, letter_at, phase_of, phase_after, rows_of, turn}
use Rattle.rv_model.specs.Reports.{state_text}
use Rattle.rv_model.specs.Table.{Follows, end_of, table_of}
use Rattle.rv_model.specs.WellFormed.{IsAutomaton}
use Rattle.rv_model.proofs.NumberLemmas.{has_bit-number_of, number_of-lt}
use Rattle.rv_model.proofs.ReachLemmas.{path-snoc}
use Rattle.rv_laws.specs.FailedStates.{letters_in, NamesState, FailureNamesItsState}
use Rattle.rv_laws.proofs.EdgeLemmas.{one_path, path_below, rows_of_path, one_end}

-- a test does not both pass and fail
not_both : (b : Bool) → b ≡ true → b ≡ false → ⊥
not_both b yes' no' = let both : true ≡ false = sym yes' ∙ no' in cc

-- what does not pass fails
else_false : (b : Bool) → (b ≡ true → ⊥) → b ≡ false
else_false true none = absurd (none refl)
else_false false none = refl

-- where a set has the row of one state alone, its text is the state's name
text_of_row : (row : ℕ) (states : List (List ℕ)) (state set : ℕ) → ((other : ℕ) → IsTrue (has_bit set other) ↔ (other ≡ state + row)) → state < length states → state_text row states set ≡ slice_index_or states state []
text_of_row row [] state set one lt = absurd (omega arith)
text_of_row row (name ∷ states) zero set one lt = let has : has_bit set row ≡ true = (one row).1 (omega arith) in rw has refl
text_of_row row (name ∷ states) (suc state) set one lt =
    let none : has_bit set row ≡ false = else_false (has_bit set row) (λ has. let same = (one row).0 has in absurd (omega arith)) in
    let next : suc state + row ≡ state + (row + 1) = omega arith in
    rw none (text_of_row (row + 1) states state set (λ other. (λ has. (one other).0 has ∙ next, λ same. (one other).1 (same ∙ sym next))) (omega arith))

module _ (a : Machine) (k : IsAutomaton a) (j : Judge) (judges : JudgesBySpec (Da a) (table_of a) j) where
  -- where it runs, the automaton accepts the letters since the start
  abbrev Runs : Phase → Type 0
  Runs waiting = Unit {0}
  Runs (running letters) = Accepts a letters
  Runs stopped = Unit {0}

  -- a turn keeps this
  turn_runs : (p : Phase) (m : Mode) (x : Letter) → Runs p → Runs (turn j p m x).1
  turn_runs stopped m x r = tt
  turn_runs waiting mode.Event x r = tt
  turn_runs waiting mode.End x r = tt
  turn_runs waiting mode.Start x r = ([], tt)
  turn_runs waiting mode.StartRun x r = go (j.holds (x ∷ [])) refl
    where
      go : (b : Bool) → j.holds (x ∷ []) ≡ b → Runs (if◌then◌else◌ {A = Answer × Phase} b (Started, running (x ∷ [])) (Failed (rows_of j []), waiting)).1
      go true held = (judges.holds (x ∷ [])).0 held
      go false held = tt
  turn_runs (running letters) m x r = go (j.holds (letters ++ x ∷ [])) refl
    where
      go : (b : Bool) → j.holds (letters ++ x ∷ []) ≡ b → Runs (if◌then◌else◌ {A = Answer × Phase} b (Kept, running (letters ++ x ∷ [])) (Failed (rows_of j letters), waiting)).1
      go true held = (judges.holds (letters ++ x ∷ [])).0 held
      go false held = tt

  -- so does every act
  act_runs : (on : ℕ → Bool) (i : ℕ) (act : Act) (p : Phase) → Runs p → Runs (phase_after j on i act p)
  act_runs on i (Deliver slot hit) p r = pick (slot == i)
    where
      pick : (b : Bool) → Runs (if b then (turn j p hit.mode (letter_at on hit.what)).1 else p)
      pick true = turn_runs p hit.mode (letter_at on hit.what) r
      pick false = r
  act_runs on i (Stop slot) p r = pick (slot == i)
    where
      pick : (b : Bool) → Runs (if b then stopped else p)
      pick true = tt
      pick false = r
  act_runs on i (Clear slot) p r = pick (slot == i)
    where
      pick : (b : Bool) → Runs (if b then waiting else p)
      pick true = tt
      pick false = r
  act_runs on i (End slot) p r = pick (slot == i)
    where
      pick : (b : Bool) → Runs (if b then waiting else p)
      pick true = tt
      pick false = r
  act_runs on i Look p r = r
  act_runs on i (Raise bits) p r = r
  act_runs on i (Lower bits) p r = r

  -- so it is after any past
  past_runs : (start : ℕ) (past : List Entry) (i : ℕ) → Runs (phase_of j start past i)
  past_runs start [] i = tt
  past_runs start (e ∷ past) i = act_runs (level start (e ∷ past) i) i e.act (phase_of j start past i) (past_runs start past i)

  -- the rows of a failure are those of letters that the automaton accepts, and does not with the next one
  record Fails (letters : List Letter) (x : Letter) (set : ℕ) : Type 0 where
    set_is : set ≡ rows_of j letters
    accepted : Accepts a letters
    refused : ¬ Accepts a (letters ++ x ∷ [])

  -- a turn that fails does so
  turn_fails : (p : Phase) (m : Mode) (x : Letter) (set : ℕ) → Runs p → (turn j p m x).0 ≡ Failed set → Fails (letters_in p) x set
  turn_fails stopped m x set r f = absurd (let no' : Passed ≡ Failed set = f in cc)
  turn_fails waiting mode.Event x set r f = absurd (let no' : Passed ≡ Failed set = f in cc)
  turn_fails waiting mode.End x set r f = absurd (let no' : Passed ≡ Failed set = f in cc)
  turn_fails waiting mode.Start x set r f = absurd (let no' : Started ≡ Failed set = f in cc)
  turn_fails waiting mode.StartRun x set r f = go (j.holds (x ∷ [])) refl f
    where
      go : (b : Bool) → j.holds (x ∷ []) ≡ b → (if◌then◌else◌ {A = Answer × Phase} b (Started, running (x ∷ [])) (Failed (rows_of j []), waiting)).0 ≡ Failed set → Fails [] x set
      go true held g = absurd (let no' : Started ≡ Failed set = g in cc)
      go false held g =
          let same : Failed (rows_of j []) ≡ Failed set = g in
          record { set_is = let is : rows_of j [] ≡ set = cc in sym is; accepted = ([], tt); refused = λ good. not_both (j.holds (x ∷ [])) ((judges.holds (x ∷ [])).1 good) held }
  turn_fails (running letters) m x set r f = go (j.holds (letters ++ x ∷ [])) refl f
    where
      go : (b : Bool) → j.holds (letters ++ x ∷ []) ≡ b → (if◌then◌else◌ {A = Answer × Phase} b (Kept, running (letters ++ x ∷ [])) (Failed (rows_of j letters), waiting)).0 ≡ Failed set → Fails letters x set
      go true held g = absurd (let no' : Kept ≡ Failed set = g in cc)
      go false held g =
          let same : Failed (rows_of j letters) ≡ Failed set = g in
          record { set_is = let is : rows_of j letters ≡ set = cc in sym is; accepted = r; refused = λ good. not_both (j.holds (letters ++ x ∷ [])) ((judges.holds (letters ++ x ∷ [])).1 good) held }

  -- a set of rows has no row from 32 on
  below_32 : (letters : List Letter) (row : ℕ) → has_bit (rows_of j letters) row ≡ true → row < 32
  below_32 letters row has = go (two row)
    where
      two : (n : ℕ) → (n < 32) ⊎ (32 ≤ n)
      two n = grind arith

      go : (row < 32) ⊎ (32 ≤ row) → row < 32
      go (inl below) = below
      go (inr above) = absurd (not_both (has_bit (rows_of j letters) row) has (rw (bit_at_above (rows_of j letters) 32 row (number_of-lt (j.reaches letters) 32) above) refl))

  -- the rows of accepted letters are the row of the state to which they lead
  one_row : (letters : List Letter) (path : List ℕ) → IsPath (HasEdge a) 0 path letters → (row : ℕ) → IsTrue (has_bit (rows_of j letters) row) ↔ (row ≡ end_of 0 path + 1)
  one_row letters path p row = (there, back)
    where
      rows : (rows : List ℕ) × IsPath (Follows (table_of a)) 1 rows letters × (end_of 1 rows ≡ end_of 0 path + 1)
      rows = rows_of_path a k 0 path letters p

      there : has_bit (rows_of j letters) row ≡ true → row ≡ end_of 0 path + 1
      there has =
          let lt = below_32 letters row has in
          let reached = (judges.reaches letters row).0 (sym (has_bit-number_of (j.reaches letters) 32 row lt) ∙ has) in
          sym reached.2 ∙ one_end a k 1 rows.0 reached.0 letters rows.1 reached.1 ∙ rows.2

      back : row ≡ end_of 0 path + 1 → has_bit (rows_of j letters) row ≡ true
      back same =
          let state = path_below a k 0 path letters k.some_state p in
          let few = k.few_states in
          let lt : row < 32 = omega arith in
          has_bit-number_of (j.reaches letters) 32 row lt ∙ (judges.reaches letters row).1 (rows.0, rows.1, rows.2 ∙ sym same)

  -- so a failure names the one state
  names : (letters : List Letter) (x : Letter) (set : ℕ) → Fails letters x set → NamesState a letters x set
  names letters x set f =
      let path = f.accepted.0 in
      let leads = f.accepted.1 in
      let below = path_below a k 0 path letters k.some_state leads in
      let one : (row : ℕ) → IsTrue (has_bit set row) ↔ (row ≡ end_of 0 path + 1) = λ row. rw f.set_is (one_row letters path leads row) in
      record {
        path = path;
        leads = leads;
        only = λ other o. one_path a k 0 path other letters leads o;
        in_range = below;
        denied = λ next edge. f.refused (path ++ next ∷ [], path-snoc (HasEdge a) 0 letters x path next leads edge);
        one_row = one;
        named = text_of_row 1 a.states (end_of 0 path) set one below;
      }

-- the law
pub failure_names_its_state : FailureNamesItsState
failure_names_its_state a j start past e slot hit set k judges failed =
    let p = phase_of j start past slot in
    let x = letter_at (level start (e ∷ past) slot) hit.what in
    names a k j judges (letters_in p) x set (turn_fails a k j judges p hit.mode x set (past_runs a k j judges start past slot) failed)
