-- Paths by their last step.
use Rattle.std.proofs.Common.{◌≡◌, ℕ, List, [], ◌∷◌, ◌++◌, refl, sym, subst}
use Rattle.rv_model.specs.declared.hit.Letter.{Letter}
use Rattle.rv_model.specs.Language.{IsPath}
use Rattle.rv_model.specs.Table.{Table, Follows, end_of, first_row, Reaches}

-- the front of a path, and its last step
pub record Last (Step : ℕ → Letter → ℕ → Type 0) (from : ℕ) (word : List Letter) (x : Letter) (end : ℕ) : Type 0 where
  pub front : List ℕ
  pub path : IsPath Step from front word
  pub step : Step (end_of from front) x end

-- a path by letters and one more has a front and a last step
pub path-unsnoc : (Step : ℕ → Letter → ℕ → Type 0) (from : ℕ) (word : List Letter) (x : Letter) (path : List ℕ) → IsPath Step from path (word ++ x ∷ []) → Last Step from word x (end_of from path)
path-unsnoc Step from [] x [] p = absurd p
path-unsnoc Step from [] x (to ∷ []) p = record { front = []; path = tt; step = p.0 }
path-unsnoc Step from [] x (to ∷ then ∷ path) p = absurd p.1
path-unsnoc Step from (y ∷ word) x [] p = absurd p
path-unsnoc Step from (y ∷ word) x (to ∷ path) p =
    let l = path-unsnoc Step to word x path p.1 in record { front = to ∷ l.front; path = (p.0, l.path); step = l.step }

-- a path goes on by one more letter and a step
pub path-snoc : (Step : ℕ → Letter → ℕ → Type 0) (from : ℕ) (word : List Letter) (x : Letter) (path : List ℕ) (end : ℕ) → IsPath Step from path word → Step (end_of from path) x end → IsPath Step from (path ++ end ∷ []) (word ++ x ∷ [])
path-snoc Step from [] x [] end p s = (s, tt)
path-snoc Step from [] x (to ∷ path) end p s = absurd p
path-snoc Step from (y ∷ word) x [] end p s = absurd p
path-snoc Step from (y ∷ word) x (to ∷ path) end p s = (p.0, path-snoc Step to word x path end p.1 s)

-- a path ends where its last step leads
pub end_of-snoc : (from : ℕ) (path : List ℕ) (end : ℕ) → end_of from (path ++ end ∷ []) ≡ end
end_of-snoc from [] end = refl
end_of-snoc from (to ∷ path) end = end_of-snoc to path end

-- ---- the rows that a table reaches
pub Reaches-nil : (t : Table) (row : ℕ) → Reaches t [] row → row ≡ first_row t
Reaches-nil t row ([], p, e) = sym e
Reaches-nil t row (to ∷ path, p, e) = absurd p

-- before any letter the start row is reached
pub Reaches-start : (t : Table) → Reaches t [] (first_row t)
Reaches-start t = ([], tt, refl)

-- a row that follows a reached one is reached by one more letter
pub Reaches-snoc : (t : Table) (word : List Letter) (x : Letter) (row next : ℕ) → Reaches t word row → Follows t row x next → Reaches t (word ++ x ∷ []) next
Reaches-snoc t word x row next (path, p, e) f =
    let g : Follows t (end_of (first_row t) path) x next = rw e f in
    (path ++ next ∷ [], path-snoc (Follows t) (first_row t) word x path next p g, end_of-snoc (first_row t) path next)

-- the letters reach some row, and by one more letter the next row follows it
pub record ReachLast (t : Table) (word : List Letter) (x : Letter) (next : ℕ) : Type 0 where
  pub row : ℕ
  pub reach : Reaches t word row
  pub follows : Follows t row x next

-- a row that is reached by one more letter follows one that was reached before
pub Reaches-unsnoc : (t : Table) (word : List Letter) (x : Letter) (next : ℕ) → Reaches t (word ++ x ∷ []) next → ReachLast t word x next
Reaches-unsnoc t word x next (path, p, e) =
    let l = path-unsnoc (Follows t) (first_row t) word x path p in
    record { row = end_of (first_row t) l.front; reach = (l.front, l.path, refl); follows = subst (Follows t (end_of (first_row t) l.front) x) e l.step }
