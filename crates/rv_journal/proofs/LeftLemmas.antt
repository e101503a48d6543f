-- Where no mark that is not placed has any of something, a seat is left none of it; and what stands in front of a seat's last entry.
use Rattle.std.proofs.Common.{◌≡◌, ℕ, suc, ◌+◌, ◌<◌, ◌==◌, Bool, true, false, ◌&&◌, not, List, [], ◌∷◌, ◌++◌, length, refl, sym, ap, ◌∙◌, subst, arith}
use Rattle.std.specs.Prelude.{filter}
use Rattle.std.proofs.lemmas.Bool.Decides.{nat_tests}
use Rattle.rv_model.specs.declared.entry.Entry.{Entry}
use Rattle.rv_model.specs.Histories.{NoneOf, changed}
use Rattle.rv_board.proofs.SoundLemmas.{filter_append}
use Rattle.rv_journal.specs.declared.counted.Counted.{Counted}
use Rattle.rv_journal.specs.MergeSteps.{changes_on}
use Rattle.rv_journal.specs.inner.MergeStates.{Mark, mark, items_in, is_left}
use Rattle.rv_journal.proofs.MarkLemmas.{filter_yes, filter_no, AllPlaced}

-- ---- sums that are none

-- a mark that is left is not placed, and the seat's
left-is : (n : ℕ) (m : Mark) → is_left n m ≡ true → (m ≡ mark false m.item) × (m.item.entry.seat ≡ n)
left-is n m is = go m.placed refl (m.item.entry.seat == n) refl is
  where
    go : (b : Bool) → m.placed ≡ b → (o : Bool) → (m.item.entry.seat == n) ≡ o → (not b && o) ≡ true → (m ≡ mark false m.item) × (m.item.entry.seat ≡ n)
    go true p o q y = absurd (let no : false ≡ true = y in cc)
    go false p false q y = absurd (let no : false ≡ true = y in cc)
    go false p true q y = (λ i. mark (p i) m.item, grind (arith, nat_tests))

-- no item that is left to the seat has any of something, so all have none of it
module _ (count : Counted → ℕ) (sum : List Counted → ℕ) (empty : sum [] ≡ 0) (more : (c : Counted) (items : List Counted) → sum (c ∷ items) ≡ count c + sum items) (n : ℕ) where
  -- where no unplaced item of the seat has any, the items that are left to the seat have none
  pub none-left : (marks : List Mark) → ((b : List Mark) (d : Counted) (a : List Mark) → marks ≡ b ++ mark false d ∷ a → d.entry.seat ≡ n → count d ≡ 0) → sum (items_in (filter (is_left n) marks)) ≡ 0
  none-left [] all = empty
  none-left (m ∷ marks) all = go (is_left n m) refl (none-left marks (λ b d a eq. all (m ∷ b) d a (ap (λ (z : List Mark). m ∷ z) eq)))
    where
      go : (b : Bool) → is_left n m ≡ b → sum (items_in (filter (is_left n) marks)) ≡ 0 → sum (items_in (filter (is_left n) (m ∷ marks))) ≡ 0
      go false out rest = ap (λ (z : List Mark). sum (items_in z)) (filter_no (is_left n) m marks out) ∙ rest
      go true in' rest =
          let it = left-is n m in' in
          let zero' : count m.item ≡ 0 = all [] m.item marks (ap (λ (z : Mark). z ∷ marks) it.0) it.1 in
          ap (λ (z : List Mark). sum (items_in z)) (filter_yes (is_left n) m marks in') ∙ (more m.item (items_in (filter (is_left n) marks)) ∙ omega arith)

-- ---- what stands in front

-- what is placed has nothing that is not
pub no-open : (marks b a : List Mark) (d : Counted) → AllPlaced marks → marks ≡ b ++ mark false d ∷ a → ⊥
no-open [] [] a d all eq = cc
no-open [] (x ∷ b) a d all eq = cc
no-open (m ∷ marks) [] a d all eq = let first : m ≡ mark false d = cc in let n : m.placed ≡ false = ap (λ (z : Mark). z.placed) first in let y : m.placed ≡ true = all.0 in let wrong : true ≡ false = sym y ∙ n in cc
no-open (m ∷ marks) (x ∷ b) a d all eq = let tail : marks ≡ b ++ mark false d ∷ a = cc in no-open marks b a d all.1 tail

-- what has an entry of the seat before it, and none of the seat behind that, has it in its front
pub in-front : (seat : ℕ) (a : List Entry) (x : Entry) (b until since : List Entry) → a ++ x ∷ b ≡ until ++ since → NoneOf seat since → x.seat ≡ seat → (z : List Entry) × (until ≡ a ++ x ∷ z)
in-front seat [] x b [] since eq none own = absurd (let first = subst (NoneOf seat) (sym eq) none in let n : (x.seat == seat) ≡ false = first.0 in let y : (x.seat == seat) ≡ true = grind (arith, nat_tests) in let wrong : true ≡ false = sym y ∙ n in cc)
in-front seat [] x b (y ∷ until) since eq none own = let first : y ≡ x = cc in (until, ap (λ (z : Entry). z ∷ until) first)
in-front seat (w ∷ a) x b [] since eq none own = absurd (behind' a (subst (NoneOf seat) (sym eq) none).1)
  where
    behind' : (a : List Entry) → NoneOf seat (a ++ x ∷ b) → ⊥
    behind' [] n = let no : (x.seat == seat) ≡ false = n.0 in let y : (x.seat == seat) ≡ true = grind (arith, nat_tests) in let wrong : true ≡ false = sym y ∙ no in cc
    behind' (v ∷ a) n = behind' a n.1
in-front seat (w ∷ a) x b (y ∷ until) since eq none own =
    let first : y ≡ w = cc in
    let tail : a ++ x ∷ b ≡ until ++ since = cc in
    let r = in-front seat a x b until since tail none own in
    (r.0, let rest : until ≡ a ++ x ∷ r.0 = r.1 in ap (λ (z : Entry). z ∷ until) first ∙ ap (λ (z : List Entry). w ∷ z) rest)

-- behind a change there are more
pub more-changes : (slot : ℕ) (a : List Entry) (e : Entry) (z : List Entry) → changed slot e ≡ true → changes_on slot a < changes_on slot (a ++ e ∷ z)
more-changes slot a e z on =
    let sum = filter_append slot a (e ∷ z) in
    let one : changes_on slot (e ∷ z) ≡ suc (changes_on slot z) = ap length (filter_yes (changed slot) e z on) in
    omega arith
