-- Lists of marks: the first that is not placed, and what placing it changes.
use Rattle.std.proofs.Common.{◌≡◌, ℕ, ◌≤◌, ◌==◌, Bool, true, false, ◌&&◌, not, List, [], ◌∷◌, ◌++◌, ◌⊎◌, inl, inr, length, map, refl, sym, ap, ◌∙◌, subst, arith, length-append}
use Rattle.std.specs.Prelude.{filter}
use Rattle.std.proofs.lemmas.Bool.Decides.{nat_tests}
use Rattle.std.proofs.lemmas.List.{length-map}
use Rattle.std.proofs.lemmas.List.Elements.{filter-append}
use Rattle.rv_model.specs.declared.entry.Entry.{Entry}
use Rattle.rv_model.specs.Seats.{entries_of}
use Rattle.rv_journal.specs.declared.counted.Counted.{Counted}
use Rattle.rv_journal.specs.inner.MergeStates.{Mark, mark, items_in, is_left}

-- ---- lists

-- two ways to cut a list, the same place first, or one place before the other
pub data Cuts {X : Type 0} (a : List X) (x : X) (b c : List X) (y : X) (d : List X) : Type 0 where
  same : a ≡ c → x ≡ y → b ≡ d → Cuts a x b c y d
  earlier : (m : List X) → c ≡ a ++ x ∷ m → b ≡ m ++ y ∷ d → Cuts a x b c y d
  later : (m : List X) → a ≡ c ++ y ∷ m → d ≡ m ++ x ∷ b → Cuts a x b c y d

-- they are compared
pub compare : {X : Type 0} (a : List X) (x : X) (b c : List X) (y : X) (d : List X) → a ++ x ∷ b ≡ c ++ y ∷ d → Cuts a x b c y d
compare {X} [] x b [] y d eq = let p : x ≡ y = cc in let q : b ≡ d = cc in same refl p q
compare {X} [] x b (z ∷ c) y d eq =
    let e : z ≡ x = cc in
    let p : z ∷ c ≡ x ∷ c = ap (λ (w : X). w ∷ c) e in
    let q : b ≡ c ++ y ∷ d = cc in
    earlier c p q
compare {X} (z ∷ a) x b [] y d eq =
    let e : z ≡ y = cc in
    let p : z ∷ a ≡ y ∷ a = ap (λ (w : X). w ∷ a) e in
    let q : d ≡ a ++ x ∷ b = cc in
    later a p q
compare {X} (z ∷ a) x b (w ∷ c) y d eq =
    let head : z ≡ w = cc in
    let tail : a ++ x ∷ b ≡ c ++ y ∷ d = cc in
    elim (compare a x b c y d tail) [
      | same p q r ↦ let f : z ∷ a ≡ w ∷ c = cc in same f q r
      | earlier m p q ↦ let f : w ∷ c ≡ z ∷ (a ++ x ∷ m) = cc in earlier m f q
      | later m p q ↦ let f : z ∷ a ≡ w ∷ (c ++ y ∷ m) = cc in later m f q
    ]

-- lists that begin with as many are cut alike
pub cut_alike : {X : Type 0} (a b c d : List X) → a ++ b ≡ c ++ d → length a ≡ length c → (a ≡ c) × (b ≡ d)
cut_alike [] b [] d eq n = (refl, eq)
cut_alike [] b (z ∷ c) d eq n = absurd (omega arith)
cut_alike (z ∷ a) b [] d eq n = absurd (omega arith)
cut_alike (z ∷ a) b (w ∷ c) d eq n =
    let head : z ≡ w = cc in
    let tail : a ++ b ≡ c ++ d = cc in
    let more = cut_alike a b c d tail (omega arith) in
    (let first : a ≡ c = more.0 in cc, more.1)

-- a filter keeps a first that passes
pub filter_yes : {X : Type 0} (p : X → Bool) (x : X) (xs : List X) → p x ≡ true → filter p (x ∷ xs) ≡ x ∷ filter p xs
filter_yes p x xs in' = rw in' refl

-- and leaves out one that does not
pub filter_no : {X : Type 0} (p : X → Bool) (x : X) (xs : List X) → p x ≡ false → filter p (x ∷ xs) ≡ filter p xs
filter_no p x xs out = rw out refl

-- two cuts of a list at entries of one seat, with as many of it before, are one
pub same-cut : (n : ℕ) (a : List Entry) (x : Entry) (b c : List Entry) (y : Entry) (d : List Entry) → x.seat ≡ n → y.seat ≡ n → a ++ x ∷ b ≡ c ++ y ∷ d
    → length (entries_of (λ k. k == n) a) ≡ length (entries_of (λ k. k == n) c) → a ≡ c
same-cut n a x b c y d own own' eq many = elim (compare a x b c y d eq) [
  | same p q r ↦ p
  | earlier m p q ↦
      let yes' : (x.seat == n) ≡ true = grind (arith, nat_tests) in
      let more : entries_of (λ k. k == n) c ≡ entries_of (λ k. k == n) a ++ x ∷ entries_of (λ k. k == n) m = ap (entries_of (λ k. k == n)) p ∙ (filter-append (λ (e : Entry). e.seat == n) a (x ∷ m) ∙ ap (λ (z : List Entry). entries_of (λ k. k == n) a ++ z) (filter_yes (λ (e : Entry). e.seat == n) x m yes')) in
      let count = ap length more ∙ length-append (entries_of (λ k. k == n) a) (x ∷ entries_of (λ k. k == n) m) in
      absurd (omega arith)
  | later m p q ↦
      let yes' : (y.seat == n) ≡ true = grind (arith, nat_tests) in
      let more : entries_of (λ k. k == n) a ≡ entries_of (λ k. k == n) c ++ y ∷ entries_of (λ k. k == n) m = ap (entries_of (λ k. k == n)) p ∙ (filter-append (λ (e : Entry). e.seat == n) c (y ∷ m) ∙ ap (λ (z : List Entry). entries_of (λ k. k == n) c ++ z) (filter_yes (λ (e : Entry). e.seat == n) y m yes')) in
      let count = ap length more ∙ length-append (entries_of (λ k. k == n) c) (y ∷ entries_of (λ k. k == n) m) in
      absurd (omega arith)
]

-- ---- the first that is left

-- the first mark of a seat that is not placed
pub record FirstLeft (seat : ℕ) (marks : List Mark) (c : Counted) (items : List Counted) : Type 0 where
  pub front : List Mark
  pub back : List Mark
  pub is : marks ≡ front ++ mark false c ∷ back
  pub none : filter (is_left seat) front ≡ []
  pub others : items_in (filter (is_left seat) back) ≡ items
  pub own : c.entry.seat ≡ seat

-- where some are left, there is one
pub first-left : (seat : ℕ) (marks : List Mark) (c : Counted) (items : List Counted) → items_in (filter (is_left seat) marks) ≡ c ∷ items → FirstLeft seat marks c items
first-left seat [] c items eq = absurd (cc)
first-left seat (m ∷ marks) c items eq = go (is_left seat m) refl (first-left seat marks c items)
  where
    left : (b : Bool) (o : Bool) → (not b && o) ≡ true → (b ≡ false) × (o ≡ true)
    left true o e = absurd (let no : false ≡ true = e in cc)
    left false o e = (refl, e)

    go : (b : Bool) → is_left seat m ≡ b → (items_in (filter (is_left seat) marks) ≡ c ∷ items → FirstLeft seat marks c items) → FirstLeft seat (m ∷ marks) c items
    go false out rest =
        let same = filter_no (is_left seat) m marks out in
        let r = rest (ap items_in (sym same) ∙ eq) in
        record { front = m ∷ r.front; back = r.back; is = ap (λ (z : List Mark). m ∷ z) r.is; none = filter_no (is_left seat) m r.front out ∙ r.none; others = r.others; own = r.own }
    go true in' rest =
        let same = filter_yes (is_left seat) m marks in' in
        let here : m.item ∷ items_in (filter (is_left seat) marks) ≡ c ∷ items = ap items_in (sym same) ∙ eq in
        let it : m.item ≡ c = cc in
        let them : items_in (filter (is_left seat) marks) ≡ items = cc in
        let parts = left m.placed (m.item.entry.seat == seat) in' in
        let whole : m ≡ mark false c = λ i. mark (parts.0 i) (it i) in
        let seat_is : m.item.entry.seat ≡ seat = (let o = parts.1 in grind (arith, nat_tests)) in
        record { front = []; back = marks; is = ap (λ (z : Mark). z ∷ marks) whole; none = refl; others = them; own = sym (ap (λ (z : Counted). z.entry.seat) it) ∙ seat_is }

-- ---- all placed, or a first that is not

-- each is placed
abbrev pub AllPlaced : List Mark → Type 0
AllPlaced [] = Unit {0}
AllPlaced (m ∷ marks) = (m.placed ≡ true) × AllPlaced marks

-- the first mark that is not placed
pub record FirstOpen (marks : List Mark) : Type 0 where
  pub front : List Mark
  pub item : Counted
  pub back : List Mark
  pub is : marks ≡ front ++ mark false item ∷ back
  pub placed : AllPlaced front

-- one of the two
pub all-or_first : (marks : List Mark) → AllPlaced marks ⊎ FirstOpen marks
all-or_first [] = inl tt
all-or_first (m ∷ marks) = go m.placed refl (all-or_first marks)
  where
    go : (b : Bool) → m.placed ≡ b → AllPlaced marks ⊎ FirstOpen marks → AllPlaced (m ∷ marks) ⊎ FirstOpen (m ∷ marks)
    go true p (inl all) = inl (p, all)
    go true p (inr first) = inr (record { front = m ∷ first.front; item = first.item; back = first.back; is = ap (λ (z : List Mark). m ∷ z) first.is; placed = (p, first.placed) })
    go false p rest = inr (record { front = []; item = m.item; back = marks; is = ap (λ (z : Mark). z ∷ marks) (λ i. mark (p i) m.item); placed = tt })

-- nothing of a seat is left among what is placed
pub placed-none : (seat : ℕ) (marks : List Mark) → AllPlaced marks → filter (is_left seat) marks ≡ []
placed-none seat [] all = refl
placed-none seat (m ∷ marks) all =
    let out : is_left seat m ≡ false = ap (λ (b : Bool). not b && (m.item.entry.seat == seat)) all.0 in
    filter_no (is_left seat) m marks out ∙ placed-none seat marks all.1

-- what is filtered from what is placed is placed
pub placed-filter : (p : Mark → Bool) (marks : List Mark) → AllPlaced marks → AllPlaced (filter p marks)
placed-filter p [] all = tt
placed-filter p (m ∷ marks) all = go (p m) refl (placed-filter p marks all.1)
  where
    go : (b : Bool) → p m ≡ b → AllPlaced (filter p marks) → AllPlaced (filter p (m ∷ marks))
    go true y rest = subst AllPlaced (sym (filter_yes p m marks y)) (all.0, rest)
    go false n rest = subst AllPlaced (sym (filter_no p m marks n)) rest

-- ---- what is placed stands first

-- placed marks that stand first are among those that are placed
pub placed-few : (a b : List Mark) (done todo : List Counted) → a ++ b ≡ map (mark true) done ++ map (mark false) todo → AllPlaced a → length a ≤ length done
placed-few [] b done todo eq all = omega arith
placed-few (m ∷ a) b [] [] eq all = absurd (cc)
placed-few (m ∷ a) b [] (c ∷ todo) eq all = absurd (let first : m ≡ mark false c = cc in let no : m.placed ≡ false = ap (λ (z : Mark). z.placed) first in let yes' : m.placed ≡ true = all.0 in let wrong : true ≡ false = sym yes' ∙ no in cc)
placed-few (m ∷ a) b (c ∷ done) todo eq all =
    let tail : a ++ b ≡ map (mark true) done ++ map (mark false) todo = cc in
    let more = placed-few a b done todo tail all.1 in omega arith

-- a mark that is not placed stands behind as many as are placed, at least
pub open-behind : (a : List Mark) (c : Counted) (b : List Mark) (done todo : List Counted) → a ++ mark false c ∷ b ≡ map (mark true) done ++ map (mark false) todo → length done ≤ length a
open-behind a c b [] todo eq = omega arith
open-behind [] c b (d ∷ done) todo eq = absurd (let first : mark false c ≡ mark true d = cc in let wrong : false ≡ true = ap (λ (z : Mark). z.placed) first in cc)
open-behind (m ∷ a) c b (d ∷ done) todo eq =
    let tail : a ++ mark false c ∷ b ≡ map (mark true) done ++ map (mark false) todo = cc in
    let more = open-behind a c b done todo tail in omega arith

-- the first of those that are not placed, behind all that are
pub record NextOpen (a : List Mark) (c : Counted) (b : List Mark) (done todo : List Counted) : Type 0 where
  pub rest : List Counted
  pub todo_is : todo ≡ c ∷ rest
  pub front_is : a ≡ map (mark true) done
  pub back_is : b ≡ map (mark false) rest

-- a mark that is not placed is that one where as many stand before it
pub next-open : (a : List Mark) (c : Counted) (b : List Mark) (done todo : List Counted) → a ++ mark false c ∷ b ≡ map (mark true) done ++ map (mark false) todo → length a ≡ length done → NextOpen a c b done todo
next-open a c b done todo eq many =
    let parts = cut_alike a (mark false c ∷ b) (map (mark true) done) (map (mark false) todo) eq (many ∙ sym (length-map done (mark true))) in
    behind todo parts.0 parts.1
  where
    behind : (todo : List Counted) → a ≡ map (mark true) done → mark false c ∷ b ≡ map (mark false) todo → NextOpen a c b done todo
    behind [] front back = absurd (cc)
    behind (d ∷ rest) front back =
        let first : mark false c ≡ mark false d = cc in
        let it : c ≡ d = ap (λ (z : Mark). z.item) first in
        record { rest = rest; todo_is = ap (λ (z : Counted). z ∷ rest) (sym it); front_is = front; back_is = cc }
