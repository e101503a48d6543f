-- Tries that are lost, by a count of what stands since the seat's last entry.
use Rattle.std.proofs.Common.{◌≡◌, ℕ, ◌+◌, ◌≤◌, Bool, true, false, ◌==◌, List, [], ◌∷◌, ◌++◌, length, reverse, arith, refl, sym, ap, ◌∙◌, subst, cond, length-append}
use Rattle.std.specs.Prelude.{filter}
use Rattle.std.proofs.lemmas.List.{reverse-append, reverse-reverse}
use Rattle.std.proofs.lemmas.List.Elements.{filter-append}
use Rattle.rv_model.specs.declared.entry.Entry.{Entry}
use Rattle.rv_model.specs.Histories.{changed, NoneOf, LostThrice}
use Rattle.rv_check.specs.inner.Nexts.{lost_of}

-- nobody's entry stands in two lists, one behind the other
none-append : (seat : ℕ) (a b : List Entry) → NoneOf seat a → NoneOf seat b → NoneOf seat (a ++ b)
none-append seat [] b x y = y
none-append seat (e ∷ a) b x y = (x.0, none-append seat a b x.1 y)

-- nobody's entry stands in a list, whichever way it is read
none-reverse : (seat : ℕ) (a : List Entry) → NoneOf seat a → NoneOf seat (reverse a)
none-reverse seat [] x = tt
none-reverse seat (e ∷ a) x = subst (NoneOf seat) (sym (reverse-append (e ∷ []) a)) (none-append seat (reverse a) (e ∷ []) (none-reverse seat a x.1) (x.0, tt))

-- how many entries of a list changed the slot's word
abbrev changes_in : ℕ → List Entry → ℕ
changes_in slot a = length (filter (changed slot) a)

-- as many, whichever way it is read
changes-reverse : (slot : ℕ) (a : List Entry) → changes_in slot (reverse a) ≡ changes_in slot a
changes-reverse slot [] = refl
changes-reverse slot (e ∷ a) =
    let p = changed slot in
    let r = changes-reverse slot a in
    let both = length-append (filter p (reverse a)) (filter p (e ∷ [])) in
    let one : changes_in slot (e ∷ a) ≡ changes_in slot (e ∷ []) + changes_in slot a = ap length (filter-append p (e ∷ []) a) ∙ length-append (filter p (e ∷ [])) (filter p a) in
    ap (changes_in slot) (reverse-append (e ∷ []) a) ∙ ap length (filter-append p (reverse a) (e ∷ [])) ∙ both ∙ omega arith

-- one more entry counts where it changed the slot's word
one-change : (slot : ℕ) (e : Entry) (a : List Entry) (b : Bool) → changed slot e ≡ b → changes_in slot (e ∷ a) ≡ cond b 1 0 + changes_in slot a
one-change slot e a true y = rw y (omega arith)
one-change slot e a false n = rw n (omega arith)

-- entries of others are counted
counted : (slot seat : ℕ) (a tail : List Entry) → NoneOf seat a → lost_of slot seat (a ++ tail) ≡ changes_in slot a + lost_of slot seat tail
counted slot seat [] tail none = omega arith
counted slot seat (e ∷ a) tail none =
    let r = counted slot seat a tail none.1 in
    let c = one-change slot e a (changed slot e) refl in
    let here : lost_of slot seat (e ∷ (a ++ tail)) ≡ cond (changed slot e) 1 0 + lost_of slot seat (a ++ tail) = rw none.0 refl in
    here ∙ omega arith

-- lost three times: the count is three or more
pub thrice-counted : (slot seat : ℕ) (h : List Entry) → LostThrice slot seat h → 3 ≤ lost_of slot seat (reverse h)
thrice-counted slot seat h l =
    let is : reverse h ≡ reverse l.since ++ reverse l.until = ap reverse l.is ∙ reverse-append l.until l.since in
    let c = counted slot seat (reverse l.since) (reverse l.until) (none-reverse seat l.since l.none) in
    let same = changes-reverse slot l.since in
    let three = l.three in
    let many : 3 ≤ lost_of slot seat (reverse l.since ++ reverse l.until) = omega arith in
    subst (λ (p : List Entry). 3 ≤ lost_of slot seat p) (sym is) many

-- the entries since a seat's last one, of a past
record Since (slot seat : ℕ) (past : List Entry) : Type 0 where
  pub front : List Entry
  pub tail : List Entry
  pub is : past ≡ front ++ tail
  pub none : NoneOf seat front
  pub count : lost_of slot seat past ≡ changes_in slot front

-- every past has such entries
since : (slot seat : ℕ) (past : List Entry) → Since slot seat past
since slot seat [] = record { front = []; tail = []; is = refl; none = tt; count = refl }
since slot seat (e ∷ past) = go (since slot seat past) (e.seat == seat) refl
  where
    go : Since slot seat past → (b : Bool) → (e.seat == seat) ≡ b → Since slot seat (e ∷ past)
    go r true y = record { front = []; tail = e ∷ past; is = refl; none = tt; count = rw y refl }
    go r false n =
        let c = one-change slot e r.front (changed slot e) refl in
        let k = r.count in
        let here : lost_of slot seat (e ∷ past) ≡ cond (changed slot e) 1 0 + lost_of slot seat past = rw n refl in
        record { front = e ∷ r.front; tail = r.tail; is = ap (λ (z : List Entry). e ∷ z) r.is; none = (n, r.none); count = here ∙ omega arith }

-- and the other way round
pub counted-thrice : (slot seat : ℕ) (h : List Entry) → 3 ≤ lost_of slot seat (reverse h) → LostThrice slot seat h
counted-thrice slot seat h three =
    let s = since slot seat (reverse h) in
    let c = s.count in
    let same = changes-reverse slot s.front in
    record {
      until = reverse s.tail;
      since = reverse s.front;
      is = sym (reverse-reverse h) ∙ ap reverse s.is ∙ reverse-append s.front s.tail;
      none = none-reverse seat s.front s.none;
      three = omega arith;
    }
