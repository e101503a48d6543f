-- The rule allows that one seat is joined into another.
use Rattle.std.proofs.Common.{◌≡◌, ◌≢◌, ◌⊎◌, inl, inr, ⊎_elim, ℕ, ◌<◌, ◌≤◌, nat_lt, Bool, true, false, List, [], ◌∷◌, ◌++◌, length, set, refl, ap, sym, ◌∙◌, subst, arith, true≢false, length-append}
use mathlib.Core.Option.{some}
use lib.ListN.{get_elem?}
use Rattle.std.proofs.lemmas.Bool.Decides.{nat_tests}
use Rattle.atomic_table.specs.Table.{Joins}
use Rattle.atomic_table.proofs.Lists.{set_else}
use Rattle.rv_model.specs.declared.entry.Entry.{Entry}
use Rattle.rv_model.specs.Setups.{Setup}
use Rattle.rv_model.specs.Seats.{is_within, is_among, entries_of}
use Rattle.rv_board.specs.declared.view.View.{View}
use Rattle.rv_board.specs.Known.{numbers, blank}
use Rattle.rv_board.specs.inner.Known.{knows, Begun}
use Rattle.rv_board.specs.Rule.{spent_view, joined}
use Rattle.rv_board.specs.inner.Rule.{word_at, nothing_else, Fits, Kept, KeptPlainly}
use Rattle.rv_board.proofs.Knowing.{not_true, none_of, none_after, none_either, knows_blank, none_blank, begun_blank}
use Rattle.rv_board.proofs.ViewLemmas.{each_set, blank_within, AllApart}
use Rattle.rv_board.proofs.SplitLemmas.{IsSteady}
use Rattle.rv_board.proofs.NumberLemmas.{none_among, range_right, in_range, or_cases, among_append, numbers_known, joined_cases, joined_left, joined_right}

-- of two beginnings of one list, one begins the other
one_begins : (a b c d : List Entry) → a ++ b ≡ c ++ d → ((m : List Entry) × (a ++ m ≡ c) × (b ≡ m ++ d)) ⊎ ((m : List Entry) × (c ++ m ≡ a) × (d ≡ m ++ b))
one_begins [] b c d p = inl (c, refl, p)
one_begins (x ∷ a) b [] d p = inr (x ∷ a, refl, sym p)
one_begins (x ∷ a) b (y ∷ c) d p =
    let head : x ≡ y = cc in
    let tail : a ++ b ≡ c ++ d = cc in
    elim (one_begins a b c d tail) [ inl t ↦ inl (t.0, cc (head, t.1), t.2) | inr t ↦ inr (t.0, cc (head, t.1), t.2) ]

-- of two beginnings of the history, the longer has all entries that either seat knows
longer_begun : (history : List Entry) (v w : View) → Begun history v.part → Begun history w.part → Begun history (joined v w).part
longer_begun history v w a b = on (nat_lt (length v.part.seen) (length w.part.seen)) refl
  where
    test : Bool
    test = nat_lt (length v.part.seen) (length w.part.seen)

    within : (n : ℕ) → knows (joined v w).part n ≡ true → (knows v.part n ≡ true) ⊎ (knows w.part n ≡ true)
    within = joined_cases v w

    on : (c : Bool) → test ≡ c → Begun history (joined v w).part
    on true is = elim (one_begins v.part.seen a.rest w.part.seen b.rest (sym a.whole ∙ b.whole)) [
      | inl t ↦ record { rest = b.rest; whole = rw is b.whole; none = none_either (knows v.part) (knows w.part) (knows (joined v w).part) b.rest within (none_after (knows v.part) t.0 b.rest (subst (λ l. entries_of (knows v.part) l ≡ []) t.2 a.none)) b.none }
      | inr t ↦ absurd (let l = length-append w.part.seen t.0 in let l' : length (w.part.seen ++ t.0) ≡ length v.part.seen = ap length t.1 in let lt : length v.part.seen < length w.part.seen = grind (arith, nat_tests) in omega arith)
    ]
    on false is = elim (one_begins v.part.seen a.rest w.part.seen b.rest (sym a.whole ∙ b.whole)) [
      | inl t ↦ let l = length-append v.part.seen t.0 in let l' : length (v.part.seen ++ t.0) ≡ length w.part.seen = ap length t.1 in let ge : length w.part.seen ≤ length v.part.seen = grind (arith, nat_tests) in
          let none_more : t.0 ≡ [] = empty t.0 (omega arith) in
          let same : a.rest ≡ b.rest = t.2 ∙ ap (λ l. l ++ b.rest) none_more in
          record { rest = a.rest; whole = rw is a.whole; none = none_either (knows v.part) (knows w.part) (knows (joined v w).part) a.rest within a.none (subst (λ l. entries_of (knows w.part) l ≡ []) (sym same) b.none) }
      | inr t ↦ record { rest = a.rest; whole = rw is a.whole; none = none_either (knows v.part) (knows w.part) (knows (joined v w).part) a.rest within a.none (none_after (knows w.part) t.0 a.rest (subst (λ l. entries_of (knows w.part) l ≡ []) t.2 b.none)) }
    ]
      where
        empty : (l : List Entry) → length l ≡ 0 → l ≡ []
        empty [] e = refl
        empty (x ∷ xs) e = absurd (omega arith)

-- a view takes in another, and the other is left with nothing
pub joins_with : (code : Setup → List Entry → ℕ → ℕ) (also : List Entry → List View → Type 0) → IsSteady also → (k : Setup) (id : ℕ) (v : View) (other : ℕ) (w : View) → Joins (Kept code also k) id v other w (joined v w) spent_view
joins_with code also steady k id v other w s r e ne there = record {
  history = r.history;
  wide = r.wide;
  words = r.words;
  machine = r.machine;
  sound = r.sound;
  further = steady r.history s.views (set (set s.views id (joined v w)) other spent_view) r.further;
  fits = each_set (λ j u. Fits r.history u) (set s.views id (joined v w)) other spent_view blank_fits (λ j u _ x. each_set (λ j' u'. Fits r.history u') s.views id (joined v w) both_fits (λ j' u' _ x'. r.fits j' u' x') j u x);
  apart = gives_apart;
}
  where
    at_other : get_elem? s.views other ≡ some w
    at_other = sym (set_else s.views id other (joined v w) ne) ∙ there

    fv : Fits r.history v
    fv = r.fits id v e

    fw : Fits r.history w
    fw = r.fits other w at_other

    blank_fits : Fits r.history spent_view
    blank_fits = record { begun = begun_blank r.history; left = begun_blank r.history; right = begun_blank r.history; left_within = blank_within blank; right_within = blank_within blank; distinct = λ n _. none_among n; unused = none_of (knows blank) (is_within 1 0) r.history (λ n t. in_range 0 0 [] n (range_right 0 1 0 n (omega arith) t)) (none_blank r.history) }

    distinct : (n : ℕ) → is_within v.part.number v.part.end n ≡ true → is_among (v.part.joined_in ++ numbers w.part) n ≡ false
    distinct n t = not_true (is_among (v.part.joined_in ++ numbers w.part) n)
        (λ h. ⊎_elim (λ a. true≢false (sym a ∙ fv.distinct n t))
        (λ a. r.apart id other v w e at_other (λ same. ne (sym same)) n (in_range v.part.number v.part.end v.part.joined_in n t) (numbers_known w.part n a))
        (or_cases (is_among v.part.joined_in n) (is_among (numbers w.part) n) (sym (among_append v.part.joined_in (numbers w.part) n) ∙ h)))

    both_fits : Fits r.history (joined v w)
    both_fits = record { begun = longer_begun r.history v w fv.begun fw.begun; left = fv.begun; right = fw.begun; left_within = joined_left v w; right_within = joined_right v w; distinct = distinct; unused = fv.unused }

    gives_apart : AllApart (set (set s.views id (joined v w)) other spent_view)
    gives_apart i j x y ei ej not n kx ky =
        each_set (λ a u. a ≢ j → knows u.part n ≡ true → ⊥) (set s.views id (joined v w)) other spent_view
        (λ _ t. knows_blank n t)
        (λ a u a_other eu not' ku. each_set (λ b z. a ≢ b → knows z.part n ≡ true → ⊥) (set s.views id (joined v w)) other spent_view
        (λ _ t. knows_blank n t)
        (λ b z b_other ez not'' kz. old a b u z a_other b_other eu ez not'' ku kz) j y ej not' ky)
        i x ei not kx
      where
        old : (a b : ℕ) (u z : View) → a ≢ other → b ≢ other → get_elem? (set s.views id (joined v w)) a ≡ some u → get_elem? (set s.views id (joined v w)) b ≡ some z → a ≢ b → knows u.part n ≡ true → knows z.part n ≡ true → ⊥
        old a b u z a_other b_other eu ez differ ku kz =
            each_set (λ c q. c ≢ other → c ≢ b → knows q.part n ≡ true → ⊥) s.views id (joined v w)
            (λ _ idb kq. each_set (λ d q'. d ≢ other → id ≢ d → knows q'.part n ≡ true → ⊥) s.views id (joined v w) (λ _ bad. absurd (bad refl))
            (λ d q' d_id eq' d_other _ kq'. both d q' d_id d_other eq' (joined_cases v w n kq) kq') b z ez b_other idb kz)
            (λ c q c_id eq c_other cb kq. each_set (λ d q'. d ≢ other → c ≢ d → knows q'.part n ≡ true → ⊥) s.views id (joined v w)
            (λ _ _ kq'. both c q c_id c_other eq (joined_cases v w n kq') kq)
            (λ d q' _ eq' _ cd kq'. r.apart c d q q' eq eq' cd n kq kq') b z ez b_other cb kz)
            a u eu a_other differ ku
          where
            both : (d : ℕ) (q : View) → d ≢ id → d ≢ other → get_elem? s.views d ≡ some q → (knows v.part n ≡ true) ⊎ (knows w.part n ≡ true) → knows q.part n ≡ true → ⊥
            both d q d_id d_other eq t kq = ⊎_elim (λ h. r.apart d id q v eq e d_id n kq h) (λ h. r.apart d other q w eq at_other d_other n kq h) t

-- the same on a board
pub joins : (k : Setup) (id : ℕ) (v : View) (other : ℕ) (w : View) → Joins (KeptPlainly k) id v other w (joined v w) spent_view
joins k = joins_with word_at nothing_else (λ history old new f. tt) k
