-- What holds of the views after one is changed, or one more came.
use Rattle.std.proofs.Common.{◌≡◌, ◌≢◌, ◌⊎◌, inl, inr, ⊎_elim, ℕ, zero, suc, true, false, List, [], ◌∷◌, ◌++◌, length, set, refl, ap, sym, ◌∙◌, subst, arith, append_assoc}
use mathlib.Core.Option.{some, some-injective, some-ne-none}
use lib.ListN.{get_elem?}
use Rattle.std.proofs.lemmas.Bool.Decides.{nat_tests}
use Rattle.std.proofs.lemmas.List.{append-nil}
use Rattle.atomic_table.specs.Table.{State}
use Rattle.atomic_table.proofs.Lists.{at_set}
use Rattle.rv_model.specs.declared.entry.Act.{Act}
use Rattle.rv_model.specs.declared.entry.Entry.{Entry}
use Rattle.rv_model.specs.Seats.{Seat, is_within, entries_of}
use Rattle.rv_board.specs.declared.view.View.{View}
use Rattle.rv_board.specs.Known.{blank}
use Rattle.rv_board.specs.inner.Known.{known_by, knows, Begun, with_list}
use Rattle.rv_board.proofs.Knowing.{none_append, knows_blank}

-- a table with its words and views
abbrev pub St : Type 0
St = State Act View

-- what holds of each view after one is changed
pub each_set : (Q : ℕ → View → Type 0) (views : List View) (id : ℕ) (w : View) → Q id w → ((j : ℕ) (u : View) → j ≢ id → get_elem? views j ≡ some u → Q j u) → (j : ℕ) (u : View) → get_elem? (set views id w) j ≡ some u → Q j u
each_set Q views id w mine others j u e =
    ⊎_elim
    (λ (x : (j ≡ id) × (w ≡ u)). subst (λ (y : ℕ × View). Q y.0 y.1) (λ i. (sym x.0 i, x.1 i)) mine)
    (λ (x : (j ≢ id) × (get_elem? views j ≡ some u)). others j u x.0 x.1)
    (at_set views id j w u e)

-- the two know no number in common
abbrev pub Apart : View → View → Type 0
Apart x y = (n : ℕ) → knows x.part n ≡ true → knows y.part n ≡ true → ⊥

-- no two views know one number
abbrev pub AllApart : List View → Type 0
AllApart views = (i j : ℕ) (x y : View) → get_elem? views i ≡ some x → get_elem? views j ≡ some y → i ≢ j → Apart x y

-- all are apart after one is changed, if it is apart from the others
pub apart_set : (views : List View) (id : ℕ) (w : View) → AllApart views → ((j : ℕ) (u : View) → j ≢ id → get_elem? views j ≡ some u → Apart w u) → AllApart (set views id w)
apart_set views id w olds new i j x y ei ej ne =
    each_set (λ a u. a ≢ j → Apart u y) views id w
    (λ ne'. each_set (λ b z. id ≢ b → Apart w z) views id w (λ bad. absurd (bad refl)) (λ b z other e _. new b z other e) j y ej ne')
    (λ a u other e ne'. each_set (λ b z. a ≢ b → Apart u z) views id w (λ _ n s t. new a u other e n t s) (λ b z _ e' ab. olds a b u z e e' ab) j y ej ne')
    i x ei ne

-- what stands in a list with one more is in the list, or the last one
at_snoc_last : (l : List View) (a b : View) (j : ℕ) → get_elem? (l ++ a ∷ []) j ≡ some b → (get_elem? l j ≡ some b) ⊎ ((a ≡ b) × (j ≡ length l))
at_snoc_last [] a b zero e = inr (some-injective a b e, refl)
at_snoc_last [] a b (suc j) e = absurd (some-ne-none b (sym e))
at_snoc_last (x ∷ xs) a b zero e = inl e
at_snoc_last (x ∷ xs) a b (suc j) e = elim (at_snoc_last xs a b j e) [ inl h ↦ inl h | inr t ↦ inr (t.0, ap suc t.1) ]

-- all are apart after one came, if it is apart from the others
pub apart_snoc : (views : List View) (w : View) → AllApart views → ((j : ℕ) (u : View) → get_elem? views j ≡ some u → Apart u w) → AllApart (views ++ w ∷ [])
apart_snoc views w olds new i j x y ei ej ne = on (at_snoc_last views w x i ei) (at_snoc_last views w y j ej)
  where
    on : (get_elem? views i ≡ some x) ⊎ ((w ≡ x) × (i ≡ length views)) → (get_elem? views j ≡ some y) ⊎ ((w ≡ y) × (j ≡ length views)) → Apart x y
    on (inl a) (inl b) = olds i j x y a b ne
    on (inl a) (inr b) = subst (Apart x) b.0 (new i x a)
    on (inr a) (inl b) = subst (λ (z : View). Apart z y) a.0 (λ n s t. new j y b n t s)
    on (inr a) (inr b) = absurd (ne (a.1 ∙ sym b.1))

-- a beginning of the history stays one, if what comes is by other seats
pub begun_longer : (history new : List Entry) (p : Seat) → Begun history p → entries_of (knows p) new ≡ [] → Begun (history ++ new) p
begun_longer history new p b quiet = record {
  rest = b.rest ++ new;
  whole = ap (λ l. l ++ new) b.whole ∙ append_assoc p.seen b.rest new;
  none = none_append (knows p) b.rest new b.none quiet;
}

-- the whole history is a beginning
pub begun_all : (history : List Entry) (p : Seat) → Begun history (with_list p history)
begun_all history p = record { rest = []; whole = sym (append-nil history); none = refl }

-- who knows no number knows no more than another
pub blank_within : (p : Seat) (n : ℕ) → knows blank n ≡ true → knows p n ≡ true
blank_within p n t = absurd (knows_blank n t)

-- the numbers that may be handed on are known
pub range_within : (number end : ℕ) (joined_in : List ℕ) (m : ℕ) → is_within (suc number) end m ≡ true → known_by number end joined_in m ≡ true
unfolding is_within known_by
range_within number end joined_in m t = grind (arith, nat_tests)

-- the own number is none of them
pub range_not_own : (number end : ℕ) → is_within (suc number) end number ≡ false
unfolding is_within
range_not_own number end = grind (arith, nat_tests)
