-- The rule holds of a board that opens, and allows that a seat is split.
use Rattle.std.proofs.Common.{◌≡◌, ◌≢◌, ⊎_elim, ℕ, zero, suc, ◌<◌, ◌≤◌, true, List, [], ◌∷◌, ◌++◌, length, set, sum, refl, ap, sym, ◌∙◌, subst, arith}
use Rattle.std.specs.Prelude.{slice_index}
use mathlib.Core.Option.{some, some-injective, some-ne-none}
use lib.ListN.{get_elem?}
use Rattle.atomic_table.specs.Table.{opening, Splits}
use Rattle.atomic_table.proofs.Lists.{at_snoc}
use Rattle.rv_model.specs.declared.entry.Entry.{Entry}
use Rattle.rv_model.specs.Setups.{Setup}
use Rattle.rv_model.specs.Seats.{Seat, is_within}
use Rattle.rv_core.specs.Setup.{IsSetup, judges_of}
use Rattle.rv_board.specs.declared.view.View.{View}
use Rattle.rv_board.specs.Known.{part}
use Rattle.rv_board.specs.Places.{ArePlaced}
use Rattle.rv_board.specs.inner.Known.{knows, Begun}
use Rattle.rv_board.specs.Rule.{cut_left, cut_right}
use Rattle.rv_board.specs.inner.Rule.{word_at, nothing_else, IsOpening, Fits, Kept, KeptPlainly, first_view, width}
use Rattle.rv_board.proofs.Knowing.{none_of, begun_blank, cut_left_within, cut_right_within}
use Rattle.rv_board.proofs.ViewLemmas.{each_set, blank_within, apart_set, apart_snoc}
use Rattle.rv_board.proofs.SoundLemmas.{sound-empty}
use Rattle.rv_board.proofs.NumberLemmas.{none_among, range_left, range_right, cut_apart}

-- the table at the start, whichever word stands for a history and whatever else is to hold
pub opens_with : (code : Setup → List Entry → ℕ → ℕ) (also : List Entry → List View → Type 0) (k : Setup) (words placed : List ℕ) → IsSetup k → length words ≡ width k → ((i : ℕ) → i < width k → slice_index words i ≡ code k [] i)
    → ArePlaced (sum k.shape) words placed → also [] (first_view k ∷ []) → Kept code also k (opening placed [] (first_view k))
opens_with code also k words placed is_setup wide each at further = record {
  history = [];
  wide = at.room;
  words = λ i low. at.each i (omega arith) ∙ each i low;
  machine = record { is_setup = is_setup; live = λ i low. tt };
  sound = sound-empty k (judges_of k);
  fits = fits;
  apart = apart;
  further = further;
}
  where
    fits : (j : ℕ) (v : View) → get_elem? (first_view k ∷ []) j ≡ some v → Fits [] v
    fits zero v e = subst (Fits []) (some-injective _ _ e) record {
      begun = record { rest = []; whole = refl; none = refl };
      left = begun_blank [];
      right = begun_blank [];
      left_within = blank_within (part 0 67 [] []);
      right_within = blank_within (part 0 67 [] []);
      distinct = λ n _. none_among n;
      unused = refl;
    }
    fits (suc j) v e = absurd (some-ne-none v (sym e))

    apart : (i j : ℕ) (v w : View) → get_elem? (first_view k ∷ []) i ≡ some v → get_elem? (first_view k ∷ []) j ≡ some w → i ≢ j → (n : ℕ) → knows v.part n ≡ true → knows w.part n ≡ true → ⊥
    apart zero zero v w e f ne = absurd (ne refl)
    apart zero (suc j) v w e f ne = absurd (some-ne-none w (sym f))
    apart (suc i) j v w e f ne = absurd (some-ne-none v (sym e))

-- the table of a board at the start
pub opens : (k : Setup) (words placed : List ℕ) → IsOpening k words → {slots : ℕ} → ArePlaced slots words placed → slots ≡ sum k.shape → KeptPlainly k (opening placed [] (first_view k))
opens k words placed o {slots} at many = opens_with word_at nothing_else k words placed o.is_setup o.wide o.each (subst (λ (n : ℕ). ArePlaced n words placed) many at) tt

-- who knows fewer numbers has seen as much
begun_fewer : (history : List Entry) (p q : Seat) → Begun history p → ((n : ℕ) → knows q n ≡ true → knows p n ≡ true) → q.seen ≡ p.seen → Begun history q
begun_fewer history p q b within same = record { rest = b.rest; whole = b.whole ∙ ap (λ l. l ++ b.rest) (sym same); none = none_of (knows p) (knows q) b.rest within b.none }

-- what holds of each view of two lists of views, of which the second has one more
each_snoc : (Q : ℕ → View → Type 0) (views : List View) (w : View) → ((j : ℕ) (u : View) → get_elem? views j ≡ some u → Q j u) → ((j : ℕ) → Q j w) → (j : ℕ) (u : View) → get_elem? (views ++ w ∷ []) j ≡ some u → Q j u
each_snoc Q views w olds new j u e = ⊎_elim (λ (x : get_elem? views j ≡ some u). olds j u x) (λ (x : w ≡ u). subst (Q j) x (new j)) (at_snoc views w u j e)

-- what else is to hold does not ask for the views
abbrev pub IsSteady : (List Entry → List View → Type 0) → Type 0
IsSteady also = (history : List Entry) (old new : List View) → also history old → also history new

-- a view is cut, and each side knows its own numbers
pub splits_with : (code : Setup → List Entry → ℕ → ℕ) (also : List Entry → List View → Type 0) → IsSteady also → (k : Setup) (id : ℕ) (v : View) (at : ℕ) → v.part.number ≤ at → at ≤ v.part.end → Splits (Kept code also k) id v (cut_left at v) (cut_right at v)
splits_with code also steady k id v at low high s r e = record {
  history = r.history;
  wide = r.wide;
  words = r.words;
  machine = r.machine;
  sound = r.sound;
  further = steady r.history s.views (views ++ cut_right at v ∷ []) r.further;
  fits = each_snoc (λ j u. Fits r.history u) views (cut_right at v) (each_set (λ j u. Fits r.history u) s.views id (cut_left at v) left (λ j u _ x. r.fits j u x)) (λ _. right);
  apart = apart_snoc views (cut_right at v) (apart_set s.views id (cut_left at v) r.apart (λ j u ne x n s' t. r.apart id j v u e x (λ h. ne (sym h)) n (cut_left_within v.part.number at v.part.end v.part.joined_in n high s') t)) old_new;
}
  where
    views : List View
    views = set s.views id (cut_left at v)

    f : Fits r.history v
    f = r.fits id v e

    left : Fits r.history (cut_left at v)
    left = record {
      begun = begun_fewer r.history v.part (part v.part.number at v.part.joined_in v.part.seen) f.begun (λ n t. cut_left_within v.part.number at v.part.end v.part.joined_in n high t) refl;
      left = begun_blank r.history;
      right = begun_blank r.history;
      left_within = blank_within (part v.part.number at v.part.joined_in v.part.seen);
      right_within = blank_within (part v.part.number at v.part.joined_in v.part.seen);
      distinct = λ n t. f.distinct n (range_left v.part.number at v.part.end n high t);
      unused = none_of (is_within (suc v.part.number) v.part.end) (is_within (suc v.part.number) at) r.history (λ n t. range_left (suc v.part.number) at v.part.end n high t) f.unused;
    }

    right : Fits r.history (cut_right at v)
    right = record {
      begun = begun_fewer r.history v.part (part at v.part.end [] v.part.seen) f.begun (λ n t. cut_right_within v.part.number at v.part.end v.part.joined_in n low t) refl;
      left = begun_blank r.history;
      right = begun_blank r.history;
      left_within = blank_within (part at v.part.end [] v.part.seen);
      right_within = blank_within (part at v.part.end [] v.part.seen);
      distinct = λ n _. none_among n;
      unused = none_of (is_within (suc v.part.number) v.part.end) (is_within (suc at) v.part.end) r.history (λ n t. range_right (suc v.part.number) (suc at) v.part.end n (omega arith) t) f.unused;
    }

    old_new : (i : ℕ) (x : View) → get_elem? views i ≡ some x → (n : ℕ) → knows x.part n ≡ true → knows (part at v.part.end [] v.part.seen) n ≡ true → ⊥
    old_new i x ex n = each_set (λ j u. knows u.part n ≡ true → knows (part at v.part.end [] v.part.seen) n ≡ true → ⊥) s.views id (cut_left at v)
        (λ s' t. cut_apart v.part.number at v.part.end v.part.joined_in n low f.distinct s' t)
        (λ j u other eu s' t. r.apart j id u v eu e other n s' (cut_right_within v.part.number at v.part.end v.part.joined_in n low t)) i x ex

-- a view of a board is cut
pub splits : (k : Setup) (id : ℕ) (v : View) (at : ℕ) → v.part.number ≤ at → at ≤ v.part.end → Splits (KeptPlainly k) id v (cut_left at v) (cut_right at v)
splits k = splits_with word_at nothing_else (λ history old new f. tt) k
