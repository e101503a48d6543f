-- What a player did, and then something more, is what it did. The laws of Player cite this.
use Rattle.std.specs.Prelude.{◌≡◌, ℕ, List, [], ◌∷◌, ◌++◌, reverse}
use Rattle.std.proofs.Common.{refl, sym, ap, ◌∙◌, subst, append_assoc}
use Rattle.rv_model.specs.declared.entry.Entry.{Entry}
use Rattle.rv_model.specs.Scripts.{Played, played}
use Rattle.rv_core.specs.Core.{CoreValue}
use Rattle.rv_core.specs.Setup.{judges_of}
use Rattle.rv_board.specs.Seats.{SeatGrows}
use Rattle.rv_board.proofs.GrowLemmas.{grows_then}
use Rattle.rv_feed.specs.Feeding.{played_by, Adds}
use Rattle.rv_feed.specs.Turns.{entries_played, AllBy, Did}
use Rattle.rv_feed.specs.Players.{Composes}

-- entries of both
pub entries_played-append : (ps qs : List Played) → entries_played (ps ++ qs) ≡ entries_played ps ++ entries_played qs
entries_played-append [] qs = refl
entries_played-append (p ∷ ps) qs = ap (λ (z : List Entry). p.0 ∷ z) (entries_played-append ps qs)

-- both are the seat's
all_by-append : (seat : ℕ) (ps qs : List Played) → AllBy seat ps → AllBy seat qs → AllBy seat (ps ++ qs)
all_by-append seat [] qs a b = b
all_by-append seat (p ∷ ps) qs a b = (a.0, all_by-append seat ps qs a.1 b)

-- on one thread, where the second begins where the first ended
did-join : (seat : ℕ) (a c : CoreValue) (ps qs : List Played) → Did seat a (record a { history = a.history ++ entries_played ps }) ps → Did seat (record a { history = a.history ++ entries_played ps }) c qs → Did seat a c (ps ++ qs)
did-join seat a c ps qs one two =
    let h : a.history ++ entries_played (ps ++ qs) ≡ (a.history ++ entries_played ps) ++ entries_played qs = ap (λ (z : List Entry). a.history ++ z) (entries_played-append ps qs) ∙ sym (append_assoc a.history (entries_played ps) (entries_played qs)) in
    record {
      grows = two.grows ∙ ap (λ (z : List Entry). record a { history = z }) (sym h);
      played_is = ap (λ (z : List Entry). played a.setup (judges_of a.setup) seat (reverse z)) h ∙ two.played_is ∙ ap (λ (z : List Played). z ++ qs) one.played_is ∙ append_assoc (played a.setup (judges_of a.setup) seat (reverse a.history)) ps qs;
      by = all_by-append seat ps qs one.by two.by;
    }

-- on one thread
pub did-composes : (seat : ℕ) → Composes (Did seat)
did-composes seat a b c ps q qs one two =
    did-join seat a c ps (q ∷ qs) (subst (λ (v : CoreValue). Did seat a v ps) one.grows one) (subst (λ (v : CoreValue). Did seat v c (q ∷ qs)) one.grows two)

-- at once
pub adds-composes : Composes Adds
adds-composes a b c ps q qs one two = record {
  grows = subst (SeatGrows a c) (sym (entries_played-append ps (q ∷ qs))) (grows_then a b c (entries_played ps) (entries_played qs) q.0 one.grows two.grows);
  played_is = two.played_is ∙ ap (λ (z : List Played). z ++ q ∷ qs) one.played_is ∙ append_assoc (played_by a) ps (q ∷ qs);
}
