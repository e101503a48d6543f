-- What a later history has of a seat that had seen nothing: what it played, its acts, and nothing by the other numbers that the seat knew.
use Rattle.std.proofs.Common.{◌≡◌, ℕ, ◌<◌, ◌==◌, Bool, true, false, List, [], ◌∷◌, ◌++◌, map, reverse, refl, sym, ap, ◌∙◌, subst}
use Rattle.rv_model.specs.declared.entry.Act.{Act}
use Rattle.rv_model.specs.declared.entry.Entry.{Entry}
use Rattle.rv_model.specs.Histories.{NoneOf, acts_of}
use Rattle.rv_model.specs.Judging.{Judge}
use Rattle.rv_model.specs.Scripts.{Played, played}
use Rattle.rv_model.specs.Seats.{known_of, entries_of}
use Rattle.rv_model.specs.Setups.{Setup}
use Rattle.rv_model.proofs.SeatLemmas.{played-none}
use Rattle.rv_core.specs.Setup.{judges_of}
use Rattle.rv_board.specs.Seats.{BoardId, SeatValue, ExtendsSeen}
use Rattle.rv_board.proofs.GrowLemmas.{same_known, own_entries}
use Rattle.rv_board.proofs.Knowing.{knows_own, known_is}
use Rattle.rv_feed.specs.Changes.{DoesAll}
use Rattle.rv_feed.specs.Feeding.{Adds, played_by}
use Rattle.rv_feed.specs.Turns.{entries_played as entries_in}
use Rattle.rv_feed.proofs.AddLemmas.{none_known}

module _ (old new : SeatValue) (h : List Entry) (fresh : old.part.seen ≡ []) (has : old.part.number < old.part.end) (later : ExtendsSeen h new.part) where
  -- it has played what it added, and nothing else
  pub later-played : (ps : List Played) → Adds old new ps → played old.board.setup (judges_of old.board.setup) old.part.number (reverse h) ≡ ps
  later-played ps adds =
      let s : Setup = old.board.setup in
      let js : List Judge = judges_of s in
      let seat : ℕ = old.part.number in
      let g = adds.grows.grows in
      let mine : known_of old.part seat ≡ true = (λ i. known_is old.part i seat) ∙ knows_own seat old.part.end old.part.joined_in has in
      let none_left : entries_of (known_of old.part) later.rest ≡ [] = subst (λ (t : ℕ → Bool). entries_of t later.rest ≡ []) (same_known old new (entries_in ps) adds.grows) later.none in
      let none : NoneOf seat later.rest = none_known (known_of old.part) seat later.rest mine none_left in
      let nothing : played_by old ≡ [] = ap (λ (z : List Entry). played s js seat (reverse z)) fresh in
      let now : played s js seat (reverse new.part.seen) ≡ played_by new =
      ap (λ (n : ℕ). played s js n (reverse new.part.seen)) (sym g.number) ∙ ap (λ (b : BoardId). played b.setup (judges_of b.setup) new.part.number (reverse new.part.seen)) (sym adds.grows.board) in
      ap (λ (z : List Entry). played s js seat (reverse z)) later.list ∙ played-none s js seat later.rest new.part.seen none
      ∙ now ∙ adds.played_is ∙ ap (λ (z : List Played). z ++ ps) nothing

  -- its acts are those that it did
  pub later-acts : (acts : List Act) → DoesAll old new acts → acts_of old.part.number h ≡ acts
  later-acts acts does = by_entries old.part.number h ∙ ap (map (λ (e : Entry). e.act)) (own_entries old new does.own h fresh has does.grows later) ∙ does.acts_are
    where
      by_entries : (seat : ℕ) (xs : List Entry) → acts_of seat xs ≡ map (λ (e : Entry). e.act) (entries_of (λ n. n == seat) xs)
      by_entries seat [] = refl
      by_entries seat (x ∷ xs) = go (x.seat == seat) refl (by_entries seat xs)
        where
          go : (b : Bool) → (x.seat == seat) ≡ b → acts_of seat xs ≡ map (λ (e : Entry). e.act) (entries_of (λ n. n == seat) xs) → acts_of seat (x ∷ xs) ≡ map (λ (e : Entry). e.act) (entries_of (λ n. n == seat) (x ∷ xs))
          go true y rest = rw y (ap (λ (z : List Act). x.act ∷ z) rest)
          go false n rest = rw n rest
