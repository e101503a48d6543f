-- Acts of the control actor, one after another.
use Rattle.std.proofs.Common.{◌≡◌, List, [], ◌∷◌, ◌++◌, map, refl, sym, ap, ◌∙◌, subst, append-nil}
use mathlib.Core.List.{map-append}
use Rattle.rv_model.specs.declared.entry.Act.{Act}
use Rattle.rv_model.specs.declared.entry.Entry.{Entry}
use Rattle.rv_model.specs.Histories.{IsSound}
use Rattle.rv_core.specs.Setup.{judges_of}
use Rattle.rv_board.specs.Seats.{SeatValue, SeatGrows, Does}
use Rattle.rv_board.proofs.GrowLemmas.{grows_none, grows_then}
use Rattle.rv_feed.specs.Changes.{DoesAll}

-- no act
pub does-none : (a : SeatValue) → IsSound a.board.setup (judges_of a.board.setup) a.part.seen → DoesAll a a []
does-none a sound = record { own = []; grows = grows_none a sound; acts_are = refl; still = λ none. refl }

-- one act
pub does-one : (a b : SeatValue) (act : Act) → Does a b act → DoesAll a b (act ∷ [])
does-one a b act d = record { own = d.0 ∷ []; grows = d.1.grows; acts_are = ap (λ (x : Act). x ∷ []) d.1.act_is; still = λ none. absurd (cc (none)) }

-- acts after acts
pub does-then : (a b c : SeatValue) (xs ys : List Act) → DoesAll a b xs → DoesAll b c ys → DoesAll a c (xs ++ ys)
does-then a b c xs ys one two = go two.own refl
  where
    acts : (own : List Entry) → two.own ≡ own → map (λ (e : Entry). e.act) (one.own ++ own) ≡ xs ++ ys
    acts own is = ap (λ (z : List Entry). map (λ (e : Entry). e.act) (one.own ++ z)) (sym is) ∙ map-append (λ (e : Entry). e.act) one.own two.own ∙ (λ i. one.acts_are i ++ two.acts_are i)

    not_empty : (es : List Entry) (e : Entry) (more : List Entry) → es ++ e ∷ more ≡ [] → ⊥
    not_empty [] e more none = cc (none)
    not_empty (x ∷ es) e more none = cc (none)

    go : (own : List Entry) → two.own ≡ own → DoesAll a c (xs ++ ys)
    go [] is =
        let same : c ≡ b = two.still is in
        let grows : SeatGrows a c (one.own ++ []) = subst (λ (z : SeatValue). SeatGrows a z (one.own ++ [])) (sym same) (subst (SeatGrows a b) (sym (append-nil one.own)) one.grows) in
        record { own = one.own ++ []; grows = grows; acts_are = acts [] is; still = λ none. same ∙ one.still (sym (append-nil one.own) ∙ none) }
    go (e ∷ more) is = record {
      own = one.own ++ e ∷ more;
      grows = grows_then a b c one.own more e one.grows (subst (SeatGrows b c) is two.grows);
      acts_are = acts (e ∷ more) is;
      still = λ none. absurd (not_empty one.own e more none);
    }
