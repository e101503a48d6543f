-- The history of one thread: it has no Stop, and the input determines it.
use Rattle.std.proofs.Common.{◌≡◌, ◌≢◌, ℕ, ◌+◌, ◌-◌, ◌<◌, ◌≤◌, true, false, ◌==◌, List, [], ◌∷◌, ◌++◌, inl, inr, length, get_or, reverse, arith, refl, sym, ap, ◌∙◌, subst, append_assoc, append-nil}
use Rattle.std.specs.Prelude.{Contains, slice_range}
use Rattle.std.proofs.lemmas.List.Elements.{All-contains, Contains-get_or}
use Rattle.std.proofs.lemmas.List.{length-map}
use Rattle.rv_model.specs.declared.entry.Act.{Act}
use Rattle.rv_model.specs.declared.entry.Act.TheVariants.{Stop}
use Rattle.rv_model.specs.declared.entry.Answer.{Answer}
use Rattle.rv_model.specs.declared.entry.Entry.{Entry}
use Rattle.rv_model.specs.declared.work.Turn.{Turn}
use Rattle.rv_model.specs.Cuts.{AtEach}
use Rattle.rv_model.specs.Judging.{Judge}
use Rattle.rv_model.specs.Setups.{Setup}
use Rattle.rv_model.specs.SharedWords.{answer_at, word_on}
use Rattle.rv_model.specs.Scripts.{Played, played, Plays, PlaysTurns, turns_of}
use Rattle.rv_model.specs.Works.{Work}
use Rattle.rv_model.specs.Histories.{Input, IsOneHistory, FitsWords, LostThrice, IsJustifiedBy, look_count, looks_of, NoneOf, work_of, line_in, line_at, acts_of, LinesApart, IsNoStop, OneHasNoStop, OneIsUnique}
use Rattle.rv_model.proofs.AgreeLemmas.{Agree, plays-agree, plays-looks, plays-begun, looks_in, looks_in-append}
use Rattle.rv_model.proofs.SeatLemmas.{looks_of-reverse, looks_on-none, played-looks, played-cut, played-none, next-in, last-look, IsWorkOf, find-work, line-index}
use Rattle.rv_model.proofs.ActLemmas.{acts_of-own, first-of, same_or_not, stop-or, word-same}
use Rattle.rv_model.proofs.OneJudgeLemmas.{lists-same}

module _ (input : Input) (js : List Judge) (apart : LinesApart input.works) where
  abbrev s : Setup
  s = input.setup

  abbrev works : List Work
  works = input.works

  -- an entry's turn, and the script of its seat
  pub record InTurn (h before : List Entry) (e : Entry) : Type 0 where
    pub work : IsWorkOf works e.seat (work_of works e.seat)
    pub plays : PlaysTurns s input.panics (turns_of (work_of works e.seat)) (played s js e.seat (reverse h))
    pub turn : Turn
    pub has_turn : Contains (work_of works e.seat).turns turn
    pub line : turn.line ≡ line_at works before e

  seated : (h : List Entry) → IsOneHistory input js h → (before : List Entry) (e : Entry) (after : List Entry) → h ≡ before ++ e ∷ after → IsWorkOf works e.seat (work_of works e.seat)
  seated h one before e after eq = elim (one.legal.nobody_else before e after eq) [
    | inl control ↦
        let none : acts_of 1 h ≡ [] = one.legal.control ∙ rw one.no_changes refl in
        absurd (acts_of-own 1 before e after control (rw (← eq) none))
    | inr any ↦ find-work works e.seat any
  ]

  plays-of : (h : List Entry) → IsOneHistory input js h → (seat : ℕ) → IsWorkOf works seat (work_of works seat) → PlaysTurns s input.panics (turns_of (work_of works seat)) (played s js seat (reverse h))
  plays-of h one seat w =
      let p = All-contains (λ w. Plays s input.panics w (played s js (2 + w.cpu) (reverse h))) works (work_of works seat) one.legal.cpus w.has in
      subst (λ (n : ℕ). PlaysTurns s input.panics (turns_of (work_of works seat)) (played s js n (reverse h))) w.seat_is p

  in-turn : (h : List Entry) → IsOneHistory input js h → (before : List Entry) (e : Entry) (after : List Entry) → h ≡ before ++ e ∷ after → InTurn h before e
  in-turn h one before e after eq =
      let w = seated h one before e after eq in
      let plays = plays-of h one e.seat w in
      let cut = played-cut s js e.seat before e after refl in
      let a : Answer = answer_at s js (reverse before) e e.act in
      let so_far : List Played = played s js e.seat (reverse before) in
      let whole : played s js e.seat (reverse h) ≡ so_far ++ (e, a) ∷ cut.0 = ap (λ (z : List Entry). played s js e.seat (reverse z)) eq ∙ cut.1 in
      let turns : List Turn = (work_of works e.seat).turns in
      let at_cut : PlaysTurns s input.panics (turns_of (work_of works e.seat)) (so_far ++ (e, a) ∷ cut.0) = subst (PlaysTurns s input.panics (turns_of (work_of works e.seat))) whole plays in
      let begun = plays-begun s input.panics (turns_of (work_of works e.seat)) so_far (e, a) cut.0 at_cut in
      let most = plays-looks s input.panics (turns_of (work_of works e.seat)) (so_far ++ (e, a) ∷ cut.0) at_cut in
      let count : looks_in so_far ≡ looks_of e.seat before = played-looks s js e.seat (reverse before) ∙ looks_of-reverse e.seat before in
      let sum = looks_in-append so_far ((e, a) ∷ cut.0) in
      let many : length (turns_of (work_of works e.seat)) ≡ length turns = length-map turns (λ (turn : Turn). slice_range (work_of works e.seat).deliveries turn.from turn.to) in
      let n : ℕ = looks_of e.seat before + look_count e.act in
      let low : 1 ≤ n = omega arith in
      let high : n - 1 < length turns = omega arith in
      let d : Turn = record { line = 0; from = 0; to = 0 } in
      record { work = w; plays = plays; turn = get_or turns (n - 1) d; has_turn = Contains-get_or turns (n - 1) d high; line = sym (line-index turns (n - 1) d high) }

  -- one line, one seat
  same-seat : (h before : List Entry) (e : Entry) (k past : List Entry) (f : Entry) → InTurn h before e → InTurn k past f → line_at works before e ≡ line_at works past f → e.seat ≡ f.seat
  same-seat h before e k past f a b same =
      let cpu = apart (work_of works e.seat) (work_of works f.seat) a.turn b.turn a.work.has b.work.has a.has_turn b.has_turn (a.line ∙ same ∙ sym b.line) in
      sym a.work.seat_is ∙ ap (λ (n : ℕ). 2 + n) cpu ∙ b.work.seat_is

  -- ---- no stop
  begun : (h before : List Entry) (e : Entry) (after : List Entry) → IsOneHistory input js h → h ≡ before ++ e ∷ after → 1 ≤ looks_of e.seat before + look_count e.act
  begun h before e after one eq =
      let t = in-turn h one before e after eq in
      let cut = played-cut s js e.seat before e after refl in
      let a : Answer = answer_at s js (reverse before) e e.act in
      let so_far : List Played = played s js e.seat (reverse before) in
      let whole : played s js e.seat (reverse h) ≡ so_far ++ (e, a) ∷ cut.0 = ap (λ (z : List Entry). played s js e.seat (reverse z)) eq ∙ cut.1 in
      let b = plays-begun s input.panics (turns_of (work_of works e.seat)) so_far (e, a) cut.0 (subst (PlaysTurns s input.panics (turns_of (work_of works e.seat))) whole t.plays) in
      let count : looks_in so_far ≡ looks_of e.seat before = played-looks s js e.seat (reverse before) ∙ looks_of-reverse e.seat before in
      omega arith

  not_earned : (h before : List Entry) (e : Entry) (after : List Entry) → IsOneHistory input js h → h ≡ before ++ e ∷ after → (slot : ℕ) → e.act ≡ Stop slot → LostThrice slot e.seat before → ⊥
  not_earned h before e after one eq slot stop lost =
      let y = first-of slot lost.since lost.three in
      let f : Entry = y.0 in
      let until : List Entry = lost.until in
      let before_is : before ≡ until ++ f ∷ y.1 = lost.is ∙ ap (λ (z : List Entry). until ++ z) y.2 in
      let some : 1 ≤ looks_of e.seat before = let b = begun h before e after one eq in let z : look_count e.act ≡ 0 = rw stop refl in omega arith in
      let looks : looks_of e.seat before ≡ looks_of e.seat until = ap (looks_of e.seat) lost.is ∙ looks_on-none e.seat until lost.since lost.none in
      let l = last-look e.seat until (omega arith) in
      let l_cut : before ≡ l.front ++ l.entry ∷ (l.rest ++ f ∷ y.1) = before_is ∙ ap (λ (z : List Entry). z ++ f ∷ y.1) l.is ∙ append_assoc l.front (l.entry ∷ l.rest) (f ∷ y.1) in
      let here : line_at works l.front l.entry ≡ line_at works before e =
      rw (l.at) (ap (λ (n : ℕ). line_in (work_of works e.seat).turns n) (l.all ∙ sym looks ∙ (let z : look_count e.act ≡ 0 = rw stop refl in omega arith))) in
      let f_le : line_at works until f ≤ line_at works before e = one.in_order before e after eq until f y.1 before_is in
      let whole_f : h ≡ until ++ f ∷ (y.1 ++ e ∷ after) = eq ∙ ap (λ (z : List Entry). z ++ e ∷ after) before_is ∙ append_assoc until (f ∷ y.1) (e ∷ after) in
      let l_le : line_at works l.front l.entry ≤ line_at works until f = one.in_order until f (y.1 ++ e ∷ after) whole_f l.front l.entry l.rest l.is in
      let same : line_at works until f ≡ line_at works before e = omega arith in
      let seats = same-seat h until f h before e (in-turn h one until f (y.1 ++ e ∷ after) whole_f) (in-turn h one before e after eq) same in
      let none : (f.seat == e.seat) ≡ false = (subst (NoneOf e.seat) y.2 lost.none).0 in
      let yes : (f.seat == e.seat) ≡ true = grind arith in
      let no : true ≡ false = sym yes ∙ none in cc

  pub no-stop : (h : List Entry) → IsOneHistory input js h → AtEach (λ before e. IsNoStop e.act) h
  no-stop h one before e after eq = elim (stop-or e.act) [
    | inl free ↦ free
    | inr stop ↦ absurd (not_earned h before e after one eq stop.0 stop.1 (subst (λ (a : Act). IsJustifiedBy a e.seat before) stop.1 (one.legal.sound.justified before e after eq)))
  ]

  -- ---- unique
  agree-at : (seat : ℕ) → IsWorkOf works seat (work_of works seat) → (h k : List Entry) → IsOneHistory input js h → IsOneHistory input js k → (ps t u : List Played) → played s js seat (reverse h) ≡ ps ++ t → played s js seat (reverse k) ≡ ps ++ u → Agree t u
  agree-at seat w h k one one' ps t u a b =
      plays-agree s input.panics (turns_of (work_of works seat)) ps t u
      (subst (PlaysTurns s input.panics (turns_of (work_of works seat))) a (plays-of h one seat w))
      (subst (PlaysTurns s input.panics (turns_of (work_of works seat))) b (plays-of k one' seat w))

  -- one history does not end where the other goes on
  both-end : (before : List Entry) (e : Entry) (t : List Entry) → IsOneHistory input js (before ++ e ∷ t) → (u : List Entry) → NoneOf e.seat u → IsOneHistory input js (before ++ u) → ⊥
  both-end before e t one u none one' =
      let w = seated (before ++ e ∷ t) one before e t refl in
      let cut = played-cut s js e.seat before e t refl in
      agree-at e.seat w (before ++ e ∷ t) (before ++ u) one one' (played s js e.seat (reverse before)) ((e, answer_at s js (reverse before) e e.act) ∷ cut.0) [] cut.1 (played-none s js e.seat u before none ∙ sym (append-nil (played s js e.seat (reverse before))))

  -- an entry that is still to come in the other history has no smaller line there
  lines-le : (before : List Entry) (e : Entry) (t : List Entry) (f : Entry) (u : List Entry) → IsOneHistory input js (before ++ e ∷ t) → IsOneHistory input js (before ++ f ∷ u) → e.seat ≢ f.seat → line_at works before f ≤ line_at works before e
  lines-le before e t f u one one' other =
      let n : (f.seat == e.seat) ≡ false = grind arith in
      elim (next-in e.seat u) [
        | inl none ↦ absurd (both-end before e t one (f ∷ u) (n, none) one')
        | inr next ↦
            let g : Entry = next.entry in
            let front : List Entry = f ∷ next.front in
            let past : List Entry = before ++ front in
            let u_is : before ++ f ∷ u ≡ past ++ g ∷ next.rest = ap (λ (z : List Entry). before ++ f ∷ z) next.is ∙ sym (append_assoc before front (g ∷ next.rest)) in
            let w = seated (before ++ e ∷ t) one before e t refl in
            let cut = played-cut s js e.seat before e t refl in
            let cut' = played-cut s js e.seat past g next.rest next.at in
            let whole' : played s js e.seat (reverse (before ++ f ∷ u)) ≡ played s js e.seat (reverse before) ++ (g, answer_at s js (reverse past) g g.act) ∷ cut'.0 =
            ap (λ (z : List Entry). played s js e.seat (reverse z)) u_is ∙ cut'.1
            ∙ ap (λ (ps : List Played). ps ++ (g, answer_at s js (reverse past) g g.act) ∷ cut'.0) (played-none s js e.seat front before (n, next.none)) in
            let agree = agree-at e.seat w (before ++ e ∷ t) (before ++ f ∷ u) one one' (played s js e.seat (reverse before)) ((e, answer_at s js (reverse before) e e.act) ∷ cut.0) ((g, answer_at s js (reverse past) g g.act) ∷ cut'.0) cut.1 whole' in
            let act : e.act ≡ g.act = agree (no-stop (before ++ e ∷ t) one before e t refl) (no-stop (before ++ f ∷ u) one' past g next.rest u_is) in
            let lines : line_at works past g ≡ line_at works before e =
            rw next.at (ap (λ (n : ℕ). line_in (work_of works e.seat).turns n) (ap (λ (n : ℕ). n + look_count g.act) (looks_on-none e.seat before front (n, next.none)) ∙ ap (λ (a : Act). looks_of e.seat before + look_count a) (sym act))) in
            let le : line_at works before f ≤ line_at works past g = one'.in_order past g next.rest u_is before f next.front refl in
            omega arith
      ]

  same-next : (before : List Entry) (e : Entry) (t : List Entry) (f : Entry) (u : List Entry) → IsOneHistory input js (before ++ e ∷ t) → IsOneHistory input js (before ++ f ∷ u) → e ≡ f
  same-next before e t f u one one' =
      let h : List Entry = before ++ e ∷ t in
      let k : List Entry = before ++ f ∷ u in
      elim (same_or_not e.seat f.seat) [
        | inl seat ↦
            let w = seated h one before e t refl in
            let cut = played-cut s js e.seat before e t refl in
            let cut' = played-cut s js e.seat before f u (sym seat) in
            let agree = agree-at e.seat w h k one one' (played s js e.seat (reverse before)) ((e, answer_at s js (reverse before) e e.act) ∷ cut.0) ((f, answer_at s js (reverse before) f f.act) ∷ cut'.0) cut.1 cut'.1 in
            let act : e.act ≡ f.act = agree (no-stop h one before e t refl) (no-stop k one' before f u refl) in
            let r = one.legal.sound.replays before e t refl in
            let r' = one'.legal.sound.replays before f u refl in
            determined e f seat act before r r'
        | inr other ↦
            let le = lines-le before e t f u one one' other in
            let ge = lines-le before f u e t one' one (λ x. other (sym x)) in
            let same : line_at works before e ≡ line_at works before f = omega arith in
            absurd (other (same-seat h before e k before f (in-turn h one before e t refl) (in-turn k one' before f u refl) same))
      ]
    where
      -- the words of an entry follow from its act and the past
      determined : (e f : Entry) → e.seat ≡ f.seat → e.act ≡ f.act → (before : List Entry) → FitsWords s js before e → FitsWords s js before f → e ≡ f
      determined e f seat act before r r' =
          let found : e.before ≡ f.before = r.found ∙ ap (word_on s js (reverse before)) act ∙ sym r'.found in
          let left : e.after ≡ f.after = r.left ∙ ap (word_on s js (e ∷ reverse before)) act ∙ word-same s js (reverse before) e f act f.act ∙ sym r'.left in
          λ i. record { seat = seat i; act = act i; before = found i; after = left i }

  pub same-rest : (before t u : List Entry) → IsOneHistory input js (before ++ t) → IsOneHistory input js (before ++ u) → t ≡ u
  same-rest before [] [] one one' = refl
  same-rest before [] (f ∷ u) one one' = absurd (both-end before f u one' [] tt one)
  same-rest before (e ∷ t) [] one one' = absurd (both-end before e t one [] tt one')
  same-rest before (e ∷ t) (f ∷ u) one one' =
      let same : e ≡ f = same-next before e t f u one one' in
      let one'' : IsOneHistory input js (before ++ e ∷ u) = subst (λ (x : Entry). IsOneHistory input js (before ++ x ∷ u)) (sym same) one' in
      let rest = same-rest (before ++ e ∷ []) t u (rw append_assoc one) (rw append_assoc one'') in
      ap (λ (z : List Entry). e ∷ z) rest ∙ ap (λ (x : Entry). x ∷ u) same

pub one_has_no_stop : OneHasNoStop
one_has_no_stop input js h apart one = no-stop input js apart h one

pub one_is_unique : OneIsUnique
one_is_unique input js ks h k apart by_js by_ks one one' =
    let same : ks ≡ js = lists-same input.specs input.setup.tables ks js by_ks by_js in
    same-rest input js apart [] h k one (subst (λ (z : List Judge). IsOneHistory input z k) same one')
