-- The steps of one seat in a past are those of what it has played.
use Rattle.std.proofs.Common.{◌≡◌, ℕ, ◌+◌, Bool, true, false, ◌==◌, List, [], ◌∷◌, ◌++◌, reverse, arith, refl, sym, ap, ◌∙◌, append-nil}
use Rattle.std.specs.Prelude.{filter, if◌then◌else◌}
use Rattle.std.proofs.lemmas.List.{reverse-append}
use Rattle.rv_model.specs.declared.entry.Act.{Act}
use Rattle.rv_model.specs.declared.entry.Act.TheVariants.{Deliver, Stop, Look, Raise, Lower, Clear, End}
use Rattle.rv_model.specs.declared.entry.Answer.{Answer}
use Rattle.rv_model.specs.declared.entry.Entry.{Entry}
use Rattle.rv_model.specs.Histories.{is_on, look_count, looks_of, work_of, line_in}
use Rattle.rv_model.specs.Judging.{Judge}
use Rattle.rv_model.specs.Scripts.{Played, played}
use Rattle.rv_model.specs.Setups.{Setup}
use Rattle.rv_model.specs.SharedWords.{answer_at}
use Rattle.rv_model.specs.Works.{Work}
use Rattle.rv_laws.proofs.Made.{looked, told_by}
use Rattle.rv_laws.proofs.StepLemmas.{at_zero, Answered, told_of}

-- the line of an entry's turn, after a past
abbrev pub line_of : List Work → List Entry → Entry → ℕ
line_of works past e = line_in (work_of works e.seat).turns (looked e.act (looks_of e.seat past))

-- a look counts
pub looked-is : (act : Act) (n : ℕ) → looked act n ≡ n + look_count act
looked-is (Deliver _ _) n = omega arith
looked-is (Stop _) n = omega arith
looked-is Look n = omega arith
looked-is (Raise _) n = omega arith
looked-is (Lower _) n = omega arith
looked-is (Clear _) n = omega arith
looked-is (End _) n = omega arith

-- how many looks were made after a script
abbrev looked_by : ℕ → List Played → ℕ
looked_by n [] = n
looked_by n (p ∷ ps) = looked_by (looked p.0.act n) ps

-- one more entry
looked-snoc : (n : ℕ) (ps : List Played) (p : Played) → looked_by n (ps ++ p ∷ []) ≡ looked p.0.act (looked_by n ps)
looked-snoc n [] p = refl
looked-snoc n (q ∷ ps) p = looked-snoc (looked q.0.act n) ps p

-- one more entry adds its steps
told-snoc : (at : ℕ → ℕ) (seat slot n : ℕ) (ps : List Played) (p : Played) → told_by at seat slot n (ps ++ p ∷ []) ≡ told_by at seat slot n ps ++ told_by at seat slot (looked_by n ps) (p ∷ [])
told-snoc at seat slot n [] p = refl
told-snoc at seat slot n (q ∷ ps) p = inner (told-snoc at seat slot (looked q.0.act n) ps p) (is_on slot q.0.act)
  where
    m : ℕ
    m = looked q.0.act n

    x : Answered
    x = record { step = record { seat = seat; line = at m; act = at_zero q.0.act }; answer = q.1 }

    inner : told_by at seat slot m (ps ++ p ∷ []) ≡ told_by at seat slot m ps ++ told_by at seat slot (looked_by m ps) (p ∷ [])
        → (b : Bool) → (if b then x ∷ told_by at seat slot m (ps ++ p ∷ []) else told_by at seat slot m (ps ++ p ∷ [])) ≡ (if b then x ∷ told_by at seat slot m ps else told_by at seat slot m ps) ++ told_by at seat slot (looked_by m ps) (p ∷ [])
    inner rest true = ap (λ (z : List Answered). x ∷ z) rest
    inner rest false = rest

-- the step is the seat's
abbrev pub is_told : ℕ → Answered → Bool
is_told seat x = x.step.seat == seat

module _ (s : Setup) (js : List Judge) (works : List Work) (slot seat : ℕ) where
  -- what the seat has played
  abbrev own : List Entry → List Played
  own past = played s js seat past

  -- its looks are those of the past
  looked-played : (past : List Entry) → looked_by 0 (own past) ≡ looks_of seat past
  looked-played [] = refl
  looked-played (e ∷ past) = go (e.seat == seat) refl (looked-played past)
    where
      go : (b : Bool) → (e.seat == seat) ≡ b → looked_by 0 (own past) ≡ looks_of seat past → looked_by 0 (own (e ∷ past)) ≡ looks_of seat (e ∷ past)
      go true mine rest = rw mine (looked-snoc 0 (own past) (e, answer_at s js past e e.act) ∙ looked-is e.act (looked_by 0 (own past)) ∙ omega arith)
      go false other rest = rw other (rest ∙ omega arith)

  -- the line of a number of looks
  abbrev at : ℕ → ℕ
  at n = line_in (work_of works seat).turns n

  -- the seat's steps in the past
  pub seat-told : (past : List Entry) → filter (is_told seat) (told_of slot (line_of works) s js past) ≡ reverse (told_by at seat slot 0 (own past))
  seat-told [] = refl
  seat-told (e ∷ past) = go (e.seat == seat) refl (is_on slot e.act) refl (seat-told past)
    where
      a : Answer
      a = answer_at s js past e e.act

      told : Answered
      told = record { step = record { seat = e.seat; line = line_of works past e; act = at_zero e.act }; answer = a }

      -- as the seat's own script tells it
      same-told : e.seat ≡ seat → told ≡ record { step = record { seat = seat; line = at (looked e.act (looked_by 0 (own past))); act = at_zero e.act }; answer = a }
      same-told same =
          ap (λ (z : ℕ). record { step = record { seat = z; line = line_in (work_of works z).turns (looked e.act (looks_of z past)); act = at_zero e.act }; answer = a }) same
          ∙ ap (λ (n : ℕ). record { step = record { seat = seat; line = at (looked e.act n); act = at_zero e.act }; answer = a }) (sym (looked-played past))

      go : (b : Bool) → (e.seat == seat) ≡ b → (c : Bool) → is_on slot e.act ≡ c → filter (is_told seat) (told_of slot (line_of works) s js past) ≡ reverse (told_by at seat slot 0 (own past))
          → filter (is_told seat) (told_of slot (line_of works) s js (e ∷ past)) ≡ reverse (told_by at seat slot 0 (own (e ∷ past)))
      go true mine true on rest =
          let same : e.seat ≡ seat = grind arith in
          let x : Answered = record { step = record { seat = seat; line = at (looked e.act (looked_by 0 (own past))); act = at_zero e.act }; answer = a } in
          let left : filter (is_told seat) (told_of slot (line_of works) s js (e ∷ past)) ≡ told ∷ filter (is_told seat) (told_of slot (line_of works) s js past) = rw (on, mine) refl in
          let script : own (e ∷ past) ≡ own past ++ (e, a) ∷ [] = rw mine refl in
          let last : told_by at seat slot (looked_by 0 (own past)) ((e, a) ∷ []) ≡ x ∷ [] = rw on refl in
          let right : told_by at seat slot 0 (own (e ∷ past)) ≡ told_by at seat slot 0 (own past) ++ x ∷ [] =
          ap (told_by at seat slot 0) script ∙ told-snoc at seat slot 0 (own past) (e, a) ∙ ap (λ (z : List Answered). told_by at seat slot 0 (own past) ++ z) last in
          left ∙ ap (λ (y : Answered). y ∷ filter (is_told seat) (told_of slot (line_of works) s js past)) (same-told same) ∙ ap (λ (z : List Answered). x ∷ z) rest
          ∙ sym (ap reverse right ∙ reverse-append (told_by at seat slot 0 (own past)) (x ∷ []))
      go true mine false off rest =
          let left : filter (is_told seat) (told_of slot (line_of works) s js (e ∷ past)) ≡ filter (is_told seat) (told_of slot (line_of works) s js past) = rw off refl in
          let script : own (e ∷ past) ≡ own past ++ (e, a) ∷ [] = rw mine refl in
          let last : told_by at seat slot (looked_by 0 (own past)) ((e, a) ∷ []) ≡ [] = rw off refl in
          let right : told_by at seat slot 0 (own (e ∷ past)) ≡ told_by at seat slot 0 (own past) =
          ap (told_by at seat slot 0) script ∙ told-snoc at seat slot 0 (own past) (e, a) ∙ ap (λ (z : List Answered). told_by at seat slot 0 (own past) ++ z) last ∙ append-nil (told_by at seat slot 0 (own past)) in
          left ∙ rest ∙ ap reverse (sym right)
      go false other true on rest =
          let left : filter (is_told seat) (told_of slot (line_of works) s js (e ∷ past)) ≡ filter (is_told seat) (told_of slot (line_of works) s js past) = rw (on, other) refl in
          let script : own (e ∷ past) ≡ own past = rw other refl in
          left ∙ rest ∙ ap (λ (z : List Played). reverse (told_by at seat slot 0 z)) (sym script)
      go false other false off rest =
          let left : filter (is_told seat) (told_of slot (line_of works) s js (e ∷ past)) ≡ filter (is_told seat) (told_of slot (line_of works) s js past) = rw off refl in
          let script : own (e ∷ past) ≡ own past = rw other refl in
          left ∙ rest ∙ ap (λ (z : List Played). reverse (told_by at seat slot 0 z)) (sym script)
