-- A front of a beginning is one, and a legal history is a beginning whose scripts are whole.
use Rattle.std.proofs.Common.{◌≡◌, ◌≢◌, ℕ, ◌+◌, ◌<◌, ◌⊎◌, inl, inr, Bool, true, false, ◌==◌, List, [], ◌∷◌, ◌++◌, reverse, get_or, arith, refl, sym, ap, ◌∙◌, subst, append_assoc, append-nil, All}
use Rattle.std.specs.Prelude.{Any}
use Rattle.std.proofs.lemmas.List.{reverse-append}
use Rattle.rv_model.specs.declared.entry.Answer.{Answer}
use Rattle.rv_model.specs.declared.entry.Entry.{Entry}
use Rattle.rv_model.specs.declared.formula.Spec.{Spec}
use Rattle.rv_model.specs.Cuts.{AtEach}
use Rattle.rv_model.specs.Histories.{FitsWords, IsJustifiedBy, IsPermittedTo, input_with, acts_of, IsLegal}
use Rattle.rv_model.specs.Judging.{Judge}
use Rattle.rv_model.specs.Scripts.{Played, played, Plays}
use Rattle.rv_model.specs.Setups.{Setup}
use Rattle.rv_model.specs.SharedWords.{answer_at}
use Rattle.rv_model.specs.Works.{Work}
use Rattle.rv_model.proofs.CutLemmas.{at_each-front, at_each-weaker}
use Rattle.rv_model.proofs.ScriptLemmas.{played-own, played-other}
use Rattle.rv_check.specs.Beginnings.{HasBegun, IsBeginning}

-- equal or not
same_or_not : (a b : ℕ) → (a ≡ b) ⊎ (a ≢ b)
same_or_not a b = grind arith

-- what a seat has played with one entry more of its own
pub played-more : (s : Setup) (js : List Judge) (seat : ℕ) (h : List Entry) (e : Entry) → seat ≡ e.seat → (rest : List Played)
    → played s js seat (reverse (h ++ e ∷ [])) ++ rest ≡ played s js seat (reverse h) ++ (e, answer_at s js (reverse h) e e.act) ∷ rest
played-more s js seat h e mine rest =
    let a : Answer = answer_at s js (reverse h) e e.act in
    let more : played s js seat (reverse (h ++ e ∷ [])) ≡ played s js seat (reverse h) ++ (e, a) ∷ [] = ap (played s js seat) (reverse-append h (e ∷ [])) ∙ played-own s js seat e (reverse h) (sym mine) in
    ap (λ (z : List Played). z ++ rest) more ∙ append_assoc (played s js seat (reverse h)) ((e, a) ∷ []) rest

module _ (s : Setup) (js : List Judge) (panics : ℕ → Bool) (works : List Work) where
  -- a seat that has begun had begun before its last entry
  begun-front : (w : Work) (h : List Entry) (e : Entry) → HasBegun s panics w (played s js (2 + w.cpu) (reverse (h ++ e ∷ []))) → HasBegun s panics w (played s js (2 + w.cpu) (reverse h))
  begun-front w h e (rest, plays) = go (same_or_not e.seat (2 + w.cpu))
    where
      back : reverse (h ++ e ∷ []) ≡ e ∷ reverse h
      back = reverse-append h (e ∷ [])

      go : (e.seat ≡ 2 + w.cpu) ⊎ (e.seat ≢ 2 + w.cpu) → HasBegun s panics w (played s js (2 + w.cpu) (reverse h))
      go (inl own) =
          let p : Played = (e, answer_at s js (reverse h) e e.act) in
          (p ∷ rest, subst (Plays s panics w) (played-more s js (2 + w.cpu) h e (sym own) rest) plays)
      go (inr other) =
          let is : played s js (2 + w.cpu) (reverse (h ++ e ∷ [])) ++ rest ≡ played s js (2 + w.cpu) (reverse h) ++ rest =
          ap (λ (z : List Entry). played s js (2 + w.cpu) z ++ rest) back ∙ ap (λ (z : List Played). z ++ rest) (played-other s js (2 + w.cpu) e (reverse h) other) in
          (rest, subst (Plays s panics w) is plays)

  -- a beginning without its last entry is one
  pub begins-front : (h : List Entry) (e : Entry) → IsBeginning s js panics works (h ++ e ∷ []) → IsBeginning s js panics works h
  begins-front h e b = record {
    sound = record {
      replays = at_each-front (FitsWords s js) h (e ∷ []) b.sound.replays;
      justified = at_each-front (λ before f. IsJustifiedBy f.act f.seat before) h (e ∷ []) b.sound.justified;
      permitted = at_each-front (λ before f. (f.seat < 67) × IsPermittedTo f.act f.seat) h (e ∷ []) b.sound.permitted;
    };
    cpus = λ k d lt. begun-front (get_or works k d) h e (b.cpus k d lt);
    nobody_else = at_each-front (λ before f. Any (λ w. f.seat ≡ 2 + w.cpu) works) h (e ∷ []) b.nobody_else;
  }

  -- nor does it need the entries behind a place
  pub begins-before : (rest h : List Entry) → IsBeginning s js panics works (h ++ rest) → IsBeginning s js panics works h
  begins-before [] h b = subst (IsBeginning s js panics works) (append-nil h) b
  begins-before (e ∷ rest) h b = begins-front h e (begins-before rest (h ++ e ∷ []) (subst (IsBeginning s js panics works) (sym (append_assoc h (e ∷ []) rest)) b))

  -- nobody has seat 1, where each seat is a CPU's
  no-acts : (h : List Entry) → AtEach (λ before e. Any (λ w. e.seat ≡ 2 + w.cpu) works) h → acts_of 1 h ≡ []
  no-acts [] all = refl
  no-acts (e ∷ h) all =
      let none : (e.seat == 1) ≡ false = high (all [] e h refl) in
      rw none (no-acts h (λ before f after eq. all (e ∷ before) f after (ap (λ (z : List Entry). e ∷ z) eq)))
    where
      high : Any (λ w. e.seat ≡ 2 + w.cpu) works → (e.seat == 1) ≡ false
      high (k, w, lt, at, is) = grind arith

  -- a beginning whose scripts are whole is legal
  pub begins-legal : (specs : List Spec) (h : List Entry) → IsBeginning s js panics works h → All (λ w. Plays s panics w (played s js (2 + w.cpu) (reverse h))) works → IsLegal (input_with s specs panics works []) js h
  begins-legal specs h b all = record {
    sound = b.sound;
    cpus = all;
    control = no-acts h b.nobody_else;
    nobody_else = at_each-weaker (λ before e. Any (λ w. e.seat ≡ 2 + w.cpu) works) (λ before e. (e.seat ≡ 1) ⊎ Any (λ w. e.seat ≡ 2 + w.cpu) works) (λ before e any. inr any) h b.nobody_else;
  }

  -- an entry of seat 1 is one of its acts
  has-act : (before : List Entry) (e : Entry) (after : List Entry) → e.seat ≡ 1 → acts_of 1 (before ++ e ∷ after) ≡ [] → ⊥
  has-act [] e after one none = (let y : (e.seat == 1) ≡ true = grind arith in let some : e.act ∷ acts_of 1 after ≡ [] = rw y at none in cc)
  has-act (f ∷ before) e after one none = go (has-act before e after one) (f.seat == 1) refl
    where
      go : (acts_of 1 (before ++ e ∷ after) ≡ [] → ⊥) → (b : Bool) → (f.seat == 1) ≡ b → ⊥
      go rest true y = (let some : f.act ∷ acts_of 1 (before ++ e ∷ after) ≡ [] = rw y at none in cc)
      go rest false n = rest (rw n at none)

  -- a legal history is a beginning
  pub legal-begins : (specs : List Spec) (h : List Entry) → IsLegal (input_with s specs panics works []) js h → IsBeginning s js panics works h
  legal-begins specs h l = record {
    sound = l.sound;
    cpus = λ k d lt. ([], subst (Plays s panics (get_or works k d)) (sym (append-nil (played s js (2 + (get_or works k d).cpu) (reverse h)))) (l.cpus k d lt));
    nobody_else = λ before e after eq. elim (l.nobody_else before e after eq) [
      | inl one ↦ absurd (has-act before e after one (ap (acts_of 1) (sym eq) ∙ l.control))
      | inr any ↦ any
    ];
  }
