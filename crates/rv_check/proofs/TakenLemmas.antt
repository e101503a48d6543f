-- An entry that is allowed, with the machine's words, is taken.
use Rattle.std.proofs.Common.{◌≡◌, ◌≢◌, ℕ, ◌+◌, ◌^◌, ◌<◌, ◌⊎◌, inl, inr, true, ◌==◌, List, [], ◌∷◌, ◌++◌, length, reverse, get_or, set, arith, refl, sym, ap, ◌∙◌, subst}
use Rattle.std.specs.Prelude.{Any}
use Rattle.std.proofs.lemmas.List.{reverse-append, get_or_default}
use Rattle.rv_model.specs.declared.entry.Act.{Act}
use Rattle.rv_model.specs.declared.entry.Act.TheVariants.{Look}
use Rattle.rv_model.specs.declared.entry.Answer.{Answer}
use Rattle.rv_model.specs.declared.entry.Answer.TheVariants.{Looked}
use Rattle.rv_model.specs.declared.entry.Entry.{Entry}
use Rattle.rv_model.specs.Cuts.{AtEach}
use Rattle.rv_model.specs.Histories.{IsJustifiedBy, IsPermittedTo, IsSound}
use Rattle.rv_model.specs.Numbers.{has_bit}
use Rattle.rv_model.specs.Scripts.{Played, played, Plays}
use Rattle.rv_model.specs.Setups.{Setup}
use Rattle.rv_model.specs.SharedWords.{answer_at}
use Rattle.rv_model.specs.Works.{Work}
use Rattle.rv_model.proofs.CutLemmas.{at_each-snoc}
use Rattle.rv_model.proofs.ScriptLemmas.{played-other}
use Rattle.rv_core.specs.Advance.{acted}
use Rattle.rv_core.specs.Core.{IsCore}
use Rattle.rv_core.specs.Setup.{ActFits, FitsAct, word_index, table_of_act, start_of_act, judges_of}
use Rattle.rv_core.proofs.CoreLemmas.{core-after, core-answer}
use Rattle.rv_check.specs.declared.next.Next.{Next}
use Rattle.rv_check.specs.declared.next.Next.TheVariants as next
use Rattle.rv_check.specs.inner.Nexts.{HasNoLostTry, Allows, Moves, CountsLostTries, after_other}
use Rattle.rv_check.specs.inner.Standing.{Stands, IsRun}
use Rattle.rv_check.proofs.ServeLemmas.{look-is}
use Rattle.rv_check.proofs.BeginningLemmas.{played-more}
use Rattle.rv_check.proofs.MoveLemmas.{may-after, moves-on}
use Rattle.rv_check.proofs.RunLemmas.{IsAt, stand-at, fits-at}
use Rattle.rv_check.proofs.WatchedLemmas.{after_other-next, after_other-may, may-after_other, after_other-counted}
use Rattle.rv_check.proofs.AllowedLemmas.{allowed-fits, allowed-earned, allowed-held}

-- equal or not
same_or_not : (a b : ℕ) → (a ≡ b) ⊎ (a ≢ b)
same_or_not a b = grind arith

module _ {s : Setup} {panics : ℕ} {works : List Work} {words : List ℕ} {nexts : List Next} {h : List Entry} (run : IsRun s panics works words nexts h)
    (e : Entry) {k : ℕ} {w : Work} {n : Next} (at : IsAt works nexts k w n) (mine : 2 + w.cpu ≡ e.seat) where
  -- the answer of the entry's act behind the history
  abbrev a : Answer
  a = answer_at s (judges_of s) (reverse h) e e.act

  -- its past has the entry first
  back : reverse (h ++ e ∷ []) ≡ e ∷ reverse h
  back = reverse-append h (e ∷ [])

  -- the entry is added
  module _ (allowed : Allows w n e.act) (bits : ActFits s e.act) (read : e.before ≡ get_or words (word_index e.act) e.before) (range : e.after < 2 ^ 64)
      (after_is : e.after ≡ (acted (table_of_act s e.act) (start_of_act s e.act) e.before e.act).1)
      (m : Next) (moves : Moves s (has_bit panics) w n e.after (acted (table_of_act s e.act) (start_of_act s e.act) e.before e.act).0 m)
      (nexts' : List Next) (count : length nexts' ≡ length works) (m_is : get_or nexts' k next.Over ≡ m)
      (others : (j : ℕ) → j < length works → j ≢ k → get_or nexts' j next.Over ≡ after_other e (get_or nexts j next.Over)) where
    -- it fits the machine
    fits : FitsAct s e.act
    fits = allowed-fits s w n (stand-at run at).is_next e.act allowed

    -- whose words are those of the longer history
    core : IsCore s (set words (word_index e.act) e.after) (h ++ e ∷ [])
    core = core-after s words h run.core e.seat e.act e.before e.after fits bits read after_is range

    -- what is next is told by its answer
    moves-here : Moves s (has_bit panics) w n e.after a m
    moves-here = subst (λ (x : Answer). Moves s (has_bit panics) w n e.after x m) (core-answer s words h run.core e.seat e.act e.before e.after fits bits read after_is range) moves

    -- it has the tries that it needs
    earned : IsJustifiedBy e.act e.seat h
    earned = subst (λ (i : ℕ). IsJustifiedBy e.act i h) mine (allowed-earned w (2 + w.cpu) h n (stand-at run at).counted e.act allowed)

    -- its seat may do it
    held : IsPermittedTo e.act e.seat
    held = allowed-held w e.seat n e.act allowed

    -- its seat is that of a CPU
    low : e.seat < 67
    low = let c = (fits-at run at).cpu in omega arith

    -- the longer history is sound
    sound : IsSound s (judges_of s) (h ++ e ∷ [])
    sound = record {
      replays = core.replays;
      justified = at_each-snoc (λ before e. IsJustifiedBy e.act e.seat before) h e run.sound.justified earned;
      permitted = at_each-snoc (λ before e. (e.seat < 67) × IsPermittedTo e.act e.seat) h e run.sound.permitted (low, held);
    }

    -- each entry is a work's
    nobody_else : AtEach (λ before e. Any (λ w. e.seat ≡ 2 + w.cpu) works) (h ++ e ∷ [])
    nobody_else = at_each-snoc (λ before e. Any (λ w. e.seat ≡ 2 + w.cpu) works) h e run.nobody_else (k, w, at.inside, sym at.work, sym mine)

    -- a look tells the word behind it
    shows : Allows w n e.act → (x : Answer) → x ≡ a → e.act ≡ Look → x ≡ Looked e.after
    shows _ x is act = is ∙ ap (λ (z : Act). answer_at s (judges_of s) (reverse h) e z) act

    -- what is new has lost no try
    fresh-counted : (x : Next) → HasNoLostTry x → CountsLostTries (2 + w.cpu) (e ∷ reverse h) x
    fresh-counted (next.Look turn) f = tt
    fresh-counted (next.Deliver due) f =
        let y : (e.seat == 2 + w.cpu) ≡ true = grind arith in
        rw y (record { most = omega arith; below = λ lt. f; enough = λ three. absurd (omega arith) })
    fresh-counted next.Raise f = tt
    fresh-counted next.Over f = tt

    -- its own script stands where it says
    mine-stands : Stands s (judges_of s) (has_bit panics) (h ++ e ∷ []) w m
    mine-stands =
        let on = moves-on s (has_bit panics) w n m e.after a moves-here in
        let after = λ (ps : List Played). may-after s (has_bit panics) w e a e.after ps n m (stand-at run at).is_next allowed (λ look. shows allowed a refl (look-is e.act look)) moves-here in
        record {
          is_next = on.0;
          counted = subst (λ (z : List Entry). CountsLostTries (2 + w.cpu) z m) (sym back) (fresh-counted m on.1);
          may = λ ps plays. (after ps).0 ((stand-at run at).may ((e, a) ∷ ps) (subst (Plays s (has_bit panics) w) (played-more s (judges_of s) (2 + w.cpu) h e mine ps) plays));
          only = λ ps may. subst (Plays s (has_bit panics) w) (sym (played-more s (judges_of s) (2 + w.cpu) h e mine ps)) ((stand-at run at).only ((e, a) ∷ ps) ((after ps).1 may));
        }

    -- and so do the others
    other-stands : (j : ℕ) (d : Work) → j < length works → j ≢ k → Stands s (judges_of s) (has_bit panics) (h ++ e ∷ []) (get_or works j d) (after_other e (get_or nexts j next.Over))
    other-stands j d lj ne =
        let v : Work = get_or works j d in
        let x : Next = get_or nexts j next.Over in
        let was = run.stand j d lj in
        let apart : v.cpu ≡ w.cpu → ⊥ = λ same. cpus-apart j d lj ne same in
        let other : e.seat ≢ 2 + v.cpu = λ is. apart (omega arith) in
        let same : played s (judges_of s) (2 + v.cpu) (reverse (h ++ e ∷ [])) ≡ played s (judges_of s) (2 + v.cpu) (reverse h) = ap (played s (judges_of s) (2 + v.cpu)) back ∙ played-other s (judges_of s) (2 + v.cpu) e (reverse h) other in
        record {
          is_next = after_other-next s v e x was.is_next;
          counted = subst (λ (z : List Entry). CountsLostTries (2 + v.cpu) z (after_other e x)) (sym back) (after_other-counted s v e (2 + v.cpu) (reverse h) x other was.counted);
          may = λ ps plays. after_other-may s v e (has_bit panics) x ps (was.may ps (subst (λ (z : List Played). Plays s (has_bit panics) v (z ++ ps)) same plays));
          only = λ ps may. subst (λ (z : List Played). Plays s (has_bit panics) v (z ++ ps)) (sym same) (was.only ps (may-after_other s v e (has_bit panics) x ps may));
        }
      where
        three : (i j : ℕ) → (i < j) ⊎ ((i ≡ j) ⊎ (j < i))
        three i j = grind arith

        cpus-apart : (j : ℕ) (d : Work) → j < length works → j ≢ k → (get_or works j d).cpu ≡ w.cpu → ⊥
        cpus-apart j d lj ne same = go (three j k)
          where
            is : w ≡ get_or works k d
            is = at.work ∙ get_or_default works k w d at.inside

            go : (j < k) ⊎ ((j ≡ k) ⊎ (k < j)) → ⊥
            go (inl below) = run.fit.apart j k d below at.inside (same ∙ ap (λ (x : Work). x.cpu) is)
            go (inr (inl here)) = ne here
            go (inr (inr above)) = run.fit.apart k j d above lj (sym (same ∙ ap (λ (x : Work). x.cpu) is))

    -- the longer history has begun too
    pub run-takes : IsRun s panics works (set words (word_index e.act) e.after) nexts' (h ++ e ∷ [])
    run-takes = record {
      core = core;
      fit = run.fit;
      count = count;
      stand = λ j d lj. elim (same_or_not j k) [
        | inl here ↦
            let is : w ≡ get_or works j d = at.work ∙ get_or_default works k w d at.inside ∙ ap (λ (i : ℕ). get_or works i d) (sym here) in
            let there : m ≡ get_or nexts' j next.Over = sym m_is ∙ ap (λ (i : ℕ). get_or nexts' i next.Over) (sym here) in
            subst (λ (x : Next). Stands s (judges_of s) (has_bit panics) (h ++ e ∷ []) (get_or works j d) x) there (subst (λ (v : Work). Stands s (judges_of s) (has_bit panics) (h ++ e ∷ []) v m) is mine-stands)
        | inr ne ↦ subst (λ (x : Next). Stands s (judges_of s) (has_bit panics) (h ++ e ∷ []) (get_or works j d) x) (sym (others j lj ne)) (other-stands j d lj ne)
      ];
      sound = sound;
      nobody_else = nobody_else;
    }
