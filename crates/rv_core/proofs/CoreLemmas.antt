-- One act keeps what the machine keeps, and its answer is the model's.
use Rattle.std.proofs.Common.{◌≡◌, ◌≢◌, ℕ, ◌+◌, ◌^◌, ◌<◌, Bool, inl, inr, List, [], ◌∷◌, ◌++◌, length, get_or, set, arith, refl, sym, ap, ◌∙◌, subst, get_or-set_same, get_or-set_other, length-set, reverse, sum}
use Rattle.std.proofs.lemmas.List.{get_or_default, get_or-map, reverse-append}
use Rattle.std.proofs.lemmas.List.Elements.{All-get_or}
use Rattle.rv_model.specs.declared.entry.Act.{Act}
use Rattle.rv_model.specs.declared.entry.Act.TheVariants.{Deliver, Stop, Look, Raise, Lower, Clear, End}
use Rattle.rv_model.specs.declared.entry.Entry.{Entry}
use Rattle.rv_model.specs.declared.entry.Answer.TheVariants.{Looked}
use Rattle.rv_model.specs.Numbers.{number_of}
use Rattle.rv_model.specs.Table.{Table}
use Rattle.rv_model.specs.Judging.{Judge, JudgesByTable}
use Rattle.rv_model.specs.Stepping.{IsTable, table_judge}
use Rattle.rv_model.specs.Phases.{Phase, level, answer_to}
use Rattle.rv_model.specs.SharedWords.{switch, switches_of, packed, slot_word, word_of, word_on, answer_at}
use Rattle.rv_model.specs.Setups.{Setup, monitor_of, judge_of, start_of}
use Rattle.rv_model.specs.Histories.{FitsWords}
use Rattle.rv_model.proofs.CutLemmas.{at_each-snoc}
use Rattle.rv_model.proofs.TableJudgeLemmas.{every_table_is_judged}
use Rattle.rv_core.specs.Advance.{acted}
use Rattle.rv_core.specs.Setup.{IsSetup, ActFits, FitsAct, word_index, table_at, no_table, table_of_act, start_of_act, judges_of}
use Rattle.rv_core.specs.Core.{IsCore, IsLive, slot_phase}
use Rattle.rv_core.proofs.PlaceLemmas.{monitor_of-lt}
use Rattle.rv_core.proofs.SwitchLemmas.{switch-acted, switch-other}
use Rattle.rv_core.proofs.WordLemmas.{acted-same, live-same, deliver-answer, packed-other, phase_after-other}
use Rattle.rv_core.proofs.ActLemmas.{acted-at, acts-on, place-below, same_or_not}

-- the entry of an act
abbrev entry_of : ℕ → Act → ℕ → ℕ → Entry
entry_of seat act before after = record { seat = seat; act = act; before = before; after = after }

module _ (s : Setup) (k : IsSetup s) where
  -- the table of a slot is a table
  pub table_at-is : (i : ℕ) → i < sum s.shape → IsTable (table_at s i)
  table_at-is i lt = All-get_or IsTable s.tables (monitor_of s.shape i) no_table (let m = monitor_of-lt s.shape i lt in let n = k.fits.many in omega arith) k.are_tables

  -- its own judge judges by its paths
  judges-it : (i : ℕ) → i < sum s.shape → JudgesByTable (table_at s i) (table_judge (table_at s i))
  judges-it i lt = every_table_is_judged (table_at s i) (table_at-is i lt)

  -- which is the judge of the slot
  pub judge-at : (i : ℕ) → i < sum s.shape → judge_of s (judges_of s) i ≡ table_judge (table_at s i)
  judge-at i lt = get_or-map table_judge s.tables (monitor_of s.shape i) no_table _ (let m = monitor_of-lt s.shape i lt in let n = k.fits.many in omega arith)

  -- a slot's word by its own judge
  pub word_of-is : (past : List Entry) (i : ℕ) → i < sum s.shape → word_of s (judges_of s) past i ≡ slot_word (table_judge (table_at s i)) (start_of s i) past i
  word_of-is past i lt = ap (λ (j : Judge). slot_word j (start_of s i) past i) (judge-at i lt)

  -- the word at an act's place is the word that the act is on
  pub word_on-is : (words : List ℕ) (past : List Entry) → get_or words 0 0 ≡ switches_of s.switches past → ((i : ℕ) → i < sum s.shape → get_or words (i + 1) 0 ≡ word_of s (judges_of s) past i) → (act : Act) → FitsAct s act → get_or words (word_index act) 0 ≡ word_on s (judges_of s) past act
  word_on-is words past sw w (Deliver slot hit) f = w slot f.0
  word_on-is words past sw w (Stop slot) f = w slot f
  word_on-is words past sw w (Clear slot) f = w slot f
  word_on-is words past sw w (End slot) f = w slot f
  word_on-is words past sw w Look f = sw
  word_on-is words past sw w (Raise _) f = sw
  word_on-is words past sw w (Lower _) f = sw

  -- the answer is the one that the past gives
  answer-is : (past : List Entry) (seat before after : ℕ) (act : Act) → FitsAct s act → ActFits s act
      → ((i : ℕ) → i < sum s.shape → IsLive (table_judge (table_at s i)) (slot_phase s past i))
      → before ≡ word_on s (judges_of s) past act → after ≡ (acted (table_of_act s act) (start_of_act s act) before act).1
      → (acted (table_of_act s act) (start_of_act s act) before act).0 ≡ answer_at s (judges_of s) past (entry_of seat act before after) act
  answer-is past seat before after (Deliver slot hit) f b live w a =
      let t : Table = table_at s slot in
      let j : Judge = table_judge t in
      let e : Entry = entry_of seat (Deliver slot hit) before after in
      let was : before ≡ slot_word j (start_of s slot) past slot = w ∙ word_of-is past slot f.0 in
      ap (λ (n : ℕ). (acted t 0 n (Deliver slot hit)).0) was
      ∙ deliver-answer t (table_at-is slot f.0) j (judges-it slot f.0) (start_of s slot) (level (start_of s slot) past slot) slot hit (slot_phase s past slot) (acts-on s slot (Deliver slot hit) f b refl) (live slot f.0)
      ∙ sym (ap (λ (v : Judge). answer_to v (start_of s slot) past e (Deliver slot hit)) (judge-at slot f.0))
  answer-is past seat before after (Stop slot) f b live w a = refl
  answer-is past seat before after (Clear slot) f b live w a = refl
  answer-is past seat before after (End slot) f b live w a = refl
  answer-is past seat before after Look f b live w a = ap Looked (sym a)
  answer-is past seat before after (Raise _) f b live w a = refl
  answer-is past seat before after (Lower _) f b live w a = refl

-- ---- one act
module _ (s : Setup) (words : List ℕ) (h : List Entry) (k : IsCore s words h)
    (seat : ℕ) (act : Act) (before after : ℕ) (fits : FitsAct s act) (bits : ActFits s act)
    (read : before ≡ get_or words (word_index act) before) (after_is : after ≡ (acted (table_of_act s act) (start_of_act s act) before act).1) (after_fits : after < 2 ^ 64) where
  -- the entry of this act
  abbrev e : Entry
  e = entry_of seat act before after

  -- the entries before it, the newest first
  abbrev past : List Entry
  past = reverse h

  -- the place of the word that the act is on
  abbrev place : ℕ
  place = word_index act

  -- it is a place of the words
  in_words : place < length words
  in_words = let b = place-below s act fits in let c = k.count in omega arith

  -- the word that was read stands there
  before_is : before ≡ get_or words place 0
  before_is = read ∙ get_or_default words place before 0 in_words

  -- afterwards the act's word stands there
  at_place : get_or (set words place after) place 0 ≡ after
  at_place = let h = in_words in rw get_or-set_same refl

  -- the first word is that of the switches after the act
  switches_are : get_or (set words place after) 0 0 ≡ switches_of s.switches (e ∷ past)
  switches_are =
      elim (same_or_not place 0) [
        | inl none ↦
            let was : before ≡ switches_of s.switches past = before_is ∙ ap (λ n. get_or words n 0) none ∙ k.switches_are in
            let is : after ≡ (acted (table_of_act s act) (start_of_act s act) (switches_of s.switches past) act).1 = after_is ∙ ap (λ w. (acted (table_of_act s act) (start_of_act s act) w act).1) was in
            let P : ℕ → Type 0 = λ n. n < 2 ^ 64 in
            ap (λ n. get_or (set words place after) n 0) (sym none) ∙ at_place ∙ is ∙ switch-acted s (table_of_act s act) (start_of_act s act) act (switch s.switches past) bits none (subst P is after_fits)
        | inr other ↦
            let n : 0 ≢ place = λ h. other (sym h) in
            rw get_or-set_other (k.switches_are ∙ sym (switch-other act (switch s.switches past) other))
      ]

  -- the words of the slots after the act
  slot_is : (i : ℕ) → i < sum s.shape → get_or (set words place after) (i + 1) 0 ≡ word_of s (judges_of s) (e ∷ past) i
  slot_is i lt =
      let t : Table = table_at s i in
      let j : Judge = table_judge t in
      let start : ℕ = start_of s i in
      let p : Phase = slot_phase s past i in
      let was : ℕ → Bool = level start past i in
      let had : get_or words (i + 1) 0 ≡ packed j (number_of was 32) p = k.words_are i lt ∙ word_of-is s k.is_setup past i lt in
      let has = word_of-is s k.is_setup (e ∷ past) i lt in
      elim (same_or_not place (i + 1)) [
        | inl same ↦
            let found : before ≡ packed j (number_of was 32) p = before_is ∙ ap (λ n. get_or words n 0) same ∙ had in
            ap (λ n. get_or (set words place after) n 0) (sym same) ∙ at_place ∙ after_is
            ∙ ap (λ w. (acted (table_of_act s act) (start_of_act s act) w act).1) found
            ∙ acted-at s (packed j (number_of was 32) p) i act same
            ∙ acted-same t (table_at-is s k.is_setup i lt) j (judges-it s k.is_setup i lt) start was i act p (acts-on s i act fits bits same) (k.live i lt) same
            ∙ sym has
        | inr other ↦
            let n : i + 1 ≢ place = λ h. other (sym h) in
            rw get_or-set_other (had ∙ sym (packed-other j start was i act p other) ∙ sym has)
      ]

  -- and what runs then
  live_is : (i : ℕ) → i < sum s.shape → IsLive (table_judge (table_at s i)) (slot_phase s (e ∷ past) i)
  live_is i lt =
      let j : Judge = table_judge (table_at s i) in
      let on : ℕ → Bool = level (start_of s i) (e ∷ past) i in
      elim (same_or_not place (i + 1)) [
        | inl same ↦ live-same (table_at s i) (table_at-is s k.is_setup i lt) j (judges-it s k.is_setup i lt) (start_of s i) on i act (slot_phase s past i) (acts-on s i act fits bits same) (k.live i lt) same
        | inr other ↦ subst (IsLive j) (sym (phase_after-other j on i act (slot_phase s past i) other)) (k.live i lt)
      ]

  -- the entry has the words that the past gives
  pub fits-words : FitsWords s (judges_of s) h e
  fits-words = record {
    found = before_is ∙ word_on-is s k.is_setup words past k.switches_are k.words_are act fits;
    left = sym at_place ∙ word_on-is s k.is_setup (set words place after) (e ∷ past) switches_are slot_is act fits;
  }

  -- the history that ends with the entry begins with it when it is read backwards
  back : reverse (h ++ e ∷ []) ≡ e ∷ reverse h
  back = reverse-append h (e ∷ [])

  -- what the machine keeps holds after the act, with the entry in the history
  pub core-after : IsCore s (set words place after) (h ++ e ∷ [])
  core-after = record {
    is_setup = k.is_setup;
    count = rw length-set k.count;
    live = rw back live_is;
    switches_are = rw back switches_are;
    words_are = rw back slot_is;
    replays = at_each-snoc (FitsWords s (judges_of s)) h e k.replays fits-words;
  }

  -- its answer is the one that the past gives
  pub core-answer : (acted (table_of_act s act) (start_of_act s act) before act).0 ≡ answer_at s (judges_of s) past e act
  core-answer = answer-is s k.is_setup past seat before after act fits bits k.live (before_is ∙ word_on-is s k.is_setup words past k.switches_are k.words_are act fits) after_is
