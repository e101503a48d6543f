-- Journals with one more line.
use Rattle.std.proofs.Common.{◌≡◌, ℕ, Bool, true, false, List, [], ◌∷◌, ◌++◌, map, arith, refl, sym, ap, ◌∙◌, subst, All}
use Rattle.std.proofs.lemmas.List.{map-append}
use Rattle.std.proofs.lemmas.List.Elements.{All-nil, All-cons, All-head, All-tail, All-append}
use Rattle.rv_model.specs.declared.entry.Entry.{Entry}
use Rattle.rv_model.specs.declared.formula.Spec.{Spec}
use Rattle.rv_model.specs.Numbers.{has_bit}
use Rattle.rv_core.specs.Setup.{judges_of}
use Rattle.rv_journal.specs.EntryTexts.{entry_text, IsEntry}
use Rattle.rv_check.specs.Checker.{IsJournalOf, CheckerValue, IsBegun, IsWhole, IsGoodJournal, IsBad, IsChecker}
use Rattle.rv_check.specs.Run.{RunValue, BeginsRun}
use Rattle.rv_check.specs.inner.Standing.{AllPlayed}
use Rattle.rv_check.proofs.BeginningLemmas.{begins-front, begins-legal, legal-begins}

-- the entries of lines and one more
pub record Last (lines : List (List ℕ)) (line : List ℕ) (h : List Entry) : Type 0 where
  pub front : List Entry
  pub entry : Entry
  pub is : h ≡ front ++ entry ∷ []
  pub journal : IsJournalOf lines front
  pub fits : IsEntry entry
  pub text : entry_text entry ≡ line

-- a journal of one more line
pub last-line : (lines : List (List ℕ)) (line : List ℕ) (h : List Entry) → All IsEntry h → map entry_text h ≡ lines ++ line ∷ [] → Last lines line h
last-line [] line [] all is = absurd (let none : [] ≡ line ∷ [] = is in cc)
last-line [] line (e ∷ []) all is = record { front = []; entry = e; is = refl; journal = record { entries = All-tail IsEntry e [] all; texts = refl }; fits = All-head IsEntry e [] all; text = cc }
last-line [] line (e ∷ f ∷ h) all is = absurd (let none : entry_text e ∷ entry_text f ∷ map entry_text h ≡ line ∷ [] = is in let two : entry_text f ∷ map entry_text h ≡ [] = cc in cc)
last-line (x ∷ lines) line [] all is = absurd (let none : [] ≡ x ∷ (lines ++ line ∷ []) = is in cc)
last-line (x ∷ lines) line (e ∷ h) all is =
    let tail : map entry_text h ≡ lines ++ line ∷ [] = cc in
    let head : entry_text e ≡ x = cc in
    let l = last-line lines line h (All-tail IsEntry e h all) tail in
    record {
      front = e ∷ l.front;
      entry = l.entry;
      is = ap (λ (z : List Entry). e ∷ z) l.is;
      journal = record { entries = All-cons IsEntry e l.front (All-head IsEntry e h all) l.journal.entries; texts = cc (l.journal.texts) };
      fits = l.fits;
      text = l.text;
    }

-- one more line
pub journal-more : (lines : List (List ℕ)) (line : List ℕ) (h : List Entry) (e : Entry) → IsJournalOf lines h → IsEntry e → entry_text e ≡ line → IsJournalOf (lines ++ line ∷ []) (h ++ e ∷ [])
journal-more lines line h e j fits text = record {
  entries = All-append IsEntry h (e ∷ []) j.entries (All-cons IsEntry e [] fits (All-nil IsEntry));
  texts = map-append entry_text h (e ∷ []) ∙ ap (λ (z : List (List ℕ)). z ++ entry_text e ∷ []) j.texts ∙ ap (λ (l : List ℕ). lines ++ l ∷ []) text;
}

-- ---- the checker
module _ (r : RunValue) (lines : List (List ℕ)) (line : List ℕ) where
  -- lines of no beginning are those of none with one more
  pub bad-stays : IsBad r lines → IsBad r (lines ++ line ∷ [])
  bad-stays bad h j b =
      let l = last-line lines line h j.entries j.texts in
      bad l.front l.journal (begins-front r.setup (judges_of r.setup) (has_bit r.panics) r.works l.front l.entry (subst (BeginsRun r) l.is b))

  -- a line of no entry
  pub bad-line : ((e : Entry) → IsEntry e → entry_text e ≡ line → ⊥) → IsBad r (lines ++ line ∷ [])
  bad-line none h j b = let l = last-line lines line h j.entries j.texts in none l.entry l.fits l.text

  module _ (good : IsGoodJournal r lines) (e : Entry) (every : (f : Entry) → IsEntry f → entry_text f ≡ line → f ≡ e) where
    -- every journal goes on with this entry
    goes-on : (h : List Entry) → IsJournalOf (lines ++ line ∷ []) h → h ≡ r.history ++ e ∷ []
    goes-on h j =
        let l = last-line lines line h j.entries j.texts in
        l.is ∙ ap (λ (z : List Entry). z ++ l.entry ∷ []) (good.only l.front l.journal) ∙ ap (λ (f : Entry). r.history ++ f ∷ []) (every l.entry l.fits l.text)

    -- the entry does not go on with the beginning
    pub bad-entry : (BeginsRun r (r.history ++ e ∷ []) → ⊥) → IsBad r (lines ++ line ∷ [])
    bad-entry no-more h j b = no-more (subst (BeginsRun r) (goes-on h j) b)

    -- it does
    pub good-entry : IsEntry e → entry_text e ≡ line → BeginsRun r (r.history ++ e ∷ []) → IsGoodJournal (record r { history = r.history ++ e ∷ [] }) (lines ++ line ∷ [])
    good-entry fits text b = record { journal = journal-more lines line r.history e good.journal fits text; only = goes-on; begins = b }

-- no line yet
pub good-none : (r : RunValue) → r.history ≡ [] → BeginsRun r r.history → IsGoodJournal r []
good-none r none b = record {
  journal = record { entries = subst (All IsEntry) (sym none) (λ k d lt. absurd (omega arith)); texts = ap (map entry_text) none };
  only = λ h j. nothing h j.texts ∙ sym none;
  begins = b;
}
  where
    nothing : (h : List Entry) → map entry_text h ≡ [] → h ≡ []
    nothing [] is = refl
    nothing (e ∷ h) is = absurd (let some : entry_text e ∷ map entry_text h ≡ [] = is in cc)

-- ---- what it answers
module _ (r : RunValue) (lines : List (List ℕ)) where
  -- the checker that has these lines
  abbrev pub value : CheckerValue
  value = record { setup = r.setup; panics = r.panics; works = r.works; lines = lines }

  -- where it is good, its lines have begun
  pub checker-begun : (good : Bool) → IsChecker r good lines → good ≡ true → IsBegun value
  checker-begun true k is = (r.history, k.journal, k.begins)
  checker-begun false k is = absurd (cc)

  -- where its lines have begun, it is good
  pub begun-checker : (good : Bool) → IsChecker r good lines → IsBegun value → good ≡ true
  begun-checker true k b = refl
  begun-checker false k (h, j, b) = absurd (k h j b)

  -- where it is good and all scripts are played, its lines are whole
  pub checker-whole : (specs : List Spec) → IsGoodJournal r lines → AllPlayed r → IsWhole value specs
  checker-whole specs k all = (r.history, k.journal, begins-legal r.setup (judges_of r.setup) (has_bit r.panics) r.works specs r.history k.begins all)

  -- where its lines are whole, it is good
  pub whole-good : (specs : List Spec) (good : Bool) → IsChecker r good lines → IsWhole value specs → good ≡ true
  whole-good specs good k (h, j, l) = begun-checker good k (h, j, legal-begins r.setup (judges_of r.setup) (has_bit r.panics) r.works specs h l)

  -- where its lines are good and whole, all scripts are played
  pub whole-played : (specs : List Spec) → IsGoodJournal r lines → IsWhole value specs → AllPlayed r
  whole-played specs k (h, j, l) = subst (λ (z : List Entry). AllPlayed (record r { history = z })) (k.only h j) l.cpus

-- a checker that has begun had begun before its last line
pub begun-before : (v : CheckerValue) (line : List ℕ) → IsBegun (record v { lines = v.lines ++ line ∷ [] }) → IsBegun v
begun-before v line (h, j, b) =
    let l = last-line v.lines line h j.entries j.texts in
    (l.front, l.journal, begins-front v.setup (judges_of v.setup) (has_bit v.panics) v.works l.front l.entry (subst (BeginsRun (record { setup = v.setup; panics = v.panics; works = v.works; history = [] })) l.is b))
