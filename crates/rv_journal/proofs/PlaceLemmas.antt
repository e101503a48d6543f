-- What a merged history gains by one entry more: words that fit, and Stops that are justified.
use Rattle.std.proofs.Common.{◌≡◌, ◌≢◌, ℕ, ◌+◌, Bool, true, false, List, [], ◌∷◌, ◌++◌, length, map, reverse, refl, sym, ap, ◌∙◌, subst, arith, append_assoc}
use Rattle.std.specs.Prelude.{filter}
use Rattle.std.proofs.lemmas.Bool.Decides.{nat_tests}
use Rattle.std.proofs.lemmas.List.{length-map}
use Rattle.std.proofs.lemmas.List.Elements.{filter-append}
use Rattle.rv_model.specs.declared.entry.Act.{Act}
use Rattle.rv_model.specs.declared.entry.Act.TheVariants.{Deliver, Stop, Look, Raise, Lower, Clear, End}
use Rattle.rv_model.specs.declared.entry.Entry.{Entry}
use Rattle.rv_model.specs.Cuts.{AtEach}
use Rattle.rv_model.specs.Histories.{FitsWords, IsJustifiedBy, IsPermittedTo, NoneOf, changed}
use Rattle.rv_model.specs.Setups.{Setup}
use Rattle.rv_model.specs.SharedWords.{word_of}
use Rattle.rv_core.specs.Advance.{acted}
use Rattle.rv_core.specs.Setup.{IsSetup, judges_of, table_at}
use Rattle.rv_model.specs.Setups.{start_of}
use Rattle.rv_board.specs.inner.Rule.{IsMachine}
use Rattle.rv_board.proofs.SoundLemmas.{filter_append}
use Rattle.rv_journal.specs.declared.counted.Counted.{Counted}
use Rattle.rv_journal.specs.MergeSteps.{slot_in, changes_on}
use Rattle.rv_journal.specs.MergeStates.{entries_in}
use Rattle.rv_journal.specs.inner.MergeStates.{Mark, mark, items_in, entry_in, IsItemAct, IsMergedAct, IsKnownItem, Divides, LastBy}
use Rattle.rv_journal.proofs.ItemLemmas.{by-item}
use Rattle.rv_journal.proofs.MarkLemmas.{cut_alike, filter_yes, filter_no}
use Rattle.rv_journal.proofs.SlotActLemmas.{on-slot_in, word-after}
use Rattle.rv_journal.proofs.MergeWordLemmas.{same-word, switches-are}

-- ---- the changes before an item

-- the entries of what is filtered
pub entries-filter : (slot : ℕ) (marks : List Mark) → entries_in (items_in (filter (λ m. changed slot (entry_in m)) marks)) ≡ filter (changed slot) (entries_in (items_in marks))
entries-filter slot [] = refl
entries-filter slot (m ∷ marks) = go (changed slot (entry_in m)) refl (entries-filter slot marks)
  where
    go : (b : Bool) → changed slot (entry_in m) ≡ b → entries_in (items_in (filter (λ m. changed slot (entry_in m)) marks)) ≡ filter (changed slot) (entries_in (items_in marks))
        → entries_in (items_in (filter (λ m. changed slot (entry_in m)) (m ∷ marks))) ≡ filter (changed slot) (entries_in (items_in (m ∷ marks)))
    go true y rest = ap (λ (z : List Mark). entries_in (items_in z)) (filter_yes (λ m. changed slot (entry_in m)) m marks y) ∙ (ap (λ (z : List Entry). entry_in m ∷ z) rest ∙ sym (filter_yes (changed slot) (entry_in m) (entries_in (items_in marks)) y))
    go false n rest = ap (λ (z : List Mark). entries_in (items_in z)) (filter_no (λ m. changed slot (entry_in m)) m marks n) ∙ (rest ∙ sym (filter_no (changed slot) (entry_in m) (entries_in (items_in marks)) n))

-- and their number
pub changes-marks : (slot : ℕ) (marks : List Mark) → length (filter (λ m. changed slot (entry_in m)) marks) ≡ changes_on slot (entries_in (items_in marks))
changes-marks slot marks =
    sym (length-map (filter (λ m. changed slot (entry_in m)) marks) (λ (m : Mark). m.item))
    ∙ (sym (length-map (items_in (filter (λ m. changed slot (entry_in m)) marks)) (λ (c : Counted). c.entry)) ∙ ap length (entries-filter slot marks))

-- the items of marks that are all alike
pub marked-items : (placed : Bool) (items : List Counted) → items_in (map (mark placed) items) ≡ items
marked-items placed [] = refl
marked-items placed (c ∷ items) = ap (λ (z : List Counted). c ∷ z) (marked-items placed items)

-- as many changes are those that are placed
pub same-changes : (slot : ℕ) (history : List Entry) (front back : List Mark) → (d : Divides slot history (front ++ back)) → changes_on slot (entries_in (items_in front)) ≡ changes_on slot history
    → (filter (λ m. changed slot (entry_in m)) front ≡ map (mark true) d.done) × (filter (λ m. changed slot (entry_in m)) back ≡ map (mark false) d.todo)
same-changes slot history front back d many =
    let parts = sym (filter-append (λ m. changed slot (entry_in m)) front back) ∙ d.marks_are in
    let count : length d.done ≡ changes_on slot history = sym (length-map d.done (λ (c : Counted). c.entry)) ∙ sym (ap length d.history_is) in
    cut_alike (filter (λ m. changed slot (entry_in m)) front) (filter (λ m. changed slot (entry_in m)) back) (map (mark true) d.done) (map (mark false) d.todo) parts
    (changes-marks slot front ∙ (many ∙ (sym count ∙ sym (length-map d.done (mark true)))))

-- so the entries are
pub same-entries : (slot : ℕ) (history : List Entry) (front back : List Mark) → Divides slot history (front ++ back) → changes_on slot (entries_in (items_in front)) ≡ changes_on slot history
    → filter (changed slot) history ≡ filter (changed slot) (entries_in (items_in front))
same-entries slot history front back d many =
    let front_is = (same-changes slot history front back d many).0 in
    d.history_is ∙ (ap entries_in (sym (marked-items true d.done)) ∙ (ap (λ (z : List Mark). entries_in (items_in z)) (sym front_is) ∙ entries-filter slot front))

-- ---- words

-- an item's entry fits where its slot has the same changes as before it in the whole list
pub fits-there : (s : Setup) (before history : List Entry) (c : Counted) → IsKnownItem s before c → (all : (AtEach (FitsWords s (judges_of s)) before)) → IsMachine s history → AtEach (FitsWords s (judges_of s)) history
    → filter (changed (slot_in c.entry.act)) history ≡ filter (changed (slot_in c.entry.act)) before → FitsWords s (judges_of s) history c.entry
fits-there s before history c t all m replays same =
    let slot : ℕ = slot_in c.entry.act in
    let word : word_of s (judges_of s) (reverse history) slot ≡ word_of s (judges_of s) (reverse before) slot = same-word s history before slot replays all same in
    let here = word-after s (reverse history) c.entry m.is_setup m.live t.item_act t.fits t.bits in
    let there = word-after s (reverse before) c.entry t.machine.is_setup t.machine.live t.item_act t.fits t.bits in
    record {
      found = t.words.found ∙ (on-slot_in s (reverse before) c.entry.act t.item_act ∙ (sym word ∙ sym (on-slot_in s (reverse history) c.entry.act t.item_act)));
      left = t.words.left ∙ (on-slot_in s (c.entry ∷ reverse before) c.entry.act t.item_act ∙ (there ∙ (ap (λ (w : ℕ). (acted (table_at s slot) (start_of s slot) w c.entry.act).1) (sym word) ∙ (sym here ∙ sym (on-slot_in s (c.entry ∷ reverse history) c.entry.act t.item_act)))));
    }

-- the entry of a look
abbrev pub look_entry : ℕ → ℕ → Entry
look_entry seat switches = record { seat = seat; act = Look; before = switches; after = switches }

-- a look fits
pub look-fits : (s : Setup) (seat : ℕ) (history : List Entry) → IsSetup s → AtEach (λ before e. IsMergedAct e.act) history → FitsWords s (judges_of s) history (look_entry seat s.switches)
look-fits s seat history k acts = let is = sym (switches-are s history k acts) in record { found = is; left = is }

-- ---- Stops

-- a Stop of an item is justified where the seat's last entry comes early enough
pub earned-there : (s : Setup) (before history : List Entry) (c : Counted) → IsKnownItem s before c → changes_on (slot_in c.entry.act) before ≡ changes_on (slot_in c.entry.act) history
    → ((slot : ℕ) → c.entry.act ≡ Stop slot → LastBy slot c.entry.seat c.first history) → IsJustifiedBy c.entry.act c.entry.seat history
earned-there s before history c t many last = by c.entry.act refl
  where
    by : (act : Act) → c.entry.act ≡ act → IsJustifiedBy act c.entry.seat history
    by (Deliver slot hit) is = tt
    by Look is = tt
    by (Raise _) is = tt
    by (Lower _) is = tt
    by (Clear _) is = tt
    by (End _) is = tt
    by (Stop slot) is =
        let l = last slot is in
        let t' = t.lost slot is in
        let there : slot_in c.entry.act ≡ slot = ap slot_in is in
        let many' : changes_on slot before ≡ changes_on slot history = subst (λ (n : ℕ). changes_on n before ≡ changes_on n history) there many in
        let lost : changes_on slot before ≡ changes_on slot t'.until + changes_on slot t'.since = ap (changes_on slot) t'.is ∙ filter_append slot t'.until t'.since in
        let mine : changes_on slot history ≡ changes_on slot l.until + changes_on slot l.since = ap (changes_on slot) l.is ∙ filter_append slot l.until l.since in
        let three = t'.three in
        let first_is = t'.first_is in
        let few = l.few in
        record { until = l.until; since = l.since; is = l.is; none = l.none; three = omega arith }

-- an item's act is permitted
pub held-item : (act : Act) (seat : ℕ) → IsItemAct act → IsPermittedTo act seat
held-item act seat = by-item (λ (a : Act). IsPermittedTo a seat) (λ slot hit. tt) (λ slot. tt) act

-- and merged
pub merged-item : (act : Act) → IsItemAct act → IsMergedAct act
merged-item = by-item IsMergedAct (λ slot hit. tt) (λ slot. tt)

-- ---- entries of no seat

-- none in the list, and none at its end
pub none-snoc : (seat : ℕ) (h : List Entry) (e : Entry) → NoneOf seat h → e.seat ≢ seat → NoneOf seat (h ++ e ∷ [])
none-snoc seat [] e none other = (grind (arith, nat_tests), tt)
none-snoc seat (x ∷ h) e none other = (none.0, none-snoc seat h e none.1 other)

-- the seat's last entry still comes as early after an entry of another seat
pub last-longer : (slot seat first : ℕ) (history : List Entry) (e : Entry) → e.seat ≢ seat → LastBy slot seat first history → LastBy slot seat first (history ++ e ∷ [])
last-longer slot seat first history e other l = record {
  until = l.until;
  since = l.since ++ e ∷ [];
  is = ap (λ (z : List Entry). z ++ e ∷ []) l.is ∙ append_assoc l.until l.since (e ∷ []);
  none = none-snoc seat l.since e l.none other;
  few = l.few;
}

-- the changes of a list with one entry more
pub changes-snoc : (slot : ℕ) (h : List Entry) (e : Entry) (b : Bool) → changed slot e ≡ b → filter (changed slot) (h ++ e ∷ []) ≡ filter (changed slot) h ++ filter (λ x. b) (e ∷ [])
changes-snoc slot h e true y = filter-append (changed slot) h (e ∷ []) ∙ ap (λ (z : List Entry). filter (changed slot) h ++ z) (filter_yes (changed slot) e [] y)
changes-snoc slot h e false n = filter-append (changed slot) h (e ∷ []) ∙ ap (λ (z : List Entry). filter (changed slot) h ++ z) (filter_no (changed slot) e [] n)
