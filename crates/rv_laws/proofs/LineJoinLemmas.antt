-- Records that are merged by line from parts are the whole's.
use Rattle.std.proofs.Common.{◌≡◌, ℕ, suc, ◌+◌, ◌<◌, ◌≤◌, Bool, true, false, List, [], ◌∷◌, map, arith, refl, sym, ap, ◌∙◌, subst}
use Rattle.std.specs.Prelude.{filter, count_by, All, AllPairs, Any, Contains, if◌then◌else◌}
use Rattle.std.proofs.lemmas.List.Elements.{All-contains, All-contains_itself, All-cons, All-head, All-tail, All-weaker}
use Rattle.std.proofs.lemmas.List.Kept.{AllPairs-cons}
use Rattle.rv_model.specs.declared.entry.Entry.{Entry}
use Rattle.rv_model.specs.declared.record.Record.{Record}
use Rattle.rv_model.specs.Histories.{Input, IsOneHistory}
use Rattle.rv_model.specs.Judging.{Judge}
use Rattle.rv_model.specs.Numbers.{has_bit}
use Rattle.rv_model.specs.Records.{sort_records, records_of}
use Rattle.rv_model.specs.Works.{Work}
use Rattle.rv_laws.specs.Joins.{PlayedPart, records_by, ArePartsOf, OrdersFollowLines, LinesOfOnePart, IsMergedByLine, MergedByLineIsWhole}
use Rattle.rv_laws.specs.SingleWriter.{HasInstance}
use Rattle.rv_laws.specs.Parts.{Placed, placed_in, keeps, is_kept, IsPlain}
use Rattle.rv_laws.proofs.AllMadeLemmas.{all-made}
use Rattle.rv_laws.proofs.InstanceLemmas.{HasRecord, records-have}
use Rattle.rv_laws.proofs.JoinLemmas.{rises-records, keeps_record, IsPlayed, by-part}
use Rattle.rv_laws.proofs.ListLemmas.{Every, every-filter}
use Rattle.rv_laws.proofs.Made.{Made, made_record, shown}
use Rattle.rv_laws.proofs.OrderLemmas.{every-in, InOrder, TellsTests, PassesOne, same-list}
use Rattle.rv_laws.proofs.PartLemmas.{place_of}
use Rattle.rv_laws.proofs.PartRecordLemmas.{halted-records}
use Rattle.rv_laws.proofs.RiseLemmas.{every-from-all, every-sort, count-cons, Rises}
use Rattle.rv_laws.proofs.SwitchLemmas.{opening_word}

-- ---- where records come from

-- the record is of a delivery of these
pub record ComesFrom (places : List Placed) (r : Record) : Type 0 where
  pub place : Placed
  pub has : Contains places place
  pub line_is : place.line ≡ r.line
  pub order_is : place.delivery.order ≡ r.order
  pub monitor_is : place.delivery.monitor ≡ r.monitor
  pub instance_is : place.delivery.instance ≡ r.instance

-- what was made
from-made : (places : List Placed) (look : ℕ) (made : List Made) → Every (Contains places) (map place_of made) → Every (ComesFrom places) (map (made_record look) made)
from-made places look [] all = tt
from-made places look (x ∷ made) all = (record { place = x.place; has = all.0; line_is = refl; order_is = refl; monitor_is = refl; instance_is = refl }, from-made places look made all.1)

-- each record of a history
records-from : (input : Input) (js : List Judge) (h : List Entry) → IsPlain input → IsOneHistory input js h → Every (ComesFrom (placed_in input.works)) (records_of input js h)
records-from input js h plain one = go (has_bit (opening_word input.setup) 34) refl
  where
    places : List Placed
    places = placed_in input.works

    go : (b : Bool) → has_bit (opening_word input.setup) 34 ≡ b → Every (ComesFrom (placed_in input.works)) (records_of input js h)
    go true halted = subst (Every (ComesFrom (placed_in input.works))) (sym (halted-records input js h plain one halted)) tt
    go false running =
        let m = all-made input js h plain one running in
        let look : ℕ = opening_word input.setup in
        let own : Every (Contains (placed_in input.works)) (placed_in input.works) = every-from-all (Contains (placed_in input.works)) (placed_in input.works) (All-contains_itself (placed_in input.works)) in
        let kept : Every (Contains (placed_in input.works)) (map place_of m.made) = subst (Every (Contains (placed_in input.works))) (sym m.places_are) (every-filter (Contains (placed_in input.works)) (shown look) (placed_in input.works) own) in
        subst (λ (z : List Record). Every (ComesFrom (placed_in input.works)) (sort_records z)) (sym m.records_are)
        (every-sort (ComesFrom (placed_in input.works)) (map (made_record look) m.made) (from-made (placed_in input.works) look m.made kept))

-- ---- lines

-- the second record's line is not below
abbrev Before : Record → Record → Type 0
Before r t = r.line ≤ t.line

-- a part, and that it is one of them
abbrev Index : List PlayedPart → Type 0
Index parts = (p : PlayedPart) × Contains parts p

-- the part keeps the record
abbrev keeps_at : (parts : List PlayedPart) → Index parts → Record → Bool
keeps_at parts i r = keeps_record i.0 r

-- where orders follow lines, the lines of records whose orders rise never descend
first-line : (works : List Work) → OrdersFollowLines works → (r : Record) (rs : List Record) → ComesFrom (placed_in works) r → Every (ComesFrom (placed_in works)) rs → Every (λ t. r.order < t.order) rs → Every (Before r) rs
first-line works follow r [] from all up = tt
first-line works follow r (t ∷ rs) from all up = (not-above (r.line) (t.line) none, first-line works follow r rs from all.1 up.1)
  where
    none : t.line < r.line → ⊥
    none lt =
        let a = from in
        let b = all.0 in
        let lower : b.place.line < a.place.line = subst (λ (n : ℕ). n < a.place.line) (sym b.line_is) (subst (λ (n : ℕ). t.line < n) (sym a.line_is) lt) in
        let order : b.place.delivery.order < a.place.delivery.order = follow b.place a.place b.has a.has lower in
        let back : t.order < r.order = subst (λ (n : ℕ). n < r.order) b.order_is (subst (λ (n : ℕ). b.place.delivery.order < n) a.order_is order) in
        let high : r.order < t.order = up.0 in
        omega arith

    not-above : (a b : ℕ) → (b < a → ⊥) → a ≤ b
    not-above a b never = grind arith

-- all of them
lines-rise : (parts : List PlayedPart) (works : List Work) → OrdersFollowLines works → (rs : List Record) → Every (ComesFrom (placed_in works)) rs → Rises rs → InOrder Before (keeps_at parts) rs
lines-rise parts works follow [] all up = tt
lines-rise parts works follow (r ∷ rs) all up = (first-line works follow r rs all.0 all.1 up.0, lines-rise parts works follow rs all.1 up.1)

-- an order at all places
order-of : (parts : List PlayedPart) (rs : List Record) → AllPairs Before rs → InOrder Before (keeps_at parts) rs
order-of parts [] pairs = tt
order-of parts (r ∷ rs) pairs =
    let first : All (Before r) rs = λ k d lt. pairs 0 (suc k) d (omega arith) (omega arith) in
    (every-from-all (Before r) rs first, order-of parts rs (λ i j d lt within. pairs (suc i) (suc j) d (omega arith) (omega arith)))

-- and back
all-from-every : (P : Record → Type 0) (rs : List Record) → Every P rs → All P rs
all-from-every P [] all = λ k d lt. absurd (omega arith)
all-from-every P (r ∷ rs) all = All-cons P r rs all.0 (all-from-every P rs all.1)

pairs-of : (parts : List PlayedPart) (rs : List Record) → InOrder Before (keeps_at parts) rs → AllPairs Before rs
pairs-of parts [] up = λ i j d lt within. absurd (omega arith)
pairs-of parts (r ∷ rs) up = AllPairs-cons Before r rs (all-from-every (Before r) rs up.0) (pairs-of parts rs up.1)

-- ---- parts

-- the part that keeps a record
keeper : (r : Record) (parts : List PlayedPart) → count_by (λ p. keeps_record p r) parts ≡ 1 → (i : Index parts) × (keeps_record i.0 r ≡ true)
keeper r [] one = absurd (let no : 0 ≡ 1 = one in omega arith)
keeper r (p ∷ parts) one = go (keeps_record p r) refl (keeper r parts)
  where
    go : (b : Bool) → keeps_record p r ≡ b → (count_by (λ q. keeps_record q r) parts ≡ 1 → (i : Index parts) × (keeps_record i.0 r ≡ true)) → (i : Index (p ∷ parts)) × (keeps_record i.0 r ≡ true)
    go true kept rest = ((p, (0, omega arith, refl)), kept)
    go false gone rest =
        let more : count_by (λ q. keeps_record q r) (p ∷ parts) ≡ (if keeps_record p r then 1 else 0) + count_by (λ q. keeps_record q r) parts = count-cons (λ q. keeps_record q r) p parts in
        let zero_is : ◌≡◌ {A = ℕ} (if keeps_record p r then 1 else 0) 0 = rw gone refl in
        let found = rest (omega arith) in
        let has = found.0.1 in
        ((found.0.0, (suc (has.0), (let l = has.1 in omega arith), has.2)), found.1)

-- every record is kept by one, where all are kept once
keepers : (shape : List ℕ) (parts : List PlayedPart) → ((monitor instance : ℕ) → HasInstance shape monitor instance → count_by (λ p. p.keep monitor instance) parts ≡ 1)
    → (rs : List Record) → Every (HasRecord shape) rs → Every (PassesOne Before (keeps_at parts)) rs
keepers shape parts once [] all = tt
keepers shape parts once (r ∷ rs) all = (keeper r parts (once r.monitor r.instance all.0), keepers shape parts once rs all.1)

-- or by some
some-keep : (parts : List PlayedPart) (rs : List Record) → All (λ r. Any (λ p. is_kept p.keep r ≡ true) parts) rs → Every (PassesOne Before (keeps_at parts)) rs
some-keep parts [] all = tt
some-keep parts (r ∷ rs) all =
    let one = All-head (λ t. Any (λ p. is_kept p.keep t ≡ true) parts) r rs all in
    (((one.1, (one.0, one.2, one.3)), one.4), some-keep parts rs (All-tail (λ t. Any (λ p. is_kept p.keep t ≡ true) parts) r rs all))

-- and back
keep-some : (parts : List PlayedPart) (rs : List Record) → Every (PassesOne Before (keeps_at parts)) rs → Every (λ r. Any (λ p. is_kept p.keep r ≡ true) parts) rs
keep-some parts [] all = tt
keep-some parts (r ∷ rs) all = let i = all.0.0 in ((i.1.0, i.0, i.1.1, i.1.2, all.0.1), keep-some parts rs all.1)

module _ (whole : Input) (js : List Judge) (h : List Entry) (parts : List PlayedPart) (a : ArePartsOf whole js h parts) (follow : OrdersFollowLines whole.works) (lines : LinesOfOnePart parts whole.works) where
  -- the whole's records
  abbrev all : List Record
  all = records_of whole js h

  -- each comes from a delivery
  from : Every (ComesFrom (placed_in whole.works)) all
  from = records-from whole js h a.plain a.history

  -- their lines never descend
  in-order : InOrder Before (keeps_at parts) all
  in-order = lines-rise parts whole.works follow all from (rises-records whole js h a.plain a.history a.orders)

  -- each is kept by a part
  kept-once : Every (PassesOne Before (keeps_at parts)) all
  kept-once = keepers whole.setup.shape parts a.once all (records-have whole js h a.plain a.history)

  -- one line, one part
  tells : TellsTests Before (keeps_at parts) all
  tells r t in_r in_t low high i kept =
      let x = every-in (ComesFrom (placed_in whole.works)) all from r in_r in
      let y = every-in (ComesFrom (placed_in whole.works)) all from t in_t in
      let line : r.line ≡ t.line = omega arith in
      let same = All-contains (λ part. keeps part.keep x.place ≡ keeps part.keep y.place) parts i.0 (lines x.place y.place x.has y.has (x.line_is ∙ line ∙ sym y.line_is)) i.1 in
      let here : keeps i.0.keep x.place ≡ is_kept i.0.keep r = ap (λ (m : ℕ). i.0.keep m x.place.delivery.instance) x.monitor_is ∙ ap (i.0.keep r.monitor) x.instance_is in
      let there : keeps i.0.keep y.place ≡ is_kept i.0.keep t = ap (λ (m : ℕ). i.0.keep m y.place.delivery.instance) y.monitor_is ∙ ap (i.0.keep t.monitor) y.instance_is in
      sym there ∙ sym same ∙ here ∙ kept

  -- what is merged by line is the whole's
  merged-is : (rs : List Record) → IsMergedByLine parts rs → rs ≡ all
  merged-is rs m =
      sym (same-list Before (keeps_at parts) all rs in-order (order-of parts rs m.lines) tells kept-once (some-keep parts rs m.some)
      (λ i. sym (by-part whole js h i.0 (All-contains (IsPlayed whole js h) parts i.0 a.each i.1)) ∙ sym (All-contains (λ p. filter (is_kept p.keep) rs ≡ records_by p) parts i.0 m.each i.1)))

  -- the whole's are so merged
  is-merged : IsMergedByLine parts all
  is-merged = record { lines = pairs-of parts all in-order; each = All-weaker (IsPlayed whole js h) (λ p. filter (is_kept p.keep) all ≡ records_by p) (λ p one. sym (by-part whole js h p one)) parts a.each; some = all-from-every (λ r. Any (λ p. is_kept p.keep r ≡ true) parts) all (keep-some parts all kept-once) }

-- the law
pub merged_by_line_is_whole : MergedByLineIsWhole
merged_by_line_is_whole whole js h parts a follow lines rs = (merged-is whole js h parts a follow lines rs, λ same. subst (IsMergedByLine parts) (sym same) (is-merged whole js h parts a follow lines))
