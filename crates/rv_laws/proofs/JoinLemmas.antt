-- The whole has the records of its parts.
use Rattle.std.proofs.Common.{◌≡◌, ◌≢◌, ℕ, suc, Bool, true, false, List, [], ◌∷◌, ◌++◌, map, arith, refl, sym, ap, ◌∙◌, subst}
use Rattle.std.specs.Prelude.{filter, flat_map, count_by, All, AllPairs}
use Rattle.std.proofs.lemmas.List.Elements.{All-head, All-tail}
use Rattle.std.proofs.lemmas.List.Kept.{AllPairs-filter}
use Rattle.rv_model.specs.declared.entry.Entry.{Entry}
use Rattle.rv_model.specs.declared.record.Record.{Record}
use Rattle.rv_model.specs.Histories.{Input, IsOneHistory}
use Rattle.rv_model.specs.Judging.{Judge}
use Rattle.rv_model.specs.Numbers.{has_bit}
use Rattle.rv_model.specs.Records.{sort_records, records_of}
use Rattle.rv_laws.specs.Joins.{PlayedPart, own_records, records_by, PartsHaveAllRecords}
use Rattle.rv_laws.specs.Parts.{Placed, placed_in, record_in, is_kept, IsPlain, ArePlayed}
use Rattle.rv_laws.proofs.AllMadeLemmas.{all-made}
use Rattle.rv_laws.proofs.InstanceLemmas.{HasRecord, records-have}
use Rattle.rv_laws.proofs.ListLemmas.{Every, every-weaker, filter-map}
use Rattle.rv_laws.proofs.Made.{Made, made_record, shown}
use Rattle.rv_laws.proofs.PartLemmas.{place_of}
use Rattle.rv_laws.proofs.PartRecordLemmas.{halted-records, part_has_its_records}
use Rattle.rv_laws.proofs.RiseLemmas.{every-from-all, RecordsApart, Rises, rises-sort, picks, picks-all}
use Rattle.rv_laws.proofs.SwitchLemmas.{opening_word}

-- ---- different orders

-- the two have different orders
abbrev Differ : Placed → Placed → Type 0
Differ p q = p.delivery.order ≢ q.delivery.order

-- the others differ from the first
differ-first : (x : Made) (made : List Made) → Every (Differ x.place) (map place_of made) → (look : ℕ) → Every (λ r. x.place.delivery.order ≢ r.order) (map (made_record look) made)
differ-first x [] all look = tt
differ-first x (y ∷ made) all look = (all.0, differ-first x made all.1 look)

-- deliveries of different orders make records of different orders
differ-made : (look : ℕ) (made : List Made) → AllPairs Differ (map place_of made) → RecordsApart (map (made_record look) made)
differ-made look [] pairs = tt
differ-made look (x ∷ made) pairs =
    let first : All (Differ x.place) (map place_of made) = λ k d lt. pairs 0 (suc k) d (omega arith) (omega arith) in
    let rest : AllPairs Differ (map place_of made) = λ i j d lt within. pairs (suc i) (suc j) d (omega arith) (omega arith) in
    (differ-first x made (every-from-all (Differ x.place) (map place_of made) first) look, differ-made look made rest)

module _ (input : Input) (js : List Judge) (h : List Entry) (plain : IsPlain input) (one : IsOneHistory input js h) (orders : AllPairs Differ (placed_in input.works)) where
  -- the orders of a history's records rise
  pub rises-records : Rises (records_of input js h)
  rises-records = go (has_bit (opening_word input.setup) 34) refl
    where
      go : (b : Bool) → has_bit (opening_word input.setup) 34 ≡ b → Rises (records_of input js h)
      go true halted = subst Rises (sym (halted-records input js h plain one halted)) tt
      go false running =
          let m = all-made input js h plain one running in
          let look : ℕ = opening_word input.setup in
          let pairs : AllPairs Differ (map place_of m.made) = subst (AllPairs Differ) (sym m.places_are) (AllPairs-filter Differ (shown look) (placed_in input.works) orders) in
          subst (λ (z : List Record). Rises (sort_records z)) (sym m.records_are) (rises-sort (map (made_record look) m.made) (differ-made look m.made pairs))

-- ---- parts

-- a part keeps the record
abbrev pub keeps_record : PlayedPart → Record → Bool
keeps_record p r = is_kept p.keep r

module _ (whole : Input) (js : List Judge) (h : List Entry) where
  -- the part is one of the whole
  abbrev pub IsPlayed : PlayedPart → Type 0
  IsPlayed p = ArePlayed p.numbers p.keep whole p.input js p.judges h p.history

  -- what a part keeps are the whole's records of its instances
  pub by-part : (p : PlayedPart) → IsPlayed p → records_by p ≡ filter (is_kept p.keep) (records_of whole js h)
  by-part p a = sym (filter-map (record_in p.numbers) (is_kept p.keep) (own_records p)) ∙ sym (part_has_its_records p.numbers p.keep whole p.input js p.judges h p.history a)

  -- the records of the parts are what they keep of the whole's
  pub records-picked : (parts : List PlayedPart) → All IsPlayed parts → flat_map records_by parts ≡ picks keeps_record parts (records_of whole js h)
  records-picked [] all = refl
  records-picked (p ∷ parts) all =
      ap (λ (z : List Record). z ++ flat_map records_by parts) (by-part p (All-head IsPlayed p parts all))
      ∙ ap (λ (z : List Record). filter (is_kept p.keep) (records_of whole js h) ++ z) (records-picked parts (All-tail IsPlayed p parts all))

-- the law
pub parts_have_all_records : PartsHaveAllRecords
parts_have_all_records whole js h parts a =
    let all : List Record = records_of whole js h in
    let up : Rises all = rises-records whole js h a.plain a.history a.orders in
    let once : Every (λ r. count_by (λ p. keeps_record p r) parts ≡ 1) all =
    every-weaker (HasRecord whole.setup.shape) (λ r. count_by (λ p. keeps_record p r) parts ≡ 1) (λ r has. a.once r.monitor r.instance has) all (records-have whole js h a.plain a.history) in
    sym (ap sort_records (records-picked whole js h parts a.each) ∙ picks-all keeps_record parts all up once)
