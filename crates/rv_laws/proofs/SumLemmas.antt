-- Counts of the whole's records are the sums of those of its parts.
use Rattle.std.proofs.Common.{◌≡◌, ℕ, ◌+◌, ◌<◌, ◌≤◌, Bool, true, false, ◌||◌, List, [], ◌∷◌, map, arith, refl, sym, ap, ◌∙◌, subst}
use Rattle.std.specs.Prelude.{flat_map, count_by, nat_le, slice_index, All, if◌then◌else◌}
use Rattle.std.specs.List.{list_any, sum_by}
use Rattle.std.proofs.lemmas.List.Elements.{All-head, All-tail}
use Rattle.std.proofs.lemmas.List.Folds.{list_any-append}
use Rattle.std.proofs.lemmas.List.Sums.{sum_by-cons, sum_by-append}
use Rattle.rv_model.specs.declared.entry.Entry.{Entry}
use Rattle.rv_model.specs.declared.record.Record.{Record}
use Rattle.rv_model.specs.Histories.{Input}
use Rattle.rv_model.specs.Judging.{Judge}
use Rattle.rv_model.specs.Records.{sort_records, records_of}
use Rattle.rv_model.specs.Reports.{is_at}
use Rattle.rv_model.specs.inner.Sorting.{insert_record}
use Rattle.rv_model.proofs.SortLemmas.{sort_records-nil, sort_records-cons}
use Rattle.rv_laws.specs.Joins.{PlayedPart, own_records, kept_records, records_by, joined_records, ArePartsOf}
use Rattle.rv_laws.specs.Parts.{is_kept, record_in}
use Rattle.rv_laws.proofs.CountLemmas.{many, many-none, many-or, many-same}
use Rattle.rv_laws.proofs.InstanceLemmas.{monitor-below, HasRecord, records-have, IsRecordOf, part-many, part-kept}
use Rattle.rv_laws.proofs.JoinLemmas.{IsPlayed, by-part, parts_have_all_records}
use Rattle.rv_laws.proofs.ListLemmas.{Every, every-filter, every-kept}
use Rattle.rv_laws.proofs.OutcomeLemmas.{any-sort}
use Rattle.rv_laws.proofs.RiseLemmas.{count-cons}

-- ---- counts of records
module _ (test : Record → Bool) where
  -- a record that is put in its place
  count-insert : (r : Record) (rs : List Record) → count_by test (insert_record r rs) ≡ (if test r then 1 else 0) + count_by test rs
  count-insert r [] = count-cons test r []
  count-insert r (x ∷ rs) = go (nat_le r.order x.order) refl (count-insert r rs)
    where
      go : (b : Bool) → nat_le r.order x.order ≡ b → count_by test (insert_record r rs) ≡ (if test r then 1 else 0) + count_by test rs → count_by test (insert_record r (x ∷ rs)) ≡ (if test r then 1 else 0) + count_by test (x ∷ rs)
      go true le rest = rw le (count-cons test r (x ∷ rs))
      go false gt rest =
          let left : insert_record r (x ∷ rs) ≡ x ∷ insert_record r rs = rw gt refl in
          let one = count-cons test x (insert_record r rs) in
          let two = count-cons test x rs in
          ap (count_by test) left ∙ (let e : count_by test (x ∷ insert_record r rs) ≡ (if test r then 1 else 0) + count_by test (x ∷ rs) = omega arith in e)

  -- sorted records
  pub count-sort : (rs : List Record) → count_by test (sort_records rs) ≡ count_by test rs
  count-sort [] = ap (count_by test) sort_records-nil
  count-sort (r ∷ rs) = ap (count_by test) (sort_records-cons r rs) ∙ count-insert r (sort_records rs) ∙ ap (λ (n : ℕ). (if test r then 1 else 0) + n) (count-sort rs) ∙ sym (count-cons test r rs)

  -- records that were made into others
  count-map : (f : Record → Record) (rs : List Record) → count_by test (map f rs) ≡ count_by (λ r. test (f r)) rs
  count-map f [] = refl
  count-map f (r ∷ rs) = count-cons test (f r) (map f rs) ∙ ap (λ (n : ℕ). (if test (f r) then 1 else 0) + n) (count-map f rs) ∙ sym (count-cons (λ x. test (f x)) r rs)

  -- the records of parts, of which the numbers do not tell
  pub count-parts : ((p : PlayedPart) → (λ (r : Record). test (record_in p.numbers r)) ≡ test) → (parts : List PlayedPart) → count_by test (flat_map records_by parts) ≡ sum_by (λ p. count_by test (kept_records p)) parts
  count-parts same [] = refl
  count-parts same (p ∷ parts) =
      sum_by-append (λ r. if test r then 1 else 0) (records_by p) (flat_map records_by parts)
      ∙ ap (λ (n : ℕ). n + count_by test (flat_map records_by parts)) (count-map (record_in p.numbers) (kept_records p) ∙ ap (λ (t : Record → Bool). count_by t (kept_records p)) (same p))
      ∙ ap (λ (n : ℕ). count_by test (kept_records p) + n) (count-parts same parts)
      ∙ sym (sum_by-cons (λ q. count_by test (kept_records q)) p parts)

-- ---- counts of instances
module _ (whole : Input) (js : List Judge) (h : List Entry) where
  -- the part's records are known
  known-records : (p : PlayedPart) → IsPlayed whole js h p → Every (IsRecordOf p.numbers p.keep whole.setup.shape p.input.setup.shape) (kept_records p)
  known-records p a =
      both (kept_records p)
      (every-filter (HasRecord p.input.setup.shape) (λ r. is_kept p.keep (record_in p.numbers r)) (own_records p) (records-have p.input p.judges p.history a.part_plain a.part_history))
      (subst (Every (λ r. HasRecord whole.setup.shape r × (is_kept p.keep r ≡ true))) (sym (by-part whole js h p a))
      (every-kept (HasRecord whole.setup.shape) (is_kept p.keep) (records_of whole js h) (records-have whole js h a.plain a.history)))
    where
      both : (rs : List Record) → Every (HasRecord p.input.setup.shape) rs → Every (λ r. HasRecord whole.setup.shape r × (is_kept p.keep r ≡ true)) (map (record_in p.numbers) rs) → Every (IsRecordOf p.numbers p.keep whole.setup.shape p.input.setup.shape) rs
      both [] own there = tt
      both (r ∷ rs) own there = (record { there = there.0.0; own_is = own.0; kept = there.0.1 }, both rs own.1 there.1)

  module _ (monitor : ℕ) where
    -- some record of the list is at the instance
    abbrev has_at : List Record → ℕ → Bool
    has_at rs a = list_any (is_at monitor a) rs

    -- where no part keeps an instance, none has a record at it
    none-rest : (a : ℕ) (parts : List PlayedPart) → All (IsPlayed whole js h) parts → count_by (λ p. p.keep monitor a) parts ≡ 0 → has_at (flat_map records_by parts) a ≡ false
    none-rest a [] all none = refl
    none-rest a (p ∷ parts) all none =
        let here = All-head (IsPlayed whole js h) p parts all in
        let more : count_by (λ q. q.keep monitor a) (p ∷ parts) ≡ (if p.keep monitor a then 1 else 0) + count_by (λ q. q.keep monitor a) parts = count-cons (λ q. q.keep monitor a) p parts in
        list_any-append (is_at monitor a) (records_by p) (flat_map records_by parts)
        ∙ go (p.keep monitor a) refl (has_at (records_by p) a) refl (part-kept p.numbers p.keep whole.setup.shape p.input.setup.shape monitor a (kept_records p) (known-records p here)) more (none-rest a parts (All-tail (IsPlayed whole js h) p parts all))
      where
        go : (k : Bool) → p.keep monitor a ≡ k → (b : Bool) → has_at (records_by p) a ≡ b → (has_at (records_by p) a ≡ true → p.keep monitor a ≡ true)
            → count_by (λ q. q.keep monitor a) (p ∷ parts) ≡ (if p.keep monitor a then 1 else 0) + count_by (λ q. q.keep monitor a) parts
            → (count_by (λ q. q.keep monitor a) parts ≡ 0 → has_at (flat_map records_by parts) a ≡ false) → (has_at (records_by p) a || has_at (flat_map records_by parts) a) ≡ false
        go true kept b is keeps more rest = absurd (let one : ◌≡◌ {A = ℕ} (if p.keep monitor a then 1 else 0) 1 = rw kept refl in omega arith)
        go false gone true some keeps more rest = absurd (let no : false ≡ true = sym gone ∙ keeps some in cc)
        go false gone false off keeps more rest = let zero_is : ◌≡◌ {A = ℕ} (if p.keep monitor a then 1 else 0) 0 = rw gone refl in rw off (rest (omega arith))

    -- the instances of parts that are kept once
    many-parts : (parts : List PlayedPart) → All (IsPlayed whole js h) parts → ((a : ℕ) → a < slice_index whole.setup.shape monitor → count_by (λ p. p.keep monitor a) parts ≤ 1)
        → many (has_at (flat_map records_by parts)) (slice_index whole.setup.shape monitor) ≡ sum_by (λ p. many (has_at (kept_records p)) (slice_index p.input.setup.shape monitor)) parts
    many-parts [] all once = many-none (has_at []) (slice_index whole.setup.shape monitor) (λ a lt. refl)
    many-parts (p ∷ parts) all once =
        let n : ℕ = slice_index whole.setup.shape monitor in
        let here = All-head (IsPlayed whole js h) p parts all in
        let later = All-tail (IsPlayed whole js h) p parts all in
        let more : (a : ℕ) → count_by (λ q. q.keep monitor a) (p ∷ parts) ≡ (if p.keep monitor a then 1 else 0) + count_by (λ q. q.keep monitor a) parts = λ a. count-cons (λ q. q.keep monitor a) p parts in
        let fewer : (a : ℕ) → a < n → count_by (λ q. q.keep monitor a) parts ≤ 1 = λ a lt. (let e = more a in let o = once a lt in omega arith) in
        let apart : (a : ℕ) → a < n → has_at (records_by p) a ≡ true → has_at (flat_map records_by parts) a ≡ false = λ a lt some.
        let kept = part-kept p.numbers p.keep whole.setup.shape p.input.setup.shape monitor a (kept_records p) (known-records p here) some in
        let one : ◌≡◌ {A = ℕ} (if p.keep monitor a then 1 else 0) 1 = rw kept refl in
        none-rest a parts later (let e = more a in let o = once a lt in omega arith) in
        many-same (has_at (flat_map records_by (p ∷ parts))) (λ a. has_at (records_by p) a || has_at (flat_map records_by parts) a) n (λ a lt. list_any-append (is_at monitor a) (records_by p) (flat_map records_by parts))
        ∙ many-or (has_at (records_by p)) (has_at (flat_map records_by parts)) n apart
        ∙ ap (λ (m : ℕ). m + many (has_at (flat_map records_by parts)) n) (part-many p.numbers p.keep whole.setup.shape p.input.setup.shape monitor here.numbers (kept_records p) (known-records p here))
        ∙ ap (λ (m : ℕ). many (has_at (kept_records p)) (slice_index p.input.setup.shape monitor) + m) (many-parts parts later fewer)
        ∙ sym (sum_by-cons (λ q. many (has_at (kept_records q)) (slice_index q.input.setup.shape monitor)) p parts)

    -- the instances of the whole
    pub many-joined : (parts : List PlayedPart) → ArePartsOf whole js h parts
        → many (has_at (records_of whole js h)) (slice_index whole.setup.shape monitor) ≡ sum_by (λ p. many (has_at (kept_records p)) (slice_index p.input.setup.shape monitor)) parts
    many-joined parts a =
        ap (λ (rs : List Record). many (has_at rs) (slice_index whole.setup.shape monitor)) (parts_have_all_records whole js h parts a)
        ∙ many-same (has_at (joined_records parts)) (has_at (flat_map records_by parts)) (slice_index whole.setup.shape monitor) (λ i lt. any-sort (is_at monitor i) (flat_map records_by parts))
        ∙ many-parts parts a.each (λ i lt. (let e = a.once monitor i (record { monitor_below = monitor-below whole.setup.shape monitor i lt; instance_below = lt }) in omega arith))
