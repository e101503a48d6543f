-- How many instances of a monitor have a record: in the whole as many as in all its parts.
use Rattle.std.proofs.Common.{◌≡◌, ℕ, zero, suc, ◌<◌, Bool, true, false, ◌==◌, ◌&&◌, ◌||◌, not, List, [], ◌∷◌, map, length, arith, refl, sym, ap, ◌∙◌, subst}
use Rattle.std.specs.Prelude.{slice_index}
use Rattle.std.specs.List.{list_any}
use Rattle.rv_model.specs.declared.entry.Entry.{Entry}
use Rattle.rv_model.specs.declared.record.Record.{Record}
use Rattle.rv_model.specs.Histories.{Input, IsOneHistory}
use Rattle.rv_model.specs.Judging.{Judge}
use Rattle.rv_model.specs.Numbers.{has_bit}
use Rattle.rv_model.specs.Records.{sort_records, records_of, is_ended}
use Rattle.rv_model.specs.Reports.{is_of_monitor, is_at}
use Rattle.rv_laws.specs.Joins.{own_records, AllAreKept}
use Rattle.rv_laws.specs.SingleWriter.{HasInstance}
use Rattle.rv_laws.specs.Parts.{Placed, placed_in, Numbering, KeepsApart, is_kept, record_in, IsPlain}
use Rattle.rv_laws.proofs.AllMadeLemmas.{all-made}
use Rattle.rv_laws.proofs.CountLemmas.{many, many-moved}
use Rattle.rv_laws.proofs.KnownLemmas.{places-have}
use Rattle.rv_laws.proofs.ListLemmas.{Every, every-filter, filter-all}
use Rattle.rv_laws.proofs.Made.{Made, made_record, shown}
use Rattle.rv_laws.proofs.PartLemmas.{place_of}
use Rattle.rv_laws.proofs.PartRecordLemmas.{halted-records}
use Rattle.rv_laws.proofs.RiseLemmas.{every-from-all, every-sort}
use Rattle.rv_laws.proofs.SwitchLemmas.{opening_word}

-- ---- the instances of records

-- the setup has the instance of a record
abbrev pub HasRecord : List ℕ → Record → Type 0
HasRecord shape r = HasInstance shape r.monitor r.instance

module _ (P : ℕ → ℕ → Type 0) where
  -- the fact of a delivery's instance
  abbrev pub OfPlace : Placed → Type 0
  OfPlace p = P p.delivery.monitor p.delivery.instance

  -- and of a record's
  abbrev pub OfRecord : Record → Type 0
  OfRecord r = P r.monitor r.instance

  -- of what was made
  of-made : (look : ℕ) (made : List Made) → Every OfPlace (map place_of made) → Every OfRecord (map (made_record look) made)
  of-made look [] all = tt
  of-made look (x ∷ made) all = (all.0, of-made look made all.1)

  -- what holds of the instances of all deliveries holds of those of the records
  pub records-every : (input : Input) (js : List Judge) (h : List Entry) → IsPlain input → IsOneHistory input js h → Every OfPlace (placed_in input.works) → Every OfRecord (records_of input js h)
  records-every input js h plain one all = go (has_bit (opening_word input.setup) 34) refl
    where
      go : (b : Bool) → has_bit (opening_word input.setup) 34 ≡ b → Every OfRecord (records_of input js h)
      go true halted = subst (Every OfRecord) (sym (halted-records input js h plain one halted)) tt
      go false running =
          let m = all-made input js h plain one running in
          let look : ℕ = opening_word input.setup in
          let places : Every OfPlace (map place_of m.made) = subst (Every OfPlace) (sym m.places_are) (every-filter OfPlace (shown look) (placed_in input.works) all) in
          subst (λ (z : List Record). Every OfRecord (sort_records z)) (sym m.records_are) (every-sort OfRecord (map (made_record look) m.made) (of-made look m.made places))

-- the setup has the instances of all records of a history
pub records-have : (input : Input) (js : List Judge) (h : List Entry) → IsPlain input → IsOneHistory input js h → Every (HasRecord input.setup.shape) (records_of input js h)
records-have input js h plain one = records-every (HasInstance input.setup.shape) input js h plain one (places-have input.setup.shape input.works plain.instances)

-- where a part keeps all deliveries, it keeps all records
pub all_are_kept : AllAreKept
all_are_kept p plain one all =
    let kept : ℕ → ℕ → Type 0 = λ monitor instance. p.keep monitor (p.numbers.instance_of monitor instance) ≡ true in
    filter-all (λ r. is_kept p.keep (record_in p.numbers r)) (own_records p)
    (records-every kept p.input p.judges p.history plain one (every-from-all (λ q. kept q.delivery.monitor q.delivery.instance) (placed_in p.input.works) all))

-- a monitor that has an instance is there
pub monitor-below : (shape : List ℕ) (monitor a : ℕ) → a < slice_index shape monitor → monitor < length shape
monitor-below [] monitor a lt = absurd (let none : a < 0 = lt in omega arith)
monitor-below (count ∷ shape) zero a lt = omega arith
monitor-below (count ∷ shape) (suc monitor) a lt = let rest = monitor-below shape monitor a lt in omega arith

-- the second of two tests that both hold, and the first
first-of : (a b : Bool) → (a && b) ≡ true → a ≡ true
first-of true b e = refl
first-of false b e = e

second-of : (a b : Bool) → (a && b) ≡ true → b ≡ true
second-of true b e = e
second-of false b e = absurd (let no : false ≡ true = e in cc)

-- ---- one part

-- a record of the part: both setups have its instance, which is kept
pub record IsRecordOf (n : Numbering) (keep : ℕ → ℕ → Bool) (shape own : List ℕ) (r : Record) : Type 0 where
  pub there : HasInstance shape r.monitor (n.instance_of r.monitor r.instance)
  pub own_is : HasRecord own r
  pub kept : keep r.monitor (n.instance_of r.monitor r.instance) ≡ true

module _ (n : Numbering) (keep : ℕ → ℕ → Bool) (shape own : List ℕ) (monitor : ℕ) where
  -- a record at an instance
  record IsAt (a : ℕ) (rs : List Record) : Type 0 where
    instance_is : ℕ
    below : instance_is < slice_index own monitor
    there : n.instance_of monitor instance_is < slice_index shape monitor
    same : n.instance_of monitor instance_is ≡ a
    kept : keep monitor a ≡ true
    some : list_any (is_at monitor instance_is) rs ≡ true

  -- where the whole finds a record of the part, it is one at an instance of the part
  found : (a : ℕ) (rs : List Record) → Every (IsRecordOf n keep shape own) rs → list_any (is_at monitor a) (map (record_in n) rs) ≡ true → IsAt a rs
  found a [] all some = absurd (let no : false ≡ true = some in cc)
  found a (r ∷ rs) all some = go (is_at monitor a (record_in n r)) refl (found a rs all.1)
    where
      go : (b : Bool) → is_at monitor a (record_in n r) ≡ b → (list_any (is_at monitor a) (map (record_in n) rs) ≡ true → IsAt a rs) → IsAt a (r ∷ rs)
      go true here rest =
          let of : is_of_monitor monitor r ≡ true = first-of (is_of_monitor monitor r) (n.instance_of r.monitor r.instance == a) here in
          let at : (n.instance_of r.monitor r.instance == a) ≡ true = second-of (is_of_monitor monitor r) (n.instance_of r.monitor r.instance == a) here in
          let mine : (r.monitor == monitor) ≡ true = first-of (r.monitor == monitor) (not (is_ended r)) of in
          let same : r.monitor ≡ monitor = grind arith in
          let same' : n.instance_of r.monitor r.instance ≡ a = grind arith in
          let meant : n.instance_of monitor r.instance ≡ a = ap (λ (m : ℕ). n.instance_of m r.instance) (sym same) ∙ same' in
          let self : (r.instance == r.instance) ≡ true = grind arith in
          record {
            instance_is = r.instance;
            below = subst (λ (m : ℕ). r.instance < slice_index own m) same all.0.own_is.instance_below;
            there = subst (λ (m : ℕ). n.instance_of m r.instance < slice_index shape m) same all.0.there.instance_below;
            same = meant;
            kept = ap (keep monitor) (sym meant) ∙ ap (λ (m : ℕ). keep m (n.instance_of m r.instance)) (sym same) ∙ all.0.kept;
            some = ap (λ (b : Bool). (b && (r.instance == r.instance)) || list_any (is_at monitor r.instance) rs) of ∙ ap (λ (b : Bool). (true && b) || list_any (is_at monitor r.instance) rs) self;
          }
      go false off rest =
          let later = rest (rw off at some) in
          record { instance_is = later.instance_is; below = later.below; there = later.there; same = later.same; kept = later.kept; some = or-right (is_at monitor later.instance_is r) (list_any (is_at monitor later.instance_is) rs) later.some }
        where
          or-right : (a b : Bool) → b ≡ true → (a || b) ≡ true
          or-right true b e = refl
          or-right false b e = e

  -- where the part has a record at an instance, the whole finds it there
  found-in : (b : ℕ) (rs : List Record) → list_any (is_at monitor b) rs ≡ true → list_any (is_at monitor (n.instance_of monitor b)) (map (record_in n) rs) ≡ true
  found-in b [] some = some
  found-in b (r ∷ rs) some = go (is_at monitor b r) refl (found-in b rs)
    where
      go : (t : Bool) → is_at monitor b r ≡ t → (list_any (is_at monitor b) rs ≡ true → list_any (is_at monitor (n.instance_of monitor b)) (map (record_in n) rs) ≡ true)
          → list_any (is_at monitor (n.instance_of monitor b)) (map (record_in n) (r ∷ rs)) ≡ true
      go true here rest =
          let of : is_of_monitor monitor r ≡ true = first-of (is_of_monitor monitor r) (r.instance == b) here in
          let at : (r.instance == b) ≡ true = second-of (is_of_monitor monitor r) (r.instance == b) here in
          let mine : (r.monitor == monitor) ≡ true = first-of (r.monitor == monitor) (not (is_ended r)) of in
          let same : r.monitor ≡ monitor = grind arith in
          let same' : r.instance ≡ b = grind arith in
          let meant : n.instance_of r.monitor r.instance ≡ n.instance_of monitor b = ap (λ (m : ℕ). n.instance_of m r.instance) same ∙ ap (n.instance_of monitor) same' in
          let passes : (n.instance_of r.monitor r.instance == n.instance_of monitor b) ≡ true = grind arith in
          ap (λ (c : Bool). (c && (n.instance_of r.monitor r.instance == n.instance_of monitor b)) || list_any (is_at monitor (n.instance_of monitor b)) (map (record_in n) rs)) of
          ∙ ap (λ (c : Bool). (true && c) || list_any (is_at monitor (n.instance_of monitor b)) (map (record_in n) rs)) passes
      go false off rest = or-right (is_at monitor (n.instance_of monitor b) (record_in n r)) (list_any (is_at monitor (n.instance_of monitor b)) (map (record_in n) rs)) (rest (rw off at some))
        where
          or-right : (a b : Bool) → b ≡ true → (a || b) ≡ true
          or-right true b e = refl
          or-right false b e = e

  -- the whole counts as many instances with a record of the part as the part does
  pub part-many : KeepsApart n own → (rs : List Record) → Every (IsRecordOf n keep shape own) rs
      → many (λ a. list_any (is_at monitor a) (map (record_in n) rs)) (slice_index shape monitor) ≡ many (λ b. list_any (is_at monitor b) rs) (slice_index own monitor)
  part-many apart rs all =
      many-moved (n.instance_of monitor) (slice_index own monitor) (λ a. list_any (is_at monitor a) (map (record_in n) rs)) (λ b. list_any (is_at monitor b) rs) (slice_index shape monitor)
      (record {
        apart = λ a b lt lt' same. apart.instances monitor a b (record { monitor_below = monitor-below own monitor a lt; instance_below = lt }) (record { monitor_below = monitor-below own monitor b lt'; instance_below = lt' }) same;
        to = λ b lt some. let in' = found-in b rs some in let x = found (n.instance_of monitor b) rs all in' in (let l = x.there in let e = x.same in omega arith, in');
        from = λ a lt some. let x = found a rs all some in (x.instance_is, x.below, x.same, x.some);
      })

  -- where a part has a record, its instance is kept
  pub part-kept : (a : ℕ) (rs : List Record) → Every (IsRecordOf n keep shape own) rs → list_any (is_at monitor a) (map (record_in n) rs) ≡ true → keep monitor a ≡ true
  part-kept a rs all some = (found a rs all some).kept
