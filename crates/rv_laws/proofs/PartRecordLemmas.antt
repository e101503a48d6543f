-- Of the instances that are kept the whole and the part have the same records.
use Rattle.std.proofs.Common.{◌≡◌, ℕ, suc, ◌+◌, Bool, true, false, List, [], ◌∷◌, ◌++◌, map, reverse, arith, refl, sym, ap, ◌∙◌, subst}
use Rattle.std.specs.Prelude.{filter, flat_map, Contains, MatchBool, slice_range}
use Rattle.rv_model.specs.declared.entry.Answer.TheVariants.{Looked}
use Rattle.rv_model.specs.declared.entry.Entry.{Entry}
use Rattle.rv_model.specs.declared.formula.Spec.{Spec}
use Rattle.rv_model.specs.declared.record.Record.{Record}
use Rattle.rv_model.specs.declared.work.Delivery.{Delivery}
use Rattle.rv_model.specs.declared.work.Turn.{Turn}
use Rattle.rv_model.specs.Histories.{Input, IsOneHistory, AreJudges}
use Rattle.rv_model.specs.Judging.{Judge}
use Rattle.rv_model.specs.Numbers.{has_bit, number_of}
use Rattle.rv_model.specs.Records.{look_word, until_look, from_look, turn_records, script_records, sort_records, records_of}
use Rattle.rv_model.specs.inner.ScriptParts.{turn_lists}
use Rattle.rv_model.specs.Scripts.{Played, played, is_enabled_by, PlaysTurns}
use Rattle.rv_model.specs.Setups.{Setup}
use Rattle.rv_model.specs.Table.{Table}
use Rattle.rv_model.specs.Works.{Work}
use Rattle.rv_model.proofs.OneJudgeLemmas.{lists-same}
use Rattle.rv_model.proofs.SortLemmas.{sort_records-nil}
use Rattle.rv_laws.specs.Parts.{Numbering, KeepsApart, placed_by, keeps, is_kept, record_in, IsPartOf, IsPlain, PartHasItsRecords}
use Rattle.rv_laws.proofs.AllMadeLemmas.{all-made, quiet}
use Rattle.rv_laws.proofs.FilterLemmas.{filter-sort}
use Rattle.rv_laws.proofs.ListLemmas.{filter-map, map-map}
use Rattle.rv_laws.proofs.Made.{Made, made_record, AreCalm}
use Rattle.rv_laws.proofs.NumberingLemmas.{made_in, sort-in}
use Rattle.rv_laws.proofs.OutcomeLemmas.{none-in, none-left}
use Rattle.rv_laws.proofs.OwnerLemmas.{plays}
use Rattle.rv_laws.proofs.MadeAtLemmas.{all}
use Rattle.rv_laws.proofs.PartMadeLemmas.{part-made}
use Rattle.rv_laws.proofs.SwitchLemmas.{opening_word}
use Rattle.rv_laws.proofs.WholeLemmas.{calm-played}

-- ---- a run that opens halted

-- the first case is taken
first : (b : Bool) (P Q : Type 0) → b ≡ true → MatchBool b P Q → P
first b P Q e h = rw e at h

module _ (s : Setup) (panics : ℕ → Bool) (halted : has_bit (opening_word s) 34 ≡ true) where
  -- its scripts have no record
  halted-script : (ds : List Delivery) (turns : List Turn) (ps : List Played) → PlaysTurns s panics (turn_lists ds turns) ps → AreCalm (opening_word s) ps → script_records ds turns ps ≡ []
  halted-script ds [] ps h calm = refl
  halted-script ds (turn ∷ turns) [] h calm = absurd h
  halted-script ds (turn ∷ turns) (p ∷ ps) (word, is, answer, h) calm =
      let opens : word ≡ opening_word s = (let e : Looked word ≡ Looked (opening_word s) = sym answer ∙ calm.0.look_is is in cc) in
      let none : ps ≡ [] = first (has_bit word 34) _ _ (ap (λ (n : ℕ). has_bit n 34) opens ∙ halted) h in
      ap (λ (z : List Played). turn_records turn.line (look_word p.1) (slice_range ds turn.from turn.to) (until_look z) ++ script_records ds turns (from_look z)) none
      ∙ ap (λ (z : List Record). z ++ script_records ds turns []) (none-in turn.line (look_word p.1) (filter (is_enabled_by (look_word p.1)) (slice_range ds turn.from turn.to))) ∙ none-left ds turns

-- lists without elements
flat-none : (f : Work → List Record) (works : List Work) → ((w : Work) → Contains works w → f w ≡ []) → flat_map f works ≡ []
flat-none f [] each = refl
flat-none f (w ∷ works) each = ap (λ (z : List Record). z ++ flat_map f works) (each w (0, omega arith, refl)) ∙ flat-none f works (λ v has. each v (suc (has.0), (let l = has.1 in omega arith), has.2))

-- so the history has none
pub halted-records : (input : Input) (js : List Judge) (h : List Entry) → IsPlain input → IsOneHistory input js h → has_bit (opening_word input.setup) 34 ≡ true → records_of input js h ≡ []
halted-records input js h plain one halted =
    ap sort_records (flat-none (λ w. script_records w.deliveries w.turns (played input.setup js (2 + w.cpu) (reverse h))) input.works
    (λ w has. halted-script input.setup input.panics halted w.deliveries w.turns (played input.setup js (2 + w.cpu) (reverse h)) (plays input js h one.legal one.no_changes w has)
    (calm-played (opening_word input.setup) input.setup js (2 + w.cpu) (reverse h) (quiet input js h plain one))))
    ∙ sort_records-nil

-- ---- the records of a part
module _ (n : Numbering) (keep : ℕ → ℕ → Bool) (whole part : Input) (js : List Judge) (h k : List Entry) (plain : IsPlain whole) (plain' : IsPlain part) (apart : KeepsApart n part.setup.shape) (is : IsPartOf n keep whole part)
    (one : IsOneHistory whole js h) (one' : IsOneHistory part js k) where
  -- the opening switches are the same
  same-look : opening_word part.setup ≡ opening_word whole.setup
  same-look = ap (λ (w : ℕ). number_of (has_bit w) 64) is.switches

  -- the records of all works
  abbrev flat : Input → List Entry → List Record
  flat input past = flat_map (λ w. script_records w.deliveries w.turns (played input.setup js (2 + w.cpu) (reverse past))) input.works

  -- the delivery of the part is kept
  abbrev here : Made → Bool
  here x = keeps keep (placed_by n x.place)

  -- the records of the whole, of one that runs
  running-records : has_bit (opening_word whole.setup) 34 ≡ false → has_bit (opening_word part.setup) 34 ≡ false → filter (is_kept keep) (flat whole h) ≡ filter (is_kept keep) (map (record_in n) (flat part k))
  running-records running running' =
      let wholes : List Made = all whole js h plain one running in
      let parts : List Made = all part js k plain' one' running' in
      let look : ℕ = opening_word part.setup in
      ap (filter (is_kept keep)) (all-made whole js h plain one running).records_are
      ∙ filter-map (made_record (opening_word whole.setup)) (is_kept keep) wholes
      ∙ ap (map (made_record (opening_word whole.setup))) (part-made n keep whole part js h k plain plain' apart is one one' running running')
      ∙ map-map (made_in n) (made_record (opening_word whole.setup)) (filter here parts)
      ∙ ap (λ (w : ℕ). map (λ x. record_in n (made_record w x)) (filter here parts)) (sym same-look)
      ∙ sym (filter-map (λ x. record_in n (made_record look x)) (is_kept keep) parts)
      ∙ ap (filter (is_kept keep)) (sym (map-map (made_record look) (record_in n) parts))
      ∙ ap (λ (z : List Record). filter (is_kept keep) (map (record_in n) z)) (sym (all-made part js k plain' one' running').records_are)

  -- the records of the whole on what is kept
  pub part-records : filter (is_kept keep) (records_of whole js h) ≡ filter (is_kept keep) (map (record_in n) (records_of part js k))
  part-records = go (has_bit (opening_word whole.setup) 34) refl
    where
      go : (b : Bool) → has_bit (opening_word whole.setup) 34 ≡ b → filter (is_kept keep) (records_of whole js h) ≡ filter (is_kept keep) (map (record_in n) (records_of part js k))
      go true halted =
          ap (filter (is_kept keep)) (halted-records whole js h plain one halted)
          ∙ ap (λ (z : List Record). filter (is_kept keep) (map (record_in n) z)) (sym (halted-records part js k plain' one' (ap (λ (w : ℕ). has_bit w 34) same-look ∙ halted)))
      go false running =
          filter-sort (is_kept keep) (flat whole h) ∙ ap sort_records (running-records running (ap (λ (w : ℕ). has_bit w 34) same-look ∙ running))
          ∙ sym (filter-sort (is_kept keep) (map (record_in n) (flat part k))) ∙ ap (filter (is_kept keep)) (sort-in n apart.orders (flat part k))

-- the law
pub part_has_its_records : PartHasItsRecords
part_has_its_records n keep whole part js ks h k a =
    let by_tables : AreJudges part.specs whole.setup.tables ks = subst (λ (t : List Table). AreJudges part.specs t ks) a.is_part.tables a.part_judges in
    let by_specs : AreJudges whole.specs whole.setup.tables ks = subst (λ (z : List Spec). AreJudges z whole.setup.tables ks) a.is_part.specs by_tables in
    let same : ks ≡ js = lists-same whole.specs whole.setup.tables ks js by_specs a.judges in
    part-records n keep whole part js h k a.plain a.part_plain a.numbers a.is_part a.history (subst (λ (z : List Judge). IsOneHistory part z k) same a.part_history)
    ∙ ap (λ (z : List Judge). filter (is_kept keep) (map (record_in n) (records_of part z k))) (sym same)
