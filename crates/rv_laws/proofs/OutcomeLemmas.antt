-- The outcomes that records tell of are those of the deliveries, stops and ends of the scripts.
use Rattle.std.proofs.Common.{◌≡◌, ℕ, ◌^◌, Bool, true, false, ◌&&◌, ◌||◌, List, [], ◌∷◌, refl, sym, ap, ◌∙◌}
use Rattle.std.specs.Prelude.{filter, flat_map, nat_le, slice_range}
use Rattle.std.specs.List.{list_any}
use Rattle.std.proofs.Math.Bool.{or_assoc, or_comm}
use Rattle.std.proofs.lemmas.List.Folds.{list_any-append}
use Rattle.rv_model.specs.declared.entry.Act.TheVariants.{Raise}
use Rattle.rv_model.specs.declared.record.Delivered.{Delivered}
use Rattle.rv_model.specs.declared.record.Record.{Record}
use Rattle.rv_model.specs.declared.work.Delivery.{Delivery}
use Rattle.rv_model.specs.declared.work.Turn.{Turn}
use Rattle.rv_model.specs.Numbers.{has_bit}
use Rattle.rv_model.specs.Records.{record_of, outcome_of, look_word, is_look, is_delivery, until_look, from_look, turn_records, script_records, sort_records}
use Rattle.rv_model.specs.inner.ScriptParts.{records_in, turn_lists}
use Rattle.rv_model.specs.inner.Sorting.{insert_record}
use Rattle.rv_model.specs.Scripts.{Played, is_enabled_by, fails, Makes, Delivers, PlaysTurns}
use Rattle.rv_model.specs.Setups.{Setup}
use Rattle.rv_model.specs.Works.{Work}
use Rattle.rv_model.proofs.AgreeLemmas.{match-one}
use Rattle.rv_model.proofs.SortLemmas.{sort_records-nil, sort_records-cons}
use Rattle.rv_laws.proofs.LikeLemmas.{begins, made-delivery, made-record, made-from}

-- ---- one of a list of records
module _ (test : Record → Bool) where
  -- the first two of three tests change places
  or-swap : (a b c : Bool) → (a || (b || c)) ≡ (b || (a || c))
  or-swap a b c = sym (or_assoc a b c) ∙ ap (λ (z : Bool). z || c) (or_comm a b) ∙ or_assoc b a c

  -- one record put in its place
  any-insert : (r : Record) (rs : List Record) → list_any test (insert_record r rs) ≡ (test r || list_any test rs)
  any-insert r [] = refl
  any-insert r (x ∷ rs) = go (nat_le r.order x.order) refl (any-insert r rs)
    where
      go : (b : Bool) → nat_le r.order x.order ≡ b → list_any test (insert_record r rs) ≡ (test r || list_any test rs) → list_any test (insert_record r (x ∷ rs)) ≡ (test r || list_any test (x ∷ rs))
      go true le rest = rw le refl
      go false gt rest = rw gt (ap (λ (z : Bool). test x || z) rest ∙ or-swap (test x) (test r) (list_any test rs))

  -- one of the sorted list is one of the list
  pub any-sort : (rs : List Record) → list_any test (sort_records rs) ≡ list_any test rs
  any-sort [] = ap (list_any test) sort_records-nil
  any-sort (r ∷ rs) = ap (list_any test) (sort_records-cons r rs) ∙ any-insert r (sort_records rs) ∙ ap (λ (z : Bool). test r || z) (any-sort rs)

  -- one of all works' records is one of some work's
  pub any-flat_map : (f : Work → List Record) (works : List Work) → list_any test (flat_map f works) ≡ list_any (λ w. list_any test (f w)) works
  any-flat_map f [] = refl
  any-flat_map f (w ∷ works) = list_any-append test (f w) (flat_map f works) ∙ ap (λ (z : Bool). list_any test (f w) || z) (any-flat_map f works)

-- ---- nothing

-- no entry makes no record
pub none-in : (line look : ℕ) (ds : List Delivery) → records_in line look ds [] ≡ []
none-in line look [] = refl
none-in line look (d ∷ ds) = refl

-- an empty script has no record
pub none-left : (ds : List Delivery) (turns : List Turn) → script_records ds turns [] ≡ []
none-left ds [] = refl
none-left ds (t ∷ turns) = refl

-- ---- one script
module _ (test : Delivered → Bool) where
  -- the record has such an outcome
  abbrev pub tells : Record → Bool
  tells r = test r.outcome

  -- the entry makes a delivery that has such an outcome
  abbrev pub shows : Played → Bool
  shows p = is_delivery p && test (outcome_of p.0.act p.1)

module _ (s : Setup) (panics : ℕ → Bool) (test : Delivered → Bool) where
  -- such records of the rest of a turn, and of the turns after it, are the script's
  abbrev Told : ℕ → ℕ → List Delivery → List Turn → List Delivery → List Played → Type 0
  Told line look all turns ds ps = (list_any (tells test) (records_in line look ds (until_look ps)) || list_any (tells test) (script_records all turns (from_look ps))) ≡ list_any (shows test) ps

  module _ (line look : ℕ) (all : List Delivery) (turns : List Turn) where
    -- nothing is left to tell of
    told-nothing : (ds : List Delivery) (ps : List Played) → ps ≡ [] → Told line look all turns ds ps
    told-nothing ds ps none = rw (none, none-in line look ds, none-left all turns) refl

    -- a raise of the halted bit tells of nothing
    told-stop : (ds : List Delivery) (ps : List Played) (x : Played) → ps ≡ x ∷ [] → x.0.act ≡ Raise (2 ^ 34) → Told line look all turns ds ps
    told-stop ds ps x is raise =
        let no_look : is_look x ≡ false = rw raise refl in
        let no_delivery : is_delivery x ≡ false = rw raise refl in
        rw (is, no_look, no_delivery, none-in line look ds, none-left all turns) refl

    -- one delivery more
    told-more : (d : Delivery) (ds : List Delivery) (p : Played) (ps : List Played) → Makes s d p → Told line look all turns ds ps → Told line look all turns (d ∷ ds) (p ∷ ps)
    told-more d ds p ps makes rest =
        let now : Bool = test (outcome_of p.0.act p.1) in
        ap (λ (z : List Record). list_any (tells test) z || list_any (tells test) (script_records all turns (from_look (p ∷ ps)))) (made-record s d p makes line look ds ps)
        ∙ ap (λ (z : List Played). list_any (tells test) (record_of line look (d, p) ∷ records_in line look ds (until_look ps)) || list_any (tells test) (script_records all turns z)) (made-from s d p makes ps)
        ∙ or_assoc now (list_any (tells test) (records_in line look ds (until_look ps))) (list_any (tells test) (script_records all turns (from_look ps)))
        ∙ ap (λ (z : Bool). now || z) rest
        ∙ ap (λ (z : Bool). (z && now) || list_any (shows test) ps) (sym (made-delivery s d p makes))

    -- the records of a turn and those after it
    told-turn : ((ps : List Played) → PlaysTurns s panics (turn_lists all turns) ps → list_any (tells test) (script_records all turns ps) ≡ list_any (shows test) ps)
        → (ds : List Delivery) (ps : List Played) → Delivers s panics look ds (PlaysTurns s panics (turn_lists all turns)) ps → Told line look all turns ds ps
    told-turn later [] ps h = ap (λ (z : List Played). list_any (tells test) (script_records all turns z)) (begins s panics (turn_lists all turns) ps h) ∙ later ps h
    told-turn later (d ∷ ds) [] h = absurd h
    told-turn later (d ∷ ds) (p ∷ ps) h =
        match-one (fails p.1 && (panics d.monitor && has_bit look 33)) _ _ (Told line look all turns (d ∷ ds) (p ∷ ps)) h.1
        (λ stop. told-more d ds p ps h.0 (told-stop ds ps stop.0 stop.1 stop.2))
        (λ rest. told-more d ds p ps h.0 (told-turn later ds ps rest))

  -- such records of a script are such entries of it
  pub told-script : (all : List Delivery) (turns : List Turn) (ps : List Played) → PlaysTurns s panics (turn_lists all turns) ps → list_any (tells test) (script_records all turns ps) ≡ list_any (shows test) ps
  told-script all [] ps h = rw h refl
  told-script all (turn ∷ turns) [] h = absurd h
  told-script all (turn ∷ turns) (p ∷ ps) (look, is, answer, h) =
      let enabled : List Delivery = slice_range all turn.from turn.to in
      let word : look_word p.1 ≡ look = ap look_word answer in
      let quiet : is_delivery p ≡ false = rw is refl in
      let rest : Told turn.line look all turns (filter (is_enabled_by look) enabled) ps = (match-one (has_bit look 34) _ _ (Told turn.line look all turns (filter (is_enabled_by look) enabled) ps) h
      (λ none. told-nothing turn.line look all turns (filter (is_enabled_by look) enabled) ps none)
      (λ some. told-turn turn.line look all turns (told-script all turns) (filter (is_enabled_by look) enabled) ps some)) in
      list_any-append (tells test) (turn_records turn.line (look_word p.1) enabled (until_look ps)) (script_records all turns (from_look ps))
      ∙ ap (λ (n : ℕ). list_any (tells test) (turn_records turn.line n enabled (until_look ps)) || list_any (tells test) (script_records all turns (from_look ps))) word
      ∙ rest ∙ ap (λ (z : Bool). (z && test (outcome_of p.0.act p.1)) || list_any (shows test) ps) (sym quiet)
