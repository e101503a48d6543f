-- Parts of a turn, and turns of a script, one after another.
use Rattle.std.proofs.Common.{◌≡◌, ℕ, ◌^◌, Bool, true, false, ◌&&◌, List, [], ◌∷◌, ◌++◌, map, inl, inr, refl, sym, ap, ◌∙◌, subst, append_assoc, append-nil}
use Rattle.std.specs.Prelude.{filter, zip, MatchBool, slice_range}
use Rattle.rv_model.specs.declared.entry.Act.TheVariants.{Look, Raise}
use Rattle.rv_model.specs.declared.entry.Answer.{Answer}
use Rattle.rv_model.specs.declared.entry.Answer.TheVariants.{Looked}
use Rattle.rv_model.specs.declared.entry.Entry.{Entry}
use Rattle.rv_model.specs.declared.record.Record.{Record}
use Rattle.rv_model.specs.declared.work.Delivery.{Delivery}
use Rattle.rv_model.specs.declared.work.Turn.{Turn}
use Rattle.rv_model.specs.Histories.{look_count}
use Rattle.rv_model.specs.Numbers.{has_bit}
use Rattle.rv_model.specs.Records.{record_of, is_look, is_delivery, until_look, from_look, script_records, turn_records}
use Rattle.rv_model.specs.inner.ScriptParts.{records_in, TurnPart, LastPart, turn_lists, GoesOn, EndsScript}
use Rattle.rv_model.specs.Scripts.{Played, is_enabled_by, fails, Makes, Delivers, PlaysTurns}
use Rattle.rv_model.specs.Setups.{Setup, slot_of}
use Rattle.rv_model.proofs.HitLemmas.{hit-no_look, hit-not_look, hit-delivers}

-- a look is one
is-look : (p : Played) → p.0.act ≡ Look → is_look p ≡ true
is-look p e = rw e refl

-- a test that is known chooses its case
match_true : (b : Bool) (P Q : Type 0) → b ≡ true → P → MatchBool b P Q
match_true b P Q e p = rw e p

-- and so does one that is known to be false
match_false : (b : Bool) (P Q : Type 0) → b ≡ false → Q → MatchBool b P Q
match_false b P Q e q = rw e q

-- ---- parts of a turn
module _ (s : Setup) (panics : ℕ → Bool) (look line : ℕ) where
  -- nothing is a part, for no delivery
  pub part-nothing : TurnPart s panics look line [] [] []
  part-nothing = record { go = λ rest turns qs h. h; until = λ qs. refl; from = λ qs. refl; records = λ rest qs. refl }

  -- a part after a part
  pub part-join : (ds es : List Delivery) (ps qs : List Played) (rs us : List Record) → TurnPart s panics look line ds ps rs → TurnPart s panics look line es qs us → TurnPart s panics look line (ds ++ es) (ps ++ qs) (rs ++ us)
  part-join ds es ps qs rs us a b = record {
    go = λ rest turns more h. rw (append_assoc ds es rest, append_assoc ps qs more) (a.go (es ++ rest) turns (qs ++ more) (b.go rest turns more h));
    until = λ more. ap until_look (append_assoc ps qs more) ∙ a.until (qs ++ more) ∙ ap (λ (z : List Played). ps ++ z) (b.until more) ∙ sym (append_assoc ps qs (until_look more));
    from = λ more. ap from_look (append_assoc ps qs more) ∙ a.from (qs ++ more) ∙ b.from more;
    records = λ rest more. ap (records_in line look ((ds ++ es) ++ rest)) (append_assoc ps qs more) ∙ ap (λ (z : List Delivery). records_in line look z (ps ++ (qs ++ more))) (append_assoc ds es rest)
        ∙ a.records (es ++ rest) (qs ++ more) ∙ ap (λ (z : List Record). rs ++ z) (b.records rest more) ∙ sym (append_assoc rs us (records_in line look rest more));
  }

  -- the last part after a part
  pub last-join : (ds es : List Delivery) (ps qs : List Played) (rs us : List Record) → TurnPart s panics look line ds ps rs → LastPart s panics look line es qs us → LastPart s panics look line (ds ++ es) (ps ++ qs) (rs ++ us)
  last-join ds es ps qs rs us a b = record {
    go = λ rest turns. rw (append_assoc ds es rest) (a.go (es ++ rest) turns qs (b.go rest turns));
    until = a.until qs ∙ ap (λ (z : List Played). ps ++ z) b.until;
    from = a.from qs ∙ b.from;
    records = λ rest. ap (λ (z : List Delivery). records_in line look z (ps ++ qs)) (append_assoc ds es rest) ∙ a.records (es ++ rest) qs ∙ ap (λ (z : List Record). rs ++ z) (b.records rest);
  }

  -- ---- one delivery or end, or the stop in its place
  module _ (d : Delivery) (e : Entry) (a : Answer) (makes : Makes s d (e, a)) where
    abbrev slot : ℕ
    slot = slot_of s.shape d.monitor d.instance

    no_look : is_look (e, a) ≡ false
    no_look = elim makes [ inl act ↦ rw act (hit-not_look slot d.hit) | inr stop ↦ rw stop.1 refl ]

    delivery : is_delivery (e, a) ≡ true
    delivery = elim makes [ inl act ↦ rw act (hit-delivers slot d.hit) | inr stop ↦ rw stop.1 refl ]

    -- it is no look
    pub part-quiet : look_count e.act ≡ 0
    part-quiet = elim makes [ inl act ↦ rw act (hit-no_look slot d.hit) | inr stop ↦ rw stop.1 refl ]

    module _ (r : Record) (record-is : record_of line look (d, (e, a)) ≡ r) where
      -- after it the script goes on
      pub part-one : (fails a && (panics d.monitor && has_bit look 33)) ≡ false → TurnPart s panics look line (d ∷ []) ((e, a) ∷ []) (r ∷ [])
      part-one on = record {
        go = λ rest turns qs h. (makes, match_false (fails a && (panics d.monitor && has_bit look 33)) _ _ on h);
        until = λ qs. rw no_look refl;
        from = λ qs. rw no_look refl;
        records = λ rest qs. rw delivery (ap (λ (z : Record). z ∷ records_in line look rest qs) record-is);
      }

      -- after it and a raise of the halted bit the script ends
      pub last-one : (fails a && (panics d.monitor && has_bit look 33)) ≡ true → (f : Entry) (b : Answer) → f.act ≡ Raise (2 ^ 34) → LastPart s panics look line (d ∷ []) ((e, a) ∷ (f, b) ∷ []) (r ∷ [])
      last-one ends f b raise =
          let no_look' : is_look (f, b) ≡ false = rw raise refl in
          let no_delivery : is_delivery (f, b) ≡ false = rw raise refl in
          record {
            go = λ rest turns. (makes, match_true (fails a && (panics d.monitor && has_bit look 33)) _ _ ends ((f, b), refl, raise));
            until = rw (no_look, no_look') refl;
            from = rw (no_look, no_look') refl;
            records = λ rest. rw (delivery, no_delivery) (ap (λ (z : Record). z ∷ map (record_of line look) (zip rest [])) record-is ∙ ap (λ (z : List Record). r ∷ z) (none rest));
          }
        where
          none : (rest : List Delivery) → map (record_of line look) (zip rest []) ≡ []
          none [] = refl
          none (x ∷ rest) = refl

-- ---- a whole turn

-- what plays turns begins with a look, or is nothing
begins : (s : Setup) (panics : ℕ → Bool) (ds : List Delivery) (rest : List Turn) (qs : List Played) → PlaysTurns s panics (turn_lists ds rest) qs → (until_look qs ≡ []) × (from_look qs ≡ qs)
begins s panics ds [] qs h = (rw h refl, rw h refl)
begins s panics ds (t ∷ rest) [] h = absurd h
begins s panics ds (t ∷ rest) (q ∷ qs) h = (rw (is-look q h.1) refl, rw (is-look q h.1) refl)

module _ (s : Setup) (panics : ℕ → Bool) (ds : List Delivery) (turn : Turn) (e : Entry) (act : e.act ≡ Look) where
  -- a look that shows no halt, and a part for all that it shows on: the script goes on
  pub turn-goes : (word : ℕ) → has_bit word 34 ≡ false → (ps : List Played) (rs : List Record) → TurnPart s panics word turn.line (filter (is_enabled_by word) (slice_range ds turn.from turn.to)) ps rs → GoesOn s panics ds (turn ∷ []) ((e, Looked word) ∷ ps) rs
  turn-goes word on ps rs p = record {
    plays = λ rest qs h. (word, act, refl, match_false (has_bit word 34) _ _ on (subst (λ (z : List Delivery). Delivers s panics word z (PlaysTurns s panics (turn_lists ds rest)) (ps ++ qs)) (append-nil (filter (is_enabled_by word) (slice_range ds turn.from turn.to))) (p.go [] (turn_lists ds rest) qs h)));
    records = λ rest qs h.
        let b = begins s panics ds rest qs h in
        let until : until_look (ps ++ qs) ≡ ps = p.until qs ∙ ap (λ (z : List Played). ps ++ z) b.0 ∙ append-nil ps in
        let from : from_look (ps ++ qs) ≡ qs = p.from qs ∙ b.1 in
        let now : turn_records turn.line word (slice_range ds turn.from turn.to) ps ≡ rs =
        ap (λ (z : List Played). records_in turn.line word (filter (is_enabled_by word) (slice_range ds turn.from turn.to)) z) (sym (append-nil ps))
        ∙ ap (λ (z : List Delivery). records_in turn.line word z (ps ++ [])) (sym (append-nil (filter (is_enabled_by word) (slice_range ds turn.from turn.to))))
        ∙ p.records [] [] ∙ append-nil rs in
        rw (until, from) (ap (λ (z : List Record). z ++ script_records ds rest qs) now);
  }

  -- of turns that were not played there is no record
  nothing-left : (rest : List Turn) → script_records ds rest [] ≡ []
  nothing-left [] = refl
  nothing-left (t ∷ rest) = refl

  -- a look that shows no halt, and a last part for some that it shows on: the script ends
  pub turn-ends : (word : ℕ) → has_bit word 34 ≡ false → (es : List Delivery) (more : List Delivery) (ps : List Played) (rs : List Record) → filter (is_enabled_by word) (slice_range ds turn.from turn.to) ≡ es ++ more → LastPart s panics word turn.line es ps rs → EndsScript s panics ds (turn ∷ []) ((e, Looked word) ∷ ps) rs
  turn-ends word on es more ps rs split p = record {
    plays = λ rest. (word, act, refl, match_false (has_bit word 34) _ _ on (subst (λ (z : List Delivery). Delivers s panics word z (PlaysTurns s panics (turn_lists ds rest)) ps) (sym split) (p.go more (turn_lists ds rest))));
    records = λ rest.
        let now : turn_records turn.line word (slice_range ds turn.from turn.to) ps ≡ rs = ap (λ (z : List Delivery). records_in turn.line word z ps) split ∙ p.records more in
        rw (p.until, p.from) (ap (λ (z : List Record). z ++ script_records ds rest []) now ∙ ap (λ (z : List Record). rs ++ z) (nothing-left rest) ∙ append-nil rs);
  }

  -- a look that shows a halt: the script ends
  pub turn-halted : (word : ℕ) → has_bit word 34 ≡ true → EndsScript s panics ds (turn ∷ []) ((e, Looked word) ∷ []) []
  turn-halted word off = record {
    plays = λ rest. (word, act, refl, match_true (has_bit word 34) _ _ off refl);
    records = λ rest. ap (λ (z : List Record). z ++ script_records ds rest []) (none (filter (is_enabled_by word) (slice_range ds turn.from turn.to))) ∙ nothing-left rest;
  }
    where
      none : (xs : List Delivery) → map (record_of turn.line word) (zip xs []) ≡ []
      none [] = refl
      none (x ∷ xs) = refl

-- ---- turns
module _ (s : Setup) (panics : ℕ → Bool) (ds : List Delivery) where
  -- before the first turn
  pub goes-nothing : GoesOn s panics ds [] [] []
  goes-nothing = record { plays = λ rest qs h. h; records = λ rest qs h. refl }

  -- a turn after which the script goes on
  pub goes-join : (ts us : List Turn) (ps qs : List Played) (rs vs : List Record) → GoesOn s panics ds ts ps rs → GoesOn s panics ds us qs vs → GoesOn s panics ds (ts ++ us) (ps ++ qs) (rs ++ vs)
  goes-join ts us ps qs rs vs a b = record {
    plays = λ rest more h. rw (append_assoc ts us rest, append_assoc ps qs more) (a.plays (us ++ rest) (qs ++ more) (b.plays rest more h));
    records = λ rest more h.
        ap (λ (z : List Turn). script_records ds z ((ps ++ qs) ++ more)) (append_assoc ts us rest) ∙ ap (script_records ds (ts ++ (us ++ rest))) (append_assoc ps qs more)
        ∙ a.records (us ++ rest) (qs ++ more) (b.plays rest more h) ∙ ap (λ (z : List Record). rs ++ z) (b.records rest more h) ∙ sym (append_assoc rs vs (script_records ds rest more));
  }

  -- a turn that ends the script
  pub goes-end : (ts us : List Turn) (ps qs : List Played) (rs vs : List Record) → GoesOn s panics ds ts ps rs → EndsScript s panics ds us qs vs → EndsScript s panics ds (ts ++ us) (ps ++ qs) (rs ++ vs)
  goes-end ts us ps qs rs vs a b = record {
    plays = λ rest. rw (append_assoc ts us rest) (a.plays (us ++ rest) qs (b.plays rest));
    records = λ rest. ap (λ (z : List Turn). script_records ds z (ps ++ qs)) (append_assoc ts us rest) ∙ a.records (us ++ rest) qs (b.plays rest) ∙ ap (λ (z : List Record). rs ++ z) (b.records rest);
  }

  -- what goes on after all turns is the whole script
  pub goes-whole : (ts : List Turn) (ps : List Played) (rs : List Record) → GoesOn s panics ds ts ps rs → PlaysTurns s panics (turn_lists ds ts) ps × (script_records ds ts ps ≡ rs)
  goes-whole ts ps rs goes = (
    subst (λ (qs : List Played). PlaysTurns s panics (turn_lists ds ts) qs) (append-nil ps)
        (subst (λ (us : List Turn). PlaysTurns s panics (turn_lists ds us) (ps ++ [])) (append-nil ts) (goes.plays [] [] refl)),
    ap (λ (us : List Turn). script_records ds us ps) (sym (append-nil ts)) ∙ ap (script_records ds (ts ++ [])) (sym (append-nil ps)) ∙ goes.records [] [] refl ∙ append-nil rs,
  )
