-- What the whole makes on the instances that are kept is what the part makes.
use Rattle.std.proofs.Common.{◌≡◌, ℕ, Bool, false, ◌&&◌, List, map, reverse, sym, ap, ◌∙◌, subst}
use Rattle.std.specs.Prelude.{filter, slice_index, slice_index_or}
use Rattle.rv_model.specs.declared.entry.Entry.{Entry}
use Rattle.rv_model.specs.Histories.{Input, IsOneHistory}
use Rattle.rv_model.specs.Judging.{Judge}
use Rattle.rv_model.specs.Numbers.{has_bit, number_of}
use Rattle.rv_model.specs.Setups.{monitor_of, slot_of, judge_of, start_of, no_judge}
use Rattle.rv_laws.specs.Parts.{Placed, placed_in, placed_by, Numbering, KeepsApart, keeps, IsPartOf, IsPlain}
use Rattle.rv_laws.proofs.AllMadeLemmas.{all-made}
use Rattle.rv_laws.proofs.KnownLemmas.{monitor-of, HasPlace, places-have, test-with, IsKnown, KnowsPlace, kept_here, known, kept-at, kept-here, test-at}
use Rattle.rv_laws.proofs.LineLemmas.{in-order, descends, tells-seats}
use Rattle.rv_laws.proofs.ListLemmas.{Every, every-filter, every-weaker, filter-map, filter-same, filter-both, filter-swap, map-map, map-reverse, reverse-same}
use Rattle.rv_laws.proofs.Made.{Made, made_told, placed_step, shown}
use Rattle.rv_laws.proofs.MadeAtLemmas.{all, made_at, steps, told, seat-steps, places-every}
use Rattle.rv_laws.proofs.MergeLemmas.{is_by, same-steps}
use Rattle.rv_laws.proofs.NumberingLemmas.{step_in, told_in, made_in, answered-in, descends-in}
use Rattle.rv_laws.proofs.PartLemmas.{place_of, slot_in, same-made, place-filter, made-same}
use Rattle.rv_laws.proofs.SeatStepLemmas.{line_of, is_told}
use Rattle.rv_laws.proofs.StepLemmas.{told-answered, answered}
use Rattle.rv_laws.proofs.SwitchLemmas.{opening_word}
use Rattle.rv_laws.proofs.WholeLemmas.{is_at, of_place}

module _ (n : Numbering) (keep : ℕ → ℕ → Bool) (whole part : Input) (js : List Judge) (h k : List Entry) (plain : IsPlain whole) (plain' : IsPlain part) (apart : KeepsApart n part.setup.shape) (is : IsPartOf n keep whole part)
    (one : IsOneHistory whole js h) (one' : IsOneHistory part js k) (running : has_bit (opening_word whole.setup) 34 ≡ false) (running' : has_bit (opening_word part.setup) 34 ≡ false) where
  -- what the whole makes
  abbrev wholes : List Made
  wholes = all whole js h plain one running

  -- what the part makes
  abbrev parts : List Made
  parts = all part js k plain' one' running'

  -- the opening switches are the same
  same-look : opening_word part.setup ≡ opening_word whole.setup
  same-look = ap (λ (w : ℕ). number_of (has_bit w) 64) is.switches

  -- the delivery of the part is kept
  abbrev here : Placed → Bool
  here p = kept_here n keep whole part p

  -- the instances of what is kept are known
  known-parts : Every (KnowsPlace n keep whole part) (filter here (map place_of parts))
  known-parts =
      let same : filter here (map place_of parts) ≡ filter (shown (opening_word part.setup)) (filter here (placed_in part.works)) =
      ap (filter here) (all-made part js k plain' one' running').places_are ∙ filter-swap here (shown (opening_word part.setup)) (placed_in part.works) in
      subst (Every (KnowsPlace n keep whole part)) (sym same)
      (every-filter (KnowsPlace n keep whole part) (shown (opening_word part.setup)) (filter here (placed_in part.works)) (known n keep whole part is plain.instances plain'.instances))

  -- the whole's setup has the instances of what it makes
  have-wholes : Every (HasPlace whole.setup.shape) (map place_of wholes)
  have-wholes =
      subst (Every (HasPlace whole.setup.shape)) (sym (all-made whole js h plain one running).places_are)
      (every-filter (HasPlace whole.setup.shape) (shown (opening_word whole.setup)) (placed_in whole.works) (places-have whole.setup.shape whole.works plain.instances))

  -- and the part's those of what the part makes
  have-parts : Every (HasPlace part.setup.shape) (map place_of parts)
  have-parts =
      subst (Every (HasPlace part.setup.shape)) (sym (all-made part js k plain' one' running').places_are)
      (every-filter (HasPlace part.setup.shape) (shown (opening_word part.setup)) (placed_in part.works) (places-have part.setup.shape part.works plain'.instances))

  -- the deliveries that are kept are the same
  kept-places : filter (keeps keep) (map place_of wholes) ≡ map (placed_by n) (filter here (map place_of parts))
  kept-places =
      ap (filter (keeps keep)) (all-made whole js h plain one running).places_are
      ∙ filter-swap (keeps keep) (shown (opening_word whole.setup)) (placed_in whole.works)
      ∙ ap (filter (shown (opening_word whole.setup))) (sym is.deliveries ∙ filter-map (placed_by n) (keeps keep) (placed_in part.works))
      ∙ filter-map (placed_by n) (shown (opening_word whole.setup)) (filter here (placed_in part.works))
      ∙ ap (λ (w : ℕ). map (placed_by n) (filter (shown w) (filter here (placed_in part.works)))) (sym same-look)
      ∙ ap (map (placed_by n)) (filter-swap (shown (opening_word part.setup)) here (placed_in part.works) ∙ ap (filter here) (sym (all-made part js k plain' one' running').places_are))

  -- ---- at one instance
  module _ (monitor instance : ℕ) (at : IsKnown n keep whole part monitor instance) where
    -- the slot in the whole
    abbrev slot : ℕ
    slot = slot_in n keep whole part monitor instance

    -- the slot in the part
    abbrev slot' : ℕ
    slot' = slot_of part.setup.shape monitor instance

    -- the test of the whole's deliveries
    abbrev test : ℕ → Placed → Bool
    test seat = is_at seat whole.setup.shape slot

    -- the test of the part's
    abbrev test' : ℕ → Placed → Bool
    test' seat = is_at seat part.setup.shape slot'

    -- what passes is kept
    passes-kept : (seat : ℕ) (ps : List Placed) → Every (HasPlace whole.setup.shape) ps → filter (test seat) ps ≡ filter (test seat) (filter (keeps keep) ps)
    passes-kept seat ps have =
        filter-same (test seat) (λ p. keeps keep p && test seat p) ps (every-weaker (HasPlace whole.setup.shape) (λ p. test seat p ≡ (keeps keep p && test seat p)) (λ p has. test-with (test seat p) (keeps keep p) (kept-at n keep whole part monitor instance at seat p has)) ps have)
        ∙ sym (filter-both (test seat) (keeps keep) ps)

    -- so it is of the part
    passes-here : (seat : ℕ) (ps : List Placed) → Every (HasPlace part.setup.shape) ps → filter (test' seat) ps ≡ filter (test' seat) (filter here ps)
    passes-here seat ps have =
        filter-same (test' seat) (λ p. here p && test' seat p) ps (every-weaker (HasPlace part.setup.shape) (λ p. test' seat p ≡ (here p && test' seat p)) (λ p has. test-with (test' seat p) (here p) (kept-here n keep whole part monitor instance at seat p has)) ps have)
        ∙ sym (filter-both (test' seat) here ps)

    -- tests of the part's deliveries, as the whole has them
    tests-same : (seat : ℕ) (ps : List Placed) → Every (KnowsPlace n keep whole part) ps → filter (test seat) (map (placed_by n) ps) ≡ map (placed_by n) (filter (test' seat) ps)
    tests-same seat ps all =
        filter-map (placed_by n) (test seat) ps
        ∙ ap (map (placed_by n)) (filter-same (λ p. test seat (placed_by n p)) (test' seat) ps (every-weaker (KnowsPlace n keep whole part) (λ p. test seat (placed_by n p) ≡ test' seat p) (λ p is'. test-at n keep whole part monitor instance at apart seat p is') ps all))

    -- what the whole makes there
    abbrev there : ℕ → List Made
    there seat = made_at whole js h plain one running seat slot

    -- what the part makes there
    abbrev there' : ℕ → List Made
    there' seat = made_at part js k plain' one' running' seat slot'

    -- the deliveries there are the same
    same-places : (seat : ℕ) → map place_of (there seat) ≡ map (placed_by n) (map place_of (there' seat))
    same-places seat =
        place-filter (test seat) wholes ∙ passes-kept seat (map place_of wholes) have-wholes ∙ ap (filter (test seat)) kept-places
        ∙ tests-same seat (filter here (map place_of parts)) known-parts ∙ ap (map (placed_by n)) (sym (passes-here seat (map place_of parts) have-parts) ∙ sym (place-filter (test' seat) parts))

    -- the steps there are the same
    same-at : steps whole js h plain one running slot ≡ map (step_in n) (steps part js k plain' one' running' slot')
    same-at =
        same-steps (steps whole js h plain one running slot) (map (step_in n) (steps part js k plain' one' running' slot'))
        (descends whole.works slot (reverse h) (in-order whole js h one)) (descends-in n apart.lines (steps part js k plain' one' running' slot') (descends part.works slot' (reverse k) (in-order part js k one')))
        (tells-seats whole js h one plain.apart slot)
        (λ seat.
        seat-steps whole js h plain one running seat slot
        ∙ ap (λ (z : List Placed). reverse (map placed_step z)) (same-places seat)
        ∙ ap reverse (map-map (placed_by n) placed_step (map place_of (there' seat)) ∙ sym (map-map placed_step (step_in n) (map place_of (there' seat))))
        ∙ sym (map-reverse (step_in n) (map placed_step (map place_of (there' seat))))
        ∙ ap (map (step_in n)) (sym (seat-steps part js k plain' one' running' seat slot'))
        ∙ sym (filter-map (step_in n) (is_by seat) (steps part js k plain' one' running' slot')))

    -- so are the answers
    same-told : told whole js h plain one running slot ≡ map (told_in n) (told part js k plain' one' running' slot')
    same-told =
        let m = monitor-of whole.setup.shape monitor (n.instance_of monitor instance) at.there in
        let m' = monitor-of part.setup.shape monitor instance at.own in
        let judge : judge_of whole.setup js slot ≡ judge_of part.setup js slot' = ap (λ (x : ℕ). slice_index_or js x no_judge) (m ∙ sym m') in
        let start : start_of whole.setup slot ≡ start_of part.setup slot' = ap (slice_index whole.setup.starts) (m ∙ sym m') ∙ ap (λ (z : List ℕ). slice_index z (monitor_of part.setup.shape slot')) (sym is.starts) in
        told-answered slot (line_of whole.works) whole.setup js (reverse h)
        ∙ ap (answered (judge_of whole.setup js slot) (start_of whole.setup slot)) same-at
        ∙ ap (λ (j : Judge). answered j (start_of whole.setup slot) (map (step_in n) (steps part js k plain' one' running' slot'))) judge
        ∙ ap (λ (x : ℕ). answered (judge_of part.setup js slot') x (map (step_in n) (steps part js k plain' one' running' slot'))) start
        ∙ answered-in n (judge_of part.setup js slot') (start_of part.setup slot') (steps part js k plain' one' running' slot')
        ∙ ap (map (told_in n)) (sym (told-answered slot' (line_of part.works) part.setup js (reverse k)))

    -- so is all that is made there
    same-there : (seat : ℕ) → there seat ≡ map (made_in n) (there' seat)
    same-there seat =
        let back : reverse (map made_told (there seat)) ≡ reverse (map made_told (map (made_in n) (there' seat))) =
        sym ((all-made whole js h plain one running).steps_are seat slot) ∙ ap (filter (is_told seat)) same-told
        ∙ filter-map (told_in n) (is_told seat) (told part js k plain' one' running' slot')
        ∙ ap (map (told_in n)) ((all-made part js k plain' one' running').steps_are seat slot')
        ∙ map-reverse (told_in n) (map made_told (there' seat))
        ∙ ap reverse (map-map made_told (told_in n) (there' seat) ∙ sym (map-map (made_in n) made_told (there' seat))) in
        same-made (there seat) (map (made_in n) (there' seat))
        (same-places seat ∙ map-map place_of (placed_by n) (there' seat) ∙ sym (map-map (made_in n) place_of (there' seat)))
        (reverse-same (map made_told (there seat)) (map made_told (map (made_in n) (there' seat))) back)

    -- as tests of all that is kept
    same-tests : (seat : ℕ) → filter (of_place (test seat)) (filter (of_place (keeps keep)) wholes) ≡ filter (of_place (test seat)) (map (made_in n) (filter (of_place here) parts))
    same-tests seat =
        filter-both (of_place (test seat)) (of_place (keeps keep)) wholes
        ∙ sym (filter-same (of_place (test seat)) (λ x. keeps keep x.place && test seat x.place) wholes
        (places-every (λ p. test seat p ≡ (keeps keep p && test seat p)) wholes (every-weaker (HasPlace whole.setup.shape) (λ p. test seat p ≡ (keeps keep p && test seat p)) (λ p has. test-with (test seat p) (keeps keep p) (kept-at n keep whole part monitor instance at seat p has)) (map place_of wholes) have-wholes)))
        ∙ same-there seat
        ∙ ap (map (made_in n)) made-here ∙ sym (filter-map (made_in n) (of_place (test seat)) (filter (of_place here) parts))
      where
        -- of the part
        made-here : there' seat ≡ filter (λ x. test seat (placed_by n x.place)) (filter (of_place here) parts)
        made-here =
            filter-same (of_place (test' seat)) (λ x. here x.place && test' seat x.place) parts
            (places-every (λ p. test' seat p ≡ (here p && test' seat p)) parts (every-weaker (HasPlace part.setup.shape) (λ p. test' seat p ≡ (here p && test' seat p)) (λ p has. test-with (test' seat p) (here p) (kept-here n keep whole part monitor instance at seat p has)) (map place_of parts) have-parts))
            ∙ sym (filter-both (of_place (test' seat)) (of_place here) parts)
            ∙ filter-same (of_place (test' seat)) (λ x. test seat (placed_by n x.place)) (filter (of_place here) parts)
            (places-every (λ p. test' seat p ≡ test seat (placed_by n p)) (filter (of_place here) parts)
            (subst (Every (λ p. test' seat p ≡ test seat (placed_by n p))) (sym (place-filter here parts))
            (every-weaker (KnowsPlace n keep whole part) (λ p. test' seat p ≡ test seat (placed_by n p)) (λ p is'. sym (test-at n keep whole part monitor instance at apart seat p is')) (filter here (map place_of parts)) known-parts)))

  -- ---- at all instances

  -- the whole makes there what the part makes
  pub part-made : filter (of_place (keeps keep)) wholes ≡ map (made_in n) (filter (of_place here) parts)
  part-made =
      made-same n keep whole part (filter (of_place (keeps keep)) wholes) (filter (of_place here) parts)
      (places-every (KnowsPlace n keep whole part) (filter (of_place here) parts) (subst (Every (KnowsPlace n keep whole part)) (sym (place-filter here parts)) known-parts))
      (place-filter (keeps keep) wholes ∙ kept-places ∙ ap (map (placed_by n)) (sym (place-filter here parts)) ∙ map-map place_of (placed_by n) (filter (of_place here) parts) ∙ sym (map-map (made_in n) place_of (filter (of_place here) parts)))
      (λ seat monitor instance at. same-tests monitor instance at seat)
