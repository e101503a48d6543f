use Rattle.std.proofs.Common.{◌≡◌, ◌∙◌, ℕ, true, List, [], map, ap, sym, get_or, drop}
use Rattle.rv_dot.specs.inner.Held.{bytes_of}
use Rattle.rv_header.specs.inner.Taking.{pieces, piece_from, quoted_in, members_in, state_names_in, events_in, rows_in, marks_in, are_few}
use Rattle.rv_header.proofs.FilesTaken.{many_states, many_events, file_is}
use Rattle.rv_header.proofs.reading.file_in.Goals as goal
use Rattle.rv_header.proofs.reading.file_in.Goals.{then-not-are_few-via-then-not-are_few, then-not-are_few-via-else-not-are_few+then-not-are_few-2}

pub returns-then-not-are_few : goal.returns-then-not-are_few
unfolding piece_from
returns-then-not-are_few c =
    let at : ℕ → List (List ℕ) → List ℕ = λ k ps. get_or ps k [] in
    let states : map bytes_of c.in_ok-states.states.items ≡ state_names_in c.args.bytes.now = c.in_ok-states.ensures ∙ ap quoted_in (c.text_at.ensures ∙ ap (at 1) (ap (map bytes_of) c.deref.ensures.value ∙ c.in_ok-texts.ensures)) in
    let events : map bytes_of c.in_ok-events.events.items ≡ events_in c.args.bytes.now = c.in_ok-events.ensures ∙ ap quoted_in (c.text_at-2.ensures ∙ ap (at 2) (ap (map bytes_of) c.deref-2.ensures.value ∙ c.in_ok-texts.ensures)) in
    let first : are_few 31 (map bytes_of c.in_ok-states.states.items) ≡ c.are_few.result = sym (c.are_few.ensures ∙ ap (are_few 31) (ap (map bytes_of) c.deref-3.ensures.value)) in
    elim c.then-not-are_few.branch [
      | then-not-are_few-via-then-not-are_few w ↦ many_states c.args.bytes.now _ states (first ∙ w.if-not-are_few.true)
      | then-not-are_few-via-else-not-are_few+then-not-are_few-2 w ↦ many_events c.args.bytes.now _ _ states events (first ∙ w.if-not-are_few.false)
          (ap (are_few 64) (ap (map bytes_of) (sym w.deref-else-not-are_few.ensures.value)) ∙ sym w.are_few-else-not-are_few.ensures ∙ w.if-not-are_few-2.true)
    ]

pub returns : goal.returns
unfolding piece_from
returns c =
    let at : ℕ → List (List ℕ) → List ℕ = λ k ps. get_or ps k [] in
    let states : map bytes_of c.in_ok-states.states.items ≡ state_names_in c.args.bytes.now = c.in_ok-states.ensures ∙ ap quoted_in (c.text_at.ensures ∙ ap (at 1) (ap (map bytes_of) c.deref.ensures.value ∙ c.in_ok-texts.ensures)) in
    let events : map bytes_of c.in_ok-events.events.items ≡ events_in c.args.bytes.now = c.in_ok-events.ensures ∙ ap quoted_in (c.text_at-2.ensures ∙ ap (at 2) (ap (map bytes_of) c.deref-2.ensures.value ∙ c.in_ok-texts.ensures)) in
    let rows : drop 2 (pieces 123 c.text_at-rows.result.now) ≡ rows_in c.args.bytes.now = ap (λ (text : List ℕ). drop 2 (pieces 123 text)) (c.text_at-rows.ensures ∙ ap (at 3) (ap (map bytes_of) c.deref-4.ensures.value ∙ c.in_ok-texts.ensures)) in
    let marks : members_in (piece_from 123 1 c.text_at-marks.result.now) ≡ marks_in c.args.bytes.now = ap (λ (text : List ℕ). members_in (piece_from 123 1 text)) (c.text_at-marks.ensures ∙ ap (at 5) (ap (map bytes_of) c.deref-5.ensures.value ∙ c.in_ok-texts.ensures)) in
    let few : are_few 31 (map bytes_of c.in_ok-states.states.items) ≡ true = sym (c.are_few.ensures ∙ ap (are_few 31) (ap (map bytes_of) c.deref-3.ensures.value)) ∙ c.if-not-are_few.false in
    let few' : are_few 64 (map bytes_of c.in_ok-events.events.items) ≡ true = sym (c.are_few-else-not-are_few.ensures ∙ ap (are_few 64) (ap (map bytes_of) c.deref-else-not-are_few.ensures.value)) ∙ c.if-not-are_few-2.false in
    let s = ap (map bytes_of) c.deref-6.ensures.value in
    let e = ap (map bytes_of) c.deref-7.ensures.value in
    file_is c.args.bytes.now c.args.name.now (map bytes_of c.deref-6.result.now) (map bytes_of c.deref-7.result.now) _ _ c.in_ok-drawn_by.field-0
    c.requires (s ∙ states) (e ∙ events) rows marks (ap (are_few 31) s ∙ few) (ap (are_few 64) e ∙ few') c.in_ok-drawn_by.ensures
