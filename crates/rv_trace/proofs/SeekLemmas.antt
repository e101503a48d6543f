-- From the places in the bytes that are held to the lines of the stream.
use Rattle.std.proofs.Common.{◌≡◌, ℕ, suc, ◌+◌, ◌-◌, ◌<◌, ◌≤◌, inl, inr, Bool, true, false, ◌||◌, cond, ltb, min, List, [], ◌∷◌, ◌++◌, length, get_or, take, drop, Option, Some, None, Result, Ok, Err, refl, sym, ◌∙◌, ap, ap₂, subst, arith, append_assoc, append-nil, length-append, length-drop, drop-cons}
use Rattle.std.proofs.lemmas.Bool.{cases_lt, false≢true, or_cases, or_left, ltb-true}
use Rattle.std.proofs.lemmas.List.{length-take-le, drop-drop, take_at, take_all, take-append-drop, get_or-take, get_or-drop}
use Rattle.std.proofs.lemmas.List.Edits.{split_between, length-between}
use Rattle.std.proofs.Math.ListN.{drop_of_length-le}
use Rattle.rv_text.specs.Places.{between}
use Rattle.rv_text.specs.TextLines.{LineText, lines_of, next_number}
use Rattle.rv_text.specs.declared.refusals.Refusal.{Refusal}
use Rattle.rv_trace.specs.declared.line.TraceLine.{TraceLine}
use Rattle.rv_trace.specs.declared.trace.TheConstants.{MAX_BYTES}
use Rattle.rv_trace.specs.Lines.{moved, moved_line}
use Rattle.rv_trace.specs.Traces.{reading_of}
use Rattle.rv_trace.specs.Held.{IsPieceOf}
use Rattle.rv_trace.specs.inner.Seeking.{EndsAt, HasNoLineEnd}
use Rattle.rv_trace.specs.Streams.{ended_front, is_whole, part_read, Adds, TakesLine, AnswersLine, StandsAt, IsPassed}
use Rattle.rv_trace.proofs.StreamLemmas.{NoEnd, ended_front-none, line_before, behind_line, Steps, steps-ended, steps-last, stands-next}
use Rattle.rv_trace.proofs.AddLemmas.{Moves, adds-line, adds-skip, reading-fits, reading-moved}

-- what a line says of the stream that was read up to its end
pub record Tells (fed held : List ℕ) (passed from to : ℕ) (closed : Bool) (before : List ℕ) (end next : ℕ) (read : Result (Option TraceLine) Refusal) : Type 0 where
  pub passes : (found : Option TraceLine) → read ≡ Ok found → IsPassed fed closed (passed + end) next
  pub skips : read ≡ Ok None → Adds before (take (passed + end) fed) []
  pub takes : (line : TraceLine) → read ≡ Ok (Some line) → AnswersLine before (take (passed + end) fed) (part_read closed fed) (between held from to) read
  pub refuses : (refusal : Refusal) (text : List ℕ) → read ≡ Err refusal → AnswersLine before (take (passed + from) fed) (part_read closed fed) text read

module _ (fed held : List ℕ) (passed from number : ℕ) (closed : Bool) (piece : IsPieceOf fed held passed) (within : from ≤ length held) where
  -- the bytes that were fed before the next line
  abbrev pub done : List ℕ
  done = take (passed + from) fed

  -- the bytes that are held and those in front of them are all that were fed
  size : length held + passed ≡ length fed
  size = let low : passed ≤ length fed = piece.low in omega (arith, ap {B = ℕ} length piece.is, length-drop passed fed)

  done-size : length done ≡ passed + from
  done-size = length-take-le (passed + from) fed (omega (arith, size))

  reads : (k : ℕ) → get_or fed (passed + k) 0 ≡ get_or held k 0
  reads k = sym (get_or-drop passed fed k 0) ∙ ap (λ text. get_or text k 0) (sym piece.is)

  -- no line is left
  pub open-is : IsPassed fed closed (passed + from) number → HasNoLineEnd held from (closed || ltb MAX_BYTES (passed + length held)) → done ≡ part_read closed fed
  open-is stands left =
      let same : passed + length held ≡ length fed = omega (arith, size) in
      elim (is_whole closed fed) as (λ b. is_whole closed fed ≡ b → done ≡ cond b fed (ended_front fed)) [
        | true ↦ (λ whole. let end : from ≡ length held = left.last (ap (λ n. closed || ltb MAX_BYTES n) same ∙ whole) in take_all (passed + from) fed (omega (arith, size)))
        | false ↦ (λ more. elim stands [
          | inl here ↦ (
              let rest : List ℕ = drop (passed + from) fed in
              let none : NoEnd (drop (passed + from) fed) = λ k h e. (
              let inside : from + k < length held = omega (arith, size, length-drop (passed + from) fed) in
              let at : passed + from + k ≡ passed + (from + k) = omega arith in
              left.none (from + k) (omega arith) inside (sym (reads (from + k)) ∙ ap (λ n. get_or fed n 0) (sym at) ∙ sym (get_or-drop (passed + from) fed k 0) ∙ e)) in
              sym (ap ended_front (sym (take-append-drop (passed + from) fed)) ∙ here.fronts (drop (passed + from) fed)
              ∙ ap (λ text. done ++ text) (ended_front-none (drop (passed + from) fed) none) ∙ append-nil done))
          | inr past ↦ absurd (false≢true (sym more ∙ or_left _ _ past.0))
        ])
      ] refl

  module _ (to : ℕ) (ends : EndsAt held from (closed || ltb MAX_BYTES (passed + length held)) to) where
    abbrev pub bytes : List ℕ
    bytes = between held from to

    abbrev pub after : List ℕ
    after = take (passed + min (to + 1) (length held)) fed

    bytes-size : length bytes ≡ to - from
    bytes-size = length-between held from to ends.within

    bytes-none : NoEnd bytes
    bytes-none k h e =
        ends.none (from + k) (omega arith) (omega (arith, bytes-size)) (sym (get_or-take (to - from) (drop from held) k 0 (omega (arith, bytes-size)) ∙ get_or-drop from held k 0) ∙ e)

    fed-is : fed ≡ done ++ (bytes ++ drop (passed + to) fed)
    fed-is =
        let order : from ≤ to = ends.order in
        let count : passed + to - (passed + from) ≡ to - from = omega arith in
        let rest : drop (passed + from) fed ≡ drop from held = sym (drop-drop from passed fed) ∙ ap (drop from) (sym piece.is) in
        split_between fed (passed + from) (passed + to) (omega arith)
        ∙ ap (λ text. done ++ (text ++ drop (passed + to) fed)) (ap₂ (λ n text. take n text) count rest)

    -- a line that has its line end
    pub moves-ended : StandsAt done number → to < length held → Moves fed closed done after bytes (passed + from) (passed + min (to + 1) (length held)) number (passed + min (to + 1) (length held))
    moves-ended stands inside =
        let order : from ≤ to = ends.order in
        let head : get_or fed (passed + to) 0 ≡ 10 = reads to ∙ ends.ended inside in
        let tail : drop (passed + to) fed ≡ 10 ∷ drop (suc (passed + to)) fed = drop-cons fed (passed + to) 0 (omega (arith, size)) ∙ ap (λ b. b ∷ drop (suc (passed + to)) fed) head in
        let whole : fed ≡ done ++ (bytes ++ 10 ∷ drop (suc (passed + to)) fed) = fed-is ∙ ap (λ text. done ++ (bytes ++ text)) tail in
        let front : fed ≡ (done ++ (bytes ++ 10 ∷ [])) ++ drop (suc (passed + to)) fed = whole ∙ sym (behind_line done bytes (drop (suc (passed + to)) fed)) in
        let count : length (done ++ (bytes ++ 10 ∷ [])) ≡ passed + min (to + 1) (length held) = length-append done (bytes ++ 10 ∷ []) ∙ ap (λ n. length done + n) (length-append bytes (10 ∷ [])) ∙ omega (arith, done-size, bytes-size) in
        let same : after ≡ done ++ (bytes ++ 10 ∷ []) = ap (take (passed + min (to + 1) (length held))) front ∙ take_at (done ++ (bytes ++ 10 ∷ [])) (drop (suc (passed + to)) fed) (passed + min (to + 1) (length held)) count in
        let end : length done + min (length bytes + 1) (length bytes + length {A = ℕ} (10 ∷ [])) ≡ passed + min (to + 1) (length held) = omega (arith, done-size, bytes-size) in
        record {
          line = line_before done bytes (10 ∷ []) number;
          is = ap₂ {C = LineText} (λ place e. record { number = number; from = place; bytes = bytes; end = e }) done-size end;
          steps = subst (λ (text : List ℕ). Steps closed fed done text (line_before done bytes (10 ∷ []) number)) (sym same)
              (steps-ended done bytes number stands bytes-none closed fed (drop (suc (passed + to)) fed) whole);
          passes = λ _. inl (subst (λ (text : List ℕ). StandsAt text (next_number number)) (sym same) (stands-next done bytes number stands bytes-none));
        }

    -- the last line, which has none
    pub moves-last : StandsAt done number → to ≡ length held → Moves fed closed done after bytes (passed + from) (passed + min (to + 1) (length held)) number (passed + min (to + 1) (length held))
    moves-last stands past =
        let last = ends.last past in
        let same : passed + length held ≡ length fed = omega (arith, size) in
        let all : is_whole closed fed ≡ true = ap (λ n. closed || ltb MAX_BYTES n) (sym same) ∙ last.1 in
        let none : drop (passed + to) fed ≡ [] = drop_of_length-le fed (omega (arith, size)) in
        let whole : fed ≡ done ++ (bytes ++ []) = fed-is ∙ ap (λ text. done ++ (bytes ++ text)) none in
        let is_fed : after ≡ fed = take_all (passed + min (to + 1) (length held)) fed (omega (arith, size)) in
        let end : length done + min (length bytes + 1) (length bytes + length {A = ℕ} []) ≡ passed + min (to + 1) (length held) = omega (arith, done-size, bytes-size, last.0) in
        record {
          line = line_before done bytes [] number;
          is = ap₂ {C = LineText} (λ place e. record { number = number; from = place; bytes = bytes; end = e }) done-size end;
          steps = subst (λ (text : List ℕ). Steps closed fed done text (line_before done bytes [] number)) (sym is_fed)
              (steps-last done bytes number stands bytes-none closed fed whole (omega (arith, bytes-size, last.0)) all);
          passes = λ fits. inr (
            elim (or_cases closed (ltb MAX_BYTES (length fed)) all) [
              | inl ended ↦ ended
              | inr long ↦ absurd (let past_limit : MAX_BYTES < length fed = ltb-true _ _ long in omega (arith, size))
            ],
            omega (arith, size),
          );
        }

    -- either
    pub moves : IsPassed fed closed (passed + from) number → Moves fed closed done after bytes (passed + from) (passed + min (to + 1) (length held)) number (passed + min (to + 1) (length held))
    moves (inl stands) =
        elim (cases_lt to (length held)) [
          | inl inside ↦ moves-ended stands inside
          | inr past ↦ moves-last stands (let high : to ≤ length held = ends.within in omega arith)
        ]
    moves (inr over) =
        absurd (elim (cases_lt to (length held)) [
          | inl inside ↦ (let order : from ≤ to = ends.order in omega (arith, over.1, size))
          | inr past ↦ (let high : to ≤ length held = ends.within in
              let last : from < to = (ends.last (omega arith)).0 in omega (arith, over.1, size))
        ])

    -- what the line's reading says of the stream
    abbrev pub read_here : Result (Option TraceLine) Refusal
    read_here = reading_of (record { number = number; from = 0; bytes = bytes; end = passed + min (to + 1) (length held) })

    says : (stands : IsPassed fed closed (passed + from) number) → reading_of (moves stands).line ≡ moved (passed + from) read_here
    says stands = ap reading_of (moves stands).is ∙ reading-moved number (passed + from) (passed + min (to + 1) (length held)) bytes

    -- the place behind it
    pub fits-behind : (found : Option TraceLine) → read_here ≡ Ok found → passed + min (to + 1) (length held) ≤ MAX_BYTES
    fits-behind found is = reading-fits (record { number = number; from = 0; bytes = bytes; end = passed + min (to + 1) (length held) }) found is

    -- it is passed
    pub passes-behind : (found : Option TraceLine) → read_here ≡ Ok found → IsPassed fed closed (passed + from) number → IsPassed fed closed (passed + min (to + 1) (length held)) (next_number number)
    passes-behind found is stands = (moves stands).passes (fits-behind found is)

    module _ (before : List ℕ) (stands : IsPassed fed closed (passed + from) number) (adds : Adds before done []) where
      -- it is skipped
      pub skip-line : read_here ≡ Ok None → Adds before after []
      skip-line is =
          let move = moves stands in
          adds-skip before done after move.line adds move.steps.only (says stands ∙ ap (moved (passed + from)) is)

      -- it is taken
      pub take-line : (line : TraceLine) → read_here ≡ Ok (Some line) → AnswersLine before after (part_read closed fed) bytes (Ok (Some line))
      take-line line is =
          let move = moves stands in
          record {
            last = move.line;
            adds = adds-line before done after move.line adds move.steps.only;
            later = move.steps.later;
            next = move.steps.next ∙ sym (append_assoc (lines_of done) (move.line ∷ []) move.steps.later) ∙ ap (λ front. front ++ move.steps.later) (sym move.steps.only);
            says = says stands ∙ ap (moved (passed + from)) is ∙ ap {B = Result (Option TraceLine) Refusal} (λ (l : LineText). Ok (Some (moved_line l.from line))) (sym move.is);
            bytes = ap (λ (l : LineText). l.bytes) (sym move.is);
          }

      -- it is refused
      pub refuse-line : (refusal : Refusal) → read_here ≡ Err refusal → AnswersLine before done (part_read closed fed) [] (Err refusal)
      refuse-line refusal is =
          let move = moves stands in
          record {
            adds = adds;
            last = move.line;
            later = move.steps.later;
            next = move.steps.next;
            says = says stands ∙ ap (moved (passed + from)) is;
          }

      -- the same by the place behind the line, the next number and what was read
      module _ (end next : ℕ) (behind : end ≡ min (to + 1) (length held)) (following : next ≡ next_number number)
          (read : Result (Option TraceLine) Refusal) (reads_it : read ≡ reading_of (record { number = number; from = 0; bytes = bytes; end = passed + end })) where
        here : read_here ≡ read
        here = ap (λ n. reading_of (record { number = number; from = 0; bytes = bytes; end = passed + n })) (sym behind) ∙ sym reads_it

        pub tells : Tells fed held passed from to closed before end next read
        tells = record {
          passes = λ found is.
              subst (λ (n : ℕ). IsPassed fed closed (passed + n) next) (sym behind)
              (subst (λ (n : ℕ). IsPassed fed closed (passed + min (to + 1) (length held)) n) (sym following) (passes-behind found (here ∙ is) stands));
          skips = λ is. subst (λ (n : ℕ). Adds before (take (passed + n) fed) []) (sym behind) (skip-line (here ∙ is));
          takes = λ line is.
              subst (λ (r : Result (Option TraceLine) Refusal). AnswersLine before (take (passed + end) fed) (part_read closed fed) bytes r) (sym is)
              (subst (λ (n : ℕ). TakesLine before (take (passed + n) fed) (part_read closed fed) bytes line) (sym behind) (take-line line (here ∙ is)));
          refuses = λ refusal text is.
              subst (λ (r : Result (Option TraceLine) Refusal). AnswersLine before done (part_read closed fed) text r) (sym is) (refuse-line refusal (here ∙ is));
        }
