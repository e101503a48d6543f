-- A text with the bindings that its lines make: no such text goes past the limit, so it is the file's own.
use Rattle.std.proofs.Common.{◌≡◌, ℕ, zero, suc, ◌+◌, ◌<◌, ◌≤◌, true, List, ◌∷◌, length, refl, sym, ap, ◌∙◌, subst, inl, inr, arith}
use Rattle.std.specs.Prelude.{Option, Some, None, Result, Ok, Err, Vec, option_map}
use Rattle.std.proofs.lemmas.Bool.{cases_lt}
use Rattle.std.proofs.lemmas.List.{take_all}
use Rattle.rv_text.specs.TextLines.{LineText, is_line_start, line_here, lines_from, lines_of, next_number}
use Rattle.rv_text.proofs.TextLineLemmas.{line_end-low, lines_from-next, start-behind}
use Rattle.rv_io.specs.Files.{Files, front_read}
use Rattle.std.specs.declared.alloc.Global.{Global}
use Rattle.rv_bind.specs.declared.bindings.Bound.{Bound}
use Rattle.rv_bind.specs.declared.fault.BindFault.{BindFault}
use Rattle.rv_bind.specs.declared.fault.BindFault.TheVariants as faults
use Rattle.rv_bind.specs.declared.limits.TheConstants.{TEXT_LIMIT}
use Rattle.rv_bind.specs.Values.{BoundValue}
use Rattle.rv_bind.specs.Bound.{bound_of, line_bound, lines_bound, nothing_bound}
use Rattle.rv_bind.specs.BoundViews.{bound_value}
use Rattle.rv_bind.specs.BoundTexts.{BoundTextValue, MayBoundText, bound_text_of, bound_text_value, text_bound}
use Rattle.rv_bind.specs.Outcomes.{Outcome, accepted, refused, missing, reading, of_text, text_front, front_named, ReadsOutcome}
use Rattle.rv_bind.specs.Possible.{IsUnread, MayBound, MayFault, MayLines}
use Rattle.rv_bind.proofs.FrontLemmas.{LooksAtFront, front_named-reading, line-past, lines-looks}
use Rattle.rv_bind.proofs.ReachedLemmas.{front-local}
use Rattle.rv_bind.proofs.ReadsLemmas.{behind_reads, later_reads, mapped_reads, same_reads, step_reads}

-- ---- within the limit

-- the outcome has a value
abbrev IsAccepted : {Y : Type 0} → Outcome Y → Type 0
IsAccepted (accepted y) = Unit {0}
IsAccepted (refused file refusal) = ⊥
IsAccepted (missing file) = ⊥

-- where what is read on from a step is accepted, the step was accepted
was_accepted : {X Y : Type 0} (P : Type 0) (o : Outcome X) (next : X → Outcome Y) (last : Y) → ((x : X) → next x ≡ accepted last → P) → reading o next ≡ accepted last → P
was_accepted P (accepted x) next last goes is = goes x is
was_accepted P (refused file refusal) next last goes is = absurd (subst IsAccepted (sym is) tt)
was_accepted P (missing file) next last goes is = absurd (subst IsAccepted (sym is) tt)

module _ (files : Files) (here text : List ℕ) where
  -- lines that are bound, from a place within the limit on, end within it
  within-from : (fuel number from : ℕ) (bound last : BoundValue) → length text < from + fuel → from ≤ TEXT_LIMIT → (from < length text → is_line_start text from ≡ true)
      → lines_bound files here bound (lines_from text number from) ≡ accepted last → length text ≤ TEXT_LIMIT
  within-from zero number from bound last some low start is = omega arith
  within-from (suc fuel) number from bound last some low start is = elim (cases_lt from (length text)) [
    | inr end ↦ omega arith
    | inl inside ↦ (
        let line : LineText = line_here text number from in
        let split : lines_from text number from ≡ line ∷ lines_from text (next_number number) line.end = lines_from-next text number from inside (start inside) in
        let behind : from < line.end = omega (arith, line_end-low text from) in
        elim (cases_lt TEXT_LIMIT line.end) [
          | inl past ↦ absurd (subst IsAccepted (sym (sym (ap (λ o. reading o (λ next. lines_bound files here next (lines_from text (next_number number) line.end))) (line-past files here bound line past)) ∙ sym (ap (lines_bound files here bound) split) ∙ is)) tt)
          | inr within ↦ was_accepted (length text ≤ TEXT_LIMIT) (line_bound files here bound line) (λ next. lines_bound files here next (lines_from text (next_number number) line.end)) last
              (λ next later. within-from fuel (next_number number) line.end next last (omega arith) within (start-behind text from inside) later)
              (sym (ap (lines_bound files here bound) split) ∙ is)
        ])
  ]

  -- a text whose lines are bound is within the limit
  pub bound_within : (last : BoundValue) → lines_bound files here nothing_bound (lines_of text) ≡ accepted last → length text ≤ TEXT_LIMIT
  unfolding lines_of
  bound_within last is = within-from (length text + 1) 1 0 nothing_bound last (omega arith) (omega arith) (λ inside. refl) is

-- so a text comes with its bindings to what its front does
pub text-looks : (files : Files) (here : List ℕ) → LooksAtFront (text_bound files here)
unfolding text_front
text-looks files here text = elim (cases_lt TEXT_LIMIT (length text)) [
  | inr short ↦ ap (text_bound files here) (sym (take_all (TEXT_LIMIT + 1) text (omega arith)))
  | inl long ↦ go long (lines_bound files here nothing_bound (lines_of text)) refl
]
  where
    paired : List ℕ → BoundValue → Outcome BoundTextValue
    paired t bound = accepted (record { text = t; bound = bound })

    go : TEXT_LIMIT < length text → (o : Outcome BoundValue) → lines_bound files here nothing_bound (lines_of text) ≡ o → text_bound files here text ≡ text_bound files here (text_front text)
    go long (accepted bound) is = absurd (let within = bound_within files here text bound is in omega arith)
    go long (refused file refusal) is = ap (λ o. reading o (paired text)) is ∙ sym (ap (λ o. reading o (paired (text_front text))) (sym (lines-looks files here text) ∙ is))
    go long (missing file) is = ap (λ o. reading o (paired text)) is ∙ sym (ap (λ o. reading o (paired (text_front text))) (sym (lines-looks files here text) ∙ is))

-- ---- from the parts to the pair

-- the pair is read of the front of its file
bound_text_of-reading : (here : List ℕ) (files : Files) → reading (front_named files here) (text_bound files here) ≡ bound_text_of files here
bound_text_of-reading here files = sym (front_named-reading (text_bound files here) (text-looks files here) files here)

-- an unread file is the pair's
pub unread_reads : {X Z : Type 0} (view : X → List ℕ) (pair : Z → BoundTextValue) (told left : Option Files) (before now : ℕ) (here : List ℕ) (fault : BindFault)
    → ReadsOutcome view told left before now (Err fault) (λ files. front_named files here) → ReadsOutcome pair told left before now (Err fault) (λ files. bound_text_of files here)
unread_reads view pair told left before now here fault reads =
    same_reads pair told left before now (Err fault) _ _ (bound_text_of-reading here)
    (step_reads view pair told left before now fault (λ files. front_named files here) (λ files. text_bound files here) reads)

-- what the text comes to is what its file comes to
pub text_reads : {Z : Type 0} (pair : Z → BoundTextValue) (told left : Option Files) (before now : ℕ) (here text : List ℕ) (result : Result Z BindFault)
    → ((files : Files) → told ≡ Some files → front_named files here ≡ accepted (text_front text))
    → ReadsOutcome pair told left before now result (λ files. text_bound files here text) → ReadsOutcome pair told left before now result (λ files. bound_text_of files here)
text_reads pair told left before now here text result read reads =
    same_reads pair told left before now result _ _ (bound_text_of-reading here)
    (behind_reads pair told left before now result (λ files. front_named files here) (text_front text) (λ files. text_bound files here) (front-local here) read
    (same_reads pair told left before now result _ _ (λ files. text-looks files here text) reads))

-- so a fault of its lines is the pair's
pub fails_reads : {X Z : Type 0} (view : X → BoundValue) (pair : Z → BoundTextValue) (told mid left : Option Files) (before count now : ℕ) (here slice text : List ℕ) (fault : BindFault) → slice ≡ text → mid ≡ told → count ≡ before
    → ((files : Files) → told ≡ Some files → front_named files here ≡ accepted (text_front text))
    → ReadsOutcome view mid left count now (Err fault) (λ files. lines_bound files here nothing_bound (lines_of slice)) → ReadsOutcome pair told left before now (Err fault) (λ files. bound_text_of files here)
fails_reads view pair told mid left before count now here slice text fault is same le read reads =
    text_reads pair told left before now here text (Err fault) read
    (later_reads pair told mid left before count now (Err fault) (λ files. text_bound files here text) same le
    (step_reads view pair mid left count now fault (λ files. lines_bound files here nothing_bound (lines_of text)) (λ files bound. accepted (record { text = text; bound = bound }))
    (subst (λ (t : List ℕ). ReadsOutcome view mid left count now (Err fault) (λ files. lines_bound files here nothing_bound (lines_of t))) is reads)))

-- and what its lines make is the pair's
pub pair_reads : (told mid left : Option Files) (before count now : ℕ) (here slice : List ℕ) (text : Vec ℕ Global) (bound : Bound) → slice ≡ text.items → mid ≡ told → count ≡ before
    → ((files : Files) → told ≡ Some files → front_named files here ≡ accepted (text_front text.items))
    → ReadsOutcome bound_value mid left count now (Ok bound) (λ files. lines_bound files here nothing_bound (lines_of slice))
    → ReadsOutcome bound_text_value told left before now (Ok (record { text = text; bound = bound })) (λ files. bound_text_of files here)
pair_reads told mid left before count now here slice text bound is same le read reads =
    text_reads bound_text_value told left before now here text.items (Ok (record { text = text; bound = bound })) read
    (later_reads bound_text_value told mid left before count now (Ok (record { text = text; bound = bound })) (λ files. text_bound files here text.items) same le
    (record {
      kept = reads.kept;
      counts = reads.counts;
      value = λ files known. ap (λ o. reading o (λ bound. accepted (record { text = text.items; bound = bound }))) (ap (λ t. lines_bound files here nothing_bound (lines_of t)) (sym is) ∙ reads.value files known);
      named = tt;
    }))

-- ---- the bindings of the pair

-- the outcome of the bindings alone
abbrev pub bindings_of : Outcome BoundTextValue → Outcome BoundValue
bindings_of o = reading o (λ read. accepted read.bound)

-- the bindings of a file are those that come with its text
pub bound_text_of-bound : (here : List ℕ) (files : Files) → bindings_of (bound_text_of files here) ≡ bound_of files here
bound_text_of-bound here files = go (option_map front_read (files here))
  where
    same : (text : List ℕ) (o : Outcome BoundValue) → bindings_of (reading o (λ bound. accepted (record { text = text; bound = bound }))) ≡ o
    same text (accepted bound) = refl
    same text (refused file refusal) = refl
    same text (missing file) = refl

    go : (found : Option (List ℕ)) → bindings_of (of_text here found (text_bound files here)) ≡ of_text here found (λ text. lines_bound files here nothing_bound (lines_of text))
    go None = refl
    go (Some text) = same text (lines_bound files here nothing_bound (lines_of text))

-- so who reads the pair reads its bindings
pub bound_reads : {X : Type 0} (pair : X → BoundTextValue) (told left : Option Files) (before now : ℕ) (here : List ℕ) (result : Result X BindFault)
    → ReadsOutcome pair told left before now result (λ files. bound_text_of files here) → ReadsOutcome (λ x. (pair x).bound) told left before now result (λ files. bound_of files here)
bound_reads pair told left before now here result reads =
    same_reads _ told left before now result _ _ (bound_text_of-bound here) (mapped_reads pair (λ read. read.bound) told left before now result (λ files. bound_text_of files here) reads)

-- what may come to a pair may come to its bindings
pub bound_may : (here : List ℕ) (o : Outcome BoundTextValue) → MayBoundText here o → MayBound here (bindings_of o)
bound_may here o (accepted text, found, (accepted bound, may, is)) = (accepted text, found, subst (MayLines here nothing_bound (lines_of text)) (sym (ap bindings_of is)) may)
bound_may here o (accepted text, found, (refused file refusal, may, is)) = (accepted text, found, subst (MayLines here nothing_bound (lines_of text)) (sym (ap bindings_of is)) may)
bound_may here o (accepted text, found, (missing file, may, is)) = (accepted text, found, subst (MayLines here nothing_bound (lines_of text)) (sym (ap bindings_of is)) may)
bound_may here o (refused file refusal, found, is) = (refused file refusal, found, ap bindings_of is)
bound_may here o (missing file, found, is) = (missing file, found, ap bindings_of is)

-- and what may fail as a pair may fail as bindings
pub bound_fails : (here : List ℕ) (fault : BindFault) → MayFault fault (MayBoundText here) → MayFault fault (MayBound here)
bound_fails here faults.Memory may = tt
bound_fails here (faults.Refused file refusal) may = bound_may here (refused file refusal) may
bound_fails here (faults.Unread file) may = bound_may here (missing file) may

-- ---- what may come

module _ (here : List ℕ) where
  -- the pair's file may be unread
  pub text_unread : (fault : BindFault) → IsUnread here fault → MayFault fault (MayBoundText here)
  text_unread fault (inl is) = rw is (missing here, (None, refl), refl)
  text_unread fault (inr is) = rw is tt

  module _ (slice text : List ℕ) (same : slice ≡ text) where
    -- a text may come with the bindings that its lines may come to
    pub text_may : (bound : BoundValue) → MayLines here nothing_bound (lines_of slice) (accepted bound) → MayBoundText here (accepted (record { text = text; bound = bound }))
    text_may bound may = (accepted text, (Some text, refl), (accepted bound, subst (λ (t : List ℕ). MayLines here nothing_bound (lines_of t) (accepted bound)) same may, refl))

    -- and to the fault that they may come to
    pub text_fails : (fault : BindFault) → MayFault fault (MayLines here nothing_bound (lines_of slice)) → MayFault fault (MayBoundText here)
    text_fails faults.Memory may = tt
    text_fails (faults.Refused file refusal) may = (accepted text, (Some text, refl), (refused file refusal, subst (λ (t : List ℕ). MayLines here nothing_bound (lines_of t) (refused file refusal)) same may, refl))
    text_fails (faults.Unread file) may = (accepted text, (Some text, refl), (missing file, subst (λ (t : List ℕ). MayLines here nothing_bound (lines_of t) (missing file)) same may, refl))
