-- How much of a journal has to be read, and what its verdict answers.
use Rattle.std.proofs.Common.{◌≡◌, ◌⊎◌, ℕ, ◌+◌, ◌<◌, ◌≤◌, true, List, [], ◌++◌, length, drop, refl, sym, ap, ◌∙◌, inl, inr, arith, take-append-drop}
use Rattle.std.specs.Prelude.{Option, Some, None, option_map, Err}
use Rattle.std.proofs.lemmas.List.{drop_all}
use Rattle.rv_io.specs.Files.{Files, front_read}
use Rattle.rv_check.specs.Readings.{ReaderValue}
use Rattle.rv_bind.specs.declared.fault.BindFault.{BindFault}
use Rattle.rv_bind.specs.declared.fault.BindFault.TheVariants as faults
use Rattle.rv_bind.specs.FilePieces.{FaultRefines, FaultBlamesReached, PieceIn, IsFilePiece}
use Rattle.rv_bind.specs.Outcomes.{Outcome, accepted, refused, missing, reading, of_text, of_name, files_without, BlamesReached}
use Rattle.rv_bind.proofs.ReachedLemmas.{step_named, behind_named}
use Rattle.rv_tool.specs.Checks.{CheckedValue, checked_input}
use Rattle.rv_stream.specs.inner.Feeding.{FedOf, IsFileFed}
use Rattle.rv_tool.specs.Inputs.{InputValue, run_input}
use Rattle.rv_tool.specs.inner.JournalPieces.{EnoughOf, IsEnough}
use Rattle.rv_tool.proofs.BesideLemmas.{input-local}

-- ---- pieces

-- where no byte came though there was room, all was fed
all_fed : (held : Option (List ℕ)) (place count : ℕ) (old new : List ℕ) (r : ReaderValue) → count ≡ 0 → 0 < length old → FedOf held place r.journal.text → PieceIn held place old new count → EnoughOf held r
all_fed None place count old new r none_came room before piece = absurd piece
all_fed (Some bytes) place count old new r none_came room before piece = go (piece.none none_came)
  where
    go : ((old ≡ []) ⊎ (length bytes ≤ place)) → EnoughOf (Some bytes) r
    go (inl none) = let empty : length old ≡ 0 = ap length none in absurd (omega arith)
    go (inr past) =
        let rest : drop place bytes ≡ [] = drop_all place bytes past in
        (drop place bytes, sym (take-append-drop place bytes) ∙ ap (λ (t : List ℕ). t ++ drop place bytes) (sym before.0), inl rest)

module _ (told : Option Files) where
  -- all was fed
  pub fed_all : (name : List ℕ) (place count : ℕ) (old new : List ℕ) (r : ReaderValue) → count ≡ 0 → 0 < length old → IsFileFed told name place r.journal.text → IsFilePiece told name place old new count → IsEnough told name r
  fed_all name place count old new r none_came room before piece files known = all_fed (files name) place count old new r none_came room (before files known) (piece files known)

  -- enough was fed
  pub fed_enough : (name : List ℕ) (place count : ℕ) (fed old new : List ℕ) (r : ReaderValue) → IsFileFed told name (place + count) fed → IsFilePiece told name place old new count → r.journal.text ≡ fed → r.stopped ≡ true → IsEnough told name r
  fed_enough name place count fed old new r more piece is stopped files known = go (files name) (more files known) (piece files known)
    where
      go : (held : Option (List ℕ)) → FedOf held (place + count) fed → PieceIn held place old new count → EnoughOf held r
      go None some there = absurd there
      go (Some bytes) some there =
          (drop (place + count) bytes, sym (take-append-drop (place + count) bytes) ∙ ap (λ (t : List ℕ). t ++ drop (place + count) bytes) (sym some.0 ∙ sym is), inr stopped)

  -- a fault of a file that is read in pieces is that of its whole text
  pub whole_comes : (name : List ℕ) (before now : ℕ) (fault : BindFault) → FaultRefines told before now fault (λ files. of_name files name accepted) → FaultRefines told before now fault (λ files. of_text name (files name) accepted)
  whole_comes name before now faults.Memory comes = tt
  whole_comes name before now (faults.Refused file refusal) comes = (comes.0, λ files known. go (files name) (comes.1 files known))
    where
      go : (held : Option (List ℕ)) → of_text name (option_map front_read held) accepted ≡ refused file refusal → of_text name held accepted ≡ refused file refusal
      go None e = e
      go (Some bytes) e = cc
  whole_comes name before now (faults.Unread file) (inl lacks) = inl (lacks.0, lacks.1, go (lacks.0 name) lacks.2)
    where
      go : (held : Option (List ℕ)) → of_text name (option_map front_read held) accepted ≡ missing file → of_text name held accepted ≡ missing file
      go None e = e
      go (Some bytes) e = cc
  whole_comes name before now (faults.Unread file) (inr rose) = inr rose

  -- and so is the file that it names
  pub whole_named : (name : List ℕ) (fault : BindFault) → FaultBlamesReached told fault (λ files. of_name files name accepted) → FaultBlamesReached told fault (λ files. of_text name (files name) accepted)
  whole_named name faults.Memory named = tt
  whole_named name (faults.Refused file refusal) named = tt
  whole_named name (faults.Unread file) named = λ files known. go (files_without file files name) (named files known)
    where
      go : (held : Option (List ℕ)) → of_text name (option_map front_read held) accepted ≡ missing file → of_text name held accepted ≡ missing file
      go None e = e
      go (Some bytes) e = cc

-- ---- what is read

-- a run and the text of a journal
abbrev with_journal : InputValue → List ℕ → Outcome CheckedValue
with_journal input text = accepted (record { input = input; journal = text })

-- a text that is read on is read
text_reading : (name : List ℕ) (i : InputValue) (held : Option (List ℕ)) → of_text name held (with_journal i) ≡ reading (of_text name held accepted) (with_journal i)
text_reading name i None = refl
text_reading name i (Some text) = refl

module _ (told : Option Files) (bindings trace journal : List ℕ) (i : InputValue) (read : (files : Files) → told ≡ Some files → run_input files bindings trace ≡ accepted i) where
  -- the journal behind the run
  behind : Files → InputValue → Outcome CheckedValue
  behind files input = of_text journal (files journal) (with_journal input)

  -- what they come to, once the run was read
  read_on : (files : Files) → told ≡ Some files → checked_input files bindings trace journal ≡ reading (of_text journal (files journal) accepted) (with_journal i)
  unfolding behind
  read_on files known = ap (λ o. reading o (behind files)) (read files known) ∙ text_reading journal i (files journal)

  -- a fault of the journal
  pub checked_comes : (before now : ℕ) (fault : BindFault) → FaultRefines told before now fault (λ files. of_text journal (files journal) accepted) → FaultRefines told before now fault (λ files. checked_input files bindings trace journal)
  checked_comes before now faults.Memory comes = tt
  checked_comes before now (faults.Refused file refusal) comes = (comes.0, λ files known. read_on files known ∙ ap (λ o. reading o (with_journal i)) (comes.1 files known))
  checked_comes before now (faults.Unread file) (inl lacks) = inl (lacks.0, lacks.1, read_on lacks.0 lacks.1 ∙ ap (λ o. reading o (with_journal i)) lacks.2)
  checked_comes before now (faults.Unread file) (inr rose) = inr rose

  -- the file that it names
  pub checked_named : (X Z : Type 0) (fault : BindFault) → FaultBlamesReached told fault (λ files. of_text journal (files journal) accepted) → BlamesReached {X = Z} told (Err fault) (λ files. checked_input files bindings trace journal)
  unfolding behind
  checked_named X Z fault named =
      behind_named (List ℕ) Z told fault (λ files. run_input files bindings trace) i behind (input-local bindings trace) read
      (step_named (List ℕ) (List ℕ) told fault (λ files. of_text journal (files journal) accepted) (λ files. with_journal i) (λ files. behind files i) (λ files. text_reading journal i (files journal)) named)
