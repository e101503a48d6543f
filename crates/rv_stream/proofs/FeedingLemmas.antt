-- A trace that is read from a store piece by piece comes to what its whole file comes to.
use Rattle.std.proofs.Common.{◌≡◌, ℕ, ◌+◌, ◌-◌, ◌<◌, ◌≤◌, ◌⊎◌, inl, inr, List, [], ◌++◌, length, take, drop, refl, sym, ap, ◌∙◌, arith}
use Rattle.std.specs.Prelude.{Option, Some, None, option_map, Result, Err, false}
use Rattle.std.proofs.Math.Seq.{take-add}
use Rattle.std.proofs.lemmas.List.{take_all, take-take, length-take-le, take-append-le, length-drop}
use Rattle.rv_text.specs.declared.refusals.Refusal.{Refusal}
use Rattle.rv_text.specs.declared.refusals.Refused.{Refused}
use Rattle.rv_text.specs.declared.refusals.Refused.TheVariants as refuseds
use Rattle.rv_text.specs.Readings.{Refuses}
use Rattle.rv_io.specs.Files.{Files, front_read}
use Rattle.rv_io.specs.Pieces.{IsPiece}
use Rattle.rv_io.specs.declared.store.TheConstants.{READ_LIMIT}
use Rattle.rv_trace.specs.declared.line.TraceLine.{TraceLine}
use Rattle.rv_trace.specs.Streams.{part_read}
use Rattle.rv_trace.specs.Traces.{trace_of}
use Rattle.rv_bind.specs.declared.fault.BindFault.{BindFault}
use Rattle.rv_bind.specs.declared.fault.BindFault.TheVariants as faults
use Rattle.rv_bind.specs.Values.{BoundValue}
use Rattle.rv_bind.specs.FilePieces.{FaultRefines, PieceIn, IsFilePiece}
use Rattle.rv_bind.specs.Outcomes.{accepted, refused, reading, of_file, of_text, IsFaultIn}
use Rattle.rv_route.specs.Routing.{route_of}
use Rattle.rv_stream.specs.inner.Feeding.{FedOf, IsFileFed, IsAll}
use Rattle.rv_stream.specs.RoutedTraces.{routed_text, routed_in}
use Rattle.rv_stream.proofs.FrontLemmas.{front_refused}
use Rattle.rv_stream.proofs.NumberLemmas.{IsTraceRefusal, refusal_numbered, trace_numbered, traces_are_refusals}

-- the bytes of a piece stand at the front
piece_front : (bytes : List ℕ) (from : ℕ) (old new : List ℕ) (count : ℕ) → IsPiece bytes from old new count → take count new ≡ take count (drop from bytes)
piece_front bytes from old new count p =
    let many : length (drop from bytes) ≡ length bytes - from = length-drop from bytes in
    let within = p.within in
    let len : length (take count (drop from bytes)) ≡ count = length-take-le count (drop from bytes) (omega arith) in
    ap (take count) p.front ∙ take-append-le count (take count (drop from bytes)) (drop count old) (omega arith) ∙ take_all count (take count (drop from bytes)) (omega arith)

-- what a piece adds
piece_adds : (held : Option (List ℕ)) (place count : ℕ) (fed old new : List ℕ) → FedOf held place fed → PieceIn held place old new count → FedOf held (place + count) (fed ++ take count new)
piece_adds None place count fed old new before piece = absurd piece
piece_adds (Some bytes) place count fed old new before piece =
    let is : fed ++ take count new ≡ take (place + count) bytes =
    ap (λ (f : List ℕ). f ++ take count new) before.0 ∙ ap (λ (t : List ℕ). take place bytes ++ t) (piece_front bytes place old new count piece) ∙ sym (take-add place count bytes) in
    let within = piece.within in
    let at = before.1 in
    (is, omega arith)

-- where no byte came though there was room, all was fed
piece_ends : (name : List ℕ) (held : Option (List ℕ)) (place count : ℕ) (fed old new : List ℕ) → count ≡ 0 → place ≤ READ_LIMIT → 0 < length old → FedOf held place fed → PieceIn held place old new count
    → of_text name (option_map front_read held) accepted ≡ accepted (fed ++ take count new)
unfolding front_read
piece_ends name None place count fed old new zero low room before piece = absurd piece
piece_ends name (Some bytes) place count fed old new zero low room before piece = ap (λ (t : List ℕ). accepted t) (go (piece.none zero))
  where
    go : ((old ≡ []) ⊎ (length bytes ≤ place)) → take READ_LIMIT bytes ≡ fed ++ take count new
    go (inl none) = let empty : length old ≡ 0 = ap length none in absurd (omega arith)
    go (inr past) =
        let more = piece_adds (Some bytes) place count fed old new before piece in
        take_all READ_LIMIT bytes (omega arith) ∙ sym (more.0 ∙ take_all (place + count) bytes (omega arith))

-- at the limit of a read, all was fed that it gives
limit_ends : (name : List ℕ) (held : Option (List ℕ)) (place : ℕ) (fed : List ℕ) → place ≡ READ_LIMIT → FedOf held place fed → of_text name (option_map front_read held) accepted ≡ accepted fed
unfolding front_read
limit_ends name None place fed at before = let none = before.0 in absurd (omega arith)
limit_ends name (Some bytes) place fed at before = ap (λ (t : List ℕ). accepted t) (ap (λ n. take n bytes) (sym at) ∙ sym before.0)

-- a refusal of what was fed with a piece is the file's
piece_refused : (trace : List ℕ) (bound : BoundValue) (held : Option (List ℕ)) (place count : ℕ) (fed old new : List ℕ) (refusal : Refusal) → place + count ≤ READ_LIMIT → FedOf held place fed → PieceIn held place old new count
    → trace_of (part_read false (fed ++ take count new)) ≡ Err refusal → of_text trace (option_map front_read held) (routed_text trace bound) ≡ refused trace refusal
unfolding front_read
piece_refused trace bound None place count fed old new refusal low before piece refuses = absurd piece
piece_refused trace bound (Some bytes) place count fed old new refusal low before piece refuses =
    let more = piece_adds (Some bytes) place count fed old new before piece in
    let is : fed ++ take count new ≡ take (place + count) (take READ_LIMIT bytes) = more.0 ∙ sym (take-take (place + count) READ_LIMIT bytes low) in
    ap (λ (r : Result (List TraceLine) Refusal). reading (of_file trace r) (λ lines. of_file trace (route_of bound.monitors bound.rules (take READ_LIMIT bytes) lines)))
    (front_refused (take READ_LIMIT bytes) (fed ++ take count new) false (place + count) refusal is refl refuses)

module _ (told : Option Files) where
  -- a piece more
  pub fed-more : (name : List ℕ) (place count : ℕ) (fed old new : List ℕ) → IsFileFed told name place fed → IsFilePiece told name place old new count → IsFileFed told name (place + count) (fed ++ take count new)
  fed-more name place count fed old new before piece files known = piece_adds (files name) place count fed old new (before files known) (piece files known)

  -- no byte came
  pub fed-end : (name : List ℕ) (place count : ℕ) (fed old new : List ℕ) → count ≡ 0 → place ≤ READ_LIMIT → 0 < length old → IsFileFed told name place fed → IsFilePiece told name place old new count → IsAll told name (fed ++ take count new)
  fed-end name place count fed old new zero low room before piece files known = piece_ends name (files name) place count fed old new zero low room (before files known) (piece files known)

  -- the limit of a read
  pub fed-limit : (name : List ℕ) (place : ℕ) (fed : List ℕ) → place ≡ READ_LIMIT → IsFileFed told name place fed → IsAll told name fed
  fed-limit name place fed at before files known = limit_ends name (files name) place fed at (before files known)

  -- a refusal of what was fed with a piece is what the trace comes to
  pub refused-comes : (trace : List ℕ) (bound : BoundValue) (place count : ℕ) (fed old new : List ℕ) (before now : ℕ) (fault : Refused) (given : BindFault) → place + count ≤ READ_LIMIT → IsFileFed told trace place fed → IsFilePiece told trace place old new count
      → Refuses fault (trace_of (part_read false (fed ++ take count new))) → IsFaultIn trace fault given → FaultRefines told before now given (λ files. routed_in files trace bound)
  refused-comes trace bound place count fed old new before now refuseds.Memory given low is piece refuses said = rw said tt
  refused-comes trace bound place count fed old new before now (refuseds.Because refusal) faults.Memory low is piece refuses said = tt
  refused-comes trace bound place count fed old new before now (refuseds.Because refusal) (faults.Refused named told_refusal) low is piece refuses said = (
    rw said.1 (traces_are_refusals refusal (refusal_numbered IsTraceRefusal (trace_of (part_read false (fed ++ take count new))) refusal (trace_numbered (part_read false (fed ++ take count new))) refuses)),
    λ files known. piece_refused trace bound (files trace) place count fed old new refusal low (is files known) (piece files known) refuses ∙ (λ i. refused (sym said.0 i) (sym said.1 i)),
  )
  refused-comes trace bound place count fed old new before now (refuseds.Because refusal) (faults.Unread named) low is piece refuses said = absurd said
