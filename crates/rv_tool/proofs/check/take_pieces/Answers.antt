use Rattle.std.proofs.Common.{◌≡◌, ◌<◌, ◌+◌, ◌++◌, List, ℕ, take, length, not, ap, sym, ◌∙◌, subst, arith}
use Rattle.std.specs.Prelude.{Option, Err}
use Rattle.std.proofs.lemmas.Result.{err_from_is_err_and}
use Rattle.rv_io.specs.Files.{Files}
use Rattle.rv_bind.specs.FilePieces.{FailsAs, FaultBlamesReached, IsFilePiece}
use Rattle.rv_bind.specs.Outcomes.{Outcome, of_text, accepted}
use Rattle.rv_bind.proofs.OutcomeLemmas.{behind_counted, Refines-later}
use Rattle.rv_check.specs.Readings.{ReaderValue}
use Rattle.rv_stream.specs.inner.Feeding.{FedOf}
use Rattle.rv_tool.proofs.CheckLemmas.{whole_comes, whole_named, fed_all, fed_enough}
use Rattle.rv_tool.proofs.JudgedLemmas.{same_longer}
use Rattle.rv_stream.proofs.FeedingLemmas.{fed-more}
use Rattle.rv_tool.proofs.check.take_pieces.Goals as goal

pub returns-in_err-count-clause-fails : goal.returns-in_err-count-clause-fails
returns-in_err-count-clause-fails g c =
    let files = g.S.Store.files in
    let faults = g.S.Store.faults in
    let journal = c.args.journal.now in
    let fault = c.in_err-count.field-0.0 in
    let given = err_from_is_err_and c.from_residual.result c.from_residual.ensures.1 in
    let kept = c.loop-piece.invariant in
    let last = c.in_err-count.ensures.fails in
    let outcome : Files → Outcome (List ℕ) = λ held. of_text journal (held journal) accepted in
    let fails : FailsAs {X = Unit} (files c.args.store.now) (files c.fetch.new.store) (faults c.args.store.now) (faults c.fetch.new.store) (Err fault) outcome = record {
      kept = last.kept ∙ kept.0;
      counts = behind_counted ℕ Unit (faults c.args.store.now) (faults c.loop-piece.store) (faults c.fetch.new.store) fault kept.1 last.counts;
      fault =
          Refines-later (λ (text : List ℕ). text) (files c.args.store.now) (files c.loop-piece.store) (faults c.args.store.now) (faults c.loop-piece.store) (faults c.fetch.new.store) (Err fault) outcome kept.0 kept.1
          (whole_comes (files c.loop-piece.store) journal (faults c.loop-piece.store) (faults c.fetch.new.store) fault last.fault);
      named = subst (λ (told : Option Files). FaultBlamesReached told fault outcome) kept.0 (whole_named (files c.loop-piece.store) journal fault last.named);
    } in
    rw (given.1, given.2) fails

pub returns-then-count-eq0-clause-all : goal.returns-then-count-eq0-clause-all
returns-then-count-eq0-clause-all g c =
    let journal = c.args.journal.now in
    let kept = c.loop-piece.invariant in
    let told = g.S.Store.files c.args.store.now in
    let piece : IsFilePiece told journal c.loop-piece.place c.loop-piece.buffer c.fetch.new.buffer c.in_ok-count.count =
    subst (λ (t : Option Files). IsFilePiece t journal c.loop-piece.place c.loop-piece.buffer c.fetch.new.buffer c.in_ok-count.count) kept.0 c.in_ok-count.ensures.piece in
    let room : 0 < length c.loop-piece.buffer = let many = kept.2 in let some = c.requires.room in omega arith in
    fed_all told journal c.loop-piece.place c.in_ok-count.count c.loop-piece.buffer c.fetch.new.buffer c.loop-piece.reader c.if-count-eq0.true room kept.4 piece

pub returns-in-Ok-false-clause-all : goal.returns-in-Ok-false-clause-all
returns-in-Ok-false-clause-all g c =
    let journal = c.args.journal.now in
    let kept = c.loop-piece.invariant in
    let told = g.S.Store.files c.args.store.now in
    let count = c.in_ok-count.count in
    let piece : IsFilePiece told journal c.loop-piece.place c.loop-piece.buffer c.fetch.new.buffer count =
    subst (λ (t : Option Files). IsFilePiece t journal c.loop-piece.place c.loop-piece.buffer c.fetch.new.buffer count) kept.0 c.in_ok-count.ensures.piece in
    let more = fed-more told journal c.loop-piece.place count c.loop-piece.reader.journal.text c.loop-piece.buffer c.fetch.new.buffer kept.4 piece in
    let ok = c.in-Ok-false.ensures.ok in
    fed_enough told journal c.loop-piece.place count (c.loop-piece.reader.journal.text ++ take count c.fetch.new.buffer) c.loop-piece.buffer c.fetch.new.buffer c.feed.new.self more piece
    (ap (λ (r : ReaderValue). r.journal.text) ok) (ap (λ (r : ReaderValue). r.stopped) ok ∙ ap not c.in-Ok-false.field-0-test)

pub loop-piece-preserved : goal.loop-piece-preserved
loop-piece-preserved g c =
    let journal = c.args.journal.now in
    let kept = c.loop-piece.invariant in
    let told = g.S.Store.files c.args.store.now in
    let count = c.in_ok-count.count in
    let piece : IsFilePiece told journal c.loop-piece.place c.loop-piece.buffer c.fetch.new.buffer count =
    subst (λ (t : Option Files). IsFilePiece t journal c.loop-piece.place c.loop-piece.buffer c.fetch.new.buffer count) kept.0 c.in_ok-count.ensures.piece in
    let more = fed-more told journal c.loop-piece.place count c.loop-piece.reader.journal.text c.loop-piece.buffer c.fetch.new.buffer kept.4 piece in
    let ok = c.in-Ok-true.ensures.ok in
    let text : c.feed.new.self.journal.text ≡ c.loop-piece.reader.journal.text ++ take count c.fetch.new.buffer = ap (λ (r : ReaderValue). r.journal.text) ok in
    let next : c.in-Some.next ≡ c.loop-piece.place + count = c.in-Some.ensures.1 in (
      c.in_ok-count.ensures.fails.kept ∙ kept.0,
      c.in_ok-count.ensures.fails.counts ∙ kept.1,
      c.in_ok-count.ensures.len ∙ kept.2,
      same_longer c.args.reader.now.journal c.loop-piece.reader c.feed.new.self (take count c.fetch.new.buffer) _ kept.3 ok,
      λ files known. subst (λ (n : ℕ). FedOf (files journal) n c.feed.new.self.journal.text) (sym next) (subst (λ (t : List ℕ). FedOf (files journal) (c.loop-piece.place + count) t) (sym text) (more files known)),
    )
