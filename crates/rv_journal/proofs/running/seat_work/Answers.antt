-- The numbers from the CPU's on are split off.
use Rattle.std.proofs.Common.{◌≡◌, ℕ, ◌+◌, ap, ◌∙◌}
use Rattle.rv_model.specs.Works.{Work}
use Rattle.rv_journal.specs.CountedSeats.{CountedValue}
use Rattle.rv_journal.proofs.SeatWorkLemmas.{seated-for}
use Rattle.rv_journal.proofs.running.seat_work.Goals as goal

pub returns : goal.returns
returns g c =
    let at : 2 + c.cpu_of-cpu.result ≡ 2 + c.args.work.cpu = ap (λ (n : ℕ). 2 + n) (c.cpu_of-cpu.ensures ∙ ap (λ (w : Work). w.cpu) c.in_ok-lane.ensures.work_is) in
    seated-for c.args.board.now c.args.seat.now.seat c.split-own.new.seat.seat c.args.work _ (2 + c.cpu_of-cpu.result) c.requires.first c.requires.work c.requires.below c.in_ok-lane.ensures at c.split-own.ensures.new (ap (λ (s : CountedValue). s.seat) c.split-own.ensures.old)
