-- What the checker keeps of a history that has begun.
use Rattle.std.specs.Prelude.{◌≡◌, ℕ, ◌+◌, ◌<◌, Bool, List, ◌++◌, length, reverse, All, Any, slice_index_or}
use Rattle.std.specs.Coded.{Coded, code_by, coded×, coded_ℕ, coded_list}
use Rattle.std.proofs.Common.{refl}
use Rattle.rv_model.specs.declared.entry.Entry.{Entry}
use Rattle.rv_model.specs.Cuts.{AtEach}
use Rattle.rv_model.specs.Histories.{IsSound}
use Rattle.rv_model.specs.Judging.{Judge}
use Rattle.rv_model.specs.Numbers.{has_bit}
use Rattle.rv_model.specs.Scripts.{Played, played, Plays}
use Rattle.rv_model.specs.Setups.{Setup, coded_setup}
use Rattle.rv_model.specs.Works.{Work}
use Rattle.rv_core.specs.Core.{IsCore}
use Rattle.rv_core.specs.Setup.{judges_of}
use Rattle.rv_check.specs.declared.next.Next.{Next}
use Rattle.rv_check.specs.declared.next.Next.TheVariants as next
use Rattle.rv_check.specs.Beginnings.{FitWorks}
use Rattle.rv_check.specs.inner.Nexts.{May, IsNext, CountsLostTries}
use Rattle.rv_check.specs.Run.{RunValue}

-- its parts, from the codes of an entry and of a work
abbrev pub coded_run : Coded Entry → Coded Work → Coded RunValue
coded_run entry work =
    code_by (Setup × (ℕ × (List Work × List Entry))) (coded× coded_setup (coded× coded_ℕ (coded× (coded_list work) (coded_list entry))))
    (λ r. (r.setup, (r.panics, (r.works, r.history)))) (λ p. record { setup = p.0; panics = p.1.0; works = p.1.1.0; history = p.1.1.1 }) (λ _. refl)

-- what each CPU has played is its whole script
abbrev pub AllPlayed : RunValue → Type 0
AllPlayed r = All (λ w. Plays r.setup (has_bit r.panics) w (played r.setup (judges_of r.setup) (2 + w.cpu) (reverse r.history))) r.works

-- exactly what may follow goes on with what the seat has played
pub record Stands (s : Setup) (js : List Judge) (panics : ℕ → Bool) (h : List Entry) (w : Work) (n : Next) : Type 0 where
  pub is_next : IsNext s w n
  pub counted : CountsLostTries (2 + w.cpu) (reverse h) n
  pub may : (ps : List Played) → Plays s panics w (played s js (2 + w.cpu) (reverse h) ++ ps) → May s panics w n ps
  pub only : (ps : List Played) → May s panics w n ps → Plays s panics w (played s js (2 + w.cpu) (reverse h) ++ ps)

-- the words are those of the history, which is sound, and each work's script stands where it says
pub record IsRun (s : Setup) (panics : ℕ) (works : List Work) (words : List ℕ) (nexts : List Next) (h : List Entry) : Type 0 where
  pub core : IsCore s words h
  pub fit : FitWorks s works
  pub count : length nexts ≡ length works
  pub stand : (k : ℕ) (d : Work) → k < length works → Stands s (judges_of s) (has_bit panics) h (slice_index_or works k d) (slice_index_or nexts k next.Over)
  pub sound : IsSound s (judges_of s) h
  pub nobody_else : AtEach (λ before e. Any (λ w. e.seat ≡ 2 + w.cpu) works) h
