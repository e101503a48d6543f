-- Where nothing is stopped the status does not tell of a stop.
use Rattle.std.proofs.Common.{◌≡◌, ◌≢◌, ℕ, Bool, true, false, List, [], ◌∷◌, reverse, arith, refl, sym, ◌∙◌}
use Rattle.std.specs.Prelude.{if◌then◌else◌}
use Rattle.rv_model.specs.declared.entry.Act.{Act}
use Rattle.rv_model.specs.declared.entry.Act.TheVariants.{Deliver, Stop, Look, Raise, Lower, Clear, End}
use Rattle.rv_model.specs.declared.entry.Entry.{Entry}
use Rattle.rv_model.specs.Cuts.{AtEach}
use Rattle.rv_model.specs.Histories.{Input, IsLegal, IsNoStop}
use Rattle.rv_model.specs.Judging.{Judge}
use Rattle.rv_model.specs.Records.{records_of, status_of}
use Rattle.rv_laws.specs.Exits.{has_failed, is_stop, has_stop}
use Rattle.rv_laws.specs.SingleWriter.{AllSingleWriterGiveNoSix}
use Rattle.rv_laws.proofs.ExitLemmas.{status_is_seen, stop-reverse}
use Rattle.rv_laws.proofs.PastLemmas.{Each, each-of}
use Rattle.rv_laws.proofs.StopLemmas.{all_lone_have_no_stop}

-- the entry is no Stop
abbrev IsFree : List Entry → Entry → Type 0
IsFree past e = IsNoStop e.act

-- an act that is no Stop
no-stop : (act : Act) → IsNoStop act → is_stop act ≡ false
no-stop (Deliver _ _) free = refl
no-stop (Stop _) free = absurd free
no-stop Look free = refl
no-stop (Raise _) free = refl
no-stop (Lower _) free = refl
no-stop (Clear _) free = refl
no-stop (End _) free = refl

-- a past without a Stop
none-stopped : (past : List Entry) → Each IsFree past → has_stop past ≡ false
none-stopped [] free = refl
none-stopped (e ∷ past) (here, free) = rw (no-stop e.act here, none-stopped past free) refl

-- the status is that of failures or 0
status-other : (a b : Bool) → b ≡ false → ◌≢◌ {A = ℕ} (if a then 1 else if b then 6 else 0) 6
status-other true b e six = omega arith
status-other false true e six = let wrong : true ≡ false = e in cc
status-other false false e six = omega arith

-- where no entry is a Stop, the status is not that of a stop
pub free_gives_no_six : (input : Input) (js : List Judge) (h : List Entry) → IsLegal input js h → AtEach (λ before e. IsNoStop e.act) h → status_of (records_of input js h) ≢ 6
free_gives_no_six input js h legal still six =
    let free = each-of IsFree h still in
    let none = sym (stop-reverse h) ∙ none-stopped (reverse h) free in
    status-other (has_failed input.setup js (reverse h)) (has_stop h) none (sym (status_is_seen input js h legal) ∙ six)

-- where all slots are lone, the status is not that of a stop
pub all_lone_give_no_six : AllSingleWriterGiveNoSix
all_lone_give_no_six input js h legal still one_writer = free_gives_no_six input js h legal (all_lone_have_no_stop input js h legal still one_writer)
