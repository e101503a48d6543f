-- Where a script stands, said by what may follow. What one seat of the checker keeps.
use Rattle.std.specs.Prelude.{◌≡◌, ℕ, ◌+◌, ◌^◌, ◌<◌, ◌≤◌, Bool, true, false, ◌&&◌, ◌==◌, nat_lt, List, [], ◌∷◌, filter, drop, length, sum, slice_range, slice_index_or, MatchBool, if◌then◌else◌}
use Rattle.rv_model.specs.declared.entry.Act.{Act}
use Rattle.rv_model.specs.declared.entry.Act.TheVariants.{Deliver, Stop, Look, Raise, End}
use Rattle.rv_model.specs.declared.entry.Answer.{Answer}
use Rattle.rv_model.specs.declared.entry.Entry.{Entry}
use Rattle.rv_model.specs.declared.hit.Mode.TheVariants.{Event}
use Rattle.rv_model.specs.declared.hit.What.TheVariants.{Da}
use Rattle.rv_model.specs.declared.work.Delivery.{Delivery}
use Rattle.rv_model.specs.declared.work.Turn.{Turn}
use Rattle.rv_model.specs.Histories.{changed}
use Rattle.rv_model.specs.Numbers.{has_bit}
use Rattle.rv_model.specs.Scripts.{Played, is_enabled_by, is_end, fails, Delivers, PlaysTurns, turns_of}
use Rattle.rv_model.specs.Setups.{Setup, slot_of}
use Rattle.rv_model.specs.Works.{Work}
use Rattle.rv_core.specs.Advance.{FitsHit}
use Rattle.rv_core.specs.Setup.{table_at}
use Rattle.rv_check.specs.declared.next.Due.{Due}
use Rattle.rv_check.specs.declared.next.Next.{Next}
use Rattle.rv_check.specs.declared.next.Next.TheVariants as next

-- where there is no delivery
abbrev pub no_delivery : Delivery
no_delivery = record { order = 0; monitor = 0; instance = 0; hit = record { mode = Event; what = Da 0 } }

-- the delivery of a work at this place
abbrev pub work_delivery : Work → ℕ → Delivery
work_delivery w place = slice_index_or w.deliveries place no_delivery

-- where there is no turn
abbrev pub no_turn : Turn
no_turn = record { line = 0; from = 0; to = 0 }

-- the turn of a work at this place
abbrev pub turn_in : Work → ℕ → Turn
turn_in w place = slice_index_or w.turns place no_turn

-- ---- what may follow

-- the deliveries from one place up to another that a look shows on, and then the turns from a number on
abbrev pub GoesOnFrom : Setup → (ℕ → Bool) → Work → ℕ → ℕ → ℕ → ℕ → List Played → Type 0
GoesOnFrom s panics w look place to turn ps = Delivers s panics look (filter (is_enabled_by look) (slice_range w.deliveries place to)) (PlaysTurns s panics (drop turn (turns_of w))) ps

-- the entries that may follow
abbrev pub May : Setup → (ℕ → Bool) → Work → Next → List Played → Type 0
May s panics w (next.Look turn) ps = PlaysTurns s panics (drop turn (turns_of w)) ps
May s panics w (next.Deliver due) ps = GoesOnFrom s panics w due.look due.place due.to due.turn ps
May s panics w next.Raise ps = (stop : Played) × (ps ≡ stop ∷ []) × (stop.0.act ≡ Raise (2 ^ 34))
May s panics w next.Over ps = ps ≡ []

-- the delivery is one of the turn's, the look shows it on, and its slot and hit fit
pub record IsDue (s : Setup) (w : Work) (due : Due) : Type 0 where
  pub in_turn : due.place < due.to
  pub in_list : due.to ≤ length w.deliveries
  pub enabled : is_enabled_by due.look (work_delivery w due.place) ≡ true
  pub slot_is : due.slot ≡ slot_of s.shape (work_delivery w due.place).monitor (work_delivery w due.place).instance
  pub range : due.slot < sum s.shape
  pub fits : FitsHit (table_at s due.slot) (work_delivery w due.place).hit

-- a delivery that may be next is one
abbrev pub IsNext : Setup → Work → Next → Type 0
IsNext s w (next.Deliver due) = IsDue s w due
IsNext s w _ = Unit {0}

-- it is one of the work's
abbrev pub HasPlace : Work → Next → Type 0
HasPlace w (next.Deliver due) = due.place < length w.deliveries
HasPlace w _ = Unit {0}

-- no try is lost yet
abbrev pub HasNoLostTry : Next → Type 0
HasNoLostTry (next.Deliver due) = due.lost ≡ 0
HasNoLostTry _ = Unit {0}

-- ---- one entry

-- the delivery ends its instance
abbrev pub is_ending : Work → Due → Bool
is_ending w due = is_end (work_delivery w due.place).hit.mode

-- the act is the end of the slot where the delivery ends it, and else the delivery, or a stop of its slot that was lost three times
abbrev pub ServesDue : Work → Due → Act → Type 0
ServesDue w due (Deliver slot hit) = (is_ending w due ≡ false) × (slot ≡ due.slot) × (hit ≡ (work_delivery w due.place).hit)
ServesDue w due (Stop slot) = (is_ending w due ≡ false) × (slot ≡ due.slot) × (3 ≤ due.lost)
ServesDue w due (End slot) = (is_ending w due ≡ true) × (slot ≡ due.slot)
ServesDue w due _ = ⊥

-- the act is a look
abbrev pub IsLook : Act → Type 0
IsLook Look = Unit {0}
IsLook _ = ⊥

-- the act raises the halted bit alone
abbrev pub IsHalt : Act → Type 0
IsHalt (Raise bits) = bits ≡ 2 ^ 34
IsHalt _ = ⊥

-- the act may be the next one
abbrev pub Allows : Work → Next → Act → Type 0
Allows w (next.Look turn) act = IsLook act × (turn < length w.turns)
Allows w (next.Deliver due) act = ServesDue w due act
Allows w next.Raise act = IsHalt act
Allows w next.Over act = ⊥

-- nothing has to follow
abbrev pub MayEnd : Work → Next → Type 0
MayEnd w (next.Look turn) = length w.turns ≤ turn
MayEnd w (next.Deliver due) = ⊥
MayEnd w next.Raise = ⊥
MayEnd w next.Over = Unit {0}

-- what is next behind a look or a delivery of a turn
pub record Settles (s : Setup) (w : Work) (look place to turn : ℕ) (result : Next) : Type 0 where
  pub is_next : IsNext s w result
  pub fresh : HasNoLostTry result
  pub may : (panics : ℕ → Bool) (ps : List Played) → GoesOnFrom s panics w look place to turn ps → May s panics w result ps
  pub only : (panics : ℕ → Bool) (ps : List Played) → May s panics w result ps → GoesOnFrom s panics w look place to turn ps

-- a look needs its turn
abbrev pub CanMove : Work → Next → Type 0
CanMove w (next.Look turn) = turn < length w.turns
CanMove w _ = Unit {0}

-- the answer ends the script
abbrev pub ends_by : (ℕ → Bool) → Work → Due → Answer → Bool
ends_by panics w due answer = fails answer && (panics (work_delivery w due.place).monitor && has_bit due.look 33)

-- what is next behind the act, by the word behind it and its answer
abbrev pub Moves : Setup → (ℕ → Bool) → Work → Next → ℕ → Answer → Next → Type 0
Moves s panics w (next.Look turn) word answer result = MatchBool (has_bit word 34) (result ≡ next.Over) (Settles s w word (turn_in w turn).from (turn_in w turn).to (turn + 1) result)
Moves s panics w (next.Deliver due) word answer result = MatchBool (ends_by panics w due answer) (result ≡ next.Raise) (Settles s w due.look (due.place + 1) due.to due.turn result)
Moves s panics w _ word answer result = result ≡ next.Over

-- ---- tries that are lost

-- how many entries changed the slot's word since the seat's last entry; a past has the newest entry first
abbrev pub lost_of : ℕ → ℕ → List Entry → ℕ
lost_of slot seat [] = 0
lost_of slot seat (e ∷ past) = if e.seat == seat then 0 else (if changed slot e then 1 else 0) + lost_of slot seat past

-- a count that stays at 3
pub record CountsTo (lost n : ℕ) : Type 0 where
  pub most : lost ≤ 3
  pub below : lost < 3 → lost ≡ n
  pub enough : 3 ≤ lost → 3 ≤ n

-- the lost tries of what is next are counted
abbrev pub CountsLostTries : ℕ → List Entry → Next → Type 0
CountsLostTries seat past (next.Deliver due) = CountsTo due.lost (lost_of due.slot seat past)
CountsLostTries seat past _ = Unit {0}

-- what is next after an entry of another seat
abbrev pub after_other : Entry → Next → Next
after_other e (next.Deliver due) = next.Deliver (record due { lost = if changed due.slot e && nat_lt due.lost 3 then due.lost + 1 else due.lost })
after_other e n = n
