-- What one CPU and the control actor do.
use Rattle.std.specs.Prelude.{◌≡◌, ◌⊎◌, ℕ, ◌^◌, Bool, true, false, ◌&&◌, ◌==◌, List, [], ◌∷◌, ◌++◌, map, filter, flat_map, length, MatchBool, slice_index, slice_range, if◌then◌else◌}
use Rattle.rv_model.specs.declared.entry.Act.{Act}
use Rattle.rv_model.specs.declared.entry.Act.TheVariants.{Deliver, Stop, Look, Raise, Lower, Clear, End}
use Rattle.rv_model.specs.declared.entry.Entry.{Entry}
use Rattle.rv_model.specs.declared.entry.Answer.{Answer}
use Rattle.rv_model.specs.declared.entry.Answer.TheVariants.{Failed, Looked}
use Rattle.rv_model.specs.declared.hit.Hit.{Hit}
use Rattle.rv_model.specs.declared.hit.Mode.{Mode}
use Rattle.rv_model.specs.declared.hit.Mode.TheVariants as mode
use Rattle.rv_model.specs.declared.work.Delivery.{Delivery}
use Rattle.rv_model.specs.declared.work.Change.{Change}
use Rattle.rv_model.specs.Numbers.{has_bit, list_of}
use Rattle.rv_model.specs.Judging.{Judge}
use Rattle.rv_model.specs.Setups.{Setup, slot_of}
use Rattle.rv_model.specs.SharedWords.{answer_at}
use Rattle.rv_model.specs.Works.{Work}

-- an entry with its answer
abbrev pub Played : Type 0
Played = Entry × Answer

-- the entries of a seat with their answers, the oldest first, of a past that has the newest first
abbrev pub played : Setup → List Judge → ℕ → List Entry → List Played
played s js seat [] = []
played s js seat (e ∷ past) = if e.seat == seat then played s js seat past ++ (e, answer_at s js past e e.act) ∷ [] else played s js seat past

-- ---- a CPU

-- the look shows monitoring on and the delivery's monitor enabled
abbrev pub is_enabled_by : ℕ → Delivery → Bool
is_enabled_by look d = has_bit look 32 && has_bit look d.monitor

-- the answer is a failure
abbrev pub fails : Answer → Bool
fails (Failed _) = true
fails _ = false

-- the hit ends its instance
abbrev pub is_end : Mode → Bool
is_end mode.End = true
is_end _ = false

-- what a hit is to do to its slot: an end ends it, and any other is delivered
abbrev pub hit_act : ℕ → Hit → Act
hit_act slot hit = if is_end hit.mode then End slot else Deliver slot hit

-- the act is that of the hit, or, where it is no end, a Stop in its place
abbrev pub MakesHit : ℕ → Hit → Act → Type 0
MakesHit slot hit act = (act ≡ hit_act slot hit) ⊎ ((is_end hit.mode ≡ false) × (act ≡ Stop slot))

-- the entry is one of the delivery
abbrev pub Makes : Setup → Delivery → Played → Type 0
Makes s d p = MakesHit (slot_of s.shape d.monitor d.instance) d.hit p.0.act

-- the deliveries that a look shows on, in order, and then what comes after the turn;
-- where one fails whose reactor is panic and the look shows reacting on, one Raise of bit 34 and nothing else
abbrev pub Delivers : Setup → (ℕ → Bool) → ℕ → List Delivery → (List Played → Type 0) → List Played → Type 0
Delivers s panics look [] after ps = after ps
Delivers s panics look (d ∷ ds) after [] = ⊥
Delivers s panics look (d ∷ ds) after (p ∷ ps) =
    Makes s d p
    × MatchBool (fails p.1 && (panics d.monitor && has_bit look 33))
    ((stop : Played) × (ps ≡ stop ∷ []) × (stop.0.act ≡ Raise (2 ^ 34)))
    (Delivers s panics look ds after ps)

-- a script, by its turns
abbrev pub PlaysTurns : Setup → (ℕ → Bool) → List (List Delivery) → List Played → Type 0
PlaysTurns s panics [] ps = ps ≡ []
PlaysTurns s panics (turn ∷ turns) [] = ⊥
PlaysTurns s panics (turn ∷ turns) (p ∷ ps) =
    (look : ℕ) × (p.0.act ≡ Look) × (p.1 ≡ Looked look)
    × MatchBool (has_bit look 34) (ps ≡ []) (Delivers s panics look (filter (is_enabled_by look) turn) (PlaysTurns s panics turns) ps)

-- the deliveries of each turn
abbrev pub turns_of : Work → List (List Delivery)
turns_of w = map (λ turn. slice_range w.deliveries turn.from turn.to) w.turns

-- the entries are the script of a CPU that has this work
abbrev pub Plays : Setup → (ℕ → Bool) → Work → List Played → Type 0
Plays s panics w ps = PlaysTurns s panics (turns_of w) ps

-- ---- the control actor

-- the act on these bits, if there are any
abbrev pub bits_act : (ℕ → Act) → ℕ → List Act
bits_act act bits = if bits == 0 then [] else act bits ∷ []

-- a Clear of each slot of each monitor of the set, both ascending
abbrev pub clears : List ℕ → ℕ → List Act
clears shape set = flat_map (λ monitor. if has_bit set monitor then list_of (λ k. Clear (slot_of shape monitor k)) (slice_index shape monitor) else []) (list_of (λ m. m) (length shape))

-- the acts of one change: what it lowers, what it clears, and what it raises
abbrev pub change_acts : List ℕ → Change → List Act
change_acts shape c = bits_act Lower c.lower ++ clears shape c.clear ++ bits_act Raise c.raise

-- the acts of all changes, in order
abbrev pub control_acts : List ℕ → List Change → List Act
control_acts shape changes = flat_map (change_acts shape) changes
