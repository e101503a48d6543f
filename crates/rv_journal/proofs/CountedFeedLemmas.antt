-- What a feeder adds, delivery by delivery.
use Rattle.std.proofs.Common.{◌≡◌, ℕ, ◌+◌, ◌<◌, ◌≤◌, Bool, List, [], ◌∷◌, ◌++◌, length, reverse, take, drop, get_or, refl, sym, ap, ◌∙◌, subst, arith, append_assoc, add-one, length-append, drop-cons}
use Rattle.std.proofs.lemmas.List.{append-nil, map-append, take_more}
use Rattle.std.specs.Prelude.{All}
use Rattle.std.proofs.lemmas.List.Elements.{filter-append, All-get_or}
use Rattle.rv_model.specs.declared.entry.Entry.{Entry}
use Rattle.rv_model.specs.declared.record.Delivered.{Delivered}
use Rattle.rv_model.specs.declared.record.Delivered.TheVariants.{Done, Racing}
use Rattle.rv_model.specs.declared.work.Delivery.{Delivery}
use Rattle.rv_model.specs.declared.work.Turn.{Turn}
use Rattle.rv_model.specs.Histories.{IsSound}
use Rattle.rv_model.specs.Seats.{known_of, entries_of}
use Rattle.rv_model.specs.Setups.{Setup}
use Rattle.rv_model.specs.SharedWords.{answer_at}
use Rattle.rv_model.specs.Works.{Work, NamesEach}
use Rattle.rv_core.specs.Setup.{judges_of}
use Rattle.rv_board.specs.Deliveries.{DeliversOrStops}
use Rattle.rv_board.specs.Seats.{BoardId, SeatValue, SeatGrows}
use Rattle.rv_board.proofs.GrowLemmas.{same_known, grows_none, grows_then}
use Rattle.rv_board.proofs.Knowing.{none_before, none_after}
use Rattle.rv_journal.specs.declared.counted.Counted.{Counted}
use Rattle.rv_journal.specs.CountedSeats.{CountedValue, Counts}
use Rattle.rv_journal.specs.CountedLanes.{CountedLaneValue, IsNewCountedLane, slot_at, EndsAs, IsObserved, AllObservedAfter, entries_observed, FeedsCounted}
use Rattle.rv_journal.specs.inner.CountedLanes.{KeepsObserved}
use Rattle.rv_journal.proofs.CountedStepLemmas.{snoc-front, snoc-last}
use Rattle.rv_journal.proofs.MergeStepLemmas.{names-within}

-- ---- one delivery

-- it ends as the board's call says, by its entry at the end of the list
ends-as : (old new : SeatValue) (d : Delivery) (observed : Counted) (outcome : Delivered) → observed.outcome ≡ outcome → (counts : Counts old new (slot_at old.board.setup d) observed) → DeliversOrStops old new (slot_at old.board.setup d) d.hit outcome
    → SeatGrows old new (observed.entry ∷ []) × EndsAs old.board.setup (slot_at old.board.setup d) d ((old.part.seen ++ counts.earlier) ++ counts.since) counts.since observed.entry outcome
ends-as old new d observed (Done answer) is counts made =
    let same : made.entry ≡ observed.entry = snoc-last made.before ((old.part.seen ++ counts.earlier) ++ counts.since) made.entry observed.entry (sym made.list ∙ counts.list) in
    let front : made.before ≡ (old.part.seen ++ counts.earlier) ++ counts.since = snoc-front made.before ((old.part.seen ++ counts.earlier) ++ counts.since) made.entry observed.entry (sym made.list ∙ counts.list) in (
      subst (λ (e : Entry). SeatGrows old new (e ∷ [])) same made.acts.grows,
      (ap (λ (e : Entry). e.act) (sym same) ∙ made.acts.act_is, made.answer_is ∙ (λ i. answer_at old.board.setup (judges_of old.board.setup) (reverse (front i)) (same i) ((same i).act))),
    )
ends-as old new d observed Racing is counts given =
    let same : given.entry ≡ observed.entry = snoc-last (old.part.seen ++ given.added) ((old.part.seen ++ counts.earlier) ++ counts.since) given.entry observed.entry (sym given.list ∙ counts.list) in (
      subst (λ (e : Entry). SeatGrows old new (e ∷ [])) same given.acts.grows,
      (ap (λ (e : Entry). e.act) (sym same) ∙ given.acts.act_is, counts.racing is),
    )

-- entries without known numbers add none
pub none-more : (known : ℕ → Bool) (list more : List Entry) → entries_of known more ≡ [] → entries_of known (list ++ more) ≡ entries_of known list
none-more known list more none = filter-append (λ (e : Entry). known e.seat) list more ∙ (ap (λ (z : List Entry). entries_of known list ++ z) none ∙ append-nil (entries_of known list))

-- what the board's call observes is so in the seat's list
pub fed-one : (old new : CountedValue) (d : Delivery) (observed : Counted) → Counts old.seat new.seat (slot_at old.seat.board.setup d) observed → DeliversOrStops old.seat new.seat (slot_at old.seat.board.setup d) d.hit observed.outcome → new.left + 1 ≡ old.left
    → FeedsCounted old new (d ∷ []) (observed ∷ [])
fed-one old new d observed counts delivers left =
    let does = ends-as old.seat new.seat d observed observed.outcome refl counts delivers in record {
      grows = does.0;
      observed = (
        record {
          earlier = old.seat.part.seen ++ counts.earlier;
          unseen = counts.earlier;
          since = counts.since;
          later = [];
          list_is = counts.list;
          least = refl;
          own_are = none-more (known_of old.seat.part) old.seat.part.seen counts.earlier (none_before (known_of old.seat.part) counts.earlier counts.since counts.others);
          others = none_after (known_of old.seat.part) counts.earlier counts.since counts.others;
          first = counts.first;
          count = counts.count;
          ends = does.1;
        },
        tt,
      );
      left = left;
    }

-- ---- one after another

module _ (s : Setup) (known : ℕ → Bool) where
  -- what was observed is so in every list that goes on from the list
  told-longer : (seen list more own : List Entry) (d : Delivery) (observed : Counted) → IsObserved s known seen list own d observed → IsObserved s known seen (list ++ more) own d observed
  told-longer seen list more own d observed i = record {
    earlier = i.earlier;
    unseen = i.unseen;
    since = i.since;
    later = i.later ++ more;
    list_is = ap (λ z. z ++ more) i.list_is ∙ append_assoc (i.earlier ++ i.since) (observed.entry ∷ i.later) more;
    least = i.least;
    own_are = i.own_are;
    others = i.others;
    first = i.first;
    count = i.count;
    ends = i.ends;
  }

  -- and behind every front of what was seen
  told-since : (seen more list own : List Entry) (d : Delivery) (observed : Counted) → IsObserved s known (seen ++ more) list own d observed → IsObserved s known seen list own d observed
  told-since seen more list own d observed i = record {
    earlier = i.earlier;
    unseen = more ++ i.unseen;
    since = i.since;
    later = i.later;
    list_is = i.list_is;
    least = i.least ∙ append_assoc seen more i.unseen;
    own_are = i.own_are;
    others = i.others;
    first = i.first;
    count = i.count;
    ends = i.ends;
  }

  -- of each
  all-longer : (seen list more own : List Entry) (ds : List Delivery) (cs : List Counted) → AllObservedAfter s known seen list own ds cs → AllObservedAfter s known seen (list ++ more) own ds cs
  all-longer seen list more own [] [] all = tt
  all-longer seen list more own [] (c ∷ cs) all = absurd all
  all-longer seen list more own (d ∷ ds) [] all = absurd all
  all-longer seen list more own (d ∷ ds) (c ∷ cs) all = (told-longer seen list more own d c all.0, all-longer seen list more (own ++ c.entry ∷ []) ds cs all.1)

  -- one more, behind the entries of all before it
  told-push : (seen list own : List Entry) (ds : List Delivery) (cs : List Counted) (d : Delivery) (c : Counted) → AllObservedAfter s known seen list own ds cs → IsObserved s known seen list (own ++ entries_observed cs) d c → AllObservedAfter s known seen list own (ds ++ d ∷ []) (cs ++ c ∷ [])
  told-push seen list own [] [] d c all one = (subst (λ (z : List Entry). IsObserved s known seen list z d c) (append-nil own) one, tt)
  told-push seen list own [] (y ∷ cs) d c all one = absurd all
  told-push seen list own (x ∷ ds) [] d c all one = absurd all
  told-push seen list own (x ∷ ds) (y ∷ cs) d c all one =
      (all.0, told-push seen list (own ++ y.entry ∷ []) ds cs d c all.1 (subst (λ (z : List Entry). IsObserved s known seen list z d c) (sym (append_assoc own (y.entry ∷ []) (entries_observed cs))) one))

-- no delivery adds nothing
pub fed-none : (old : CountedValue) → IsSound old.seat.board.setup (judges_of old.seat.board.setup) old.seat.part.seen → FeedsCounted old old [] []
fed-none old sound = record { grows = grows_none old.seat sound; observed = tt; left = omega arith }

-- one delivery after others
pub fed-more : (a b c : CountedValue) (ds : List Delivery) (cs : List Counted) (d : Delivery) (observed : Counted) → FeedsCounted a b ds cs → FeedsCounted b c (d ∷ []) (observed ∷ []) → FeedsCounted a c (ds ++ d ∷ []) (cs ++ observed ∷ [])
fed-more a b c ds cs d observed one two =
    let own : entries_observed (cs ++ observed ∷ []) ≡ entries_observed cs ++ observed.entry ∷ [] = map-append (λ (t : Counted). t.entry) cs (observed ∷ []) in
    let known = same_known a.seat b.seat (entries_observed cs) one.grows in
    let setup : b.seat.board.setup ≡ a.seat.board.setup = ap (λ (x : BoardId). x.setup) one.grows.board in
    let s = a.seat.board.setup in
    let knows : ℕ → Bool = known_of a.seat.part in
    let before : List Entry = entries_of knows a.seat.part.seen in
    let so_far : entries_of (known_of b.seat.part) b.seat.part.seen ≡ before ++ entries_observed cs =
    (λ i. entries_of (known i) (one.grows.grows.list i)) ∙ (filter-append (λ (e : Entry). knows e.seat) a.seat.part.seen one.grows.grows.rest ∙ ap (λ (z : List Entry). before ++ z) one.grows.grows.known) in
    let own_then : IsObserved s knows (a.seat.part.seen ++ one.grows.grows.rest) c.seat.part.seen (before ++ entries_observed cs) d observed =
    subst (λ (z : (Setup × (ℕ → Bool)) × (List Entry × List Entry)). IsObserved z.0.0 z.0.1 z.1.0 c.seat.part.seen z.1.1 d observed) (λ i. ((setup i, known i), (one.grows.grows.list i, so_far i))) two.observed.0 in
    let last : IsObserved s knows a.seat.part.seen c.seat.part.seen (before ++ entries_observed cs) d observed = told-since s knows a.seat.part.seen one.grows.grows.rest c.seat.part.seen (before ++ entries_observed cs) d observed own_then in
    let first_ones : AllObservedAfter s knows a.seat.part.seen c.seat.part.seen before ds cs =
    subst (λ (l : List Entry). AllObservedAfter s knows a.seat.part.seen l before ds cs) (sym two.grows.grows.list) (all-longer s knows a.seat.part.seen b.seat.part.seen two.grows.grows.rest before ds cs one.observed) in
    let count = length-append ds (d ∷ []) in
    let first = one.left in
    let second = two.left in record {
      grows = subst (SeatGrows a.seat c.seat) (sym own) (grows_then a.seat b.seat c.seat (entries_observed cs) [] observed.entry one.grows two.grows);
      observed = told-push s knows a.seat.part.seen c.seat.part.seen before ds cs d observed first_ones last;
      left = omega arith;
    }

-- ---- lanes

-- the deliveries before this index were made, and the lane has what they observed
pub record FedTo (old cur : CountedValue) (lane lane' : CountedLaneValue) (place : ℕ) : Type 0 where
  pub feeds : FeedsCounted old cur (take place lane.work.deliveries) lane'.counted
  pub work_is : lane'.work ≡ lane.work
  pub room : length lane.work.deliveries ≤ lane'.room
  pub count : length lane'.counted ≡ place

-- the turns before this place were made, and the others name the deliveries that are left
pub record FedTurns (old cur : CountedValue) (lane lane' : CountedLaneValue) (turn : ℕ) : Type 0 where
  pub place : ℕ
  pub fed : FedTo old cur lane lane' place
  pub names : NamesEach place (drop turn lane.work.turns) (length lane.work.deliveries)

-- within a turn, which ends here: the deliveries before this one were made, the lane has all to the end, and the turns behind it name those that are left
pub record FedIn (old cur : CountedValue) (lane lane' : CountedLaneValue) (place end number : ℕ) : Type 0 where
  pub fed : FedTo old cur lane lane' number
  pub so_far : number ≤ end
  pub within : end ≤ length lane.work.deliveries
  pub names : NamesEach end (drop (place + 1) lane.work.turns) (length lane.work.deliveries)

-- no delivery was made
pub fed-start : (old : CountedValue) (lane : CountedLaneValue) → IsSound old.seat.board.setup (judges_of old.seat.board.setup) old.seat.part.seen → IsNewCountedLane lane.work lane → NamesEach 0 lane.work.turns (length lane.work.deliveries) → FedTurns old old lane lane 0
fed-start old lane sound new names = record {
  place = 0;
  fed = record { feeds = subst (FeedsCounted old old []) (sym new.nothing_observed) (fed-none old sound); work_is = refl; room = new.room; count = ap length new.nothing_observed };
  names = names;
}

module _ {old cur : CountedValue} {lane lane' : CountedLaneValue} {place : ℕ} where
  -- the next turn goes on where those before it ended
  pub in-turn : {turn : Turn} → FedTurns old cur lane lane' place → place < length lane.work.turns → ((any : Turn) → turn ≡ get_or lane'.work.turns place any) → FedIn old cur lane lane' place turn.to turn.from
  in-turn {turn} made low found =
      let is : turn ≡ get_or lane.work.turns place turn = found turn ∙ ap (λ (w : Work). get_or w.turns place turn) made.fed.work_is in
      let whole : drop place lane.work.turns ≡ turn ∷ drop (place + 1) lane.work.turns = drop-cons lane.work.turns place turn low ∙ (λ i. sym is i ∷ drop (sym (add-one place) i) lane.work.turns) in
      let next = subst (λ (l : List Turn). NamesEach made.place l (length lane.work.deliveries)) whole made.names in
      record {
        fed = subst (FedTo old cur lane lane') (sym next.0) made.fed;
        so_far = next.1;
        within = names-within turn.to (drop (place + 1) lane.work.turns) (length lane.work.deliveries) next.2;
        names = next.2;
      }

  -- all its deliveries were made
  pub turn-made : {end number : ℕ} → FedIn old cur lane lane' place end number → end ≤ number → FedTurns old cur lane lane' (place + 1)
  turn-made {end} {number} i all = record { place = end; fed = subst (FedTo old cur lane lane') (let below = i.so_far in omega arith) i.fed; names = i.names }

  module _ {end number : ℕ} {d : Delivery} (i : FedIn old cur lane lane' place end number) (low : number < end) (found : (any : Delivery) → d ≡ get_or lane'.work.deliveries number any) where
    -- the delivery is the lane's
    delivery-is : d ≡ get_or lane.work.deliveries number d
    delivery-is = found d ∙ ap (λ (w : Work). get_or w.deliveries number d) i.fed.work_is

    -- what holds of all deliveries holds of it
    pub delivery-holds : (P : Delivery → Type 0) → All P lane.work.deliveries → P d
    delivery-holds P all = let few = i.within in subst P (sym delivery-is) (All-get_or P lane.work.deliveries number d (omega arith) all)

    -- it was made
    pub fed-next : {next : CountedValue} {lane'' : CountedLaneValue} {observed : Counted} → FeedsCounted cur next (d ∷ []) (observed ∷ []) → KeepsObserved lane' lane'' observed → FedIn old next lane lane'' place end (number + 1)
    fed-next {next} {lane''} {observed} feeds kept =
        let few = i.within in
        let fed = i.fed in
        let inside : number < length lane.work.deliveries = omega arith in
        let more : take number lane.work.deliveries ++ d ∷ [] ≡ take (number + 1) lane.work.deliveries = ap (λ (x : Delivery). take number lane.work.deliveries ++ x ∷ []) delivery-is ∙ sym (take_more lane.work.deliveries number d inside) in
        let all = fed-more old cur next (take number lane.work.deliveries) lane'.counted d observed fed.feeds feeds in
        let room = fed.room in
        let wider = kept.room in
        let count = fed.count in
        let longer : length lane''.counted ≡ length lane'.counted + 1 = ap length kept.counted_is ∙ length-append lane'.counted (observed ∷ []) in record {
          fed = record {
            feeds = subst (λ (z : List Delivery × List Counted). FeedsCounted old next z.0 z.1) (λ j. (more j, sym kept.counted_is j)) all;
            work_is = kept.work_is ∙ fed.work_is;
            room = omega arith;
            count = omega arith;
          };
          so_far = omega arith;
          within = i.within;
          names = i.names;
        }
