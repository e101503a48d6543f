-- A work of which the hidden deliveries are taken out, turn by turn.
use Rattle.std.proofs.Common.{◌≡◌, ℕ, suc, ◌+◌, ◌-◌, ◌<◌, ◌≤◌, ◌^◌, Bool, List, [], ◌∷◌, ◌++◌, length, map, take, drop, get_or, refl, sym, ap, ◌∙◌, subst, arith, length-append, append_assoc, append-nil, add-one}
use Rattle.std.specs.Prelude.{filter, flat_map, slice_range}
use Rattle.std.proofs.Math.Seq.{take-suc}
use Rattle.std.proofs.lemmas.List.{map-append, take_all, take-append-drop}
use Rattle.std.proofs.lemmas.List.Elements.{filter-append}
use Rattle.std.proofs.lemmas.Grind.{flat_map-append}
use Rattle.rv_model.specs.declared.work.Delivery.{Delivery}
use Rattle.rv_model.specs.declared.work.Turn.{Turn}
use Rattle.rv_model.specs.Scripts.{is_enabled_by}
use Rattle.rv_model.specs.Works.{Work, NamesEach, IsWork}
use Rattle.rv_journal.specs.Enabled.{IsEnabledWork}
use Rattle.rv_journal.proofs.RangeLemmas.{filter-few, range-back, range-few, range-front, range-none, range-parts, take-few}

-- ---- turns that name deliveries in order

-- the first place is not after the end
names-end : (place : ℕ) (turns : List Turn) (count : ℕ) → NamesEach place turns count → place ≤ count
names-end place [] count names = omega (arith, names)
names-end place (t ∷ turns) count names = let later = names-end t.to turns count names.2 in let is = names.0 in let le = names.1 in omega arith

-- the first turns end where the others begin
record Split (place : ℕ) (front back : List Turn) (count : ℕ) : Type 0 where
  mid : ℕ
  first : NamesEach place front mid
  later : NamesEach mid back count

-- turns that name deliveries in order are split so anywhere
names-split : (place : ℕ) (front back : List Turn) (count : ℕ) → NamesEach place (front ++ back) count → Split place front back count
names-split place [] back count names = record { mid = place; first = refl; later = names }
names-split place (t ∷ front) back count names =
    let rest = names-split t.to front back count names.2 in
    record { mid = rest.mid; first = (names.0, names.1, rest.first); later = rest.later }

-- one turn more
names-push : (place : ℕ) (turns : List Turn) (count : ℕ) (t : Turn) (next : ℕ) → NamesEach place turns count → t.from ≡ count → t.from ≤ t.to → t.to ≡ next → NamesEach place (turns ++ t ∷ []) next
names-push place [] count t next names from le to = (from ∙ sym names, le, to)
names-push place (u ∷ turns) count t next names from le to = (names.0, names.1, names-push u.to turns count t next names.2 from le to)

-- the deliveries of each turn
abbrev pub pieces : List Delivery → List Turn → List (List Delivery)
pieces ds turns = map (λ t. slice_range ds t.from t.to) turns

-- they stay as the list grows
pieces-front : (ds more : List Delivery) (place : ℕ) (turns : List Turn) (count : ℕ) → NamesEach place turns count → count ≤ length ds → pieces (ds ++ more) turns ≡ pieces ds turns
pieces-front ds more place [] count names within = refl
pieces-front ds more place (t ∷ turns) count names within =
    let end = names-end t.to turns count names.2 in
    let one : slice_range (ds ++ more) t.from t.to ≡ slice_range ds t.from t.to = range-front ds more t.from t.to names.1 (omega arith) in
    ap (λ (z : List Delivery). z ∷ pieces (ds ++ more) turns) one ∙ ap (λ (z : List (List Delivery)). slice_range ds t.from t.to ∷ z) (pieces-front ds more t.to turns count names.2 within)

module _ (keep : Delivery → Bool) (ds : List Delivery) where
  -- what passes of each turn
  abbrev pub kept_of : List Turn → List Delivery
  kept_of turns = flat_map (λ t. filter keep (slice_range ds t.from t.to)) turns

  -- is what passes of all
  kept-all : (place : ℕ) (turns : List Turn) (count : ℕ) → NamesEach place turns count → kept_of turns ≡ filter keep (slice_range ds place count)
  kept-all place [] count names = sym (ap (filter keep) (ap (λ (k : ℕ). slice_range ds place k) (sym names) ∙ range-none ds place))
  kept-all place (t ∷ turns) count names =
      let end = names-end t.to turns count names.2 in
      let from = names.0 in
      let le = names.1 in
      ap (λ (z : List Delivery). filter keep (slice_range ds t.from t.to) ++ z) (kept-all t.to turns count names.2)
      ∙ sym (filter-append keep (slice_range ds t.from t.to) (slice_range ds t.to count))
      ∙ ap (filter keep) (sym (range-parts ds t.from t.to count le end) ∙ ap (λ (k : ℕ). slice_range ds k count) from)

-- ---- one work

-- so much of a work's turns was shown
pub record IsShownSoFar (look : ℕ) (ds : List Delivery) (front turns : List Turn) (kept : List Delivery) : Type 0 where
  pub kept_are : kept ≡ kept_of (is_enabled_by look) ds front
  pub names : NamesEach 0 turns (length kept)
  pub pieces_are : pieces kept turns ≡ map (filter (is_enabled_by look)) (pieces ds front)
  pub lines_are : map (λ t. t.line) turns ≡ map (λ t. t.line) front

-- nothing yet
pub shown-none : (look : ℕ) (ds : List Delivery) (turns : List Turn) (kept : List Delivery) → turns ≡ [] → kept ≡ [] → IsShownSoFar look ds [] turns kept
shown-none look ds turns kept no_turns none = subst (λ (z : List Turn). IsShownSoFar look ds [] z kept) (sym no_turns) (subst (IsShownSoFar look ds [] []) (sym none) (record { kept_are = refl; names = refl; pieces_are = refl; lines_are = refl }))

-- one turn more
pub shown-more : (look : ℕ) (ds : List Delivery) (front turns : List Turn) (kept more : List Delivery) (t u : Turn) → IsShownSoFar look ds front turns kept → more ≡ kept ++ filter (is_enabled_by look) (slice_range ds t.from t.to) → u ≡ record t { from = length kept; to = length more }
    → IsShownSoFar look ds (front ++ t ∷ []) (turns ++ u ∷ []) more
shown-more look ds front turns kept more t u so_far added is =
    let piece : List Delivery = filter (is_enabled_by look) (slice_range ds t.from t.to) in
    let one : Turn → List Delivery = λ (t : Turn). filter (is_enabled_by look) (slice_range ds t.from t.to) in
    let line : Turn → ℕ = λ (t : Turn). t.line in
    let from : u.from ≡ length kept = ap (λ (t : Turn). t.from) is in
    let to : u.to ≡ length more = ap (λ (t : Turn). t.to) is in
    let long : length more ≡ length kept + length piece = ap length added ∙ length-append kept piece in
    let own : slice_range more u.from u.to ≡ piece =
    ap (λ (i : ℕ). slice_range more i u.to) from ∙ ap (slice_range more (length kept)) to ∙ ap (λ (z : List Delivery). slice_range z (length kept) (length z)) added ∙ range-back kept piece in
    let front_are : pieces more turns ≡ pieces kept turns = ap (λ (z : List Delivery). pieces z turns) added ∙ pieces-front kept piece 0 turns (length kept) so_far.names (omega arith) in
    record {
      kept_are = added ∙ ap (λ (z : List Delivery). z ++ piece) so_far.kept_are ∙ ap (λ (z : List Delivery). kept_of (is_enabled_by look) ds front ++ z) (sym (append-nil piece)) ∙ sym (flat_map-append one front (t ∷ []));
      names = names-push 0 turns (length kept) u (length more) so_far.names from (omega arith) to;
      pieces_are =
          map-append (λ (t : Turn). slice_range more t.from t.to) turns (u ∷ [])
          ∙ ap (λ (z : List (List Delivery)). z ++ slice_range more u.from u.to ∷ []) (front_are ∙ so_far.pieces_are)
          ∙ ap (λ (z : List Delivery). map (filter (is_enabled_by look)) (pieces ds front) ++ z ∷ []) own
          ∙ sym (ap (map (filter (is_enabled_by look))) (map-append (λ (t : Turn). slice_range ds t.from t.to) front (t ∷ [])) ∙ map-append (filter (is_enabled_by look)) (pieces ds front) (slice_range ds t.from t.to ∷ []));
      lines_are = map-append line turns (u ∷ []) ∙ ap (λ (z : List ℕ). z ++ u.line ∷ []) so_far.lines_are ∙ ap (λ (n : ℕ). map line front ++ n ∷ []) (ap line is) ∙ sym (map-append line front (t ∷ []));
    }

-- so much of a turn was shown
pub kept-fits : (look : ℕ) (ds kept more : List Delivery) (from to n : ℕ) → from ≤ to → to < 2 ^ 32 → length kept ≤ from → more ≡ kept ++ filter (is_enabled_by look) (take n (slice_range ds from to)) → length more < 2 ^ 32
kept-fits look ds kept more from to n le small few are =
    let part : List Delivery = take n (slice_range ds from to) in
    let long : length more ≡ length kept + length (filter (is_enabled_by look) part) = ap length are ∙ length-append kept (filter (is_enabled_by look) part) in
    let less = filter-few (is_enabled_by look) part in
    let within = take-few n (slice_range ds from to) in
    let short = range-few ds from to in
    omega arith

-- what the next turn wants
pub record MayShow (ds : List Delivery) (kept : List Delivery) (t : Turn) : Type 0 where
  pub named : (t.from ≤ t.to) × (t.to ≤ length ds)
  pub few : length kept ≤ t.from

-- the next turn of a work has what it wants
pub may-show : (look : ℕ) (w : Work) (items : List Turn) (n : ℕ) (d : Turn) (turns : List Turn) (kept : List Delivery) → IsWork w → items ≡ w.turns → n < length items → IsShownSoFar look w.deliveries (take n items) turns kept → MayShow w.deliveries kept (get_or items n d)
may-show look w items n d turns kept is same lt so_far =
    let t : Turn = get_or items n d in
    let all : items ≡ take n items ++ (t ∷ drop (suc n) items) =
    sym (take-append-drop (suc n) items) ∙ ap (λ (z : List Turn). z ++ drop (suc n) items) (take-suc items n d lt) ∙ append_assoc (take n items) (t ∷ []) (drop (suc n) items) in
    let parts = names-split 0 (take n items) (t ∷ drop (suc n) items) (length w.deliveries) (subst (λ (z : List Turn). NamesEach 0 z (length w.deliveries)) (sym same ∙ all) is) in
    let from = parts.later.0 in
    let le = parts.later.1 in
    let end = names-end t.to (drop (suc n) items) (length w.deliveries) parts.later.2 in
    let are : kept ≡ filter (is_enabled_by look) (slice_range w.deliveries 0 parts.mid) = so_far.kept_are ∙ kept-all (is_enabled_by look) w.deliveries 0 (take n items) parts.mid parts.first in
    let few = filter-few (is_enabled_by look) (slice_range w.deliveries 0 parts.mid) in
    let short = range-few w.deliveries 0 parts.mid in
    let long : length kept ≡ length (filter (is_enabled_by look) (slice_range w.deliveries 0 parts.mid)) = ap length are in
    record { named = (le, end); few = omega arith }

-- the turn at the next place was shown
pub shown-next : (look : ℕ) (ds : List Delivery) (items : List Turn) (n : ℕ) (d : Turn) (turns turns' : List Turn) (kept more : List Delivery) (u : Turn) → n < length items → IsShownSoFar look ds (take n items) turns kept
    → more ≡ kept ++ filter (is_enabled_by look) (slice_range ds (get_or items n d).from (get_or items n d).to) → u ≡ record (get_or items n d) { from = length kept; to = length more } → turns' ≡ turns ++ u ∷ [] → IsShownSoFar look ds (take (n + 1) items) turns' more
shown-next look ds items n d turns turns' kept more u lt so_far added is pushed =
    let next : take (n + 1) items ≡ take n items ++ get_or items n d ∷ [] = ap (λ (k : ℕ). take k items) (add-one n) ∙ take-suc items n d lt in
    subst (λ (z : List Turn). IsShownSoFar look ds z turns' more) (sym next)
    (subst (λ (z : List Turn). IsShownSoFar look ds (take n items ++ get_or items n d ∷ []) z more) (sym pushed) (shown-more look ds (take n items) turns kept more (get_or items n d) u so_far added is))

-- all turns were shown
pub shown-whole : (look : ℕ) (w v : Work) (front : List Turn) → IsWork w → front ≡ w.turns → v.cpu ≡ w.cpu → IsShownSoFar look w.deliveries front v.turns v.deliveries → IsEnabledWork look w v
shown-whole look w v front is all cpu so_far =
    let whole : slice_range w.deliveries 0 (length w.deliveries) ≡ w.deliveries =
    (let all : length w.deliveries - 0 ≡ length w.deliveries = omega arith in ap (λ (n : ℕ). take n w.deliveries) all ∙ take_all (length w.deliveries) w.deliveries (omega arith)) in
    record {
      enabled_of = record { cpu = cpu; turns = so_far.pieces_are ∙ ap (λ (z : List Turn). map (filter (is_enabled_by look)) (pieces w.deliveries z)) all };
      deliveries_are = so_far.kept_are ∙ ap (kept_of (is_enabled_by look) w.deliveries) all ∙ kept-all (is_enabled_by look) w.deliveries 0 w.turns (length w.deliveries) is ∙ ap (filter (is_enabled_by look)) whole;
      lines_are = so_far.lines_are ∙ ap (map (λ (t : Turn). t.line)) all;
    }
