-- Deliveries as one list: one more of them, and the one that stands at a place.
use Rattle.std.proofs.Common.{◌≡◌, ℕ, Bool, true, false, map, subst, zero, suc, ◌+◌, ◌<◌, ◌≤◌, List, [], ◌∷◌, ◌++◌, length, get_or, set, refl, sym, ap, ◌∙◌, arith, replicate, length-append}
use Rattle.std.specs.Prelude.{All, fold, if◌then◌else◌}
use Rattle.std.proofs.lemmas.List.{get_or-map, get_or_default, length-map}
use Rattle.std.proofs.lemmas.List.Elements.{All-nil, All-push, All-head, All-tail, All-weaker, All-replicate}
use Rattle.std.proofs.lemmas.List.Quantifiers.{all_pairs_push}
use Rattle.std.proofs.lemmas.List.Sums.{fold-append}
use Rattle.rv_model.specs.declared.record.Task.{Task}
use Rattle.rv_model.specs.declared.work.Delivery.{Delivery}
use Rattle.rv_trace.specs.declared.line.TraceLine.{TraceLine}
use Rattle.rv_bind.specs.RuleValues.{OnValue}
use Rattle.rv_route.specs.declared.listing.Listed.{Listed}
use Rattle.rv_route.specs.declared.listing.Target.{Target}
use Rattle.rv_route.specs.Lanes.{LaneValue, with_delivery}
use Rattle.rv_route.specs.LineByLine.{Routes, no_lane, delivered, no_routes}
use Rattle.rv_route.specs.Listing.{ListedDelivery, no_target, target_of, listed_as, listed_from, with_listed, lanes_listed, AreBelow}
use Rattle.rv_route.specs.inner.Gathering.{Gathered, GathersLine, IsTarget}
use Rattle.rv_route.proofs.LaneLemmas.{lanes_few}

-- one more is listed last
listed_from-push : (targets : List Target) (order : ℕ) (items : List Listed) (item : Listed) → listed_from targets order (items ++ item ∷ []) ≡ listed_from targets order items ++ listed_as targets (order + length items) item ∷ []
listed_from-push targets order [] item =
    let none : order ≡ order + 0 = omega arith in
    ap (λ (n : ℕ). listed_as targets n item ∷ []) none
listed_from-push targets order (x ∷ items) item =
    let next : (order + 1) + length items ≡ order + length (x ∷ items) = omega arith in
    ap (λ (ls : List ListedDelivery). listed_as targets order x ∷ ls)
    (listed_from-push targets (order + 1) items item ∙ ap (λ (n : ℕ). listed_from targets (order + 1) items ++ listed_as targets n item ∷ []) next)

-- as many as there are items
pub length-listed_from : (targets : List Target) (order : ℕ) (items : List Listed) → length (listed_from targets order items) ≡ length items
length-listed_from targets order [] = refl
length-listed_from targets order (x ∷ items) = ap suc (length-listed_from targets (order + 1) items)

-- the one at a place
pub listed_at : (targets : List Target) (order : ℕ) (items : List Listed) (place : ℕ) (d : ListedDelivery) (x : Listed) → place < length items → get_or (listed_from targets order items) place d ≡ listed_as targets (order + place) (get_or items place x)
listed_at targets order [] place d x lt = absurd (omega arith)
listed_at targets order (i ∷ items) zero d x lt =
    let none : order ≡ order + 0 = omega arith in
    ap (λ (n : ℕ). listed_as targets n i) none
listed_at targets order (i ∷ items) (suc place) d x lt =
    let next : (order + 1) + place ≡ order + suc place = omega arith in
    listed_at targets (order + 1) items place d x (omega arith) ∙ ap (λ (n : ℕ). listed_as targets n (get_or items place x)) next

-- the one at a place of the list that the items make
module _ (targets : List Target) (items : List Listed) (list : List ListedDelivery) (is : listed_from targets 0 items ≡ list) (place : ℕ) (lt : place < length list) where
  -- there is an item
  pub listed-within : place < length items
  listed-within =
      let below : place < length (listed_from targets 0 items) = subst (λ (l : List ListedDelivery). place < length l) (sym is) lt in
      let many = length-listed_from targets 0 items in
      omega arith

  -- it is the item's
  pub listed-here : (d : ListedDelivery) (x : Listed) → x ≡ get_or items place x → get_or list place d ≡ listed_as targets place x
  listed-here d x at =
      let none : 0 + place ≡ place = omega arith in
      ap (λ (l : List ListedDelivery). get_or l place d) (sym is) ∙ listed_at targets 0 items place d x listed-within ∙ ap (λ (n : ℕ). listed_as targets n (get_or items place x)) none ∙ ap (listed_as targets place) (sym at)

  -- its rule is within the targets
  pub listed-rule : (x : Listed) → x ≡ get_or items place x → All (λ (i : Listed). i.rule < length targets) items → x.rule < length targets
  listed-rule x at rules = subst (λ (i : Listed). i.rule < length targets) (sym at) (rules place x listed-within)

  -- and with the target there it makes the delivery
  pub listed-delivery : (d : ListedDelivery) (x : Listed) (t : Target) → x ≡ get_or items place x → All (λ (i : Listed). i.rule < length targets) items → t ≡ get_or targets x.rule t
      → record { order = place; monitor = t.monitor; instance = x.instance; hit = t.hit } ≡ (get_or list place d).delivery
  listed-delivery d x t at rules there =
      ap (λ (u : Target). let made : Delivery = record { order = place; monitor = u.monitor; instance = x.instance; hit = u.hit } in made) (there ∙ get_or_default targets x.rule t no_target (listed-rule x at rules))
      ∙ ap (λ (l : ListedDelivery). l.delivery) (sym (listed-here d x at))

-- each goes last on its CPU
lanes_listed-push : (list : List ListedDelivery) (d : ListedDelivery) → lanes_listed (list ++ d ∷ []) ≡ with_listed (lanes_listed list) d
unfolding lanes_listed
lanes_listed-push list d = fold-append with_listed (replicate 64 no_lane) list (d ∷ [])

-- so one more of a rule is the rule's delivery, which goes last on the CPU
pub lanes-more : (targets : List Target) (items : List Listed) (item : Listed) (count : ℕ) (rule : OnValue) → length items ≡ count → get_or targets item.rule no_target ≡ target_of rule
    → lanes_listed (listed_from targets 0 (items ++ item ∷ []))
    ≡ set (lanes_listed (listed_from targets 0 items)) item.cpu (with_delivery (get_or (lanes_listed (listed_from targets 0 items)) item.cpu no_lane) item.line (record { order = count; monitor = rule.monitor; instance = item.instance; hit = rule.hit }))
lanes-more targets items item count rule many is =
    let lanes : List LaneValue = lanes_listed (listed_from targets 0 items) in
    let order : 0 + length items ≡ count = omega arith in
    let goes : Target → ℕ → List LaneValue = λ t n. set lanes item.cpu (with_delivery (get_or lanes item.cpu no_lane) item.line (record { order = n; monitor = t.monitor; instance = item.instance; hit = t.hit })) in
    ap lanes_listed (listed_from-push targets 0 items item) ∙ lanes_listed-push (listed_from targets 0 items) (listed_as targets (0 + length items) item)
    ∙ ap (λ (t : Target). goes t (0 + length items)) is ∙ ap (goes (target_of rule)) order

-- ---- while it grows

-- what contracts see of what has been routed
abbrev pub gathered : List Task → List Target → List LaneValue → List Listed → Bool → ℕ → Gathered
gathered tasks targets lanes items listed count = record { routes = record { tasks = tasks; lanes = if listed then lanes_listed (listed_from targets 0 items) else lanes; count = count }; targets = targets; listed = listed; list = listed_from targets 0 items }

-- nothing is routed yet
pub gathered-none : (tasks : List Task) (targets : List Target) (lanes : List LaneValue) (items : List Listed) (listed : Bool) → tasks ≡ [] → lanes ≡ replicate 64 no_lane → items ≡ [] → (gathered tasks targets lanes items listed 0).routes ≡ no_routes
unfolding no_routes lanes_listed
gathered-none tasks targets lanes items true none empty no_items = rw (none, no_items) refl
gathered-none tasks targets lanes items false none empty no_items = rw (none, empty) refl

-- where deliveries go to scripts, the lanes are these
pub lanes-scripts : (tasks : List Task) (targets : List Target) (lanes : List LaneValue) (items : List Listed) (listed : Bool) (count : ℕ) (g : Gathered) → gathered tasks targets lanes items listed count ≡ g → g.listed ≡ false → lanes ≡ g.routes.lanes
lanes-scripts tasks targets lanes items listed count g is off =
    let no : listed ≡ false = ap (λ (x : Gathered). x.listed) is ∙ off in
    sym (ap (λ (b : Bool). if b then lanes_listed (listed_from targets 0 items) else lanes) no) ∙ ap (λ (x : Gathered). x.routes.lanes) is

-- where they go to a list, the lanes are the list's
pub lanes-list : (tasks : List Task) (targets : List Target) (lanes : List LaneValue) (items : List Listed) (listed : Bool) (count : ℕ) (g : Gathered) → gathered tasks targets lanes items listed count ≡ g → g.listed ≡ true → lanes_listed (listed_from targets 0 items) ≡ g.routes.lanes
lanes-list tasks targets lanes items listed count g is on =
    let yes : listed ≡ true = ap (λ (x : Gathered). x.listed) is ∙ on in
    sym (ap (λ (b : Bool). if b then lanes_listed (listed_from targets 0 items) else lanes) yes) ∙ ap (λ (x : Gathered). x.routes.lanes) is

-- one delivery more of a rule is listed
pub list-added : (old : Gathered) (tasks : List Task) (targets : List Target) (lanes : List LaneValue) (items items' : List Listed) (listed : Bool) (count : ℕ) (line : TraceLine) (place instance : ℕ) (rule : OnValue)
    → gathered tasks targets lanes items listed count ≡ old → old.listed ≡ true → (listed ≡ true → length items ≡ count)
    → items' ≡ items ++ record { line = line.number; instance = instance; rule = place; cpu = line.cpu } ∷ [] → get_or old.targets place no_target ≡ target_of rule
    → (gathered tasks targets lanes items' listed (count + 1)).routes ≡ delivered old.routes line rule instance
list-added old tasks targets lanes items items' listed count line place instance rule old_is on many more is =
    let item : Listed = record { line = line.number; instance = instance; rule = place; cpu = line.cpu } in
    subst (λ (g : Gathered). g.listed ≡ true → get_or g.targets place no_target ≡ target_of rule → (gathered tasks targets lanes items' listed (count + 1)).routes ≡ delivered g.routes line rule instance) old_is
    (λ yes here. let so : length items ≡ count = many yes in rw yes
    (ap (λ (ls : List LaneValue). let r : Routes = record { tasks = tasks; lanes = ls; count = count + 1 } in r)
    (ap (λ (z : List Listed). lanes_listed (listed_from targets 0 z)) more ∙ lanes-more targets items item count rule so here))) on is

-- twice on one line
pub takes-join : {line : ℕ} {a b c : Gathered} → GathersLine line a b → GathersLine line b c → GathersLine line a c
takes-join {line} one two = record {
  targets = two.targets ∙ one.targets;
  listed = two.listed ∙ one.listed;
  lines = λ next le below. two.lines (line + 1) (omega arith) (one.lines next le below);
}

-- below a larger number too
pub below-wider : (next line : ℕ) (list : List ListedDelivery) → next ≤ line + 1 → AreBelow next list → AreBelow (line + 1) list
below-wider next line list le b = record { below = All-weaker (λ (d : ListedDelivery). d.line < next) (λ (d : ListedDelivery). d.line < line + 1) (λ d h. omega arith) list b.below; ascend = b.ascend; cpus = b.cpus }

-- nothing was taken
pub takes-nothing : (line : ℕ) (a : Gathered) → GathersLine line a a
takes-nothing line a = record { targets = refl; listed = refl; lines = λ next le below. below-wider next line a.list le below }

-- no delivery is of a line
pub below-none : (list : List ListedDelivery) → list ≡ [] → AreBelow 0 list
below-none list none = rw none (record { below = All-nil (λ (d : ListedDelivery). d.line < 0); ascend = λ i j d lt within. absurd (omega arith); cpus = All-nil (λ (d : ListedDelivery). d.cpu < 64) })

-- one delivery more of the line
pub below-more : (targets : List Target) (items : List Listed) (item : Listed) (next : ℕ) → item.cpu < 64 → next ≤ item.line + 1 → AreBelow next (listed_from targets 0 items) → AreBelow (item.line + 1) (listed_from targets 0 (items ++ item ∷ []))
below-more targets items item next cpu le b =
    let list : List ListedDelivery = listed_from targets 0 items in
    let d : ListedDelivery = listed_as targets (0 + length items) item in
    let few : All (λ (x : ListedDelivery). x.line ≤ item.line) list = All-weaker (λ (x : ListedDelivery). x.line < next) (λ (x : ListedDelivery). x.line ≤ item.line) (λ x h. omega arith) list b.below in
    rw (listed_from-push targets 0 items item) (record {
      below = All-push (λ (x : ListedDelivery). x.line < item.line + 1) list d (All-weaker (λ (x : ListedDelivery). x.line < next) (λ (x : ListedDelivery). x.line < item.line + 1) (λ x h. omega arith) list b.below) (omega arith);
      ascend = all_pairs_push (λ (x y : ListedDelivery). x.line ≤ y.line) list d b.ascend few;
      cpus = All-push (λ (x : ListedDelivery). x.cpu < 64) list d b.cpus cpu;
    })

-- what a rule hits stands at the rule's place
pub is-target : (rules : List OnValue) (targets : List Target) (place : ℕ) (rule : OnValue) → targets ≡ map target_of rules → place < length rules → rule ≡ get_or rules place rule → IsTarget targets place rule
is-target rules targets place rule are lt is = rw are (record {
  within = let many = length-map rules target_of in omega arith;
  is = get_or-map target_of rules place rule no_target lt ∙ ap target_of (sym is);
})

-- with it a line was taken
pub list-takes : (old new : Gathered) (targets : List Target) (items items' : List Listed) (item : Listed) → item.cpu < 64 → old.targets ≡ new.targets → old.listed ≡ new.listed → listed_from targets 0 items ≡ old.list → new.list ≡ listed_from targets 0 items'
    → items' ≡ items ++ item ∷ [] → GathersLine item.line old new
list-takes old new targets items items' item cpu same_targets same_listed old_is new_is more = record {
  targets = sym same_targets;
  listed = sym same_listed;
  lines = λ next le below. subst (AreBelow (item.line + 1)) (sym (new_is ∙ ap (listed_from targets 0) more)) (below-more targets items item next cpu le (subst (AreBelow next) (sym old_is) below));
}

-- ---- no lane has more deliveries than there are

-- a lane, or none, has few
lane_few : (n : ℕ) (lanes : List LaneValue) (i : ℕ) → All (λ (l : LaneValue). length l.deliveries ≤ n) lanes → length (get_or lanes i no_lane).deliveries ≤ n
lane_few n [] i few = omega arith
lane_few n (lane ∷ lanes) zero few = All-head (λ (l : LaneValue). length l.deliveries ≤ n) lane lanes few
lane_few n (lane ∷ lanes) (suc i) few = lane_few n lanes i (All-tail (λ (l : LaneValue). length l.deliveries ≤ n) lane lanes few)

-- each delivery goes to one
fold_few : (list : List ListedDelivery) (lanes : List LaneValue) (n : ℕ) → All (λ (l : LaneValue). length l.deliveries ≤ n) lanes → All (λ (l : LaneValue). length l.deliveries ≤ n + length list) (fold with_listed lanes list)
fold_few [] lanes n few = All-weaker (λ (l : LaneValue). length l.deliveries ≤ n) (λ (l : LaneValue). length l.deliveries ≤ n + 0) (λ l h. omega arith) lanes few
fold_few (d ∷ list) lanes n few =
    let was : LaneValue = get_or lanes d.cpu no_lane in
    let one : length (was.deliveries ++ d.delivery ∷ []) ≤ n + 1 = let h = lane_few n lanes d.cpu few in let l = length-append was.deliveries (d.delivery ∷ []) in omega arith in
    All-weaker (λ (l : LaneValue). length l.deliveries ≤ (n + 1) + length list) (λ (l : LaneValue). length l.deliveries ≤ n + length (d ∷ list)) (λ l h. omega arith)
    (fold with_listed (with_listed lanes d) list) (fold_few list (with_listed lanes d) (n + 1) (lanes_few lanes d.cpu n (with_delivery was d.line d.delivery) few one))

-- so no lane of a list is longer than the list
pub listed_few : (list : List ListedDelivery) (most : ℕ) → length list ≤ most → All (λ (l : LaneValue). length l.deliveries ≤ most) (lanes_listed list)
unfolding lanes_listed
listed_few list most short =
    All-weaker (λ (l : LaneValue). length l.deliveries ≤ 0 + length list) (λ (l : LaneValue). length l.deliveries ≤ most) (λ l h. omega arith) (fold with_listed (replicate 64 no_lane) list)
    (fold_few list (replicate 64 no_lane) 0 (All-replicate (λ (l : LaneValue). length l.deliveries ≤ 0) 64 no_lane (omega arith)))
