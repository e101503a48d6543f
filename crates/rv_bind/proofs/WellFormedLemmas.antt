-- Each line keeps bindings well formed.
use Rattle.std.proofs.Common.{◌≡◌, ℕ, zero, suc, ◌+◌, ◌<◌, ◌≤◌, Bool, true, false, List, [], ◌∷◌, ◌++◌, map, length, refl, sym, ap, ◌∙◌, subst, arith, append_assoc, length-append}
use Rattle.std.specs.Prelude.{All, IsTrue, Option, Some, None, Result, Ok, Err, ◌&&◌, slice_get, nat_lt, if◌then◌else◌}
use Rattle.std.proofs.lemmas.List.{map-append, append-nil}
use Rattle.std.proofs.lemmas.List.Elements.{All-nil, All-push, All-weaker}
use Rattle.std.specs.Option.{option_copied}
use Rattle.rv_text.specs.declared.numbers.TheConstants.{BIND_SYNTAX, NAME_TWICE, TOO_MANY_RULES}
use Rattle.rv_model.specs.declared.hit.Mode.{Mode}
use Rattle.rv_model.specs.declared.hit.What.{What}
use Rattle.rv_model.specs.declared.work.Scope.{Scope}
use Rattle.rv_model.specs.Table.{Table}
use Rattle.rv_ltl.specs.inner.Texts.{texts}
use Rattle.rv_bind.specs.declared.bindings.Monitor.{Monitor}
use Rattle.rv_bind.specs.declared.bindings.Item.{Item}
use Rattle.rv_bind.specs.declared.bindings.Item.TheVariants as items
use Rattle.rv_bind.specs.declared.bindings.Test.{Test}
use Rattle.rv_bind.specs.declared.compile.Compiled.{Compiled}
use Rattle.rv_bind.specs.declared.forms.OnForm.{OnForm}
use Rattle.rv_bind.specs.declared.limits.TheConstants.{MAX_CONTAINERS, MAX_RULES}
use Rattle.rv_bind.specs.Values.{OnValue, BoundValue}
use Rattle.rv_bind.specs.LineWords.{Words, is_name}
use Rattle.rv_bind.specs.Changes.{allows_hit, brought}
use Rattle.rv_bind.specs.Compiling.{Compiles}
use Rattle.rv_bind.specs.Bound.{nothing_bound, is_taken, monitor_named, container_bound, items_of, with_monitor}
use Rattle.rv_bind.specs.inner.FormViews.{rule_said}
use Rattle.rv_bind.specs.MonitorLines.{allows_by, with_rule, rule_at, rule_bound}
use Rattle.rv_bind.specs.WellFormed.{MonitorKind, kind_of, kinds_of, HasTable, HaveTables, FitsKind, all_names, holders_of, IsHolder, IsItem, IsWellFormed}
use Rattle.rv_bind.proofs.ChangeLemmas.{hit_fits, starts_at_first}
use Rattle.rv_bind.proofs.NameLemmas.{distinct-insert, distinct-push, free-none, named-insert, named-push}

-- bindings of nothing are well formed
pub nothing_formed : IsWellFormed nothing_bound
nothing_formed = record {
  few_containers = omega arith;
  few_monitors = omega arith;
  few_rules = omega arith;
  tables = tt;
  rules = All-nil (FitsKind []);
  holders = All-nil (IsHolder 0);
  items = All-nil (IsItem 0 0);
  distinct = tt;
  named = refl;
}

-- ---- a rule

-- what a list has at a place the mapped list has there, mapped
slice_get-map : {X Y : Type 0} (f : X → Y) (xs : List X) (i : ℕ) (x : X) → slice_get xs i ≡ Some x → slice_get (map f xs) i ≡ Some (f x)
slice_get-map f [] i x e = cc
slice_get-map f (y ∷ ys) zero x e = let same : y ≡ x = cc in ap (λ z. Some (f z)) same
slice_get-map f (y ∷ ys) (suc i) x e = slice_get-map f ys i x e

module _ (b done : BoundValue) (place : ℕ) (event : List ℕ) (by : Option (List ℕ)) (tests : List Test) (mode : Mode) (words : Words) (w : IsWellFormed b) where
  -- one more rule that its monitor allows, where there is room, keeps bindings well formed
  with_rule_formed : (m : Monitor) → slice_get b.monitors place ≡ Some m → allows_by m.scope by ≡ true → allows_hit m.scope m.spec mode words ≡ true → length b.rules < MAX_RULES
      → (what : Result What ℕ) → brought m.spec mode words ≡ what → with_rule b place event by tests mode what ≡ Ok done → IsWellFormed done
  with_rule_formed m there allowed fits room (Err number) found e = cc
  with_rule_formed m there allowed fits room (Ok what) found e =
      let rule : OnValue = record { monitor = place; event = event; by = by; tests = tests; hit = record { mode = mode; what = what } } in
      let is : record b { rules = b.rules ++ rule ∷ [] } ≡ done = cc in
      let of_kind : FitsKind (kinds_of b.monitors) rule =
      record { kind = kind_of m; there = slice_get-map kind_of b.monitors place m there; hit = hit_fits m.scope m.spec mode words what fits found; by = allowed } in
      subst IsWellFormed is (record {
        few_containers = w.few_containers;
        few_monitors = w.few_monitors;
        few_rules = rw length-append (omega arith);
        tables = w.tables;
        rules = All-push (FitsKind (kinds_of b.monitors)) b.rules rule w.rules of_kind;
        holders = w.holders;
        items = w.items;
        distinct = w.distinct;
        named = w.named;
      })

  -- the rule where there is room
  abbrev in_room : Monitor → Bool → Result BoundValue ℕ
  in_room m few = if few then with_rule b place event by tests mode (brought m.spec mode words) else Err TOO_MANY_RULES

  -- a rule of the monitor at a place keeps bindings well formed
  rule_at_formed : (m : Option Monitor) → slice_get b.monitors place ≡ m → rule_at b place m event by tests mode words ≡ Ok done → IsWellFormed done
  rule_at_formed None there e = cc
  rule_at_formed (Some m) there e = by_form (allows_by m.scope by) refl (allows_hit m.scope m.spec mode words) refl e
    where
      room : (t : Bool) → nat_lt (length b.rules) MAX_RULES ≡ t → allows_by m.scope by ≡ true → allows_hit m.scope m.spec mode words ≡ true → in_room m t ≡ Ok done → IsWellFormed done
      room true is allowed fits e = with_rule_formed m there allowed fits (let t = is in grind arith) (brought m.spec mode words) refl e
      room false is allowed fits e = cc

      by_form : (t : Bool) → allows_by m.scope by ≡ t → (u : Bool) → allows_hit m.scope m.spec mode words ≡ u → (if t && u then in_room m (nat_lt (length b.rules) MAX_RULES) else Err BIND_SYNTAX) ≡ Ok done → IsWellFormed done
      by_form true is true fits e = room (nat_lt (length b.rules) MAX_RULES) refl is fits e
      by_form true is false fits e = cc
      by_form false is true fits e = cc
      by_form false is false fits e = cc

-- a rule of the monitor that was named keeps bindings well formed
rule_bound_formed : (b done : BoundValue) (place : Option ℕ) (event : List ℕ) (by : Option (List ℕ)) (tests : List Test) (mode : Mode) (words : Words)
    → IsWellFormed b → rule_bound b place event by tests mode words ≡ Ok done → IsWellFormed done
rule_bound_formed b done None event by tests mode words w e = cc
rule_bound_formed b done (Some place) event by tests mode words w e = rule_at_formed b done place event by tests mode words w (slice_get b.monitors place) refl e

-- a line with a rule keeps bindings well formed
pub rule_formed : (b done : BoundValue) (o : OnForm) → IsWellFormed b → rule_said b o ≡ Ok done → IsWellFormed done
rule_formed b done o w e = rule_bound_formed b done (monitor_named b o.monitor.now) o.event.now (option_copied o.by) o.tests.items o.mode (texts o.words.items) w e

-- ---- a container

-- a container that there is, or none, is so among more containers
IsHolder-more : (n m : ℕ) → n ≤ m → (holder : Option ℕ) → IsHolder n holder → IsHolder m holder
IsHolder-more n m le None h = tt
IsHolder-more n m le (Some place) h = omega arith

-- an item that there is is there among more monitors and containers
IsItem-more : (n m c d : ℕ) → n ≤ m → c ≤ d → (item : Item) → IsItem n c item → IsItem m d item
IsItem-more n m c d le few (items.Monitor place) h = omega arith
IsItem-more n m c d le few (items.Container place) h = omega arith

module _ (b : BoundValue) (name : List ℕ) (w : IsWellFormed b) (named : IsTrue (is_name name)) where
  -- one more container
  abbrev contained : BoundValue
  contained = record b { containers = b.containers ++ name ∷ []; items = b.items ++ items.Container (length b.containers) ∷ [] }

  -- where there is room, one more container keeps bindings well formed
  contained_formed : length b.containers < 32 → is_taken b name ≡ false → IsWellFormed contained
  contained_formed room free =
      let more : length contained.containers ≡ length b.containers + 1 = rw length-append refl in
      let n = length b.containers in
      let old : All (IsItem (length b.monitors) (n + 1)) b.items =
      All-weaker (IsItem (length b.monitors) n) (IsItem (length b.monitors) (n + 1)) (IsItem-more (length b.monitors) (length b.monitors) n (n + 1) (omega arith) (omega arith)) b.items w.items in
      record {
        few_containers = rw more (omega arith);
        few_monitors = w.few_monitors;
        few_rules = w.few_rules;
        tables = w.tables;
        rules = w.rules;
        holders = rw more (All-weaker (IsHolder n) (IsHolder (n + 1)) (IsHolder-more n (n + 1) (omega arith)) (holders_of b.monitors) w.holders);
        items = rw more (All-push (IsItem (length b.monitors) (n + 1)) b.items (items.Container n) old (omega arith));
        distinct = rw append_assoc (distinct-insert b.containers (map (λ m. m.name) b.monitors) name w.distinct (free-none b name free));
        named = rw append_assoc (named-insert b.containers (map (λ m. m.name) b.monitors) name w.named named);
      }

  -- a line with a container keeps bindings well formed
  pub container_formed : (done : BoundValue) → container_bound b name ≡ Ok done → IsWellFormed done
  container_formed done e = go (nat_lt (length b.containers) MAX_CONTAINERS) refl (is_taken b name) refl e
    where
      go : (t : Bool) → nat_lt (length b.containers) MAX_CONTAINERS ≡ t → (u : Bool) → is_taken b name ≡ u → (if t then (if u then Err NAME_TWICE else Ok contained) else Err BIND_SYNTAX) ≡ Ok done → IsWellFormed done
      go true is false free e = let is_done : contained ≡ done = cc in subst IsWellFormed is_done (contained_formed (let t = is in grind arith) free)
      go true is true taken e = cc
      go false is true taken e = cc
      go false is false free e = cc

-- ---- a monitor

-- with one more kind and its table, all kinds have their tables
HaveTables-push : (kinds : List MonitorKind) (tables : List Table) (kind : MonitorKind) (t : Table) → HaveTables kinds tables → HasTable kind t → HaveTables (kinds ++ kind ∷ []) (tables ++ t ∷ [])
HaveTables-push [] [] kind t h has = (has, tt)
HaveTables-push [] (u ∷ tables) kind t h has = absurd h
HaveTables-push (k ∷ kinds) [] kind t h has = absurd h
HaveTables-push (k ∷ kinds) (u ∷ tables) kind t h has = (h.0, HaveTables-push kinds tables kind t h.1 has)

-- what a list has at a place it has there when more follows
slice_get-front : {X : Type 0} (xs ys : List X) (i : ℕ) (x : X) → slice_get xs i ≡ Some x → slice_get (xs ++ ys) i ≡ Some x
slice_get-front [] ys i x e = cc
slice_get-front (z ∷ zs) ys zero x e = e
slice_get-front (z ∷ zs) ys (suc i) x e = slice_get-front zs ys i x e

-- a rule that fits some kinds fits them when more follow
FitsKind-more : (kinds more : List MonitorKind) (r : OnValue) → FitsKind kinds r → FitsKind (kinds ++ more) r
FitsKind-more kinds more r f = record { kind = f.kind; there = slice_get-front kinds more r.monitor f.kind f.there; hit = f.hit; by = f.by }

-- a monitor outside containers is one more item
items-more : (monitors containers : ℕ) (old : List Item) (container : Option ℕ) → All (IsItem monitors containers) old → All (IsItem (monitors + 1) containers) (old ++ items_of container monitors)
items-more monitors containers old container all = go container
  where
    kept : All (IsItem (monitors + 1) containers) old
    kept = All-weaker (IsItem monitors containers) (IsItem (monitors + 1) containers) (IsItem-more monitors (monitors + 1) containers containers (omega arith) (omega arith)) old all

    go : (container : Option ℕ) → All (IsItem (monitors + 1) containers) (old ++ items_of container monitors)
    go None = All-push (IsItem (monitors + 1) containers) old (items.Monitor monitors) kept (omega arith)
    go (Some place) = subst (All (IsItem (monitors + 1) containers)) (sym (append-nil old)) kept

-- one more monitor with its table, where there is room, keeps bindings well formed
pub monitor_formed : (b : BoundValue) (name : List ℕ) (container : Option ℕ) (scope : Scope) (file : List ℕ) (compiled : Compiled)
    → IsWellFormed b → length b.monitors < 32 → IsTrue (is_name name) → is_taken b name ≡ false → IsHolder (length b.containers) container → Compiles compiled.spec compiled.table
    → IsWellFormed (with_monitor b name container scope file compiled)
monitor_formed b name container scope file compiled w room named free holder compiles =
    let done : BoundValue = with_monitor b name container scope file compiled in
    let kind : MonitorKind = record { scope = scope; spec = compiled.spec; starting = 0 } in
    let more : length done.monitors ≡ length b.monitors + 1 = rw length-append refl in
    let same : kinds_of done.monitors ≡ kinds_of b.monitors ++ kind ∷ [] = map-append kind_of b.monitors _ in
    let names : all_names done ≡ all_names b ++ name ∷ [] = ap (λ ns. b.containers ++ ns) (map-append (λ m. m.name) b.monitors _) ∙ sym (append_assoc b.containers (map (λ m. m.name) b.monitors) (name ∷ [])) in
    let held : holders_of done.monitors ≡ holders_of b.monitors ++ container ∷ [] = map-append (λ m. m.container) b.monitors _ in
    record {
      few_containers = w.few_containers;
      few_monitors = rw more (omega arith);
      few_rules = w.few_rules;
      tables = rw same (HaveTables-push (kinds_of b.monitors) b.tables kind compiled.table w.tables (record { compiles = compiles; starting = starts_at_first compiled.spec }));
      rules = rw same (All-weaker (FitsKind (kinds_of b.monitors)) (FitsKind (kinds_of b.monitors ++ kind ∷ [])) (FitsKind-more (kinds_of b.monitors) (kind ∷ [])) b.rules w.rules);
      holders = rw held (All-push (IsHolder (length b.containers)) (holders_of b.monitors) container w.holders holder);
      items = rw more (items-more (length b.monitors) (length b.containers) b.items container w.items);
      distinct = rw names (distinct-push (all_names b) name w.distinct (free-none b name free));
      named = rw names (named-push (all_names b) name w.named named);
    }
