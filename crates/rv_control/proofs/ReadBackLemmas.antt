-- What is written is what the file shows.
use Rattle.std.proofs.Common.{◌≡◌, ◌≢◌, ℕ, zero, suc, ◌^◌, ◌<◌, ◌≤◌, ◌==◌, Bool, true, false, not, ◌&&◌, List, [], ◌∷◌, ◌++◌, length, refl, sym, ap, ◌∙◌, subst, arith}
use Rattle.std.specs.Prelude.{Some, None, Ok, nat_lt, bytes_eq, codes, option_map, option_and_then, slice_get, slice_set, if◌then◌else◌}
use Rattle.std.proofs.lemmas.Bool.{lt-ltb}
use Rattle.std.proofs.lemmas.Option.{same_Some}
use Rattle.std.proofs.lemmas.Slice.Eq.{bytes_eq-Decides}
use Rattle.rv_model.specs.declared.reactor.Reactor.{Reactor}
use Rattle.rv_model.specs.declared.work.Change.{Change}
use Rattle.rv_model.specs.Numbers.{has_bit}
use Rattle.rv_model.specs.Reactors.{reactor_name, reactor_named}
use Rattle.rv_model.specs.Reports.{line_end}
use Rattle.rv_model.proofs.ReactorLemmas.{named_each}
use Rattle.rv_bind.specs.declared.bindings.Item.{Item}
use Rattle.rv_control.specs.declared.sets.Those.TheVariants as those
use Rattle.rv_control.specs.declared.paths.Path.{Path}
use Rattle.rv_control.specs.declared.paths.Path.TheVariants.{AvailableMonitors, AvailableReactors, EnabledMonitors, MonitoringOn, ReactingOn, Desc, Enable, Reactors}
use Rattle.rv_control.specs.declared.orders.Order.{Order}
use Rattle.rv_control.specs.declared.orders.Order.TheVariants as orders
use Rattle.rv_control.specs.Trees.{ControlValue, belongs_to}
use Rattle.rv_control.specs.Sets.{chosen_set, is_chosen, is_enabled}
use Rattle.rv_control.specs.Paths.{path_of}
use Rattle.rv_control.specs.FileTexts.{file_text, flag_text, reactors_text, text_of}
use Rattle.rv_control.specs.Effects.{no_change, switching, enabling, disabling, turning, replacing, ordering, order_of, flag_of, without_end, with_change, with_reactor, with_switches, written}
use Rattle.rv_control.specs.Writes.{AreFiles, ShowsFlag, Writes}
use Rattle.rv_model.proofs.NumberLemmas.{number_of-same}
use Rattle.rv_control.proofs.AgainLemmas.{alone-exact, belongs-kept, chained, disabling-quiet, enabling-quiet, made, path-behind, writes-found}
use Rattle.rv_control.proofs.BitLemmas.{bit-after, bit-none, bit-other, bit-power, bit-set, on_after}

-- ---- flags

-- the texts of flags
flag_is : (text : List ℕ) (on : Bool) → flag_of text ≡ Some on → text ≡ (if on then codes "1" else codes "0")
flag_is text on e = off (bytes_eq text (codes "0")) refl e
  where
    yes : (b : Bool) → bytes_eq text (codes "1") ≡ b → (if b then Some true else None) ≡ Some on → text ≡ (if on then codes "1" else codes "0")
    yes true is e = subst (λ (b : Bool). text ≡ (if b then codes "1" else codes "0")) (same_Some true on e) ((bytes_eq-Decides text (codes "1")).0 is)
    yes false is e = absurd cc

    off : (b : Bool) → bytes_eq text (codes "0") ≡ b → (if b then Some false else (if bytes_eq text (codes "1") then Some true else None)) ≡ Some on → text ≡ (if on then codes "1" else codes "0")
    off true is e = subst (λ (b : Bool). text ≡ (if b then codes "1" else codes "0")) (same_Some false on e) ((bytes_eq-Decides text (codes "0")).0 is)
    off false is e = yes (bytes_eq text (codes "1")) refl e

module _ (tree : ControlValue) (files : AreFiles tree) where
  -- a switch is what it was set to
  switched : (bit : ℕ) → bit < 64 → 2 ^ bit < 2 ^ 64 → (on : Bool) → has_bit (with_switches tree (switching tree bit on)).switches bit ≡ on
  switched bit inside fits on = go on (has_bit tree.switches bit) refl
    where
      now : (change : Change) → change.lower < 2 ^ 64 → has_bit (with_switches tree change).switches bit ≡ on_after tree.switches change.lower change.raise bit
      now change small = bit-after tree.switches change.lower change.raise bit small inside

      go : (on was : Bool) → has_bit tree.switches bit ≡ was → has_bit (with_switches tree (switching tree bit on)).switches bit ≡ on
      go true true is = rw is (now no_change (omega arith) ∙ rw (bit-none bit, is) refl)
      go true false is = rw is (now (record no_change { raise = 2 ^ bit }) (omega arith) ∙ rw (bit-power bit) refl)
      go false true is = rw is (now (record no_change { lower = 2 ^ bit }) fits ∙ rw (bit-none bit, is, bit-power bit) refl)
      go false false is = rw is (now no_change (omega arith) ∙ rw (bit-none bit, is) refl)

  module _ (item : Item) where
    -- all of an item's monitors are the same behind a change
    all-kept : (on : Bool) → chosen_set (with_switches tree (turning tree item on)) (Some item) those.All ≡ chosen_set tree (Some item) those.All
    all-kept on = number_of-same (is_chosen (with_switches tree (turning tree item on)) (Some item) those.All) (is_chosen tree (Some item) those.All) (length tree.monitors)
        (λ b inside. ap (λ (t : Bool). t && true) (belongs-kept tree (with_switches tree (turning tree item on)).switches tree.reactors item b))

    -- some number is not 0
    not_zero : (n : ℕ) → n ≢ 0 → (n == 0) ≡ false
    not_zero n some = grind arith

    module _ (some : chosen_set tree (Some item) those.All ≢ 0) where
      -- where no monitor of the item is disabled it is enabled
      enabled-on : is_enabled (with_switches tree (enabling tree item)) item ≡ true
      enabled-on =
          let none : chosen_set (with_switches tree (enabling tree item)) (Some item) those.Disabled ≡ 0 = ap (λ (c : Change). c.clear) (enabling-quiet tree files item) in
          ap (λ (n : ℕ). not (n == 0) && (chosen_set (with_switches tree (enabling tree item)) (Some item) those.Disabled == 0)) (all-kept true)
          ∙ ap (λ (n : ℕ). not (chosen_set tree (Some item) those.All == 0) && (n == 0)) none
          ∙ ap (λ (t : Bool). not t && true) (not_zero (chosen_set tree (Some item) those.All) some)

      -- the files behind disabling the item
      abbrev behind : ControlValue
      behind = with_switches tree (disabling tree item)

      -- where none is enabled it is not
      enabled-off : is_enabled (with_switches tree (disabling tree item)) item ≡ false
      enabled-off =
          ap (λ (n : ℕ). not (chosen_set behind (Some item) those.All == 0) && (n == 0)) (number_of-same (is_chosen behind (Some item) those.Disabled) (is_chosen behind (Some item) those.All) (length tree.monitors) same ∙ all-kept false)
          ∙ ap (λ (t : Bool). not (chosen_set behind (Some item) those.All == 0) && t) (not_zero (chosen_set tree (Some item) those.All) some)
          ∙ neither (not (chosen_set behind (Some item) those.All == 0))
        where
          neither : (t : Bool) → t && false ≡ false
          neither true = refl
          neither false = refl

          off : (b s : Bool) → b && s ≡ false → b && not s ≡ b && true
          off true true none = absurd cc
          off true false none = refl
          off false s none = refl

          same : (b : ℕ) → b < length tree.monitors → is_chosen behind (Some item) those.Disabled b ≡ is_chosen behind (Some item) those.All b
          same b inside =
              let empty : chosen_set behind (Some item) those.Enabled ≡ 0 = ap (λ (c : Change). c.lower) (disabling-quiet tree files item) in
              let within : nat_lt b (length tree.monitors) ≡ true = lt-ltb b (length tree.monitors) inside in
              let none : true && is_chosen behind (Some item) those.Enabled b ≡ false = ap (λ (t : Bool). t && is_chosen behind (Some item) those.Enabled b) (sym within) ∙ sym (bit-set behind (Some item) those.Enabled b) ∙ ap (λ (n : ℕ). has_bit n b) empty ∙ bit-none b in
              off (belongs_to behind item b) (has_bit behind.switches b) none

      -- so it is what was written
      turned : (on : Bool) → is_enabled (with_switches tree (turning tree item on)) item ≡ on
      turned true = enabled-on
      turned false = enabled-off

-- ---- texts

-- the text of a file behind a write
shown : (tree after : ControlValue) (path text : List ℕ) (file : Path) → path_of after path ≡ Some file → text_of after file ≡ text → file_text after path ≡ Ok text
shown tree after path text file leads is = rw leads (ap (λ (t : List ℕ). Ok t) is)

module _ (tree : ControlValue) (files : AreFiles tree) (path text : List ℕ) (append : Bool) (after : ControlValue) (change : Change) (writes : Writes tree path text append after change) where
  -- a flag behind a write
  flag-shown : (f : ControlValue → Bool → Change) (state : ControlValue → Bool) → ((on : Bool) → state (with_switches tree (f tree on)) ≡ on)
      → option_map (with_change tree) (option_map (f tree) (flag_of (without_end text))) ≡ Some (after, change) → flag_text (state after) ≡ without_end text ++ line_end
  flag-shown f state turns e =
      let first = made (with_change tree) (option_map (f tree) (flag_of (without_end text))) (after, change) e in
      let flag = made (f tree) (flag_of (without_end text)) first.0 first.1 in
      let is : with_switches tree (f tree flag.0) ≡ after = ap (λ (c : Change). with_switches tree c) flag.2 ∙ ap (λ (d : ControlValue × Change). d.0) first.2 in
      let on : state after ≡ flag.0 = ap state (sym is) ∙ turns flag.0 in
      ap flag_text on ∙ ap (λ (t : List ℕ). t ++ line_end) (sym (flag_is (without_end text) flag.0 flag.1))

  -- what a file that shows a flag says
  flag-said : (file : Path) → ShowsFlag tree file → written tree file (without_end text) append ≡ Some (after, change) → text_of after file ≡ without_end text ++ line_end
  flag-said MonitoringOn shows e = flag-shown (λ t. switching t 32) (λ t. has_bit t.switches 32) (switched tree files 32 (omega arith) (omega arith)) e
  flag-said ReactingOn shows e = flag-shown (λ t. switching t 33) (λ t. has_bit t.switches 33) (switched tree files 33 (omega arith) (omega arith)) e
  flag-said (Enable item) shows e = flag-shown (λ t. turning t item) (λ t. is_enabled t item) (turned tree files item shows) e
  flag-said EnabledMonitors shows e = absurd shows
  flag-said AvailableMonitors shows e = absurd shows
  flag-said AvailableReactors shows e = absurd shows
  flag-said (Desc item) shows e = absurd shows
  flag-said (Reactors place) shows e = absurd shows

  -- a flag is read back
  pub flag-back : (file : Path) → path_of tree path ≡ Some file → ShowsFlag tree file → file_text after path ≡ Ok (without_end text ++ line_end)
  flag-back file leads shows =
      let found = writes-found tree path text append after change writes in
      let same : found.0 ≡ file = same_Some found.0 file (sym found.1 ∙ leads) in
      let done : written tree file (without_end text) append ≡ Some (after, change) = subst (λ (f : Path). written tree f (without_end text) append ≡ Some (after, change)) same found.2 in
      shown tree after path (without_end text ++ line_end) file (path-behind tree file path (without_end text) append after change done ∙ leads) (flag-said file shows done)

  -- what was set is there
  set_there : {X : Type 0} (xs : List X) (place : ℕ) (x : X) → place < length xs → slice_get (slice_set xs place x) place ≡ Some x
  set_there [] place x inside = absurd (omega arith)
  set_there (y ∷ xs) zero x inside = refl
  set_there (y ∷ xs) (suc place) x inside = set_there xs place x (omega arith)

  -- a reactor is read back
  pub reactor-back : (place : ℕ) → path_of tree path ≡ Some (Reactors place) → place < length tree.monitors → (chosen : Reactor) × (without_end text ≡ reactor_name chosen) × (file_text after path ≡ Ok (reactors_text (Some chosen)))
  reactor-back place leads inside =
      let found = writes-found tree path text append after change writes in
      let same : found.0 ≡ Reactors place = same_Some found.0 (Reactors place) (sym found.1 ∙ leads) in
      let done : written tree (Reactors place) (without_end text) append ≡ Some (after, change) = subst (λ (f : Path). written tree f (without_end text) append ≡ Some (after, change)) same found.2 in
      let first = made (with_reactor tree place) (reactor_named (without_end text)) (after, change) done in
      let is : record tree { reactors = slice_set tree.reactors place first.0 } ≡ after = ap (λ (d : ControlValue × Change). d.0) first.2 in
      let reactors : slice_get after.reactors place ≡ Some first.0 = ap (λ (t : ControlValue). slice_get t.reactors place) (sym is) ∙ set_there tree.reactors place first.0 (let long = files.control.reactors in omega arith) in
      (first.0, (named_each (without_end text) first.0).0 first.1, shown tree after path (reactors_text (Some first.0)) (Reactors place) (path-behind tree (Reactors place) path (without_end text) append after change done ∙ leads) (ap reactors_text reactors))

  -- ---- the enabled monitors

  -- what a write to them that replaces makes
  replaced : (order : Order) → path_of tree path ≡ Some EnabledMonitors → append ≡ false → order_of tree (without_end text) ≡ Some order → with_switches tree (replacing tree order) ≡ after
  replaced order leads not spelled =
      let found = writes-found tree path text append after change writes in
      let same : found.0 ≡ EnabledMonitors = same_Some found.0 EnabledMonitors (sym found.1 ∙ leads) in
      let done : written tree EnabledMonitors (without_end text) false ≡ Some (after, change) = subst (λ (a : Bool). written tree EnabledMonitors (without_end text) a ≡ Some (after, change)) not (subst (λ (f : Path). written tree f (without_end text) append ≡ Some (after, change)) same found.2) in
      let first = made (with_change tree) (option_and_then (ordering tree false) (order_of tree (without_end text))) (after, change) done in
      let it : Some (replacing tree order) ≡ Some first.0 = sym (ap (option_and_then (ordering tree false)) spelled) ∙ first.1 in
      ap (λ (c : Change). with_switches tree c) (same_Some (replacing tree order) first.0 it) ∙ ap (λ (d : ControlValue × Change). d.0) first.2

  -- a name alone is enabled
  pub exactly-named : (item : Item) → path_of tree path ≡ Some EnabledMonitors → append ≡ false → order_of tree (without_end text) ≡ Some (orders.Enable item) → (b : ℕ) → b < length tree.monitors → has_bit after.switches b ≡ belongs_to tree item b
  exactly-named item leads not spelled b inside = ap (λ (t : ControlValue). has_bit t.switches b) (sym (replaced (orders.Enable item) leads not spelled)) ∙ alone-exact tree files item b inside

-- ---- what is cleared

-- what is cleared goes on, and no other monitor does
abbrev ClearsRaised : Change → Type 0
ClearsRaised change = (b : ℕ) → b < 32 → has_bit change.clear b ≡ has_bit change.raise b

module _ (tree : ControlValue) where
  -- a switch is no monitor's
  switching-clears : (bit : ℕ) → 32 ≤ bit → (on : Bool) → ClearsRaised (switching tree bit on)
  switching-clears bit high true b low = go (has_bit tree.switches bit)
    where
      go : (t : Bool) → has_bit (if t then no_change else record no_change { raise = 2 ^ bit }).clear b ≡ has_bit (if t then no_change else record no_change { raise = 2 ^ bit }).raise b
      go true = refl
      go false = bit-none b ∙ sym (bit-other bit b (λ same. omega arith))
  switching-clears bit high false b low = go (has_bit tree.switches bit)
    where
      go : (t : Bool) → has_bit (if t then record no_change { lower = 2 ^ bit } else no_change).clear b ≡ has_bit (if t then record no_change { lower = 2 ^ bit } else no_change).raise b
      go true = refl
      go false = refl

  -- an item's are
  turning-clears : (item : Item) (on : Bool) → ClearsRaised (turning tree item on)
  turning-clears item true b low = refl
  turning-clears item false b low = refl

  -- so are those of an order
  ordering-clears : (append : Bool) (order : Order) (change : Change) → ordering tree append order ≡ Some change → ClearsRaised change
  ordering-clears true orders.Nothing change e = absurd cc
  ordering-clears true (orders.Enable item) change e = subst ClearsRaised (same_Some _ change e) (turning-clears item true)
  ordering-clears true (orders.Disable item) change e = subst ClearsRaised (same_Some _ change e) (turning-clears item false)
  ordering-clears false orders.Nothing change e = subst ClearsRaised (same_Some _ change e) (λ b low. refl)
  ordering-clears false (orders.Enable item) change e = subst ClearsRaised (same_Some _ change e) (λ b low. refl)
  ordering-clears false (orders.Disable item) change e = subst ClearsRaised (same_Some _ change e) (λ b low. refl)

  -- flags
  flag-clears : (f : Bool → Change) → ((on : Bool) → ClearsRaised (f on)) → (text : List ℕ) (after : ControlValue) (change : Change) → option_map (with_change tree) (option_map f (flag_of text)) ≡ Some (after, change) → ClearsRaised change
  flag-clears f each text after change e =
      let first = made (with_change tree) (option_map f (flag_of text)) (after, change) e in
      let flag = made f (flag_of text) first.0 first.1 in
      subst ClearsRaised (flag.2 ∙ ap (λ (d : ControlValue × Change). d.1) first.2) (each flag.0)

  -- any file
  written-clears : (file : Path) (text : List ℕ) (append : Bool) (after : ControlValue) (change : Change) → written tree file text append ≡ Some (after, change) → ClearsRaised change
  written-clears MonitoringOn text append after change e = flag-clears (switching tree 32) (switching-clears 32 (omega arith)) text after change e
  written-clears ReactingOn text append after change e = flag-clears (switching tree 33) (switching-clears 33 (omega arith)) text after change e
  written-clears (Enable item) text append after change e = flag-clears (turning tree item) (turning-clears item) text after change e
  written-clears EnabledMonitors text append after change e =
      let first = made (with_change tree) (option_and_then (ordering tree append) (order_of tree text)) (after, change) e in
      let order = chained (ordering tree append) (order_of tree text) first.0 first.1 in
      subst ClearsRaised (ap (λ (d : ControlValue × Change). d.1) first.2) (ordering-clears append order.0 first.0 order.2)
  written-clears (Reactors place) text append after change e =
      let first = made (with_reactor tree place) (reactor_named text) (after, change) e in
      subst ClearsRaised (ap (λ (d : ControlValue × Change). d.1) first.2) (λ b low. refl)
  written-clears AvailableMonitors text append after change e = absurd cc
  written-clears AvailableReactors text append after change e = absurd cc
  written-clears (Desc item) text append after change e = absurd cc

  -- any write
  pub writes-clear : (path text : List ℕ) (append : Bool) (after : ControlValue) (change : Change) → Writes tree path text append after change → (b : ℕ) → b < 32 → has_bit change.clear b ≡ has_bit change.raise b
  writes-clear path text append after change writes = let found = writes-found tree path text append after change writes in written-clears found.0 (without_end text) append after change found.2
