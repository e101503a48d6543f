-- A second equal write leaves the files as they are.
use Rattle.std.proofs.Common.{◌≡◌, ◌≢◌, ℕ, zero, suc, ◌^◌, ◌<◌, Bool, true, false, not, ◌&&◌, ◌||◌, ◌⊎◌, inl, inr, List, [], ◌∷◌, length, refl, sym, ap, ◌∙◌, subst, arith}
use Rattle.std.specs.Prelude.{Option, Some, None, Ok, nat_lt, option_map, option_and_then, slice_set}
use Rattle.std.specs.Bool.{if◌then◌else◌}
use Rattle.std.specs.Option.{ok_or}
use Rattle.std.proofs.lemmas.Bool.{lt-ltb}
use Rattle.std.proofs.lemmas.Option.{same_Some}
use Rattle.rv_text.specs.Pieces.{pieces_by}
use Rattle.rv_text.specs.Readings.{and_then}
use Rattle.rv_text.specs.declared.numbers.TheConstants.{NO_SUCH_FILE, INVALID}
use Rattle.rv_text.specs.declared.refusals.Refusal.{Refusal}
use Rattle.rv_model.specs.declared.reactor.Reactor.{Reactor}
use Rattle.rv_model.specs.declared.work.Change.{Change}
use Rattle.rv_model.specs.Numbers.{has_bit}
use Rattle.rv_model.specs.Reactors.{reactor_named}
use Rattle.rv_bind.specs.declared.bindings.Item.{Item}
use Rattle.rv_bind.specs.declared.bindings.Item.TheVariants as items
use Rattle.rv_control.specs.declared.sets.Those.{Those}
use Rattle.rv_control.specs.declared.sets.Those.TheVariants as those
use Rattle.rv_control.specs.declared.paths.Path.{Path}
use Rattle.rv_control.specs.declared.paths.Path.TheVariants.{AvailableMonitors, AvailableReactors, EnabledMonitors, MonitoringOn, ReactingOn, Desc, Enable, Reactors}
use Rattle.rv_control.specs.declared.orders.Order.{Order}
use Rattle.rv_control.specs.declared.orders.Order.TheVariants as orders
use Rattle.rv_control.specs.Trees.{ControlValue, belongs_to}
use Rattle.rv_control.specs.Sets.{chosen_set, is_chosen}
use Rattle.rv_control.specs.Paths.{file_by, path_of}
use Rattle.rv_control.specs.Effects.{no_change, switching, enabling, disabling, turning, disabling_all, enabling_alone, ordering, order_of, flag_of, without_end, with_change, with_reactor, with_switches, change_of, written}
use Rattle.rv_control.specs.Writes.{AreFiles, Writes}
use Rattle.rv_control.proofs.BitLemmas.{on_after, bit-after, bit-none, bit-power, bit-set, set-empty, set-small, stays, after-small}

-- ---- what a write does not touch

module _ (tree : ControlValue) (switches : ℕ) (reactors : List Reactor) where
  -- the files with other switches and reactors
  abbrev pub other : ControlValue
  other = record tree { switches = switches; reactors = reactors }

  -- a path leads to the same file
  pub path-kept : (path : List ℕ) → path_of other path ≡ path_of tree path
  path-kept path = go (pieces_by 47 path)
    where
      go : (pieces : List (List ℕ)) → file_by other pieces ≡ file_by tree pieces
      go [] = refl
      go (name ∷ []) = refl
      go (top ∷ name ∷ []) = refl
      go (top ∷ item ∷ name ∷ []) = refl
      go (top ∷ container ∷ monitor ∷ name ∷ []) = refl
      go (top ∷ container ∷ monitor ∷ name ∷ more ∷ pieces) = refl

  -- a text spells the same order
  pub order-kept : (text : List ℕ) → order_of other text ≡ order_of tree text
  order-kept [] = refl
  order-kept (byte ∷ bytes) = refl

  -- a monitor belongs to the same items
  pub belongs-kept : (item : Item) (place : ℕ) → belongs_to other item place ≡ belongs_to tree item place
  belongs-kept (items.Container container) place = refl
  belongs-kept (items.Monitor monitor) place = refl

-- ---- bits behind a change and behind the same change again

-- where all that is not on goes on, nothing more is to go on
raised_twice : (n b s : Bool) → (n && (b && not ((n && (b && not s)) || (s && not false)))) ≡ false
raised_twice true true true = refl
raised_twice true true false = refl
raised_twice true false true = refl
raised_twice true false false = refl
raised_twice false b s = refl

-- where all that is on goes off, nothing more is to go off
lowered_twice : (n b s : Bool) → n && (b && (false || (s && not (n && (b && s))))) ≡ false
lowered_twice true true true = refl
lowered_twice true true false = refl
lowered_twice true false true = refl
lowered_twice true false false = refl
lowered_twice false b s = refl

-- where all others go off and some go on, the same again changes nothing
alone_twice : (n b s : Bool) → (let t = (n && (b && true)) || (s && not (n && (true && s))) in (n && (b && true)) || (t && not (n && (true && t)))) ≡ ((n && (b && true)) || (s && not (n && (true && s))))
alone_twice true true true = refl
alone_twice true true false = refl
alone_twice true false true = refl
alone_twice true false false = refl
alone_twice false b true = refl
alone_twice false b false = refl

module _ (tree : ControlValue) (files : AreFiles tree) where
  -- a change of no switch leaves the files
  pub nothing-stays : with_switches tree no_change ≡ tree
  nothing-stays = stays tree no_change files.switches (omega arith) (omega arith) (λ b inside. rw (bit-none b) (same (has_bit tree.switches b)))
    where
      same : (s : Bool) → false || (s && not false) ≡ s
      same true = refl
      same false = refl

  -- a set of monitors is a word
  pub few : (item : Option Item) (which : Those) → chosen_set tree item which < 2 ^ 64
  few item which = let small = set-small tree item which files.control.few_monitors in omega arith

-- the files behind a change are files
changed-files : (tree : ControlValue) → AreFiles tree → (change : Change) → change.lower < 2 ^ 64 → change.raise < 2 ^ 64 → AreFiles (with_switches tree change)
changed-files tree files change low up = record {
  control = record { reactors = files.control.reactors; few_monitors = files.control.few_monitors; few_containers = files.control.few_containers };
  switches = after-small tree.switches change.lower change.raise files.switches low up;
}

-- ---- the changes, again

-- the same write again is a change of nothing
abbrev pub Quiet : (ControlValue → Change) → ControlValue → Type 0
Quiet change tree = change (with_switches tree (change tree)) ≡ no_change

module _ (tree : ControlValue) (files : AreFiles tree) where
  -- a switch
  switching-quiet : (bit : ℕ) → bit < 64 → 2 ^ bit < 2 ^ 64 → (on : Bool) → Quiet (λ t. switching t bit on) tree
  switching-quiet bit inside fits on = go on (has_bit tree.switches bit) refl
    where
      now : (change : Change) → change.lower < 2 ^ 64 → has_bit (with_switches tree change).switches bit ≡ on_after tree.switches change.lower change.raise bit
      now change fits = bit-after tree.switches change.lower change.raise bit fits inside

      go : (on was : Bool) → has_bit tree.switches bit ≡ was → Quiet (λ t. switching t bit on) tree
      go true true is =
          let t : has_bit (with_switches tree no_change).switches bit ≡ true = now no_change (omega arith) ∙ rw (bit-none bit, is) refl in
          rw (is, t) refl
      go true false is =
          let change : Change = record no_change { raise = 2 ^ bit } in
          let t : has_bit (with_switches tree change).switches bit ≡ true = now change (omega arith) ∙ rw (bit-power bit) refl in
          rw (is, t) refl
      go false true is =
          let change : Change = record no_change { lower = 2 ^ bit } in
          let t : has_bit (with_switches tree change).switches bit ≡ false = now change fits ∙ rw (bit-none bit, is, bit-power bit) refl in
          rw (is, t) refl
      go false false is =
          let t : has_bit (with_switches tree no_change).switches bit ≡ false = now no_change (omega arith) ∙ rw (bit-none bit, is) refl in
          rw (is, t) refl

  -- whether a monitor is on behind a change
  on-behind : (change : Change) → change.lower < 2 ^ 64 → (b : ℕ) → b < length tree.monitors → has_bit (with_switches tree change).switches b ≡ on_after tree.switches change.lower change.raise b
  on-behind change fits b inside = bit-after tree.switches change.lower change.raise b fits (let few = files.control.few_monitors in omega arith)

  -- enabling
  pub enabling-quiet : (item : Item) → Quiet (λ t. enabling t item) tree
  enabling-quiet item = ap (λ (n : ℕ). record { lower = 0; clear = n; raise = n }) (set-empty (with_switches tree (enabling tree item)) (Some item) those.Disabled none)
    where
      none : (b : ℕ) → b < length tree.monitors → is_chosen (with_switches tree (enabling tree item)) (Some item) those.Disabled b ≡ false
      none b inside =
          let within : nat_lt b (length tree.monitors) ≡ true = lt-ltb b (length tree.monitors) inside in
          let fresh : has_bit (chosen_set tree (Some item) those.Disabled) b ≡ belongs_to tree item b && not (has_bit tree.switches b) = bit-set tree (Some item) those.Disabled b ∙ rw within refl in
          let now : has_bit (with_switches tree (enabling tree item)).switches b ≡ (belongs_to tree item b && not (has_bit tree.switches b)) || (has_bit tree.switches b && not false) = on-behind (enabling tree item) (omega arith) b inside ∙ rw (fresh, bit-none b) refl in
          ap (λ (t : Bool). t && not (has_bit (with_switches tree (enabling tree item)).switches b)) (belongs-kept tree (with_switches tree (enabling tree item)).switches tree.reactors item b)
          ∙ ap (λ (t : Bool). belongs_to tree item b && not t) now
          ∙ raised_twice true (belongs_to tree item b) (has_bit tree.switches b)

  -- disabling
  pub disabling-quiet : (item : Item) → Quiet (λ t. disabling t item) tree
  disabling-quiet item = ap (λ (n : ℕ). record no_change { lower = n }) (set-empty (with_switches tree (disabling tree item)) (Some item) those.Enabled none)
    where
      none : (b : ℕ) → b < length tree.monitors → is_chosen (with_switches tree (disabling tree item)) (Some item) those.Enabled b ≡ false
      none b inside =
          let within : nat_lt b (length tree.monitors) ≡ true = lt-ltb b (length tree.monitors) inside in
          let gone : has_bit (chosen_set tree (Some item) those.Enabled) b ≡ belongs_to tree item b && has_bit tree.switches b = bit-set tree (Some item) those.Enabled b ∙ rw within refl in
          let now : has_bit (with_switches tree (disabling tree item)).switches b ≡ false || (has_bit tree.switches b && not (belongs_to tree item b && has_bit tree.switches b)) = on-behind (disabling tree item) (few tree files (Some item) those.Enabled) b inside ∙ rw (gone, bit-none b) refl in
          ap (λ (t : Bool). t && has_bit (with_switches tree (disabling tree item)).switches b) (belongs-kept tree (with_switches tree (disabling tree item)).switches tree.reactors item b)
          ∙ ap (λ (t : Bool). belongs_to tree item b && t) now
          ∙ lowered_twice true (belongs_to tree item b) (has_bit tree.switches b)

  -- either
  turning-quiet : (item : Item) (on : Bool) → Quiet (λ t. turning t item on) tree
  turning-quiet item true = enabling-quiet item
  turning-quiet item false = disabling-quiet item

  -- disabling all
  pub all-quiet : Quiet disabling_all tree
  all-quiet = ap (λ (n : ℕ). record no_change { lower = n }) (set-empty (with_switches tree (disabling_all tree)) None those.Enabled none)
    where
      none : (b : ℕ) → b < length tree.monitors → is_chosen (with_switches tree (disabling_all tree)) None those.Enabled b ≡ false
      none b inside =
          let within : nat_lt b (length tree.monitors) ≡ true = lt-ltb b (length tree.monitors) inside in
          let gone : has_bit (chosen_set tree None those.Enabled) b ≡ true && has_bit tree.switches b = bit-set tree None those.Enabled b ∙ rw within refl in
          let now : has_bit (with_switches tree (disabling_all tree)).switches b ≡ false || (has_bit tree.switches b && not (true && has_bit tree.switches b)) = on-behind (disabling_all tree) (few tree files None those.Enabled) b inside ∙ rw (gone, bit-none b) refl in
          ap (λ (t : Bool). true && t) now ∙ lowered_twice true true (has_bit tree.switches b)

  module _ (item : Item) where
    -- the files behind enabling alone
    abbrev pub alone : ControlValue
    alone = with_switches tree (enabling_alone tree item)

    -- they are files
    alone-files : AreFiles alone
    alone-files = changed-files tree files (enabling_alone tree item) (few tree files None those.Enabled) (few tree files (Some item) those.All)

    -- whether a switch is on behind it
    alone-bit : (b : ℕ) → b < 64 → has_bit alone.switches b ≡ (nat_lt b (length tree.monitors) && (belongs_to tree item b && true)) || (has_bit tree.switches b && not (nat_lt b (length tree.monitors) && (true && has_bit tree.switches b)))
    alone-bit b inside =
        bit-after tree.switches (chosen_set tree None those.Enabled) (chosen_set tree (Some item) those.All) b (few tree files None those.Enabled) inside
        ∙ rw (bit-set tree (Some item) those.All b, bit-set tree None those.Enabled b) refl

    -- and whether it is behind it again
    again-bit : (b : ℕ) → on_after alone.switches (chosen_set alone None those.Enabled) (chosen_set alone (Some item) those.All) b
        ≡ (nat_lt b (length tree.monitors) && (belongs_to tree item b && true)) || (has_bit alone.switches b && not (nat_lt b (length tree.monitors) && (true && has_bit alone.switches b)))
    again-bit b =
        ap (λ (t : Bool). t || (has_bit alone.switches b && not (has_bit (chosen_set alone None those.Enabled) b))) (bit-set alone (Some item) those.All b ∙ ap (λ (t : Bool). nat_lt b (length tree.monitors) && (t && true)) (belongs-kept tree alone.switches tree.reactors item b))
        ∙ ap (λ (t : Bool). (nat_lt b (length tree.monitors) && (belongs_to tree item b && true)) || (has_bit alone.switches b && not t)) (bit-set alone None those.Enabled b)

    -- enabling alone again leaves the files
    alone-stays : with_switches alone (enabling_alone alone item) ≡ alone
    alone-stays = stays alone (enabling_alone alone item) alone-files.switches (few alone alone-files None those.Enabled) (few alone alone-files (Some item) those.All) (λ b inside. again-bit b ∙ same b inside)
      where
        twice : (n b s t : Bool) → t ≡ ((n && (b && true)) || (s && not (n && (true && s)))) → (n && (b && true)) || (t && not (n && (true && t))) ≡ t
        twice n b s t is = rw is (alone_twice n b s)

        same : (b : ℕ) → b < 64 → (nat_lt b (length tree.monitors) && (belongs_to tree item b && true)) || (has_bit alone.switches b && not (nat_lt b (length tree.monitors) && (true && has_bit alone.switches b))) ≡ has_bit alone.switches b
        same b inside = twice (nat_lt b (length tree.monitors)) (belongs_to tree item b) (has_bit tree.switches b) (has_bit alone.switches b) (alone-bit b inside)

    -- the item's monitors are on behind it, and no others
    pub alone-exact : (b : ℕ) → b < length tree.monitors → has_bit alone.switches b ≡ belongs_to tree item b
    alone-exact b inside =
        let within : nat_lt b (length tree.monitors) ≡ true = lt-ltb b (length tree.monitors) inside in
        let small : b < 64 = (let few = files.control.few_monitors in omega arith) in
        alone-bit b small ∙ rw within (exact (belongs_to tree item b) (has_bit tree.switches b))
      where
        exact : (b s : Bool) → (b && true) || (s && not (true && s)) ≡ b
        exact true s = refl
        exact false true = refl
        exact false false = refl

-- ---- writes, again

-- the same write again leaves the files
abbrev IsAgain : ControlValue → Path → List ℕ → Bool → Change → Type 0
IsAgain after file text append again = written after file text append ≡ Some (after, again)

-- what is made of an option
pub made : {X Y : Type 0} (f : X → Y) (o : Option X) (y : Y) → option_map f o ≡ Some y → (x : X) × (o ≡ Some x) × (f x ≡ y)
made f None y e = absurd cc
made f (Some x) y e = (x, refl, same_Some (f x) y e)

-- what a second step makes of an option
pub chained : {X Y : Type 0} (f : X → Option Y) (o : Option X) (y : Y) → option_and_then f o ≡ Some y → (x : X) × (o ≡ Some x) × (f x ≡ Some y)
chained f None y e = absurd cc
chained f (Some x) y e = (x, refl, e)

module _ (tree : ControlValue) (files : AreFiles tree) (text : List ℕ) where
  -- the switches fit a word behind a change that does
  abbrev IsSmall : Change → Type 0
  IsSmall change = (change.lower < 2 ^ 64) × (change.raise < 2 ^ 64)

  -- a quiet change leaves the files
  quiet-again : (change : Change) → IsSmall change → (again : Change) → again ≡ no_change → with_switches (with_switches tree change) again ≡ with_switches tree change
  quiet-again change small again none = rw none (nothing-stays (with_switches tree change) (changed-files tree files change small.0 small.1))

  -- a flag again
  flag-again : (f : ControlValue → Bool → Change) → ((on : Bool) → Quiet (λ t. f t on) tree) → ((on : Bool) → IsSmall (f tree on)) → (after : ControlValue) (change : Change)
      → option_map (with_change tree) (option_map (f tree) (flag_of text)) ≡ Some (after, change) → option_map (with_change after) (option_map (f after) (flag_of text)) ≡ Some (after, no_change)
  flag-again f quiet small after change e =
      let first = made (with_change tree) (option_map (f tree) (flag_of text)) (after, change) e in
      let flag = made (f tree) (flag_of text) first.0 first.1 in
      let is : with_switches tree (f tree flag.0) ≡ after = ap (λ (c : Change). with_switches tree c) flag.2 ∙ ap (λ (d : ControlValue × Change). d.0) first.2 in
      let silent : f after flag.0 ≡ no_change = subst (λ (t : ControlValue). f t flag.0 ≡ no_change) is (quiet flag.0) in
      let stay : with_switches after no_change ≡ after = subst (λ (t : ControlValue). with_switches t no_change ≡ t) is (nothing-stays _ (changed-files tree files (f tree flag.0) (small flag.0).0 (small flag.0).1)) in
      ap (option_map (with_change after)) (ap (option_map (f after)) flag.1) ∙ ap (λ (c : Change). Some (with_change after c)) silent ∙ ap (λ (t : ControlValue). Some (t, no_change)) stay

  -- sets of monitors are small
  small-turning : (item : Item) (on : Bool) → IsSmall (turning tree item on)
  small-turning item true = (omega arith, few tree files (Some item) those.Disabled)
  small-turning item false = (few tree files (Some item) those.Enabled, omega arith)

  -- so are single switches
  small-switching : (bit : ℕ) → 2 ^ bit < 2 ^ 64 → (on : Bool) → IsSmall (switching tree bit on)
  small-switching bit fits true = go (has_bit tree.switches bit)
    where
      go : (b : Bool) → IsSmall (if b then no_change else record no_change { raise = 2 ^ bit })
      go true = (omega arith, omega arith)
      go false = (omega arith, fits)
  small-switching bit fits false = go (has_bit tree.switches bit)
    where
      go : (b : Bool) → IsSmall (if b then record no_change { lower = 2 ^ bit } else no_change)
      go true = (fits, omega arith)
      go false = (omega arith, omega arith)

  -- an order again, by a change that is quiet or leaves the files
  order-again : (order : Order) (append : Bool) (change : Change) → ordering tree append order ≡ Some change → (again : Change) × (ordering (with_switches tree change) append order ≡ Some again) × (with_switches (with_switches tree change) again ≡ with_switches tree change) × (append ≡ true → again ≡ no_change)
  order-again orders.Nothing true change e = absurd cc
  order-again (orders.Enable item) true change e =
      let is : enabling tree item ≡ change = same_Some _ change e in
      subst (λ (c : Change). (again : Change) × (ordering (with_switches tree c) true (orders.Enable item) ≡ Some again) × (with_switches (with_switches tree c) again ≡ with_switches tree c) × (true ≡ true → again ≡ no_change)) is
      (enabling (with_switches tree (enabling tree item)) item, refl, quiet-again (enabling tree item) (small-turning item true) _ (enabling-quiet tree files item), λ on. enabling-quiet tree files item)
  order-again (orders.Disable item) true change e =
      let is : disabling tree item ≡ change = same_Some _ change e in
      subst (λ (c : Change). (again : Change) × (ordering (with_switches tree c) true (orders.Disable item) ≡ Some again) × (with_switches (with_switches tree c) again ≡ with_switches tree c) × (true ≡ true → again ≡ no_change)) is
      (disabling (with_switches tree (disabling tree item)) item, refl, quiet-again (disabling tree item) (small-turning item false) _ (disabling-quiet tree files item), λ on. disabling-quiet tree files item)
  order-again orders.Nothing false change e =
      let is : disabling_all tree ≡ change = same_Some _ change e in
      subst (λ (c : Change). (again : Change) × (ordering (with_switches tree c) false orders.Nothing ≡ Some again) × (with_switches (with_switches tree c) again ≡ with_switches tree c) × (false ≡ true → again ≡ no_change)) is
      (disabling_all (with_switches tree (disabling_all tree)), refl, quiet-again (disabling_all tree) (few tree files None those.Enabled, omega arith) _ (all-quiet tree files), λ on. absurd cc)
  order-again (orders.Disable item) false change e =
      let is : disabling_all tree ≡ change = same_Some _ change e in
      subst (λ (c : Change). (again : Change) × (ordering (with_switches tree c) false (orders.Disable item) ≡ Some again) × (with_switches (with_switches tree c) again ≡ with_switches tree c) × (false ≡ true → again ≡ no_change)) is
      (disabling_all (with_switches tree (disabling_all tree)), refl, quiet-again (disabling_all tree) (few tree files None those.Enabled, omega arith) _ (all-quiet tree files), λ on. absurd cc)
  order-again (orders.Enable item) false change e =
      let is : enabling_alone tree item ≡ change = same_Some _ change e in
      subst (λ (c : Change). (again : Change) × (ordering (with_switches tree c) false (orders.Enable item) ≡ Some again) × (with_switches (with_switches tree c) again ≡ with_switches tree c) × (false ≡ true → again ≡ no_change)) is
      (enabling_alone (with_switches tree (enabling_alone tree item)) item, refl, alone-stays tree files item, λ on. absurd cc)

  -- orders
  orders-again : (append : Bool) (after : ControlValue) (change : Change) → written tree EnabledMonitors text append ≡ Some (after, change) → (again : Change) × IsAgain after EnabledMonitors text append again × (append ≡ true → again ≡ no_change)
  orders-again append after change e =
      let first = made (with_change tree) (option_and_then (ordering tree append) (order_of tree text)) (after, change) e in
      let order = chained (ordering tree append) (order_of tree text) first.0 first.1 in
      let is : with_switches tree first.0 ≡ after = ap (λ (d : ControlValue × Change). d.0) first.2 in
      let again = order-again order.0 append first.0 order.2 in
      let spelled : order_of (with_switches tree first.0) text ≡ Some order.0 = order-kept tree (with_switches tree first.0).switches tree.reactors text ∙ order.1 in
      subst (λ (t : ControlValue). (again : Change) × IsAgain t EnabledMonitors text append again × (append ≡ true → again ≡ no_change)) is
      (again.0, ap (option_map (with_change (with_switches tree first.0))) (ap (option_and_then (ordering (with_switches tree first.0) append)) spelled ∙ again.1) ∙ ap (λ (t : ControlValue). Some (t, again.0)) again.2, again.3)

  -- a list in which a place was set twice to the same
  set_twice : {X : Type 0} (xs : List X) (place : ℕ) (x : X) → slice_set (slice_set xs place x) place x ≡ slice_set xs place x
  set_twice [] place x = refl
  set_twice (y ∷ xs) zero x = refl
  set_twice (y ∷ xs) (suc place) x = ap (λ ys. y ∷ ys) (set_twice xs place x)

  -- a reactor again
  reactor-again : (place : ℕ) (append : Bool) (after : ControlValue) (change : Change) → written tree (Reactors place) text append ≡ Some (after, change) → IsAgain after (Reactors place) text append no_change
  reactor-again place append after change e =
      let first = made (with_reactor tree place) (reactor_named text) (after, change) e in
      let is : (with_reactor tree place first.0).0 ≡ after = ap (λ (d : ControlValue × Change). d.0) first.2 in
      subst (λ (t : ControlValue). IsAgain t (Reactors place) text append no_change) is
      (ap (option_map (with_reactor (with_reactor tree place first.0).0 place)) first.1 ∙ ap (λ (rs : List Reactor). Some (record tree { reactors = rs }, no_change)) (set_twice tree.reactors place first.0))

  -- any file again
  pub written-again : (file : Path) (append : Bool) (after : ControlValue) (change : Change) → written tree file text append ≡ Some (after, change)
      → (again : Change) × IsAgain after file text append again × ((file ≢ EnabledMonitors) ⊎ (append ≡ true) → again ≡ no_change)
  written-again MonitoringOn append after change e = (no_change, flag-again (λ t. switching t 32) (switching-quiet tree files 32 (omega arith) (omega arith)) (small-switching 32 (omega arith)) after change e, λ h. refl)
  written-again ReactingOn append after change e = (no_change, flag-again (λ t. switching t 33) (switching-quiet tree files 33 (omega arith) (omega arith)) (small-switching 33 (omega arith)) after change e, λ h. refl)
  written-again (Enable item) append after change e = (no_change, flag-again (λ t. turning t item) (turning-quiet tree files item) (small-turning item) after change e, λ h. refl)
  written-again EnabledMonitors append after change e =
      let again = orders-again append after change e in
      (again.0, again.1, λ h. elim h [ inl other ↦ absurd (other refl) | inr on ↦ again.2 on ])
  written-again (Reactors place) append after change e = (no_change, reactor-again place append after change e, λ h. refl)
  written-again AvailableMonitors append after change e = absurd cc
  written-again AvailableReactors append after change e = absurd cc
  written-again (Desc item) append after change e = absurd cc

-- ---- paths

-- the refusals of a path that leads to no file, and of a text that is not allowed
abbrev no_file : Refusal
no_file = record { number = NO_SUCH_FILE; line = 0 }

abbrev invalid : Refusal
invalid = record { number = INVALID; line = 0 }

-- what a write that is done found
pub writes-found : (tree : ControlValue) (path text : List ℕ) (append : Bool) (after : ControlValue) (change : Change) → Writes tree path text append after change
    → (file : Path) × (path_of tree path ≡ Some file) × (written tree file (without_end text) append ≡ Some (after, change))
writes-found tree path text append after change e = go (path_of tree path) refl e
  where
    done : (o : Option (ControlValue × Change)) → ok_or o invalid ≡ Ok (after, change) → o ≡ Some (after, change)
    done None e = absurd cc
    done (Some d) e = let same : d ≡ (after, change) = cc in ap (λ (x : ControlValue × Change). Some x) same

    go : (file : Option Path) → path_of tree path ≡ file → and_then (ok_or file no_file) (λ file. ok_or (written tree file (without_end text) append) invalid) ≡ Ok (after, change)
        → (file : Path) × (path_of tree path ≡ Some file) × (written tree file (without_end text) append ≡ Some (after, change))
    go None is e = absurd cc
    go (Some file) is e = (file, is, done (written tree file (without_end text) append) e)

-- and what it found is a write that is done
pub found-writes : (tree : ControlValue) (path text : List ℕ) (append : Bool) (file : Path) (after : ControlValue) (change : Change) → path_of tree path ≡ Some file → written tree file (without_end text) append ≡ Some (after, change)
    → Writes tree path text append after change
found-writes tree path text append file after change is e = rw (is, e) refl

-- the files behind a write differ in their switches and reactors alone
pub written-other : (tree : ControlValue) (file : Path) (text : List ℕ) (append : Bool) (after : ControlValue) (change : Change) → written tree file text append ≡ Some (after, change)
    → (switches : ℕ) × (reactors : List Reactor) × (after ≡ other tree switches reactors)
written-other tree file text append after change e = go file e
  where
    by_change : (o : Option Change) → option_map (with_change tree) o ≡ Some (after, change) → (switches : ℕ) × (reactors : List Reactor) × (after ≡ other tree switches reactors)
    by_change o e = let first = made (with_change tree) o (after, change) e in ((with_switches tree first.0).switches, tree.reactors, sym (ap (λ (d : ControlValue × Change). d.0) first.2))

    go : (file : Path) → written tree file text append ≡ Some (after, change) → (switches : ℕ) × (reactors : List Reactor) × (after ≡ other tree switches reactors)
    go (Reactors place) e = let first = made (with_reactor tree place) (reactor_named text) (after, change) e in (tree.switches, slice_set tree.reactors place first.0, sym (ap (λ (d : ControlValue × Change). d.0) first.2))
    go MonitoringOn e = by_change (change_of tree MonitoringOn text append) e
    go ReactingOn e = by_change (change_of tree ReactingOn text append) e
    go EnabledMonitors e = by_change (change_of tree EnabledMonitors text append) e
    go (Enable item) e = by_change (change_of tree (Enable item) text append) e
    go AvailableMonitors e = by_change (change_of tree AvailableMonitors text append) e
    go AvailableReactors e = by_change (change_of tree AvailableReactors text append) e
    go (Desc item) e = by_change (change_of tree (Desc item) text append) e

-- so the path leads to the same file behind it
pub path-behind : (tree : ControlValue) (file : Path) (path text : List ℕ) (append : Bool) (after : ControlValue) (change : Change) → written tree file text append ≡ Some (after, change) → path_of after path ≡ path_of tree path
path-behind tree file path text append after change e =
    let is = written-other tree file text append after change e in
    ap (λ (t : ControlValue). path_of t path) is.2 ∙ path-kept tree is.0 is.1 path

module _ (tree : ControlValue) (files : AreFiles tree) (path text : List ℕ) (append : Bool) (after : ControlValue) (change : Change) (writes : Writes tree path text append after change) where
  -- a second equal write leaves the files
  pub again-kept : (again : Change) × Writes after path text append after again
  again-kept =
      let found = writes-found tree path text append after change writes in
      let again = written-again tree files (without_end text) found.0 append after change found.2 in
      (again.0, found-writes after path text append found.0 after again.0 (path-behind tree found.0 path (without_end text) append after change found.2 ∙ found.1) again.1)

  -- and is a change of nothing, but of the enabled monitors where they are replaced
  pub again-quiet : (path_of tree path ≢ Some EnabledMonitors) ⊎ (append ≡ true) → Writes after path text append after no_change
  again-quiet h =
      let found = writes-found tree path text append after change writes in
      let again = written-again tree files (without_end text) found.0 append after change found.2 in
      let none : again.0 ≡ no_change = again.2 (elim h [ inl other ↦ inl (λ same. other (found.1 ∙ ap (λ (f : Path). Some f) same)) | inr on ↦ inr on ]) in
      found-writes after path text append found.0 after no_change (path-behind tree found.0 path (without_end text) append after change found.2 ∙ found.1) (subst (IsAgain after found.0 (without_end text) append) none again.1)
