-- A name is found in a list, and what a line about the monitor of that name adds.
use Rattle.std.proofs.Common.{◌≡◌, ℕ, zero, suc, ◌<◌, ◌≤◌, true, false, ◌⊎◌, inl, inr, ◌+◌, List, [], ◌∷◌, ◌++◌, length, get_or, set, sym, ap, ◌∙◌, arith}
use Rattle.std.specs.Prelude.{Option, Some, slice_get, slice_index_or, bytes_eq, nat_lt, Ok}
use Rattle.std.specs.List.{position_or_len}
use Rattle.std.specs.Option.{option_copied}
use Rattle.std.proofs.lemmas.List.Sums.{position_or_len_is}
use Rattle.std.proofs.lemmas.Option.{slice_get_within, get_or_from_slice_get}
use Rattle.rv_ltl.specs.inner.Texts.{texts}
use Rattle.rv_model.specs.declared.hit.What.{What}
use Rattle.rv_bind.specs.declared.bindings.Monitor.{Monitor}
use Rattle.rv_bind.specs.declared.forms.OnForm.{OnForm}
use Rattle.rv_bind.specs.declared.limits.TheConstants.{MAX_RULES}
use Rattle.rv_bind.specs.Values.{OnValue, BoundValue}
use Rattle.rv_bind.specs.LineWords.{after}
use Rattle.rv_bind.specs.Changes.{allows_hit, brought, atom_bit}
use Rattle.rv_bind.specs.Bound.{monitor_named}
use Rattle.rv_bind.specs.MonitorLines.{allows_by, rule_bound, monitors_with, change_bound, beginning, begin_bound}

-- a monitor is changed where it stands
pub monitors_with-set : (change : Monitor → Monitor) (monitors : List Monitor) (place : ℕ) (m : Monitor) → place < length monitors → get_or monitors place m ≡ m
    → monitors_with change monitors place ≡ set monitors place (change m)
monitors_with-set change [] place m lt is = absurd (omega arith)
monitors_with-set change (x ∷ monitors) zero m lt is = ap (λ (y : Monitor). change y ∷ monitors) is
monitors_with-set change (x ∷ monitors) (suc place) m lt is = ap (λ ms. x ∷ ms) (monitors_with-set change monitors place m (omega arith) is)

-- ---- a name in a list, with none at a lower place
module _ (names : List (List ℕ)) (name : List ℕ) where
  -- no lower place has the name
  abbrev pub NoneBelow : ℕ → Type 0
  NoneBelow place = (k : ℕ) → k < place → bytes_eq (slice_index_or names k []) name ≡ false

  -- a place that has the name, where no lower one has it, is the name's place
  pub found_at : (place : ℕ) (held : List ℕ) → slice_get names place ≡ Some held → bytes_eq held name ≡ true → NoneBelow place → place ≡ position_or_len (λ other. bytes_eq other name) names
  found_at place held is same none =
      let within : place < length names = slice_get_within names place held is in
      let at : get_or names place [] ≡ held = get_or_from_slice_get names place held [] is in
      sym (position_or_len_is (λ other. bytes_eq other name) names place [] (omega arith) none (λ lt. ap (λ h. bytes_eq h name) at ∙ same))

  -- one more place does not have the name
  pub none_below : (place : ℕ) (held : List ℕ) → slice_get names place ≡ Some held → bytes_eq held name ≡ false → NoneBelow place → NoneBelow (place + 1)
  none_below place held is apart none k lt = elim (cases k place lt) [
    | inl below ↦ none k below
    | inr same ↦ ap (λ n. bytes_eq (slice_index_or names n []) name) same ∙ ap (λ h. bytes_eq h name) (get_or_from_slice_get names place held [] is) ∙ apart
  ]
    where
      cases : (k place : ℕ) → k < place + 1 → (k < place) ⊎ (k ≡ place)
      cases k place lt = grind arith

  -- where no place has the name, the search ends at the number of names
  pub not_found : (place count : ℕ) → count ≡ length names → count ≤ place → NoneBelow place → count ≡ position_or_len (λ other. bytes_eq other name) names
  not_found place count is le none =
      let all : (k : ℕ) → k < length names → bytes_eq (slice_index_or names k []) name ≡ false = λ k lt. none k (omega arith) in
      is ∙ sym (position_or_len_is (λ other. bytes_eq other name) names (length names) [] (omega arith) all (λ lt. absurd (omega arith)))

-- ---- what a line adds

module _ (b : BoundValue) (name : List ℕ) (place : ℕ) (named : monitor_named b name ≡ Some place) where
  -- a change of the monitor of this name
  pub change_added : (change : Monitor → Monitor) (m : Monitor) (after : List Monitor) → place < length b.monitors → get_or b.monitors place m ≡ m → after ≡ set b.monitors place (change m)
      → change_bound b (monitor_named b name) change ≡ Ok (record b { monitors = after })
  change_added change m after lt is added =
      ap (λ (p : Option ℕ). change_bound b p change) named ∙ ap (λ (ms : List Monitor). Ok (record b { monitors = ms })) (monitors_with-set change b.monitors place m lt is ∙ sym added)

  -- an atom of the monitor of this name that starts true
  pub begin_added : (atom : List ℕ) (bit : ℕ) (m : Monitor) (after : List Monitor) → slice_get b.monitors place ≡ Some m → atom_bit m.spec atom ≡ Ok bit → after ≡ set b.monitors place (beginning bit m)
      → begin_bound b (monitor_named b name) atom ≡ Ok (record b { monitors = after })
  begin_added atom bit m after there found added =
      let lt : place < length b.monitors = slice_get_within b.monitors place m there in
      let is : get_or b.monitors place m ≡ m = get_or_from_slice_get b.monitors place m m there in
      rw (named, there, found) (ap (λ (ms : List Monitor). Ok (record b { monitors = ms })) (monitors_with-set (beginning bit) b.monitors place m lt is ∙ sym added))

  -- a rule of the monitor of this name
  pub rule_added : (m : Monitor) (o : OnForm) (what : What) (after : List OnValue)
      → slice_get b.monitors place ≡ Some m → allows_by m.scope (option_copied o.by) ≡ true → allows_hit m.scope m.spec o.mode (texts o.words.items) ≡ true → length b.rules < MAX_RULES → brought m.spec o.mode (texts o.words.items) ≡ Ok what
      → after ≡ b.rules ++ record { monitor = place; event = o.event.now; by = option_copied o.by; tests = o.tests.items; hit = record { mode = o.mode; what = what } } ∷ []
      → rule_bound b (monitor_named b name) o.event.now (option_copied o.by) o.tests.items o.mode (texts o.words.items) ≡ Ok (record b { rules = after })
  rule_added m o what after there allowed fits room found added =
      let few : nat_lt (length b.rules) MAX_RULES ≡ true = grind arith in
      rw (named, there, allowed, fits, few, found) (ap (λ (rs : List OnValue). Ok (record b { rules = rs })) (sym added))
