-- Bindings that are accepted are well formed, on any store.
use Rattle.std.proofs.Common.{◌≡◌, ℕ, ◌<◌, Bool, true, false, List, [], ◌∷◌, ◌++◌, length, refl, sym, ap, ◌∙◌, subst, arith, length-append}
use Rattle.std.specs.Prelude.{IfOk, Option, Some, None, option_map, Result, Ok, Err, ◌&&◌, bytes_eq, nat_lt, position, slice_get, if◌then◌else◌}
use Rattle.std.proofs.lemmas.List.Elements.{All-push}
use Rattle.std.proofs.lemmas.List.Quantifiers.{position-Some}
use Rattle.std.proofs.lemmas.Option.{slice_get-map}
use Rattle.rv_text.specs.TextLines.{LineText, lines_of}
use Rattle.rv_text.specs.Words.{words_of}
use Rattle.rv_text.specs.declared.numbers.TheConstants.{BIND_SYNTAX, NAME_TWICE, TOO_MANY_MONITORS, TOO_MANY_RULES}
use Rattle.rv_text.specs.declared.refusals.Refusal.{Refusal}
use Rattle.rv_model.specs.declared.hit.Mode.{Mode}
use Rattle.rv_model.specs.declared.hit.What.{What}
use Rattle.rv_model.specs.declared.kind.SpecKind.{SpecKind}
use Rattle.rv_bind.specs.declared.bindings.Monitor.{Monitor}
use Rattle.rv_bind.specs.declared.bindings.Test.{Test}
use Rattle.rv_bind.specs.declared.limits.TheConstants.{TEXT_LIMIT, MAX_MONITORS, MAX_RULES}
use Rattle.rv_bind.specs.Bound.{compiled_by, container_bound, form_by, form_in, holder_named, is_taken, line_by, monitor_named, nothing_bound, place_for, room_for, with_monitor}
use Rattle.rv_bind.specs.Changes.{allows_hit, brought}
use Rattle.rv_bind.specs.Compiling.{Compiles, compiled_of}
use Rattle.rv_bind.specs.Forms.{FormValue, skipped, container, monitor, on, react, off, begin, form_of}
use Rattle.rv_bind.specs.LineWords.{Words, after, or_syntax}
use Rattle.rv_bind.specs.Lines.{IsLineOf}
use Rattle.rv_bind.specs.MonitorLines.{allows_by, begin_bound, change_bound, disabled, reacting, rule_at, rule_bound, with_rule}
use Rattle.rv_bind.specs.Outcomes.{Outcome, accepted, refused, missing, reading, of_file, of_line, of_text}
use Rattle.rv_bind.specs.Possible.{MayFollow, MayLines, MayBound}
use Rattle.rv_bind.specs.Values.{OnValue, BoundValue}
use Rattle.rv_bind.specs.WellFormed.{kind_of, kinds_of, FitsKind, IsHolder, IsWellFormed}
use Rattle.rv_bind.specs.inner.FormViews.{IsNamed}
use Rattle.rv_bind.proofs.ChangeLemmas.{hit_fits}
use Rattle.rv_bind.proofs.ChangedLemmas.{change_formed, begin_formed}
use Rattle.rv_bind.proofs.LineLaws.{line_takes}
use Rattle.rv_bind.proofs.WellFormedLemmas.{nothing_formed, container_formed, monitor_formed}
use Rattle.rv_tool.proofs.CompiledLemmas.{compiled_means}

-- ---- what is accepted

-- what is accepted is such a value
abbrev pub AcceptedIs : {Y : Type 0} → (Y → Type 0) → Outcome Y → Type 0
AcceptedIs Is (accepted y) = Is y
AcceptedIs Is (refused file refusal) = Unit {0}
AcceptedIs Is (missing file) = Unit {0}

-- any value
abbrev pub IsAnything : {Y : Type 0} → Y → Type 0
IsAnything y = Unit {0}

-- whatever is accepted is some value
pub any_is : {Y : Type 0} (o : Outcome Y) → AcceptedIs IsAnything o
any_is (accepted y) = tt
any_is (refused file refusal) = tt
any_is (missing file) = tt

module _ {Y : Type 0} (Is : Y → Type 0) where
  -- what a line gives
  line_is : (file : List ℕ) (line : ℕ) (read : Result Y ℕ) → ((y : Y) → read ≡ Ok y → Is y) → AcceptedIs Is (of_line file line read)
  line_is file line (Ok y) each = each y refl
  line_is file line (Err number) each = tt

  -- what a text gives
  pub file_is : (file : List ℕ) (read : Result Y Refusal) → ((y : Y) → read ≡ Ok y → Is y) → AcceptedIs Is (of_file file read)
  file_is file (Ok y) each = each y refl
  file_is file (Err refusal) each = tt

  -- what is read of some text
  pub text_is : (file : List ℕ) (text : Option (List ℕ)) (read : List ℕ → Outcome Y) → ((bytes : List ℕ) → AcceptedIs Is (read bytes)) → AcceptedIs Is (of_text file text read)
  text_is file None read each = tt
  text_is file (Some bytes) read each = each bytes

  -- what is read on
  pub reading_is : {X : Type 0} (o : Outcome X) (next : X → Outcome Y) → ((x : X) → o ≡ accepted x → AcceptedIs Is (next x)) → AcceptedIs Is (reading o next)
  reading_is (accepted x) next each = each x refl
  reading_is (refused file refusal) next each = tt
  reading_is (missing file) next each = tt

  -- the same where what was read is known to be such a value
  reading_on : {X : Type 0} {First : X → Type 0} (o : Outcome X) (next : X → Outcome Y) → AcceptedIs First o → ((x : X) → First x → AcceptedIs Is (next x)) → AcceptedIs Is (reading o next)
  reading_on (accepted x) next first each = each x first
  reading_on (refused file refusal) next first each = tt
  reading_on (missing file) next first each = tt

  -- what may follow
  follow_is : {X : Type 0} (First : X → Type 0) (step : Outcome X) (next : X → Outcome Y → Type 0) (o : Outcome Y) → AcceptedIs First step → ((x : X) → First x → next x o → AcceptedIs Is o) → MayFollow step next o → AcceptedIs Is o
  follow_is First (accepted x) next o first second is = second x first is
  follow_is First (refused file refusal) next o first second is = subst (AcceptedIs Is) (sym is) tt
  follow_is First (missing file) next o first second is = subst (AcceptedIs Is) (sym is) tt

module _ {Y : Type 0} where
  -- a value of a line was read
  line_gives : (file : List ℕ) (line : ℕ) (read : Result Y ℕ) (y : Y) → of_line file line read ≡ accepted y → read ≡ Ok y
  line_gives file line (Ok x) y e = let same : x ≡ y = cc in ap (λ (z : Y). Ok z) same
  line_gives file line (Err number) y e = absurd (cc)

  -- a value of a file was read
  pub file_gives : (file : List ℕ) (read : Result Y Refusal) (y : Y) → of_file file read ≡ accepted y → read ≡ Ok y
  file_gives file (Ok x) y e = let same : x ≡ y = cc in ap (λ (z : Y). Ok z) same
  file_gives file (Err refusal) y e = absurd (cc)

-- ---- the forms of a line

-- the name that a line gives is of the bytes of names
form_named : (words : Words) (form : FormValue) → IsLineOf words form → IsNamed form
form_named words skipped is = tt
form_named words (container name) is = is.0
form_named words (monitor name scope kind file holder) is = is.0
form_named words (on name event by tests mode brought) is = tt
form_named words (react name reactor) is = tt
form_named words (off name) is = tt
form_named words (begin name atom) is = tt

-- also where the line stands in a text
line_named : (line : LineText) (form : FormValue) → form_in line ≡ Ok form → IsNamed form
line_named line form e = go (nat_lt TEXT_LIMIT line.end) e
  where
    go : (late : Bool) → (if late then Err BIND_SYNTAX else form_of (words_of line.bytes)) ≡ Ok form → IsNamed form
    go true k = absurd (cc)
    go false k = form_named (words_of line.bytes) form (line_takes (words_of line.bytes) form k)

-- ---- a monitor

-- the container that a line names is one that there is
held_place : (containers : List (List ℕ)) (holder : Option (List ℕ)) (place : Option ℕ) → holder_named containers holder ≡ Ok place → IsHolder (length containers) place
held_place containers None place e = let same : None ≡ place = cc in subst (IsHolder (length containers)) same tt
held_place containers (Some name) place e = go (position (λ other. bytes_eq other name) containers) refl e
  where
    go : (p : Option ℕ) → position (λ other. bytes_eq other name) containers ≡ p → or_syntax (option_map Some p) ≡ Ok place → IsHolder (length containers) place
    go None found k = absurd (cc)
    go (Some i) found k = let same : Some i ≡ place = cc in subst (IsHolder (length containers)) same (position-Some (λ other. bytes_eq other name) containers i [] found).0

-- there is room for the monitor, its name is free, and its container is one that there is
record HasPlace (b : BoundValue) (name : List ℕ) (place : Option ℕ) : Type 0 where
  room : length b.monitors < 32
  free : is_taken b name ≡ false
  holder : IsHolder (length b.containers) place

-- nothing where there is room, and where the name is free
abbrev where_room : Bool → Result Unit ℕ
where_room room = if room then Ok tt else Err TOO_MANY_MONITORS

abbrev where_free : Bool → Result Unit ℕ → Result Unit ℕ
where_free taken room = if taken then Err NAME_TWICE else room

module _ (b : BoundValue) (name : List ℕ) (holder place : Option ℕ) (held : IsHolder (length b.containers) holder) where
  -- there is room
  in_room : (room : Bool) → nat_lt (length b.monitors) MAX_MONITORS ≡ room → is_taken b name ≡ false → after (where_room room) (λ free. Ok holder) ≡ Ok place → HasPlace b name place
  in_room true is free k = let same : holder ≡ place = cc in record { room = let t = is in grind arith; free = free; holder = subst (IsHolder (length b.containers)) same held }
  in_room false is free k = absurd (cc)

  -- the name is free
  in_place : (taken : Bool) → is_taken b name ≡ taken → after (where_free taken (where_room (nat_lt (length b.monitors) MAX_MONITORS))) (λ free. Ok holder) ≡ Ok place → HasPlace b name place
  in_place true is k = absurd (cc)
  in_place false is k = in_room (nat_lt (length b.monitors) MAX_MONITORS) refl is k

-- a monitor that is not refused has its place
placed : (b : BoundValue) (name : List ℕ) (holder : Option (List ℕ)) (place : Option ℕ) → place_for b name holder ≡ Ok place → HasPlace b name place
placed b name holder place e = go (holder_named b.containers holder) refl e
  where
    go : (r : Result (Option ℕ) ℕ) → holder_named b.containers holder ≡ r → after r (λ p. after (room_for b name) (λ free. Ok p)) ≡ Ok place → HasPlace b name place
    go (Err number) found k = absurd (cc)
    go (Ok p) found k = in_place b name p place (held_place b.containers holder p found) (is_taken b name) refl k

-- what a text gives is so, where it is so of its value
ok_is : {Y : Type 0} (Is : Y → Type 0) (file : List ℕ) (read : Result Y Refusal) → IfOk read Is → AcceptedIs Is (of_file file read)
ok_is Is file (Ok y) is = is
ok_is Is file (Err refusal) is = tt

-- its specification has the table that means it
spec_means : (text : Option (List ℕ)) (kind : SpecKind) (file : List ℕ) → AcceptedIs (λ c. Compiles c.spec c.table) (compiled_by text kind file)
spec_means None kind file = tt
spec_means (Some text) kind file = ok_is _ file (compiled_of kind text) (compiled_means kind text)

-- ---- a rule

module _ (b done : BoundValue) (place : ℕ) (event : List ℕ) (by : Option (List ℕ)) (tests : List Test) (mode : Mode) (words : Words) (w : IsWellFormed b) where
  -- one more rule that its monitor allows, where there is room
  rule_brought : (m : Monitor) → slice_get b.monitors place ≡ Some m → allows_by m.scope by ≡ true → allows_hit m.scope m.spec mode words ≡ true → length b.rules < MAX_RULES
      → (what : Result What ℕ) → brought m.spec mode words ≡ what → with_rule b place event by tests mode what ≡ Ok done → IsWellFormed done
  rule_brought m there allowed fits room (Err number) found e = absurd (cc)
  rule_brought m there allowed fits room (Ok what) found e =
      let rule : OnValue = record { monitor = place; event = event; by = by; tests = tests; hit = record { mode = mode; what = what } } in
      let is : record b { rules = b.rules ++ rule ∷ [] } ≡ done = cc in
      let kind : slice_get (kinds_of b.monitors) place ≡ Some (kind_of m) = slice_get-map kind_of b.monitors place ∙ ap (option_map kind_of) there in
      let fit : FitsKind (kinds_of b.monitors) rule = record { kind = kind_of m; there = kind; hit = hit_fits m.scope m.spec mode words what fits found; by = allowed } in
      subst IsWellFormed is (record {
        few_containers = w.few_containers;
        few_monitors = w.few_monitors;
        few_rules = rw length-append (omega arith);
        tables = w.tables;
        rules = All-push (FitsKind (kinds_of b.monitors)) b.rules rule w.rules fit;
        holders = w.holders;
        items = w.items;
        distinct = w.distinct;
        named = w.named;
      })

  -- where there is room
  abbrev rule_where : Monitor → Bool → Result BoundValue ℕ
  rule_where m room = if room then with_rule b place event by tests mode (brought m.spec mode words) else Err TOO_MANY_RULES

  -- a rule of the monitor at a place
  rule_placed : (m : Option Monitor) → slice_get b.monitors place ≡ m → rule_at b place m event by tests mode words ≡ Ok done → IsWellFormed done
  rule_placed None there e = absurd (cc)
  rule_placed (Some m) there e = by_form (allows_by m.scope by) refl (allows_hit m.scope m.spec mode words) refl e
    where
      by_room : (room : Bool) → nat_lt (length b.rules) MAX_RULES ≡ room → allows_by m.scope by ≡ true → allows_hit m.scope m.spec mode words ≡ true → rule_where m room ≡ Ok done → IsWellFormed done
      by_room true is allowed fits k = rule_brought m there allowed fits (let t = is in grind arith) (brought m.spec mode words) refl k
      by_room false is allowed fits k = absurd (cc)

      by_form : (t : Bool) → allows_by m.scope by ≡ t → (u : Bool) → allows_hit m.scope m.spec mode words ≡ u → (if t && u then rule_where m (nat_lt (length b.rules) MAX_RULES) else Err BIND_SYNTAX) ≡ Ok done → IsWellFormed done
      by_form true is true fits k = by_room (nat_lt (length b.rules) MAX_RULES) refl is fits k
      by_form true is false fits k = absurd (cc)
      by_form false is true fits k = absurd (cc)
      by_form false is false fits k = absurd (cc)

-- a rule of the monitor that was named
rule_formed : (b done : BoundValue) (place : Option ℕ) (event : List ℕ) (by : Option (List ℕ)) (tests : List Test) (mode : Mode) (words : Words) → IsWellFormed b → rule_bound b place event by tests mode words ≡ Ok done → IsWellFormed done
rule_formed b done None event by tests mode words w e = absurd (cc)
rule_formed b done (Some place) event by tests mode words w e = rule_placed b done place event by tests mode words w (slice_get b.monitors place) refl e

-- ---- the lines

module _ (text : Option (List ℕ)) (here : List ℕ) (bound : BoundValue) (w : IsWellFormed bound) where
  -- a line of a form
  form_formed : (line : ℕ) (form : FormValue) → IsNamed form → AcceptedIs IsWellFormed (form_by (compiled_by text) here line bound form)
  form_formed line skipped named = w
  form_formed line (container name) named = line_is IsWellFormed here line (container_bound bound name) (λ done e. container_formed bound name w named done e)
  form_formed line (monitor name scope kind file holder) named =
      reading_is IsWellFormed (of_line here line (place_for bound name holder)) (λ place. reading (compiled_by text kind file) (λ compiled. accepted (with_monitor bound name place scope file compiled)))
      (λ place found. reading_on IsWellFormed (compiled_by text kind file) (λ compiled. accepted (with_monitor bound name place scope file compiled)) (spec_means text kind file) (λ compiled means.
      let has = placed bound name holder place (line_gives here line (place_for bound name holder) place found) in
      monitor_formed bound name place scope file compiled w has.room named has.free has.holder means))
  form_formed line (on name event by tests mode words) named =
      line_is IsWellFormed here line (rule_bound bound (monitor_named bound name) event by tests mode words) (λ done e. rule_formed bound done (monitor_named bound name) event by tests mode words w e)
  form_formed line (react name reactor) named =
      line_is IsWellFormed here line (change_bound bound (monitor_named bound name) (reacting reactor)) (λ done e. change_formed bound done (monitor_named bound name) (reacting reactor) (λ m. refl) (λ m. refl) (λ m. refl) w e)
  form_formed line (off name) named = line_is IsWellFormed here line (change_bound bound (monitor_named bound name) disabled) (λ done e. change_formed bound done (monitor_named bound name) disabled (λ m. refl) (λ m. refl) (λ m. refl) w e)
  form_formed line (begin name atom) named = line_is IsWellFormed here line (begin_bound bound (monitor_named bound name) atom) (λ done e. begin_formed bound done (monitor_named bound name) atom w e)

  -- a line
  line_formed : (line : LineText) → AcceptedIs IsWellFormed (line_by (compiled_by text) here bound line)
  line_formed line =
      reading_is IsWellFormed (of_line here line.number (form_in line)) (form_by (compiled_by text) here line.number bound)
      (λ form e. form_formed line.number form (line_named line form (line_gives here line.number (form_in line) form e)))

-- the lines
lines_formed : (here : List ℕ) (bound : BoundValue) (lines : List LineText) (o : Outcome BoundValue) → IsWellFormed bound → MayLines here bound lines o → AcceptedIs IsWellFormed o
lines_formed here bound [] o w is = subst (AcceptedIs IsWellFormed) (sym is) w
lines_formed here bound (line ∷ lines) o w (step, (text, is), follows) =
    follow_is IsWellFormed IsWellFormed step (λ next. MayLines here next lines) o (subst (AcceptedIs IsWellFormed) (sym is) (line_formed text here bound w line)) (λ next v more. lines_formed here next lines o v more) follows

-- the bindings
pub bindings_formed : (here : List ℕ) (o : Outcome BoundValue) → MayBound here o → AcceptedIs IsWellFormed o
bindings_formed here o (step, found, follows) =
    follow_is IsWellFormed IsAnything step (λ text. MayLines here nothing_bound (lines_of text)) o (any_is step) (λ text any lines. lines_formed here nothing_bound (lines_of text) o nothing_formed lines) follows
