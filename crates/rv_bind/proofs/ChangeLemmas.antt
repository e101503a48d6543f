-- What a line brings fits its specification.
use Rattle.std.proofs.Common.{◌≡◌, ◌≢◌, ℕ, ◌+◌, ◌*◌, ◌^◌, ◌<◌, ◌≤◌, Bool, true, false, List, [], ◌∷◌, length, get_or, Bor, Some, None, refl, sym, ap, ◌∙◌, subst, arith, add-one, if◌then◌else◌}
use Rattle.std.specs.Prelude.{Option, Result, Ok, Err, ◌&&◌, ◌==◌, not, bytes_eq, bit_or, MatchBool}
use Rattle.std.specs.List.{list_all}
use Rattle.std.proofs.lemmas.Nat.{or_lt, pow_pos}
use Rattle.std.proofs.Math.Pow.{pow-lt}
use Rattle.std.proofs.lemmas.List.Quantifiers.{position-Some}
use Rattle.rv_model.specs.declared.hit.Mode.{Mode}
use Rattle.rv_model.specs.declared.hit.Mode.TheVariants as modes
use Rattle.rv_model.specs.declared.hit.What.{What}
use Rattle.rv_model.specs.declared.hit.What.TheVariants as whats
use Rattle.rv_model.specs.declared.work.Scope.{Scope}
use Rattle.rv_model.specs.declared.formula.Spec.{Spec}
use Rattle.rv_model.specs.declared.formula.Spec.TheVariants as specs
use Rattle.rv_model.specs.Numbers.{number_of}
use Rattle.rv_model.specs.Scripts.{is_end}
use Rattle.rv_model.proofs.NumberLemmas.{number_of-lt}
use Rattle.rv_text.specs.declared.numbers.TheConstants.{UNKNOWN_ATOM}
use Rattle.rv_ltl.specs.inner.Texts.{texts}
use Rattle.rv_bind.specs.declared.fault.LineFault.{LineFault}
use Rattle.rv_bind.specs.inner.LineReads.{ReadsValue}
use Rattle.rv_bind.specs.LineWords.{Words}
use Rattle.rv_bind.specs.Changes.{runs_its_event, is_change, stands_twice, allows_what, may_end, allows_hit, place_named, atoms_signed, are_known, event_what, event_of, what_of, brought, bit_at_place, atom_bit}
use Rattle.rv_bind.specs.WellFormed.{FitsEvents, FitsAtoms, FitsSpec, FitsRule, StartsIn}

-- ---- a set, place by place

-- one more place
pub number_more : (has : ℕ → Bool) (place set : ℕ) → set ≡ number_of has place → (now : ℕ) → now ≡ (if has place then 1 else 0) * 2 ^ place + set → now ≡ number_of has (place + 1)
unfolding number_of
number_more has place set is now next = rw (add-one place) (next ∙ ap (λ n. (if has place then 1 else 0) * 2 ^ place + n) is)

-- no place yet
pub number_none : (has : ℕ → Bool) → 0 ≡ number_of has 0
unfolding number_of
number_none has = refl

-- a set of lower places is below the power of the place
pub number_below : (has : ℕ → Bool) (place set : ℕ) → set ≡ number_of has place → set < 2 ^ place
number_below has place set is = subst (λ n. n < 2 ^ place) (sym is) (number_of-lt has place)

-- ---- what is brought

-- an event that is found by its name is one of the events
event_what-fits : (events : List (List ℕ)) (name : List ℕ) (what : What) (p : Option ℕ) → place_named events name ≡ p → event_what p ≡ Ok what → FitsEvents (length events) what
event_what-fits events name what None found e = cc
event_what-fits events name what (Some place) found e =
    let same : whats.Da place ≡ what = cc in
    subst (FitsEvents (length events)) same (position-Some (λ other. bytes_eq other name) events place [] found).0

-- the one event of the words is one of the events
event-fits : (events : List (List ℕ)) (words : Words) (what : What) → event_of events words ≡ Ok what → FitsEvents (length events) what
event-fits events [] what e = cc
event-fits events (word ∷ []) what e = event_what-fits events word what (place_named events word) refl e
event-fits events (word ∷ next ∷ words) what e = cc

-- the changes of known atoms are sets of the rule's atoms
change-fits : (atoms : List (List ℕ)) (words : Words) (what : What) (known : Bool)
    → (if known then Ok (whats.Ltl (atoms_signed 43 atoms words) (atoms_signed 45 atoms words) (atoms_signed 42 atoms words)) else Err UNKNOWN_ATOM) ≡ Ok what → FitsAtoms (length atoms) what
change-fits atoms words what true e =
    let same : whats.Ltl (atoms_signed 43 atoms words) (atoms_signed 45 atoms words) (atoms_signed 42 atoms words) ≡ what = cc in
    subst (FitsAtoms (length atoms)) same (number_of-lt _ (length atoms), number_of-lt _ (length atoms), number_of-lt _ (length atoms))
change-fits atoms words what false e = cc

-- a mode that runs its event is no start without it
mode-fits : (mode : Mode) (rest : Bool) → (runs_its_event mode && rest) ≡ true → mode ≢ modes.Start
mode-fits modes.Event rest e same = cc
mode-fits modes.Start rest e same = cc
mode-fits modes.StartRun rest e same = cc
mode-fits modes.End rest e same = cc

-- the event of one word
event_of-one : (events : List (List ℕ)) (words : List (Bor (List ℕ))) (d : Bor (List ℕ)) → 1 ≤ length words → length words < 2 → event_of events (texts words) ≡ event_what (place_named events (get_or words 0 d).now)
event_of-one events [] d le lt = absurd (omega arith)
event_of-one events (word ∷ []) d le lt = refl
event_of-one events (word ∷ next ∷ words) d le lt = absurd (omega arith)

-- what is read of one word is read of the words
pub event_of-reads : (events : List (List ℕ)) (words : List (Bor (List ℕ))) (d : Bor (List ℕ)) (r : Result What LineFault) → 1 ≤ length words → length words < 2
    → ReadsValue (λ (what : What). what) r (event_what (place_named events (get_or words 0 d).now)) → ReadsValue (λ (what : What). what) r (event_of events (texts words))
event_of-reads events words d r le lt reads = subst (λ (e : Result What ℕ). ReadsValue (λ (what : What). what) r e) (sym (event_of-one events words d le lt)) reads

-- what an allowed line brings fits
what_fits : (spec : Spec) (mode : Mode) (words : Words) (what : What) → allows_what spec mode words ≡ true → what_of spec words ≡ Ok what → FitsSpec spec (record { mode = mode; what = what })
what_fits (specs.Da a) mode words what allowed e = event-fits a.events words what e
what_fits (specs.Ltl rule) mode words what allowed e =
    (mode-fits mode (list_all is_change words && not (stands_twice words)) allowed, change-fits rule.atoms words what (are_known rule.atoms words) e)

-- what an allowed hit brings fits the rule
pub hit_fits : (scope : Scope) (spec : Spec) (mode : Mode) (words : Words) (what : What) → allows_hit scope spec mode words ≡ true → brought spec mode words ≡ Ok what → FitsRule spec (record { mode = mode; what = what })
hit_fits scope spec mode words what allowed e = go (is_end mode) allowed e
  where
    go : (b : Bool) → (if b then may_end scope && length words == 0 else allows_what spec mode words) ≡ true → (if b then Ok whats.Nothing else what_of spec words) ≡ Ok what
        → MatchBool b (what ≡ whats.Nothing) (FitsSpec spec (record { mode = mode; what = what }))
    go true fits e' = let same : whats.Nothing ≡ what = cc in sym same
    go false fits e' = what_fits spec mode words what fits e'

-- ---- starting values

-- the bit of a named atom is a set of the rule's atoms
bit-fits : (atoms : List (List ℕ)) (name : List ℕ) (bit : ℕ) (p : Option ℕ) → place_named atoms name ≡ p → bit_at_place p ≡ Ok bit → bit < 2 ^ length atoms
bit-fits atoms name bit None found e = cc
bit-fits atoms name bit (Some place) found e =
    let same : 2 ^ place ≡ bit = cc in
    subst (λ n. n < 2 ^ length atoms) same (pow-lt (position-Some (λ other. bytes_eq other name) atoms place [] found).0)

-- nothing starts true
pub starts_at_first : (spec : Spec) → StartsIn spec 0
starts_at_first (specs.Da a) = refl
starts_at_first (specs.Ltl rule) = pow_pos (length rule.atoms)

-- one more atom starts true
pub starts_more : (spec : Spec) (atom : List ℕ) (starting bit : ℕ) → atom_bit spec atom ≡ Ok bit → StartsIn spec starting → StartsIn spec (bit_or starting bit)
starts_more (specs.Da a) atom starting bit e h = cc
starts_more (specs.Ltl rule) atom starting bit e h = or_lt (length rule.atoms) starting bit h (bit-fits rule.atoms atom bit (place_named rule.atoms atom) refl e)
