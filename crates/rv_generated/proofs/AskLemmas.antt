-- What the generated rules ask for on a line of the generated trace.
use Rattle.std.proofs.Common.{◌≡◌, ℕ, zero, suc, ◌+◌, ◌-◌, ◌*◌, ◌<◌, ◌≤◌, ◌⊎◌, inl, inr, Bool, true, false, cond, List, [], ◌∷◌, Option, Some, refl, sym, ◌∙◌, ap, subst, arith}
use Rattle.std.specs.Prelude.{codes, slice_get, if◌then◌else◌, option_map}
use Rattle.std.proofs.lemmas.Bool.{and_from, le-ltb}
use Rattle.rv_text.specs.Places.{is_digit, between}
use Rattle.rv_text.specs.Decimal.{decimal_of, number_of}
use Rattle.rv_text.proofs.DecimalLemmas.{decimal-some}
use Rattle.rv_trace.specs.Fields.{field_of}
use Rattle.rv_trace.specs.declared.line.Span.{Span}
use Rattle.rv_trace.specs.declared.line.TraceLine.{TraceLine}
use Rattle.rv_gen.specs.Generated.{first_pid, second_pid}
use Rattle.rv_bind.specs.declared.bindings.Monitor.{Monitor}
use Rattle.rv_bind.specs.RuleValues.{OnValue}
use Rattle.rv_route.specs.declared.asking.Ask.{Ask}
use Rattle.rv_route.specs.declared.asking.Ask.TheVariants as asks
use Rattle.rv_route.specs.Asking.{fires, pid_from, pid_at, asked_of, text_at, field_value}
use Rattle.rv_generated.specs.GeneratedBound.{generated_bound, sleep_rule, out_rule, in_rule}
use Rattle.rv_generated.proofs.FieldLemmas.{woken_fields, switch_fields, woken-pid, prev-pid, next-pid}
use Rattle.rv_generated.proofs.TextLemmas.{HasDigits, event_name, event_more}

-- what a rule asks for on a line, by the line's event and its fields
abbrev pub ask_by : List ℕ → List ℕ → TraceLine → List Monitor → OnValue → Ask
ask_by name fields line monitors rule = if fires name fields rule then asked_of fields line rule.by (slice_get monitors rule.monitor) else asks.Quiet

-- what is asked for belongs to the CPU: its own instance of the first monitor, or one of its two tasks of the second
abbrev pub IsOwnAsk : ℕ → ℕ → Ask → Type 0
IsOwnAsk cpu monitor asks.Quiet = Unit {0}
IsOwnAsk cpu monitor (asks.Instance instance) = (monitor ≡ 0) × (instance ≡ cpu)
IsOwnAsk cpu monitor asks.NoPid = ⊥
IsOwnAsk cpu monitor (asks.Pid pid) = (monitor ≡ 1) × (first_pid cpu ≤ pid) × (pid ≤ second_pid cpu)

-- at most so many rules ask, and for what belongs to the CPU
abbrev pub AskOwn : ℕ → (OnValue → Ask) → ℕ → List OnValue → Type 0
AskOwn cpu ask most [] = Unit {0}
AskOwn cpu ask most (rule ∷ rules) = ((ask rule ≡ asks.Quiet) × AskOwn cpu ask most rules) ⊎ ((less : ℕ) × (most ≡ suc less) × IsOwnAsk cpu rule.monitor (ask rule) × AskOwn cpu ask less rules)

-- a pid of three digits
three-digits : (p q n : ℕ) → is_digit p ≡ true → is_digit q ≡ true → (10 + (p - 48)) * 10 + (q - 48) ≡ n → n < 200 → pid_at (Some (49 ∷ p ∷ q ∷ [])) ≡ asks.Pid n
three-digits p q n pd qd is low =
    let number : number_of (49 ∷ p ∷ q ∷ []) ≡ n = unfold number_of in is in
    let some : decimal_of (49 ∷ p ∷ q ∷ []) ≡ Some n = sym (decimal-some (49 ∷ p ∷ q ∷ []) (omega arith) (and_from _ _ pd (and_from _ _ qd refl)) (omega arith)) ∙ ap (λ m. Some m) number in
    ap pid_from some ∙ ap (λ b. cond b asks.NoPid (asks.Pid n)) (le-ltb 4294967295 n (omega arith))

-- a rule that may fire asks for what belongs to the CPU
own-if : (b : Bool) (cpu monitor : ℕ) (ask : Ask) → IsOwnAsk cpu monitor ask → IsOwnAsk cpu monitor (if b then ask else asks.Quiet)
own-if true cpu monitor ask own = own
own-if false cpu monitor ask own = tt

-- a pid of the CPU belongs to it
own-pid : (cpu pid : ℕ) (ask : Ask) → ask ≡ asks.Pid pid → first_pid cpu ≤ pid → pid ≤ second_pid cpu → IsOwnAsk cpu 1 ask
own-pid cpu pid ask is low high = subst (IsOwnAsk cpu 1) (sym is) (refl, low, high)

module _ (cpu : ℕ) (few : cpu < 8) (has : HasDigits cpu) where
  -- the pid of its first task
  first-own : (ask : Ask) → ask ≡ pid_at (Some (49 ∷ has.ten ∷ has.one ∷ [])) → IsOwnAsk cpu 1 ask
  first-own ask is = own-pid cpu (first_pid cpu) ask (is ∙ three-digits has.ten has.one (first_pid cpu) has.ten_is.digit has.one_is.digit has.first_is (omega (arith, few))) (omega arith) (omega arith)

  -- the pid of its second one
  second-own : (ask : Ask) → ask ≡ pid_at (Some (49 ∷ has.ten ∷ has.other ∷ [])) → IsOwnAsk cpu 1 ask
  second-own ask is = own-pid cpu (second_pid cpu) ask (is ∙ three-digits has.ten has.other (second_pid cpu) has.ten_is.digit has.other_is.digit has.second_is (omega (arith, few))) (omega arith) (omega arith)

  -- the value of a field
  value-is : (fields name value : List ℕ) (from to : ℕ) → field_of fields name ≡ Some (record { from = from; to = to }) → between fields from to ≡ value → pid_at (field_value fields name) ≡ pid_at (Some value)
  value-is fields name value from to place is = ap (λ (o : Option Span). pid_at (option_map (text_at fields) o)) place ∙ ap (λ v. pid_at (Some v)) is

  module _ (line : TraceLine) (own : line.cpu ≡ cpu) where
    -- what the rules ask for on an event
    abbrev pub asked : ℕ → OnValue → Ask
    asked e = ask_by (event_name e) (32 ∷ event_more has e) line generated_bound.monitors

    -- an instance of the CPU's own
    abbrev own-instance : IsOwnAsk cpu 0 (asks.Instance line.cpu)
    own-instance = (refl, own)

    -- on each event at most three ask, and for what belongs to the CPU
    pub asks-own : (e : ℕ) → AskOwn cpu (asked e) 3 generated_bound.rules
    asks-own zero = inl (refl, inr (2, refl, own-instance, inl (refl, inl (refl, inl (refl, inl (refl, inl (refl, tt)))))))
    asks-own (suc zero) = inr (2, refl, own-instance, inl (refl, inl (refl, inl (refl, inl (refl, inl (refl, inl (refl, tt)))))))
    asks-own (suc (suc zero)) = inl (refl, inl (refl, inr (2, refl, own-instance, inl (refl, inl (refl, inl (refl, inl (refl, tt)))))))
    asks-own (suc (suc (suc zero))) = inl (refl, inr (2, refl, own-instance, inl (refl, inl (refl, inl (refl, inl (refl, inl (refl, tt)))))))
    asks-own (suc (suc (suc (suc zero)))) = inl (refl, inl (refl, inr (2, refl, own-instance, inl (refl, inl (refl, inl (refl, inl (refl, tt)))))))
    asks-own (suc (suc (suc (suc (suc zero))))) =
        let fields : List ℕ = switch_fields 116 has.ten has.one 83 117 has.other in
        let prev : IsOwnAsk cpu 1 (pid_at (field_value fields (codes "prev_pid"))) = first-own _ (value-is fields (codes "prev_pid") _ 22 25 (prev-pid 116 has.ten has.one 83 117 has.other refl has.ten_is.digit has.one_is.digit) refl) in
        let next : IsOwnAsk cpu 1 (pid_at (field_value fields (codes "next_pid"))) = second-own _ (value-is fields (codes "next_pid") _ 78 81 (next-pid 116 has.ten has.one 83 117 has.other refl refl refl has.ten_is.digit has.one_is.digit has.other_is.digit has.ten_is.no_blank has.one_is.no_blank) refl) in
        inl (
          refl,
          inl (
            refl,
            inl (
              refl,
              inr (
                2,
                refl,
                own-if (fires (codes "sched_switch") fields sleep_rule) cpu 1 _ prev,
                inr (
                  1,
                  refl,
                  own-if (fires (codes "sched_switch") fields out_rule) cpu 1 _ prev,
                  inr (0, refl, own-if (fires (codes "sched_switch") fields in_rule) cpu 1 _ next, inl (refl, tt)),
                ),
              ),
            ),
          ),
        )
    asks-own (suc (suc (suc (suc (suc (suc zero)))))) =
        let fields : List ℕ = woken_fields has.ten has.one has.last in
        let pid : IsOwnAsk cpu 1 (pid_at (field_value fields (codes "pid"))) = first-own _ (value-is fields (codes "pid") _ 12 15 (woken-pid has.ten has.one has.last has.ten_is.digit has.one_is.digit) refl) in
        inl (refl, inl (refl, inl (refl, inl (refl, inl (refl, inl (refl, inr (2, refl, pid, tt)))))))
    asks-own (suc (suc (suc (suc (suc (suc (suc e))))))) =
        let fields : List ℕ = switch_fields 117 has.ten has.other 82 116 has.one in
        let prev : IsOwnAsk cpu 1 (pid_at (field_value fields (codes "prev_pid"))) = second-own _ (value-is fields (codes "prev_pid") _ 22 25 (prev-pid 117 has.ten has.other 82 116 has.one refl has.ten_is.digit has.other_is.digit) refl) in
        let next : IsOwnAsk cpu 1 (pid_at (field_value fields (codes "next_pid"))) = first-own _ (value-is fields (codes "next_pid") _ 78 81 (next-pid 117 has.ten has.other 82 116 has.one refl refl refl has.ten_is.digit has.other_is.digit has.one_is.digit has.ten_is.no_blank has.other_is.no_blank) refl) in
        inl (
          refl,
          inl (
            refl,
            inl (
              refl,
              inr (
                2,
                refl,
                own-if (fires (codes "sched_switch") fields sleep_rule) cpu 1 _ prev,
                inr (
                  1,
                  refl,
                  own-if (fires (codes "sched_switch") fields out_rule) cpu 1 _ prev,
                  inr (0, refl, own-if (fires (codes "sched_switch") fields in_rule) cpu 1 _ next, inl (refl, tt)),
                ),
              ),
            ),
          ),
        )
