-- The generated bindings are accepted, line by line.
use Rattle.std.proofs.Common.{◌≡◌, ◌≤◌, ℕ, zero, suc, List, [], ◌∷◌, length, refl, ap, ◌∙◌, arith}
use Rattle.std.specs.Prelude.{codes, None, Result, Ok}
use Rattle.std.specs.Str.{IsAscii}
use Rattle.std.proofs.lemmas.Str.{IsUtf8-from_ascii, is_utf8-from_IsUtf8}
use Rattle.rv_text.specs.declared.refusals.Refusal.{Refusal}
use Rattle.std.proofs.lemmas.List.{take_all}
use Rattle.rv_text.specs.Places.{least, run_end}
use Rattle.rv_text.specs.Readings.{and_then}
use Rattle.rv_text.specs.TextLines.{LineText, select, line_end, lines_at, lines_from, lines_of}
use Rattle.rv_text.specs.Words.{words_of, words_from}
use Rattle.rv_io.specs.Files.{Files, front_read}
use Rattle.rv_io.specs.declared.store.TheConstants.{READ_LIMIT}
use Rattle.rv_model.specs.declared.formula.Spec.TheVariants as specs
use Rattle.rv_model.specs.declared.kind.SpecKind.TheVariants as kinds
use Rattle.rv_model.specs.declared.work.Scope.TheVariants as scopes
use Rattle.rv_model.specs.Machine.{Machine}
use Rattle.rv_model.specs.Table.{table_of}
use Rattle.rv_dot.specs.Canonical.{dot_text}
use Rattle.rv_dot.specs.Dot.{dot_of}
use Rattle.rv_gen.specs.Generated.{bindings_text, wip, wwnr, trace_text}
use Rattle.rv_gen.proofs.ReadLemmas.{wip_read, wwnr_read}
use Rattle.rv_bind.specs.declared.bindings.Item.TheVariants as items
use Rattle.rv_bind.specs.Bound.{bound_of, form_bound, form_in, line_bound, lines_bound, nothing_bound, with_monitor}
use Rattle.rv_bind.specs.Forms.{monitor}
use Rattle.rv_bind.specs.LineWords.{after, when}
use Rattle.rv_bind.specs.Outcomes.{Outcome, accepted, reading, of_file, of_line}
use Rattle.rv_bind.specs.Values.{BoundValue, OnValue}
use Rattle.rv_tool.specs.Loaded.{named_files}
use Rattle.rv_generated.specs.GeneratedBound.{wip_monitor, wwnr_monitor, disable_rule, enable_rule, waking_rule, sleep_rule, out_rule, in_rule, wakeup_rule, generated_bound}
use Rattle.rv_tool.specs.GeneratedBound.{LoadIsBound}

-- one read gives the whole of a short text
pub front-short : (text : List ℕ) → length text ≤ READ_LIMIT → front_read text ≡ text
unfolding front_read
front-short text short = take_all READ_LIMIT text short

-- the bindings are short
bindings-whole : front_read bindings_text ≡ bindings_text
bindings-whole = front-short bindings_text (omega arith)

-- wip is short
wip-whole : front_read (dot_text wip) ≡ dot_text wip
unfolding dot_text
wip-whole = front-short (dot_text wip) (omega arith)

-- wwnr is short
wwnr-whole : front_read (dot_text wwnr) ≡ dot_text wwnr
unfolding dot_text
wwnr-whole = front-short (dot_text wwnr) (omega arith)

-- wip is read of its file
wip-given : dot_of (front_read (dot_text wip)) ≡ Ok wip
wip-given = ap dot_of wip-whole ∙ wip_read

-- wwnr is read of its file
wwnr-given : dot_of (front_read (dot_text wwnr)) ≡ Ok wwnr
wwnr-given = ap dot_of wwnr-whole ∙ wwnr_read

-- a reader goes on with what is made of an automaton that was read
goes_on : {C : Type 0} (next : C → Outcome BoundValue) (make : Machine → C) (file : List ℕ) (read : Result Machine Refusal) (automaton : Machine) → read ≡ Ok automaton
    → reading (of_file file (and_then read (λ a. Ok (make a)))) next ≡ next (make automaton)
goes_on next make file read automaton is = ap (λ r. reading (of_file file (and_then r (λ a. Ok (make a)))) next) is

-- line 1
abbrev wip_line : LineText
wip_line = record { number = 1; from = 0; bytes = codes "monitor wip cpu da wip.dot"; end = 27 }

-- line 2
abbrev disable_line : LineText
disable_line = record { number = 2; from = 27; bytes = codes "on wip preempt_disable : event preempt_disable"; end = 74 }

-- line 3
abbrev enable_line : LineText
enable_line = record { number = 3; from = 74; bytes = codes "on wip preempt_enable : start preempt_enable"; end = 119 }

-- line 4
abbrev waking_line : LineText
waking_line = record { number = 4; from = 119; bytes = codes "on wip sched_waking : event sched_waking"; end = 160 }

-- line 5
abbrev wwnr_line : LineText
wwnr_line = record { number = 5; from = 160; bytes = codes "monitor wwnr task da wwnr.dot"; end = 190 }

-- line 6
abbrev sleep_line : LineText
sleep_line = record { number = 6; from = 190; bytes = codes "on wwnr sched_switch by prev_pid if prev_state=S : start switch_out"; end = 258 }

-- line 7
abbrev out_line : LineText
out_line = record { number = 7; from = 258; bytes = codes "on wwnr sched_switch by prev_pid if prev_state!=S : event switch_out"; end = 327 }

-- line 8
abbrev in_line : LineText
in_line = record { number = 8; from = 327; bytes = codes "on wwnr sched_switch by next_pid : event switch_in"; end = 378 }

-- line 9
abbrev wakeup_line : LineText
wakeup_line = record { number = 9; from = 378; bytes = codes "on wwnr sched_wakeup by pid : event wakeup"; end = 421 }

-- these are all lines
bindings-lines : lines_of bindings_text ≡ wip_line ∷ disable_line ∷ enable_line ∷ waking_line ∷ wwnr_line ∷ sleep_line ∷ out_line ∷ in_line ∷ wakeup_line ∷ []
unfolding lines_of lines_from lines_at select line_end least
bindings-lines = refl

-- the file name of wip is ASCII
wip-ascii : IsAscii (codes "wip.dot")
wip-ascii zero = omega arith
wip-ascii (suc zero) = omega arith
wip-ascii (suc (suc zero)) = omega arith
wip-ascii (suc (suc (suc zero))) = omega arith
wip-ascii (suc (suc (suc (suc zero)))) = omega arith
wip-ascii (suc (suc (suc (suc (suc zero))))) = omega arith
wip-ascii (suc (suc (suc (suc (suc (suc zero)))))) = omega arith
wip-ascii (suc (suc (suc (suc (suc (suc (suc i))))))) = omega arith

-- the file name of wwnr is ASCII
wwnr-ascii : IsAscii (codes "wwnr.dot")
wwnr-ascii zero = omega arith
wwnr-ascii (suc zero) = omega arith
wwnr-ascii (suc (suc zero)) = omega arith
wwnr-ascii (suc (suc (suc zero))) = omega arith
wwnr-ascii (suc (suc (suc (suc zero)))) = omega arith
wwnr-ascii (suc (suc (suc (suc (suc zero))))) = omega arith
wwnr-ascii (suc (suc (suc (suc (suc (suc zero)))))) = omega arith
wwnr-ascii (suc (suc (suc (suc (suc (suc (suc zero))))))) = omega arith
wwnr-ascii (suc (suc (suc (suc (suc (suc (suc (suc i)))))))) = omega arith

-- the form of the line of wip
wip-form : form_in wip_line ≡ Ok (monitor (codes "wip") scopes.Cpu kinds.Da (codes "wip.dot") None)
unfolding words_of words_from select run_end least
wip-form = ap (λ b. after (when b (codes "wip.dot")) (λ text. Ok (monitor (codes "wip") scopes.Cpu kinds.Da text None))) (is_utf8-from_IsUtf8 (codes "wip.dot") (IsUtf8-from_ascii (codes "wip.dot") wip-ascii))

-- the form of the line of wwnr
wwnr-form : form_in wwnr_line ≡ Ok (monitor (codes "wwnr") scopes.Task kinds.Da (codes "wwnr.dot") None)
unfolding words_of words_from select run_end least
wwnr-form = ap (λ b. after (when b (codes "wwnr.dot")) (λ text. Ok (monitor (codes "wwnr") scopes.Task kinds.Da text None))) (is_utf8-from_IsUtf8 (codes "wwnr.dot") (IsUtf8-from_ascii (codes "wwnr.dot") wwnr-ascii))

-- the bindings of the first monitor alone
abbrev first_bound : List OnValue → BoundValue
first_bound rules = record { containers = []; monitors = wip_monitor ∷ []; rules = rules; items = items.Monitor 0 ∷ []; tables = table_of wip ∷ [] }

-- the bindings of both monitors
abbrev both_bound : List OnValue → BoundValue
both_bound rules = record { containers = []; monitors = wip_monitor ∷ wwnr_monitor ∷ []; rules = rules; items = items.Monitor 0 ∷ items.Monitor 1 ∷ []; tables = table_of wip ∷ table_of wwnr ∷ [] }

module _ (trace : List ℕ) where
  -- the generated files
  abbrev files : Files
  files = named_files bindings_text (dot_text wip) (dot_text wwnr) trace

  -- the name of the bindings
  abbrev here : List ℕ
  here = codes "gen.rv"

  -- one line is accepted, and then those behind it
  step : (bound next : BoundValue) (line : LineText) (lines : List LineText) (all : Outcome BoundValue) → line_bound files here bound line ≡ accepted next → lines_bound files here next lines ≡ all → lines_bound files here bound (line ∷ lines) ≡ all
  step bound next line lines all one later = ap (λ o. reading o (λ n. lines_bound files here n lines)) one ∙ later

  -- the first monitor
  wip-bound : line_bound files here nothing_bound wip_line ≡ accepted (first_bound [])
  wip-bound =
      ap (λ f. reading (of_line here 1 f) (form_bound files here 1 nothing_bound)) wip-form
      ∙ goes_on (λ made. accepted (with_monitor nothing_bound (codes "wip") None scopes.Cpu (codes "wip.dot") made)) (λ a. record { spec = specs.Da a; table = table_of a }) (codes "wip.dot") (dot_of (front_read (dot_text wip))) wip wip-given

  -- rule 1
  rule-1 : line_bound files here (first_bound ([])) disable_line ≡ accepted (first_bound (disable_rule ∷ []))
  unfolding words_of words_from select run_end least
  rule-1 = refl

  -- rule 2
  rule-2 : line_bound files here (first_bound (disable_rule ∷ [])) enable_line ≡ accepted (first_bound (disable_rule ∷ enable_rule ∷ []))
  unfolding words_of words_from select run_end least
  rule-2 = refl

  -- rule 3
  rule-3 : line_bound files here (first_bound (disable_rule ∷ enable_rule ∷ [])) waking_line ≡ accepted (first_bound (disable_rule ∷ enable_rule ∷ waking_rule ∷ []))
  unfolding words_of words_from select run_end least
  rule-3 = refl

  -- the second monitor
  wwnr-bound : line_bound files here (first_bound (disable_rule ∷ enable_rule ∷ waking_rule ∷ [])) wwnr_line ≡ accepted (both_bound (disable_rule ∷ enable_rule ∷ waking_rule ∷ []))
  wwnr-bound =
      ap (λ f. reading (of_line here 5 f) (form_bound files here 5 (first_bound (disable_rule ∷ enable_rule ∷ waking_rule ∷ [])))) wwnr-form
      ∙ goes_on (λ made. accepted (with_monitor (first_bound (disable_rule ∷ enable_rule ∷ waking_rule ∷ [])) (codes "wwnr") None scopes.Task (codes "wwnr.dot") made)) (λ a. record { spec = specs.Da a; table = table_of a }) (codes "wwnr.dot") (dot_of (front_read (dot_text wwnr))) wwnr wwnr-given

  -- rule 4
  rule-4 : line_bound files here (both_bound (disable_rule ∷ enable_rule ∷ waking_rule ∷ [])) sleep_line ≡ accepted (both_bound (disable_rule ∷ enable_rule ∷ waking_rule ∷ sleep_rule ∷ []))
  unfolding words_of words_from select run_end least
  rule-4 = refl

  -- rule 5
  rule-5 : line_bound files here (both_bound (disable_rule ∷ enable_rule ∷ waking_rule ∷ sleep_rule ∷ [])) out_line ≡ accepted (both_bound (disable_rule ∷ enable_rule ∷ waking_rule ∷ sleep_rule ∷ out_rule ∷ []))
  unfolding words_of words_from select run_end least
  rule-5 = refl

  -- rule 6
  rule-6 : line_bound files here (both_bound (disable_rule ∷ enable_rule ∷ waking_rule ∷ sleep_rule ∷ out_rule ∷ [])) in_line ≡ accepted (both_bound (disable_rule ∷ enable_rule ∷ waking_rule ∷ sleep_rule ∷ out_rule ∷ in_rule ∷ []))
  unfolding words_of words_from select run_end least
  rule-6 = refl

  -- rule 7
  rule-7 : line_bound files here (both_bound (disable_rule ∷ enable_rule ∷ waking_rule ∷ sleep_rule ∷ out_rule ∷ in_rule ∷ [])) wakeup_line ≡ accepted (both_bound (disable_rule ∷ enable_rule ∷ waking_rule ∷ sleep_rule ∷ out_rule ∷ in_rule ∷ wakeup_rule ∷ []))
  unfolding words_of words_from select run_end least
  rule-7 = refl

  -- all lines
  all-bound : lines_bound files here nothing_bound (wip_line ∷ disable_line ∷ enable_line ∷ waking_line ∷ wwnr_line ∷ sleep_line ∷ out_line ∷ in_line ∷ wakeup_line ∷ []) ≡ accepted generated_bound
  all-bound =
      step nothing_bound (first_bound []) wip_line (disable_line ∷ enable_line ∷ waking_line ∷ wwnr_line ∷ sleep_line ∷ out_line ∷ in_line ∷ wakeup_line ∷ []) (accepted generated_bound) wip-bound
      (step (first_bound []) (first_bound (disable_rule ∷ [])) disable_line (enable_line ∷ waking_line ∷ wwnr_line ∷ sleep_line ∷ out_line ∷ in_line ∷ wakeup_line ∷ []) (accepted generated_bound) rule-1
      (step (first_bound (disable_rule ∷ [])) (first_bound (disable_rule ∷ enable_rule ∷ [])) enable_line (waking_line ∷ wwnr_line ∷ sleep_line ∷ out_line ∷ in_line ∷ wakeup_line ∷ []) (accepted generated_bound) rule-2
      (step (first_bound (disable_rule ∷ enable_rule ∷ [])) (first_bound (disable_rule ∷ enable_rule ∷ waking_rule ∷ [])) waking_line (wwnr_line ∷ sleep_line ∷ out_line ∷ in_line ∷ wakeup_line ∷ []) (accepted generated_bound) rule-3
      (step (first_bound (disable_rule ∷ enable_rule ∷ waking_rule ∷ [])) (both_bound (disable_rule ∷ enable_rule ∷ waking_rule ∷ [])) wwnr_line (sleep_line ∷ out_line ∷ in_line ∷ wakeup_line ∷ []) (accepted generated_bound) wwnr-bound
      (step (both_bound (disable_rule ∷ enable_rule ∷ waking_rule ∷ [])) (both_bound (disable_rule ∷ enable_rule ∷ waking_rule ∷ sleep_rule ∷ [])) sleep_line (out_line ∷ in_line ∷ wakeup_line ∷ []) (accepted generated_bound) rule-4
      (step (both_bound (disable_rule ∷ enable_rule ∷ waking_rule ∷ sleep_rule ∷ [])) (both_bound (disable_rule ∷ enable_rule ∷ waking_rule ∷ sleep_rule ∷ out_rule ∷ [])) out_line (in_line ∷ wakeup_line ∷ []) (accepted generated_bound) rule-5
      (step (both_bound (disable_rule ∷ enable_rule ∷ waking_rule ∷ sleep_rule ∷ out_rule ∷ [])) (both_bound (disable_rule ∷ enable_rule ∷ waking_rule ∷ sleep_rule ∷ out_rule ∷ in_rule ∷ [])) in_line (wakeup_line ∷ []) (accepted generated_bound) rule-6
      (step (both_bound (disable_rule ∷ enable_rule ∷ waking_rule ∷ sleep_rule ∷ out_rule ∷ in_rule ∷ [])) (both_bound (disable_rule ∷ enable_rule ∷ waking_rule ∷ sleep_rule ∷ out_rule ∷ in_rule ∷ wakeup_rule ∷ [])) wakeup_line [] (accepted generated_bound) rule-7 refl))))))))

  -- the whole file
  file-bound : bound_of files here ≡ accepted generated_bound
  file-bound = ap (λ t. lines_bound files here nothing_bound (lines_of t)) bindings-whole ∙ ap (lines_bound files here nothing_bound) bindings-lines ∙ all-bound

-- with a trace of any number of blocks
pub load_bound : LoadIsBound
load_bound blocks = file-bound (trace_text blocks)
