-- The forms that the program reads as contracts see them, and what a monitor's and a rule's line make of the bindings.
use Rattle.std.specs.Prelude.{ℕ, IsTrue, List, Result}
use Rattle.std.specs.Option.{option_copied}
use Rattle.rv_ltl.specs.inner.Texts.{texts}
use Rattle.rv_bind.specs.declared.forms.Form.{Form}
use Rattle.rv_bind.specs.declared.forms.MonitorForm.{MonitorForm}
use Rattle.rv_bind.specs.declared.forms.OnForm.{OnForm}
use Rattle.rv_bind.specs.LineWords.{is_name}
use Rattle.rv_bind.specs.Bound.{SpecsIn, monitor_bound, monitor_named}
use Rattle.rv_bind.specs.MonitorLines.{rule_bound}
use Rattle.rv_bind.specs.Outcomes.{Outcome}
use Rattle.rv_bind.specs.Values.{BoundValue}
use Rattle.rv_bind.specs.declared.forms.Form.TheVariants as forms
use Rattle.rv_bind.specs.Forms.{FormValue, skipped, container, monitor, on, react, off, begin}

-- a form with the bytes of the words that it borrows
abbrev pub form_value : Form → FormValue
form_value forms.Skipped = skipped
form_value (forms.Container name) = container name.now
form_value (forms.Monitor m) = monitor m.name.now m.scope m.kind m.file.now (option_copied m.holder)
form_value (forms.On o) = on o.monitor.now o.event.now (option_copied o.by) o.tests.items o.mode (texts o.words.items)
form_value (forms.React name reactor) = react name.now reactor
form_value (forms.Off name) = off name.now
form_value (forms.Begin name atom) = begin name.now atom.now

-- the name that a line gives, if it gives one, is of the bytes of names
abbrev pub IsNamed : FormValue → Type 0
IsNamed skipped = Unit {0}
IsNamed (container name) = IsTrue (is_name name)
IsNamed (monitor name scope kind file holder) = IsTrue (is_name name)
IsNamed (on name event by tests mode words) = Unit {0}
IsNamed (react name reactor) = Unit {0}
IsNamed (off name) = Unit {0}
IsNamed (begin name atom) = Unit {0}

-- what a monitor's line makes of the bindings, or its refusal, or the missing file
abbrev pub monitor_said : SpecsIn → List ℕ → ℕ → BoundValue → MonitorForm → Outcome BoundValue
monitor_said specs here line bound m = monitor_bound specs here line bound m.name.now m.scope m.kind m.file.now (option_copied m.holder)

-- what a rule's line makes of the bindings, or the number of its refusal
abbrev pub rule_said : BoundValue → OnForm → Result BoundValue ℕ
rule_said bound o = rule_bound bound (monitor_named bound o.monitor.now) o.event.now (option_copied o.by) o.tests.items o.mode (texts o.words.items)
