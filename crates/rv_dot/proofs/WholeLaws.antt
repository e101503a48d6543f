-- The earlier refusals in their order, and the limit of size.
use Rattle.std.proofs.Common.{◌≡◌, ℕ, ◌<◌, ◌≤◌, Bool, true, false, List, length, Option, refl, ap, ◌∙◌, arith}
use Rattle.std.specs.Prelude.{nat_lt, ◌&&◌, Ok}
use Rattle.std.specs.List.{list_all}
use Rattle.std.proofs.lemmas.Bool.Decides.{nat_tests}
use Rattle.rv_text.specs.declared.refusals.Refused.{Refused}
use Rattle.rv_text.specs.declared.refusals.Refused.TheVariants.{Memory, Because}
use Rattle.rv_text.specs.declared.numbers.TheConstants.{DOT_SYNTAX}
use Rattle.rv_text.specs.Readings.{Refuses, refused_with}
use Rattle.rv_dot.specs.Text.{said_by}
use Rattle.rv_dot.specs.Statements.{Claim}
use Rattle.rv_dot.specs.Gathered.{targets_in, arcs_in, fits, events_fit, all_fit}
use Rattle.rv_dot.specs.Dot.{initial_of, with_initial, machine_of, machine_said, dot_of}

-- a statement that does not fit is refused
pub unfit_refused : (claims : List Claim) → list_all fits claims ≡ false → machine_of claims ≡ refused_with DOT_SYNTAX
unfolding machine_of
unfit_refused claims h = rw h refl

-- an event that has no event's name is refused
pub events_unfit : (claims : List Claim) → events_fit (arcs_in claims) ≡ false → machine_of claims ≡ refused_with DOT_SYNTAX
unfolding machine_of
events_unfit claims h = let unfit : all_fit claims ≡ false = ap (λ (t : Bool). list_all fits claims && t) h ∙ neither (list_all fits claims) in rw unfit refl
  where
    neither : (t : Bool) → (t && false) ≡ false
    neither true = refl
    neither false = refl

-- statements and events that fit
pub both_fit : (claims : List Claim) → list_all fits claims ≡ true → events_fit (arcs_in claims) ≡ true → all_fit claims ≡ true
both_fit claims h k = rw (h, k) refl

-- a refusal by the targets is the whole's
pub initial_refused : (claims : List Claim) (refused : Refused) → all_fit claims ≡ true → Refuses refused (initial_of (targets_in claims)) → Refuses refused (machine_of claims)
unfolding machine_of
initial_refused claims Memory fit h = tt
initial_refused claims (Because refusal) fit h = rw (fit, h) refl

-- from the one target on
pub from_initial : (claims : List Claim) (first : List ℕ) → all_fit claims ≡ true → initial_of (targets_in claims) ≡ Ok first → machine_of claims ≡ with_initial claims first
unfolding machine_of
from_initial claims first fit h = rw (fit, h) refl

-- a text of too many bytes is refused
pub long_refused : (bytes : List ℕ) → 1048576 < length bytes → dot_of bytes ≡ refused_with DOT_SYNTAX
unfolding dot_of
long_refused bytes h = let test : nat_lt 1048576 (length bytes) ≡ true = grind (arith, nat_tests) in rw test refl

-- a text of few bytes is read by its statements
pub short_read : (bytes : List ℕ) (said : Option (List Claim)) → length bytes ≤ 1048576 → said_by bytes ≡ said → dot_of bytes ≡ machine_said said
unfolding dot_of
short_read bytes said h e = let test : nat_lt 1048576 (length bytes) ≡ false = grind (arith, nat_tests) in rw test (ap machine_said e)
