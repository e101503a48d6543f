use Rattle.std.proofs.Common.{◌≡◌, []}
use Rattle.std.specs.Prelude.{slice_index_or}
use Rattle.std.specs.List.{list_any}
use Rattle.rv_model.specs.Numbers.{number_of}
use Rattle.rv_ltl.specs.inner.Texts.{texts}
use Rattle.rv_bind.specs.Changes.{is_signed_name}
use Rattle.rv_bind.proofs.changes.atoms_signed.Given as goal

abbrev pub invariant-loop-place : goal.invariant-loop-place
invariant-loop-place l = l.set ≡ number_of (λ place. list_any (is_signed_name l.sign (slice_index_or l.atoms place [])) (texts l.words)) l.place
