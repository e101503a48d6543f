-- What a run keeps: its history has begun, and each script stands where it says.
use Rattle.std.proofs.Common.{◌≡◌, ℕ, ◌+◌, ◌<◌, List, [], length, reverse, get_or, arith, sym, ap, ◌∙◌, subst, append-nil, All}
use Rattle.std.specs.Prelude.{Any, replicate}
use Rattle.std.proofs.lemmas.List.{get_or_default, length-replicate, get_or-replicate}
use Rattle.std.proofs.lemmas.List.Elements.{All-get_or, All-from_get_or}
use Rattle.rv_model.specs.declared.entry.Entry.{Entry}
use Rattle.rv_model.specs.Histories.{IsJustifiedBy, IsPermittedTo}
use Rattle.rv_model.specs.Numbers.{has_bit}
use Rattle.rv_model.specs.Scripts.{played, Plays}
use Rattle.rv_model.specs.Setups.{Setup}
use Rattle.rv_model.specs.Works.{Work}
use Rattle.rv_model.proofs.CutLemmas.{at_each-nil}
use Rattle.rv_core.specs.Core.{IsCore}
use Rattle.rv_core.specs.Setup.{judges_of}
use Rattle.rv_check.specs.declared.next.Next.{Next}
use Rattle.rv_check.specs.declared.next.Next.TheVariants as next
use Rattle.rv_check.specs.Beginnings.{HasBegun, IsBeginning, FitWorks, FitsWork}
use Rattle.rv_check.specs.inner.Nexts.{MayEnd}
use Rattle.rv_check.specs.inner.Standing.{Stands, IsRun}
use Rattle.rv_check.proofs.TurnLemmas.{some-may, ends-may, may-ends}

-- where there is no work
abbrev pub no_work : Work
no_work = record { cpu = 0; turns = []; deliveries = [] }

-- the work at a place, and what is next for it
pub record IsAt (works : List Work) (nexts : List Next) (k : ℕ) (w : Work) (n : Next) : Type 0 where
  pub inside : k < length works
  pub work : w ≡ get_or works k w
  pub is_next : n ≡ get_or nexts k n

-- the work that was found is the seat's
pub found-work : (works : List Work) (seat : ℕ) (found : List Work) (k : ℕ) (w : Work) → found ≡ works → k < length found → ((d : Work) → 2 + (get_or found k d).cpu ≡ seat) → w ≡ get_or works k w → (k < length works) × (2 + w.cpu ≡ seat)
found-work works seat found k w same lt cpus is =
    (subst (λ (ws : List Work). k < length ws) same lt, ap (λ (v : Work). 2 + v.cpu) (is ∙ ap (λ (ws : List Work). get_or ws k w) (sym same)) ∙ cpus w)

module _ {s : Setup} {panics : ℕ} {works : List Work} {words : List ℕ} {nexts : List Next} {h : List Entry} (run : IsRun s panics works words nexts h) where
  -- its history is a beginning
  pub run-begins : IsBeginning s (judges_of s) (has_bit panics) works h
  run-begins = record {
    sound = run.sound;
    cpus = All-from_get_or (λ w. HasBegun s (has_bit panics) w (played s (judges_of s) (2 + w.cpu) (reverse h))) works no_work (λ k lt.
        let stand = run.stand k no_work lt in
        let some = some-may s (has_bit panics) (get_or works k no_work) (get_or nexts k next.Over) in
        (some.0, stand.only some.0 some.1));
    nobody_else = run.nobody_else;
  }

  -- the scripts that may end here are whole
  pub all-end : ((k : ℕ) → k < length works → MayEnd (get_or works k no_work) (get_or nexts k next.Over)) → All (λ w. Plays s (has_bit panics) w (played s (judges_of s) (2 + w.cpu) (reverse h))) works
  all-end ends = All-from_get_or (λ w. Plays s (has_bit panics) w (played s (judges_of s) (2 + w.cpu) (reverse h))) works no_work (λ k lt.
      let w : Work = get_or works k no_work in
      subst (Plays s (has_bit panics) w) (append-nil (played s (judges_of s) (2 + w.cpu) (reverse h))) ((run.stand k no_work lt).only [] (ends-may s (has_bit panics) w (get_or nexts k next.Over) (ends k lt))))

  -- a place among the works, and what stands there
  module _ {k : ℕ} {w : Work} {n : Next} (at : IsAt works nexts k w n) where
    -- there is a next for it
    lt_nexts : k < length nexts
    lt_nexts = let c = run.count in let lt = at.inside in omega arith

    -- its script stands where it says
    pub stand-at : Stands s (judges_of s) (has_bit panics) h w n
    stand-at =
        let there : get_or nexts k next.Over ≡ n = get_or_default nexts k next.Over n lt_nexts ∙ sym at.is_next in
        subst (λ (m : Next). Stands s (judges_of s) (has_bit panics) h w m) there (subst (λ (v : Work). Stands s (judges_of s) (has_bit panics) h v (get_or nexts k next.Over)) (sym at.work) (run.stand k w at.inside))

    -- it fits
    pub fits-at : FitsWork s w
    fits-at = subst (FitsWork s) (sym at.work) (All-get_or (FitsWork s) works k w at.inside run.fit.fit)

    -- a script that may not end here is not whole
    pub not-whole : (MayEnd w n → ⊥) → All (λ w. Plays s (has_bit panics) w (played s (judges_of s) (2 + w.cpu) (reverse h))) works → ⊥
    not-whole goes all =
        let P : Work → Type 0 = λ w. Plays s (has_bit panics) w (played s (judges_of s) (2 + w.cpu) (reverse h)) in
        let plays : P w = subst P (sym at.work) (All-get_or P works k w at.inside all) in
        goes (may-ends s (has_bit panics) w n stand-at.is_next (stand-at.may [] (subst (Plays s (has_bit panics) w) (sym (append-nil (played s (judges_of s) (2 + w.cpu) (reverse h)))) plays)))

-- a run without an entry
pub run-opens : (s : Setup) (panics : ℕ) (works : List Work) (words : List ℕ) → IsCore s words [] → FitWorks s works → IsRun s panics works words (replicate (length works) (next.Look 0)) []
run-opens s panics works words core fit = record {
  core = core;
  fit = fit;
  count = length-replicate (length works) (next.Look 0);
  stand = λ k d lt.
      subst (λ (n : Next). Stands s (judges_of s) (has_bit panics) [] (get_or works k d) n) (sym (get_or-replicate (length works) k (next.Look 0) next.Over lt))
      (record { is_next = tt; counted = tt; may = λ ps h. h; only = λ ps h. h });
  sound = record {
    replays = core.replays;
    justified = at_each-nil (λ before e. IsJustifiedBy e.act e.seat before);
    permitted = at_each-nil (λ before e. (e.seat < 67) × IsPermittedTo e.act e.seat);
  };
  nobody_else = at_each-nil (λ before e. Any (λ w. e.seat ≡ 2 + w.cpu) works);
}
