-- Where all monitors are by CPU, the works of all CPUs are the parts of the whole.
use Rattle.std.proofs.Common.{◌≡◌, ℕ, suc, ◌+◌, ◌<◌, Bool, true, false, ◌==◌, ◌&&◌, not, List, [], ◌∷◌, map, arith, refl, sym, ap, ◌∙◌, subst}
use Rattle.std.specs.Prelude.{count_by, slice_range, All, Contains, if◌then◌else◌}
use Rattle.std.proofs.lemmas.List.Elements.{All-cons, All-map, All-contains, filter_passes}
use Rattle.rv_model.specs.declared.entry.Entry.{Entry}
use Rattle.rv_model.specs.declared.record.Task.{Task}
use Rattle.rv_model.specs.declared.work.Delivery.{Delivery}
use Rattle.rv_model.specs.declared.work.Turn.{Turn}
use Rattle.rv_model.specs.Histories.{Input, LinesApart}
use Rattle.rv_model.specs.Judging.{Judge}
use Rattle.rv_model.specs.Numbers.{list_of}
use Rattle.rv_model.specs.Works.{Work}
use Rattle.rv_model.proofs.FoundLemmas.{length-list_of, get_or-list_of}
use Rattle.rv_laws.specs.CpuParts.{same_numbers, of_cpu, is_of_cpu, cpu_part, CpuWorksAreParts}
use Rattle.rv_laws.specs.Joins.{KeepsAll}
use Rattle.rv_laws.specs.SingleWriter.{IsByCpu}
use Rattle.rv_laws.specs.Parts.{Placed, placed_of, placed_in, keeps, ArePlayed}
use Rattle.rv_laws.proofs.CountLemmas.{many, many-none, many-but, but}
use Rattle.rv_laws.proofs.CpuPartLemmas.{IsOwn, owns, kept-works, cpu_work_is_part}
use Rattle.rv_laws.proofs.ListLemmas.{Every, every-append}
use Rattle.rv_laws.proofs.Made.{placed_from}
use Rattle.rv_laws.proofs.RiseLemmas.{every-front, every-back, count-cons}

-- ---- lists of CPUs

-- a fact of the first n numbers
all-first : (P : ℕ → Type 0) (n : ℕ) → ((k : ℕ) → k < n → P k) → All P (list_of (λ i. i) n)
all-first P n each k d lt = let many_are = length-list_of (λ (i : ℕ). i) n in let below : k < n = omega arith in subst P (sym (get_or-list_of (λ (i : ℕ). i) n k d below)) (each k below)

-- a count of what a list was made into
count-made : {X Y : Type 0} (test : Y → Bool) (f : X → Y) (xs : List X) → count_by test (map f xs) ≡ count_by (λ x. test (f x)) xs
count-made test f [] = refl
count-made test f (x ∷ xs) = count-cons test (f x) (map f xs) ∙ ap (λ (n : ℕ). (if test (f x) then 1 else 0) + n) (count-made test f xs) ∙ sym (count-cons (λ y. test (f y)) x xs)

-- one of the first n numbers is this one
many-one : (instance n : ℕ) → instance < n → many (λ cpu. instance == cpu) n ≡ 1
many-one instance n lt =
    let self : (instance == instance) ≡ true = grind arith in
    let one = many-but (λ cpu. instance == cpu) instance n lt self in
    let rest = many-none (but (λ cpu. instance == cpu) instance) n (λ a below. none a) in
    omega arith
  where
    none : (a : ℕ) → ((instance == a) && not (a == instance)) ≡ false
    none a = go (instance == a) refl (a == instance) refl
      where
        go : (b : Bool) → (instance == a) ≡ b → (c : Bool) → (a == instance) ≡ c → ((instance == a) && not (a == instance)) ≡ false
        go true same true same' = rw (same, same') refl
        go true same false other = absurd (let e : instance ≡ a = grind arith in let yes' : (a == instance) ≡ true = grind arith in let no' : true ≡ false = sym yes' ∙ other in cc)
        go false other c is = rw other refl

-- ---- lines

-- the delivery is of a turn of its CPU's work, and to the CPU's own instance
record IsTurns (works : List Work) (p : Placed) : Type 0 where
  work : Work
  has : Contains works work
  turn : Turn
  has_turn : Contains work.turns turn
  line_is : turn.line ≡ p.line
  own : p.delivery.instance ≡ work.cpu

module _ (works : List Work) (w : Work) (has : Contains works w) where
  -- a delivery of the work's CPU, on a line
  abbrev place_at : ℕ → Delivery → Placed
  place_at line d = record { cpu = w.cpu; line = line; delivery = d }

  -- the delivery is to the CPU's instance
  abbrev HasOwn : Placed → Type 0
  HasOwn p = p.delivery.instance ≡ w.cpu

  -- of a turn
  turns-line : (t : Turn) → Contains w.turns t → (ds : List Delivery) → Every HasOwn (map (place_at t.line) ds)
      → Every (IsTurns works) (map (place_at t.line) ds)
  turns-line t in' [] own = tt
  turns-line t in' (d ∷ ds) own = (record { work = w; has = has; turn = t; has_turn = in'; line_is = refl; own = own.0 }, turns-line t in' ds own.1)

  -- of some turns
  turns-some : (some : List Turn) → ((t : Turn) → Contains some t → Contains w.turns t) → Every HasOwn (placed_from w.cpu w.deliveries some) → Every (IsTurns works) (placed_from w.cpu w.deliveries some)
  turns-some [] each own = tt
  turns-some (t ∷ some) each own =
      let line : List Placed = map (place_at t.line) (slice_range w.deliveries t.from t.to) in
      let rest : List Placed = placed_from w.cpu w.deliveries some in
      every-append (IsTurns works) line rest (turns-line t (each t (0, omega arith, refl)) (slice_range w.deliveries t.from t.to) (every-front HasOwn line rest own))
      (turns-some some (λ u has'. each u (suc (has'.0), (let l = has'.1 in omega arith), has'.2)) (every-back HasOwn line rest own))

-- of some works
turns-works : (works some : List Work) → ((w : Work) → Contains some w → Contains works w) → Every IsOwn some → Every (IsTurns works) (placed_in some)
turns-works works [] each own = tt
turns-works works (w ∷ some) each own =
    every-append (IsTurns works) (placed_of w) (placed_in some) (turns-some works w (each w (0, omega arith, refl)) w.turns (λ t has. has) own.0)
    (turns-works works some (λ v has. each v (suc (has.0), (let l = has.1 in omega arith), has.2)) own.1)

-- ---- the parts
module _ (input : Input) (js : List Judge) (h : List Entry) (tasks : List Task) (histories : ℕ → List Entry) (n : ℕ) (by : (monitor : ℕ) → IsByCpu input.works monitor) where
  -- each work is its CPU's own
  own : Every IsOwn input.works
  own = owns input.works by input.works (λ w has. has)

  -- a part keeps all that it has
  keeps-all : (cpu : ℕ) → KeepsAll (cpu_part input js tasks histories cpu)
  keeps-all cpu = subst (All (λ q. keeps (is_of_cpu cpu) q ≡ true)) (kept-works cpu input.works own) (filter_passes (keeps (is_of_cpu cpu)) (placed_in input.works))

  -- deliveries of one line are to one instance
  one-instance : LinesApart input.works → (p q : Placed) → Contains (placed_in input.works) p → Contains (placed_in input.works) q → p.line ≡ q.line → p.delivery.instance ≡ q.delivery.instance
  one-instance apart p q has has' same =
      let all : All (IsTurns input.works) (placed_in input.works) = all-of-every (IsTurns input.works) (placed_in input.works) (turns-works input.works input.works (λ w has''. has'') own) in
      let a = All-contains (IsTurns input.works) (placed_in input.works) p all has in
      let b = All-contains (IsTurns input.works) (placed_in input.works) q all has' in
      a.own ∙ apart a.work b.work a.turn b.turn a.has b.has a.has_turn b.has_turn (a.line_is ∙ same ∙ sym b.line_is) ∙ sym b.own
    where
      all-of-every : (P : Placed → Type 0) (ps : List Placed) → Every P ps → All P ps
      all-of-every P [] every = λ k d lt. absurd (omega arith)
      all-of-every P (x ∷ ps) every = All-cons P x ps every.0 (all-of-every P ps every.1)

-- the law
pub cpu_works_are_parts : CpuWorksAreParts
cpu_works_are_parts input js h tasks histories n plain by judges one each few orders =
    let part = cpu_part input js tasks histories in
    let numbers : List ℕ = list_of (λ cpu. cpu) n in
    record {
      are_parts = record {
        plain = plain;
        history = one;
        each = All-map (λ p. ArePlayed p.numbers p.keep input p.input js p.judges h p.history) part numbers
            (all-first (λ cpu. ArePlayed same_numbers (is_of_cpu cpu) input (of_cpu cpu input) js js h (histories cpu)) n (λ cpu lt. cpu_work_is_part input js h (histories cpu) cpu plain by judges one (each cpu lt)));
        once = λ monitor instance has. count-made (λ p. p.keep monitor instance) part numbers ∙ many-one instance n (let below = has.instance_below in let most = few monitor in omega arith);
        orders = orders;
      };
      all_kept = All-map KeepsAll part numbers (all-first (λ cpu. KeepsAll (part cpu)) n (λ cpu lt. keeps-all input js h tasks histories n by cpu));
      lines = λ p q has has' same.
          All-map (λ x. keeps x.keep p ≡ keeps x.keep q) part numbers
          (all-first (λ cpu. keeps (is_of_cpu cpu) p ≡ keeps (is_of_cpu cpu) q) n (λ cpu lt. ap (λ (i : ℕ). i == cpu) (one-instance input js h tasks histories n by plain.apart p q has has' same)));
    }
