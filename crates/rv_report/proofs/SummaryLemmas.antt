-- The lines of the summary, one more monitor on.
use Rattle.std.proofs.Common.{◌≡◌, ℕ, ◌+◌, List, [], ◌∷◌, ◌++◌, ◌<◌, length, take, get_or, arith, ap, ◌∙◌, sym, append_assoc, append-nil}
use Rattle.std.proofs.lemmas.List.{take_more, length-take-le}
use Rattle.rv_model.specs.declared.record.Record.{Record}
use Rattle.rv_model.specs.declared.record.Task.{Task}
use Rattle.rv_model.specs.Reports.{Reported, summary_text, summaries_text}

-- the line of one more monitor
pub summaries-snoc : (tasks : List Task) (records : List Record) (first : ℕ) (monitors : List Reported) (m : Reported) → summaries_text tasks records first (monitors ++ m ∷ []) ≡ summaries_text tasks records first monitors ++ summary_text tasks records (first + length monitors) m
summaries-snoc tasks records first [] m =
    append-nil (summary_text tasks records first m) ∙ ap (λ (k : ℕ). summary_text tasks records k m) (let e : first ≡ first + 0 = omega arith in e)
summaries-snoc tasks records first (x ∷ monitors) m =
    let place : (first + 1) + length monitors ≡ first + length (x ∷ monitors) = omega arith in
    ap (λ (z : List ℕ). summary_text tasks records first x ++ z) (summaries-snoc tasks records (first + 1) monitors m ∙ ap (λ (k : ℕ). summaries_text tasks records (first + 1) monitors ++ summary_text tasks records k m) place)
    ∙ sym (append_assoc (summary_text tasks records first x) (summaries_text tasks records (first + 1) monitors) (summary_text tasks records (first + length (x ∷ monitors)) m))

-- the line of the next monitor of all
pub summaries-more : (tasks : List Task) (records : List Record) (all : List Reported) (place : ℕ) (m : Reported) → place < length all → get_or all place m ≡ m
    → summaries_text tasks records 0 (take (place + 1) all) ≡ summaries_text tasks records 0 (take place all) ++ summary_text tasks records place m
summaries-more tasks records all place m lt is =
    let front : 0 + length (take place all) ≡ place = let l = length-take-le place all (omega arith) in omega arith in
    ap (summaries_text tasks records 0) (take_more all place m lt ∙ ap (λ (x : Reported). take place all ++ x ∷ []) is) ∙ summaries-snoc tasks records 0 (take place all) m
    ∙ ap (λ (k : ℕ). summaries_text tasks records 0 (take place all) ++ summary_text tasks records k m) front
