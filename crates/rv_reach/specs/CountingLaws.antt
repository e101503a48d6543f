-- Counting over a history with one entry more. The law of what is observed cites this.
use Rattle.std.proofs.Common.{◌≡◌, ℕ, ◌+◌, Bool, true, false, ◌||◌, List, [], ◌∷◌, ◌++◌, reverse, refl, sym, ap, ◌∙◌, append_assoc, append-nil, add-zero, add_assoc, zero-add}
use Rattle.std.specs.Prelude.{count_by, if◌then◌else◌}
use Rattle.std.proofs.lemmas.List.{reverse-append}
use Rattle.std.proofs.lemmas.List.Sums.{sum_by-append}
use Rattle.rv_model.specs.declared.entry.Entry.{Entry}
use Rattle.rv_model.specs.Numbers.{one_if}
use Rattle.rv_reach.specs.Counting.{any_at, any_behind, count_at, count_behind}

-- what stands before the next entry, the newest first
back : (past : List Entry) (x : Entry) (h : List Entry) → reverse h ++ x ∷ past ≡ reverse (x ∷ h) ++ past
back past x h = sym (ap (λ (z : List Entry). z ++ past) (reverse-append (x ∷ []) h) ∙ append_assoc (reverse h) (x ∷ []) past)

-- at how many of the entries behind a past
count_behind-snoc : (holds : List Entry → Entry → Bool) (past h : List Entry) (e : Entry) → count_behind holds past (h ++ e ∷ []) ≡ count_behind holds past h + one_if (holds (reverse h ++ past) e)
count_behind-snoc holds past [] e = add-zero (one_if (holds past e)) ∙ sym (zero-add (one_if (holds past e)))
count_behind-snoc holds past (x ∷ h) e =
    let rest : count_behind holds (x ∷ past) (h ++ e ∷ []) ≡ count_behind holds (x ∷ past) h + one_if (holds (reverse (x ∷ h) ++ past) e) =
    count_behind-snoc holds (x ∷ past) h e ∙ ap (λ (z : List Entry). count_behind holds (x ∷ past) h + one_if (holds z e)) (back past x h) in
    ap (λ (n : ℕ). one_if (holds past x) + n) rest ∙ sym (add_assoc (one_if (holds past x)) (count_behind holds (x ∷ past) h) (one_if (holds (reverse (x ∷ h) ++ past) e)))

-- at how many entries
pub count_at-snoc : (holds : List Entry → Entry → Bool) (h : List Entry) (e : Entry) (b : Bool) → holds (reverse h) e ≡ b → count_at holds (h ++ e ∷ []) ≡ count_at holds h + one_if b
count_at-snoc holds h e b is =
    count_behind-snoc holds [] h e ∙ ap (λ (z : List Entry). count_at holds h + one_if (holds z e)) (append-nil (reverse h)) ∙ ap (λ (t : Bool). count_at holds h + one_if t) is

-- and at no more
pub count_at-none : (holds : List Entry → Entry → Bool) (h : List Entry) (e : Entry) → holds (reverse h) e ≡ false → count_at holds (h ++ e ∷ []) ≡ count_at holds h
count_at-none holds h e is = count_at-snoc holds h e false is ∙ add-zero (count_at holds h)

-- of three
or-assoc : (a b c : Bool) → (a || (b || c)) ≡ ((a || b) || c)
or-assoc true b c = refl
or-assoc false b c = refl

or-false : (b : Bool) → (b || false) ≡ b
or-false true = refl
or-false false = refl

-- at one of the entries behind a past
any_behind-snoc : (holds : List Entry → Entry → Bool) (past h : List Entry) (e : Entry) → any_behind holds past (h ++ e ∷ []) ≡ (any_behind holds past h || holds (reverse h ++ past) e)
any_behind-snoc holds past [] e = or-false (holds past e)
any_behind-snoc holds past (x ∷ h) e =
    ap (λ (b : Bool). holds past x || b) (any_behind-snoc holds (x ∷ past) h e ∙ ap (λ (z : List Entry). any_behind holds (x ∷ past) h || holds z e) (back past x h))
    ∙ or-assoc (holds past x) (any_behind holds (x ∷ past) h) (holds (reverse (x ∷ h) ++ past) e)

-- at one entry
pub any_at-snoc : (holds : List Entry → Entry → Bool) (h : List Entry) (e : Entry) (b : Bool) → holds (reverse h) e ≡ b → any_at holds (h ++ e ∷ []) ≡ (any_at holds h || b)
any_at-snoc holds h e b is = any_behind-snoc holds [] h e ∙ ap (λ (z : List Entry). any_at holds h || holds z e) (append-nil (reverse h)) ∙ ap (λ (t : Bool). any_at holds h || t) is

pub any_at-none : (holds : List Entry → Entry → Bool) (h : List Entry) (e : Entry) → holds (reverse h) e ≡ false → any_at holds (h ++ e ∷ []) ≡ any_at holds h
any_at-none holds h e is = any_at-snoc holds h e false is ∙ or-false (any_at holds h)

-- of how many entries
pub count_by-snoc : (holds : Entry → Bool) (h : List Entry) (e : Entry) (b : Bool) → holds e ≡ b → count_by holds (h ++ e ∷ []) ≡ count_by holds h + one_if b
count_by-snoc holds h e b is =
    let more : count_by holds (h ++ e ∷ []) ≡ count_by holds h + (0 + one_if (holds e)) = sum_by-append (λ x. if holds x then 1 else 0) h (e ∷ []) in
    more ∙ ap (λ (n : ℕ). count_by holds h + n) (zero-add (one_if (holds e))) ∙ ap (λ (t : Bool). count_by holds h + one_if t) is

-- and of no more
pub count_by-none : (holds : Entry → Bool) (h : List Entry) (e : Entry) → holds e ≡ false → count_by holds (h ++ e ∷ []) ≡ count_by holds h
count_by-none holds h e is = count_by-snoc holds h e false is ∙ add-zero (count_by holds h)
