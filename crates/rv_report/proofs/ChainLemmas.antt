-- A text that grows by one text after another.
use Rattle.std.proofs.Common.{◌≡◌, ℕ, List, ◌++◌, ap, ◌∙◌, append_assoc}
use Rattle.std.specs.Prelude.{codes, decimal}
use Rattle.rv_model.specs.Reports.{line_end, count_text}

-- what is appended after x is appended with it
pub after : {m n : List ℕ} (o x y : List ℕ) → m ≡ o ++ x → n ≡ m ++ y → n ≡ o ++ (x ++ y)
after o x y first then_more = then_more ∙ ap (λ (z : List ℕ). z ++ y) first ∙ append_assoc o x y

-- four numbers, each after a text
pub count-is : {s t1 n1 t2 n2 t3 n3 t4 n4 end : List ℕ} (o shown : List ℕ) (i d f x : ℕ) → s ≡ o ++ shown
    → t1 ≡ s ++ codes ": instances " → n1 ≡ t1 ++ decimal i → t2 ≡ n1 ++ codes ", deliveries " → n2 ≡ t2 ++ decimal d
    → t3 ≡ n2 ++ codes ", failures " → n3 ≡ t3 ++ decimal f → t4 ≡ n3 ++ codes ", stopped " → n4 ≡ t4 ++ decimal x → end ≡ n4 ++ line_end
    → end ≡ o ++ count_text shown i d f x
count-is o shown i d f x es e1 f1 e2 f2 e3 f3 e4 f4 last =
    let z1 : List ℕ = shown ++ codes ": instances " in
    let z2 : List ℕ = z1 ++ decimal i ++ codes ", deliveries " in
    let z3 : List ℕ = z2 ++ decimal d ++ codes ", failures " in
    let z4 : List ℕ = z3 ++ decimal f ++ codes ", stopped " in
    let r1 = after o z1 (decimal i) (after o shown (codes ": instances ") es e1) f1 in
    let r2 = after o z2 (decimal d) (after o (z1 ++ decimal i) (codes ", deliveries ") r1 e2) f2 in
    let r3 = after o z3 (decimal f) (after o (z2 ++ decimal d) (codes ", failures ") r2 e3) f3 in
    let r4 = after o z4 (decimal x) (after o (z3 ++ decimal f) (codes ", stopped ") r3 e4) f4 in
    after o (z4 ++ decimal x) line_end r4 last
