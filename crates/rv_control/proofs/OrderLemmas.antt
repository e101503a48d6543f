-- A text that begins with `!`.
use Rattle.std.proofs.Common.{◌≡◌, ℕ, ◌-◌, ◌<◌, cond, List, [], ◌∷◌, length, get_or, take, drop, sym, ap, ◌∙◌, arith}
use Rattle.std.specs.Prelude.{option_map}
use Rattle.std.proofs.lemmas.Bool.{eq-eqb}
use Rattle.std.proofs.lemmas.List.{take_rest}
use Rattle.rv_control.specs.declared.orders.Order.TheVariants as orders
use Rattle.rv_control.specs.Trees.{ControlValue}
use Rattle.rv_control.specs.Paths.{item_named}
use Rattle.rv_control.specs.Effects.{order_of}

-- it disables what is named behind the `!`
pub order-disables : (tree : ControlValue) (text : List ℕ) → 0 < length text → get_or text 0 0 ≡ 33 → option_map orders.Disable (item_named tree (take (length text - 1) (drop 1 text))) ≡ order_of tree text
order-disables tree [] some first = absurd (omega arith)
order-disables tree (byte ∷ bytes) some first =
    ap (λ (name : List ℕ). option_map orders.Disable (item_named tree name)) (take_rest (byte ∷ bytes) 1)
    ∙ sym (ap (λ b. cond b (option_map orders.Disable (item_named tree bytes)) (option_map orders.Enable (item_named tree (byte ∷ bytes)))) (eq-eqb byte 33 first))
