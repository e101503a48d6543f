-- How readings join, and which way a test in one went.
use Rattle.std.proofs.Common.{◌≡◌, Bool, true, false, cond, List, [], ◌++◌, append_assoc, Option, Some, None, Result, Ok, Err, refl, sym, ap, ◌⊎◌, inl, inr}
use Rattle.std.specs.Option.{option_map, option_and_then}
use Rattle.rv_text.specs.declared.refusals.Refusal.{Refusal}
use Rattle.rv_text.specs.declared.refusals.Refused.{Refused}
use Rattle.rv_text.specs.declared.refusals.Refused.TheVariants as refuseds
use Rattle.rv_text.specs.Readings.{Refuses, and_then, onto}

-- a refusal stays the refusal, whatever would be read next
pub Refuses-and_then : {X Y : Type 0} (refused : Refused) (read : Result X Refusal) (next : X → Result Y Refusal) → Refuses refused read → Refuses refused (and_then read next)
Refuses-and_then refuseds.Memory read next is = tt
Refuses-and_then (refuseds.Because refusal) read next is = ap (λ r. and_then r next) is

-- a refusal holds of an equal reading
pub Refuses-same : {Y : Type 0} (refused : Refused) (read other : Result Y Refusal) → other ≡ read → Refuses refused read → Refuses refused other
Refuses-same refuseds.Memory read other same is = tt
Refuses-same (refuseds.Because refusal) read other same is = rw same is

-- reading on from a value
pub and_then-ok : {X Y : Type 0} (read : Result X Refusal) (x : X) (next : X → Result Y Refusal) → read ≡ Ok x → and_then read next ≡ next x
and_then-ok read x next is = ap (λ r. and_then r next) is

-- a step before another two
pub and_then-and_then : {X Y Z : Type 0} (read : Result X Refusal) (f : X → Result Y Refusal) (g : Y → Result Z Refusal) → and_then (and_then read f) g ≡ and_then read (λ x. and_then (f x) g)
and_then-and_then (Ok x) f g = refl
and_then-and_then (Err refusal) f g = refl

-- items behind items are one list of them
pub onto-onto : {X : Type 0} (items more : List X) (later : Result (List X) Refusal) → onto items (onto more later) ≡ onto (items ++ more) later
onto-onto items more (Err refusal) = refl
onto-onto items more (Ok later) = ap Ok (sym (append_assoc items more later))

-- nothing in front changes nothing
pub onto-none : {X : Type 0} (later : Result (List X) Refusal) → later ≡ onto [] later
onto-none (Err refusal) = refl
onto-none (Ok later) = refl

-- what gave a value in two steps gave one in the first
pub bind_some : {A B : Type 0} (o : Option A) (f : A → Option B) (y : B) → option_and_then f o ≡ Some y → (x : A) × (o ≡ Some x) × (f x ≡ Some y)
bind_some None f y is = absurd (cc)
bind_some (Some x) f y is = (x, refl, is)

-- what gave a value by a map had one
pub map_some : {A B : Type 0} (o : Option A) (f : A → B) (y : B) → option_map f o ≡ Some y → (x : A) × (o ≡ Some x) × (f x ≡ y)
map_some None f y is = absurd (cc)
map_some (Some x) f y is = (x, refl, cc)

-- what gave a value in two readings gave one in the first
pub and_then_ok : {X Y : Type 0} (read : Result X Refusal) (next : X → Result Y Refusal) (y : Y) → and_then read next ≡ Ok y → (x : X) × (read ≡ Ok x) × (next x ≡ Ok y)
and_then_ok (Ok x) next y is = (x, refl, is)
and_then_ok (Err refusal) next y is = absurd (cc)

-- which way a test went
pub chosen : {A : Type 0} (b : Bool) (x y z : A) → cond b x y ≡ z → ((b ≡ true) × (x ≡ z)) ⊎ ((b ≡ false) × (y ≡ z))
chosen true x y z is = inl (refl, is)
chosen false x y z is = inr (refl, is)

-- a test that passed, or failed, chooses
pub chosen-true : {A : Type 0} (b : Bool) (x y : A) → b ≡ true → cond b x y ≡ x
chosen-true b x y passed = ap (λ v. cond v x y) passed

-- a test that failed chooses the second
pub chosen-false : {A : Type 0} (b : Bool) (x y : A) → b ≡ false → cond b x y ≡ y
chosen-false b x y failed = ap (λ v. cond v x y) failed
