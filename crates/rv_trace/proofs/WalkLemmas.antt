-- What the word that begins at a place tells of the fields that are wanted.
use Rattle.std.proofs.Common.{◌≡◌, ◌≢◌, ℕ, ◌+◌, ◌-◌, ◌<◌, ◌≤◌, inl, inr, Bool, true, false, eqb, List, length, get_or, take, drop, Option, Some, None, refl, sym, ◌∙◌, ap, ap₂, subst, arith, take-take}
use Rattle.std.specs.Prelude.{slice_get, All, Vec, if◌then◌else◌}
use Rattle.std.specs.List.{slice_range}
use Rattle.std.specs.Option.{option_or}
use Rattle.std.specs.BTreeMap.{BTreeMap}
use Rattle.std.specs.declared.alloc.Global.{Global}
use Rattle.std.proofs.lemmas.Bool.{false≢true, and_from, and_parts, cases_lt, cases_Bool, not-true, not-false, eqb-true, eqb-false}
use Rattle.std.proofs.lemmas.List.{get_or-take, get_or-drop, length-take-le, length-drop}
use Rattle.std.proofs.lemmas.List.Folds.{list_all_at}
use Rattle.std.proofs.lemmas.Option.{slice_get_within, get_or_from_slice_get}
use Rattle.std.proofs.lemmas.Slice.Eq.{bytes_eq-Decides}
use Rattle.rv_text.specs.Places.{run_end, is_blank, between}
use Rattle.rv_text.specs.declared.runs.ByteClass.TheVariants as kinds
use Rattle.rv_text.proofs.LeastLemmas.{run_end-is, run_end-high, run_end-each, run_end-stop}
use Rattle.rv_trace.specs.declared.line.Span.{Span}
use Rattle.rv_trace.specs.Fields.{is_named, value_from}
use Rattle.rv_trace.specs.FoundFields.{found_at, IsInside}
use Rattle.rv_trace.specs.inner.Noting.{AllInside, IsNotedAt}
use Rattle.rv_trace.specs.FieldNames.{is_plain_byte, IsPlain, ArePlaces, place_in}
use Rattle.rv_trace.specs.inner.Naming.{word_field, TakesWord}
use Rattle.rv_trace.proofs.FieldLemmas.{past-named}

-- each of plain names is plain
pub plain-at : (names : List (List ℕ)) → All IsPlain names → (i : ℕ) (name : List ℕ) → slice_get names i ≡ Some name → IsPlain name
plain-at names all i name there = subst IsPlain (get_or_from_slice_get names i name name there) (all i name (slice_get_within names i name there))

-- nothing is added to what was found before
none-after : (found : Option Span) → found ≡ option_or found None
none-after None = refl
none-after (Some span) = refl

-- two things that are there are the same
pub some-same : {X : Type 0} {x y : X} → Some x ≡ Some y → x ≡ y
some-same is = cc

-- a run ends where it ends, from each of its places on
pub same-end : (text : List ℕ) (from place : ℕ) → from ≤ place → place ≤ run_end kinds.Word text from → from ≤ length text → run_end kinds.Word text place ≡ run_end kinds.Word text from
same-end text from place low high inside =
    run_end-is kinds.Word text place (run_end kinds.Word text from) high (run_end-high kinds.Word text from inside) (λ k l h. run_end-each kinds.Word text from k (omega (arith, l, low)) h) (λ h. run_end-stop kinds.Word text from inside h)

-- each byte of a plain name is plain
plain-byte : (name : List ℕ) (k : ℕ) → IsPlain name → k < length name → is_plain_byte (get_or name k 0) ≡ true
plain-byte name k plain inside = elim (cases_Bool (is_plain_byte (get_or name k 0))) [
  | inl passes ↦ passes
  | inr not_so ↦ absurd (false≢true (sym (list_all_at is_plain_byte name k 0 inside not_so) ∙ plain))
]

-- the bytes of a part of a text
between-byte : (fields : List ℕ) (from to k : ℕ) → k < to - from → get_or (between fields from to) k 0 ≡ get_or fields (from + k) 0
between-byte fields from to k inside = get_or-take (to - from) (drop from fields) k 0 inside ∙ get_or-drop from fields k 0

module _ (fields : List ℕ) (place : ℕ) where
  -- the front of what stands from a place on
  front : (to : ℕ) → place ≤ to → to ≤ length fields → take (to - place) (slice_range fields place (length fields)) ≡ between fields place to
  front to low high = take-take (to - place) (length fields - place) (drop place fields) (omega (arith, low, high))

  -- a name that stands here is the text from here on
  named-text : (name : List ℕ) → is_named fields name place ≡ true → place + length name < length fields → name ≡ between fields place (place + length name)
  named-text name is inside =
      let size : place + length name - place ≡ length name = omega arith in
      (bytes_eq-Decides name (take (length name) (slice_range fields place (length fields)))).0 (and_parts _ _ is).0
      ∙ ap (λ n. take n (slice_range fields place (length fields))) (sym size) ∙ front (place + length name) (omega arith) (omega (arith, inside))

  -- behind it is a `=`
  named-equals : (name : List ℕ) → is_named fields name place ≡ true → get_or fields (place + length name) 0 ≡ 61
  named-equals name is = eqb-true (get_or fields (place + length name) 0) 61 (and_parts _ _ is).1

  -- it stands before the end
  named-inside : (name : List ℕ) → is_named fields name place ≡ true → place + length name < length fields
  named-inside name is = elim (cases_lt (place + length name) (length fields)) [
    | inl inside ↦ inside
    | inr past ↦ absurd (false≢true (sym (past-named fields name place past) ∙ is))
  ]

  -- a byte of a plain name is no `=`
  no-equals : (k : ℕ) → is_plain_byte (get_or fields (place + k) 0) ≡ true → get_or fields (place + k) 0 ≢ 61
  no-equals k plain equals = let other : is_plain_byte 61 ≡ true = ap is_plain_byte (sym equals) ∙ plain in cc

  -- a byte of a plain name is no blank
  no-blank : (byte : ℕ) → is_plain_byte byte ≡ true → is_blank byte ≡ false
  no-blank byte plain = not-true _ (and_parts _ _ plain).1

  -- the word from here on, up to its first `=`
  module _ (to end : ℕ) (here : place < length fields) (to_is : to ≡ run_end kinds.Word fields place) (low : place ≤ end) (high : end ≤ to)
      (before : (k : ℕ) → place ≤ k → k < end → get_or fields k 0 ≢ 61) (at : end < to → get_or fields end 0 ≡ 61) where
    -- a plain name that stands here ends at that `=`
    pub named-ends : (name : List ℕ) → IsPlain name → is_named fields name place ≡ true → (place + length name ≡ end) × (end < to)
    named-ends name plain is =
        let inside : place + length name < length fields = named-inside name is in
        let equals = named-equals name is in
        let text : name ≡ between fields place (place + length name) = named-text name is inside in
        let byte : (k : ℕ) → k < length name → is_plain_byte (get_or fields (place + k) 0) ≡ true =
        λ k h. ap is_plain_byte (sym (ap (λ xs. get_or xs k 0) text ∙ between-byte fields place (place + length name) k (omega (arith, h)))) ∙ plain-byte name k plain h in
        let within : place + length name < to = elim (cases_lt (place + length name) to) [
          | inl passes ↦ passes
          | inr past ↦
              let stop : is_blank (get_or fields to 0) ≡ true = subst (λ (n : ℕ). is_blank (get_or fields n 0) ≡ true) (sym to_is) (not-false _ (run_end-stop kinds.Word fields place (omega (arith, here)) (omega (arith, past, inside, to_is)))) in
              let back : place + (to - place) ≡ to = omega (arith, low, high) in
              elim (cases_lt to (place + length name)) [
                | inl sooner ↦ absurd (false≢true (sym (no-blank (get_or fields (place + (to - place)) 0) (byte (to - place) (omega (arith, sooner, low, high)))) ∙ ap (λ n. is_blank (get_or fields n 0)) back ∙ stop))
                | inr same ↦ (let both : place + length name ≡ to = omega (arith, past, same) in absurd (false≢true (sym (ap is_blank equals) ∙ ap (λ n. is_blank (get_or fields n 0)) both ∙ stop)))
              ]
        ] in
        elim (cases_lt (place + length name) end) [
          | inl early ↦ absurd (before (place + length name) (omega arith) early equals)
          | inr late ↦ elim (cases_lt end (place + length name)) [
            | inl sooner ↦ (let back : place + (end - place) ≡ end = omega (arith, low) in absurd (no-equals (end - place) (byte (end - place) (omega (arith, sooner, low))) (ap (λ n. get_or fields n 0) back ∙ at (omega (arith, sooner, within)))))
            | inr later ↦ (omega (arith, late, later), omega (arith, late, later, within))
          ]
        ]

    -- and it is the text up to there
    pub named-key : (name : List ℕ) → IsPlain name → is_named fields name place ≡ true → (name ≡ between fields place end) × (end < to)
    named-key name plain is =
        let ends = named-ends name plain is in
        (named-text name is (named-inside name is) ∙ ap (between fields place) ends.0, ends.1)

    -- the text up to there is a name that stands here
    pub key-named : (name : List ℕ) → end < to → name ≡ between fields place end → (is_named fields name place ≡ true) × (place + length name ≡ end)
    key-named name inside is =
        let ends : end ≤ length fields = let last = run_end-high kinds.Word fields place (omega (arith, here)) in omega (arith, inside, to_is, last) in
        let long : length name ≡ end - place = ap length is ∙ length-take-le (end - place) (drop place fields) (omega (arith, length-drop place fields, ends, low)) in
        let whole : place + length name ≡ end = omega (arith, long, low) in
        let text : take (length name) (slice_range fields place (length fields)) ≡ name = ap (λ n. take n (slice_range fields place (length fields))) long ∙ front end low ends ∙ sym is in
        (and_from _ _ ((bytes_eq-Decides name (take (length name) (slice_range fields place (length fields)))).1 (sym text)) (ap (λ n. eqb (get_or fields n 0) 61) whole ∙ ap (λ b. eqb b 61) (at inside)), whole)

    module _ (names : List (List ℕ)) (places : BTreeMap (Vec ℕ Global) ℕ) (are : ArePlaces names places) (plain : (i : ℕ) (name : List ℕ) → slice_get names i ≡ Some name → IsPlain name) where
      -- no name stands here that the map does not have
      none-named : (end < to → place_in places (between fields place end) ≡ None) → (i : ℕ) (name : List ℕ) → slice_get names i ≡ Some name → is_named fields name place ≡ false
      none-named none i name there = elim (cases_Bool (is_named fields name place)) [
        | inl stands_here ↦ (let key = named-key name (plain i name there) stands_here in let has : place_in places (between fields place end) ≡ Some i = ap (place_in places) (sym key.0) ∙ are.has i name there in let no = none key.1 in cc)
        | inr not_so ↦ not_so
      ]

      -- no name stands here but the one at the index that the map has
      other-named : (index : ℕ) → place_in places (between fields place end) ≡ Some index → (i : ℕ) (name : List ℕ) → eqb i index ≡ false → slice_get names i ≡ Some name → is_named fields name place ≡ false
      other-named index got i name other there = elim (cases_Bool (is_named fields name place)) [
        | inl stands_here ↦
            (let key = named-key name (plain i name there) stands_here in
            let both : Some i ≡ Some index = sym (ap (place_in places) (sym key.0) ∙ are.has i name there) ∙ got in absurd (eqb-false i index other (some-same both)))
        | inr not_so ↦ not_so
      ]

      -- the word is no field that is wanted
      pub takes-none : (found : List (Option Span)) → (end < to → place_in places (between fields place end) ≡ None) → TakesWord fields names place found found
      takes-none found none = record {
        step = λ i name there. none-after (found_at found i) ∙ ap (λ (b : Bool). option_or (found_at found i) (if b then Some (value_from fields (place + length name + 1)) else None)) (sym (none-named none i name there));
        inside = λ all. all;
        many = refl;
      }

      -- the word is the field at this index, which is noted unless it was found before
      module _ (index : ℕ) (span : Span) (old new : List (Option Span)) (inside : end < to) (got : place_in places (between fields place end) ≡ Some index) (from : span.from ≡ end + 1) (until : span.to ≡ to)
          (noted : IsNotedAt old index span new) where
        -- the span is the value of a field that stands here
        span-value : (name : List ℕ) → place + length name ≡ end → Some span ≡ Some (value_from fields (place + length name + 1))
        span-value name whole =
            let last : to ≡ run_end kinds.Word fields (place + length name + 1) = to_is ∙ sym (same-end fields place (place + length name + 1) (omega arith) (omega (arith, inside, whole, to_is)) (omega (arith, here))) in
            ap Some (ap₂ (λ (f t : ℕ). record { from = f; to = t }) (from ∙ omega (arith, whole)) (until ∙ last))

        -- each name's field, where the map has this index for the word
        step-at : (i : ℕ) (name : List ℕ) (same : Bool) → eqb i index ≡ same → slice_get names i ≡ Some name → found_at new i ≡ option_or (found_at old i) (word_field fields name place)
        step-at i name true same there =
            let at_index : i ≡ index = eqb-true i index same in
            let key : name ≡ between fields place end = some-same (sym there ∙ ap (slice_get names) at_index ∙ are.each index (between fields place end) got) in
            let stands = key-named name inside key in
            ap (found_at new) at_index ∙ noted.here
            ∙ ap₂ (λ (o v : Option Span). option_or o v) (ap (found_at old) (sym at_index)) (span-value name stands.1 ∙ ap (λ (b : Bool). if b then Some (value_from fields (place + length name + 1)) else None) (sym stands.0))
        step-at i name false same there =
            noted.others i same ∙ none-after (found_at old i) ∙ ap (λ (b : Bool). option_or (found_at old i) (if b then Some (value_from fields (place + length name + 1)) else None)) (sym (other-named index got i name same there))

        -- the span lies in the fields, and so does what was found before it
        or-inside : (o : Option Span) → IsInside fields o → IsInside fields (option_or o (Some span))
        or-inside None old_inside = (omega (arith, from, until, inside), let last = run_end-high kinds.Word fields place (omega (arith, here)) in omega (arith, until, to_is, last))
        or-inside (Some other) old_inside = old_inside

        -- what was noted lies in the fields
        span-inside : AllInside fields old → AllInside fields new
        span-inside all i = elim (cases_Bool (eqb i index)) [
          | inl same ↦ subst (λ (o : Option Span). IsInside fields o) (sym (ap (found_at new) (eqb-true i index same) ∙ noted.here)) (or-inside (found_at old index) (all index))
          | inr other ↦ subst (λ (o : Option Span). IsInside fields o) (sym (noted.others i other)) (all i)
        ]

        -- the word was taken
        pub takes-some : TakesWord fields names place old new
        takes-some = record {
          step = λ i name there. step-at i name (eqb i index) refl there;
          inside = span-inside;
          many = noted.many;
        }
