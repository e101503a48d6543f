use Rattle.std.proofs.Common.{◌≡◌, false, List, [], ◌∷◌, ◌++◌, length, map, take, rules, sym, ap, ap₂, ◌∙◌, arith}
use Rattle.std.proofs.lemmas.List.{length-map, map_push}
use Rattle.rv_matches.specs.declared.rule_lines.FieldLines.{FieldLines}
use Rattle.rv_matches.specs.declared.rule_lines.TheConstants.{MOST_FIELDS}
use Rattle.rv_matches.specs.RuleLines.{FieldCounts, field_counts, field_told}
use Rattle.rv_matches.specs.inner.RuleSteps.{field_name}
use Rattle.rv_matches.specs.Words.{is_kept_among, with_word}
use Rattle.rv_matches.proofs.FieldLemmas.{front_grows, front_stays, front_taken, told_names}
use Rattle.rv_matches.proofs.rule_lines.keep_field.Goals.{then-len-ge-MOST_FIELDS-via-then-len-ge-MOST_FIELDS, then-len-ge-MOST_FIELDS-via-else-len-ge-MOST_FIELDS+then-has_field}
use Rattle.rv_matches.proofs.rule_lines.keep_field.Goals as goal

pub returns-then-len-ge-MOST_FIELDS-clause-kept : goal.returns-then-len-ge-MOST_FIELDS-clause-kept
returns-then-len-ge-MOST_FIELDS-clause-kept c = λ names was.
    let fields = c.args.fields.now.items in
    let name = c.args.name.now in
    let kept = take MOST_FIELDS names in
    let many : length fields ≡ length kept = sym (length-map fields field_told) ∙ ap length was ∙ length-map kept (field_counts []) in
    let stays : take MOST_FIELDS (with_word names name) ≡ kept = elim c.then-len-ge-MOST_FIELDS.branch [
      | then-len-ge-MOST_FIELDS-via-then-len-ge-MOST_FIELDS w ↦ let ended : c.len.result ≡ length fields = search rules in front_taken MOST_FIELDS names name (omega (arith, w.if-len-ge-MOST_FIELDS.true))
      | then-len-ge-MOST_FIELDS-via-else-len-ge-MOST_FIELDS+then-has_field w ↦ front_stays MOST_FIELDS names name (ap (λ ns. is_kept_among ns name) (sym (told_names [] fields kept was)) ∙ ap (λ (fs : List FieldLines). is_kept_among (map field_name fs) name) (sym w.as_slice.ensures.value) ∙ sym w.has_field.ensures ∙ w.if-has_field.true)
    ] in
    was ∙ ap (map (field_counts [])) (sym stays)

pub returns-clause-kept : goal.returns-clause-kept
returns-clause-kept c = λ names was.
    let fields = c.args.fields.now.items in
    let name = c.args.name.now in
    let kept = take MOST_FIELDS names in
    let many : length fields ≡ length kept = sym (length-map fields field_told) ∙ ap length was ∙ length-map kept (field_counts []) in
    let ended : c.len.result ≡ length fields = search rules in
    let none : is_kept_among kept name ≡ false = ap (λ ns. is_kept_among ns name) (sym (told_names [] fields kept was)) ∙ ap (λ (fs : List FieldLines). is_kept_among (map field_name fs) name) (sym c.as_slice.ensures.value) ∙ sym c.has_field.ensures ∙ c.if-has_field.false in
    let grows : take MOST_FIELDS (with_word names name) ≡ kept ++ name ∷ [] = front_grows MOST_FIELDS names name none (omega (arith, c.if-len-ge-MOST_FIELDS.false)) in
    let new : FieldLines = record { field = c.in_ok-new.field-0; test = c.args.test; values = c.new-2.result; missing = 0 } in
    let told : field_told new ≡ field_counts [] name = λ j. record { field = c.in_ok-new.ensures j; values = (c.new-2.ensures j).words; other = (c.new-2.ensures j).others; missing = 0 } in
    ap (map field_told) c.in_ok-push.ensures.items
    ∙ map_push field_told fields new
    ∙ ap₂ (λ (cs : List FieldCounts) (n : FieldCounts). cs ++ n ∷ []) was told
    ∙ sym (ap (map (field_counts [])) grows ∙ map_push (field_counts []) kept name)
