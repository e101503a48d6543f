-- The bytes that are held: what was searched of them, and how they grow by a piece.
use Rattle.std.proofs.Common.{◌≡◌, ◌≢◌, ℕ, ◌+◌, ◌-◌, ◌<◌, ◌≤◌, inl, inr, false, List, ◌++◌, length, get_or, take, drop, sym, ◌∙◌, ap, subst, arith, length-append, length-drop}
use Rattle.std.proofs.lemmas.Bool.{cases_lt, false≢true}
use Rattle.std.proofs.lemmas.List.{drop-drop, get_or-drop, get_or_append_left, drop-append-le, take-append-le}
use Rattle.rv_text.specs.TextLines.{line_end}
use Rattle.rv_text.proofs.TextLineLemmas.{line_end-other}
use Rattle.rv_trace.specs.Held.{LooksAt, IsHeldPart}
use Rattle.rv_trace.specs.Streams.{StandsAt}

-- no line end stands up to where the search found the first one
pub none-to : (held : List ℕ) (from searched to : ℕ) → LooksAt held from searched → to ≡ line_end held searched → (k : ℕ) → from ≤ k → k < to → get_or held k 0 ≢ 10
none-to held from searched to looks is k low high =
    elim (cases_lt k searched) [
      | inl before ↦ looks.none k low before
      | inr on ↦ line_end-other held searched k on (omega arith)
    ]

-- nothing was looked at yet
pub looks-first : (held : List ℕ) (from : ℕ) → from ≤ length held → LooksAt held from from
looks-first held from within = record {
  order = omega arith;
  within = within;
  none = λ k low high. absurd (omega arith);
}

-- what was passed of the stream is let go, and it grows by a piece
pub held-fed : (fed held piece : List ℕ) (passed from searched number first last : ℕ) → IsHeldPart fed held passed from searched number first last false →
    IsHeldPart (fed ++ piece) (drop from held ++ piece) (passed + from) 0 (searched - from) number 0 0 false
held-fed fed held piece passed from searched number first last is =
    let low : passed ≤ length fed = is.piece.low in
    let order : from ≤ searched = is.looks.order in
    let within : searched ≤ length held = is.looks.within in
    let size : length held + passed ≡ length fed = omega (arith, ap {B = ℕ} length is.piece.is, length-drop passed fed) in
    let whole : length (fed ++ piece) ≡ length fed + length piece = length-append fed piece in
    let rest : length (drop from held ++ piece) ≡ length held - from + length piece = length-append (drop from held) piece ∙ ap (λ n. n + length piece) (length-drop from held) in
    let place : passed + from + 0 ≡ passed + from = omega arith in
    record {
      piece = record {
        is = sym (drop-append-le from held piece (omega arith)) ∙ ap (λ text. drop from (text ++ piece)) is.piece.is ∙ ap (drop from) (sym (drop-append-le passed fed piece low)) ∙ drop-drop from passed (fed ++ piece);
        low = omega arith;
      };
      looks = record {
        order = omega arith;
        within = omega arith;
        none = λ k l h e. is.looks.none (from + k) (omega arith) (omega arith)
            (sym (get_or-drop from held k 0) ∙ sym (get_or_append_left (drop from held) piece 0 k (omega (arith, length-drop from held))) ∙ e);
      };
      fits = omega (arith, is.fits);
      order = omega arith;
      within = omega arith;
      stands = elim is.stands [
        | inl stands ↦ inl (subst (λ (text : List ℕ). StandsAt text number) (sym (ap (λ n. take n (fed ++ piece)) place ∙ take-append-le (passed + from) fed piece (omega arith))) stands)
        | inr over ↦ absurd (false≢true over.0)
      ];
    }
