-- Both are told of it, and there is one record more.
use Rattle.std.proofs.Common.{ℕ, ◌+◌, ap, sym, ◌∙◌, length-append, ◌∷◌, []}
use Rattle.std.proofs.lemmas.Result.{on_ok_weaker}
use Rattle.rv_reach.proofs.watched.WatchedObserver.observe.Goals as goal

pub returns : goal.returns
returns c = on_ok_weaker c.observe-2.result
    (λ reached old makes tasks rs is. (c.in_ok-observe.ensures old makes tasks rs is.0, c.in_ok-self.ensures ∙ ap (λ (n : ℕ). n + 1) is.1 ∙ sym (length-append rs (c.args.made.now ∷ [])), reached old makes tasks rs is.2))
    c.observe-2.ensures
