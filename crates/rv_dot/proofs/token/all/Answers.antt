use Rattle.std.proofs.Common.{◌≡◌, ◌++◌, length, arith, sym}
use Rattle.std.specs.Option.{option_map, option_to_list}
use Rattle.std.proofs.lemmas.List.{map_push, append-nil}
use Rattle.rv_dot.specs.Tokens.{tokens_of}
use Rattle.rv_dot.specs.inner.Held.{lexeme, lexemes}
use Rattle.rv_dot.proofs.TokenLoop.{goes_on, ends, is_done, from_nothing}
use Rattle.rv_dot.proofs.token.all.Goals as goal
use Rattle.rv_dot.proofs.token.all.Goals.{in-Some-token+in_ok-push, in_default-token}

pub loop-rest-init : goal.loop-rest-init
loop-rest-init c = (length c.args.bytes.now, omega arith, rw c.new-found.ensures.items (from_nothing (tokens_of c.args.bytes.now)))

pub loop-rest-preserved : goal.loop-rest-preserved
loop-rest-preserved c =
    let found : lexemes c.match-token.found.items ≡ lexemes c.loop-rest.found.items ++ option_to_list (option_map lexeme c.in-Some.token) =
    elim c.match-token.branch [
      | in-Some-token+in_ok-push w ↦ rw (w.found-is, w.in_ok-push.ensures.items, w.in-Some-token.is) (map_push lexeme c.loop-rest.found.items w.in-Some-token.token)
      | in_default-token w ↦ rw (w.found-is, w.in_default-token.is) (sym (append-nil (lexemes c.loop-rest.found.items)))
    ] in
    let so_far = c.loop-rest.invariant in
    rw found (goes_on (lexemes c.loop-rest.found.items) so_far.0 c.loop-rest.starts_line c.loop-rest.rest.now (option_map lexeme c.in-Some.token) c.in-Some.after.now (tokens_of c.args.bytes.now) c.in-len1-up.len_at_least so_far.1 c.in-Some.ensures.value c.in-Some.ensures.within so_far.2)

pub returns-in_default-front : goal.returns-in_default-front
returns-in_default-front c =
    let so_far = c.loop-rest.invariant in
    ends (lexemes c.loop-rest.found.items) so_far.0 c.loop-rest.starts_line c.loop-rest.rest.now (tokens_of c.args.bytes.now) c.in-len1-up.len_at_least c.in_default-front.ensures.value so_far.2

pub returns : goal.returns
returns c =
    let so_far = c.loop-rest.invariant in
    is_done (lexemes c.loop-rest.found.items) so_far.0 c.loop-rest.starts_line c.loop-rest.rest.now (tokens_of c.args.bytes.now) c.in_default.len_below so_far.2
