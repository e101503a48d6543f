-- The record is kept where it has a reaction.
use Rattle.std.proofs.Common.{sym, ◌∙◌, refl, subst}
use Rattle.rv_report.specs.Tallies.{FoundValue, IsDigest}
use Rattle.rv_report.proofs.DigestLemmas.{digest-reaction, digest-quiet}
use Rattle.rv_report.proofs.digest.Digest.add.Goals as goal

pub returns-in_ok-push : goal.returns-in_ok-push
returns-in_ok-push c = λ rs was.
    let old : FoundValue = record { tallies = c.self.inside.tallies.items; printed = c.self.inside.reactions.items; status = c.self.inside.status } in
    digest-reaction rs c.args.made.now old (record { tallies = c.count.new.tallies.items; printed = c.push.new.self.items; status = c.note_status.new.status }) (sym c.has_reaction.ensures ∙ c.if-has_reaction.true) c.in_ok-push.ensures.items
    (c.in_ok-count.ensures rs) (c.note_status.ensures rs) (subst (IsDigest rs) (sym c.self.view_is) was)

pub returns-else-has_reaction : goal.returns-else-has_reaction
returns-else-has_reaction c = λ rs was.
    let old : FoundValue = record { tallies = c.self.inside.tallies.items; printed = c.self.inside.reactions.items; status = c.self.inside.status } in
    digest-quiet rs c.args.made.now old (record { tallies = c.count.new.tallies.items; printed = c.self.inside.reactions.items; status = c.note_status.new.status }) (sym c.has_reaction.ensures ∙ c.if-has_reaction.false) refl
    (c.in_ok-count.ensures rs) (c.note_status.ensures rs) (subst (IsDigest rs) (sym c.self.view_is) was)
