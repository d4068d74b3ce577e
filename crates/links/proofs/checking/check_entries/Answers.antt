use Rattle.std.proofs.Common.{length, sym, ◌∙◌}
use Rattle.links.specs.Shelf.{seen, spot_at}
use Rattle.links.specs.Verdict.{told, rule2, link_rules}
use Rattle.links.proofs.First.{told_then}
use Rattle.links.proofs.checking.check_entries.Goals as goal

pub returns : goal.returns
returns g c =
    c.check_links.ensures
    ∙ (λ i. told (link_rules (seen g.E.Scalar.GridScalar.reading g.E.HasPosition.across g.E.HasPosition.along (c.new.ensures.words i) (c.new.ensures.shape i) c.args.entries.now)))
    ∙ sym (told_then (rule2 (length c.args.entries.now) (spot_at g.E.Scalar.GridScalar.reading g.E.HasPosition.across g.E.HasPosition.along c.args.entries.now)) (link_rules (seen g.E.Scalar.GridScalar.reading g.E.HasPosition.across g.E.HasPosition.along c.args.words.now c.args.shape c.args.entries.now))
    (sym c.rule_2.ensures ∙ c.in_ok-rule_2.was))
