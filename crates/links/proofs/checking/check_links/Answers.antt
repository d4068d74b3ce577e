use Rattle.std.proofs.Common.{sym, ◌∙◌}
use Rattle.std.specs.Option.{option_or}
use Rattle.std.proofs.lemmas.Result.{err_from_is_err_and}
use Rattle.links.specs.Links.{Links}
use Rattle.links.specs.Verdict.{told, rule3, rule4, place_rules}
use Rattle.links.specs.Views.{seen_in}
use Rattle.links.proofs.First.{told_then, told_first}
use Rattle.links.proofs.checking.check_links.Goals as goal

pub returns-in_err-rule_4 : goal.returns-in_err-rule_4
returns-in_err-rule_4 g c =
    let p = err_from_is_err_and c.from_residual-in_err-rule_4.result c.from_residual-in_err-rule_4.ensures.1 in
    let m : Links = seen_in g.E.Scalar.GridScalar.reading g.E.HasPosition.across g.E.HasPosition.along c.args.t c.args.entries.now in
    rw (p.1, p.2)
    (sym (told_then (rule3 m) (option_or (rule4 m) (place_rules m)) (sym c.rule_3.ensures ∙ c.in_ok-rule_3.was)
    ∙ told_first (rule4 m) (place_rules m) _ (sym c.rule_4.ensures ∙ c.in_err-rule_4.was)))

pub returns : goal.returns
returns g c =
    let m : Links = seen_in g.E.Scalar.GridScalar.reading g.E.HasPosition.across g.E.HasPosition.along c.args.t c.args.entries.now in
    c.check_places.ensures
    ∙ (λ i. told (place_rules (seen_in g.E.Scalar.GridScalar.reading g.E.HasPosition.across g.E.HasPosition.along (c.new.ensures.tables i) (c.new.ensures.entries i))))
    ∙ sym (told_then (rule3 m) (option_or (rule4 m) (place_rules m)) (sym c.rule_3.ensures ∙ c.in_ok-rule_3.was)
    ∙ told_then (rule4 m) (place_rules m) (sym c.rule_4.ensures ∙ c.in_ok-rule_4.was))
