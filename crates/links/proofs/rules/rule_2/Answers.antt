use Rattle.std.proofs.Common.{◌≡◌, ℕ, ◌<◌, List, length, get_or, Result, sym, ap, ◌∙◌, lt_of_lt_of_le, below_more}
use Rattle.std.proofs.lemmas.Result.{err_from_is_err_and}
use Rattle.entry.specs.Placing.{spot_of}
use Rattle.entry.specs.declared.fault.Cause.{Cause}
use Rattle.links.specs.Shelf.{spot_at}
use Rattle.links.specs.Verdict.{told, unplaced}
use Rattle.links.proofs.First.{rule2_none, rule2_first, told_ok, told_err}
use Rattle.links.proofs.Spots.{spot_is}
use Rattle.links.proofs.rules.rule_2.Goals as goal

-- entry v of the list, as the test sees it
same : {E Sc : Type 0} (reading : Sc → Result ℕ Cause) (across along : E → Sc) (es : List E) (v : ℕ) (e : E) → v < length es → e ≡ get_or es v e
    → told (unplaced v (spot_at reading across along es v)) ≡ told (unplaced v (spot_of reading (across e) (along e)))
same reading across along es v e l is =
    ap (λ r. told (unplaced v r)) (spot_is reading across along es v e l ∙ ap (λ z. spot_of reading (across z) (along z)) (sym is))

pub loop-v-preserved : goal.loop-v-preserved
loop-v-preserved g c =
    below_more _ _ c.loop-v.invariant (told_ok _ (same g.E.Scalar.GridScalar.reading g.E.HasPosition.across g.E.HasPosition.along c.args.entries.now c.loop-v.v c.index-entries-v.result c.loop-v-test.true c.index-entries-v.is
    ∙ sym c.try_place.ensures ∙ c.in_ok-try_place.was))

pub returns-in_err-try_place : goal.returns-in_err-try_place
returns-in_err-try_place g c =
    let p = err_from_is_err_and c.from_residual.result c.from_residual.ensures.1 in
    rw (p.1, p.2)
    (sym (ap told (rule2_first (length c.args.entries.now) (spot_at g.E.Scalar.GridScalar.reading g.E.HasPosition.across g.E.HasPosition.along c.args.entries.now) c.loop-v.v c.in_err-try_place.field-0.0 c.loop-v-test.true c.loop-v.invariant
    (told_err _ _ (same g.E.Scalar.GridScalar.reading g.E.HasPosition.across g.E.HasPosition.along c.args.entries.now c.loop-v.v c.index-entries-v.result c.loop-v-test.true c.index-entries-v.is
    ∙ sym c.try_place.ensures ∙ c.in_err-try_place.was)))))

pub returns : goal.returns
returns g c = sym (ap told (rule2_none (length c.args.entries.now) (spot_at g.E.Scalar.GridScalar.reading g.E.HasPosition.across g.E.HasPosition.along c.args.entries.now) (λ i l. c.loop-v.invariant i (lt_of_lt_of_le l c.loop-v-test.false))))
