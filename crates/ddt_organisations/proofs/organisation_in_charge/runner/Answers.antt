use Rattle.std.proofs.Common.{List, Bool, ◌||◌, take, sym, ap, ◌∙◌}
use Rattle.std.specs.List.{list_any}
use Rattle.std.proofs.lemmas.List.{take_all}
use Rattle.std.proofs.lemmas.List.Folds.{list_any_more}
use Rattle.ddt_organisations.specs.declared.organisation as code
use Rattle.ddt_organisations.specs.Meets.{seen, is_run_by_some}
use Rattle.ddt_organisations.proofs.ToldLemmas.{number_at}
use Rattle.ddt_organisations.proofs.organisation_in_charge.runner.Goals as goal

pub returns-then-runs : goal.returns-then-runs
returns-then-runs c = record {
  found = (
    c.index-all-number.result,
    number_at c.args.all.now c.loop-number.number c.index-all-number.result c.loop-number-test.true c.index-all-number.is,
    sym c.runs.ensures ∙ c.if-runs.true,
  );
  none = tt;
}

pub loop-number-preserved : goal.loop-number-preserved
loop-number-preserved c =
    let all = c.args.all.now in
    let i = c.loop-number.number in
    let o = c.index-all-number.result in
    let runs = λ (p : code.Organisation.Organisation). (seen p).runs c.args.name in
    list_any_more runs all i o c.loop-number-test.true
    ∙ ap (λ (p : code.Organisation.Organisation). list_any runs (take i all) || runs p) (sym c.index-all-number.is)
    ∙ ap (λ (b : Bool). b || runs o) c.loop-number.invariant
    ∙ sym c.runs.ensures
    ∙ c.if-runs.false

pub returns : goal.returns
returns c = record {
  found = tt;
  none = ap (λ (all : List code.Organisation.Organisation). is_run_by_some all c.args.name)
      (sym (take_all c.loop-number.number c.args.all.now c.loop-number-test.false))
      ∙ c.loop-number.invariant;
}
