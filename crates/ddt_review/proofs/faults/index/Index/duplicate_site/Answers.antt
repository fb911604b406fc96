use Rattle.std.proofs.Common.{refl, ◌∙◌}
use Rattle.ddt_path.specs.Covers.{is_same_path}
use Rattle.ddt_register.specs.declared.site.Site.{Site}
use Rattle.ddt_register.specs.laws.Rising.{sites_rise}
use Rattle.ddt_check.specs.declared.fault.Rule.TheVariants.{DuplicateSite}
use Rattle.ddt_review.proofs.FaultsLemmas.ToldLemmas.{fault_same, told_duplicate}
use Rattle.ddt_review.proofs.faults.index.Index.duplicate_site.Goals as goal

pub returns : goal.returns
returns c = λ r index.
    let s = c.args.site.now in
    let first = c.copied-first.result in
    c.fault_if.ensures
    ∙ fault_same _ _ s.row s.row DuplicateSite first first c.is_before-breaks.ensures refl refl
    ∙ told_duplicate (λ (t : Site). t.row) (λ (t : Site). is_same_path t.prefix s.prefix) r.sites (sites_rise r) s.row
    DuplicateSite first (c.copied-first.ensures ∙ c.get.ensures.value ∙ index.sites s.prefix)
