use Rattle.std.proofs.Common.{◌∙◌, rules, Bool}
use Rattle.ddt_path.specs.Locators.{lists}
use Rattle.ddt_register.specs.declared.zone.Zone.{Zone}
use Rattle.ddt_check.specs.Zones.{locators_of}
use Rattle.ddt_check.proofs.lookup.served_zone.Goals as goal

pub returns : goal.returns
returns c =
    let serves : Zone → Bool = λ z. lists (locators_of c.args.register.now z.group) c.args.l in
    c.copied.ensures ∙ rw c.as_slice-zones.ensures at (c.best_match.ensures serves (λ item answer h. search rules))
