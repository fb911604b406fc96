use Rattle.ddt_register.specs.declared.csv_row.Row.TheVariants as Of
use Rattle.ddt_deploy.proofs.loopback.csv_text.Left.take.Goals as goal

pub returns-in-Some : goal.returns-in-Some
returns-in-Some c =
    let left = c.args.self.now in
    let found = c.in-Some in (
      Of.Zone found.zone.now,
      c.in_ok-zone_record.ensures,
      found.ensures.1,
      λ i. record {
        zones = found.ensures.0 i;
        sites = left.sites.now;
        groups = left.groups.now;
      },
    )

pub returns-in-Some-split_at_row : goal.returns-in-Some-split_at_row
returns-in-Some-split_at_row c =
    let left = c.args.self.now in
    let found = c.in-Some-split_at_row in (
      Of.Site found.site.now,
      c.in_ok-site_record.ensures,
      found.ensures.1,
      λ i. record {
        zones = left.zones.now;
        sites = found.ensures.0 i;
        groups = left.groups.now;
      },
    )

pub returns-in-Some-split_at_row-2 : goal.returns-in-Some-split_at_row-2
returns-in-Some-split_at_row-2 c =
    let left = c.args.self.now in
    let found = c.in-Some-split_at_row-2 in (
      Of.Group found.group.now,
      c.in_ok-group_record.ensures,
      found.ensures.1,
      λ i. record {
        zones = left.zones.now;
        sites = left.sites.now;
        groups = found.ensures.0 i;
      },
    )
