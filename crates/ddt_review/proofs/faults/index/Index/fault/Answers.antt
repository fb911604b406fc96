use Rattle.std.proofs.Common.{ℕ, sym, ap, ◌∙◌}
use Rattle.std.specs.Option.{option_copied, option_map}
use Rattle.ddt_register.specs.declared.zone.Zone.{Zone}
use Rattle.ddt_register.specs.declared.site.Site.{Site}
use Rattle.ddt_register.specs.declared.group.Group.{Group}
use Rattle.ddt_register.specs.laws.Rising.{zones_rise, sites_rise, groups_rise}
use Rattle.ddt_check.specs.declared.fault.Rule.TheVariants as rules
use Rattle.ddt_check.specs.Zones.{zone_of}
use Rattle.ddt_check.specs.Rules.{is_duplicate_zone, is_duplicate_site, is_of_unknown_group, is_of_other_role, has_wrong_locators, is_below_map_server, is_outside, has_too_many_etrs, is_duplicate_group}
use Rattle.ddt_review.specs.Faults.Broken.{first_zone, first_site, group_row, earlier_sharer, zone_above}
use Rattle.ddt_review.specs.Faults.Told.{told}
use Rattle.ddt_review.proofs.FaultsLemmas.ToldLemmas.{told_of, told_of_none, told_alone, told_alone_none}
use Rattle.ddt_review.proofs.faults.index.Index.fault.Goals as goal

abbrev zone_row : Zone → ℕ
zone_row z = z.row

abbrev site_row : Site → ℕ
site_row s = s.row

abbrev row_of_group : Group → ℕ
row_of_group g = g.row

pub returns-in_err-items-in-DuplicateZone : goal.returns-in_err-items-in-DuplicateZone
returns-in_err-items-in-DuplicateZone c = λ r index items.
    c.from_residual.ensures
    ∙ told_of_none zone_row r.zones (zones_rise r) c.args.row rules.DuplicateZone
    (is_duplicate_zone r) (λ (z : Zone). first_zone r z.prefix)
    (sym items.zone ∙ ap option_copied c.in_err-items-in-DuplicateZone.was)
    ∙ ap (told r c.args.row) (sym c.in-DuplicateZone.is)

pub returns-in_ok-items-in-DuplicateZone : goal.returns-in_ok-items-in-DuplicateZone
returns-in_ok-items-in-DuplicateZone c = λ r index items.
    c.duplicate_zone.ensures r index
    ∙ told_of zone_row r.zones (zones_rise r) c.args.row rules.DuplicateZone
    (is_duplicate_zone r) (λ (z : Zone). first_zone r z.prefix) c.in_ok-items-in-DuplicateZone.field-0.now
    (sym items.zone ∙ ap option_copied c.in_ok-items-in-DuplicateZone.was)
    ∙ ap (told r c.args.row) (sym c.in-DuplicateZone.is)

pub returns-in_err-items-in-DuplicateSite : goal.returns-in_err-items-in-DuplicateSite
returns-in_err-items-in-DuplicateSite c = λ r index items.
    c.from_residual-in_err-items-in-DuplicateSite.ensures
    ∙ told_of_none site_row r.sites (sites_rise r) c.args.row rules.DuplicateSite
    (is_duplicate_site r) (λ (s : Site). first_site r s.prefix)
    (sym items.site ∙ ap option_copied c.in_err-items-in-DuplicateSite.was)
    ∙ ap (told r c.args.row) (sym c.in-DuplicateSite.is)

pub returns-in_ok-items-in-DuplicateSite : goal.returns-in_ok-items-in-DuplicateSite
returns-in_ok-items-in-DuplicateSite c = λ r index items.
    c.duplicate_site.ensures r index
    ∙ told_of site_row r.sites (sites_rise r) c.args.row rules.DuplicateSite
    (is_duplicate_site r) (λ (s : Site). first_site r s.prefix) c.in_ok-items-in-DuplicateSite.field-0.now
    (sym items.site ∙ ap option_copied c.in_ok-items-in-DuplicateSite.was)
    ∙ ap (told r c.args.row) (sym c.in-DuplicateSite.is)

pub returns-in_err-items-in-UnknownGroup : goal.returns-in_err-items-in-UnknownGroup
returns-in_err-items-in-UnknownGroup c = λ r index items.
    c.from_residual-in_err-items-in-UnknownGroup.ensures
    ∙ told_alone_none zone_row r.zones (zones_rise r) c.args.row rules.UnknownGroup
    (is_of_unknown_group r) (sym items.zone ∙ ap option_copied c.in_err-items-in-UnknownGroup.was)
    ∙ ap (told r c.args.row) (sym c.in-UnknownGroup.is)

pub returns-in_ok-items-in-UnknownGroup : goal.returns-in_ok-items-in-UnknownGroup
returns-in_ok-items-in-UnknownGroup c = λ r index items.
    c.unknown_group.ensures r index
    ∙ told_alone zone_row r.zones (zones_rise r) c.args.row rules.UnknownGroup
    (is_of_unknown_group r) c.in_ok-items-in-UnknownGroup.field-0.now
    (sym items.zone ∙ ap option_copied c.in_ok-items-in-UnknownGroup.was)
    ∙ ap (told r c.args.row) (sym c.in-UnknownGroup.is)

pub returns-in_err-items-in-Role : goal.returns-in_err-items-in-Role
returns-in_err-items-in-Role c = λ r index items.
    c.from_residual-in_err-items-in-Role.ensures
    ∙ told_of_none zone_row r.zones (zones_rise r) c.args.row rules.Role
    (is_of_other_role r) (λ (z : Zone). group_row r z.group)
    (sym items.zone ∙ ap option_copied c.in_err-items-in-Role.was)
    ∙ ap (told r c.args.row) (sym c.in-Role.is)

pub returns-in_ok-items-in-Role : goal.returns-in_ok-items-in-Role
returns-in_ok-items-in-Role c = λ r index items.
    c.other_role.ensures r index
    ∙ told_of zone_row r.zones (zones_rise r) c.args.row rules.Role
    (is_of_other_role r) (λ (z : Zone). group_row r z.group) c.in_ok-items-in-Role.field-0.now
    (sym items.zone ∙ ap option_copied c.in_ok-items-in-Role.was)
    ∙ ap (told r c.args.row) (sym c.in-Role.is)

pub returns-in_err-items-in-Locators : goal.returns-in_err-items-in-Locators
returns-in_err-items-in-Locators c = λ r index items.
    c.from_residual-in_err-items-in-Locators.ensures
    ∙ told_of_none row_of_group r.groups (groups_rise r) c.args.row rules.Locators
    (has_wrong_locators r) (λ (g : Group). earlier_sharer r g)
    (sym items.group ∙ ap option_copied c.in_err-items-in-Locators.was)
    ∙ ap (told r c.args.row) (sym c.in-Locators.is)

pub returns-in_ok-items-in-Locators : goal.returns-in_ok-items-in-Locators
returns-in_ok-items-in-Locators c = λ r index items.
    c.wrong_locators.ensures r index
    ∙ told_of row_of_group r.groups (groups_rise r) c.args.row rules.Locators
    (has_wrong_locators r) (λ (g : Group). earlier_sharer r g) c.in_ok-items-in-Locators.field-0.now
    (sym items.group ∙ ap option_copied c.in_ok-items-in-Locators.was)
    ∙ ap (told r c.args.row) (sym c.in-Locators.is)

pub returns-in_err-items-in-BelowMapServer : goal.returns-in_err-items-in-BelowMapServer
returns-in_err-items-in-BelowMapServer c = λ r index items.
    c.from_residual-in_err-items-in-BelowMapServer.ensures
    ∙ told_of_none zone_row r.zones (zones_rise r) c.args.row rules.BelowMapServer
    (is_below_map_server r) (λ (z : Zone). option_map (λ (y : Zone). y.row) (zone_above r z.prefix))
    (sym items.zone ∙ ap option_copied c.in_err-items-in-BelowMapServer.was)
    ∙ ap (told r c.args.row) (sym c.in-BelowMapServer.is)

pub returns-in_ok-items-in-BelowMapServer : goal.returns-in_ok-items-in-BelowMapServer
returns-in_ok-items-in-BelowMapServer c = λ r index items.
    c.below_map_server.ensures r index
    ∙ told_of zone_row r.zones (zones_rise r) c.args.row rules.BelowMapServer
    (is_below_map_server r) (λ (z : Zone). option_map (λ (y : Zone). y.row) (zone_above r z.prefix))
    c.in_ok-items-in-BelowMapServer.field-0.now
    (sym items.zone ∙ ap option_copied c.in_ok-items-in-BelowMapServer.was)
    ∙ ap (told r c.args.row) (sym c.in-BelowMapServer.is)

pub returns-in_err-items-in-SiteOutside : goal.returns-in_err-items-in-SiteOutside
returns-in_err-items-in-SiteOutside c = λ r index items.
    c.from_residual-in_err-items-in-SiteOutside.ensures
    ∙ told_of_none site_row r.sites (sites_rise r) c.args.row rules.SiteOutside
    (is_outside r) (λ (s : Site). option_map (λ (z : Zone). z.row) (zone_of r s.prefix))
    (sym items.site ∙ ap option_copied c.in_err-items-in-SiteOutside.was)
    ∙ ap (told r c.args.row) (sym c.in-SiteOutside.is)

pub returns-in_ok-items-in-SiteOutside : goal.returns-in_ok-items-in-SiteOutside
returns-in_ok-items-in-SiteOutside c = λ r index items.
    c.site_outside.ensures r index
    ∙ told_of site_row r.sites (sites_rise r) c.args.row rules.SiteOutside
    (is_outside r) (λ (s : Site). option_map (λ (z : Zone). z.row) (zone_of r s.prefix))
    c.in_ok-items-in-SiteOutside.field-0.now
    (sym items.site ∙ ap option_copied c.in_ok-items-in-SiteOutside.was)
    ∙ ap (told r c.args.row) (sym c.in-SiteOutside.is)

pub returns-in_err-items-in-TooManyEtrs : goal.returns-in_err-items-in-TooManyEtrs
returns-in_err-items-in-TooManyEtrs c = λ r index items.
    c.from_residual-in_err-items-in-TooManyEtrs.ensures
    ∙ told_alone_none site_row r.sites (sites_rise r) c.args.row rules.TooManyEtrs
    has_too_many_etrs (sym items.site ∙ ap option_copied c.in_err-items-in-TooManyEtrs.was)
    ∙ ap (told r c.args.row) (sym c.in-TooManyEtrs.is)

pub returns-in_ok-items-in-TooManyEtrs : goal.returns-in_ok-items-in-TooManyEtrs
returns-in_ok-items-in-TooManyEtrs c = λ r index items.
    c.too_many_etrs.ensures
    ∙ told_alone site_row r.sites (sites_rise r) c.args.row rules.TooManyEtrs
    has_too_many_etrs c.in_ok-items-in-TooManyEtrs.field-0.now
    (sym items.site ∙ ap option_copied c.in_ok-items-in-TooManyEtrs.was)
    ∙ ap (told r c.args.row) (sym c.in-TooManyEtrs.is)

pub returns-in_err-items-in-DuplicateGroup : goal.returns-in_err-items-in-DuplicateGroup
returns-in_err-items-in-DuplicateGroup c = λ r index items.
    c.from_residual-in_err-items-in-DuplicateGroup.ensures
    ∙ told_of_none row_of_group r.groups (groups_rise r) c.args.row rules.DuplicateGroup
    (is_duplicate_group r) (λ (g : Group). group_row r g.name)
    (sym items.group ∙ ap option_copied c.in_err-items-in-DuplicateGroup.was)
    ∙ ap (told r c.args.row) (sym c.in-DuplicateGroup.is)

pub returns-in_ok-items-in-DuplicateGroup : goal.returns-in_ok-items-in-DuplicateGroup
returns-in_ok-items-in-DuplicateGroup c = λ r index items.
    c.duplicate_group.ensures r index
    ∙ told_of row_of_group r.groups (groups_rise r) c.args.row rules.DuplicateGroup
    (is_duplicate_group r) (λ (g : Group). group_row r g.name) c.in_ok-items-in-DuplicateGroup.field-0.now
    (sym items.group ∙ ap option_copied c.in_ok-items-in-DuplicateGroup.was)
    ∙ ap (told r c.args.row) (sym c.in-DuplicateGroup.is)
