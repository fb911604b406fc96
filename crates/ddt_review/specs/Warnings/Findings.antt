-- What a warning has: its kind, the row of another item, and its text.
use Rattle.std.specs.Prelude.{ℕ, Bool, ◌==◌, ◌&&◌, List, ◌++◌, codes, Option, None, Some}
use Rattle.std.specs.List.{list_any}
use Rattle.std.specs.declared.cmp.Ordering.{Ordering}
use Rattle.std.specs.Ordering.{nat_cmp, ordering_then}
use Rattle.ddt_review.specs.declared.warnings.kind.Kind.{Kind}
use Rattle.ddt_review.specs.declared.warnings.kind.Kind.TheVariants as kinds
use Rattle.ddt_review.specs.declared.warnings.warning.Finding.{Finding}
use Rattle.ddt_review.specs.declared.warnings.warning.Finding.TheVariants as found
use Rattle.ddt_review.specs.declared.warnings.warning.Warning.{Warning}
use Rattle.ddt_text.specs.Written.{written_locator}
use Rattle.ddt_review.specs.Warnings.Names.{kind_number}
use Rattle.ddt_review.specs.Warnings.UnreachableReason.{reach_text}

-- the kind of what was found
abbrev pub kind_of : Finding → Kind
kind_of (found.UnreachableLocator l reason) = kinds.UnreachableLocator
kind_of (found.UnreachableEtr l reason) = kinds.UnreachableEtr
kind_of (found.RepeatedEtr l) = kinds.RepeatedEtr
kind_of (found.EtrIsServer l group) = kinds.EtrIsServer
kind_of (found.EtrIsResolver l) = kinds.EtrIsResolver
kind_of (found.EtrInsideSite l) = kinds.EtrInsideSite
kind_of (found.LocatorInsideEids l site) = kinds.LocatorInsideEids
kind_of found.GroupWithoutZone = kinds.GroupWithoutZone
kind_of found.NodeZoneWithoutChild = kinds.NodeZoneWithoutChild
kind_of (found.ZoneBetween above) = kinds.ZoneBetween
kind_of found.ZoneOfStrangeGroup = kinds.ZoneOfStrangeGroup
kind_of (found.SiteInOtherRegion before behind) = kinds.SiteInOtherRegion

-- the row of another item that it names, if it names one
abbrev pub other_of : Finding → Option ℕ
other_of (found.UnreachableLocator l reason) = None
other_of (found.UnreachableEtr l reason) = None
other_of (found.RepeatedEtr l) = None
other_of (found.EtrIsServer l group) = Some group
other_of (found.EtrIsResolver l) = None
other_of (found.EtrInsideSite l) = None
other_of (found.LocatorInsideEids l site) = Some site
other_of found.GroupWithoutZone = None
other_of found.NodeZoneWithoutChild = None
other_of (found.ZoneBetween above) = Some above
other_of found.ZoneOfStrangeGroup = None
other_of (found.SiteInOtherRegion before behind) = Some before

-- the reason that is printed
abbrev pub text_of : Finding → List ℕ
text_of (found.UnreachableLocator l reason) =
    codes "the locator " ++ (written_locator l ++ (codes " is " ++ reach_text reason))
text_of (found.UnreachableEtr l reason) =
    codes "the ETR " ++ (written_locator l ++ (codes " is " ++ reach_text reason))
text_of (found.RepeatedEtr l) = codes "the ETR " ++ written_locator l ++ codes " stands twice"
text_of (found.EtrIsServer l group) = codes "the ETR " ++ written_locator l ++ codes " is a locator of a group"
text_of (found.EtrIsResolver l) = codes "the ETR " ++ written_locator l ++ codes " is a Map-Resolver's address"
text_of (found.EtrInsideSite l) = codes "the ETR " ++ written_locator l ++ codes " is inside its own site"
text_of (found.LocatorInsideEids l site) = codes "the locator " ++ written_locator l ++ codes " is inside a site"
text_of found.GroupWithoutZone = codes "no zone names the group"
text_of found.NodeZoneWithoutChild = codes "no zone is below this one of DDT nodes"
text_of (found.ZoneBetween above) = codes "the zones above and below share a group that isn't its own"
text_of found.ZoneOfStrangeGroup = codes "the servers above delegate to its group nowhere else, but others do"
text_of (found.SiteInOtherRegion before behind) =
    codes "the sites just before and behind share a group that isn't its own"

-- both kinds are one
abbrev pub is_same_kind : Kind → Kind → Bool
is_same_kind a b = kind_number a == kind_number b

-- by the row, then by the kind
abbrev pub in_told_order : Warning → Warning → Ordering
in_told_order v w = ordering_then (nat_cmp v.row w.row)
    (nat_cmp (kind_number (kind_of v.finding)) (kind_number (kind_of w.finding)))

-- some warning of a list is of this kind and of this row
abbrev pub tells : List Warning → Kind → ℕ → Bool
tells ws kind row = list_any (λ w. w.row == row && is_same_kind (kind_of w.finding) kind) ws
