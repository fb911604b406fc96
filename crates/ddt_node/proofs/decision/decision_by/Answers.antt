use Rattle.std.proofs.Common.{◌∙◌, refl}
use Rattle.ddt_path.specs.declared.matches.Preference.TheVariants.{Longest}
use Rattle.ddt_path.specs.Path.{xeid_path}
use Rattle.ddt_path.specs.laws.Matching.{best_member}
use Rattle.ddt_config.specs.declared.site_entry.SiteEntry.{SiteEntry}
use Rattle.ddt_node.specs.Decisions.{etr_by}
use Rattle.ddt_node.proofs.AnswerLemmas.{no_child_answer, no_site_answer, site_answer, site_etr}
use Rattle.ddt_node.proofs.PlaceLemmas.{found_at}
use Rattle.ddt_node.proofs.decision.decision_by.Goals as goal

pub site_decision-requires : goal.site_decision-requires
site_decision-requires g c =
    let x = xeid_path c.args.x in
    let path = λ (s : SiteEntry). s.prefix in
    let sites = c.in-Sites.sites in
    let inside = rw c.as_slice.ensures at c.in-Some-longest.ensures.inside in
    let found = rw c.as_slice.ensures at c.in-Some-longest.ensures.found in
    let read = rw c.as_slice-in-Some-longest.ensures at c.index-as_slice-at.is in
    (best_member Longest path x sites _ (found_at path sites x c.in-Some-longest.at _ found inside read)).1

pub returns-in-Some-longest-clause-record : goal.returns-in-Some-longest-clause-record
returns-in-Some-longest-clause-record g c servers =
    let x = xeid_path c.args.x in
    let sites = c.in-Sites.sites in
    let inside = rw c.as_slice.ensures at c.in-Some-longest.ensures.inside in
    let found = rw c.as_slice.ensures at c.in-Some-longest.ensures.found in
    let read = rw c.as_slice-in-Some-longest.ensures at c.index-as_slice-at.is in
    let places = rw c.in-Sites.is at c.requires.places in
    rw c.in-Sites.is
    (c.site_decision.ensures.record servers
    ∙ site_answer servers _ sites places x c.args.authority c.in-Some-longest.at _ _ found inside read refl)

pub returns-in-Some-longest-clause-etr : goal.returns-in-Some-longest-clause-etr
returns-in-Some-longest-clause-etr g c =
    let sites = c.in-Sites.sites in
    let inside = rw c.as_slice.ensures at c.in-Some-longest.ensures.inside in
    let found = rw c.as_slice.ensures at c.in-Some-longest.ensures.found in
    let read = rw c.as_slice-in-Some-longest.ensures at c.index-as_slice-at.is in
    rw c.in-Sites.is
    (site_etr sites (xeid_path c.args.x) c.in-Some-longest.at _ (etr_by c.site_decision.result) found inside read c.site_decision.ensures.etr)

pub returns-in-None-clause-record : goal.returns-in-None-clause-record
returns-in-None-clause-record g c servers =
    let x = xeid_path c.args.x in
    let places = rw c.in-Children.is at c.requires.places in
    rw (c.in-Children.is, c.hole.ensures) (no_child_answer servers c.args.authority x _ c.in-Children.children places c.in-None.ensures.none)

pub returns-in-None-longest-clause-record : goal.returns-in-None-longest-clause-record
returns-in-None-longest-clause-record g c servers =
    let x = xeid_path c.args.x in
    let places = rw c.in-Sites.is at c.requires.places in
    let none = rw c.as_slice.ensures at c.in-None-longest.ensures.none in
    rw (c.in-Sites.is, c.hole-in-None-longest.ensures) (no_site_answer servers c.args.authority x _ c.in-Sites.sites places none)
