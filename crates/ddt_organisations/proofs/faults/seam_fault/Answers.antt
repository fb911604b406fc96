use Rattle.std.proofs.Common.{true, false, refl, sym, ap, ◌∙◌, rules}
use Rattle.std.specs.Option.{option_copied}
use Rattle.ddt_organisations.specs.Meets.{seen}
use Rattle.ddt_organisations.specs.Found.{IsNumber}
use Rattle.ddt_organisations.proofs.MeetingLemmas.{got, good_seam, bad_seam, too_many, said_when, good_at}
use Rattle.ddt_organisations.proofs.faults.seam_fault.Goals as goal

pub returns-in_default-found : goal.returns-in_default-found
returns-in_default-found c =
    let all = c.args.all.now in
    let o = c.in-Some.ours.now in
    let p = c.in-Some-get.theirs.now in
    let first : IsNumber all c.args.number o =
    sym (got all c.args.number c.get.result c.get.ensures.lookup) ∙ ap option_copied c.in-Some.is in
    let second : IsNumber all c.args.other p =
    sym (got all c.args.other c.get-2.result c.get-2.ensures.lookup) ∙ ap option_copied c.in-Some-get.is in
    let many = too_many (seen o) (seen p) c.in_ok-found.found (search rules) c.in_default-found.is in
    ((o, p, first, second, (c.requires o p first second, many)), (refl, refl))

pub returns-then-is_good : goal.returns-then-is_good
returns-then-is_good c =
    let all = c.args.all.now in
    let o = c.in-Some.ours.now in
    let p = c.in-Some-get.theirs.now in
    let first : IsNumber all c.args.number o =
    sym (got all c.args.number c.get.result c.get.ensures.lookup) ∙ ap option_copied c.in-Some.is in
    let second : IsNumber all c.args.other p =
    sym (got all c.args.other c.get-2.result c.get-2.ensures.lookup) ∙ ap option_copied c.in-Some-get.is in
    let said = said_when (seen o) (seen p) c.in_ok-found.found (search rules) c.in-Some-found.field-0 true
    c.in-Some-found.is c.if-is_good.true in
    good_at all c.args.number c.args.other o p first second (good_seam (seen o) (seen p) said)

pub returns : goal.returns
returns c =
    let all = c.args.all.now in
    let o = c.in-Some.ours.now in
    let p = c.in-Some-get.theirs.now in
    let first : IsNumber all c.args.number o =
    sym (got all c.args.number c.get.result c.get.ensures.lookup) ∙ ap option_copied c.in-Some.is in
    let second : IsNumber all c.args.other p =
    sym (got all c.args.other c.get-2.result c.get-2.ensures.lookup) ∙ ap option_copied c.in-Some-get.is in
    let said = said_when (seen o) (seen p) c.in_ok-found.found (search rules) c.in-Some-found.field-0 false
    c.in-Some-found.is c.if-is_good.false in
    ((o, p, first, second, bad_seam (seen o) (seen p) (c.requires o p first second) said), (refl, refl))
