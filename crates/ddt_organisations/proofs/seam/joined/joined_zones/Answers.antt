use Rattle.std.proofs.Common.{◌≡◌, ℕ, Bool, true, List, [], ◌++◌, map, sym, ap, ◌∙◌, arith, rules}
use Rattle.std.specs.List.{filter}
use Rattle.std.proofs.lemmas.Result.{IfOk-weaker}
use borrow.Author.Tests.{tests}
use Rattle.std.specs.Ordering.{nat_cmp}
use Rattle.std.specs.Cmp.Lexicographic.{slice_cmp}
use Rattle.std.specs.BTreeMap.{get}
use Rattle.ddt_path.specs.laws.Filter.{filter_everything}
use Rattle.ddt_register.specs.declared.zone.Zone.{Zone}
use Rattle.ddt_register.specs.declared.register.Register.{Register}
use Rattle.ddt_organisations.specs.Seam.Joined.{numbered, zone_text, zone_at, lacks_zone}
use Rattle.ddt_organisations.proofs.SeamLemmas.JoinLemmas.{both_ok}
use Rattle.ddt_organisations.proofs.seam.joined.joined_zones.Goals as goal

pub returns-clause-text : goal.returns-clause-text
returns-clause-text c =
    let own = c.as_slice-zones.ensures ∙ ap (λ (r : Register). r.zones) c.register.ensures.register in
    let other = c.as_slice-zones-2.ensures ∙ ap (λ (r : Register). r.zones) c.register-2.ensures.register in
    let all = c.in_ok-rows.ensures.text (λ _. true) (λ item answer h. search rules)
    ∙ ap (λ (rows : List Zone). map zone_text rows ++ map zone_text (filter (λ _. true) c.as_slice-zones.result.now)) c.new.ensures.items
    ∙ ap (map zone_text) (filter_everything c.as_slice-zones.result.now ∙ own) in
    IfOk-weaker c.appended-2.result _ _
    (λ rows made. made (lacks_zone c.args.ours.now) (λ item answer h.
    let told : (r : Register) → ((p : List ℕ) → get (slice_cmp nat_cmp) c.in_ok-known.known p ≡ zone_at r p) → answer ≡ lacks_zone r item = search (rules, tests) in
    told c.args.ours.now c.in_ok-known.ensures)
    ∙ ap (λ (front : List Zone). front ++ map zone_text (filter (lacks_zone c.args.ours.now) c.as_slice-zones-2.result.now)) all
    ∙ ap (λ (zs : List Zone). map zone_text c.args.ours.now.zones ++ map zone_text (filter (lacks_zone c.args.ours.now) zs)) other)
    c.appended-2.ensures.text

pub returns-clause-numbered : goal.returns-clause-numbered
returns-clause-numbered c =
    let none = ap (λ (rows : List Zone). numbered (c.args.before) (map (λ (row : Zone). row.row) rows)) c.new.ensures.items in
    both_ok c.appended-2.result _ _ _
    (λ rows made longer fits. made fits (c.in_ok-rows.ensures.numbered (omega (arith, longer, fits)) none))
    c.appended-2.ensures.numbered c.appended-2.ensures.longer
