use Rattle.std.proofs.Common.{◌≡◌, ℕ, Bool, true, List, [], ◌++◌, map, sym, ap, ◌∙◌, arith, rules}
use Rattle.std.specs.List.{filter}
use Rattle.std.proofs.lemmas.Result.{IfOk-weaker}
use borrow.Author.Tests.{tests}
use Rattle.std.specs.Ordering.{nat_cmp}
use Rattle.std.specs.Cmp.Lexicographic.{slice_cmp}
use Rattle.std.specs.BTreeMap.{get}
use Rattle.std.specs.Option.{option_map}
use Rattle.ddt_path.specs.laws.Filter.{filter_everything}
use Rattle.ddt_register.specs.declared.site.Site.{Site}
use Rattle.ddt_register.specs.declared.register.Register.{Register}
use Rattle.ddt_organisations.specs.Seam.Joined.{numbered, site_text, site_at, lacks_site}
use Rattle.ddt_organisations.proofs.SeamLemmas.JoinLemmas.{both_ok}
use Rattle.ddt_organisations.proofs.seam.joined.joined_sites.Goals as goal

pub returns-clause-text : goal.returns-clause-text
returns-clause-text c =
    let own = c.as_slice-sites.ensures ∙ ap (λ (r : Register). r.sites) c.register.ensures.register in
    let other = c.as_slice-sites-2.ensures ∙ ap (λ (r : Register). r.sites) c.register-2.ensures.register in
    let all = c.in_ok-rows.ensures.text (λ _. true) (λ item answer h. search rules)
    ∙ ap (λ (rows : List Site). map site_text rows ++ map site_text (filter (λ _. true) c.as_slice-sites.result.now)) c.new.ensures.items
    ∙ ap (map site_text) (filter_everything c.as_slice-sites.result.now ∙ own) in
    IfOk-weaker c.appended-2.result _ _
    (λ rows made. made (lacks_site c.args.ours.now) (λ item answer h.
    let told : (r : Register) → ((p : List ℕ) → get (slice_cmp nat_cmp) c.in_ok-known.known p ≡ option_map (λ (s : Site). s.etrs) (site_at r p)) → answer ≡ lacks_site r item = search (rules, tests) in
    told c.args.ours.now c.in_ok-known.ensures)
    ∙ ap (λ (front : List Site). front ++ map site_text (filter (lacks_site c.args.ours.now) c.as_slice-sites-2.result.now)) all
    ∙ ap (λ (zs : List Site). map site_text c.args.ours.now.sites ++ map site_text (filter (lacks_site c.args.ours.now) zs)) other)
    c.appended-2.ensures.text

pub returns-clause-numbered : goal.returns-clause-numbered
returns-clause-numbered c =
    let none = ap (λ (rows : List Site). numbered (c.args.before) (map (λ (row : Site). row.row) rows)) c.new.ensures.items in
    both_ok c.appended-2.result _ _ _
    (λ rows made longer fits. made fits (c.in_ok-rows.ensures.numbered (omega (arith, longer, fits)) none))
    c.appended-2.ensures.numbered c.appended-2.ensures.longer
