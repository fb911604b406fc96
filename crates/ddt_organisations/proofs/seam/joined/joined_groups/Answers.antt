use Rattle.std.proofs.Common.{◌≡◌, ℕ, Bool, true, List, [], ◌++◌, map, sym, ap, ◌∙◌, arith, rules}
use Rattle.std.specs.List.{filter}
use Rattle.std.proofs.lemmas.Result.{IfOk-weaker}
use borrow.Author.Tests.{tests}
use Rattle.std.specs.Ordering.{nat_cmp}
use Rattle.std.specs.Cmp.Lexicographic.{slice_cmp}
use Rattle.std.specs.BTreeMap.{get}
use Rattle.std.specs.Option.{option_map}
use Rattle.ddt_check.specs.Zones.{group_named}
use Rattle.ddt_path.specs.laws.Filter.{filter_everything}
use Rattle.ddt_register.specs.declared.group.Group.{Group}
use Rattle.ddt_register.specs.declared.register.Register.{Register}
use Rattle.ddt_organisations.specs.Seam.Joined.{numbered, group_text, servers_of, lacks_group}
use Rattle.ddt_organisations.proofs.SeamLemmas.JoinLemmas.{both_ok}
use Rattle.ddt_organisations.proofs.seam.joined.joined_groups.Goals as goal

pub returns-clause-text : goal.returns-clause-text
returns-clause-text c =
    let own = c.as_slice-groups.ensures ∙ ap (λ (r : Register). r.groups) c.register.ensures.register in
    let other = c.as_slice-groups-2.ensures ∙ ap (λ (r : Register). r.groups) c.register-2.ensures.register in
    let all = c.in_ok-rows.ensures.text (λ _. true) (λ item answer h. search rules)
    ∙ ap (λ (rows : List Group). map group_text rows ++ map group_text (filter (λ _. true) c.as_slice-groups.result.now)) c.new.ensures.items
    ∙ ap (map group_text) (filter_everything c.as_slice-groups.result.now ∙ own) in
    IfOk-weaker c.appended-2.result _ _
    (λ rows made. made (lacks_group c.args.ours.now) (λ item answer h.
    let told : (r : Register) → ((name : List ℕ) → get (slice_cmp nat_cmp) c.in_ok-known.known name ≡ option_map servers_of (group_named r name)) → answer ≡ lacks_group r item = search (rules, tests) in
    told c.args.ours.now c.in_ok-known.ensures)
    ∙ ap (λ (front : List Group). front ++ map group_text (filter (lacks_group c.args.ours.now) c.as_slice-groups-2.result.now)) all
    ∙ ap (λ (zs : List Group). map group_text c.args.ours.now.groups ++ map group_text (filter (lacks_group c.args.ours.now) zs)) other)
    c.appended-2.ensures.text

pub returns-clause-numbered : goal.returns-clause-numbered
returns-clause-numbered c =
    let none = ap (λ (rows : List Group). numbered (0) (map (λ (row : Group). row.row) rows)) c.new.ensures.items in
    both_ok c.appended-2.result _ _ _
    (λ rows made longer fits. made (omega (arith, fits)) (c.in_ok-rows.ensures.numbered (omega (arith, longer, fits)) none))
    c.appended-2.ensures.numbered c.appended-2.ensures.longer
