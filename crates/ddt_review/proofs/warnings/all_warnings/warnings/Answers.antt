use Rattle.std.proofs.Common.{Bool, ◌||◌, ◌==◌, List, [], rules, sym, ap, ◌∙◌, subst}
use Rattle.std.specs.Prelude.{◌&&◌, All}
use Rattle.std.proofs.lemmas.List.Elements.{All-nil, All-same}
use Rattle.std.proofs.lemmas.List.Sorted.{answers_always, list_any-IsPermutation, All-permutation}
use Rattle.ddt_path.specs.declared.locator.Locator.{Locator}
use Rattle.ddt_register.specs.declared.register.Register.{Register}
use Rattle.ddt_register.specs.declared.group.Group.{Group}
use Rattle.ddt_register.specs.declared.site.Site.{Site}
use Rattle.ddt_register.specs.declared.zone.Zone.{Zone}
use Rattle.ddt_check.specs.Rules.{item_at}
use Rattle.ddt_review.specs.declared.warnings.warning.Warning.{Warning}
use Rattle.ddt_review.specs.Warnings.Names.{kind_number}
use Rattle.ddt_review.specs.Warnings.Findings.{kind_of, is_same_kind, tells}
use Rattle.ddt_review.specs.Warnings.Index.{register_of, resolvers_of}
use Rattle.ddt_review.specs.Warnings.Named.{IsTrueWarning}
use Rattle.ddt_review.specs.Warnings.Warnings.{group_has, site_has, zone_has}
use Rattle.ddt_review.proofs.WarningsLemmas.TellLemmas.{three, warns_by_lists}
use Rattle.ddt_review.proofs.warnings.all_warnings.warnings.Goals as goal

pub returns-clause-each : goal.returns-clause-each
returns-clause-each c = λ kind row.
    let r = c.args.accepted.now in
    let q = register_of c.in_ok-index.index in
    let known = resolvers_of c.in_ok-index.index in
    let test = λ (w : Warning). w.row == row && is_same_kind (kind_of w.finding) kind in
    let gs : Bool = item_at (λ (g : Group). g.row) (group_has q kind) c.as_slice.result.now row in
    let ss : Bool = item_at (λ (s : Site). s.row) (site_has q known kind) c.as_slice-2.result.now row in
    let zs : Bool = item_at (λ (z : Zone). z.row) (zone_has q kind) c.as_slice-3.result.now row in
    let same = c.register-register.ensures.register in
    sym (list_any-IsPermutation test _ _ c.sort_unstable_by_key.ensures.permutation)
    ∙ c.in_ok-tell-3.ensures.each kind row
    ∙ ap (λ (b : Bool). b || zs) (c.in_ok-tell-2.ensures.each kind row
    ∙ ap (λ (b : Bool). b || ss) (c.in_ok-tell.ensures.each kind row
    ∙ ap (λ (ws : List Warning). tells ws kind row || gs) c.new-told.ensures.items))
    ∙ three gs ss zs
    ∙ warns_by_lists r q c.args.resolvers.now known c.as_slice.result.now c.as_slice-2.result.now c.as_slice-3.result.now c.in_ok-index.ensures.register c.in_ok-index.ensures.resolvers
    (c.as_slice.ensures ∙ ap (λ (s : Register). s.groups) same) (c.as_slice-2.ensures ∙ ap (λ (s : Register). s.sites) same)
    (c.as_slice-3.ensures ∙ ap (λ (s : Register). s.zones) same) kind row

pub returns-clause-named : goal.returns-clause-named
returns-clause-named c =
    let r = c.args.accepted.now in
    let q = register_of c.in_ok-index.index in
    let known = resolvers_of c.in_ok-index.index in
    let none : All (IsTrueWarning q known) c.new-told.result.items =
    All-same (IsTrueWarning q known) _ [] c.new-told.ensures.items (All-nil (IsTrueWarning q known)) in
    subst (λ (s : Register). All (IsTrueWarning s c.args.resolvers.now) c.sort_unstable_by_key.new.self.items)
    c.in_ok-index.ensures.register
    (subst (λ (ls : List Locator). All (IsTrueWarning q ls) c.sort_unstable_by_key.new.self.items)
    c.in_ok-index.ensures.resolvers
    (All-permutation (IsTrueWarning q known) _ _ c.sort_unstable_by_key.ensures.permutation
    (c.in_ok-tell-3.ensures.named (c.in_ok-tell-2.ensures.named (c.in_ok-tell.ensures.named none)))))

pub returns-clause-order : goal.returns-clause-order
returns-clause-order c = c.sort_unstable_by_key.ensures.sorted (λ (w : Warning). (w.row, kind_number (kind_of w.finding)))
    (answers_always _ _ _ (λ f a r g h. search rules))
