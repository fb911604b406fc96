use Rattle.std.proofs.Common.{ℕ, refl, sym, ap, subst, ◌∙◌}
use Rattle.std.specs.BTreeMap.{get}
use Rattle.ddt_review.specs.Warnings.Found.{IsServerRow, address_cmp}
use Rattle.ddt_review.specs.Warnings.Index.{register_of}
use Rattle.ddt_review.proofs.WarningsLemmas.ServerLemmas.{server_some}
use Rattle.ddt_review.proofs.warnings.of_sites.etr_is_server.Goals as goal

pub returns-clause-found : goal.returns-clause-found
returns-clause-found c =
    let groups = (register_of c.args.index.now).groups in
    let l = c.args.etr in (
      server_some groups l c.in_ok-group.field-0.now (subst (IsServerRow groups l)
          (sym (c.in_ok-group.ensures.value ∙ ap (λ (a : ℕ × ℕ). get address_cmp c.args.index.now.servers a) c.address.ensures))
          (c.requires.servers l)),
      refl,
    )

pub returns-clause-named : goal.returns-clause-named
returns-clause-named c =
    let groups = (register_of c.args.index.now).groups in
    let l = c.args.etr in (
      c.in_ok-group.field-0.now,
      subst (IsServerRow groups l)
          (sym (c.in_ok-group.ensures.value ∙ ap (λ (a : ℕ × ℕ). get address_cmp c.args.index.now.servers a) c.address.ensures))
          (c.requires.servers l),
      refl,
    )
