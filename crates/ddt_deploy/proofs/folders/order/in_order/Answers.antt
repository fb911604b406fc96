use Rattle.std.proofs.Common.{◌≡◌, true, List, sym, ap, subst}
use Rattle.ddt_config.specs.declared.authority.Authority.{Authority}
use Rattle.ddt_config.specs.Shaped.{is_shaped}
use Rattle.ddt_config.specs.Table.{Outline}
use Rattle.ddt_deploy.proofs.FoldersLemmas.AlikeLemmas.{settled, shape_kept}
use Rattle.ddt_deploy.proofs.folders.order.in_order.Goals as goal

pub invariant_of-result : goal.invariant_of-result
invariant_of-result c =
    let config = c.args.config in record {
      shaped = subst (λ (zs : List Authority). is_shaped config.role config.locators zs ≡ true)
          (sym (settled config.role config.locators config.authorities c.in_ok-ordered_each.field-0
          c.by_prefix-authorities.result config.shaped c.in_ok-ordered_each.ensures c.by_prefix-authorities.ensures))
          (shape_kept config.role config.locators config.authorities config.shaped);
    }

pub returns : goal.returns
returns c =
    let config = c.args.config in
    let with_authorities : List Authority → Outline = λ zs. record {
      name = config.name;
      role = config.role;
      locators = config.locators;
      authorities = zs;
    } in
    ap with_authorities (settled config.role config.locators config.authorities c.in_ok-ordered_each.field-0
    c.by_prefix-authorities.result config.shaped c.in_ok-ordered_each.ensures c.by_prefix-authorities.ensures)
