use Rattle.std.proofs.Common.{◌+◌, List, take, sym, subst}
use Rattle.std.specs.BTreeMap.{get}
use Rattle.std.proofs.lemmas.List.{take_all}
use Rattle.ddt_register.specs.declared.group.Group.{Group}
use Rattle.ddt_review.specs.Warnings.Found.{IsServerRow, address_of, address_cmp}
use Rattle.ddt_review.proofs.WarningsLemmas.ServerLemmas.{servers_more}
use Rattle.ddt_review.proofs.warnings.servers.servers.Goals as goal

pub loop-group-preserved : goal.loop-group-preserved
loop-group-preserved c = λ k. subst (IsServerRow (take (c.loop-group.group-index + 1) c.args.groups.now) k) (sym (c.in_ok-add_locators.ensures k))
    (servers_more c.args.groups.now c.loop-group.group-index c.group-item.result c.loop-group-test.true c.group-item.is k
    (get address_cmp c.loop-group.rows (address_of k)) (c.loop-group.invariant k))

pub returns : goal.returns
returns c = λ k. subst (λ (groups : List Group). IsServerRow groups k (get address_cmp c.loop-group.rows (address_of k)))
    (take_all c.loop-group.group-index c.args.groups.now c.loop-group-test.false) (c.loop-group.invariant k)
