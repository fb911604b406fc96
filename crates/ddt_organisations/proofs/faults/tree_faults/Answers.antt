use Rattle.ddt_organisations.proofs.TreeLemmas.{tree_so, followed_so}
use Rattle.ddt_organisations.proofs.faults.tree_faults.Goals as goal

pub returns-clause-tree : goal.returns-clause-tree
returns-clause-tree c = tree_so c.args.all.now c.all_faults.result c.all_faults.ensures

pub returns-clause-followed : goal.returns-clause-followed
returns-clause-followed c = followed_so c.walks_end_in_charge.ensures c.someone_is_in_charge.ensures c.args.all.now
    c.all_faults.result c.all_faults.ensures
