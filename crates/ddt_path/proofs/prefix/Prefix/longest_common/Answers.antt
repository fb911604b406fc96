use Rattle.ddt_path.specs.Path.{xeid_path}
use Rattle.ddt_path.specs.laws.Front.{common_covers, common_is_longest}
use Rattle.ddt_path.specs.laws.Prefix.{common_of_fronts}
use Rattle.ddt_path.proofs.prefix.Prefix.longest_common.Goals as goal

pub returns-clause-digits : goal.returns-clause-digits
returns-clause-digits c =
    rw (c.cut.ensures, c.min-2.ensures, c.min.ensures, c.shared-shared.ensures, c.len.ensures.digits, c.len-2.ensures.digits)
    (common_of_fronts c.args.self c.args.other (xeid_path c.inner-x.result) (xeid_path c.inner.result) c.inner-x.ensures.front c.inner.ensures.front)

pub returns-clause-both : goal.returns-clause-both
returns-clause-both c = rw (returns-clause-digits c) (common_covers c.args.self c.args.other)

pub returns-clause-longest : goal.returns-clause-longest
returns-clause-longest c = λ front a b. rw (returns-clause-digits c) (common_is_longest c.args.self c.args.other front a b)
