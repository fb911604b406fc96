use Rattle.std.proofs.Common.{arith, ◌∙◌}
use Rattle.ddt_path.specs.laws.Prefix.{host_path, host_tail}
use Rattle.ddt_path.specs.laws.PathTest.{is_path-xeid_path, identifier_of}
use Rattle.ddt_path.proofs.prefix.Prefix.host.Goals as goal

pub of_form-requires : goal.of_form-requires
of_form-requires c = (omega arith, rw (← c.width-len.ensures.width) c.width-len.ensures.number, omega arith, rw c.width-len.ensures.width (host_tail c.args.x.address))

pub returns-clause-whole : goal.returns-clause-whole
returns-clause-whole c = c.of_form.ensures ∙ rw c.width-len.ensures.width (host_path c.args.x)

pub returns-clause-passes : goal.returns-clause-passes
returns-clause-passes c = is_path-xeid_path c.args.x

pub returns-clause-only : goal.returns-clause-only
returns-clause-only c = λ ds e. identifier_of ds e
