use Rattle.std.proofs.Common.{◌≤◌, ◌∙◌, sym, length, arith}
use Rattle.ddt_trie.proofs.BranchLemmas.{nothing_left, goes_low, goes_high}
use Rattle.ddt_trie.proofs.tree.branch_at.Goals as goal

pub returns-in-None : goal.returns-in-None
returns-in-None c = nothing_left c.args.prefix c.args.at c.requires (sym c.digit.ensures ∙ c.in-None.is)

pub returns-in-Some-eq0 : goal.returns-in-Some-eq0
returns-in-Some-eq0 c =
    let le : length c.args.prefix ≤ 161 = omega (arith, c.len-len.ensures.digits, c.len-len.ensures.bound) in
    goes_low c.args.prefix c.args.at c.in-Some-eq0.field-0 c.digit.result c.form-form.ensures.passes le c.digit.ensures
    c.in-Some-eq0.is c.in-Some-eq0.field-0-test

pub returns-in-Some : goal.returns-in-Some
returns-in-Some c =
    let le : length c.args.prefix ≤ 161 = omega (arith, c.len-len.ensures.digits, c.len-len.ensures.bound) in
    goes_high c.args.prefix c.args.at c.in-Some.field-0 c.digit.result c.form-form.ensures.passes le c.digit.ensures
    c.in-Some.is c.in-Some.field-0-test.1
