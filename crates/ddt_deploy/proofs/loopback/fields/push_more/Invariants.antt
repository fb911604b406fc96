use Rattle.std.proofs.Common.{◌≡◌, ◌++◌, take}
use Rattle.ddt_deploy.specs.Loopback.Records.{more_locators}
use Rattle.ddt_deploy.proofs.loopback.fields.push_more.Given as goal

abbrev pub invariant-loop-locator : goal.invariant-loop-locator
invariant-loop-locator l = l.text.items ≡ l.fn.text.items ++ more_locators (take l.locator-index l.locators)
