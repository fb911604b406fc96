use Rattle.std.proofs.Common.{◌≡◌, ◌++◌, take}
use Rattle.ddt_asking.proofs.verdict.are_these.Given as goal

-- the locators are those of the servers so far, and then those that are left
abbrev pub invariant-loop-server : goal.invariant-loop-server
invariant-loop-server l = l.fn.locators ≡ take l.server-index l.servers ++ l.locators
