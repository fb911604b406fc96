use Rattle.std.proofs.Common.{◌≡◌, take, true}
use Rattle.std.specs.List.{list_all}
use Rattle.ddt_config.specs.Shaped.{is_authority_of}
use Rattle.ddt_config.proofs.shape.are_authorities_of.Given as goal

abbrev pub invariant-loop-authority : goal.invariant-loop-authority
invariant-loop-authority l = list_all (is_authority_of l.role) (take l.authority-index l.authorities) ≡ true
