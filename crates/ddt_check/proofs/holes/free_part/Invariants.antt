use Rattle.std.proofs.Common.{◌≡◌, length}
use Rattle.ddt_path.specs.Path.{xeid_path}
use Rattle.ddt_path.specs.Free.{overlaps_none}
use Rattle.ddt_check.specs.Assignment.{prefixes_inside}
use Rattle.ddt_path.specs.laws.Part.{first_part}
use Rattle.ddt_check.proofs.holes.free_part.Given as goal

abbrev pub invariant-loop-len : goal.invariant-loop-len
invariant-loop-len l =
    let test = overlaps_none (prefixes_inside l.register l.authority l.inside) in
    first_part test (xeid_path l.x) l.len ≡ first_part test (xeid_path l.x) (length l.authority)
