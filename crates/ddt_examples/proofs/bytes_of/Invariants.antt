use Rattle.std.proofs.Common.{◌≡◌, take}
use Rattle.ddt_examples.specs.Digits.{digits_in}
use Rattle.ddt_examples.proofs.bytes_of.Given as goal

abbrev pub invariant-loop-byte : goal.invariant-loop-byte
invariant-loop-byte l = l.digits.items ≡ digits_in (take l.byte-index l.fields)
