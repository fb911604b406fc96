use Rattle.ddt_text.proofs.NumberLemmas.{AreDigitsTo}
use Rattle.ddt_text.proofs.number.read_digits.Given as goal

abbrev pub invariant-loop-byte : goal.invariant-loop-byte
invariant-loop-byte l = AreDigitsTo l.text l.most l.byte-index l.number
