use Rattle.std.proofs.Common.{◌≡◌, ◌≤◌, take}
use Rattle.std.specs.Str.Parse.{AllDigits, digits_value}
use Rattle.ddt_text.proofs.quad.read_number.Given as goal

abbrev pub invariant-loop-byte : goal.invariant-loop-byte
invariant-loop-byte l =
    (l.len ≡ l.byte-index) × AllDigits 10 (take l.len l.text) × (l.value ≡ digits_value 10 (take l.len l.text)) × (l.value ≤ 255)
